-- The slices for so many workers are all iterations in order.
use Rattle.std.proofs.Common.{◌≡◌, ℕ, suc, ◌+◌, ◌*◌, ◌-◌, ◌<◌, ◌≤◌, List, [], ◌∷◌, ◌++◌, take, drop, length, map, refl, sym, ap, ◌∙◌, arith}
use Rattle.std.specs.Prelude.{min}
use Rattle.std.proofs.lemmas.List.{take-append-drop, drop-drop, drop_all}
use Rattle.forall_slicer.specs.declared.Slice.{Slice}
use Rattle.forall_slicer.specs.Slices.{slice_count, slices, Joins}
use Rattle.forall_slicer.proofs.Joining.{all_join}
use Rattle.graph_meaning.specs.Carried.{Carried}
use Rattle.graph_meaning.specs.Demand.{flatten}
use Rattle.run_states.specs.Sliced.{iterations_of, sliced, AreSlicesCuts}

append-none : {A : Type 0} (xs : List A) → xs ++ [] ≡ xs
append-none [] = refl
append-none (x ∷ xs) = ap (λ z. x ∷ z) (append-none xs)

append-same : {A : Type 0} (xs ys zs : List A) → xs ++ (ys ++ zs) ≡ (xs ++ ys) ++ zs
append-same [] ys zs = refl
append-same (x ∷ xs) ys zs = ap (λ z. x ∷ z) (append-same xs ys zs)

apart : (a b : ℕ) → a < b → a + (b - a) ≡ b
apart a b lt = omega (arith, lt)

-- what is left from the first slice on is the slices, and what is left behind the last one
left-over : (rows : List (List Carried)) (a b : ℕ) (ss : List Slice) → Joins a b ss → drop a rows ≡ flatten (map (iterations_of rows) ss) ++ drop b rows
left-over rows a b [] e = ap (λ n. drop n rows) e
left-over rows a b (s ∷ ss) j =
    let here : a ≡ s.from = sym j.0 in
    ap (λ z. drop z rows) here
    ∙ (sym (take-append-drop (s.to - s.from) (drop s.from rows))
    ∙ (ap (λ z. take (s.to - s.from) (drop s.from rows) ++ z) (drop-drop (s.to - s.from) s.from rows ∙ (ap (λ z. drop z rows) (apart s.from s.to j.1) ∙ left-over rows s.to b ss j.2))
    ∙ append-same (take (s.to - s.from) (drop s.from rows)) (flatten (map (iterations_of rows) ss)) (drop b rows)))

at-most : (n m : ℕ) → min n m ≤ n
at-most n m = omega arith

not-none : (n m : ℕ) → 0 < m → 0 < n → 0 < min n m
not-none n m a b = omega (arith, a, b)

joined : (rows : List (List Carried)) (workers : ℕ) → 0 < workers → Joins 0 (length rows) (slices (length rows) workers)
joined rows workers some = all_join (length rows) (slice_count (length rows) workers) (at-most (length rows) (4 * workers)) (not-none (length rows) (4 * workers) (omega (arith, some)))

first-slice : (f : Slice → List (List Carried)) (n : ℕ) (ss : List Slice) → Joins 0 (suc n) ss → (slice : List (List Carried)) × (others : List (List (List Carried))) × (map f ss ≡ slice ∷ others)
first-slice f n [] e = absurd (omega (arith, e))
first-slice f n (s ∷ ss) j = (f s, map f ss, refl)

pub slices-cut : AreSlicesCuts
slices-cut workers some =
    record {
      joins = λ rows. sym
          (left-over rows 0 (length rows) (slices (length rows) workers) (joined rows workers some)
          ∙ (ap (λ z. flatten (sliced workers rows) ++ z) (drop_all (length rows) rows (omega arith))
          ∙ append-none (flatten (sliced workers rows))));
      some = λ row rows. first-slice (iterations_of (row ∷ rows)) (length rows) (slices (length (row ∷ rows)) workers) (joined (row ∷ rows) workers some);
    }
