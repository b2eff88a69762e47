-- Loop names that are given the values of the names of a turn, the last one first.
use Rattle.std.proofs.Common.{◌≡◌, ◌∙◌, refl, sym, ap, ℕ, zero, suc, ◌+◌, ◌-◌, ◌<◌, ◌≤◌, List, [], ◌∷◌, ◌++◌, take, drop, set, length, arith, Option, Some, None}
use Rattle.std.specs.Prelude.{slice_get, unwrap_or}
use Rattle.std.proofs.lemmas.List.{take-append-drop, set-append_left, set_past, length-take, length-drop, length-set, length-append, take-append-le, drop-append-le, drop_all, append_assoc, append-nil}
use Rattle.std.proofs.Math.Seq.{take-append_seam, drop-append_seam}
use Rattle.flow_value.specs.declared.value.Val.{Val}
use Rattle.meaning.specs.Meaning.{renew, renew_one}
use Rattle.source_meaning.specs.Loops.{renewal}

module _ {X : Type 0} where
  -- a list in three parts
  pub three_parts : (m h : ℕ) (xs : List X) → m ≤ h → take m xs ++ (drop m (take h xs) ++ drop h xs) ≡ xs
  three_parts zero h xs le = take-append-drop h xs
  three_parts (suc m) zero xs le = absurd (omega arith)
  three_parts (suc m) (suc h) [] le = refl
  three_parts (suc m) (suc h) (x ∷ xs) le = ap (λ k. x ∷ k) (three_parts m h xs (omega arith))

  set_there : (m h p i : ℕ) (xs : List X) (v : X) → i ≡ m + p → m ≤ h → h ≤ length xs → p < h - m
      → set xs i v ≡ take m xs ++ (set (drop m (take h xs)) p v ++ drop h xs)
  set_there zero h p i xs v e le there lt =
      let q : i ≡ p = omega arith in
      let n : p < length (take h xs) = simp length-take (omega arith) in
      ap (λ k. set k i v) (sym (take-append-drop h xs)) ∙ ap (λ k. set (take h xs ++ drop h xs) k v) q ∙ set-append_left (take h xs) (drop h xs) p v n
  set_there (suc m) zero p i xs v e le there lt = absurd (omega arith)
  set_there (suc m) (suc h) p i [] v e le there lt = absurd (omega arith)
  set_there (suc m) (suc h) p zero (x ∷ xs) v e le there lt = absurd (omega arith)
  set_there (suc m) (suc h) p (suc i) (x ∷ xs) v e le there lt = ap (λ k. x ∷ k) (set_there m h p i xs v (omega arith) (omega arith) (omega arith) (omega arith))

  -- the middle part is given a value
  pub set_middle : (m h p : ℕ) (xs : List X) (v : X) → m ≤ h → h ≤ length xs → p < h - m
      → set xs (m + p) v ≡ take m xs ++ (set (drop m (take h xs)) p v ++ drop h xs)
  set_middle m h p xs v le there lt = set_there m h p (m + p) xs v refl le there lt

  -- it has no such place
  pub set_outside : (m h p : ℕ) (xs : List X) (v : X) → m ≤ h → h ≤ length xs → h - m ≤ p
      → xs ≡ take m xs ++ (set (drop m (take h xs)) p v ++ drop h xs)
  set_outside m h p xs v le there out =
      let n : length (drop m (take h xs)) ≤ p = simp (length-drop, length-take) (omega arith) in
      sym (ap (λ k. take m xs ++ (k ++ drop h xs)) (set_past (drop m (take h xs)) p v n) ∙ three_parts m h xs le)

  -- the three parts of a list that is put together of them
  first_part : (m h : ℕ) (xs l : List X) → m ≤ h → h ≤ length xs → take m (take m xs ++ (l ++ drop h xs)) ≡ take m xs
  first_part m h xs l le there =
      let n : length (take m xs) ≡ m = simp length-take (omega arith) in
      ap (λ k. take k (take m xs ++ (l ++ drop h xs))) (sym n) ∙ take-append_seam (take m xs) (l ++ drop h xs)

  first_two : (m h : ℕ) (xs l : List X) → m ≤ h → h ≤ length xs → length l ≡ h - m → length (take m xs ++ l) ≡ h
  first_two m h xs l le there n = simp (length-append, length-take) (omega arith)

  last_part : (m h : ℕ) (xs l : List X) → m ≤ h → h ≤ length xs → length l ≡ h - m → drop h (take m xs ++ (l ++ drop h xs)) ≡ drop h xs
  last_part m h xs l le there n =
      ap (λ k. drop h k) (sym (append_assoc (take m xs) l (drop h xs)))
      ∙ ap (λ k. drop k ((take m xs ++ l) ++ drop h xs)) (sym (first_two m h xs l le there n))
      ∙ drop-append_seam (take m xs ++ l) (drop h xs)

  middle_part : (m h : ℕ) (xs l : List X) → m ≤ h → h ≤ length xs → length l ≡ h - m → drop m (take h (take m xs ++ (l ++ drop h xs))) ≡ l
  middle_part m h xs l le there n =
      let k : length (take m xs) ≡ m = simp length-take (omega arith) in
      ap (λ k. drop m (take h k)) (sym (append_assoc (take m xs) l (drop h xs)))
      ∙ ap (λ k. drop m (take k ((take m xs ++ l) ++ drop h xs))) (sym (first_two m h xs l le there n))
      ∙ ap (λ k. drop m k) (take-append_seam (take m xs ++ l) (drop h xs))
      ∙ ap (λ k. drop k (take m xs ++ l)) (sym k)
      ∙ drop-append_seam (take m xs) l

renew_nothing : (ds : List (Option ℕ)) (l : List Val) → renew ds [] l ≡ l
renew_nothing [] l = refl
renew_nothing (d ∷ ds) l = refl

-- the last name of a turn renews first
pub renew_end : (ds : List (Option ℕ)) (vs : List Val) (v : Val) (l : List Val)
    → renew ds (vs ++ v ∷ []) l ≡ renew ds vs (renew_one (unwrap_or (slice_get ds (length vs)) None) v l)
renew_end [] [] v l = refl
renew_end [] (w ∷ vs) v l = refl
renew_end (d ∷ ds) [] v l = ap (renew_one d v) (renew_nothing ds l)
renew_end (d ∷ ds) (w ∷ vs) v l = ap (renew_one d w) (renew_end ds vs v l)

length-renew_one : (d : Option ℕ) (v : Val) (l : List Val) → length (renew_one d v l) ≡ length l
length-renew_one None v l = refl
length-renew_one (Some x) v l = length-set l x v

-- the names of a turn with one more at the end
more_names : (m h : ℕ) (ds : List (Option ℕ)) (ys : List Val) (v : Val) → m ≤ h → h ≤ length ys
    → renewal ds m h (ys ++ v ∷ []) ≡ take m ys ++ renew ds (drop h ys ++ v ∷ []) (drop m (take h ys))
more_names m h ds ys v le there =
    let a : take m (ys ++ v ∷ []) ≡ take m ys = take-append-le m ys (v ∷ []) (omega arith) in
    let b : take h (ys ++ v ∷ []) ≡ take h ys = take-append-le h ys (v ∷ []) there in
    let c : drop h (ys ++ v ∷ []) ≡ drop h ys ++ v ∷ [] = drop-append-le h ys (v ∷ []) there in
    ap (λ k. k ++ renew ds (drop h (ys ++ v ∷ [])) (drop m (take h (ys ++ v ∷ [])))) a
    ∙ ap (λ k. take m ys ++ renew ds k (drop m (take h (ys ++ v ∷ [])))) c
    ∙ ap (λ k. take m ys ++ renew ds (drop h ys ++ v ∷ []) (drop m k)) b

module _ (m h : ℕ) (ds : List (Option ℕ)) (ys new : List Val) (v : Val) (o : Option ℕ) (le : m ≤ h) (there : h ≤ length ys) (is : new ≡ take m ys ++ (renew_one o v (drop m (take h ys)) ++ drop h ys)) where
  middle_length : length (renew_one o v (drop m (take h ys))) ≡ h - m
  middle_length = length-renew_one o v (drop m (take h ys)) ∙ simp (length-drop, length-take) (omega arith)

  -- a name is taken off, and renews where it renews a loop name
  pub renewed_one : o ≡ unwrap_or (slice_get ds (length ys - h)) None → renewal ds m h new ≡ renewal ds m h (ys ++ v ∷ [])
  renewed_one e =
      let l : List Val = renew_one o v (drop m (take h ys)) in
      let a : take m new ≡ take m ys = ap (take m) is ∙ first_part m h ys l le there in
      let b : drop h new ≡ drop h ys = ap (drop h) is ∙ last_part m h ys l le there middle_length in
      let c : drop m (take h new) ≡ l = ap (λ k. drop m (take h k)) is ∙ middle_part m h ys l le there middle_length in
      let p : length (drop h ys) ≡ length ys - h = length-drop h ys in
      let f : unwrap_or (slice_get ds (length (drop h ys))) None ≡ o = ap (λ k. unwrap_or (slice_get ds k) None) p ∙ sym e in
      ap (λ k. k ++ renew ds (drop h new) (drop m (take h new))) a
      ∙ ap (λ k. take m ys ++ renew ds k (drop m (take h new))) b
      ∙ ap (λ k. take m ys ++ renew ds (drop h ys) k) c
      ∙ ap (λ k. take m ys ++ renew ds (drop h ys) (renew_one k v (drop m (take h ys)))) (sym f)
      ∙ ap (λ k. take m ys ++ k) (sym (renew_end ds (drop h ys) v (drop m (take h ys))))
      ∙ sym (more_names m h ds ys v le there)

  pub length_renewed : length new ≡ length ys
  length_renewed = let n : length (renew_one o v (drop m (take h ys))) ≡ h - m = middle_length in ap length is ∙ simp (length-append, length-take, length-drop) (omega arith)

-- no name is left of the turn
pub all_taken_off : (m h : ℕ) (ds : List (Option ℕ)) (xs : List Val) → m ≤ h → length xs ≤ h → renewal ds m h xs ≡ xs
all_taken_off m h ds xs le few =
    let d : drop h xs ≡ [] = drop_all h xs few in
    ap (λ k. take m xs ++ renew ds k (drop m (take h xs))) d
    ∙ ap (λ k. take m xs ++ k) (renew_nothing ds (drop m (take h xs)) ∙ sym (append-nil (drop m (take h xs))))
    ∙ ap (λ k. take m xs ++ (drop m (take h xs) ++ k)) (sym d)
    ∙ three_parts m h xs le
