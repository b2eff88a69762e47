-- The nodes get their lists, from the last one to the first.
use Rattle.std.proofs.Common.{◌≡◌, ◌≢◌, ◌∙◌, ℕ, ◌+◌, ◌<◌, ◌≤◌, zero, suc, List, [], ◌∷◌, ◌++◌, length, set, get_or, slice_index_or, ◌⊎◌, inl, inr, arith, refl, sym, ap, subst}
use Rattle.std.proofs.lemmas.Bool.{cases_eq}
use Rattle.std.proofs.lemmas.List.{length-set, length_push, get_or-set_same, get_or-set_other, get_or_push}
use Rattle.if1_graph.specs.declared.graph.Node.{Node}
use Rattle.take_marks.specs.Applied.{with_before, AreOnce, AreNodesListed, IsListedAt}

-- what is left of a list from its end
pub record IsLeft (all left : List (List ℕ)) : Type 0 where
  pub short : length left ≤ length all
  pub are : (k : ℕ) → k < length left → slice_index_or left k [] ≡ slice_index_or all k []

pub all-left : (all : List (List ℕ)) → IsLeft all all
all-left all = record { short = omega arith; are = λ k h. refl }

old-at : {A : Type 0} (xs ys : List A) (k : ℕ) (d : A) → k < length xs → get_or (xs ++ ys) k d ≡ get_or xs k d
old-at [] ys k d h = absurd (omega (arith, h))
old-at (x ∷ xs) ys zero d h = refl
old-at (x ∷ xs) ys (suc k) d h = old-at xs ys k d (omega (arith, h))

pub one-less : (all left less : List (List ℕ)) (last : List ℕ) → IsLeft all left → left ≡ less ++ last ∷ [] → IsLeft all less × (last ≡ slice_index_or all (length less) []) × (length left ≡ length less + 1)
one-less all left less last was e =
    let n : length left ≡ length less + 1 = ap length e ∙ length_push less last in (
      record {
        short = omega (arith, was.short, n);
        are = λ k h. sym (old-at less (last ∷ []) k [] h) ∙ (ap (λ xs. slice_index_or xs k []) (sym e) ∙ was.are k (omega (arith, h, n)));
      },
      sym (get_or_push less last [] (length less) refl) ∙ (ap (λ xs. slice_index_or xs (length less) []) (sym e) ∙ was.are (length less) (omega (arith, n))),
      n,
    )

pub none-listed : (old : List Node) (lists : List (List ℕ)) (n : ℕ) → length old ≤ n → AreNodesListed old lists n old
none-listed old lists n h = record { fit = refl; done = λ k le lt. absurd (omega (arith, h, le, lt)); rest = λ k d lt. refl }

pub one-listed : (old now new : List Node) (lists : List (List ℕ)) (m n : ℕ) (list : List ℕ) → AreNodesListed old lists m now → m ≡ n + 1 → n < length old → list ≡ slice_index_or lists n [] → IsListedAt now n list new → AreNodesListed old lists n new
one-listed old now new lists m n list was e h is at =
    record {
      fit = fits;
      done = λ k le lt. by k le lt (cases_eq k n);
      rest = λ k d lt. other k d (omega (arith, lt)) ∙ was.rest k d (omega (arith, lt, e));
    }
  where
    set-is : (d : Node) → new ≡ set now n (with_before (slice_index_or now n d) at.0)
    set-is d = at.2 d

    fits : length new ≡ length old
    fits = by-nodes old h (λ d. ap length (set-is d) ∙ (length-set now n (with_before (slice_index_or now n d) at.0) ∙ was.fit))
      where
        by-nodes : (old : List Node) → n < length old → ((d : Node) → length new ≡ length old) → length new ≡ length old
        by-nodes [] h f = absurd (omega (arith, h))
        by-nodes (d ∷ old) h f = f d

    other : (k : ℕ) (d : Node) → k ≢ n → slice_index_or new k d ≡ slice_index_or now k d
    other k d ne = ap (λ xs. slice_index_or xs k d) (set-is d) ∙ get_or-set_other now n k (with_before (slice_index_or now n d) at.0) d ne

    here-is : (d : Node) → slice_index_or new n d ≡ with_before (slice_index_or old n d) at.0
    here-is d =
        ap (λ xs. slice_index_or xs n d) (set-is d)
        ∙ (get_or-set_same now n (with_before (slice_index_or now n d) at.0) d (omega (arith, h, was.fit)) ∙ ap (λ x. with_before x at.0) (was.rest n d (omega (arith, e))))

    by : (k : ℕ) → n ≤ k → k < length old → (k ≡ n) ⊎ (k ≢ n) → (ls : List ℕ) × AreOnce (slice_index_or lists k []) ls × ((d : Node) → slice_index_or new k d ≡ with_before (slice_index_or old k d) ls)
    by k le lt (inl same) = (
      at.0,
      subst (λ xs. AreOnce xs at.0) (is ∙ ap (λ j. slice_index_or lists j []) (sym same)) at.1,
      λ d. subst (λ j. slice_index_or new j d ≡ with_before (slice_index_or old j d) at.0) (sym same) (here-is d),
    )
    by k le lt (inr ne) =
        let r = was.done k (omega (arith, le, ne, e)) lt in
        (r.0, r.1, λ d. other k d ne ∙ r.2 d)
