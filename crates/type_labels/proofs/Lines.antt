-- The line of the next entry, behind those before it.
use Rattle.std.proofs.Common.{◌≡◌, ℕ, zero, suc, ◌+◌, List, [], ◌∷◌, ◌++◌, Some, drop, slice_get, sym, ap, ◌∙◌, arith, append_assoc}
use Rattle.if1_graph.specs.declared.graph.TypeEntry.{TypeEntry}
use Rattle.lowering.specs.Types.{entry}
use Rattle.type_labels.specs.Keys.{entries_of}
use Rattle.type_labels.specs.Lines.{line_of, lines_from}

drop-at : {A : Type 0} (xs : List A) (i : ℕ) (x : A) → slice_get xs i ≡ Some x → drop i xs ≡ x ∷ drop (suc i) xs
drop-at [] i x e = absurd cc
drop-at (y ∷ xs) zero x e = ap (λ z. z ∷ xs) (same e)
  where
    same : Some y ≡ Some x → y ≡ x
    same e = cc
drop-at (y ∷ xs) (suc i) x e = drop-at xs i x e

pub lines-more : {K : Type 0} (name : K → List ℕ) (keys : List (ℕ × ℕ × ℕ × K)) (i : ℕ) (k : ℕ × ℕ × ℕ × K) (lines more : List TypeEntry) (x : TypeEntry) (whole : List TypeEntry)
    → slice_get keys i ≡ Some k → lines ++ lines_from (suc i) (entries_of name (drop i keys)) ≡ whole → x ≡ line_of (i + 1) (entry k.0 k.1 k.2 (name k.3)) → more ≡ lines ++ x ∷ []
    → more ++ lines_from (suc (i + 1)) (entries_of name (drop (i + 1) keys)) ≡ whole
lines-more name keys i k lines more x whole there e is m =
    let next : suc i ≡ i + 1 = omega arith in
    let rest = lines_from (suc (i + 1)) (entries_of name (drop (i + 1) keys)) in
    let step : lines_from (suc i) (entries_of name (drop i keys)) ≡ line_of (i + 1) (entry k.0 k.1 k.2 (name k.3)) ∷ rest =
    ap (λ l. lines_from (suc i) (entries_of name l)) (drop-at keys i k there)
    ∙ ap (λ n. line_of n (entry k.0 k.1 k.2 (name k.3)) ∷ lines_from (suc n) (entries_of name (drop n keys))) next in
    ap (λ l. l ++ rest) m ∙ (append_assoc lines (x ∷ []) rest ∙ (ap (λ l. lines ++ l) (ap (λ y. y ∷ rest) is ∙ sym step) ∙ e))
