-- The edges into a node, where edges stand in order, lie between two places.
use Rattle.std.proofs.Common.{◌≡◌, ℕ, zero, suc, Bool, true, false, List, [], ◌∷◌, take, drop, length, get_or, if◌then◌else◌, inl, inr, refl, ap, ◌∙◌, arith}
use Rattle.std.specs.Prelude.{filter, ◌==◌, nat_lt, nat_le}
use Rattle.std.specs.List.{AllWithin}
use Rattle.std.specs.List.Sorted.{IsPartitionPoint}
use Rattle.std.proofs.lemmas.Bool.{ltb-true, leb-false}
use Rattle.std.proofs.lemmas.Bool.Decides.{eqb_tells}
use Rattle.if1_graph.specs.declared.graph.Edge.{Edge}
use Rattle.if1_write.specs.Texts.{rank, rank_of}

module _ {A : Type 0} (p : A → Bool) where
  -- what stands before a place and fails a test may go
  pub dropped : (xs : List A) (k : ℕ) → AllWithin (λ y. p y ≡ false) xs 0 k → filter p (drop k xs) ≡ filter p xs
  dropped [] zero h = refl
  dropped [] (suc k) h = refl
  dropped (x ∷ xs) zero h = refl
  dropped (x ∷ xs) (suc k) h =
      let fails : p x ≡ false = h 0 x (omega arith) (omega arith) in
      dropped xs k (λ j d a b. h (suc j) d (omega arith) (omega (arith, b))) ∙ rw fails refl

  -- and what stands from a place on
  pub kept : (xs : List A) (k : ℕ) → AllWithin (λ y. p y ≡ false) xs k (length xs) → filter p (take k xs) ≡ filter p xs
  kept [] zero h = refl
  kept [] (suc k) h = refl
  kept (x ∷ xs) zero h =
      let fails : p x ≡ false = h 0 x (omega arith) (omega arith) in
      kept xs zero (λ j d a b. h (suc j) d (omega arith) (omega (arith, b))) ∙ rw fails refl
  kept (x ∷ xs) (suc k) h =
      ap (λ t. if p x then x ∷ t else t) (kept xs k (λ j d a b. h (suc j) d (omega (arith, a)) (omega (arith, b))))

other : (a b : ℕ) → (a ≡ b → ⊥) → (a == b) ≡ false
other a b h = elim (eqb_tells a b) [ inl e ↦ absurd (h e.1) | inr e ↦ e.0 ]

lower : (a b : ℕ) → nat_lt (rank a) (rank b) ≡ true → (a == b) ≡ false
lower a b h = other a b (λ e. omega (arith, ltb-true (rank a) (rank b) h, ap rank e))

higher : (a b : ℕ) → nat_le (rank a) (rank b) ≡ false → (a == b) ≡ false
higher a b h = other a b (λ e. omega (arith, leb-false (rank a) (rank b) h, ap rank e))

-- the edges from the first one on that leads into no lower node
pub from_first : (es : List Edge) (node k : ℕ) →
    IsPartitionPoint (λ e. nat_lt (rank_of e) (rank node) ≡ true) (λ e. nat_lt (rank_of e) (rank node) ≡ false) es k →
    filter (λ e. e.node == node) (drop k es) ≡ filter (λ e. e.node == node) es
from_first es node k h = dropped (λ (e : Edge). e.node == node) es k (λ j d a b. lower (get_or es j d).node node (h.0 j d a b))

-- and those before the first one that leads into a higher one
pub up_to_last : (es : List Edge) (node k : ℕ) →
    IsPartitionPoint (λ e. nat_le (rank_of e) (rank node) ≡ true) (λ e. nat_le (rank_of e) (rank node) ≡ false) es k →
    filter (λ e. e.node == node) (take k es) ≡ filter (λ e. e.node == node) es
up_to_last es node k h = kept (λ (e : Edge). e.node == node) es k (λ j d a b. higher (get_or es j d).node node (h.1 j d a b))
