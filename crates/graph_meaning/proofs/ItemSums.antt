-- Sums over the items of a tree.
use Rattle.std.proofs.Common.{◌≡◌, ℕ, suc, ◌+◌, ◌≤◌, List, [], ◌∷◌, Option, Some, inl, inr, refl, arith}
use Rattle.graph_meaning.specs.Entered.{Entered, NoNode, SimpleNode, WholeNode, Steps, Left, Unshown, GraphStep, SliceStep, Item, Node, Entry, Slice, Leave, Inside, entry_fires, IsSlice, Has, StepsHave, total, total_steps, total_slices}

abbrev pub Number : Type 0
Number = Item → Option ℕ → ℕ

slices-add : (l k r : ℕ) (cs : List (Option ℕ)) (φ ψ : Number) → total_slices (λ i w. φ i w + ψ i w) l k r cs ≡ total_slices φ l k r cs + total_slices ψ l k r cs
slices-add l k r [] φ ψ = refl
slices-add l k r (c ∷ cs) φ ψ = omega (arith, slices-add l k (suc r) cs φ ψ)

mutual
  pub total-add : (f : Entered) (φ ψ : Number) → total f (λ i w. φ i w + ψ i w) ≡ total f φ + total f ψ
  total-add NoNode φ ψ = refl
  total-add (SimpleNode l ws rest) φ ψ = omega (arith, total-add rest φ ψ)
  total-add (WholeNode l ws first next rest) φ ψ =
      omega (arith, total-add first (λ i. φ (Inside l 0 i)) (λ i. ψ (Inside l 0 i)), parts-add next l 1 φ ψ, total-add rest φ ψ)

  parts-add : (p : Steps) (l k : ℕ) (φ ψ : Number) → total_steps p l k (λ i w. φ i w + ψ i w) ≡ total_steps p l k φ + total_steps p l k ψ
  parts-add Left l k φ ψ = refl
  parts-add Unshown l k φ ψ = refl
  parts-add (GraphStep t inside next) l k φ ψ =
      omega (arith, total-add inside (λ i. φ (Inside l k i)) (λ i. ψ (Inside l k i)), parts-add next l (suc k) φ ψ)
  parts-add (SliceStep cs next) l k φ ψ = omega (arith, slices-add l k 0 cs φ ψ, parts-add next l (suc k) φ ψ)

slices-mono : (l k r : ℕ) (cs : List (Option ℕ)) (φ ψ : Number) → ((i : Item) (w : Option ℕ) → IsSlice l k r cs i w → φ i w ≤ ψ i w) → total_slices φ l k r cs ≤ total_slices ψ l k r cs
slices-mono l k r [] φ ψ h = omega arith
slices-mono l k r (c ∷ cs) φ ψ h = omega (arith, h (Slice l k r) c (inl (refl, refl)), slices-mono l k (suc r) cs φ ψ (λ i w x. h i w (inr x)))

mutual
  pub total-mono : (f : Entered) (φ ψ : Number) → ((i : Item) (w : Option ℕ) → Has f i w → φ i w ≤ ψ i w) → total f φ ≤ total f ψ
  total-mono NoNode φ ψ h = omega arith
  total-mono (SimpleNode l ws rest) φ ψ h =
      omega (arith, h (Node l) (Some 1) (inl (refl, refl)), total-mono rest φ ψ (λ i w x. h i w (inr x)))
  total-mono (WholeNode l ws first next rest) φ ψ h =
      omega (
        arith,
        h (Node l) (Some 1) (inl (refl, refl)),
        total-mono first (λ i. φ (Inside l 0 i)) (λ i. ψ (Inside l 0 i)) (λ i w x. h (Inside l 0 i) w (inr (inl (i, refl, x)))),
        parts-mono next l 1 φ ψ (λ i w x. h i w (inr (inr (inl x)))),
        total-mono rest φ ψ (λ i w x. h i w (inr (inr (inr x)))),
      )

  parts-mono : (p : Steps) (l k : ℕ) (φ ψ : Number) → ((i : Item) (w : Option ℕ) → StepsHave l k p i w → φ i w ≤ ψ i w) → total_steps p l k φ ≤ total_steps p l k ψ
  parts-mono Left l k φ ψ h = h (Leave l) (Some 0) (refl, refl)
  parts-mono Unshown l k φ ψ h = omega arith
  parts-mono (GraphStep t inside next) l k φ ψ h =
      omega (
        arith,
        h (Entry t l k) (Some (entry_fires t)) (inl (refl, refl)),
        total-mono inside (λ i. φ (Inside l k i)) (λ i. ψ (Inside l k i)) (λ i w x. h (Inside l k i) w (inr (inl (i, refl, x)))),
        parts-mono next l (suc k) φ ψ (λ i w x. h i w (inr (inr x))),
      )
  parts-mono (SliceStep cs next) l k φ ψ h =
      omega (arith, slices-mono l k 0 cs φ ψ (λ i w x. h i w (inl x)), parts-mono next l (suc k) φ ψ (λ i w x. h i w (inr x)))

abbrev none : Number
none i w = 0

total-none : (f : Entered) → total f none ≡ 0
total-none f = omega (arith, total-add f none none)

parts-none : (p : Steps) (l k : ℕ) → total_steps p l k none ≡ 0
parts-none p l k = omega (arith, parts-add p l k none none)

slices-none : (l k r : ℕ) (cs : List (Option ℕ)) → total_slices none l k r cs ≡ 0
slices-none l k r cs = omega (arith, slices-add l k r cs none none)

pub total-zero : (f : Entered) (φ : Number) → ((i : Item) (w : Option ℕ) → Has f i w → φ i w ≡ 0) → total f φ ≡ 0
total-zero f φ h = omega (arith, total-mono f φ none (λ i w x. omega (arith, h i w x)), total-none f)

pub parts-zero : (p : Steps) (l k : ℕ) (φ : Number) → ((i : Item) (w : Option ℕ) → StepsHave l k p i w → φ i w ≡ 0) → total_steps p l k φ ≡ 0
parts-zero p l k φ h = omega (arith, parts-mono p l k φ none (λ i w x. omega (arith, h i w x)), parts-none p l k)

pub slices-zero : (l k r : ℕ) (cs : List (Option ℕ)) (φ : Number) → ((i : Item) (w : Option ℕ) → IsSlice l k r cs i w → φ i w ≡ 0) → total_slices φ l k r cs ≡ 0
slices-zero l k r cs φ h = omega (arith, slices-mono l k r cs φ none (λ i w x. omega (arith, h i w x)), slices-none l k r cs)

pub total-same : (f : Entered) (φ ψ : Number) → ((i : Item) (w : Option ℕ) → Has f i w → φ i w ≡ ψ i w) → total f φ ≡ total f ψ
total-same f φ ψ h = omega (arith, total-mono f φ ψ (λ i w x. omega (arith, h i w x)), total-mono f ψ φ (λ i w x. omega (arith, h i w x)))
