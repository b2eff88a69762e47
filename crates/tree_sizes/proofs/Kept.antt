-- Sums of numbers that are kept up to a bound.
use Rattle.std.proofs.Common.{◌≡◌, ℕ, suc, ◌+◌, max, refl, sym, ap, ◌∙◌, arith}
use Rattle.std.specs.Prelude.{min, ◌^◌, ◌-◌, nat_lt}
use Rattle.std.proofs.Common.{◌<◌, ◌≤◌, Bool, true, false, lt-ltb, le-ltb}
use Rattle.std.proofs.lemmas.Bool.{ltb-true, ltb-false}
use Rattle.lowered_sizes.specs.declared.sizes.Sizes.{Sizes}
use Rattle.lowered_sizes.specs.Counting.{only, beside, a_node, capped, capped_sizes}
use Rattle.lowered_sizes.specs.Forms.{filled, applied_sized}
use Rattle.value_ops.specs.declared.operation.Operation.{Operation}
use Rattle.value_ops.specs.declared.operation.Operation.TheVariants as operation

sum-of : (m a b x y : ℕ) → a ≡ min x m → b ≡ min y m → min (a + b) m ≡ min (x + y) m
sum-of m a b x y e f = omega (arith, e, f)

pub sum-kept : (a b x y : ℕ) → a ≡ capped x → b ≡ capped y → min (a + b) (2 ^ 128 - 1) ≡ capped (x + y)
sum-kept a b x y e f = sum-of (2 ^ 128 - 1) a b x y e f

greater-of : (m a b x y : ℕ) → a ≡ min x m → b ≡ min y m → max a b ≡ min (max x y) m
greater-of m a b x y e f = omega (arith, e, f)

pub greater-kept : (a b x y : ℕ) → a ≡ capped x → b ≡ capped y → max a b ≡ capped (max x y)
greater-kept a b x y e f = greater-of (2 ^ 128 - 1) a b x y e f

abbrev pub sizes_of : (nodes graphs largest ports values : ℕ) → Sizes
sizes_of a b c d e = record { nodes = a; graphs = b; largest = c; ports = d; values = e }

pub same-sizes : (a b c d e v w x y z : ℕ) → a ≡ v → b ≡ w → c ≡ x → d ≡ y → e ≡ z → sizes_of a b c d e ≡ sizes_of v w x y z
same-sizes a b c d e v w x y z p q r s t =
    ap (λ i. sizes_of i b c d e) p ∙ (ap (λ i. sizes_of v i c d e) q ∙ (ap (λ i. sizes_of v w i d e) r ∙ (ap (λ i. sizes_of v w x i e) s ∙ ap (λ i. sizes_of v w x y i) t)))

pub nodes-kept : (s a : Sizes) → s ≡ capped_sizes a → s.nodes ≡ capped a.nodes
nodes-kept s a e = ap (λ (s : Sizes). s.nodes) e

pub graphs-kept : (s a : Sizes) → s ≡ capped_sizes a → s.graphs ≡ capped a.graphs
graphs-kept s a e = ap (λ (s : Sizes). s.graphs) e

pub largest-kept : (s a : Sizes) → s ≡ capped_sizes a → s.largest ≡ capped a.largest
largest-kept s a e = ap (λ (s : Sizes). s.largest) e

pub ports-kept : (s a : Sizes) → s ≡ capped_sizes a → s.ports ≡ capped a.ports
ports-kept s a e = ap (λ (s : Sizes). s.ports) e

pub values-kept : (s a : Sizes) → s ≡ capped_sizes a → s.values ≡ capped a.values
values-kept s a e = ap (λ (s : Sizes). s.values) e

suc-of : (m a x : ℕ) → a ≡ min x m → min (a + 1) m ≡ min (suc x) m
suc-of m a x e = omega (arith, e)

pub suc-kept : (a x : ℕ) → a ≡ capped x → min (a + 1) (2 ^ 128 - 1) ≡ capped (suc x)
suc-kept a x e = suc-of (2 ^ 128 - 1) a x e

-- an operation other than `is t(u)` is a node
pub other-applied : (op : Operation) → ((tag : ℕ) → op ≡ operation.IsTag tag → ⊥) → (v k : ℕ) → a_node (filled op v) k ≡ applied_sized op v k
other-applied (operation.IsTag tag) h v k = absurd (h tag refl)
other-applied op h v k = refl

-- what stands first, and then further, may be told in one
pub beside-both : (a b c : Sizes) → beside (beside a b) c ≡ beside a (beside b c)
beside-both a b c = same-sizes _ _ _ _ _ _ _ _ _ _ (omega arith) (omega arith) (omega arith) (omega arith) (omega arith)

pub beside-none : (a : Sizes) → beside (only 0) a ≡ a
beside-none a = same-sizes _ _ _ _ _ _ _ _ _ _ (omega arith) (omega arith) (omega arith) (omega arith) (omega arith)

pub none-beside : (a : Sizes) → beside a (only 0) ≡ a
none-beside a = same-sizes _ _ _ _ _ _ _ _ _ _ (omega arith) (omega arith) (omega arith) (omega arith) (omega arith)

smaller-of : (m a b x y : ℕ) → a ≡ min x m → b ≡ min y m → min a b ≡ min (min x y) m
smaller-of m a b x y e f = omega (arith, e, f)

pub smaller-kept : (a b x y : ℕ) → a ≡ capped x → b ≡ capped y → min a b ≡ capped (min x y)
smaller-kept a b x y e f = smaller-of (2 ^ 128 - 1) a b x y e f

less-of : (m l a n : ℕ) → l < m → a ≡ min n m → nat_lt l a ≡ nat_lt l n
less-of m l a n small e = by (nat_lt l n) refl
  where
    by : (b : Bool) → nat_lt l n ≡ b → nat_lt l a ≡ nat_lt l n
    by true t = let less : l < n = ltb-true l n t in lt-ltb l a (omega (arith, less, small, e)) ∙ sym t
    by false f = let more : n ≤ l = ltb-false l n f in le-ltb l a (omega (arith, more, small, e)) ∙ sym f

narrow : (l : ℕ) → l < 2 ^ 32 → l < 2 ^ 128 - 1
narrow l h = omega (arith, h)

pub less-kept : (l a n : ℕ) → l < 2 ^ 32 → a ≡ capped n → nat_lt l a ≡ nat_lt l n
less-kept l a n h e = less-of (2 ^ 128 - 1) l a n (narrow l h) e
