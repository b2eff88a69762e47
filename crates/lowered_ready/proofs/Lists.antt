-- Numbers that rise by one, and members of lists by place.
use Rattle.std.proofs.Common.{◌≡◌, ℕ, zero, suc, ◌+◌, ◌<◌, ◌≤◌, Bool, true, false, List, [], ◌∷◌, length, get_or, slice_get, Contains, Some, refl, ap, subst, ◌∙◌, arith}
use Rattle.std.specs.Prelude.{All, nat_eq, if◌then◌else◌}
use Rattle.std.proofs.lemmas.Bool.{eqb-true}
use Rattle.std.proofs.lemmas.List.Elements.{All-head, All-tail}
use Rattle.if1_graph.specs.Formed.{IsOnce}
use Rattle.if1_graph.specs.Ports.{count_from, AreFirst}
use Rattle.lowering.specs.declared.feed.Carried.{Carried}
use Rattle.lowered_ready.specs.Ports.{type_from}

size-of : (l n : ℕ) → length (count_from l n) ≡ n
size-of l zero = refl
size-of l (suc n) = ap suc (size-of (suc l) n)

index-of : (m n k d : ℕ) → k < n → get_or (count_from m n) k d ≡ m + k
index-of m zero k d h = absurd (omega (arith, h))
index-of m (suc n) zero d h = omega arith
index-of m (suc n) (suc k) d h = index-of (suc m) n k d (omega (arith, h)) ∙ omega arith

within : (m n l : ℕ) → Contains (count_from m n) l → (m ≤ l) × (l < m + n)
within m n l c =
    let few : c.0 < n = omega (arith, c.1, size-of m n) in
    let at = index-of m n c.0 l few in
    (omega (arith, at, c.2), omega (arith, at, c.2, few))

once-from : (l n : ℕ) → IsOnce (count_from l n)
once-from l zero = tt
once-from l (suc n) = (λ c. let w = within (suc l) n l c in omega (arith, w.0), once-from (suc l) n)

-- the numbers from 1 to n
pub first-count : (n : ℕ) → AreFirst n (count_from 1 n)
first-count n = record {
  once = once-from 1 n;
  these = λ port. (λ c. let w = within 1 n port c in (w.0, omega (arith, w.1)), λ h. place port h.0 h.1);
}
  where
    place : (port : ℕ) → 1 ≤ port → port ≤ n → Contains (count_from 1 n) port
    place zero a b = absurd (omega (arith, a))
    place (suc k) a b = (k, omega (arith, b, size-of 1 n), index-of 1 n k (suc k) (omega (arith, b)) ∙ omega arith)

-- ---- members by place

pub all-at : {A : Type 0} (P : A → Type 0) (xs : List A) → All P xs → (i : ℕ) (x : A) → slice_get xs i ≡ Some x → P x
all-at P [] h i x e = absurd cc
all-at P (y ∷ xs) h zero x e = subst P (same e) (All-head P y xs h)
  where
    same : Some y ≡ Some x → y ≡ x
    same e = cc
all-at P (y ∷ xs) h (suc i) x e = all-at P xs (All-tail P y xs h) i x e

pub below-length : {A : Type 0} (xs : List A) (i : ℕ) (x : A) → slice_get xs i ≡ Some x → i < length xs
below-length [] i x e = absurd cc
below-length (y ∷ xs) zero x e = omega arith
below-length (y ∷ xs) (suc i) x e = omega (arith, below-length xs i x e)

pub one-some : {A : Type 0} (x y : A) → Some x ≡ Some y → x ≡ y
one-some x y e = cc

-- what holds of each type from a port on holds of that at a port
pub type-holds : (P : ℕ → Carried → Type 0) (All-from : ℕ → List Carried → Type 0) → ((port : ℕ) (t : Carried) (ts : List Carried) → All-from port (t ∷ ts) → P port t × All-from (suc port) ts)
    → (port : ℕ) (ts : List Carried) → All-from port ts → (q : ℕ) (c : Carried) → type_from port ts q ≡ Some c → P q c
type-holds P All-from apart port [] h q c e = absurd cc
type-holds P All-from apart port (t ∷ ts) h q c e = by (nat_eq port q) refl e (λ k. type-holds P All-from apart (suc port) ts (apart port t ts h).1 q c k)
  where
    by : (b : Bool) → nat_eq port q ≡ b → (if b then Some t else type_from (suc port) ts q) ≡ Some c → (type_from (suc port) ts q ≡ Some c → P q c) → P q c
    by true k e later = subst (λ i. P i c) (eqb-true port q k) (subst (P port) (one-some t c e) (apart port t ts h).0)
    by false k e later = later e
