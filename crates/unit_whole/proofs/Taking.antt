-- What is taken is read last, however literals are said to be read.
use Rattle.std.proofs.Common.{◌≡◌, ℕ, zero, suc, ◌+◌, ◌<◌, ◌≤◌, ◌⊎◌, inl, inr, ltb, Bool, true, false, List, [], ◌∷◌, ◌++◌, length, refl, sym, ap, subst, arith}
use Rattle.std.proofs.lemmas.Bool.{ltb-false, ltb-true}
use Rattle.graph_meaning.specs.Carried.{Carried}
use Rattle.run_code.specs.Cells.{At, Lit, Operand, cells_at}
use Rattle.run_store.specs.Refines.{IsTaken}
use Rattle.run_store.specs.Stored.{Copies, CopiesOf, Looks, LooksAt, Mode, Takes, mode_at, tail}
use Rattle.made_store.specs.Last.{AreTakenLast, IsLast, IsNoneOf}
use Rattle.told_rows.specs.Grows.{read_as}

last-lit : (m : Mode) (k : Carried) (os : List Operand) → IsLast m (Lit k) os
last-lit Looks k os = tt
last-lit Copies k os = tt
last-lit Takes k os = tt
last-lit (LooksAt p) k os = tt
last-lit (CopiesOf p) k os = tt

from-read : (ms : List Mode) (os : List Operand) → AreTakenLast (read_as ms os) os → AreTakenLast ms os
from-read ms [] h = tt
from-read ms (At c ∷ os) h = (h.0, from-read (tail ms) os h.1)
from-read ms (Lit k ∷ os) h = (last-lit (mode_at ms) k os, from-read (tail ms) os h.1)

to-read : (ms : List Mode) (os : List Operand) → AreTakenLast ms os → AreTakenLast (read_as ms os) os
to-read ms [] h = tt
to-read ms (At c ∷ os) h = (h.0, to-read (tail ms) os h.1)
to-read ms (Lit k ∷ os) h = (tt, to-read (tail ms) os h.1)

pub read-last : (ms ns : List Mode) (os : List Operand) → read_as ms os ≡ read_as ns os → AreTakenLast ns os → AreTakenLast ms os
read-last ms ns os e h = from-read ms os (subst (λ z. AreTakenLast z os) (sym e) (to-read ns os h))

-- ---- of two lists, the first

none-front : (xs ys : List Operand) (i : ℕ) → IsNoneOf i (xs ++ ys) → IsNoneOf i xs × IsNoneOf i ys
none-front [] ys i h = (tt, h)
none-front (x ∷ xs) ys i h = let z = none-front xs ys i h.1 in ((h.0, z.0), z.1)

same-cell : (a b : ℕ) → At a ≡ At b → a ≡ b
same-cell a b e = cc

last-front : (m : Mode) (x : Operand) (xs ys : List Operand) → IsLast m x (xs ++ ys) → IsLast m x xs
last-front Looks x xs ys h = tt
last-front Copies x xs ys h = tt
last-front Takes (At i) xs ys h = (none-front xs ys i h).0
last-front Takes (Lit k) xs ys h = tt
last-front (LooksAt p) x xs ys h = tt
last-front (CopiesOf p) x xs ys h = tt

last-rest : (m : Mode) (x : Operand) (xs ys : List Operand) → IsLast m x (xs ++ ys) → (i : ℕ) → m ≡ Takes → x ≡ At i → IsNoneOf i ys
last-rest Looks x xs ys h i e f = absurd (clash e)
  where
    clash : Looks ≡ Takes → ⊥
    clash e = cc
last-rest Copies x xs ys h i e f = absurd (clash e)
  where
    clash : Copies ≡ Takes → ⊥
    clash e = cc
last-rest Takes (At j) xs ys h i e f = subst (λ z. IsNoneOf z ys) (same-cell j i f) (none-front xs ys j h).1
last-rest Takes (Lit k) xs ys h i e f = absurd (clash f)
  where
    clash : Lit k ≡ At i → ⊥
    clash e = cc
last-rest (LooksAt p) x xs ys h i e f = absurd (clash e)
  where
    clash : LooksAt p ≡ Takes → ⊥
    clash e = cc
last-rest (CopiesOf p) x xs ys h i e f = absurd (clash e)
  where
    clash : CopiesOf p ≡ Takes → ⊥
    clash e = cc

pub front-last : (ms ns : List Mode) (xs ys : List Operand) → length ms ≡ length xs → AreTakenLast (ms ++ ns) (xs ++ ys) → AreTakenLast ms xs × ((i : ℕ) → IsTaken ms xs i → IsNoneOf i ys)
front-last [] ns [] ys many h = (tt, λ i t. absurd t)
front-last [] ns (x ∷ xs) ys many h = absurd (omega (arith, many))
front-last (m ∷ ms) ns [] ys many h = absurd (omega (arith, many))
front-last (m ∷ ms) ns (x ∷ xs) ys many h =
    let rest = front-last ms ns xs ys (omega (arith, many)) h.1 in
    ((last-front m x xs ys h.0, rest.0), λ i t. go i t rest.1)
  where
    go : (i : ℕ) → IsTaken (m ∷ ms) (x ∷ xs) i → ((i : ℕ) → IsTaken ms xs i → IsNoneOf i ys) → IsNoneOf i ys
    go i (inl t) rest = last-rest m x xs ys h.0 i t.0 t.1
    go i (inr t) rest = rest i t

-- a cell that is none of these stands beside them
pub beside : (i c k : ℕ) → IsNoneOf i (cells_at c k) → (i < c) ⊎ (c + k ≤ i)
beside i c zero h = go (ltb i c) refl
  where
    go : (b : Bool) → ltb i c ≡ b → (i < c) ⊎ (c + 0 ≤ i)
    go true e = inl (ltb-true i c e)
    go false e = let le = ltb-false i c e in inr (omega (arith, le))
beside i c (suc k) h = go (beside i (suc c) k h.1)
  where
    other : i ≡ c → ⊥
    other e = h.0 (ap At (sym e))

    go : (i < suc c) ⊎ (suc c + k ≤ i) → (i < c) ⊎ (c + suc k ≤ i)
    go (inl lt) = below (ltb i c) refl lt
      where
        below : (b : Bool) → ltb i c ≡ b → i < suc c → (i < c) ⊎ (c + suc k ≤ i)
        below true e lt = inl (ltb-true i c e)
        below false e lt = let le = ltb-false i c e in absurd (other (omega (arith, le, lt)))
    go (inr le) = inr (omega (arith, le))
