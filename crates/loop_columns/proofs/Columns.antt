-- Multiples of one length, and the rows of their elements.
use Rattle.std.proofs.Common.{◌≡◌, ℕ, zero, suc, ◌+◌, ◌<◌, Bool, true, false, ◌&&◌, List, [], ◌∷◌, ◌++◌, map, length, drop, refl, ap, ◌∙◌, arith}
use Rattle.std.specs.Prelude.{nat_eq}
use Rattle.std.specs.List.{list_all}
use Rattle.flow_value.specs.declared.value.Val.{Val}
use Rattle.meaning.specs.Words.{value_at}
use Rattle.graph_meaning.specs.Carried.{Carried, Value, Many}
use Rattle.graph_meaning.specs.Forms.{heads, rows_of, items, first_spoiled}

-- lists of one length
abbrev pub AreLong : ℕ → List (List Val) → Type 0
AreLong n [] = Unit {0}
AreLong n (l ∷ ls) = (length l ≡ n) × AreLong n ls

abbrev pub at_place : List (List Val) → ℕ → List Val
at_place ls i = map (λ l. value_at l i) ls

-- lists of one length, with these values at each place
pub record AreColumns (n : ℕ) (at : ℕ → List Val) (ls : List (List Val)) : Type 0 where
  pub long : AreLong n ls
  pub rows : (i : ℕ) → i < n → at_place ls i ≡ at i

-- so many rows from one on
abbrev pub from : (ℕ → List Val) → ℕ → ℕ → List (List Val)
from at i zero = []
from at i (suc n) = at i ∷ from at (suc i) n

tails-long : (n : ℕ) (ls : List (List Val)) → AreLong (suc n) ls → AreLong n (map (drop 1) ls)
tails-long n [] h = tt
tails-long n ([] ∷ ls) h = absurd (omega (arith, h.0))
tails-long n ((v ∷ l) ∷ ls) h = (omega (arith, h.0), tails-long n ls h.1)

tails-at : (n i : ℕ) (ls : List (List Val)) → AreLong (suc n) ls → at_place (map (drop 1) ls) i ≡ at_place ls (suc i)
tails-at n i [] h = refl
tails-at n i ([] ∷ ls) h = absurd (omega (arith, h.0))
tails-at n i ((v ∷ l) ∷ ls) h = ap (λ vs. value_at l i ∷ vs) (tails-at n i ls h.1)

heads-are : (n : ℕ) (ls : List (List Val)) → AreLong (suc n) ls → heads ls ≡ map Value (at_place ls 0)
heads-are n [] h = refl
heads-are n ([] ∷ ls) h = absurd (omega (arith, h.0))
heads-are n ((v ∷ l) ∷ ls) h = ap (λ cs. Value v ∷ cs) (heads-are n ls h.1)

pub rows-are : (n k : ℕ) (at : ℕ → List Val) (ls : List (List Val)) → AreLong n ls → ((i : ℕ) → i < n → at_place ls i ≡ at (k + i)) → rows_of n ls ≡ map (map Value) (from at k n)
rows-are zero k at ls h e = refl
rows-are (suc n) k at ls h e =
    let first : k + 0 ≡ k = omega arith in
    ap (λ r. r ∷ rows_of n (map (drop 1) ls)) (heads-are n ls h ∙ ap (map Value) (e 0 (omega arith) ∙ ap at first))
    ∙ ap (λ rs. map Value (at k) ∷ rs)
    (rows-are n (suc k) at (map (drop 1) ls) (tails-long n ls h) (λ i lt. let next : k + suc i ≡ suc k + i = omega arith in tails-at n i ls h ∙ e (suc i) (omega (arith, lt)) ∙ ap at next))

-- ---- columns side by side

pub long-both : (n : ℕ) (ls ks : List (List Val)) → AreLong n ls → AreLong n ks → AreLong n (ls ++ ks)
long-both n [] ks a b = b
long-both n (l ∷ ls) ks a b = (a.0, long-both n ls ks a.1 b)

at-both : (i : ℕ) (ls ks : List (List Val)) → at_place (ls ++ ks) i ≡ at_place ls i ++ at_place ks i
at-both i [] ks = refl
at-both i (l ∷ ls) ks = ap (λ vs. value_at l i ∷ vs) (at-both i ls ks)

pub columns-both : (n : ℕ) (f g : ℕ → List Val) (ls ks : List (List Val)) → AreColumns n f ls → AreColumns n g ks → AreColumns n (λ i. f i ++ g i) (ls ++ ks)
columns-both n f g ls ks a b = record {
  long = long-both n ls ks a.long b.long;
  rows = λ i h. at-both i ls ks ∙ ap (λ vs. vs ++ at_place ks i) (a.rows i h) ∙ ap (λ vs. f i ++ vs) (b.rows i h);
}

pub many-both : (ls ks : List (List Val)) → map Many ls ++ map Many ks ≡ map Many (ls ++ ks)
many-both [] ks = refl
many-both (l ∷ ls) ks = ap (λ ms. Many l ∷ ms) (many-both ls ks)

pub items-many : (ls : List (List Val)) → map items (map Many ls) ≡ ls
items-many [] = refl
items-many (l ∷ ls) = ap (λ ks. l ∷ ks) (items-many ls)

-- ---- what is asked of multiples

pub sound-many : (ls : List (List Val)) (ms : List Carried) → first_spoiled (map Many ls ++ ms) ≡ first_spoiled ms
sound-many [] ms = refl
sound-many (l ∷ ls) ms = sound-many ls ms

abbrev pub is_long : ℕ → Carried → Bool
is_long n m = nat_eq (length (items m)) n

pub all-both : (p : Carried → Bool) (ms os : List Carried) → list_all p (ms ++ os) ≡ (list_all p ms && list_all p os)
all-both p [] os = refl
all-both p (m ∷ ms) os = go (p m) (all-both p ms os)
  where
    go : (b : Bool) → list_all p (ms ++ os) ≡ (list_all p ms && list_all p os) → (b && list_all p (ms ++ os)) ≡ ((b && list_all p ms) && list_all p os)
    go true e = e
    go false e = refl

-- one or more lists of one length
pub many-long : (n m : ℕ) (l : List Val) (ls : List (List Val)) → AreLong m (l ∷ ls) → list_all (is_long n) (map Many (l ∷ ls)) ≡ nat_eq m n
many-long n m l [] h = ap (λ k. nat_eq k n && true) h.0 ∙ once (nat_eq m n)
  where
    once : (b : Bool) → (b && true) ≡ b
    once true = refl
    once false = refl
many-long n m l (k ∷ ls) h = ap (λ j. nat_eq j n && list_all (is_long n) (map Many (k ∷ ls))) h.0 ∙ ap (λ b. nat_eq m n && b) (many-long n m k ls h.1) ∙ twice (nat_eq m n)
  where
    twice : (b : Bool) → (b && b) ≡ b
    twice true = refl
    twice false = refl

pub all-long : (n : ℕ) (ls : List (List Val)) → AreLong n ls → list_all (is_long n) (map Many ls) ≡ true
all-long n [] h = refl
all-long n (l ∷ ls) h = ap (λ k. nat_eq k n && list_all (is_long n) (map Many ls)) h.0 ∙ ap (λ b. b && list_all (is_long n) (map Many ls)) (same n) ∙ all-long n ls h.1
  where
    same : (n : ℕ) → nat_eq n n ≡ true
    same n = grind (arith)
