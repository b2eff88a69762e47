-- A list that rises is told by its members.
use Rattle.std.proofs.Common.{◌≡◌, ℕ, zero, suc, ◌+◌, ◌<◌, ◌⊎◌, inl, inr, Bool, true, false, cond, List, [], ◌∷◌, length, get_or, refl, sym, ap, ◌∙◌, subst, arith, nat_le, eqb, ltb, ◌&&◌, true≢false}
use Rattle.std.proofs.lemmas.Bool.{leb-true, leb-false, lt-leb, ltb-true, eqb-true, eqb-false}
use Rattle.std.proofs.lemmas.List.Kept.{Contains-dedup_nat, Contains-from_dedup}
use Rattle.std.proofs.lemmas.List.Sorted.{Contains-permutation, IsPermutation-sym}
use Rattle.std.proofs.lemmas.Map.Keys.{IsStrictlyIncreasing-dedup}
use Rattle.std.specs.List.{Contains, dedup}
use Rattle.std.specs.List.Sorted.{IsPermutation, IsSorted, IsStrictlyIncreasing}
use Rattle.std.specs.Ordering.{nat_cmp}
use Rattle.if1_graph.specs.Numbers.{placed_in, rising}
use Rattle.if1_graph.specs.Spelling.{rises_from}

abbrev pub Above : ℕ → List ℕ → Type 0
Above n [] = Unit {0}
Above n (m ∷ ms) = (n < m) × Above m ms

abbrev pub Rises : List ℕ → Type 0
Rises [] = Unit {0}
Rises (n ∷ ns) = Above n ns

abbrev pub In : ℕ → List ℕ → Type 0
In x [] = ⊥
In x (y ∷ ys) = (x ≡ y) ⊎ In x ys

pub above_each : (n : ℕ) (ms : List ℕ) (x : ℕ) → Above n ms → In x ms → n < x
above_each n [] x h i = elim i [ ]
above_each n (m ∷ ms) x h (inl e) = let k : n < m = h.0 in omega (arith, e, k)
above_each n (m ∷ ms) x h (inr i) = let k : n < m = h.0 in let l = above_each m ms x h.1 i in omega (arith, k, l)

tail_rises : (n : ℕ) (ns : List ℕ) → Above n ns → Rises ns
tail_rises n [] h = tt
tail_rises n (m ∷ ns) h = h.1

pub and_true_parts : (a b : Bool) → (a && b) ≡ true → (a ≡ true) × (b ≡ true)
and_true_parts true b e = (refl, e)
and_true_parts false b e = absurd (true≢false (sym e))

-- ---- the same members

heads : (x y : ℕ) (xs ys : List ℕ) → Above x xs → Above y ys → In x (y ∷ ys) → In y (x ∷ xs) → x ≡ y
heads x y xs ys a b (inl e) j = e
heads x y xs ys a b (inr i) (inl e) = sym e
heads x y xs ys a b (inr i) (inr j) =
    let p = above_each y ys x b i in
    let q = above_each x xs y a j in
    absurd (omega (arith, p, q))

shrink : (x y z : ℕ) (xs ys : List ℕ) → Above x xs → x ≡ y → In z xs → In z (y ∷ ys) → In z ys
shrink x y z xs ys a e i (inl f) = let p = above_each x xs z a i in absurd (omega (arith, p, e, f))
shrink x y z xs ys a e i (inr j) = j

pub one_list : (xs ys : List ℕ) → Rises xs → Rises ys → ((x : ℕ) → In x xs → In x ys) → ((x : ℕ) → In x ys → In x xs) → xs ≡ ys
one_list [] [] a b f g = refl
one_list [] (y ∷ ys) a b f g = absurd (g y (inl refl))
one_list (x ∷ xs) [] a b f g = absurd (f x (inl refl))
one_list (x ∷ xs) (y ∷ ys) a b f g =
    let e : x ≡ y = heads x y xs ys a b (f x (inl refl)) (g y (inl refl)) in
    let rest : xs ≡ ys = one_list xs ys (tail_rises x xs a) (tail_rises y ys b)
    (λ z i. shrink x y z xs ys a e i (f z (inr i)))
    (λ z i. shrink y x z ys xs b (sym e) i (g z (inr i))) in
    ap (λ k. k ∷ xs) e ∙ ap (λ k. y ∷ k) rest

-- ---- by places

in_from_place : (xs : List ℕ) (k x : ℕ) → k < length xs → get_or xs k x ≡ x → In x xs
in_from_place [] k x h e = absurd (omega (arith, h))
in_from_place (y ∷ ys) zero x h e = inl (sym e)
in_from_place (y ∷ ys) (suc k) x h e = inr (in_from_place ys k x (omega (arith, h)) e)

in_from : (xs : List ℕ) (x : ℕ) → Contains xs x → In x xs
in_from xs x c = in_from_place xs c.0 x c.1 c.2

to_place : (xs : List ℕ) (x : ℕ) → In x xs → Contains xs x
to_place [] x i = elim i [ ]
to_place (y ∷ ys) x (inl e) = (0, omega arith, sym e)
to_place (y ∷ ys) x (inr i) = let c = to_place ys x i in (suc c.0, omega (arith, c.1), c.2)

step : (n : ℕ) (ns : List ℕ) → IsStrictlyIncreasing (n ∷ ns) → IsStrictlyIncreasing ns
step n ns h = λ k l.
    let p : k + 1 + 1 < length (n ∷ ns) = omega (arith, l) in
    subst (λ i. get_or ns k 0 < get_or (n ∷ ns) i 0) (let e : k + 1 + 1 ≡ suc (k + 1) = omega arith in e)
    (subst (λ i. get_or (n ∷ ns) i 0 < get_or (n ∷ ns) (k + 1 + 1) 0) (let e : k + 1 ≡ suc k = omega arith in e) (h (k + 1) p))

above_from : (n : ℕ) (ns : List ℕ) → IsStrictlyIncreasing (n ∷ ns) → Above n ns
above_from n [] h = tt
above_from n (m ∷ ns) h = (h 0 (omega arith), above_from m ns (step n (m ∷ ns) h))

rises_from_places : (ns : List ℕ) → IsStrictlyIncreasing ns → Rises ns
rises_from_places [] h = tt
rises_from_places (n ∷ ns) h = above_from n ns h

-- ---- what `rising` gives

placed_above : (b c : Bool) (k n m : ℕ) (ms : List ℕ) → nat_le m n ≡ b → eqb m n ≡ c → k < n → k < m → Above m ms → (m < n → Above m (placed_in n ms))
    → Above k (cond b (cond c (m ∷ ms) (m ∷ placed_in n ms)) (n ∷ m ∷ ms))
placed_above true true k n m ms e f p q h ih = (q, h)
placed_above true false k n m ms e f p q h ih = (q, ih (omega (arith, leb-true m n e, eqb-false m n f)))
placed_above false c k n m ms e f p q h ih = (p, (leb-false m n e, h))

above_placed : (k n : ℕ) (ms : List ℕ) → k < n → Above k ms → Above k (placed_in n ms)
above_placed k n [] p h = (p, tt)
above_placed k n (m ∷ ms) p h = placed_above (nat_le m n) (eqb m n) k n m ms refl refl p h.0 h.1 (λ q. above_placed m n ms q h.1)

rises_placed : (b c : Bool) (n m : ℕ) (ms : List ℕ) → nat_le m n ≡ b → eqb m n ≡ c → Above m ms → Rises (cond b (cond c (m ∷ ms) (m ∷ placed_in n ms)) (n ∷ m ∷ ms))
rises_placed true true n m ms e f h = h
rises_placed true false n m ms e f h = above_placed m n ms (omega (arith, leb-true m n e, eqb-false m n f)) h
rises_placed false c n m ms e f h = (leb-false m n e, h)

placed_rises : (n : ℕ) (ms : List ℕ) → Rises ms → Rises (placed_in n ms)
placed_rises n [] h = tt
placed_rises n (m ∷ ms) h = rises_placed (nat_le m n) (eqb m n) n m ms refl refl h

pub rising_rises : (ns : List ℕ) → Rises (rising ns)
rising_rises [] = tt
rising_rises (n ∷ ns) = placed_rises n (rising ns) (rising_rises ns)

-- what is placed in a list is in it, beside what was there, and nothing else is
swapped : (x n m : ℕ) (R : Type 0) → (x ≡ n) ⊎ R → (x ≡ n) ⊎ ((x ≡ m) ⊎ R)
swapped x n m R (inl e) = inl e
swapped x n m R (inr r) = inr (inr r)

in_placed_at : (b c : Bool) (x n m : ℕ) (ms : List ℕ) → eqb m n ≡ c → (x ≡ n) ⊎ In x (m ∷ ms) → ((x ≡ n) ⊎ In x ms → In x (placed_in n ms))
    → In x (cond b (cond c (m ∷ ms) (m ∷ placed_in n ms)) (n ∷ m ∷ ms))
in_placed_at true true x n m ms f (inl e) ih = inl (e ∙ sym (eqb-true m n f))
in_placed_at true true x n m ms f (inr i) ih = i
in_placed_at true false x n m ms f (inl e) ih = inr (ih (inl e))
in_placed_at true false x n m ms f (inr (inl e)) ih = inl e
in_placed_at true false x n m ms f (inr (inr i)) ih = inr (ih (inr i))
in_placed_at false c x n m ms f i ih = i

in_placed : (x n : ℕ) (ms : List ℕ) → (x ≡ n) ⊎ In x ms → In x (placed_in n ms)
in_placed x n [] i = i
in_placed x n (m ∷ ms) i = in_placed_at (nat_le m n) (eqb m n) x n m ms refl i (in_placed x n ms)

from_placed_at : (b c : Bool) (x n m : ℕ) (ms : List ℕ) → (In x (placed_in n ms) → (x ≡ n) ⊎ In x ms)
    → In x (cond b (cond c (m ∷ ms) (m ∷ placed_in n ms)) (n ∷ m ∷ ms)) → (x ≡ n) ⊎ In x (m ∷ ms)
from_placed_at true true x n m ms ih i = inr i
from_placed_at true false x n m ms ih (inl e) = inr (inl e)
from_placed_at true false x n m ms ih (inr i) = swapped x n m (In x ms) (ih i)
from_placed_at false c x n m ms ih i = i

from_placed : (x n : ℕ) (ms : List ℕ) → In x (placed_in n ms) → (x ≡ n) ⊎ In x ms
from_placed x n [] i = i
from_placed x n (m ∷ ms) i = from_placed_at (nat_le m n) (eqb m n) x n m ms (from_placed x n ms) i

in_rising : (x : ℕ) (ns : List ℕ) → In x ns → In x (rising ns)
in_rising x [] i = elim i [ ]
in_rising x (n ∷ ns) (inl e) = in_placed x n (rising ns) (inl e)
in_rising x (n ∷ ns) (inr i) = in_placed x n (rising ns) (inr (in_rising x ns i))

mended : (x n : ℕ) (ns : List ℕ) → (In x (rising ns) → In x ns) → (x ≡ n) ⊎ In x (rising ns) → (x ≡ n) ⊎ In x ns
mended x n ns ih (inl e) = inl e
mended x n ns ih (inr i) = inr (ih i)

pub from_rising : (x : ℕ) (ns : List ℕ) → In x (rising ns) → In x ns
from_rising x [] i = i
from_rising x (n ∷ ns) i = mended x n ns (from_rising x ns) (from_placed x n (rising ns) i)

-- a sort, and each number once
pub sorted_once : (xs ys zs : List ℕ) → IsPermutation xs ys → IsSorted nat_cmp ys → zs ≡ dedup eqb ys → zs ≡ rising xs
sorted_once xs ys zs moved sorted is =
    is ∙ one_list (dedup eqb ys) (rising xs)
    (rises_from_places (dedup eqb ys) (IsStrictlyIncreasing-dedup ys sorted))
    (rising_rises xs)
    (λ x i. in_rising x xs (in_from xs x (Contains-permutation ys xs x (IsPermutation-sym xs ys moved) (Contains-from_dedup eqb ys x (to_place (dedup eqb ys) x i)))))
    (λ x i. in_from (dedup eqb ys) x (Contains-dedup_nat ys x (Contains-permutation xs ys x moved (to_place xs x (from_rising x xs i)))))

-- ---- a list that rises is itself

as_it_is : (n m : ℕ) (ms : List ℕ) → n < m → placed_in n (m ∷ ms) ≡ n ∷ m ∷ ms
as_it_is n m ms h = let e : nat_le m n ≡ false = lt-leb m n h in rw e refl

kept_front : (n : ℕ) (ns : List ℕ) → Above n ns → placed_in n ns ≡ n ∷ ns
kept_front n [] h = refl
kept_front n (m ∷ ns) h = as_it_is n m ns h.0

above_of : (n : ℕ) (ns : List ℕ) → rises_from n ns ≡ true → Above n ns
above_of n [] h = tt
above_of n (m ∷ ns) h = let p = and_true_parts (ltb n m) (rises_from m ns) h in (ltb-true n m p.0, above_of m ns p.1)

pub rising_is : (n : ℕ) (ns : List ℕ) → rises_from n ns ≡ true → rising ns ≡ ns
rising_is n [] h = refl
rising_is n (m ∷ ns) h =
    let p = and_true_parts (ltb n m) (rises_from m ns) h in
    ap (placed_in m) (rising_is m ns p.1) ∙ kept_front m ns (above_of m ns p.1)
