-- Lists that rise are told by their members.
use Rattle.std.proofs.Common.{◌≡◌, ◌∙◌, ℕ, ◌+◌, ◌<◌, suc, List, [], ◌∷◌, length, get_or, ◌⊎◌, inl, inr, Contains, refl, sym, ap, subst, arith, eqb}
use Rattle.std.specs.List.{dedup}
use Rattle.std.specs.List.Sorted.{IsPermutation, IsSorted, IsStrictlyIncreasing}
use Rattle.std.specs.Ordering.{nat_cmp}
use Rattle.std.proofs.lemmas.List.Kept.{Contains-dedup_nat, Contains-from_dedup}
use Rattle.std.proofs.lemmas.List.Sorted.{Contains-permutation, IsPermutation-sym}
use Rattle.std.proofs.lemmas.Map.Keys.{IsStrictlyIncreasing-dedup}
use Rattle.if1_marks.proofs.Lists.{here, there, here-or-there, in-none}
use Rattle.take_marks.specs.Applied.{AreOnce}

pub sorted-once : (xs ys zs : List ℕ) → IsPermutation xs ys → IsSorted nat_cmp ys → zs ≡ dedup eqb ys → AreOnce xs zs
sorted-once xs ys zs moved sorted is =
    subst (AreOnce xs) (sym is)
    (record {
      up = IsStrictlyIncreasing-dedup ys sorted;
      same = λ l. (
        (λ c. Contains-permutation ys xs l (IsPermutation-sym xs ys moved) (Contains-from_dedup eqb ys l c)),
        (λ c. Contains-dedup_nat ys l (Contains-permutation xs ys l moved c)),
      );
    })

tail-up : (n : ℕ) (ns : List ℕ) → IsStrictlyIncreasing (n ∷ ns) → IsStrictlyIncreasing ns
tail-up n ns h = λ k l.
    let p : k + 1 + 1 < length (n ∷ ns) = omega (arith, l) in
    subst (λ i. get_or ns k 0 < get_or (n ∷ ns) i 0) (let e : k + 1 + 1 ≡ suc (k + 1) = omega arith in e)
    (subst (λ i. get_or (n ∷ ns) i 0 < get_or (n ∷ ns) (k + 1 + 1) 0) (let e : k + 1 ≡ suc k = omega arith in e) (h (k + 1) p))

above : (n : ℕ) (ns : List ℕ) → IsStrictlyIncreasing (n ∷ ns) → (x : ℕ) → Contains ns x → n < x
above n [] up x c = in-none x c
above n (m ∷ ms) up x c =
    let less : n < m = up 0 (omega arith) in
    elim (here-or-there m ms x c) [
      | inl e ↦ omega (arith, less, e)
      | inr i ↦ let r = above m ms (tail-up n (m ∷ ms) up) x i in omega (arith, less, r)
    ]

pub same-members : (xs ys : List ℕ) → IsStrictlyIncreasing xs → IsStrictlyIncreasing ys → ((x : ℕ) → Contains xs x → Contains ys x) → ((x : ℕ) → Contains ys x → Contains xs x) → xs ≡ ys
same-members [] [] a b f g = refl
same-members [] (y ∷ ys) a b f g = in-none y (g y (here y ys))
same-members (x ∷ xs) [] a b f g = in-none x (f x (here x xs))
same-members (x ∷ xs) (y ∷ ys) a b f g =
    let e : x ≡ y = heads (here-or-there y ys x (f x (here x xs))) (here-or-there x xs y (g y (here y ys))) in
    ap (λ k. k ∷ xs) e
    ∙ ap (λ ks. y ∷ ks)
    (same-members xs ys (tail-up x xs a) (tail-up y ys b)
    (λ z c. left z c e (here-or-there y ys z (f z (there x xs z c))))
    (λ z c. right z c e (here-or-there x xs z (g z (there y ys z c)))))
  where
    heads : (y ≡ x) ⊎ Contains ys x → (x ≡ y) ⊎ Contains xs y → x ≡ y
    heads (inl e) j = sym e
    heads (inr i) (inl e) = e
    heads (inr i) (inr j) = let p = above y ys b x i in let q = above x xs a y j in absurd (omega (arith, p, q))

    left : (z : ℕ) → Contains xs z → x ≡ y → (y ≡ z) ⊎ Contains ys z → Contains ys z
    left z c e (inl s) = let p = above x xs a z c in absurd (omega (arith, p, e, s))
    left z c e (inr i) = i

    right : (z : ℕ) → Contains ys z → x ≡ y → (x ≡ z) ⊎ Contains xs z → Contains xs z
    right z c e (inl s) = let p = above y ys b z c in absurd (omega (arith, p, e, s))
    right z c e (inr i) = i
