-- Numbers from a place of a list on, none of which stands twice.
use Rattle.std.proofs.Common.{◌≡◌, ◌<◌, ◌+◌, ℕ, zero, suc, Bool, true, false, ◌||◌, ◌&&◌, not, List, [], ◌∷◌, ◌++◌, drop, length, get_or, refl, sym, ap, subst, ◌∙◌, if◌then◌else◌, nat_eq}
use Rattle.std.specs.List.{list_any}
use Rattle.indexmap.specs.IndexSet.{insert_key}
use Rattle.type_rules.specs.Records.{are_distinct}
use Rattle.type_rules.proofs.Lists.{cut}

or_swap : (a b c : Bool) → (a || (b || c)) ≡ (b || (a || c))
or_swap true true c = refl
or_swap true false c = refl
or_swap false true c = refl
or_swap false false c = refl

any_last : (p : ℕ → Bool) (ks : List ℕ) (x : ℕ) → list_any p (ks ++ x ∷ []) ≡ (p x || list_any p ks)
any_last p [] x = refl
any_last p (k ∷ ks) x = ap (λ b. p k || b) (any_last p ks x) ∙ or_swap (p k) (p x) (list_any p ks)

as_false : (b : Bool) → not b ≡ true → b ≡ false
as_false true e = cc
as_false false e = refl

as_true : (b : Bool) → not b ≡ false → b ≡ true
as_true true e = refl
as_true false e = cc

-- these keys are the numbers of the list
abbrev pub Seen : List ℕ → List ℕ → Type 0
Seen ks d = (y : ℕ) → list_any (nat_eq y) ks ≡ list_any (nat_eq y) d

inserted : (b : Bool) (ks : List ℕ) (x : ℕ) → b ≡ false → (if b then ks else ks ++ x ∷ []) ≡ ks ++ x ∷ []
inserted true ks x e = cc
inserted false ks x e = refl

seen_with : (ks d : List ℕ) (x : ℕ) → Seen ks d → list_any (nat_eq x) ks ≡ false → Seen (insert_key nat_eq ks x) (x ∷ d)
seen_with ks d x seen fresh = λ y.
    ap (list_any (nat_eq y)) (inserted (list_any (nat_eq x) ks) ks x fresh)
    ∙ any_last (nat_eq y) ks x
    ∙ ap (λ b. nat_eq y x || b) (seen y)

-- the number at a place, and those behind it
behind : (xs : List ℕ) (i at x d : ℕ) → i < length xs → x ≡ get_or xs i d → i + 1 ≡ at → drop i xs ≡ x ∷ drop at xs
behind xs i at x d within is next = cut xs i x d within is ∙ ap (λ k. x ∷ drop k xs) next

pub seen_more : (xs ks new : List ℕ) (i at x d : ℕ) → i < length xs → x ≡ get_or xs i d → i + 1 ≡ at → Seen ks (drop at xs)
    → not (list_any (nat_eq x) ks) ≡ true → new ≡ insert_key nat_eq ks x → Seen new (drop i xs)
seen_more xs ks new i at x d within is next seen fresh keys =
    subst (Seen new) (sym (behind xs i at x d within is next))
    (subst (λ ns. Seen ns (x ∷ drop at xs)) (sym keys) (seen_with ks (drop at xs) x seen (as_false (list_any (nat_eq x) ks) fresh)))

pub distinct_more : (xs ks : List ℕ) (i at x d : ℕ) → i < length xs → x ≡ get_or xs i d → i + 1 ≡ at → Seen ks (drop at xs) → are_distinct (drop at xs) ≡ true
    → not (list_any (nat_eq x) ks) ≡ true → are_distinct (drop i xs) ≡ true
distinct_more xs ks i at x d within is next seen whole fresh =
    ap are_distinct (behind xs i at x d within is next)
    ∙ ap (λ b. not b && are_distinct (drop at xs)) (sym (seen x))
    ∙ ap (λ b. b && are_distinct (drop at xs)) fresh
    ∙ whole

and_false : (b : Bool) → (b && false) ≡ false
and_false true = refl
and_false false = refl

-- where a number stands twice behind a place, one stands twice
twice_before : (xs : List ℕ) (i : ℕ) → are_distinct (drop i xs) ≡ false → are_distinct xs ≡ false
twice_before xs zero e = e
twice_before [] (suc i) e = e
twice_before (x ∷ xs) (suc i) e = ap (λ b. not (list_any (nat_eq x) xs) && b) (twice_before xs i e) ∙ and_false (not (list_any (nat_eq x) xs))

pub twice : (xs ks : List ℕ) (i at x d : ℕ) → i < length xs → x ≡ get_or xs i d → i + 1 ≡ at → Seen ks (drop at xs)
    → not (list_any (nat_eq x) ks) ≡ false → are_distinct xs ≡ false
twice xs ks i at x d within is next seen found =
    twice_before xs i
    (ap are_distinct (behind xs i at x d within is next)
    ∙ ap (λ b. not b && are_distinct (drop at xs)) (sym (seen x))
    ∙ ap (λ b. b && are_distinct (drop at xs)) found)
