-- Loop names after a turn, and lines that were met before.
use Rattle.std.proofs.Common.{◌≡◌, ◌<◌, ◌≤◌, ◌⊎◌, inl, inr, ℕ, zero, suc, ◌+◌, Bool, true, false, ◌||◌, List, [], ◌∷◌, ◌++◌, Option, Some, None, length, get_or, set, take, drop, subst, refl, sym, ap, ap₂, ◌∙◌, arith}
use Rattle.std.specs.Prelude.{if◌then◌else◌, IsTrue}
use Rattle.std.specs.List.{list_any}
use Rattle.std.proofs.lemmas.List.{drop_more, take_more}
use Rattle.lowering.specs.declared.feed.Carried.{Carried}
use Rattle.line_types.proofs.Same.{In, in-left, in-right}
use Rattle.line_types.specs.Traces.{Phrase, collected, renew, renew_one}
use Rattle.line_labels.specs.Needs.{is_same, put, added}
use Rattle.line_labels.proofs.Found.{same-itself}
use Rattle.lowering.specs.Loops.{place_of}
use Rattle.line_walk.specs.Met.{column_at, next_column, first_flag}
use Rattle.line_walk.proofs.Adds.{any-in}

pub set_past : {X : Type 0} (xs : List X) (i : ℕ) (x : X) → length xs ≤ i → set xs i x ≡ xs
set_past [] i x le = refl
set_past (y ∷ ys) zero x le = absurd (omega (arith, le))
set_past (y ∷ ys) (suc i) x le = ap (λ k. y ∷ k) (set_past ys i x (omega (arith, le)))

pub no_renewal : (ds : List (Option ℕ)) (cs l : List Carried) → (ds ≡ []) ⊎ (cs ≡ []) → renew ds cs l ≡ l
no_renewal [] cs l h = refl
no_renewal (d ∷ ds) [] l h = refl
no_renewal (d ∷ ds) (c ∷ cs) l (inl e) = absurd cc
no_renewal (d ∷ ds) (c ∷ cs) l (inr e) = absurd cc

-- one name of the turn more, before those behind it
pub one_renewal : (ds : List (Option ℕ)) (cs l : List Carried) (left : ℕ) (d : Option ℕ) (c : Carried) → left < length ds → left < length cs → d ≡ get_or ds left d → c ≡ get_or cs left c
    → renew_one d c (renew (drop (left + 1) ds) (drop (left + 1) cs) l) ≡ renew (drop left ds) (drop left cs) l
one_renewal ds cs l left d c ld lc is at =
    sym (ap₂ (λ x y. renew x y l) (drop_more ds left d ld ∙ ap (λ k. k ∷ drop (left + 1) ds) (sym is)) (drop_more cs left c lc ∙ ap (λ k. k ∷ drop (left + 1) cs) (sym at)))

-- ---- what was met before

any-here : (c : Carried) (ks : List Carried) → In c ks → list_any (is_same c) ks ≡ true
any-here c [] h = elim h [ ]
any-here c (k ∷ ks) (inl e) = ap (λ x. is_same c x || list_any (is_same c) ks) (sym e) ∙ ap (λ (b : Bool). b || list_any (is_same c) ks) (same-itself c)
any-here c (k ∷ ks) (inr h) = by (is_same c k) (any-here c ks h)
  where
    by : (b : Bool) → list_any (is_same c) ks ≡ true → (b || list_any (is_same c) ks) ≡ true
    by true r = refl
    by false r = r

put-known : (ks : List Carried) (c : Carried) → In c ks → put ks c ≡ ks
put-known ks c h = ap (λ (b : Bool). if b then ks else ks ++ c ∷ []) (any-here c ks h)

put-keeps : (ks : List Carried) (c d : Carried) → In d ks → In d (put ks c)
put-keeps ks c d h = by (list_any (is_same c) ks)
  where
    by : (b : Bool) → In d (if b then ks else ks ++ c ∷ [])
    by true = h
    by false = in-left d ks (c ∷ []) h

put-has : (ks : List Carried) (c : Carried) → In c (put ks c)
put-has ks c = by (list_any (is_same c) ks) refl
  where
    by : (b : Bool) → list_any (is_same c) ks ≡ b → In c (if b then ks else ks ++ c ∷ [])
    by true is = any-in c ks is
    by false is = in-right c ks (c ∷ []) (inl refl)

pub added-keeps : (ks cs : List Carried) (d : Carried) → In d ks → In d (added ks cs)
added-keeps ks [] d h = h
added-keeps ks (c ∷ cs) d h = added-keeps (put ks c) cs d (put-keeps ks c d h)

pub added-has : (ks cs : List Carried) (d : Carried) → In d cs → In d (added ks cs)
added-has ks [] d h = elim h [ ]
added-has ks (c ∷ cs) d (inl e) = added-keeps (put ks c) cs d (subst (λ x. In x (put ks c)) (sym e) (put-has ks c))
added-has ks (c ∷ cs) d (inr h) = added-has (put ks c) cs d h

-- each of these is among those
abbrev pub AreKnown : List Carried → List Carried → Type 0
AreKnown ks cs = (c : Carried) → In c cs → In c ks

pub known-added : (ks cs : List Carried) → AreKnown (added ks cs) cs
known-added ks cs = λ c h. added-has ks cs c h

pub known-later : (ks cs ds : List Carried) → AreKnown ks cs → AreKnown (added ks ds) cs
known-later ks cs ds h = λ c i. added-keeps ks ds c (h c i)

-- what is known is not added again
pub added-known : (ks cs : List Carried) → AreKnown ks cs → added ks cs ≡ ks
added-known ks [] h = refl
added-known ks (c ∷ cs) h = ap (λ k. added k cs) (put-known ks c (h c (inl refl))) ∙ added-known ks cs (λ d i. h d (inr i))

-- lines that are known, which may be met again or not
pub again-added : (ks : List Carried) (b : Bool) (before now : List Carried) → (IsTrue b → now ≡ before) → AreKnown ks before → (if b then ks else added ks now) ≡ added ks now
again-added ks true before now same known = sym (ap (added ks) (same refl) ∙ added-known ks before known)
again-added ks false before now same known = refl

-- ---- where values are collected

pub one-column : (loop : Option ℕ → Option ℕ) (next : ℕ) (bs : List Bool) (p : Phrase) (ps : List Phrase)
    → collected loop next bs (p ∷ ps) ≡ column_at (first_flag bs) (loop p.name) next ++ collected loop (next_column (first_flag bs) (loop p.name) next) (drop 1 bs) ps
one-column loop next [] p [] = refl
one-column loop next [] p (x ∷ xs) = refl
one-column loop next (true ∷ bs) p ps = refl
one-column loop next (false ∷ bs) p ps = by (loop p.name)
  where
    by : (d : Option ℕ) → place_of next d (λ k. collected loop k bs ps) ≡ column_at (Some false) d next ++ collected loop (next_column (Some false) d next) bs ps
    by None = refl
    by (Some x) = refl

pub one_behind : (xs ys : List Carried) (n : ℕ) → ys ≡ drop n xs → drop 1 ys ≡ drop (suc n) xs
one_behind xs ys n e = ap (drop 1) e ∙ twice n xs
  where
    twice : (k : ℕ) (zs : List Carried) → drop 1 (drop k zs) ≡ drop (suc k) zs
    twice zero zs = refl
    twice (suc k) [] = refl
    twice (suc k) (z ∷ zs) = twice k zs

pub one_same : (xs ys : List Carried) (i : ℕ) (a b : Carried) → i < length xs → i < length ys → a ≡ get_or xs i a → b ≡ get_or ys i b → a ≡ b → take i xs ≡ take i ys → take (i + 1) xs ≡ take (i + 1) ys
one_same xs ys i a b lx ly ea eb e h = take_more xs i a lx ∙ (ap₂ (λ l x. l ++ x ∷ []) h (sym ea ∙ (e ∙ eb)) ∙ sym (take_more ys i b ly))
