-- The names in force have the types of their levels.
use Rattle.std.proofs.Common.{◌≡◌, ℕ, zero, suc, ◌+◌, ◌-◌, Bool, true, false, List, [], ◌∷◌, ◌++◌, nat_eq, length, Option, Some, None, slice_get, refl, ap, sym, subst, ◌∙◌, arith, append_assoc}
use Rattle.std.specs.Prelude.{if◌then◌else◌}
use Rattle.std.proofs.lemmas.Option.{same_Some, none-some}
use Rattle.name_scope.specs.Newest.{newest}
use Rattle.flow_value.specs.declared.ty.Ty.{Ty}
use Rattle.sisal_tree.specs.declared.expr.Def.{Def}
use Rattle.typed_tree.specs.Scopes.{Meaning, At, Later, Scope, define, define_all, loop_names, not_yet, in_turn, targets, renewals, KeepTypes, KeepsType}
use Rattle.typed_tree.specs.Typing.{loop_of}
use Rattle.fitting_trees.specs.Fitting.{Renews}

-- ---- names

-- each name that stands for a level has the type of the level
abbrev pub IsAt : List Ty → Meaning → Type 0
IsAt γ (At level a) = slice_get γ level ≡ Some a
IsAt γ Later = Unit {0}

abbrev pub AreAt : List Ty → List (ℕ × Meaning) → Type 0
AreAt γ [] = Unit {0}
AreAt γ (n ∷ ns) = IsAt γ n.1 × AreAt γ ns

pub record IsScope (γ : List Ty) (s : Scope) : Type 0 where
  pub height : length γ ≡ s.height
  pub names : AreAt γ s.names
  pub olds : AreAt γ s.olds

pub newest_at : (γ : List Ty) (x : ℕ) (ns : List (ℕ × Meaning)) (m : Meaning) → AreAt γ ns → newest x ns ≡ Some m → IsAt γ m
newest_at γ x [] m p e = absurd (none-some m e)
newest_at γ x (n ∷ ns) m p e = by (newest_at γ x ns m p.1) (nat_eq x n.0) e
  where
    by : (newest x ns ≡ Some m → IsAt γ m) → (b : Bool) → (if b then Some n.1 else newest x ns) ≡ Some m → IsAt γ m
    by rest true e = subst (λ z. IsAt γ z) (same_Some n.1 m e) p.0
    by rest false e = rest e

get_before : (γ δ : List Ty) (i : ℕ) (a : Ty) → slice_get γ i ≡ Some a → slice_get (γ ++ δ) i ≡ Some a
get_before [] δ i a e = absurd (none-some a e)
get_before (t ∷ γ) δ zero a e = e
get_before (t ∷ γ) δ (suc i) a e = get_before γ δ i a e

pub get_next : (γ : List Ty) (a : Ty) → slice_get (γ ++ a ∷ []) (length γ) ≡ Some a
get_next [] a = refl
get_next (t ∷ γ) a = get_next γ a

at_more : (γ δ : List Ty) (ns : List (ℕ × Meaning)) → AreAt γ ns → AreAt (γ ++ δ) ns
at_more γ δ [] p = tt
at_more γ δ ((x, At level a) ∷ ns) p = (get_before γ δ level a p.0, at_more γ δ ns p.1)
at_more γ δ ((x, Later) ∷ ns) p = (tt, at_more γ δ ns p.1)

count_next : (γ : List Ty) (a : Ty) → length (γ ++ a ∷ []) ≡ suc (length γ)
count_next [] a = refl
count_next (t ∷ γ) a = ap suc (count_next γ a)

pub define_scope : (x : ℕ) (a : Ty) (γ : List Ty) (s : Scope) → IsScope γ s → IsScope (γ ++ a ∷ []) (define x a s)
define_scope x a γ s p = record {
  height = count_next γ a ∙ ap suc p.height;
  names = (subst (λ i. slice_get (γ ++ a ∷ []) i ≡ Some a) p.height (get_next γ a), at_more γ (a ∷ []) s.names p.names);
  olds = at_more γ (a ∷ []) s.olds p.olds;
}

pub nil_right : (γ : List Ty) → γ ++ [] ≡ γ
nil_right [] = refl
nil_right (t ∷ γ) = ap (λ ts. t ∷ ts) (nil_right γ)

pub define_all_scope : (xs : List ℕ) (tys γ : List Ty) (s : Scope) → length xs ≡ length tys → IsScope γ s → IsScope (γ ++ tys) (define_all xs tys s)
define_all_scope [] [] γ s e p = subst (λ z. IsScope z s) (sym (nil_right γ)) p
define_all_scope [] (a ∷ tys) γ s e p = absurd (omega (arith, e))
define_all_scope (x ∷ xs) [] γ s e p = absurd (omega (arith, e))
define_all_scope (x ∷ xs) (a ∷ tys) γ s e p =
    subst (λ z. IsScope z (define_all xs tys (define x a s))) (append_assoc γ (a ∷ []) tys) (define_all_scope xs tys (γ ++ a ∷ []) (define x a s) (omega (arith, e)) (define_scope x a γ s p))

-- ---- loops

at_append : (γ : List Ty) (ns ms : List (ℕ × Meaning)) → AreAt γ ns → AreAt γ ms → AreAt γ (ns ++ ms)
at_append γ [] ms p q = q
at_append γ (n ∷ ns) ms p q = (p.0, at_append γ ns ms p.1 q)

get_there : (γ δ : List Ty) (a : Ty) → slice_get (γ ++ a ∷ δ) (length γ) ≡ Some a
get_there [] δ a = refl
get_there (t ∷ γ) δ a = get_there γ δ a

loop_at : (xs : List ℕ) (tys γ : List Ty) (level : ℕ) → length γ ≡ level → AreAt (γ ++ tys) (loop_names level xs tys)
loop_at [] tys γ level e = tt
loop_at (x ∷ xs) [] γ level e = tt
loop_at (x ∷ xs) (a ∷ tys) γ level e =
    at_append (γ ++ a ∷ tys) (loop_names (suc level) xs tys) ((x, At level a) ∷ [])
    (subst (λ z. AreAt z (loop_names (suc level) xs tys)) (append_assoc γ (a ∷ []) tys) (loop_at xs tys (γ ++ a ∷ []) (suc level) (count_next γ a ∙ ap suc e)))
    (subst (λ i. slice_get (γ ++ a ∷ tys) i ≡ Some a) e (get_there γ tys a), tt)

not_yet_none : (ms : List (ℕ × Meaning)) (x : ℕ) (xs : List ℕ) → newest x ms ≡ None → not_yet ms (x ∷ xs) ≡ not_yet ms xs
not_yet_none ms x xs e = rw e refl

not_yet_some : (ms : List (ℕ × Meaning)) (x : ℕ) (xs : List ℕ) (m : Meaning) → newest x ms ≡ Some m → not_yet ms (x ∷ xs) ≡ (x, Later) ∷ not_yet ms xs
not_yet_some ms x xs m e = rw e refl

later_at : (γ : List Ty) (loop : List (ℕ × Meaning)) (xs : List ℕ) → AreAt γ (not_yet loop xs)
later_at γ loop [] = tt
later_at γ loop (x ∷ xs) = by (later_at γ loop xs) (newest x loop) refl
  where
    by : AreAt γ (not_yet loop xs) → (o : Option Meaning) → newest x loop ≡ o → AreAt γ (not_yet loop (x ∷ xs))
    by rest None e = subst (λ l. AreAt γ l) (sym (not_yet_none loop x xs e)) rest
    by rest (Some m) e = subst (λ l. AreAt γ l) (sym (not_yet_some loop x xs m e)) (tt, rest)

pub turn_scope : (γ first : List Ty) (s started : Scope) (ds : List Def) (xs : List ℕ) → length γ ≡ s.height → IsScope (γ ++ first) started → IsScope (γ ++ first) (in_turn (loop_of s ds first) xs started)
turn_scope γ first s started ds xs e p = record {
  height = p.height;
  names = at_append (γ ++ first) (not_yet (loop_of s ds first) xs) started.names (later_at (γ ++ first) (loop_of s ds first) xs) p.names;
  olds = at_append (γ ++ first) (loop_of s ds first) started.olds (loop_at (targets ds) first γ s.height e) p.olds;
}

-- ---- names that a turn renews

renewal_none : (loop : List (ℕ × Meaning)) (from x : ℕ) (xs : List ℕ) → newest x loop ≡ None → renewals loop from (x ∷ xs) ≡ None ∷ renewals loop from xs
renewal_none loop from x xs e = rw e refl

renewal_later : (loop : List (ℕ × Meaning)) (from x : ℕ) (xs : List ℕ) → newest x loop ≡ Some Later → renewals loop from (x ∷ xs) ≡ None ∷ renewals loop from xs
renewal_later loop from x xs e = rw e refl

renewal_some : (loop : List (ℕ × Meaning)) (from x level : ℕ) (a : Ty) (xs : List ℕ) → newest x loop ≡ Some (At level a) → renewals loop from (x ∷ xs) ≡ Some (level - from) ∷ renewals loop from xs
renewal_some loop from x level a xs e = rw e refl

-- each loop name has its type at its place among them
abbrev IsFrom : ℕ → List Ty → Meaning → Type 0
IsFrom from first (At level a) = slice_get first (level - from) ≡ Some a
IsFrom from first Later = Unit {0}

abbrev AreFrom : ℕ → List Ty → List (ℕ × Meaning) → Type 0
AreFrom from first [] = Unit {0}
AreFrom from first (n ∷ ns) = IsFrom from first n.1 × AreFrom from first ns

from_append : (from : ℕ) (first : List Ty) (ns ms : List (ℕ × Meaning)) → AreFrom from first ns → AreFrom from first ms → AreFrom from first (ns ++ ms)
from_append from first [] ms p q = q
from_append from first (n ∷ ns) ms p q = (p.0, from_append from first ns ms p.1 q)

loop_from : (from : ℕ) (xs : List ℕ) (tys done : List Ty) (level : ℕ) → from + length done ≡ level → AreFrom from (done ++ tys) (loop_names level xs tys)
loop_from from [] tys done level e = tt
loop_from from (x ∷ xs) [] done level e = tt
loop_from from (x ∷ xs) (a ∷ tys) done level e =
    let next = count_next done a in
    let place : length done ≡ level - from = omega (arith, e) in
    from_append from (done ++ a ∷ tys) (loop_names (suc level) xs tys) ((x, At level a) ∷ [])
    (subst (λ z. AreFrom from z (loop_names (suc level) xs tys)) (append_assoc done (a ∷ []) tys) (loop_from from xs tys (done ++ a ∷ []) (suc level) (omega (arith, e, next))))
    (subst (λ i. slice_get (done ++ a ∷ tys) i ≡ Some a) place (get_there done tys a), tt)

newest_from : (from : ℕ) (first : List Ty) (x : ℕ) (ns : List (ℕ × Meaning)) (m : Meaning) → AreFrom from first ns → newest x ns ≡ Some m → IsFrom from first m
newest_from from first x [] m p e = absurd (none-some m e)
newest_from from first x (n ∷ ns) m p e = by (newest_from from first x ns m p.1) (nat_eq x n.0) e
  where
    by : (newest x ns ≡ Some m → IsFrom from first m) → (b : Bool) → (if b then Some n.1 else newest x ns) ≡ Some m → IsFrom from first m
    by rest true e = subst (λ z. IsFrom from first z) (same_Some n.1 m e) p.0
    by rest false e = rest e

renews : (from : ℕ) (first : List Ty) (loop : List (ℕ × Meaning)) → AreFrom from first loop → (xs : List ℕ) (later : List Ty) → length xs ≡ length later → KeepTypes loop xs later → Renews first (renewals loop from xs) later
renews from first loop p [] [] e k = tt
renews from first loop p [] (t ∷ later) e k = absurd (omega (arith, e))
renews from first loop p (x ∷ xs) [] e k = absurd (omega (arith, e))
renews from first loop p (x ∷ xs) (t ∷ later) e k = by (renews from first loop p xs later (omega (arith, e)) k.1) (newest x loop) refl
  where
    by : Renews first (renewals loop from xs) later → (o : Option Meaning) → newest x loop ≡ o → Renews first (renewals loop from (x ∷ xs)) (t ∷ later)
    by rest None f = subst (λ l. Renews first l (t ∷ later)) (sym (renewal_none loop from x xs f)) rest
    by rest (Some Later) f = subst (λ l. Renews first l (t ∷ later)) (sym (renewal_later loop from x xs f)) rest
    by rest (Some (At level a)) f =
        let same : t ≡ a = subst (λ o. KeepsType t o) f k.0 in
        subst (λ l. Renews first l (t ∷ later)) (sym (renewal_some loop from x level a xs f)) (newest_from from first x loop (At level a) p f ∙ ap Some (sym same), rest)

pub loop_renews : (s : Scope) (ds : List Def) (first : List Ty) (xs : List ℕ) (later : List Ty) → length xs ≡ length later → KeepTypes (loop_of s ds first) xs later → Renews first (renewals (loop_of s ds first) s.height xs) later
loop_renews s ds first xs later e k = renews s.height first (loop_of s ds first) (loop_from s.height (targets ds) first [] s.height (omega arith)) xs later e k
