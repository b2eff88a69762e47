-- The levels of the names in force are those in use.
use Rattle.std.proofs.Common.{◌≡◌, ℕ, suc, ◌+◌, ◌-◌, ◌<◌, ◌≤◌, Bool, true, false, List, [], ◌∷◌, ◌++◌, nat_eq, Option, Some, None, All, length, refl, sym, ap, subst, arith}
use Rattle.std.specs.Prelude.{if◌then◌else◌}
use Rattle.std.proofs.lemmas.Option.{same_Some, none-some}
use Rattle.std.proofs.lemmas.List.Elements.{All-nil, All-cons}
use Rattle.name_scope.specs.Newest.{newest}
use Rattle.flow_value.specs.declared.ty.Ty.{Ty}
use Rattle.sisal_tree.specs.declared.expr.Def.{Def}
use Rattle.typed_tree.specs.Scopes.{Meaning, At, Later, Scope, no_names, define, define_all, loop_names, not_yet, in_turn, targets, renewals}
use Rattle.typed_tree.specs.Typing.{loop_of, with_content}
use Rattle.bound_trees.specs.Bound.{IsRenewal}

-- a level from low up to high, without high
abbrev pub IsWithin : ℕ → ℕ → Meaning → Type 0
IsWithin low high (At level a) = (low ≤ level) × (level < high)
IsWithin low high Later = Unit {0}

abbrev pub AreWithin : ℕ → ℕ → List (ℕ × Meaning) → Type 0
AreWithin low high [] = Unit {0}
AreWithin low high (n ∷ ns) = IsWithin low high n.1 × AreWithin low high ns

pub record IsLow (s : Scope) : Type 0 where
  pub names : AreWithin 0 s.height s.names
  pub olds : AreWithin 0 s.height s.olds

newest_within : (low high x : ℕ) (ns : List (ℕ × Meaning)) (m : Meaning) → AreWithin low high ns → newest x ns ≡ Some m → IsWithin low high m
newest_within low high x [] m p e = absurd (none-some m e)
newest_within low high x (n ∷ ns) m p e = by (newest_within low high x ns m p.1) (nat_eq x n.0) e
  where
    by : (newest x ns ≡ Some m → IsWithin low high m) → (b : Bool) → (if b then Some n.1 else newest x ns) ≡ Some m → IsWithin low high m
    by rest true e = subst (λ z. IsWithin low high z) (same_Some n.1 m e) p.0
    by rest false e = rest e

pub level_below : (high x : ℕ) (ns : List (ℕ × Meaning)) (level : ℕ) (a : Ty) → AreWithin 0 high ns → newest x ns ≡ Some (At level a) → level < high
level_below high x ns level a p e = (newest_within 0 high x ns (At level a) p e).1

wider_one : (low high lower higher : ℕ) (m : Meaning) → lower ≤ low → high ≤ higher → IsWithin low high m → IsWithin lower higher m
wider_one low high lower higher (At level a) l h p = let from = p.0 in let to = p.1 in (omega (arith, l, from), omega (arith, h, to))
wider_one low high lower higher Later l h p = tt

wider : (low high lower higher : ℕ) (ns : List (ℕ × Meaning)) → lower ≤ low → high ≤ higher → AreWithin low high ns → AreWithin lower higher ns
wider low high lower higher [] l h p = tt
wider low high lower higher (n ∷ ns) l h p = (wider_one low high lower higher n.1 l h p.0, wider low high lower higher ns l h p.1)

append_within : (low high : ℕ) (ns ms : List (ℕ × Meaning)) → AreWithin low high ns → AreWithin low high ms → AreWithin low high (ns ++ ms)
append_within low high [] ms p q = q
append_within low high (n ∷ ns) ms p q = (p.0, append_within low high ns ms p.1 q)

-- ---- scopes

pub no_names_low : IsLow no_names
no_names_low = record { names = tt; olds = tt }

pub define_low : (x : ℕ) (a : Ty) (s : Scope) → IsLow s → IsLow (define x a s)
define_low x a s p = record {
  names = ((omega arith, omega arith), wider 0 s.height 0 (suc s.height) s.names (omega arith) (omega arith) p.names);
  olds = wider 0 s.height 0 (suc s.height) s.olds (omega arith) (omega arith) p.olds;
}

pub defined_low : (xs : List ℕ) (tys : List Ty) (s : Scope) → IsLow s → IsLow (define_all xs tys s)
defined_low [] tys s p = p
defined_low (x ∷ xs) [] s p = p
defined_low (x ∷ xs) (a ∷ tys) s p = defined_low xs tys (define x a s) (define_low x a s p)

pub defined_height : (xs : List ℕ) (tys : List Ty) (s : Scope) → length xs ≡ length tys → (define_all xs tys s).height ≡ s.height + length tys
defined_height [] [] s e = omega arith
defined_height [] (a ∷ tys) s e = absurd (omega (arith, e))
defined_height (x ∷ xs) [] s e = absurd (omega (arith, e))
defined_height (x ∷ xs) (a ∷ tys) s e = let rest = defined_height xs tys (define x a s) (omega (arith, e)) in omega (arith, rest)

pub content_low : (x : Option ℕ) (a : Ty) (s : Scope) → IsLow s → IsLow (with_content x a s)
content_low None a s p = p
content_low (Some x) a s p = define_low x a s p

-- ---- loops

loop_within : (level : ℕ) (xs : List ℕ) (tys : List Ty) → AreWithin level (level + length tys) (loop_names level xs tys)
loop_within level [] tys = tt
loop_within level (x ∷ xs) [] = tt
loop_within level (x ∷ xs) (a ∷ tys) =
    append_within level (level + length (a ∷ tys)) (loop_names (suc level) xs tys) ((x, At level a) ∷ [])
    (wider (suc level) (suc level + length tys) level (level + length (a ∷ tys)) (loop_names (suc level) xs tys) (omega arith) (omega arith) (loop_within (suc level) xs tys))
    ((omega arith, omega arith), tt)

not_yet_none : (ms : List (ℕ × Meaning)) (x : ℕ) (xs : List ℕ) → newest x ms ≡ None → not_yet ms (x ∷ xs) ≡ not_yet ms xs
not_yet_none ms x xs e = rw e refl

not_yet_some : (ms : List (ℕ × Meaning)) (x : ℕ) (xs : List ℕ) (m : Meaning) → newest x ms ≡ Some m → not_yet ms (x ∷ xs) ≡ (x, Later) ∷ not_yet ms xs
not_yet_some ms x xs m e = rw e refl

later_within : (low high : ℕ) (loop : List (ℕ × Meaning)) (xs : List ℕ) → AreWithin low high (not_yet loop xs)
later_within low high loop [] = tt
later_within low high loop (x ∷ xs) = by (later_within low high loop xs) (newest x loop) refl
  where
    by : AreWithin low high (not_yet loop xs) → (o : Option Meaning) → newest x loop ≡ o → AreWithin low high (not_yet loop (x ∷ xs))
    by rest None e = subst (λ l. AreWithin low high l) (sym (not_yet_none loop x xs e)) rest
    by rest (Some m) e = subst (λ l. AreWithin low high l) (sym (not_yet_some loop x xs m e)) (tt, rest)

pub turn_low : (s started : Scope) (ds : List Def) (first : List Ty) (xs : List ℕ) → s.height + length first ≤ started.height → IsLow started → IsLow (in_turn (loop_of s ds first) xs started)
turn_low s started ds first xs h p = record {
  names = append_within 0 started.height (not_yet (loop_of s ds first) xs) started.names (later_within 0 started.height (loop_of s ds first) xs) p.names;
  olds = append_within 0 started.height (loop_of s ds first) started.olds
      (wider s.height (s.height + length first) 0 started.height (loop_of s ds first) (omega arith) h (loop_within s.height (targets ds) first)) p.olds;
}

-- ---- names that a turn renews

pub renewals_counted : (loop : List (ℕ × Meaning)) (from : ℕ) (xs : List ℕ) → length (renewals loop from xs) ≡ length xs
renewals_counted loop from [] = refl
renewals_counted loop from (x ∷ xs) = ap suc (renewals_counted loop from xs)

renewal_none : (loop : List (ℕ × Meaning)) (from x : ℕ) (xs : List ℕ) → newest x loop ≡ None → renewals loop from (x ∷ xs) ≡ None ∷ renewals loop from xs
renewal_none loop from x xs e = rw e refl

renewal_later : (loop : List (ℕ × Meaning)) (from x : ℕ) (xs : List ℕ) → newest x loop ≡ Some Later → renewals loop from (x ∷ xs) ≡ None ∷ renewals loop from xs
renewal_later loop from x xs e = rw e refl

renewal_some : (loop : List (ℕ × Meaning)) (from x level : ℕ) (a : Ty) (xs : List ℕ) → newest x loop ≡ Some (At level a) → renewals loop from (x ∷ xs) ≡ Some (level - from) ∷ renewals loop from xs
renewal_some loop from x level a xs e = rw e refl

pub renewals_within : (from n : ℕ) (loop : List (ℕ × Meaning)) → AreWithin from (from + n) loop → (xs : List ℕ) → All (IsRenewal n) (renewals loop from xs)
renewals_within from n loop p [] = All-nil (IsRenewal n)
renewals_within from n loop p (x ∷ xs) = by (renewals_within from n loop p xs) (newest x loop) refl
  where
    by : All (IsRenewal n) (renewals loop from xs) → (o : Option Meaning) → newest x loop ≡ o → All (IsRenewal n) (renewals loop from (x ∷ xs))
    by rest None e = subst (λ l. All (IsRenewal n) l) (sym (renewal_none loop from x xs e)) (All-cons (IsRenewal n) None (renewals loop from xs) tt rest)
    by rest (Some Later) e = subst (λ l. All (IsRenewal n) l) (sym (renewal_later loop from x xs e)) (All-cons (IsRenewal n) None (renewals loop from xs) tt rest)
    by rest (Some (At level a)) e =
        let there = newest_within from (from + n) x loop (At level a) p e in
        let low = there.0 in let high = there.1 in
        subst (λ l. All (IsRenewal n) l) (sym (renewal_some loop from x level a xs e)) (All-cons (IsRenewal n) (Some (level - from)) (renewals loop from xs) (omega (arith, low, high)) rest)

pub loop_renewals : (s : Scope) (ds : List Def) (first : List Ty) (xs : List ℕ) → All (IsRenewal (length first)) (renewals (loop_of s ds first) s.height xs)
loop_renewals s ds first xs = renewals_within s.height (length first) (loop_of s ds first) (loop_within s.height (targets ds) first) xs
