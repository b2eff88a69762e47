-- Names in force whose types have no field or tag twice.
use Rattle.std.proofs.Common.{◌≡◌, ℕ, suc, Bool, true, false, List, [], ◌∷◌, ◌++◌, nat_eq, Option, Some, None, All, refl, sym, subst}
use Rattle.std.specs.Prelude.{if◌then◌else◌}
use Rattle.std.proofs.lemmas.Option.{same_Some, none-some}
use Rattle.std.proofs.lemmas.List.Elements.{All-head, All-tail}
use Rattle.name_scope.specs.Newest.{newest}
use Rattle.flow_value.specs.declared.ty.Ty.{Ty}
use Rattle.sisal_tree.specs.declared.expr.Def.{Def}
use Rattle.typed_tree.specs.Scopes.{Meaning, At, Later, Scope, no_names, define, define_all, loop_names, not_yet, in_turn, targets}
use Rattle.typed_tree.specs.Typing.{loop_of, with_content}
use Rattle.typing_unique.specs.Fair.{IsProper}
use Rattle.typing_unique.specs.Inverted.{IsProperMeaning, AreProperNames, IsProperScope}

newest_proper : (x : ℕ) (ns : List (ℕ × Meaning)) (m : Meaning) → AreProperNames ns → newest x ns ≡ Some m → IsProperMeaning m
newest_proper x [] m p e = absurd (none-some m e)
newest_proper x (n ∷ ns) m p e = by (newest_proper x ns m p.1) (nat_eq x n.0) e
  where
    by : (newest x ns ≡ Some m → IsProperMeaning m) → (b : Bool) → (if b then Some n.1 else newest x ns) ≡ Some m → IsProperMeaning m
    by rest true e = subst IsProperMeaning (same_Some n.1 m e) p.0
    by rest false e = rest e

pub name_proper : (x : ℕ) (ns : List (ℕ × Meaning)) (level : ℕ) (a : Ty) → AreProperNames ns → newest x ns ≡ Some (At level a) → IsProper a
name_proper x ns level a p e = newest_proper x ns (At level a) p e

append_proper : (ns ms : List (ℕ × Meaning)) → AreProperNames ns → AreProperNames ms → AreProperNames (ns ++ ms)
append_proper [] ms p q = q
append_proper (n ∷ ns) ms p q = (p.0, append_proper ns ms p.1 q)

pub no_names_proper : IsProperScope no_names
no_names_proper = record { names = tt; olds = tt }

pub define_proper : (x : ℕ) (a : Ty) (s : Scope) → IsProper a → IsProperScope s → IsProperScope (define x a s)
define_proper x a s p q = record { names = (p, q.names); olds = q.olds }

pub defined_proper : (xs : List ℕ) (tys : List Ty) (s : Scope) → All IsProper tys → IsProperScope s → IsProperScope (define_all xs tys s)
defined_proper [] tys s p q = q
defined_proper (x ∷ xs) [] s p q = q
defined_proper (x ∷ xs) (a ∷ tys) s p q = defined_proper xs tys (define x a s) (All-tail IsProper a tys p) (define_proper x a s (All-head IsProper a tys p) q)

pub content_defined : (x : Option ℕ) (a : Ty) (s : Scope) → IsProper a → IsProperScope s → IsProperScope (with_content x a s)
content_defined None a s p q = q
content_defined (Some x) a s p q = define_proper x a s p q

loop_proper : (level : ℕ) (xs : List ℕ) (tys : List Ty) → All IsProper tys → AreProperNames (loop_names level xs tys)
loop_proper level [] tys p = tt
loop_proper level (x ∷ xs) [] p = tt
loop_proper level (x ∷ xs) (a ∷ tys) p =
    append_proper (loop_names (suc level) xs tys) ((x, At level a) ∷ []) (loop_proper (suc level) xs tys (All-tail IsProper a tys p)) (All-head IsProper a tys p, tt)

not_yet_none : (ms : List (ℕ × Meaning)) (x : ℕ) (xs : List ℕ) → newest x ms ≡ None → not_yet ms (x ∷ xs) ≡ not_yet ms xs
not_yet_none ms x xs e = rw e refl

not_yet_some : (ms : List (ℕ × Meaning)) (x : ℕ) (xs : List ℕ) (m : Meaning) → newest x ms ≡ Some m → not_yet ms (x ∷ xs) ≡ (x, Later) ∷ not_yet ms xs
not_yet_some ms x xs m e = rw e refl

later_proper : (loop : List (ℕ × Meaning)) (xs : List ℕ) → AreProperNames (not_yet loop xs)
later_proper loop [] = tt
later_proper loop (x ∷ xs) = by (later_proper loop xs) (newest x loop) refl
  where
    by : AreProperNames (not_yet loop xs) → (o : Option Meaning) → newest x loop ≡ o → AreProperNames (not_yet loop (x ∷ xs))
    by rest None e = subst AreProperNames (sym (not_yet_none loop x xs e)) rest
    by rest (Some m) e = subst AreProperNames (sym (not_yet_some loop x xs m e)) (tt, rest)

pub turn_proper : (s started : Scope) (ds : List Def) (first : List Ty) (xs : List ℕ) → All IsProper first → IsProperScope started → IsProperScope (in_turn (loop_of s ds first) xs started)
turn_proper s started ds first xs p q = record {
  names = append_proper (not_yet (loop_of s ds first) xs) started.names (later_proper (loop_of s ds first) xs) q.names;
  olds = append_proper (loop_of s ds first) started.olds (loop_proper s.height (targets ds) first p) q.olds;
}
