-- The turns of a loop by the number of the depth.
use Rattle.std.proofs.Common.{◌≡◌, zero, suc, List, [], ◌∷◌, ◌++◌, map, refl, ap, ◌∙◌}
use Rattle.flow_value.specs.declared.value.Val.{Val}
use Rattle.typed_tree.specs.declared.expr.TypedExpr.{TypedExpr}
use Rattle.meaning.specs.declared.words.Test.{Test}
use Rattle.meaning.specs.declared.words.Test.TheVariants as test
use Rattle.meaning.specs.Timed.{Timed, given, plus, andthen}
use Rattle.meaning.specs.Words.{test_of, goes_on}
use Rattle.meaning.specs.Meaning.{Gives, Members, member, all_of, turned, turn}
use Rattle.source_meaning.proofs.Laws.{then_same}
use Rattle.meaning.specs.Plain.{Depth, at, all_at, turns_at, plain, depth, plain_meaning}
use Rattle.meaning_laws.specs.Laws.{AreTurnsOneLess}

at_plain : (d : Depth) (es : List TypedExpr) → at d (map plain es) ≡ map (λ e. plain e d) es
at_plain d [] = refl
at_plain d (e ∷ es) = ap (λ gs. plain e d ∷ gs) (at_plain d es)

all_at_plain : (d : Depth) (ds : List (List TypedExpr)) → all_at d (map (map plain) ds) ≡ map (map (λ e. plain e d)) ds
all_at_plain d [] = refl
all_at_plain d (x ∷ ds) = ap (λ g. g ∷ all_at d (map (map plain) ds)) (at_plain d x) ∙ ap (λ gs. map (λ e. plain e d) x ∷ gs) (all_at_plain d ds)

turn_same : (t : Test) (m k : List Val → Timed Members) (x : Gives) (l : List Val) → ((v : List Val) → m v ≡ k v) → turn m x l t ≡ turn k x l t
turn_same test.Yes m k x l h = ap (plus 1) (then_same (x l) _ _ (λ v. ap (λ o. andthen o (λ s. given (member l s))) (h v)))
turn_same test.No m k x l h = refl
turn_same (test.Failed c) m k x l h = refl

pub turns_descend : AreTurnsOneLess
turns_descend p zero t test defs env l = refl
turns_descend p (suc n) t test defs env l =
    ap (λ gs. andthen (all_of gs (env ++ l)) (λ ts. turn (turns_at (depth n p) t (map plain test) (map (map plain) defs) env) (turned t (all_at (depth n p) (map (map plain) defs)) env) l (goes_on t.is_until (test_of ts))))
    (at_plain (depth n p) test)
    ∙ (ap (λ ds. andthen (all_of (map (plain_meaning n p) test) (env ++ l)) (λ ts. turn (turns_at (depth n p) t (map plain test) (map (map plain) defs) env) (turned t ds env) l (goes_on t.is_until (test_of ts))))
    (all_at_plain (depth n p) defs)
    ∙ then_same (all_of (map (plain_meaning n p) test) (env ++ l)) _ _
    (λ ts. turn_same (goes_on t.is_until (test_of ts)) _ _ (turned t (map (map (plain_meaning n p)) defs) env) l (λ v. turns_descend p n t test defs env v)))
