use Rattle.std.proofs.Common.{◌≡◌, [], ◌∷◌, sym, ◌∙◌}
use Rattle.std.proofs.lemmas.Result.{IfOk-weaker}
use Rattle.typed_tree.specs.declared.expr.TypedKind.TheVariants as typed
use Rattle.typed_tree.specs.Typing.{at, with}
use Rattle.sisal_tree.specs.declared.expr.ExprKind.TheVariants as tree
use Rattle.typing_laws.specs.Judged.{Typed}
use Rattle.typing_laws.proofs.Leaf.{old_typed}
use Rattle.breaking_laws.proofs.FParts.{old_breaks}
use Rattle.sisal_check.specs.Walked.{given_of}
use Rattle.sisal_check.proofs.leaves.old_value.Goals as goal

pub returns-in-Some-clause-typed : goal.returns-in-Some-clause-typed
returns-in-Some-clause-typed c =
    let g = given_of c.args.given.now in
    let v = c.in-Some.found in
    IfOk-weaker c.level.result (λ t. t ≡ with c.args.line (v.ty ∷ []) (typed.Value v.level)) (λ t. Typed g c.args.walk.now.types c.args.walk.now.names (at c.args.line (tree.Old c.args.name)) t)
    (λ t is. old_typed g c.args.walk.now.types c.args.walk.now.names c.args.line c.args.name v t (sym c.find_old.ensures ∙ c.in-Some.is) is) c.level.ensures.is

pub returns-in-None-clause-breaks : goal.returns-in-None-clause-breaks
returns-in-None-clause-breaks c =
    old_breaks (given_of c.args.given.now) c.args.walk.now.types c.args.walk.now.names c.args.line c.args.name c.holds.ensures (sym c.find_old.ensures ∙ c.in-None.is)
