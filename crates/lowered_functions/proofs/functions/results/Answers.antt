use Rattle.std.proofs.Common.{◌∙◌, List, sym, ap, map}
use Rattle.std.specs.Prelude.{Option}
use Rattle.typed_tree.specs.declared.expr.TypedExpr.{TypedExpr}
use Rattle.lowering.specs.Operations.{Lowers, all_lowered}
use Rattle.lowering.specs.Programs.{bodies, stub}
use Rattle.lower_nodes.proofs.Walks.{if_as}
use Rattle.lower_exprs.specs.Phrased.{alls}
use Rattle.lowered_functions.proofs.Ending.{phrases-are}
use Rattle.lowered_functions.proofs.functions.results.Goals as goal

pub returns-in-Some : goal.returns-in-Some
returns-in-Some c =
    let forms = c.args.forms.now in
    let f = c.args.function.now in
    let env = c.args.names.now.here in
    let es = c.in-Some.body in
    if_as c.expressions.result (all_lowered (bodies forms f.body f.results) env) (alls forms c.as_slice.result.now env) c.args.made.now c.expressions.new.made
    (ap (λ (o : Option (List TypedExpr)). all_lowered (bodies forms o f.results) env) c.in-Some.is
    ∙ ap (λ (l : List Lowers). all_lowered l env) (sym (phrases-are forms es))
    ∙ ap (λ (us : List TypedExpr). alls forms us env) (sym c.as_slice.ensures))
    c.expressions.ensures.made

pub returns-in-None : goal.returns-in-None
returns-in-None c =
    let forms = c.args.forms.now in
    let f = c.args.function.now in
    let env = c.args.names.now.here in
    if_as c.stubs.result (all_lowered (bodies forms f.body f.results) env) (all_lowered (map stub c.as_slice-in-None.result.now) env) c.args.made.now c.stubs.new.made
    (ap (λ (o : Option (List TypedExpr)). all_lowered (bodies forms o f.results) env) c.in-None.is ∙ ap (λ ts. all_lowered (map stub ts) env) (sym c.as_slice-in-None.ensures))
    (c.stubs.ensures env)
