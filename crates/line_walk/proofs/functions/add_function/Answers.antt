use Rattle.std.proofs.Common.{◌≡◌, OnOk, List, Some, sym, subst, ap, ◌∙◌}
use Rattle.lowering.specs.declared.feed.Carried.{Carried}
use Rattle.line_labels.specs.Needs.{added}
use Rattle.line_walk.proofs.Bodies.{body-is}
use Rattle.line_walk.proofs.functions.add_function.Goals as goal

pub returns-in-Some : goal.returns-in-Some
returns-in-Some c =
    let f = c.args.function.now in
    let es = c.as_slice.result.now in
    subst (λ (lines : List Carried). OnOk c.add_body.result (c.add_body.new.needs ≡ added c.args.needs.now lines))
    (body-is c.args.types.now f es (c.in-Some.is ∙ ap Some (sym c.as_slice.ensures))) c.add_body.ensures
