use Rattle.std.proofs.Common.{◌∙◌}
use Rattle.if1_marks.specs.Given.{is_consuming}
use Rattle.may_take.proofs.Steps.{function-more}
use Rattle.may_take.proofs.units.add_function.Goals as goal

pub returns : goal.returns
returns c =
    let u = c.args.unit.now in
    let g = c.args.graph.now in
    function-more u c.args.functions.now g c.args.looked c.requires.looked c.requires.tells c.requires.asks c.requires.flat c.in_ok-own.own
    (c.in_ok-own.ensures (is_consuming u g) (c.as_slice.ensures ∙ c.requires.looked.consuming c.requires.tells))
    c.args.flags.now.items _ _ c.in_ok-push.ensures.items c.in_ok-append.ensures.items
