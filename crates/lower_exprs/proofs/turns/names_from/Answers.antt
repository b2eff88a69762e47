use Rattle.std.proofs.Common.{rules, ◌≡◌, ◌+◌, ◌++◌, ◌∙◌, List, drop, slice_get, Some, ap}
use Rattle.lowering.specs.declared.feed.Wire.{Wire}
use Rattle.lower_exprs.proofs.Turning.{next_name}
use Rattle.lower_exprs.proofs.turns.names_from.Goals as goal

pub loop-level-preserved : goal.loop-level-preserved
loop-level-preserved c =
    let here = c.args.names.now.here in
    let i = c.loop-level.level in
    let is : Some c.in-Some.w ≡ slice_get here i = search rules in
    ap (λ (k : List Wire). k ++ drop (i + 1) here) c.in_ok-add.ensures.ok ∙ next_name c.loop-level.wires here i c.in-Some.w is ∙ c.loop-level.invariant
