use Rattle.std.proofs.Common.{ap, arith}
use Rattle.if1_types.specs.Shapes.{trees_in}
use Rattle.if1_types.proofs.Looked.{list_within}
use Rattle.if1_types.proofs.step.over_list.Goals as goal

pub over-requires-clause-within : goal.over-requires-clause-within
over-requires-clause-within c =
    let is = ap (λ x. x.number) c.list_part-part.ensures in
    omega (arith, is, list_within (trees_in c.args.shapes.now) c.args.line c.args.types.now c.args.found.now c.args.label c.requires.right)
