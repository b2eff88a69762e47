use Rattle.std.proofs.Common.{None, ap, arith}
use Rattle.if1_types.specs.Shapes.{trees_in}
use Rattle.if1_types.proofs.Looked.{part_within}
use Rattle.if1_types.proofs.step.over_type.Goals as goal

pub over-requires-clause-within : goal.over-requires-clause-within
over-requires-clause-within c =
    let is = ap (λ x. x.number) c.type_part-part.ensures in
    omega (arith, is, part_within (trees_in c.args.shapes.now) c.args.types.now c.args.found.now None c.args.label c.requires.right)
