use Rattle.std.proofs.Common.{arith}
use Rattle.if1_types.proofs.Keeping.{few_members}
use Rattle.if1_types.proofs.shapes.Shapes.members_over.Goals as goal

pub number_after-requires : goal.number_after-requires
number_after-requires c = omega (arith, c.requires, c.members.ensures, few_members c.args.self.now c.args.second)
