use Rattle.std.proofs.Common.{arith}
use Rattle.type_table.proofs.Stores.{deeper}
use Rattle.type_table.proofs.store.Store.deepest.Goals as goal

pub loop-member-preserved : goal.loop-member-preserved
loop-member-preserved c = (
  deeper _ _ _ _ _ _ _ _ c.loop-member-test.true c.part_depth.ensures.value c.max-most.ensures c.loop-member.invariant.0,
  omega (arith, c.max-most.ensures, c.part_depth.ensures.small),
)
