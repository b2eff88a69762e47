use Rattle.std.proofs.Common.{arith}
use Rattle.std.proofs.lemmas.List.Sorted.{IsNonDecreasingBy-from_all_adjacent}
use Rattle.if1_write.specs.Texts.{rank_of}
use Rattle.if1_write.proofs.order.are_in_order.Goals as goal

pub returns : goal.returns
returns c _ = IsNonDecreasingBy-from_all_adjacent rank_of c.args.edges.now (λ k d h. c.loop-i.invariant k d (omega (arith, h, c.loop-i-test.false)))
