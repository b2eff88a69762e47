use Rattle.std.proofs.Common.{arith}
use Rattle.if1_components.proofs.Numbered.{all-numbered, more-numbered}
use Rattle.if1_components.proofs.parts.enter_all.Goals as goal

pub loop-root-preserved : goal.loop-root-preserved
loop-root-preserved c = (
  c.in_ok-enter.ensures.so_far,
  more-numbered c.loop-root.root c.loop-root.numbers c.enter.new.numbers c.loop-root.invariant.1 c.in_ok-enter.ensures.kept c.in_ok-enter.ensures.numbered,
)

pub returns : goal.returns
returns c = all-numbered c.args.lists.now c.loop-root.numbers c.loop-root.invariant.0 (λ x h. c.loop-root.invariant.1 x (omega (arith, h, c.loop-root-test.false)))
