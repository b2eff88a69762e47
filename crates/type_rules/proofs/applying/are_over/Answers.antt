use Rattle.std.proofs.Common.{length, refl, arith, true≢false, sym}
use Rattle.type_rules.proofs.Lists.{all_types, type_below}
use Rattle.type_rules.proofs.applying.are_over.Goals as goal

pub returns-then-member-len : goal.returns-then-member-len
returns-then-member-len c = (
  (λ f. absurd (true≢false (sym f))),
  λ all.
      let less = type_below c.args.members.now (length c.args.types.now) c.loop-member.member-index (record { name = 0; ty = 0 }) c.loop-member-test.true all in
      absurd (omega (arith, less, c.if-member-len.true)),
)

pub returns : goal.returns
returns c = ((λ _. all_types c.args.members.now (length c.args.types.now) (λ k d h. c.loop-member.invariant k d (omega (arith, h, c.loop-member-test.false)))), λ _. refl)
