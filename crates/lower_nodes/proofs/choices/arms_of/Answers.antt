use Rattle.std.proofs.Common.{◌≡◌, ◌≤◌, ◌<◌, ◌+◌, ◌-◌, ◌∙◌, ℕ, List, length, set, drop, sym, ap, arith}
use Rattle.lower_nodes.proofs.Lists.{arms_by, no_choice_arms, one_arm, all_arms}
use Rattle.lower_nodes.proofs.choices.arms_of.Goals as goal

pub loop-left-init : goal.loop-left-init
loop-left-init c =
    let cs = c.as_slice-choices.result.now in
    let le : length cs ≤ length cs = omega arith in
    record {
      within = le;
      arms = c.in_ok-arms.ensures ∙ no_choice_arms c.args.case.now.others c.args.tags (length cs) cs le;
    }

pub loop-left-preserved : goal.loop-left-preserved
loop-left-preserved c =
    let cs = c.as_slice-choices.result.now in
    let left = c.loop-left.left - 1 in
    let next : left + 1 ≡ c.loop-left.left = omega (arith, c.loop-left-test.true) in
    let lt : left < length cs = omega (arith, c.loop-left-test.true, c.loop-left.invariant.within) in
    record {
      within = omega (arith, c.loop-left.invariant.within);
      arms =
          c.note_arm.ensures
          ∙ ap (λ (k : List ℕ). set k c.choice_at-choice.result.tag c.choice_at-choice.result.arm) (c.loop-left.invariant.arms ∙ ap (λ n. arms_by c.args.case.now.others (drop n cs) c.args.tags) (sym next))
          ∙ one_arm c.args.case.now.others cs left c.args.tags c.choice_at-choice.result lt (c.choice_at-choice.ensures c.choice_at-choice.result);
    }

pub returns : goal.returns
returns c =
    let cs = c.as_slice-choices.result.now in
    let none : c.loop-left.left ≡ 0 = omega (arith, c.loop-left-test.false) in
    c.loop-left.invariant.arms ∙ ap (λ n. arms_by c.args.case.now.others (drop n cs) c.args.tags) none
    ∙ ap (λ k. arms_by c.args.case.now.others k c.args.tags) c.as_slice-choices.ensures ∙ all_arms c.args.case.now c.args.tags
