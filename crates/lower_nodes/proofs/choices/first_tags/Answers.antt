use Rattle.std.proofs.Common.{◌≡◌, ◌≤◌, ◌<◌, ◌+◌, ◌-◌, ◌∙◌, ℕ, List, length, set, drop, sym, ap, arith}
use Rattle.lower_nodes.proofs.Lists.{tags_by, no_choice_tags, one_tag, all_tags}
use Rattle.lower_nodes.proofs.choices.first_tags.Goals as goal

pub loop-left-init : goal.loop-left-init
loop-left-init c =
    let cs = c.args.choices.now in
    let le : length cs ≤ length cs = omega arith in
    record {
      within = le;
      tags = c.in_ok-tags.ensures ∙ no_choice_tags c.args.arms (length cs) cs le;
    }

pub loop-left-preserved : goal.loop-left-preserved
loop-left-preserved c =
    let cs = c.args.choices.now in
    let left = c.loop-left.left - 1 in
    let next : left + 1 ≡ c.loop-left.left = omega (arith, c.loop-left-test.true) in
    let lt : left < length cs = omega (arith, c.loop-left-test.true, c.loop-left.invariant.within) in
    record {
      within = omega (arith, c.loop-left.invariant.within);
      tags =
          c.note_tag.ensures
          ∙ ap (λ (k : List ℕ). set k c.choice_at-choice.result.arm c.choice_at-choice.result.tag) (c.loop-left.invariant.tags ∙ ap (λ n. tags_by (drop n cs) c.args.arms) (sym next))
          ∙ one_tag cs left c.args.arms c.choice_at-choice.result lt (c.choice_at-choice.ensures c.choice_at-choice.result);
    }

pub returns : goal.returns
returns c =
    let cs = c.args.choices.now in
    let none : c.loop-left.left ≡ 0 = omega (arith, c.loop-left-test.false) in
    c.loop-left.invariant.tags ∙ ap (λ n. tags_by (drop n cs) c.args.arms) none ∙ all_tags cs c.args.arms
