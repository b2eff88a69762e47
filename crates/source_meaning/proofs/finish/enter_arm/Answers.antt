use Rattle.std.proofs.Common.{rules, ◌≡◌, Some, slice_get}
use Rattle.meaning.specs.Meaning.{with_content}
use Rattle.source_meaning.specs.Pending.{rest}
use Rattle.source_meaning.proofs.Follows.{arm_is}
use Rattle.source_meaning.proofs.finish.enter_arm.Goals as goal

pub returns-clause-means : goal.returns-clause-means
returns-clause-means c = λ n p.
    let e : slice_get c.args.arms.now c.args.place ≡ Some c.in-Some.arm.now = search rules in
    let h = c.in_ok-list.ensures.means n p (with_content c.args.case.now.named c.args.place c.args.content c.args.state.now.names) in
    let q = arm_is n p c.args.case.now c.args.results c.args.arms.now c.args.place c.args.content c.args.state.now.names (rest n p c.args.state.now.frames.items) c.len-mark.result c.in-Some.arm.now e c.len-mark.ensures in
    search (rules, h, q)
