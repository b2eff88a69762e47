use Rattle.std.proofs.Common.{◌≡◌, ◌≤◌, length, sym, ap, ◌∙◌, subst, arith}
use Rattle.std.specs.Result.{IfOk}
use Rattle.graph_meaning.specs.Carried.{val_of}
use Rattle.run_store.specs.Stored as stored
use Rattle.sequential_loops.proofs.Lists.{owned-at, owned-past}
use Rattle.sequential_loops.proofs.columns.value_taken.Goals as goal

pub returns-then-at-long-clause-value : goal.returns-then-at-long-clause-value
returns-then-at-long-clause-value c =
    subst (λ k. IfOk c.value_moved.result (λ v. v ≡ val_of k)) (ap stored.owned_in c.lift.ensures.value ∙ sym (owned-at c.args.row.now.items c.args.place)) c.value_moved.ensures

pub returns-else-at-long-clause-value : goal.returns-else-at-long-clause-value
returns-else-at-long-clause-value c =
    let no = c.if-at-long.false in
    let long = c.len-long.ensures in
    let le : length c.args.row.now.items ≤ c.args.place = omega (arith, no, long) in
    sym (ap val_of (owned-past c.args.row.now.items c.args.place le))
