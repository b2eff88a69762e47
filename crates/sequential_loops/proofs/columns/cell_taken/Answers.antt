use Rattle.std.proofs.Common.{◌≤◌, length, sym, ap, ◌∙◌, arith}
use Rattle.run_store.specs.Stored as stored
use Rattle.sequential_loops.proofs.Lists.{owned-at, owned-past}
use Rattle.sequential_loops.proofs.columns.cell_taken.Goals as goal

pub returns-then-at-long-clause-value : goal.returns-then-at-long-clause-value
returns-then-at-long-clause-value c = c.own_of.ensures ∙ ap stored.Owns (ap stored.owned_in c.lift.ensures.value ∙ sym (owned-at c.args.row.now.items c.args.place))

pub returns-else-at-long-clause-value : goal.returns-else-at-long-clause-value
returns-else-at-long-clause-value c =
    let no = c.if-at-long.false in
    let long = c.len-long.ensures in
    let le : length c.args.row.now.items ≤ c.args.place = omega (arith, no, long) in
    sym (ap stored.Owns (owned-past c.args.row.now.items c.args.place le))
