use Rattle.std.proofs.Common.{◌≤◌, length, sym, ap, ◌∙◌, arith}
use Rattle.run_store.specs.Stored as stored
use Rattle.run_cells.specs.Held.{held}
use Rattle.sequential_loops.proofs.Lists.{owned-at, owned-past}
use Rattle.sequential_loops.proofs.columns.column.Goals as goal

pub returns-then-at-long : goal.returns-then-at-long
returns-then-at-long c = c.owned_by.ensures ∙ (ap (λ x. stored.owned_in (held x)) c.cell_at.ensures ∙ sym (owned-at c.args.row.now c.args.place))

pub returns-else-at-long : goal.returns-else-at-long
returns-else-at-long c =
    let no = c.if-at-long.false in
    let le : length c.args.row.now ≤ c.args.place = omega (arith, no) in
    sym (owned-past c.args.row.now c.args.place le)
