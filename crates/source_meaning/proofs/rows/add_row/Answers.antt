use Rattle.std.proofs.Common.{◌∙◌, sym}
use Rattle.source_meaning.proofs.AddedRows.{row_done}
use Rattle.source_meaning.proofs.rows.add_row.Goals as goal

pub returns : goal.returns
returns c =
    sym (row_done c.loop-place.clauses.items c.loop-place.place c.args.forms.now c.loop-place.left c.loop-place-test.false)
    ∙ c.loop-place.invariant
