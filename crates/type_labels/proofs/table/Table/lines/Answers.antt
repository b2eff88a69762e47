use Rattle.std.proofs.Common.{sym}
use Rattle.std.specs.Prelude.{vec_items}
use Rattle.type_labels.proofs.Lines.{lines-more}
use Rattle.type_labels.proofs.table.Table.lines.Goals as goal

pub loop-place-preserved : goal.loop-place-preserved
loop-place-preserved c =
    lines-more vec_items c.self.inside.entries.keys c.loop-place.place c.in-Some.key.now c.loop-place.lines c.add.new.self c.in_ok-line.field-0 _
    (sym c.in-Some.ensures.key) c.loop-place.invariant c.in_ok-line.ensures c.in_ok-add.ensures.ok
