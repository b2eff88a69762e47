use Rattle.std.proofs.Common.{◌≡◌, suc, ◌++◌, drop}
use Rattle.std.specs.Prelude.{vec_items}
use Rattle.type_labels.specs.Keys.{entries_of}
use Rattle.type_labels.specs.Lines.{lines_from}
use Rattle.type_labels.proofs.table.Table.lines.Given as goal

abbrev pub invariant-loop-place : goal.invariant-loop-place
invariant-loop-place l =
    let keys = l.self-inside.entries.keys in
    l.lines ++ lines_from (suc l.place) (entries_of vec_items (drop l.place keys)) ≡ lines_from 1 (entries_of vec_items keys)
