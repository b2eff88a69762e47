-- The lines of types, by rising label (IF1 manual M-170, type table).
use Rattle.std.specs.Prelude.{ℕ, suc, List, [], ◌∷◌}
use Rattle.if1_graph.specs.declared.graph.TypeEntry.{TypeEntry}
use Rattle.lowering.specs.Types.{Entry, Table}

abbrev pub line_of : ℕ → Entry → TypeEntry
line_of label e = record { label = label; code = e.code; first = e.first; second = e.second; name = e.name }

-- from a label on
abbrev pub lines_from : ℕ → Table → List TypeEntry
lines_from label [] = []
lines_from label (e ∷ es) = line_of label e ∷ lines_from (suc label) es
