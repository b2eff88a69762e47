-- What the labels of a table stand for, by number, as one fact.
use Rattle.std.specs.Prelude.{◌≡◌, List}
use Rattle.if1_graph.specs.declared.graph.TypeEntry.{TypeEntry}
use Rattle.if1_types.specs.declared.numbered.Sorts.{Sorts}
use Rattle.if1_types.specs.Shapes.{HasKeys}
use Rattle.if1_types.specs.Tables.{labels_in, AreSorts}
use Rattle.if1_types.specs.Forms.{Stand, AreOnce, AreRead}

-- the numbers are those of the labels of these types, and have the forms of what they stand for
pub record IsNumbering (ts : List TypeEntry) (s : Sorts) : Type 0 where
  pub labels : s.labels ≡ labels_in ts
  pub sorts : AreSorts ts s.labels s.numbers
  pub stand : Stand ts s.shapes s.labels s.numbers
  pub once : AreOnce s.shapes
  pub read : AreRead s.shapes
  pub keys : HasKeys s.shapes
