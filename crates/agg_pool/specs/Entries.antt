-- What a contract says of one entry.
use Rattle.std.specs.Prelude.{◌≡◌, IsTrue}
use Rattle.std.specs.List.{list_all}
use Rattle.lease.specs.Lending.{Lending}
use Rattle.segment.specs.Places.{RoomView, is_here}
use Rattle.flow_value.specs.declared.value.Val.{Val}
use Rattle.agg_pool.specs.declared.entry.Entry.{Entry}
use Rattle.agg_pool.specs.declared.entry.Entry.TheVariants as entry

-- the entry is a whole value, of which P holds
abbrev pub IsWholeAnd : Entry → (Lending Val → Type 0) → Type 0
IsWholeAnd (entry.Whole w) P = P w
IsWholeAnd (entry.Parts r) P = ⊥

abbrev pub IfWhole : Entry → (Lending Val → Type 0) → Type 0
IfWhole (entry.Whole w) P = P w
IfWhole (entry.Parts r) P = Unit {0}

-- the entry is a room, of which P holds
abbrev pub IsPartsAnd : Entry → (RoomView Val → Type 0) → Type 0
IsPartsAnd (entry.Whole w) P = ⊥
IsPartsAnd (entry.Parts r) P = P r

abbrev pub IfParts : Entry → (RoomView Val → Type 0) → Type 0
IfParts (entry.Whole w) P = Unit {0}
IfParts (entry.Parts r) P = P r

-- no lease and no part of it is out
abbrev pub IsIdle : Entry → Type 0
IsIdle (entry.Whole w) = w.out ≡ 0
IsIdle (entry.Parts r) = IsTrue (list_all is_here r.places)
