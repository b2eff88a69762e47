use Rattle.lowered_ready.specs.Sorts.{sort_of}
use Rattle.lowered_ready.proofs.Bridge.{graphs-sorted, headers-sorted}
use Rattle.lowered_ready.proofs.Rooms.{ports-hold}
use Rattle.lowered_ready.proofs.port_laws.ports_hold_where_rules_do.Goals as goal

pub returns : goal.returns
returns c = λ p u fit t rules.
    let read = c.types_are_read_back.ensures p u fit t in
    ports-hold p u fit t (sort_of p) (headers-sorted p u read) (graphs-sorted p u read) rules
