use Rattle.lowered_ready.specs.Sorts.{bare, sort_of}
use Rattle.lowered_ready.proofs.Sorting.{sorting}
use Rattle.lowered_ready.proofs.ready_laws.translated_units_are_ready.Goals as goal

pub returns : goal.returns
returns c = λ p u fit covered few t.
    let rules = c.lowered_graphs_obey_the_rules.ensures p fit covered bare (sort_of p) (sorting p fit) in
    record {
      formed = (c.translated_units_are_formed.ensures p u fit few t).0;
      ports = c.ports_hold_where_rules_do.ensures p u fit t rules;
      types = c.right_programs_have_typed_units.ensures p u fit t rules;
      acyclic = c.translated_units_are_acyclic.ensures p u t;
    }
