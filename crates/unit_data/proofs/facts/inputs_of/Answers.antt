use Rattle.unit_data.proofs.facts.inputs_of.Goals as goal

pub unit_inputs-requires : goal.unit_inputs-requires
unit_inputs-requires c = c.requires.types
