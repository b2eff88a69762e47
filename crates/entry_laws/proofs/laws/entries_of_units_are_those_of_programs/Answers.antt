use Rattle.entry_laws.proofs.Entries.{units-entries}
use Rattle.entry_laws.proofs.laws.entries_of_units_are_those_of_programs.Goals as goal

pub returns : goal.returns
returns c = units-entries
