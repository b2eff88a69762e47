use Rattle.entry_laws.proofs.Entries.{programs-entries}
use Rattle.entry_laws.proofs.laws.entries_of_programs_are_those_of_units.Goals as goal

pub returns : goal.returns
returns c = programs-entries
