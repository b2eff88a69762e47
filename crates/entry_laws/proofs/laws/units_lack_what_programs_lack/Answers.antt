use Rattle.entry_laws.proofs.Entries.{unit-lacks}
use Rattle.entry_laws.proofs.laws.units_lack_what_programs_lack.Goals as goal

pub returns : goal.returns
returns c = unit-lacks
