use Rattle.entry_laws.proofs.Entries.{headers-of-entries}
use Rattle.entry_laws.proofs.laws.headers_have_the_types_of_entries.Goals as goal

pub returns : goal.returns
returns c = headers-of-entries
