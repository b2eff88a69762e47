use Rattle.graph_meaning.proofs.StorageUnits.{unmarked-copied}
use Rattle.graph_meaning.proofs.laws.unmarked_consuming_edges_are_copied.Goals as goal

pub returns : goal.returns
returns c = unmarked-copied
