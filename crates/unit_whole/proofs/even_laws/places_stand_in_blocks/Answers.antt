use Rattle.unit_whole.proofs.Blocks.{places-in-blocks}
use Rattle.unit_whole.proofs.even_laws.places_stand_in_blocks.Goals as goal

pub returns : goal.returns
returns c = places-in-blocks
