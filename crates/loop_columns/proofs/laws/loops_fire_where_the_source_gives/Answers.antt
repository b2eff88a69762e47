use Rattle.loop_columns.proofs.TurnsRead.{loops-read}
use Rattle.loop_columns.proofs.laws.loops_fire_where_the_source_gives.Goals as goal

pub returns : goal.returns
returns c = loops-read
