use Rattle.loop_columns.proofs.ForAlls.{for-alls-read}
use Rattle.loop_columns.proofs.laws.for_alls_fire_where_the_source_gives.Goals as goal

pub returns : goal.returns
returns c = for-alls-read
