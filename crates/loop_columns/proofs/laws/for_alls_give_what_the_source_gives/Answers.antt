use Rattle.loop_columns.proofs.ForAlls.{for-alls-given}
use Rattle.loop_columns.proofs.laws.for_alls_give_what_the_source_gives.Goals as goal

pub returns : goal.returns
returns c = for-alls-given
