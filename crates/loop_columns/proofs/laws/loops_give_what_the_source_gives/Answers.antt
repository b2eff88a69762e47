use Rattle.loop_columns.proofs.Turns.{loops-given}
use Rattle.loop_columns.proofs.laws.loops_give_what_the_source_gives.Goals as goal

pub returns : goal.returns
returns c = loops-given
