use Rattle.loop_columns.proofs.Turns.{tests-said}
use Rattle.loop_columns.proofs.laws.tests_say_what_the_source_goes_by.Goals as goal

pub returns : goal.returns
returns c = tests-said
