use Rattle.run_call.proofs.OneRun.{one_run}
use Rattle.run_call.proofs.laws.words_have_one_run.Goals as goal

pub returns : goal.returns
returns c = one_run c.the_meaning_is_one.ensures c.the_cost_is_one.ensures c.copies_of_units_are_one.ensures
