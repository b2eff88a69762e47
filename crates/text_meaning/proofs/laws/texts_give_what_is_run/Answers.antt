use Rattle.text_meaning.proofs.Runs.{texts-sourced}
use Rattle.text_meaning.proofs.laws.texts_give_what_is_run.Goals as goal

pub returns : goal.returns
returns c = texts-sourced c.marked_units_of_texts_are_ready.ensures
