use Rattle.fitting_texts.proofs.Typed.{texts_typed}
use Rattle.fitting_texts.proofs.laws.functions_of_texts_give_values_of_their_types.Goals as goal

pub returns : goal.returns
returns c = texts_typed
