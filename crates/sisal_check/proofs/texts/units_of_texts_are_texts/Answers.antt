use Rattle.sisal_check.proofs.Lexed.{is_text}
use Rattle.sisal_check.proofs.texts.units_of_texts_are_texts.Goals as goal

pub returns : goal.returns
returns c = is_text
