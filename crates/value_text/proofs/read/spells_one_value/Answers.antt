use Rattle.value_text.proofs.Whole.{text_once}
use Rattle.value_text.proofs.read.spells_one_value.Goals as goal

pub returns : goal.returns
returns c = text_once
