use Rattle.value_text.proofs.Spelled.{of_type}
use Rattle.value_text.proofs.read.read_texts_fit.Goals as goal

pub returns : goal.returns
returns c bytes ty v h = of_type bytes ty v h
