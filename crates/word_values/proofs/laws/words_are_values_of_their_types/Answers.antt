use Rattle.word_values.proofs.Read.{words_of}
use Rattle.word_values.proofs.laws.words_are_values_of_their_types.Goals as goal

pub returns : goal.returns
returns c = words_of
