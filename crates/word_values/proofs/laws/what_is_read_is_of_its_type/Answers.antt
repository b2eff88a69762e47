use Rattle.word_values.proofs.Read.{read_of}
use Rattle.word_values.proofs.laws.what_is_read_is_of_its_type.Goals as goal

pub returns : goal.returns
returns c = read_of
