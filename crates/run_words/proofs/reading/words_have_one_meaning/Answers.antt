use Rattle.run_words.proofs.Answering.{some_meaning, one_command, one_fault, not_both}
use Rattle.run_words.proofs.reading.words_have_one_meaning.Goals as goal

pub returns-clause-some : goal.returns-clause-some
returns-clause-some c = some_meaning

pub returns-clause-one_command : goal.returns-clause-one_command
returns-clause-one_command c = one_command

pub returns-clause-one_fault : goal.returns-clause-one_fault
returns-clause-one_fault c = one_fault

pub returns-clause-not_both : goal.returns-clause-not_both
returns-clause-not_both c = not_both
