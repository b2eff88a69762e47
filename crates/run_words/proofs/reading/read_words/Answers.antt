use Rattle.run_words.specs.Commands.{bytes_of}
use Rattle.run_words.proofs.Answering.{is_command, has_fault, gives_command, gives_fault}
use Rattle.run_words.proofs.reading.read_words.Goals as goal

pub returns-clause-command : goal.returns-clause-command
returns-clause-command c = is_command (bytes_of c.args.words.now) c.read.result c.read.ensures

pub returns-clause-fault : goal.returns-clause-fault
returns-clause-fault c = has_fault (bytes_of c.args.words.now) c.read.result c.read.ensures

pub returns-clause-only_command : goal.returns-clause-only_command
returns-clause-only_command c = gives_command (bytes_of c.args.words.now) c.read.result c.read.ensures

pub returns-clause-only_fault : goal.returns-clause-only_fault
returns-clause-only_fault c = gives_fault (bytes_of c.args.words.now) c.read.result c.read.ensures
