use Rattle.flow_io.specs.Bytes.{IsAtEnd}
use Rattle.run_words.specs.Commands.{bytes_of}
use Rattle.sisal_top.proofs.Refusing.{not_read, reads_text}
use Rattle.sisal_top.proofs.Replies.{gives_fault, gives_reply, names_fault}
use Rattle.sisal_top.proofs.call.prepare.Goals as goal

pub returns-in_err-command-clause-read : goal.returns-in_err-command-clause-read
returns-in_err-command-clause-read g c = λ run.
    not_read (IsAtEnd (g.S.Source.left c.args.text.now)) (bytes_of c.args.words.now) c.in_err-command.field-0.0 c.from_residual.result run c.in_err-command.ensures.fault c.from_residual.ensures.1

pub returns-in_err-command-clause-gives : goal.returns-in_err-command-clause-gives
returns-in_err-command-clause-gives g c = λ told is.
    gives_fault (bytes_of c.args.words.now) told c.in_err-command.field-0.0 c.from_residual.result c.in_err-command.ensures.fault c.from_residual.ensures.1

pub returns-in_err-command-clause-usage : goal.returns-in_err-command-clause-usage
returns-in_err-command-clause-usage g c = names_fault (bytes_of c.args.words.now) c.in_err-command.field-0.0 c.from_residual.result c.in_err-command.ensures.fault c.from_residual.ensures.1

pub returns-clause-to_the_end : goal.returns-clause-to_the_end
returns-clause-to_the_end g c = λ run.
    c.perform.ensures.to_the_end (reads_text (bytes_of c.args.words.now) c.in_ok-command.command run c.in_ok-command.ensures.command)

pub returns-clause-read : goal.returns-clause-read
returns-clause-read g c = λ run.
    c.perform.ensures.read (reads_text (bytes_of c.args.words.now) c.in_ok-command.command run c.in_ok-command.ensures.command)

pub returns-clause-unread : goal.returns-clause-unread
returns-clause-unread g c = λ none. c.perform.ensures.unread (λ reads. none (c.in_ok-command.command, c.in_ok-command.ensures.command, reads))

pub returns-clause-unfailed : goal.returns-clause-unfailed
returns-clause-unfailed g c = λ none. c.perform.ensures.unfailed (λ reads. none (c.in_ok-command.command, c.in_ok-command.ensures.command, reads))

pub returns-clause-gives : goal.returns-clause-gives
returns-clause-gives g c = λ told is.
    gives_reply (bytes_of c.args.words.now) told c.in_ok-command.command c.perform.result c.in_ok-command.ensures.command
    (c.perform.ensures.replies told (λ reads. is (c.in_ok-command.command, c.in_ok-command.ensures.command, reads))) c.perform.ensures.reply
