use Rattle.std.proofs.Common.{Err, inl}
use Rattle.run_words.specs.declared.command.Command.TheVariants as command
use Rattle.sisal_top.specs.Answer.{Replies}
use Rattle.sisal_top.specs.Refusals.{IsOfBytes}
use Rattle.sisal_top.proofs.Replies.{no_program_of_bytes, no_program_reply, passed_on}
use Rattle.sisal_top.proofs.call.unit_of_program.Goals as goal

pub returns-in_err-program-clause-refused : goal.returns-in_err-program-clause-refused
returns-in_err-program-clause-refused c =
    passed_on (λ s. Replies (command.Run c.args.set.now) c.args.bytes.now (Err s)) c.in_err-program.field-0.0 c.from_residual.result
    (no_program_reply (command.Run c.args.set.now) c.args.bytes.now c.in_err-program.field-0.0 (c.requires.plain, c.requires.sisal) (λ rule line b. ((c.requires.plain, c.requires.sisal), inl b)) c.in_err-program.ensures.refused) c.from_residual.ensures.1

pub returns-in_err-program-clause-of_bytes : goal.returns-in_err-program-clause-of_bytes
returns-in_err-program-clause-of_bytes c =
    passed_on IsOfBytes c.in_err-program.field-0.0 c.from_residual.result (no_program_of_bytes c.args.bytes.now c.in_err-program.field-0.0 c.in_err-program.ensures.refused) c.from_residual.ensures.1
