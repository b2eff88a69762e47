use Rattle.std.proofs.Common.{inl}
use Rattle.run_words.specs.declared.command.Command.TheVariants as command
use Rattle.sisal_top.specs.Refusals.{IsOfBytes}
use Rattle.sisal_top.proofs.Replies.{no_program_of_bytes, no_program_reply, passed_on, reply_passed_on}
use Rattle.sisal_top.proofs.call.graphs.Goals as goal

pub returns-in_err-program-clause-replies : goal.returns-in_err-program-clause-replies
returns-in_err-program-clause-replies c =
    reply_passed_on (command.Compile c.args.set.now) c.args.bytes.now c.in_err-program.field-0.0 c.from_residual.result
    (no_program_reply (command.Compile c.args.set.now) c.args.bytes.now c.in_err-program.field-0.0 c.requires.built (λ rule line b. (c.requires.built, inl b)) c.in_err-program.ensures.refused) c.from_residual.ensures.1

pub returns-in_err-program-clause-of_bytes : goal.returns-in_err-program-clause-of_bytes
returns-in_err-program-clause-of_bytes c =
    passed_on IsOfBytes c.in_err-program.field-0.0 c.from_residual.result (no_program_of_bytes c.args.bytes.now c.in_err-program.field-0.0 c.in_err-program.ensures.refused) c.from_residual.ensures.1
