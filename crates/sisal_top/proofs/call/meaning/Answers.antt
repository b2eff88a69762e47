use Rattle.run_words.specs.declared.command.Command.TheVariants as command
use Rattle.sisal_top.specs.Refusals.{IsOfBytes}
use Rattle.sisal_top.specs.Status.{of_refusal}
use Rattle.sisal_top.proofs.Replies.{no_program_of_bytes, no_program_reply, passed_on, reply_passed_on, stopped_of_bytes, stopped_reply}
use Rattle.sisal_top.proofs.call.meaning.Goals as goal

pub returns-in_err-program-clause-replies : goal.returns-in_err-program-clause-replies
returns-in_err-program-clause-replies c =
    reply_passed_on (command.Mean c.args.set.now) c.args.bytes.now c.in_err-program.field-0.0 c.from_residual.result
    (no_program_reply (command.Mean c.args.set.now) c.args.bytes.now c.in_err-program.field-0.0 tt (λ rule line b. b) c.in_err-program.ensures.refused) c.from_residual.ensures.1

pub returns-in_err-program-clause-of_bytes : goal.returns-in_err-program-clause-of_bytes
returns-in_err-program-clause-of_bytes c =
    passed_on IsOfBytes c.in_err-program.field-0.0 c.from_residual.result (no_program_of_bytes c.args.bytes.now c.in_err-program.field-0.0 c.in_err-program.ensures.refused) c.from_residual.ensures.1

pub returns-in_err-values-clause-replies : goal.returns-in_err-values-clause-replies
returns-in_err-values-clause-replies c =
    reply_passed_on (command.Mean c.args.set.now) c.args.bytes.now (of_refusal c.in_err-values.field-0.0) c.from_residual-in_err-values.result
    (stopped_reply (command.Mean c.args.set.now) c.args.bytes.now c.in_err-values.field-0.0
    (record { program = c.in_ok-program.program; typed = c.in_ok-program.ensures.program; refused = c.in_err-values.ensures.refused })) c.from_residual-in_err-values.ensures.1

pub returns-in_err-values-clause-of_bytes : goal.returns-in_err-values-clause-of_bytes
returns-in_err-values-clause-of_bytes c =
    passed_on IsOfBytes (of_refusal c.in_err-values.field-0.0) c.from_residual-in_err-values.result (stopped_of_bytes c.in_err-values.field-0.0) c.from_residual-in_err-values.ensures.1
