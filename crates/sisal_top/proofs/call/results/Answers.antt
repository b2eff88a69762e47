use Rattle.run_words.specs.declared.command.Command.TheVariants as command
use Rattle.sisal_top.specs.Refusals.{IsOfBytes}
use Rattle.sisal_top.specs.Status.{of_refusal}
use Rattle.sisal_top.proofs.Replies.{passed_on, reply_passed_on, stopped_of_bytes, stopped_reply}
use Rattle.sisal_top.proofs.call.results.Goals as goal

pub returns-in_err-totals-clause-replies : goal.returns-in_err-totals-clause-replies
returns-in_err-totals-clause-replies g c =
    reply_passed_on (command.Run c.args.set.now) c.args.bytes.now (of_refusal c.in_err-totals.field-0.0) c.from_residual-in_err-totals.result
    (stopped_reply (command.Run c.args.set.now) c.args.bytes.now c.in_err-totals.field-0.0
    (c.requires.plain, record { unit = c.in_ok-unit.unit; runs = c.in_ok-unit.ensures.unit; refused = c.in_err-totals.ensures.refused })) c.from_residual-in_err-totals.ensures.1

pub returns-in_err-totals-clause-of_bytes : goal.returns-in_err-totals-clause-of_bytes
returns-in_err-totals-clause-of_bytes g c =
    passed_on IsOfBytes (of_refusal c.in_err-totals.field-0.0) c.from_residual-in_err-totals.result (stopped_of_bytes c.in_err-totals.field-0.0) c.from_residual-in_err-totals.ensures.1
