use Rattle.std.proofs.Common.{arith}
use Rattle.run_words.specs.declared.command.Command.TheVariants as command
use Rattle.sisal_top.specs.Refusals.{IsOfBytes}
use Rattle.sisal_top.specs.Status.{of_unit}
use Rattle.sisal_top.proofs.Replies.{invalid_of_bytes, invalid_reply, passed_on, reply_passed_on}
use Rattle.sisal_top.proofs.call.written.Goals as goal

pub canonical_text-requires : goal.canonical_text-requires
canonical_text-requires c = omega (arith, c.requires.few)

pub returns-in_err-printed-clause-replies : goal.returns-in_err-printed-clause-replies
returns-in_err-printed-clause-replies c =
    reply_passed_on command.If1 c.args.bytes.now (of_unit c.in_err-printed.field-0.0) c.from_residual.result
    (invalid_reply command.If1 c.args.bytes.now c.in_err-printed.field-0.0 (λ g p. (c.requires.few, p)) c.in_err-printed.ensures.refused) c.from_residual.ensures.1

pub returns-in_err-printed-clause-of_bytes : goal.returns-in_err-printed-clause-of_bytes
returns-in_err-printed-clause-of_bytes c =
    passed_on IsOfBytes (of_unit c.in_err-printed.field-0.0) c.from_residual.result (invalid_of_bytes c.in_err-printed.field-0.0) c.from_residual.ensures.1
