use Rattle.if1_call.proofs.Refusals.{unsound_result}
use Rattle.if1_call.proofs.canonical.canonical_text.Goals as goal

pub returns-in_err-sound-clause-refused : goal.returns-in_err-sound-clause-refused
returns-in_err-sound-clause-refused c =
    unsound_result c.args.text.now c.in_ok-unit.unit c.in_ok-ready.ready c.in_err-sound.field-0.0 c.from_residual-in_err-sound.result c.in_ok-unit.ensures.read c.in_ok-ready.ensures.valid
    c.in_err-sound.ensures.fault c.in_err-sound.ensures.unsound c.from_residual-in_err-sound.ensures.1
