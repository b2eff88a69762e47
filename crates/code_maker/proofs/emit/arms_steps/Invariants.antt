use Rattle.std.proofs.Common.{◌≡◌, ◌+◌, drop}
use Rattle.plan_data.specs.Parts.{arms_steps}
use Rattle.code_maker.proofs.emit.arms_steps.Given as goal

abbrev pub invariant-loop-arm : goal.invariant-loop-arm
invariant-loop-arm l = l.steps + arms_steps l.plan (drop l.arm-index l.arms) ≡ arms_steps l.plan l.arms
