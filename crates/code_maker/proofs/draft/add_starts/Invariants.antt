use Rattle.std.proofs.Common.{◌≡◌, ◌+◌, ◌-◌, ◌^◌, ◌≤◌, ◌++◌, drop}
use Rattle.plan_data.specs.Parts.{arms_steps}
use Rattle.code_maker.specs.Seats.{starts_from}
use Rattle.code_maker.proofs.draft.add_starts.Given as goal

abbrev pub invariant-loop-arm : goal.invariant-loop-arm
invariant-loop-arm l =
    record {
      fits : l.place + arms_steps l.plan (drop l.arm-index l.arms) ≤ 2 ^ 32 - 1;
      same : l.targets ++ starts_from l.plan (drop l.arm-index l.arms) l.place ≡ l.initial.targets ++ starts_from l.plan l.arms l.begin;
    }
