use Rattle.std.proofs.Common.{◌+◌, ◌-◌, ◌^◌, ◌≤◌, drop}
use Rattle.run_code.specs.Made.{Plan, functions_lines}
use Rattle.plan_data.specs.Settings.{Shares}
use Rattle.plan_data.specs.Settled.{functions_settings}
use Rattle.plan_data.specs.Parts.{arms_steps}
use Rattle.plan_data.specs.Stands.{Stands}
use Rattle.code_maker.specs.declared.draft.Draft.{Draft}
use Rattle.code_maker.specs.Grows.{Grows}
use Rattle.code_maker.specs.Makes.{none_made}
use Rattle.code_maker.proofs.make.draft_of.Given as goal

abbrev pub invariant-loop-function : goal.invariant-loop-function
invariant-loop-function l =
    record {
      steps : l.place + arms_steps l.plan (drop l.function-index l.functions) ≤ 2 ^ 32 - 1;
      made : (P : Plan) (S : Shares) → Stands l.plan P S → (new : Draft)
          → Grows l.plan P l.draft new (functions_lines P l.levels (drop l.function-index l.functions) l.place) (functions_settings P S l.levels (drop l.function-index l.functions))
          → Grows l.plan P none_made new (functions_lines P l.levels l.functions 0) (functions_settings P S l.levels l.functions);
    }
