-- The laws of what the steps of made code add.
use Rattle.std.specs.Prelude.{ℕ, List, get_or}
use Rattle.made_store.specs.Made.{Plan, functions_lines}
use Rattle.made_store.specs.Plans.{Weighing, weigh_at}
use Rattle.made_store.specs.Settings.{Shares}
use Rattle.made_store.specs.Settled as settled
use Rattle.made_store.specs.Settled.{functions_settings}
use Rattle.step_code.specs.declared.code.Code.{Code}
use Rattle.step_code.specs.declared.step.Step.TheVariants as step
use Rattle.step_code.specs.Laid.{code_of, copied_in, handling_of, written_in}
use Rattle.code_maker.specs.PlanData.{PlanData}
use Rattle.code_maker.specs.Makes.{AreTold}
use Rattle.code_weights.specs.Weights.{AddsSame, AreCopiesTold, AreWritesTold, CopiesSame}

-- Steps that write what the data tells of their nodes write what their lines add.
abbrev pub AreCodeWritesOfPlans : Type 0
AreCodeWritesOfPlans = (D : PlanData) (P : Plan) (S : Shares) (W : Weighing) (levels : ℕ) (functions : List ℕ) (code : Code) → AreTold D P S levels functions code → AreWritesTold D P W
    → (pc : ℕ) → AddsSame (code_of code pc) (written_in code (get_or code.steps pc (step.Return 0 0))) (weigh_at W (functions_lines P levels functions 0) pc)

-- So it is with copies, where the step and its setting copy as much of its operands.
abbrev pub AreCodeCopiesOfPlans : Type 0
AreCodeCopiesOfPlans = (D : PlanData) (P : Plan) (S : Shares) (W : Weighing) (levels : ℕ) (functions : List ℕ) (code : Code) → AreTold D P S levels functions code → AreCopiesTold D P W
    → (pc : ℕ)
    → CopiesSame (code_of code pc) (handling_of code pc).modes (settled.handling_of (functions_settings P S levels functions) pc).modes (copied_in code (get_or code.steps pc (step.Return 0 0))) (weigh_at W (functions_lines P levels functions 0) pc)
