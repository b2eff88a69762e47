-- The code of a unit writes what is of record.
use Rattle.std.proofs.Common.{◌≡◌, ℕ, suc, List, [], ◌∷◌, length, refl, ap}
use Rattle.graph_meaning.specs.Carried.{Carried}
use Rattle.graph_meaning.specs.NodeValues.{op}
use Rattle.run_code.specs.Cells.{At, Lit, Operand}
use Rattle.run_code.specs.Machine.{Weigh}
use Rattle.run_code.specs.Steps.{Add, Branch, Call, Count, Each, Fire, Keep, Move, Return, Spread, Step, Tag, Test}
use Rattle.unit_plan.specs.Plans.{functions_of, levels_of, plan_of}
use Rattle.unit_plan.specs.Shares.{shares_of, writing_of}
use Rattle.step_code.specs.Laid.{code_of}
use Rattle.told_rows.proofs.Adding.{writes-of-plans}
use Rattle.told_rows.specs.Weights.{AddsSame}
use Rattle.told_rows.proofs.Told.{writes-told}
use Rattle.unit_runs.specs.StepWrites.{writes_of}
use Rattle.unit_runs.specs.Alike.{AddsAlike, AreRead}
use Rattle.unit_runs.specs.Writes.{plan_writes}
use Rattle.unit_counts.specs.Laws.{DoesToldCodeWrite}

read-long : (os : List Operand) (ks : List Carried) → AreRead os ks → length ks ≡ length os
read-long [] [] r = refl
read-long [] (k ∷ ks) r = absurd r
read-long (At c ∷ os) [] r = absurd r
read-long (Lit l ∷ os) [] r = absurd r
read-long (At c ∷ os) (k ∷ ks) r = ap suc (read-long os ks r)
read-long (Lit l ∷ os) (k ∷ ks) r = ap suc (read-long os ks r.1)

same-alike : (v w : Weigh) (pc : ℕ) (x : Step) → AddsSame x (v pc) (w pc) → AddsAlike v w pc x
same-alike v w pc (Fire row shape ins out width) adds = λ ks read. adds ks (op row shape ks) (read-long ins ks read)
same-alike v w pc Count adds = tt
same-alike v w pc (Move froms out width next) adds = tt
same-alike v w pc (Tag union ts content out width next) adds = tt
same-alike v w pc (Branch a ts out width next) adds = tt
same-alike v w pc (Test a turn leave out width next) adds = tt
same-alike v w pc (Keep begins cs froms out next) adds = tt
same-alike v w pc (Spread froms cs to turns out width next) adds = tt
same-alike v w pc (Each many from count turn leave) adds = tt
same-alike v w pc (Add cs froms out next) adds = tt
same-alike v w pc (Call entry size args out width) adds = tt
same-alike v w pc (Return froms) adds = tt

pub code-writes : DoesToldCodeWrite
code-writes D u order t code by_rows told pc =
    same-alike (writes_of code) (plan_writes u order t) pc (code_of code pc)
    (writes-of-plans D (plan_of u order t) (shares_of u order) (writing_of u) (levels_of u) (functions_of u) code told (writes-told D u order t by_rows) pc)
