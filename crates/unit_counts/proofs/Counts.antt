-- The code of a unit counts the copies of record.
use Rattle.std.proofs.Common.{◌≡◌, ℕ, List, get_or, sym, ap, ◌∙◌, subst}
use Rattle.if1_graph.specs.declared.graph.Unit1.{Unit1}
use Rattle.if1_graph.specs.Ready.{IsReady}
use Rattle.if1_graph.specs.Rows.{row_of}
use Rattle.if1_graph.specs.declared.op.Simple.{Simple}
use Rattle.graph_meaning.proofs.Outputs.{outputs-counted}
use Rattle.graph_meaning.specs.Carried.{Carried}
use Rattle.graph_meaning.specs.Demand.{Plain, Vertex}
use Rattle.graph_meaning.specs.Laws.{outputs_by}
use Rattle.graph_meaning.specs.Networks.{network}
use Rattle.graph_meaning.specs.NodeValues.{Shape, op}
use Rattle.ordered_meaning.specs.Orders.{AreInOrder}
use Rattle.run_code.specs.Machine.{Weigh}
use Rattle.run_code.specs.Made.{Plan, functions_lines}
use Rattle.run_code.specs.Steps.{Add, Branch, Call, Count, Each, Fire, Keep, Move, Return, Spread, Step, Tag, Test}
use Rattle.run_made.specs.Plans.{weigh_at}
use Rattle.run_store.specs.Effects.{reads_of}
use Rattle.run_store.specs.Stored.{Mode, copied}
use Rattle.made_store.specs.Settings.{Shares}
use Rattle.made_store.specs.Settled as settled
use Rattle.made_store.specs.Settled.{functions_settings}
use Rattle.unit_plan.specs.Plans.{Tables, functions_of, levels_of, outputs_in, plan_of}
use Rattle.unit_plan.specs.Shares.{shares_of, weighing}
use Rattle.step_code.specs.declared.code.Code.{Code}
use Rattle.step_code.specs.declared.step.Step.TheVariants as step
use Rattle.step_code.specs.Laid.{code_of, handling_of}
use Rattle.plan_data.specs.declared.plan.PlanData.{PlanData}
use Rattle.told_rows.proofs.Adding.{copies-of-plans}
use Rattle.told_rows.specs.Weights.{CopiesSame}
use Rattle.told_rows.proofs.Told.{copies-told}
use Rattle.unit_runs.specs.StepRuns.{weigh_of}
use Rattle.unit_runs.proofs.Alike.{copied-read}
use Rattle.unit_runs.proofs.Graphs.{graphs-bare}
use Rattle.unit_runs.proofs.Literals.{step-bare}
use Rattle.unit_runs.proofs.Uncopied.{made-bare}
use Rattle.unit_runs.specs.Alike.{AddsAlike, AreLiteralsBare, AreRead}
use Rattle.unit_runs.specs.Runs.{IsUnitCode}
use Rattle.unit_runs.specs.Units.{may_be_literal}
use Rattle.unit_counts.proofs.Fired.{node-fired}
use Rattle.unit_counts.proofs.Wide.{IsWide, lines-wide}
use Rattle.unit_counts.specs.Laws.{DoesToldCodeCount}

-- where a step and its setting copy as much of what is read, and the step is as wide as its row, it adds as much
adds-alike : (weigh other : Weigh) (pc : ℕ) (ms ns : List Mode) (x : Step) → ((ks : List Carried) → AreRead (reads_of x) ks → copied ms ks ≡ copied ns ks) → IsWide x → CopiesSame x ms ns (weigh pc) (other pc) → AddsAlike weigh other pc x
adds-alike weigh other pc ms ns (Fire row shape ins out w) same wide adds = λ ks read. adds ks (op row shape ks) (same ks read) (outputs-counted row shape ks ∙ wide)
adds-alike weigh other pc ms ns Count same wide adds = tt
adds-alike weigh other pc ms ns (Move froms out w next) same wide adds = tt
adds-alike weigh other pc ms ns (Tag union ts content out w next) same wide adds = tt
adds-alike weigh other pc ms ns (Branch a ts out w next) same wide adds = tt
adds-alike weigh other pc ms ns (Test a turn leave out w next) same wide adds = tt
adds-alike weigh other pc ms ns (Keep begins cs froms out next) same wide adds = tt
adds-alike weigh other pc ms ns (Spread froms cs to turns out w next) same wide adds = tt
adds-alike weigh other pc ms ns (Each many from count turn leave) same wide adds = tt
adds-alike weigh other pc ms ns (Add cs froms out next) same wide adds = tt
adds-alike weigh other pc ms ns (Call entry size args out w) same wide adds = tt
adds-alike weigh other pc ms ns (Return froms) same wide adds = tt

module _ (D : PlanData) (u : Unit1) (order : (graph : ℕ) → List Vertex) (t : Tables) (code : Code) (ready : IsReady u) (along : AreInOrder (network u) order) (is : IsUnitCode u order t code) where
  abbrev P : Plan
  P = plan_of u order t

  abbrev S : Shares
  S = shares_of u order

  abbrev given : (pc : ℕ) → List Mode
  given pc = (settled.handling_of (functions_settings P S (levels_of u) (functions_of u)) pc).modes

  abbrev own : (pc : ℕ) → List Mode
  own pc = (handling_of code pc).modes

  given-bare : (pc : ℕ) → AreLiteralsBare (given pc) (reads_of (code_of code pc))
  given-bare pc = subst (λ z. AreLiteralsBare (given pc) (reads_of z)) (sym (is.steps pc)) (made-bare P S (may_be_literal u) (levels_of u) (functions_of u) (graphs-bare u order t ready along) pc)

  own-bare : (pc : ℕ) → AreLiteralsBare (own pc) (reads_of (code_of code pc))
  own-bare pc = step-bare code (get_or code.steps pc (step.Return 0 0))

  same-copied : (pc : ℕ) (ks : List Carried) → AreRead (reads_of (code_of code pc)) ks → copied (own pc) ks ≡ copied (given pc) ks
  same-copied pc ks read =
      copied-read (own pc) (reads_of (code_of code pc)) ks (own-bare pc) read
      ∙ (ap (λ ms. copied ms ks) (is.modes pc) ∙ sym (copied-read (given pc) (reads_of (code_of code pc)) ks (given-bare pc) read))

  wide : (v : Vertex) (row : Simple) (shape : Shape) → v.kind ≡ Plain row shape → outputs_by (row_of row).gives shape ≡ P.width v
  wide v row shape e = sym (ap (outputs_in u) e)

  code-wide : (pc : ℕ) → IsWide (code_of code pc)
  code-wide pc = subst IsWide (sym (is.steps pc)) (lines-wide P wide (levels_of u) (functions_of u) pc)

pub code-counts : DoesToldCodeCount
code-counts D u order t code ready along stands by_rows is told pc =
    let P = plan_of u order t in
    let lines = functions_lines P (levels_of u) (functions_of u) 0 in
    let right = copies-told D u order t by_rows (λ g n v pair. node-fired u order t ready along g D stands n v pair) in
    adds-alike (weigh_of code) (weigh_at (weighing u order t) lines) pc (own D u order t code ready along is pc) (given D u order t code ready along is pc) (code_of code pc)
    (same-copied D u order t code ready along is pc) (code-wide D u order t code ready along is pc)
    (copies-of-plans D P (shares_of u order) (weighing u order t) (levels_of u) (functions_of u) code told right pc)
