-- Code whose steps do the same as those of a unit's code is the unit's, and counts what that counts.
use Rattle.std.proofs.Common.{◌≡◌, ℕ, false, List, get_or, sym, ap, ◌∙◌, subst}
use Rattle.if1_graph.specs.declared.graph.Unit1.{Unit1}
use Rattle.graph_meaning.specs.Carried.{Carried}
use Rattle.graph_meaning.specs.Demand.{Vertex}
use Rattle.graph_meaning.specs.Networks.{network}
use Rattle.run_code.specs.Machine.{Weigh}
use Rattle.run_code.specs.Made.{Plan}
use Rattle.run_code.specs.Steps as steps
use Rattle.run_made.specs.Plans.{lines_of, weigh_at}
use Rattle.run_store.specs.Effects.{reads_of}
use Rattle.made_store.specs.Settings.{Shares}
use Rattle.made_store.specs.Settled as settled
use Rattle.step_code.specs.declared.code.Code.{Code}
use Rattle.step_code.specs.Laid.{code_of, handling_of}
use Rattle.quick_code.specs.Quick.{RunsSame}
use Rattle.code_maker.specs.Grows.{read_as}
use Rattle.code_maker.specs.Makes.{IsCodeOf}
use Rattle.sequential_run.specs.Runs.{weigh_of}
use Rattle.unit_plan.specs.Plans.{Tables, functions_of, levels_of, plan_of}
use Rattle.unit_plan.specs.Shares.{weighing}
use Rattle.unit_runs.specs.Alike.{AddsAlike}
use Rattle.unit_runs.specs.Quick.{IsQuickUnitCode}
use Rattle.unit_runs.specs.Runs.{CountsCopies}

quick-is : (P : Plan) (S : Shares) (levels : ℕ) (fs : List ℕ) (code quick : Code) → RunsSame code quick → IsCodeOf P S levels fs code → IsCodeOf P S levels fs quick
quick-is P S levels fs code quick r h =
    record {
      steps = λ pc. r.steps pc ∙ h.steps pc;
      modes = λ pc. ap (λ ms. read_as ms (reads_of (code_of quick pc))) (r.modes pc) ∙ subst (reads-so pc) (sym (r.steps pc)) (h.modes pc);
      puts = λ pc i. ap (λ bs. get_or bs i false) (r.puts pc) ∙ h.puts pc i;
      keeps = λ pc c. r.keeps pc c ∙ h.keeps pc c;
    }
  where
    reads-so : ℕ → steps.Step → Type 0
    reads-so pc x = read_as (handling_of code pc).modes (reads_of x) ≡ read_as (settled.handling_of (settled.functions_settings P S levels fs) pc).modes (reads_of x)

pub adds-so : (weigh quick other : Weigh) (pc : ℕ) (x : steps.Step) → ((ks rs : List Carried) → quick pc ks rs ≡ weigh pc ks rs) → AddsAlike weigh other pc x → AddsAlike quick other pc x
adds-so weigh quick other pc (steps.Fire row shape ins out w) same h = λ ks are. same ks _ ∙ h ks are
adds-so weigh quick other pc steps.Count same h = tt
adds-so weigh quick other pc (steps.Move froms out w next) same h = tt
adds-so weigh quick other pc (steps.Tag a ts content out w next) same h = tt
adds-so weigh quick other pc (steps.Branch a ts out w next) same h = tt
adds-so weigh quick other pc (steps.Test a turn leave out w next) same h = tt
adds-so weigh quick other pc (steps.Keep begins cs froms out next) same h = tt
adds-so weigh quick other pc (steps.Spread froms cs to turns out w next) same h = tt
adds-so weigh quick other pc (steps.Each n from count turn leave) same h = tt
adds-so weigh quick other pc (steps.Add cs froms out next) same h = tt
adds-so weigh quick other pc (steps.Call entry size args out w) same h = tt
adds-so weigh quick other pc (steps.Return froms) same h = tt

quick-counts : (u : Unit1) (order : (graph : ℕ) → List Vertex) (t : Tables) (code quick : Code) → RunsSame code quick → CountsCopies u order t code → CountsCopies u order t quick
quick-counts u order t code quick r h pc =
    subst (AddsAlike (weigh_of quick) other pc) (sym (r.steps pc)) (adds-so (weigh_of code) (weigh_of quick) other pc (code_of code pc) (r.copies pc) (h pc))
  where
    other : Weigh
    other = weigh_at (weighing u order t) (lines_of (plan_of u order t) (weighing u order t) (network u) order (functions_of u) (levels_of u))

pub quick-unit-code : IsQuickUnitCode
quick-unit-code u order t code quick r h k = (quick-is _ _ _ _ code quick r h, quick-counts u order t code quick r k)
