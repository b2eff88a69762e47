-- What a run of a text's unit gives, the text's source gives.
use Rattle.std.specs.Prelude.{◌≡◌, ◌*◌, ◌≤◌, ℕ, List}
use Rattle.flow_value.specs.declared.value.Val.{Val}
use Rattle.if1_graph.specs.declared.graph.Unit1.{Unit1}
use Rattle.if1_graph.specs.Ready.{IsReady}
use Rattle.marks_made.specs.Units.{marks_of}
use Rattle.sisal_tree.specs.declared.unit.Unit as tree
use Rattle.typed_tree.specs.declared.program.Program.{Program}
use Rattle.run_words.specs.declared.command.MeanSet.{MeanSet}
use Rattle.run_words.specs.declared.command.RunSet.{RunSet}
use Rattle.mean_call.specs.Calls.{Gives as HasValues}
use Rattle.mean_call.specs.declared.fault.Refusal.{Refusal}
use Rattle.mean_call.specs.declared.fault.Refusal.TheVariants as refusal
use Rattle.run_call.specs.Calls.{Gives as GivesRun, IsRefused}
use Rattle.run_call.specs.Totals.{Totals}
use Rattle.entry_laws.specs.Laws.{IsUnitOfText}

-- The program of a text, that fits, and its unit of graphs, which is ready with the marks that are made, with which it runs.
pub record IsRunUnit (bytes : List ℕ) (u : tree.Unit) (p : Program) (v : Unit1) : Type 0 where
  pub source : IsUnitOfText bytes u p v
  pub ready : IsReady (marks_of v)

-- the entry and the values that the words of `run` are, for `mean` with this limit of steps
abbrev pub meant : RunSet → (limit : ℕ) → MeanSet
meant set limit = record { entry = set.entry; limit = limit; values = set.values }

-- The program gives these values on the words, and so many firings are at most 8 times its steps.
pub record IsOfSource (p : Program) (set : RunSet) (values : List Val) (fires : ℕ) : Type 0 where
  pub limit : ℕ
  pub given : HasValues p (meant set limit) values
  pub bound : fires ≤ 8 * given.steps

abbrev pub AreRunsOfSources : Type 0
AreRunsOfSources = (bytes : List ℕ) (u : tree.Unit) (p : Program) (v : Unit1) (set : RunSet) (t : Totals) → IsRunUnit bytes u p v → GivesRun (marks_of v) set t → IsOfSource p set t.results t.fires

-- each run on the words gives these values in at most 8 firings a step, and there is no cause to refuse it
pub record IsRunAs (u : Unit1) (set : RunSet) (values : List Val) (steps : ℕ) : Type 0 where
  pub values_are : (t : Totals) → GivesRun u set t → (t.results ≡ values) × (t.fires ≤ 8 * steps)
  pub not_refused : (r : Refusal) → IsRefused u set r → r ≡ refusal.NoMemory

abbrev pub AreSourcesRun : Type 0
AreSourcesRun = (bytes : List ℕ) (u : tree.Unit) (p : Program) (v : Unit1) (set : RunSet) (values : List Val) (limit : ℕ) → IsRunUnit bytes u p v
    → (given : HasValues p (meant set limit) values) → 8 * given.steps ≤ set.limit → IsRunAs (marks_of v) set values given.steps
