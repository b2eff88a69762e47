-- What the laws say.
use Rattle.std.specs.Prelude.{◌≡◌, ◌≢◌, ◌⊎◌, ℕ, false, List, Option, Some, Result, Ok}
use Rattle.flow_io.specs.Bytes.{AddsOn}
use Rattle.sisal_top.specs.Compiled.{HasUnit, Prints}
use Rattle.if1_graph.specs.declared.graph.Unit1.{Unit1}
use Rattle.lowering.specs.TooMany.{too_many}
use Rattle.mean_call.specs.declared.fault.Refusal.{Refusal}
use Rattle.mean_call.specs.declared.fault.Refusal.TheVariants as refusal
use Rattle.sisal_top.specs.Calls.{Gives as GivesRun, IsRefused as HasNoTotals}
use Rattle.run_words.specs.Words.{IsCommand}
use Rattle.run_words.specs.declared.command.Command.TheVariants as command
use Rattle.run_words.specs.declared.command.CompileSet.{CompileSet}
use Rattle.run_words.specs.declared.command.RunSet.{RunSet}
use Rattle.typed_tree.specs.declared.program.Program.{Program}
use Rattle.sisal_top.specs.Totals.{Totals}
use Rattle.sisal_top.specs.Answer.{Answers, Gives}
use Rattle.sisal_top.specs.Program.{Fits}
use Rattle.sisal_top.specs.declared.status.Status.{Status}
use Rattle.sisal_top.specs.declared.status.Status.TheVariants as status
use Rattle.answer_laws.specs.Alike.{AreOne, Tells, AskLoosely}

-- words and bytes give one thing, but where a drawing or notes are asked for
abbrev pub OneAnswerLaw : Type 0
OneAnswerLaw = (words : List (List ℕ)) (bytes : List ℕ) (r s : Result (List ℕ) Status) → ¬ AskLoosely words → Gives words bytes r → Gives words bytes s → Tells r → Tells s → AreOne r s

-- where they give bytes, these are printed, unless memory is wanting or the outside failed
abbrev pub CompleteLaw : Type 0
CompleteLaw = (words : List (List ℕ)) (bytes printed : List ℕ) (s : Status) (before after : Option (List ℕ)) → ¬ AskLoosely words → Gives words bytes (Ok printed)
    → Answers words bytes s before after → s ≢ status.ReadFault → s ≢ status.WriteFault → ((s ≡ status.Done) × AddsOn before printed after) ⊎ (s ≡ status.NoMemory)

-- what `if1` prints of a text it prints of that again, and gives nothing else, where it is not too long to be read
abbrev pub IsPrintedAgain : Type 0
IsPrintedAgain = (words : List (List ℕ)) (bytes printed : List ℕ) → IsCommand words command.If1 → Gives words bytes (Ok printed) → Fits printed
    → Gives words printed (Ok printed) × ((r : Result (List ℕ) Status) → Gives words printed r → Tells r → r ≡ Ok printed)

-- a unit has one answer to the words of `run`, but for want of memory
pub record IsRunOnce : Type 0 where
  pub totals : (u : Unit1) (set : RunSet) (s t : Totals) → GivesRun u set s → GivesRun u set t → s ≡ t
  pub either : (u : Unit1) (set : RunSet) (t : Totals) (r : Refusal) → GivesRun u set t → HasNoTotals u set r → r ≡ refusal.NoMemory
  pub refusals : (u : Unit1) (set : RunSet) (r s : Refusal) → r ≢ refusal.NoMemory → s ≢ refusal.NoMemory → HasNoTotals u set r → HasNoTotals u set s → r ≡ s

-- a typed program has one unit of graphs and one text of it, or is past a limit
pub record AreGraphsOnce : Type 0 where
  pub units : (p : Program) (u v : Unit1) → HasUnit p u → HasUnit p v → u ≡ v
  pub texts : (p : Program) (set : CompileSet) (s t : List ℕ) → set.dot ≡ false → set.why ≡ false → set.code ≡ false → Prints p set s → Prints p set t → s ≡ t
  pub within : (p : Program) (u : Unit1) (line : ℕ) → HasUnit p u → too_many p ≡ Some line → ⊥
