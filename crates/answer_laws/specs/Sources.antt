-- What the program answers to `run` of a SISAL text, and what the text's source gives.
use Rattle.std.specs.Prelude.{◌≡◌, ◌*◌, ◌≤◌, ◌++◌, ℕ, false, None, List, Option, Ok}
use Rattle.flow_io.specs.Bytes.{AddsOn}
use Rattle.flow_value.specs.declared.value.Val.{Val}
use Rattle.typed_tree.specs.declared.program.Program.{Program}
use Rattle.lowering.specs.TooMany.{too_many}
use Rattle.mean_call.specs.Calls.{Gives as HasValues}
use Rattle.run_words.specs.Words.{IsCommand}
use Rattle.run_words.specs.declared.command.Command.TheVariants as command
use Rattle.run_words.specs.declared.command.RunSet.{RunSet}
use Rattle.run_meaning.specs.Totals.{Totals}
use Rattle.run_meaning.specs.Laws.{meant, IsOfSource}
use Rattle.sisal_top.specs.Answer.{Answers, Gives}
use Rattle.sisal_top.specs.Outputs.{lines, totals_if, HasProgram}
use Rattle.sisal_top.specs.Program.{IsPlain}
use Rattle.sisal_top.specs.declared.status.Status.{Status}
use Rattle.sisal_top.specs.declared.status.Status.TheVariants as status

-- the words are a plain `run` of a SISAL text
pub record IsRunOf (words : List (List ℕ)) (set : RunSet) : Type 0 where
  pub command : IsCommand words (command.Run set)
  pub plain : IsPlain set
  pub sisal : set.if1 ≡ false

-- The lines of the values that the program gives on the words, and where it is asked for the line of the totals, with at most 8
-- firings for each of its steps.
pub record PrintsOfSource (p : Program) (set : RunSet) (printed : List ℕ) : Type 0 where
  pub totals : Totals
  pub source : IsOfSource p set totals.results totals.fires
  pub is : printed ≡ lines totals.results ++ totals_if set.stats totals

-- whatever these words give of the bytes is of the source, for each typed program of the bytes
abbrev pub AreRunsOfTexts : Type 0
AreRunsOfTexts = (words : List (List ℕ)) (set : RunSet) (bytes printed : List ℕ) (p : Program) → IsRunOf words set → HasProgram bytes p → Gives words bytes (Ok printed) → PrintsOfSource p set printed

-- no typed program of the bytes is past a limit of the translation
abbrev pub IsWithin : List ℕ → Type 0
IsWithin bytes = (p : Program) → HasProgram bytes p → too_many p ≡ None

-- what is answered where the source gives these values in so many steps
pub data IsAnswered (set : RunSet) (values : List Val) (steps : ℕ) (before after : Option (List ℕ)) : Status → Type 0 where
  done : (t : Totals) → t.fires ≤ 8 * steps → AddsOn before (lines values ++ totals_if set.stats t) after → IsAnswered set values steps before after status.Done
  no_memory : after ≡ before → IsAnswered set values steps before after status.NoMemory
  read_fault : after ≡ before → IsAnswered set values steps before after status.ReadFault
  write_fault : IsAnswered set values steps before after status.WriteFault

abbrev pub AreSourcesPrinted : Type 0
AreSourcesPrinted = (words : List (List ℕ)) (set : RunSet) (bytes : List ℕ) (p : Program) (values : List Val) (limit : ℕ) (s : Status) (before after : Option (List ℕ))
    → IsRunOf words set → HasProgram bytes p → IsWithin bytes → (given : HasValues p (meant set limit) values) → 8 * given.steps ≤ set.limit
    → Answers words bytes s before after → IsAnswered set values given.steps before after s
