-- What is printed is of the source.
use Rattle.std.proofs.Common.{◌≡◌, ℕ, Bool, true, false, List, Ok, subst}
use Rattle.if1_graph.specs.declared.graph.Unit1.{Unit1}
use Rattle.marks_made.specs.Units.{marks_of}
use Rattle.sisal_tree.specs.declared.unit.Unit as tree
use Rattle.typed_tree.specs.declared.program.Program.{Program}
use Rattle.meaning_laws.specs.Laws.{IsCallOne}
use Rattle.one_meaning.specs.Laws.{AreAnswersMoved}
use Rattle.run_words.specs.Words.{IsCommand}
use Rattle.run_words.specs.declared.command.Command.{Command}
use Rattle.run_words.specs.declared.command.Command.TheVariants as command
use Rattle.run_words.specs.declared.command.RunSet.{RunSet}
use Rattle.run_meaning.specs.Calls.{Gives as GivesRun}
use Rattle.run_meaning.specs.Laws.{IsRunUnit}
use Rattle.run_meaning.proofs.Sourced.{runs-of-sources}
use Rattle.sisal_top.specs.Answer.{Replies}
use Rattle.sisal_top.specs.Outputs.{HasProgram, HasGraphs, RunsUnit, PrintsRun}
use Rattle.sisal_top.specs.Program.{IsUnitOf}
use Rattle.answer_laws.specs.Sources.{PrintsOfSource, AreRunsOfTexts}
use Rattle.answer_laws.proofs.Moved.{moved-source}

-- of a SISAL text it is the unit of a program that runs
pub graphs-of : (if1 : Bool) (bytes : List ℕ) (u : Unit1) → if1 ≡ false → RunsUnit if1 bytes u → HasGraphs bytes u
graphs-of true bytes u e r = cc
graphs-of false bytes u e r = r

pub unit-of : (bytes : List ℕ) (u : Unit1) (g : HasGraphs bytes u) → IsRunUnit bytes g.typed.unit g.program g.unit
unit-of bytes u g = record {
  source = record { lexed = g.typed.is.lexed; typed = g.typed.typed; fits = g.fitting; unit = g.has.translated };
  ready = g.has.ready;
}

-- what the words are is one command
pub as-run : ((words : List (List ℕ)) (a b : Command) → IsCommand words a → IsCommand words b → a ≡ b)
    → (words : List (List ℕ)) (set : RunSet) → IsCommand words (command.Run set) → (P : Command → Type 0) → (c : Command) → IsCommand words c → P c → P (command.Run set)
as-run one words set is P c at h = subst P (one words c (command.Run set) at is) h

module _ (calls : IsCallOne) (moved : AreAnswersMoved) (commands : (words : List (List ℕ)) (a b : Command) → IsCommand words a → IsCommand words b → a ≡ b)
    (units : (bytes : List ℕ) (u v : tree.Unit) → IsUnitOf bytes u → IsUnitOf bytes v → u ≡ v) where
  run-printed : (set : RunSet) (bytes printed : List ℕ) (p : Program) → set.if1 ≡ false → HasProgram bytes p → PrintsRun set bytes printed → PrintsOfSource p set printed
  run-printed set bytes printed p e h r =
      let g = graphs-of set.if1 bytes r.unit e r.runs in
      let given : GivesRun (marks_of g.unit) set r.totals = subst (λ w. GivesRun w set r.totals) g.is r.given in
      let s = runs-of-sources bytes g.typed.unit g.program g.unit set r.totals (unit-of bytes r.unit g) given in
      record { totals = r.totals; source = moved-source units moved bytes set calls g.program p g.typed h r.totals.results r.totals.fires s; is = r.is }

  pub runs-of-texts : AreRunsOfTexts
  runs-of-texts words set bytes printed p w h g =
      let x = as-run commands words set w.command (λ c. Replies c bytes (Ok printed)) g.0 g.1 g.2 in
      run-printed set bytes printed p w.sisal h x.1
