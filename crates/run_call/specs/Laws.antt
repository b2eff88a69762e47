-- What is said of runs of the entries of units.
use Rattle.std.specs.Prelude.{◌≡◌}
use Rattle.run_words.specs.declared.command.RunSet.{RunSet}
use Rattle.if1_graph.specs.declared.graph.Unit1.{Unit1}
use Rattle.unit_code.specs.declared.runs.Totals.{Totals}
use Rattle.run_call.specs.Calls.{Gives, PassesLimit}

-- there is at most one on the words
abbrev pub IsOneRun : Type 0
IsOneRun = (u : Unit1) (set : RunSet) (s t : Totals) → Gives u set s → Gives u set t → s ≡ t

-- there is none where the limit is passed
abbrev pub IsNoneBeyond : Type 0
IsNoneBeyond = (u : Unit1) (set : RunSet) (t : Totals) → Gives u set t → PassesLimit u set → ⊥
