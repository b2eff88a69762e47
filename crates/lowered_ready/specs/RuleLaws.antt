-- What the law on lowered graphs says.
use Rattle.std.specs.Prelude.{Bool, true, false, ◌&&◌, List, [], ◌∷◌}
use Rattle.flow_value.specs.declared.ty.Ty.{Ty}
use Rattle.if1_graph.specs.Types.{Sort}
use Rattle.typed_tree.specs.declared.expr.Source.{Source}
use Rattle.typed_tree.specs.declared.program.Program.{Program}
use Rattle.lowering.specs.declared.feed.Carried.{Carried}
use Rattle.lowering_meaning.specs.Fitting.{IsFitting}
use Rattle.lowering_meaning.specs.Coverage.{Coverage, AreCovered, masks_alone, all_one}
use Rattle.lowered_ready.specs.RuleSorts.{IsSorting}
use Rattle.lowered_ready.specs.Rules.{AreRight}

abbrev pub has_source : List Source → Bool
has_source [] = false
has_source (s ∷ ss) = true

-- every form, where a loop over generators has a generator, and each phrase of its clauses one value if it has a mask of `unless`, and
-- so each phrase of the clauses of a `for initial`
abbrev pub rule_forms : Coverage
rule_forms = record { operation = λ o. true; product = λ p ks. has_source p.sources && masks_alone p.clauses ks; initial = λ t ks. all_one ks }

-- the graphs of a fitting program obey the rules of ports and types
abbrev pub ObeyRules : Type 0
ObeyRules = (p : Program) (fit : IsFitting p) → AreCovered rule_forms p.functions → (bare : Ty → Ty) (sort : Carried → Sort) → IsSorting p.types p.names fit.headers bare sort → AreRight sort p
