-- Ranges in the code of a unit are those of what is made of its plan.
use Rattle.std.proofs.Common.{ℕ, ◌+◌, List, [], sym, ◌∙◌, subst}
use Rattle.if1_graph.specs.declared.graph.Unit1.{Unit1}
use Rattle.if1_graph.specs.Ready.{IsReady}
use Rattle.if1_marks.proofs.Taken.{sound-in-order}
use Rattle.if1_marks.specs.Sound.{IsSound}
use Rattle.graph_meaning.proofs.Units.{units-orderly}
use Rattle.graph_meaning.specs.Demand.{Network, Vertex}
use Rattle.graph_meaning.specs.Networks.{network}
use Rattle.graph_meaning.specs.StorageUnits.{storage_of}
use Rattle.ordered_meaning.specs.Orders.{AreInOrder}
use Rattle.run_code.specs.Made.{Plan}
use Rattle.run_made.proofs.Making.{lines-lie}
use Rattle.run_made.specs.Plans.{IsRightPlan, Weighing}
use Rattle.run_store.specs.Whole.{IsStoredCode}
use Rattle.made_store.proofs.Settling.{functions-so, stand-in}
use Rattle.made_store.proofs.Units.{made-stored}
use Rattle.made_store.specs.Settings.{FunctionsSet, Shares}
use Rattle.made_store.specs.Settled.{functions_settings, handling_of, live_of, own_of}
use Rattle.unit_plan.proofs.Right.{plans-right}
use Rattle.unit_plan.proofs.Weights.{weights-alike}
use Rattle.unit_plan.specs.Plans.{AreTables, Tables, functions_of, levels_of, plan_of}
use Rattle.unit_plan.specs.Shares.{shares_of, weighing}
use Rattle.plan_shares.proofs.Right.{shares-right}
use Rattle.sequential_range.specs.Ranges as ranges
use Rattle.sequential_range.specs.Ranges.{IsBefore, ReachesFirst}
use Rattle.unit_runs.proofs.Runs.{one}
use Rattle.run_ranges.proofs.Finding.{eaches}
use Rattle.run_ranges.proofs.Running.{ranges-alone-that-agree-begin, ranges-that-agree-of-record}
use Rattle.run_ranges.proofs.Taking.{eaches-take-above}
use Rattle.run_ranges.specs.Alone.{TakesAbove}
use Rattle.run_ranges.specs.Ranges.{ForAllAt, iterations}
use Rattle.run_ranges.specs.Units.{AreUnitEachesOfForAlls, AreUnitRangesOfRecord, DoUnitRangesBegin, DoesUnitCodeAgree, IsPlace, layout_of, settings_of}

pub unit-code-agrees : DoesUnitCodeAgree
unit-code-agrees u order t code limit ready along is counts = record { steps = is.steps; keeps = is.keeps; same = one u order t code limit is counts ready along }

pub unit-eaches : AreUnitEachesOfForAlls
unit-eaches u order t code ready sound along tables is place n first count turn leave there each =
    let X = layout_of u order t in
    eaches (plan_of u order t) (weighing u order t) (network u) order (functions_of u) (levels_of u) X.code X.weigh (plans-right u order t ready sound along tables)
    (lines-lie (plan_of u order t) (weighing u order t) (network u) order (functions_of u) (levels_of u)) place n first count turn leave there (sym (is.steps place) ∙ each)

made-set : (P : Plan) (S : Shares) (W : Weighing) (u : Network) (order : ℕ → List Vertex) (functions : List ℕ) (n : ℕ) → IsRightPlan P W u order functions n
    → FunctionsSet P S (handling_of (functions_settings P S n functions)) (live_of (functions_settings P S n functions)) (own_of (functions_settings P S n functions)) n functions 0
made-set P S W u order functions n right =
    let ss = functions_settings P S n functions in
    functions-so P S W u order functions (handling_of ss) (live_of ss) (own_of ss) right.sized n (λ f i. (right.graphs f i).1) functions 0 (λ x i. i) (stand-in P S W u order functions ss)

module _ (u : Unit1) (order : ℕ → List Vertex) (t : Tables) (ready : IsReady u) (sound : IsSound u) (along : AreInOrder (network u) order) (tables : AreTables u order t) where
  stored : (let ss = settings_of u order t in IsStoredCode (storage_of u) (layout_of u order t) (handling_of ss) (λ pc. []) (live_of ss) (own_of ss))
  stored =
      made-stored (plan_of u order t) (shares_of u order) (weighing u order t) (network u) order (functions_of u) (levels_of u) (storage_of u) (plans-right u order t ready sound along tables) (shares-right u order t ready sound along)
      (weights-alike u order t ready (sound-in-order u sound))

  take-above : (f : ForAllAt (layout_of u order t)) → IsPlace u order t (iterations (layout_of u order t) f).each → TakesAbove (layout_of u order t) (handling_of (settings_of u order t)) (iterations (layout_of u order t) f)
  take-above f there =
      let P = plan_of u order t in
      let S = shares_of u order in
      let W = weighing u order t in
      let fs = functions_of u in
      let n = levels_of u in
      let X = layout_of u order t in
      let ss = settings_of u order t in
      let right = plans-right u order t ready sound along tables in
      eaches-take-above P S W (network u) order fs n X.code X.weigh (handling_of ss) (live_of ss) (own_of ss) right (shares-right u order t ready sound along) (lines-lie P W (network u) order fs n)
      (made-set P S W (network u) order fs n right) f there

pub unit-ranges-begin : DoUnitRangesBegin
unit-ranges-begin u order t code limit ready sound along tables is counts place there e base s ks ms cols i k has supplied long full results cost rows m at_s =
    let X = layout_of u order t in
    let ss = settings_of u order t in
    subst (λ z. ranges.IsBegun code limit z base (i + k) m s) e.each_is
    (ranges-alone-that-agree-begin (storage_of u) X (handling_of ss) code (λ pc. []) (live_of ss) (own_of ss) limit (unit-code-agrees u order t code limit ready along is counts) (stored u order t ready sound along tables)
    (units-orderly u ready (sound-in-order u sound)) along e.it e.apart (take-above u order t ready sound along tables e.it (subst (IsPlace u order t) (sym e.each_is) there)) base s ks ms cols i k has supplied long full results cost rows m at_s)

pub unit-ranges-of-record : AreUnitRangesOfRecord
unit-ranges-of-record u order t code limit ready sound along tables is counts place e base s r ks ms cols i k has long full results cost rows le first before =
    let X = layout_of u order t in
    let ss = settings_of u order t in
    ranges-that-agree-of-record (storage_of u) X (handling_of ss) code (λ pc. []) (live_of ss) (own_of ss) limit (unit-code-agrees u order t code limit ready along is counts) (stored u order t ready sound along tables)
    (units-orderly u ready (sound-in-order u sound)) along e.it e.apart base s r ks ms cols i k has long full results cost rows le (subst (λ z. ReachesFirst code limit z base (i + k) s r) (sym e.each_is) first)
    (subst (λ z. IsBefore code z base (i + k) r) (sym e.each_is) before)
