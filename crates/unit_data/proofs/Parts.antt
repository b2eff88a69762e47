-- The graphs inside the nodes of a unit's plan, as data: their numbers are greater, and what a loop collects are its loop values.
use Rattle.std.proofs.Common.{◌≡◌, ℕ, suc, ◌<◌, List, [], ◌∷◌, map, length, slice_get, refl, sym, ap, subst}
use Rattle.if1_graph.specs.declared.graph.Unit1.{Unit1}
use Rattle.if1_graph.specs.declared.op.Simple.{Simple}
use Rattle.if1_graph.specs.Ready.{IsReady}
use Rattle.if1_marks.specs.Orders.{AreOrdersRight}
use Rattle.graph_meaning.specs.Carried.{Carried}
use Rattle.graph_meaning.specs.Demand.{EachNode, Kind, Source, Vertex}
use Rattle.graph_meaning.specs.Networks.{network}
use Rattle.graph_meaning.specs.Storage.{copied_by}
use Rattle.graph_meaning.specs.StorageUnits.{storage_of}
use Rattle.ordered_meaning.specs.Orders.{AreInOrder}
use Rattle.run_code.specs.Collections.{AreWithin}
use Rattle.run_code.specs.Made.{Plan}
use Rattle.run_made.specs.Plans.{All, IsInner}
use Rattle.plan_data.specs.Settings.{Shares}
use Rattle.step_code.specs.declared.step.Collect.{Collect}
use Rattle.step_code.specs.declared.step.Collect.TheVariants as collect
use Rattle.step_code.specs.Laid.{collect_in}
use Rattle.plan_nodes.proofs.RightNodes.{LaysIn, RightIn}
use Rattle.plan_nodes.proofs.Right.{right}
use Rattle.plan_nodes.proofs.Weighed.{copies-weighed}
use Rattle.plan_nodes.specs.Plans.{Tables, functions_of, plan_of}
use Rattle.plan_nodes.specs.Shares.{shares_of, weighing}
use Rattle.plan_data.specs.declared.plan.LoopParts.{LoopParts}
use Rattle.plan_data.specs.declared.plan.PlanData.{PlanData}
use Rattle.plan_data.specs.declared.plan.PlanGraph.{PlanGraph}
use Rattle.plan_data.specs.declared.plan.PlanNode.{PlanNode}
use Rattle.plan_data.specs.declared.plan.Port.{Port}
use Rattle.plan_data.specs.declared.plan.Work.{Work}
use Rattle.plan_data.specs.declared.plan.Work.TheVariants as work
use Rattle.plan_data.specs.Parts.{AreColumnsBelow, DoColumnsFit, graph_collects, graph_results, kind_of, refolded_of}
use Rattle.plan_data.specs.Stands.{AreFed, AreNodes}
use Rattle.plan_tables.specs.Above.{AllAbove, AreAbove, IsPartAbove}

-- so many sources are filled by so many ports
pub fed-long : (D : PlanData) (P : Plan) (S : Shares) (g : ℕ) (xs : List Port) (os : List Source) → AreFed D P S g xs os → length xs ≡ length os
fed-long D P S g [] [] h = refl
fed-long D P S g [] (o ∷ os) h = absurd h
fed-long D P S g (x ∷ xs) [] h = absurd h
fed-long D P S g (x ∷ xs) (o ∷ os) h = ap suc (fed-long D P S g xs os h.1)

columns-below : (m : ℕ) (cs : List Collect) → AreWithin m (map collect_in cs) → AreColumnsBelow m cs
columns-below m [] h = tt
columns-below m (collect.Sifts j mask copies ∷ cs) h = (tt, columns-below m cs h.1)
columns-below m (collect.Final j ∷ cs) h = (h.0, columns-below m cs h.1)

module _ (u : Unit1) (order : ℕ → List Vertex) (t : Tables) (ready : IsReady u) (lists : AreOrdersRight u) (along : AreInOrder (network u) order) where
  abbrev P : Plan
  P = plan_of u order t

  abbrev by_row : ℕ → ℕ → Simple → List Carried → List Carried → ℕ
  by_row g l row ks rs = copied_by (storage_of u) g l row ks rs

  abbrev pub IsRightIn : ℕ → Vertex → Kind → Type 0
  IsRightIn g v k = RightIn u order t (weighing u order t) by_row (copies-weighed u order t) ready along g v k

  abbrev Inner : ℕ → ℕ → Type 0
  Inner g h = IsInner P (weighing u order t) (network u) order (functions_of u) (LaysIn u order t (weighing u order t) by_row (copies-weighed u order t) ready along g) h

  pub nodes-right : (g : ℕ) → EachNode (λ v. IsRightIn g v v.kind) (P.nodes g)
  nodes-right g = (right u order t (weighing u order t) by_row (copies-weighed u order t) ready lists along g).kinds

  -- ---- numbers

  module _ (graphs : List PlanGraph) (own : (r : ℕ) → refolded_of r (slice_get graphs r) ≡ r) where
    all-above : (g : ℕ) (hs : List ℕ) → All (Inner g) hs → AllAbove g hs
    all-above g [] h = tt
    all-above g (x ∷ xs) h = (h.0.1.0, all-above g xs h.1)

    last-above : (g r : ℕ) → g < r → g < refolded_of r (slice_get graphs r)
    last-above g r h = subst (λ z. g < z) (sym (own r)) h

    work-above : (g : ℕ) (v : Vertex) (x : Work) (w : ℕ) → IsRightIn g v (kind_of x w) → IsPartAbove graphs g x
    work-above g v (work.Plain row shape writes copies) w h = tt
    work-above g v (work.Call f) w h = tt
    work-above g v (work.Select s gs) w h = (h.2.1.0, all-above g gs h.4)
    work-above g v (work.TagCase gs) w h = all-above g gs h.3
    work-above g v (work.LoopA p) w h = (h.2.1.0, h.3.1.0, h.5.1.0, last-above g p.returns h.7.0)
    work-above g v (work.LoopB p) w h = (h.2.1.0, h.3.1.0, h.5.1.0, last-above g p.returns h.7.0)
    work-above g v (work.ForAll e b r m) w h = (h.2.1.0, h.3.1.0, last-above g r h.5.0)

    pub nodes-above : (D : PlanData) (S : Shares) (g : ℕ) (ns : List PlanNode) (vs : List Vertex) → AreNodes D P S g ns vs → EachNode (λ v. IsRightIn g v v.kind) vs → AreAbove graphs g ns
    nodes-above D S g [] vs are h = tt
    nodes-above D S g (n ∷ ns) [] are h = absurd are
    nodes-above D S g (n ∷ ns) (v ∷ vs) are h =
        (work-above g v n.work n.width (subst (IsRightIn g v) are.0.kind h.0), nodes-above D S g ns vs are.1 h.1)

  -- ---- columns

  module _ (D : PlanData) (fed : (g : ℕ) → AreFed D P (shares_of u order) g (graph_results D g) (P.results g)) (collected : (r : ℕ) → P.collects r ≡ map collect_in (graph_collects D r)) where
    loop-fits : (p : LoopParts) → AreWithin (length (P.results p.init)) (P.collects p.returns) → AreColumnsBelow (length (graph_results D p.init)) (graph_collects D p.returns)
    loop-fits p h =
        columns-below (length (graph_results D p.init)) (graph_collects D p.returns)
        (subst (λ m. AreWithin m (map collect_in (graph_collects D p.returns))) (sym (fed-long D P (shares_of u order) p.init (graph_results D p.init) (P.results p.init) (fed p.init)))
        (subst (AreWithin (length (P.results p.init))) (collected p.returns) h))

    pub work-fits : (g : ℕ) (v : Vertex) (x : Work) (w : ℕ) → IsRightIn g v (kind_of x w) → DoColumnsFit D x
    work-fits g v (work.Plain row shape writes copies) w h = tt
    work-fits g v (work.Call f) w h = tt
    work-fits g v (work.Select s gs) w h = tt
    work-fits g v (work.TagCase gs) w h = tt
    work-fits g v (work.LoopA p) w h = loop-fits p h.8.1.0
    work-fits g v (work.LoopB p) w h = loop-fits p h.8.1.0
    work-fits g v (work.ForAll e b r m) w h = tt
