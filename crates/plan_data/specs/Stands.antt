-- Which plan, with which shares, stands in the data.
use Rattle.std.specs.Prelude.{◌≡◌, ℕ, suc, ◌+◌, if◌then◌else◌, false, List, [], ◌∷◌, get_or, map}
use Rattle.made_store.specs.Demand.{Source, Fixed, Vertex}
use Rattle.made_store.specs.Demand as demand
use Rattle.made_store.specs.Cells.{At}
use Rattle.made_store.specs.Made.{Plan, put}
use Rattle.made_store.specs.Stored.{Looks, Takes}
use Rattle.made_store.specs.Settings.{Shares, gives, modes_at, result_modes}
use Rattle.step_code.specs.Laid.{collect_in, puts_of}
use Rattle.plan_data.specs.declared.plan.Feed.{Feed}
use Rattle.plan_data.specs.declared.plan.Feed.TheVariants as feed
use Rattle.plan_data.specs.declared.plan.Port.{Port}
use Rattle.plan_data.specs.declared.plan.Work.{Work}
use Rattle.plan_data.specs.declared.plan.Work.TheVariants as work
use Rattle.plan_data.specs.declared.plan.PlanNode.{PlanNode}
use Rattle.plan_data.specs.declared.plan.PlanData.{PlanData}
use Rattle.plan_data.specs.Parts.{extent_in, first_given, graph_collects, graph_nodes, graph_refolded, graph_results, kind_of, literal_in, mode_of, picks_of, size_in, table_of}

module _ (D : PlanData) (P : Plan) (S : Shares) where
  -- what fills a port of a graph is this source; an output stands so many cells behind the first one of the graph's nodes
  abbrev pub IsFed : (graph : ℕ) → Feed → Source → Type 0
  IsFed g (feed.Input i) o = o ≡ demand.Port 0 (suc i)
  IsFed g (feed.Literal n) o = o ≡ Fixed (literal_in D n)
  IsFed g (feed.Output c) o = (l : ℕ) × (p : ℕ) × (o ≡ demand.Port (suc l) p) × ((lo : ℕ) → put P (P.nodes g) lo (suc l) p ≡ At (lo + c))

  abbrev pub AreFed : (graph : ℕ) → List Port → List Source → Type 0
  AreFed g [] [] = Unit {0}
  AreFed g (x ∷ xs) (o ∷ os) = IsFed g x.feed o × AreFed g xs os
  AreFed g _ _ = ⊥

  -- The node handles what fills its ports as the plan's does: a simple node or Call by its modes, while a compound node copies or takes
  -- it for its parts.
  abbrev pub IsHandled : (graph : ℕ) → List Port → Vertex → Work → Type 0
  IsHandled g xs v (work.Plain row shape writes copies) = modes_at P S g v ≡ map mode_of xs
  IsHandled g xs v (work.Call f) = modes_at P S g v ≡ map mode_of xs
  IsHandled g xs v _ = (P.picks g v ≡ map picks_of xs) × ((if gives P S g v 1 then Takes else Looks) ≡ first_given xs)

  pub record IsNode (g : ℕ) (n : PlanNode) (v : Vertex) : Type 0 where
    pub width : P.width v ≡ n.width
    pub kind : v.kind ≡ kind_of n.work n.width
    pub fed : AreFed g n.ins v.ins
    pub handled : IsHandled g n.ins v n.work

  abbrev pub AreNodes : (graph : ℕ) → List PlanNode → List Vertex → Type 0
  AreNodes g [] [] = Unit {0}
  AreNodes g (n ∷ ns) (v ∷ vs) = IsNode g n v × AreNodes g ns vs
  AreNodes g _ _ = ⊥

  pub record Stands : Type 0 where
    pub nodes : (g : ℕ) → AreNodes g (graph_nodes D g) (P.nodes g)
    pub results : (g : ℕ) → AreFed g (graph_results D g) (P.results g)
    pub modes : (g : ℕ) → result_modes P S g ≡ map mode_of (graph_results D g)
    pub collects : (r : ℕ) → P.collects r ≡ map collect_in (graph_collects D r)
    pub puts : (r i : ℕ) → get_or (S.puts r) i false ≡ get_or (map puts_of (graph_collects D r)) i false
    pub refolded : (r : ℕ) → P.refolded r ≡ graph_refolded D r
    pub entries : (f : ℕ) → P.entry f ≡ table_of D.entries f
    pub params : (f : ℕ) → P.params f ≡ table_of D.params f
    pub sizes : (g : ℕ) → P.size g ≡ size_in D g
    pub extents : (g : ℕ) → P.extent g ≡ extent_in D g
