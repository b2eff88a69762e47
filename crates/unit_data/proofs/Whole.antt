-- Graphs with right tables are the data of a unit.
use Rattle.std.proofs.Common.{◌≡◌, ◌∙◌, ◌⊎◌, inl, inr, ℕ, zero, suc, ◌<◌, ◌≤◌, Bool, false, List, [], ◌∷◌, map, length, get_or, slice_get, Some, None, Contains, All, refl, sym, ap, subst, arith}
use Rattle.std.proofs.lemmas.List.{get_or-map, get_or_past, length-map}
use Rattle.std.proofs.lemmas.Option.{slice_get_cases}
use Rattle.if1_graph.specs.declared.graph.Graph.{Graph}
use Rattle.if1_graph.specs.declared.graph.Graph.TheViews.{out-Graph}
use Rattle.if1_graph.specs.declared.graph.Unit1.{Unit1}
use Rattle.if1_graph.specs.Normal.{IsNormal}
use Rattle.if1_graph.specs.Ready.{IsReady}
use Rattle.if1_graph.specs.Units.{Function, Place, places}
use Rattle.if1_marks.proofs.Taken.{sound-in-order}
use Rattle.if1_marks.specs.Orders.{AreOrdersRight}
use Rattle.if1_marks.specs.Sound.{IsSound}
use Rattle.graph_meaning.specs.Carried.{Unfilled}
use Rattle.graph_meaning.specs.Demand.{EachNode, Vertex}
use Rattle.graph_meaning.specs.Entered.{IsIn}
use Rattle.graph_meaning.specs.Networks.{network}
use Rattle.ordered_meaning.specs.Orders.{AreInOrder}
use Rattle.step_code.specs.Cell.{Cell}
use Rattle.run_code.specs.Made.{Plan}
use Rattle.plan_data.specs.Settings.{Shares}
use Rattle.step_code.specs.declared.step.Collect.{Collect}
use Rattle.step_code.specs.Laid.{puts_of}
use Rattle.output_marks.specs.FiringOrderOrders.{order_by}
use Rattle.unit_laws.proofs.TypedPlans.{function-place}
use Rattle.output_marks.proofs.Numbered.{number-at}
use Rattle.plan_nodes.proofs.Found.{place-found}
use Rattle.plan_nodes.proofs.Weights.{plans-unpicked}
use Rattle.plan_nodes.specs.Plans.{Tables, functions_of, inputs_in, place_of, plan_of}
use Rattle.plan_nodes.specs.Shares.{shares_of}
use Rattle.plan_data.specs.declared.plan.Feed.{Feed}
use Rattle.plan_data.specs.declared.plan.Feed.TheVariants as feed
use Rattle.plan_data.specs.declared.plan.Port.{Port}
use Rattle.plan_data.specs.declared.plan.PlanData.{PlanData}
use Rattle.plan_data.specs.declared.plan.PlanGraph.{PlanGraph}
use Rattle.plan_data.specs.declared.plan.PlanNode.{PlanNode}
use Rattle.plan_data.specs.Parts.{AreBelow, AreNodesBelow, IsBelow, IsFormed, extent_in, graph_collects, graph_nodes, graph_results, literal_in, table_of}
use Rattle.plan_data.specs.Stands.{AreNodes, Stands}
use Rattle.plan_tables.proofs.Cells.{sized-by-tables}
use Rattle.plan_tables.proofs.Plans.{tables-are}
use Rattle.plan_tables.specs.Above.{ArePartsAbove}
use Rattle.graph_inputs.specs.declared.inputs.Inputs.{Inputs}
use Rattle.graph_inputs.specs.Inputs.{inputs_of}
use Rattle.unit_data.proofs.Parts.{IsRightIn, nodes-above, nodes-right, work-fits}
use Rattle.unit_data.proofs.Places.{none-first, none-past, none-there}
use Rattle.unit_data.specs.Data.{IsDataBy, tables_of}
use Rattle.unit_data.specs.Graphs.{AreAllBelow, AreGraphsAt, AreTabled, IsGraphAt}

-- ---- functions

in-functions : (gs : List Graph) (f : ℕ) → IsIn f (map (λ g. (out-Graph g).number) gs) → (k : ℕ) × (g : Graph) × (slice_get gs k ≡ Some g) × (f ≡ (out-Graph g).number)
in-functions [] f h = absurd h
in-functions (g ∷ gs) f (inl e) = (0, g, refl, e)
in-functions (g ∷ gs) f (inr h) = let x = in-functions gs f h in (suc x.0, x.1, x.2, x.3)

pub functions-inside : (u : Unit1) → IsReady u → IsNormal u → (f : ℕ) → IsIn f (functions_of u) → f < suc (length (places u))
functions-inside u ready normal f h =
    let x = in-functions u.graphs f h in
    let place = function-place u ready x.0 x.1 x.2 in
    let at = number-at u ready.formed normal (record { graph = x.1; home = Function x.0 }) place in
    omega (arith, x.3, at, place.1)

-- ---- inputs

module _ (u : Unit1) (ready : IsReady u) (normal : IsNormal u) where
  abbrev inputs : List Inputs
  inputs = map (inputs_of u) (places u)

  abbrev params : List ℕ
  params = 0 ∷ map (λ x. x.all) inputs

  pub params-long : length params ≡ suc (length (places u))
  params-long = ap suc (length-map inputs (λ (x : Inputs). x.all) ∙ length-map (places u) (inputs_of u))

  -- of the graph with this number
  pub params-are : (f : ℕ) → table_of params f ≡ inputs_in u (place_of u f)
  params-are zero = sym (ap (inputs_in u) (none-first u ready))
  params-are (suc k) = go (slice_get_cases (places u) k).1
    where
      go : ((p : Place) × (k < length (places u)) × (slice_get (places u) k ≡ Some p) × (get_or (places u) k p ≡ p)) ⊎ ((length (places u) ≤ k) × (slice_get (places u) k ≡ None)) → table_of params (suc k) ≡ inputs_in u (place_of u (suc k))
      go (inl x) =
          let c : Contains (places u) x.0 = (k, x.1, x.3) in
          let number = number-at u ready.formed normal x.0 c in
          let found : place_of u (suc k) ≡ Some x.0 = ap (place_of u) (sym number) ∙ place-found u ready.formed x.0 c in
          get_or-map (λ (y : Inputs). y.all) inputs k (inputs_of u x.0) 0 (omega (arith, x.1, length-map (places u) (inputs_of u)))
          ∙ (ap (λ (y : Inputs). y.all) (get_or-map (inputs_of u) (places u) k x.0 (inputs_of u x.0) x.1 ∙ ap (inputs_of u) x.3)
          ∙ sym (ap (inputs_in u) found))
      go (inr x) =
          let long = params-long in
          get_or_past params (suc k) 0 (omega (arith, long, x.0)) ∙ sym (ap (inputs_in u) (none-past u ready normal (suc k) (omega (arith, x.0))))

-- ---- what stands below

below-more : (a b : ℕ) → a ≤ b → (f : Feed) → IsBelow a f → IsBelow b f
below-more a b le (feed.Input i) h = tt
below-more a b le (feed.Output c) h = omega (arith, h, le)
below-more a b le (feed.Literal n) h = tt

all-below : (a b : ℕ) → a ≤ b → (xs : List Port) → AreBelow a xs → AreBelow b xs
all-below a b le [] h = tt
all-below a b le (x ∷ xs) h = (below-more a b le x.feed h.0, all-below a b le xs h.1)

no-puts : (cs : List Collect) (i : ℕ) → All (λ c. puts_of c ≡ false) cs → false ≡ get_or (map puts_of cs) i false
no-puts [] i h = refl
no-puts (c ∷ cs) zero h = sym (h 0 c (omega arith))
no-puts (c ∷ cs) (suc i) h = no-puts cs i (λ k d lt. h (suc k) d (omega (arith, lt)))

-- ---- the data

module _ (u : Unit1) (ready : IsReady u) (normal : IsNormal u) (sound : IsSound u) (os : ℕ → List ℕ) (along : AreInOrder (network u) (order_by u os)) (D : PlanData) (long : length D.graphs ≡ suc (length (places u))) where
  abbrev lists : AreOrdersRight u
  lists = sound-in-order u sound

  abbrev S : Shares
  S = shares_of u (order_by u os)

  module _ (t : Tables) (made : AreGraphsAt D u os t D.graphs) where
    abbrev P : Plan
    P = plan_of u (order_by u os) t

    at : (g : ℕ) → IsGraphAt D u os t g (slice_get D.graphs g)
    at g = go (slice_get_cases D.graphs g).1
      where
        go : ((x : _) × (g < length D.graphs) × (slice_get D.graphs g ≡ Some x) × (get_or D.graphs g x ≡ x)) ⊎ ((length D.graphs ≤ g) × (slice_get D.graphs g ≡ None)) → IsGraphAt D u os t g (slice_get D.graphs g)
        go (inl x) = subst (IsGraphAt D u os t g) (sym x.2) (made g x.0 x.2)
        go (inr x) = subst (IsGraphAt D u os t g) (sym x.1) (none-there D u os t g (none-past u ready normal g (omega (arith, x.0, long))))

    pub parts-above : ArePartsAbove D.graphs
    parts-above = λ g. nodes-above u (order_by u os) t ready lists along D.graphs (λ r. (at r).refolded) D S g (graph_nodes D g) (P.nodes g) (at g).nodes.nodes (nodes-right u (order_by u os) t ready lists along g)

    nodes-fit : (a b g : ℕ) → a ≤ b → (ns : List PlanNode) (vs : List Vertex) → AreNodes D P S g ns vs → EachNode (λ v. IsRightIn u (order_by u os) t ready lists along g v v.kind) vs → AreAllBelow a ns → AreNodesBelow D b ns
    nodes-fit a b g le [] vs are h below = tt
    nodes-fit a b g le (n ∷ ns) [] are h below = absurd are
    nodes-fit a b g le (n ∷ ns) (v ∷ vs) are h below = (
      all-below a b le n.ins below.0,
      work-fits u (order_by u os) t ready lists along D (λ g. (at g).results) (λ r. sym (at r).nodes.collects) g v n.work n.width (subst (IsRightIn u (order_by u os) t ready lists along g v) are.0.kind h.0),
      nodes-fit a b g le ns vs are.1 h.1 below.1,
    )

  module _ (made : AreGraphsAt D u os (tables_of D) D.graphs) (unfilled : literal_in D 0 ≡ Unfilled) (some : 0 < length D.literals) (tabled : AreTabled (functions_of u) D) (inputs : (f : ℕ) → table_of D.params f ≡ inputs_in u (place_of u f)) where
    abbrev own : Tables
    own = tables_of D

    is-formed : IsFormed D
    is-formed =
        record {
          sizes = tabled.sizes;
          extents = λ g. omega (arith, tabled.extents g);
          nodes = λ g. nodes-fit own made (at own made g).cells (extent_in D g) g (omega (arith, tabled.extents g, (at own made g).within)) (graph_nodes D g) ((P own made).nodes g) (at own made g).nodes.nodes
              (nodes-right u (order_by u os) own ready lists along g) (at own made g).below;
          results = λ g. all-below (at own made g).cells (extent_in D g) (omega (arith, tabled.extents g, (at own made g).within)) (graph_results D g) (at own made g).ends;
          rooms = tabled.rooms;
          marks = tabled.marks;
          unfilled = unfilled;
        }

    does-stand : Stands D (P own made) S
    does-stand =
        record {
          nodes = λ g. (at own made g).nodes.nodes;
          results = λ g. (at own made g).results;
          modes = λ g. (at own made g).modes;
          collects = λ r. sym (at own made r).nodes.collects;
          puts = λ r i. no-puts (graph_collects D r) i (at own made r).nodes.puts;
          refolded = λ r. sym (at own made r).refolded;
          entries = λ f. refl;
          params = λ f. sym (inputs f);
          sizes = λ g. refl;
          extents = λ g. refl;
        }

    pub data-by : IsDataBy u os D
    data-by =
        record {
          in_order = along;
          tables = record {
            sized = sized-by-tables D (P own made) S is-formed does-stand (plans-unpicked u (order_by u os) own) tabled.extents;
            entries = (tables-are D (P own made) S (functions_of u) is-formed does-stand tabled.entries).1;
          };
          formed = is-formed;
          stands = does-stand;
          written = λ g. (at own made g).nodes.written;
          counted = λ g. (at own made g).nodes.counted;
          many = long;
          some = some;
          steps = tabled.steps;
        }

-- ---- graphs that were made

module _ (u : Unit1) (ready : IsReady u) (normal : IsNormal u) (sound : IsSound u) (os : ℕ → List ℕ) (along : AreInOrder (network u) (order_by u os)) (gs : List PlanGraph) (ls : List Cell) (ms : List Bool) (long : length gs ≡ suc (length (places u)))
    (made : (D : PlanData) (t : Tables) → D.literals ≡ ls → D.marks ≡ ms → AreGraphsAt D u os t gs) where
  abbrev bare : PlanData
  bare = record { graphs = gs; sizes = []; extents = []; entries = []; params = []; literals = ls; marks = ms }

  abbrev none : Tables
  none = record { size = λ g. 0; extent = λ g. 0; entry = λ f. 0 }

  pub parts-of-unit : ArePartsAbove gs
  parts-of-unit = parts-above u ready normal sound os along bare long none (made bare none refl refl)

  pub unit-data : ((D : PlanData) → D.literals ≡ ls → D.marks ≡ ms → literal_in D 0 ≡ Unfilled) → 0 < length ls → (D : PlanData) (fs ps : List ℕ) → D.graphs ≡ gs → D.literals ≡ ls → D.marks ≡ ms → D.params ≡ ps → fs ≡ functions_of u
      → ps ≡ 0 ∷ map (λ x. x.all) (map (inputs_of u) (places u)) → AreTabled fs D → IsDataBy u os D
  unit-data begun some D fs ps graphs literals marks params functions inputs tabled =
      data-by u ready normal sound os along D (ap length graphs ∙ long) (subst (AreGraphsAt D u os (tables_of D)) (sym graphs) (made D (tables_of D) literals marks)) (begun D literals marks) (subst (λ cs. 0 < length cs) (sym literals) some)
      (subst (λ fs. AreTabled fs D) functions tabled) (λ f. ap (λ ps. table_of ps f) (params ∙ inputs) ∙ params-are u ready normal f)
