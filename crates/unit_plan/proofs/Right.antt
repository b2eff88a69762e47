-- The plan of a unit is right.
use Rattle.std.proofs.Common.{◌≡◌, ◌==◌, ℕ, suc, List, [], ◌∷◌, map, slice_get, Option, Some, None, Contains, inl, inr, refl, sym, ap, ◌∙◌, subst, arith}
use Rattle.if1_graph.specs.declared.graph.Graph.{Graph}
use Rattle.if1_graph.specs.declared.graph.Graph.TheViews.{out-Graph}
use Rattle.if1_graph.specs.declared.graph.Unit1.{Unit1}
use Rattle.if1_graph.specs.Ready.{IsReady}
use Rattle.if1_graph.specs.Units.{Function, Place, number_of, places, sizes}
use Rattle.graph_meaning.proofs.Taken.{sound-in-order}
use Rattle.graph_meaning.proofs.Tests.{same-number}
use Rattle.graph_meaning.specs.Orders.{AreOrdersRight}
use Rattle.graph_meaning.proofs.Lists.{found-in}
use Rattle.graph_meaning.proofs.Units.{units-orderly}
use Rattle.if1_graph.specs.declared.op.Simple.{Simple}
use Rattle.graph_meaning.specs.Carried.{Carried}
use Rattle.graph_meaning.specs.Demand.{EachNode, LabelsOnce, Vertex}
use Rattle.graph_meaning.specs.Entered.{IsIn}
use Rattle.graph_meaning.specs.Networks.{net_at, network, nothing}
use Rattle.graph_meaning.specs.Storage.{copied_by, is_left, written_by}
use Rattle.graph_meaning.specs.StorageUnits.{storage_of}
use Rattle.made_store.specs.OrderedMeaningOrders.{AreInOrder, IsInOrder}
use Rattle.made_store.specs.Known.{AreReadable, KnowsAll}
use Rattle.made_store.specs.Made.{Plan}
use Rattle.made_store.proofs.Orders.{orders-readable}
use Rattle.made_store.proofs.Tables.{levels-enough}
use Rattle.made_store.specs.Plans.{CanLay, IsPlanned, IsRight, IsRightPlan, Weighing}
use Rattle.unit_laws.proofs.TypedPlans.{function-place}
use Rattle.unit_plan.proofs.Found.{each-in-order, function-plain, number-within}
use Rattle.unit_plan.proofs.RightNodes.{LaysIn, RightIn, kind-right}
use Rattle.unit_plan.proofs.Outputs.{nodes-read, results-read}
use Rattle.unit_plan.proofs.Weighed.{IsWeighed, copies-weighed, writes-weighed}
use Rattle.unit_plan.proofs.Ways.{all-readable, each-refolded, labels-once}
use Rattle.unit_plan.specs.Laws.{AreUnitPlansRight, AreUnitWritesRight}
use Rattle.unit_plan.specs.Plans.{AreTables, Tables, functions_of, levels_of, nodes_by, outputs_in, place_of, plain_of, plan_of}
use Rattle.unit_plan.specs.Shares.{weighing, writing_of}

-- a number of no graph has no nodes
pub no-nodes : (vs : List Vertex) → IsInOrder nothing vs → vs ≡ []
no-nodes [] h = refl
no-nodes (v ∷ vs) h = absurd (clash h.nodes.0.1)
  where
    clash : None ≡ Some v → ⊥
    clash e = cc

module _ (u : Unit1) (order : ℕ → List Vertex) (t : Tables) (W : Weighing) (by_row : (graph label : ℕ) → Simple → List Carried → List Carried → ℕ) (weighed : IsWeighed u order t W by_row) (ready : IsReady u) (lists : AreOrdersRight u)
    (along : AreInOrder (network u) order) where
  abbrev P : Plan
  P = plan_of u order t

  abbrev width : Vertex → ℕ
  width v = outputs_in u v.kind

  abbrev pub Right : ℕ → Type 0
  Right g = IsRight P W (network u) order (functions_of u) (LaysIn u order t W by_row weighed ready along g) g

  -- what is asked of the nodes of a graph
  record Good (g : ℕ) (vs : List Vertex) : Type 0 where
    pub readable : AreReadable width vs (network u g).results
    pub once : LabelsOnce vs
    pub kinds : EachNode (λ v. RightIn u order t W by_row weighed ready along g v v.kind) vs

  good-done : (g : ℕ) (vs : List Vertex) → Good g vs → (o : Option ℕ) → Good g (nodes_by u g o vs)
  good-done g vs h None = h
  good-done g vs h (Some plain) =
      record {
        readable = all-readable plain (is_left (storage_of u) g) width (λ v row shape e. ap (outputs_in u) e) vs (network u g).results h.readable;
        once = labels-once plain (is_left (storage_of u) g) width (λ v row shape e. ap (outputs_in u) e) 0 vs h.once;
        kinds = each-refolded (RightIn u order t W by_row weighed ready along g) plain (is_left (storage_of u) g) (λ v row shape. tt) 0 vs h.kinds;
      }

  good-right : (g : ℕ) → Good g (nodes_by u g (plain_of u g) (order g)) → Right g
  good-right g h = record { readable = h.readable; once = h.once; kinds = h.kinds }

  graph-good : (p : Place) → Contains (places u) p → Good (number_of p) (order (number_of p))
  graph-good p place =
      let g = number_of p in
      let x = orders-readable (network u g) (order g) width (units-orderly u ready lists g) (along g) (nodes-read u ready p place (order g) (along g)) (results-read u ready p place) in
      record {
        readable = x.0;
        once = x.1;
        kinds = each-in-order u ready p place (λ v. RightIn u order t W by_row weighed ready along g v v.kind) (λ n c. kind-right u order t W by_row weighed ready along p place n c) (order g) (along g);
      }

  none-good : (g : ℕ) → place_of u g ≡ None → Good g (order g)
  none-good g e =
      subst (Good g) (sym (no-nodes (order g) (subst (λ n. IsInOrder n (order g)) (ap (net_at u) e) (along g))))
      (record { readable = (tt, subst (λ n. KnowsAll [] n.results) (sym (ap (net_at u) e)) tt); once = tt; kinds = tt })

  pub right : (g : ℕ) → Right g
  right g = good-right g (good-done g (order g) (go (place_of u g) refl) (plain_of u g))
    where
      go : (o : Option Place) → place_of u g ≡ o → Good g (order g)
      go None e = none-good g e
      go (Some p) e =
          let x = found-in (λ p. number_of p == g) (places u) p e in
          subst (λ h. Good h (order h)) (same-number (number_of p) g x.1) (graph-good p x.0)

  -- ---- functions

  function-of : (gs : List Graph) (f : ℕ) → IsIn f (map (λ g. (out-Graph g).number) gs) → (k : ℕ) × (g : Graph) × (slice_get gs k ≡ Some g) × (f ≡ (out-Graph g).number)
  function-of [] f h = absurd h
  function-of (g ∷ gs) f (inl e) = (0, g, refl, e)
  function-of (g ∷ gs) f (inr h) = let x = function-of gs f h in (suc x.0, x.1, x.2, x.3)

  function-right : (f : ℕ) → IsIn f (functions_of u) → IsPlanned P W (network u) order (functions_of u) f × CanLay P W (network u) order (functions_of u) (levels_of u) f
  function-right f in_f =
      let x = function-of u.graphs f in_f in
      let place = function-place u ready x.0 x.1 x.2 in
      let plain = ap (plain_of u) x.3 ∙ function-plain u ready x.0 x.1 place in
      let within = number-within u ready.formed (record { graph = x.1; home = Function x.0 }) place in
      let low = within.1 in
      let same = x.3 in (
        (ap (λ o. nodes_by u f o (order f)) (sym plain), refl),
        levels-enough P W (network u) order (functions_of u) (suc (sizes u.graphs)) (λ g lt. right g) (levels_of u) f (omega (arith, low, same)) (omega arith),
      )

  pub plan-right : AreTables u order t → IsRightPlan P W (network u) order (functions_of u) (levels_of u)
  plan-right tables = record { sized = tables.sized; entries = tables.entries; graphs = function-right }

pub plans-right : AreUnitPlansRight
plans-right u order t ready sound along tables =
    plan-right u order t (weighing u order t) (λ g l row ks rs. copied_by (storage_of u) g l row ks rs) (copies-weighed u order t) ready (sound-in-order u sound) along tables

pub writes-right : AreUnitWritesRight
writes-right u order t ready sound along tables =
    plan-right u order t (writing_of u) (λ g l row ks rs. written_by (storage_of u) g l row ks rs) (writes-weighed u order t) ready (sound-in-order u sound) along tables
