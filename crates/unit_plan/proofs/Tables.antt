-- Tables of the plan of a unit are there: numbers rise inside.
use Rattle.std.proofs.Common.{◌≡◌, ◌==◌, ℕ, suc, ◌+◌, ◌<◌, ◌≤◌, max, eqb, if◌then◌else◌, List, [], ◌∷◌, length, Option, Some, None, refl, ap, ◌∙◌, subst, arith}
use Rattle.if1_graph.specs.declared.graph.Unit1.{Unit1}
use Rattle.if1_graph.specs.Ready.{IsReady}
use Rattle.if1_graph.specs.Units.{Place, number_of, places, sizes}
use Rattle.graph_meaning.proofs.Taken.{sound-in-order}
use Rattle.graph_meaning.proofs.Tests.{same-number}
use Rattle.graph_meaning.specs.Orders.{AreOrdersRight}
use Rattle.graph_meaning.proofs.Lists.{found-in}
use Rattle.if1_graph.specs.declared.op.Simple.{Simple}
use Rattle.graph_meaning.specs.Carried.{Carried}
use Rattle.graph_meaning.specs.Storage.{copied_by}
use Rattle.graph_meaning.specs.StorageUnits.{storage_of}
use Rattle.made_store.specs.Plans.{Weighing}
use Rattle.graph_meaning.specs.Demand.{EachNode, Kind, Plain, Vertex, Whole}
use Rattle.graph_meaning.specs.Forms as form
use Rattle.graph_meaning.specs.Networks.{net_at, network}
use Rattle.made_store.specs.OrderedMeaningOrders.{AreInOrder, IsInOrder}
use Rattle.made_store.specs.Cells.{picked}
use Rattle.made_store.specs.Made.{IsSized, Plan, arms_size, entry_from, greatest_extent, kind_size, nodes_extent, nodes_size, parts_extent}
use Rattle.made_store.proofs.Tables as made
use Rattle.made_store.specs.Plans.{All, IsInner}
use Rattle.made_store.specs.Tables.{InnersAre}
use Rattle.unit_plan.proofs.Found.{number-within}
use Rattle.unit_plan.proofs.RightNodes.{LaysIn, RightIn}
use Rattle.unit_plan.proofs.Right.{no-nodes, right}
use Rattle.unit_plan.proofs.Weighed.{copies-weighed}
use Rattle.unit_plan.specs.Laws.{AreUnitTablesThere}
use Rattle.unit_plan.specs.Plans.{Tables, functions_of, nodes_by, place_of, plain_of, plan_of}
use Rattle.unit_plan.specs.Shares.{weighing}

-- ---- where functions begin plays no part in sizes

module _ (u : Unit1) (order : ℕ → List Vertex) (size extent first second : ℕ → ℕ) where
  abbrev A : Plan
  A = plan_of u order (record { size = size; extent = extent; entry = first })

  abbrev B : Plan
  B = plan_of u order (record { size = size; extent = extent; entry = second })

  arms-same : (gs : List ℕ) → arms_size A gs ≡ arms_size B gs
  arms-same [] = refl
  arms-same (g ∷ gs) = ap (λ z. suc (size g) + z) (arms-same gs)

  greatest-same : (gs : List ℕ) → greatest_extent A gs ≡ greatest_extent B gs
  greatest-same [] = refl
  greatest-same (g ∷ gs) = ap (λ z. max (extent g) z) (greatest-same gs)

  kind-same : (k : Kind) → kind_size A k ≡ kind_size B k
  kind-same (Plain row shape) = refl
  kind-same (Whole (form.Call f)) = refl
  kind-same (Whole (form.Select s gs w)) = ap (λ z. 2 + (suc (size s) + z)) (arms-same gs)
  kind-same (Whole (form.TagCase gs w)) = ap (λ z. 2 + suc z) (arms-same gs)
  kind-same (Whole (form.LoopA i t b r w)) = refl
  kind-same (Whole (form.LoopB i t b r w)) = refl
  kind-same (Whole (form.ForAll g b r m w)) = refl

  parts-same : (k : Kind) → parts_extent A k ≡ parts_extent B k
  parts-same (Plain row shape) = refl
  parts-same (Whole (form.Call f)) = refl
  parts-same (Whole (form.Select s gs w)) = greatest-same (s ∷ gs)
  parts-same (Whole (form.TagCase gs w)) = ap suc (greatest-same gs)
  parts-same (Whole (form.LoopA i t b r w)) = refl
  parts-same (Whole (form.LoopB i t b r w)) = refl
  parts-same (Whole (form.ForAll g b r m w)) = refl

  sizes-same : (vs : List Vertex) → nodes_size A vs ≡ nodes_size B vs
  sizes-same [] = refl
  sizes-same (v ∷ vs) = ap (λ z. z + nodes_size A vs) (kind-same v.kind) ∙ ap (λ z. kind_size B v.kind + z) (sizes-same vs)

  extents-same : (g : ℕ) (vs : List Vertex) → nodes_extent A g vs ≡ nodes_extent B g vs
  extents-same g [] = refl
  extents-same g (v ∷ vs) =
      ap (λ z. max (A.width v + (length (picked (A.picks g v) v.ins) + z)) (A.width v + nodes_extent A g vs)) (parts-same v.kind)
      ∙ ap (λ z. max (A.width v + (length (picked (A.picks g v) v.ins) + parts_extent B v.kind)) (A.width v + z)) (extents-same g vs)

  sized-same : (g : ℕ) → IsSized A g → IsSized B g
  sized-same g h = (h.0 ∙ sizes-same (A.nodes g), h.1 ∙ extents-same g (A.nodes g))

  entries-same : (fs : List ℕ) (a f : ℕ) → entry_from A fs a f ≡ entry_from B fs a f
  entries-same [] a f = refl
  entries-same (h ∷ hs) a f = ap (λ z. if eqb h f then a else z) (entries-same hs (a + suc (size h)) f)

-- ---- numbers rise inside

module _ (u : Unit1) (order : ℕ → List Vertex) (t : Tables) (ready : IsReady u) (lists : AreOrdersRight u) (along : AreInOrder (network u) order) where
  abbrev P : Plan
  P = plan_of u order t

  abbrev W : Weighing
  W = weighing u order t

  abbrev by_row : ℕ → ℕ → Simple → List Carried → List Carried → ℕ
  by_row g l row ks rs = copied_by (storage_of u) g l row ks rs

  abbrev Inner : ℕ → ℕ → Type 0
  Inner g h = IsInner P W (network u) order (functions_of u) (LaysIn u order t W by_row (copies-weighed u order t) ready along g) h

  all-rise : (g : ℕ) (hs : List ℕ) → All (Inner g) hs → All (λ h. g < h) hs
  all-rise g [] h = tt
  all-rise g (x ∷ xs) h = (h.0.1.0, all-rise g xs h.1)

  kind-rises : (g : ℕ) (v : Vertex) (k : Kind) → RightIn u order t W by_row (copies-weighed u order t) ready along g v k → InnersAre P (λ h. g < h) k
  kind-rises g v (Plain row shape) h = tt
  kind-rises g v (Whole (form.Call f)) h = tt
  kind-rises g v (Whole (form.Select s gs w)) h = (h.2.1.0, all-rise g gs h.4)
  kind-rises g v (Whole (form.TagCase gs w)) h = all-rise g gs h.3
  kind-rises g v (Whole (form.LoopA i t b r w)) h = (h.2.1.0, h.3.1.0, h.5.1.0, h.7.0)
  kind-rises g v (Whole (form.LoopB i t b r w)) h = (h.2.1.0, h.3.1.0, h.5.1.0, h.7.0)
  kind-rises g v (Whole (form.ForAll e b r m w)) h = (h.2.1.0, h.3.1.0, h.5.0)

  nodes-rise : (g : ℕ) (vs : List Vertex) → EachNode (λ v. RightIn u order t W by_row (copies-weighed u order t) ready along g v v.kind) vs → EachNode (λ v. InnersAre P (λ h. g < h) v.kind) vs
  nodes-rise g [] h = tt
  nodes-rise g (v ∷ vs) h = (kind-rises g v v.kind h.0, nodes-rise g vs h.1)

  rises : (g : ℕ) → EachNode (λ v. InnersAre P (λ h. g < h) v.kind) (P.nodes g)
  rises g = nodes-rise g (P.nodes g) (right u order t W by_row (copies-weighed u order t) ready lists along g).kinds

  empty : (g : ℕ) → suc (sizes u.graphs) ≤ g → P.nodes g ≡ []
  empty g le = go (place_of u g) refl
    where
      by : (o : Option ℕ) (vs : List Vertex) → vs ≡ [] → nodes_by u g o vs ≡ []
      by None vs e = e
      by (Some plain) vs e = ap (nodes_by u g (Some plain)) e

      go : (o : Option Place) → place_of u g ≡ o → P.nodes g ≡ []
      go None e = by (plain_of u g) (order g) (no-nodes (order g) (subst (λ n. IsInOrder n (order g)) (ap (net_at u) e) (along g)))
      go (Some p) e =
          let x = found-in (λ p. number_of p == g) (places u) p e in
          let same = same-number (number_of p) g x.1 in
          let low = (number-within u ready.formed p x.0).1 in
          absurd (omega (arith, same, low, le))

pub tables-there : AreUnitTablesThere
tables-there u order ready sound along =
    let none : Tables = record { size = λ g. 0; extent = λ g. 0; entry = λ f. 0 } in
    let lists = sound-in-order u sound in
    let x = made.tables-there (plan_of u order none) (suc (sizes u.graphs)) (rises u order none ready lists along) (empty u order none ready lists along) in
    let zero_entry : Tables = record { size = x.0; extent = x.1; entry = λ f. 0 } in
    let entry : ℕ → ℕ = λ f. entry_from (plan_of u order zero_entry) (functions_of u) 0 f in (
      record { size = x.0; extent = x.1; entry = entry },
      record {
        sized = λ g. sized-same u order x.0 x.1 (λ f. 0) entry g (x.2 g);
        entries = λ f in_f. entries-same u order x.0 x.1 (λ f. 0) entry (functions_of u) 0 f;
      },
    )
