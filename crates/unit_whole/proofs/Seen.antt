-- What a node of a unit's plan writes is seen behind it.
use Rattle.std.proofs.Common.{◌≡◌, ℕ, suc, ◌+◌, ◌<◌, if◌then◌else◌, Bool, true, false, List, [], ◌∷◌, Option, Some, None, inl, inr, refl, sym, ap, ◌∙◌, subst, arith}
use Rattle.if1_graph.specs.declared.graph.Unit1.{Unit1}
use Rattle.if1_graph.specs.declared.op.Grouping.{Grouping}
use Rattle.if1_graph.specs.declared.op.Simple.{Simple}
use Rattle.if1_graph.specs.declared.op.Simple.TheVariants as simple
use Rattle.if1_graph.specs.Ready.{IsReady}
use Rattle.if1_graph.specs.Rows.{row_of}
use Rattle.graph_meaning.specs.Demand.{EachNode, Fixed, Kind, Plain, Port, Source, Vertex, Whole}
use Rattle.graph_meaning.specs.Laws.{outputs_by}
use Rattle.graph_meaning.specs.Networks.{network}
use Rattle.graph_meaning.specs.NodeValues.{Shape}
use Rattle.graph_meaning.specs.Storage.{is_left}
use Rattle.graph_meaning.specs.StorageUnits.{storage_of}
use Rattle.ordered_meaning.specs.Orders.{AreInOrder}
use Rattle.run_code.specs.Made.{Plan}
use Rattle.step_code.specs.declared.step.Written.{Written}
use Rattle.step_code.specs.declared.step.Written.TheVariants as written
use Rattle.told_rows.specs.Counts.{written_by_row}
use Rattle.plan_data.specs.declared.plan.PlanData.{PlanData}
use Rattle.plan_data.specs.declared.plan.PlanNode.{PlanNode}
use Rattle.plan_data.specs.Parts.{graph_nodes}
use Rattle.told_rows.specs.Grows.{IsPair}
use Rattle.told_rows.specs.Rows.{IsWrittenByRow, IsWrittenOf}
use Rattle.told_rows.specs.Plans.{Tables, nodes_by, outputs_in, plain_of, plan_of}
use Rattle.told_rows.specs.Returns.{Keeping, Lasts, Way, Wholly, ins_by, keeping_way, multiple, refolded_node, row_by, way_of}
use Rattle.told_rows.specs.Shares.{kind_or, kind_there}
use Rattle.plan_shares.proofs.Graphs.{IsAt, each-of, each-refolded, in-order, kind-at}
use Rattle.unit_whole.proofs.Named.{IsNamedAs, nodes-named}
use Rattle.unit_whole.specs.Seen.{AreNodesSeen, AreWrittenByRows, IsFixedFirst, IsSeenOf}

-- ---- rows

-- a row that writes
abbrev Writes : Simple → Type 0
Writes simple.ABuild = Unit {0}
Writes simple.AFill = Unit {0}
Writes simple.AGather = Unit {0}
Writes (simple.Reduce grouping) = Unit {0}
Writes simple.ACatenate = Unit {0}
Writes row = ⊥

-- it has an output, also where it does a returns on what is collected
some-output : (way : Way) (row : Simple) (shape : Shape) → Writes row → 0 < outputs_by (row_of (row_by way row)).gives shape
some-output (Lasts j) row shape h = omega arith
some-output (Keeping before j q) row shape h = own row shape h
  where
    own : (row : Simple) (shape : Shape) → Writes row → 0 < outputs_by (row_of row).gives shape
    own simple.ABuild shape h = omega arith
    own simple.AFill shape h = omega arith
    own simple.AGather shape h = omega arith
    own (simple.Reduce grouping) shape h = omega arith
    own simple.ACatenate shape h = omega arith
    own row shape h = absurd h
some-output Wholly row shape h = own row shape h
  where
    own : (row : Simple) (shape : Shape) → Writes row → 0 < outputs_by (row_of row).gives shape
    own simple.ABuild shape h = omega arith
    own simple.AFill shape h = omega arith
    own simple.AGather shape h = omega arith
    own (simple.Reduce grouping) shape h = omega arith
    own simple.ACatenate shape h = omega arith
    own row shape h = absurd h

abbrev IsReduce : Simple → Type 0
IsReduce (simple.Reduce grouping) = Unit {0}
IsReduce row = ⊥

catenated : (joined : Bool) (os : List Source) (w : ℕ) → 0 < w → IsSeenOf (if joined then written.Nothing else written.Elements) os w
catenated true os w some = tt
catenated false os w some = some

seen-row : (row : Simple) (joined : Bool) (os : List Source) (w : ℕ) → (Writes row → 0 < w) → (IsReduce row → IsFixedFirst os) → IsSeenOf (written_by_row row joined) os w
seen-row simple.ABuild joined os w some named = some tt
seen-row simple.AFill joined os w some named = some tt
seen-row simple.AGather joined os w some named = some tt
seen-row (simple.Reduce grouping) joined os w some named = (named tt, some tt)
seen-row simple.ACatenate joined os w some named = catenated joined os w (some tt)
seen-row row joined os w some named = tt

-- ---- on what is collected

-- the literal stays the first
still-fixed : (plain k : ℕ) (left : ℕ → Bool) (grouping : Grouping) (os : List Source) → IsFixedFirst os → IsFixedFirst (ins_by (way_of plain left (simple.Reduce grouping) os) plain k os)
still-fixed plain k left grouping [] h = absurd h
still-fixed plain k left grouping (Port l p ∷ os) h = absurd h
still-fixed plain k left grouping (Fixed c ∷ []) h = tt
still-fixed plain k left grouping (Fixed c ∷ x ∷ []) h = tt
still-fixed plain k left grouping (Fixed c ∷ x ∷ y ∷ []) h = go (left 2) (multiple plain x) (multiple plain y)
  where
    go : (b : Bool) (i j : Option ℕ) → IsFixedFirst (ins_by (keeping_way b (Fixed c ∷ []) i j) plain k (Fixed c ∷ x ∷ y ∷ []))
    go true i j = tt
    go false None j = tt
    go false (Some i) None = tt
    go false (Some i) (Some j) = tt
still-fixed plain k left grouping (Fixed c ∷ x ∷ y ∷ z ∷ os) h = tt

-- ---- nodes

module _ (D : PlanData) (u : Unit1) (order : (graph : ℕ) → List Vertex) (t : Tables) (ready : IsReady u) (along : AreInOrder (network u) order) (g : ℕ) where
  abbrev P : Plan
  P = plan_of u order t

  abbrev IsSeenThere : Vertex → Type 0
  IsSeenThere v = (writes : Written) → IsWrittenOf D u g v.label writes (kind_there (network u g) v) → IsSeenOf writes v.ins (P.width v)

  -- a node by its own kind
  seen-as : (v : Vertex) (k : Kind) → v.kind ≡ k → IsNamedAs v → (writes : Written) → IsWrittenOf D u g v.label writes k → IsSeenOf writes v.ins (P.width v)
  seen-as v (Whole form) is named writes h = absurd h
  seen-as v (Plain row shape) is named writes h =
      subst (λ x. IsSeenOf x v.ins (P.width v)) (sym h)
      (seen-row row ((storage_of u).is_joined g v.label) v.ins (P.width v) (λ w. subst (λ m. 0 < m) (sym (ap (outputs_in u) is)) (some-output Wholly row shape w)) (fixed row is))
    where
      fixed : (op : Simple) → v.kind ≡ Plain op shape → IsReduce op → IsFixedFirst v.ins
      fixed (simple.Reduce grouping) e h = named grouping shape e
      fixed op e h = absurd h

  seen-there : (v : Vertex) → IsNamedAs v × IsAt (network u g) v → IsSeenThere v
  seen-there v h writes w = seen-as v v.kind refl h.0 writes (subst (IsWrittenOf D u g v.label writes) (kind-at (network u g) v h.1.found) w)

  refolded-there : (plain k : ℕ) (v : Vertex) (kind : Kind) → v.kind ≡ kind → IsNamedAs v × IsAt (network u g) v → IsSeenThere (refolded_node plain (is_left (storage_of u) g) k v kind)
  refolded-there plain k v (Whole form) is h = seen-there v h
  refolded-there plain k v (Plain op own) is h = λ writes w.
      let x = refolded_node plain (is_left (storage_of u) g) k v (Plain op own) in
      let way = way_of plain (is_left (storage_of u) g v.label) op v.ins in
      let e : writes ≡ written_by_row op ((storage_of u).is_joined g v.label) = subst (IsWrittenOf D u g v.label writes) (ap (kind_or x.kind) h.1.found ∙ is) w in
      subst (λ y. IsSeenOf y x.ins (P.width x)) (sym e)
      (seen-row op ((storage_of u).is_joined g v.label) x.ins (P.width x) (λ y. some-output way op own y) (fixed op is))
    where
      fixed : (row : Simple) → v.kind ≡ Plain row own → IsReduce row → IsFixedFirst (ins_by (way_of plain (is_left (storage_of u) g v.label) row v.ins) plain k v.ins)
      fixed (simple.Reduce grouping) e r = still-fixed plain k (is_left (storage_of u) g v.label) grouping v.ins (h.0 grouping own e)
      fixed row e r = absurd r

  planned : (vs : List Vertex) → EachNode (λ v. IsNamedAs v × IsAt (network u g) v) vs → (o : Option ℕ) → EachNode IsSeenThere (nodes_by u g o vs)
  planned vs h None = each-of (λ v. IsNamedAs v × IsAt (network u g) v) IsSeenThere seen-there vs h
  planned vs h (Some plain) = each-refolded plain (is_left (storage_of u) g) (λ v. IsNamedAs v × IsAt (network u g) v) IsSeenThere (λ k v. refolded-there plain k v v.kind refl) 0 vs h

  all-seen : EachNode IsSeenThere (P.nodes g)
  all-seen = planned (order g) (in-order (network u g) IsNamedAs (nodes-named u ready g) (order g) (along g)) (plain_of u g)

  pair-seen : (ns : List PlanNode) (vs : List Vertex) (n : PlanNode) (v : Vertex) → IsPair ns vs n v → EachNode IsSeenThere vs → IsSeenThere v
  pair-seen [] vs n v h e = absurd h
  pair-seen (m ∷ ms) [] n v h e = absurd h
  pair-seen (m ∷ ms) (w ∷ ws) n v (inl h) e = subst IsSeenThere (sym h.1) e.0
  pair-seen (m ∷ ms) (w ∷ ws) n v (inr h) e = pair-seen ms ws n v h e.1

pub nodes-seen : AreNodesSeen
nodes-seen D u order t ready along written g n v pair row shape writes copies is =
    pair-seen D u order t ready along g (graph_nodes D g) ((plan_of u order t).nodes g) n v pair (all-seen D u order t ready along g) writes
    (subst (IsWrittenByRow D u g v) is (written g n v pair))
