-- The nodes of a graph of a unit, in an order by their places.
use Rattle.std.proofs.Common.{◌≡◌, ℕ, zero, suc, ◌+◌, ◌<◌, Bool, List, [], ◌∷◌, map, length, slice_get, slice_index, Option, Some, None, Contains, refl, sym, ap, ◌∙◌, subst, arith}
use Rattle.std.proofs.lemmas.List.{length-map}
use Rattle.if1_graph.specs.declared.graph.Graph.TheViews.{out-Graph}
use Rattle.if1_graph.specs.declared.graph.Node.{Node}
use Rattle.if1_graph.specs.declared.graph.Unit1.{Unit1}
use Rattle.if1_graph.specs.declared.op.Simple.{Simple}
use Rattle.if1_graph.specs.Rows.{row_of}
use Rattle.if1_graph.specs.Units.{Place, label_of, number_of}
use Rattle.if1_order.proofs.Members.{contains_here, contains_there}
use Rattle.graph_meaning.specs.Demand.{Kind, Plain, Source, Vertex, Whole}
use Rattle.graph_meaning.specs.Laws.{outputs_by}
use Rattle.graph_meaning.specs.Networks.{kind_of}
use Rattle.graph_meaning.specs.NodeValues.{Shape}
use Rattle.graph_meaning.specs.Storage.{is_left}
use Rattle.graph_meaning.specs.StorageUnits.{storage_of}
use Rattle.run_code.specs.Made.{Plan}
use Rattle.firing_order.specs.Orders.{order_by, vertex_before, vertices_at, vertices_in}
use Rattle.firing_order.specs.Plans.{Tables, nodes_by, outputs_in, plan_of, plain_of}
use Rattle.firing_order.specs.Returns.{Way, node_collects, refolded_node, refolded_nodes, row_by, way_of}
use Rattle.firing_order.proofs.Found.{place-found}
use Rattle.firing_order.proofs.Ways.{WayIs, is_last, is_final, is_gather, is_reduce, is_whole, way-is}
use Rattle.plan_builder.specs.declared.outlets.Outlets.{Outlets}
use Rattle.plan_builder.specs.Laws.{AreOfGraph, AreOutletsOfUnits}
use Rattle.plan_builder.specs.Outlets.{AreNodesAt}

some-is : {A : Type 0} (a b : A) → Some a ≡ Some b → a ≡ b
some-is a b e = cc

mapped-at : {A : Type 0} (f : A → ℕ) (xs : List A) (k : ℕ) (a : A) → slice_get xs k ≡ Some a → slice_index (map f xs) k ≡ f a
mapped-at f [] k a e = absurd (let x : None ≡ Some a = e in cc)
mapped-at f (x ∷ xs) zero a e = ap f (some-is x a e)
mapped-at f (x ∷ xs) (suc k) a e = mapped-at f xs k a e

got-below : {A : Type 0} (xs : List A) (k : ℕ) → k < length xs → (a : A) × (slice_get xs k ≡ Some a)
got-below [] k lt = absurd (omega (arith, lt))
got-below (x ∷ xs) zero lt = (x, refl)
got-below (x ∷ xs) (suc k) lt = got-below xs k (omega (arith, lt))

-- a returns gives as much on what is collected
way-outputs : (plain : ℕ) (left : (port : ℕ) → Bool) (row : Simple) (os : List Source) (way : Way) (shape : Shape) → WayIs plain left row os way → outputs_by (row_of (row_by way row)).gives shape ≡ outputs_by (row_of row).gives shape
way-outputs plain left _ _ _ shape (is_last x j e) = refl
way-outputs plain left _ _ _ shape (is_final x y j q kept e f) = refl
way-outputs plain left _ _ _ shape (is_gather o x y j q kept plainly e f) = refl
way-outputs plain left _ _ _ shape (is_reduce g o x y j q kept plainly e f) = refl
way-outputs plain left _ _ _ shape (is_whole row os) = refl

module _ (u : Unit1) (order : (graph : ℕ) → List Vertex) (t : Tables) (x : Outlets) where
  abbrev P : Plan
  P = plan_of u order t

  module _ (plain : ℕ) (left : (node port : ℕ) → Bool) where
    label-kept : (k : ℕ) (v : Vertex) (kind : Kind) → (refolded_node plain left k v kind).label ≡ v.label
    label-kept k v (Plain row shape) = refl
    label-kept k v (Whole form) = refl

    as-wide : (k : ℕ) (v : Vertex) (kind : Kind) → v.kind ≡ kind → outputs_in u (refolded_node plain left k v kind).kind ≡ outputs_in u v.kind
    as-wide k v (Plain row shape) e =
        way-outputs plain (left v.label) row v.ins (way_of plain (left v.label) row v.ins) shape (way-is plain (left v.label) row v.ins) ∙ sym (ap (outputs_in u) e)
    as-wide k v (Whole form) e = refl

    refolded-laid : (k : ℕ) (os : List ℕ) (vs : List Vertex) → AreNodesAt P x os vs → AreNodesAt P x os (refolded_nodes plain left k vs)
    refolded-laid k [] [] h = tt
    refolded-laid k [] (v ∷ vs) h = absurd h
    refolded-laid k (o ∷ os) [] h = absurd h
    refolded-laid k (o ∷ os) (v ∷ vs) h =
        (label-kept k v v.kind ∙ h.0, as-wide k v v.kind refl ∙ h.1, refolded-laid (k + length (node_collects plain left v v.kind)) os vs h.2)

  by-plain : (g : ℕ) (o : Option ℕ) (os : List ℕ) (vs : List Vertex) → AreNodesAt P x os vs → AreNodesAt P x os (nodes_by u g o vs)
  by-plain g None os vs h = h
  by-plain g (Some plain) os vs h = refolded-laid plain (is_left (storage_of u) g) 0 os vs h

  module _ (p : Place) (of : AreOfGraph u p x) where
    abbrev nodes : List Node
    nodes = (out-Graph p.graph).nodes

    laid-at : (os : List ℕ) → ((k : ℕ) → Contains os k → k < length nodes) → AreNodesAt P x os (vertices_at u p.graph os)
    laid-at [] inside = tt
    laid-at (o ∷ os) inside =
        let n = got-below nodes o (inside o (contains_here o os)) in
        subst (λ z. AreNodesAt P x (o ∷ os) (vertex_before u p.graph z (vertices_at u p.graph os))) (sym n.1) (
          sym (ap (λ z. slice_index z o) of.labels ∙ mapped-at label_of nodes o n.0 n.1),
          sym (ap (λ z. slice_index z o) of.widths ∙ mapped-at (λ m. outputs_in u (kind_of u p.graph m)) nodes o n.0 n.1),
          laid-at os (λ k h. inside k (contains_there o os k h)),
        )

pub outlets-laid : AreOutletsOfUnits
outlets-laid u os t p x ready place are of ordered =
    let g = number_of p in
    let order = order_by u os in
    let long = ap length of.labels ∙ length-map (out-Graph p.graph).nodes label_of in
    let own = laid-at u order t x p of x.order (λ k h. let lt = (are.inside k).0 h in omega (arith, lt, long)) in
    let at_place = subst (λ ks. AreNodesAt (plan_of u order t) x x.order (vertices_at u p.graph ks)) ordered own in
    let all = subst (λ o. AreNodesAt (plan_of u order t) x x.order (vertices_in u o (os g))) (sym (place-found u ready.formed p place)) at_place in
    by-plain u order t x g (plain_of u g) x.order (order g) all
