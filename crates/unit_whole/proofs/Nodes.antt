-- The nodes of a ready unit are even in its plan.
use Rattle.std.proofs.Common.{◌≡◌, ◌==◌, ℕ, zero, suc, ◌+◌, ◌<◌, Bool, true, false, List, [], ◌∷◌, map, drop, length, option_map, find, Option, Some, None, Contains, refl, sym, ap, ◌∙◌, subst, arith}
use Rattle.std.specs.Prelude.{slice_get, unwrap_or}
use Rattle.std.specs.Prelude as std
use Rattle.std.proofs.lemmas.List.Elements.{All-head, All-tail}
use Rattle.if1_graph.specs.declared.graph.Graph.{Graph}
use Rattle.if1_graph.specs.declared.graph.Graph.TheViews.{out-Graph}
use Rattle.if1_graph.specs.declared.graph.Node.{Node, out-Node}
use Rattle.if1_graph.specs.declared.graph.Unit1.{Unit1}
use Rattle.if1_graph.specs.declared.op.Compound.{Compound}
use Rattle.if1_graph.specs.declared.op.Compound.TheVariants as compound
use Rattle.if1_graph.specs.declared.op.Part.{Part}
use Rattle.if1_graph.specs.declared.op.Part.TheVariants as part
use Rattle.if1_graph.specs.declared.op.Simple.{Simple}
use Rattle.if1_graph.specs.Ops.{compound_at, simple_at}
use Rattle.if1_graph.specs.Parts.{part_at}
use Rattle.if1_graph.specs.Ports.{IsAssociation, carried, compound_outputs, part_results, results_at, tags_of}
use Rattle.if1_graph.specs.Ready.{IsReady}
use Rattle.if1_graph.specs.Types.{Member}
use Rattle.if1_graph.specs.Units.{Inside, Place, label_of, number_of, places, results}
use Rattle.if1_marks.proofs.Tests.{same-number}
use Rattle.if1_marks.specs.Given.{is_call_as}
use Rattle.graph_meaning.proofs.Lists.{found-in}
use Rattle.graph_meaning.proofs.StorageUnits.{plain-kind}
use Rattle.graph_meaning.specs.Demand.{EachNode, Kind, Plain, Vertex, Whole}
use Rattle.graph_meaning.specs.Forms as form
use Rattle.graph_meaning.specs.Networks.{callee_number, form_of, kind_as, net_at, network, number_or_zero, part as part_number, simple_kind, vertex_of}
use Rattle.graph_meaning.specs.Storage.{copied_by, is_left}
use Rattle.graph_meaning.specs.StorageUnits.{storage_of}
use Rattle.if1_graph.specs.declared.op.Simple.TheVariants as simple
use Rattle.ordered_meaning.specs.Orders.{AreInOrder, IsInOrder}
use Rattle.run_code.specs.Collections.{AreWithin}
use Rattle.run_code.specs.Made.{Plan}
use Rattle.run_made.specs.Plans.{All, IsKindRight}
use Rattle.unit_laws.proofs.TypedChoices.{got-below}
use Rattle.unit_laws.proofs.TypedParts.{compound-filled, part-count}
use Rattle.unit_plan.proofs.Found.{each-in-order, part-in}
use Rattle.unit_plan.proofs.Multiples.{call-is}
use Rattle.unit_plan.proofs.Outputs.{results-long}
use Rattle.unit_plan.proofs.Right.{no-nodes}
use Rattle.unit_plan.proofs.RightNodes.{LaysIn, RightIn, kind-right}
use Rattle.unit_plan.proofs.Weighed.{copies-weighed}
use Rattle.unit_plan.specs.Plans.{Tables, functions_of, nodes_by, outputs_in, place_of, plain_of, plan_of}
use Rattle.unit_plan.specs.Returns.{node_collects, refolded_node, refolded_nodes}
use Rattle.unit_plan.specs.Shares.{weighing}
use Rattle.unit_whole.specs.Even.{GiveAll, IsKindEven, IsLoopEven}
use Rattle.unit_whole.specs.Units.{AreUnitPlansEven}

-- ---- lists of graphs

all-mapped : (Q : ℕ → Type 0) (f : Graph → ℕ) (xs : List Graph) → ((i : ℕ) (s : Graph) → slice_get xs i ≡ Some s → Q (f s)) → All Q (map f xs)
all-mapped Q f [] h = tt
all-mapped Q f (x ∷ xs) h = (h 0 x refl, all-mapped Q f xs (λ i s e. h (suc i) s e))

all-arms : (Q : ℕ → Type 0) (f : ℕ → ℕ) (n : ℕ) (xs : List ℕ) → std.All (λ a. a < n) xs → ((a : ℕ) → a < n → Q (f a)) → All Q (map f xs)
all-arms Q f n [] h g = tt
all-arms Q f n (x ∷ xs) h g = (g x (All-head (λ a. a < n) x xs h), all-arms Q f n xs (All-tail (λ a. a < n) x xs h) g)

dropped : (xs : List Graph) (i : ℕ) (s : Graph) → slice_get (drop 1 xs) i ≡ Some s → slice_get xs (suc i) ≡ Some s
dropped [] i s e = absurd (let x : None ≡ Some s = e in cc)
dropped (x ∷ xs) i s e = e

-- the arms of a TagCase are among its graphs
arms-below : (tags : Option (List Member)) (n : ℕ) (list : List ℕ) → IsAssociation compound.TagCase tags n list → std.All (λ arm. arm < n) list
arms-below (Some tags) n list h = h.0
arms-below None n list h = h

module _ (u : Unit1) (order : ℕ → List Vertex) (t : Tables) (ready : IsReady u) (along : AreInOrder (network u) order) where
  abbrev P : Plan
  P = plan_of u order t

  abbrev Right : ℕ → Vertex → Kind → Type 0
  Right g v k = IsKindRight P (weighing u order t) (network u) order (functions_of u) (LaysIn u order t (weighing u order t) (λ g l row ks rs. copied_by (storage_of u) g l row ks rs) (copies-weighed u order t) ready along g) g v k

  module _ (p : Place) (place : Contains (places u) p) (n : Node) (inside : Contains (out-Graph p.graph).nodes n) where
    abbrev v : Vertex
    v = vertex_of u p.graph n

    abbrev gs : List Graph
    gs = (out-Node n).subs

    right : Right (number_of p) v v.kind
    right = kind-right u order t (weighing u order t) (λ g l row ks rs. copied_by (storage_of u) g l row ks rs) (copies-weighed u order t) ready along p place n inside

    module _ (c : Compound) (is : compound_at (out-Node n).op ≡ Some c) where
      kind-is : v.kind ≡ Whole (form_of c gs (out-Node n).assoc)
      kind-is = ap (λ o. kind_as u p.graph n o (simple_at (out-Node n).op)) is

      right-as : Right (number_of p) v (Whole (form_of c gs (out-Node n).assoc))
      right-as = subst (Right (number_of p) v) kind-is right

      width-is : P.width v ≡ outputs_in u (Whole (form_of c gs (out-Node n).assoc))
      width-is = ap (outputs_in u) kind-is

      module _ (k : ℕ) (s : Graph) (e : slice_get gs k ≡ Some s) where
        number-is : part_number gs k ≡ (out-Graph s).number
        number-is = ap number_or_zero e

        long : length (P.results (part_number gs k)) ≡ results s
        long = ap (λ h. length (network u h).results) number-is ∙ results-long u ready (record { graph = s; home = Inside p.graph n k }) (part-in u ready p place n inside k s e)

        counted : (x : Part) → part_at c k ≡ Some x → results s ≡ part_results c x gs (results s)
        counted x f = part-count u ready p place n inside c is k s e x f

        results-of : results_at gs k ≡ results s
        results-of = ap (λ o. unwrap_or (option_map results o) 0) e

    select-even : compound_at (out-Node n).op ≡ Some compound.Select → IsKindEven P (functions_of u) v (Whole (form_of compound.Select gs (out-Node n).assoc))
    select-even is =
        all-mapped (λ g. P.width v ≡ length (P.results g)) (λ g. (out-Graph g).number) (drop 1 gs)
        (λ i a e.
        let at = dropped gs i a e in
        subst (λ g. P.width v ≡ length (P.results g)) (number-is compound.Select is (suc i) a at)
        (width-is compound.Select is ∙ (sym (counted compound.Select is (suc i) a at part.Alternative refl) ∙ sym (long compound.Select is (suc i) a at))))

    tag-even : compound_at (out-Node n).op ≡ Some compound.TagCase → IsKindEven P (functions_of u) v (Whole (form_of compound.TagCase gs (out-Node n).assoc))
    tag-even is =
        let h = compound-filled u ready p place n inside compound.TagCase is in
        all-arms (λ g. P.width v ≡ length (P.results g)) (part_number gs) (length gs) (out-Node n).assoc (arms-below (tags_of (carried u p.graph (label_of n) 1)) (length gs) (out-Node n).assoc h.list)
        (λ a lt.
        let s = got-below gs a lt in
        width-is compound.TagCase is ∙ (sym (counted compound.TagCase is a s.0 s.1 part.Arm refl) ∙ sym (long compound.TagCase is a s.0 s.1)))

    last-even : (c : Compound) (is : compound_at (out-Node n).op ≡ Some c) (k : ℕ) → k < length gs → outputs_in u (Whole (form_of c gs (out-Node n).assoc)) ≡ results_at gs k → P.width v ≡ length (P.results (part_number gs k))
    last-even c is k lt e = let s = got-below gs k lt in width-is c is ∙ (e ∙ (results-of c is k s.0 s.1 ∙ sym (long c is k s.0 s.1)))

    kinds : (c : Compound) → compound_at (out-Node n).op ≡ Some c → IsKindEven P (functions_of u) v (Whole (form_of c gs (out-Node n).assoc))
    kinds compound.Select is = select-even is
    kinds compound.TagCase is = tag-even is
    kinds compound.LoopA is =
        let r = right-as compound.LoopA is in
        let four = (compound-filled u ready p place n inside compound.LoopA is).parts in
        (r.8.1.0, r.6, last-even compound.LoopA is 3 (omega (arith, four)) refl)
    kinds compound.LoopB is =
        let r = right-as compound.LoopB is in
        let four = (compound-filled u ready p place n inside compound.LoopB is).parts in
        (r.8.1.0, r.6, last-even compound.LoopB is 3 (omega (arith, four)) refl)
    kinds compound.ForAll is =
        let r = right-as compound.ForAll is in
        let three = (compound-filled u ready p place n inside compound.ForAll is).parts in
        (subst (λ m. AreWithin m (P.collects (part_number gs 2))) (sym r.4) r.6.0, last-even compound.ForAll is 2 (omega (arith, three)) refl)

    kind-even : IsKindEven P (functions_of u) v v.kind
    kind-even = go (compound_at (out-Node n).op) (simple_at (out-Node n).op) refl refl
      where
        go : (c : Option Compound) (o : Option Simple) → compound_at (out-Node n).op ≡ c → simple_at (out-Node n).op ≡ o → IsKindEven P (functions_of u) v (kind_as u p.graph n c o)
        go (Some c) o e f = kinds c e
        go None None e f = sym (ap (outputs_in u) (ap (λ c. kind_as u p.graph n c (simple_at (out-Node n).op)) e ∙ ap (kind_as u p.graph n None) f))
        go None (Some o) e f = by-call (is_call_as None (Some o)) refl
          where
            kind-of : v.kind ≡ simple_kind u p.graph (label_of n) o
            kind-of = ap (λ c. kind_as u p.graph n c (simple_at (out-Node n).op)) e ∙ ap (kind_as u p.graph n None) f

            by-call : (b : Bool) → is_call_as None (Some o) ≡ b → IsKindEven P (functions_of u) v (simple_kind u p.graph (label_of n) o)
            by-call true y =
                let z : simple_kind u p.graph (label_of n) o ≡ Whole (form.Call (callee_number u p.graph (label_of n))) = ap (simple_kind u p.graph (label_of n)) (call-is o y) in
                subst (IsKindEven P (functions_of u) v) (sym z) ((subst (Right (number_of p) v) (kind-of ∙ z) right).0, ap (outputs_in u) (kind-of ∙ z))
            by-call false y = let z = plain-kind u p.graph (label_of n) o y in subst (IsKindEven P (functions_of u) v) (sym z) (sym (ap (outputs_in u) (kind-of ∙ z)))

  -- ---- each graph

  -- a node on what is collected is as wide as its row
  refolded-one : (plain : ℕ) (left : (node port : ℕ) → Bool) (k : ℕ) (v : Vertex) (kind : Kind) → v.kind ≡ kind → IsKindEven P (functions_of u) v kind → IsKindEven P (functions_of u) (refolded_node plain left k v kind) (refolded_node plain left k v kind).kind
  refolded-one plain left k v (Plain row shape) e h = refl
  refolded-one plain left k v (Whole form) e h = subst (IsKindEven P (functions_of u) v) (sym e) h

  refolded : (plain : ℕ) (left : (node port : ℕ) → Bool) (k : ℕ) (vs : List Vertex) → EachNode (λ v. IsKindEven P (functions_of u) v v.kind) vs → EachNode (λ v. IsKindEven P (functions_of u) v v.kind) (refolded_nodes plain left k vs)
  refolded plain left k [] h = tt
  refolded plain left k (v ∷ vs) h = (refolded-one plain left k v v.kind refl h.0, refolded plain left (k + length (node_collects plain left v v.kind)) vs h.1)

  each-done : (g : ℕ) (vs : List Vertex) → EachNode (λ v. IsKindEven P (functions_of u) v v.kind) vs → (o : Option ℕ) → EachNode (λ v. IsKindEven P (functions_of u) v v.kind) (nodes_by u g o vs)
  each-done g vs h None = h
  each-done g vs h (Some plain) = refolded plain (is_left (storage_of u) g) 0 vs h

  none-even : (g : ℕ) → place_of u g ≡ None → EachNode (λ v. IsKindEven P (functions_of u) v v.kind) (order g)
  none-even g e = subst (EachNode (λ v. IsKindEven P (functions_of u) v v.kind)) (sym (no-nodes (order g) (subst (λ n. IsInOrder n (order g)) (ap (net_at u) e) (along g)))) tt

  graph-even : (g : ℕ) → EachNode (λ v. IsKindEven P (functions_of u) v v.kind) (P.nodes g)
  graph-even g = each-done g (order g) (go (place_of u g) refl) (plain_of u g)
    where
      go : (o : Option Place) → place_of u g ≡ o → EachNode (λ v. IsKindEven P (functions_of u) v v.kind) (order g)
      go None e = none-even g e
      go (Some p) e =
          let x = found-in (λ p. number_of p == g) (places u) p e in
          subst (λ h. EachNode (λ v. IsKindEven P (functions_of u) v v.kind) (order h)) (same-number (number_of p) g x.1)
          (each-in-order u ready p x.0 (λ v. IsKindEven P (functions_of u) v v.kind) (λ n c. kind-even p x.0 n c) (order (number_of p)) (along (number_of p)))

pub plans-even : AreUnitPlansEven
plans-even u order t ready along = graph-even u order t ready along
