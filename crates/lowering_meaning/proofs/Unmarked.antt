-- A translated unit has no marks, so it is ready where it is so with marks.
use Rattle.std.proofs.Common.{◌≡◌, ℕ, suc, false, List, [], ◌∷◌, ◌++◌, Option, Some, None, Contains, refl, sym, ap, subst, ◌∙◌}
use Rattle.std.specs.Prelude.{All}
use Rattle.std.proofs.lemmas.List.Elements.{All-nil, All-cons}
use Rattle.if1_graph.specs.declared.graph.Edge.{Edge}
use Rattle.if1_graph.specs.declared.graph.Graph.TheViews.{out-Graph}
use Rattle.if1_graph.specs.declared.graph.Node.{Node, out-Node}
use Rattle.if1_graph.specs.declared.graph.Origin.{Origin}
use Rattle.if1_graph.specs.declared.graph.Origin.TheVariants as origin
use Rattle.if1_graph.specs.declared.graph.Unit1.{Unit1}
use Rattle.if1_graph.specs.Ready.{IsReady}
use Rattle.if1_graph.specs.Units.{Place, places}
use Rattle.if1_graph.specs.Spelling.{IsLabel}
use Rattle.if1_marks.specs.Alike.{AreAlike, IsUntakenLiteral, AreMarksSpelled}
use Rattle.if1_marks.proofs.AlikeUnits.{alike-ready}
use Rattle.if1_marks.proofs.Lists.{here, there}
use Rattle.typed_tree.specs.declared.program.Program.{Program}
use Rattle.lowering.specs.declared.feed.Wire.{Wire}
use Rattle.lowering.specs.declared.graph.Action.{Action}
use Rattle.lowering.specs.declared.graph.Action.TheVariants.{Row, Call, Whole}
use Rattle.lowering.specs.declared.graph.LoweredNode.{LoweredNode}
use Rattle.lowering.specs.Types.{label_of}
use Rattle.lowered_units.specs.Fitting.{IsFitting}
use Rattle.lowered_units.specs.Listed.{ListedNode, NodeListing, node_listing}
use Rattle.lowered_units.specs.Units.{origin_of, edge_if, edges_into, node_edges, edges_of, listed_node, listed_nodes, IsTranslated}
use Rattle.lowered_units.proofs.OneUnit.{nodes_in, node-listing-at}
use Rattle.lowering_meaning.proofs.Readied.{stands-at}

abbrev AreUntaken : List Edge → Type 0
AreUntaken [] = Unit {0}
AreUntaken (e ∷ es) = (e.takes ≡ false) × AreUntaken es

untaken-both : (es fs : List Edge) → AreUntaken es → AreUntaken fs → AreUntaken (es ++ fs)
untaken-both [] fs a b = b
untaken-both (e ∷ es) fs a b = (a.0, untaken-both es fs a.1 b)

module _ (p : Program) where
  one-untaken : (node port ty : ℕ) (o : Option Origin) → AreUntaken (edge_if node port ty o)
  one-untaken node port ty None = tt
  one-untaken node port ty (Some o) = (refl, tt)

  into-untaken : (node port : ℕ) (ws : List Wire) → AreUntaken (edges_into p node port ws)
  into-untaken node port [] = tt
  into-untaken node port (w ∷ ws) = untaken-both (edge_if node port (label_of p w.ty) (origin_of w.feed)) (edges_into p node (suc port) ws) (one-untaken node port (label_of p w.ty) (origin_of w.feed)) (into-untaken node (suc port) ws)

  node-untaken : (label : ℕ) (a : Action) (ws : List Wire) → AreUntaken (node_edges p label a ws)
  node-untaken label (Row op) ws = into-untaken label 1 ws
  node-untaken label (Call f) ws = (refl, into-untaken label 2 ws)
  node-untaken label (Whole c gs arms given outs) ws = into-untaken label 1 ws

  all-untaken : (label : ℕ) (vs : List LoweredNode) (rs : List Wire) → AreUntaken (edges_of p label vs rs)
  all-untaken label [] rs = into-untaken 0 1 rs
  all-untaken label (v ∷ vs) rs = untaken-both (node_edges p label v.action v.ins) (edges_of p (suc label) vs rs) (node-untaken label v.action v.ins) (all-untaken (suc label) vs rs)

spelled-edges : (es : List Edge) → AreUntaken es → All (λ e. IsUntakenLiteral e e.from) es
spelled-edges [] h = All-nil (λ (e : Edge). IsUntakenLiteral e e.from)
spelled-edges (e ∷ es) h = All-cons (λ (e : Edge). IsUntakenLiteral e e.from) e es (by e.from) (spelled-edges es h.1)
  where
    by : (o : Origin) → IsUntakenLiteral e o
    by (origin.Port n r) = tt
    by (origin.Lit t) = h.0

-- nodes as they are listed have no ordering lists
action-before : (label : ℕ) (a : Action) → (listed_node label a).before ≡ []
action-before label (Row op) = refl
action-before label (Call f) = refl
action-before label (Whole c gs arms given outs) = refl

spelled-nodes : (label : ℕ) (ns : List Node) (vs : List LoweredNode) → nodes_in ns ≡ listed_nodes label vs → All (λ n. All IsLabel (out-Node n).before) ns
spelled-nodes label [] vs e = All-nil (λ n. All IsLabel (out-Node n).before)
spelled-nodes label (n ∷ ns) [] e = absurd cc
spelled-nodes label (n ∷ ns) (v ∷ vs) e =
    All-cons (λ n. All IsLabel (out-Node n).before) n ns
    (subst (All IsLabel) (sym (sym (ap (λ (z : NodeListing). z.node.before) (node-listing-at n)) ∙ (ap (λ (z : ListedNode). z.before) (first e) ∙ action-before label v.action))) (All-nil IsLabel))
    (spelled-nodes (suc label) ns vs (others e))
  where
    first : ((node_listing n).node ∷ nodes_in ns) ≡ (listed_node label v.action ∷ listed_nodes (suc label) vs) → (node_listing n).node ≡ listed_node label v.action
    first e = cc

    others : ((node_listing n).node ∷ nodes_in ns) ≡ (listed_node label v.action ∷ listed_nodes (suc label) vs) → nodes_in ns ≡ listed_nodes (suc label) vs
    others e = cc

all-of : {A : Type 0} (P : A → Type 0) (xs : List A) → ((x : A) → Contains xs x → P x) → All P xs
all-of P [] h = All-nil P
all-of P (x ∷ xs) h = All-cons P x xs (h x (here x xs)) (all-of P xs (λ y c. h y (there x xs y c)))

module _ (p : Program) (u : Unit1) (fit : IsFitting p) (t : IsTranslated p u) where
  spelled-at : (x : Place) → Contains (places u) x → AreMarksSpelled x
  spelled-at x c =
      let st = stands-at p u fit t x c in
      let d = st.0 in
      record {
        takers = subst (λ es. All (λ (e : Edge). IsUntakenLiteral e e.from) es) (sym st.1.edges) (spelled-edges _ (all-untaken p 1 d.nodes d.results));
        lists = spelled-nodes 1 (out-Graph x.graph).nodes d.nodes st.1.nodes;
      }

  -- it is ready where it is with marks
  pub ready-unmarked : (v : Unit1) → AreAlike v u → IsReady v → IsReady u
  ready-unmarked v alike ready = alike-ready v u alike (all-of AreMarksSpelled (places u) spelled-at) ready
