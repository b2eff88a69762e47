-- Two graphs of the same nodes and edges differ in their numbers alone.
use Rattle.std.proofs.Common.{◌≡◌, ℕ, List, map, refl, sym, ap, subst, ◌∙◌}
use Rattle.std.specs.Prelude.{filter, ◌==◌}
use Rattle.if1_graph.specs.declared.graph.Graph.{Graph}
use Rattle.if1_graph.specs.declared.graph.Graph.TheViews.{out-Graph}
use Rattle.if1_graph.specs.declared.graph.Node.{Node}
use Rattle.if1_graph.specs.declared.graph.Edge.{Edge}
use Rattle.if1_graph.specs.declared.graph.Origin.{Origin}
use Rattle.if1_graph.specs.declared.graph.Origin.TheVariants.{Port, Lit}
use Rattle.if1_graph.specs.declared.graph.Unit1.{Unit1}
use Rattle.if1_graph.specs.Types.{entry_at}
use Rattle.if1_graph.specs.Units.{label_of, Home, Place}
use Rattle.if1_graph.specs.Formed.{want_at, IsGraph}
use Rattle.if1_graph.specs.Normal.{canonical_as, canonical_origin, canonical_edge, IsNormalGraph}
use Rattle.if1_graph.specs.Reads.{into_port, IsGraphOf}
use Rattle.if1_read.specs.Like.{IsLike, AreNodesLike, no_node, node, graph}
use Rattle.if1_read.specs.Made.{Each, none, more}
use Rattle.if1_read.proofs.Likeness.{Pairs, want_like}
use Rattle.if1_unique.proofs.Ordered.{each_filter}
use Rattle.if1_unique.proofs.Listed.{rising_each, edges_same}

-- what is known of each graph of a unit
pub record Sound (u : Unit1) (p : Place) : Type 0 where
  pub formed : IsGraph u p
  pub normal : IsNormalGraph u p

pub record SameHeader (g h : Graph) : Type 0 where
  pub exported : (out-Graph g).exported ≡ (out-Graph h).exported
  pub fun : (out-Graph g).fun ≡ (out-Graph h).fun
  pub name : (out-Graph g).name ≡ (out-Graph h).name

like_of : (ns ms : List Node) → Each Pairs ns ms → AreNodesLike ns ms
like_of ns ms none = no_node
like_of ns ms (more n m ns0 ms0 p h) = node n m ns0 ms0 p.0 p.1 (like_of ns0 ms0 h)

module _ (u v : Unit1) (types : u.types ≡ v.types) (home there : Home) (g h : Graph)
    (s : Sound u (record { graph = g; home = home })) (t : Sound v (record { graph = h; home = there }))
    (ns ms : List Node) (es fs : List Edge) (of : IsGraphOf u g ns es) (also : IsGraphOf v h ms fs) (nodes : Each Pairs ns ms) (edges : es ≡ fs) where
  by_label : (l : ℕ) → Each Pairs (filter (λ n. label_of n == l) (out-Graph g).nodes) (filter (λ n. label_of n == l) (out-Graph h).nodes)
  by_label l =
      subst (λ (xs : List Node). Each Pairs xs (filter (λ n. label_of n == l) (out-Graph h).nodes)) (sym (of.nodes l))
      (subst (λ (ys : List Node). Each Pairs (filter (λ n. label_of n == l) ns) ys) (sym (also.nodes l))
      (each_filter Pairs (λ n. label_of n == l) (λ n m p. ap (λ (k : ℕ). k == l) (sym p.0.label_is)) ns ms nodes))

  nodes_like : AreNodesLike (out-Graph g).nodes (out-Graph h).nodes
  nodes_like = like_of (out-Graph g).nodes (out-Graph h).nodes (rising_each label_of Pairs (out-Graph g).nodes (out-Graph h).nodes s.normal.nodes t.normal.nodes by_label)

  wants : (l port : ℕ) → want_at g l port ≡ want_at h l port
  wants l port = sym (want_like (out-Graph g).nodes (out-Graph h).nodes nodes_like l port)

  origin_same : (e : Edge) (o : Origin) → canonical_origin u g e o ≡ canonical_origin v h e o
  origin_same e (Port l port) = refl
  origin_same e (Lit text) = λ i. Lit (canonical_as (wants e.node e.port i) (entry_at (types i) e.ty) text)

  edge_same : (e : Edge) → canonical_edge u g e ≡ canonical_edge v h e
  edge_same e = λ i. record e { from = origin_same e e.from i }

  by_port : (l port : ℕ) → into_port l port (out-Graph g).edges ≡ into_port l port (out-Graph h).edges
  by_port l port =
      let same : map (canonical_edge u g) (into_port l port es) ≡ map (canonical_edge v h) (into_port l port fs) =
      λ i. map (λ (e : Edge). edge_same e i) (into_port l port (edges i)) in
      of.edges l port ∙ (same ∙ sym (also.edges l port))

  pub graphs_like : SameHeader g h → IsLike g h
  graphs_like same =
      graph g h
      (record {
        edges_are = sym (edges_same (out-Graph g).edges (out-Graph h).edges s.normal.edges t.normal.edges by_port);
        name_is = sym same.name;
        fun_is = sym same.fun;
        exported_is = sym same.exported;
      })
      nodes_like
