-- Ports that are right stay right with other marks.
use Rattle.std.proofs.Common.{◌≡◌, ℕ, zero, suc, true, List, [], ◌∷◌, map, length, Option, Some, None, All, refl, sym, ap, subst, ◌∙◌}
use Rattle.if1_graph.specs.declared.graph.Edge.{Edge}
use Rattle.if1_graph.specs.declared.graph.Graph.{Graph}
use Rattle.if1_graph.specs.declared.graph.Graph.TheViews.{out-Graph}
use Rattle.if1_graph.specs.declared.graph.Node.{Node, out-Node}
use Rattle.if1_graph.specs.declared.graph.Origin.{Origin}
use Rattle.if1_graph.specs.declared.graph.Origin.TheVariants.{Port, Lit}
use Rattle.if1_graph.specs.declared.graph.Unit1.{Unit1}
use Rattle.if1_graph.specs.declared.op.Compound.{Compound}
use Rattle.if1_graph.specs.declared.op.Simple.{Simple}
use Rattle.if1_graph.specs.declared.op.Simple.TheVariants as simple
use Rattle.if1_graph.specs.declared.row.Rest.{Rest}
use Rattle.if1_graph.specs.declared.row.Rest.TheVariants.{Nothing, Mask, More, Arguments, Fields, NewFields}
use Rattle.if1_graph.specs.Formed.{want_at}
use Rattle.if1_graph.specs.Ops.{simple_at, compound_at}
use Rattle.if1_graph.specs.Parts.{HasParts}
use Rattle.if1_graph.specs.Ports.{AreFirst, AreAtLeast, AreArguments, AreParts, AreChanges, AreFilled, IsNamed, IsOne, is_stream, HasBound, IsBounded, IsSimpleFilled, IsAssociation, least_width, IsCompoundFilled, IsFilledAs, IsNodeFilled, IsUpTo, IsThere, IsEndFilled, ArePortsRight, carried, literal_at, callee, arguments_of, fields_of, tags_of, edges_from, inputs, outputs, wanted_results}
use Rattle.if1_graph.specs.Rows.{row_of}
use Rattle.if1_graph.specs.Types.{Sort, sort_at}
use Rattle.if1_graph.specs.Units.{label_of, node_at, edges_into, ports_into, Place}
use Rattle.if1_marks.specs.Unmarked.{untaken, unmarked, unmarked_node, unmarked_unit, unmarked_place}
use Rattle.if1_marks.proofs.AlikeLists.{Matched, neither, both, matched, all-matched, length-matched}
use Rattle.if1_marks.proofs.AlikeGraphs.{Bare, BareNode, Alike, over-graph, over-node, over-both, over-three, op-same, assoc-same, subs-like, into-like, from-like, ports-like, node-at-like, literal-same, want-same, carried-same, callee-same, outputs-same, inputs-same, wanted-results-same}
use Rattle.if1_marks.proofs.Unmarked.{label-same}

-- a rule on edges that looks at no marks
pub over-edges : (P : Edge → Type 0) → ((e f : Edge) → untaken e ≡ untaken f → P e → P f) → (es fs : List Edge) → map untaken es ≡ map untaken fs → All P es → All P fs
over-edges P h es fs e a = all-matched untaken P P h es fs e a

none-left : (gs hs : List Graph) → map unmarked gs ≡ map unmarked hs → gs ≡ [] → hs ≡ []
none-left gs [] e z = refl
none-left [] (h ∷ hs) e z = absurd cc
none-left (g ∷ gs) (h ∷ hs) e z = absurd cc

module _ (u v : Unit1) (alike : Alike u v) where
  pub types-are : u.types ≡ v.types
  types-are = ap (λ (w : Unit1). w.types) alike

  module _ (g h : Graph) (like : Bare g h) where
    pub carried-like : (l port : ℕ) → carried u g l port ≡ carried v h l port
    carried-like l port = over-both (λ u g. carried u g l port) (λ u g. carried-same l port u g) u v alike g h like

    pub callee-like : (l : ℕ) → callee u g l ≡ callee v h l
    callee-like l = over-both (λ u g. callee u g l) (λ u g. callee-same l u g) u v alike g h like

    pub literal-like : (l port : ℕ) → literal_at g l port ≡ literal_at h l port
    literal-like l port = over-graph (λ g. literal_at g l port) (λ g. literal-same g l port) g h like

    pub want-like : (l port : ℕ) → want_at g l port ≡ want_at h l port
    want-like l port = over-graph (λ g. want_at g l port) (λ g. want-same g l port) g h like

    -- edges into or from a port are the same but for marks, and so what is said of their types
    by-types : (P : Option Sort → Type 0) (es fs : List Edge) → map untaken es ≡ map untaken fs → All (λ e. P (sort_at u.types e.ty)) es → All (λ e. P (sort_at v.types e.ty)) fs
    by-types P es fs e a =
        all-matched untaken (λ e. P (sort_at u.types e.ty)) (λ e. P (sort_at v.types e.ty))
        (λ x y same p. subst (λ ts. P (sort_at ts y.ty)) types-are (subst (λ (z : Edge). P (sort_at u.types z.ty)) same p)) es fs e a

    filled : (l k : ℕ) (r : Rest) (ports : List ℕ) → AreFilled u g l k r ports → AreFilled v h l k r ports
    filled l k Nothing ports a = a
    filled l k Mask ports a = a
    filled l k (More how want) ports a = a
    filled l k Arguments ports a = subst (λ s. AreArguments k (arguments_of s) ports) (callee-like l) a
    filled l k Fields ports a = (a.0, by-types (λ s. AreParts (fields_of s) (tags_of s) ports) (edges_from g l 1) (edges_from h l 1) (from-like g h like l 1) a.1)
    filled l k NewFields ports a = subst (λ s. AreChanges (fields_of s) ports) (carried-like l 1) a

    bound : (l : ℕ) → HasBound u g l → HasBound v h l
    bound l a =
        by-types (λ s. is_stream s ≡ true → IsOne (carried v h l 1) (literal_at h l 1)) (edges_from g l 1) (edges_from h l 1) (from-like g h like l 1)
        (subst (λ c. All (λ e. is_stream (sort_at u.types e.ty) ≡ true → IsOne c (literal_at h l 1)) (edges_from g l 1)) (carried-like l 1)
        (subst (λ t. All (λ e. is_stream (sort_at u.types e.ty) ≡ true → IsOne (carried u g l 1) t) (edges_from g l 1)) (literal-like l 1) a))

    bounded : (l : ℕ) (op : Simple) → IsBounded u g l op → IsBounded v h l op
    bounded l simple.ABuild a = bound l a
    bounded l simple.AGather a = bound l a
    bounded l _ a = tt

    module _ (n m : Node) (same : BareNode n m) where
      label-like : label_of n ≡ label_of m
      label-like = over-node label_of label-same n m same

      op-like : (out-Node n).op ≡ (out-Node m).op
      op-like = over-node (λ n. (out-Node n).op) op-same n m same

      assoc-like : (out-Node n).assoc ≡ (out-Node m).assoc
      assoc-like = over-node (λ n. (out-Node n).assoc) assoc-same n m same

      ports-here : ports_into g (label_of n) ≡ ports_into h (label_of m)
      ports-here = ap (ports_into g) label-like ∙ ports-like g h like (label_of m)

      parts-like : length (out-Node n).subs ≡ length (out-Node m).subs
      parts-like = length-matched unmarked (out-Node n).subs (out-Node m).subs (subs-like n m same)

      simple-filled : (op : Simple) → IsSimpleFilled u g n op → IsSimpleFilled v h m op
      simple-filled op a =
          record {
            ports = filled (label_of m) (length (row_of op).operands) (row_of op).rest (ports_into h (label_of m))
                (subst (AreFilled u g (label_of m) (length (row_of op).operands) (row_of op).rest) ports-here
                (subst (λ l. AreFilled u g l (length (row_of op).operands) (row_of op).rest (ports_into g (label_of n))) label-like a.ports));
            name = subst (λ t. IsNamed (want_at h (label_of m) 1) t) (literal-like (label_of m) 1)
                (subst (λ w. IsNamed w (literal_at g (label_of m) 1)) (want-like (label_of m) 1)
                (subst (λ l. IsNamed (want_at g l 1) (literal_at g l 1)) label-like a.name));
            bound = bounded (label_of m) op (subst (λ l. IsBounded u g l op) label-like a.bound);
            no_graphs = none-left (out-Node n).subs (out-Node m).subs (subs-like n m same) a.no_graphs;
            no_list = sym assoc-like ∙ a.no_list;
          }

      compound-filled : (c : Compound) → IsCompoundFilled u g n c → IsCompoundFilled v h m c
      compound-filled c a =
          record {
            parts = subst (HasParts c) parts-like a.parts;
            ports = subst (AreAtLeast (least_width c)) ports-here a.ports;
            list = subst (λ xs. IsAssociation c (tags_of (carried v h (label_of m) 1)) (length (out-Node m).subs) xs) assoc-like
                (subst (λ k. IsAssociation c (tags_of (carried v h (label_of m) 1)) k (out-Node n).assoc) parts-like
                (subst (λ s. IsAssociation c (tags_of s) (length (out-Node n).subs) (out-Node n).assoc) (ap (λ l. carried u g l 1) label-like ∙ carried-like (label_of m) 1) a.list));
          }

      filled-as : (c : Option Compound) (op : Option Simple) → IsFilledAs u g n c op → IsFilledAs v h m c op
      filled-as (Some c) op a = compound-filled c a
      filled-as None (Some op) a = simple-filled op a
      filled-as None None a = a

      node-filled : IsNodeFilled u g n → IsNodeFilled v h m
      node-filled a = subst (λ o. IsFilledAs v h m (compound_at o) (simple_at o)) op-like (filled-as (compound_at (out-Node n).op) (simple_at (out-Node n).op) a)

module _ (u v : Unit1) (alike : Alike u v) (p q : Place) (like : unmarked_place p ≡ unmarked_place q) where
  pub graphs-alike : Bare p.graph q.graph
  graphs-alike = ap (λ (x : Place). x.graph) like

  over-place : {X : Type 0} (f : Unit1 → Place → X) → ((u : Unit1) (p : Place) → f (unmarked_unit u) (unmarked_place p) ≡ f u p) → f u p ≡ f v q
  over-place f same = sym (same u p) ∙ (ap (λ w. f w (unmarked_place p)) alike ∙ (ap (f (unmarked_unit v)) like ∙ same v q))

  inputs-like : inputs u p ≡ inputs v q
  inputs-like = over-place inputs (λ u p. inputs-same u p.graph p.home)

  wanted-like : wanted_results u p ≡ wanted_results v q
  wanted-like = over-place wanted_results (λ u p. wanted-results-same u p.graph p.home)

  end-filled : (l : ℕ) (n m : Option Node) → Matched unmarked_node n m → IsEndFilled u p l n → IsEndFilled v q l m
  end-filled l _ _ (both n m same) a = node-filled u v alike p.graph q.graph graphs-alike n m same a
  end-filled zero _ _ neither a = subst (AreFirst (wanted_results v q)) (ports-like p.graph q.graph graphs-alike 0) (subst (λ k. AreFirst k (ports_into p.graph 0)) wanted-like a)
  end-filled (suc l) _ _ neither a = a

  there : (from : Origin) → IsThere u p from → IsThere v q from
  there (Lit text) a = tt
  there (Port zero port) a = subst (λ k. IsUpTo k port) inputs-like a
  there (Port (suc l) port) a =
      go (node_at (out-Graph p.graph).nodes (suc l)) (node_at (out-Graph q.graph).nodes (suc l)) (matched unmarked_node _ _ (node-at-like p.graph q.graph graphs-alike (suc l))) a.0 a.1 a.2
    where
      go : (x y : Option Node) → Matched unmarked_node x y → (n : Node) → x ≡ Some n → IsUpTo (outputs u p.graph n) port → (m : Node) × (y ≡ Some m) × IsUpTo (outputs v q.graph m) port
      go _ _ neither n e b = absurd cc
      go _ _ (both x y same) n e b = (
        y,
        refl,
        subst (λ k. IsUpTo k port)
            (over-three outputs outputs-same u v alike p.graph q.graph graphs-alike n y (ap unmarked_node (sym (some-same x n e)) ∙ same)) b,
      )
        where
          some-same : (x n : Node) → Some x ≡ Some n → x ≡ n
          some-same x n e = cc

  pub ports-right : (l : ℕ) → ArePortsRight u p l → ArePortsRight v q l
  ports-right l a =
      record {
        filled = end-filled l (node_at (out-Graph p.graph).nodes l) (node_at (out-Graph q.graph).nodes l) (matched unmarked_node _ _ (node-at-like p.graph q.graph graphs-alike l)) a.filled;
        sources = all-matched untaken (λ e. IsThere u p e.from) (λ e. IsThere v q e.from) (λ x y same b. there y.from (subst (λ (z : Edge). IsThere u p z.from) same b))
            (edges_into p.graph l) (edges_into q.graph l) (into-like p.graph q.graph graphs-alike l) a.sources;
      }
