-- Units that differ in marks alone are formed, ready and normal alike.
use Rattle.std.proofs.Common.{◌≡◌, ℕ, suc, ◌≤◌, false, List, [], ◌∷◌, map, Option, Some, IsSome, All, refl, sym, ap, subst, ◌∙◌, arith}
use Rattle.std.specs.List.Sorted.{IsStrictlyIncreasing}
use Rattle.std.proofs.lemmas.List.Elements.{All-nil, All-weaker}
use Rattle.if1_graph.specs.declared.graph.Edge.{Edge}
use Rattle.if1_graph.specs.declared.graph.Graph.{Graph}
use Rattle.if1_graph.specs.declared.graph.Graph.TheViews.{out-Graph}
use Rattle.if1_graph.specs.declared.graph.Node.{Node, out-Node}
use Rattle.if1_graph.specs.declared.graph.Origin.{Origin}
use Rattle.if1_graph.specs.declared.graph.Origin.TheVariants.{Port, Lit}
use Rattle.if1_graph.specs.declared.graph.Unit1.{Unit1}
use Rattle.if1_graph.specs.declared.kind.Basic.{Basic}
use Rattle.if1_graph.specs.declared.kind.TypeKind.{TypeKind}
use Rattle.if1_graph.specs.declared.kind.TypeKind.TheVariants as kind
use Rattle.if1_graph.specs.declared.row.Want.{Want}
use Rattle.if1_graph.specs.declared.row.Want.TheVariants as want
use Rattle.if1_graph.specs.Cycles.{IsFrom, Feeds, Reaches, edge, path}
use Rattle.if1_graph.specs.Formed.{IsTable, IsImport, IsWholeType, IsLiteralFor, IsOpcode, IsNode, IsOrigin, IsEdge, IsHeader, IsOnce, IsGraph, IsFormed, function_named, want_at, most}
use Rattle.if1_graph.specs.Kinds.{kind_at, basic_at}
use Rattle.if1_graph.specs.Normal.{Precedes, canonical_origin, canonical_as, IsNormalGraph, IsNormal}
use Rattle.if1_graph.specs.Ports.{ArePortsRight}
use Rattle.if1_graph.specs.Ready.{IsReady, IsOrdered, AtEachEnd}
use Rattle.if1_graph.specs.Types.{entry_at}
use Rattle.if1_graph.specs.Typing.{AreTypesRight}
use Rattle.if1_graph.specs.Units.{label_of, levels, most_levels, Home, Place, places, graphs_before, IsNumbered, ends}
use Rattle.if1_graph.specs.Spelling.{IsNumber, IsLabel, IsName, IsQuotable}
use Rattle.if1_marks.specs.Alike.{AreAlike, IsUntakenLiteral, AreMarksSpelled, DoListsRise, AreAlikeFormed, AreAlikeReady, AreAlikeNormal, AreUnmarkedAsBefore}
use Rattle.if1_marks.specs.Unmarked.{untaken, unmarked, unmarked_node, unmarked_unit, unmarked_home, unmarked_place}
use Rattle.if1_marks.proofs.AlikeLists.{Matched, neither, both, matched, all-matched, all-matched-with, all-both, length-matched, found-matched, pairs-matched}
use Rattle.if1_marks.proofs.AlikeGraphs.{Bare, BareNode, over-graph, over-node, levels-same, unmarked-twice, op-same, node-name-same, assoc-same, number-same, exported-same, fun-same, subs-like, edges-like, nodes-like, labels-like, ends-like, named-like, graphs-before-same, HomesAlike, functions, insides, homes-alike}
use Rattle.if1_marks.proofs.AlikePorts.{types-are, graphs-alike, want-like, ports-right}
use Rattle.if1_marks.proofs.AlikeTypes.{types-right}
use Rattle.if1_marks.proofs.Unmarked.{label-same, name-same, places-same, unmarked-has-none}

module _ (u v : Unit1) (alike : AreAlike u v) where
  places-alike : map unmarked_place (places u) ≡ map unmarked_place (places v)
  places-alike = sym (places-same u) ∙ (ap places alike ∙ places-same v)

  -- ---- literals and edges

  is-some : (a b : Option Graph) → Matched unmarked a b → IsSome a → IsSome b
  is-some _ _ neither x = x
  is-some _ _ (both g h same) x = refl

  named : (text : List ℕ) → IsSome (function_named u.graphs text) → IsSome (function_named v.graphs text)
  named text x = is-some _ _ (matched unmarked _ _ (named-like u v alike text)) x

  literal-for : (w : Option Want) (text : List ℕ) (k : Option TypeKind) (b : Option Basic) → IsLiteralFor u.graphs w text k b → IsLiteralFor v.graphs w text k b
  literal-for (Some want.Function) text (Some kind.Function) b x = named text x
  literal-for _ text _ _ x = x

  module _ (p q : Place) (like : unmarked_place p ≡ unmarked_place q) where
    graphs : Bare p.graph q.graph
    graphs = graphs-alike u v alike p q like

    homes : HomesAlike p.home q.home
    homes = homes-alike p.home q.home (ap (λ (x : Place). x.home) like)

    origin : (e : Edge) (from : Origin) → IsUntakenLiteral e from → IsOrigin u p.graph (untaken e) from → IsOrigin v q.graph e from
    origin e (Port node port) marks x = x
    origin e (Lit text) marks x = (
      x.0,
      marks,
      λ entry found.
          subst (λ w. IsLiteralFor v.graphs w text (kind_at entry.code) (basic_at entry.first)) (want-like u v alike p.graph q.graph graphs e.node e.port)
          (literal-for (want_at p.graph e.node e.port) text (kind_at entry.code) (basic_at entry.first) (x.2 entry (subst (λ ts. entry_at ts e.ty ≡ Some entry) (sym (types-are u v alike)) found))),
    )

    without : (e : Edge) (from : Origin) → IsOrigin u p.graph e from → IsOrigin u p.graph (untaken e) from
    without e (Port node port) x = x
    without e (Lit text) x = (x.0, refl, x.2)

    edge-formed : (e f : Edge) → untaken e ≡ untaken f → IsEdge u p.graph e → IsUntakenLiteral f f.from → IsEdge v q.graph f
    edge-formed e f same x marks =
        record {
          source = origin f f.from marks (subst (λ (z : Edge). IsOrigin u p.graph (untaken z) z.from) same (without e e.from x.source));
          node = subst (λ (z : Edge). IsNumber z.node) same x.node;
          port = subst (λ (z : Edge). IsLabel z.port) same x.port;
          ty = subst (λ ts. IsWholeType ts f.ty) (types-are u v alike) (subst (λ (z : Edge). IsWholeType u.types z.ty) same x.ty);
          name = subst (λ (z : Edge). IsName z.name) same x.name;
        }

    node-formed : (n m : Node) → BareNode n m → IsNode n → All IsLabel (out-Node m).before → IsNode m
    node-formed n m same x lists =
        record {
          label = subst IsLabel (over-node label_of label-same n m same) x.label;
          op = subst IsOpcode (over-node (λ n. (out-Node n).op) op-same n m same) x.op;
          op_number = subst IsNumber (over-node (λ n. (out-Node n).op) op-same n m same) x.op_number;
          count = subst IsNumber (length-matched unmarked (out-Node n).subs (out-Node m).subs (subs-like n m same)) x.count;
          assoc = subst (All IsNumber) (over-node (λ n. (out-Node n).assoc) assoc-same n m same) x.assoc;
          before = lists;
          name = subst IsName (over-node (λ n. (out-Node n).name) node-name-same n m same) x.name;
        }

    header : (a b : Home) → HomesAlike a b → IsHeader u p.graph a → IsHeader v q.graph b
    header _ _ (functions k) x = (
      subst (λ ts. IsWholeType ts (out-Graph q.graph).fun) (types-are u v alike) (subst (IsWholeType u.types) (over-graph (λ g. (out-Graph g).fun) fun-same p.graph q.graph graphs) x.0),
      subst IsQuotable (over-graph (λ g. (out-Graph g).name) name-same p.graph q.graph graphs) x.1,
    )
    header _ _ (insides outer other n m k outers same) x = (
      sym (over-graph (λ g. (out-Graph g).fun) fun-same p.graph q.graph graphs) ∙ x.0,
      sym (over-graph (λ g. (out-Graph g).exported) exported-same p.graph q.graph graphs) ∙ x.1,
      subst IsName (over-graph (λ g. (out-Graph g).name) name-same p.graph q.graph graphs) x.2,
    )

    numbered : IsNumbered u p → IsNumbered v q
    numbered x =
        sym (over-graph (λ g. (out-Graph g).number) number-same p.graph q.graph graphs)
        ∙ (x ∙ ap suc (sym (graphs-before-same u p.home) ∙ (ap (λ w. graphs_before w (unmarked_home p.home)) alike ∙ (ap (λ (y : Place). graphs_before (unmarked_unit v) y.home) like ∙ graphs-before-same v q.home))))

    graph-formed : IsGraph u p → AreMarksSpelled q → IsGraph v q
    graph-formed x marks =
        record {
          number = numbered x.number;
          header = header p.home q.home homes x.header;
          nodes = all-matched-with unmarked_node IsNode IsNode (λ n. All IsLabel (out-Node n).before) node-formed (out-Graph p.graph).nodes (out-Graph q.graph).nodes (nodes-like p.graph q.graph graphs) x.nodes marks.lists;
          labels = subst IsOnce (labels-like p.graph q.graph graphs) x.labels;
          few = subst (λ k. k ≤ most) (length-matched unmarked_node (out-Graph p.graph).nodes (out-Graph q.graph).nodes (nodes-like p.graph q.graph graphs)) x.few;
          edges = all-matched-with untaken (IsEdge u p.graph) (IsEdge v q.graph) (λ e. IsUntakenLiteral e e.from) edge-formed (out-Graph p.graph).edges (out-Graph q.graph).edges (edges-like p.graph q.graph graphs) x.edges marks.takers;
        }

    -- ---- cycles

    feeds : (l m : ℕ) → Feeds q.graph l m → Feeds p.graph l m
    feeds l m f =
        let r = found-matched untaken (out-Graph p.graph).edges (out-Graph q.graph).edges (edges-like p.graph q.graph graphs) f.edge f.there in
        record {
          edge = r.0;
          there = r.1;
          source = subst (λ (z : Edge). IsFrom l z.from) (sym r.2) f.source;
          target = subst (λ (z : Edge). z.node ≡ m) (sym r.2) f.target;
          no_boundary = f.no_boundary;
        }

    reaches : {l m : ℕ} → Reaches q.graph l m → Reaches p.graph l m
    reaches (edge {l = l} {m = m} f) = edge (feeds l m f)
    reaches (path {l = l} {m = m} f r) = path (feeds l m f) (reaches r)

    ordered : (l : ℕ) → IsOrdered p l → IsOrdered q l
    ordered l h r = h (reaches r)

    at-ends : (rule : Place → ℕ → Type 0) (other : Place → ℕ → Type 0) → ((l : ℕ) → rule p l → other q l) → All (rule p) (ends p.graph) → All (other q) (ends q.graph)
    at-ends rule other h x = All-weaker (rule p) (other q) h (ends q.graph) (subst (All (rule p)) (ends-like p.graph q.graph graphs) x)

    -- ---- order

    normal-edge : (e f : Edge) → untaken e ≡ untaken f → (let x : Edge = record e { from = canonical_origin u p.graph e e.from } in x) ≡ e → (let x : Edge = record f { from = canonical_origin v q.graph f f.from } in x) ≡ f
    normal-edge e f same x =
        ap (λ o. let y : Edge = record f { from = o } in y)
        (sym (canonical-like f f.from) ∙ subst (λ (z : Edge). canonical_origin u p.graph z z.from ≡ z.from) same (ap (λ (z : Edge). z.from) x))
      where
        canonical-like : (f : Edge) (from : Origin) → canonical_origin u p.graph f from ≡ canonical_origin v q.graph f from
        canonical-like f (Port node port) = refl
        canonical-like f (Lit text) =
            ap (λ w. let o : Origin = Lit (canonical_as w (entry_at u.types f.ty) text) in o) (want-like u v alike p.graph q.graph graphs f.node f.port)
            ∙ ap (λ ts. let o : Origin = Lit (canonical_as (want_at q.graph f.node f.port) (entry_at ts f.ty) text) in o) (types-are u v alike)

    graph-normal : IsNormalGraph u p → DoListsRise q → IsNormalGraph v q
    graph-normal x lists =
        record {
          nodes = subst IsStrictlyIncreasing (labels-like p.graph q.graph graphs) x.nodes;
          lists = lists;
          edges = pairs-matched untaken Precedes (λ e f y. y) (λ e f y. y) (out-Graph p.graph).edges (out-Graph q.graph).edges (edges-like p.graph q.graph graphs) x.edges;
          literals = all-matched untaken (λ e. (let y : Edge = record e { from = canonical_origin u p.graph e e.from } in y) ≡ e) (λ e. (let y : Edge = record e { from = canonical_origin v q.graph e e.from } in y) ≡ e) normal-edge (out-Graph p.graph).edges (out-Graph q.graph).edges (edges-like p.graph q.graph graphs) x.literals;
        }

  each-end : (rule other : Unit1 → Place → ℕ → Type 0) → ((p q : Place) → unmarked_place p ≡ unmarked_place q → (l : ℕ) → rule u p l → other v q l) → AtEachEnd u (rule u) → AtEachEnd v (other v)
  each-end rule other h x =
      all-matched unmarked_place (λ p. All (rule u p) (ends p.graph)) (λ q. All (other v q) (ends q.graph)) (λ p q like y. at-ends p q like (rule u) (other v) (h p q like) y) (places u) (places v) places-alike x

  formed : All AreMarksSpelled (places v) → IsFormed u → IsFormed v
  formed marks x =
      record {
        types = subst IsTable (types-are u v alike) x.types;
        imports = subst (λ (w : Unit1). All (IsImport w.types) w.imports) alike x.imports;
        nesting = all-matched unmarked (λ g. levels g ≤ most_levels) (λ g. levels g ≤ most_levels) (λ g h like y. subst (λ k. k ≤ most_levels) (over-graph levels levels-same g h like) y) u.graphs v.graphs (ap (λ (w : Unit1). w.graphs) alike) x.nesting;
        graphs = all-matched-with unmarked_place (IsGraph u) (IsGraph v) AreMarksSpelled graph-formed (places u) (places v) places-alike x.graphs marks;
      }

  ready : All AreMarksSpelled (places v) → IsReady u → IsReady v
  ready marks x =
      record {
        formed = formed marks x.formed;
        ports = each-end ArePortsRight ArePortsRight (λ p q like l y. ports-right u v alike p q like l y) x.ports;
        types = each-end AreTypesRight AreTypesRight (λ p q like l y. types-right u v alike p q like l y) x.types;
        acyclic = each-end (λ w. IsOrdered) (λ w. IsOrdered) (λ p q like l y. ordered p q like l y) x.acyclic;
      }

  normal : All DoListsRise (places v) → IsNormal u → IsNormal v
  normal lists x = all-matched-with unmarked_place (IsNormalGraph u) (IsNormalGraph v) DoListsRise graph-normal (places u) (places v) places-alike x lists

pub alike-formed : AreAlikeFormed
alike-formed u v alike marks x = formed u v alike marks x

pub alike-ready : AreAlikeReady
alike-ready u v alike marks x = ready u v alike marks x

pub alike-normal : AreAlikeNormal
alike-normal u v alike lists x = normal u v alike lists x

-- ---- without marks

bare-graphs : (gs : List Graph) → map unmarked (map unmarked gs) ≡ map unmarked gs
bare-graphs [] = refl
bare-graphs (g ∷ gs) = ap (λ h. h ∷ map unmarked (map unmarked gs)) (unmarked-twice g) ∙ ap (λ hs. unmarked g ∷ hs) (bare-graphs gs)

bare-alike : (u : Unit1) → AreAlike u (unmarked_unit u)
bare-alike u = ap (λ gs. let v : Unit1 = record { types = u.types; imports = u.imports; graphs = gs } in v) (sym (bare-graphs u.graphs))

untaken-literal : (e : Edge) (from : Origin) → e.takes ≡ false → IsUntakenLiteral e from
untaken-literal e (Port node port) h = tt
untaken-literal e (Lit text) h = h

no-labels : (ls : List ℕ) → ls ≡ [] → All IsLabel ls
no-labels ls e = subst (All IsLabel) (sym e) (All-nil IsLabel)

no-order : (ls : List ℕ) → ls ≡ [] → IsStrictlyIncreasing ls
no-order ls e = subst IsStrictlyIncreasing (sym e) (λ k h. absurd (omega (arith, h)))

module _ (u : Unit1) where
  bare-spelled : All AreMarksSpelled (places (unmarked_unit u))
  bare-spelled =
      let none = unmarked-has-none u in
      all-both (λ p. All (λ e. e.takes ≡ false) (out-Graph p.graph).edges) (λ p. All (λ n. (out-Node n).before ≡ []) (out-Graph p.graph).nodes) AreMarksSpelled
      (λ p takers lists. record {
        takers = All-weaker (λ e. e.takes ≡ false) (λ e. IsUntakenLiteral e e.from) (λ e h. untaken-literal e e.from h) (out-Graph p.graph).edges takers;
        lists = All-weaker (λ n. (out-Node n).before ≡ []) (λ n. All IsLabel (out-Node n).before) (λ n h. no-labels (out-Node n).before h) (out-Graph p.graph).nodes lists;
      })
      (places (unmarked_unit u)) none.takers none.lists

  bare-rise : All DoListsRise (places (unmarked_unit u))
  bare-rise =
      All-weaker (λ p. All (λ n. (out-Node n).before ≡ []) (out-Graph p.graph).nodes) DoListsRise
      (λ p lists. All-weaker (λ n. (out-Node n).before ≡ []) (λ n. IsStrictlyIncreasing (out-Node n).before) (λ n h. no-order (out-Node n).before h) (out-Graph p.graph).nodes lists)
      (places (unmarked_unit u)) (unmarked-has-none u).lists

pub unmarked-as-before : AreUnmarkedAsBefore
unmarked-as-before u =
    record {
      alike = bare-alike u;
      formed = λ x. formed u (unmarked_unit u) (bare-alike u) (bare-spelled u) x;
      ready = λ x. ready u (unmarked_unit u) (bare-alike u) (bare-spelled u) x;
      normal = λ x. normal u (unmarked_unit u) (bare-alike u) (bare-rise u) x;
    }
