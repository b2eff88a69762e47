-- The graphs of a unit run as before with other marks, but for their ordering lists.
use Rattle.std.proofs.Common.{◌≡◌, ℕ, List, [], ◌∷◌, map, drop, find, option_map, Option, Some, None, refl, sym, ap, subst, ◌∙◌, ◌==◌}
use Rattle.std.specs.Prelude.{slice_get}
use Rattle.if1_graph.specs.declared.graph.Edge.{Edge}
use Rattle.if1_graph.specs.declared.graph.Graph.{Graph}
use Rattle.if1_graph.specs.declared.graph.Graph.TheViews.{out-Graph}
use Rattle.if1_graph.specs.declared.graph.Node.{Node, out-Node}
use Rattle.if1_graph.specs.declared.graph.Origin.{Origin}
use Rattle.if1_graph.specs.declared.graph.Origin.TheVariants as origin
use Rattle.if1_graph.specs.declared.graph.Unit1.{Unit1}
use Rattle.if1_graph.specs.declared.op.Compound.{Compound}
use Rattle.if1_graph.specs.declared.op.Compound.TheVariants as compound
use Rattle.if1_graph.specs.declared.op.Simple.{Simple}
use Rattle.if1_graph.specs.declared.op.Simple.TheVariants as simple
use Rattle.if1_graph.specs.declared.row.Want.{Want}
use Rattle.if1_graph.specs.declared.row.Want.TheVariants as want
use Rattle.if1_graph.specs.Formed.{function_named, want_at}
use Rattle.if1_graph.specs.Ops.{simple_at, compound_at}
use Rattle.if1_graph.specs.Ports.{count_from, literal_at, tags_of, fields_of, edges_from}
use Rattle.if1_graph.specs.Tables.{◌>>=◌}
use Rattle.if1_graph.specs.Units.{label_of, edge_into, width, results, Place, places, number_of}
use Rattle.if1_marks.specs.Unmarked.{untaken, unmarked, unmarked_node, unmarked_unit, unmarked_place}
use Rattle.if1_marks.proofs.AlikeLists.{slice-mapped, drop-mapped, over-mapped}
use Rattle.if1_marks.proofs.AlikeGraphs.{Alike, op-same, assoc-same, number-same, nodes-are, want-same, literal-same, carried-same, named-same, results-same, results-at-same, compound-outputs-same}
use Rattle.if1_marks.proofs.Unmarked.{label-same, edge-into-same, edges-from-same, width-same, subs-same, places-same, found-mapped}
use Rattle.graph_meaning.specs.Forms.{Form}
use Rattle.graph_meaning.specs.Forms as form
use Rattle.graph_meaning.specs.Demand.{Fixed, Kind, Plain, Whole, Vertex, Net}
use Rattle.graph_meaning.specs.Networks.{fixed, source_from, source_by, source_at, sources, first_type, output_type, stream_shape, union_shape, fields_shape, number_or_zero, part, callee_number, form_of, simple_kind, kind_as, kind_of, ins_of, vertex_of, net_of, net_at, network}

-- a node without its ordering list
abbrev pub unlisted : Vertex → Vertex
unlisted v = record { label = v.label; kind = v.kind; ins = v.ins; before = [] }

-- graphs that differ in ordering lists alone
pub record NetsAlike (a b : Net) : Type 0 where
  pub nodes : map unlisted a.nodes ≡ map unlisted b.nodes
  pub results : a.results ≡ b.results

-- ---- what fills a port

module _ (u : Unit1) where
  fixed-same : (w : Option Want) (ty : ℕ) (text : List ℕ) → fixed (unmarked_unit u) w ty text ≡ fixed u w ty text
  fixed-same (Some want.Function) ty text = refl
  fixed-same (Some want.Reduction) ty text = refl
  fixed-same _ ty text = refl

  from-same : (w : Option Want) (ty : ℕ) (from : Origin) → source_from (unmarked_unit u) w ty from ≡ source_from u w ty from
  from-same w ty (origin.Port node port) = refl
  from-same w ty (origin.Lit text) = ap Fixed (fixed-same w ty text)

  by-same : (w : Option Want) (e : Option Edge) → source_by (unmarked_unit u) w (option_map untaken e) ≡ source_by u w e
  by-same w None = refl
  by-same w (Some e) = from-same w e.ty e.from

  source-same : (g : Graph) (l port : ℕ) → source_at (unmarked_unit u) (unmarked g) l port ≡ source_at u g l port
  source-same g l port =
      ap (λ w. source_by (unmarked_unit u) w (edge_into (unmarked g) l port)) (want-same g l port)
      ∙ (ap (source_by (unmarked_unit u) (want_at g l port)) (edge-into-same g l port) ∙ by-same (want_at g l port) (edge_into g l port))

  each-source : (g : Graph) (l : ℕ) (ports : List ℕ) → map (source_at (unmarked_unit u) (unmarked g) l) ports ≡ map (source_at u g l) ports
  each-source g l [] = refl
  each-source g l (port ∷ ports) = ap (λ o. o ∷ map (source_at (unmarked_unit u) (unmarked g) l) ports) (source-same g l port) ∙ ap (λ os. source_at u g l port ∷ os) (each-source g l ports)

  sources-same : (g : Graph) (l first count : ℕ) → sources (unmarked_unit u) (unmarked g) l first count ≡ sources u g l first count
  sources-same g l first count = each-source g l (count_from first count)

  all-sources : (g : Graph) (l : ℕ) → sources (unmarked_unit u) (unmarked g) l 1 (width (unmarked g) l) ≡ sources u g l 1 (width g l)
  all-sources g l = ap (sources (unmarked_unit u) (unmarked g) l 1) (width-same g l) ∙ sources-same g l 1 (width g l)

  -- ---- what a node does

  first-same : (es : List Edge) → first_type (unmarked_unit u) (map untaken es) ≡ first_type u es
  first-same [] = refl
  first-same (e ∷ es) = refl

  output-same : (g : Graph) (l : ℕ) → output_type (unmarked_unit u) (unmarked g) l ≡ output_type u g l
  output-same g l = ap (first_type (unmarked_unit u)) (edges-from-same g l 1) ∙ first-same (edges_from g l 1)

  number-at : (o : Option Graph) → number_or_zero (option_map unmarked o) ≡ number_or_zero o
  number-at None = refl
  number-at (Some g) = number-same g

  part-same : (gs : List Graph) (k : ℕ) → part (map unmarked gs) k ≡ part gs k
  part-same gs k = ap number_or_zero (slice-mapped unmarked gs k) ∙ number-at (slice_get gs k)

  each-part : (gs : List Graph) (arms : List ℕ) → map (part (map unmarked gs)) arms ≡ map (part gs) arms
  each-part gs [] = refl
  each-part gs (k ∷ arms) = ap (λ n. n ∷ map (part (map unmarked gs)) arms) (part-same gs k) ∙ ap (λ ns. part gs k ∷ ns) (each-part gs arms)

  others-same : (gs : List Graph) → map (λ g. (out-Graph g).number) (drop 1 (map unmarked gs)) ≡ map (λ g. (out-Graph g).number) (drop 1 gs)
  others-same gs = ap (map (λ g. (out-Graph g).number)) (drop-mapped unmarked 1 gs) ∙ over-mapped unmarked (λ g. (out-Graph g).number) number-same (drop 1 gs)

  form-same : (c : Compound) (gs : List Graph) (arms : List ℕ) → form_of c (map unmarked gs) arms ≡ form_of c gs arms
  form-same compound.Select gs arms = λ j. form.Select (part-same gs 0 j) (others-same gs j) (compound-outputs-same compound.Select gs j)
  form-same compound.TagCase gs arms = λ j. form.TagCase (each-part gs arms j) (compound-outputs-same compound.TagCase gs j)
  form-same compound.LoopA gs arms = λ j. form.LoopA (part-same gs 0 j) (part-same gs 1 j) (part-same gs 2 j) (part-same gs 3 j) (compound-outputs-same compound.LoopA gs j)
  form-same compound.LoopB gs arms = λ j. form.LoopB (part-same gs 0 j) (part-same gs 1 j) (part-same gs 2 j) (part-same gs 3 j) (compound-outputs-same compound.LoopB gs j)
  form-same compound.ForAll gs arms = λ j. form.ForAll (part-same gs 0 j) (part-same gs 1 j) (part-same gs 2 j) (results-at-same gs 1 j) (compound-outputs-same compound.ForAll gs j)

  named-number : (o : Option (List ℕ)) → number_or_zero (o >>= λ name. function_named (map unmarked u.graphs) name) ≡ number_or_zero (o >>= λ name. function_named u.graphs name)
  named-number None = refl
  named-number (Some name) = ap number_or_zero (named-same u.graphs name) ∙ number-at (function_named u.graphs name)

  callee-number : (g : Graph) (l : ℕ) → callee_number (unmarked_unit u) (unmarked g) l ≡ callee_number u g l
  callee-number g l = ap (λ o. number_or_zero (o >>= λ name. function_named (map unmarked u.graphs) name)) (literal-same g l 1) ∙ named-number (literal_at g l 1)

  simple-same : (g : Graph) (l : ℕ) (op : Simple) → simple_kind (unmarked_unit u) (unmarked g) l op ≡ simple_kind u g l op
  simple-same g l simple.Call = ap (λ f. let k : Kind = Whole (form.Call f) in k) (callee-number g l)
  simple-same g l simple.ABuild = ap (λ s. let k : Kind = Plain simple.ABuild (stream_shape s) in k) (output-same g l)
  simple-same g l simple.AGather = ap (λ s. let k : Kind = Plain simple.AGather (stream_shape s) in k) (output-same g l)
  simple-same g l (simple.Reduce grouping) = ap (λ s. let k : Kind = Plain (simple.Reduce grouping) (stream_shape s) in k) (output-same g l)
  simple-same g l simple.RBuild = ap (λ s. let k : Kind = Plain simple.RBuild (union_shape (tags_of s)) in k) (output-same g l)
  simple-same g l simple.RElements = ap (λ s. let k : Kind = Plain simple.RElements (fields_shape (fields_of s)) in k) (carried-same l 1 u g)
  simple-same g l _ = refl

  kind-as-same : (g : Graph) (n : Node) (c : Option Compound) (op : Option Simple) → kind_as (unmarked_unit u) (unmarked g) (unmarked_node n) c op ≡ kind_as u g n c op
  kind-as-same g n (Some c) op = ap Whole (ap (λ gs. form_of c gs (out-Node (unmarked_node n)).assoc) (subs-same n) ∙ (ap (form_of c (map unmarked (out-Node n).subs)) (assoc-same n) ∙ form-same c (out-Node n).subs (out-Node n).assoc))
  kind-as-same g n None (Some op) = ap (λ l. simple_kind (unmarked_unit u) (unmarked g) l op) (label-same n) ∙ simple-same g (label_of n) op
  kind-as-same g n None None = refl

  kind-same : (g : Graph) (n : Node) → kind_of (unmarked_unit u) (unmarked g) (unmarked_node n) ≡ kind_of u g n
  kind-same g n = ap (λ o. kind_as (unmarked_unit u) (unmarked g) (unmarked_node n) (compound_at o) (simple_at o)) (op-same n) ∙ kind-as-same g n (compound_at (out-Node n).op) (simple_at (out-Node n).op)

  ins-same : (g : Graph) (l : ℕ) (k : Kind) → ins_of (unmarked_unit u) (unmarked g) l k ≡ ins_of u g l k
  ins-same g l (Whole (form.Call f)) = ap (drop 1) (all-sources g l)
  ins-same g l (Whole (form.Select s gs n)) = all-sources g l
  ins-same g l (Whole (form.TagCase gs n)) = all-sources g l
  ins-same g l (Whole (form.LoopA i t b r n)) = all-sources g l
  ins-same g l (Whole (form.LoopB i t b r n)) = all-sources g l
  ins-same g l (Whole (form.ForAll a b r m n)) = all-sources g l
  ins-same g l (Plain row shape) = all-sources g l

  vertex-same : (g : Graph) (n : Node) → unlisted (vertex_of (unmarked_unit u) (unmarked g) (unmarked_node n)) ≡ unlisted (vertex_of u g n)
  vertex-same g n = λ j. record {
    label = label-same n j;
    kind = kind-same g n j;
    ins = (ap (λ l. ins_of (unmarked_unit u) (unmarked g) l (kind_of (unmarked_unit u) (unmarked g) (unmarked_node n))) (label-same n)
        ∙ (ap (ins_of (unmarked_unit u) (unmarked g) (label_of n)) (kind-same g n) ∙ ins-same g (label_of n) (kind_of u g n))) j;
    before = [];
  }

  each-vertex : (g : Graph) (ns : List Node) → map unlisted (map (vertex_of (unmarked_unit u) (unmarked g)) (map unmarked_node ns)) ≡ map unlisted (map (vertex_of u g) ns)
  each-vertex g [] = refl
  each-vertex g (n ∷ ns) = ap (λ v. v ∷ map unlisted (map (vertex_of (unmarked_unit u) (unmarked g)) (map unmarked_node ns))) (vertex-same g n) ∙ ap (λ vs. unlisted (vertex_of u g n) ∷ vs) (each-vertex g ns)

  net-same : (g : Graph) → NetsAlike (net_of (unmarked_unit u) (unmarked g)) (net_of u g)
  net-same g =
      record {
        nodes = ap (λ ns. map unlisted (map (vertex_of (unmarked_unit u) (unmarked g)) ns)) (nodes-are g) ∙ each-vertex g (out-Graph g).nodes;
        results = ap (sources (unmarked_unit u) (unmarked g) 0 1) (results-same g) ∙ sources-same g 0 1 (results g);
      }

  at-same : (o : Option Place) → NetsAlike (net_at (unmarked_unit u) (option_map unmarked_place o)) (net_at u o)
  at-same None = record { nodes = refl; results = refl }
  at-same (Some p) = net-same p.graph

  pub network-same : (k : ℕ) → NetsAlike (network (unmarked_unit u) k) (network u k)
  network-same k =
      subst (λ o. NetsAlike (net_at (unmarked_unit u) o) (network u k))
      (sym (ap (find (λ p. number_of p == k)) (places-same u) ∙ found-mapped unmarked_place (λ p. number_of p == k) (λ p. number_of p == k) (λ p. ap (λ n. n == k) (number-same p.graph)) (places u)))
      (at-same (find (λ p. number_of p == k) (places u)))

pub nets-alike : (u v : Unit1) → Alike u v → (k : ℕ) → NetsAlike (network u k) (network v k)
nets-alike u v alike k =
    let a = network-same u k in
    let b = network-same v k in
    record {
      nodes = sym a.nodes ∙ (ap (λ w. map unlisted (network w k).nodes) alike ∙ b.nodes);
      results = sym a.results ∙ (ap (λ w. (network w k).results) alike ∙ b.results);
    }
