-- The lines of a graph give its nodes, and its edges in the order of the lines.
use Rattle.std.proofs.Common.{◌≡◌, ℕ, suc, Bool, List, [], ◌∷◌, ◌++◌, map, length, get_or, Some, None, refl, sym, ap, subst, ◌∙◌, append_assoc, append-nil}
use Rattle.std.specs.Prelude.{All, ◌==◌}
use Rattle.std.specs.List.{flat_map}
use Rattle.std.proofs.lemmas.List.Elements.{All-nil, All-cons, All-head, All-tail, All-append, All-filter}
use Rattle.if1_graph.specs.declared.line.Line.{Line}
use Rattle.if1_graph.specs.declared.line.Line.TheVariants as line
use Rattle.if1_graph.specs.Spelling.{IsName, compound_words}
use Rattle.std.specs.List.Sorted.{IsStrictlyIncreasing}
use Rattle.if1_graph.specs.declared.graph.Graph.{Graph}
use Rattle.if1_graph.specs.declared.graph.Graph.TheViews.{out-Graph}
use Rattle.if1_graph.specs.declared.graph.Node.{Node, out-Node}
use Rattle.if1_graph.specs.declared.graph.Edge.{Edge}
use Rattle.if1_graph.specs.declared.graph.Origin.{Origin}
use Rattle.if1_graph.specs.declared.graph.Origin.TheVariants.{Port, Lit}
use Rattle.if1_graph.specs.declared.graph.Unit1.{Unit1}
use Rattle.if1_graph.specs.declared.op.Compound.{Compound}
use Rattle.if1_graph.specs.Ops.{compound_at}
use Rattle.if1_graph.specs.Units.{label_of}
use Rattle.if1_graph.specs.Formed.{IsOrigin, IsEdge, IsNode}
use Rattle.if1_graph.specs.Lines.{body, edge_line, origin_line, lines_into, part_lines}
use Rattle.if1_graph.specs.Reads.{GivesBody, GivesParts, IsGraphOf, edge_of, no_line, simple, compound, edge, literal, no_part, part}
use Rattle.if1_write.proofs.Pieces.{head, name_at}
use Rattle.if1_write.proofs.Bodies.{filled, body_lines, simple_line, open_line, close_line, parts_lines, simple_lines, compound_lines}
use Rattle.if1_write.proofs.Alls.{all_joined}
use Rattle.if1_write.proofs.Depths.{Shallow, shallow_nil, shallow_both, shallow_parts, shallow_flat, shallow_map, edge_flat, shallow_compound}
use Rattle.if1_write.proofs.Spelled.{Good, edge_good, simple_good, open_good, close_good, subgraph_good}
use Rattle.if1_write.proofs.Arranged.{into, groups, arranged}

-- ---- edges

origin_gives : (u : Unit1) (g : Graph) (e : Edge) (o : Origin) (ls : List Line) (ns : List Node) (es : List Edge) → IsOrigin u g e o →
    GivesBody u ls ns es → GivesBody u (origin_line e o ∷ ls) ns (edge_of o e.node e.port e.ty e.takes e.name ∷ es)
origin_gives u g e (Port node port) ls ns es ok h = edge node port e.node e.port e.ty e.takes e.name h
origin_gives u g e (Lit text) ls ns es ok h =
    subst (λ (takes : Bool). GivesBody u (line.Literal e.node e.port e.ty text e.name ∷ ls) ns (edge_of (Lit text) e.node e.port e.ty takes e.name ∷ es))
    (sym ok.1) (literal e.node e.port e.ty text e.name h)

edges_give : (u : Unit1) (g : Graph) (fs : List Edge) (ls : List Line) (ns : List Node) (es : List Edge) → All (IsEdge u g) fs →
    GivesBody u ls ns es → GivesBody u (map edge_line fs ++ ls) ns (fs ++ es)
edges_give u g [] ls ns es ok h = h
edges_give u g (e ∷ fs) ls ns es ok h =
    origin_gives u g e e.from (map edge_line fs ++ ls) ns (fs ++ es) (All-head (IsEdge u g) e fs ok).source
    (edges_give u g fs ls ns es (All-tail (IsEdge u g) e fs ok) h)

edges_good : (u : Unit1) (g : Graph) (fs : List Edge) → All (IsEdge u g) fs → All Good (map edge_line fs)
edges_good u g [] ok = All-nil Good
edges_good u g (e ∷ fs) ok =
    All-cons Good (edge_line e) (map edge_line fs) (edge_good u g e (All-head (IsEdge u g) e fs ok)) (edges_good u g fs (All-tail (IsEdge u g) e fs ok))

-- ---- nodes

-- what is known of a node's lines
pub record NodeGiven (u : Unit1) (m : ℕ) (n : Node) : Type 0 where
  pub gives : (ls : List Line) (ns : List Node) (es : List Edge) → GivesBody u ls ns es → GivesBody u ((head n).1 ++ ls) (n ∷ ns) es
  pub good : All Good (head n).1
  pub shallow : Shallow m (head n).1

-- and of those of a graph
pub record Given (u : Unit1) (m : ℕ) (g : Graph) : Type 0 where
  pub gives : GivesBody u (body g).1 (out-Graph g).nodes (arranged g)
  pub same : IsGraphOf u g (out-Graph g).nodes (arranged g)
  pub good : All Good (body g).1
  pub shallow : Shallow m (body g).1

-- of a graph in a node
pub record PartGiven (u : Unit1) (m : ℕ) (g : Graph) : Type 0 where
  pub given : Given u m g
  pub name : IsName (out-Graph g).name

-- of the graphs in a node
pub record PartsGiven (u : Unit1) (m : ℕ) (gs : List Graph) : Type 0 where
  pub gives : GivesParts u (parts_lines gs) gs
  pub good : All Good (parts_lines gs)
  pub shallow : Shallow m (parts_lines gs)

pub simple_given : (u : Unit1) (m : ℕ) (n : Node) → IsNode n → IsStrictlyIncreasing (out-Node n).before → compound_at (out-Node n).op ≡ None →
    (out-Node n).subs ≡ [] → (out-Node n).assoc ≡ [] → NodeGiven u m n
simple_given u m n is up e subs list =
    let same = sym (simple_lines n e) in
    record {
      gives = λ ls ns es h. subst (λ (ks : List Line). GivesBody u (ks ++ ls) (n ∷ ns) es) same
          (simple n (out-Node n).label (out-Node n).op (out-Node n).before (out-Node n).name
          (record { label_is = refl; op_is = refl; no_graphs = subs; no_list = list; before_is = refl; name_is = refl }) h);
      good = subst (All Good) same (All-cons Good (simple_line n) [] (simple_good n is up) (All-nil Good));
      shallow = subst (Shallow m) same (shallow_flat m (simple_line n) [] (λ k ls. refl) (shallow_nil m));
    }

pub compound_given : (u : Unit1) (m : ℕ) (n : Node) (c : Compound) → IsNode n → IsStrictlyIncreasing (out-Node n).before → compound_at (out-Node n).op ≡ Some c →
    PartsGiven u m (out-Node n).subs → NodeGiven u (suc m) n
compound_given u m n c is up e parts =
    let same = sym (compound_lines n c e) in
    let first = open_line n ∷ parts_lines (out-Node n).subs in
    let last = close_line n (length (out-Node n).subs) in
    record {
      gives = λ ls ns es h. subst (λ (ks : List Line). GivesBody u (ks ++ ls) (n ∷ ns) es) same
          (subst (λ (ks : List Line). GivesBody u ks (n ∷ ns) es) (sym (append_assoc first (last ∷ []) ls))
          (compound n (compound_words (out-Node n).label (out-Node n).op) (out-Node n).label (out-Node n).op (out-Node n).subs (out-Node n).assoc (out-Node n).before (out-Node n).name
          (record { label_is = refl; op_is = refl; graphs_are = refl; list_is = refl; before_is = refl; name_is = refl }) parts.gives h));
      good = subst (All Good) same (All-append Good first (last ∷ []) (All-cons Good (open_line n) (parts_lines (out-Node n).subs) (open_good n is) parts.good) (All-cons Good last [] (close_good n is up) (All-nil Good)));
      shallow = subst (Shallow (suc m)) same (shallow_compound m (compound_words (out-Node n).label (out-Node n).op) (parts_lines (out-Node n).subs) (out-Node n).label (out-Node n).op (length (out-Node n).subs) (out-Node n).assoc (out-Node n).before (out-Node n).name parts.shallow);
    }

-- ---- graphs

regroup : {A : Type 0} (a b c d : List A) → a ++ (b ++ (c ++ d)) ≡ ((a ++ b) ++ c) ++ d
regroup a b c d = sym (append_assoc (a ++ b) c d ∙ append_assoc a b (c ++ d))

nodes_give : (u : Unit1) (m : ℕ) (g : Graph) (es : List Edge) → All (IsEdge u g) es → (ns : List Node) → All (NodeGiven u m) ns →
    (ls : List Line) (fs : List Edge) → GivesBody u ls [] fs → GivesBody u (flat_map (filled es) ns ++ ls) ns (groups es ns ++ fs)
nodes_give u m g es ok [] given ls fs h = h
nodes_give u m g es ok (n ∷ ns) given ls fs h =
    let here = into es (label_of n) in
    let rest = nodes_give u m g es ok ns (All-tail (NodeGiven u m) n ns given) ls fs h in
    let edges = edges_give u g here (flat_map (filled es) ns ++ ls) ns (groups es ns ++ fs) (All-filter (λ e. e.node == label_of n) (IsEdge u g) es ok) rest in
    let node = (All-head (NodeGiven u m) n ns given).gives (map edge_line here ++ (flat_map (filled es) ns ++ ls)) ns (here ++ (groups es ns ++ fs)) edges in
    subst (λ (ks : List Line). GivesBody u ks (n ∷ ns) ((here ++ groups es ns) ++ fs)) (regroup (head n).1 (map edge_line here) (flat_map (filled es) ns) ls)
    (subst (λ (hs : List Edge). GivesBody u ((head n).1 ++ (map edge_line here ++ (flat_map (filled es) ns ++ ls))) (n ∷ ns) hs) (sym (append_assoc here (groups es ns) fs)) node)

boundary_gives : (u : Unit1) (g : Graph) (es : List Edge) → All (IsEdge u g) es → GivesBody u (lines_into es 0) [] (into es 0)
boundary_gives u g es ok =
    subst (λ (ks : List Line). GivesBody u ks [] (into es 0)) (append-nil (lines_into es 0))
    (subst (λ (hs : List Edge). GivesBody u (lines_into es 0 ++ []) [] hs) (append-nil (into es 0))
    (edges_give u g (into es 0) [] [] [] (All-filter (λ e. e.node == 0) (IsEdge u g) es ok) no_line))

filled_good : (u : Unit1) (m : ℕ) (g : Graph) (es : List Edge) → All (IsEdge u g) es → (n : Node) → NodeGiven u m n → All Good (filled es n)
filled_good u m g es ok n given =
    All-append Good (head n).1 (lines_into es (label_of n)) given.good (edges_good u g (into es (label_of n)) (All-filter (λ e. e.node == label_of n) (IsEdge u g) es ok))

filled_shallow : (u : Unit1) (m : ℕ) (es : List Edge) (n : Node) → NodeGiven u m n → Shallow m (filled es n)
filled_shallow u m es n given = shallow_both m (head n).1 (lines_into es (label_of n)) given.shallow (shallow_map m edge_line (into es (label_of n)) edge_flat)

pub graph_given : (u : Unit1) (m : ℕ) (g : Graph) → All (IsEdge u g) (out-Graph g).edges → IsGraphOf u g (out-Graph g).nodes (arranged g) →
    All (NodeGiven u m) (out-Graph g).nodes → Given u m g
graph_given u m g ok same given =
    let es = (out-Graph g).edges in
    let ns = (out-Graph g).nodes in
    let lines = sym (body_lines g) in
    record {
      gives = subst (λ (ks : List Line). GivesBody u ks ns (arranged g)) lines (nodes_give u m g es ok ns given (lines_into es 0) (into es 0) (boundary_gives u g es ok));
      same = same;
      good = subst (All Good) lines
          (All-append Good (flat_map (filled es) ns) (lines_into es 0)
          (all_joined Good (filled es) ns (λ k d i. filled_good u m g es ok (get_or ns k d) (given k d i)))
          (edges_good u g (into es 0) (All-filter (λ e. e.node == 0) (IsEdge u g) es ok)));
      shallow = subst (Shallow m) lines
          (shallow_both m (flat_map (filled es) ns) (lines_into es 0)
          (shallow_parts m (filled es) ns (λ k d i. filled_shallow u m es (get_or ns k d) (given k d i)))
          (shallow_map m edge_line (into es 0) edge_flat));
    }

-- ---- graphs in a node

pub parts_given : (u : Unit1) (m : ℕ) (gs : List Graph) → All (PartGiven u m) gs → PartsGiven u m gs
parts_given u m [] h = record { gives = no_part; good = All-nil Good; shallow = shallow_nil m }
parts_given u m (g ∷ gs) h =
    let here = All-head (PartGiven u m) g gs h in
    let rest = parts_given u m gs (All-tail (PartGiven u m) g gs h) in
    let name = sym (name_at g) in
    record {
      gives = subst (λ (name : List ℕ). GivesParts u ((line.Subgraph name ∷ (body g).1) ++ parts_lines gs) (g ∷ gs)) name (part g here.given.gives here.given.same rest.gives);
      good = All-append Good (part_lines (body g)) (parts_lines gs)
          (All-cons Good (line.Subgraph (body g).0) (body g).1 (subst (λ (name : List ℕ). Good (line.Subgraph name)) name (subgraph_good (out-Graph g).name here.name)) here.given.good)
          rest.good;
      shallow = shallow_both m (part_lines (body g)) (parts_lines gs)
          (shallow_flat m (line.Subgraph (body g).0) (body g).1 (λ k ls. refl) here.given.shallow)
          rest.shallow;
    }
