-- The lines of a graph and of a node, and how deep they nest, one level at a time.
use Rattle.std.proofs.Common.{◌≡◌, ℕ, suc, ◌≤◌, List, [], ◌∷◌, ◌++◌, map, length, Option, Some, None, if◌then◌else◌, refl, sym, ap, ◌∙◌, arith}
use Rattle.std.specs.Prelude.{is_some, All}
use Rattle.std.specs.List.{flat_map}
use Rattle.std.proofs.lemmas.List.Elements.{All-nil, All-cons}
use Rattle.if1_graph.specs.declared.line.Line.{Line}
use Rattle.if1_graph.specs.declared.line.Line.TheVariants as line
use Rattle.if1_graph.specs.Spelling.{opening}
use Rattle.if1_graph.specs.declared.graph.Graph.{Graph}
use Rattle.if1_graph.specs.declared.graph.Graph.TheViews.{out-Graph, roll-out-Graph, roll-out-Node}
use Rattle.if1_graph.specs.declared.graph.Graph.TheFolds.{fold-Node, fold-roll-Graph, fold-roll-Node}
use Rattle.if1_graph.specs.declared.graph.Node.{Node, out-Node}
use Rattle.if1_graph.specs.declared.graph.Edge.{Edge}
use Rattle.if1_graph.specs.declared.op.Compound.{Compound}
use Rattle.if1_graph.specs.Ops.{compound_at}
use Rattle.if1_graph.specs.Units.{label_of, greatest, level_below, levels}
use Rattle.if1_graph.specs.Lines.{lines_into, Body, Head, part_lines, body}
use Rattle.if1_write.proofs.Pieces.{head, body_at, head_at, label_at, same_length}

-- a node with what leads into it
abbrev pub filled : List Edge → Node → List Line
filled es n = (head n).1 ++ lines_into es (label_of n)

abbrev filled_head : List Edge → Head → List Line
filled_head es h = h.1 ++ lines_into es h.0

flat_filled : (es : List Edge) (ns : List Node) → flat_map (filled_head es) (map head ns) ≡ flat_map (filled es) ns
flat_filled es [] = refl
flat_filled es (n ∷ ns) =
    ap (λ l. ((head n).1 ++ lines_into es l) ++ flat_map (filled_head es) (map head ns)) (label_at n)
    ∙ ap (λ t. filled es n ++ t) (flat_filled es ns)

pub body_lines : (g : Graph) → (body g).1 ≡ flat_map (filled (out-Graph g).edges) (out-Graph g).nodes ++ lines_into (out-Graph g).edges 0
body_lines g =
    ap (λ (b : Body). b.1) (body_at g)
    ∙ ap (λ t. t ++ lines_into (out-Graph g).edges 0) (flat_filled (out-Graph g).edges (out-Graph g).nodes)

abbrev pub simple_line : Node → Line
simple_line n = line.Node (out-Node n).label (out-Node n).op (out-Node n).before (out-Node n).name

abbrev pub open_line : Node → Line
open_line n = opening (out-Node n).label (out-Node n).op

abbrev pub close_line : Node → ℕ → Line
close_line n count = line.Close (out-Node n).label (out-Node n).op count (out-Node n).assoc (out-Node n).before (out-Node n).name

abbrev pub parts_lines : List Graph → List Line
parts_lines gs = flat_map part_lines (map body gs)

abbrev compound_with : Node → ℕ → List Line
compound_with n count = (open_line n ∷ parts_lines (out-Node n).subs) ++ close_line n count ∷ []

head_lines : (n : Node) (o : Option Compound) → compound_at (out-Node n).op ≡ o →
    (head n).1 ≡ (if is_some o then compound_with n (length (map body (out-Node n).subs)) else simple_line n ∷ [])
head_lines n o e =
    ap (λ (h : Head). h.1) (head_at n)
    ∙ ap (λ (o : Option Compound). if is_some o then compound_with n (length (map body (out-Node n).subs)) else simple_line n ∷ []) e

pub simple_lines : (n : Node) → compound_at (out-Node n).op ≡ None → (head n).1 ≡ simple_line n ∷ []
simple_lines n e = head_lines n None e

pub compound_lines : (n : Node) (c : Compound) → compound_at (out-Node n).op ≡ Some c →
    (head n).1 ≡ (open_line n ∷ parts_lines (out-Node n).subs) ++ close_line n (length (out-Node n).subs) ∷ []
compound_lines n c e = head_lines n (Some c) e ∙ ap (compound_with n) (same_length body (out-Node n).subs)

-- ---- levels

abbrev pub node_levels : Node → ℕ
node_levels = fold-Node ℕ ℕ (λ g. greatest g.nodes) (λ n. level_below n.subs)

levels_at : (g : Graph) → levels g ≡ greatest (map node_levels (out-Graph g).nodes)
levels_at g = ap levels (sym (roll-out-Graph g)) ∙ fold-roll-Graph ℕ ℕ (λ g. greatest g.nodes) (λ n. level_below n.subs) (out-Graph g)

node_levels_at : (n : Node) → node_levels n ≡ level_below (map levels (out-Node n).subs)
node_levels_at n = ap node_levels (sym (roll-out-Node n)) ∙ fold-roll-Node ℕ ℕ (λ g. greatest g.nodes) (λ n. level_below n.subs) (out-Node n)

each_below : {A : Type 0} (f : A → ℕ) (xs : List A) (m : ℕ) → greatest (map f xs) ≤ m → All (λ x. f x ≤ m) xs
each_below f [] m h = All-nil (λ x. f x ≤ m)
each_below f (x ∷ xs) m h = All-cons (λ x. f x ≤ m) x xs (omega (arith, h)) (each_below f xs m (omega (arith, h)))

pub nodes_below : (g : Graph) (m : ℕ) → levels g ≤ m → All (λ n. node_levels n ≤ m) (out-Graph g).nodes
nodes_below g m h = each_below node_levels (out-Graph g).nodes m (omega (arith, h, levels_at g))

parts_at : (gs : List Graph) (m : ℕ) → level_below (map levels gs) ≤ suc m → All (λ g. levels g ≤ m) gs
parts_at [] m h = All-nil (λ g. levels g ≤ m)
parts_at (g ∷ gs) m h = each_below levels (g ∷ gs) m (omega (arith, h))

pub parts_below : (n : Node) (m : ℕ) → node_levels n ≤ suc m → All (λ g. levels g ≤ m) (out-Node n).subs
parts_below n m h = parts_at (out-Node n).subs m (omega (arith, h, node_levels_at n))

none_at : (gs : List Graph) → level_below (map levels gs) ≤ 0 → gs ≡ []
none_at [] h = refl
none_at (g ∷ gs) h = absurd (omega (arith, h))

pub none_below : (n : Node) → node_levels n ≤ 0 → (out-Node n).subs ≡ []
none_below n h = none_at (out-Node n).subs (omega (arith, h, node_levels_at n))
