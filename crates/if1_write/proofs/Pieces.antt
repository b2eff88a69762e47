-- The text of a unit is that of its parts.
use Rattle.std.proofs.Common.{◌≡◌, ℕ, suc, Bool, true, false, List, [], ◌∷◌, ◌++◌, map, length, if◌then◌else◌, refl, sym, ap, ◌∙◌, append_assoc}
use Rattle.std.specs.Prelude.{filter, is_some, ◌==◌}
use Rattle.std.specs.List.{flat_map}
use Rattle.if1_graph.specs.declared.line.Line.{Line}
use Rattle.if1_graph.specs.declared.line.Line.TheVariants as line
use Rattle.if1_graph.specs.Spelling.{line_text, opening, text_of}
use Rattle.if1_graph.specs.declared.graph.Graph.{Graph}
use Rattle.if1_graph.specs.declared.graph.Graph.TheViews.{out-Graph, roll-out-Graph, roll-out-Node}
use Rattle.if1_graph.specs.declared.graph.Graph.TheFolds.{fold-Node, fold-roll-Graph, fold-roll-Node}
use Rattle.if1_graph.specs.declared.graph.Node.{Node, out-Node}
use Rattle.if1_graph.specs.declared.graph.Edge.{Edge}
use Rattle.if1_graph.specs.declared.graph.Unit1.{Unit1}
use Rattle.if1_graph.specs.Ops.{compound_at}
use Rattle.if1_graph.specs.Units.{label_of}
use Rattle.if1_graph.specs.Lines.{entry_line, import_line, edge_line, lines_into, Body, Head, graph_step, node_step, part_lines, body, function_lines, if1_text}
use Rattle.if1_write.specs.Texts.{entry_text, import_text, edge_text, edges_text, simple_text, open_text, close_text, subgraph_text, header_text, body_text, part_text, function_text, compound_text, node_text, filled_text}

pub text_append : (ks ls : List Line) → text_of (ks ++ ls) ≡ text_of ks ++ text_of ls
text_append [] ls = refl
text_append (k ∷ ks) ls =
    ap (λ t. line_text k ++ 10 ∷ t) (text_append ks ls)
    ∙ sym (append_assoc (line_text k) (10 ∷ text_of ks) (text_of ls))

text_map : {A : Type 0} (f : A → Line) (xs : List A) → text_of (map f xs) ≡ flat_map (λ x. text_of (f x ∷ [])) xs
text_map f [] = refl
text_map f (x ∷ xs) = text_append (f x ∷ []) (map f xs) ∙ ap (λ t. text_of (f x ∷ []) ++ t) (text_map f xs)

text_flat : {A : Type 0} (f : A → List Line) (xs : List A) → text_of (flat_map f xs) ≡ flat_map (λ x. text_of (f x)) xs
text_flat f [] = refl
text_flat f (x ∷ xs) = text_append (f x) (flat_map f xs) ∙ ap (λ t. text_of (f x) ++ t) (text_flat f xs)

flat_same : {A : Type 0} (f g : A → List ℕ) → ((x : A) → f x ≡ g x) → (xs : List A) → flat_map f xs ≡ flat_map g xs
flat_same f g e [] = refl
flat_same f g e (x ∷ xs) = ap (λ t. t ++ flat_map f xs) (e x) ∙ ap (λ t. g x ++ t) (flat_same f g e xs)

-- ---- the fold, one level

abbrev pub head : Node → Head
head = fold-Node Body Head graph_step node_step

pub body_at : (g : Graph) → body g ≡ graph_step (record { number = (out-Graph g).number; exported = (out-Graph g).exported; name = (out-Graph g).name; fun = (out-Graph g).fun; nodes = map head (out-Graph g).nodes; edges = (out-Graph g).edges })
body_at g = ap body (sym (roll-out-Graph g)) ∙ fold-roll-Graph Body Head graph_step node_step (out-Graph g)

pub head_at : (n : Node) → head n ≡ node_step (record { label = (out-Node n).label; op = (out-Node n).op; subs = map body (out-Node n).subs; assoc = (out-Node n).assoc; before = (out-Node n).before; name = (out-Node n).name })
head_at n = ap head (sym (roll-out-Node n)) ∙ fold-roll-Node Body Head graph_step node_step (out-Node n)

pub name_at : (g : Graph) → (body g).0 ≡ (out-Graph g).name
name_at g = ap (λ (b : Body). b.0) (body_at g)

pub label_at : (n : Node) → (head n).0 ≡ label_of n
label_at n = ap (λ (h : Head). h.0) (head_at n)

-- ---- one node, one graph

chosen : (b : Bool) (ks ls : List Line) → text_of (if b then ks else ls) ≡ (if b then text_of ks else text_of ls)
chosen true ks ls = refl
chosen false ks ls = refl

pub same_length : {A B : Type 0} (f : A → B) (xs : List A) → length (map f xs) ≡ length xs
same_length f [] = refl
same_length f (x ∷ xs) = ap suc (same_length f xs)

part_is : (g : Graph) → text_of (part_lines (body g)) ≡ part_text g
unfolding subgraph_text body_text
part_is g =
    text_append (line.Subgraph (body g).0 ∷ []) (body g).1
    ∙ ap (λ name. text_of (line.Subgraph name ∷ []) ++ text_of (body g).1) (name_at g)

parts_are : (gs : List Graph) → text_of (flat_map part_lines (map body gs)) ≡ flat_map part_text gs
parts_are [] = refl
parts_are (g ∷ gs) =
    text_append (part_lines (body g)) (flat_map part_lines (map body gs))
    ∙ ap (λ t. t ++ text_of (flat_map part_lines (map body gs))) (part_is g)
    ∙ ap (λ t. part_text g ++ t) (parts_are gs)

compound_is : (n : Node) →
    text_of ((opening (out-Node n).label (out-Node n).op ∷ flat_map part_lines (map body (out-Node n).subs))
    ++ line.Close (out-Node n).label (out-Node n).op (length (map body (out-Node n).subs)) (out-Node n).assoc (out-Node n).before (out-Node n).name ∷ [])
    ≡ compound_text n
unfolding open_text close_text
compound_is n =
    let open_line = opening (out-Node n).label (out-Node n).op in
    let parts = flat_map part_lines (map body (out-Node n).subs) in
    let close_line : ℕ → Line = λ count. line.Close (out-Node n).label (out-Node n).op count (out-Node n).assoc (out-Node n).before (out-Node n).name in
    text_append (open_line ∷ parts) (close_line (length (map body (out-Node n).subs)) ∷ [])
    ∙ ap (λ t. t ++ text_of (close_line (length (map body (out-Node n).subs)) ∷ [])) (text_append (open_line ∷ []) parts ∙ ap (λ t. text_of (open_line ∷ []) ++ t) (parts_are (out-Node n).subs))
    ∙ ap (λ count. (text_of (open_line ∷ []) ++ flat_map part_text (out-Node n).subs) ++ text_of (close_line count ∷ [])) (same_length body (out-Node n).subs)

pub node_is : (n : Node) → text_of (head n).1 ≡ node_text n
unfolding simple_text
node_is n =
    ap (λ (h : Head). text_of h.1) (head_at n)
    ∙ chosen (is_some (compound_at (out-Node n).op)) _ _
    ∙ ap (λ t. if is_some (compound_at (out-Node n).op) then t else simple_text n) (compound_is n)

edges_are : (es : List Edge) (l : ℕ) → text_of (lines_into es l) ≡ edges_text es l
unfolding edge_text
edges_are es l = text_map edge_line (filter (λ e. e.node == l) es)

abbrev filled_lines : List Edge → Head → List Line
filled_lines es h = h.1 ++ lines_into es h.0

filled_is : (es : List Edge) (n : Node) → text_of (filled_lines es (head n)) ≡ filled_text es n
filled_is es n =
    text_append (head n).1 (lines_into es (head n).0)
    ∙ ap (λ t. t ++ text_of (lines_into es (head n).0)) (node_is n)
    ∙ ap (λ t. node_text n ++ t) (ap (λ l. text_of (lines_into es l)) (label_at n) ∙ edges_are es (label_of n))

filled_are : (es : List Edge) (ns : List Node) → text_of (flat_map (filled_lines es) (map head ns)) ≡ flat_map (filled_text es) ns
filled_are es [] = refl
filled_are es (n ∷ ns) =
    text_append (filled_lines es (head n)) (flat_map (filled_lines es) (map head ns))
    ∙ ap (λ t. t ++ text_of (flat_map (filled_lines es) (map head ns))) (filled_is es n)
    ∙ ap (λ t. filled_text es n ++ t) (filled_are es ns)

pub body_is : (g : Graph) → body_text g ≡ flat_map (filled_text (out-Graph g).edges) (out-Graph g).nodes ++ edges_text (out-Graph g).edges 0
unfolding body_text
body_is g =
    let es = (out-Graph g).edges in
    let ns = (out-Graph g).nodes in
    ap (λ (b : Body). text_of b.1) (body_at g)
    ∙ text_append (flat_map (filled_lines es) (map head ns)) (lines_into es 0)
    ∙ ap (λ t. t ++ text_of (lines_into es 0)) (filled_are es ns)
    ∙ ap (λ t. flat_map (filled_text es) ns ++ t) (edges_are es 0)

-- ---- the whole

function_is : (g : Graph) → text_of (function_lines g) ≡ function_text g
unfolding header_text body_text
function_is g = text_append (line.Function (out-Graph g).exported (out-Graph g).fun (out-Graph g).name ∷ []) (body g).1

pub unit_is : (u : Unit1) → if1_text u ≡ flat_map entry_text u.types ++ flat_map import_text u.imports ++ flat_map function_text u.graphs
unfolding entry_text import_text
unit_is u =
    let types = map entry_line u.types in
    let imports = map import_line u.imports in
    let graphs = flat_map function_lines u.graphs in
    text_append (types ++ imports) graphs
    ∙ ap (λ t. t ++ text_of graphs) (text_append types imports ∙ (ap (λ t. t ++ text_of imports) (text_map entry_line u.types) ∙ ap (λ t. flat_map entry_text u.types ++ t) (text_map import_line u.imports)))
    ∙ ap (λ t. flat_map entry_text u.types ++ flat_map import_text u.imports ++ t) (text_flat function_lines u.graphs ∙ flat_same (λ g. text_of (function_lines g)) function_text function_is u.graphs)

-- the nodes are written, and then what leads into the boundary
pub body_written : (g : Graph) (old mid new : List ℕ) (es : List Edge) (ns : List Node) → es ≡ (out-Graph g).edges → ns ≡ (out-Graph g).nodes →
    mid ≡ old ++ flat_map (filled_text es) ns → new ≡ mid ++ edges_text es 0 → new ≡ old ++ body_text g
body_written g old mid new es ns p q e f =
    f
    ∙ ap (λ t. t ++ edges_text es 0) e
    ∙ append_assoc old (flat_map (filled_text es) ns) (edges_text es 0)
    ∙ ap (λ t. old ++ t) (ap (λ fs. flat_map (filled_text fs) ns ++ edges_text fs 0) p ∙ ap (λ ms. flat_map (filled_text (out-Graph g).edges) ms ++ edges_text (out-Graph g).edges 0) q ∙ sym (body_is g))
