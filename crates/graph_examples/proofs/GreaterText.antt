-- The canonical text of the example.
use Rattle.std.proofs.Common.{◌≡◌, ◌∙◌, ◌++◌, ℕ, true, List, [], ◌∷◌, map, refl, ap}
use Rattle.std.specs.Prelude.{codes}
use Rattle.std.specs.Fmt.{digits}
use Rattle.std.specs.List.{flat_map}
use Rattle.if1_graph.specs.Spelling.{compound_words, text_of}
use Rattle.if1_graph.specs.declared.line.Line.{Line}
use Rattle.if1_graph.specs.declared.line.Line.TheVariants as line
use Rattle.if1_graph.specs.declared.graph.Graph.TheFolds.{fold-Node, fold-roll-Graph, fold-roll-Node}
use Rattle.if1_graph.specs.declared.graph.Edge.{Edge}
use Rattle.if1_graph.specs.Lines.{Body, Head, graph_step, node_step, body, entry_line, edge_line, function_lines, lines_of, if1_text}
use Rattle.graph_examples.specs.Greater.{edge, types, which, otherwise, equal, choice, main, greater, text}
use Rattle.graph_examples.proofs.GreaterOuts.{outs}

abbrev simple-line : ℕ → ℕ → Line
simple-line l op = line.Node l op [] []

abbrev e : ℕ → ℕ → ℕ → ℕ → ℕ → Line
e a p n q t = edge_line (edge a p n q t)

abbrev which-lines : List Line
which-lines = simple-line 1 129 ∷ e 2 1 1 1 2 ∷ simple-line 2 124 ∷ e 0 1 2 1 1 ∷ e 0 2 2 2 1 ∷ e 1 1 0 1 1 ∷ []

abbrev otherwise-lines : List Line
otherwise-lines = simple-line 1 133 ∷ e 0 1 1 1 1 ∷ e 0 2 1 2 1 ∷ e 1 1 0 1 1 ∷ []

abbrev equal-lines : List Line
equal-lines = simple-line 1 141 ∷ e 0 1 1 1 1 ∷ e 0 2 1 2 1 ∷ e 1 1 0 1 1 ∷ []

-- the Select, before what leads into it
abbrev part-lines : List Line
part-lines =
    line.Open (compound_words 2 1) ∷
    line.Subgraph (codes "which") ∷ which-lines
    ++ line.Subgraph (codes "otherwise") ∷ otherwise-lines
    ++ line.Subgraph (codes "equal") ∷ equal-lines
    ++ line.Close 2 1 3 (0 ∷ 1 ∷ 2 ∷ []) [] [] ∷ []

abbrev main-edges : List Edge
main-edges = edge 0 1 2 1 1 ∷ edge 0 2 2 2 1 ∷ edge 2 1 0 1 1 ∷ []

abbrev main-lines : List Line
main-lines = part-lines ++ e 0 1 2 1 1 ∷ e 0 2 2 2 1 ∷ e 2 1 0 1 1 ∷ []

which-body : body which ≡ (codes "which", which-lines)
which-body = simp (fold-roll-Graph, fold-roll-Node)

otherwise-body : body otherwise ≡ (codes "otherwise", otherwise-lines)
otherwise-body = simp (fold-roll-Graph, fold-roll-Node)

equal-body : body equal ≡ (codes "equal", equal-lines)
equal-body = simp (fold-roll-Graph, fold-roll-Node)

choice-head : fold-Node Body Head graph_step node_step choice ≡ (2, part-lines)
choice-head =
    fold-roll-Node Body Head graph_step node_step _
    ∙ (λ i. node_step (record { label = 2; op = 1; subs = which-body i ∷ otherwise-body i ∷ equal-body i ∷ []; assoc = 0 ∷ 1 ∷ 2 ∷ []; before = []; name = [] }))

main-body : body main ≡ (codes "main", main-lines)
main-body =
    fold-roll-Graph Body Head graph_step node_step _
    ∙ (λ i. graph_step (record { number = 1; exported = true; name = codes "main"; fun = 7; nodes = choice-head i ∷ []; edges = main-edges }))

main-function : function_lines main ≡ line.Function true 7 (codes "main") ∷ main-lines
main-function = simp (outs, main-body)

lines-are : lines_of greater ≡ map entry_line types ++ line.Function true 7 (codes "main") ∷ main-lines
lines-are = ap (λ ls. map entry_line types ++ (ls ++ [])) main-function

pub written : if1_text greater ≡ flat_map (λ l. l ++ 10 ∷ []) text
unfolding digits
written = ap text_of lines-are ∙ refl
