-- Marks of graphs and nodes, one level of the recursion at a time.
use Rattle.std.proofs.Common.{◌≡◌, ◌∙◌, ap, sym, refl, Bool, true, false, ◌||◌, List, [], ◌∷◌, map}
use Rattle.std.specs.List.{list_any}
use Rattle.if1_graph.specs.declared.graph.Graph.{Graph}
use Rattle.if1_graph.specs.declared.graph.Graph.TheViews.{out-Graph, roll-out-Graph, roll-out-Node}
use Rattle.if1_graph.specs.declared.graph.Graph.TheFolds.{fold-roll-Graph, fold-roll-Node}
use Rattle.if1_graph.specs.declared.graph.Node.{Node, out-Node}
use Rattle.unit_entry.specs.Marks.{itself, graph_step, node_step, is_some_label, is_marked, is_marked_node}

any_itself : {X : Type 0} (f : X → Bool) (xs : List X) → list_any itself (map f xs) ≡ list_any f xs
any_itself f [] = refl
any_itself f (x ∷ xs) = ap (λ b. f x || b) (any_itself f xs)

pub marked_at : (g : Graph) → is_marked g ≡ (list_any (λ e. e.takes) (out-Graph g).edges || list_any is_marked_node (out-Graph g).nodes)
marked_at g =
    ap is_marked (sym (roll-out-Graph g))
    ∙ (fold-roll-Graph Bool Bool graph_step node_step (out-Graph g)
    ∙ ap (λ b. list_any (λ e. e.takes) (out-Graph g).edges || b) (any_itself is_marked_node (out-Graph g).nodes))

pub marked_node_at : (n : Node) → is_marked_node n ≡ (is_some_label (out-Node n).before || list_any is_marked (out-Node n).subs)
marked_node_at n =
    ap is_marked_node (sym (roll-out-Node n))
    ∙ (fold-roll-Node Bool Bool graph_step node_step (out-Node n)
    ∙ ap (λ b. is_some_label (out-Node n).before || b) (any_itself is_marked (out-Node n).subs))

pub by_takers : (g : Graph) → list_any (λ e. e.takes) (out-Graph g).edges ≡ true → true ≡ is_marked g
by_takers g some = sym (marked_at g ∙ ap (λ b. b || list_any is_marked_node (out-Graph g).nodes) some)

pub by_nodes : (g : Graph) (b : Bool) → list_any (λ e. e.takes) (out-Graph g).edges ≡ false → b ≡ list_any is_marked_node (out-Graph g).nodes → b ≡ is_marked g
by_nodes g b none is = is ∙ sym (marked_at g ∙ ap (λ x. x || list_any is_marked_node (out-Graph g).nodes) none)

pub by_list : (n : Node) → is_some_label (out-Node n).before ≡ true → true ≡ is_marked_node n
by_list n some = sym (marked_node_at n ∙ ap (λ b. b || list_any is_marked (out-Node n).subs) some)

pub by_graphs : (n : Node) (b : Bool) → is_some_label (out-Node n).before ≡ false → b ≡ list_any is_marked (out-Node n).subs → b ≡ is_marked_node n
by_graphs n b none is = is ∙ sym (marked_node_at n ∙ ap (λ x. x || list_any is_marked (out-Node n).subs) none)
