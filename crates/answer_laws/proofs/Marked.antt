-- A unit without marks of its own has neither taking edges nor ordering lists.
use Rattle.std.proofs.Common.{◌≡◌, ◌≤◌, ◌∙◌, arith, ℕ, zero, suc, Bool, true, false, ◌||◌, List, [], ◌∷◌, map, length, All, nat_lt, refl, sym, ap}
use Rattle.std.specs.List.{list_any, flat_map}
use Rattle.std.proofs.lemmas.List.Elements.{All-nil, All-cons, All-append, All-weaker}
use Rattle.if1_graph.specs.declared.graph.Edge.{Edge}
use Rattle.if1_graph.specs.declared.graph.Graph.{Graph}
use Rattle.if1_graph.specs.declared.graph.Graph.TheViews.{out-Graph, roll-out-Graph, roll-out-Node}
use Rattle.if1_graph.specs.declared.graph.Graph.TheFolds.{fold-roll-Graph, fold-roll-Node}
use Rattle.if1_graph.specs.declared.graph.Node.{Node, out-Node}
use Rattle.if1_graph.specs.declared.graph.Unit1.{Unit1}
use Rattle.if1_graph.specs.Units.{Home, Function, Inside, Place, places, places_of, each_from, most_levels}
use Rattle.if1_marks.specs.Orders.{HasNoLists, HasNoTakers}
use Rattle.unit_entry.specs.Marks.{has_marks, is_marked, is_marked_node, is_some_label, itself, graph_step, node_step}

marked_at : (g : Graph) → is_marked g ≡ (list_any (λ e. e.takes) (out-Graph g).edges || list_any itself (map is_marked_node (out-Graph g).nodes))
marked_at g = ap is_marked (sym (roll-out-Graph g)) ∙ fold-roll-Graph Bool Bool graph_step node_step (out-Graph g)

marked_node_at : (n : Node) → is_marked_node n ≡ (is_some_label (out-Node n).before || list_any itself (map is_marked (out-Node n).subs))
marked_node_at n = ap is_marked_node (sym (roll-out-Node n)) ∙ fold-roll-Node Bool Bool graph_step node_step (out-Node n)

or_left : (a b : Bool) → (a || b) ≡ false → a ≡ false
or_left true b e = e
or_left false b e = refl

or_right : (a b : Bool) → (a || b) ≡ false → b ≡ false
or_right true b e = cc
or_right false b e = e

none_of : {A : Type 0} (p : A → Bool) (xs : List A) → list_any p xs ≡ false → All (λ x. p x ≡ false) xs
none_of p [] e = All-nil (λ x. p x ≡ false)
none_of p (x ∷ xs) e = All-cons (λ x. p x ≡ false) x xs (or_left (p x) (list_any p xs) e) (none_of p xs (or_right (p x) (list_any p xs) e))

not_above : (n m : ℕ) → nat_lt n m ≡ false → m ≤ n
not_above n m e = grind (arith, e)

no_label : (ls : List ℕ) → is_some_label ls ≡ false → ls ≡ []
no_label [] e = refl
no_label (l ∷ ls) e = let few = not_above 0 (length (l ∷ ls)) e in absurd (omega (arith, few))

pub record IsClean (p : Place) : Type 0 where
  pub takers : All (λ e. e.takes ≡ false) (out-Graph p.graph).edges
  pub lists : All (λ n. (out-Node n).before ≡ []) (out-Graph p.graph).nodes

labels_of : (ns : List Node) → list_any itself (map is_marked_node ns) ≡ false → All (λ n. (out-Node n).before ≡ []) ns
labels_of [] e = All-nil (λ n. (out-Node n).before ≡ [])
labels_of (n ∷ ns) e =
    All-cons (λ n. (out-Node n).before ≡ []) n ns
    (no_label (out-Node n).before (or_left (is_some_label (out-Node n).before) (list_any itself (map is_marked (out-Node n).subs)) (sym (marked_node_at n) ∙ or_left (is_marked_node n) (list_any itself (map is_marked_node ns)) e)))
    (labels_of ns (or_right (is_marked_node n) (list_any itself (map is_marked_node ns)) e))

own_clean : (home : Home) (g : Graph) → is_marked g ≡ false → IsClean (record { graph = g; home = home })
own_clean home g e =
    let f = sym (marked_at g) ∙ e in record {
      takers = none_of (λ (e : Edge). e.takes) (out-Graph g).edges (or_left (list_any (λ e. e.takes) (out-Graph g).edges) (list_any itself (map is_marked_node (out-Graph g).nodes)) f);
      lists = labels_of (out-Graph g).nodes (or_right (list_any (λ e. e.takes) (out-Graph g).edges) (list_any itself (map is_marked_node (out-Graph g).nodes)) f);
    }

-- graphs one after another
each_clean : (at : ℕ → Graph → List Place) → ((k : ℕ) (g : Graph) → is_marked g ≡ false → All IsClean (at k g)) → (k : ℕ) (gs : List Graph) → list_any itself (map is_marked gs) ≡ false → All IsClean (each_from at k gs)
each_clean at h k [] e = All-nil IsClean
each_clean at h k (g ∷ gs) e =
    All-append IsClean (at k g) (each_from at (suc k) gs) (h k g (or_left (is_marked g) (list_any itself (map is_marked gs)) e)) (each_clean at h (suc k) gs (or_right (is_marked g) (list_any itself (map is_marked gs)) e))

nodes_clean : (at : Node → ℕ → Graph → List Place) → ((n : Node) (k : ℕ) (g : Graph) → is_marked g ≡ false → All IsClean (at n k g)) → (ns : List Node) → list_any itself (map is_marked_node ns) ≡ false
    → All IsClean (flat_map (λ n. each_from (at n) 0 (out-Node n).subs) ns)
nodes_clean at h [] e = All-nil IsClean
nodes_clean at h (n ∷ ns) e =
    All-append IsClean (each_from (at n) 0 (out-Node n).subs) (flat_map (λ n. each_from (at n) 0 (out-Node n).subs) ns)
    (each_clean (at n) (h n) 0 (out-Node n).subs
    (or_right (is_some_label (out-Node n).before) (list_any itself (map is_marked (out-Node n).subs)) (sym (marked_node_at n) ∙ or_left (is_marked_node n) (list_any itself (map is_marked_node ns)) e)))
    (nodes_clean at h ns (or_right (is_marked_node n) (list_any itself (map is_marked_node ns)) e))

all_clean : (more : ℕ) (home : Home) (g : Graph) → is_marked g ≡ false → All IsClean (places_of more home g)
all_clean zero home g e = All-cons IsClean (record { graph = g; home = home }) [] (own_clean home g e) (All-nil IsClean)
all_clean (suc more) home g e =
    All-cons IsClean (record { graph = g; home = home }) (flat_map (λ n. each_from (λ k s. places_of more (Inside g n k) s) 0 (out-Node n).subs) (out-Graph g).nodes) (own_clean home g e)
    (nodes_clean (λ n k s. places_of more (Inside g n k) s) (λ n k s f. all_clean more (Inside g n k) s f) (out-Graph g).nodes
    (or_right (list_any (λ e. e.takes) (out-Graph g).edges) (list_any itself (map is_marked_node (out-Graph g).nodes)) (sym (marked_at g) ∙ e)))

marked_all : (gs : List Graph) → list_any is_marked gs ≡ false → list_any itself (map is_marked gs) ≡ false
marked_all [] e = refl
marked_all (g ∷ gs) e = ap (λ (b : Bool). b || list_any itself (map is_marked gs)) (or_left (is_marked g) (list_any is_marked gs) e) ∙ marked_all gs (or_right (is_marked g) (list_any is_marked gs) e)

unit_clean : (u : Unit1) → has_marks u ≡ false → All IsClean (places u)
unit_clean u e = each_clean (λ k g. places_of most_levels (Function k) g) (λ k g f. all_clean most_levels (Function k) g f) 0 u.graphs (marked_all u.graphs e)

pub no_takers : (u : Unit1) → has_marks u ≡ false → HasNoTakers u
no_takers u e = All-weaker IsClean (λ p. All (λ e. e.takes ≡ false) (out-Graph p.graph).edges) (λ p c. c.takers) (places u) (unit_clean u e)

pub no_lists : (u : Unit1) → has_marks u ≡ false → HasNoLists u
no_lists u e = All-weaker IsClean (λ p. All (λ n. (out-Node n).before ≡ []) (out-Graph p.graph).nodes) (λ p c. c.lists) (places u) (unit_clean u e)
