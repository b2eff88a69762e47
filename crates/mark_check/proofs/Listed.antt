-- The graphs of a unit, one after another.
use Rattle.std.proofs.Common.{◌≡◌, ◌∙◌, ℕ, zero, suc, ◌+◌, ◌<◌, ◌≤◌, List, [], ◌∷◌, ◌++◌, length, map, take, get_or, All, Bor, arith, refl, sym, ap, append_assoc}
use Rattle.std.specs.List.{flat_map}
use Rattle.std.proofs.lemmas.Grind.{flat_map-append}
use Rattle.std.proofs.lemmas.List.{take_more, take_all, map-append}
use Rattle.if1_graph.specs.declared.graph.Graph.{Graph}
use Rattle.if1_graph.specs.declared.graph.Graph.TheViews.{out-Graph}
use Rattle.if1_graph.specs.declared.graph.Graph.TheFolds.{fold_out-Node}
use Rattle.if1_graph.specs.declared.graph.Node.{Node, out-Node}
use Rattle.if1_graph.specs.declared.graph.Unit1.{Unit1}
use Rattle.if1_graph.specs.Units.{Home, Function, Inside, Place, greatest, level_below, levels, most_levels, each_from, places_of}
use Rattle.if1_order.proofs.Within.{node_levels, levels_out}
use Rattle.mark_check.specs.Graphs.{graphs_of, graphs_in, graphs_below, unit_graphs, lent}

append-none : {A : Type 0} (xs : List A) → (xs ++ []) ≡ xs
append-none [] = refl
append-none (x ∷ xs) = ap (λ ys. x ∷ ys) (append-none xs)

-- one more of a list
pub flat-more : {A : Type 0} (f : A → List Graph) (xs : List A) (n : ℕ) (x : A) → n < length xs → x ≡ get_or xs n x → (a b c : List Graph) → b ≡ a ++ flat_map f (take n xs) → c ≡ b ++ f x → c ≡ a ++ flat_map f (take (n + 1) xs)
flat-more f xs n x h is a b c e k =
    let one : flat_map f (take (n + 1) xs) ≡ flat_map f (take n xs) ++ f x =
    ap (flat_map f) (take_more xs n x h ∙ ap (λ y. take n xs ++ y ∷ []) (sym is))
    ∙ (flat_map-append f (take n xs) (x ∷ []) ∙ ap (λ ys. flat_map f (take n xs) ++ ys) (append-none (f x))) in
    k ∙ (ap (λ ys. ys ++ f x) e ∙ (append_assoc a (flat_map f (take n xs)) (f x) ∙ ap (λ ys. a ++ ys) (sym one)))

pub flat-all : {A : Type 0} (f : A → List Graph) (xs : List A) (n : ℕ) → length xs ≤ n → (a b : List Graph) → b ≡ a ++ flat_map f (take n xs) → b ≡ a ++ flat_map f xs
flat-all f xs n h a b e = e ∙ ap (λ ys. a ++ flat_map f ys) (take_all n xs h)

pub flat-none : {A : Type 0} (f : A → List Graph) (xs : List A) (n : ℕ) → n ≡ 0 → (a : List Graph) → a ≡ a ++ flat_map f (take n xs)
flat-none f xs n e a = sym (append-none a) ∙ ap (λ k. a ++ flat_map f (take k xs)) (sym e)

-- ---- a graph

no-parts : (more : ℕ) (ss : List Graph) → level_below (map levels ss) ≤ 0 → graphs_in more ss ≡ []
no-parts more [] h = refl
no-parts more (s ∷ ss) h = absurd (omega (arith, h))

none-below : (more : ℕ) (ns : List Node) → greatest (map node_levels ns) ≤ 0 → graphs_below more ns ≡ []
none-below more [] h = refl
none-below more (n ∷ ns) h =
    let own : node_levels n ≤ 0 = omega (arith, h) in
    let rest : greatest (map node_levels ns) ≤ 0 = omega (arith, h) in
    let flat = no-parts more (out-Node n).subs (omega (arith, own, fold_out-Node ℕ ℕ (λ g. greatest g.nodes) (λ n. level_below n.subs) n)) in
    ap (λ xs. xs ++ graphs_below more ns) flat ∙ none-below more ns rest

pub graph-added : (g : Graph) (old pushed new : List (Bor Graph)) (r : Bor Graph) (ns : List Node) → r.now ≡ g → ns ≡ (out-Graph g).nodes → pushed ≡ old ++ r ∷ [] →
    ((more : ℕ) → greatest (map node_levels ns) ≤ suc more → lent new ≡ lent pushed ++ graphs_below more ns) → (more : ℕ) → levels g ≤ more → lent new ≡ lent old ++ graphs_of more g
graph-added g old pushed new r ns is are e below more deep = go more deep
  where
    top : greatest (map node_levels ns) ≡ levels g
    top = ap (λ ns. greatest (map node_levels ns)) are ∙ sym (levels_out g)

    one : lent pushed ≡ lent old ++ g ∷ []
    one = ap lent e ∙ (map-append (λ (g : Bor Graph). g.now) old (r ∷ []) ∙ ap (λ (x : Graph). lent old ++ x ∷ []) is)

    joined : (rest : List Graph) → lent new ≡ lent pushed ++ rest → lent new ≡ lent old ++ g ∷ rest
    joined rest k = k ∙ (ap (λ xs. xs ++ rest) one ∙ append_assoc (lent old) (g ∷ []) rest)

    go : (more : ℕ) → levels g ≤ more → lent new ≡ lent old ++ graphs_of more g
    go zero deep = joined [] (below 0 (omega (arith, top, deep)) ∙ ap (λ xs. lent pushed ++ xs) (none-below 0 ns (omega (arith, top, deep))))
    go (suc more) deep =
        joined (graphs_below more (out-Graph g).nodes) (below more (omega (arith, top, deep)) ∙ ap (λ ns. lent pushed ++ graphs_below more ns) are)

-- ---- the unit

abbrev graph : Place → Graph
graph p = p.graph

each-graphs : (more : ℕ) → ((home : Home) (s : Graph) → map graph (places_of more home s) ≡ graphs_of more s) → (f : ℕ → Home) (k : ℕ) (gs : List Graph) → map graph (each_from (λ k s. places_of more (f k) s) k gs) ≡ graphs_in more gs
each-graphs more each f k [] = refl
each-graphs more each f k (g ∷ gs) =
    map-append graph (places_of more (f k) g) (each_from (λ k s. places_of more (f k) s) (suc k) gs)
    ∙ (ap (λ xs. xs ++ map graph (each_from (λ k s. places_of more (f k) s) (suc k) gs)) (each (f k) g)
    ∙ ap (λ xs. graphs_of more g ++ xs) (each-graphs more each f (suc k) gs))

nodes-graphs : (more : ℕ) → ((home : Home) (s : Graph) → map graph (places_of more home s) ≡ graphs_of more s) → (g : Graph) (ns : List Node) →
    map graph (flat_map (λ n. each_from (λ k s. places_of more (Inside g n k) s) 0 (out-Node n).subs) ns) ≡ graphs_below more ns
nodes-graphs more each g [] = refl
nodes-graphs more each g (n ∷ ns) =
    map-append graph (each_from (λ k s. places_of more (Inside g n k) s) 0 (out-Node n).subs) (flat_map (λ n. each_from (λ k s. places_of more (Inside g n k) s) 0 (out-Node n).subs) ns)
    ∙ (ap (λ xs. xs ++ map graph (flat_map (λ n. each_from (λ k s. places_of more (Inside g n k) s) 0 (out-Node n).subs) ns)) (each-graphs more each (Inside g n) 0 (out-Node n).subs)
    ∙ ap (λ xs. graphs_in more (out-Node n).subs ++ xs) (nodes-graphs more each g ns))

places-graphs : (more : ℕ) (home : Home) (g : Graph) → map graph (places_of more home g) ≡ graphs_of more g
places-graphs zero home g = refl
places-graphs (suc more) home g = ap (λ xs. g ∷ xs) (nodes-graphs more (places-graphs more) g (out-Graph g).nodes)

pub unit-listed : (u : Unit1) → graphs_in most_levels u.graphs ≡ unit_graphs u
unit-listed u = sym (each-graphs most_levels (places-graphs most_levels) Function 0 u.graphs)

greatest-below : (m : ℕ) (gs : List Graph) → All (λ g. levels g ≤ m) gs → greatest (map levels gs) ≤ m
greatest-below m [] h = omega arith
greatest-below m (g ∷ gs) h =
    let own = h 0 g (omega arith) in
    let rest = greatest-below m gs (λ k d lt. h (suc k) d (omega (arith, lt))) in
    omega (arith, own, rest)

pub unit-flat : (m : ℕ) (gs : List Graph) → All (λ g. levels g ≤ m) gs → level_below (map levels gs) ≤ suc m
unit-flat m [] h = omega arith
unit-flat m (g ∷ gs) h = let r = greatest-below m (g ∷ gs) h in omega (arith, r)
