-- A unit has as many places as graphs.
use Rattle.std.proofs.Common.{◌≡◌, ℕ, zero, suc, ◌+◌, ◌≤◌, List, [], ◌∷◌, map, sum, length, Contains, arith, refl, ap, ◌∙◌}
use Rattle.std.specs.List.{flat_map}
use Rattle.std.proofs.lemmas.List.{length-append}
use Rattle.std.proofs.lemmas.List.Elements.{All-contains}
use Rattle.std.proofs.lemmas.List.Sums.{sum_by_from}
use Rattle.if1_graph.specs.declared.graph.Graph.{Graph}
use Rattle.if1_graph.specs.declared.graph.Graph.TheViews.{out-Graph}
use Rattle.if1_graph.specs.declared.graph.Graph.TheFolds.{fold-Node, fold_out-Graph, fold_out-Node}
use Rattle.if1_graph.specs.declared.graph.Node.{Node, out-Node}
use Rattle.if1_graph.specs.declared.graph.Unit1.{Unit1}
use Rattle.if1_graph.specs.Formed.{IsFormed}
use Rattle.if1_graph.specs.Units.{Function, Home, Inside, Place, each_from, levels, most_levels, places, places_of, size, sizes}
use Rattle.if1_order.proofs.Within.{levels_inside}
use Rattle.graph_meaning.proofs.Lists.{here, there}

sizes-first : (g : Graph) (gs : List Graph) → sizes (g ∷ gs) ≡ size g + sizes gs
sizes-first g gs = omega (arith, sum_by_from (λ y. y) (0 + size g) (map size gs))

-- how many graphs stand in these nodes
abbrev total : List Node → ℕ
total [] = 0
total (n ∷ ns) = sizes (out-Node n).subs + total ns

size-is : (g : Graph) → size g ≡ suc (total (out-Graph g).nodes)
size-is g = fold_out-Graph ℕ ℕ (λ g. suc (sum g.nodes)) (λ n. sum n.subs) g ∙ ap suc (go (out-Graph g).nodes)
  where
    one : Node → ℕ
    one = fold-Node ℕ ℕ (λ g. suc (sum g.nodes)) (λ n. sum n.subs)

    go : (ns : List Node) → sum (map (fold-Node ℕ ℕ (λ g. suc (sum g.nodes)) (λ n. sum n.subs)) ns) ≡ total ns
    go [] = refl
    go (n ∷ ns) = omega (arith, sum_by_from (λ y. y) (0 + one n) (map one ns), fold_out-Node ℕ ℕ (λ g. suc (sum g.nodes)) (λ n. sum n.subs) n, go ns)

siblings-many : (f : ℕ → Graph → List Place) (k : ℕ) (gs : List Graph) → ((k : ℕ) (s : Graph) → Contains gs s → length (f k s) ≡ size s) → length (each_from f k gs) ≡ sizes gs
siblings-many f k [] h = refl
siblings-many f k (g ∷ gs) h =
    let rest = siblings-many f (suc k) gs (λ j s c. h j s (there g gs s c)) in
    omega (arith, length-append (f k g) (each_from f (suc k) gs), h k g (here g gs), rest, sizes-first g gs)

flat-many : (f : Node → List Place) (ns : List Node) → ((n : Node) → Contains ns n → length (f n) ≡ sizes (out-Node n).subs) → length (flat_map f ns) ≡ total ns
flat-many f [] h = refl
flat-many f (n ∷ ns) h = omega (arith, length-append (f n) (flat_map f ns), h n (here n ns), flat-many f ns (λ m c. h m (there n ns m c)))

-- a graph has no graphs inside at level 0
none-inside : (ns : List Node) → ((n : Node) → Contains ns n → (s : Graph) → Contains (out-Node n).subs s → ⊥) → total ns ≡ 0
none-inside [] h = refl
none-inside (n ∷ ns) h = omega (arith, no-graphs (out-Node n).subs (h n (here n ns)), none-inside ns (λ m c. h m (there n ns m c)))
  where
    no-graphs : (gs : List Graph) → ((s : Graph) → Contains gs s → ⊥) → sizes gs ≡ 0
    no-graphs [] h = refl
    no-graphs (g ∷ gs) h = absurd (h g (here g gs))

many-of : (more : ℕ) (home : Home) (g : Graph) → levels g ≤ more → length (places_of more home g) ≡ size g
many-of zero home g deep = omega (arith, size-is g, none-inside (out-Graph g).nodes (λ n c s d. let lt = levels_inside g n s c d in omega (arith, lt, deep)))
many-of (suc more) home g deep =
    omega (
      arith,
      size-is g,
      flat-many (λ n. each_from (λ k s. places_of more (Inside g n k) s) 0 (out-Node n).subs) (out-Graph g).nodes
          (λ n c. siblings-many (λ k s. places_of more (Inside g n k) s) 0 (out-Node n).subs (λ k s d. let lt = levels_inside g n s c d in many-of more (Inside g n k) s (omega (arith, lt, deep)))),
    )

pub places-many : (u : Unit1) → IsFormed u → length (places u) ≡ sizes u.graphs
places-many u formed = siblings-many (λ k g. places_of most_levels (Function k) g) 0 u.graphs (λ k g c. many-of most_levels (Function k) g (All-contains (λ g. levels g ≤ most_levels) u.graphs g formed.nesting c))
