-- The flags of graphs one after another, and of those inside others.
use Rattle.std.proofs.Common.{◌≡◌, ◌∙◌, ℕ, zero, suc, ◌+◌, ◌<◌, ◌≤◌, Bool, List, [], ◌∷◌, ◌++◌, map, take, length, get_or, All, Contains, refl, sym, ap, arith, append-nil, append_assoc}
use Rattle.std.specs.List.{flat_map}
use Rattle.std.proofs.lemmas.List.{take_more}
use Rattle.std.proofs.lemmas.List.Elements.{Contains-get_or}
use Rattle.if1_graph.specs.declared.graph.Graph.{Graph}
use Rattle.if1_graph.specs.declared.graph.Graph.TheViews.{out-Graph}
use Rattle.if1_graph.specs.declared.graph.Node.{Node, out-Node}
use Rattle.if1_graph.specs.Units.{levels, level_below, Home, Inside, Place, each_from, places_of}
use Rattle.if1_order.proofs.Within.{levels_out, parts_below, below}
use Rattle.may_take.specs.Looked.{node_places, inner_places, node_levels}

-- ---- graphs one after another

each-append : (f : ℕ → Graph → List Place) (i : ℕ) (gs : List Graph) (g : Graph) → each_from f i (gs ++ g ∷ []) ≡ each_from f i gs ++ f (i + length gs) g
each-append f i [] g =
    append-nil (f i g) ∙ ap (λ k. f k g) (let e : i ≡ i + 0 = omega arith in e)
each-append f i (h ∷ gs) g =
    ap (λ ps. f i h ++ ps) (each-append f (suc i) gs g)
    ∙ sym (append_assoc (f i h) (each_from f (suc i) gs) (f (suc i + length gs) g))
    ∙ ap (λ k. (f i h ++ each_from f (suc i) gs) ++ f k g) (let e : suc i + length gs ≡ i + suc (length gs) = omega arith in e)

length-take : {A : Type 0} (k : ℕ) (xs : List A) → k ≤ length xs → length (take k xs) ≡ k
length-take zero xs h = refl
length-take (suc k) [] h = absurd (omega (arith, h))
length-take (suc k) (x ∷ xs) h = ap suc (length-take k xs (omega (arith, h)))

pub each-more : (f : ℕ → Graph → List Place) (k : ℕ) (gs : List Graph) (d : Graph) → k < length gs → each_from f 0 (take (k + 1) gs) ≡ each_from f 0 (take k gs) ++ f k (get_or gs k d)
each-more f k gs d h =
    ap (each_from f 0) (take_more gs k d h)
    ∙ each-append f 0 (take k gs) (get_or gs k d)
    ∙ ap (λ i. each_from f 0 (take k gs) ++ f i (get_or gs k d)) (let e : 0 + length (take k gs) ≡ k = omega (arith, length-take k gs (omega (arith, h))) in e)

-- ---- a graph, and those inside it

pub places-are : (more : ℕ) (home : Home) (g : Graph) → places_of more home g ≡ record { graph = g; home = home } ∷ inner_places more g
places-are zero home g = refl
places-are (suc more) home g = refl

pub node-below : (g : Graph) (more : ℕ) → levels g ≤ suc more → All (λ n. node_levels n ≤ suc more) (out-Graph g).nodes
node-below g more h = λ k d lt.
    let n : Node = get_or (out-Graph g).nodes k d in
    omega (arith, h, levels_out g, parts_below (out-Graph g).nodes n (Contains-get_or (out-Graph g).nodes k d lt))

pub part-below : (n : Node) (more : ℕ) → node_levels n ≤ suc more → (s : Graph) → Contains (out-Node n).subs s → levels s ≤ more
part-below n more h s c = omega (arith, h, below (out-Node n).subs s c)

none-inside : (gs : List Graph) → level_below (map levels gs) ≤ 0 → (f : ℕ → Graph → List Place) → each_from f 0 gs ≡ []
none-inside [] h f = refl
none-inside (g ∷ gs) h f = absurd (omega (arith, h))

flat-none : (f : Node → List Place) (ns : List Node) → ((n : Node) → Contains ns n → f n ≡ []) → flat_map f ns ≡ []
flat-none f [] none = refl
flat-none f (n ∷ ns) none =
    ap (λ ps. ps ++ flat_map f ns) (none n (0, omega arith, refl))
    ∙ flat-none f ns (λ m c. none m (suc c.0, omega (arith, c.1), c.2))

pub none-deeper : (g : Graph) → levels g ≤ 0 → flat_map (node_places 0 g) (out-Graph g).nodes ≡ []
none-deeper g h =
    flat-none (node_places 0 g) (out-Graph g).nodes
    (λ n c. none-inside (out-Node n).subs (omega (arith, h, levels_out g, parts_below (out-Graph g).nodes n c)) (λ k s. places_of 0 (Inside g n k) s))

-- those inside a graph, by those of its nodes
pub inside-is : (F : Place → List Bool) (g : Graph) (flags : List (List Bool)) →
    ((more : ℕ) → All (λ n. node_levels n ≤ suc more) (out-Graph g).nodes → flags ≡ map F (flat_map (node_places more g) (out-Graph g).nodes)) →
    (more : ℕ) → levels g ≤ more → flags ≡ map F (inner_places more g)
inside-is F g flags known zero h = known 0 (node-below g 0 (omega (arith, h))) ∙ ap (map F) (none-deeper g h)
inside-is F g flags known (suc more) h = known more (node-below g more h)
