-- The graphs of a unit in normal order bear the numbers from 1 on.
use Rattle.std.proofs.Common.{◌≡◌, ℕ, zero, suc, ◌+◌, ◌<◌, ◌≤◌, Bool, true, false, List, [], ◌∷◌, ◌++◌, map, take, sum, length, slice_get, Some, Contains, AllPairs, arith, refl, sym, ap, subst, ◌∙◌, cond, nat_lt}
use Rattle.std.specs.List.{flat_map, filter}
use Rattle.std.specs.List.Sorted.{IsStrictlyIncreasing}
use Rattle.std.proofs.lemmas.List.Elements.{Contains-append_left, Contains-append_right, All-contains}
use Rattle.std.proofs.lemmas.List.Kept.{AllPairs-from_increasing}
use Rattle.std.proofs.lemmas.List.Sums.{sum_by_from}
use Rattle.if1_graph.specs.declared.graph.Graph.{Graph}
use Rattle.if1_graph.specs.declared.graph.Graph.TheViews.{out-Graph}
use Rattle.if1_graph.specs.declared.graph.Graph.TheFolds.{fold-Node, fold_out-Graph, fold_out-Node}
use Rattle.if1_graph.specs.declared.graph.Node.{Node, out-Node}
use Rattle.if1_graph.specs.declared.graph.Unit1.{Unit1}
use Rattle.if1_graph.specs.Formed.{IsGraph, IsFormed}
use Rattle.if1_graph.specs.Normal.{IsNormal, IsNormalGraph}
use Rattle.if1_graph.specs.Ports.{count_from}
use Rattle.if1_graph.specs.Units.{size, sizes, label_of, size_before, greatest, level_below, levels, IsNumbered, Home, Function, Inside, Place, number_of, each_from, places_of, places, most_levels}
use Rattle.if1_order.proofs.Within.{node_levels, levels_out, levels_inside}
use Rattle.graph_meaning.proofs.Lists.{here, there, in-none, in-mapped}
use Rattle.unit_orders.specs.Laws.{AreGraphsNumbered}

-- ---- numbers that follow one another

-- these places bear the numbers from the first on and below the second
abbrev Runs : (low high : ℕ) → List Place → Type 0
Runs low high [] = low ≡ high
Runs low high (p ∷ ps) = (number_of p ≡ low) × Runs (suc low) high ps

runs-on : (a b c : ℕ) (xs ys : List Place) → Runs a b xs → Runs b c ys → Runs a c (xs ++ ys)
runs-on a b c [] ys r h = subst (λ z. Runs z c ys) (sym r) h
runs-on a b c (x ∷ xs) ys r h = (r.0, runs-on (suc a) b c xs ys r.1 h)

runs-from : (a b low high : ℕ) (ps : List Place) → a ≡ b → low ≡ high → Runs a low ps → Runs b high ps
runs-from a b low high ps e k r = subst (λ z. Runs z high ps) e (subst (λ z. Runs a z ps) k r)

are-counted : (low high : ℕ) (ps : List Place) → Runs low high ps → map number_of ps ≡ count_from low (length ps)
are-counted low high [] r = refl
are-counted low high (p ∷ ps) r = ap (λ n. n ∷ map number_of ps) r.0 ∙ ap (λ ns. low ∷ ns) (are-counted (suc low) high ps r.1)

number-there : (low high : ℕ) (ps : List Place) → Runs low high ps → (p : Place) (c : Contains ps p) → number_of p ≡ low + c.0
number-there low high [] r p c = in-none p c
number-there low high (q ∷ ps) r p (zero, h, e) = omega (arith, ap number_of e, r.0)
number-there low high (q ∷ ps) r p (suc k, h, e) = let x = number-there (suc low) high ps r.1 p (k, omega (arith, h), e) in omega (arith, x)

-- ---- sizes

sum-first : (x : ℕ) (xs : List ℕ) → sum (x ∷ xs) ≡ x + sum xs
sum-first x xs = omega (arith, sum_by_from (λ y. y) (0 + x) xs)

sizes-first : (g : Graph) (gs : List Graph) → sizes (g ∷ gs) ≡ size g + sizes gs
sizes-first g gs = sum-first (size g) (map size gs)

sizes-append : (gs hs : List Graph) → sizes (gs ++ hs) ≡ sizes gs + sizes hs
sizes-append [] hs = omega arith
sizes-append (g ∷ gs) hs = omega (arith, sizes-first g (gs ++ hs), sizes-first g gs, sizes-append gs hs)

abbrev inside : Node → ℕ
inside n = sizes (out-Node n).subs

abbrev total : List Node → ℕ
total [] = 0
total (n ∷ ns) = inside n + total ns

abbrev counted : Bool → ℕ → ℕ
counted true c = c
counted false c = 0

abbrev lower : List Node → ℕ → ℕ
lower [] l = 0
lower (n ∷ ns) l = counted (nat_lt (label_of n) l) (inside n) + lower ns l

lower-is : (ns : List Node) (l : ℕ) → size_before ns l ≡ lower ns l
lower-is [] l = refl
lower-is (n ∷ ns) l = go (nat_lt (label_of n) l) (lower-is ns l)
  where
    go : (b : Bool) → size_before ns l ≡ lower ns l → sizes (flat_map (λ n. (out-Node n).subs) (cond b (n ∷ filter (λ n. nat_lt (label_of n) l) ns) (filter (λ n. nat_lt (label_of n) l) ns))) ≡ counted b (inside n) + lower ns l
    go true e = omega (arith, sizes-append (out-Node n).subs (flat_map (λ n. (out-Node n).subs) (filter (λ n. nat_lt (label_of n) l) ns)), e)
    go false e = omega (arith, e)

size-is : (g : Graph) → size g ≡ suc (total (out-Graph g).nodes)
size-is g = fold_out-Graph ℕ ℕ (λ g. suc (sum g.nodes)) (λ n. sum n.subs) g ∙ ap suc (go (out-Graph g).nodes)
  where
    go : (ns : List Node) → sum (map (fold-Node ℕ ℕ (λ g. suc (sum g.nodes)) (λ n. sum n.subs)) ns) ≡ total ns
    go [] = refl
    go (n ∷ ns) =
        omega (
          arith,
          sum-first (fold-Node ℕ ℕ (λ g. suc (sum g.nodes)) (λ n. sum n.subs) n) (map (fold-Node ℕ ℕ (λ g. suc (sum g.nodes)) (λ n. sum n.subs)) ns),
          fold_out-Node ℕ ℕ (λ g. suc (sum g.nodes)) (λ n. sum n.subs) n,
          go ns,
        )

none-inside : (ss : List Graph) → level_below (map levels ss) ≤ 0 → sizes ss ≡ 0
none-inside [] h = refl
none-inside (s ∷ ss) h = absurd (omega (arith, h))

-- where no node has graphs, none are counted
no-total : (ns : List Node) → greatest (map node_levels ns) ≤ 0 → total ns ≡ 0
no-total [] h = refl
no-total (n ∷ ns) h =
    let own : node_levels n ≤ 0 = omega (arith, h) in
    let rest : greatest (map node_levels ns) ≤ 0 = omega (arith, h) in
    let none = none-inside (out-Node n).subs (omega (arith, own, fold_out-Node ℕ ℕ (λ g. greatest g.nodes) (λ n. level_below n.subs) n)) in
    omega (arith, none, no-total ns rest)

-- ---- nodes by rising label

abbrev IsUp : List Node → Type 0
IsUp [] = Unit {0}
IsUp (n ∷ ns) = ((m : Node) → Contains ns m → label_of n < label_of m) × IsUp ns

up-pairs : (ns : List Node) → AllPairs (λ x y. x < y) (map label_of ns) → IsUp ns
up-pairs [] h = tt
up-pairs (n ∷ ns) h = (
  (λ m c. first m (in-mapped label_of ns m c)),
  up-pairs ns (λ i j d lt b. h (suc i) (suc j) d (omega (arith, lt)) (omega (arith, b))),
)
  where
    first : (m : Node) → Contains (map label_of ns) (label_of m) → label_of n < label_of m
    first m (k, b, e) = let x = h 0 (suc k) (label_of m) (omega arith) (omega (arith, b)) in omega (arith, x, e)

is-up : (ns : List Node) → IsStrictlyIncreasing (map label_of ns) → IsUp ns
is-up ns h = up-pairs ns (AllPairs-from_increasing (map label_of ns) h)

counted-not : (m l c : ℕ) → l ≤ m → counted (nat_lt m l) c ≡ 0
counted-not m l c le = grind (arith, le)

counted-lower : (m l c : ℕ) → m < l → counted (nat_lt m l) c ≡ c
counted-lower m l c lt = grind (arith, lt)

none-lower : (ns : List Node) (l : ℕ) → ((m : Node) → Contains ns m → l ≤ label_of m) → lower ns l ≡ 0
none-lower [] l h = refl
none-lower (n ∷ ns) l h =
    let x = counted-not (label_of n) l (inside n) (h n (here n ns)) in
    omega (arith, x, none-lower ns l (λ m c. h m (there n ns m c)))

-- ---- places

module _ (u : Unit1) where
  -- each place has its number, and nodes by rising label
  abbrev IsRight : Place → Type 0
  IsRight p = IsNumbered u p × IsStrictlyIncreasing (map label_of (out-Graph p.graph).nodes)

  first-right : (more : ℕ) (home : Home) (g : Graph) → ((p : Place) → Contains (places_of more home g) p → IsRight p) → IsRight (record { graph = g; home = home })
  first-right zero home g h = h _ (here _ [])
  first-right (suc more) home g h = h _ (here _ _)

  abbrev RunsAt : ℕ → Type 0
  RunsAt more = (home : Home) (g : Graph) → levels g ≤ more → ((p : Place) → Contains (places_of more home g) p → IsRight p)
      → Runs (out-Graph g).number ((out-Graph g).number + size g) (places_of more home g)

  -- siblings from a number on
  module _ (more : ℕ) (runs : RunsAt more) (home : ℕ → Home) where
    abbrev f : ℕ → Graph → List Place
    f k s = places_of more (home k) s

    siblings : (i start : ℕ) (gs : List Graph) → ((s : Graph) → Contains gs s → levels s ≤ more) → ((p : Place) → Contains (each_from f i gs) p → IsRight p)
        → ((k : ℕ) (s : Graph) → slice_get gs k ≡ Some s → IsNumbered u (record { graph = s; home = home (i + k) }) → (out-Graph s).number ≡ start + sizes (take k gs))
        → Runs start (start + sizes gs) (each_from f i gs)
    siblings i start [] deep right numbered = omega arith
    siblings i start (g ∷ gs) deep right numbered =
        let at : (p : Place) → Contains (f i g) p → IsRight p = λ p c. right p (Contains-append_left (f i g) (each_from f (suc i) gs) p c) in
        let zeroth : i ≡ i + 0 = omega arith in
        let first = numbered 0 g refl (subst (λ j. IsNumbered u (record { graph = g; home = home j })) zeroth (first-right more (home i) g at).0) in
        let own = runs (home i) g (deep g (here g gs)) at in
        let rest = siblings (suc i) (start + size g) gs (λ s c. deep s (there g gs s c)) (λ p c. right p (Contains-append_right (f i g) (each_from f (suc i) gs) p c)) (later first) in
        runs-on start (start + size g) (start + sizes (g ∷ gs)) (f i g) (each_from f (suc i) gs)
        (runs-from (out-Graph g).number start ((out-Graph g).number + size g) (start + size g) (f i g) (omega (arith, first)) (omega (arith, first)) own)
        (runs-from (start + size g) (start + size g) ((start + size g) + sizes gs) (start + sizes (g ∷ gs)) (each_from f (suc i) gs) refl (omega (arith, sizes-first g gs)) rest)
      where
        later : (out-Graph g).number ≡ start + sizes (take 0 (g ∷ gs)) → (k : ℕ) (s : Graph) → slice_get gs k ≡ Some s → IsNumbered u (record { graph = s; home = home (suc i + k) }) → (out-Graph s).number ≡ (start + size g) + sizes (take k gs)
        later first k s e is =
            let same : suc i + k ≡ i + suc k = omega arith in
            let x = numbered (suc k) s e (subst (λ j. IsNumbered u (record { graph = s; home = home j })) same is) in
            omega (arith, x, sizes-first g (take k gs))

  -- the graphs inside the nodes of a graph
  module _ (more : ℕ) (runs : RunsAt more) (g : Graph) where
    abbrev nodes : List Node
    nodes = (out-Graph g).nodes

    abbrev low : ℕ
    low = suc (out-Graph g).number

    abbrev parts : Node → List Place
    parts n = each_from (λ k s. places_of more (Inside g n k) s) 0 (out-Node n).subs

    behind : (before : ℕ) (ns : List Node) → IsUp ns → ((n : Node) → Contains ns n → lower nodes (label_of n) ≡ before + lower ns (label_of n))
        → ((n : Node) (s : Graph) → Contains ns n → Contains (out-Node n).subs s → levels s ≤ more) → ((p : Place) → Contains (flat_map parts ns) p → IsRight p)
        → Runs (low + before) (low + (before + total ns)) (flat_map parts ns)
    behind before [] up below deep right = omega arith
    behind before (n ∷ ns) up below deep right =
        let own = siblings more runs (Inside g n) 0 (low + before) (out-Node n).subs (λ s c. deep n s (here n ns) c) (λ p c. right p (Contains-append_left (parts n) (flat_map parts ns) p c)) numbered in
        let rest = behind (before + inside n) ns up.1 next (λ m s h c. deep m s (there n ns m h) c) (λ p c. right p (Contains-append_right (parts n) (flat_map parts ns) p c)) in
        runs-on (low + before) ((low + before) + inside n) (low + (before + total (n ∷ ns))) (parts n) (flat_map parts ns) own
        (runs-from (low + (before + inside n)) ((low + before) + inside n) (low + ((before + inside n) + total ns)) (low + (before + total (n ∷ ns))) (flat_map parts ns) (omega arith) (omega arith) rest)
      where
        first : lower nodes (label_of n) ≡ before
        first =
            let a = counted-not (label_of n) (label_of n) (inside n) (omega arith) in
            let b = none-lower ns (label_of n) (λ m c. let lt = up.0 m c in omega (arith, lt)) in
            omega (arith, below n (here n ns), a, b)

        numbered : (k : ℕ) (s : Graph) → slice_get (out-Node n).subs k ≡ Some s → IsNumbered u (record { graph = s; home = Inside g n (0 + k) }) → (out-Graph s).number ≡ (low + before) + sizes (take k (out-Node n).subs)
        numbered k s e is =
            let same : 0 + k ≡ k = omega arith in
            let at : IsNumbered u (record { graph = s; home = Inside g n k }) = subst (λ j. IsNumbered u (record { graph = s; home = Inside g n j })) same is in
            omega (arith, at, lower-is nodes (label_of n), first)

        next : (m : Node) → Contains ns m → lower nodes (label_of m) ≡ (before + inside n) + lower ns (label_of m)
        next m c =
            let x = counted-lower (label_of n) (label_of m) (inside n) (up.0 m c) in
            omega (arith, below m (there n ns m c), x)

    within : (home : Home) → levels g ≤ suc more → ((p : Place) → Contains (places_of (suc more) home g) p → IsRight p) → Runs (out-Graph g).number ((out-Graph g).number + size g) (places_of (suc more) home g)
    within home deep right = (
      refl,
      runs-from (low + 0) low (low + (0 + total nodes)) ((out-Graph g).number + size g) (flat_map parts nodes) (omega arith) (omega (arith, size-is g))
          (behind 0 nodes (is-up nodes (first-right (suc more) home g right).1) (λ n c. omega arith)
          (λ n s h c. let lt = levels_inside g n s h c in omega (arith, lt, deep))
          (λ p c. right p (there (record { graph = g; home = home }) (flat_map parts nodes) p c))),
    )

  all-run : (more : ℕ) → RunsAt more
  all-run zero home g deep right =
      let none = no-total (out-Graph g).nodes (omega (arith, levels_out g, deep)) in (
        refl,
        omega (arith, size-is g, none),
      )
  all-run (suc more) home g deep right = within more (all-run more) g home deep right

  module _ (formed : IsFormed u) (normal : IsNormal u) where
    place-right : (p : Place) → Contains (places u) p → IsRight p
    place-right p c = ((All-contains (IsGraph u) (places u) p formed.graphs c).number, (All-contains (IsNormalGraph u) (places u) p normal c).nodes)

    unit-runs : Runs 1 (1 + sizes u.graphs) (places u)
    unit-runs =
        siblings most_levels (all-run most_levels) Function 0 1 u.graphs (λ s c. All-contains (λ g. levels g ≤ most_levels) u.graphs s formed.nesting c) place-right numbered
      where
        numbered : (k : ℕ) (s : Graph) → slice_get u.graphs k ≡ Some s → IsNumbered u (record { graph = s; home = Function (0 + k) }) → (out-Graph s).number ≡ 1 + sizes (take k u.graphs)
        numbered k s e is =
            let same : 0 + k ≡ k = omega arith in
            let at : IsNumbered u (record { graph = s; home = Function k }) = subst (λ j. IsNumbered u (record { graph = s; home = Function j })) same is in
            omega (arith, at)

    -- the number of a place is one more than how many stand before it
    pub number-at : (p : Place) (c : Contains (places u) p) → number_of p ≡ suc c.0
    number-at p c = let x = number-there 1 (1 + sizes u.graphs) (places u) unit-runs p c in omega (arith, x)

pub graphs-numbered : AreGraphsNumbered
graphs-numbered u formed normal = are-counted 1 (1 + sizes u.graphs) (places u) (unit-runs u formed normal)
