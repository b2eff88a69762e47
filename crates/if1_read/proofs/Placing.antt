-- The numbers of all graphs of a unit, and what is right in each of them.
use Rattle.std.proofs.Common.{◌≡◌, ℕ, zero, suc, ◌+◌, List, [], ◌∷◌, ◌++◌, take, length, refl, sym, ap, subst, ◌∙◌, arith, append_assoc}
use Rattle.std.specs.Prelude.{All, Contains}
use Rattle.std.specs.List.{flat_map}
use Rattle.std.proofs.Math.Seq.{take-append_seam}
use Rattle.std.proofs.lemmas.List.{length-append}
use Rattle.std.proofs.lemmas.List.Elements.{All-nil, All-cons, All-append, All-head, All-tail, Contains-append_right}
use Rattle.if1_graph.specs.declared.graph.Graph.{Graph}
use Rattle.if1_graph.specs.declared.graph.Graph.TheViews.{out-Graph}
use Rattle.if1_graph.specs.declared.graph.Node.{Node, out-Node}
use Rattle.if1_graph.specs.declared.graph.Unit1.{Unit1}
use Rattle.if1_graph.specs.Units.{size, sizes, size_before, label_of, most_levels, Home, Function, Inside, Place, each_from, places_of, places, IsNumbered}
use Rattle.if1_graph.specs.Formed.{IsHeader}
use Rattle.if1_read.specs.Counted.{IsCounted, AreNodesCounted, AreCounted, graph as counted_graph, node as counted_node, more as counted_more}
use Rattle.if1_read.specs.Fine.{IsFine, IsPartHeader, IsFineWithin, AreFineWithin, graph as fine_graph, part as fine_part}
use Rattle.if1_read.specs.Made.{IsFunctionFine}
use Rattle.if1_read.proofs.Numbering.{sum_push}
use Rattle.if1_read.proofs.Before.{Rise, rise, inside, size_before_is, inside_push}

-- ---- what a list that is not empty has

counted_first : (next : ℕ) (g : Graph) (gs : List Graph) → AreCounted next (g ∷ gs) →
    ((out-Graph g).number ≡ next) × IsCounted g × AreCounted (next + size g) gs
counted_first next g gs (counted_more next0 g0 gs0 at c r) = (at, c, r)

counted_node_first : (next : ℕ) (n : Node) (ns : List Node) → AreNodesCounted next (n ∷ ns) →
    AreCounted next (out-Node n).subs × AreNodesCounted (next + sizes (out-Node n).subs) ns
counted_node_first next n ns (counted_node next0 n0 ns0 c r) = (c, r)

counted_nodes : (g : Graph) → IsCounted g → AreNodesCounted (suc (out-Graph g).number) (out-Graph g).nodes
counted_nodes g (counted_graph g0 c) = c

record FirstFine (u : Unit1) (g : Graph) (gs : List Graph) : Type 0 where
  m : ℕ
  header : IsPartHeader g
  within : IsFineWithin u m g
  rest : AreFineWithin u (suc m) gs

fine_first : (u : Unit1) (m : ℕ) (g : Graph) (gs : List Graph) → AreFineWithin u m (g ∷ gs) → FirstFine u g gs
fine_first u m g gs (fine_part m0 g0 gs0 header within rest) = record { m = m0; header = header; within = within; rest = rest }

pub fine_of : (u : Unit1) (m : ℕ) (g : Graph) → IsFineWithin u m g → IsFine u g
fine_of u m g (fine_graph m0 g0 fine inner) = fine

fine_inside : (u : Unit1) (m : ℕ) (g : Graph) → IsFineWithin u m g → (n : Node) → Contains (out-Graph g).nodes n → AreFineWithin u m (out-Node n).subs
fine_inside u m g (fine_graph m0 g0 fine inner) = inner

-- ---- all places

pub record IsRight (u : Unit1) (p : Place) : Type 0 where
  pub numbered : IsNumbered u p
  pub header : IsHeader u p.graph p.home
  pub fine : IsFine u p.graph

abbrev at : Home → Graph → Place
at home g = record { graph = g; home = home }

-- all graphs inside a graph, down to so many levels
abbrev Walks : Unit1 → ℕ → Type 0
Walks u more =
    (m : ℕ) (home : Home) (g : Graph) → IsFineWithin u m g → IsCounted g → IsHeader u g home → IsNumbered u (at home g) → All (IsRight u) (places_of more home g)

abbrev first_inside : Graph → Node → ℕ
first_inside outer n = suc ((out-Graph outer).number + size_before (out-Graph outer).nodes (label_of n))

parts_right : (u : Unit1) (more : ℕ) → Walks u more → (outer : Graph) (n : Node) (m k : ℕ) (done gs : List Graph) → (out-Node n).subs ≡ done ++ gs → k ≡ length done →
    AreFineWithin u m gs → (next : ℕ) → AreCounted next gs → next ≡ first_inside outer n + sizes done →
    All (IsRight u) (each_from (λ k s. places_of more (Inside outer n k) s) k gs)
parts_right u more walk outer n m k done [] are at_k f next c e = All-nil (IsRight u)
parts_right u more walk outer n m k done (s ∷ gs) are at_k f next c e =
    let first = fine_first u m s gs f in
    let counted = counted_first next s gs c in
    let taken : take k (out-Node n).subs ≡ done = ap (λ (j : ℕ). take j (out-Node n).subs) at_k ∙ ap (λ (xs : List Graph). take (length done) xs) are ∙ take-append_seam done (s ∷ gs) in
    let numbered : (out-Graph s).number ≡ suc ((out-Graph outer).number + size_before (out-Graph outer).nodes (label_of n) + sizes (take k (out-Node n).subs)) =
    omega (arith, counted.0, e, ap sizes taken) in
    let after : (out-Node n).subs ≡ (done ++ s ∷ []) ++ gs = are ∙ sym (append_assoc done (s ∷ []) gs) in
    let at_next : suc k ≡ length (done ++ s ∷ []) = omega (arith, at_k, length-append done (s ∷ [])) in
    let sum : next + size s ≡ first_inside outer n + sizes (done ++ s ∷ []) = omega (arith, e, sum_push size done s) in
    All-append (IsRight u) (places_of more (Inside outer n k) s) (each_from (λ k s. places_of more (Inside outer n k) s) (suc k) gs)
    (walk first.m (Inside outer n k) s first.within counted.1 (first.header.fun, first.header.inner, first.header.name) numbered)
    (parts_right u more walk outer n (suc first.m) (suc k) (done ++ s ∷ []) gs after at_next first.rest (next + size s) counted.2 sum)

nodes_right : (u : Unit1) (more : ℕ) → Walks u more → (g : Graph) (m : ℕ) → ((n : Node) → Contains (out-Graph g).nodes n → AreFineWithin u m (out-Node n).subs) →
    Rise (out-Graph g).nodes → (front ns : List Node) → (out-Graph g).nodes ≡ front ++ ns → (next : ℕ) → AreNodesCounted next ns →
    next ≡ suc (out-Graph g).number + sizes (inside front) →
    All (IsRight u) (flat_map (λ n. each_from (λ k s. places_of more (Inside g n k) s) 0 (out-Node n).subs) ns)
nodes_right u more walk g m fine up front [] are next c e = All-nil (IsRight u)
nodes_right u more walk g m fine up front (n ∷ ns) are next c e =
    let counted = counted_node_first next n ns c in
    let there : Contains (out-Graph g).nodes n = subst (λ (xs : List Node). Contains xs n) (sym are) (Contains-append_right front (n ∷ ns) n (0, omega arith, refl)) in
    let lower : size_before (out-Graph g).nodes (label_of n) ≡ sizes (inside front) =
    ap (λ (xs : List Node). size_before xs (label_of n)) are ∙ size_before_is front n ns (subst Rise are up) in
    let begin : next ≡ first_inside g n + sizes [] = omega (arith, e, lower) in
    let after : (out-Graph g).nodes ≡ (front ++ n ∷ []) ++ ns = are ∙ sym (append_assoc front (n ∷ []) ns) in
    let sum : next + sizes (out-Node n).subs ≡ suc (out-Graph g).number + sizes (inside (front ++ n ∷ [])) = omega (arith, e, inside_push front n) in
    All-append (IsRight u) (each_from (λ k s. places_of more (Inside g n k) s) 0 (out-Node n).subs)
    (flat_map (λ n. each_from (λ k s. places_of more (Inside g n k) s) 0 (out-Node n).subs) ns)
    (parts_right u more walk g n m 0 [] (out-Node n).subs refl refl (fine n there) next counted.0 begin)
    (nodes_right u more walk g m fine up (front ++ n ∷ []) ns after (next + sizes (out-Node n).subs) counted.1 sum)

pub graph_right : (u : Unit1) (more : ℕ) → Walks u more
graph_right u zero m home g w c h e =
    All-cons (IsRight u) (at home g) [] (record { numbered = e; header = h; fine = fine_of u m g w }) (All-nil (IsRight u))
graph_right u (suc more) m home g w c h e =
    let fine = fine_of u m g w in
    All-cons (IsRight u) (at home g) (flat_map (λ n. each_from (λ k s. places_of more (Inside g n k) s) 0 (out-Node n).subs) (out-Graph g).nodes)
    (record { numbered = e; header = h; fine = fine })
    (nodes_right u more (λ m home g w c h e. graph_right u more m home g w c h e) g m (fine_inside u m g w) (rise (out-Graph g).nodes fine.rising)
    [] (out-Graph g).nodes refl (suc (out-Graph g).number) (counted_nodes g c) (omega arith))

functions_right : (u : Unit1) (more m k : ℕ) (done gs : List Graph) → u.graphs ≡ done ++ gs → k ≡ length done → (next : ℕ) → AreCounted next gs →
    next ≡ suc (sizes done) → All (IsFunctionFine u m) gs → All (IsRight u) (each_from (λ k g. places_of more (Function k) g) k gs)
functions_right u more m k done [] are at_k next c e f = All-nil (IsRight u)
functions_right u more m k done (g ∷ gs) are at_k next c e f =
    let first = All-head (IsFunctionFine u m) g gs f in
    let counted = counted_first next g gs c in
    let taken : take k u.graphs ≡ done = ap (λ (j : ℕ). take j u.graphs) at_k ∙ ap (λ (xs : List Graph). take (length done) xs) are ∙ take-append_seam done (g ∷ gs) in
    let numbered : (out-Graph g).number ≡ suc (sizes (take k u.graphs)) = omega (arith, counted.0, e, ap sizes taken) in
    let after : u.graphs ≡ (done ++ g ∷ []) ++ gs = are ∙ sym (append_assoc done (g ∷ []) gs) in
    let at_next : suc k ≡ length (done ++ g ∷ []) = omega (arith, at_k, length-append done (g ∷ [])) in
    let sum : next + size g ≡ suc (sizes (done ++ g ∷ [])) = omega (arith, e, sum_push size done g) in
    All-append (IsRight u) (places_of more (Function k) g) (each_from (λ k g. places_of more (Function k) g) (suc k) gs)
    (graph_right u more m (Function k) g first.within counted.1 (first.fun, first.name) numbered)
    (functions_right u more m (suc k) (done ++ g ∷ []) gs after at_next (next + size g) counted.2 sum (All-tail (IsFunctionFine u m) g gs f))

pub all_right : (u : Unit1) (m : ℕ) → AreCounted 1 u.graphs → All (IsFunctionFine u m) u.graphs → All (IsRight u) (places u)
all_right u m c f = functions_right u most_levels m 0 [] u.graphs refl refl 1 c refl f
