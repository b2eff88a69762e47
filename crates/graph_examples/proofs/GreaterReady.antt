-- The example is ready and normal.
use Rattle.std.proofs.Common.{◌≡◌, ◌≢◌, ◌<◌, ℕ, zero, suc, List, [], ◌∷◌, map, refl, sym, subst, inl, inr, arith}
use Rattle.std.specs.Prelude.{All, AllPairs}
use Rattle.std.specs.List.Sorted.{IsStrictlyIncreasing}
use Rattle.std.specs.List.{AllByRecursion as ByRecursion}
use Rattle.std.proofs.lemmas.List.Elements.{All-from_recursion, All-contains}
use Rattle.std.proofs.lemmas.List.Kept.{AllPairs-cons}
use Rattle.if1_graph.specs.declared.graph.Graph.{Graph}
use Rattle.if1_graph.specs.declared.graph.Graph.TheViews.{out-Graph}
use Rattle.if1_graph.specs.declared.graph.Node.{Node, out-Node}
use Rattle.if1_graph.specs.declared.graph.Edge.{Edge}
use Rattle.if1_graph.specs.Units.{label_of, Home, Function, ends}
use Rattle.if1_graph.specs.Cycles.{IsFrom, Feeds, Reaches, edge as by_edge, path}
use Rattle.if1_graph.specs.Ready.{IsOrdered, IsAcyclic, IsReady}
use Rattle.if1_graph.specs.Normal.{Precedes, canonical_edge, IsNormalGraph, IsNormal}
use Rattle.graph_examples.specs.Greater.{simple, edge, which, otherwise, equal, main, greater}
use Rattle.graph_examples.proofs.GreaterOuts.{outs, out-graph, out-node, place}
use Rattle.graph_examples.proofs.GreaterFormed.{nodes-all, edges-all, at-places, formed}
use Rattle.graph_examples.proofs.GreaterPorts.{ports-hold, which-home, otherwise-home, equal-home}
use Rattle.graph_examples.proofs.GreaterTypes.{types-hold}

-- ---- each edge between nodes leads from a greater label to a smaller one

abbrev Falls : Edge → Type 0
Falls e = (l : ℕ) → IsFrom l e.from → e.node ≢ 0 → e.node < l

feeds-fall : (g : Graph) → All Falls (out-Graph g).edges → {l m : ℕ} → Feeds g l m → m < l
feeds-fall g h {l = l} {m = m} f =
    let lt = All-contains Falls (out-Graph g).edges f.edge h f.there l f.source (λ e. f.no_boundary (subst (λ n. n ≡ 0) f.target e)) in
    subst (λ n. n < l) f.target lt

reaches-fall : (g : Graph) → All Falls (out-Graph g).edges → {l m : ℕ} → Reaches g l m → m < l
reaches-fall g h (by_edge f) = feeds-fall g h f
reaches-fall g h (path f r) = let a = feeds-fall g h f in let b = reaches-fall g h r in omega (arith, a, b)

ordered : (g : Graph) (home : Home) → All Falls (out-Graph g).edges → All (IsOrdered (place g home)) (ends g)
ordered g home h = λ k d lt r. let a = reaches-fall g h r in absurd (omega (arith, a))

from-boundary : (p n q t : ℕ) → Falls (edge 0 p n q t)
from-boundary p n q t l f ne = absurd f

to-boundary : (a p q t : ℕ) → Falls (edge a p 0 q t)
to-boundary a p q t l f ne = absurd (ne refl)

from-two-to-one : (p q t : ℕ) → Falls (edge 2 p 1 q t)
from-two-to-one p q t l f ne = omega (arith, f)

main-falls : All Falls (out-Graph main).edges
main-falls = edges-all Falls _ _ _ _ _ _ (from-boundary 1 2 1 1, (from-boundary 2 2 2 1, (to-boundary 2 1 1 1, tt)))

which-falls : All Falls (out-Graph which).edges
which-falls = edges-all Falls _ _ _ _ _ _ (from-two-to-one 1 1 2, (from-boundary 1 2 1 1, (from-boundary 2 2 2 1, (to-boundary 1 1 1 1, tt))))

otherwise-falls : All Falls (out-Graph otherwise).edges
otherwise-falls = edges-all Falls _ _ _ _ _ _ (from-boundary 1 1 1 1, (from-boundary 2 1 2 1, (to-boundary 1 1 1 1, tt)))

equal-falls : All Falls (out-Graph equal).edges
equal-falls = edges-all Falls _ _ _ _ _ _ (from-boundary 1 1 1 1, (from-boundary 2 1 2 1, (to-boundary 1 1 1 1, tt)))

acyclic : IsAcyclic greater
acyclic =
    at-places (λ p. All (IsOrdered p) (ends p.graph))
    (ordered main (Function 0) main-falls, (ordered which which-home which-falls, (ordered otherwise otherwise-home otherwise-falls, (ordered equal equal-home equal-falls, tt))))

pub ready : IsReady greater
ready = record { formed = formed; ports = ports-hold; types = types-hold; acyclic = acyclic }

-- ---- the canonical order

rising-one : (n : ℕ) → IsStrictlyIncreasing (n ∷ [])
rising-one n k lt = absurd (omega (arith, lt))

rising-two : IsStrictlyIncreasing (1 ∷ 2 ∷ [])
rising-two zero lt = omega arith
rising-two (suc k) lt = absurd (omega (arith, lt))

rising-none : IsStrictlyIncreasing []
rising-none k lt = absurd (omega (arith, lt))

abbrev HasRisingList : Node → Type 0
HasRisingList n = IsStrictlyIncreasing (out-Node n).before

simple-list : (l op : ℕ) → HasRisingList (simple l op)
simple-list l op = rw out-node rising-none

-- each edge precedes all later ones
abbrev Pairs : List Edge → Type 0
Pairs [] = Unit {0}
Pairs (e ∷ es) = ByRecursion (Precedes e) es × Pairs es

pairs-all : (es : List Edge) → Pairs es → AllPairs Precedes es
pairs-all [] h = λ i j d lt jt. absurd (omega (arith, jt))
pairs-all (e ∷ es) h = AllPairs-cons Precedes e es (All-from_recursion (Precedes e) es h.0) (pairs-all es h.1)

alternative-edges : AllPairs Precedes (edge 0 1 1 1 1 ∷ edge 0 2 1 2 1 ∷ edge 1 1 0 1 1 ∷ [])
alternative-edges =
    pairs-all (edge 0 1 1 1 1 ∷ edge 0 2 1 2 1 ∷ edge 1 1 0 1 1 ∷ [])
    ((inl (refl, omega arith), (inr (omega arith, inr refl), tt)), ((inr (omega arith, inr refl), tt), (tt, tt)))

main-edges : AllPairs Precedes (edge 0 1 2 1 1 ∷ edge 0 2 2 2 1 ∷ edge 2 1 0 1 1 ∷ [])
main-edges =
    pairs-all (edge 0 1 2 1 1 ∷ edge 0 2 2 2 1 ∷ edge 2 1 0 1 1 ∷ [])
    ((inl (refl, omega arith), (inr (omega arith, inr refl), tt)), ((inr (omega arith, inr refl), tt), (tt, tt)))

which-edges : AllPairs Precedes (edge 2 1 1 1 2 ∷ edge 0 1 2 1 1 ∷ edge 0 2 2 2 1 ∷ edge 1 1 0 1 1 ∷ [])
which-edges =
    pairs-all (edge 2 1 1 1 2 ∷ edge 0 1 2 1 1 ∷ edge 0 2 2 2 1 ∷ edge 1 1 0 1 1 ∷ []) (
      (inr (omega arith, inl (omega arith)), (inr (omega arith, inl (omega arith)), (inr (omega arith, inr refl), tt))),
      (
        (inl (refl, omega arith), (inr (omega arith, inr refl), tt)),
        (
          (inr (omega arith, inr refl), tt),
          (tt, tt),
        ),
      ),
    )

labels-rise : (g : Graph) (ls : List ℕ) → map label_of (out-Graph g).nodes ≡ ls → IsStrictlyIncreasing ls → IsStrictlyIncreasing (map label_of (out-Graph g).nodes)
labels-rise g ls e h = subst IsStrictlyIncreasing (sym e) h

abbrev IsSpelled : Graph → Edge → Type 0
IsSpelled g e = canonical_edge greater g e ≡ e

main-normal : IsNormalGraph greater (place main (Function 0))
main-normal =
    record {
      nodes = labels-rise main (2 ∷ []) (simp outs) (rising-one 2);
      lists = nodes-all HasRisingList _ _ _ _ _ _ (rw out-node rising-none, tt);
      edges = rw out-graph main-edges;
      literals = edges-all (IsSpelled main) _ _ _ _ _ _ (refl, (refl, (refl, tt)));
    }

which-normal : IsNormalGraph greater (place which which-home)
which-normal =
    record {
      nodes = labels-rise which (1 ∷ 2 ∷ []) (simp outs) rising-two;
      lists = nodes-all HasRisingList _ _ _ _ _ _ (simple-list 1 129, (simple-list 2 124, tt));
      edges = rw out-graph which-edges;
      literals = edges-all (IsSpelled which) _ _ _ _ _ _ (refl, (refl, (refl, (refl, tt))));
    }

otherwise-normal : IsNormalGraph greater (place otherwise otherwise-home)
otherwise-normal =
    record {
      nodes = labels-rise otherwise (1 ∷ []) (simp outs) (rising-one 1);
      lists = nodes-all HasRisingList _ _ _ _ _ _ (simple-list 1 133, tt);
      edges = rw out-graph alternative-edges;
      literals = edges-all (IsSpelled otherwise) _ _ _ _ _ _ (refl, (refl, (refl, tt)));
    }

equal-normal : IsNormalGraph greater (place equal equal-home)
equal-normal =
    record {
      nodes = labels-rise equal (1 ∷ []) (simp outs) (rising-one 1);
      lists = nodes-all HasRisingList _ _ _ _ _ _ (simple-list 1 141, tt);
      edges = rw out-graph alternative-edges;
      literals = edges-all (IsSpelled equal) _ _ _ _ _ _ (refl, (refl, (refl, tt)));
    }

pub normal : IsNormal greater
normal = at-places (IsNormalGraph greater) (main-normal, (which-normal, (otherwise-normal, (equal-normal, tt))))
