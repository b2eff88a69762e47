-- The nodes of the change are in order, and its marks are sound.
use Rattle.std.proofs.Common.{◌≡◌, ◌≢◌, ◌<◌, ◌∙◌, ℕ, zero, suc, true, false, not, [], ◌∷◌, IsSome, Contains, All, inl, inr, refl, sym, subst, arith, ◌==◌}
use Rattle.std.specs.List.{filter}
use Rattle.std.proofs.lemmas.List.Elements.{All-from_recursion, All-contains, All-nil, All-cons}
use Rattle.if1_graph.specs.declared.graph.Edge.{Edge}
use Rattle.if1_graph.specs.declared.graph.Graph.TheViews as views
use Rattle.if1_graph.specs.declared.graph.Node.{Node, out-Node}
use Rattle.if1_graph.specs.declared.graph.Origin.TheVariants.{Port}
use Rattle.if1_graph.specs.Cycles.{IsFrom, Reaches, edge as by_edge, path}
use Rattle.if1_graph.specs.Ready.{IsOrdered, IsAcyclic, IsReady}
use Rattle.if1_graph.specs.Units.{label_of, node_at, ends}
use Rattle.if1_marks.specs.Given.{is_consuming}
use Rattle.if1_marks.specs.Orders.{Precedes, fed, listed, between, ComesBefore, led, IsOrderRight}
use Rattle.if1_marks.specs.Owned.{leaving}
use Rattle.if1_marks.specs.Sound.{edges_to_its_node, takers_of_its_port, IsTakerRight, AreMarksRight, IsSound}
use Rattle.if1_marks.proofs.Consumed.{given-at, consumed-at, used-at, label-at}
use Rattle.if1_marks.proofs.Lists.{here, here-or-there, in-none, found-in}
use Rattle.if1_marks.proofs.Tests.{same-number}
use Rattle.worked_units.specs.Changed.{edge, node, edges, main, changed}
use Rattle.worked_units.proofs.ChangedOuts.{out-node, opened, place, edges-are, at-place, all-edges, all-nodes, the-change, the-look}
use Rattle.worked_units.proofs.ChangedReady.{formed, ports-hold, types-hold}

-- ---- the places of the nodes in an order

abbrev rank : ℕ → ℕ
rank (suc zero) = 1
rank (suc (suc zero)) = 3
rank (suc (suc (suc zero))) = 2
rank _ = 0

abbrev Rises : Edge → Type 0
Rises e = (l m : ℕ) → IsFrom l e.from → e.node ≡ m → m ≢ 0 → rank l < rank m

from-fill : (l m k : ℕ) → l ≡ 1 → k ≡ m → 1 < rank k → rank l < rank m
from-fill l m k i e lt = subst (λ j. rank j < rank m) (sym i) (subst (λ j. 1 < rank j) e lt)

rising : All Rises edges
rising = All-from_recursion Rises edges (
  λ l m i e ne. absurd i,
  (
    λ l m i e ne. absurd i,
    (
      λ l m i e ne. absurd i,
      (
        λ l m i e ne. from-fill l m 2 i e (omega arith),
        (
          λ l m i e ne. absurd i,
          (
            λ l m i e ne. absurd i,
            (
              λ l m i e ne. from-fill l m 3 i e (omega arith),
              (
                λ l m i e ne. absurd i,
                (
                  λ l m i e ne. absurd (ne (sym e)),
                  (
                    λ l m i e ne. absurd (ne (sym e)),
                    tt,
                  ),
                ),
              ),
            ),
          ),
        ),
      ),
    ),
  ),
)

-- what stands on an ordering list is 3, on that of the change
abbrev IsListed : Node → Type 0
IsListed n = (l : ℕ) → Contains (out-Node n).before l → (l ≡ 3) × (label_of n ≡ 2)

unlisted : (label op : ℕ) → IsListed (node label op [])
unlisted label op l h = in-none l (subst (λ xs. Contains xs l) empty h)
  where
    empty : (out-Node (node label op [])).before ≡ []
    empty = simp (out-node)

change-list : (out-Node (node 2 113 (3 ∷ []))).before ≡ 3 ∷ []
change-list = simp (out-node)

change-label : label_of (node 2 113 (3 ∷ [])) ≡ 2
change-label = simp (out-node, label_of)

change-listed : IsListed (node 2 113 (3 ∷ []))
change-listed l h =
    (elim (here-or-there 3 [] l (subst (λ xs. Contains xs l) change-list h)) [ inl same ↦ sym same | inr later ↦ in-none l later ], change-label)

listing : All IsListed (views.out-Graph main).nodes
listing = all-nodes IsListed (unlisted 1 106, (change-listed, (unlisted 3 105, tt)))

before-change : (l m : ℕ) → l ≡ 3 → m ≡ 2 → rank l < rank m
before-change l m e f = subst (λ k. rank k < rank m) (sym e) (subst (λ k. 2 < rank k) (sym f) (omega arith))

rises : {l m : ℕ} → Precedes main l m → rank l < rank m
rises (fed {l = l} {m = m} f) = All-contains Rises edges f.edge rising (subst (λ es. Contains es f.edge) edges-are f.there) l m f.source f.target f.no_boundary
rises (listed {l = l} {m = m} n at h) =
    let x = found-in (λ n. label_of n == m) (views.out-Graph main).nodes n at in
    let y = All-contains IsListed (views.out-Graph main).nodes n listing x.0 l h in
    before-change l m y.0 (sym (same-number (label_of n) m x.1) ∙ y.1)
rises (between a b) = omega (arith, rises a, rises b)

reaches-rises : {l m : ℕ} → Reaches main l m → rank l < rank m
reaches-rises (by_edge f) = rises (fed f)
reaches-rises (path f r) = omega (arith, rises (fed f), reaches-rises r)

acyclic : IsAcyclic changed
acyclic = at-place (λ p. All (IsOrdered p) (ends p.graph)) (λ k d lt r. let a = reaches-rises r in absurd (omega (arith, a)))

pub ready : IsReady changed
ready = record { formed = formed; ports = ports-hold; types = types-hold; acyclic = acyclic }

-- ---- the marks

look-there : (l : ℕ) → l ≡ 3 → IsSome (node_at (views.out-Graph main).nodes l)
look-there l e = subst (λ k. IsSome (node_at (views.out-Graph main).nodes k)) (sym e) (subst IsSome (sym the-look) refl)

right-order : IsOrderRight place
right-order =
    record {
      named = λ n l there h. look-there l (All-contains IsListed (views.out-Graph main).nodes n listing there l h).0;
      acyclic = λ l w. omega (arith, rises w);
    }

look-first : ComesBefore main 3 2
look-first = led (listed (node 2 113 (3 ∷ [])) the-change (subst (λ xs. Contains xs 3) (sym change-list) (here 3 [])))

ruleset rules-opened = (given-at, consumed-at, used-at, label-at, opened)

-- the change takes the array
abbrev taking : Edge
taking = edge true 1 1 2 1 5

taking-consumes : is_consuming changed main taking ≡ true
taking-consumes = simp rules-opened

taking-once : edges_to_its_node main taking ≡ 1
taking-once = simp rules-opened

taking-alone : takers_of_its_port main taking ≡ 1
taking-alone = simp rules-opened

others : filter (λ f. not (f.node == 2)) (leaving main (Port 1 1)) ≡ edge false 1 1 3 1 5 ∷ []
others = simp rules-opened

abbrev BeforeChange : Edge → Type 0
BeforeChange f = ComesBefore main f.node 2

change-right : IsTakerRight changed place taking
change-right =
    record {
      may = (taking-consumes, refl);
      once = taking-once;
      alone = taking-alone;
      last = subst (All BeforeChange) (sym others) (All-cons BeforeChange (edge false 1 1 3 1 5) [] look-first (All-nil BeforeChange));
    }

-- the results take the changed one, which no other edge leaves
abbrev giving : Edge
giving = edge true 2 1 0 2 5

giving-consumes : is_consuming changed main giving ≡ true
giving-consumes = refl

giving-once : edges_to_its_node main giving ≡ 1
giving-once = simp rules-opened

giving-alone : takers_of_its_port main giving ≡ 1
giving-alone = simp rules-opened

no-others : filter (λ f. not (f.node == 0)) (leaving main (Port 2 1)) ≡ []
no-others = simp rules-opened

abbrev BeforeResults : Edge → Type 0
BeforeResults f = ComesBefore main f.node 0

results-right : IsTakerRight changed place giving
results-right =
    record {
      may = (giving-consumes, refl);
      once = giving-once;
      alone = giving-alone;
      last = subst (All BeforeResults) (sym no-others) (All-nil BeforeResults);
    }

abbrev Right : Edge → Type 0
Right e = e.takes ≡ true → IsTakerRight changed place e

right-takers : All Right (views.out-Graph main).edges
right-takers = all-edges Right (
  λ t. absurd cc,
  (
    λ t. absurd cc,
    (
      λ t. absurd cc,
      (
        λ t. change-right,
        (
          λ t. absurd cc,
          (
            λ t. absurd cc,
            (
              λ t. absurd cc,
              (
                λ t. absurd cc,
                (
                  λ t. absurd cc,
                  (
                    λ t. results-right,
                    tt,
                  ),
                ),
              ),
            ),
          ),
        ),
      ),
    ),
  ),
)

pub sound : IsSound changed
sound = at-place (AreMarksRight changed) (record { takers = right-takers; order = right-order })
