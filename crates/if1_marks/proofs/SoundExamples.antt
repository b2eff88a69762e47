-- Marks of one unit that are sound, and marks that are not.
--
-- `main` fills an array, changes its first element, and gives the first element of the array before the change, and the changed
-- array.
use Rattle.std.proofs.Common.{◌≡◌, ◌≢◌, ◌<◌, ℕ, zero, suc, Bool, true, false, not, List, [], ◌∷◌, length, Some, IsSome, Contains, All, inl, inr, refl, sym, subst, ◌∙◌, rules, arith, ◌==◌}
use Rattle.std.specs.Prelude.{codes}
use Rattle.std.specs.List.{filter}
use Rattle.std.proofs.lemmas.List.Elements.{All-from_recursion, All-contains, All-nil, All-cons}
use Rattle.if1_graph.specs.declared.graph.Edge.{Edge}
use Rattle.if1_graph.specs.declared.graph.Graph.{Graph}
use Rattle.if1_graph.specs.declared.graph.Graph.TheViews as views
use Rattle.if1_graph.specs.declared.graph.Node.{Node, roll-Node, out-Node}
use Rattle.if1_graph.specs.declared.graph.Origin.TheVariants.{Port, Lit}
use Rattle.if1_graph.specs.declared.graph.TypeEntry.{TypeEntry}
use Rattle.if1_graph.specs.declared.graph.Unit1.{Unit1}
use Rattle.if1_graph.specs.Cycles.{IsFrom}
use Rattle.if1_graph.specs.Units.{label_of, node_at, Function, Place, places}
use Rattle.if1_marks.specs.Given.{is_consuming}
use Rattle.if1_marks.specs.Owned.{leaving}
use Rattle.if1_marks.specs.Orders.{Precedes, fed, listed, between, ComesBefore, led, at_the_end, IsOrderRight}
use Rattle.if1_marks.specs.Sound.{edges_to_its_node, takers_of_its_port, IsTakerRight, AreMarksRight, IsSound}
use Rattle.if1_marks.proofs.Consumed.{given-at, consumed-at, used-at, label-at}
use Rattle.if1_marks.proofs.Lists.{here, here-or-there, in-none, found-in}
use Rattle.if1_marks.proofs.Tests.{same-number}

abbrev entry : ℕ → ℕ → ℕ → ℕ → TypeEntry
entry label code first second = record { label = label; code = code; first = first; second = second; name = [] }

-- integer; an array of it; the tuple of both; the function without arguments that gives the tuple
abbrev types : List TypeEntry
types = entry 1 1 3 0 ∷ entry 2 0 1 0 ∷ entry 3 8 1 4 ∷ entry 4 8 2 0 ∷ entry 5 3 0 3 ∷ []

abbrev edge : Bool → ℕ → ℕ → ℕ → ℕ → ℕ → Edge
edge takes from out node to ty = record { from = Port from out; node = node; port = to; ty = ty; takes = takes; name = [] }

abbrev literal : List ℕ → ℕ → ℕ → Edge
literal text node to = record { from = Lit text; node = node; port = to; ty = 1; takes = false; name = [] }

abbrev node : ℕ → ℕ → List ℕ → Node
node label op before = roll-Node (record { label = label; op = op; subs = []; assoc = []; before = before; name = [] })

-- whether the reader takes too, and what comes before the change
module _ (reader : Bool) (before : List ℕ) where
  abbrev nodes : List Node
  nodes = node 1 106 [] ∷ node 2 113 before ∷ node 3 105 [] ∷ []

  abbrev taking : Edge
  taking = edge true 1 1 2 1 2

  abbrev reading : Edge
  reading = edge reader 1 1 3 1 2

  abbrev edges : List Edge
  edges =
      literal (codes "1") 1 1
      ∷ literal (codes "3") 1 2
      ∷ literal (codes "5") 1 3
      ∷ taking
      ∷ literal (codes "1") 2 2
      ∷ literal (codes "9") 2 3
      ∷ reading
      ∷ literal (codes "1") 3 2
      ∷ edge false 3 1 0 1 1
      ∷ edge false 2 1 0 2 2
      ∷ []

  abbrev main : Graph
  main = views.roll-Graph (record { number = 1; exported = true; name = codes "main"; fun = 5; nodes = nodes; edges = edges })

  abbrev unit : Unit1
  unit = record { types = types; imports = []; graphs = main ∷ [] }

  abbrev place : Place
  place = record { graph = main; home = Function 0 }

  out-main : views.out-Graph main ≡ record { number = 1; exported = true; name = codes "main"; fun = 5; nodes = nodes; edges = edges }
  out-main = search (rules, views.the_lemmas)

  out-node : (label op : ℕ) (before : List ℕ) → out-Node (node label op before) ≡ record { label = label; op = op; subs = []; assoc = []; before = before; name = [] }
  out-node label op before = search (rules, views.the_lemmas)

  ruleset opened = (given-at, consumed-at, used-at, label-at, out-main, out-node, label_of)

  places-are : places unit ≡ place ∷ []
  places-are = simp opened

  edges-are : (views.out-Graph main).edges ≡ edges
  edges-are = simp out-main

  nodes-are : (views.out-Graph main).nodes ≡ nodes
  nodes-are = simp out-main

  consuming : is_consuming unit main taking ≡ true
  consuming = simp opened

  one-to-it : edges_to_its_node main taking ≡ 1
  one-to-it = simp opened

  takers-are : takers_of_its_port main taking ≡ length (filter (λ f. f.takes) (taking ∷ reading ∷ []))
  takers-are = simp opened

  others : filter (λ f. not (f.node == 2)) (leaving main (Port 1 1)) ≡ reading ∷ []
  others = simp opened

  the-change : node_at (views.out-Graph main).nodes 2 ≡ Some (node 2 113 before)
  the-change = simp opened

  change-label : label_of (node 2 113 before) ≡ 2
  change-label = simp (out-node, label_of)

  lists : (out-Node (node 2 113 before)).before ≡ before
  lists = simp out-node

  there-is : (l : ℕ) → l ≡ 3 → IsSome (node_at (views.out-Graph main).nodes l)
  there-is l e = subst (λ k. IsSome (node_at (views.out-Graph main).nodes k)) (sym e) (subst IsSome (sym third) refl)
    where
      third : node_at (views.out-Graph main).nodes 3 ≡ Some (node 3 105 [])
      third = simp opened

-- ---- sound: the reader comes before the change

-- the places of the nodes in an order
abbrev rank : ℕ → ℕ
rank (suc zero) = 1
rank (suc (suc zero)) = 3
rank (suc (suc (suc zero))) = 2
rank _ = 0

abbrev Rises : Edge → Type 0
Rises e = (l m : ℕ) → IsFrom l e.from → e.node ≡ m → m ≢ 0 → rank l < rank m

rising : All Rises (edges false (3 ∷ []))
rising = All-from_recursion Rises (edges false (3 ∷ [])) (
  λ l m i e ne. absurd i,
  (
    λ l m i e ne. absurd i,
    (
      λ l m i e ne. absurd i,
      (
        λ l m i e ne. subst (λ k. rank k < rank m) (sym i) (subst (λ k. 1 < rank k) e (omega arith)),
        (
          λ l m i e ne. absurd i,
          (
            λ l m i e ne. absurd i,
            (
              λ l m i e ne. subst (λ k. rank k < rank m) (sym i) (subst (λ k. 1 < rank k) e (omega arith)),
              (
                λ l m i e ne. absurd i,
                (
                  λ l m i e ne. absurd (ne (sym e)),
                  (
                    λ l m i e ne. absurd (ne (sym e)),
                    tt,
                  ),
                ),
              ),
            ),
          ),
        ),
      ),
    ),
  ),
)

abbrev ordered : List ℕ
ordered = 3 ∷ []

one-listed : (xs : List ℕ) (l : ℕ) → xs ≡ 3 ∷ [] → Contains xs l → l ≡ 3
one-listed xs l e h = elim (here-or-there 3 [] l (subst (λ xs. Contains xs l) e h)) [ inl same ↦ sym same | inr later ↦ in-none l later ]

-- what stands on an ordering list is 3, on that of the change
abbrev IsListed : Node → Type 0
IsListed n = (l : ℕ) → Contains (out-Node n).before l → (l ≡ 3) × (label_of n ≡ 2)

empty : (label op : ℕ) → (out-Node (node label op [])).before ≡ []
empty label op = simp (out-node false ordered)

unlisted : (label op : ℕ) → IsListed (node label op [])
unlisted label op l h = in-none l (subst (λ xs. Contains xs l) (empty label op) h)

listing : All IsListed (nodes false ordered)
listing = All-from_recursion IsListed (nodes false ordered) (
  unlisted 1 106,
  (
    λ l h. (one-listed _ l (lists false ordered) h, change-label false ordered),
    (unlisted 3 105, tt),
  ),
)

before-change : (l m : ℕ) → l ≡ 3 → m ≡ 2 → rank l < rank m
before-change l m e f = subst (λ k. rank k < rank m) (sym e) (subst (λ k. 2 < rank k) (sym f) (omega arith))

rises : {l m : ℕ} → Precedes (main false ordered) l m → rank l < rank m
rises (fed {l = l} {m = m} f) = All-contains Rises (edges false ordered) f.edge rising (subst (λ es. Contains es f.edge) (edges-are false ordered) f.there) l m f.source f.target f.no_boundary
rises (listed {l = l} {m = m} n at h) =
    let x = found-in (λ n. label_of n == m) (views.out-Graph (main false ordered)).nodes n at in
    let y = All-contains IsListed (nodes false ordered) n listing (subst (λ ns. Contains ns n) (nodes-are false ordered) x.0) l h in
    before-change l m y.0 (sym (same-number (label_of n) m x.1) ∙ y.1)
rises (between a b) = omega (arith, rises a, rises b)

right-order : IsOrderRight (place false ordered)
right-order =
    record {
      named = λ n l there h. there-is false ordered l (All-contains IsListed (nodes false ordered) n listing (subst (λ ns. Contains ns n) (nodes-are false ordered) there) l h).0;
      acyclic = λ l w. omega (arith, rises w);
    }

reader-first : ComesBefore (main false ordered) 3 2
reader-first = led (listed (node 2 113 ordered) (the-change false ordered) (subst (λ xs. Contains xs 3) (sym (lists false ordered)) (here 3 [])))

right-taker : IsTakerRight (unit false ordered) (place false ordered) (taking false ordered)
right-taker =
    record {
      may = (consuming false ordered, refl);
      once = one-to-it false ordered;
      alone = takers-are false ordered;
      last = subst (All (λ f. ComesBefore (main false ordered) f.node 2)) (sym (others false ordered))
          (All-cons (λ f. ComesBefore (main false ordered) f.node 2) (reading false ordered) [] reader-first (All-nil (λ f. ComesBefore (main false ordered) f.node 2)));
    }

abbrev Right : Edge → Type 0
Right e = e.takes ≡ true → IsTakerRight (unit false ordered) (place false ordered) e

right-takers : All Right (edges false ordered)
right-takers = All-from_recursion Right (edges false ordered) (
  λ t. absurd cc,
  (
    λ t. absurd cc,
    (
      λ t. absurd cc,
      (
        λ t. right-taker,
        (
          λ t. absurd cc,
          (
            λ t. absurd cc,
            (
              λ t. absurd cc,
              (
                λ t. absurd cc,
                (
                  λ t. absurd cc,
                  (
                    λ t. absurd cc,
                    tt,
                  ),
                ),
              ),
            ),
          ),
        ),
      ),
    ),
  ),
)

sound : IsSound (unit false ordered)
sound =
    subst (All (AreMarksRight (unit false ordered))) (sym (places-are false ordered))
    (All-cons (AreMarksRight (unit false ordered)) (place false ordered) []
    (record { takers = subst (All Right) (sym (edges-are false ordered)) right-takers; order = right-order })
    (All-nil (AreMarksRight (unit false ordered))))

-- ---- not sound

marks-at : (reader : Bool) (before : List ℕ) → IsSound (unit reader before) → IsTakerRight (unit reader before) (place reader before) (taking reader before)
marks-at reader before h =
    let marks = All-contains (AreMarksRight (unit reader before)) (places (unit reader before)) (place reader before) h
    (subst (λ ps. Contains ps (place reader before)) (sym (places-are reader before)) (here (place reader before) [])) in
    All-contains (λ e. e.takes ≡ true → IsTakerRight (unit reader before) (place reader before) e) (views.out-Graph (main reader before)).edges (taking reader before) marks.takers
    (subst (λ es. Contains es (taking reader before)) (sym (edges-are reader before)) (3, omega arith, refl)) refl

-- both edges from the array take
two-take : ¬ IsSound (unit true ordered)
two-take h = two (marks-at true ordered h).alone (takers-are true ordered)
  where
    two : {n : ℕ} → n ≡ 1 → n ≡ 2 → ⊥
    two one more = absurd (omega (arith, one, more))

-- nothing says that the reader comes before the change
abbrev IsFirst : Edge → Type 0
IsFirst e = (l m : ℕ) → IsFrom l e.from → e.node ≡ m → m ≢ 0 → l ≡ 1

first-leads : All IsFirst (edges false [])
first-leads = All-from_recursion IsFirst (edges false []) (
  λ l m i e ne. absurd i,
  (
    λ l m i e ne. absurd i,
    (
      λ l m i e ne. absurd i,
      (
        λ l m i e ne. i,
        (
          λ l m i e ne. absurd i,
          (
            λ l m i e ne. absurd i,
            (
              λ l m i e ne. i,
              (
                λ l m i e ne. absurd i,
                (
                  λ l m i e ne. absurd (ne (sym e)),
                  (
                    λ l m i e ne. absurd (ne (sym e)),
                    tt,
                  ),
                ),
              ),
            ),
          ),
        ),
      ),
    ),
  ),
)

abbrev HasNoList : Node → Type 0
HasNoList n = (l : ℕ) → Contains (out-Node n).before l → ⊥

nothing-listed : All HasNoList (nodes false [])
nothing-listed = All-from_recursion HasNoList (nodes false []) (none 1 106, (none 2 113, (none 3 105, tt)))
  where
    none : (label op : ℕ) → HasNoList (node label op [])
    none label op l h = in-none l (subst (λ xs. Contains xs l) (empty label op) h)

from-first : {l m : ℕ} → Precedes (main false []) l m → l ≡ 1
from-first (fed {l = l} {m = m} f) = All-contains IsFirst (edges false []) f.edge first-leads (subst (λ es. Contains es f.edge) (edges-are false []) f.there) l m f.source f.target f.no_boundary
from-first (listed {l = l} {m = m} n at h) =
    let x = found-in (λ n. label_of n == m) (views.out-Graph (main false [])).nodes n at in
    absurd (All-contains HasNoList (nodes false []) n nothing-listed (subst (λ ns. Contains ns n) (nodes-are false []) x.0) l h)
from-first (between a b) = from-first a

comes-from-first : {l m : ℕ} → m ≢ 0 → ComesBefore (main false []) l m → l ≡ 1
comes-from-first ne (led p) = from-first p
comes-from-first ne (at_the_end x) = absurd (ne refl)

unordered : ¬ IsSound (unit false [])
unordered h =
    let comes = All-contains (λ f. ComesBefore (main false []) f.node 2) (reading false [] ∷ []) (reading false [])
    (subst (All (λ f. ComesBefore (main false []) f.node 2)) (others false []) (marks-at false [] h).last) (here (reading false []) []) in
    absurd (omega (arith, comes-from-first {l = 3} {m = 2} (λ z. absurd (omega (arith, z))) comes))
