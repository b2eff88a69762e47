-- Paths by labels, from ways by places.
use Rattle.std.proofs.Common.{◌≡◌, ◌∙◌, ℕ, ◌+◌, ◌-◌, ◌<◌, zero, suc, true, ◌&&◌, not, List, [], ◌∷◌, length, get_or, slice_index, slice_index_or, map, Contains, inl, inr, arith, refl, sym, ap, subst, ◌==◌, Some, None, Option, MatchOption}
use Rattle.std.specs.List.{list_any}
use Rattle.std.specs.List.Sorted.{IsStrictlyIncreasing}
use Rattle.std.proofs.lemmas.Bool.{or_cases, or_left, or_right, and_parts, and_from, eq-eqb, not-true, cases_lt}
use Rattle.std.proofs.lemmas.List.{length-map, get_or-map}
use Rattle.if1_graph.specs.declared.graph.Graph.{Graph}
use Rattle.if1_graph.specs.declared.graph.Graph.TheViews.{out-Graph}
use Rattle.if1_graph.specs.declared.graph.Node.{Node, out-Node}
use Rattle.if1_graph.specs.Units.{label_of, node_at}
use Rattle.if1_graph.specs.Cycles.{Feeds}
use Rattle.if1_order.specs.Orders.{node_labels}
use Rattle.if1_order.specs.Walks.{Lists, AreInside, Leads}
use Rattle.if1_order.specs.Feeders.{IsPlace}
use Rattle.if1_order.proofs.Orders.{same_place}
use Rattle.if1_marks.specs.Orders.{Precedes, fed, listed, between}
use Rattle.if1_marks.proofs.Lists.{found-in}
use Rattle.if1_marks.proofs.Tests.{same-number, any-found, any-there, no-both}
use Rattle.if1_marks.proofs.Taken.{another}
use Rattle.marks_made.specs.Ways.{Links, link, on}
use Rattle.marks_made.specs.Ways as ways
use Rattle.marks_made.specs.Made.{is_edge, comes_from}
use Rattle.marks_made.proofs.Lists.{some-found}
use Rattle.marks_made.proofs.Steps.{from-label, label-from}
use Rattle.if1_reach.specs.Searches.{IsWay}
use Rattle.if1_reach.specs.Nets.{is_listed, links_in, AreLinked, IsNet}
use Rattle.if1_reach.specs.Paths.{IsPath}
use Rattle.if1_reach.proofs.Links.{to-places, ends-there}

-- the places of a way are places of nodes
pub way-inside : (lists : Lists) (n from to : ℕ) (ls : List ℕ) → AreInside lists → length lists ≡ n → to < n → IsWay lists from to ls → (k : ℕ) → k < length ls → slice_index ls k < n
way-inside lists n from to ls inside fit h w k lt =
    elim (cases_lt (k + 1) (length ls)) [
      | inl more ↦ let r = inside (get_or ls k 0) (get_or ls (k + 1) 0) (w.linked k more) in omega (arith, r, fit)
      | inr end ↦ subst (λ j. slice_index ls j < n) (omega (arith, lt, end)) (subst (λ z. z < n) (sym w.last) h)
    ]

pub path-of : (labels : List ℕ) (lists : Lists) (links : Links) → IsNet labels lists links → (from to s t : ℕ) → IsPlace labels s from → IsPlace labels t to → (places ls : List ℕ) →
    IsWay lists s t places → ls ≡ map (slice_index labels) places → IsPath links from to ls
path-of labels lists links w from to s t ps pt places ls way e =
    subst (IsPath links from to) (sym e)
    (record {
      long = omega (arith, way.long, length-map places (slice_index labels));
      first = at 0 (omega (arith, way.long)) ∙ (ap (slice_index labels) way.first ∙ ps.1);
      last = ap (λ n. slice_index (map (slice_index labels) places) (n - 1)) (length-map places (slice_index labels))
          ∙ (at (length places - 1) (omega (arith, way.long)) ∙ (ap (slice_index labels) way.last ∙ pt.1));
      linked = λ k h.
          let n : k + 1 < length places = omega (arith, h, length-map places (slice_index labels)) in
          subst (λ a. links a (slice_index (map (slice_index labels) places) (k + 1)) ≡ true) (sym (at k (omega (arith, n))))
          (subst (λ b. links (slice_index labels (slice_index places k)) b ≡ true) (sym (at (k + 1) n))
          (w.sound (slice_index places k) (slice_index places (k + 1)) (way.linked k n)));
    })
  where
    at : (k : ℕ) → k < length places → slice_index (map (slice_index labels) places) k ≡ slice_index labels (slice_index places k)
    at k h = get_or-map (slice_index labels) places k 0 0 h

pub no-path : (labels : List ℕ) (lists : Lists) (links : Links) → IsStrictlyIncreasing labels → IsNet labels lists links → AreLinked labels links → (from to s t : ℕ) → IsPlace labels s from → IsPlace labels t to →
    ¬ Leads lists s t → ¬ ways.Leads links from to
no-path labels lists links up w linked from to s t ps pt none l = none (to-places labels lists links w up linked l s t ps pt)

pub no-start : (labels : List ℕ) (lists : Lists) (links : Links) → IsStrictlyIncreasing labels → IsNet labels lists links → AreLinked labels links → (from to : ℕ) → ¬ Contains labels from → ¬ ways.Leads links from to
no-start labels lists links up w linked from to none l = none (ends-there labels lists links w up linked l).0

pub no-end : (labels : List ℕ) (lists : Lists) (links : Links) → IsStrictlyIncreasing labels → IsNet labels lists links → AreLinked labels links → (from to : ℕ) → ¬ Contains labels to → ¬ ways.Leads links from to
no-end labels lists links up w linked from to none l = none (ends-there labels lists links w up linked l).1

-- ---- what the links of a graph are

pub same-default : {A : Type 0} (xs : List A) (j : ℕ) (a b : A) → j < length xs → get_or xs j a ≡ get_or xs j b
same-default [] j a b h = absurd (omega (arith, h))
same-default (x ∷ xs) zero a b h = refl
same-default (x ∷ xs) (suc j) a b h = same-default xs j a b (omega (arith, h))

module _ (g : Graph) (up : IsStrictlyIncreasing (node_labels g)) where
  -- there is one node of a label
  the-node : (ns : List Node) (k : ℕ) (n : Node) → IsStrictlyIncreasing (map label_of ns) → Contains ns n → label_of n ≡ k → node_at ns k ≡ Some n
  the-node ns k n rising c e =
      let q = some-found (λ n. label_of n == k) ns n c (eq-eqb (label_of n) k e) in
      let s = found-in (λ n. label_of n == k) ns q.0 q.1 in
      q.1 ∙ ap Some (same-node s.0 c (same-number (label_of q.0) k s.1 ∙ sym e))
    where
      same-node : {a b : Node} → Contains ns a → Contains ns b → label_of a ≡ label_of b → a ≡ b
      same-node {a = a} {b = b} (i, hi, x) (j, hj, y) same =
          let ai : slice_index (map label_of ns) i ≡ label_of a = get_or-map label_of ns i a 0 hi ∙ ap label_of x in
          let bj : slice_index (map label_of ns) j ≡ label_of b = get_or-map label_of ns j b 0 hj ∙ ap label_of y in
          let ij : i ≡ j = same_place (map label_of ns) i j rising (omega (arith, hi, length-map ns label_of)) (omega (arith, hj, length-map ns label_of)) (ai ∙ (same ∙ sym bj)) in
          sym x ∙ (ap (λ k. get_or ns k a) ij ∙ (same-default ns j a b hj ∙ y))

  pub fed-link : (l m : ℕ) → Feeds g l m → links_in g l m ≡ true
  fed-link l m f =
      or_left (list_any (is_edge l m) (out-Graph g).edges) (list_any (is_listed l m) (out-Graph g).nodes)
      (any-there (is_edge l m) (out-Graph g).edges f.edge f.there
      (and_from (comes_from l f.edge.from) ((f.edge.node == m) && not (m == 0)) (from-label l f.edge.from f.source)
      (and_from (f.edge.node == m) (not (m == 0)) (eq-eqb f.edge.node m f.target) (another m 0 f.no_boundary))))

  pub listed-link : (l m : ℕ) (n : Node) → node_at (out-Graph g).nodes m ≡ Some n → Contains (out-Node n).before l → links_in g l m ≡ true
  listed-link l m n e c =
      let r = found-in (λ n. label_of n == m) (out-Graph g).nodes n e in
      or_right (list_any (is_edge l m) (out-Graph g).edges) (list_any (is_listed l m) (out-Graph g).nodes)
      (any-there (is_listed l m) (out-Graph g).nodes n r.0
      (and_from (label_of n == m) (list_any (λ k. k == l) (out-Node n).before) r.1 (any-there (λ k. k == l) (out-Node n).before l c (eq-eqb l l refl))))

  pub to-links : {l m : ℕ} → Precedes g l m → ways.Leads (links_in g) l m
  to-links (fed {l = l} {m = m} f) = link (fed-link l m f)
  to-links (listed {l = l} {m = m} n e c) = link (listed-link l m n e c)
  to-links (between a b) = on (to-links a) (to-links b)

  pub from-links : {l m : ℕ} → ways.Leads (links_in g) l m → Precedes g l m
  from-links (link {l = l} {m = m} h) =
      elim (or_cases (list_any (is_edge l m) (out-Graph g).edges) (list_any (is_listed l m) (out-Graph g).nodes) h) [
        | inl e ↦
            let r = any-found (is_edge l m) (out-Graph g).edges e in
            let q = and_parts (comes_from l r.0.from) ((r.0.node == m) && not (m == 0)) r.2 in
            let s = and_parts (r.0.node == m) (not (m == 0)) q.1 in
            fed (record {
              edge = r.0;
              there = r.1;
              source = label-from l r.0.from q.0;
              target = same-number r.0.node m s.0;
              no_boundary = λ z. no-both (m == 0) (eq-eqb m 0 z) (not-true (m == 0) s.1);
            })
        | inr o ↦
            let r = any-found (is_listed l m) (out-Graph g).nodes o in
            let q = and_parts (label_of r.0 == m) (list_any (λ k. k == l) (out-Node r.0).before) r.2 in
            let x = any-found (λ k. k == l) (out-Node r.0).before q.1 in
            listed r.0 (the-node (out-Graph g).nodes m r.0 up r.1 (same-number (label_of r.0) m q.0)) (subst (Contains (out-Node r.0).before) (same-number x.0 l x.2) x.1)
      ]
  from-links (on a b) = between (from-links a) (from-links b)

pub all-inside : (lists : Lists) (n from to : ℕ) (ls items : List ℕ) → AreInside lists → length lists ≡ n → to < n → IsWay lists from to ls → items ≡ ls → (k d : ℕ) → k < length items → slice_index_or items k d < n
all-inside lists n from to ls items inside fit h w e k d lt =
    let r = way-inside lists n from to ls inside fit h w k (omega (arith, lt, ap length e)) in
    subst (λ z. z < n) (same-default ls k 0 d (omega (arith, lt, ap length e)) ∙ ap (λ xs. get_or xs k d) (sym e)) r

pub net-at : (g : Graph) (labels slice other : List ℕ) (lists items : Lists) → slice ≡ labels → other ≡ labels → items ≡ lists → IsNet slice lists (links_in g) → IsNet other items (links_in g)
net-at g labels slice other lists items f h i w = subst (λ z. IsNet z items (links_in g)) (f ∙ sym h) (subst (λ z. IsNet slice z (links_in g)) (sym i) w)

pub graph-path : (g : Graph) → IsStrictlyIncreasing (node_labels g) → (found : Option (List ℕ)) (from to : ℕ) → MatchOption found (¬ ways.Leads (links_in g) from to) (IsPath (links_in g) from to) →
    MatchOption found (¬ Precedes g from to) (IsPath (links_in g) from to)
graph-path g up None from to none = λ w. none (to-links g up w)
graph-path g up (Some ls) from to is = is
