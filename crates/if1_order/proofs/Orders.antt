-- An order of places, told by labels.
use Rattle.std.proofs.Common.{◌≡◌, ◌≢◌, ℕ, zero, suc, ◌+◌, ◌-◌, ◌<◌, ◌≤◌, List, [], ◌∷◌, ◌++◌, map, length, take, set, get_or, replicate, slice_index, ◌⊎◌, inl, inr, Contains, Err, arith, refl, sym, ap, subst, ◌∙◌}
use Rattle.std.specs.List.Sorted.{IsStrictlyIncreasing}
use Rattle.std.specs.List.Sorted.{IsBinarySearchResult}
use Rattle.std.specs.Ordering.{nat_cmp}
use Rattle.std.proofs.lemmas.List.Sorted.{searched}
use Rattle.std.proofs.lemmas.Bool.{cases_lt, cases_eq}
use Rattle.std.proofs.lemmas.List.{length-set, length-map, length-replicate, get_or-set_same, get_or-set_other, get_or_default, get_or-map, take-map}
use Rattle.std.proofs.lemmas.List.Elements.{Contains-get_or, Contains-push, Contains-push_cases, Contains-append_left}
use Rattle.if1_graph.specs.declared.graph.Graph.{Graph}
use Rattle.if1_graph.specs.declared.graph.Graph.TheViews.{out-Graph}
use Rattle.if1_graph.specs.declared.graph.Edge.{Edge}
use Rattle.if1_graph.specs.declared.graph.Origin.TheVariants.{Port, Lit}
use Rattle.if1_graph.specs.Formed.{IsOnce}
use Rattle.if1_graph.specs.Cycles.{IsFrom, Feeds, Reaches}
use Rattle.if1_graph.specs.Cycles as cycles
use Rattle.if1_order.specs.Walks.{Lists, feeders_of, AreInside, Leads, step, onward, IsSorted}
use Rattle.if1_order.specs.Feeders.{IsEdge, Joins, IsPlace, IsJoined, AreFeeders}
use Rattle.if1_order.specs.declared.arranged.NodeOrder.{NodeOrder}
use Rattle.if1_order.specs.declared.arranged.NodeOrder.TheVariants.{Nodes, Circle}
use Rattle.if1_order.specs.Orders.{node_labels, IsLinked, IsOrder, HasNoCircle, Orders}
use Rattle.if1_order.specs.Arranged.{Arranges}
use Rattle.if1_order.proofs.Members.{contains_here, contains_there, contains_cases, contains_none, contains_mapped, mapped_contains}
use Rattle.if1_order.proofs.Walks.{same_contained, list_contained}

-- ---- rising labels

rising : (ns : List ℕ) (i d : ℕ) → IsStrictlyIncreasing ns → i + suc d < length ns → slice_index ns i < slice_index ns (i + suc d)
rising ns i zero up h = grind (arith, up i)
rising ns i (suc d) up h = grind (arith, rising ns i d up, up (i + suc d))

pub same_place : (ns : List ℕ) (i j : ℕ) → IsStrictlyIncreasing ns → i < length ns → j < length ns → get_or ns i 0 ≡ get_or ns j 0 → i ≡ j
same_place ns i j up h k e =
    elim (cases_lt i j) [
      | inl lt ↦ let at : i + suc (j - suc i) ≡ j = omega arith in
          absurd (omega (arith, ap (slice_index ns) at, rising ns i (j - suc i) up (omega arith)))
      | inr ge ↦ elim (cases_eq i j) [
        | inl same ↦ same
        | inr ne ↦ let at : j + suc (i - suc j) ≡ i = omega arith in
            absurd (omega (arith, ap (slice_index ns) at, rising ns j (i - suc j) up (omega arith)))
      ]
    ]

pub not_found : (ns : List ℕ) (x i : ℕ) → IsStrictlyIncreasing ns → IsBinarySearchResult (λ y. nat_cmp y x) ns (Err i) → ¬ Contains ns x
not_found ns x i up found (k, h, e) =
    let r = searched ns x (Err i) found (λ a b le short. elim (cases_eq a b) [
      | inl same ↦ omega (arith, ap (slice_index ns) same)
      | inr ne ↦ let at : a + suc (b - suc a) ≡ b = omega arith in omega (arith, ap (slice_index ns) at, rising ns a (b - suc a) up (omega arith))
    ]) in
    let is : get_or ns k 0 ≡ x = get_or_default ns k 0 x h ∙ e in
    elim (cases_lt k i) [ inl lt ↦ omega (arith, r.1 k lt) | inr ge ↦ omega (arith, r.2 k ge h) ]

pub place_contained : (ns : List ℕ) (k l : ℕ) → IsPlace ns k l → Contains ns l
place_contained ns k l p = same_contained ns p.1 (Contains-get_or ns k 0 p.0)

pub contained_place : (ns : List ℕ) (l : ℕ) → Contains ns l → (k : ℕ) × IsPlace ns k l
contained_place ns l (k, h, e) = (k, (h, get_or_default ns k 0 l h ∙ e))

-- ---- edges entered one after another

joins_more : (es : List Edge) (e : Edge) (l m : ℕ) → Joins es l m → Joins (es ++ e ∷ []) l m
joins_more es e l m j = (j.0, Contains-append_left es (e ∷ []) j.0 j.1, j.2)

joins_cases : (es : List Edge) (e : Edge) (l m : ℕ) → Joins (es ++ e ∷ []) l m → Joins es l m ⊎ IsEdge e l m
joins_cases es e l m j =
    elim (Contains-push_cases es e j.0 j.1) [ inl i ↦ inl (j.0, i, j.2) | inr same ↦ inr (subst (λ z. IsEdge z l m) (sym same) j.2) ]

-- an edge between other labels changes nothing
pub skipped : (labels : List ℕ) (es : List Edge) (e : Edge) (lists : Lists) → AreFeeders labels es lists →
    ((l m : ℕ) → Contains labels l → Contains labels m → ¬ IsEdge e l m) → AreFeeders labels (es ++ e ∷ []) lists
skipped labels es e lists w apart = record {
  fit = w.fit;
  sound = λ s t h. let r = w.sound s t h in (r.0, joins_more es e (get_or labels s 0) (get_or labels t 0) r.1);
  complete = λ s t h i j.
      elim (joins_cases es e (get_or labels s 0) (get_or labels t 0) j) [
        | inl old ↦ w.complete s t h i old
        | inr new ↦ absurd (apart (get_or labels s 0) (get_or labels t 0) (Contains-get_or labels s 0 h) (Contains-get_or labels t 0 i) new)
      ];
}

module _ (lists : Lists) (s t : ℕ) (h : t < length lists) where
  abbrev pub next : Lists
  next = set lists t (feeders_of lists t ++ s ∷ [])

  next_same : feeders_of next t ≡ feeders_of lists t ++ s ∷ []
  next_same = get_or-set_same lists t (feeders_of lists t ++ s ∷ []) [] h

  -- what the lists have after an entry
  pub entry_cases : (p q : ℕ) → Contains (feeders_of next q) p → Contains (feeders_of lists q) p ⊎ ((s ≡ p) × (t ≡ q))
  entry_cases p q c =
      elim (cases_eq q t) [
        | inl same ↦
            elim (Contains-push_cases (feeders_of lists t) s p (list_contained p next_same (subst (λ z. Contains (feeders_of next z) p) same c))) [
              | inl old ↦ inl (subst (λ z. Contains (feeders_of lists z) p) (sym same) old)
              | inr new ↦ inr (new, sym same)
            ]
        | inr other ↦ inl (list_contained p (get_or-set_other lists t q (feeders_of lists t ++ s ∷ []) [] other) c)
      ]

  pub entry_kept : (p q : ℕ) → Contains (feeders_of lists q) p → Contains (feeders_of next q) p
  entry_kept p q c =
      elim (cases_eq q t) [
        | inl same ↦
            subst (λ z. Contains (feeders_of next z) p) (sym same)
            (list_contained p (sym next_same) (Contains-append_left (feeders_of lists t) (s ∷ []) p (subst (λ z. Contains (feeders_of lists z) p) same c)))
        | inr other ↦ list_contained p (sym (get_or-set_other lists t q (feeders_of lists t ++ s ∷ []) [] other)) c
      ]

  pub entry_new : Contains (feeders_of next t) s
  entry_new = list_contained s (sym next_same) (Contains-push (feeders_of lists t) s)

-- an edge between two labels is entered
pub entered : (labels : List ℕ) (es : List Edge) (e : Edge) (lists : Lists) (l m s t : ℕ) → IsStrictlyIncreasing labels → AreFeeders labels es lists →
    IsEdge e l m → ((a b : ℕ) → IsEdge e a b → (a ≡ l) × (b ≡ m)) → IsPlace labels s l → IsPlace labels t m →
    AreFeeders labels (es ++ e ∷ []) (set lists t (feeders_of lists t ++ s ∷ []))
entered labels es e lists l m s t up w edge only ps pt =
    let h : t < length lists = omega (arith, w.fit, pt.0) in
    record {
      fit = length-set lists t (feeders_of lists t ++ s ∷ []) ∙ w.fit;
      sound = λ p q c.
          elim (entry_cases lists s t h p q c) [
            | inl old ↦ let r = w.sound p q old in (r.0, joins_more es e (get_or labels p 0) (get_or labels q 0) r.1)
            | inr new ↦ (
              subst (λ z. z < length labels) new.0 ps.0,
              (
                e,
                Contains-push es e,
                subst (λ z. IsEdge e (get_or labels z 0) (get_or labels q 0)) new.0
                    (subst (λ z. IsEdge e (get_or labels s 0) (get_or labels z 0)) new.1
                    (subst (λ z. IsEdge e z (get_or labels t 0)) (sym ps.1) (subst (λ z. IsEdge e l z) (sym pt.1) edge))),
              ),
            )
          ];
      complete = λ p q i j k.
          elim (joins_cases es e (get_or labels p 0) (get_or labels q 0) k) [
            | inl old ↦ entry_kept lists s t h p q (w.complete p q i j old)
            | inr new ↦
                let is = only (get_or labels p 0) (get_or labels q 0) new in
                let sp : s ≡ p = same_place labels s p up ps.0 i (ps.1 ∙ sym is.0) in
                let tq : t ≡ q = same_place labels t q up pt.0 j (pt.1 ∙ sym is.1) in
                subst (λ z. Contains (feeders_of (set lists t (feeders_of lists t ++ s ∷ [])) z) p) tq
                (same_contained (feeders_of (set lists t (feeders_of lists t ++ s ∷ [])) t) sp (entry_new lists s t h))
          ];
    }

pub joined : (labels : List ℕ) (es : List Edge) (e : Edge) (old new : Lists) (l m : ℕ) → IsStrictlyIncreasing labels → AreFeeders labels es old →
    IsEdge e l m → ((a b : ℕ) → IsEdge e a b → (a ≡ l) × (b ≡ m)) → IsJoined labels l m old new → AreFeeders labels (es ++ e ∷ []) new
joined labels es e old new l m up w edge only (inl j) =
    subst (λ z. AreFeeders labels (es ++ e ∷ []) z) (sym j.4) (entered labels es e old l m j.0 j.1 up w edge only j.2 j.3)
joined labels es e old new l m up w edge only (inr j) =
    subst (λ z. AreFeeders labels (es ++ e ∷ []) z) (sym j.0)
    (skipped labels es e old w
    (λ a b ha hb i.
    let is = only a b i in
    elim j.1 [ inl none ↦ none (same_contained labels is.0 ha) | inr none ↦ none (same_contained labels is.1 hb) ]))

-- ---- by what the edge is

is_from : (l port : ℕ) → l ≢ 0 → IsFrom l (Port l port)
is_from zero port ne = absurd (ne refl)
is_from (suc l) port ne = refl

from_is : (a l port : ℕ) → IsFrom a (Port l port) → (a ≡ l) × (l ≢ 0)
from_is a zero port h = absurd h
from_is a (suc l) port h = (h, omega arith)

pub edge_joined : (labels : List ℕ) (es : List Edge) (e : Edge) (old new : Lists) (l port : ℕ) → IsStrictlyIncreasing labels → AreFeeders labels es old →
    e.from ≡ Port l port → l ≢ 0 → e.node ≢ 0 → IsJoined labels l e.node old new → AreFeeders labels (es ++ e ∷ []) new
edge_joined labels es e old new l port up w is ne inside j =
    joined labels es e old new l e.node up w (subst (λ z. IsFrom l z) (sym is) (is_from l port ne), refl, inside)
    (λ a b i. ((from_is a l port (subst (λ z. IsFrom a z) is i.0)).0, sym i.1)) j

pub into_boundary : (labels : List ℕ) (es : List Edge) (e : Edge) (lists : Lists) → AreFeeders labels es lists → e.node ≡ 0 → AreFeeders labels (es ++ e ∷ []) lists
into_boundary labels es e lists w is = skipped labels es e lists w (λ l m hl hm i. i.2 (sym i.1 ∙ is))

pub from_boundary : (labels : List ℕ) (es : List Edge) (e : Edge) (lists : Lists) (l port : ℕ) → AreFeeders labels es lists → e.from ≡ Port l port → l ≡ 0 →
    AreFeeders labels (es ++ e ∷ []) lists
from_boundary labels es e lists l port w is zero_from =
    skipped labels es e lists w (λ a m ha hm i. (from_is a l port (subst (λ z. IsFrom a z) is i.0)).1 zero_from)

pub from_literal : (labels : List ℕ) (es : List Edge) (e : Edge) (lists : Lists) (text : List ℕ) → AreFeeders labels es lists → e.from ≡ Lit text →
    AreFeeders labels (es ++ e ∷ []) lists
from_literal labels es e lists text w is = skipped labels es e lists w (λ a m ha hm i. absurd (subst (λ z. IsFrom a z) is i.0))

pub none_entered : (labels : List ℕ) → AreFeeders labels [] (replicate (length labels) [])
none_entered labels = record {
  fit = length-replicate (length labels) [];
  sound = λ s t c. absurd (contains_none s (list_contained s (empty (length labels) t) c));
  complete = λ s t h i j. contains_none j.0 j.1;
}
  where
    empty : (n t : ℕ) → feeders_of (replicate n []) t ≡ []
    empty zero t = refl
    empty (suc n) zero = refl
    empty (suc n) (suc t) = empty n t

pub feeders_inside : (labels : List ℕ) (es : List Edge) (lists : Lists) → AreFeeders labels es lists → AreInside lists
feeders_inside labels es lists w s t c = omega (arith, w.fit, (w.sound s t c).0)

-- ---- from places to labels

feeds_joins : (g : Graph) (l m : ℕ) → Feeds g l m → Joins (out-Graph g).edges l m
feeds_joins g l m f = (f.edge, f.there, (f.source, f.target, f.no_boundary))

joins_feeds : (g : Graph) (l m : ℕ) → Joins (out-Graph g).edges l m → Feeds g l m
joins_feeds g l m j = record { edge = j.0; there = j.1; source = j.2.0; target = j.2.1; no_boundary = j.2.2 }

module _ (g : Graph) (lists : Lists) (w : AreFeeders (node_labels g) (out-Graph g).edges lists) where
  abbrev label : ℕ → ℕ
  label = slice_index (node_labels g)

  leads_reaches : {s t : ℕ} → Leads lists s t → Reaches g (label s) (label t)
  leads_reaches {s = s} {t = t} (step c) = cycles.edge (joins_feeds g (label s) (label t) (w.sound s t c).1)
  leads_reaches {s = s} {t = u} (onward {t = t} c r) = cycles.path (joins_feeds g (label s) (label t) (w.sound s t c).1) (leads_reaches r)

  pub circle : (s : ℕ) → s < length lists → Leads lists s s → Contains (node_labels g) (label s) × Reaches g (label s) (label s)
  circle s h r = (Contains-get_or (node_labels g) s 0 (omega (arith, w.fit)), leads_reaches r)

once_mapped : (f : ℕ → ℕ) (os : List ℕ) → ((o p : ℕ) → Contains os o → Contains os p → f o ≡ f p → o ≡ p) → IsOnce os → IsOnce (map f os)
once_mapped f [] same once = tt
once_mapped f (o ∷ os) same once = (
  λ h.
      let r = contains_mapped f os (f o) h in
      once.0 (same_contained os (same r.0 o (contains_there o os r.0 r.1) (contains_here o os) r.2) r.1),
  once_mapped f os (λ p q hp hq. same p q (contains_there o os p hp) (contains_there o os q hq)) once.1,
)

pub ordered : (g : Graph) (lists : Lists) (os : List ℕ) → IsLinked g → AreFeeders (node_labels g) (out-Graph g).edges lists → IsSorted lists os →
    IsOrder g (map (slice_index (node_labels g)) os)
ordered g lists os linked w sorted =
    let inside : (o : ℕ) → Contains os o → o < length (node_labels g) = λ o h. omega (arith, w.fit, (sorted.these o).0 h) in
    let of : ℕ → ℕ = slice_index (node_labels g) in
    record {
      once = once_mapped (slice_index (node_labels g)) os (λ o p h i e. same_place (node_labels g) o p linked.rising (inside o h) (inside p i) e) sorted.once;
      these = λ l. (
        λ h.
            let r = contains_mapped (slice_index (node_labels g)) os l h in
            same_contained (node_labels g) r.2 (Contains-get_or (node_labels g) r.0 0 (inside r.0 r.1)),
        λ h.
            let r = contained_place (node_labels g) l h in
            same_contained (map (slice_index (node_labels g)) os) r.1.1
            (mapped_contains (slice_index (node_labels g)) os r.0 ((sorted.these r.0).1 (omega (arith, w.fit, r.1.0)))),
      );
      after = λ k m h f.
          let short : k < length os = omega (arith, length-map os (slice_index (node_labels g))) in
          let at : get_or (map (slice_index (node_labels g)) os) k 0 ≡ slice_index (node_labels g) (get_or os k 0) = get_or-map (slice_index (node_labels g)) os k 0 0 short in
          let r = contained_place (node_labels g) m (linked.linked m (get_or (map (slice_index (node_labels g)) os) k 0) f).0 in
          let o : get_or os k 0 < length (node_labels g) = inside (get_or os k 0) (Contains-get_or os k 0 short) in
          let j : Joins (out-Graph g).edges (slice_index (node_labels g) r.0) (slice_index (node_labels g) (get_or os k 0)) =
          subst (λ z. Joins (out-Graph g).edges z (slice_index (node_labels g) (get_or os k 0))) (sym r.1.1)
          (subst (λ z. Joins (out-Graph g).edges m z) at (feeds_joins g m (get_or (map (slice_index (node_labels g)) os) k 0) f)) in
          let before = sorted.after k r.0 short (w.complete r.0 (get_or os k 0) r.1.0 o j) in
          list_contained m (sym (take-map (slice_index (node_labels g)) k os))
          (same_contained (map (slice_index (node_labels g)) (take k os)) r.1.1 (mapped_contains (slice_index (node_labels g)) (take k os) r.0 before));
    }

-- ---- an order leaves no circle

once_before : (ls : List ℕ) (k : ℕ) → IsOnce ls → k < length ls → ¬ Contains (take k ls) (get_or ls k 0)
once_before [] k once h c = absurd (omega arith)
once_before (l ∷ ls) zero once h c = contains_none l c
once_before (l ∷ ls) (suc k) once h c =
    elim (contains_cases l (take k ls) (get_or ls k 0) c) [
      | inl e ↦ once.0 (same_contained ls (sym e) (Contains-get_or ls k 0 (omega arith)))
      | inr there ↦ once_before ls k once.1 (omega arith) there
    ]

earlier : (ls : List ℕ) (j k l : ℕ) → j ≤ k → Contains (take j ls) l → Contains (take k ls) l
earlier ls zero k l h c = contains_none l c
earlier [] (suc j) k l h c = contains_none l c
earlier (x ∷ ls) (suc j) zero l h c = absurd (omega arith)
earlier (x ∷ ls) (suc j) (suc k) l h c =
    elim (contains_cases x (take j ls) l c) [
      | inl e ↦ same_contained (x ∷ take k ls) e (contains_here x (take k ls))
      | inr there ↦ contains_there x (take k ls) l (earlier ls j k l (omega arith) there)
    ]

taken_place : (ls : List ℕ) (k l : ℕ) → Contains (take k ls) l → (j : ℕ) × (j < k) × (j < length ls) × (get_or ls j 0 ≡ l)
taken_place ls zero l c = contains_none l c
taken_place [] (suc k) l c = contains_none l c
taken_place (x ∷ ls) (suc k) l c =
    elim (contains_cases x (take k ls) l c) [
      | inl e ↦ (0, omega arith, omega arith, e)
      | inr there ↦ let r = taken_place ls k l there in (suc r.0, omega (arith, r.1), omega (arith, r.2), r.3)
    ]

reaches_before : (g : Graph) (ls : List ℕ) → IsOrder g ls → {l m : ℕ} → Reaches g l m → (k : ℕ) → k < length ls → get_or ls k 0 ≡ m → Contains (take k ls) l
reaches_before g ls is {l = l} {m = m} (cycles.edge f) k h e = is.after k l h (subst (λ z. Feeds g l z) (sym e) f)
reaches_before g ls is {l = l} {m = n} (cycles.path {m = m} f r) k h e =
    let p = taken_place ls k m (reaches_before g ls is r k h e) in
    earlier ls p.0 k l (omega (arith, p.1)) (is.after p.0 l p.2 (subst (λ z. Feeds g l z) (sym p.3) f))

starts_there : (g : Graph) → IsLinked g → {l m : ℕ} → Reaches g l m → Contains (node_labels g) l
starts_there g linked {l = l} {m = m} (cycles.edge f) = (linked.linked l m f).0
starts_there g linked {l = l} {m = n} (cycles.path {m = m} f r) = (linked.linked l m f).0

pub no_circle : (g : Graph) (ls : List ℕ) → IsLinked g → IsOrder g ls → HasNoCircle g
no_circle g ls linked is l r =
    let p = contained_place ls l ((is.these l).1 (starts_there g linked r)) in
    once_before ls p.0 is.once p.1.0
    (same_contained (take p.0 ls) (sym p.1.1) (reaches_before g ls is r p.0 p.1.0 p.1.1))

-- ---- what the sort gives, by labels

pub sorted_orders : (g : Graph) (labels : List ℕ) (lists : Lists) (os ls : List ℕ) → IsLinked g → labels ≡ node_labels g →
    AreFeeders labels (out-Graph g).edges lists → IsSorted lists os → ls ≡ map (slice_index labels) os → IsOrder g ls × HasNoCircle g
sorted_orders g labels lists os ls linked is w sorted made =
    let fed = subst (λ z. AreFeeders z (out-Graph g).edges lists) is w in
    let same : map (slice_index (node_labels g)) os ≡ ls = sym (made ∙ ap (λ z. map (slice_index z) os) is) in
    let order = subst (λ z. IsOrder g z) same (ordered g lists os linked fed sorted) in
    (order, no_circle g ls linked order)

pub circle_orders : (g : Graph) (labels : List ℕ) (lists : Lists) (s l : ℕ) → labels ≡ node_labels g → AreFeeders labels (out-Graph g).edges lists →
    s < length lists → Leads lists s s → l ≡ slice_index labels s → Contains (node_labels g) l × Reaches g l l
circle_orders g labels lists s l is w h r made =
    let fed = subst (λ z. AreFeeders z (out-Graph g).edges lists) is w in
    let same : slice_index (node_labels g) s ≡ l = sym (made ∙ ap (λ z. slice_index z s) is) in
    subst (λ z. Contains (node_labels g) z × Reaches g z z) same (circle g lists fed s h r)

pub arranged_orders : (g : Graph) (labels : List ℕ) (lists : Lists) (found : NodeOrder) → IsLinked g → labels ≡ node_labels g →
    AreFeeders labels (out-Graph g).edges lists → Arranges labels lists found → Orders g found
arranged_orders g labels lists (Nodes ls) linked is w (os, sorted, made) = sorted_orders g labels lists os ls linked is w sorted made
arranged_orders g labels lists (Circle l) linked is w (s, h, r, made) = circle_orders g labels lists s l is w h r made
