-- A taker whose other users are nodes.
use Rattle.std.proofs.Common.{◌≡◌, ◌≢◌, ◌∙◌, ℕ, ◌+◌, ◌-◌, ◌<◌, zero, suc, Bool, List, length, get_or, slice_index, slice_index_or, map, All, Contains, arith, sym, ap, subst}
use Rattle.std.proofs.lemmas.List.Elements.{Contains-get_or, All-get_or, All-contains}
use Rattle.if1_graph.specs.declared.graph.Edge.{Edge}
use Rattle.if1_graph.specs.declared.graph.Graph.{Graph}
use Rattle.if1_order.specs.Orders.{node_labels}
use Rattle.if1_order.specs.Walks.{Lists, AreInside}
use Rattle.if1_order.specs.Walks as walks
use Rattle.if1_order.specs.Feeders.{IsPlace}
use Rattle.if1_order.proofs.Orders.{place_contained}
use Rattle.marks_made.specs.Ways.{Links, Leads, link, on}
use Rattle.marks_made.specs.Made.{Orders, links, ordered}
use Rattle.marks_made.specs.Laws.{IsMarkable}
use Rattle.if1_reach.specs.Paths.{IsPath}
use Rattle.if1_reach.specs.Searches.{IsWay}
use Rattle.if1_reach.proofs.Labelled.{path-of, same-default, all-inside}
use Rattle.if1_reach.proofs.Links.{to-places}
use Rattle.take_marks.specs.Standing.{Stands, ArePlaces, IsFree, IsBlockedBy}
use Rattle.take_marks.specs.Ordered.{AreOrdered}
use Rattle.take_marks.specs.Judged.{AreOthers}
use Rattle.take_marks.proofs.Weighed.{nth}

module _ (labels others places items : List ℕ) (are : ArePlaces labels others places) (e : items ≡ places) where
  at : (k d : ℕ) → k < length items → (k < length others) × (slice_index_or items k d ≡ slice_index places k)
  at k d h =
      let lt : k < length places = omega (arith, h, ap length e) in
      (omega (arith, lt, are.fit), ap (λ xs. get_or xs k d) e ∙ sym (same-default places k 0 d lt))

  pub places-all : (n : ℕ) → length labels ≡ n → (k d : ℕ) → k < length items → slice_index_or items k d < n
  places-all n fit k d h = let a = at k d h in let p = (are.are k a.0).0 in omega (arith, a.1, p, fit)

  pub places-other : (t node : ℕ) → IsPlace labels t node → All (λ l. l ≢ node) others → (k d : ℕ) → k < length items → slice_index_or items k d ≢ t
  places-other t node pt other k d h same =
      let a = at k d h in
      All-get_or (λ l. l ≢ node) others k 0 a.0 other (sym (are.are k a.0).1 ∙ (ap (slice_index labels) (sym a.1 ∙ same) ∙ pt.1))

  pub items-are : ArePlaces labels others items
  items-are = subst (ArePlaces labels others) (sym e) are

  pub blocked-inside : (lists slice : Lists) (t : ℕ) (way got : List ℕ) → AreInside lists → slice ≡ lists → length lists ≡ length labels → IsBlockedBy slice t items way → got ≡ way → (k d : ℕ) → k < length got → slice_index_or got k d < length labels
  blocked-inside lists slice t way got inside f fit b g k d h =
      let i : slice_index items b.user < length labels = (items-are.are b.user (omega (arith, b.there, items-are.fit))).0 in
      all-inside lists (length labels) t (slice_index items b.user) way got inside fit i (subst (λ ls. IsWay ls t (slice_index items b.user) way) f b.is) g k d h

-- a path leads where it says
pub path-leads : (ls : Links) (from to : ℕ) (path : List ℕ) → IsPath ls from to path → Leads ls from to
path-leads ls from to path p =
    let n : (length path - 2) + 1 ≡ length path - 1 = omega (arith, p.long) in
    subst (λ a. Leads ls a to) p.first
    (subst (Leads ls (slice_index path 0)) (ap (slice_index path) n ∙ p.last) (along (length path - 2) (omega (arith, p.long))))
  where
    along : (k : ℕ) → k + 1 < length path → Leads ls (slice_index path 0) (slice_index path (k + 1))
    along zero h = link (p.linked 0 h)
    along (suc k) h =
        let same : k + 1 ≡ suc k = omega arith in
        on (subst (λ j. Leads ls (slice_index path 0) (slice_index path j)) same (along k (omega (arith, h)))) (link (p.linked (suc k) h))

module _ (labels others items : List ℕ) (t node : ℕ) (pt : IsPlace labels t node) (are : ArePlaces labels others items) (lists slice : Lists) (f : slice ≡ lists) (befores : List (List ℕ)) where
  module _ (g : Graph) (os : Orders) (e : labels ≡ node_labels g) (o : AreOthers g os others node) (stands : Stands g os lists befores) where
    at-taker : IsPlace (node_labels g) t node
    at-taker = subst (λ ls. IsPlace ls t node) e pt

    there : ArePlaces (node_labels g) others items
    there = subst (λ ls. ArePlaces ls others items) e are

    pub tried-blocked : (way items2 path : List ℕ) → IsBlockedBy slice t items way → items2 ≡ way → path ≡ map (slice_index labels) items2 →
        ((l : ℕ) × Contains others l × IsPath (links g os) node l path) × Stands g os lists befores
    tried-blocked way items2 path b i p =
        let k : b.user < length others = omega (arith, b.there, there.fit) in (
          (
            slice_index others b.user,
            Contains-get_or others b.user 0 k,
            path-of (node_labels g) lists (links g os) stands.net node (slice_index others b.user) t (slice_index items b.user) at-taker (there.are b.user k) items2 path
                (subst (λ ls. IsWay ls t (slice_index items b.user) items2) f (subst (IsWay slice t (slice_index items b.user)) (sym i) b.is)) (p ∙ ap (λ ls. map (slice_index ls) items2) e),
          ),
          stands,
        )

    none : IsFree slice t items → (l : ℕ) → Contains others l → ¬ Leads (links g os) node l
    none free l c w =
        let k = nth others l c in
        free k.0 (omega (arith, k.1, there.fit))
        (subst (λ ls. walks.Leads ls t (slice_index items k.0)) (sym f)
        (to-places (node_labels g) lists (links g os) stands.net o.rising o.linked w t (slice_index items k.0) at-taker (subst (IsPlace (node_labels g) (slice_index items k.0)) k.2 (there.are k.0 k.1))))

    pub tried-taken : (may : Edge → Bool) → IsMarkable g may → IsFree slice t items → All (Contains labels) others → All (λ l. l ≢ node) others → (between new : Lists) (newest : List (List ℕ)) → between ≡ lists → AreOrdered others items t between befores new newest →
        ((l : ℕ) → Contains others l → ¬ Leads (links g os) node l) × Stands g (ordered g node others os) new newest
    tried-taken may ok free all other between new newest same ordered-so = (
      none free,
      ordered-so g may os node ok
          (record {
            rising = o.rising;
            linked = o.linked;
            at = at-taker;
            are = there;
            up = o.up;
            few = o.few;
            ready = record {
              named = o.sound.named;
              acyclic = o.sound.acyclic;
              inner = o.inner;
              taker = place_contained (node_labels g) t node at-taker;
              free = λ l c. (subst (λ ls. Contains ls l) e (All-contains (Contains labels) others l all c), All-contains (λ l. l ≢ node) others l other c, none free l c);
            };
          })
          (subst (λ ls. Stands g os ls befores) (sym same) stands),
    )
