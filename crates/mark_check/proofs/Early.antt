-- Which users come before a taker, by places and by labels.
use Rattle.std.proofs.Common.{◌≡◌, ◌≢◌, ◌∙◌, ◌↔◌, ℕ, ◌+◌, ◌<◌, ◌≤◌, Bool, true, List, [], suc, replicate, length, set, slice_index, take, Option, Some, None, IsSome, inl, inr, Contains, arith, refl, sym, ap, subst, ◌==◌}
use Rattle.std.specs.List.Sorted.{IsStrictlyIncreasing}
use Rattle.std.proofs.lemmas.Bool.{cases_eq, cases_lt}
use Rattle.std.proofs.lemmas.List.{get_or-set_same, get_or-set_other, get_or_past, get_or-replicate, take_more, take_all, length-set, length-replicate}
use Rattle.std.proofs.lemmas.List.Elements.{Contains-push_cases}
use Rattle.if1_graph.specs.declared.graph.Graph.{Graph}
use Rattle.if1_graph.specs.declared.graph.Graph.TheViews.{out-Graph}
use Rattle.if1_graph.specs.declared.graph.Node.{Node}
use Rattle.if1_graph.specs.Units.{label_of, node_at}
use Rattle.if1_order.specs.Orders.{node_labels}
use Rattle.if1_order.specs.Walks.{Lists, Leads, step, feeders_of}
use Rattle.if1_order.specs.Feeders.{IsPlace}
use Rattle.if1_order.proofs.Orders.{contained_place, place_contained, same_place}
use Rattle.if1_marks.specs.Orders.{Precedes, fed, listed, between, ComesBefore, led, at_the_end}
use Rattle.if1_marks.proofs.Lists.{in-mapped, found-in}
use Rattle.if1_marks.proofs.Tests.{same-number}
use Rattle.if1_reach.specs.declared.ranks.Ranks.{Ranks}
use Rattle.if1_reach.specs.Ranks.{IsRanked}
use Rattle.if1_reach.specs.Least.{IsInStretch, IsOrLeads, AreLeast}
use Rattle.if1_reach.proofs.Ranking.{leads-up}
use Rattle.mark_check.specs.declared.late.Scratch.{Scratch}
use Rattle.mark_check.specs.Entries.{IsNetOf}
use Rattle.mark_check.specs.Least.{IsLeast, IsAmong}
use Rattle.mark_check.specs.Late.{IsInOrder, IsLow, AreCleared, AreTold, IsEarly, IsLate, IsAfter, AreStamps, IsScratch, AreStamped}
use Rattle.mark_check.proofs.Lesser.{least-same}
use Rattle.mark_check.proofs.Wrong.{by-places, by-labels}

-- ---- what comes before a node is a node

module _ (g : Graph) (o : IsInOrder g) where
  source : {l m : ℕ} → Precedes g l m → Contains (node_labels g) l
  source (fed {l = l} {m = m} f) = (o.linked.linked l m f).0
  source (listed {l = l} {m = m} n e c) = labelled l (node_at (out-Graph g).nodes l) refl (o.named n l (found-in (λ n. label_of n == m) (out-Graph g).nodes n e).0 c)
    where
      labelled : (l : ℕ) (found : Option Node) → node_at (out-Graph g).nodes l ≡ found → IsSome (node_at (out-Graph g).nodes l) → Contains (node_labels g) l
      labelled l None e some = absurd (nowhere (node_at (out-Graph g).nodes l) e some)
        where
          nowhere : (a : Option Node) → a ≡ None → IsSome a → ⊥
          nowhere None e some = absurd cc
          nowhere (Some n) e some = absurd cc
      labelled l (Some n) e some =
          let r = found-in (λ n. label_of n == l) (out-Graph g).nodes n e in
          subst (Contains (node_labels g)) (same-number (label_of n) l r.1) (in-mapped label_of (out-Graph g).nodes n r.0)
  source (between a b) = source a

  pub none-after-end : (users : List ℕ) → IsLeast (IsAmong users (IsAfter g 0)) None
  none-after-end users = λ m w. w.1.1 (at_the_end w.1.0)

  before-node : {l m : ℕ} → m ≢ 0 → ComesBefore g l m → Precedes g l m
  before-node ne (led p) = p
  before-node ne (at_the_end x) = absurd (ne refl)

  module _ (labels : List ℕ) (lists : Lists) (w : IsNetOf g labels lists) (r : Ranks) (ranked : IsRanked lists r) (taker node : ℕ) (pt : IsPlace labels taker node) (users : List ℕ) (first : ℕ) (low : IsLow labels r.ranks users first)
      (weights : List ℕ) (t : AreTold lists r.ranks first taker weights) where
    no-end : node ≢ 0
    no-end e = o.inner (subst (Contains (node_labels g)) e (subst (λ ls. Contains ls node) w.is (place_contained labels taker node pt)))

    inside : (x l : ℕ) → IsPlace labels x l → x < length lists
    inside x l p = omega (arith, p.0, w.net.fit, ap length w.is)

    early-before : (l : ℕ) → Contains users l → IsEarly labels r.ranks weights taker l → ComesBefore g l node
    early-before l c e =
        let v = (t.told e.0 (inside e.0 l e.1) (low l e.0 c e.1) e.2).0 e.3 in
        led (subst (λ a. Precedes g a node) e.1.1 (by-labels g labels lists w e.0 taker node e.1.0 pt v))

    before-early : (l : ℕ) → Contains users l → ComesBefore g l node → IsEarly labels r.ranks weights taker l
    before-early l c b =
        let p = before-node no-end b in
        let x = contained_place labels l (subst (λ ls. Contains ls l) (sym w.is) (source p)) in
        let v = by-places g labels lists w p x.0 taker (subst (λ ls. IsPlace ls x.0 l) w.is x.1) (subst (λ ls. IsPlace ls taker node) w.is pt) in
        let lt = leads-up lists r ranked v in
        (x.0, x.1, lt, (t.told x.0 (inside x.0 l x.1) (low l x.0 c x.1) lt).1 v)

    pub late-after : (found : Option ℕ) → IsLeast (IsAmong users (IsLate labels r.ranks weights taker node)) found → IsLeast (IsAmong users (IsAfter g node)) found
    late-after found =
        least-same (IsAmong users (IsLate labels r.ranks weights taker node)) (IsAmong users (IsAfter g node))
        (λ l x. (x.0, (x.1.0, λ b. x.1.1 (before-early l x.0 b))))
        (λ l x. (x.0, (x.1.0, λ e. x.1.1 (early-before l x.0 e))))
        found

-- ---- what the weights tell

pub told-by : (lists : Lists) (r : Ranks) → IsRanked lists r → (first taker end : ℕ) → end ≡ slice_index r.ranks taker + 1 → taker < length lists → first ≤ slice_index r.ranks taker →
    (old cleared weighed least : List ℕ) → length old ≡ length lists → AreCleared r.order first end old cleared → weighed ≡ set cleared taker 0 → AreLeast lists r.ranks first end weighed least → AreTold lists r.ranks first taker least
told-by lists r ranked first taker end e there le old cleared weighed least fit c is w =
    record {
      fit = w.fit;
      told = λ x h from lt. (zero-leads x (in-stretch x h from lt), leads-zero x (in-stretch x h from lt));
    }
  where
    in-stretch : (x : ℕ) → x < length lists → first ≤ slice_index r.ranks x → slice_index r.ranks x < slice_index r.ranks taker → IsInStretch lists r.ranks first end x × (slice_index r.ranks x < slice_index r.ranks taker)
    in-stretch x h from lt = (record { there = h; from = from; to = omega (arith, lt, e) }, lt)

    taker-in : IsInStretch lists r.ranks first end taker
    taker-in = record { there = there; from = le; to = omega (arith, e) }

    zero : slice_index weighed taker ≡ 0
    zero = ap (λ xs. slice_index xs taker) is ∙ get_or-set_same cleared taker 0 0 (omega (arith, there, fit, c.fit))

    one : (y : ℕ) → IsInStretch lists r.ranks first end y → y ≢ taker → slice_index weighed y ≡ 1
    one y h ne =
        ap (λ xs. slice_index xs y) is
        ∙ (get_or-set_other cleared taker y 0 0 ne
        ∙ (ap (slice_index cleared) (sym (ranked.stands y h.there)) ∙ c.clear (slice_index r.ranks y) h.from h.to))

    zero-leads : (x : ℕ) → IsInStretch lists r.ranks first end x × (slice_index r.ranks x < slice_index r.ranks taker) → slice_index least x ≡ 0 → Leads lists x taker
    zero-leads x s z =
        let f = w.found x s.0 in
        elim (cases_eq f.0 taker) [
          | inl same ↦ by f.0 same f.2
          | inr ne ↦ absurd (omega (arith, z, f.3, one f.0 f.1 ne))
        ]
      where
        by : (y : ℕ) → y ≡ taker → IsOrLeads lists x y → Leads lists x taker
        by y same (inl eq) = absurd (omega (arith, s.1, ap (slice_index r.ranks) (eq ∙ same)))
        by y same (inr v) = subst (Leads lists x) same v

    leads-zero : (x : ℕ) → IsInStretch lists r.ranks first end x × (slice_index r.ranks x < slice_index r.ranks taker) → Leads lists x taker → slice_index least x ≡ 0
    leads-zero x s v = let b = w.below x taker s.0 taker-in (inr v) in omega (arith, b, zero)

-- ---- the lowest rank

pub low-none : (labels ranks users : List ℕ) (n first : ℕ) → n ≡ 0 → IsLow labels ranks (take n users) first
low-none labels ranks users n first e l x c p = absurd (empty (subst (λ k. Contains (take k users) l) e c))
  where
    empty : {m : ℕ} → Contains [] m → ⊥
    empty c = omega (arith, c.1)

pub low-more : (labels ranks users : List ℕ) (n : ℕ) → n < length users → (was now rank : ℕ) → now ≤ was → now ≤ rank → ((x : ℕ) → IsPlace labels x (slice_index users n) → rank ≡ slice_index ranks x) → IsLow labels ranks (take n users) was → IsLow labels ranks (take (n + 1) users) now
low-more labels ranks users n h was now rank down this is low l x c p =
    elim (Contains-push_cases (take n users) (slice_index users n) l (subst (λ xs. Contains xs l) (take_more users n 0 h) c)) [
      | inl old ↦ let r = low l x old p in omega (arith, r, down)
      | inr new ↦ let r = is x (subst (IsPlace labels x) (sym new) p) in omega (arith, r, this)
    ]

pub low-all : (labels ranks users : List ℕ) (n first : ℕ) → length users ≤ n → IsLow labels ranks (take n users) first → IsLow labels ranks users first
low-all labels ranks users n first h low = subst (λ xs. IsLow labels ranks xs first) (take_all n users h) low

-- ---- places of labels

pub rank-there : (labels : List ℕ) → IsStrictlyIncreasing labels → (ranks : List ℕ) (k l : ℕ) → IsPlace labels k l → (x : ℕ) → IsPlace labels x l → slice_index ranks k ≡ slice_index ranks x
rank-there labels up ranks k l p x q = ap (slice_index ranks) (same_place labels k x up p.0 q.0 (p.1 ∙ sym q.1))

pub early-there : (labels : List ℕ) → IsStrictlyIncreasing labels → (ranks weights : List ℕ) (taker k l : ℕ) → IsPlace labels k l → (b : Bool) → (b ≡ true ↔ (slice_index ranks k < slice_index ranks taker) × (slice_index weights k ≡ 0)) → b ≡ true ↔ IsEarly labels ranks weights taker l
early-there labels up ranks weights taker k l p b h = (
  (λ t. (k, p, (h.0 t).0, (h.0 t).1)),
  (λ e.
      let same : k ≡ e.0 = same_place labels k e.0 up p.0 e.1.0 (p.1 ∙ sym e.1.1) in
      h.1 (subst (λ z. slice_index ranks z < slice_index ranks taker) (sym same) e.2, ap (slice_index weights) same ∙ e.3)),
)

-- ---- stamps

pub no-scratch : (s : Scratch) (n : ℕ) → s.weights ≡ replicate n 0 → s.stamps ≡ replicate n 0 → (lists : Lists) → length lists ≡ n → IsScratch lists s
no-scratch s n e f lists fit =
    record {
      weights = ap length e ∙ (length-replicate n 0 ∙ sym fit);
      stamps = ap length f ∙ (length-replicate n 0 ∙ sym fit);
      right = λ x t is. absurd (omega (arith, is, ap (λ xs. slice_index xs x) f ∙ zeros n x));
    }
  where
    zeros : (n x : ℕ) → slice_index (replicate n 0) x ≡ 0
    zeros n x =
        elim (cases_lt x n) [
          | inl lt ↦ get_or-replicate n x 0 0 lt
          | inr ge ↦ get_or_past (replicate n 0) x 0 (omega (arith, ge, length-replicate {A = ℕ} n 0))
        ]

pub stamped-more : (lists : Lists) (stamps : List ℕ) (taker mark place : ℕ) → AreStamps lists stamps → mark ≡ suc taker → Contains (feeders_of lists taker) place → (new : List ℕ) → new ≡ set stamps place mark → AreStamps lists new
stamped-more lists stamps taker mark place right is c new e x t h =
    elim (cases_eq x place) [
      | inl same ↦ by same
      | inr ne ↦ right x t (sym (get_or-set_other stamps place x mark 0 ne) ∙ (ap (λ xs. slice_index xs x) (sym e) ∙ h))
    ]
  where
    by : x ≡ place → Contains (feeders_of lists t) x
    by same =
        elim (cases_lt place (length stamps)) [
          | inl lt ↦
              let at : slice_index new place ≡ suc taker = ap (λ xs. slice_index xs place) e ∙ (get_or-set_same stamps place mark 0 lt ∙ is) in
              let same-taker : taker ≡ t = omega (arith, at, ap (slice_index new) same, h) in
              subst (λ k. Contains (feeders_of lists k) x) same-taker (subst (Contains (feeders_of lists taker)) (sym same) c)
          | inr ge ↦ absurd (omega (arith, h, ap (λ xs. slice_index xs x) e ∙ get_or-set_past x same ge))
        ]
      where
        get_or-set_past : (x : ℕ) → x ≡ place → length stamps ≤ place → slice_index (set stamps place mark) x ≡ 0
        get_or-set_past x same ge = get_or_past (set stamps place mark) x 0 (omega (arith, same, ge, length-set stamps place mark))

-- from all other users links lead straight to the taker
pub direct-before : (g : Graph) (labels : List ℕ) (lists : Lists) → IsNetOf g labels lists → (stamps users : List ℕ) (taker node mark : ℕ) → IsPlace labels taker node → AreStamps lists stamps → mark ≡ suc taker → AreStamped labels stamps users node mark →
    IsLeast (IsAmong users (IsAfter g node)) None
direct-before g labels lists w stamps users taker node mark pt right is all =
    λ l x.
    let r = all l x.0 x.1.0 in
    x.1.1 (led (subst (λ a. Precedes g a node) r.1.1 (by-labels g labels lists w r.0 taker node r.1.0 pt (step (right r.0 taker (r.2 ∙ is))))))
