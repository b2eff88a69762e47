-- What least weights tell of the users of a taker.
use Rattle.std.proofs.Common.{◌≡◌, ◌≢◌, ◌∙◌, ℕ, ◌<◌, ◌≤◌, suc, true, List, [], ◌∷◌, length, slice_index, Contains, ◌⊎◌, inl, inr, arith, refl, sym, ap, subst}
use Rattle.std.specs.List.Sorted.{IsStrictlyIncreasing}
use Rattle.std.proofs.lemmas.Bool.{lt-ltb, ltb-true}
use Rattle.std.proofs.lemmas.List.{get_or_default}
use Rattle.std.proofs.lemmas.List.Elements.{Contains-get_or}
use Rattle.if1_graph.specs.declared.graph.Graph.{Graph}
use Rattle.if1_order.specs.Orders.{node_labels}
use Rattle.if1_order.specs.Walks.{Lists}
use Rattle.if1_order.specs.Walks as walks
use Rattle.if1_order.specs.Feeders.{IsPlace}
use Rattle.marks_made.specs.Ways.{Leads}
use Rattle.marks_made.specs.Made.{Orders, links}
use Rattle.if1_reach.specs.Nets.{IsNet, AreLinked}
use Rattle.if1_reach.specs.Least.{IsInStretch, IsOrLeads, AreLeast}
use Rattle.if1_reach.proofs.Links.{to-labels, to-places}
use Rattle.take_marks.specs.Told.{is_light, place_in}
use Rattle.take_marks.specs.Standing.{ArePlaces, AreRising, AreWeights, top}
use Rattle.take_marks.proofs.Entered.{place-found}
use Rattle.take_marks.proofs.Wanted.{IsSorted, IsBelow, IsTold}

pub rising-sorted : (ls : List ℕ) → AreRising ls → IsSorted ls
rising-sorted [] r = tt
rising-sorted (x ∷ xs) r = (
  (λ y (k, h, e). let u = r.up 0 (suc k) (omega arith) (omega (arith, h)) in let v = get_or_default xs k 0 y h ∙ e in omega (arith, u, v)),
  rising-sorted xs (record {
    least = λ k h. r.least (suc k) (omega (arith, h));
    up = λ i j le h. r.up (suc i) (suc j) (omega (arith, le)) (omega (arith, h));
  }),
)

-- which user stands there
pub nth : (ls : List ℕ) (l : ℕ) → Contains ls l → (k : ℕ) × (k < length ls) × (slice_index ls k ≡ l)
nth ls l (k, h, e) = (k, h, get_or_default ls k 0 l h ∙ e)

module _ (g : Graph) (os : Orders) (lists : Lists) (ranks : List ℕ) (up : IsStrictlyIncreasing (node_labels g)) (net : IsNet (node_labels g) lists (links g os)) (linked : AreLinked (node_labels g) (links g os))
    (t taker : ℕ) (pt : IsPlace (node_labels g) t taker) (ls places : List ℕ) (are : ArePlaces (node_labels g) ls places) (rising : AreRising ls) (few : (k : ℕ) → k < length ls → slice_index ls k ≤ top)
    (other : (k : ℕ) → k < length ls → slice_index ls k ≢ taker) (first end : ℕ) (weights least : List ℕ) (weighed : AreWeights lists ranks first end t ls places weights) (l-right : AreLeast lists ranks first end weights least)
    (in-taker : IsInStretch lists ranks first end t) (in-users : (k : ℕ) → k < length ls → IsInStretch lists ranks first end (slice_index places k)) where
  module _ (l k : ℕ) (h : k < length ls) (is : slice_index ls k ≡ l) where
    abbrev x : ℕ
    x = slice_index places k

    px : IsPlace (node_labels g) x l
    px = subst (IsPlace (node_labels g) x) is (are.are k h)

    at : slice_index least (place_in (node_labels g) l) ≡ slice_index least x
    at = ap (slice_index least) (place-found (node_labels g) l x up px)

    by-labels : (y m : ℕ) → IsPlace (node_labels g) y m → walks.Leads lists x y → Leads (links g os) l m
    by-labels y m py w =
        subst (λ a. Leads (links g os) a m) px.1 (subst (λ b. Leads (links g os) (slice_index (node_labels g) x) b) py.1 (to-labels (node_labels g) lists (links g os) net w))

    found : is_light (node_labels g) least l ≡ true → (y : ℕ) × Leads (links g os) l y × IsBelow taker ls l y
    found e =
        let lt = ltb-true (slice_index least (place_in (node_labels g) l)) l e in
        let f = l-right.found x (in-users k h) in
        by f.0 (weighed.others f.0 f.1) f.2 (omega (arith, lt, at, f.3))
      where
        by : (y : ℕ) → (y ≡ t) ⊎ (((j : ℕ) × (j < length ls) × (y ≡ slice_index places j)) ⊎ (slice_index weights y ≡ top)) → IsOrLeads lists x y → slice_index weights y < l → (m : ℕ) × Leads (links g os) l m × IsBelow taker ls l m
        by y (inl e) (inl same) lt = absurd (other k h (sym (are.are k h).1 ∙ (ap (slice_index (node_labels g)) (same ∙ e) ∙ pt.1)))
        by y (inl e) (inr w) lt = (taker, by-labels t taker pt (subst (walks.Leads lists x) e w), inl refl)
        by y (inr (inl (j, i, e))) (inl same) lt =
            let v : slice_index weights y ≡ slice_index ls j = ap (slice_index weights) e ∙ weighed.users j i in
            let z : slice_index ls j ≡ l = sym (are.are j i).1 ∙ (ap (slice_index (node_labels g)) (sym e ∙ sym same) ∙ px.1) in
            absurd (omega (arith, lt, v, z))
        by y (inr (inl (j, i, e))) (inr w) lt =
            let v : slice_index weights y ≡ slice_index ls j = ap (slice_index weights) e ∙ weighed.users j i in
            (slice_index ls j, by-labels (slice_index places j) (slice_index ls j) (are.are j i) (subst (walks.Leads lists x) e w), inr (Contains-get_or ls j 0 i, omega (arith, lt, v)))
        by y (inr (inr e)) o lt = let f = few k h in absurd (omega (arith, lt, e, f, is))

    holds : (m : ℕ) → Leads (links g os) l m → IsBelow taker ls l m → is_light (node_labels g) least l ≡ true
    holds m w (inl e) =
        let one = rising.least k h in
        let b = l-right.below x t (in-users k h) in-taker (inr (to-places (node_labels g) lists (links g os) net up linked (subst (Leads (links g os) l) e w) x t px pt)) in
        lt-ltb (slice_index least (place_in (node_labels g) l)) l (omega (arith, at, b, weighed.taker, one, is))
    holds m w (inr c) =
        let j = nth ls m c.0 in
        let pm : IsPlace (node_labels g) (slice_index places j.0) m = subst (IsPlace (node_labels g) (slice_index places j.0)) j.2 (are.are j.0 j.1) in
        let b = l-right.below x (slice_index places j.0) (in-users k h) (in-users j.0 j.1) (inr (to-places (node_labels g) lists (links g os) net up linked w x (slice_index places j.0) px pm)) in
        let v = weighed.users j.0 j.1 in
        lt-ltb (slice_index least (place_in (node_labels g) l)) l (omega (arith, at, b, v, j.2, c.1))

  pub all-told : (l : ℕ) → Contains ls l → IsTold g os taker ls (is_light (node_labels g) least) l
  all-told l c = let k = nth ls l c in record { found = found l k.0 k.1 k.2; holds = holds l k.0 k.1 k.2 }
