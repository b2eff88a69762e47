-- A bound on the claims of a legal history.
use Rattle.std.proofs.Common.{◌≡◌, ℕ, ◌+◌, ◌*◌, ◌-◌, ◌≤◌, Bool, true, false, ◌||◌, List, [], ◌∷◌, length, Option, inl, inr, refl, sym, ap, ◌∙◌, subst, arith}
use Rattle.std.proofs.lemmas.List.{length-map}
use Rattle.std.proofs.lemmas.List.FromFn.{length-map-range_with_len}
use Rattle.forall_slicer.specs.Slices.{slices, slice_count, nth_slice}
use Rattle.graph_meaning.specs.Carried.{Carried}
use Rattle.graph_meaning.specs.Entered.{Item, Node, Entry, Slice, Leave, Inside, Has, total}
use Rattle.graph_meaning.specs.Demand.{Network, Cut, IsCut, tree}
use Rattle.graph_meaning.specs.Histories.{Run, Exists, Follows, Made, OverLimit, NoMemory, Claim, Idle, Ended, Finish, History, Legal, ClaimedBy, is_item, is_claimed, is_finished, is_made, count, early}
use Rattle.graph_meaning.proofs.Counting.{claimed-by}
use Rattle.graph_meaning.proofs.Depths.{tree-grows}
use Rattle.graph_meaning.proofs.Growth.{has-grows}
use Rattle.graph_meaning.proofs.ItemSums.{total-add, total-mono, total-zero, total-same}
use Rattle.graph_meaning.proofs.ItemsOnce.{pick, at, once, is_item-sound}
use Rattle.graph_meaning.proofs.Ranks.{AreRanked, ranked}
use Rattle.graph_meaning.proofs.Wellformed.{tree-good}
use Rattle.run_states.specs.Sliced.{iterations_of, sliced}
use Rattle.run_states.proofs.Sliced.{slices-cut}
use Rattle.run_tables.specs.Bounds.{claims_in, finishes_in, AreFew, AreBounded, AreClaimsBounded, AreSlicesFew, AreWorkersBounded}
use Rattle.run_tables.proofs.Trees.{tree-few}
use Rattle.run_tables.proofs.Sums.{pays, graph-paid}

-- ---- what was claimed

or-right : (a b : Bool) → b ≡ true → a || b ≡ true
or-right true b e = refl
or-right false b e = e

or-case : (a b : Bool) (P : Type 0) → (a ≡ true → P) → (b ≡ true → P) → a || b ≡ true → P
or-case true b P f g e = f refl
or-case false b P f g e = g e

pub made-claimed : (run : Run) (limit : ℕ) (h : History) → Legal run limit h → (i : Item) → is_made h i ≡ true → is_claimed h i ≡ true
made-claimed run limit [] g i m = m
made-claimed run limit (Claim w j ∷ h) g i m = or-right (is_item i j) (is_claimed h i) (made-claimed run limit h g.0 i m)
made-claimed run limit (Idle w ∷ h) g i m = made-claimed run limit h g.0 i m
made-claimed run limit (Ended w k ∷ h) g i m = made-claimed run limit h g.0 i m
made-claimed run limit (Finish w j (Made n) ∷ h) g i m =
    let before = made-claimed run limit h g.0 i in
    or-case (is_item i j) (is_made h i) (is_claimed h i ≡ true) (λ e. ap (is_claimed h) (is_item-sound i j e) ∙ claimed-by h w j g.1.0) before m
made-claimed run limit (Finish w j OverLimit ∷ h) g i m = made-claimed run limit h g.0 i m
made-claimed run limit (Finish w j NoMemory ∷ h) g i m = made-claimed run limit h g.0 i m

-- what a claimed item comes after was claimed
pub claimed-closed : (run : Run) (limit : ℕ) (h : History) → Legal run limit h → (i j : Item) → Follows run i j → is_claimed h i ≡ true → is_claimed h j ≡ true
claimed-closed run limit [] g i j f c = c
claimed-closed run limit (Claim w k ∷ h) g i j f c =
    let before = claimed-closed run limit h g.0 i j f in
    or-right (is_item j k) (is_claimed h j)
    (or-case (is_item i k) (is_claimed h i) (is_claimed h j ≡ true) (λ e. made-claimed run limit h g.0 j (g.1.1.2 j (subst (λ z. Follows run z j) (is_item-sound i k e) f))) before c)
claimed-closed run limit (Idle w ∷ h) g i j f c = claimed-closed run limit h g.0 i j f c
claimed-closed run limit (Ended w k ∷ h) g i j f c = claimed-closed run limit h g.0 i j f c
claimed-closed run limit (Finish w k o ∷ h) g i j f c = claimed-closed run limit h g.0 i j f c

-- ---- sums over the claims

abbrev sum_of : (Item → ℕ) → History → ℕ
sum_of v [] = 0
sum_of v (Claim w i ∷ h) = v i + sum_of v h
sum_of v (_ ∷ h) = sum_of v h

ones : (h : History) → claims_in h ≡ sum_of (λ i. 1) h
ones [] = refl
ones (Claim w i ∷ h) = let a = ones h in omega (arith, a)
ones (Idle w ∷ h) = ones h
ones (Ended w k ∷ h) = ones h
ones (Finish w i o ∷ h) = ones h

pays-times : (each : ℕ) (i : Item) → pays each i ≡ each * early i
pays-times each (Node l) = omega arith
pays-times each (Entry true l k) = omega arith
pays-times each (Entry false l k) = omega arith
pays-times each (Slice l k r) = omega arith
pays-times each (Leave l) = omega arith
pays-times each (Inside l k i) = pays-times each i

pub times-add : (a b c : ℕ) → a * (b + c) ≡ a * b + a * c
times-add a b c = nlinear
  where
    nlinear : a * (b + c) ≡ a * b + a * c
    nlinear = grind arith

pays-sum : (each : ℕ) (h : History) → sum_of (pays each) h ≡ each * sum_of early h
pays-sum each [] = omega arith
pays-sum each (Claim w i ∷ h) = let a = pays-times each i in let b = pays-sum each h in let c = times-add each (early i) (sum_of early h) in omega (arith, a, b, c)
pays-sum each (Idle w ∷ h) = pays-sum each h
pays-sum each (Ended w k ∷ h) = pays-sum each h
pays-sum each (Finish w i o ∷ h) = pays-sum each h

early-counted : (h : History) → sum_of early h ≤ count h
early-counted [] = omega arith
early-counted (Claim w i ∷ h) = let a = early-counted h in omega (arith, a)
early-counted (Idle w ∷ h) = early-counted h
early-counted (Ended w k ∷ h) = early-counted h
early-counted (Finish w i (Made n) ∷ h) = let a = early-counted h in omega (arith, a)
early-counted (Finish w i OverLimit ∷ h) = early-counted h
early-counted (Finish w i NoMemory ∷ h) = early-counted h

early-limited : (run : Run) (limit : ℕ) (h : History) → Legal run limit h → sum_of early h ≤ limit
early-limited run limit [] g = omega arith
early-limited run limit (Claim w i ∷ h) g = let a = early-counted h in let b = g.1.2 in omega (arith, a, b)
early-limited run limit (Idle w ∷ h) g = early-limited run limit h g.0
early-limited run limit (Ended w k ∷ h) g = early-limited run limit h g.0
early-limited run limit (Finish w i o ∷ h) g = early-limited run limit h g.0

pub times-mono : (a b c : ℕ) → b ≤ c → a * b ≤ a * c
times-mono a b c le =
    let d = c - b in
    let e : c ≡ b + d = omega (arith, le) in
    let f : a * c ≡ a * b + a * d = ap (λ z. a * z) e ∙ times-add a b d in
    omega (arith, f)

finished-claimed : (run : Run) (limit : ℕ) (h : History) → Legal run limit h → (i : Item) → is_finished h i ≡ true → is_claimed h i ≡ true
finished-claimed run limit [] g i f = f
finished-claimed run limit (Claim w j ∷ h) g i f = or-right (is_item i j) (is_claimed h i) (finished-claimed run limit h g.0 i f)
finished-claimed run limit (Idle w ∷ h) g i f = finished-claimed run limit h g.0 i f
finished-claimed run limit (Ended w k ∷ h) g i f = finished-claimed run limit h g.0 i f
finished-claimed run limit (Finish w j o ∷ h) g i f =
    let before = finished-claimed run limit h g.0 i in
    or-case (is_item i j) (is_finished h i) (is_claimed h i ≡ true) (λ e. ap (is_claimed h) (is_item-sound i j e) ∙ claimed-by h w j g.1.0) before f

fewer : (a b : Bool) → (a ≡ true → b ≡ true) → pick a 1 ≤ pick b 1
fewer true b h = let e = ap (λ z. pick z 1) (h refl) in omega (arith, e)
fewer false b h = omega arith

module _ (cut : Cut) (u : Network) (ready : AreRanked u) (g : ℕ) (ins : List Carried) (limit : ℕ) where
  abbrev run : Run
  run n = tree cut n u g ins

  -- a depth that shows all that was claimed
  abbrev far : (h : History) → Legal run limit h → ℕ
  far [] l = 0
  far (Claim w j ∷ h) l = l.1.1.0.0 + far h l.0
  far (Idle w ∷ h) l = far h l.0
  far (Ended w k ∷ h) l = far h l.0
  far (Finish w j o ∷ h) l = far h l.0

  -- a sum with one more item
  one-more : (v : Item → ℕ) (j : Item) (t : Item → Bool) (m : ℕ) (w : Option ℕ) → t j ≡ false → Has (run m) j w → total (run m) (λ i x. pick (is_item i j || t i) (v i)) ≡ v j + total (run m) (λ i x. pick (t i) (v i))
  one-more v j t m w fresh has =
      let same = total-same (run m) (λ i x. pick (is_item i j || t i) (v i)) (λ i x. at j (λ z. v j) i x + pick (t i) (v i)) (λ i x y. each i (is_item i j) (is_item-sound i j)) in
      let both = total-add (run m) (at j (λ z. v j)) (λ i x. pick (t i) (v i)) in
      let own = once (run m) (tree-good cut u ready m g ins).distinct j w (λ z. v j) has in
      omega (arith, same, both, own)
    where
      none : (i : Item) → i ≡ j → pick (t i) (v i) ≡ 0
      none i e = ap (λ b. pick b (v i)) (ap t e ∙ fresh)

      each : (i : Item) (b : Bool) → (b ≡ true → i ≡ j) → pick (b || t i) (v i) ≡ pick b (v j) + pick (t i) (v i)
      each i true e = let a = ap v (e refl) in let z = none i (e refl) in omega (arith, a, z)
      each i false e = omega arith

  there : (i : Item) → (ex : Exists run i) → (m : ℕ) → ex.0 ≤ m → (w : Option ℕ) × Has (run m) i w
  there i ex m le = let x = has-grows (tree-grows cut ex.0 m le u g ins) i ex.1 ex.2 in (x.0, x.1)

  -- a sum over the claims is one over the claimed items of a tree
  claims-total : (v : Item → ℕ) (h : History) (l : Legal run limit h) (m : ℕ) → far h l ≤ m → sum_of v h ≡ total (run m) (λ i x. pick (is_claimed h i) (v i))
  claims-total v [] l m le = sym (total-zero (run m) (λ i x. 0) (λ i x y. refl))
  claims-total v (Claim w j ∷ h) l m le =
      let x = there j l.1.1.0 m (omega (arith, le)) in
      let more = claims-total v h l.0 m (omega (arith, le)) in
      let sum = one-more v j (is_claimed h) m x.0 l.1.1.1 x.1 in
      omega (arith, more, sum)
  claims-total v (Idle w ∷ h) l m le = claims-total v h l.0 m le
  claims-total v (Ended w k ∷ h) l m le = claims-total v h l.0 m le
  claims-total v (Finish w j o ∷ h) l m le = claims-total v h l.0 m le

  claimed-there : (h : History) (l : Legal run limit h) (m : ℕ) → far h l ≤ m → (w : ℕ) (i : Item) → ClaimedBy h w i → (x : Option ℕ) × Has (run m) i x
  claimed-there [] l m le w i c = absurd c
  claimed-there (Claim v j ∷ h) l m le w i (inl c) = let x = there j l.1.1.0 m (omega (arith, le)) in (x.0, subst (λ z. Has (run m) z x.0) c.1 x.1)
  claimed-there (Claim v j ∷ h) l m le w i (inr c) = claimed-there h l.0 m (omega (arith, le)) w i c
  claimed-there (Idle v ∷ h) l m le w i c = claimed-there h l.0 m le w i c
  claimed-there (Ended v k ∷ h) l m le w i c = claimed-there h l.0 m le w i c
  claimed-there (Finish v j o ∷ h) l m le w i c = claimed-there h l.0 m le w i c

  finishes-total : (h : History) (l : Legal run limit h) (m : ℕ) → far h l ≤ m → finishes_in h ≡ total (run m) (λ i x. pick (is_finished h i) 1)
  finishes-total [] l m le = sym (total-zero (run m) (λ i x. 0) (λ i x y. refl))
  finishes-total (Claim w j ∷ h) l m le = finishes-total h l.0 m (omega (arith, le))
  finishes-total (Idle w ∷ h) l m le = finishes-total h l.0 m le
  finishes-total (Ended w k ∷ h) l m le = finishes-total h l.0 m le
  finishes-total (Finish w j o ∷ h) l m le =
      let x = claimed-there h l.0 m le w j l.1.0 in
      let more = finishes-total h l.0 m le in
      let sum = one-more (λ i. 1) j (is_finished h) m x.0 l.1.1 x.1 in
      omega (arith, more, sum)

  module _ (slices : ℕ) (is-cut : IsCut cut) (few : AreFew slices cut) (h : History) (legal : Legal run limit h) where
    abbrev depth : ℕ
    depth = far h legal

    paid-for : claims_in h ≤ (slices + 3) * sum_of early h
    paid-for =
        let a = ones h in
        let b = claims-total (λ i. 1) h legal depth (omega arith) in
        let c = claims-total (pays (slices + 3)) h legal depth (omega arith) in
        let d = graph-paid slices (is_claimed h) (run depth) (run depth) (tree-few cut slices is-cut few u depth g ins) (λ i j x. claimed-closed run limit h legal i j (depth, x)) in
        let e = pays-sum (slices + 3) h in
        omega (arith, a, b, c, d, e)

    finished-most : finishes_in h ≤ claims_in h
    finished-most =
        let a = ones h in
        let b = claims-total (λ i. 1) h legal depth (omega arith) in
        let c = finishes-total h legal depth (omega arith) in
        let d = total-mono (run depth) (λ i x. pick (is_finished h i) 1) (λ i x. pick (is_claimed h i) 1) (λ i x y. fewer (is_finished h i) (is_claimed h i) (finished-claimed run limit h legal i)) in
        omega (arith, a, b, c, d)

    pub bounded : AreBounded (slices + 3) limit h
    bounded =
        record {
          counted = let a = times-mono (slices + 3) (sum_of early h) (count h) (early-counted h) in omega (arith, a, paid-for);
          limited = let a = times-mono (slices + 3) (sum_of early h) limit (early-limited run limit h legal) in omega (arith, a, paid-for);
          finished = finished-most;
        }

pub claims-bounded : AreClaimsBounded
claims-bounded cut slices u g ins limit h is-cut few orderly legal = bounded cut u (ranked u orderly) g ins limit slices is-cut few h legal

pub slices-few : AreSlicesFew
slices-few workers rows =
    let a = length-map (slices (length rows) workers) (iterations_of rows) in
    let b = length-map-range_with_len (nth_slice (length rows) (slice_count (length rows) workers)) 0 (slice_count (length rows) workers) in
    omega (arith, a, b)

pub workers-bounded : AreWorkersBounded
workers-bounded workers u g ins limit h some orderly legal = claims-bounded (sliced workers) (4 * workers) u g ins limit h (slices-cut workers some) (slices-few workers) orderly legal
