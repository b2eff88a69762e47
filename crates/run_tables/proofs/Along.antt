-- What finished items add, along a history.
use Rattle.std.proofs.Common.{◌≡◌, ℕ, ◌+◌, Bool, true, false, ◌||◌, List, [], ◌∷◌, Option, refl, sym, ap, ◌∙◌, subst, arith}
use Rattle.graph_meaning.specs.Carried.{Carried}
use Rattle.graph_meaning.specs.Entered.{Item, Has, IsWhole as IsGiven, total}
use Rattle.graph_meaning.specs.Demand.{Network, Cut, tree}
use Rattle.graph_meaning.specs.Histories.{Exists, Made, OverLimit, NoMemory, Claim, Idle, Ended, Finish, History, Legal, is_item, is_finished, is_made}
use Rattle.graph_meaning.specs.Storage.{GraphAdds}
use Rattle.graph_meaning.proofs.Counting.{claimed-exists}
use Rattle.graph_meaning.proofs.Depths.{tree-grows}
use Rattle.graph_meaning.proofs.Endings.{results-stand}
use Rattle.graph_meaning.proofs.Growth.{has-grows, whole-grows}
use Rattle.graph_meaning.proofs.ItemSums.{total-add, total-zero, total-same}
use Rattle.graph_meaning.proofs.ItemsOnce.{pick, at, once, is_item-sound}
use Rattle.graph_meaning.proofs.Ranks.{AreRanked, ranked}
use Rattle.graph_meaning.proofs.Theorems.{runs-confluent}
use Rattle.graph_meaning.proofs.Wellformed.{tree-good}
use Rattle.run_tables.specs.Along.{sum_of_made, AreSumsAlong}
use Rattle.run_tables.proofs.Items.{sums-of-items}

or-left : (a b : Bool) → a ≡ true → a || b ≡ true
or-left a b e = ap (λ z. z || b) e

or-right : (a b : Bool) → b ≡ true → a || b ≡ true
or-right true b e = refl
or-right false b e = e

or-case : (a b : Bool) (P : Type 0) → (a ≡ true → P) → (b ≡ true → P) → a || b ≡ true → P
or-case true b P f g e = f refl
or-case false b P f g e = g e

made-finished : (h : History) (i : Item) → is_made h i ≡ true → is_finished h i ≡ true
made-finished [] i e = e
made-finished (Claim w j ∷ h) i e = made-finished h i e
made-finished (Idle w ∷ h) i e = made-finished h i e
made-finished (Ended w k ∷ h) i e = made-finished h i e
made-finished (Finish w j (Made n) ∷ h) i e =
    let before = made-finished h i in
    or-case (is_item i j) (is_made h i) (is_item i j || is_finished h i ≡ true) (or-left (is_item i j) (is_finished h i)) (λ x. or-right (is_item i j) (is_finished h i) (before x)) e
made-finished (Finish w j OverLimit ∷ h) i e = or-right (is_item i j) (is_finished h i) (made-finished h i e)
made-finished (Finish w j NoMemory ∷ h) i e = or-right (is_item i j) (is_finished h i) (made-finished h i e)

not-made : (a b : Bool) → (a ≡ true → b ≡ true) → b ≡ false → a ≡ false
not-made false b f e = refl
not-made true b f e = absurd (clash (sym (f refl) ∙ e))
  where
    clash : true ≡ false → ⊥
    clash e = cc

module _ (cut : Cut) (u : Network) (ready : AreRanked u) (g : ℕ) (ins : List Carried) (limit n : ℕ) (whole : IsGiven (tree cut n u g ins)) (adds : Item → ℕ) where
  -- a whole tree has all items of the run
  in-whole : (i : Item) → Exists (λ m. tree cut m u g ins) i → (x : Option ℕ) × Has (tree cut n u g ins) i x
  in-whole i ex =
      let m = ex.0 + n in
      let y = has-grows (tree-grows cut ex.0 m (omega arith) u g ins) i ex.1 ex.2 in
      (y.0, subst (λ f. Has f i y.0) (sym (whole-grows (tree-grows cut n m (omega arith) u g ins) whole)) y.1)

  one-more : (j : Item) (t : Item → Bool) (x : Option ℕ) → t j ≡ false → Has (tree cut n u g ins) j x
      → total (tree cut n u g ins) (λ i o. pick (is_item i j || t i) (adds i)) ≡ adds j + total (tree cut n u g ins) (λ i o. pick (t i) (adds i))
  one-more j t x fresh has =
      let same = total-same (tree cut n u g ins) (λ i o. pick (is_item i j || t i) (adds i)) (λ i o. at j (λ z. adds j) i o + pick (t i) (adds i)) (λ i o y. each i (is_item i j) (is_item-sound i j)) in
      let both = total-add (tree cut n u g ins) (at j (λ z. adds j)) (λ i o. pick (t i) (adds i)) in
      let own = once (tree cut n u g ins) (tree-good cut u ready n g ins).distinct j x (λ z. adds j) has in
      omega (arith, same, both, own)
    where
      none : (i : Item) → i ≡ j → pick (t i) (adds i) ≡ 0
      none i e = ap (λ b. pick b (adds i)) (ap t e ∙ fresh)

      each : (i : Item) (b : Bool) → (b ≡ true → i ≡ j) → pick (b || t i) (adds i) ≡ pick b (adds j) + pick (t i) (adds i)
      each i true e = let a = ap adds (e refl) in let z = none i (e refl) in omega (arith, a, z)
      each i false e = omega arith

  made-total : (h : History) → Legal (λ m. tree cut m u g ins) limit h → sum_of_made adds h ≡ total (tree cut n u g ins) (λ i o. pick (is_made h i) (adds i))
  made-total [] l = sym (total-zero (tree cut n u g ins) (λ i o. 0) (λ i o y. refl))
  made-total (Claim w j ∷ h) l = made-total h l.0
  made-total (Idle w ∷ h) l = made-total h l.0
  made-total (Ended w k ∷ h) l = made-total h l.0
  made-total (Finish w j (Made c) ∷ h) l =
      let x = in-whole j (claimed-exists (λ m. tree cut m u g ins) limit h l.0 w j l.1.0) in
      let more = made-total h l.0 in
      let sum = one-more j (is_made h) x.0 (not-made (is_made h j) (is_finished h j) (made-finished h j) l.1.1) x.1 in
      omega (arith, more, sum)
  made-total (Finish w j OverLimit ∷ h) l = made-total h l.0
  made-total (Finish w j NoMemory ∷ h) l = made-total h l.0

pub sums-along : AreSumsAlong
sums-along cut u w g ins rs limit h adds is-cut orderly legal ended results own =
    let all = (results-stand (λ m. tree cut m u g ins) limit h legal ended).1 in
    let cost = (runs-confluent cut u g ins limit is-cut orderly).count_is_cost h legal ended in
    let n = cost.0 in
    let made = made-total cut u (ranked u orderly) g ins limit n cost.1 adds h legal in
    let same = total-same (tree cut n u g ins) (λ i o. pick (is_made h i) (adds i)) (λ i o. adds i) (λ i o y. ap (λ b. pick b (adds i)) (all i (n, o, y))) in
    let a = sums-of-items cut u w g ins rs n adds is-cut orderly cost.1 results (λ i o y. own i (n, o, y)) in
    let e : total (tree cut n u g ins) (λ i o. adds i) ≡ sum_of_made adds h = sym same ∙ sym made in
    (a.0, subst (λ z. GraphAdds u w a.0 g ins (w.of_results g rs + z)) e a.1)
