-- Confluence, and never stuck, of a run whose trees grow with the depth.
use Rattle.std.proofs.Common.{◌≡◌, ℕ, suc, ◌+◌, ◌<◌, ◌≤◌, Bool, true, false, ◌||◌, [], ◌∷◌, length, Option, Some, None, ◌⊎◌, inl, inr, refl, sym, ap, ◌∙◌, subst, arith}
use Rattle.graph_meaning.specs.Entered.{Item, Has, ComesAfter, IsWhole, total, all_firings}
use Rattle.graph_meaning.specs.Histories.{Run, Exists, OwnFirings, Follows, Cost, Made, OverLimit, NoMemory, EndKind, Results, TurnLimit, OutOfMemory, Event, Claim, Idle, Ended, Finish, History, early, is_slice, is_item, count, is_claimed, is_finished, is_made, Claimable, AllMade, HasEnded, IsOn, MadeWith, Legal, IsSettled, IsConfluent, IsNeverStuck}
use Rattle.graph_meaning.specs.Growing.{IsExecution}
use Rattle.graph_meaning.proofs.ItemSums.{total-add, total-mono, total-zero}
use Rattle.graph_meaning.proofs.ItemsOnce.{once, pick, at, is_item-sound}
use Rattle.graph_meaning.proofs.Counting.{claimed-exists, has-early}
use Rattle.graph_meaning.proofs.Endings.{results-stand, limit-passed, all-counted}
use Rattle.graph_meaning.proofs.Growth.{has-grows, whole-grows, after-grows, last-stays, whole-given}
use Rattle.graph_meaning.proofs.Claimables.{look, Look, Ready, Deep, FrameDone, SureAt, mark, GivenIn}

by_order : (n m : ℕ) → (n ≤ m) ⊎ (m ≤ n)
by_order n m = grind arith

abbrev is_given : Option ℕ → ℕ
is_given None = 0
is_given (Some n) = 1

-- a history that goes on went on before
on-before : (run : Run) (limit : ℕ) (e : Event) (h : History) → IsOn run limit (e ∷ h) → IsOn run limit h
on-before run limit e h on k x = on k (inl x)

by_limit : (n m : ℕ) → (n ≤ m) ⊎ (m < n)
by_limit n m = grind arith

-- where all is made, the run has ended
all-made-ends : (run : Run) (limit : ℕ) (h : History) → Legal run limit h → AllMade run h → IsOn run limit h → ⊥
all-made-ends run limit [] g all on = on Results (refl, all)
all-made-ends run limit (Claim w i ∷ h) g all on = all-made-ends run limit h g.0 all (on-before run limit (Claim w i) h on)
all-made-ends run limit (Idle w ∷ h) g all on = all-made-ends run limit h g.0 all (on-before run limit (Idle w) h on)
all-made-ends run limit (Ended w k ∷ h) g all on = on k (inr (on-before run limit (Ended w k) h on, refl))
all-made-ends run limit (Finish w i (Made n) ∷ h) g all on = go (by_limit (n + count h) limit)
  where
    go : (n + count h ≤ limit) ⊎ (limit < n + count h) → ⊥
    go (inl le) = on Results (inr (on-before run limit (Finish w i (Made n)) h on, (le, all)))
    go (inr lt) = on TurnLimit (inr (on-before run limit (Finish w i (Made n)) h on, lt))
all-made-ends run limit (Finish w i OverLimit ∷ h) g all on = on TurnLimit (inr (on-before run limit (Finish w i OverLimit) h on, tt))
all-made-ends run limit (Finish w i NoMemory ∷ h) g all on = on OutOfMemory (inr (on-before run limit (Finish w i NoMemory) h on, tt))

or-case : (a b : Bool) → a || b ≡ true → (a ≡ true) ⊎ (b ≡ true)
or-case true b e = inl refl
or-case false b e = inr e

or-left : (a b : Bool) → a ≡ true → a || b ≡ true
or-left a b e = ap (λ x. x || b) e

or-right : (a b : Bool) → b ≡ true → a || b ≡ true
or-right true b e = refl
or-right false b e = e

-- while a run goes on, what is finished is made
finished-made : (run : Run) (limit : ℕ) (h : History) → Legal run limit h → IsOn run limit h → (i : Item) → is_finished h i ≡ true → is_made h i ≡ true
finished-made run limit [] g on i f = f
finished-made run limit (Claim w j ∷ h) g on i f = finished-made run limit h g.0 (on-before run limit (Claim w j) h on) i f
finished-made run limit (Idle w ∷ h) g on i f = finished-made run limit h g.0 (on-before run limit (Idle w) h on) i f
finished-made run limit (Ended w k ∷ h) g on i f = absurd (on k (inr (on-before run limit (Ended w k) h on, refl)))
finished-made run limit (Finish w j (Made n) ∷ h) g on i f =
    go (is_item i j) (is_made h i) (or-case (is_item i j) (is_finished h i) f) (finished-made run limit h g.0 (on-before run limit (Finish w j (Made n)) h on) i)
  where
    go : (a b : Bool) → (a ≡ true) ⊎ (is_finished h i ≡ true) → (is_finished h i ≡ true → b ≡ true) → a || b ≡ true
    go a b (inl e) k = or-left a b e
    go a b (inr e) k = or-right a b (k e)
finished-made run limit (Finish w j OverLimit ∷ h) g on i f = absurd (on TurnLimit (inr (on-before run limit (Finish w j OverLimit) h on, tt)))
finished-made run limit (Finish w j NoMemory ∷ h) g on i f = absurd (on OutOfMemory (inr (on-before run limit (Finish w j NoMemory) h on, tt)))

module _ (run : Run) (limit : ℕ) (good : IsExecution run) where
  -- the firings of an item that is made
  own-of : (j : Item) (n : ℕ) → Exists run j → (b : Bool) → is_slice j ≡ b → MadeWith run limit j n b → (c : ℕ) × OwnFirings run j c
  own-of j n ex true e m = (n, m.0)
  own-of j n ex false e m = (early j, (ex.0, subst (Has (run ex.0) j) (has-early (run ex.0) j ex.1 ex.2 e) ex.2))

  pub finish-own : (w : ℕ) (j : Item) (n : ℕ) (h : History) → Legal run limit (Finish w j (Made n) ∷ h) → (c : ℕ) × OwnFirings run j c
  finish-own w j n h g = own-of j n (claimed-exists run limit h g.0 w j g.1.0) (is_slice j) refl g.1.2

  -- a depth that shows all that is made
  abbrev pub depth : (h : History) → Legal run limit h → ℕ
  depth [] g = 0
  depth (Claim w j ∷ h) g = depth h g.0
  depth (Idle w ∷ h) g = depth h g.0
  depth (Ended w k ∷ h) g = depth h g.0
  depth (Finish w j (Made n) ∷ h) g = (finish-own w j n h g).1.0 + depth h g.0
  depth (Finish w j OverLimit ∷ h) g = depth h g.0
  depth (Finish w j NoMemory ∷ h) g = depth h g.0

  -- at a greater depth it is still there
  deeper-own : (n m : ℕ) → n ≤ m → (i : Item) (c : ℕ) → Has (run n) i (Some c) → Has (run m) i (Some c)
  deeper-own n m le i c has = let x = has-grows (good.grows n m le) i (Some c) has in subst (Has (run m) i) x.2 x.1

  pub made-shown : (h : History) (g : Legal run limit h) (m : ℕ) → depth h g ≤ m → (i : Item) → is_made h i ≡ true → (c : ℕ) × Has (run m) i (Some c)
  made-shown [] g m le i e = absurd (grind (arith, e))
  made-shown (Claim w j ∷ h) g m le i e = made-shown h g.0 m le i e
  made-shown (Idle w ∷ h) g m le i e = made-shown h g.0 m le i e
  made-shown (Ended w k ∷ h) g m le i e = made-shown h g.0 m le i e
  made-shown (Finish w j (Made n) ∷ h) g m le i e =
      go (or-case (is_item i j) (is_made h i) e) (made-shown h g.0 m (omega (arith, le)) i)
    where
      own : (c : ℕ) × OwnFirings run j c
      own = finish-own w j n h g

      here : depth (Finish w j (Made n) ∷ h) g ≤ m → Has (run m) j (Some own.0)
      here le = deeper-own own.1.0 m (omega (arith, le)) j own.0 own.1.1

      go : (is_item i j ≡ true) ⊎ (is_made h i ≡ true) → (is_made h i ≡ true → (c : ℕ) × Has (run m) i (Some c)) → (c : ℕ) × Has (run m) i (Some c)
      go (inl x) k = (own.0, subst (λ y. Has (run m) y (Some own.0)) (sym (is_item-sound i j x)) (here le))
      go (inr x) k = k x
  made-shown (Finish w j OverLimit ∷ h) g m le i e = made-shown h g.0 m le i e
  made-shown (Finish w j NoMemory ∷ h) g m le i e = made-shown h g.0 m le i e

  -- there are at most as many as entries
  made-count : (h : History) (g : Legal run limit h) (m : ℕ) → depth h g ≤ m → total (run m) (mark (is_made h)) ≤ length h
  made-count [] g m le = omega (arith, total-zero (run m) (mark (is_made [])) (λ i w x. refl))
  made-count (Claim w j ∷ h) g m le = omega (arith, made-count h g.0 m le)
  made-count (Idle w ∷ h) g m le = omega (arith, made-count h g.0 m le)
  made-count (Ended w k ∷ h) g m le = omega (arith, made-count h g.0 m le)
  made-count (Finish w j (Made n) ∷ h) g m le =
      omega (
        arith,
        made-count h g.0 m (omega (arith, le)),
        once (run m) (good.distinct m) j (Some own.0) (λ v. 1) here,
        total-add (run m) (at j (λ v. 1)) (mark (is_made h)),
        total-mono (run m) (mark (is_made (Finish w j (Made n) ∷ h))) (λ i v. pick (is_item i j) 1 + mark (is_made h) i v) (λ i v x. each (is_item i j) (is_made h i)),
      )
    where
      own : (c : ℕ) × OwnFirings run j c
      own = finish-own w j n h g

      here : Has (run m) j (Some own.0)
      here = deeper-own own.1.0 m (omega (arith, le)) j own.0 own.1.1

      each : (a b : Bool) → pick (a || b) 1 ≤ pick a 1 + pick b 1
      each true b = omega arith
      each false b = omega arith
  made-count (Finish w j OverLimit ∷ h) g m le = omega (arith, made-count h g.0 m le)
  made-count (Finish w j NoMemory ∷ h) g m le = omega (arith, made-count h g.0 m le)

  given-in : (h : History) (g : Legal run limit h) (m : ℕ) → depth h g ≤ m → GivenIn (is_made h) (run m)
  given-in h g m le i w has e none =
      let x = made-shown h g m le i e in
      let a = once (run m) (good.distinct m) i w is_given has in
      let b = once (run m) (good.distinct m) i (Some x.0) is_given x.1 in
      let c = ap is_given none in
      clash (sym b ∙ (a ∙ c))
    where
      clash : is_given (Some (made-shown h g m le i e).0) ≡ is_given None → ⊥
      clash e = omega (arith, e)

  -- the depth at which a history is looked at
  abbrev level : (h : History) → Legal run limit h → ℕ
  level h g = suc (length h + depth h g)

  -- an item that is found there
  abbrev Found : History → Type 0
  Found h = (i : Item) × Exists run i × (is_made h i ≡ false) × ((j : Item) → Follows run i j → is_made h j ≡ true)

  found : (h : History) (g : Legal run limit h) → FrameDone (run (level h g)) (is_made h) ⊎ Found h
  found h g = go (look (run N) (is_made h) N (good.distinct N) (good.acyclic N) (good.open_below N) (given-in h g N (omega arith)))
    where
      N : ℕ
      N = level h g

      follows : (i : Item) → SureAt (run N) (run N) (is_made h) i → (j : Item) (m : ℕ) → ComesAfter (run m) i j → (N ≤ m) ⊎ (m ≤ N) → is_made h j ≡ true
      follows i sure j m x (inl le) = sure (run m) (run m) (good.grows N m le) (good.grows N m le) j x
      follows i sure j m x (inr le) =
          let same = good.grows N N (omega arith) in
          let up = good.grows m N le in
          sure (run N) (run N) same same j (after-grows up (run m) (run N) (last-stays up) (λ z. ⊥) i j x)

      go : FrameDone (run N) (is_made h) ⊎ Look (run N) (run N) (is_made h) N → FrameDone (run N) (is_made h) ⊎ Found h
      go (inl d) = inl d
      go (inr (Ready i w has e sure)) = inr (i, (N, w, has), e, λ j f. follows i sure j f.0 f.1 (by_order N f.0))
      go (inr (Deep le)) = absurd (let x = made-count h g N (omega arith) in omega (arith, le, x))

  -- an item of a run that has a whole tree
  module _ (n : ℕ) (whole : IsWhole (run n)) where
    same-after : (m : ℕ) → n ≤ m → run n ≡ run m
    same-after m le = whole-grows (good.grows n m le) whole

    items-of : (i : Item) → Exists run i → (c : ℕ) × Has (run n) i (Some c)
    items-of i ex = go (by_order ex.0 n)
      where
        known : (w : Option ℕ) → Has (run n) i w → (c : ℕ) × Has (run n) i (Some c)
        known w has = let x = whole-given (run n) whole i w has in (x.0, subst (Has (run n) i) x.1 has)

        go : (ex.0 ≤ n) ⊎ (n ≤ ex.0) → (c : ℕ) × Has (run n) i (Some c)
        go (inl le) = let x = has-grows (good.grows ex.0 n le) i ex.1 ex.2 in known x.0 x.1
        go (inr le) = known ex.1 (subst (λ f. Has f i ex.1) (sym (same-after ex.0 le)) ex.2)

    own-in : (i : Item) (c : ℕ) → OwnFirings run i c → Has (run n) i (Some c)
    own-in i c own = go (by_order own.0 n)
      where
        go : (own.0 ≤ n) ⊎ (n ≤ own.0) → Has (run n) i (Some c)
        go (inl le) = deeper-own own.0 n le i c own.1
        go (inr le) = subst (λ f. Has f i (Some c)) (sym (same-after own.0 le)) own.1

    limit-below : (h : History) → Legal run limit h → HasEnded run limit h TurnLimit → limit < all_firings (run n)
    limit-below = limit-passed run limit n (good.distinct n) items-of own-in

    all-below : (h : History) → Legal run limit h → AllMade run h → count h ≡ all_firings (run n)
    all-below = all-counted run limit n (good.distinct n) items-of own-in

  cost-of : (h : History) → Legal run limit h → AllMade run h → Cost run (count h)
  cost-of h g all = go (found h g)
    where
      go : FrameDone (run (level h g)) (is_made h) ⊎ Found h → Cost run (count h)
      go (inl d) = (level h g, d.whole, sym (all-below (level h g) d.whole h g all))
      go (inr f) = absurd (let x = all f.0 f.1 in let y = f.2 in grind (arith, x, y))

  pub confluent : IsConfluent run limit
  confluent =
      record {
        results = λ h g complete memory. ((λ e. results-cost h g e), (λ k. to-results h g complete.0.0 complete.0.1 memory k));
        turn_limit = λ h g complete memory. ((λ e c k. limit-cost h g e c k), (λ k. to-limit h g complete.0.0 complete.0.1 memory k));
        count_is_cost = λ h g e. cost-of h g (results-stand run limit h g e).1;
        within = λ h g memory c k le kind e. to-results h g kind e memory (c, k, le);
      }
    where
      results-cost : (h : History) → Legal run limit h → HasEnded run limit h Results → (c : ℕ) × Cost run c × (c ≤ limit)
      results-cost h g e = let x = results-stand run limit h g e in (count h, cost-of h g x.1, x.0)

      limit-cost : (h : History) → Legal run limit h → HasEnded run limit h TurnLimit → (c : ℕ) → Cost run c → limit < c
      limit-cost h g e c k = subst (λ z. limit < z) k.2 (limit-below k.0 k.1 h g e)

      to-results : (h : History) → Legal run limit h → (k : EndKind) → HasEnded run limit h k → (HasEnded run limit h OutOfMemory → ⊥) → (c : ℕ) × Cost run c × (c ≤ limit) → HasEnded run limit h Results
      to-results h g Results e memory k = e
      to-results h g TurnLimit e memory k = absurd (let x = limit-cost h g e k.0 k.1 in omega (arith, x, k.2))
      to-results h g OutOfMemory e memory k = absurd (memory e)

      to-limit : (h : History) → Legal run limit h → (k : EndKind) → HasEnded run limit h k → (HasEnded run limit h OutOfMemory → ⊥) → ((c : ℕ) → Cost run c → limit < c) → HasEnded run limit h TurnLimit
      to-limit h g Results e memory k = absurd (let x = results-cost h g e in let y = k x.0 x.1 in omega (arith, y, x.2))
      to-limit h g TurnLimit e memory k = e
      to-limit h g OutOfMemory e memory k = absurd (memory e)

  pub never_stuck : IsNeverStuck run limit
  never_stuck = record { some_item = λ h g on settled. go h g on settled (found h g) }
    where
      made-all : (h : History) (g : Legal run limit h) → FrameDone (run (level h g)) (is_made h) → AllMade run h
      made-all h g d i ex = let x = items-of (level h g) d.whole i ex in d.made i (Some x.0) x.1

      free : (h : History) (i : Item) (b : Bool) → is_claimed h i ≡ b → (is_claimed h i ≡ true → is_made h i ≡ true) → is_made h i ≡ false → is_claimed h i ≡ false
      free h i true e k f = absurd (let x = k e in grind (arith, x, f))
      free h i false e k f = e

      go : (h : History) (g : Legal run limit h) → IsOn run limit h → IsSettled h → FrameDone (run (level h g)) (is_made h) ⊎ Found h → (i : Item) × Claimable run h i
      go h g on settled (inl d) = absurd (all-made-ends run limit h g (made-all h g d) on)
      go h g on settled (inr f) =
          (f.0, (f.1, free h f.0 (is_claimed h f.0) refl (λ e. finished-made run limit h g on f.0 (settled f.0 e)) f.2, f.3))
