-- What a legal history counts, against the firings of the tree.
use Rattle.std.proofs.Common.{◌≡◌, ℕ, suc, ◌+◌, ◌≤◌, Bool, true, false, ◌||◌, List, [], ◌∷◌, Option, Some, None, inl, inr, refl, sym, ap, ◌∙◌, subst, arith}
use Rattle.graph_meaning.specs.Entered.{Entered, NoNode, SimpleNode, WholeNode, Steps, Left, Unshown, GraphStep, SliceStep, Item, Node, Entry, Slice, Leave, Inside, IsSlice, Has, StepsHave, total, firings, all_firings, IsDistinct}
use Rattle.graph_meaning.specs.Histories.{Run, Exists, OwnFirings, Outcome, Made, OverLimit, NoMemory, Event, Claim, Idle, Ended, Finish, History, early, is_slice, is_item, count, claims, finishes, makes, is_claimed, is_finished, is_made, ClaimedBy, Claimable, MadeWith, Legal}
use Rattle.graph_meaning.proofs.ItemSums.{Number, total-add, total-mono, total-zero, total-same}
use Rattle.graph_meaning.proofs.ItemsOnce.{pick, at, once, is_item-sound, is_item-same}

slice-early : (l k r : ℕ) (cs : List (Option ℕ)) (i : Item) (w : Option ℕ) → IsSlice l k r cs i w → is_slice i ≡ true
slice-early l k r [] i w h = absurd h
slice-early l k r (c ∷ cs) i w (inl h) = ap is_slice h.0
slice-early l k r (c ∷ cs) i w (inr h) = slice-early l k (suc r) cs i w h

mutual
  -- the firings counted at the claim are all but those of a slice
  pub has-early : (f : Entered) (i : Item) (w : Option ℕ) → Has f i w → is_slice i ≡ false → w ≡ Some (early i)
  has-early NoNode i w h e = absurd h
  has-early (SimpleNode l ws rest) i w (inl h) e = h.1 ∙ sym (ap (λ j. Some (early j)) h.0)
  has-early (SimpleNode l ws rest) i w (inr h) e = has-early rest i w h e
  has-early (WholeNode l ws first next rest) i w (inl h) e = h.1 ∙ sym (ap (λ j. Some (early j)) h.0)
  has-early (WholeNode l ws first next rest) i w (inr (inl h)) e =
      has-early first h.0 w h.2 (sym (ap is_slice h.1) ∙ e) ∙ sym (ap (λ j. Some (early j)) h.1)
  has-early (WholeNode l ws first next rest) i w (inr (inr (inl h))) e = parts-early next l 1 i w h e
  has-early (WholeNode l ws first next rest) i w (inr (inr (inr h))) e = has-early rest i w h e

  parts-early : (p : Steps) (l k : ℕ) (i : Item) (w : Option ℕ) → StepsHave l k p i w → is_slice i ≡ false → w ≡ Some (early i)
  parts-early Left l k i w h e = h.1 ∙ sym (ap (λ j. Some (early j)) h.0)
  parts-early Unshown l k i w h e = absurd h
  parts-early (GraphStep t inside next) l k i w (inl h) e = h.1 ∙ sym (ap (λ j. Some (early j)) h.0)
  parts-early (GraphStep t inside next) l k i w (inr (inl h)) e =
      has-early inside h.0 w h.2 (sym (ap is_slice h.1) ∙ e) ∙ sym (ap (λ j. Some (early j)) h.1)
  parts-early (GraphStep t inside next) l k i w (inr (inr h)) e = parts-early next l (suc k) i w h e
  parts-early (SliceStep cs next) l k i w (inl h) e = absurd (let x = slice-early l k 0 cs i w h in grind (arith, x, e))
  parts-early (SliceStep cs next) l k i w (inr h) e = parts-early next l (suc k) i w h e

early-slice : (i : Item) → is_slice i ≡ true → early i ≡ 0
early-slice (Node l) e = absurd (grind (arith, e))
early-slice (Entry t l k) e = absurd (grind (arith, e))
early-slice (Slice l k r) e = refl
early-slice (Leave l) e = refl
early-slice (Inside l k i) e = early-slice i e

-- what an entry adds to the count for an item
abbrev pub adds : Event → Item → ℕ
adds (Claim w j) i = pick (is_item i j) (early j)
adds (Finish w j (Made n)) i = pick (is_item i j) n
adds _ i = 0

abbrev pub spent : History → Item → ℕ
spent [] i = 0
spent (e ∷ h) i = adds e i + spent h i

-- how far a history is with an item that has c firings
pub data Stage (h : History) (i : Item) (c : ℕ) : Type 0 where
  Waiting : is_claimed h i ≡ false → is_finished h i ≡ false → is_made h i ≡ false → spent h i ≡ 0 → Stage h i c
  Running : is_claimed h i ≡ true → is_finished h i ≡ false → is_made h i ≡ false → spent h i ≡ early i → Stage h i c
  Done : is_claimed h i ≡ true → is_finished h i ≡ true → is_made h i ≡ true → spent h i ≡ c → Stage h i c
  Failed : is_claimed h i ≡ true → is_finished h i ≡ true → is_made h i ≡ false → spent h i ≡ early i → Stage h i c

claim-step : (b : Bool) (w j : _) (h : History) (i : Item) (c : ℕ) → is_item i j ≡ b → (b ≡ true → i ≡ j) → is_claimed h j ≡ false → Stage h i c → Stage (Claim w j ∷ h) i c
claim-step true w j h i c e ij n (Waiting a b d s) = Running (grind (arith, e)) b d (grind (arith, e, ap early (ij refl)))
claim-step true w j h i c e ij n (Running a b d s) = absurd (let x = ap (is_claimed h) (ij refl) in grind (arith, x))
claim-step true w j h i c e ij n (Done a b d s) = absurd (let x = ap (is_claimed h) (ij refl) in grind (arith, x))
claim-step true w j h i c e ij n (Failed a b d s) = absurd (let x = ap (is_claimed h) (ij refl) in grind (arith, x))
claim-step false w j h i c e ij n (Waiting a b d s) = Waiting (grind (arith, e)) b d (grind (arith, e))
claim-step false w j h i c e ij n (Running a b d s) = Running (grind (arith, e)) b d (grind (arith, e))
claim-step false w j h i c e ij n (Done a b d s) = Done (grind (arith, e)) b d (grind (arith, e))
claim-step false w j h i c e ij n (Failed a b d s) = Failed (grind (arith, e)) b d (grind (arith, e))

made-step : (b : Bool) (w : ℕ) (j : Item) (n : ℕ) (h : History) (i : Item) (c : ℕ) → is_item i j ≡ b → (b ≡ true → (i ≡ j) × (n + early i ≡ c)) → is_claimed h j ≡ true → is_finished h j ≡ false → Stage h i c → Stage (Finish w j (Made n) ∷ h) i c
made-step true w j n h i c e ij p q (Waiting a b d s) = absurd (let x = ap (is_claimed h) (ij refl).0 in grind (arith, x))
made-step true w j n h i c e ij p q (Running a b d s) = Done a (grind (arith, e)) (grind (arith, e)) (let x = (ij refl).1 in grind (arith, e, x))
made-step true w j n h i c e ij p q (Done a b d s) = absurd (let x = ap (is_finished h) (ij refl).0 in grind (arith, x))
made-step true w j n h i c e ij p q (Failed a b d s) = absurd (let x = ap (is_finished h) (ij refl).0 in grind (arith, x))
made-step false w j n h i c e ij p q (Waiting a b d s) = Waiting a (grind (arith, e)) (grind (arith, e)) (grind (arith, e))
made-step false w j n h i c e ij p q (Running a b d s) = Running a (grind (arith, e)) (grind (arith, e)) (grind (arith, e))
made-step false w j n h i c e ij p q (Done a b d s) = Done a (grind (arith, e)) (grind (arith, e)) (grind (arith, e))
made-step false w j n h i c e ij p q (Failed a b d s) = Failed a (grind (arith, e)) (grind (arith, e)) (grind (arith, e))

-- a finish that makes nothing
fail-step : (b : Bool) (w : ℕ) (j : Item) (o : Outcome) (h : History) (i : Item) (c : ℕ) → ((x : Item) → makes (Finish w j o) x ≡ false) → ((x : Item) → adds (Finish w j o) x ≡ 0) → is_item i j ≡ b → (b ≡ true → i ≡ j) → is_claimed h j ≡ true → is_finished h j ≡ false → Stage h i c → Stage (Finish w j o ∷ h) i c
fail-step true w j o h i c m0 a0 e ij p q (Waiting a b d s) = absurd (let x = ap (is_claimed h) (ij refl) in grind (arith, x))
fail-step true w j o h i c m0 a0 e ij p q (Running a b d s) = Failed a (grind (arith, e)) (let x = m0 i in grind (arith, x)) (let x = a0 i in omega (arith, x, s))
fail-step true w j o h i c m0 a0 e ij p q (Done a b d s) = absurd (let x = ap (is_finished h) (ij refl) in grind (arith, x))
fail-step true w j o h i c m0 a0 e ij p q (Failed a b d s) = absurd (let x = ap (is_finished h) (ij refl) in grind (arith, x))
fail-step false w j o h i c m0 a0 e ij p q (Waiting a b d s) = Waiting a (grind (arith, e)) (let x = m0 i in grind (arith, x)) (let x = a0 i in omega (arith, x, s))
fail-step false w j o h i c m0 a0 e ij p q (Running a b d s) = Running a (grind (arith, e)) (let x = m0 i in grind (arith, x)) (let x = a0 i in omega (arith, x, s))
fail-step false w j o h i c m0 a0 e ij p q (Done a b d s) = Done a (grind (arith, e)) (let x = m0 i in grind (arith, x)) (let x = a0 i in omega (arith, x, s))
fail-step false w j o h i c m0 a0 e ij p q (Failed a b d s) = Failed a (grind (arith, e)) (let x = m0 i in grind (arith, x)) (let x = a0 i in omega (arith, x, s))

-- an entry that is neither a claim nor a finish
quiet-step : (e : Event) (h : History) (i : Item) (c : ℕ) → claims e i ≡ false → finishes e i ≡ false → makes e i ≡ false → adds e i ≡ 0 → Stage h i c → Stage (e ∷ h) i c
quiet-step e h i c p q r z (Waiting a b d s) = Waiting (grind (arith, p)) (grind (arith, q)) (grind (arith, r)) (omega (arith, z, s))
quiet-step e h i c p q r z (Running a b d s) = Running (grind (arith, p)) (grind (arith, q)) (grind (arith, r)) (omega (arith, z, s))
quiet-step e h i c p q r z (Done a b d s) = Done (grind (arith, p)) (grind (arith, q)) (grind (arith, r)) (omega (arith, z, s))
quiet-step e h i c p q r z (Failed a b d s) = Failed (grind (arith, p)) (grind (arith, q)) (grind (arith, r)) (omega (arith, z, s))

pub claimed-by : (h : History) (w : ℕ) (i : Item) → ClaimedBy h w i → is_claimed h i ≡ true
claimed-by [] w i c = absurd c
claimed-by (Claim v j ∷ h) w i (inl c) = ap (λ b. b || is_claimed h i) (is_item-same i j (sym c.1))
claimed-by (Claim v j ∷ h) w i (inr c) = let x = claimed-by h w i c in grind (arith, x)
claimed-by (Idle v ∷ h) w i c = claimed-by h w i c
claimed-by (Ended v k ∷ h) w i c = claimed-by h w i c
claimed-by (Finish v j o ∷ h) w i c = claimed-by h w i c

pub claimed-exists : (run : Run) (limit : ℕ) (h : History) → Legal run limit h → (w : ℕ) (i : Item) → ClaimedBy h w i → Exists run i
claimed-exists run limit [] g w i c = absurd c
claimed-exists run limit (Claim v j ∷ h) g w i (inl c) = subst (Exists run) c.1 g.1.1.0
claimed-exists run limit (Claim v j ∷ h) g w i (inr c) = claimed-exists run limit h g.0 w i c
claimed-exists run limit (Idle v ∷ h) g w i c = claimed-exists run limit h g.0 w i c
claimed-exists run limit (Ended v k ∷ h) g w i c = claimed-exists run limit h g.0 w i c
claimed-exists run limit (Finish v j o ∷ h) g w i c = claimed-exists run limit h g.0 w i c

module _ (run : Run) (limit N : ℕ) (distinct : IsDistinct (run N)) (items : (i : Item) → Exists run i → (c : ℕ) × Has (run N) i (Some c)) (own : (i : Item) (n : ℕ) → OwnFirings run i n → Has (run N) i (Some n)) where
  -- the number of an item's firings is one
  unique : (i : Item) (a b : ℕ) → Has (run N) i (Some a) → Has (run N) i (Some b) → a ≡ b
  unique i a b x y = sym (once (run N) distinct i (Some a) (firings i) x) ∙ once (run N) distinct i (Some b) (firings i) y

  late : (i : Item) (n c : ℕ) → Has (run N) i (Some c) → (b : Bool) → is_slice i ≡ b → MadeWith run limit i n b → n + early i ≡ c
  late i n c has true e m = let u = unique i n c (own i n m.0) has in let z = early-slice i e in omega (arith, u, z)
  late i n c has false e m = let x = has-early (run N) i (Some c) has e in let y = ap (firings i) x in omega (arith, y, m)

  pub stage : (h : History) → Legal run limit h → (i : Item) (c : ℕ) → Has (run N) i (Some c) → Stage h i c
  stage [] g i c has = Waiting refl refl refl refl
  stage (Claim w j ∷ h) g i c has = claim-step (is_item i j) w j h i c refl (is_item-sound i j) g.1.1.1 (stage h g.0 i c has)
  stage (Idle w ∷ h) g i c has = quiet-step (Idle w) h i c refl refl refl refl (stage h g.0 i c has)
  stage (Ended w k ∷ h) g i c has = quiet-step (Ended w k) h i c refl refl refl refl (stage h g.0 i c has)
  stage (Finish w j (Made n) ∷ h) g i c has =
      made-step (is_item i j) w j n h i c refl (λ e. let ij = is_item-sound i j e in (ij, late i n c has (is_slice i) refl (subst (λ x. MadeWith run limit x n (is_slice x)) (sym ij) g.1.2))) (claimed-by h w j g.1.0) g.1.1 (stage h g.0 i c has)
  stage (Finish w j OverLimit ∷ h) g i c has = fail-step (is_item i j) w j OverLimit h i c (λ x. refl) (λ x. refl) refl (is_item-sound i j) (claimed-by h w j g.1.0) g.1.1 (stage h g.0 i c has)
  stage (Finish w j NoMemory ∷ h) g i c has = fail-step (is_item i j) w j NoMemory h i c (λ x. refl) (λ x. refl) refl (is_item-sound i j) (claimed-by h w j g.1.0) g.1.1 (stage h g.0 i c has)

  pub unique-own : (i : Item) (w : Option ℕ) (b : ℕ) → Has (run N) i w → Has (run N) i (Some b) → firings i w ≡ b
  unique-own i w b x y = sym (once (run N) distinct i w (firings i) x) ∙ once (run N) distinct i (Some b) (firings i) y

  spent-at : History → Number
  spent-at h i w = spent h i

  -- the count is the sum of what the entries add for the tree's items
  pub count-spent : (h : History) → Legal run limit h → count h ≡ total (run N) (λ i w. spent h i)
  count-spent [] g = sym (total-zero (run N) (λ i w. 0) (λ i w x. refl))
  count-spent (Claim w j ∷ h) g =
      let has = items j g.1.1.0 in
      omega (arith, count-spent h g.0, once (run N) distinct j (Some has.0) (λ v. early j) has.1, total-add (run N) (at j (λ v. early j)) (λ i v. spent h i))
  count-spent (Idle w ∷ h) g = omega (arith, count-spent h g.0, total-same (run N) (λ i v. 0 + spent h i) (λ i v. spent h i) (λ i v x. omega arith))
  count-spent (Ended w k ∷ h) g = omega (arith, count-spent h g.0, total-same (run N) (λ i v. 0 + spent h i) (λ i v. spent h i) (λ i v x. omega arith))
  count-spent (Finish w j (Made n) ∷ h) g =
      let has = items j (claimed-exists run limit h g.0 w j g.1.0) in
      omega (arith, count-spent h g.0, once (run N) distinct j (Some has.0) (λ v. n) has.1, total-add (run N) (at j (λ v. n)) (λ i v. spent h i))
  count-spent (Finish w j OverLimit ∷ h) g = omega (arith, count-spent h g.0, total-same (run N) (λ i v. 0 + spent h i) (λ i v. spent h i) (λ i v x. omega arith))
  count-spent (Finish w j NoMemory ∷ h) g = omega (arith, count-spent h g.0, total-same (run N) (λ i v. 0 + spent h i) (λ i v. spent h i) (λ i v x. omega arith))

  early-below : (i : Item) (c : ℕ) → Has (run N) i (Some c) → early i ≤ c
  early-below i c has = go (is_slice i) refl
    where
      go : (b : Bool) → is_slice i ≡ b → early i ≤ c
      go true e = let z = early-slice i e in omega (arith, z)
      go false e = let x = ap (firings i) (has-early (run N) i (Some c) has e) in omega (arith, x)

  stage-below : (h : History) (i : Item) (c : ℕ) → early i ≤ c → Stage h i c → spent h i ≤ c
  stage-below h i c le (Waiting x y z u) = omega (arith, u)
  stage-below h i c le (Running x y z u) = omega (arith, u, le)
  stage-below h i c le (Done x y z u) = omega (arith, u)
  stage-below h i c le (Failed x y z u) = omega (arith, u, le)

  spent-below : (h : History) → Legal run limit h → (i : Item) (w : Option ℕ) → Has (run N) i w → spent h i ≤ firings i w
  spent-below h g i w has =
      let c = items i (N, w, has) in
      let e = unique-own i w c.0 has c.1 in
      let b = stage-below h i c.0 (early-below i c.0 c.1) (stage h g i c.0 c.1) in
      omega (arith, e, b)

  pub count-below : (h : History) → Legal run limit h → count h ≤ all_firings (run N)
  count-below h g = omega (arith, count-spent h g, total-mono (run N) (λ i w. spent h i) firings (spent-below h g))

  -- the count with one more claim
  pub claim-below : (h : History) → Legal run limit h → (i : Item) → Claimable run h i → early i + count h ≤ all_firings (run N)
  claim-below h g j claimable =
      let has = items j claimable.0 in
      omega (
        arith,
        count-spent h g,
        once (run N) distinct j (Some has.0) (λ v. early j) has.1,
        total-add (run N) (at j (λ v. early j)) (λ i v. spent h i),
        total-mono (run N) (λ i v. pick (is_item i j) (early j) + spent h i) firings (λ i v x. each i v x (is_item i j) (is_item-sound i j)),
      )
    where
      fresh : (i : Item) (c : ℕ) → is_claimed h i ≡ false → Stage h i c → spent h i ≡ 0
      fresh i c n (Waiting x y z u) = u
      fresh i c n (Running x y z u) = absurd (grind (arith, n))
      fresh i c n (Done x y z u) = absurd (grind (arith, n))
      fresh i c n (Failed x y z u) = absurd (grind (arith, n))

      each : (i : Item) (v : Option ℕ) → Has (run N) i v → (b : Bool) → (b ≡ true → i ≡ j) → pick b (early j) + spent h i ≤ firings i v
      each i v x true ij =
          let c = items i (N, v, x) in
          let s = fresh i c.0 (ap (is_claimed h) (ij refl) ∙ claimable.1) (stage h g i c.0 c.1) in
          omega (arith, s, unique-own i v c.0 x c.1, early-below i c.0 c.1, ap early (ij refl))
      each i v x false ij = omega (arith, spent-below h g i v x)

  pub own-below : (i : Item) (c : ℕ) → Has (run N) i (Some c) → c ≤ all_firings (run N)
  own-below i c has = omega (arith, once (run N) distinct i (Some c) (firings i) has, total-mono (run N) (at i (firings i)) firings (λ j w x. each j w (is_item j i)))
    where
      each : (j : Item) (w : Option ℕ) (b : Bool) → pick b (firings i w) ≤ firings j w
      each j None true = omega arith
      each j (Some n) true = omega arith
      each j None false = omega arith
      each j (Some n) false = omega arith
