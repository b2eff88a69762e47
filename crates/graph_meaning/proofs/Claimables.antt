-- In a tree all is finished, or something can be claimed, or what is open lies as deep as the tree goes.
use Rattle.std.proofs.Common.{◌≡◌, ℕ, zero, suc, ◌<◌, ◌≤◌, Bool, true, false, List, [], ◌∷◌, Option, Some, None, ◌⊎◌, inl, inr, refl, sym, ap, ◌∙◌, subst, arith}
use native.Mathlib.Decide.{ℕ_discrete}
use Rattle.graph_meaning.specs.Entered.{Entered, NoNode, SimpleNode, WholeNode, Steps, Left, Unshown, GraphStep, SliceStep, Item, Node, Entry, Slice, Leave, Inside, entry_fires, IsSlice, Has, StepsHave, IsWhole, AreWhole, all_given, IsLast, IsIn, Fed, OfStep, OfSlices, AfterWithin, After, AfterSteps, IsFresh, IsDistinct, AreDistinct, total, total_steps, Falls, InnerAcyclic, AreAcyclic, IsAcyclic}
use Rattle.graph_meaning.proofs.ItemsOnce.{label_of, AtLeast, pick, fresh-facts, part-facts, PartFacts}
use Rattle.graph_meaning.specs.Growing.{Grows, simple, unknown, compound, GrowsSteps, leaves, part, slices, OutAt, OpenAt, OpenSteps, IsOpenBelow}
use Rattle.graph_meaning.proofs.Growth.{whole-grows, last-grows, fresh-grows, after-parts-facts, after-fresh, costs-whole}

abbrev pub Test : Type 0
Test = Item → Bool

-- Where an item stands, there what it comes after stands too.

inner : Item → Item
inner (Inside l k i) = i
inner i = i

inside-same : (l k : ℕ) (i j : Item) → Inside l k i ≡ Inside l k j → i ≡ j
unfolding inner
inside-same l k i j e = ap inner e

node-inside : (l m k : ℕ) (i : Item) → Node l ≡ Inside m k i → ⊥
node-inside l m k i e = cc

entry-inside : (t : Bool) (l n m k : ℕ) (i : Item) → Entry t l n ≡ Inside m k i → ⊥
entry-inside t l n m k i e = cc

-- what an item inside a part comes after
abbrev InsideAfter : (Item → Item → Type 0) → Item → ℕ → ℕ → Item → Item → Type 0
InsideAfter after entry l k i j = (j ≡ entry) ⊎ ((j' : Item) × (j ≡ Inside l k j') × after i j')

within-after : (after : Item → Item → Type 0) (entry : Item) (l k : ℕ) (i j : Item) → AfterWithin after entry l k (Inside l k i) j → InsideAfter after entry l k i j
within-after after entry l k i j h = subst (λ x. InsideAfter after entry l k x j) (sym (inside-same l k i h.0 h.1)) h.2

module _ (g : Entered) (l : ℕ) (ws : List ℕ) (a : Entered) (p : Steps) (s : Entered) (fresh : IsFresh l s) where
  own-after : (j : Item) → After g (WholeNode l ws a p s) (Node l) j → Fed g ws j
  own-after j (inl h) = h.1
  own-after j (inr (inl h)) = absurd (node-inside l l 0 h.0 h.1)
  own-after j (inr (inr (inl h))) = absurd (after-parts-facts p l 1 _ (Node l) j h).1
  own-after j (inr (inr (inr h))) = absurd (after-fresh g s l fresh (Node l) j h refl)

  first-after : (i j : Item) → After g (WholeNode l ws a p s) (Inside l 0 i) j → InsideAfter (After a a) (Node l) l 0 i j
  first-after i j (inl h) = absurd (node-inside l l 0 i (sym h.0))
  first-after i j (inr (inl h)) = within-after (After a a) (Node l) l 0 i j h
  first-after i j (inr (inr (inl h))) = absurd (let x = (after-parts-facts p l 1 _ (Inside l 0 i) j h).1 in omega (arith, x))
  first-after i j (inr (inr (inr h))) = absurd (after-fresh g s l fresh (Inside l 0 i) j h refl)

  next-after : (i j : Item) → label_of i ≡ l → AtLeast 1 i → After g (WholeNode l ws a p s) i j → AfterSteps p l 1 (OfStep (Node l) l 0 a) i j
  next-after i j e at (inl h) = absurd (subst (AtLeast 1) h.0 at)
  next-after i j e at (inr (inl h)) = absurd (let x = subst (AtLeast 1) h.1 at in omega (arith, x))
  next-after i j e at (inr (inr (inl h))) = h
  next-after i j e at (inr (inr (inr h))) = absurd (after-fresh g s l fresh i j h e)

  rest-after : (i j : Item) → (label_of i ≡ l → ⊥) → After g (WholeNode l ws a p s) i j → After g s i j
  rest-after i j n (inl h) = absurd (n (ap label_of h.0))
  rest-after i j n (inr (inl h)) = absurd (n (ap label_of h.1))
  rest-after i j n (inr (inr (inl h))) = absurd (n (after-parts-facts p l 1 _ i j h).0)
  rest-after i j n (inr (inr (inr h))) = h

module _ (t : Bool) (l k : ℕ) (a : Entered) (p : Steps) (before : Item → Type 0) where
  entry-after : (j : Item) → AfterSteps (GraphStep t a p) l k before (Entry t l k) j → before j
  entry-after j (inl h) = h.1
  entry-after j (inr (inl h)) = absurd (entry-inside t l k l k h.0 h.1)
  entry-after j (inr (inr h)) = absurd (let x = (after-parts-facts p l (suc k) _ (Entry t l k) j h).1 in omega (arith, x))

  part-after : (i j : Item) → AfterSteps (GraphStep t a p) l k before (Inside l k i) j → InsideAfter (After a a) (Entry t l k) l k i j
  part-after i j (inl h) = absurd (entry-inside t l k l k i (sym h.0))
  part-after i j (inr (inl h)) = within-after (After a a) (Entry t l k) l k i j h
  part-after i j (inr (inr h)) = absurd (let x = (after-parts-facts p l (suc k) _ (Inside l k i) j h).1 in omega (arith, x))

  later-after : (i j : Item) → AtLeast (suc k) i → AfterSteps (GraphStep t a p) l k before i j → AfterSteps p l (suc k) (OfStep (Entry t l k) l k a) i j
  later-after i j at (inl h) = absurd (let x = subst (AtLeast (suc k)) h.0 at in omega (arith, x))
  later-after i j at (inr (inl h)) = absurd (let x = subst (AtLeast (suc k)) h.1 at in omega (arith, x))
  later-after i j at (inr (inr h)) = h

module _ (l k : ℕ) (cs : List (Option ℕ)) (p : Steps) (before : Item → Type 0) where
  slice-after : (r : ℕ) (j : Item) → AfterSteps (SliceStep cs p) l k before (Slice l k r) j → before j
  slice-after r j (inl h) = h.2
  slice-after r j (inr h) = absurd (let x = (after-parts-facts p l (suc k) _ (Slice l k r) j h).1 in omega (arith, x))

  beyond-after : (i j : Item) → AtLeast (suc k) i → AfterSteps (SliceStep cs p) l k before i j → AfterSteps p l (suc k) (OfSlices l k cs) i j
  beyond-after i j at (inl h) = absurd (let x = subst (AtLeast (suc k)) h.1 at in omega (arith, x))
  beyond-after i j at (inr h) = h

-- What is found in a graph's nodes, or in the parts of one.

-- at every greater depth, all that the item comes after is finished
abbrev pub SureAt : Entered → Entered → Test → Item → Type 0
SureAt g f F i = (g' f' : Entered) → Grows g g' → Grows f f' → (j : Item) → After g' f' i j → F j ≡ true

-- the same in the parts of a node, where all items of the part before are finished
abbrev SureParts : Steps → ℕ → ℕ → Test → Item → Type 0
SureParts p l k F i = (q : Steps) → GrowsSteps p q → (j : Item) → AfterSteps q l k (λ x. F x ≡ true) i j → F j ≡ true

after-weaken : (p : Steps) (l k : ℕ) (b c : Item → Type 0) → ((j : Item) → b j → c j) → (i j : Item) → AfterSteps p l k b i j → AfterSteps p l k c i j
after-weaken Left l k b c f i j h = (h.0, f j h.1)
after-weaken Unshown l k b c f i j h = absurd h
after-weaken (GraphStep t inside next) l k b c f i j (inl h) = inl (h.0, f j h.1)
after-weaken (GraphStep t inside next) l k b c f i j (inr h) = inr h
after-weaken (SliceStep cs next) l k b c f i j (inl h) = inl (h.0, h.1, f j h.2)
after-weaken (SliceStep cs next) l k b c f i j (inr h) = inr h

abbrev pub mark : Test → Item → Option ℕ → ℕ
mark F i w = pick (F i) 1

pub data Look (g f : Entered) (F : Test) (d : ℕ) : Type 0 where
  Ready : (i : Item) (w : Option ℕ) → Has f i w → F i ≡ false → SureAt g f F i → Look g f F d
  Deep : d ≤ total f (mark F) → Look g f F d

data LookParts (p : Steps) (l k : ℕ) (F : Test) (d : ℕ) : Type 0 where
  ReadyPart : (i : Item) (w : Option ℕ) → StepsHave l k p i w → F i ≡ false → SureParts p l k F i → LookParts p l k F d
  DeepPart : d ≤ total_steps p l k (mark F) → LookParts p l k F d

record PartsDone (p : Steps) (l k : ℕ) (F : Test) : Type 0 where
  whole : AreWhole p
  made : (i : Item) (w : Option ℕ) → StepsHave l k p i w → F i ≡ true

pub record FrameDone (f : Entered) (F : Test) : Type 0 where
  pub whole : IsWhole f
  pub made : (i : Item) (w : Option ℕ) → Has f i w → F i ≡ true

record NodeDone (out : ℕ → Bool) (F : Test) (l : ℕ) (first : Entered) (next : Steps) : Type 0 where
  given : out l ≡ true
  own : F (Node l) ≡ true
  inside : FrameDone first (λ i. F (Inside l 0 i))
  parts : PartsDone next l 1 F

abbrev DoneAt : (ℕ → Bool) → Test → Entered → ℕ → Type 0
DoneAt out F NoNode n = Unit {0}
DoneAt out F (SimpleNode l ws rest) n = (n ≡ l → (F (Node l) ≡ true) × (out l ≡ true)) × DoneAt out F rest n
DoneAt out F (WholeNode l ws first next rest) n = (n ≡ l → NodeDone out F l first next) × DoneAt out F rest n

out-done : (out : ℕ → Bool) (f : Entered) (F : Test) (n : ℕ) → DoneAt out F f n → OutAt out f n
out-done out NoNode F n d = tt
out-done out (SimpleNode l ws rest) F n d = ((λ e. (d.0 e).1), out-done out rest F n d.1)
out-done out (WholeNode l ws first next rest) F n d = ((λ e. (d.0 e).given), out-done out rest F n d.1)

-- the node of this label waits for that one
abbrev Preds : Entered → ℕ → ℕ → Type 0
Preds NoNode n m = ⊥
Preds (SimpleNode l ws rest) n m = ((n ≡ l) × IsIn m ws) ⊎ Preds rest n m
Preds (WholeNode l ws first next rest) n m = ((n ≡ l) × IsIn m ws) ⊎ Preds rest n m

whole-leaves : (p : Steps) (l k : ℕ) → AreWhole p → StepsHave l k p (Leave l) (Some 0)
whole-leaves Left l k w = (refl, refl)
whole-leaves Unshown l k w = absurd w
whole-leaves (GraphStep t inside next) l k w = inr (inr (whole-leaves next l (suc k) w.1))
whole-leaves (SliceStep cs next) l k w = inr (whole-leaves next l (suc k) w.1)

last-done : (out : ℕ → Bool) (f : Entered) (F : Test) (n : ℕ) → DoneAt out F f n → (j : Item) → IsLast f n j → F j ≡ true
last-done out NoNode F n d j h = absurd h
last-done out (SimpleNode l ws rest) F n d j (inl h) = ap F h.1 ∙ (d.0 h.0).0
last-done out (SimpleNode l ws rest) F n d j (inr h) = last-done out rest F n d.1 j h
last-done out (WholeNode l ws first next rest) F n d j (inl h) = let x = (d.0 h.0).parts in ap F h.1 ∙ x.made (Leave l) (Some 0) (whole-leaves next l 1 x.whole)
last-done out (WholeNode l ws first next rest) F n d j (inr h) = last-done out rest F n d.1 j h

falls-preds : (rank : ℕ → ℕ) (f : Entered) → Falls rank f → (n m : ℕ) → Preds f n m → rank m < rank n
falls-preds rank NoNode h n m p = absurd p
falls-preds rank (SimpleNode l ws rest) h n m (inl p) = subst (λ x. rank m < rank x) (sym p.0) (h.0 m p.1)
falls-preds rank (SimpleNode l ws rest) h n m (inr p) = falls-preds rank rest h.1 n m p
falls-preds rank (WholeNode l ws first next rest) h n m (inl p) = subst (λ x. rank m < rank x) (sym p.0) (h.0 m p.1)
falls-preds rank (WholeNode l ws first next rest) h n m (inr p) = falls-preds rank rest h.1 n m p

-- all of a list have it, or something else is found
module _ (P : ℕ → Type 0) (X : Type 0) where
  both : {A B : Type 0} → A ⊎ X → B ⊎ X → (A × B) ⊎ X
  both (inl a) (inl b) = inl (a, b)
  both (inl a) (inr x) = inr x
  both (inr x) b = inr x

  all-in : (ws : List ℕ) → ((m : ℕ) → IsIn m ws → P m ⊎ X) → ((m : ℕ) → IsIn m ws → P m) ⊎ X
  all-in [] h = inl (λ m i. absurd i)
  all-in (w ∷ ws) h = go (h w (inl refl)) (all-in ws (λ m i. h m (inr i)))
    where
      pick-in : P w → ((m : ℕ) → IsIn m ws → P m) → (m : ℕ) → IsIn m (w ∷ ws) → P m
      pick-in a b m (inl e) = subst P (sym e) a
      pick-in a b m (inr i) = b m i

      go : P w ⊎ X → ((m : ℕ) → IsIn m ws → P m) ⊎ X → ((m : ℕ) → IsIn m (w ∷ ws) → P m) ⊎ X
      go (inl a) (inl b) = inl (pick-in a b)
      go (inl a) (inr x) = inr x
      go (inr x) b = inr x

  at-node : (l n : ℕ) (ws : List ℕ) → Dec (n ≡ l) → ((m : ℕ) → (n ≡ l) × IsIn m ws → P m ⊎ X) → ((m : ℕ) → (n ≡ l) × IsIn m ws → P m) ⊎ X
  at-node l n ws (no ne) h = inl (λ m i. absurd (ne i.0))
  at-node l n ws (yes e) h = go (all-in ws (λ m i. h m (e, i)))
    where
      go : ((m : ℕ) → IsIn m ws → P m) ⊎ X → ((m : ℕ) → (n ≡ l) × IsIn m ws → P m) ⊎ X
      go (inl a) = inl (λ m i. a m i.1)
      go (inr x) = inr x

  join : {A B : ℕ → Type 0} → ((m : ℕ) → A m → P m) ⊎ X → ((m : ℕ) → B m → P m) ⊎ X → ((m : ℕ) → A m ⊎ B m → P m) ⊎ X
  join (inl a) (inl b) = inl (λ m. elim [ inl x ↦ a m x | inr y ↦ b m y ])
  join (inl a) (inr x) = inr x
  join (inr x) b = inr x

  all-preds : (f : Entered) (n : ℕ) → ((m : ℕ) → Preds f n m → P m ⊎ X) → ((m : ℕ) → Preds f n m → P m) ⊎ X
  all-preds NoNode n h = inl (λ m i. absurd i)
  all-preds (SimpleNode l ws rest) n h = join (at-node l n ws (ℕ_discrete n l) (λ m i. h m (inl i))) (all-preds rest n (λ m i. h m (inr i)))
  all-preds (WholeNode l ws first next rest) n h = join (at-node l n ws (ℕ_discrete n l) (λ m i. h m (inl i))) (all-preds rest n (λ m i. h m (inr i)))

sweep : (out : ℕ → Bool) (g : Entered) (F : Test) (X : Type 0) (rank : ℕ → ℕ) → Falls rank g → ((n : ℕ) → ((m : ℕ) → Preds g n m → DoneAt out F g m) → DoneAt out F g n ⊎ X) → (r n : ℕ) → rank n < r → DoneAt out F g n ⊎ X
sweep out g F X rank falls step zero n lt = absurd (omega (arith, lt))
sweep out g F X rank falls step (suc r) n lt =
    go (all-preds (DoneAt out F g) X g n (λ m p. sweep out g F X rank falls step r m (omega (arith, lt, falls-preds rank g falls n m p))))
  where
    go : ((m : ℕ) → Preds g n m → DoneAt out F g m) ⊎ X → DoneAt out F g n ⊎ X
    go (inl h) = step n h
    go (inr x) = inr x

assemble : (out : ℕ → Bool) (f : Entered) (F : Test) (X : Type 0) → ((n : ℕ) → DoneAt out F f n ⊎ X) → FrameDone f F ⊎ X
assemble out NoNode F X h = inl (record { whole = tt; made = λ i w x. absurd x })
assemble out (SimpleNode l ws rest) F X h = go (h l) (assemble out rest F X (λ n. tail (h n)))
  where
    tail : {n : ℕ} → DoneAt out F (SimpleNode l ws rest) n ⊎ X → DoneAt out F rest n ⊎ X
    tail (inl d) = inl d.1
    tail (inr x) = inr x

    go : DoneAt out F (SimpleNode l ws rest) l ⊎ X → FrameDone rest F ⊎ X → FrameDone (SimpleNode l ws rest) F ⊎ X
    go (inl d) (inl r) = inl (record { whole = r.whole; made = λ i w. elim [ inl h ↦ ap F h.0 ∙ (d.0 refl).0 | inr h ↦ r.made i w h ] })
    go (inl d) (inr x) = inr x
    go (inr x) r = inr x
assemble out (WholeNode l ws first next rest) F X h = go (h l) (assemble out rest F X (λ n. tail (h n)))
  where
    tail : {n : ℕ} → DoneAt out F (WholeNode l ws first next rest) n ⊎ X → DoneAt out F rest n ⊎ X
    tail (inl d) = inl d.1
    tail (inr x) = inr x

    go : DoneAt out F (WholeNode l ws first next rest) l ⊎ X → FrameDone rest F ⊎ X → FrameDone (WholeNode l ws first next rest) F ⊎ X
    go (inl d) (inl r) =
        let n = d.0 refl in
        inl (record {
          whole = (n.inside.whole, n.parts.whole, r.whole);
          made = λ i w. elim [
            | inl h ↦ ap F h.0 ∙ n.own
            | inr (inl h) ↦ ap F h.1 ∙ n.inside.made h.0 w h.2
            | inr (inr (inl h)) ↦ n.parts.made i w h
            | inr (inr (inr h)) ↦ r.made i w h
          ];
        })
    go (inl d) (inr x) = inr x
    go (inr x) r = inr x

look-frame : (out : ℕ → Bool) (g : Entered) (F : Test) (d : ℕ) → ((rank : ℕ → ℕ) × Falls rank g) → ((n : ℕ) → ((m : ℕ) → Preds g n m → DoneAt out F g m) → DoneAt out F g n ⊎ Look g g F d) → FrameDone g F ⊎ Look g g F d
look-frame out g F d acyclic step =
    assemble out g F (Look g g F d) (λ n. sweep out g F (Look g g F d) acyclic.0 acyclic.1 step (suc (acyclic.0 n)) n (omega arith))

-- what is found further on in a graph is found in the graph
lift-simple : (g : Entered) (F : Test) (d l : ℕ) (ws : List ℕ) (rest : Entered) → IsFresh l rest → Look g rest F d → Look g (SimpleNode l ws rest) F d
lift-simple g F d l ws rest fresh (Ready i w has e sure) = Ready i w (inr has) e go
  where
    go : SureAt g (SimpleNode l ws rest) F i
    go g' f' gg (simple gr) j (inl h) = absurd (fresh-facts rest l fresh i w has (ap label_of h.0))
    go g' f' gg (simple {s = r} gr) j (inr h) = sure g' r gg gr j h
lift-simple g F d l ws rest fresh (Deep le) = Deep (omega (arith, le))

-- the item of a simple node, where all that the node waits for is finished
simple-look : (out : ℕ → Bool) (g : Entered) (F : Test) (d l n : ℕ) (ws : List ℕ) (rest : Entered) → IsFresh l rest → Dec (n ≡ l) → (b : Bool) → F (Node l) ≡ b → (n ≡ l → out l ≡ true) → ((m : ℕ) → (n ≡ l) × IsIn m ws → (j : Item) → IsLast g m j → F j ≡ true) → DoneAt out F rest n ⊎ Look g rest F d → DoneAt out F (SimpleNode l ws rest) n ⊎ Look g (SimpleNode l ws rest) F d
simple-look out g F d l n ws rest fresh e b eb given hyp (inr x) = inr (lift-simple g F d l ws rest fresh x)
simple-look out g F d l n ws rest fresh (no ne) b eb given hyp (inl x) = inl ((λ e. absurd (ne e)), x)
simple-look out g F d l n ws rest fresh (yes e) true eb given hyp (inl x) = inl ((λ _. (eb, given e)), x)
simple-look out g F d l n ws rest fresh (yes e) false eb given hyp (inl x) = inr (Ready (Node l) (Some 1) (inl (refl, refl)) eb go)
  where
    go : SureAt g (SimpleNode l ws rest) F (Node l)
    go g' f' gg (simple gr) j (inl h) = hyp h.1.0 (e, h.1.1) j (last-grows gg h.1.0 j h.1.2)
    go g' f' gg (simple {s = r} gr) j (inr h) = absurd (after-fresh g' r l (fresh-grows gr l fresh) (Node l) j h refl)

-- what a compound node grows into
record Grown (l : ℕ) (ws : List ℕ) (first : Entered) (next : Steps) (rest f' : Entered) : Type 0 where
  a : Entered
  p : Steps
  s : Entered
  shape : f' ≡ WholeNode l ws a p s
  after_it : Grows rest s
  inside_it : (Grows first a × GrowsSteps next p) ⊎ ((first ≡ NoNode) × (next ≡ Unshown))

grown : (l : ℕ) (ws : List ℕ) (first : Entered) (next : Steps) (rest f' : Entered) → Grows (WholeNode l ws first next rest) f' → Grown l ws first next rest f'
grown l ws first next rest f' (unknown {a = a} {s = s} {p = p} gr) = record { a = a; p = p; s = s; shape = refl; after_it = gr; inside_it = inr (refl, refl) }
grown l ws first next rest f' (compound {b = a} {s = s} {q = p} ga gp gr) = record { a = a; p = p; s = s; shape = refl; after_it = gr; inside_it = inl (ga, gp) }

module _ (out : ℕ → Bool) (g : Entered) (F : Test) (l : ℕ) (ws : List ℕ) (first : Entered) (next : Steps) (rest : Entered) (fresh : IsFresh l rest) where
  -- it is enough to look at compound nodes
  sure-by : (i : Item) → ((g' : Entered) → Grows g g' → (a : Entered) (p : Steps) (s : Entered) → Grows rest s → (Grows first a × GrowsSteps next p) ⊎ ((first ≡ NoNode) × (next ≡ Unshown)) → (j : Item) → After g' (WholeNode l ws a p s) i j → F j ≡ true) → SureAt g (WholeNode l ws first next rest) F i
  sure-by i h g' f' gg gr j x =
      let v = grown l ws first next rest f' gr in
      h g' gg v.a v.p v.s v.after_it v.inside_it j (subst (λ y. After g' y i j) v.shape x)

  -- in the rest
  lift-rest : (d : ℕ) → Look g rest F d → Look g (WholeNode l ws first next rest) F d
  lift-rest d (Ready i w has e sure) = Ready i w (inr (inr (inr has))) e go
    where
      go : SureAt g (WholeNode l ws first next rest) F i
      go = sure-by i (λ g' gg a p s gr v j h. sure g' s gg gr j (rest-after g' l ws a p s (fresh-grows gr l fresh) i j (fresh-facts rest l fresh i w has) h))
  lift-rest d (Deep le) = Deep (omega (arith, le))

  -- the node's own item
  own-look : F (Node l) ≡ false → ((m : ℕ) → IsIn m ws → (j : Item) → IsLast g m j → F j ≡ true) → (d : ℕ) → Look g (WholeNode l ws first next rest) F d
  own-look e hyp d = Ready (Node l) (Some 1) (inl (refl, refl)) e go
    where
      fed : (g' : Entered) → Grows g g' → (j : Item) → Fed g' ws j → F j ≡ true
      fed g' gg j h = hyp h.0 h.1 j (last-grows gg h.0 j h.2)

      go : SureAt g (WholeNode l ws first next rest) F (Node l)
      go = sure-by (Node l) (λ g' gg a p s gr v j h. fed g' gg j (own-after g' l ws a p s (fresh-grows gr l fresh) j h))

  -- in the first part
  lift-first : F (Node l) ≡ true → (d : ℕ) → Look first first (λ i. F (Inside l 0 i)) d → Look g (WholeNode l ws first next rest) F (suc d)
  lift-first own d (Ready i w has e sure) = Ready (Inside l 0 i) w (inr (inl (i, refl, has))) e go
    where
      in-first : (a : Entered) → Grows first a → (j : Item) → InsideAfter (After a a) (Node l) l 0 i j → F j ≡ true
      in-first a ga j (inl h) = ap F h ∙ own
      in-first a ga j (inr h) = ap F h.1 ∙ sure a a ga ga h.0 h.2

      by : (a : Entered) (p : Steps) → (Grows first a × GrowsSteps next p) ⊎ ((first ≡ NoNode) × (next ≡ Unshown)) → (j : Item) → InsideAfter (After a a) (Node l) l 0 i j → F j ≡ true
      by a p (inl v) j h = in-first a v.0 j h
      by a p (inr v) j h = absurd (subst (λ x. Has x i w) v.0 has)

      go : SureAt g (WholeNode l ws first next rest) F (Inside l 0 i)
      go = sure-by (Inside l 0 i) (λ g' gg a p s gr v j h. by a p v j (first-after g' l ws a p s (fresh-grows gr l fresh) i j h))
  lift-first own d (Deep le) = Deep (let x = ap (λ b. pick b 1) own in omega (arith, le, x))

  -- in the further parts
  lift-next : F (Node l) ≡ true → FrameDone first (λ i. F (Inside l 0 i)) → (d : ℕ) → LookParts next l 1 F d → Look g (WholeNode l ws first next rest) F (suc d)
  lift-next own done d (ReadyPart i w has e sure) = Ready i w (inr (inr (inl has))) e go
    where
      facts : PartFacts l 1 i
      facts = part-facts next l 1 i w has

      of-first : (a : Entered) → Grows first a → (j : Item) → OfStep (Node l) l 0 a j → F j ≡ true
      of-first a ga j (inl h) = ap F h ∙ own
      of-first a ga j (inr h) = ap F h.2 ∙ done.made h.0 h.1 (subst (λ x. Has x h.0 h.1) (sym (whole-grows ga done.whole)) h.3)

      by : (a : Entered) (p : Steps) → (Grows first a × GrowsSteps next p) ⊎ ((first ≡ NoNode) × (next ≡ Unshown)) → (j : Item) → AfterSteps p l 1 (OfStep (Node l) l 0 a) i j → F j ≡ true
      by a p (inl v) j h = sure p v.1 j (after-weaken p l 1 (OfStep (Node l) l 0 a) (λ x. F x ≡ true) (of-first a v.0) i j h)
      by a p (inr v) j h = absurd (subst (λ x. StepsHave l 1 x i w) v.1 has)

      go : SureAt g (WholeNode l ws first next rest) F i
      go = sure-by i (λ g' gg a p s gr v j h. by a p v j (next-after g' l ws a p s (fresh-grows gr l fresh) i j facts.label facts.part h))
  lift-next own done d (DeepPart le) = Deep (let x = ap (λ b. pick b 1) own in omega (arith, le, x))

  compound-look : (d n : ℕ) → Dec (n ≡ l) → (b : Bool) → F (Node l) ≡ b → ((m : ℕ) → (n ≡ l) × IsIn m ws → (j : Item) → IsLast g m j → F j ≡ true) → (n ≡ l → (FrameDone first (λ i. F (Inside l 0 i)) ⊎ Look first first (λ i. F (Inside l 0 i)) d) × (IsWhole first → PartsDone next l 1 F ⊎ LookParts next l 1 F d) × (AreWhole next → out l ≡ true)) → DoneAt out F rest n ⊎ Look g rest F (suc d) → DoneAt out F (WholeNode l ws first next rest) n ⊎ Look g (WholeNode l ws first next rest) F (suc d)
  compound-look d n e b eb hyp parts (inr x) = inr (lift-rest (suc d) x)
  compound-look d n (no ne) b eb hyp parts (inl x) = inl ((λ e. absurd (ne e)), x)
  compound-look d n (yes e) false eb hyp parts (inl x) = inr (own-look eb (λ m i. hyp m (e, i)) (suc d))
  compound-look d n (yes e) true eb hyp parts (inl x) = go (parts e).0
    where
      then_parts : FrameDone first (λ i. F (Inside l 0 i)) → PartsDone next l 1 F ⊎ LookParts next l 1 F d → DoneAt out F (WholeNode l ws first next rest) n ⊎ Look g (WholeNode l ws first next rest) F (suc d)
      then_parts a (inr p) = inr (lift-next eb a d p)
      then_parts a (inl p) = inl ((λ _. record { given = (parts e).2 p.whole; own = eb; inside = a; parts = p }), x)

      go : FrameDone first (λ i. F (Inside l 0 i)) ⊎ Look first first (λ i. F (Inside l 0 i)) d → DoneAt out F (WholeNode l ws first next rest) n ⊎ Look g (WholeNode l ws first next rest) F (suc d)
      go (inr a) = inr (lift-first eb d a)
      go (inl a) = then_parts a ((parts e).1 a.whole)

module _ (t : Bool) (l k : ℕ) (a : Entered) (p : Steps) (F : Test) where
  entry-look : F (Entry t l k) ≡ false → (d : ℕ) → LookParts (GraphStep t a p) l k F d
  entry-look e d = ReadyPart (Entry t l k) (Some (entry_fires t)) (inl (refl, refl)) e go
    where
      go : SureParts (GraphStep t a p) l k F (Entry t l k)
      go q (part {b = b} {q = r} ga gp) j h = entry-after t l k b r (λ x. F x ≡ true) j h

  lift-part : F (Entry t l k) ≡ true → (d : ℕ) → Look a a (λ i. F (Inside l k i)) d → LookParts (GraphStep t a p) l k F (suc d)
  lift-part own d (Ready i w has e sure) = ReadyPart (Inside l k i) w (inr (inl (i, refl, has))) e go
    where
      in-part : (b : Entered) → Grows a b → (j : Item) → InsideAfter (After b b) (Entry t l k) l k i j → F j ≡ true
      in-part b ga j (inl h) = ap F h ∙ own
      in-part b ga j (inr h) = ap F h.1 ∙ sure b b ga ga h.0 h.2

      go : SureParts (GraphStep t a p) l k F (Inside l k i)
      go q (part {b = b} {q = r} ga gp) j h = in-part b ga j (part-after t l k b r (λ x. F x ≡ true) i j h)
  lift-part own d (Deep le) = DeepPart (let x = ap (λ b. pick b 1) own in omega (arith, le, x))

  lift-later : F (Entry t l k) ≡ true → FrameDone a (λ i. F (Inside l k i)) → (d : ℕ) → LookParts p l (suc k) F d → LookParts (GraphStep t a p) l k F (suc d)
  lift-later own done d (ReadyPart i w has e sure) = ReadyPart i w (inr (inr has)) e go
    where
      of-part : (b : Entered) → Grows a b → (j : Item) → OfStep (Entry t l k) l k b j → F j ≡ true
      of-part b ga j (inl h) = ap F h ∙ own
      of-part b ga j (inr h) = ap F h.2 ∙ done.made h.0 h.1 (subst (λ x. Has x h.0 h.1) (sym (whole-grows ga done.whole)) h.3)

      go : SureParts (GraphStep t a p) l k F i
      go q (part {b = b} {q = r} ga gp) j h =
          sure r gp j (after-weaken r l (suc k) (OfStep (Entry t l k) l k b) (λ x. F x ≡ true) (of-part b ga) i j
          (later-after t l k b r (λ x. F x ≡ true) i j (part-facts p l (suc k) i w has).part h))
  lift-later own done d (DeepPart le) = DeepPart (let x = ap (λ b. pick b 1) own in omega (arith, le, x))

  part-look : (d : ℕ) (b : Bool) → F (Entry t l k) ≡ b → FrameDone a (λ i. F (Inside l k i)) ⊎ Look a a (λ i. F (Inside l k i)) d → (IsWhole a → PartsDone p l (suc k) F ⊎ LookParts p l (suc k) F d) → PartsDone (GraphStep t a p) l k F ⊎ LookParts (GraphStep t a p) l k F (suc d)
  part-look d false e x y = inr (entry-look e (suc d))
  part-look d true e (inr x) y = inr (lift-part e d x)
  part-look d true e (inl x) y = go (y x.whole)
    where
      go : PartsDone p l (suc k) F ⊎ LookParts p l (suc k) F d → PartsDone (GraphStep t a p) l k F ⊎ LookParts (GraphStep t a p) l k F (suc d)
      go (inr y) = inr (lift-later e x d y)
      go (inl y) =
          inl (record {
            whole = (x.whole, y.whole);
            made = λ i w. elim [ inl h ↦ ap F h.0 ∙ e | inr (inl h) ↦ ap F h.1 ∙ x.made h.0 w h.2 | inr (inr h) ↦ y.made i w h ];
          })

leave-look : (l k : ℕ) (F : Test) (d : ℕ) (b : Bool) → F (Leave l) ≡ b → PartsDone Left l k F ⊎ LookParts Left l k F d
leave-look l k F d true e = inl (record { whole = tt; made = λ i w h. ap F h.0 ∙ e })
leave-look l k F d false e = inr (ReadyPart (Leave l) (Some 0) (refl, refl) e go)
  where
    go : SureParts Left l k F (Leave l)
    go q leaves j h = h.1

-- the first slice that is not finished
module _ (l k : ℕ) (F : Test) where
  abbrev SlicesDone : ℕ → List (Option ℕ) → Type 0
  SlicesDone r cs = (i : Item) (w : Option ℕ) → IsSlice l k r cs i w → F i ≡ true

  abbrev OpenSlice : ℕ → List (Option ℕ) → Type 0
  OpenSlice r cs = (q : ℕ) × (w : Option ℕ) × IsSlice l k r cs (Slice l k q) w × (F (Slice l k q) ≡ false)

  one-slice : (r : ℕ) (c : Option ℕ) (cs : List (Option ℕ)) (b : Bool) → F (Slice l k r) ≡ b → SlicesDone (suc r) cs ⊎ OpenSlice (suc r) cs → SlicesDone r (c ∷ cs) ⊎ OpenSlice r (c ∷ cs)
  one-slice r c cs false e x = inr (r, c, inl (refl, refl), e)
  one-slice r c cs true e (inl x) = inl (λ i w. elim [ inl h ↦ ap F h.0 ∙ e | inr h ↦ x i w h ])
  one-slice r c cs true e (inr x) = inr (x.0, x.1, inr x.2, x.3)

  find-slice : (r : ℕ) (cs : List (Option ℕ)) → SlicesDone r cs ⊎ OpenSlice r cs
  find-slice r [] = inl (λ i w h. absurd h)
  find-slice r (c ∷ cs) = one-slice r c cs (F (Slice l k r)) refl (find-slice (suc r) cs)

  slices-given : (r : ℕ) (cs : List (Option ℕ)) → ((i : Item) (w : Option ℕ) → IsSlice l k r cs i w → F i ≡ true → w ≡ None → ⊥) → SlicesDone r cs → all_given cs
  slices-given r [] g d = tt
  slices-given r (None ∷ cs) g d = absurd (g (Slice l k r) None (inl (refl, refl)) (d (Slice l k r) None (inl (refl, refl))) refl)
  slices-given r (Some n ∷ cs) g d = slices-given (suc r) cs (λ i w h. g i w (inr h)) (λ i w h. d i w (inr h))

  slices-look : (c : Option ℕ) (cs : List (Option ℕ)) (p : Steps) (d : ℕ) → ((i : Item) (w : Option ℕ) → IsSlice l k 0 (c ∷ cs) i w → F i ≡ true → w ≡ None → ⊥) → SlicesDone 0 (c ∷ cs) ⊎ OpenSlice 0 (c ∷ cs) → (all_given (c ∷ cs) → PartsDone p l (suc k) F ⊎ LookParts p l (suc k) F d) → PartsDone (SliceStep (c ∷ cs) p) l k F ⊎ LookParts (SliceStep (c ∷ cs) p) l k F (suc d)
  slices-look c cs p d g (inr x) y = inr (ReadyPart (Slice l k x.0) x.1 (inl x.2) x.3 go)
    where
      go : SureParts (SliceStep (c ∷ cs) p) l k F (Slice l k x.0)
      go q (slices {ds = ds} {q = r} gc gp) j h = slice-after l k ds r (λ z. F z ≡ true) x.0 j h
  slices-look c cs p d g (inl x) y = go (y (slices-given 0 (c ∷ cs) g x))
    where
      of-slices : (ds : List (Option ℕ)) → (c ∷ cs) ≡ ds → (j : Item) → OfSlices l k ds j → F j ≡ true
      of-slices ds eq j h = x j h.0 (subst (λ z. IsSlice l k 0 z j h.0) (sym eq) h.1)

      lifted : (i : Item) (w : Option ℕ) → StepsHave l (suc k) p i w → SureParts p l (suc k) F i → SureParts (SliceStep (c ∷ cs) p) l k F i
      lifted i w has sure q (slices {ds = ds} {q = r} gc gp) j h =
          sure r gp j (after-weaken r l (suc k) (OfSlices l k ds) (λ z. F z ≡ true) (of-slices ds (costs-whole gc (slices-given 0 (c ∷ cs) g x))) i j
          (beyond-after l k ds r (λ z. F z ≡ true) i j (part-facts p l (suc k) i w has).part h))

      go : PartsDone p l (suc k) F ⊎ LookParts p l (suc k) F d → PartsDone (SliceStep (c ∷ cs) p) l k F ⊎ LookParts (SliceStep (c ∷ cs) p) l k F (suc d)
      go (inl y) = inl (record { whole = (slices-given 0 (c ∷ cs) g x, y.whole); made = λ i w. elim [ inl h ↦ x i w h | inr h ↦ y.made i w h ] })
      go (inr (DeepPart le)) = inr (DeepPart (let z = ap (λ b. pick b 1) (x (Slice l k 0) c (inl (refl, refl))) in omega (arith, le, z)))
      go (inr (ReadyPart i w has e sure)) = inr (ReadyPart i w (inr has) e (lifted i w has sure))

-- a finished item has its firings in the tree
abbrev pub GivenIn : Test → Entered → Type 0
GivenIn F f = (i : Item) (w : Option ℕ) → Has f i w → F i ≡ true → w ≡ None → ⊥

mutual
  step : (f g : Entered) (out : ℕ → Bool) (F : Test) (d : ℕ) → IsDistinct f → InnerAcyclic f → OpenAt out g d f → GivenIn F f → (n : ℕ) → ((m : ℕ) → Preds f n m → DoneAt out F g m) → DoneAt out F f n ⊎ Look g f F d
  step NoNode g out F d di ac op gi n hyp = inl tt
  step (SimpleNode l ws rest) g out F d di ac op gi n hyp =
      simple-look out g F d l n ws rest di.0 (ℕ_discrete n l) (F (Node l)) refl
      (λ e. op.0 (λ m i. out-done out g F m (hyp m (inl (e, i))))) (λ m i. last-done out g F m (hyp m (inl i)))
      (step rest g out F d di.1 ac op.1 (λ i w h. gi i w (inr h)) n (λ m p. hyp m (inr p)))
  step (WholeNode l ws first next rest) g out F zero di ac op gi n hyp = inr (Deep (omega arith))
  step (WholeNode l ws first next rest) g out F (suc d) di ac op gi n hyp =
      compound-look out g F l ws first next rest di.0 d n (ℕ_discrete n l) (F (Node l)) refl (λ m i. last-done out g F m (hyp m (inl i)))
      (λ e. let o = op.0 (λ m i. out-done out g F m (hyp m (inl (e, i)))) in (
        look-frame o.0.0 first (λ i. F (Inside l 0 i)) d ac.0
            (λ m h. step first first o.0.0 (λ i. F (Inside l 0 i)) d di.1 ac.1 o.0.1 (λ i w x. gi (Inside l 0 i) w (inr (inl (i, refl, x)))) m h),
        (λ whole. look-parts next l 1 F d di.2 ac.2 (o.1 whole) (λ i w h. gi i w (inr (inr (inl h))))),
        o.2,
      ))
      (step rest g out F (suc d) di.3 ac.3 op.1 (λ i w h. gi i w (inr (inr (inr h)))) n (λ m p. hyp m (inr p)))

  look-parts : (p : Steps) (l k : ℕ) (F : Test) (d : ℕ) → AreDistinct p → AreAcyclic p → OpenSteps d p → ((i : Item) (w : Option ℕ) → StepsHave l k p i w → F i ≡ true → w ≡ None → ⊥) → PartsDone p l k F ⊎ LookParts p l k F d
  look-parts Left l k F d di ac op gi = leave-look l k F d (F (Leave l)) refl
  look-parts Unshown l k F zero di ac op gi = inr (DeepPart (omega arith))
  look-parts Unshown l k F (suc d) di ac op gi = absurd op
  look-parts (GraphStep t inside next) l k F zero di ac op gi = inr (DeepPart (omega arith))
  look-parts (GraphStep t inside next) l k F (suc d) di ac op gi =
      part-look t l k inside next F d (F (Entry t l k)) refl
      (look-frame op.0.0 inside (λ i. F (Inside l k i)) d ac.0
      (λ m h. step inside inside op.0.0 (λ i. F (Inside l k i)) d di.0 ac.1 op.0.1 (λ i w x. gi (Inside l k i) w (inr (inl (i, refl, x)))) m h))
      (λ whole. look-parts next l (suc k) F d di.1 ac.2 (op.1 whole) (λ i w h. gi i w (inr (inr h))))
  look-parts (SliceStep cs next) l k F zero di ac op gi = inr (DeepPart (omega arith))
  look-parts (SliceStep [] next) l k F (suc d) di ac op gi = absurd op
  look-parts (SliceStep (c ∷ cs) next) l k F (suc d) di ac op gi =
      slices-look l k F c cs next d (λ i w h. gi i w (inl h)) (find-slice l k F 0 (c ∷ cs))
      (λ given. look-parts next l (suc k) F d di ac (op given) (λ i w h. gi i w (inr h)))

-- all of the tree is whole and finished, or an item is found, or so many items are finished
pub look : (f : Entered) (F : Test) (d : ℕ) → IsDistinct f → IsAcyclic f → IsOpenBelow d f → GivenIn F f → FrameDone f F ⊎ Look f f F d
look f F d di ac op gi = look-frame op.0 f F d ac.0 (λ n h. step f f op.0 F d di ac.1 op.1 gi n h)
