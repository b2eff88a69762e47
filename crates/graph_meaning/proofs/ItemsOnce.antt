-- An item stands once in a tree.
use Rattle.std.proofs.Common.{◌≡◌, ℕ, suc, ◌≤◌, Bool, true, false, List, [], ◌∷◌, Option, Some, inl, inr, refl, sym, ap, ◌∙◌, subst, arith}
use Rattle.graph_meaning.specs.Entered.{Entered, NoNode, SimpleNode, WholeNode, Steps, Left, Unshown, GraphStep, SliceStep, Item, Node, Entry, Slice, Leave, Inside, entry_fires, IsSlice, Has, StepsHave, total, total_steps, total_slices, IsFresh, IsDistinct, AreDistinct}
use Rattle.graph_meaning.specs.Histories.{dec_item, is_yes, is_item}
use Rattle.graph_meaning.proofs.ItemSums.{Number, total-zero, parts-zero, slices-zero, total-same}

pub is_item-refl : (i : Item) → is_item i i ≡ true
is_item-refl i = go (dec_item i i)
  where
    go : (d : Dec (i ≡ i)) → is_yes d ≡ true
    go (yes e) = refl
    go (no n) = absurd (n refl)

pub is_item-same : (i j : Item) → i ≡ j → is_item i j ≡ true
is_item-same i j e = subst (λ x. is_item i x ≡ true) e (is_item-refl i)

pub is_item-other : (i j : Item) → (i ≡ j → ⊥) → is_item i j ≡ false
is_item-other i j n = go (dec_item i j)
  where
    go : (d : Dec (i ≡ j)) → is_yes d ≡ false
    go (yes e) = absurd (n e)
    go (no _) = refl

pub is_item-sound : (i j : Item) → is_item i j ≡ true → i ≡ j
is_item-sound i j = go (dec_item i j)
  where
    go : (d : Dec (i ≡ j)) → is_yes d ≡ true → i ≡ j
    go (yes e) h = e
    go (no n) h = absurd (grind (arith, h))

inside : Item → Item
inside (Inside l k i) = i
inside i = i

is_item-inside : (l k : ℕ) (i j : Item) → is_item (Inside l k i) (Inside l k j) ≡ is_item i j
unfolding inside
is_item-inside l k i j = go (dec_item i j)
  where
    go : (d : Dec (i ≡ j)) → is_item (Inside l k i) (Inside l k j) ≡ is_yes d
    go (yes e) = is_item-same (Inside l k i) (Inside l k j) (ap (Inside l k) e)
    go (no n) = is_item-other (Inside l k i) (Inside l k j) (λ e. n (ap inside e))

abbrev pub pick : Bool → ℕ → ℕ
pick true c = c
pick false c = 0

-- g of its firings at this item, and 0 at each other
abbrev pub at : Item → (Option ℕ → ℕ) → Number
at i g j w = pick (is_item j i) (g w)

at-self : (i j : Item) (c : ℕ) → j ≡ i → pick (is_item j i) c ≡ c
at-self i j c e = ap (λ b. pick b c) (is_item-same j i e)

at-other : (i j : Item) (c : ℕ) → (j ≡ i → ⊥) → pick (is_item j i) c ≡ 0
at-other i j c n = ap (λ b. pick b c) (is_item-other j i n)

-- the label of an item, and that it belongs to part k or a later one, or is the leave
abbrev pub label_of : Item → ℕ
label_of (Node l) = l
label_of (Entry t l k) = l
label_of (Slice l k r) = l
label_of (Leave l) = l
label_of (Inside l k i) = l

abbrev pub AtLeast : ℕ → Item → Type 0
AtLeast n (Node l) = ⊥
AtLeast n (Entry t l k) = n ≤ k
AtLeast n (Slice l k r) = n ≤ k
AtLeast n (Leave l) = Unit {0}
AtLeast n (Inside l k i) = n ≤ k

abbrev pub SliceAtLeast : ℕ → Item → Type 0
SliceAtLeast n (Slice l k r) = n ≤ r
SliceAtLeast n _ = ⊥

slice-weaker : (r : ℕ) (i : Item) → SliceAtLeast (suc r) i → SliceAtLeast r i
slice-weaker r (Slice l k q) h = omega (arith, h)
slice-weaker r (Node l) h = absurd h
slice-weaker r (Entry t l k) h = absurd h
slice-weaker r (Leave l) h = absurd h
slice-weaker r (Inside l k i) h = absurd h

pub weaker : (k : ℕ) (i : Item) → AtLeast (suc k) i → AtLeast k i
weaker k (Node l) h = absurd h
weaker k (Entry t l n) h = omega (arith, h)
weaker k (Slice l n q) h = omega (arith, h)
weaker k (Leave l) h = tt
weaker k (Inside l n i) h = omega (arith, h)

pub record SliceFacts (l k r : ℕ) (i : Item) : Type 0 where
  pub label : label_of i ≡ l
  pub part : AtLeast k i
  pub range : SliceAtLeast r i
  pub exact : AtLeast (suc k) i → ⊥

pub slice-facts : (l k r : ℕ) (cs : List (Option ℕ)) (i : Item) (w : Option ℕ) → IsSlice l k r cs i w → SliceFacts l k r i
slice-facts l k r [] i w h = absurd h
slice-facts l k r (c ∷ cs) i w (inl h) = subst (SliceFacts l k r) (sym h.0) (record { label = refl; part = omega arith; range = omega arith; exact = λ x. omega (arith, x) })
slice-facts l k r (c ∷ cs) i w (inr h) = let f = slice-facts l k (suc r) cs i w h in record { label = f.label; part = f.part; range = slice-weaker r i f.range; exact = f.exact }

pub record PartFacts (l k : ℕ) (i : Item) : Type 0 where
  pub label : label_of i ≡ l
  pub part : AtLeast k i

pub part-facts : (p : Steps) (l k : ℕ) (i : Item) (w : Option ℕ) → StepsHave l k p i w → PartFacts l k i
part-facts Left l k i w h = subst (PartFacts l k) (sym h.0) (record { label = refl; part = tt })
part-facts Unshown l k i w h = absurd h
part-facts (GraphStep t inside next) l k i w (inl h) = subst (PartFacts l k) (sym h.0) (record { label = refl; part = omega arith })
part-facts (GraphStep t inside next) l k i w (inr (inl h)) = subst (PartFacts l k) (sym h.1) (record { label = refl; part = omega arith })
part-facts (GraphStep t inside next) l k i w (inr (inr h)) = let f = part-facts next l (suc k) i w h in record { label = f.label; part = weaker k i f.part }
part-facts (SliceStep cs next) l k i w (inl h) = let f = slice-facts l k 0 cs i w h in record { label = f.label; part = f.part }
part-facts (SliceStep cs next) l k i w (inr h) = let f = part-facts next l (suc k) i w h in record { label = f.label; part = weaker k i f.part }

pub fresh-facts : (f : Entered) (n : ℕ) → IsFresh n f → (i : Item) (w : Option ℕ) → Has f i w → label_of i ≡ n → ⊥
fresh-facts NoNode n d i w h e = absurd h
fresh-facts (SimpleNode l ws rest) n d i w (inl h) e = d.0 (sym e ∙ ap label_of h.0)
fresh-facts (SimpleNode l ws rest) n d i w (inr h) e = fresh-facts rest n d.1 i w h e
fresh-facts (WholeNode l ws first next rest) n d i w (inl h) e = d.0 (sym e ∙ ap label_of h.0)
fresh-facts (WholeNode l ws first next rest) n d i w (inr (inl h)) e = d.0 (sym e ∙ ap label_of h.1)
fresh-facts (WholeNode l ws first next rest) n d i w (inr (inr (inl h))) e = d.0 (sym e ∙ (part-facts next l 1 i w h).label)
fresh-facts (WholeNode l ws first next rest) n d i w (inr (inr (inr h))) e = fresh-facts rest n d.1 i w h e

-- sums that are 0
at-frame : (f : Entered) (i : Item) (g : Option ℕ → ℕ) → ((j : Item) (w : Option ℕ) → Has f j w → j ≡ i → ⊥) → total f (at i g) ≡ 0
at-frame f i g n = total-zero f (at i g) (λ j w h. at-other i j (g w) (n j w h))

at-inside : (f : Entered) (l k : ℕ) (i : Item) (g : Option ℕ → ℕ) → ((j : Item) → Inside l k j ≡ i → ⊥) → total f (λ j. at i g (Inside l k j)) ≡ 0
at-inside f l k i g n = total-zero f (λ j. at i g (Inside l k j)) (λ j w h. at-other i (Inside l k j) (g w) (n j))

at-parts : (p : Steps) (l k : ℕ) (i : Item) (g : Option ℕ → ℕ) → ((j : Item) (w : Option ℕ) → StepsHave l k p j w → j ≡ i → ⊥) → total_steps p l k (at i g) ≡ 0
at-parts p l k i g n = parts-zero p l k (at i g) (λ j w h. at-other i j (g w) (n j w h))

at-slices : (l k r : ℕ) (cs : List (Option ℕ)) (i : Item) (g : Option ℕ → ℕ) → ((j : Item) (w : Option ℕ) → IsSlice l k r cs j w → j ≡ i → ⊥) → total_slices (at i g) l k r cs ≡ 0
at-slices l k r cs i g n = slices-zero l k r cs (at i g) (λ j w h. at-other i j (g w) (n j w h))

-- the sum inside a part, at an item inside it
at-within : (f : Entered) (l k : ℕ) (i j : Item) (g : Option ℕ → ℕ) → i ≡ Inside l k j → total f (λ x. at i g (Inside l k x)) ≡ total f (at j g)
at-within f l k i j g e = total-same f _ _ (λ x w h. ap (λ b. pick b (g w)) (ap (is_item (Inside l k x)) e ∙ is_item-inside l k x j))

once-slices : (l k r : ℕ) (cs : List (Option ℕ)) (i : Item) (w : Option ℕ) (g : Option ℕ → ℕ) → IsSlice l k r cs i w → total_slices (at i g) l k r cs ≡ g w
once-slices l k r [] i w g h = absurd h
once-slices l k r (d ∷ cs) i w g (inl h) =
    omega (arith, ap g h.1, at-self i (Slice l k r) (g d) (sym h.0), at-slices l k (suc r) cs i g (λ j v x e. let y = subst (SliceAtLeast (suc r)) (e ∙ h.0) (slice-facts l k (suc r) cs j v x).range in omega (arith, y)))
once-slices l k r (d ∷ cs) i w g (inr h) =
    omega (arith, at-other i (Slice l k r) (g d) (λ e. let y = subst (SliceAtLeast (suc r)) (sym e) (slice-facts l k (suc r) cs i w h).range in omega (arith, y)), once-slices l k (suc r) cs i w g h)

mutual
  -- an item of a tree with distinct labels stands there once
  pub once : (f : Entered) → IsDistinct f → (i : Item) (w : Option ℕ) (g : Option ℕ → ℕ) → Has f i w → total f (at i g) ≡ g w
  once NoNode d i w g h = absurd h
  once (SimpleNode l ws rest) d i w g (inl h) =
      omega (arith, ap g h.1, at-self i (Node l) (g (Some 1)) (sym h.0), at-frame rest i g (λ j v x e. fresh-facts rest l d.0 j v x (ap label_of (e ∙ h.0))))
  once (SimpleNode l ws rest) d i w g (inr h) =
      omega (arith, at-other i (Node l) (g (Some 1)) (λ e. fresh-facts rest l d.0 i w h (sym (ap label_of e))), once rest d.1 i w g h)
  once (WholeNode l ws first next rest) d i w g (inl h) =
      omega (
        arith,
        ap g h.1,
        at-self i (Node l) (g (Some 1)) (sym h.0),
        at-inside first l 0 i g (λ j e. absurd (subst (AtLeast 0) (e ∙ h.0) (omega arith))),
        at-parts next l 1 i g (λ j v x e. absurd (subst (AtLeast 1) (e ∙ h.0) (part-facts next l 1 j v x).part)),
        at-frame rest i g (λ j v x e. fresh-facts rest l d.0 j v x (ap label_of (e ∙ h.0))),
      )
  once (WholeNode l ws first next rest) d i w g (inr (inl h)) =
      omega (
        arith,
        at-other i (Node l) (g (Some 1)) (λ e. absurd (subst (AtLeast 0) (sym (e ∙ h.1)) (omega arith))),
        at-within first l 0 i h.0 g h.1,
        once first d.1 h.0 w g h.2,
        at-parts next l 1 i g (λ j v x e. let y = subst (AtLeast 1) (e ∙ h.1) (part-facts next l 1 j v x).part in omega (arith, y)),
        at-frame rest i g (λ j v x e. fresh-facts rest l d.0 j v x (ap label_of (e ∙ h.1))),
      )
  once (WholeNode l ws first next rest) d i w g (inr (inr (inl h))) =
      let facts = part-facts next l 1 i w h in
      omega (
        arith,
        at-other i (Node l) (g (Some 1)) (λ e. absurd (subst (AtLeast 1) (sym e) facts.part)),
        at-inside first l 0 i g (λ j e. let y = subst (AtLeast 1) (sym e) facts.part in omega (arith, y)),
        once-parts next l 1 d.2 i w g h,
        at-frame rest i g (λ j v x e. fresh-facts rest l d.0 j v x (ap label_of e ∙ facts.label)),
      )
  once (WholeNode l ws first next rest) d i w g (inr (inr (inr h))) =
      let other = fresh-facts rest l d.0 i w h in
      omega (
        arith,
        at-other i (Node l) (g (Some 1)) (λ e. other (sym (ap label_of e))),
        at-inside first l 0 i g (λ j e. other (sym (ap label_of e))),
        at-parts next l 1 i g (λ j v x e. other (sym (ap label_of e) ∙ (part-facts next l 1 j v x).label)),
        once rest d.3 i w g h,
      )

  once-parts : (p : Steps) (l k : ℕ) → AreDistinct p → (i : Item) (w : Option ℕ) (g : Option ℕ → ℕ) → StepsHave l k p i w → total_steps p l k (at i g) ≡ g w
  once-parts Left l k d i w g h = omega (arith, ap g h.1, at-self i (Leave l) (g (Some 0)) (sym h.0))
  once-parts Unshown l k d i w g h = absurd h
  once-parts (GraphStep t inside next) l k d i w g (inl h) =
      omega (
        arith,
        ap g h.1,
        at-self i (Entry t l k) (g (Some (entry_fires t))) (sym h.0),
        at-inside inside l k i g (λ j e. not-inside (e ∙ h.0)),
        at-parts next l (suc k) i g (λ j v x e. let y = subst (AtLeast (suc k)) (e ∙ h.0) (part-facts next l (suc k) j v x).part in omega (arith, y)),
      )
    where
      not-inside : {j : Item} → Inside l k j ≡ Entry t l k → ⊥
      not-inside e = cc
  once-parts (GraphStep t inside next) l k d i w g (inr (inl h)) =
      omega (
        arith,
        at-other i (Entry t l k) (g (Some (entry_fires t))) (λ e. not-inside (sym (e ∙ h.1))),
        at-within inside l k i h.0 g h.1,
        once inside d.0 h.0 w g h.2,
        at-parts next l (suc k) i g (λ j v x e. let y = subst (AtLeast (suc k)) (e ∙ h.1) (part-facts next l (suc k) j v x).part in omega (arith, y)),
      )
    where
      not-inside : {j : Item} → Inside l k j ≡ Entry t l k → ⊥
      not-inside e = cc
  once-parts (GraphStep t inside next) l k d i w g (inr (inr h)) =
      let facts = part-facts next l (suc k) i w h in
      omega (
        arith,
        at-other i (Entry t l k) (g (Some (entry_fires t))) (λ e. let y = subst (AtLeast (suc k)) (sym e) facts.part in omega (arith, y)),
        at-inside inside l k i g (λ j e. let y = subst (AtLeast (suc k)) (sym e) facts.part in omega (arith, y)),
        once-parts next l (suc k) d.1 i w g h,
      )
  once-parts (SliceStep cs next) l k d i w g (inl h) =
      let facts = slice-facts l k 0 cs i w h in
      omega (
        arith,
        once-slices l k 0 cs i w g h,
        at-parts next l (suc k) i g (λ j v x e. facts.exact (subst (AtLeast (suc k)) e (part-facts next l (suc k) j v x).part)),
      )
  once-parts (SliceStep cs next) l k d i w g (inr h) =
      let facts = part-facts next l (suc k) i w h in
      omega (
        arith,
        at-slices l k 0 cs i g (λ j v x e. (slice-facts l k 0 cs j v x).exact (subst (AtLeast (suc k)) (sym e) facts.part)),
        once-parts next l (suc k) d i w g h,
      )
