-- A tree of a greater depth: where one leaves something open the other may go on.
use Rattle.std.proofs.Common.{◌≡◌, ℕ, suc, List, [], ◌∷◌, Option, Some, None, ◌⊎◌, inl, inr, refl, sym, ap, ◌∙◌, subst, arith}
use Rattle.graph_meaning.specs.Entered.{Entered, NoNode, SimpleNode, WholeNode, Steps, Left, Unshown, GraphStep, SliceStep, Item, Node, Entry, Inside, entry_fires, IsSlice, Has, StepsHave, IsWhole, AreWhole, all_given, IsLast, OfStep, OfSlices, AfterWithin, After, AfterSteps, IsFresh}
use Rattle.graph_meaning.specs.Growing.{Grows, empty, simple, unknown, compound, GrowsSteps, leaves, deeper, part, slices, GrowsCosts, no_cost, open_cost, known_cost}
use Rattle.graph_meaning.proofs.ItemsOnce.{label_of, AtLeast, weaker}

-- what is given stays
abbrev pub Stays : Option ℕ → Option ℕ → Type 0
Stays None w = Unit {0}
Stays (Some n) w = w ≡ Some n

stays-same : (w : Option ℕ) → Stays w w
stays-same None = tt
stays-same (Some n) = refl

slice-grows : {cs ds : List (Option ℕ)} → GrowsCosts cs ds → (l k r : ℕ) (i : Item) (w : Option ℕ) → IsSlice l k r cs i w → (v : Option ℕ) × IsSlice l k r ds i v × Stays w v
slice-grows no_cost l k r i w h = absurd h
slice-grows (open_cost {c = c} g) l k r i w (inl h) = (c, inl (h.0, refl), subst (λ x. Stays x c) (sym h.1) tt)
slice-grows (open_cost g) l k r i w (inr h) = let x = slice-grows g l k (suc r) i w h in (x.0, inr x.1, x.2)
slice-grows (known_cost {n = n} g) l k r i w (inl h) = (Some n, inl (h.0, refl), subst (λ x. Stays x (Some n)) (sym h.1) refl)
slice-grows (known_cost g) l k r i w (inr h) = let x = slice-grows g l k (suc r) i w h in (x.0, inr x.1, x.2)

mutual
  pub has-grows : {f g : Entered} → Grows f g → (i : Item) (w : Option ℕ) → Has f i w → (v : Option ℕ) × Has g i v × Stays w v
  has-grows empty i w h = absurd h
  has-grows (simple g) i w (inl h) = (w, inl h, stays-same w)
  has-grows (simple g) i w (inr h) = let x = has-grows g i w h in (x.0, inr x.1, x.2)
  has-grows (unknown g) i w (inl h) = (w, inl h, stays-same w)
  has-grows (unknown g) i w (inr (inl h)) = absurd h.2
  has-grows (unknown g) i w (inr (inr (inl h))) = absurd h
  has-grows (unknown g) i w (inr (inr (inr h))) = let x = has-grows g i w h in (x.0, inr (inr (inr x.1)), x.2)
  has-grows (compound a p r) i w (inl h) = (w, inl h, stays-same w)
  has-grows (compound a p r) i w (inr (inl h)) = let x = has-grows a h.0 w h.2 in (x.0, inr (inl (h.0, h.1, x.1)), x.2)
  has-grows (compound {l = l} a p r) i w (inr (inr (inl h))) = let x = parts-grows p l 1 i w h in (x.0, inr (inr (inl x.1)), x.2)
  has-grows (compound a p r) i w (inr (inr (inr h))) = let x = has-grows r i w h in (x.0, inr (inr (inr x.1)), x.2)

  parts-grows : {p q : Steps} → GrowsSteps p q → (l k : ℕ) (i : Item) (w : Option ℕ) → StepsHave l k p i w → (v : Option ℕ) × StepsHave l k q i v × Stays w v
  parts-grows leaves l k i w h = (w, h, stays-same w)
  parts-grows deeper l k i w h = absurd h
  parts-grows (part a p) l k i w (inl h) = (w, inl h, stays-same w)
  parts-grows (part a p) l k i w (inr (inl h)) = let x = has-grows a h.0 w h.2 in (x.0, inr (inl (h.0, h.1, x.1)), x.2)
  parts-grows (part a p) l k i w (inr (inr h)) = let x = parts-grows p l (suc k) i w h in (x.0, inr (inr x.1), x.2)
  parts-grows (slices c p) l k i w (inl h) = let x = slice-grows c l k 0 i w h in (x.0, inl x.1, x.2)
  parts-grows (slices c p) l k i w (inr h) = let x = parts-grows p l (suc k) i w h in (x.0, inr x.1, x.2)

pub costs-whole : {cs ds : List (Option ℕ)} → GrowsCosts cs ds → all_given cs → cs ≡ ds
costs-whole no_cost w = refl
costs-whole (open_cost g) w = absurd w
costs-whole (known_cost {n = n} g) w = ap (◌∷◌ (Some n)) (costs-whole g w)

mutual
  -- a whole tree grows no more
  pub whole-grows : {f g : Entered} → Grows f g → IsWhole f → f ≡ g
  whole-grows empty w = refl
  whole-grows (simple {l = l} {ws = ws} g) w = ap (SimpleNode l ws) (whole-grows g w)
  whole-grows (unknown g) w = absurd w.1
  whole-grows (compound {l = l} {ws = ws} {b = b} {r = r} {p = p₀} {q = q} a p g) w =
      let e = whole-grows a w.0 in let e2 = parts-whole p w.1 in let e3 = whole-grows g w.2 in
      ap (λ x. WholeNode l ws x p₀ r) e ∙ (ap (λ x. WholeNode l ws b x r) e2 ∙ ap (WholeNode l ws b q) e3)

  pub parts-whole : {p q : Steps} → GrowsSteps p q → AreWhole p → p ≡ q
  parts-whole leaves w = refl
  parts-whole deeper w = absurd w
  parts-whole (part {t = t} {b = b} {p = p} a g) w = ap (λ x. GraphStep t x p) (whole-grows a w.0) ∙ ap (GraphStep t b) (parts-whole g w.1)
  parts-whole (slices {ds = ds} {p = p} c g) w = ap (λ x. SliceStep x p) (costs-whole c w.0) ∙ ap (SliceStep ds) (parts-whole g w.1)

pub last-grows : {f g : Entered} → Grows f g → (n : ℕ) (j : Item) → IsLast g n j → IsLast f n j
last-grows empty n j h = h
last-grows (simple g) n j (inl h) = inl h
last-grows (simple g) n j (inr h) = inr (last-grows g n j h)
last-grows (unknown g) n j (inl h) = inl h
last-grows (unknown g) n j (inr h) = inr (last-grows g n j h)
last-grows (compound a p g) n j (inl h) = inl h
last-grows (compound a p g) n j (inr h) = inr (last-grows g n j h)

pub fresh-grows : {f g : Entered} → Grows f g → (n : ℕ) → IsFresh n f → IsFresh n g
fresh-grows empty n h = tt
fresh-grows (simple g) n h = (h.0, fresh-grows g n h.1)
fresh-grows (unknown g) n h = (h.0, fresh-grows g n h.1)
fresh-grows (compound a p g) n h = (h.0, fresh-grows g n h.1)

-- what comes after something is labelled
pub after-parts-facts : (p : Steps) (l k : ℕ) (before : Item → Type 0) (i j : Item) → AfterSteps p l k before i j → (label_of i ≡ l) × AtLeast k i
after-parts-facts Left l k before i j h = (ap label_of h.0, subst (AtLeast k) (sym h.0) tt)
after-parts-facts Unshown l k before i j h = absurd h
after-parts-facts (GraphStep t inside next) l k before i j (inl h) = (ap label_of h.0, subst (AtLeast k) (sym h.0) (omega arith))
after-parts-facts (GraphStep t inside next) l k before i j (inr (inl h)) = (ap label_of h.1, subst (AtLeast k) (sym h.1) (omega arith))
after-parts-facts (GraphStep t inside next) l k before i j (inr (inr h)) =
    let x = after-parts-facts next l (suc k) (OfStep (Entry t l k) l k inside) i j h in (x.0, weaker k i x.1)
after-parts-facts (SliceStep cs next) l k before i j (inl h) = (ap label_of h.1, subst (AtLeast k) (sym h.1) (omega arith))
after-parts-facts (SliceStep cs next) l k before i j (inr h) =
    let x = after-parts-facts next l (suc k) (OfSlices l k cs) i j h in (x.0, weaker k i x.1)

pub after-fresh : (g f : Entered) (n : ℕ) → IsFresh n f → (i j : Item) → After g f i j → label_of i ≡ n → ⊥
after-fresh g NoNode n d i j h e = absurd h
after-fresh g (SimpleNode l ws rest) n d i j (inl h) e = d.0 (sym e ∙ ap label_of h.0)
after-fresh g (SimpleNode l ws rest) n d i j (inr h) e = after-fresh g rest n d.1 i j h e
after-fresh g (WholeNode l ws first next rest) n d i j (inl h) e = d.0 (sym e ∙ ap label_of h.0)
after-fresh g (WholeNode l ws first next rest) n d i j (inr (inl h)) e = d.0 (sym e ∙ ap label_of h.1)
after-fresh g (WholeNode l ws first next rest) n d i j (inr (inr (inl h))) e = d.0 (sym e ∙ (after-parts-facts next l 1 _ i j h).0)
after-fresh g (WholeNode l ws first next rest) n d i j (inr (inr (inr h))) e = after-fresh g rest n d.1 i j h e

pub last-stays : {f g : Entered} → Grows f g → (n : ℕ) (j : Item) → IsLast f n j → IsLast g n j
last-stays empty n j h = h
last-stays (simple g) n j (inl h) = inl h
last-stays (simple g) n j (inr h) = inr (last-stays g n j h)
last-stays (unknown g) n j (inl h) = inl h
last-stays (unknown g) n j (inr h) = inr (last-stays g n j h)
last-stays (compound a p g) n j (inl h) = inl h
last-stays (compound a p g) n j (inr h) = inr (last-stays g n j h)

of-part-grows : {a b : Entered} → Grows a b → (entry : Item) (l k : ℕ) (j : Item) → OfStep entry l k a j → OfStep entry l k b j
of-part-grows g entry l k j (inl h) = inl h
of-part-grows g entry l k j (inr h) = let x = has-grows g h.0 h.1 h.3 in inr (h.0, x.0, h.2, x.1)

within-grows : (a b : Item → Item → Type 0) → ((i j : Item) → a i j → b i j) → (entry : Item) (l k : ℕ) (i j : Item) → AfterWithin a entry l k i j → AfterWithin b entry l k i j
within-grows a b f entry l k i j h = (h.0, h.1, go h.2)
  where
    go : ((j ≡ entry) ⊎ ((j' : Item) × (j ≡ Inside l k j') × a h.0 j')) → (j ≡ entry) ⊎ ((j' : Item) × (j ≡ Inside l k j') × b h.0 j')
    go (inl e) = inl e
    go (inr x) = inr (x.0, x.1, f h.0 x.0 x.2)

mutual
  -- what comes after something still does at a greater depth
  pub after-grows : {f f' : Entered} → Grows f f' → (g g' : Entered) → ((n : ℕ) (j : Item) → IsLast g n j → IsLast g' n j) → (any : Item → Type 0) (i j : Item) → After g f i j → After g' f' i j
  after-grows empty g g' last any i j h = absurd h
  after-grows (simple r) g g' last any i j (inl h) = inl (h.0, (h.1.0, h.1.1, last h.1.0 j h.1.2))
  after-grows (simple r) g g' last any i j (inr h) = inr (after-grows r g g' last any i j h)
  after-grows (unknown r) g g' last any i j (inl h) = inl (h.0, (h.1.0, h.1.1, last h.1.0 j h.1.2))
  after-grows (unknown {l = l} {a = y} r) g g' last any i j (inr (inl h)) =
      inr (inl (within-grows (After NoNode NoNode) (After y y) (λ i j x. absurd x) (Node l) l 0 i j h))
  after-grows (unknown r) g g' last any i j (inr (inr (inl h))) = absurd h
  after-grows (unknown r) g g' last any i j (inr (inr (inr h))) = inr (inr (inr (after-grows r g g' last any i j h)))
  after-grows (compound a p r) g g' last any i j (inl h) = inl (h.0, (h.1.0, h.1.1, last h.1.0 j h.1.2))
  after-grows (compound {l = l} {a = x} {b = y} a p r) g g' last any i j (inr (inl h)) =
      inr (inl (within-grows (After x x) (After y y) (after-grows a x y (last-stays a) (λ _. ⊥)) (Node l) l 0 i j h))
  after-grows (compound {l = l} {a = x} {b = y} a p r) g g' last any i j (inr (inr (inl h))) =
      inr (inr (inl (after-parts-grow p l 1 (OfStep (Node l) l 0 x) (OfStep (Node l) l 0 y) (of-part-grows a (Node l) l 0) i j h)))
  after-grows (compound a p r) g g' last any i j (inr (inr (inr h))) = inr (inr (inr (after-grows r g g' last any i j h)))

  after-parts-grow : {p q : Steps} → GrowsSteps p q → (l k : ℕ) (b c : Item → Type 0) → ((j : Item) → b j → c j) → (i j : Item) → AfterSteps p l k b i j → AfterSteps q l k c i j
  after-parts-grow leaves l k b c f i j h = (h.0, f j h.1)
  after-parts-grow deeper l k b c f i j h = absurd h
  after-parts-grow (part a p) l k b c f i j (inl h) = inl (h.0, f j h.1)
  after-parts-grow (part {t = t} {a = x} {b = y} a p) l k b c f i j (inr (inl h)) =
      inr (inl (within-grows (After x x) (After y y) (after-grows a x y (last-stays a) (λ _. ⊥)) (Entry t l k) l k i j h))
  after-parts-grow (part {t = t} {a = x} {b = y} a p) l k b c f i j (inr (inr h)) =
      inr (inr (after-parts-grow p l (suc k) (OfStep (Entry t l k) l k x) (OfStep (Entry t l k) l k y) (of-part-grows a (Entry t l k) l k) i j h))
  after-parts-grow (slices s p) l k b c f i j (inl h) = inl (h.0, h.1, f j h.2)
  after-parts-grow (slices {cs = cs} {ds = ds} s p) l k b c f i j (inr h) =
      inr (after-parts-grow p l (suc k) (OfSlices l k cs) (OfSlices l k ds) (λ x y. let z = slice-grows s l k 0 x y.0 y.1 in (z.0, z.1)) i j h)

given-slice : (l k r : ℕ) (cs : List (Option ℕ)) → all_given cs → (i : Item) (w : Option ℕ) → IsSlice l k r cs i w → (c : ℕ) × (w ≡ Some c)
given-slice l k r [] g i w h = absurd h
given-slice l k r (None ∷ cs) g i w h = absurd g
given-slice l k r (Some n ∷ cs) g i w (inl h) = (n, h.1)
given-slice l k r (Some n ∷ cs) g i w (inr h) = given-slice l k (suc r) cs g i w h

mutual
  -- in a whole tree each item has its firings
  pub whole-given : (f : Entered) → IsWhole f → (i : Item) (w : Option ℕ) → Has f i w → (c : ℕ) × (w ≡ Some c)
  whole-given NoNode d i w h = absurd h
  whole-given (SimpleNode l ws rest) d i w (inl h) = (1, h.1)
  whole-given (SimpleNode l ws rest) d i w (inr h) = whole-given rest d i w h
  whole-given (WholeNode l ws first next rest) d i w (inl h) = (1, h.1)
  whole-given (WholeNode l ws first next rest) d i w (inr (inl h)) = whole-given first d.0 h.0 w h.2
  whole-given (WholeNode l ws first next rest) d i w (inr (inr (inl h))) = parts-given next l 1 d.1 i w h
  whole-given (WholeNode l ws first next rest) d i w (inr (inr (inr h))) = whole-given rest d.2 i w h

  parts-given : (p : Steps) (l k : ℕ) → AreWhole p → (i : Item) (w : Option ℕ) → StepsHave l k p i w → (c : ℕ) × (w ≡ Some c)
  parts-given Left l k d i w h = (0, h.1)
  parts-given Unshown l k d i w h = absurd h
  parts-given (GraphStep t inside next) l k d i w (inl h) = (entry_fires t, h.1)
  parts-given (GraphStep t inside next) l k d i w (inr (inl h)) = whole-given inside d.0 h.0 w h.2
  parts-given (GraphStep t inside next) l k d i w (inr (inr h)) = parts-given next l (suc k) d.1 i w h
  parts-given (SliceStep cs next) l k d i w (inl h) = given-slice l k 0 cs d.0 i w h
  parts-given (SliceStep cs next) l k d i w (inr h) = parts-given next l (suc k) d.1 i w h
