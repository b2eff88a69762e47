-- A path leads to one graph with one list of inputs, and the items there are those of that graph's own run.
use Rattle.std.proofs.Common.{◌≡◌, ℕ, zero, suc, ◌+◌, ◌<◌, Bool, true, false, eqb, if◌then◌else◌, List, [], ◌∷◌, map, length, slice_get, Option, Some, ◌⊎◌, inl, inr, refl, sym, ap, ◌∙◌, subst, arith}
use Rattle.graph_meaning.specs.Carried.{Carried}
use Rattle.graph_meaning.specs.Entered.{Item, Node, Entry, Slice, Leave, Inside, Has, IsIn}
use Rattle.graph_meaning.specs.Forms.{Form, Next, Enter, Iterate, Leave as Leaves, Begins, Skips, Stage, first, follow, gather}
use Rattle.graph_meaning.specs.Demand.{Source, Whole, Vertex, Network, Cut, IsCut, at_label, waits, all, of_node, leads_to, dem, tree, IsLabel, EachNode}
use Rattle.graph_meaning.specs.Histories.{Exists, Follows, OwnFirings}
use Rattle.graph_meaning.specs.Plain.{Carries, no_port, port}
use Rattle.graph_meaning.proofs.Depths.{operands-below, node-below, dem-below, all-below}
use Rattle.graph_meaning.proofs.PlainValues.{carried-once}
use Rattle.graph_meaning.proofs.Ranks.{AreRanked, ranked}
use Rattle.run_states.specs.Standing.{Path, plug, IsOuter, IsStep, Open, IsAmong}
use Rattle.run_states.specs.Phases.{Results, Operands, Comes, skips, begins, enters, iterates, ranges}
use Rattle.run_states.specs.Paths.{IsWhole, EntersAt, at_first, at_step, LeadsTo, here, inside, IsItem, a_node, an_entry, a_slice, a_leaving, CarriesAt, AreAllPathsExact}
use Rattle.run_states.proofs.Lookups.{some-same}
use Rattle.run_states.proofs.Phases.{first-is-step, entered-is-step, first-fires, entered-fires, goes-on, is-node}
use Rattle.run_states.proofs.Found.{Found, of_graph, of_slice, of_inner, found}

-- ---- lists

got-below : {A : Type 0} (xs : List A) (r : ℕ) (x : A) → slice_get xs r ≡ Some x → r < length xs
got-below [] r x e = absurd cc
got-below (y ∷ ys) zero x e = omega arith
got-below (y ∷ ys) (suc r) x e = let h = got-below ys r x e in omega (arith, h)

range-among : (l k s n r : ℕ) → r < n → IsAmong (Slice l k (s + r)) (ranges l k s n)
range-among l k s zero r lt = absurd (omega (arith, lt))
range-among l k s (suc n) zero lt = (Open, inl (ap (Slice l k) (omega arith), refl))
range-among l k s (suc n) (suc r) lt =
    let x = range-among l k (suc s) n r (omega (arith, lt)) in
    let e : suc s + r ≡ s + suc r = omega arith in
    let y : IsAmong (Slice l k (suc s + r)) (ranges l k s (suc n)) = (x.0, inr x.1) in
    subst (λ q. IsAmong (Slice l k q) (ranges l k s (suc n))) e y

range-from : (l k n r : ℕ) → r < n → IsAmong (Slice l k r) (ranges l k 0 n)
range-from l k n r lt = let e : 0 + r ≡ r = omega arith in subst (λ q. IsAmong (Slice l k q) (ranges l k 0 n)) e (range-among l k 0 n r lt)

pub each-found : (P : Vertex → Type 0) (vs : List Vertex) → EachNode P vs → (l : ℕ) (v : Vertex) → at_label vs l ≡ Some v → P v
each-found P [] each l v e = absurd cc
each-found P (w ∷ vs) each l v e = go (eqb w.label l) e (each-found P vs each.1 l v)
  where
    go : (b : Bool) → (if b then Some w else at_label vs l) ≡ Some v → (at_label vs l ≡ Some v → P v) → P v
    go true e rec = let same : w ≡ v = cc in subst P same each.0
    go false e rec = rec e

-- ---- what a node does is one

operands-once : (u : Network) (g : ℕ) (ins : List Carried) (v : Vertex) (ks qs : List Carried) → Operands u g ins v ks → Operands u g ins v qs → ks ≡ qs
operands-once u g ins v ks qs a b =
    let n = a.0 + b.0 in
    some-same ks qs
    (sym (operands-below (of_node (leads_to a.0 u)) (of_node (leads_to n u)) (node-below a.0 n (omega arith) u) (u g) ins v.ins ks a.1)
    ∙ operands-below (of_node (leads_to b.0 u)) (of_node (leads_to n u)) (node-below b.0 n (omega arith) u) (u g) ins v.ins qs b.1)

results-once : (u : Network) (g : ℕ) (ins rs qs : List Carried) → Results u g ins rs → Results u g ins qs → rs ≡ qs
results-once u g ins rs qs a b =
    let n = a.0 + b.0 in some-same rs qs (sym (dem-below a.0 n (omega arith) u g ins rs a.1) ∙ dem-below b.0 n (omega arith) u g ins qs b.1)

abbrev Lists : Network → ℕ → List (List Carried) → List (List Carried) → Type 0
Lists u g rows lists = (n : ℕ) × (all (map (λ ins. dem n u g ins) rows) ≡ Some lists)

lists-once : (u : Network) (g : ℕ) (rows lists others : List (List Carried)) → Lists u g rows lists → Lists u g rows others → lists ≡ others
lists-once u g rows lists others a b =
    let n = a.0 + b.0 in
    some-same lists others
    (sym (all-below (λ ins. dem a.0 u g ins) (λ ins. dem n u g ins) (dem-below a.0 n (omega arith) u g) rows lists a.1)
    ∙ all-below (λ ins. dem b.0 u g ins) (λ ins. dem n u g ins) (dem-below b.0 n (omega arith) u g) rows others b.1)

begins-same : (g h : ℕ) (is js : List Carried) (s t : Stage) → Begins g is s ≡ Begins h js t → (g ≡ h) × (is ≡ js) × (s ≡ t)
begins-same g h is js s t e = (cc, cc, cc)

enter-same : (a b : Bool) (g h : ℕ) (is js : List Carried) (s t : Stage) → Enter a g is s ≡ Enter b h js t → (g ≡ h) × (is ≡ js) × (s ≡ t)
enter-same a b g h is js s t e = (cc, cc, cc)

pub iterate-same : (g h : ℕ) (row sow : List Carried) (rows sows : List (List Carried)) (ms ns : List Carried) → Iterate g row rows ms ≡ Iterate h sow sows ns → (g ≡ h) × (row ∷ rows ≡ sow ∷ sows) × (ms ≡ ns)
iterate-same g h row sow rows sows ms ns e =
    let a : row ≡ sow = cc in
    let b : rows ≡ sows = cc in (cc, ap (λ z. z ∷ rows) a ∙ ap (λ z. sow ∷ z) b, cc)

module _ (u : Network) (form : Form) (ks : List Carried) where
  -- what came before, by the step
  abbrev AtFirst : Next → Type 0
  AtFirst next =
      ((rs : List Carried) × (first form ks ≡ Skips rs) × (next ≡ Leaves rs))
      ⊎ ((g : ℕ) × (ins : List Carried) × (stage : Stage) × (rs : List Carried) × (first form ks ≡ Begins g ins stage) × Results u g ins rs × (next ≡ follow form ks stage rs))

  abbrev AtLater : ℕ → Next → Type 0
  AtLater k next =
      ((t : Bool) × (g : ℕ) × (ins : List Carried) × (stage : Stage) × (rs : List Carried) × Comes u form ks k (Enter t g ins stage) × Results u g ins rs × (next ≡ follow form ks stage rs))
      ⊎ ((g : ℕ) × (row : List Carried) × (rows : List (List Carried)) × (ms : List Carried) × (lists : List (List Carried)) × Comes u form ks k (Iterate g row rows ms) × Lists u g (row ∷ rows) lists × (next ≡ gather form ks ms lists))

  abbrev At : ℕ → Next → Type 0
  At zero next = AtFirst next
  At (suc k) next = AtLater k next

  came : (k : ℕ) (next : Next) → Comes u form ks k next → At k next
  came _ _ (skips rs e) = inl (rs, e, refl)
  came _ _ (begins g ins stage rs e r) = inr (g, ins, stage, rs, e, r, refl)
  came _ _ (enters k t g ins stage rs c r) = inl (t, g, ins, stage, rs, c, r, refl)
  came _ _ (iterates k g row rows ms lists c r) = inr (g, row, rows, ms, lists, c, r, refl)

  skip-begin : {P : Type 0} (rs : List Carried) (g : ℕ) (ins : List Carried) (stage : Stage) → first form ks ≡ Skips rs → first form ks ≡ Begins g ins stage → P
  skip-begin rs g ins stage a b = absurd (cannot (sym a ∙ b))
    where
      cannot : Skips rs ≡ Begins g ins stage → ⊥
      cannot e = cc

  skips-same : (rs qs : List Carried) → Skips rs ≡ Skips qs → rs ≡ qs
  skips-same rs qs e = cc

  at-first-once : (a b : Next) → AtFirst a → AtFirst b → a ≡ b
  at-first-once a b (inl x) (inl y) = x.2 ∙ (ap Leaves (skips-same x.0 y.0 (sym x.1 ∙ y.1)) ∙ sym y.2)
  at-first-once a b (inl x) (inr y) = skip-begin x.0 y.0 y.1 y.2 x.1 y.4
  at-first-once a b (inr x) (inl y) = skip-begin y.0 x.0 x.1 x.2 y.1 x.4
  at-first-once a b (inr x) (inr y) =
      let s = begins-same x.0 y.0 x.1 y.1 x.2 y.2 (sym x.4 ∙ y.4) in
      let r = results-once u y.0 y.1 x.3 y.3 (subst (λ z. Results u y.0 z x.3) s.1 (subst (λ z. Results u z x.1 x.3) s.0 x.5)) y.5 in
      x.6 ∙ (ap (λ z. follow form ks z x.3) s.2 ∙ (ap (follow form ks y.2) r ∙ sym y.6))

  not-both : {P : Type 0} (t : Bool) (g : ℕ) (ins : List Carried) (stage : Stage) (h : ℕ) (row : List Carried) (rows : List (List Carried)) (ms : List Carried) → Enter t g ins stage ≡ Iterate h row rows ms → P
  not-both t g ins stage h row rows ms e = absurd (cannot e)
    where
      cannot : Enter t g ins stage ≡ Iterate h row rows ms → ⊥
      cannot e = cc

  at-later-once : (k : ℕ) → ((a b : Next) → Comes u form ks k a → Comes u form ks k b → a ≡ b) → (a b : Next) → AtLater k a → AtLater k b → a ≡ b
  at-later-once k rec a b (inl x) (inl y) =
      let s = enter-same x.0 y.0 x.1 y.1 x.2 y.2 x.3 y.3 (rec (Enter x.0 x.1 x.2 x.3) (Enter y.0 y.1 y.2 y.3) x.5 y.5) in
      let r = results-once u y.1 y.2 x.4 y.4 (subst (λ z. Results u y.1 z x.4) s.1 (subst (λ z. Results u z x.2 x.4) s.0 x.6)) y.6 in
      x.7 ∙ (ap (λ z. follow form ks z x.4) s.2 ∙ (ap (follow form ks y.3) r ∙ sym y.7))
  at-later-once k rec a b (inl x) (inr y) = not-both x.0 x.1 x.2 x.3 y.0 y.1 y.2 y.3 (rec (Enter x.0 x.1 x.2 x.3) (Iterate y.0 y.1 y.2 y.3) x.5 y.5)
  at-later-once k rec a b (inr x) (inl y) = not-both y.0 y.1 y.2 y.3 x.0 x.1 x.2 x.3 (rec (Enter y.0 y.1 y.2 y.3) (Iterate x.0 x.1 x.2 x.3) y.5 x.5)
  at-later-once k rec a b (inr x) (inr y) =
      let s = iterate-same x.0 y.0 x.1 y.1 x.2 y.2 x.3 y.3 (rec (Iterate x.0 x.1 x.2 x.3) (Iterate y.0 y.1 y.2 y.3) x.5 y.5) in
      let r = lists-once u y.0 (y.1 ∷ y.2) x.4 y.4 (subst (λ z. Lists u y.0 z x.4) s.1 (subst (λ z. Lists u z (x.1 ∷ x.2) x.4) s.0 x.6)) y.6 in
      x.7 ∙ (ap (λ z. gather form ks z x.4) s.2 ∙ (ap (gather form ks y.3) r ∙ sym y.7))

  pub comes-once : (k : ℕ) (a b : Next) → Comes u form ks k a → Comes u form ks k b → a ≡ b
  comes-once zero a b x y = at-first-once a b (came zero a x) (came zero b y)
  comes-once (suc k) a b x y = at-later-once k (comes-once k) a b (came (suc k) a x) (came (suc k) b y)

  abbrev pub EntersBy : ℕ → ℕ → List Carried → Type 0
  EntersBy zero h is = (stage : Stage) × (first form ks ≡ Begins h is stage)
  EntersBy (suc k) h is = (t : Bool) × (stage : Stage) × Comes u form ks k (Enter t h is stage)

  pub entered-by : (l k : ℕ) (e : Item) (h : ℕ) (is : List Carried) → EntersAt u form ks l k e h is → EntersBy k h is
  entered-by l _ _ _ _ (at_first h is stage e) = (stage, e)
  entered-by l _ _ _ _ (at_step k t h is stage c) = (t, stage, c)

  enters-once : (k h j : ℕ) (is js : List Carried) → EntersBy k h is → EntersBy k j js → (h ≡ j) × (is ≡ js)
  enters-once zero h j is js x y = let s = begins-same h j is js x.0 y.0 (sym x.1 ∙ y.1) in (s.0, s.1)
  enters-once (suc k) h j is js x y =
      let s = enter-same x.0 y.0 h j is js x.1 y.1 (comes-once k (Enter x.0 h is x.1) (Enter y.0 j js y.1) x.2 y.2) in (s.0, s.1)

-- a node is of one form, with one list of operands
pub whole-once : (u : Network) (g : ℕ) (ins : List Carried) (l : ℕ) (form other : Form) (ks qs : List Carried) → IsWhole u g ins l form ks → IsWhole u g ins l other qs → (form ≡ other) × (ks ≡ qs)
whole-once u g ins l form other ks qs a b =
    let v : a.node ≡ b.node = some-same a.node b.node (sym a.found ∙ b.found) in
    let f : Whole form ≡ Whole other = sym a.kind ∙ (ap (λ z. z.kind) v ∙ b.kind) in
    (form-same f, operands-once u g ins b.node ks qs (subst (λ z. Operands u g ins z ks) v a.given) b.given)
  where
    form-same : Whole form ≡ Whole other → form ≡ other
    form-same e = cc

-- ---- paths

module _ (u : Network) (g : ℕ) (ins : List Carried) where
  abbrev Last : Path → ℕ → List Carried → Type 0
  Last [] h is = (g ≡ h) × (ins ≡ is)
  Last ((l, k) ∷ p) j js = (h : ℕ) × (is : List Carried) × (form : Form) × (ks : List Carried) × LeadsTo u g ins p h is × IsWhole u h is l form ks × EntersBy u form ks k j js

  pub last-step : (p : Path) (h : ℕ) (is : List Carried) → LeadsTo u g ins p h is → Last p h is
  last-step _ _ _ here = (refl, refl)
  last-step _ _ _ (inside l k z p h is form ks j js a w e) = (h, is, form, ks, a, w, entered-by u form ks l k z j js e)

  pub path-once : (p : Path) (h j : ℕ) (is js : List Carried) → LeadsTo u g ins p h is → LeadsTo u g ins p j js → (h ≡ j) × (is ≡ js)
  path-once [] h j is js a b = let x = last-step [] h is a in let y = last-step [] j js b in (sym x.0 ∙ y.0, sym x.1 ∙ y.1)
  path-once ((l, k) ∷ p) h j is js a b = go (last-step ((l, k) ∷ p) h is a) (last-step ((l, k) ∷ p) j js b) (path-once p)
    where
      go : Last ((l, k) ∷ p) h is → Last ((l, k) ∷ p) j js → ((x y : ℕ) (xs ys : List Carried) → LeadsTo u g ins p x xs → LeadsTo u g ins p y ys → (x ≡ y) × (xs ≡ ys)) → (h ≡ j) × (is ≡ js)
      go x y rec =
          let s = rec x.0 y.0 x.1 y.1 x.4 y.4 in
          let w = whole-once u y.0 y.1 l x.2 y.2 x.3 y.3 (subst (λ z. IsWhole u y.0 z l x.2 x.3) s.1 (subst (λ z. IsWhole u z x.1 l x.2 x.3) s.0 x.5)) y.5 in
          enters-once u y.2 y.3 k h j is js (subst (λ z. EntersBy u y.2 z k h is) w.1 (subst (λ z. EntersBy u z x.3 k h is) w.0 x.6)) y.6

  one-carried : (h : ℕ) (is : List Carried) (o : Source) (b c : Carried) (n m : ℕ) → Carries u n h is o b → Carries u m h is o c → b ≡ c
  one-carried h is o b c n m x y = head-same (carried-once u h is (o ∷ []) (b ∷ []) (c ∷ []) n m (port n h is o [] b [] x (no_port n h is)) (port m h is o [] c [] y (no_port m h is)))
    where
      head-same : b ∷ [] ≡ c ∷ [] → b ≡ c
      head-same e = cc

  path-carries : (p : Path) (o : Source) (b c : Carried) → CarriesAt u g ins p o b → CarriesAt u g ins p o c → b ≡ c
  path-carries p o b c x y =
      let s = path-once p x.0 y.0 x.1 y.1 x.2 y.2 in
      one-carried y.0 y.1 o b c x.3.0 y.3.0 (subst (λ z. Carries u x.3.0 y.0 z o b) s.1 (subst (λ z. Carries u x.3.0 z x.1 o b) s.0 x.3.1)) y.3.1

  -- ---- items

  module _ (cut : Cut) (is-cut : IsCut cut) (ready : AreRanked u) where
    -- the graph that a node enters at a step has a run of its own
    record Stepped (h : ℕ) (is : List Carried) (l k j : ℕ) (js : List Carried) : Type 0 where
      pub entry : Item
      pub outer : IsOuter entry
      pub step : IsStep (λ n. tree cut n u h is) (λ n. tree cut n u j js) l k entry
      pub fires : (i : Item) (c : ℕ) → OwnFirings (λ n. tree cut n u j js) i c → OwnFirings (λ n. tree cut n u h is) (Inside l k i) c

    stepped : (h : ℕ) (is : List Carried) (l : ℕ) (form : Form) (ks : List Carried) (k j : ℕ) (js : List Carried) → IsWhole u h is l form ks → EntersBy u form ks k j js → Stepped h is l k j js
    stepped h is l form ks zero j js w e =
        record {
          entry = Node l;
          outer = tt;
          step = first-is-step cut u is-cut ready h is w.node l w.found form ks w.kind w.given j js e.0 e.1;
          fires = first-fires cut u is-cut ready h is w.node l w.found form ks w.kind w.given j js e.0 e.1;
        }
    stepped h is l form ks (suc k) j js w e =
        record {
          entry = Entry e.0 l (suc k);
          outer = tt;
          step = entered-is-step cut u is-cut ready h is w.node l w.found form ks w.kind w.given k e.0 j js e.1 e.2;
          fires = entered-fires cut u is-cut ready h is w.node l w.found form ks w.kind w.given k e.0 j js e.1 e.2;
        }

    last-stepped : (l k : ℕ) (p : Path) (j : ℕ) (js : List Carried) (a : Last ((l, k) ∷ p) j js) → Stepped a.0 a.1 l k j js
    last-stepped l k p j js a = stepped a.0 a.1 l a.2 a.3 k j js a.5 a.6

    -- out of a graph
    start : (P : ℕ → List Carried → Type 0) (h : ℕ) (is : List Carried) → Last [] h is → P h is → P g ins
    start P h is e x = subst (λ z. P z ins) (sym e.0) (subst (λ z. P h z) (sym e.1) x)

    exists-out : (p : Path) (h : ℕ) (is : List Carried) (i : Item) → LeadsTo u g ins p h is → Exists (λ n. tree cut n u h is) i → Exists (λ n. tree cut n u g ins) (plug p i)
    exists-out [] h is i a x = start (λ j js. Exists (λ n. tree cut n u j js) i) h is (last-step [] h is a) x
    exists-out ((l, k) ∷ p) h is i a x =
        let b = last-step ((l, k) ∷ p) h is a in exists-out p b.0 b.1 (Inside l k i) b.4 ((last-stepped l k p h is b).step.outward i x)

    pub order-out : (p : Path) (h : ℕ) (is : List Carried) (i j : Item) → LeadsTo u g ins p h is → Follows (λ n. tree cut n u h is) i j → Follows (λ n. tree cut n u g ins) (plug p i) (plug p j)
    order-out [] h is i j a x = start (λ y ys. Follows (λ n. tree cut n u y ys) i j) h is (last-step [] h is a) x
    order-out ((l, k) ∷ p) h is i j a x =
        let b = last-step ((l, k) ∷ p) h is a in order-out p b.0 b.1 (Inside l k i) (Inside l k j) b.4 ((last-stepped l k p h is b).step.after_inside i j x)

    fires-out : (p : Path) (h : ℕ) (is : List Carried) (i : Item) (n : ℕ) → LeadsTo u g ins p h is → OwnFirings (λ n. tree cut n u h is) i n → OwnFirings (λ n. tree cut n u g ins) (plug p i) n
    fires-out [] h is i n a x = start (λ y ys. OwnFirings (λ n. tree cut n u y ys) i n) h is (last-step [] h is a) x
    fires-out ((l, k) ∷ p) h is i n a x =
        let b = last-step ((l, k) ∷ p) h is a in fires-out p b.0 b.1 (Inside l k i) n b.4 ((last-stepped l k p h is b).fires i n x)

    -- into a graph
    abbrev Has_at : ℕ → List Carried → Item → Option ℕ → Type 0
    Has_at h is i w = (n : ℕ) × Has (tree cut n u h is) i w

    abbrev InnerHas : ℕ → List Carried → ℕ → ℕ → Item → Option ℕ → Type 0
    InnerHas h is l k i w = (form : Form) × (ks : List Carried) × (j : ℕ) × (js : List Carried) × (e : Item) × IsWhole u h is l form ks × EntersAt u form ks l k e j js × Has_at j js i w

    abbrev inner_item : Item → Item
    inner_item (Inside l k i) = i
    inner_item i = i

    -- what is found inside a graph is of the graph that the node enters there
    inner-has : (h : ℕ) (is : List Carried) (z : Item) (l k : ℕ) (i : Item) (w : Option ℕ) → Found cut u h is z w → z ≡ Inside l k i → InnerHas h is l k i w
    inner-has h is _ l k i _ (of_graph z w x) e = absurd (not-inner z x.1 l k i e)
      where
        not-inner : (z : Item) → IsItem cut u h is z → (l k : ℕ) (i : Item) → z ≡ Inside l k i → ⊥
        not-inner _ (a_node n v at) l k i e = cc
        not-inner _ (an_entry n m form ks t j js stage a b) l k i e = cc
        not-inner _ (a_slice n m r form ks j row rows ms part a b c) l k i e = cc
        not-inner _ (a_leaving n m form ks rs a b) l k i e = cc
    inner-has h is _ l k i _ (of_slice n m r form ks j row rows ms part d a b c) e = absurd (cannot e)
      where
        cannot : Slice n (suc m) r ≡ Inside l k i → ⊥
        cannot e = cc
    inner-has h is _ l k i _ (of_inner n m y form ks j js d i' o a b x) e =
        let p : n ≡ l = cc in
        let q : m ≡ k = cc in
        let s : i' ≡ i = cc in
        moved n l m k y p q a b (d, subst (λ z. Has (tree cut d u j js) z o) s x)
      where
        moved : (n l m k : ℕ) (y : Item) → n ≡ l → m ≡ k → IsWhole u h is n form ks → EntersAt u form ks n m y j js → Has_at j js i o → InnerHas h is l k i o
        moved n l m k y p q a b x =
            (form, ks, j, js, y, subst (λ z. IsWhole u h is z form ks) p a, subst (λ z. EntersAt u form ks l z y j js) q (subst (λ z. EntersAt u form ks z m y j js) p b), x)

    pub has-in : (p : Path) (i : Item) (w : Option ℕ) → Has_at g ins (plug p i) w → (h : ℕ) × (is : List Carried) × LeadsTo u g ins p h is × Has_at h is i w
    has-in [] i w x = (g, ins, here, x)
    has-in ((l, k) ∷ p) i w x = go (has-in p (Inside l k i) w x)
      where
        go : (h : ℕ) × (is : List Carried) × LeadsTo u g ins p h is × Has_at h is (Inside l k i) w → (h : ℕ) × (is : List Carried) × LeadsTo u g ins ((l, k) ∷ p) h is × Has_at h is i w
        go a =
            let b = inner-has a.0 a.1 (Inside l k i) l k i w (found cut u ready a.0 a.1 a.3.0 (Inside l k i) w a.3.1) refl in
            (b.2, b.3, inside l k b.4 p a.0 a.1 b.0 b.1 b.2 b.3 a.2 b.5 b.6, b.7)

    order-in : (p : Path) (h : ℕ) (is : List Carried) (i j : Item) → LeadsTo u g ins p h is → Follows (λ n. tree cut n u g ins) (plug p i) (plug p j) → Follows (λ n. tree cut n u h is) i j
    order-in [] h is i j a x =
        let e = last-step [] h is a in subst (λ z. Follows (λ n. tree cut n u h z) i j) e.1 (subst (λ z. Follows (λ n. tree cut n u z ins) i j) e.0 x)
    order-in ((l, k) ∷ p) h is i j a x =
        let b = last-step ((l, k) ∷ p) h is a in
        let s = last-stepped l k p h is b in
        go s.entry s.outer (s.step.after i (Inside l k j) (order-in p b.0 b.1 (Inside l k i) (Inside l k j) b.4 x))
      where
        inner-same : (y : Item) → Inside l k j ≡ Inside l k y → y ≡ j
        inner-same y e = sym (ap inner_item e)

        no-entry : (entry : Item) → IsOuter entry → Inside l k j ≡ entry → ⊥
        no-entry entry o e = subst IsOuter (sym e) o

        go : (entry : Item) → IsOuter entry → (Inside l k j ≡ entry) ⊎ ((y : Item) × (Inside l k j ≡ Inside l k y) × Follows (λ n. tree cut n u h is) i y) → Follows (λ n. tree cut n u h is) i j
        go entry o (inl e) = absurd (no-entry entry o e)
        go entry o (inr y) = subst (Follows (λ n. tree cut n u h is) i) (inner-same y.0 y.1) y.2

    fires-in : (p : Path) (h : ℕ) (is : List Carried) (i : Item) (n : ℕ) → LeadsTo u g ins p h is → OwnFirings (λ n. tree cut n u g ins) (plug p i) n → OwnFirings (λ n. tree cut n u h is) i n
    fires-in p h is i n a x =
        let b = has-in p i (Some n) x in
        let s = path-once p b.0 h b.1 is b.2 a in
        subst (λ z. OwnFirings (λ n. tree cut n u h z) i n) s.1 (subst (λ z. OwnFirings (λ n. tree cut n u z b.1) i n) s.0 b.3)

    pub exists-in : (p : Path) (h : ℕ) (is : List Carried) (i : Item) → LeadsTo u g ins p h is → Exists (λ n. tree cut n u g ins) (plug p i) → Exists (λ n. tree cut n u h is) i
    exists-in p h is i a x =
        let b = has-in p i x.1 (x.0, x.2) in
        let s = path-once p b.0 h b.1 is b.2 a in
        let y : Exists (λ n. tree cut n u b.0 b.1) i = (b.3.0, x.1, b.3.1) in
        subst (λ z. Exists (λ n. tree cut n u h z) i) s.1 (subst (λ z. Exists (λ n. tree cut n u z b.1) i) s.0 y)

    -- an outer item of a graph's tree is one of the graph
    item-of : (h : ℕ) (is : List Carried) (i : Item) (w : Option ℕ) → Found cut u h is i w → IsOuter i → IsItem cut u h is i
    item-of h is _ _ (of_graph i w x) o = x.1
    item-of h is _ _ (of_slice l k r form ks j row rows ms part m a b c) o = a_slice l k r form ks j row rows ms part a b c
    item-of h is _ _ (of_inner l k e form ks j js m i w a b x) o = absurd o

    known-in : (p : Path) (i : Item) → IsOuter i → Exists (λ n. tree cut n u g ins) (plug p i) → (h : ℕ) × (is : List Carried) × LeadsTo u g ins p h is × IsItem cut u h is i
    known-in p i o x =
        let a = has-in p i x.1 (x.0, x.2) in
        (a.0, a.1, a.2, item-of a.0 a.1 i x.1 (found cut u ready a.0 a.1 a.3.0 i x.1 a.3.1) o)

    node-there : (h : ℕ) (is : List Carried) (l : ℕ) (v : Vertex) → at_label (u h).nodes l ≡ Some v → Exists (λ n. tree cut n u h is) (Node l)
    node-there h is l v at = (is-node cut u is-cut ready h is v l at (each-found (λ z. (n : ℕ) → IsIn n (waits z) → IsLabel (u h).nodes n) (u h).nodes (ready h).named l v at)).exists

    item-there : (h : ℕ) (is : List Carried) (i : Item) → IsItem cut u h is i → Exists (λ n. tree cut n u h is) i
    item-there h is _ (a_node l v at) = node-there h is l v at
    item-there h is _ (an_entry l k form ks t j js stage w c) =
        ((goes-on cut u is-cut ready h is w.node l w.found form ks w.kind w.given k (Enter t j js stage) c).exists (Entry t l (suc k)) (Open, inl (refl, refl))).0
    item-there h is _ (a_slice l k r form ks j row rows ms part w c at) =
        ((goes-on cut u is-cut ready h is w.node l w.found form ks w.kind w.given k (Iterate j row rows ms) c).exists (Slice l (suc k) r) (range-from l (suc k) (length (cut (row ∷ rows))) r (got-below (cut (row ∷ rows)) r part at))).0
    item-there h is _ (a_leaving l k form ks rs w c) =
        ((goes-on cut u is-cut ready h is w.node l w.found form ks w.kind w.given k (Leaves rs) c).exists (Leave l) (Open, inl (refl, refl))).0

pub paths-exact : AreAllPathsExact
paths-exact cut u g ins is-cut orderly =
    let ready = ranked u orderly in
    record {
      one = path-once u g ins;
      carried = path-carries u g ins;
      known = known-in u g ins cut is-cut ready;
      there = λ p h is i a x. exists-out u g ins cut is-cut ready p h is i a (item-there u g ins cut is-cut ready h is i x);
      order = λ p h is i j a. (order-out u g ins cut is-cut ready p h is i j a, order-in u g ins cut is-cut ready p h is i j a);
      firings = λ p h is i n a. (fires-out u g ins cut is-cut ready p h is i n a, fires-in u g ins cut is-cut ready p h is i n a);
    }
