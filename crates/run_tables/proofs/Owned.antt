-- Which items a compound node has, by what it does.
use Rattle.std.proofs.Common.{◌≡◌, ℕ, zero, suc, ◌+◌, ◌≤◌, Bool, List, [], ◌∷◌, length, slice_get, Option, Some, None, inl, inr, refl, sym, ap, ◌∙◌, subst, arith}
use native.Mathlib.Decide.{ℕ_discrete, dec_le}
use Rattle.graph_meaning.specs.Carried.{Carried}
use Rattle.graph_meaning.specs.Entered.{Item, Node, Entry, Slice, Leave, Inside}
use Rattle.graph_meaning.specs.Forms.{Form, Next, Enter, Iterate, Leave as Leaves, Begins, Skips, Stage, first}
use Rattle.graph_meaning.specs.Demand.{Network, Cut, tree}
use Rattle.graph_meaning.specs.Histories.{Exists}
use Rattle.graph_meaning.proofs.Ranks.{AreRanked}
use Rattle.run_states.specs.Standing.{label_of, AtLeast, Open, IsAmong}
use Rattle.run_states.specs.Phases.{Comes, skips, begins, enters, iterates, ranges}
use Rattle.run_states.specs.Paths.{IsWhole, IsItem, a_node, an_entry, a_slice, a_leaving}
use Rattle.run_states.proofs.Found.{Found, of_graph, of_slice, of_inner, found}
use Rattle.run_states.proofs.Paths.{comes-once, whole-once, entered-by, EntersBy, iterate-same}

enter-leave : {P : Type 0} (t : Bool) (j : ℕ) (js : List Carried) (stage : Stage) (rs : List Carried) → Enter t j js stage ≡ Leaves rs → P
enter-leave t j js stage rs e = absurd (clash e)
  where
    clash : Enter t j js stage ≡ Leaves rs → ⊥
    clash e = cc

enter-iterate : {P : Type 0} (t : Bool) (j : ℕ) (js : List Carried) (stage : Stage) (h : ℕ) (row : List Carried) (rows : List (List Carried)) (ms : List Carried) → Enter t j js stage ≡ Iterate h row rows ms → P
enter-iterate t j js stage h row rows ms e = absurd (clash e)
  where
    clash : Enter t j js stage ≡ Iterate h row rows ms → ⊥
    clash e = cc

begins-skips : {P : Type 0} (j : ℕ) (js : List Carried) (stage : Stage) (rs : List Carried) → Begins j js stage ≡ Skips rs → P
begins-skips j js stage rs e = absurd (clash e)
  where
    clash : Begins j js stage ≡ Skips rs → ⊥
    clash e = cc

-- a slice of so many ranges is among them
pub among-ranges : {A : Type 0} (l k s : ℕ) (xs : List A) (r q : ℕ) (x : A) → slice_get xs r ≡ Some x → q ≡ s + r → IsAmong (Slice l k q) (ranges l k s (length xs))
among-ranges l k s [] r q x e at = absurd (clash e)
  where
    clash : None ≡ Some x → ⊥
    clash e = cc
among-ranges l k s (y ∷ xs) zero q x e at = (Open, inl (ap (Slice l k) (omega (arith, at)), refl))
among-ranges l k s (y ∷ xs) (suc r) q x e at = let a = among-ranges l k (suc s) xs r q x e (omega (arith, at)) in (a.0, inr a.1)

-- a next step that is no leaving
abbrev IsFurther : Next → Type 0
IsFurther (Leaves rs) = ⊥
IsFurther _ = Unit {0}

module _ (cut : Cut) (u : Network) (ready : AreRanked u) (h : ℕ) (is : List Carried) (l : ℕ) (form : Form) (ks : List Carried) (w : IsWhole u h is l form ks) where
  -- an item of the node
  pub data Kind (i : Item) : Type 0 where
    own : i ≡ Node l → Kind i
    entry : (k : ℕ) (t : Bool) (j : ℕ) (js : List Carried) (stage : Stage) → Comes u form ks k (Enter t j js stage) → i ≡ Entry t l (suc k) → Kind i
    slice : (k r j : ℕ) (row : List Carried) (rows : List (List Carried)) (ms : List Carried) (part : List (List Carried)) → Comes u form ks k (Iterate j row rows ms) → slice_get (cut (row ∷ rows)) r ≡ Some part → i ≡ Slice l (suc k) r → Kind i
    leaving : (k : ℕ) (rs : List Carried) → Comes u form ks k (Leaves rs) → i ≡ Leave l → Kind i
    inner : (k j : ℕ) (js : List Carried) (i' : Item) → EntersBy u form ks k j js → i ≡ Inside l k i' → Kind i

  came : (n : ℕ) (f : Form) (q : List Carried) (k : ℕ) (next : Next) → IsWhole u h is n f q → n ≡ l → Comes u f q k next → Comes u form ks k next
  came n f q k next w' lab c =
      let one = whole-once u h is l f form q ks (subst (λ z. IsWhole u h is z f q) lab w') w in
      subst (λ z. Comes u form z k next) one.1 (subst (λ z. Comes u z q k next) one.0 c)

  from-item : (z : Item) → IsItem cut u h is z → label_of z ≡ l → Kind z
  from-item _ (a_node n v e) lab = own (ap Node lab)
  from-item _ (an_entry n k f q t j js stage w' c) lab = entry k t j js stage (came n f q k (Enter t j js stage) w' lab c) (ap (λ z. Entry t z (suc k)) lab)
  from-item _ (a_slice n k r f q j row rows ms part w' c at) lab = slice k r j row rows ms part (came n f q k (Iterate j row rows ms) w' lab c) at (ap (λ z. Slice z (suc k) r) lab)
  from-item _ (a_leaving n k f q rs w' c) lab = leaving k rs (came n f q k (Leaves rs) w' lab c) (ap Leave lab)

  from-found : (z : Item) (o : Option ℕ) → Found cut u h is z o → label_of z ≡ l → Kind z
  from-found _ _ (of_graph z o x) lab = from-item z x.1 lab
  from-found _ _ (of_slice n k r f q j row rows ms part m w' c at) lab = slice k r j row rows ms part (came n f q k (Iterate j row rows ms) w' lab c) at (ap (λ z. Slice z (suc k) r) lab)
  from-found _ _ (of_inner n k e f q j js m z o w' en x) lab =
      let one = whole-once u h is l f form q ks (subst (λ z. IsWhole u h is z f q) lab w') w in
      inner k j js z (subst (λ p. EntersBy u form p k j js) one.1 (subst (λ p. EntersBy u p q k j js) one.0 (entered-by u f q n k e j js en))) (ap (λ p. Inside p k z) lab)

  pub kind : (i : Item) → Exists (λ n. tree cut n u h is) i → label_of i ≡ l → Kind i
  kind i ex lab = from-found i ex.1 (found cut u ready h is ex.0 i ex.1 ex.2) lab

  -- ---- after a leaving there is nothing

  module _ (n : ℕ) (rs : List Carried) (c : Comes u form ks n (Leaves rs)) where
    behind : (k : ℕ) (next : Next) → IsFurther next → Comes u form ks k next → k ≤ n → suc k ≤ n
    behind k next further d le = go (ℕ_discrete k n)
      where
        go : Dec (k ≡ n) → suc k ≤ n
        go (yes e) = absurd (subst IsFurther (comes-once u form ks n next (Leaves rs) (subst (λ z. Comes u form ks z next) e d) c) further)
        go (no ne) = omega (arith, le, ne)

    before-leaving : (k : ℕ) (next : Next) → Comes u form ks k next → k ≤ n
    before-leaving _ _ (skips qs e) = omega arith
    before-leaving _ _ (begins j js stage qs e res) = omega arith
    before-leaving _ _ (enters k t j js stage qs d res) = behind k (Enter t j js stage) tt d (before-leaving k (Enter t j js stage) d)
    before-leaving _ _ (iterates k j row rows ms lists d res) = behind k (Iterate j row rows ms) tt d (before-leaving k (Iterate j row rows ms) d)

    further-before : (k : ℕ) (next : Next) → IsFurther next → Comes u form ks k next → suc n ≤ suc k → ⊥
    further-before k next further d le = let a = behind k next further d (before-leaving k next d) in omega (arith, a, le)

    inner-before : (k j : ℕ) (js : List Carried) → EntersBy u form ks k j js → suc n ≤ k → ⊥
    inner-before zero j js e le = omega (arith, le)
    inner-before (suc k) j js e le = further-before k (Enter e.0 j js e.1) tt e.2 le

    pub only-leaving : (i : Item) → Kind i → AtLeast (suc n) i → i ≡ Leave l
    only-leaving i (own e) le = absurd (subst (AtLeast (suc n)) e le)
    only-leaving i (entry k t j js stage d e) le = absurd (further-before k (Enter t j js stage) tt d (subst (AtLeast (suc n)) e le))
    only-leaving i (slice k r j row rows ms part d at e) le = absurd (further-before k (Iterate j row rows ms) tt d (subst (AtLeast (suc n)) e le))
    only-leaving i (leaving k qs d e) le = e
    only-leaving i (inner k j js z en e) le = absurd (inner-before k j js en (subst (AtLeast (suc n)) e le))

  -- ---- a node that enters nothing has its own item before it leaves

  pub only-own : (rs : List Carried) → first form ks ≡ Skips rs → (i : Item) → Kind i → ¬ AtLeast 1 i → i ≡ Node l
  only-own rs s i (own e) no-less = e
  only-own rs s i (entry k t j js stage d e) no-less = absurd (no-less (subst (AtLeast 1) (sym e) (omega arith)))
  only-own rs s i (slice k r j row rows ms part d at e) no-less = absurd (no-less (subst (AtLeast 1) (sym e) (omega arith)))
  only-own rs s i (leaving k qs d e) no-less = absurd (no-less (subst (AtLeast 1) (sym e) tt))
  only-own rs s i (inner zero j js z en e) no-less = begins-skips j js en.0 rs (sym en.1 ∙ s)
  only-own rs s i (inner (suc k) j js z en e) no-less = absurd (no-less (subst (AtLeast 1) (sym e) (omega arith)))

  -- ---- the items of a step of slices are these slices

  module _ (n j : ℕ) (row : List Carried) (rows : List (List Carried)) (ms : List Carried) (c : Comes u form ks n (Iterate j row rows ms)) where
    one-step : (k : ℕ) → suc n ≤ suc k → ¬ (suc (suc n) ≤ suc k) → k ≡ n
    one-step k le no-more = go (dec_le (suc (suc n)) (suc k))
      where
        go : Dec (suc (suc n) ≤ suc k) → k ≡ n
        go (yes a) = absurd (no-more a)
        go (no a) = omega (arith, le, a)

    no-entry : {P : Type 0} (k : ℕ) (t : Bool) (h : ℕ) (js : List Carried) (stage : Stage) → Comes u form ks k (Enter t h js stage) → k ≡ n → P
    no-entry k t h js stage d e = enter-iterate t h js stage j row rows ms (comes-once u form ks n (Enter t h js stage) (Iterate j row rows ms) (subst (λ z. Comes u form ks z (Enter t h js stage)) e d) c)

    pub among-slices : (i : Item) → Kind i → AtLeast (suc n) i → ¬ AtLeast (suc (suc n)) i → IsAmong i (ranges l (suc n) 0 (length (cut (row ∷ rows))))
    among-slices i (own e) le no-more = absurd (subst (AtLeast (suc n)) e le)
    among-slices i (entry k t h js stage d e) le no-more = no-entry k t h js stage d (one-step k (subst (AtLeast (suc n)) e le) (λ a. no-more (subst (AtLeast (suc (suc n))) (sym e) a)))
    among-slices i (slice k r h sow sows ns part d at e) le no-more =
        let q = one-step k (subst (AtLeast (suc n)) e le) (λ a. no-more (subst (AtLeast (suc (suc n))) (sym e) a)) in
        let same = iterate-same h j sow row sows rows ns ms (comes-once u form ks n (Iterate h sow sows ns) (Iterate j row rows ms) (subst (λ z. Comes u form ks z (Iterate h sow sows ns)) q d) c) in
        subst (λ z. IsAmong z (ranges l (suc n) 0 (length (cut (row ∷ rows))))) (sym (e ∙ ap (λ z. Slice l (suc z) r) q))
        (among-ranges l (suc n) 0 (cut (row ∷ rows)) r r part (sym (ap (λ z. slice_get (cut z) r) same.1) ∙ at) (omega arith))
    among-slices i (leaving k qs d e) le no-more = absurd (no-more (subst (AtLeast (suc (suc n))) (sym e) tt))
    among-slices i (inner zero h js z en e) le no-more = absurd (not-zero (subst (AtLeast (suc n)) e le))
      where
        not-zero : suc n ≤ 0 → ⊥
        not-zero a = omega (arith, a)
    among-slices i (inner (suc k) h js z en e) le no-more = no-entry k en.0 h js en.1 en.2 (one-step k (subst (AtLeast (suc n)) e le) (λ a. no-more (subst (AtLeast (suc (suc n))) (sym e) a)))
