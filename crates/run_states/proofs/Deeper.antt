-- What a depth gives, every greater one gives: what a node does from a step on.
use Rattle.std.proofs.Common.{◌≡◌, ℕ, zero, suc, ◌≤◌, Bool, true, List, [], ◌∷◌, map, Option, Some, None, inl, inr, refl, sym, ap, ◌∙◌, subst, arith}
use Rattle.graph_meaning.specs.Carried.{Carried}
use Rattle.graph_meaning.specs.Entered.{Entered, Steps, Item, IsSlice, cost, plus}
use Rattle.graph_meaning.specs.Growing.{Grows, GrowsSteps, leaves as has_left, deeper, part, slices, GrowsCosts, no_cost, open_cost, known_cost}
use Rattle.graph_meaning.specs.Forms.{Form, Next, Stage, Enter, Leave, Iterate, follow, gather}
use Rattle.graph_meaning.specs.Demand.{Source, Network, Cut, all, dem, on_results, slice_cost, tree_from}
use Rattle.graph_meaning.specs.Plain.{is_deeper, Carries, CarryAll, no_port, port, Leads, leaves, enters, enters_deeper, iterates}
use Rattle.graph_meaning.proofs.Depths.{Below, cost-below, dem-below, all-below, tree-grows}
use Rattle.graph_meaning.proofs.PlainDepths.{all-on, rows-on}

-- ---- steps of trees

-- slices have their places
pub slice-grows : {cs ds : List (Option ℕ)} → GrowsCosts cs ds → (l k r : ℕ) (i : Item) (w : Option ℕ) → IsSlice l k r cs i w → (v : Option ℕ) × IsSlice l k r ds i v
slice-grows no_cost l k r i w h = absurd h
slice-grows (open_cost {c = c} g) l k r i w (inl h) = (c, inl (h.0, refl))
slice-grows (open_cost g) l k r i w (inr h) = let x = slice-grows g l k (suc r) i w h in (x.0, inr x.1)
slice-grows (known_cost {n = n} g) l k r i w (inl h) = (Some n, inl (h.0, refl))
slice-grows (known_cost g) l k r i w (inr h) = let x = slice-grows g l k (suc r) i w h in (x.0, inr x.1)

plus-below : (a b x y : Option ℕ) → Below a x → Below b y → Below (plus a b) (plus x y)
plus-below None b x y h k c e = absurd cc
plus-below (Some a) None x y h k c e = absurd cc
plus-below (Some a) (Some b) x y h k c e = ap (λ z. plus z y) (h a refl) ∙ (ap (plus (Some a)) (k b refl) ∙ e)

slice-below : (body deep : List Carried → Entered) → ((ins : List Carried) → Grows (body ins) (deep ins)) → (rows : List (List Carried)) → Below (slice_cost body rows) (slice_cost deep rows)
slice-below body deep h [] = λ c e. e
slice-below body deep h (ins ∷ rows) =
    plus-below _ _ _ _ (plus-below (Some 1) (cost (body ins)) (Some 1) (cost (deep ins)) (λ c e. e) (cost-below (body ins) (deep ins) (h ins))) (slice-below body deep h rows)

costs-grow : (f g : List (List Carried) → Option ℕ) → ((rows : List (List Carried)) → Below (f rows) (g rows)) → (cut : List (List (List Carried))) → GrowsCosts (map f cut) (map g cut)
costs-grow f g h [] = no_cost
costs-grow f g h (rows ∷ cut) = go (f rows) (g rows) (h rows) (costs-grow f g h cut)
  where
    go : (a b : Option ℕ) → Below a b → GrowsCosts (map f cut) (map g cut) → GrowsCosts (a ∷ map f cut) (b ∷ map g cut)
    go None b h rest = open_cost rest
    go (Some n) b h rest = subst (λ x. GrowsCosts (Some n ∷ map f cut) (x ∷ map g cut)) (sym (h n refl)) (known_cost rest)

pub results-grow : {A : Type 0} (o p : Option A) (f g : A → Steps) → Below o p → ((a : A) → GrowsSteps (f a) (g a)) → GrowsSteps (on_results o f) (on_results p g)
results-grow None p f g b h = deeper
results-grow (Some a) p f g b h = subst (λ x. GrowsSteps (f a) (on_results x g)) (sym (b a refl)) (h a)

module _ (cut : Cut) (u : Network) where
  -- the steps of a node grow with the depth
  pub steps-grow : (n m : ℕ) → n ≤ m → (form : Form) (ks : List Carried) (next : Next) → GrowsSteps (tree_from cut n u form ks next) (tree_from cut m u form ks next)
  steps-grow zero m le form ks next = deeper
  steps-grow (suc n) zero le form ks next = absurd (omega (arith, le))
  steps-grow (suc n) (suc m) le form ks (Leave rs) = has_left
  steps-grow (suc n) (suc m) le form ks (Enter t g ins stage) =
      part (tree-grows cut n m (omega (arith, le)) u g ins)
      (results-grow (dem n u g ins) (dem m u g ins) _ _ (dem-below n m (omega (arith, le)) u g ins) (λ rs. steps-grow n m (omega (arith, le)) form ks (follow form ks stage rs)))
  steps-grow (suc n) (suc m) le form ks (Iterate g row rows ms) =
      slices (costs-grow _ _ (slice-below _ _ (λ ins. tree-grows cut n m (omega (arith, le)) u g ins)) (cut (row ∷ rows)))
      (results-grow (all (map (λ ins. dem n u g ins) (row ∷ rows))) (all (map (λ ins. dem m u g ins) (row ∷ rows))) _ _ (all-below (λ ins. dem n u g ins) (λ ins. dem m u g ins) (dem-below n m (omega (arith, le)) u g) (row ∷ rows)) (λ rs. steps-grow n m (omega (arith, le)) form ks (gather form ks ms rs)))

-- ---- the definition of record

module _ (u : Network) where
  abbrev FirstOf : ℕ → ℕ → List Carried → List Source → List Carried → Type 0
  FirstOf n g ins [] cs = Unit {0}
  FirstOf n g ins (o ∷ os) [] = Unit {0}
  FirstOf n g ins (o ∷ os) (c ∷ cs) = Carries u n g ins o c

  first-of : (n g : ℕ) (ins : List Carried) (os : List Source) (cs : List Carried) → CarryAll u n g ins os cs → FirstOf n g ins os cs
  first-of _ _ _ _ _ (no_port n g ins) = tt
  first-of _ _ _ _ _ (port n g ins o os c cs a b) = a

  -- what a port carries
  pub carries-on : (n g : ℕ) (ins : List Carried) (o : Source) (c : Carried) → Carries u n g ins o c → (m : ℕ) → n ≤ m → Carries u m g ins o c
  carries-on n g ins o c a m le = first-of m g ins (o ∷ []) (c ∷ []) (all-on u n g ins (o ∷ []) (c ∷ []) (port n g ins o [] c [] a (no_port n g ins)) m le)

  deeper-enters : (n m : ℕ) → suc n ≤ m → (form : Form) (ks : List Carried) (t : Bool) (g : ℕ) (ins : List Carried) (stage : Stage) (ms rs : List Carried) → is_deeper form t ≡ true
      → ((k : ℕ) → n ≤ k → CarryAll u k g ins (u g).results ms) → ((k : ℕ) → n ≤ k → Leads u k form ks (follow form ks stage ms) rs) → Leads u m form ks (Enter t g ins stage) rs
  deeper-enters n zero le form ks t g ins stage ms rs d a b = absurd (omega (arith, le))
  deeper-enters n (suc k) le form ks t g ins stage ms rs d a b = enters_deeper k form ks t g ins stage ms rs d (a k (omega (arith, le))) (b k (omega (arith, le)))

  -- the outputs from a step on
  pub leads-on : (n : ℕ) (form : Form) (ks : List Carried) (next : Next) (rs : List Carried) → Leads u n form ks next rs → (m : ℕ) → n ≤ m → Leads u m form ks next rs
  leads-on _ _ _ _ _ (leaves n form ks rs) m le = leaves m form ks rs
  leads-on _ _ _ _ _ (enters n form ks t g ins stage ms rs d a b) m le = enters m form ks t g ins stage ms rs d (all-on u n g ins (u g).results ms a m le) (leads-on n form ks (follow form ks stage ms) rs b m le)
  leads-on _ _ _ _ _ (enters_deeper n form ks t g ins stage ms rs d a b) m le = deeper-enters n m le form ks t g ins stage ms rs d (all-on u n g ins (u g).results ms a) (leads-on n form ks (follow form ks stage ms) rs b)
  leads-on _ _ _ _ _ (iterates n form ks g row rows ms lists rs a b) m le = iterates m form ks g row rows ms lists rs (rows-on u n g (row ∷ rows) lists a m le) (leads-on n form ks (gather form ks ms lists) rs b m le)
