-- The ports of nodes are fed and handled as what is known of them tells.
use Rattle.std.proofs.Common.{◌≡◌, ℕ, suc, ◌&&◌, not, Bool, true, false, List, [], ◌∷◌, map, drop, All, refl, sym, ap, ◌∙◌}
use Rattle.std.proofs.lemmas.List.Elements.{All-head, All-tail}
use Rattle.graph_meaning.specs.Demand.{Source}
use Rattle.graph_meaning.specs.Storage.{Storage, is_left}
use Rattle.run_code.specs.Made.{Plan}
use Rattle.plan_data.specs.Settings.{Shares}
use Rattle.plan_data.specs.declared.plan.PlanData.{PlanData}
use Rattle.plan_data.specs.Parts.{AreBelow, IsBelow}
use Rattle.plan_data.specs.Stands.{AreFed, IsFed}
use Rattle.plan_builder.specs.Nodes.{AreHandled, given_by, handled_by}
use Rattle.port_feeds.specs.declared.filled.Filled.{Filled}
use Rattle.port_feeds.specs.Filled.{AreFilled, AreTold}
use Rattle.plan_nodes.specs.Ports.{given_port_by, port_by}

-- ---- what fills them

-- these sources do
abbrev pub AreSources : PlanData → Plan → Shares → (graph : ℕ) → List Filled → List Source → Type 0
AreSources D P S g [] [] = Unit {0}
AreSources D P S g (f ∷ fs) (o ∷ os) = IsFed D P S g f.feed o × AreSources D P S g fs os
AreSources D P S g _ _ = ⊥

pub sources-are : (D : PlanData) (P : Plan) (S : Shares) (s : Storage) (g l i : ℕ) (fs : List Filled) (os : List Source) → AreFilled D P S s g l i fs os → AreSources D P S g fs os
sources-are D P S s g l i [] [] h = tt
sources-are D P S s g l i [] (o ∷ os) h = absurd h
sources-are D P S s g l i (f ∷ fs) [] h = absurd h
sources-are D P S s g l i (f ∷ fs) (o ∷ os) h = (h.0.fed, sources-are D P S s g l (suc i) fs os h.1)

module _ (D : PlanData) (P : Plan) (S : Shares) (g : ℕ) where
  pub simple-fed : (fs : List Filled) (os : List Source) → AreSources D P S g fs os → AreFed D P S g (map port_by fs) os
  simple-fed [] [] h = tt
  simple-fed [] (o ∷ os) h = absurd h
  simple-fed (f ∷ fs) [] h = absurd h
  simple-fed (f ∷ fs) (o ∷ os) h = (h.0, simple-fed fs os h.1)

  pub given-fed : (fs : List Filled) (os : List Source) → AreSources D P S g fs os → AreFed D P S g (map given_port_by fs) os
  given-fed [] [] h = tt
  given-fed [] (o ∷ os) h = absurd h
  given-fed (f ∷ fs) [] h = absurd h
  given-fed (f ∷ fs) (o ∷ os) h = (h.0, given-fed fs os h.1)

  pub filled-behind : (fs : List Filled) (os : List Source) → AreSources D P S g fs os → AreSources D P S g (drop 1 fs) (drop 1 os)
  filled-behind [] [] h = tt
  filled-behind [] (o ∷ os) h = absurd h
  filled-behind (f ∷ fs) [] h = absurd h
  filled-behind (f ∷ fs) (o ∷ os) h = h.1

-- ---- how they go

given-left : (a b c : Bool) → (a && b) && not c ≡ a && (b && not c)
given-left true b c = refl
given-left false b c = refl

module _ (s : Storage) (g l : ℕ) (T : (port : ℕ) → Bool) (same : (port : ℕ) → T port ≡ s.is_taken g l port) where
  -- ports that take by their marks alone
  pub simple-handled : (i : ℕ) (fs : List Filled) → AreTold s g l i fs → AreHandled handled_by T (λ p. s.is_given g l p && s.is_aggregate g l p) i (map port_by fs)
  simple-handled i [] told = tt
  simple-handled i (f ∷ fs) told = (
    ap (λ b. handled_by b f.consumed) (told.0.takes ∙ sym (same i)) ∙ ap (handled_by (T i)) told.0.consumed,
    simple-handled (suc i) fs told.1,
  )

  pub given-handled : (i : ℕ) (fs : List Filled) → AreTold s g l i fs → AreHandled given_by T (λ p. s.is_given g l p && is_left s g l p) i (map given_port_by fs)
  given-handled i [] told = tt
  given-handled i (f ∷ fs) told = (
    ap (λ b. given_by b (f.consumed && not f.takes)) (told.0.takes ∙ sym (same i))
        ∙ (ap (λ b. given_by (T i) (b && not f.takes)) told.0.consumed
        ∙ (ap (λ b. given_by (T i) ((s.is_given g l i && s.is_aggregate g l i) && not b)) told.0.takes
        ∙ ap (given_by (T i)) (given-left (s.is_given g l i) (s.is_aggregate g l i) (s.is_taken g l i)))),
    given-handled (suc i) fs told.1,
  )

pub told-behind : (s : Storage) (g l : ℕ) (fs : List Filled) → AreTold s g l 1 fs → AreTold s g l 2 (drop 1 fs)
told-behind s g l [] told = tt
told-behind s g l (f ∷ fs) told = told.1

-- ---- where outputs stand

module _ (cells : ℕ) where
  pub simple-below : (fs : List Filled) → All (λ f. IsBelow cells f.feed) fs → AreBelow cells (map port_by fs)
  simple-below [] h = tt
  simple-below (f ∷ fs) h = (All-head (λ f. IsBelow cells f.feed) f fs h, simple-below fs (All-tail (λ f. IsBelow cells f.feed) f fs h))

  pub given-below : (fs : List Filled) → All (λ f. IsBelow cells f.feed) fs → AreBelow cells (map given_port_by fs)
  given-below [] h = tt
  given-below (f ∷ fs) h = (All-head (λ f. IsBelow cells f.feed) f fs h, given-below fs (All-tail (λ f. IsBelow cells f.feed) f fs h))

  pub below-behind : (fs : List Filled) → All (λ f. IsBelow cells f.feed) fs → All (λ f. IsBelow cells f.feed) (drop 1 fs)
  below-behind [] h = h
  below-behind (f ∷ fs) h = All-tail (λ f. IsBelow cells f.feed) f fs h
