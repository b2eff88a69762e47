-- What a node of the plan gives to its parts is what it hands to them by its marks.
use Rattle.std.proofs.Common.{◌≡◌, ◌⊎◌, ℕ, zero, suc, ◌+◌, ◌-◌, ◌<◌, ◌≤◌, ◌&&◌, ◌||◌, not, Bool, true, false, List, [], ◌∷◌, get_or, length, Option, Some, None, Contains, inl, inr, refl, sym, ap, ◌∙◌, arith}
use Rattle.if1_graph.specs.declared.graph.Edge.{Edge}
use Rattle.if1_graph.specs.declared.graph.Graph.{Graph}
use Rattle.if1_graph.specs.declared.graph.Unit1.{Unit1}
use Rattle.if1_graph.specs.declared.op.Compound.{Compound}
use Rattle.if1_graph.specs.declared.op.Compound.TheVariants as compound
use Rattle.if1_graph.specs.Ready.{IsReady}
use Rattle.if1_graph.specs.Units.{Place, edge_into, number_of, places, width}
use Rattle.if1_marks.proofs.Tests.{both-left, both-right}
use Rattle.graph_meaning.specs.Demand.{Kind, Plain, Source, Vertex, Whole}
use Rattle.graph_meaning.specs.Forms as form
use Rattle.graph_meaning.specs.Networks.{form_of}
use Rattle.graph_meaning.specs.Storage.{Storage, is_left}
use Rattle.graph_meaning.specs.StorageUnits.{carries_aggregate, storage_of, takes}
use Rattle.run_store.specs.Ports.{picks_of}
use Rattle.made_store.specs.Settings.{gives}
use Rattle.unit_laws.proofs.TypedNodes.{port-filled, width-over}
use Rattle.unit_plan.specs.Plans.{Tables, picks_by, plan_of}
use Rattle.unit_plan.specs.Shares.{shares_of, takes_more}
use Rattle.plan_shares.proofs.Handed.{test-at}
use Rattle.plan_shares.specs.Parts.{is_handed}

-- ---- picks

pick-at : (test : ℕ → Bool) (i : ℕ) (os : List Source) (k : ℕ) → k < length os → get_or (picks_of test i os) k false ≡ test (i + k)
pick-at test i [] k lt = absurd (omega (arith, lt))
pick-at test i (o ∷ os) zero lt = let at : i ≡ i + 0 = omega arith in ap test at
pick-at test i (o ∷ os) (suc k) lt = let at : suc i + k ≡ i + suc k = omega arith in pick-at test (suc i) os k (omega (arith, lt)) ∙ ap test at

pick-any : (test : ℕ → Bool) (i : ℕ) (os : List Source) (k : ℕ) → get_or (picks_of test i os) k false ≡ true → test (i + k) ≡ true
pick-any test i [] k e = absurd cc
pick-any test i (o ∷ os) zero e = let at : i ≡ i + 0 = omega arith in sym (ap test at) ∙ e
pick-any test i (o ∷ os) (suc k) e = let at : suc i + k ≡ i + suc k = omega arith in sym (ap test at) ∙ pick-any test (suc i) os k e

pub or-cases : (a b : Bool) → a || b ≡ true → (a ≡ true) ⊎ (b ≡ true)
or-cases true b e = inl refl
or-cases false b e = inr e

pub or-left : (a b : Bool) → a ≡ true → a || b ≡ true
or-left true b e = refl
or-left false b e = absurd cc

pub or-right : (a b : Bool) → b ≡ true → a || b ≡ true
or-right true b e = refl
or-right false b e = e

module _ (s : Storage) (g : ℕ) (v : Vertex) where
  abbrev pub given_left : ℕ → Bool
  given_left p = s.is_given g v.label p && is_left s g v.label p

  kind-picks : (k : Kind) (q : ℕ) → get_or (picks_by s g v k) q false ≡ true → given_left (1 + q) ≡ true
  kind-picks (Plain row shape) q e = absurd cc
  kind-picks (Whole (form.Call f)) q e = absurd cc
  kind-picks (Whole (form.Select x gs w)) q e = pick-any given_left 1 v.ins q e
  kind-picks (Whole (form.TagCase gs w)) q e = pick-any given_left 1 v.ins q e
  kind-picks (Whole (form.LoopA i t b r w)) q e = pick-any given_left 1 v.ins q e
  kind-picks (Whole (form.LoopB i t b r w)) q e = pick-any given_left 1 v.ins q e
  kind-picks (Whole (form.ForAll x b r m w)) q e = pick-any given_left 1 v.ins q e

  whole-picks : (c : Compound) (gs : List Graph) (arms : List ℕ) → picks_by s g v (Whole (form_of c gs arms)) ≡ picks_of given_left 1 v.ins
  whole-picks compound.Select gs arms = refl
  whole-picks compound.TagCase gs arms = refl
  whole-picks compound.LoopA gs arms = refl
  whole-picks compound.LoopB gs arms = refl
  whole-picks compound.ForAll gs arms = refl

module _ (u : Unit1) (order : (graph : ℕ) → List Vertex) (t : Tables) (g : ℕ) (v : Vertex) (q : ℕ) where
  abbrev s : Storage
  s = storage_of u

  abbrev test : ℕ → Bool
  test = given_left s g v

  abbrev picks : List Bool
  picks = picks_by s g v v.kind

  abbrev less : suc q - 1 ≡ q
  less = omega arith

  abbrev next : 1 + q ≡ suc q
  next = omega arith

  pub gives-handed : takes_more u order g v.label (suc q) ≡ false → gives (plan_of u order t) (shares_of u order) g v (suc q) ≡ true → is_handed u g v.label (suc q) ≡ true
  gives-handed none e =
      elim (or-cases (get_or picks (suc q - 1) false) (takes_more u order g v.label (suc q) || s.is_taken g v.label (suc q)) e) [
        | inl a ↦ or-left (test (suc q)) (s.is_taken g v.label (suc q)) (sym (ap test next) ∙ kind-picks s g v v.kind q (sym (ap (λ k. get_or picks k false) less) ∙ a))
        | inr b ↦ or-right (test (suc q)) (s.is_taken g v.label (suc q)) (sym (ap (λ b. b || s.is_taken g v.label (suc q)) none) ∙ b)
      ]

  pub handed-gives : (c : Compound) (gs : List Graph) (arms : List ℕ) → v.kind ≡ Whole (form_of c gs arms) → q < length v.ins → is_handed u g v.label (suc q) ≡ true → gives (plan_of u order t) (shares_of u order) g v (suc q) ≡ true
  handed-gives c gs arms is lt e =
      elim (or-cases (test (suc q)) (s.is_taken g v.label (suc q)) e) [
        | inl a ↦
            or-left (get_or picks (suc q - 1) false) (takes_more u order g v.label (suc q) || s.is_taken g v.label (suc q))
            (ap (λ k. get_or picks k false) less
            ∙ (ap (λ k. get_or (picks_by s g v k) q false) is ∙ (ap (λ bs. get_or bs q false) (whole-picks s g v c gs arms) ∙ (pick-at test 1 v.ins q lt ∙ (ap test next ∙ a)))))
        | inr b ↦
            or-right (get_or picks (suc q - 1) false) (takes_more u order g v.label (suc q) || s.is_taken g v.label (suc q))
            (or-right (takes_more u order g v.label (suc q)) (s.is_taken g v.label (suc q)) b)
      ]

-- ---- what is handed comes by an edge

module _ (u : Unit1) (ready : IsReady u) (p : Place) (place : Contains (places u) p) (l port : ℕ) where
  edge-within : (o : Option Edge) → edge_into p.graph l port ≡ o → (carries_aggregate u o ≡ true) ⊎ (takes o ≡ true) → port ≤ width p.graph l
  edge-within None f (inl a) = absurd cc
  edge-within None f (inr a) = absurd cc
  edge-within (Some e) f h = width-over p.graph l port (port-filled p.graph l port e f)

  pub handed-within : is_handed u (number_of p) l port ≡ true → port ≤ width p.graph l
  handed-within e =
      elim (or-cases ((storage_of u).is_given (number_of p) l port && is_left (storage_of u) (number_of p) l port) ((storage_of u).is_taken (number_of p) l port) e) [
        | inl a ↦
            edge-within (edge_into p.graph l port) refl
            (inl (sym (test-at u ready p place (λ g. carries_aggregate u (edge_into g l port)))
            ∙ both-left ((storage_of u).is_aggregate (number_of p) l port) (not ((storage_of u).is_taken (number_of p) l port))
            (both-right ((storage_of u).is_given (number_of p) l port) (is_left (storage_of u) (number_of p) l port) a)))
        | inr b ↦ edge-within (edge_into p.graph l port) refl (inr (sym (test-at u ready p place (λ g. takes (edge_into g l port))) ∙ b))
      ]
