-- The weights of a unit's plan are those of record, and so runs of the code that is made of it are decided.
use Rattle.std.proofs.Common.{◌≡◌, ℕ, zero, suc, ◌&&◌, not, Bool, true, false, List, [], ◌∷◌, Option, Some, None, inl, refl, ap, ◌∙◌}
use Rattle.if1_graph.specs.declared.graph.Unit1.{Unit1}
use Rattle.if1_graph.specs.Ready.{IsReady}
use Rattle.graph_meaning.proofs.Taken.{sound-in-order}
use Rattle.graph_meaning.specs.Orders.{AreOrdersRight}
use Rattle.graph_meaning.proofs.Finding.{all-found}
use Rattle.graph_meaning.proofs.Units.{units-orderly}
use Rattle.graph_meaning.specs.Carried.{Carried}
use Rattle.graph_meaning.specs.Demand.{EachNode, Kind, Plain, Vertex, Whole, at_label}
use Rattle.graph_meaning.specs.Forms as form
use Rattle.graph_meaning.specs.Networks.{network}
use Rattle.graph_meaning.specs.Storage.{Storage, copying, is_left, node_written, writing}
use Rattle.graph_meaning.specs.StorageUnits.{storage_of}
use Rattle.made_store.specs.Made.{Plan}
use Rattle.made_store.specs.Weighing.{AreAlike}
use Rattle.made_store.proofs.UnitWeights.{unit-weights}
use Rattle.made_store.proofs.Units.{made-unit-decided, made-writes}
use Rattle.made_store.specs.Settings.{Shares}
use Rattle.made_store.specs.UnitWeights.{IsPicked, IsUnpicked}
use Rattle.made_store.specs.Weights.{by_modes, node_weight}
use Rattle.unit_plan.proofs.Right.{plans-right, writes-right}
use Rattle.unit_plan.specs.Laws.{AreUnitPlanWritesRecorded, AreUnitPlansDecided, DoUnitPlansPickForParts}
use Rattle.unit_plan.specs.Plans.{Tables, functions_of, levels_of, picks_by, plain_of, plan_of}
use Rattle.unit_plan.specs.Shares.{has_of, kind_or, owns_of, reads_by, shares_of, takes_collected, takes_more, weighing, writing_of}

-- no aggregate is taken without its mark
not-both : (a b : Bool) → b ≡ true → a && not b ≡ false
not-both true true e = refl
not-both false b e = refl
not-both true false e = absurd (let x : false ≡ true = e in cc)

pub none-more : (u : Unit1) (order : ℕ → List Vertex) (g l p : ℕ) → (storage_of u).is_aggregate g l p ≡ true → takes_more u order g l p ≡ false
none-more u order g zero p e = refl
none-more u order g (suc l) p e = go (plain_of u g)
  where
    go : (o : Option ℕ) → takes_collected u order o g (suc l) p ≡ false
    go None = refl
    go (Some plain) = not-both (reads_by plain (is_left (storage_of u) g) (at_label (network u g).nodes (suc l)) p) ((storage_of u).is_aggregate g (suc l) p) e

pub picks-marked : (s : Storage) (g : ℕ) (v : Vertex) (k : Kind) → IsPicked s g v k (picks_by s g v k)
picks-marked s g v (Plain row shape) = tt
picks-marked s g v (Whole (form.Call f)) = tt
picks-marked s g v (Whole (form.Select x gs w)) = refl
picks-marked s g v (Whole (form.TagCase gs w)) = refl
picks-marked s g v (Whole (form.LoopA i t b r w)) = refl
picks-marked s g v (Whole (form.LoopB i t b r w)) = refl
picks-marked s g v (Whole (form.ForAll x b r m w)) = refl

none-picked : (s : Storage) (g : ℕ) (v : Vertex) (k : Kind) → IsUnpicked k (picks_by s g v k)
none-picked s g v (Plain row shape) = refl
none-picked s g v (Whole (form.Call f)) = refl
none-picked s g v (Whole (form.Select x gs w)) = tt
none-picked s g v (Whole (form.TagCase gs w)) = tt
none-picked s g v (Whole (form.LoopA i t b r w)) = tt
none-picked s g v (Whole (form.LoopB i t b r w)) = tt
none-picked s g v (Whole (form.ForAll x b r m w)) = tt

pub plans-unpicked : DoUnitPlansPickForParts
plans-unpicked u order t g v = none-picked (storage_of u) g v v.kind

module _ (u : Unit1) (order : ℕ → List Vertex) (t : Tables) (ready : IsReady u) (lists : AreOrdersRight u) where
  abbrev P : Plan
  P = plan_of u order t

  abbrev S : Shares
  S = shares_of u order

  modes-alike : AreAlike (network u) (by_modes P S (storage_of u)).weights (copying (storage_of u))
  modes-alike = unit-weights u P (takes_more u order) (owns_of u order) (has_of u) (λ r. []) (none-more u order) (λ g v. picks-marked (storage_of u) g v v.kind) (λ g. inl refl)

  -- a node of the graph weighs by what it does
  nodes-alike : (g : ℕ) (vs : List Vertex) → EachNode (λ v. at_label (network u g).nodes v.label ≡ Some v) vs
      → EachNode (λ v. (ks rs : List Carried) → (by_modes P S (storage_of u)).weights.of_node g v ks rs ≡ (copying (storage_of u)).of_node g v ks rs) vs
      → EachNode (λ v. (ks rs : List Carried) → (weighing u order t).weights.of_node g v ks rs ≡ (copying (storage_of u)).of_node g v ks rs) vs
  nodes-alike g [] h k = tt
  nodes-alike g (v ∷ vs) h k = ((λ ks rs. ap (λ o. node_weight P S (storage_of u) g v (kind_or v.kind o) ks rs) h.0 ∙ k.0 ks rs), nodes-alike g vs h.1 k.1)

  pub weights-alike : AreAlike (network u) (weighing u order t).weights (copying (storage_of u))
  weights-alike g = (nodes-alike g (network u g).nodes (all-found (network u g).nodes (units-orderly u ready lists g).once) (modes-alike g).0, (modes-alike g).1)

-- so it is of writes
module _ (u : Unit1) (ready : IsReady u) (lists : AreOrdersRight u) where
  nodes-written : (g : ℕ) (vs : List Vertex) → EachNode (λ v. at_label (network u g).nodes v.label ≡ Some v) vs → EachNode (λ v. (ks rs : List Carried) → (writing_of u).weights.of_node g v ks rs ≡ (writing (storage_of u)).of_node g v ks rs) vs
  nodes-written g [] h = tt
  nodes-written g (v ∷ vs) h = ((λ ks rs. ap (λ o. node_written (storage_of u) g v.label (kind_or v.kind o) ks rs) h.0), nodes-written g vs h.1)

  pub writes-alike : AreAlike (network u) (writing_of u).weights (writing (storage_of u))
  writes-alike g = (nodes-written g (network u g).nodes (all-found (network u g).nodes (units-orderly u ready lists g).once), λ rs long. refl)

pub writes-recorded : AreUnitPlanWritesRecorded
writes-recorded u order t limit ready sound along tables shared f ins rs c copies sum in_f as_many ends =
    made-writes u (plan_of u order t) (shares_of u order) (weighing u order t) (writing_of u) order (functions_of u) (levels_of u) limit ready sound along (plans-right u order t ready sound along tables)
    (writes-right u order t ready sound along tables) shared (weights-alike u order t ready (sound-in-order u sound)) (writes-alike u ready (sound-in-order u sound)) f ins rs c copies sum in_f as_many ends

pub plans-decided : AreUnitPlansDecided
plans-decided u order t limit ready sound along tables shared f ins in_f as_many =
    made-unit-decided u (plan_of u order t) (shares_of u order) (weighing u order t) order (functions_of u) (levels_of u) limit ready sound along
    (plans-right u order t ready sound along tables) shared (weights-alike u order t ready (sound-in-order u sound)) f ins in_f as_many
