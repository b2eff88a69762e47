-- Where the parts of a node stand, and which of them are returns.
use Rattle.std.proofs.Common.{◌≡◌, ℕ, List, Option, Some, None, Contains, refl, ap, ◌∙◌}
use Rattle.std.specs.Prelude.{slice_get}
use Rattle.if1_graph.specs.declared.graph.Graph.{Graph}
use Rattle.if1_graph.specs.declared.graph.Graph.TheViews.{out-Graph}
use Rattle.if1_graph.specs.declared.graph.Node.{Node, out-Node}
use Rattle.if1_graph.specs.declared.graph.Unit1.{Unit1}
use Rattle.if1_graph.specs.declared.op.Compound.{Compound}
use Rattle.if1_graph.specs.declared.op.Part.{Part}
use Rattle.if1_graph.specs.declared.op.Part.TheVariants as part
use Rattle.if1_graph.specs.Ops.{compound_at}
use Rattle.if1_graph.specs.Parts.{part_at}
use Rattle.if1_graph.specs.Ready.{IsReady}
use Rattle.if1_graph.specs.Units.{Inside, Place, label_of, places, width}
use Rattle.graph_meaning.specs.Networks.{number_or_zero, part as part_number}
use Rattle.unit_laws.proofs.TypedParts.{part-is}
use Rattle.unit_laws.proofs.TypedPlans.{part-place}
use Rattle.unit_plan.specs.Plans.{place_of, plain_as, plain_at, plain_by, plain_in, plain_of}
use Rattle.plan_shares.proofs.Handed.{none-zero}
use Rattle.plan_shares.proofs.Homes.{places-found}

abbrev pub IsNoReturns : Part → Type 0
IsNoReturns part.Returns = ⊥
IsNoReturns _ = Unit {0}

no-plain : (outer : Graph) (n : Node) (c : Compound) (x : Part) → IsNoReturns x → plain_as outer n (Some (c, x)) ≡ None
no-plain outer n c part.Selector h = refl
no-plain outer n c part.Alternative h = refl
no-plain outer n c part.Arm h = refl
no-plain outer n c part.Generator h = refl
no-plain outer n c part.Initialization h = refl
no-plain outer n c part.Test h = refl
no-plain outer n c part.Body h = refl
no-plain outer n c part.Returns h = absurd h

module _ (u : Unit1) (ready : IsReady u) (p : Place) (place : Contains (places u) p) (n : Node) (inside : Contains (out-Graph p.graph).nodes n) where
  abbrev subs : List Graph
  subs = (out-Node n).subs

  abbrev pub part-at : ℕ → Graph → Place
  part-at k s = record { graph = s; home = Inside p.graph n k }

  pub graph-home : (k : ℕ) (s : Graph) → slice_get subs k ≡ Some s → place_of u (out-Graph s).number ≡ Some (part-at k s)
  graph-home k s at = places-found u (part-at k s) ready.formed (part-place u ready p place n inside k s at)

  pub part-home : (k : ℕ) (s : Graph) → slice_get subs k ≡ Some s → place_of u (part_number subs k) ≡ Some (part-at k s)
  part-home k s at = ap (λ o. place_of u (number_or_zero o)) at ∙ graph-home k s at

  module _ (c : Compound) (is : compound_at (out-Node n).op ≡ Some c) where
    at-home : (k : ℕ) (x : Part) (s : Graph) → part_at c k ≡ Some x → plain_at (part-at k s).home ≡ plain_as p.graph n (Some (c, x))
    at-home k x s e = ap (plain_as p.graph n) (part-is u ready p place n inside c is k x e)

    pub graph-plain : (k : ℕ) (x : Part) (s : Graph) → slice_get subs k ≡ Some s → part_at c k ≡ Some x → IsNoReturns x → plain_of u (out-Graph s).number ≡ None
    graph-plain k x s at e no_returns = ap plain_in (graph-home k s at) ∙ (at-home k x s e ∙ no-plain p.graph n c x no_returns)

    pub part-plain : (k : ℕ) (x : Part) → part_at c k ≡ Some x → IsNoReturns x → plain_of u (part_number subs k) ≡ None
    part-plain k x e no_returns = go (slice_get subs k) refl
      where
        go : (o : Option Graph) → slice_get subs k ≡ o → plain_of u (number_or_zero o) ≡ None
        go None at = ap plain_in (none-zero u ready)
        go (Some s) at = graph-plain k x s at e no_returns

    pub returns-plain : (k : ℕ) (s : Graph) → slice_get subs k ≡ Some s → part_at c k ≡ Some part.Returns → plain_of u (part_number subs k) ≡ Some (plain_by c (width p.graph (label_of n)) subs)
    returns-plain k s at e = ap plain_in (part-home k s at) ∙ at-home k part.Returns s e
