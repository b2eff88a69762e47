-- In the plan of a ready unit no port copies a literal that has leaves.
use Rattle.std.proofs.Common.{◌≡◌, ℕ, suc, ◌+◌, ◌-◌, leb, Bool, true, List, Option, Some, None, refl, sym, ap, ◌∙◌, subst, arith}
use Rattle.std.proofs.lemmas.Bool.{leb-true}
use Rattle.if1_graph.specs.declared.graph.Unit1.{Unit1}
use Rattle.if1_marks.proofs.Tests.{both-right}
use Rattle.graph_meaning.specs.Demand.{EachNode, Kind, Plain, Source, Vertex, Whole}
use Rattle.graph_meaning.specs.Networks.{network}
use Rattle.graph_meaning.specs.Storage.{is_left}
use Rattle.graph_meaning.specs.StorageUnits.{storage_of}
use Rattle.ordered_meaning.specs.Taking.{first_port}
use Rattle.run_code.specs.Collections.{Collect}
use Rattle.run_code.specs.Made.{Plan}
use Rattle.made_store.specs.Settings.{Shares}
use Rattle.unit_plan.specs.Plans.{Tables, nodes_by, plain_of, plan_of}
use Rattle.unit_plan.specs.Returns.{node_collects, refolded_node}
use Rattle.unit_plan.specs.Shares.{shares_of}
use Rattle.plan_shares.proofs.Graphs.{IsAt, each-both, each-of, each-refolded, in-order}
use Rattle.plan_shares.proofs.Replacing.{IsWholePlain, Replaced, collected, cut, kept, node-replaced}
use Rattle.unit_runs.proofs.Passing.{parts-passed}
use Rattle.unit_runs.proofs.Ports.{ports-bare}
use Rattle.unit_runs.specs.Literals.{AreSourcesBare, IsKindPassed, IsKindPicked}
use Rattle.unit_runs.specs.Units.{AreUnitGraphsBare, IsNodeBare, is_plain_by, may_be_literal}

module _ (u : Unit1) (order : (graph : ℕ) → List Vertex) (t : Tables) (g : ℕ) where
  abbrev P : Plan
  P = plan_of u order t

  abbrev S : Shares
  S = shares_of u order

  abbrev IsBare : Vertex → Type 0
  IsBare v = AreSourcesBare P S (may_be_literal u) (S.copies g v.label) g (first_port v.kind) v.ins × IsKindPicked P S (may_be_literal u) g v v.kind × IsKindPassed P S (may_be_literal u) g v v.kind

  module _ (plain : ℕ) (is : plain_of u g ≡ Some plain) where
    -- a collection is no literal
    no-collection : (k : ℕ) → may_be_literal u g (suc (suc (plain + k) - 1)) ≡ true → ⊥
    no-collection k m =
        let a = both-right _ (is_plain_by u (plain_of u g) (suc (suc (plain + k) - 1))) m in
        let b : leb (suc (suc (plain + k) - 1)) plain ≡ true = sym (ap (λ o. is_plain_by u o (suc (suc (plain + k) - 1))) is) ∙ a in
        let c = leb-true (suc (suc (plain + k) - 1)) plain b in
        omega (arith, c)

    replaced-bare : (copies : ℕ → Bool) (i k : ℕ) (os os' : List Source) (cs : List Collect) → Replaced plain k os os' cs → AreSourcesBare P S (may_be_literal u) copies g i os → AreSourcesBare P S (may_be_literal u) copies g i os'
    replaced-bare copies i _ _ _ _ (cut k os) h = tt
    replaced-bare copies i _ _ _ _ (kept k o os os' cs e r) h = (h.0, replaced-bare copies (suc i) k os os' cs r h.1)
    replaced-bare copies i _ _ _ _ (collected k o os os' c cs m e s r) h = ((λ y. absurd (no-collection k y)), replaced-bare copies (suc i) (suc k) os os' cs r h.1)

    refolded-bare : (k : ℕ) (v : Vertex) (kind : Kind) → v.kind ≡ kind → IsBare v → IsBare (refolded_node plain (is_left (storage_of u) g) k v kind)
    refolded-bare k v (Whole form) e h = h
    refolded-bare k v (Plain row shape) e h =
        let left = is_left (storage_of u) g in
        let first = subst (λ z. AreSourcesBare P S (may_be_literal u) (S.copies g v.label) g (first_port z) v.ins) e h.0 in
        let r = subst (λ z. Replaced plain k v.ins (refolded_node plain left k v z).ins (node_collects plain left v z)) e (node-replaced plain left k v (subst (IsWholePlain plain v) (sym e) tt)) in
        (replaced-bare (S.copies g v.label) 1 k v.ins (refolded_node plain left k v (Plain row shape)).ins (node_collects plain left v (Plain row shape)) r first, tt, tt)

  planned-bare : (vs : List Vertex) → EachNode IsBare vs → (o : Option ℕ) → plain_of u g ≡ o → EachNode IsBare (nodes_by u g o vs)
  planned-bare vs h None e = h
  planned-bare vs h (Some plain) e = each-refolded plain (is_left (storage_of u) g) IsBare IsBare (λ k v r. refolded-bare plain e k v v.kind refl r) 0 vs h

pub graphs-bare : AreUnitGraphsBare
graphs-bare u order t ready along g =
    let ports = ports-bare u order t ready g in
    let both = each-both (IsNodeBare u order t g) (λ v. IsKindPassed (plan_of u order t) (shares_of u order) (may_be_literal u) g v v.kind) (network u g).nodes ports.0 (parts-passed u order t ready g) in
    let each = each-of (λ v. IsNodeBare u order t g v × IsKindPassed (plan_of u order t) (shares_of u order) (may_be_literal u) g v v.kind) (IsBare u order t g) (λ v x. (x.0.0, x.0.1, x.1)) (network u g).nodes both in
    let ordered = each-of (λ v. IsBare u order t g v × IsAt (network u g) v) (IsBare u order t g) (λ v x. x.0) (order g) (in-order (network u g) (IsBare u order t g) each (order g) (along g)) in
    record { nodes = planned-bare u order t g (order g) ordered (plain_of u g) refl; results = ports.1 }
