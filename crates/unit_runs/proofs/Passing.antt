-- What the parts of the nodes of a ready unit are given by literals is no aggregate.
use Rattle.std.proofs.Common.{◌≡◌, inl, inr, ℕ, zero, suc, ◌+◌, ◌-◌, ◌<◌, ◌≤◌, ◌&&◌, not, true, false, List, drop, map, Option, Some, None, Contains, refl, sym, ap, ◌∙◌, subst, arith, ◌==◌}
use Rattle.std.specs.Prelude.{nat_le, slice_get, MatchBool, MatchOption}
use Rattle.std.specs.List.{list_any}
use Rattle.std.proofs.lemmas.Bool.{le-leb}
use Rattle.if1_graph.specs.declared.graph.Edge.{Edge}
use Rattle.if1_graph.specs.declared.graph.Graph.{Graph}
use Rattle.if1_graph.specs.declared.graph.Graph.TheViews.{out-Graph}
use Rattle.if1_graph.specs.declared.graph.Node.{Node, out-Node}
use Rattle.if1_graph.specs.declared.graph.Origin.{Origin}
use Rattle.if1_graph.specs.declared.graph.Origin.TheVariants as origin
use Rattle.if1_graph.specs.declared.graph.Unit1.{Unit1}
use Rattle.if1_graph.specs.declared.op.Compound.{Compound}
use Rattle.if1_graph.specs.declared.op.Compound.TheVariants as compound
use Rattle.if1_graph.specs.declared.op.Part.{Part}
use Rattle.if1_graph.specs.declared.op.Part.TheVariants as part
use Rattle.if1_graph.specs.declared.op.Simple.{Simple}
use Rattle.if1_graph.specs.declared.op.Simple.TheVariants as simple
use Rattle.if1_graph.specs.Formed.{want_at}
use Rattle.if1_graph.specs.Ops.{compound_at, simple_at}
use Rattle.if1_graph.specs.Parts.{part_at}
use Rattle.if1_graph.specs.Ports.{carried, leaves, part_of}
use Rattle.if1_graph.specs.Ready.{IsReady}
use Rattle.if1_graph.specs.Types.{Sort, sort_at}
use Rattle.if1_graph.specs.Typing.{FitsInput, FitsNodeInput, FitsOwnInput, FitsPartInput}
use Rattle.if1_graph.specs.Units.{Inside, Place, edge_into, label_of, width}
use Rattle.if1_marks.proofs.Tests.{any-found, both, both-left, both-right, no-both}
use Rattle.if1_marks.specs.Aggregates.{is_aggregate}
use Rattle.graph_meaning.proofs.Lists.{found-in}
use Rattle.graph_meaning.specs.Demand.{Source, Vertex, Whole}
use Rattle.graph_meaning.specs.Networks.{form_of, ins_of, kind_as, kind_of, number_or_zero, part as part_number, simple_kind, source_at, source_by, source_from, sources, vertex_of}
use Rattle.graph_meaning.specs.StorageUnits.{carries_aggregate, test_in}
use Rattle.run_code.specs.Made.{Plan}
use Rattle.run_made.specs.Plans.{All}
use Rattle.made_store.specs.Settings.{Shares}
use Rattle.unit_laws.proofs.TypedEdges.{bound}
use Rattle.unit_laws.proofs.TypedParts.{part-is}
use Rattle.unit_laws.proofs.TypedPlans.{part-place}
use Rattle.unit_plan.specs.Plans.{Tables, plain_by, plain_in, plain_of, plan_of}
use Rattle.unit_plan.specs.Shares.{shares_of}
use Rattle.plan_shares.proofs.Graphs.{IsPlaced, network-each}
use Rattle.plan_shares.proofs.Handed.{none-zero}
use Rattle.plan_shares.proofs.Inputs.{IsNodeInput, of-input}
use Rattle.plan_shares.proofs.OwnedParts.{all-graphs, all-parts, false-or, slice-later}
use Rattle.plan_shares.proofs.Places.{graph-home, graph-plain, returns-plain}
use Rattle.plan_shares.proofs.Sorts.{aggregates-same}
use Rattle.unit_runs.proofs.Ports.{literal-edge, no-input}
use Rattle.unit_runs.specs.Literals.{AreSourcesPassed, IsKindPassed, IsSourcePassed}
use Rattle.unit_runs.specs.Units.{AreUnitPartsPassed, is_plain_by, may_be_literal, reads_aggregate}

wide-plain : (c : Compound) (w : ℕ) (gs : List Graph) → w ≤ plain_by c w gs
wide-plain compound.ForAll w gs = omega arith
wide-plain compound.Select w gs = omega arith
wide-plain compound.TagCase w gs = omega arith
wide-plain compound.LoopA w gs = omega arith
wide-plain compound.LoopB w gs = omega arith

arm-input : (i : ℕ) → 2 ≤ i → IsNodeInput part.Arm i
arm-input zero le = tt
arm-input (suc zero) le = absurd (omega (arith, le))
arm-input (suc (suc i)) le = tt

module _ (u : Unit1) (outer : Graph) (n : Node) (k : ℕ) (s : Sort) where
  node-input : (x : Part) (port : ℕ) → IsNodeInput x port → FitsNodeInput u outer n x k port s → carried u outer (label_of n) port ≡ Some s
  node-input part.Arm zero h f = f
  node-input part.Arm (suc zero) h f = absurd h
  node-input part.Arm (suc (suc q)) h f = f
  node-input part.Selector port h f = f
  node-input part.Alternative port h f = f
  node-input part.Generator port h f = f
  node-input part.Initialization port h f = f
  node-input part.Test port h f = f
  node-input part.Body port h f = f
  node-input part.Returns port h f = f

  part-fits : (c : Compound) (y : Part) (i : ℕ) (g : Graph) → part_of n k ≡ Some (c, y) → i ≤ width outer (label_of n) → IsNodeInput y i → FitsInput u g (Inside outer n k) i s → carried u outer (label_of n) i ≡ Some s
  part-fits c y i g is le h f =
      let a : FitsPartInput u outer n (c, y) k i s = subst (λ o. MatchOption o ⊥ (λ cp. FitsPartInput u outer n cp k i s)) is f in
      let b : nat_le i (width outer (label_of n)) ≡ true = le-leb i (width outer (label_of n)) le in
      node-input y i h (subst (λ z. MatchBool z (FitsNodeInput u outer n y k i s) (FitsOwnInput u c y (out-Node n).subs (i - width outer (label_of n)) s)) b a)

module _ (u : Unit1) (order : (graph : ℕ) → List Vertex) (t : Tables) (ready : IsReady u) (g : ℕ) (q : Place) (x : IsPlaced u g q) (n : Node) (inside : Contains (out-Graph q.graph).nodes n) where
  abbrev P : Plan
  P = plan_of u order t

  abbrev S : Shares
  S = shares_of u order

  abbrev l : ℕ
  l = label_of n

  abbrev w : ℕ
  w = width q.graph l

  abbrev subs : List Graph
  subs = (out-Node n).subs

  abbrev Passed : (part input : ℕ) → Source → Type 0
  Passed h i o = IsSourcePassed P S (may_be_literal u) g h i o

  -- ---- one port

  may-so : (h i : ℕ) → is_plain_by u (plain_of u h) i ≡ true → reads_aggregate u h i ≡ false → may_be_literal u h i ≡ true
  may-so h i plain e = both (not (reads_aggregate u h i)) (is_plain_by u (plain_of u h) i) (ap not e) plain

  from-passed : (h i : ℕ) → is_plain_by u (plain_of u h) i ≡ true → (e : Edge) → Contains (out-Graph q.graph).edges e → (o : Origin) → e.from ≡ o → (reads_aggregate u h i ≡ true → is_aggregate u.types e.ty ≡ true) → Passed h i (source_from u (want_at q.graph l i) e.ty o)
  from-passed h i plain e there (origin.Lit text) from r = inr (may-so h i plain (false-or (reads_aggregate u h i) (λ y. literal-edge u order t ready g q x e there text from (r y))))
  from-passed h i plain e there (origin.Port zero p) from r = λ m. may-so h i plain (false-or (reads_aggregate u h i) (λ y. no-input u order t ready g q x e there p from (r y) m))
  from-passed h i plain e there (origin.Port (suc k) p) from r = tt

  port-passed : (h i : ℕ) → is_plain_by u (plain_of u h) i ≡ true → (reads_aggregate u h i ≡ true → carries_aggregate u (edge_into q.graph l i) ≡ true) → Passed h i (source_at u q.graph l i)
  port-passed h i plain r = go (edge_into q.graph l i) refl r
    where
      go : (o : Option Edge) → edge_into q.graph l i ≡ o → (reads_aggregate u h i ≡ true → carries_aggregate u o ≡ true) → Passed h i (source_by u (want_at q.graph l i) o)
      go None is r = inl refl
      go (Some e) is r =
          let f = found-in (λ e. (e.node == l) && (e.port == i)) (out-Graph q.graph).edges e is in
          from-passed h i plain e f.0 e.from refl r

  all-passed : (h first count : ℕ) → ((i : ℕ) → first ≤ i → i < first + count → Passed h i (source_at u q.graph l i)) → AreSourcesPassed P S (may_be_literal u) g h first (sources u q.graph l first count)
  all-passed h first zero f = tt
  all-passed h first (suc count) f = (f first (omega arith) (omega arith), all-passed h (suc first) count (λ i a b. f i (omega (arith, a)) (omega (arith, b))))

  -- ---- one part

  module _ (c : Compound) (is : compound_at (out-Node n).op ≡ Some c) where
    part-read : (k : ℕ) (y : Part) (s : Graph) → slice_get subs k ≡ Some s → part_at c k ≡ Some y → (i : ℕ) → i ≤ w → IsNodeInput y i → reads_aggregate u (out-Graph s).number i ≡ true → carries_aggregate u (edge_into q.graph l i) ≡ true
    part-read k y s at e i le h r =
        let z : Place = record { graph = s; home = Inside q.graph n k } in
        let found = graph-home u ready q x.there n inside k s at in
        let any = sym (ap (λ o. test_in o (λ h. list_any (λ e. leaves 0 i e.from && is_aggregate u.types e.ty) (out-Graph h).edges)) found) ∙ r in
        let m = any-found (λ e. leaves 0 i e.from && is_aggregate u.types e.ty) (out-Graph s).edges any in
        let whole = both-right (leaves 0 i (m.0).from) (is_aggregate u.types (m.0).ty) m.2 in
        let f = of-input u ready z (part-place u ready q x.there n inside k s at) i m.0 m.1 (both-left (leaves 0 i (m.0).from) (is_aggregate u.types (m.0).ty) m.2) whole in
        let out = part-fits u q.graph n k f.sort c y i s (part-is u ready q x.there n inside c is k y e) le h f.fits in
        let b = bound (edge_into q.graph l i) (λ e. sort_at u.types e.ty) f.sort out in
        ap (carries_aggregate u) b.1 ∙ (aggregates-same u.types (b.0).ty (m.0).ty f.sort b.2 f.typed ∙ whole)

    part-plainly : (k : ℕ) (y : Part) (s : Graph) → slice_get subs k ≡ Some s → part_at c k ≡ Some y → (i : ℕ) → i ≤ w → is_plain_by u (plain_of u (out-Graph s).number) i ≡ true
    part-plainly k part.Returns s at e i le =
        let a = wide-plain c w subs in
        ap (λ h. is_plain_by u (plain_of u h) i) (sym (ap number_or_zero at)) ∙ (ap (λ o. is_plain_by u o i) (returns-plain u ready q x.there n inside c is k s at e) ∙ le-leb i (plain_by c w subs) (omega (arith, le, a)))
    part-plainly k part.Selector s at e i le = ap (λ o. is_plain_by u o i) (graph-plain u ready q x.there n inside c is k part.Selector s at e tt)
    part-plainly k part.Alternative s at e i le = ap (λ o. is_plain_by u o i) (graph-plain u ready q x.there n inside c is k part.Alternative s at e tt)
    part-plainly k part.Arm s at e i le = ap (λ o. is_plain_by u o i) (graph-plain u ready q x.there n inside c is k part.Arm s at e tt)
    part-plainly k part.Generator s at e i le = ap (λ o. is_plain_by u o i) (graph-plain u ready q x.there n inside c is k part.Generator s at e tt)
    part-plainly k part.Initialization s at e i le = ap (λ o. is_plain_by u o i) (graph-plain u ready q x.there n inside c is k part.Initialization s at e tt)
    part-plainly k part.Test s at e i le = ap (λ o. is_plain_by u o i) (graph-plain u ready q x.there n inside c is k part.Test s at e tt)
    part-plainly k part.Body s at e i le = ap (λ o. is_plain_by u o i) (graph-plain u ready q x.there n inside c is k part.Body s at e tt)

    graph-passed : (k : ℕ) (y : Part) (s : Graph) → slice_get subs k ≡ Some s → part_at c k ≡ Some y → (i : ℕ) → i ≤ w → IsNodeInput y i → Passed (out-Graph s).number i (source_at u q.graph l i)
    graph-passed k y s at e i le h = port-passed (out-Graph s).number i (part-plainly k y s at e i le) (part-read k y s at e i le h)

    part-passed : (k : ℕ) (y : Part) → part_at c k ≡ Some y → (i : ℕ) → i ≤ w → IsNodeInput y i → Passed (part_number subs k) i (source_at u q.graph l i)
    part-passed k y e i le h = go (slice_get subs k) refl
      where
        go : (o : Option Graph) → slice_get subs k ≡ o → Passed (number_or_zero o) i (source_at u q.graph l i)
        go None at =
            port-passed 0 i (ap (λ o. is_plain_by u (plain_in o) i) (none-zero u ready))
            (λ r. absurd (no-both (reads_aggregate u 0 i) r (ap (λ o. test_in o (λ h. list_any (λ e. leaves 0 i e.from && is_aggregate u.types e.ty) (out-Graph h).edges)) (none-zero u ready))))
        go (Some s) at = graph-passed k y s at e i le h

    whole-passed : (k : ℕ) (y : Part) → part_at c k ≡ Some y → ((i : ℕ) → IsNodeInput y i) → AreSourcesPassed P S (may_be_literal u) g (part_number subs k) 1 (sources u q.graph l 1 w)
    whole-passed k y e h = all-passed (part_number subs k) 1 w (λ i a b. part-passed k y e i (omega (arith, b)) (h i))

  -- ---- each kind

  arm-passed : compound_at (out-Node n).op ≡ Some compound.TagCase → (k : ℕ) → AreSourcesPassed P S (may_be_literal u) g (part_number subs k) 2 (drop 1 (sources u q.graph l 1 w))
  arm-passed is k = go w refl
    where
      go : (m : ℕ) → w ≡ m → AreSourcesPassed P S (may_be_literal u) g (part_number subs k) 2 (drop 1 (sources u q.graph l 1 m))
      go zero e = tt
      go (suc m) e = all-passed (part_number subs k) 2 m (λ i a b. part-passed compound.TagCase is k part.Arm refl i (omega (arith, b, e)) (arm-input i a))

  compound-passed : (c : Compound) → compound_at (out-Node n).op ≡ Some c → (v : Vertex) → v.ins ≡ ins_of u q.graph l (Whole (form_of c subs (out-Node n).assoc)) → IsKindPassed P S (may_be_literal u) g v (Whole (form_of c subs (out-Node n).assoc))
  compound-passed compound.Select is v e =
      subst (λ z. AreSourcesPassed P S (may_be_literal u) g (part_number subs 0) 1 z × All (λ h. AreSourcesPassed P S (may_be_literal u) g h 1 z) (map (λ g. (out-Graph g).number) (drop 1 subs))) (sym e) (
        whole-passed compound.Select is 0 part.Selector refl (λ i. tt),
        all-graphs (λ h. AreSourcesPassed P S (may_be_literal u) g h 1 (sources u q.graph l 1 w)) (drop 1 subs)
            (λ k s at. all-passed (out-Graph s).number 1 w (λ i a b. graph-passed compound.Select is (suc k) part.Alternative s (slice-later subs k s at) refl i (omega (arith, b)) tt)),
      )
  compound-passed compound.TagCase is v e =
      subst (λ z. All (λ h. AreSourcesPassed P S (may_be_literal u) g h 2 (drop 1 z)) (map (part_number subs) (out-Node n).assoc)) (sym e)
      (all-parts (λ h. AreSourcesPassed P S (may_be_literal u) g h 2 (drop 1 (sources u q.graph l 1 w))) subs (out-Node n).assoc (arm-passed is))
  compound-passed compound.LoopA is v e =
      subst (λ z. AreSourcesPassed P S (may_be_literal u) g (part_number subs 0) 1 z × AreSourcesPassed P S (may_be_literal u) g (part_number subs 1) 1 z × AreSourcesPassed P S (may_be_literal u) g (part_number subs 2) 1 z × AreSourcesPassed P S (may_be_literal u) g (part_number subs 3) 1 z) (sym e)
      (whole-passed compound.LoopA is 0 part.Initialization refl (λ i. tt), whole-passed compound.LoopA is 1 part.Test refl (λ i. tt), whole-passed compound.LoopA is 2 part.Body refl (λ i. tt), whole-passed compound.LoopA is 3 part.Returns refl (λ i. tt))
  compound-passed compound.LoopB is v e =
      subst (λ z. AreSourcesPassed P S (may_be_literal u) g (part_number subs 0) 1 z × AreSourcesPassed P S (may_be_literal u) g (part_number subs 1) 1 z × AreSourcesPassed P S (may_be_literal u) g (part_number subs 2) 1 z × AreSourcesPassed P S (may_be_literal u) g (part_number subs 3) 1 z) (sym e)
      (whole-passed compound.LoopB is 0 part.Initialization refl (λ i. tt), whole-passed compound.LoopB is 1 part.Test refl (λ i. tt), whole-passed compound.LoopB is 2 part.Body refl (λ i. tt), whole-passed compound.LoopB is 3 part.Returns refl (λ i. tt))
  compound-passed compound.ForAll is v e =
      subst (λ z. AreSourcesPassed P S (may_be_literal u) g (part_number subs 0) 1 z × AreSourcesPassed P S (may_be_literal u) g (part_number subs 1) 1 z × AreSourcesPassed P S (may_be_literal u) g (part_number subs 2) 1 z) (sym e)
      (whole-passed compound.ForAll is 0 part.Generator refl (λ i. tt), whole-passed compound.ForAll is 1 part.Body refl (λ i. tt), whole-passed compound.ForAll is 2 part.Returns refl (λ i. tt))

  simple-passed : (op : Simple) (v : Vertex) → IsKindPassed P S (may_be_literal u) g v (simple_kind u q.graph l op)
  simple-passed simple.Call v = tt
  simple-passed _ v = tt

  kind-passed : (c : Option Compound) (o : Option Simple) → compound_at (out-Node n).op ≡ c → (v : Vertex) → v.ins ≡ ins_of u q.graph l (kind_as u q.graph n c o) → IsKindPassed P S (may_be_literal u) g v (kind_as u q.graph n c o)
  kind-passed (Some c) o is v e = compound-passed c is v e
  kind-passed None (Some op) is v e = simple-passed op v
  kind-passed None None is v e = tt

  pub node-passed : IsKindPassed P S (may_be_literal u) g (vertex_of u q.graph n) (kind_of u q.graph n)
  node-passed = kind-passed (compound_at (out-Node n).op) (simple_at (out-Node n).op) refl (vertex_of u q.graph n) refl

pub parts-passed : AreUnitPartsPassed
parts-passed u order t ready g =
    network-each u g (λ v. IsKindPassed (plan_of u order t) (shares_of u order) (may_be_literal u) g v v.kind) (λ q x n inside. node-passed u order t ready g q x n inside)
