-- In a returns multiples of iterations and turns are read by simple nodes alone.
use Rattle.std.proofs.Common.{◌≡◌, ℕ, zero, suc, ◌+◌, ◌-◌, ◌<◌, ◌≤◌, Bool, true, false, List, drop, Option, Some, None, Contains, refl, sym, ◌∙◌, subst, arith, ◌==◌}
use Rattle.std.specs.Prelude.{MatchBool, MatchOption, nat_le}
use Rattle.flow_value.specs.declared.ty.Ty.{Ty}
use Rattle.flow_value.specs.declared.ty.Ty.TheVariants as ty
use Rattle.if1_graph.specs.declared.graph.Graph.{Graph}
use Rattle.if1_graph.specs.declared.graph.Graph.TheViews.{out-Graph}
use Rattle.if1_graph.specs.declared.graph.Node.{Node, out-Node}
use Rattle.if1_graph.specs.declared.graph.Unit1.{Unit1}
use Rattle.if1_graph.specs.declared.op.Compound.{Compound}
use Rattle.if1_graph.specs.declared.op.Compound.TheVariants as compound
use Rattle.if1_graph.specs.declared.op.Part.{Part}
use Rattle.if1_graph.specs.declared.op.Part.TheVariants as part
use Rattle.if1_graph.specs.declared.op.Simple.{Simple}
use Rattle.if1_graph.specs.declared.op.Simple.TheVariants as simple
use Rattle.if1_graph.specs.Formed.{want_at}
use Rattle.if1_graph.specs.Ops.{compound_at, simple_at}
use Rattle.if1_graph.specs.Ports.{part_of, results_at}
use Rattle.if1_graph.specs.Ready.{IsReady}
use Rattle.if1_graph.specs.Types.{Sort, Plain, Many}
use Rattle.if1_graph.specs.Typing.{FitsBoundary, FitsCompound, FitsInput, FitsNode, FitsNodeInput, FitsOwnInput, FitsPartInput, FitsResult, FitsReturned, IsGiven, IsMultiple, IsPlain, IsWanted, result_of}
use Rattle.if1_graph.specs.Units.{Function, Home, Inside, Place, label_of, node_at, places, results, width}
use Rattle.if1_marks.proofs.Lists.{found-in}
use Rattle.if1_marks.proofs.Tests.{same-number}
use Rattle.graph_meaning.specs.Demand.{Vertex, Whole}
use Rattle.graph_meaning.specs.Forms as form
use Rattle.graph_meaning.specs.Networks.{callee_number, form_of, ins_of, kind_as, net_of, simple_kind, source_at, sources, vertex_of}
use Rattle.ordered_meaning.proofs.UnitTaking.{edged}
use Rattle.unit_laws.proofs.TypedEdges.{IsValueWant, node-formed, wanted-here}
use Rattle.unit_laws.proofs.TypedNodes.{node-found, want-is}
use Rattle.unit_laws.proofs.TypedParts.{no-want}
use Rattle.unit_laws.proofs.TypedPlans.{boundary-wants}
use Rattle.unit_plan.specs.Plans.{plain_as, plain_at, plain_by}
use Rattle.unit_plan.specs.Returns.{multiple}
use Rattle.plan_shares.proofs.Replacing.{IsWholePlain, NoMultiples, multiple-is}

some-same : (a b : ℕ) → Some a ≡ Some b → a ≡ b
some-same a b e = cc

never-many : (a b : Ty) → Plain a ≡ Many b → ⊥
never-many a b e = cc

-- ---- what comes in behind the plain inputs of a returns is a multiple

abbrev IsMany : Sort → Type 0
IsMany s = (t : Ty) × (s ≡ Many t)

no-more : (w p : ℕ) → w < p → nat_le p w ≡ false
no-more w p h = grind (arith, h)

module _ (u : Unit1) (outer : Graph) (n : Node) (k p : ℕ) (s : Sort) where
  abbrev gs : List Graph
  gs = (out-Node n).subs

  abbrev wide : ℕ
  wide = width outer (label_of n)

  as-many : (v : _) → IsMultiple v s → IsMany s
  as-many v h = (h.0, h.2)

  returned-many : (c : Compound) (m : ℕ) → (c ≡ compound.ForAll → results_at gs 0 < m) → FitsReturned u c gs m s → IsMany s
  returned-many compound.ForAll m h f = go (nat_le m (results_at gs 0)) (no-more (results_at gs 0) m (h refl)) f
    where
      go : (b : Bool) → b ≡ false → MatchBool b (result_of u gs 0 m ≡ Some s) (IsMultiple (result_of u gs 1 (m - results_at gs 0)) s) → IsMany s
      go true e f = absurd cc
      go false e f = as-many (result_of u gs 1 (m - results_at gs 0)) f
  returned-many compound.Select m h f = as-many (result_of u gs 0 m) f
  returned-many compound.TagCase m h f = as-many (result_of u gs 0 m) f
  returned-many compound.LoopA m h f = as-many (result_of u gs 0 m) f
  returned-many compound.LoopB m h f = as-many (result_of u gs 0 m) f

  plain-wide : (c : Compound) → plain_by c wide gs < p → (wide < p) × (c ≡ compound.ForAll → results_at gs 0 < p - wide)
  plain-wide compound.ForAll lt = (omega (arith, lt), λ e. omega (arith, lt))
  plain-wide compound.Select lt = (lt, λ e. absurd (clash e))
    where
      clash : compound.Select ≡ compound.ForAll → ⊥
      clash e = cc
  plain-wide compound.TagCase lt = (lt, λ e. absurd (clash e))
    where
      clash : compound.TagCase ≡ compound.ForAll → ⊥
      clash e = cc
  plain-wide compound.LoopA lt = (lt, λ e. absurd (clash e))
    where
      clash : compound.LoopA ≡ compound.ForAll → ⊥
      clash e = cc
  plain-wide compound.LoopB lt = (lt, λ e. absurd (clash e))
    where
      clash : compound.LoopB ≡ compound.ForAll → ⊥
      clash e = cc

  own-returned : (c : Compound) (m : ℕ) → FitsOwnInput u c part.Returns gs m s → FitsReturned u c gs m s
  own-returned compound.ForAll m f = f
  own-returned compound.Select m f = f
  own-returned compound.TagCase m f = f
  own-returned compound.LoopA m f = f
  own-returned compound.LoopB m f = f

  part-many : (c : Compound) → plain_by c wide gs < p → FitsPartInput u outer n (c, part.Returns) k p s → IsMany s
  part-many c lt f =
      let x = plain-wide c lt in
      go (nat_le p wide) (no-more wide p x.0) x.1 f
    where
      go : (b : Bool) → b ≡ false → (c ≡ compound.ForAll → results_at gs 0 < p - wide) → MatchBool b (FitsNodeInput u outer n part.Returns k p s) (FitsOwnInput u c part.Returns gs (p - wide) s) → IsMany s
      go true e h f = absurd cc
      go false e h f = returned-many c (p - wide) h (own-returned c (p - wide) f)

  pub input-many : (g : Graph) (plain : ℕ) → plain_at (Inside outer n k) ≡ Some plain → plain < p → FitsInput u g (Inside outer n k) p s → IsMany s
  input-many g plain e lt f = go (part_of n k) e f
    where
      go : (o : Option (Compound × Part)) → plain_as outer n o ≡ Some plain → MatchOption o ⊥ (λ cp. FitsPartInput u outer n cp k p s) → IsMany s
      go (Some (c, part.Returns)) e f = let same = some-same (plain_by c wide gs) plain e in part-many c (omega (arith, same, lt)) f
      go o e f = absurd cc

-- ---- what is wanted

module _ (u : Unit1) (ready : IsReady u) (q : Place) (place : Contains (places u) q) (plain : ℕ) (returns : plain_at q.home ≡ Some plain) where
  home-many : (home : Home) → plain_at home ≡ Some plain → (p : ℕ) (s : Sort) → plain < p → FitsInput u q.graph home p s → IsMany s
  home-many (Function k) e p s lt f = absurd cc
  home-many (Inside outer n k) e p s lt f = input-many u outer n k p s q.graph plain e lt f

  -- an edge to a port that takes plain values comes from no multiple
  no-multiple : (l i : ℕ) → IsValueWant (want_at q.graph l i) → ((s : Sort) → IsWanted u q l (node_at (out-Graph q.graph).nodes l) i s → IsPlain s) → multiple plain (source_at u q.graph l i) ≡ None
  no-multiple l i value wants = go (multiple plain (source_at u q.graph l i)) refl
    where
      go : (m : Option ℕ) → multiple plain (source_at u q.graph l i) ≡ m → m ≡ None
      go None e = refl
      go (Some j) e =
          let x = edged u q.graph l i 0 (suc (plain + j)) (multiple-is plain (source_at u q.graph l i) j e) in
          let v = subst (λ m. IsValueWant (want_at q.graph m (x.edge).port)) (sym x.node) (subst (λ z. IsValueWant (want_at q.graph l z)) (sym x.port) value) in
          let w = wanted-here u ready q place x.edge x.there v in
          let many = home-many q.home returns (suc (plain + j)) w.0 (omega arith) (subst (λ o. IsGiven u q o w.0) x.from w.2.given) in
          let one = wants w.0 (subst (λ z. IsWanted u q l (node_at (out-Graph q.graph).nodes l) z w.0) x.port (subst (λ m. IsWanted u q m (node_at (out-Graph q.graph).nodes m) (x.edge).port w.0) x.node w.2.wanted)) in
          absurd (never-many one.0 many.0 (sym one.1 ∙ many.1))

  some-none : (l first count : ℕ) → ((i : ℕ) → first ≤ i → multiple plain (source_at u q.graph l i) ≡ None) → NoMultiples plain (sources u q.graph l first count)
  some-none l first zero h = tt
  some-none l first (suc count) h = (h first (omega arith), some-none l (suc first) count (λ i le. h i (omega (arith, le))))

  -- ---- results

  boundary-plain : (home : Home) → plain_at home ≡ Some plain → (i : ℕ) (s : Sort) → FitsBoundary u q.graph home i s → IsPlain s
  boundary-plain (Function k) e i s f = absurd cc
  boundary-plain (Inside outer n k) e i s f = go (part_of n k) e f
    where
      go : (o : Option (Compound × Part)) → plain_as outer n o ≡ Some plain → MatchOption o ⊥ (λ cp. FitsResult u cp.0 cp.1 (out-Node n).subs i s) → IsPlain s
      go (Some (compound.ForAll, part.Returns)) e f = f
      go (Some (compound.Select, part.Returns)) e f = f
      go (Some (compound.TagCase, part.Returns)) e f = f
      go (Some (compound.LoopA, part.Returns)) e f = f
      go (Some (compound.LoopB, part.Returns)) e f = f
      go o e f = absurd cc

  wants-result : (o : Option Node) → node_at (out-Graph q.graph).nodes 0 ≡ o → (i : ℕ) (s : Sort) → o ≡ None → IsWanted u q 0 (node_at (out-Graph q.graph).nodes 0) i s → IsPlain s
  wants-result o f i s none w = boundary-plain q.home returns i s (subst (λ o. IsWanted u q 0 o i s) (f ∙ none) w)

  no-boundary-node : (o : Option Node) → node_at (out-Graph q.graph).nodes 0 ≡ o → o ≡ None
  no-boundary-node None e = refl
  no-boundary-node (Some n) e =
      let r = found-in (λ n. label_of n == 0) (out-Graph q.graph).nodes n e in
      let label = (node-formed u ready q place n r.0).label.0 in
      let none = same-number (label_of n) 0 r.1 in
      absurd (omega (arith, label, none))

  pub results-plain : NoMultiples plain (net_of u q.graph).results
  results-plain =
      some-none 0 1 (results q.graph)
      (λ i le.
      no-multiple 0 i (subst IsValueWant (sym (boundary-wants u ready q place i)) tt)
      (λ s w. wants-result (node_at (out-Graph q.graph).nodes 0) refl i s (no-boundary-node (node_at (out-Graph q.graph).nodes 0) refl) w))

  -- ---- nodes

  module _ (n : Node) (inside : Contains (out-Graph q.graph).nodes n) where
    abbrev l : ℕ
    l = label_of n

    abbrev w : ℕ
    w = width q.graph l

    wants-node : (i : ℕ) (s : Sort) → IsWanted u q l (node_at (out-Graph q.graph).nodes l) i s → FitsNode u q.graph l (compound_at (out-Node n).op) (simple_at (out-Node n).op) i s
    wants-node i s h = subst (λ o. IsWanted u q l o i s) (node-found u ready q place n inside) h

    compound-plain : (c : Compound) (i : ℕ) (s : Sort) → FitsCompound c i s → IsPlain s
    compound-plain compound.TagCase zero s f = f
    compound-plain compound.TagCase (suc zero) s f = (ty.Uni f.0, f.1)
    compound-plain compound.TagCase (suc (suc i)) s f = f
    compound-plain compound.Select i s f = f
    compound-plain compound.LoopA i s f = f
    compound-plain compound.LoopB i s f = f
    compound-plain compound.ForAll i s f = f

    all-plain : (c : Compound) → compound_at (out-Node n).op ≡ Some c → NoMultiples plain (sources u q.graph l 1 w)
    all-plain c is =
        some-none l 1 w
        (λ i le.
        no-multiple l i (subst IsValueWant (sym (no-want u ready q place n inside c is i)) tt)
        (λ s h. compound-plain c i s (subst (λ o. FitsNode u q.graph l o (simple_at (out-Node n).op) i s) is (wants-node i s h))))

    compound-ins : (c : Compound) → compound_at (out-Node n).op ≡ Some c → NoMultiples plain (ins_of u q.graph l (Whole (form_of c (out-Node n).subs (out-Node n).assoc)))
    compound-ins compound.Select is = all-plain compound.Select is
    compound-ins compound.TagCase is = all-plain compound.TagCase is
    compound-ins compound.LoopA is = all-plain compound.LoopA is
    compound-ins compound.LoopB is = all-plain compound.LoopB is
    compound-ins compound.ForAll is = all-plain compound.ForAll is

    argument-plain : simple_at (out-Node n).op ≡ Some simple.Call → compound_at (out-Node n).op ≡ None → (i : ℕ) → 2 ≤ i → multiple plain (source_at u q.graph l i) ≡ None
    argument-plain is none zero le = absurd (omega (arith, le))
    argument-plain is none (suc zero) le = absurd (omega (arith, le))
    argument-plain is none (suc (suc i)) le =
        no-multiple l (suc (suc i)) (subst IsValueWant (sym (want-is u ready q place n inside (suc (suc i)) simple.Call is)) tt)
        (λ s h.
        let f = subst (λ y. FitsNode u q.graph l None y (suc (suc i)) s) is (subst (λ c. FitsNode u q.graph l c (simple_at (out-Node n).op) (suc (suc i)) s) none (wants-node (suc (suc i)) s h)) in
        (f.0, f.2))

    call-ins : simple_at (out-Node n).op ≡ Some simple.Call → compound_at (out-Node n).op ≡ None → (f : ℕ) → NoMultiples plain (ins_of u q.graph l (Whole (form.Call f)))
    call-ins is none f = go w
      where
        go : (w : ℕ) → NoMultiples plain (drop 1 (sources u q.graph l 1 w))
        go zero = tt
        go (suc w) = some-none l 2 w (argument-plain is none)

    simple-ins : (op : Simple) → simple_at (out-Node n).op ≡ Some op → compound_at (out-Node n).op ≡ None → (v : Vertex) → v.ins ≡ ins_of u q.graph l (simple_kind u q.graph l op) → IsWholePlain plain v (simple_kind u q.graph l op)
    simple-ins simple.Call is none v e = subst (NoMultiples plain) (sym e) (call-ins is none (callee_number u q.graph l))
    simple-ins _ is none v e = tt

    kind-plain : (c : Option Compound) (o : Option Simple) → compound_at (out-Node n).op ≡ c → simple_at (out-Node n).op ≡ o → (v : Vertex) → v.ins ≡ ins_of u q.graph l (kind_as u q.graph n c o) → IsWholePlain plain v (kind_as u q.graph n c o)
    kind-plain (Some c) o is e v ins = subst (NoMultiples plain) (sym ins) (compound-ins c is)
    kind-plain None (Some op) is e v ins = simple-ins op e is v ins
    kind-plain None None is e v ins = tt

    pub node-plain : IsWholePlain plain (vertex_of u q.graph n) (vertex_of u q.graph n).kind
    node-plain = kind-plain (compound_at (out-Node n).op) (simple_at (out-Node n).op) refl refl (vertex_of u q.graph n) refl
