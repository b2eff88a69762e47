-- The shares of a unit are right at each kind of node.
use Rattle.std.proofs.Common.{◌≡◌, ℕ, zero, suc, ◌+◌, ◌<◌, ◌&&◌, not, true, false, List, [], ◌∷◌, drop, length, Option, Some, None, Contains, refl, sym, ap, ◌∙◌, arith, leb}
use Rattle.std.specs.Prelude.{slice_get}
use Rattle.std.proofs.lemmas.Bool.{le-leb}
use Rattle.if1_graph.specs.declared.graph.Graph.{Graph}
use Rattle.if1_graph.specs.declared.graph.Graph.TheViews.{out-Graph}
use Rattle.if1_graph.specs.declared.graph.Node.{Node, out-Node}
use Rattle.if1_graph.specs.declared.graph.Unit1.{Unit1}
use Rattle.if1_graph.specs.declared.op.Compound.{Compound}
use Rattle.if1_graph.specs.declared.op.Compound.TheVariants as compound
use Rattle.if1_graph.specs.declared.op.Part.{Part}
use Rattle.if1_graph.specs.declared.op.Part.TheVariants as part
use Rattle.if1_graph.specs.declared.op.Simple.{Simple}
use Rattle.if1_graph.specs.declared.op.Simple.TheVariants as simple
use Rattle.if1_graph.specs.Ops.{compound_at, simple_at}
use Rattle.if1_graph.specs.Parts.{part_at}
use Rattle.if1_graph.specs.Ports.{results_at}
use Rattle.if1_graph.specs.Ready.{IsReady}
use Rattle.if1_graph.specs.Units.{Place, label_of, number_of, places, width}
use Rattle.if1_marks.proofs.Consumed.{consumed-where-given}
use Rattle.if1_marks.proofs.Tests.{no-both, not-true}
use Rattle.if1_marks.specs.Given.{is_consumed_by}
use Rattle.if1_marks.specs.Sound.{IsSound}
use Rattle.graph_meaning.specs.Carried.{Carried}
use Rattle.graph_meaning.specs.Demand.{Vertex, Whole}
use Rattle.graph_meaning.specs.Forms as form
use Rattle.graph_meaning.specs.Networks.{callee_number, form_of, kind_as, network, part as part_number, simple_kind, vertex_of}
use Rattle.graph_meaning.specs.StorageUnits.{storage_of}
use Rattle.run_code.specs.Collections.{Collect, Final}
use Rattle.run_code.specs.Made.{Plan}
use Rattle.run_made.specs.Plans.{Weighing}
use Rattle.run_store.specs.Stored.{put_copied}
use Rattle.made_store.specs.Marks.{owned_inputs}
use Rattle.made_store.specs.Settings.{Shares, gives}
use Rattle.made_store.specs.Shared.{HasUngiven, IsKindShared, IsLoopShared, OwnsGiven, OwnsLastOnce, OwnsNone, OwnsPast}
use Rattle.made_store.specs.Weights.{node_weight}
use Rattle.unit_laws.proofs.TypedParts.{compound-filled, part-is}
use Rattle.unit_plan.specs.Plans.{Tables, collects_in, plain_by, plain_of, plan_of}
use Rattle.unit_plan.specs.Shares.{has_in, is_there_in, kind_there, owns_collected, owns_of, shares_of, takes_more, weighing}
use Rattle.plan_shares.proofs.Calls.{call-owned, callee-plain}
use Rattle.plan_shares.proofs.Gives.{gives-handed, handed-gives, handed-within, or-right}
use Rattle.plan_shares.proofs.Handed.{handed-consumed}
use Rattle.plan_shares.proofs.OwnedParts.{all-graphs, all-parts, alternative-hands, arm-hands, false-or, for-all-owned, generated-long, ins-are, loop-a-owned, loop-b-owned, select-owned, slice-later}
use Rattle.plan_shares.proofs.Owning.{owns-collected, owns-marked, owns-there}
use Rattle.plan_shares.proofs.Places.{graph-plain, part-home, part-plain, returns-plain}
use Rattle.plan_shares.specs.Parts.{IsLoopOwned, OwnsBehind, OwnsHanded, OwnsNothing, is_handed}

-- one that is there
within : {A : Type 0} (xs : List A) (k : ℕ) → k < length xs → (x : A) × (slice_get xs k ≡ Some x)
within [] k lt = absurd (omega (arith, lt))
within (x ∷ xs) zero lt = (x, refl)
within (x ∷ xs) (suc k) lt = within xs k (omega (arith, lt))

nothing-put : (cs : List Collect) (ks : List Carried) → put_copied cs [] ks ≡ 0
nothing-put [] ks = refl
nothing-put (c ∷ cs) ks = refl

module _ (u : Unit1) (order : (graph : ℕ) → List Vertex) (t : Tables) (ready : IsReady u) (sound : IsSound u) where
  abbrev P : Plan
  P = plan_of u order t

  abbrev S : Shares
  S = shares_of u order

  abbrev W : Weighing
  W = weighing u order t

  -- ---- what graphs own

  owns-none : (h : ℕ) → plain_of u h ≡ None → OwnsNothing u h → OwnsNone P S W h
  owns-none h e none q = false-or (owns_of u order h q) (λ o. no-both (owned_inputs u h q) (owns-marked u order h q e o) (none q))

  owns-past : (many h : ℕ) → plain_of u h ≡ None → OwnsBehind u many h → OwnsPast P S W many h
  owns-past many h e behind q o = behind q (owns-marked u order h q e o)

  returns-past : (h plain : ℕ) → plain_of u h ≡ Some plain → OwnsPast P S W plain h
  returns-past h plain e q o = owns-collected u order h plain q e o

  collects-are : (r plain : ℕ) → plain_of u r ≡ Some plain → (a : ℕ) → slice_get (collects_in u r (Some plain) (order r)) a ≡ slice_get (P.collects r) a
  collects-are r plain e a = sym (ap (λ o. slice_get (collects_in u r o (order r)) a) e)

  owned-final : (r plain : ℕ) → plain_of u r ≡ Some plain → (a j : ℕ) → owns_of u order r (suc (plain + a)) ≡ true → slice_get (collects_in u r (Some plain) (order r)) a ≡ Some (Final j) → owns_collected u order plain r (Some (Final j)) ≡ true
  owned-final r plain e a j o x = sym (owns-there u order r plain e a ∙ ap (owns_collected u order plain r) x) ∙ o

  -- of last values of one loop value a returns owns one
  abbrev pub IsLastOnce : (plain returns : ℕ) → Type 0
  IsLastOnce plain r = (p q j : ℕ) → owns_collected u order plain r (Some (Final j)) ≡ true → slice_get (collects_in u r (Some plain) (order r)) p ≡ Some (Final j) → slice_get (collects_in u r (Some plain) (order r)) q ≡ Some (Final j) → q ≡ p

  module _ (p : Place) (place : Contains (places u) p) (n : Node) (inside : Contains (out-Graph p.graph).nodes n) where
    abbrev v : Vertex
    v = vertex_of u p.graph n

    abbrev subs : List Graph
    subs = (out-Node n).subs

    abbrev g : ℕ
    g = number_of p

    module _ (c : Compound) (is : compound_at (out-Node n).op ≡ Some c) (less : (q : ℕ) → takes_more u order g (label_of n) q ≡ false) where
      hands : (h q : ℕ) → is_handed u g (label_of n) (suc q) ≡ true → gives P S g v (suc q) ≡ true
      hands h q e =
          let le = handed-within u ready p place (label_of n) (suc q) e in
          let same = ins-are u ready sound p place n inside c is in
          handed-gives u order t g v q c subs (out-Node n).assoc (ap (λ o. kind_as u p.graph n o (simple_at (out-Node n).op)) is) (omega (arith, le, same)) e

      owns-given : (h : ℕ) → plain_of u h ≡ None → OwnsHanded u g v h → OwnsGiven P S W g v h
      owns-given h e handed zero o = absurd cc
      owns-given h e handed (suc q) o = hands h q (handed (suc q) (owns-marked u order h (suc q) e o))

      gives-consumed : (q : ℕ) → gives P S g v (suc q) ≡ true → is_consumed_by u n (suc q) ≡ true
      gives-consumed q e = handed-consumed u ready sound p place n inside c is (suc q) (gives-handed u order t g v q (less (suc q)) e)

      -- what a later part of a loop has is not given
      has-ungiven : (k : ℕ) (x : Part) (s : Graph) → slice_get subs k ≡ Some s → part_at c k ≡ Some x
          → ((q : ℕ) → is_there_in u p.graph n (Some (c, x)) q ≡ not (leb q (width p.graph (label_of n)) && is_consumed_by u n q)) → HasUngiven P S W g v (part_number subs k)
      has-ungiven k x s at e there zero h le = absurd cc
      has-ungiven k x s at e there (suc q) h le =
          false-or (gives P S g v (suc q))
          (λ y.
          let has : is_there_in u p.graph n (Some (c, x)) (suc q) ≡ true =
          sym (ap (λ o. has_in u o (suc q)) (part-home u ready p place n inside k s at) ∙ ap (λ o. is_there_in u p.graph n o (suc q)) (part-is u ready p place n inside c is k x e)) ∙ h in
          let same = ins-are u ready sound p place n inside c is in
          let low : leb (suc q) (width p.graph (label_of n)) ≡ true = le-leb (suc q) (width p.graph (label_of n)) (omega (arith, le, same)) in
          let none = not-true (leb (suc q) (width p.graph (label_of n)) && is_consumed_by u n (suc q)) (sym (there (suc q)) ∙ has) in
          no-both (is_consumed_by u n (suc q)) (gives-consumed q y) (sym (ap (λ b. b && is_consumed_by u n (suc q)) low) ∙ none))

      module _ (init : part_at c 0 ≡ Some part.Initialization) (test : part_at c 1 ≡ Some part.Test) (body : part_at c 2 ≡ Some part.Body) (returns : part_at c 3 ≡ Some part.Returns)
          (four : length subs ≡ 4) (wide : plain_by c (width p.graph (label_of n)) subs ≡ width p.graph (label_of n))
          (owned : IsLoopOwned u g v (part_number subs 0) (part_number subs 1) (part_number subs 2) (part_number subs 3))
          (once : (r plain : ℕ) → plain_of u r ≡ Some plain → IsLastOnce plain r) where
        last-plain : plain_of u (part_number subs 3) ≡ Some (length v.ins)
        last-plain =
            let s = within subs 3 (omega (arith, four)) in
            returns-plain u ready p place n inside c is 3 s.0 s.1 returns ∙ ap Some (wide ∙ sym (ins-are u ready sound p place n inside c is))

        last-once : OwnsLastOnce P S W (length v.ins) (part_number subs 3)
        last-once a b j o x y =
            let r = part_number subs 3 in
            let plain = length v.ins in
            let first = collects-are r plain last-plain a ∙ x in
            once r plain last-plain a b j (owned-final r plain last-plain a j o first) first (collects-are r plain last-plain b ∙ y)

        loop-shared : IsLoopShared P S W g v (part_number subs 0) (part_number subs 1) (part_number subs 2) (part_number subs 3)
        loop-shared =
            let a = within subs 1 (omega (arith, four)) in
            let b = within subs 2 (omega (arith, four)) in
            let d = within subs 3 (omega (arith, four)) in (
              owns-given (part_number subs 0) (part-plain u ready p place n inside c is 0 part.Initialization init tt) owned.0,
              owns-none (part_number subs 1) (part-plain u ready p place n inside c is 1 part.Test test tt) owned.1,
              owns-past (length v.ins) (part_number subs 2) (part-plain u ready p place n inside c is 2 part.Body body tt) owned.2,
              has-ungiven 1 part.Test a.0 a.1 test (λ q. refl),
              has-ungiven 2 part.Body b.0 b.1 body (λ q. refl),
              has-ungiven 3 part.Returns d.0 d.1 returns (λ q. refl),
              returns-past (part_number subs 3) (length v.ins) last-plain,
              last-once,
            )

      -- ---- each kind

      pub select-shared : (is_select : c ≡ compound.Select) → IsKindShared P S (weighing u order t) g v (Whole (form_of compound.Select subs (out-Node n).assoc))
      select-shared e =
          let is' : compound_at (out-Node n).op ≡ Some compound.Select = is ∙ ap Some e in
          let owned = select-owned u ready sound p place n inside is' in (
            owns-none (part_number subs 0) (part-plain u ready p place n inside compound.Select is' 0 part.Selector refl tt) owned.0,
            all-graphs (OwnsGiven P S W g v) (drop 1 subs)
                (λ k s at.
                let later = slice-later subs k s at in
                owns-given (out-Graph s).number (graph-plain u ready p place n inside compound.Select is' (suc k) part.Alternative s later refl tt) (alternative-hands u ready sound p place n inside is' k s later)),
          )

      pub tag-shared : c ≡ compound.TagCase → IsKindShared P S (weighing u order t) g v (Whole (form_of compound.TagCase subs (out-Node n).assoc))
      tag-shared e =
          let is' : compound_at (out-Node n).op ≡ Some compound.TagCase = is ∙ ap Some e in
          all-parts (λ h. (q : ℕ) → S.owns h (suc (suc q)) ≡ true → gives P S g v (suc (suc q)) ≡ true) subs (out-Node n).assoc
          (λ k q o.
          let plain = part-plain u ready p place n inside compound.TagCase is' k part.Arm refl tt in
          hands (part_number subs k) (suc q) (arm-hands u ready sound p place n inside is' k q (owns-marked u order (part_number subs k) (suc (suc q)) plain o)))

      never-given : (k : ℕ) → c ≡ compound.ForAll → HasUngiven P S W g v k
      never-given k e zero h le = absurd cc
      never-given k e (suc q) h le =
          false-or (gives P S g v (suc q))
          (λ y. (consumed-where-given u n compound.ForAll (suc q) (is ∙ ap Some e)).0 (gives-consumed q y))

      pub for-all-shared : c ≡ compound.ForAll → length subs ≡ 3 → IsKindShared P S (weighing u order t) g v (Whole (form_of compound.ForAll subs (out-Node n).assoc))
      for-all-shared e three =
          let is' : compound_at (out-Node n).op ≡ Some compound.ForAll = is ∙ ap Some e in
          let owned = for-all-owned u ready sound p place n inside is' in
          let d = within subs 2 (omega (arith, three)) in
          let long = generated-long u ready sound p place n inside in
          let wide = ins-are u ready sound p place n inside c is in
          let many : width p.graph (label_of n) + results_at subs 0 ≡ length v.ins + length (network u (part_number subs 0)).results = omega (arith, long, wide) in (
            owns-given (part_number subs 0) (part-plain u ready p place n inside compound.ForAll is' 0 part.Generator refl tt) (λ q o. absurd (no-both (owned_inputs u (part_number subs 0) q) o (owned.0 q))),
            owns-none (part_number subs 1) (part-plain u ready p place n inside compound.ForAll is' 1 part.Body refl tt) owned.1,
            never-given (part_number subs 1) e,
            never-given (part_number subs 2) e,
            returns-past (part_number subs 2) (length v.ins + length (network u (part_number subs 0)).results) (returns-plain u ready p place n inside compound.ForAll is' 2 d.0 d.1 refl ∙ ap Some many),
            (λ ks. nothing-put (P.collects (part_number subs 2)) ks),
          )

    -- ---- calls

    call-shared : (f : ℕ) → plain_of u f ≡ None → ((port : ℕ) → owned_inputs u f port ≡ true → (storage_of u).is_given g v.label (suc port) && (storage_of u).is_aggregate g v.label (suc port) ≡ true)
        → kind_there (network u g) v ≡ Whole (form.Call f) → IsKindShared P S (weighing u order t) g v (Whole (form.Call f))
    call-shared f e owned there = (
      (λ q o. or-right (S.takes g v.label (suc q)) (S.copies g v.label (suc q)) (owned q (owns-marked u order f q e o))),
      (λ ks. sym (ap (λ k. node_weight P S (storage_of u) g v k ks []) there)),
    )

    pub simple-shared : (op : Simple) → simple_at (out-Node n).op ≡ Some op → compound_at (out-Node n).op ≡ None → kind_there (network u g) v ≡ simple_kind u p.graph (label_of n) op → IsKindShared P S (weighing u order t) g v (simple_kind u p.graph (label_of n) op)
    simple-shared simple.Call is none there = call-shared (callee_number u p.graph (label_of n)) (callee-plain u ready p place n inside is none) (call-owned u ready p place n inside is none) there
    simple-shared _ is none there = tt

    -- ---- each node

    module _ (less : (c : Compound) → compound_at (out-Node n).op ≡ Some c → (q : ℕ) → takes_more u order g (label_of n) q ≡ false) (once : (r plain : ℕ) → plain_of u r ≡ Some plain → IsLastOnce plain r) where
      loop-a : compound_at (out-Node n).op ≡ Some compound.LoopA → IsKindShared P S (weighing u order t) g v (Whole (form_of compound.LoopA subs (out-Node n).assoc))
      loop-a is = loop-shared compound.LoopA is (less compound.LoopA is) refl refl refl refl (compound-filled u ready p place n inside compound.LoopA is).parts refl (loop-a-owned u ready sound p place n inside is) once

      loop-b : compound_at (out-Node n).op ≡ Some compound.LoopB → IsKindShared P S (weighing u order t) g v (Whole (form_of compound.LoopB subs (out-Node n).assoc))
      loop-b is = loop-shared compound.LoopB is (less compound.LoopB is) refl refl refl refl (compound-filled u ready p place n inside compound.LoopB is).parts refl (loop-b-owned u ready sound p place n inside is) once

      compound-shared : (c : Compound) → compound_at (out-Node n).op ≡ Some c → IsKindShared P S (weighing u order t) g v (Whole (form_of c subs (out-Node n).assoc))
      compound-shared compound.Select is = select-shared compound.Select is (less compound.Select is) refl
      compound-shared compound.TagCase is = tag-shared compound.TagCase is (less compound.TagCase is) refl
      compound-shared compound.LoopA is = loop-a is
      compound-shared compound.LoopB is = loop-b is
      compound-shared compound.ForAll is = for-all-shared compound.ForAll is (less compound.ForAll is) refl (compound-filled u ready p place n inside compound.ForAll is).parts

      kind-shared : (c : Option Compound) (o : Option Simple) → compound_at (out-Node n).op ≡ c → simple_at (out-Node n).op ≡ o → kind_there (network u g) v ≡ kind_as u p.graph n c o → IsKindShared P S (weighing u order t) g v (kind_as u p.graph n c o)
      kind-shared (Some c) o is e there = compound-shared c is
      kind-shared None (Some op) is e there = simple-shared op e is there
      kind-shared None None is e there = tt

      pub node-shared : kind_there (network u g) v ≡ v.kind → IsKindShared P S (weighing u order t) g v v.kind
      node-shared there = kind-shared (compound_at (out-Node n).op) (simple_at (out-Node n).op) refl refl there
