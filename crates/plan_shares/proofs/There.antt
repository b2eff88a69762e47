-- Inputs that are read are there, and those that are owned.
use Rattle.std.proofs.Common.{◌≡◌, ℕ, zero, suc, ◌<◌, ◌≤◌, ◌&&◌, not, Bool, true, false, List, leb, Option, Some, None, Contains, refl, sym, ap, ◌∙◌, subst, arith, ◌==◌}
use Rattle.std.specs.Prelude.{nat_lt, slice_get}
use Rattle.std.proofs.lemmas.Bool.{eq-eqb, lt-leb}
use Rattle.std.proofs.lemmas.List.Elements.{All-contains}
use Rattle.if1_graph.specs.declared.graph.Edge.{Edge}
use Rattle.if1_graph.specs.declared.graph.Graph.{Graph}
use Rattle.if1_graph.specs.declared.graph.Graph.TheViews.{out-Graph}
use Rattle.if1_graph.specs.declared.graph.Node.{Node, out-Node}
use Rattle.if1_graph.specs.declared.graph.Origin.TheVariants as origin
use Rattle.if1_graph.specs.declared.graph.Unit1.{Unit1}
use Rattle.if1_graph.specs.declared.op.Compound.{Compound}
use Rattle.if1_graph.specs.declared.op.Compound.TheVariants as compound
use Rattle.if1_graph.specs.declared.op.Part.{Part}
use Rattle.if1_graph.specs.declared.op.Part.TheVariants as part
use Rattle.if1_graph.specs.Formed.{IsOrigin}
use Rattle.if1_graph.specs.Ops.{compound_at}
use Rattle.if1_graph.specs.Parts.{part_at}
use Rattle.if1_graph.specs.Ports.{leaves, part_of}
use Rattle.if1_graph.specs.Ready.{IsReady}
use Rattle.if1_graph.specs.Tables.{◌>>=◌}
use Rattle.if1_graph.specs.Units.{Function, Home, Inside, Place, label_of, number_of, places, width}
use Rattle.if1_marks.proofs.Consumed.{consumed-where-given}
use Rattle.if1_marks.proofs.Tests.{any-there, both, no-both}
use Rattle.if1_marks.specs.Given.{is_consumed_by, is_used_inside}
use Rattle.if1_marks.specs.Laws.{IsGivenAtFirst, IsGivenTo}
use Rattle.if1_marks.specs.Owned.{is_input_owned, is_owned_as, is_owned_in}
use Rattle.if1_order.proofs.Within.{within_from_unit}
use Rattle.if1_order.specs.Within.{IsWithin, inside, itself}
use Rattle.graph_meaning.specs.Demand.{Port}
use Rattle.graph_meaning.specs.Networks.{source_at}
use Rattle.made_store.specs.Marks.{owned_in, owned_inputs}
use Rattle.ordered_meaning.proofs.UnitTaking.{edged}
use Rattle.unit_laws.proofs.TypedEdges.{bound, edge-formed}
use Rattle.unit_plan.specs.Plans.{place_of, plain_as, plain_at, plain_by, plain_in, plain_of}
use Rattle.unit_plan.specs.Shares.{has_in, has_of, is_there_at, is_there_in}
use Rattle.plan_shares.proofs.Homes.{places-found}
use Rattle.plan_shares.proofs.OwnedParts.{false-or, slice-there}

-- ---- a graph stands among the graphs of its node

same-node : (g h : Graph) (m n : Node) (j k : ℕ) → Inside g m j ≡ Inside h n k → m ≡ n
same-node g h m n j k e = cc

same-place : (g h : Graph) (m n : Node) (j k : ℕ) → Inside g m j ≡ Inside h n k → j ≡ k
same-place g h m n j k e = cc

no-function : (j : ℕ) (h : Graph) (n : Node) (k : ℕ) → Function j ≡ Inside h n k → ⊥
no-function j h n k e = cc

within-slice : {home : Home} {g : Graph} {q : Place} → IsWithin home g q → (outer : Graph) (n : Node) (k : ℕ) → (home ≡ Inside outer n k → slice_get (out-Node n).subs k ≡ Some g) → q.home ≡ Inside outer n k → slice_get (out-Node n).subs k ≡ Some q.graph
within-slice itself outer n k h e = h e
within-slice {home} {g} (inside {s = s} m j c at w) outer n k h e =
    within-slice w outer n k
    (λ x. let a = same-node g outer m n j k x in let b = same-place g outer m n j k x in subst (λ z. slice_get (out-Node n).subs z ≡ Some s) b (subst (λ (z : Node). slice_get (out-Node z).subs j ≡ Some s) a at)) e

pub stands-there : (u : Unit1) (q : Place) → Contains (places u) q → (outer : Graph) (n : Node) (k : ℕ) → q.home ≡ Inside outer n k → slice_get (out-Node n).subs k ≡ Some q.graph
stands-there u q place outer n k e =
    let w = within_from_unit u q place in
    within-slice w.3 outer n k (λ x. absurd (no-function w.0 outer n k x)) e

-- ---- parts that come after another

-- with the place of the part among those behind the first
abbrev Later : Part → Type 0
Later part.Test = Unit {0}
Later part.Body = Unit {0}
Later part.Returns = Unit {0}
Later _ = ⊥

behind-first : (k : ℕ) (x : Part) → Later x → part_at compound.LoopA k ≡ Some x → (j : ℕ) × (k ≡ suc j)
behind-first zero part.Test h e = absurd cc
behind-first zero part.Body h e = absurd cc
behind-first zero part.Returns h e = absurd cc
behind-first zero x h e = absurd h
behind-first (suc j) x h e = (j, refl)

no-later : (k : ℕ) (x : Part) → Later x → part_at compound.Select k ≡ Some x → ⊥
no-later zero part.Test h e = absurd cc
no-later zero part.Body h e = absurd cc
no-later zero part.Returns h e = absurd cc
no-later zero x h e = absurd h
no-later (suc k) part.Test h e = absurd cc
no-later (suc k) part.Body h e = absurd cc
no-later (suc k) part.Returns h e = absurd cc
no-later (suc k) x h e = absurd h

no-later-arm : (k : ℕ) (x : Part) → Later x → part_at compound.TagCase k ≡ Some x → ⊥
no-later-arm k part.Test h e = absurd cc
no-later-arm k part.Body h e = absurd cc
no-later-arm k part.Returns h e = absurd cc
no-later-arm k x h e = absurd h

module _ (u : Unit1) (n : Node) (k : ℕ) (g : Graph) (at : slice_get (out-Node n).subs k ≡ Some g) (port : ℕ) where
  unused-later : (j : ℕ) → k ≡ suc j → IsGivenAtFirst u (out-Node n).subs port → is_used_inside g port ≡ false
  unused-later j e w =
      All-contains (λ g. is_used_inside g port ≡ false) w.others g w.unused
      (slice-there w.others j g (sym (ap (λ gs. slice_get gs (suc j)) w.are) ∙ (sym (ap (slice_get (out-Node n).subs) e) ∙ at)))

  -- what the node consumes is read in no later part
  unused : (c : Compound) (x : Part) → Later x → part_at c k ≡ Some x → IsGivenTo u c (out-Node n).subs port → is_used_inside g port ≡ false
  unused compound.LoopA x h e w = let j = behind-first k x h e in unused-later j.0 j.1 w
  unused compound.LoopB x h e w = let j = behind-first k x h e in unused-later j.0 j.1 w
  unused compound.Select x h e w = absurd (no-later k x h e)
  unused compound.TagCase x h e w = absurd (no-later-arm k x h e)
  unused compound.ForAll x h e w = absurd w

  pub not-consumed : (c : Compound) (x : Part) → Later x → part_of n k ≡ Some (c, x) → is_used_inside g port ≡ true → is_consumed_by u n port ≡ false
  not-consumed c x h e used =
      false-or (is_consumed_by u n port)
      (λ y.
      let a = bound (compound_at (out-Node n).op) (λ c. part_at c k >>= λ x. Some (c, x)) (c, x) e in
      let b = bound (part_at a.0 k) (λ x. Some (a.0, x)) (c, x) a.2 in
      let s = pair-same (a.0, b.0) (c, x) b.2 in
      let is : compound_at (out-Node n).op ≡ Some c = a.1 ∙ ap (λ (z : Compound × Part). Some z.0) s in
      let part : part_at c k ≡ Some x = sym (ap (λ (z : Compound × Part). part_at z.0 k) s) ∙ (b.1 ∙ ap (λ (z : Compound × Part). Some z.1) s) in
      no-both (is_used_inside g port) used (unused c x h part ((consumed-where-given u n c port is).0 y)))
    where
      pair-same : (a b : Compound × Part) → Some a ≡ Some b → a ≡ b
      pair-same a b e = cc

not-both : (a b : Bool) → b ≡ false → not (a && b) ≡ true
not-both true b e = ap not e
not-both false b e = refl

not-left : (a b : Bool) → a ≡ false → not (a && b) ≡ true
not-left a b e = ap (λ z. not (z && b)) e

module _ (u : Unit1) (ready : IsReady u) (q : Place) (place : Contains (places u) q) where
  there-in : (p : ℕ) → is_used_inside q.graph p ≡ true → (outer : Graph) (n : Node) (k : ℕ) → q.home ≡ Inside outer n k → (o : Option (Compound × Part)) → part_of n k ≡ o → is_there_in u outer n o p ≡ true
  there-in p used outer n k h None e = refl
  there-in p used outer n k h (Some (c, part.Test)) e = not-both (leb p (width outer (label_of n))) (is_consumed_by u n p) (not-consumed u n k q.graph (stands-there u q place outer n k h) p c part.Test tt e used)
  there-in p used outer n k h (Some (c, part.Body)) e = not-both (leb p (width outer (label_of n))) (is_consumed_by u n p) (not-consumed u n k q.graph (stands-there u q place outer n k h) p c part.Body tt e used)
  there-in p used outer n k h (Some (c, part.Returns)) e = not-both (leb p (width outer (label_of n))) (is_consumed_by u n p) (not-consumed u n k q.graph (stands-there u q place outer n k h) p c part.Returns tt e used)
  there-in p used outer n k h (Some (c, part.Selector)) e = refl
  there-in p used outer n k h (Some (c, part.Alternative)) e = refl
  there-in p used outer n k h (Some (c, part.Arm)) e = refl
  there-in p used outer n k h (Some (c, part.Generator)) e = refl
  there-in p used outer n k h (Some (c, part.Initialization)) e = refl

  there-at : (p : ℕ) → is_used_inside q.graph p ≡ true → (home : Home) → q.home ≡ home → is_there_at u home p ≡ true
  there-at p used (Function k) h = refl
  there-at p used (Inside outer n k) h = there-in p used outer n k h (part_of n k) refl

  used-there : (p : ℕ) (e : Edge) → Contains (out-Graph q.graph).edges e → e.from ≡ origin.Port 0 p → is_used_inside q.graph p ≡ true
  used-there p e c from =
      any-there (λ e. leaves 0 p e.from) (out-Graph q.graph).edges e c
      (ap (leaves 0 p) from ∙ both (0 == 0) (p == p) (eq-eqb 0 0 refl) (eq-eqb p p refl))

  edge-has : (p : ℕ) (e : Edge) → Contains (out-Graph q.graph).edges e → e.from ≡ origin.Port 0 p → has_of u (number_of q) p ≡ true
  edge-has zero e c from = absurd (none (subst (IsOrigin u q.graph e) from (edge-formed u ready q place e c).source).1.0)
    where
      none : 1 ≤ 0 → ⊥
      none le = omega (arith, le)
  edge-has (suc p) e c from =
      ap (λ o. has_in u o (suc p)) (places-found u q ready.formed place) ∙ there-at (suc p) (used-there (suc p) e c from) q.home refl

  -- what is read is there
  pub read-has : (l i p : ℕ) → source_at u q.graph l i ≡ Port 0 p → has_of u (number_of q) p ≡ true
  read-has l i p e = let x = edged u q.graph l i 0 p e in edge-has p x.edge x.there x.from

-- ---- inputs past those of the node

module _ (u : Unit1) (g p : ℕ) where
  past-in : (outer : Graph) (n : Node) (o : Option (Compound × Part)) → width outer (label_of n) < p → is_there_in u outer n o p ≡ true
  past-in outer n None lt = refl
  past-in outer n (Some (c, part.Test)) lt = not-left (leb p (width outer (label_of n))) (is_consumed_by u n p) (lt-leb p (width outer (label_of n)) lt)
  past-in outer n (Some (c, part.Body)) lt = not-left (leb p (width outer (label_of n))) (is_consumed_by u n p) (lt-leb p (width outer (label_of n)) lt)
  past-in outer n (Some (c, part.Returns)) lt = not-left (leb p (width outer (label_of n))) (is_consumed_by u n p) (lt-leb p (width outer (label_of n)) lt)
  past-in outer n (Some (c, part.Selector)) lt = refl
  past-in outer n (Some (c, part.Alternative)) lt = refl
  past-in outer n (Some (c, part.Arm)) lt = refl
  past-in outer n (Some (c, part.Generator)) lt = refl
  past-in outer n (Some (c, part.Initialization)) lt = refl

  some-same : (a b : ℕ) → Some a ≡ Some b → a ≡ b
  some-same a b e = cc

  wide-plain : (c : Compound) (w : ℕ) (gs : List Graph) → w ≤ plain_by c w gs
  wide-plain compound.ForAll w gs = omega arith
  wide-plain compound.Select w gs = omega arith
  wide-plain compound.TagCase w gs = omega arith
  wide-plain compound.LoopA w gs = omega arith
  wide-plain compound.LoopB w gs = omega arith

  -- of a returns, past what is plain
  past-plain : (outer : Graph) (n : Node) (o : Option (Compound × Part)) (plain : ℕ) → plain_as outer n o ≡ Some plain → plain < p → is_there_in u outer n o p ≡ true
  past-plain outer n (Some (c, part.Returns)) plain e lt =
      let same = some-same (plain_by c (width outer (label_of n)) (out-Node n).subs) plain e in
      let le = wide-plain c (width outer (label_of n)) (out-Node n).subs in
      past-in outer n (Some (c, part.Returns)) (omega (arith, same, le, lt))
  past-plain outer n o plain e lt = absurd cc

  plain-home : (home : Home) (plain : ℕ) → plain_at home ≡ Some plain → plain < p → is_there_at u home p ≡ true
  plain-home (Function k) plain e lt = refl
  plain-home (Inside outer n k) plain e lt = past-plain outer n (part_of n k) plain e lt

  pub past-has : (plain : ℕ) → plain_of u g ≡ Some plain → plain < p → has_in u (place_of u g) p ≡ true
  past-has plain e lt = go (place_of u g) e
    where
      go : (o : Option Place) → plain_in o ≡ Some plain → has_in u o p ≡ true
      go None e = refl
      go (Some q) e = plain-home q.home plain e lt

  -- ---- what is owned is there

  below : (k port : ℕ) → nat_lt k port ≡ true → k < port
  below k port h = grind (arith, h)

  owned-part : (outer h : Graph) (n : Node) (c : Compound) (x : Part) → plain_as outer n (Some (c, x)) ≡ None → is_owned_in u outer n h c x p ≡ true → is_there_in u outer n (Some (c, x)) p ≡ true
  owned-part outer h n c part.Test e o = absurd cc
  owned-part outer h n compound.ForAll part.Body e o = absurd cc
  owned-part outer h n compound.Select part.Body e o = past-in outer n (Some (compound.Select, part.Body)) (below (width outer (label_of n)) p o)
  owned-part outer h n compound.TagCase part.Body e o = past-in outer n (Some (compound.TagCase, part.Body)) (below (width outer (label_of n)) p o)
  owned-part outer h n compound.LoopA part.Body e o = past-in outer n (Some (compound.LoopA, part.Body)) (below (width outer (label_of n)) p o)
  owned-part outer h n compound.LoopB part.Body e o = past-in outer n (Some (compound.LoopB, part.Body)) (below (width outer (label_of n)) p o)
  owned-part outer h n c part.Returns e o = absurd cc
  owned-part outer h n c part.Selector e o = refl
  owned-part outer h n c part.Alternative e o = refl
  owned-part outer h n c part.Arm e o = refl
  owned-part outer h n c part.Generator e o = refl
  owned-part outer h n c part.Initialization e o = refl

  owned-home : (h : Graph) (home : Home) → plain_at home ≡ None → is_input_owned u h home p ≡ true → is_there_at u home p ≡ true
  owned-home h (Function k) e o = refl
  owned-home h (Inside outer n k) e o = go (part_of n k) e o
    where
      go : (z : Option (Compound × Part)) → plain_as outer n z ≡ None → is_owned_as u outer n h z p ≡ true → is_there_in u outer n z p ≡ true
      go None e o = refl
      go (Some (c, x)) e o = owned-part outer h n c x e o

  pub owned-has : plain_of u g ≡ None → owned_inputs u g p ≡ true → has_in u (place_of u g) p ≡ true
  owned-has e o = go (place_of u g) e o
    where
      go : (z : Option Place) → plain_in z ≡ None → owned_in u z p ≡ true → has_in u z p ≡ true
      go None e o = refl
      go (Some q) e o = owned-home q.graph q.home e o
