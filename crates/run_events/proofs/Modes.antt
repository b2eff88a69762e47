-- What a node does with its ports goes by the marks.
use Rattle.std.proofs.Common.{◌≡◌, ◌≢◌, ℕ, zero, suc, ◌-◌, ◌≤◌, Bool, true, false, ◌&&◌, ◌↔◌, not, if◌then◌else◌, find, slice_get, Option, Some, None, Contains, refl, sym, ap, ◌∙◌, subst, arith, ◌==◌}
use Rattle.std.proofs.lemmas.List.Elements.{All-contains}
use Rattle.if1_graph.specs.declared.graph.Edge.{Edge}
use Rattle.if1_graph.specs.declared.graph.Graph.{Graph}
use Rattle.if1_graph.specs.declared.graph.Graph.TheViews.{out-Graph}
use Rattle.if1_graph.specs.declared.graph.Node.{Node, out-Node}
use Rattle.if1_graph.specs.declared.graph.Origin.TheVariants as origin
use Rattle.if1_graph.specs.declared.graph.Unit1.{Unit1}
use Rattle.if1_graph.specs.declared.op.Compound.{Compound}
use Rattle.if1_graph.specs.declared.op.Compound.TheVariants as compound
use Rattle.if1_graph.specs.declared.op.Part.{Part}
use Rattle.if1_graph.specs.declared.op.Part.TheVariants as part
use Rattle.if1_graph.specs.Ops.{compound_at, simple_at}
use Rattle.if1_graph.specs.Parts.{part_at, loop_part}
use Rattle.if1_graph.specs.Ports.{part_of}
use Rattle.if1_graph.specs.Tables.{◌>>=◌}
use Rattle.if1_graph.specs.Units.{label_of, node_at, edge_into, width, Place, places, number_of, Function, Inside}
use Rattle.if1_marks.specs.Aggregates.{is_aggregate}
use Rattle.if1_marks.specs.Given.{is_call, is_call_as, called, is_used_inside, is_given_inside, is_given_to_called, is_consumed_by, consumes_node, consumes}
use Rattle.if1_marks.specs.Owned.{is_owned}
use Rattle.if1_marks.specs.Laws.{OnlyLooks, IsLater, IsGivenAtFirst}
use Rattle.if1_marks.specs.Sound.{IsSound, IsTakerRight, AreMarksRight}
use Rattle.if1_marks.proofs.Consumed.{consumed-where-given}
use Rattle.if1_marks.proofs.Lent.{are-lent}
use Rattle.if1_marks.proofs.Tests.{same-number}
use Rattle.graph_meaning.proofs.Lists.{found-in}
use Rattle.graph_meaning.specs.StorageUnits.{storage_of, takes, test_in}
use Rattle.run_events.proofs.Owning.{and-right, true-not-false, same, all-at}
use Rattle.run_events.specs.Modes.{Mode, Takes, Copies, Lends, mode_by, mode_of, Own, Borrowed, Gone, into_owner, into_selector, into_later, into_part, AreAllModesRight, AreCopiesCounted}

takes-copies : {P : Type 0} → Takes ≡ Copies → P
takes-copies e = absurd (clash e)
  where
    clash : Takes ≡ Copies → ⊥
    clash e = cc

copies-lends : {P : Type 0} → Lends ≡ Copies → P
copies-lends e = absurd (clash e)
  where
    clash : Lends ≡ Copies → ⊥
    clash e = cc

false-true : {P : Type 0} → false ≡ true → P
false-true e = absurd (clash e)
  where
    clash : false ≡ true → ⊥
    clash e = cc

lends-takes : {P : Type 0} → Lends ≡ Takes → P
lends-takes e = absurd (clash e)
  where
    clash : Lends ≡ Takes → ⊥
    clash e = cc

pub own-gone : {P : Type 0} → Own ≡ Gone → P
own-gone e = absurd (clash e)
  where
    clash : Own ≡ Gone → ⊥
    clash e = cc

pub borrowed-gone : {P : Type 0} → Borrowed ≡ Gone → P
borrowed-gone e = absurd (clash e)
  where
    clash : Borrowed ≡ Gone → ⊥
    clash e = cc

pub and-left : (a b : Bool) → a && b ≡ true → a ≡ true
and-left true b e = refl
and-left false b e = absurd (clash e)
  where
    clash : false ≡ true → ⊥
    clash e = cc

-- ---- modes

takes-by : (t g : Bool) → mode_by t g ≡ Takes → t ≡ true
takes-by true g e = refl
takes-by false true e = takes-copies (sym e)
takes-by false false e = lends-takes e

not-takes-by : (t g : Bool) → mode_by t g ≢ Takes → t ≡ false
not-takes-by true g n = absurd (n refl)
not-takes-by false g n = refl

-- what is not lent an owner has of its own
owner-by : (t g : Bool) → g ≢ false → into_owner (mode_by t g) ≡ Own
owner-by true g n = refl
owner-by false true n = refl
owner-by false false n = absurd (n refl)

owner-not-gone : (m : Mode) → into_owner m ≡ Gone → ⊥
owner-not-gone Takes e = own-gone e
owner-not-gone Copies e = own-gone e
owner-not-gone Lends e = borrowed-gone e

selector-not-gone : (m : Mode) → into_selector m ≡ Gone → ⊥
selector-not-gone Takes e = own-gone e
selector-not-gone Copies e = borrowed-gone e
selector-not-gone Lends e = borrowed-gone e

-- what is gone was taken
gone-taken : (m : Mode) → into_later m ≡ Gone → m ≡ Takes
gone-taken Takes e = refl
gone-taken Copies e = borrowed-gone e
gone-taken Lends e = borrowed-gone e

module _ (u : Unit1) (p : Place) (l : ℕ) (n : Node) (found : find (λ q. number_of q == number_of p) (places u) ≡ Some p) (not-0 : l ≢ 0) (at : node_at (out-Graph p.graph).nodes l ≡ Some n) where
  taken-is : (port : ℕ) → (storage_of u).is_taken (number_of p) l port ≡ takes (edge_into p.graph l port)
  taken-is port = ap (λ o. test_in o (λ g. takes (edge_into g l port))) found

  given-is : (port : ℕ) → (storage_of u).is_given (number_of p) l port ≡ consumes u p.graph l port
  given-is port = ap (λ o. test_in o (λ g. consumes u g l port)) found

  by-node : (m port : ℕ) → m ≢ 0 → node_at (out-Graph p.graph).nodes m ≡ Some n → consumes u p.graph m port ≡ consumes_node u p.graph (Some n) port
  by-node zero port ne e = absurd (ne refl)
  by-node (suc m) port ne e = ap (λ o. consumes_node u p.graph o port) e

  by-call : (port : ℕ) (b : Bool) → is_call n ≡ b → consumes_node u p.graph (Some n) port ≡ (if b then is_given_to_called u (called u p.graph (label_of n)) port else is_consumed_by u n port)
  by-call port b e = ap (λ b. if b then is_given_to_called u (called u p.graph (label_of n)) port else is_consumed_by u n port) e

  module _ (c : Compound) (is : compound_at (out-Node n).op ≡ Some c) where
    no-call : is_call n ≡ false
    no-call = ap (λ o. is_call_as o (simple_at (out-Node n).op)) is

    consumed-is : (port : ℕ) → (storage_of u).is_given (number_of p) l port ≡ is_consumed_by u n port
    consumed-is port = given-is port ∙ (by-node l port not-0 at ∙ by-call port false no-call)

    which : (k : ℕ) (x : Part) → part_at c k ≡ Some x → part_of n k ≡ Some (c, x)
    which k x e = ap (λ o. o >>= λ d. part_at d k >>= λ y. Some (d, y)) is ∙ ap (λ o. o >>= λ y. Some (c, y)) e

    -- an owner's input that is consumed it has of its own
    consumed-own : (x : Part) (k port : ℕ) (g : Graph) → part_at c k ≡ Some x → port ≤ width p.graph (label_of n) → is_owned u (record { graph = g; home = Inside p.graph n k }) (origin.Port 0 port) ≡ true
        → into_owner (mode_of (storage_of u) (number_of p) l port) ≡ Own
    consumed-own x k port g e below own =
        owner-by ((storage_of u).is_taken (number_of p) l port) ((storage_of u).is_given (number_of p) l port)
        (λ no-given. true-not-false (is_owned u (record { graph = g; home = Inside p.graph n k }) (origin.Port 0 port)) own ((are-lent u g port).not_given p.graph n k (sym (consumed-is port) ∙ no-given) below))

    -- what only looks, or comes later, owns nothing of the node's
    looks : {P : Type 0} (x : Part) (k port : ℕ) (g : Graph) → part_at c k ≡ Some x → OnlyLooks c x → is_owned u (record { graph = g; home = Inside p.graph n k }) (origin.Port 0 port) ≡ true → P
    looks x k port g e h own = true-not-false (is_owned u (record { graph = g; home = Inside p.graph n k }) (origin.Port 0 port)) own ((are-lent u g port).looked_at p.graph n k (c, x) (which k x e) h)

    later : {P : Type 0} (x : Part) (k port : ℕ) (g : Graph) → part_at c k ≡ Some x → IsLater x → port ≤ width p.graph (label_of n) → is_owned u (record { graph = g; home = Inside p.graph n k }) (origin.Port 0 port) ≡ true → P
    later x k port g e h below own = true-not-false (is_owned u (record { graph = g; home = Inside p.graph n k }) (origin.Port 0 port)) own ((are-lent u g port).kept p.graph n k (c, x) (which k x e) h below)

    part-owned : (x : Part) (k port : ℕ) (g : Graph) → part_at c k ≡ Some x → port ≤ width p.graph (label_of n) → is_owned u (record { graph = g; home = Inside p.graph n k }) (origin.Port 0 port) ≡ true
        → into_part x (mode_of (storage_of u) (number_of p) l port) ≡ Own
    part-owned part.Selector k port g e below own = looks part.Selector k port g e tt own
    part-owned part.Alternative k port g e below own = consumed-own part.Alternative k port g e below own
    part-owned part.Arm k port g e below own = consumed-own part.Arm k port g e below own
    part-owned part.Initialization k port g e below own = consumed-own part.Initialization k port g e below own
    part-owned part.Test k port g e below own = looks part.Test k port g e tt own
    part-owned part.Generator k port g e below own = looks part.Generator k port g e tt own
    part-owned part.Body k port g e below own = later part.Body k port g e tt below own
    part-owned part.Returns k port g e below own = later part.Returns k port g e tt below own

  called-back : (port : ℕ) → suc port - 1 ≡ port
  called-back port = omega arith

  argument-owned : (k port : ℕ) (f : Graph) → is_call n ≡ true → called u p.graph (label_of n) ≡ Some f → is_owned u (record { graph = f; home = Function k }) (origin.Port 0 port) ≡ true
      → into_owner (mode_of (storage_of u) (number_of p) l (suc port)) ≡ Own
  argument-owned k port f is names own =
      owner-by ((storage_of u).is_taken (number_of p) l (suc port)) ((storage_of u).is_given (number_of p) l (suc port))
      (λ no-given. true-not-false (is_given_inside u f port) own (sym (given ∙ ap (is_given_inside u f) (called-back port)) ∙ no-given))
    where
      given : (storage_of u).is_given (number_of p) l (suc port) ≡ is_given_inside u f (suc port - 1)
      given = given-is (suc port) ∙ (by-node l (suc port) not-0 at ∙ (by-call (suc port) true is ∙ ap (λ o. is_given_to_called u o (suc port)) names))

  -- ---- what is gone

  edge-there : (port : ℕ) (o : Option Edge) → edge_into p.graph l port ≡ o → takes o ≡ true → (e : Edge) × (edge_into p.graph l port ≡ Some e) × (e.takes ≡ true)
  edge-there port None is t = absurd (clash t)
    where
      clash : false ≡ true → ⊥
      clash e = cc
  edge-there port (Some e) is t = (e, is, t)

  -- an edge that takes leads to where its node consumes
  taken-consumed : IsSound u → Contains (places u) p → (port : ℕ) → takes (edge_into p.graph l port) ≡ true → consumes u p.graph l port ≡ true
  taken-consumed sound there port t =
      let e = edge-there port (edge_into p.graph l port) refl t in
      let f = found-in (λ z. (z.node == l) && (z.port == port)) (out-Graph p.graph).edges e.0 e.1 in
      let right = All-contains (AreMarksRight u) (places u) p sound there in
      let taker = All-contains (λ z. z.takes ≡ true → IsTakerRight u p z) (out-Graph p.graph).edges e.0 right.takers f.0 e.2 in
      let eats = and-right (is_aggregate u.types e.0.ty) (consumes u p.graph e.0.node e.0.port) taker.may.0 in
      subst (λ z. consumes u p.graph l z ≡ true) (same-number e.0.port port (and-right (e.0.node == l) (e.0.port == port) f.1))
      (subst (λ z. consumes u p.graph z e.0.port ≡ true) (same-number e.0.node l (and-left (e.0.node == l) (e.0.port == port) f.1)) eats)

  module _ (c : Compound) (is : compound_at (out-Node n).op ≡ Some c) (sound : IsSound u) (there : Contains (places u) p) where
    -- a part of a loop behind the first has no use of what the first is given
    behind-unused : (k port : ℕ) (g : Graph) → IsGivenAtFirst u (out-Node n).subs port → slice_get (out-Node n).subs (suc k) ≡ Some g → is_used_inside g port ≡ false
    behind-unused k port g given at = all-at (λ z. is_used_inside z port ≡ false) given.others given.unused k g (sym (ap (λ gs. slice_get gs (suc k)) given.are) ∙ at)

    -- of a loop the first part owns
    loop-behind : (k port : ℕ) (x : Part) (g : Graph) (m : Mode) → loop_part k ≡ Some x → into_part x m ≡ Gone → slice_get (out-Node n).subs k ≡ Some g → IsGivenAtFirst u (out-Node n).subs port → is_used_inside g port ≡ false
    loop-behind zero port x g m e gone at given = absurd (owner-not-gone m (subst (λ z. into_part z m ≡ Gone) (sym (same part.Initialization x e)) gone))
    loop-behind (suc k) port x g m e gone at given = behind-unused k port g given at

    by-form : (d : Compound) (k port : ℕ) (x : Part) (g : Graph) (m : Mode) → d ≡ c → part_at d k ≡ Some x → into_part x m ≡ Gone → slice_get (out-Node n).subs k ≡ Some g → is_consumed_by u n port ≡ true → is_used_inside g port ≡ false
    by-form compound.Select zero port x g m q e gone at eats = absurd (selector-not-gone m (subst (λ z. into_part z m ≡ Gone) (sym (same part.Selector x e)) gone))
    by-form compound.Select (suc k) port x g m q e gone at eats = absurd (owner-not-gone m (subst (λ z. into_part z m ≡ Gone) (sym (same part.Alternative x e)) gone))
    by-form compound.TagCase k port x g m q e gone at eats = absurd (owner-not-gone m (subst (λ z. into_part z m ≡ Gone) (sym (same part.Arm x e)) gone))
    by-form compound.LoopA k port x g m q e gone at eats = loop-behind k port x g m e gone at ((consumed-where-given u n compound.LoopA port (is ∙ ap (λ z. Some z) (sym q))).0 eats)
    by-form compound.LoopB k port x g m q e gone at eats = loop-behind k port x g m e gone at ((consumed-where-given u n compound.LoopB port (is ∙ ap (λ z. Some z) (sym q))).0 eats)
    by-form compound.ForAll k port x g m q e gone at eats = absurd ((consumed-where-given u n compound.ForAll port (is ∙ ap (λ z. Some z) (sym q))).0 eats)

    mode-gone : (x : Part) (m : Mode) → into_part x m ≡ Gone → m ≡ Takes
    mode-gone part.Selector m e = absurd (selector-not-gone m e)
    mode-gone part.Alternative m e = absurd (owner-not-gone m e)
    mode-gone part.Arm m e = absurd (owner-not-gone m e)
    mode-gone part.Initialization m e = absurd (owner-not-gone m e)
    mode-gone part.Test m e = gone-taken m e
    mode-gone part.Generator m e = gone-taken m e
    mode-gone part.Body m e = gone-taken m e
    mode-gone part.Returns m e = gone-taken m e

    gone-unused : (x : Part) (k port : ℕ) (g : Graph) → part_at c k ≡ Some x → slice_get (out-Node n).subs k ≡ Some g → into_part x (mode_of (storage_of u) (number_of p) l port) ≡ Gone → is_used_inside g port ≡ false
    gone-unused x k port g e sub gone =
        let t = takes-by ((storage_of u).is_taken (number_of p) l port) ((storage_of u).is_given (number_of p) l port) (mode-gone x (mode_of (storage_of u) (number_of p) l port) gone) in
        let eats = taken-consumed sound there port (sym (taken-is port) ∙ t) in
        by-form c k port x g (mode_of (storage_of u) (number_of p) l port) refl e gone sub (sym (by-node l port not-0 at ∙ by-call port false (no-call c is)) ∙ eats)

pub modes-right : AreAllModesRight
modes-right u p l n found there not-0 at =
    record {
      taken = λ port e. sym (taken-is u p l n found not-0 at port) ∙ takes-by ((storage_of u).is_taken (number_of p) l port) ((storage_of u).is_given (number_of p) l port) e;
      untaken = λ port ne. sym (taken-is u p l n found not-0 at port) ∙ not-takes-by ((storage_of u).is_taken (number_of p) l port) ((storage_of u).is_given (number_of p) l port) ne;
      part_owned = λ c x k port g is e below own. part-owned u p l n found not-0 at c is x k port g e below own;
      argument_owned = λ k port f is names own. argument-owned u p l n found not-0 at k port f is names own;
      gone_unused = λ sound c x k port g is e sub gone. gone-unused u p l n found not-0 at c is sound there x k port g e sub gone;
    }

-- ---- what is copied

counted-by : (t g a : Bool) → (g && (a && not t) ≡ true) ↔ ((mode_by t g ≡ Copies) × (a ≡ true))
counted-by true true true = ((λ e. false-true e), (λ e. takes-copies e.0))
counted-by true true false = ((λ e. false-true e), (λ e. takes-copies e.0))
counted-by true false a = ((λ e. false-true e), (λ e. takes-copies e.0))
counted-by false true true = ((λ e. (refl, refl)), (λ e. refl))
counted-by false true false = ((λ e. false-true e), (λ e. false-true e.1))
counted-by false false a = ((λ e. false-true e), (λ e. copies-lends e.0))

pub copies-counted : AreCopiesCounted
copies-counted s g l port = counted-by (s.is_taken g l port) (s.is_given g l port) (s.is_aggregate g l port)
