-- What is given inside a part is an aggregate where its node is given it.
use Rattle.std.proofs.Common.{◌≡◌, ℕ, zero, suc, ◌-◌, Bool, true, false, List, [], ◌∷◌, drop, Option, Some, None, Contains, inl, inr, refl, sym, ap, ◌∙◌, subst, ◌==◌}
use Rattle.std.specs.Prelude.{slice_get, nat_le, MatchBool, MatchOption}
use Rattle.std.proofs.lemmas.Bool.{and_parts}
use Rattle.if1_graph.specs.declared.graph.Edge.{Edge}
use Rattle.if1_graph.specs.declared.graph.Graph.{Graph}
use Rattle.if1_graph.specs.declared.graph.Graph.TheViews.{out-Graph}
use Rattle.if1_graph.specs.declared.graph.Node.{Node, out-Node}
use Rattle.if1_graph.specs.declared.graph.Origin.{Origin}
use Rattle.if1_graph.specs.declared.graph.Origin.TheVariants as origin
use Rattle.if1_graph.specs.declared.graph.TypeEntry.{TypeEntry}
use Rattle.if1_graph.specs.declared.graph.Unit1.{Unit1}
use Rattle.if1_graph.specs.declared.kind.TypeKind.{TypeKind}
use Rattle.if1_graph.specs.declared.kind.TypeKind.TheVariants as kind
use Rattle.if1_graph.specs.declared.op.Compound.{Compound}
use Rattle.if1_graph.specs.declared.op.Compound.TheVariants as compound
use Rattle.if1_graph.specs.declared.op.Part.{Part}
use Rattle.if1_graph.specs.declared.op.Part.TheVariants as part
use Rattle.if1_graph.specs.declared.row.Want.{Want}
use Rattle.if1_graph.specs.declared.row.Want.TheVariants as want
use Rattle.if1_graph.specs.Formed.{want_at}
use Rattle.if1_graph.specs.Kinds.{kind_at}
use Rattle.if1_graph.specs.Ops.{compound_at}
use Rattle.if1_graph.specs.Parts.{part_at}
use Rattle.if1_graph.specs.Ports.{carried, leaves, part_of}
use Rattle.if1_graph.specs.Ready.{IsReady}
use Rattle.if1_graph.specs.Tables.{◌>>=◌}
use Rattle.if1_graph.specs.Types.{Sort, entry_at, sort_at}
use Rattle.if1_graph.specs.Typing.{FitsInput, FitsNodeInput, FitsOwnInput, FitsPartInput, IsFunctionName, IsGiven}
use Rattle.if1_graph.specs.Units.{Inside, Place, edge_into, label_of, places, width}
use Rattle.if1_marks.proofs.Consumed.{consumed-where-given, given-by-edge}
use Rattle.if1_marks.proofs.Lists.{here-or-there, in-none, there}
use Rattle.if1_marks.proofs.Tests.{both-left, same-number}
use Rattle.if1_marks.specs.Aggregates.{is_aggregate, is_carried_by, is_carrying}
use Rattle.if1_marks.specs.Given.{consumes, is_consumed_by, is_given_inside}
use Rattle.if1_marks.specs.Laws.{IsGivenAtFirst, IsGivenTo}
use Rattle.graph_meaning.specs.StorageUnits.{carries_aggregate}
use Rattle.unit_laws.proofs.TypedEdges.{bound, edge-typed}
use Rattle.unit_laws.proofs.TypedPlans.{part-place}
use Rattle.plan_shares.proofs.Sorts.{aggregates-same}

-- ---- edges

pub leaves-port : (l port : ℕ) (o : Origin) → leaves l port o ≡ true → o ≡ origin.Port l port
leaves-port l port (origin.Port m q) e =
    let x = and_parts (m == l) (q == port) e in
    ap (λ z. origin.Port z q) (same-number m l x.0) ∙ ap (origin.Port l) (same-number q port x.1)
leaves-port l port (origin.Lit text) e = absurd cc

pub placed : {A : Type 0} (xs : List A) (x : A) → Contains xs x → (k : ℕ) × (slice_get xs k ≡ Some x)
placed [] x h = in-none x h
placed (y ∷ xs) x h =
    elim (here-or-there y xs x h) [
      | inl e ↦ (0, ap Some e)
      | inr later ↦ let r = placed xs x later in (suc r.0, r.1)
    ]

-- the name of a reduction is no aggregate
no-name : (ts : List TypeEntry) (w : Option Want) (o : Option TypeEntry) → IsFunctionName w (o >>= λ e. kind_at e.code) → is_carried_by ts o ≡ true → ⊥
no-name ts w None h a = absurd cc
no-name ts w (Some e) h a = go w (kind_at e.code) h a
  where
    go : (w : Option Want) (k : Option TypeKind) → IsFunctionName w k → is_carrying ts e k ≡ true → ⊥
    go (Some want.Reduction) (Some kind.Function) h a = absurd cc
    go _ _ h a = absurd h

module _ (u : Unit1) (ready : IsReady u) (p : Place) (place : Contains (places u) p) where
  -- an edge from an input that carries an aggregate has the type of the input
  pub record IsOfInput (port : ℕ) (e : Edge) : Type 0 where
    pub sort : Sort
    pub typed : sort_at u.types e.ty ≡ Some sort
    pub fits : FitsInput u p.graph p.home port sort

  pub of-input : (port : ℕ) (e : Edge) → Contains (out-Graph p.graph).edges e → leaves 0 port e.from ≡ true → is_aggregate u.types e.ty ≡ true → IsOfInput port e
  of-input port e there from whole =
      elim (edge-typed u ready p place e there) [
        | inl x ↦ absurd (no-name u.types (want_at p.graph e.node e.port) (entry_at u.types e.ty) x whole)
        | inr x ↦ record { sort = x.0; typed = x.1; fits = subst (λ o. IsGiven u p o x.0) (leaves-port 0 port e.from from) x.3 }
      ]

-- ---- parts of a node

-- the content of a union is another input of its arm than the union is of the node
abbrev pub IsNodeInput : Part → ℕ → Type 0
IsNodeInput part.Arm (suc zero) = ⊥
IsNodeInput _ port = Unit {0}

module _ (u : Unit1) (outer : Graph) (n : Node) (k port : ℕ) (s : Sort) where
  node-input : (x : Part) (port : ℕ) → IsNodeInput x port → FitsNodeInput u outer n x k port s → carried u outer (label_of n) port ≡ Some s
  node-input part.Arm zero h f = f
  node-input part.Arm (suc zero) h f = absurd h
  node-input part.Arm (suc (suc q)) h f = f
  node-input part.Selector port h f = f
  node-input part.Alternative port h f = f
  node-input part.Generator port h f = f
  node-input part.Initialization port h f = f
  node-input part.Test port h f = f
  node-input part.Body port h f = f
  node-input part.Returns port h f = f

  -- inputs past those of the node are not the node's
  abbrev pub HasNoMore : Compound → Part → Type 0
  HasNoMore c x = (m : ℕ) → FitsOwnInput u c x (out-Node n).subs m s → ⊥

  fits-node : (cp : Compound × Part) → HasNoMore cp.0 cp.1 → IsNodeInput cp.1 port → FitsPartInput u outer n cp k port s → carried u outer (label_of n) port ≡ Some s
  fits-node cp more h f = go (nat_le port (width outer (label_of n))) f
    where
      go : (b : Bool) → MatchBool b (FitsNodeInput u outer n cp.1 k port s) (FitsOwnInput u cp.0 cp.1 (out-Node n).subs (port - width outer (label_of n)) s) → carried u outer (label_of n) port ≡ Some s
      go true f = node-input cp.1 port h f
      go false f = absurd (more (port - width outer (label_of n)) f)

  pub fits-outer : (g : Graph) → ((cp : Compound × Part) → part_of n k ≡ Some cp → HasNoMore cp.0 cp.1 × IsNodeInput cp.1 port) → FitsInput u g (Inside outer n k) port s → carried u outer (label_of n) port ≡ Some s
  fits-outer g h f = go (part_of n k) refl f
    where
      go : (o : Option (Compound × Part)) → part_of n k ≡ o → MatchOption o ⊥ (λ cp. FitsPartInput u outer n cp k port s) → carried u outer (label_of n) port ≡ Some s
      go None e f = absurd f
      go (Some cp) e f = let x = h cp e in fits-node cp x.0 x.1 f

-- ---- what a compound node is given

-- these have no inputs of their own
abbrev IsEarly : Part → Type 0
IsEarly part.Test = ⊥
IsEarly part.Body = ⊥
IsEarly part.Returns = ⊥
IsEarly _ = Unit {0}

no-more : (u : Unit1) (outer : Graph) (n : Node) (k port : ℕ) (s : Sort) (c : Compound) (x : Part) → IsEarly x → HasNoMore u outer n k port s c x
no-more u outer n k port s c part.Test early m f = early
no-more u outer n k port s c part.Body early m f = early
no-more u outer n k port s c part.Returns early m f = early
no-more u outer n k port s compound.Select part.Selector early m f = f
no-more u outer n k port s compound.TagCase part.Selector early m f = f
no-more u outer n k port s compound.LoopA part.Selector early m f = f
no-more u outer n k port s compound.LoopB part.Selector early m f = f
no-more u outer n k port s compound.ForAll part.Selector early m f = f
no-more u outer n k port s compound.Select part.Alternative early m f = f
no-more u outer n k port s compound.TagCase part.Alternative early m f = f
no-more u outer n k port s compound.LoopA part.Alternative early m f = f
no-more u outer n k port s compound.LoopB part.Alternative early m f = f
no-more u outer n k port s compound.ForAll part.Alternative early m f = f
no-more u outer n k port s compound.Select part.Arm early m f = f
no-more u outer n k port s compound.TagCase part.Arm early m f = f
no-more u outer n k port s compound.LoopA part.Arm early m f = f
no-more u outer n k port s compound.LoopB part.Arm early m f = f
no-more u outer n k port s compound.ForAll part.Arm early m f = f
no-more u outer n k port s compound.Select part.Generator early m f = f
no-more u outer n k port s compound.TagCase part.Generator early m f = f
no-more u outer n k port s compound.LoopA part.Generator early m f = f
no-more u outer n k port s compound.LoopB part.Generator early m f = f
no-more u outer n k port s compound.ForAll part.Generator early m f = f
no-more u outer n k port s compound.Select part.Initialization early m f = f
no-more u outer n k port s compound.TagCase part.Initialization early m f = f
no-more u outer n k port s compound.LoopA part.Initialization early m f = f
no-more u outer n k port s compound.LoopB part.Initialization early m f = f
no-more u outer n k port s compound.ForAll part.Initialization early m f = f

-- all inputs of a node are those of its parts, but the union
abbrev pub IsPassedOn : Compound → ℕ → Type 0
IsPassedOn compound.TagCase (suc zero) = ⊥
IsPassedOn _ port = Unit {0}

in-dropped : {A : Type 0} (xs : List A) (x : A) → Contains (drop 1 xs) x → Contains xs x
in-dropped [] x h = h
in-dropped (y ∷ xs) x h = there y xs x h

module _ (u : Unit1) (ready : IsReady u) (p : Place) (place : Contains (places u) p) (n : Node) (inside : Contains (out-Graph p.graph).nodes n) (c : Compound) (is : compound_at (out-Node n).op ≡ Some c) (port : ℕ) where
  part-found : (k : ℕ) (cp : Compound × Part) → part_of n k ≡ Some cp → (cp.0 ≡ c) × (part_at c k ≡ Some cp.1)
  part-found k cp e =
      let x = bound (part_at c k) (λ x. Some (c, x)) cp (sym (ap (λ o. o >>= λ c. part_at c k >>= λ x. Some (c, x)) is) ∙ e) in
      let s = same (c, x.0) cp x.2 in
      (sym (ap (λ (z : Compound × Part). z.0) s), x.1 ∙ ap (λ (z : Compound × Part). Some z.1) s)
    where
      same : (a b : Compound × Part) → Some a ≡ Some b → a ≡ b
      same a b e = cc

  -- where a part is given the input
  given-carried : (k : ℕ) (s : Graph) → slice_get (out-Node n).subs k ≡ Some s → is_given_inside u s port ≡ true → ((x : Part) → part_at c k ≡ Some x → IsEarly x × IsNodeInput x port)
      → carries_aggregate u (edge_into p.graph (label_of n) port) ≡ true
  given-carried k s at given early =
      let w = (given-by-edge u s port).0 given in
      let q : Place = record { graph = s; home = Inside p.graph n k } in
      let whole = both-left (is_aggregate u.types (w.0).ty) (consumes u s (w.0).node (w.0).port) w.1.consuming in
      let x = of-input u ready q (part-place u ready p place n inside k s at) port w.0 w.1.there w.1.from whole in
      let out = fits-outer u p.graph n k port x.sort s (λ cp e. let f = part-found k cp e in let y = early cp.1 f.1 in (no-more u p.graph n k port x.sort cp.0 cp.1 y.0, y.1)) x.fits in
      let b = bound (edge_into p.graph (label_of n) port) (λ e. sort_at u.types e.ty) x.sort out in
      ap (carries_aggregate u) b.1 ∙ (aggregates-same u.types (b.0).ty (w.0).ty x.sort b.2 x.typed ∙ whole)

  from-one : (k : ℕ) (s : Graph) → slice_get (out-Node n).subs k ≡ Some s → is_given_inside u s port ≡ true → ((k : ℕ) (x : Part) → part_at c k ≡ Some x → IsEarly x × IsNodeInput x port)
      → carries_aggregate u (edge_into p.graph (label_of n) port) ≡ true
  from-one k s at given early = given-carried k s at given (early k)

select-parts : (port k : ℕ) (x : Part) → part_at compound.Select k ≡ Some x → IsEarly x × IsNodeInput x port
select-parts port zero part.Selector e = (tt, tt)
select-parts port (suc k) part.Alternative e = (tt, tt)
select-parts port zero x e = absurd cc
select-parts port (suc k) x e = absurd cc

arm-parts : (port k : ℕ) (x : Part) → IsPassedOn compound.TagCase port → part_at compound.TagCase k ≡ Some x → IsEarly x × IsNodeInput x port
arm-parts zero k part.Arm h e = (tt, tt)
arm-parts (suc zero) k part.Arm h e = absurd h
arm-parts (suc (suc q)) k part.Arm h e = (tt, tt)
arm-parts port k x h e = absurd cc

first-part : (port : ℕ) (x : Part) → Some part.Initialization ≡ Some x → IsEarly x × IsNodeInput x port
first-part port part.Initialization e = (tt, tt)
first-part port x e = absurd cc

module _ (u : Unit1) (ready : IsReady u) (p : Place) (place : Contains (places u) p) (n : Node) (inside : Contains (out-Graph p.graph).nodes n) (port : ℕ) where
  from-loop : (c : Compound) → compound_at (out-Node n).op ≡ Some c → part_at c 0 ≡ Some part.Initialization → IsGivenAtFirst u (out-Node n).subs port → carries_aggregate u (edge_into p.graph (label_of n) port) ≡ true
  from-loop c is first w =
      given-carried u ready p place n inside c is port 0 w.init (ap (λ gs. slice_get gs 0) w.are) w.given (λ x e. first-part port x (sym first ∙ e))

  from-given : (c : Compound) → compound_at (out-Node n).op ≡ Some c → IsPassedOn c port → IsGivenTo u c (out-Node n).subs port → carries_aggregate u (edge_into p.graph (label_of n) port) ≡ true
  from-given compound.Select is h w =
      let k = placed (out-Node n).subs w.0 (in-dropped (out-Node n).subs w.0 w.1) in
      from-one u ready p place n inside compound.Select is port k.0 w.0 k.1 w.2 (select-parts port)
  from-given compound.TagCase is h w =
      let k = placed (out-Node n).subs w.0 w.1 in
      from-one u ready p place n inside compound.TagCase is port k.0 w.0 k.1 w.2 (λ k x e. arm-parts port k x h e)
  from-given compound.LoopA is h w = from-loop compound.LoopA is refl w
  from-given compound.LoopB is h w = from-loop compound.LoopB is refl w
  from-given compound.ForAll is h w = absurd w

  -- what a compound node consumes is an aggregate by the edge into the node
  pub consumed-carried : (c : Compound) → compound_at (out-Node n).op ≡ Some c → IsPassedOn c port → is_consumed_by u n port ≡ true → carries_aggregate u (edge_into p.graph (label_of n) port) ≡ true
  consumed-carried c is h e = from-given c is h ((consumed-where-given u n c port is).0 e)
