-- What is known of each edge of a ready unit: what fills its port belongs to its type if its source gives such.
use Rattle.std.proofs.Common.{◌≡◌, ℕ, ◌&&◌, List, map, Option, Some, None, IsSome, Contains, All, ◌⊎◌, inl, inr, refl, sym, ap, subst, ◌∙◌, ◌==◌}
use Rattle.std.proofs.lemmas.Bool.{eq-eqb, and_parts}
use Rattle.std.proofs.lemmas.List.Elements.{All-contains, Contains-append_right, Contains-append_left}
use Rattle.flow_value.specs.declared.ty.Ty.{Ty}
use Rattle.if1_graph.specs.declared.graph.Edge.{Edge}
use Rattle.if1_graph.specs.declared.graph.Graph.{Graph}
use Rattle.if1_graph.specs.declared.graph.Graph.TheViews.{out-Graph}
use Rattle.if1_graph.specs.declared.graph.Node.{Node}
use Rattle.if1_graph.specs.declared.graph.Origin.{Origin}
use Rattle.if1_graph.specs.declared.graph.Origin.TheVariants as origin
use Rattle.if1_graph.specs.declared.graph.TypeEntry.{TypeEntry}
use Rattle.if1_graph.specs.declared.graph.Unit1.{Unit1}
use Rattle.if1_graph.specs.declared.kind.Basic.{Basic}
use Rattle.if1_graph.specs.declared.kind.TypeKind.{TypeKind}
use Rattle.if1_graph.specs.declared.kind.TypeKind.TheVariants as kind
use Rattle.if1_graph.specs.declared.row.Want.{Want}
use Rattle.if1_graph.specs.declared.row.Want.TheVariants as want
use Rattle.if1_graph.specs.Formed.{IsLiteralFor, IsOrigin, IsEdge, IsGraph, IsNode, want_at}
use Rattle.if1_graph.specs.Kinds.{kind_at, basic_at}
use Rattle.if1_graph.specs.Literals.{literal}
use Rattle.if1_graph.specs.Ports.{IsThere, ArePortsRight, carried}
use Rattle.if1_graph.specs.Ready.{IsReady}
use Rattle.if1_graph.specs.Tables.{◌>>=◌}
use Rattle.if1_graph.specs.Types.{Sort, Plain, Function, entry_at, scalar, ty_of, ty_within, without_names, bare_at, tuple_at, sort_of, sort_at}
use Rattle.if1_graph.specs.Typing.{IsWanted, IsGiven, IsFunctionName, IsTyped, AgreesWith, AreTypesRight, kind_of}
use Rattle.if1_graph.specs.Units.{label_of, node_at, edge_into, edges_into, ends, Place, places}
use Rattle.if1_marks.proofs.Lists.{there, in-mapped, found-in, in-filter}
use Rattle.if1_marks.proofs.Tests.{same-number}
use Rattle.graph_meaning.specs.Carried.{Carried, Value}
use Rattle.graph_meaning.specs.Demand.{Source, Port, Fixed}
use Rattle.graph_meaning.specs.Networks.{of_basic, or_explicit, fixed, source_from, source_by, source_at}
use Rattle.typed_rows.specs.Rows.{Of}
use Rattle.unit_laws.specs.Typed.{Belongs, valued, typed_at}
use Rattle.unit_laws.proofs.TypeLists.{some-same}
use Rattle.unit_laws.proofs.TypedLiterals.{literal-of}

-- ---- options

pub bound : {A B : Type 0} (o : Option A) (f : A → Option B) (b : B) → (o >>= f) ≡ Some b → (a : A) × (o ≡ Some a) × (f a ≡ Some b)
bound None f b e = absurd cc
bound (Some a) f b e = (a, refl, e)

-- ---- wants of values

-- the port takes no name of a function or of a reduction
abbrev pub IsValueWant : Option Want → Type 0
IsValueWant (Some want.Function) = ⊥
IsValueWant (Some want.Reduction) = ⊥
IsValueWant _ = Unit {0}

-- ---- literals

-- a literal that names nothing is one of a basic type, but for names of function types
named-or-basic : (gs : List Graph) (w : Option Want) (text : List ℕ) (k : Option TypeKind) (b : Option Basic) → IsValueWant w → IsLiteralFor gs w text k b → (k ≡ Some kind.Basic) ⊎ (k ≡ Some kind.Function)
named-or-basic gs w text (Some kind.Basic) b v h = inl refl
named-or-basic gs w text (Some kind.Function) b v h = inr refl
named-or-basic gs (Some want.Function) text _ b v h = absurd v
named-or-basic gs (Some want.Reduction) text _ b v h = absurd v
named-or-basic gs _ text _ b v h = absurd h

is-literal : (gs : List Graph) (w : Option Want) (text : List ℕ) (b : Option Basic) → IsValueWant w → IsLiteralFor gs w text (Some kind.Basic) b → (c : Basic) × (b ≡ Some c) × IsSome (literal c text)
is-literal gs (Some want.Function) text b v h = absurd v
is-literal gs (Some want.Reduction) text b v h = absurd v
is-literal gs _ text None v h = absurd h
is-literal gs _ text (Some c) v h = (c, refl, h)

fixed-is : (u : Unit1) (w : Option Want) (ty : ℕ) (text : List ℕ) → IsValueWant w → fixed u w ty text ≡ or_explicit (entry_at u.types ty >>= λ t. of_basic (kind_at t.code) t text)
fixed-is u (Some want.Function) ty text v = absurd v
fixed-is u (Some want.Reduction) ty text v = absurd v
fixed-is u _ ty text v = refl

function-sort : (ts : List TypeEntry) (l : ℕ) (t : TypeEntry) (s : Sort) (c : Carried) → sort_of ts l t (Some kind.Function) ≡ Some s → Belongs s c
function-sort ts l t s c e =
    let a = bound (tuple_at (bare_at ts) ts t.first) (λ args. tuple_at (bare_at ts) ts t.second >>= λ rs. Some (Function args rs)) s e in
    let b = bound (tuple_at (bare_at ts) ts t.second) (λ rs. Some (Function a.0 rs)) s a.2 in
    subst (λ z. Belongs z c) (some-same (Function a.0 b.0) s b.2) tt

module _ (u : Unit1) where
  basic-sort : (ty : ℕ) (t : TypeEntry) (s : Sort) → entry_at u.types ty ≡ Some t → kind_at t.code ≡ Some kind.Basic → sort_of u.types ty t (Some kind.Basic) ≡ Some s → (x : Ty) × (scalar (basic_at t.first) ≡ Some x) × (s ≡ Plain x)
  basic-sort ty t s f k e =
      let a = bound (bare_at u.types ty) (λ t. Some (Plain t)) s e in
      let is : bare_at u.types ty ≡ scalar (basic_at t.first) = ap (λ o. o >>= λ e. ty_of without_names (ty_within without_names 63 u.types) u.types e (kind_at e.code)) f ∙ ap (ty_of without_names (ty_within without_names 63 u.types) u.types t) k in
      (a.0, sym is ∙ a.1, sym (some-same (Plain a.0) s a.2))

  basic-belongs : (ty : ℕ) (t : TypeEntry) (s : Sort) (text : List ℕ) → entry_at u.types ty ≡ Some t → kind_at t.code ≡ Some kind.Basic → sort_of u.types ty t (Some kind.Basic) ≡ Some s
      → (c : Basic) × (basic_at t.first ≡ Some c) × IsSome (literal c text) → Belongs s (or_explicit (of_basic (kind_at t.code) t text))
  basic-belongs ty t s text f k e b =
      let x = basic-sort ty t s f k e in
      let l = literal-of b.0 text b.2 in
      let same : l.ty ≡ x.0 = some-same l.ty x.0 (sym l.type ∙ (ap scalar (sym b.1) ∙ x.1)) in
      let value : of_basic (kind_at t.code) t text ≡ Some l.value = ap (λ k. of_basic k t text) k ∙ (ap (λ o. o >>= λ b. literal b text) b.1 ∙ l.is) in
      subst (λ o. Belongs s (or_explicit o)) (sym value) (subst (λ z. Belongs z (Value l.value)) (sym x.2) (subst (λ z. Of z l.value) same l.of))

  pub literal-belongs : (gs : List Graph) (w : Option Want) (ty : ℕ) (text : List ℕ) (s : Sort) → IsValueWant w → sort_at u.types ty ≡ Some s
      → ((t : TypeEntry) → entry_at u.types ty ≡ Some t → IsLiteralFor gs w text (kind_at t.code) (basic_at t.first)) → Belongs s (fixed u w ty text)
  literal-belongs gs w ty text s v e h =
      let t = bound (entry_at u.types ty) (λ e. sort_of u.types ty e (kind_at e.code)) s e in
      let lit = h t.0 t.1 in
      subst (Belongs s) (sym (fixed-is u w ty text v ∙ ap (λ o. or_explicit (o >>= λ t. of_basic (kind_at t.code) t text)) t.1))
      (elim (named-or-basic gs w text (kind_at (t.0).code) (basic_at (t.0).first) v lit) [
        | inl k ↦ basic-belongs ty t.0 s text t.1 k (subst (λ k. sort_of u.types ty t.0 k ≡ Some s) k t.2) (is-literal gs w text (basic_at (t.0).first) v (subst (λ k. IsLiteralFor gs w text k (basic_at (t.0).first)) k lit))
        | inr k ↦ function-sort u.types ty t.0 s (or_explicit (of_basic (kind_at (t.0).code) t.0 text)) (subst (λ k. sort_of u.types ty t.0 k ≡ Some s) k t.2)
      ])

-- ---- edges

module _ (u : Unit1) (ready : IsReady u) (p : Place) (here : Contains (places u) p) where
  pub graph-formed : IsGraph u p
  graph-formed = All-contains (IsGraph u) (places u) p ready.formed.graphs here

  pub edge-formed : (e : Edge) → Contains (out-Graph p.graph).edges e → IsEdge u p.graph e
  edge-formed e c = All-contains (IsEdge u p.graph) (out-Graph p.graph).edges e graph-formed.edges c

  pub node-formed : (n : Node) → Contains (out-Graph p.graph).nodes n → IsNode n
  node-formed n c = All-contains IsNode (out-Graph p.graph).nodes n graph-formed.nodes c

  pub ports-at : (l : ℕ) → Contains (ends p.graph) l → ArePortsRight u p l
  ports-at l c = All-contains (ArePortsRight u p) (ends p.graph) l (All-contains (λ p. All (ArePortsRight u p) (ends p.graph)) (places u) p ready.ports here) c

  pub types-at : (l : ℕ) → Contains (ends p.graph) l → AreTypesRight u p l
  types-at l c = All-contains (AreTypesRight u p) (ends p.graph) l (All-contains (λ p. All (AreTypesRight u p) (ends p.graph)) (places u) p ready.types here) c

  pub edge-end : (e : Edge) → Contains (out-Graph p.graph).edges e → Contains (ends p.graph) e.node
  edge-end e c = there 0 _ e.node (Contains-append_right (map label_of (out-Graph p.graph).nodes) (map (λ e. e.node) (out-Graph p.graph).edges) e.node (in-mapped (λ e. e.node) (out-Graph p.graph).edges e c))

  pub node-end : (n : Node) → Contains (out-Graph p.graph).nodes n → Contains (ends p.graph) (label_of n)
  node-end n c = there 0 _ (label_of n) (Contains-append_left (map label_of (out-Graph p.graph).nodes) (map (λ e. e.node) (out-Graph p.graph).edges) (label_of n) (in-mapped label_of (out-Graph p.graph).nodes n c))

  into : (e : Edge) → Contains (out-Graph p.graph).edges e → Contains (edges_into p.graph e.node) e
  into e c = in-filter (λ f. f.node == e.node) (out-Graph p.graph).edges e c (eq-eqb e.node e.node refl)

  pub edge-typed : (e : Edge) → Contains (out-Graph p.graph).edges e → IsTyped u p e
  edge-typed e c = All-contains (IsTyped u p) (edges_into p.graph e.node) e (types-at e.node (edge-end e c)).edges (into e c)

  pub edge-agrees : (e : Edge) → Contains (out-Graph p.graph).edges e → AgreesWith u p.graph e e.from
  edge-agrees e c = All-contains (λ e. AgreesWith u p.graph e e.from) (edges_into p.graph e.node) e (types-at e.node (edge-end e c)).agree (into e c)

  pub edge-there : (e : Edge) → Contains (out-Graph p.graph).edges e → IsThere u p e.from
  edge-there e c = All-contains (λ e. IsThere u p e.from) (edges_into p.graph e.node) e (ports-at e.node (edge-end e c)).sources (into e c)

  -- an edge of this type leaves the port, which gives such
  pub record Leaving (l port : ℕ) (s : Sort) : Type 0 where
    pub edge : Edge
    pub there : Contains (out-Graph p.graph).edges edge
    pub from : edge.from ≡ origin.Port l port
    pub sort : sort_at u.types edge.ty ≡ Some s
    pub given : IsGiven u p (origin.Port l port) s

  -- what fills a port belongs to this type, or an edge of it leaves the port that does
  abbrev pub SourceGives : Source → Sort → Type 0
  SourceGives (Fixed c) s = Belongs s c
  SourceGives (Port l port) s = Leaving l port s

  -- an edge to a port that takes values has a type that is wanted there
  pub record IsWantedHere (e : Edge) (s : Sort) : Type 0 where
    pub wanted : IsWanted u p e.node (node_at (out-Graph p.graph).nodes e.node) e.port s
    pub given : IsGiven u p e.from s

  no-name : (w : Option Want) (k : Option TypeKind) → IsValueWant w → IsFunctionName w k → ⊥
  no-name (Some want.Reduction) k v h = v
  no-name _ k v h = absurd h

  pub wanted-here : (e : Edge) → Contains (out-Graph p.graph).edges e → IsValueWant (want_at p.graph e.node e.port) → (s : Sort) × (sort_at u.types e.ty ≡ Some s) × IsWantedHere e s
  wanted-here e c v =
      elim (edge-typed e c) [
        | inl x ↦ absurd (no-name (want_at p.graph e.node e.port) (kind_of u e.ty) v x)
        | inr x ↦ (x.0, x.1, record { wanted = x.2; given = x.3 })
      ]

  pub source-gives : (e : Edge) → Contains (out-Graph p.graph).edges e → (w : Option Want) → want_at p.graph e.node e.port ≡ w → IsValueWant w → (s : Sort) → sort_at u.types e.ty ≡ Some s → SourceGives (source_from u w e.ty e.from) s
  source-gives e c w is v s f = go e.from refl (edge-formed e c).source
    where
      go : (from : Origin) → e.from ≡ from → IsOrigin u p.graph e from → SourceGives (source_from u w e.ty from) s
      go (origin.Port l port) g h =
          let x = wanted-here e c (subst IsValueWant (sym is) v) in
          record { edge = e; there = c; from = g; sort = f; given = subst (λ o. IsGiven u p o s) g (subst (IsGiven u p e.from) (some-same x.0 s (sym x.1 ∙ f)) x.2.given) }
      go (origin.Lit text) g h = literal-belongs u u.graphs w e.ty text s v f (λ t at. subst (λ w. IsLiteralFor u.graphs w text (kind_at t.code) (basic_at t.first)) is (h.2 t at))

  -- the edge that is found at a port
  pub found-edge : (l port : ℕ) (e : Edge) → edge_into p.graph l port ≡ Some e → Contains (out-Graph p.graph).edges e × (e.node ≡ l) × (e.port ≡ port)
  found-edge l port e f =
      let r = found-in (λ e. (e.node == l) && (e.port == port)) (out-Graph p.graph).edges e f in
      let q = and_parts (e.node == l) (e.port == port) r.1 in
      (r.0, same-number e.node l q.0, same-number e.port port q.1)

  pub valued-is : (w : Option Want) (o : Option Sort) (s : Sort) → valued w o ≡ Some s → IsValueWant w × (o ≡ Some s)
  valued-is (Some want.Function) o s e = absurd cc
  valued-is (Some want.Reduction) o s e = absurd cc
  valued-is _ o s e = (tt, e)

  pub port-gives : (l port : ℕ) (s : Sort) → typed_at u p.graph l port ≡ Some s → SourceGives (source_at u p.graph l port) s
  port-gives l port s e =
      let v = valued-is (want_at p.graph l port) (carried u p.graph l port) s e in
      let x = bound (edge_into p.graph l port) (λ e. sort_at u.types e.ty) s v.1 in
      let f = found-edge l port x.0 x.1 in
      subst (λ o. SourceGives (source_by u (want_at p.graph l port) o) s) (sym x.1)
      (source-gives x.0 f.0 (want_at p.graph l port) (ap (λ n. want_at p.graph n (x.0).port) f.1 ∙ ap (want_at p.graph l) f.2) v.0 s x.2)
