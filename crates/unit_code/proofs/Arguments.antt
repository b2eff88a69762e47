-- A function has as many inputs as arguments.
use Rattle.std.proofs.Common.{◌≡◌, ◌==◌, ℕ, zero, suc, inl, inr, Bool, true, false, List, [], ◌∷◌, map, find, length, unwrap_or, option_map, if◌then◌else◌, Option, Some, None, Contains, All, arith, refl, sym, ap, subst, ◌∙◌}
use Rattle.std.proofs.lemmas.Bool.{eqb-true}
use Rattle.std.proofs.lemmas.List.{length-map}
use Rattle.std.proofs.lemmas.List.Elements.{All-contains}
use Rattle.flow_value.specs.declared.ty.Ty.{Ty}
use Rattle.if1_graph.specs.declared.graph.Graph.{Graph}
use Rattle.if1_graph.specs.declared.graph.Graph.TheViews.{out-Graph}
use Rattle.if1_graph.specs.declared.graph.Node.{Node}
use Rattle.if1_graph.specs.declared.graph.TypeEntry.{TypeEntry}
use Rattle.if1_graph.specs.declared.graph.Unit1.{Unit1}
use Rattle.if1_graph.specs.declared.kind.TypeKind.{TypeKind}
use Rattle.if1_graph.specs.declared.kind.TypeKind.TheVariants as kind
use Rattle.if1_graph.specs.Formed.{IsGraph, IsNode}
use Rattle.if1_graph.specs.Kinds.{kind_at}
use Rattle.if1_graph.specs.Ports.{arguments_of, inputs}
use Rattle.if1_graph.specs.Ready.{IsReady}
use Rattle.if1_graph.specs.Tables.{◌>>=◌}
use Rattle.if1_graph.specs.Types.{Function, Many, Member, Naming, Plain, bare_at, entry_at, is_tuple, members, params_at, sort_at, sort_of, tuple_at, ty_at, without_names}
use Rattle.if1_graph.specs.Types as types
use Rattle.if1_graph.specs.Typing.{AreTypesRight, IsEndTyped, IsFunctionType, function_type}
use Rattle.if1_graph.specs.Units.{Place, ends, label_of, node_at, number_of, places}
use Rattle.if1_graph.specs.Units as units
use Rattle.if1_order.specs.Within.{itself}
use Rattle.if1_order.proofs.Members.{got_contained}
use Rattle.if1_order.proofs.Within.{unit_from_within}
use Rattle.if1_valid.specs.Params.{function_of, params_of}
use Rattle.graph_meaning.specs.Entered.{IsIn}
use Rattle.graph_meaning.proofs.Lists.{found-in, here}
use Rattle.unit_laws.proofs.TypedEdges.{bound}
use Rattle.unit_whole.specs.Plans.{functions_of, inputs_in, place_of}
use Rattle.unit_whole.proofs.Found.{place-found}

-- ---- types

some-same : {A : Type 0} (a b : A) → Some a ≡ Some b → a ≡ b
some-same a b e = cc

-- as many members, whatever their names and types
module _ (p q : ℕ → Option Ty) (is : Option TypeKind → Bool) (ts : List TypeEntry) where
  members-many : (far l : ℕ) (ms ns : List Member) → members without_names p is ts far l ≡ Some ms → members without_names q is ts far l ≡ Some ns → length ms ≡ length ns
  members-many far zero ms ns e f = ap length (sym (some-same [] ms e) ∙ some-same [] ns f)
  members-many zero (suc l) ms ns e f = cc
  members-many (suc far) (suc l) ms ns e f =
      let a = bound (entry_at ts (suc l)) _ ms e in
      let b = bound (entry_at ts (suc l)) _ ns f in
      let same = some-same a.0 b.0 (sym a.1 ∙ b.1) in
      let a1 = bound (if is (kind_at (a.0).code) then p (a.0).first else None) _ ms a.2 in
      let b1 = bound (if is (kind_at (b.0).code) then q (b.0).first else None) _ ns b.2 in
      let a2 = bound (members without_names p is ts far (a.0).second) _ ms a1.2 in
      let b2 = bound (members without_names q is ts far (b.0).second) _ ns b1.2 in
      let rest = members-many far (a.0).second a2.0 b2.0 a2.1 (subst (λ z. members without_names q is ts far z.second ≡ Some b2.0) (sym same) b2.1) in
      sym (ap length (some-same _ ms a2.2)) ∙ (ap suc rest ∙ ap length (some-same _ ns b2.2))

tuples-many : (ts : List TypeEntry) (l : ℕ) (xs ys : List Ty) → tuple_at (bare_at ts) ts l ≡ Some xs → tuple_at (ty_at ts) ts l ≡ Some ys → length xs ≡ length ys
tuples-many ts l xs ys e f =
    let a = bound (members without_names (bare_at ts) is_tuple ts (length ts) l) _ xs e in
    let b = bound (members without_names (ty_at ts) is_tuple ts (length ts) l) _ ys f in
    let many = members-many (bare_at ts) (ty_at ts) is_tuple ts (length ts) l a.0 b.0 a.1 b.1 in
    let x = ap length (some-same _ xs a.2) in
    let y = ap length (some-same _ ys b.2) in
    omega (arith, x, y, many, length-map a.0 (λ m. m.1), length-map b.0 (λ m. m.1))

module _ (ts : List TypeEntry) (args rs tys : List Ty) where
  no-value : (o : Option Ty) → (o >>= λ t. Some (Plain t)) ≡ Some (Function args rs) → ⊥
  no-value None h = cc
  no-value (Some t) h = cc

  by-kind : (l : ℕ) (e : TypeEntry) (k : Option TypeKind) → sort_of ts l e k ≡ Some (Function args rs) → types.params_of ts e k ≡ Some tys → length args ≡ length tys
  by-kind l e (Some kind.Function) h p =
      let a = bound (tuple_at (bare_at ts) ts e.first) _ (Function args rs) h in
      let b = bound (tuple_at (bare_at ts) ts e.second) _ (Function args rs) a.2 in
      let same : a.0 ≡ args = (let x : Some (Function a.0 b.0) ≡ Some (Function args rs) = b.2 in cc) in
      tuples-many ts e.first args tys (a.1 ∙ ap Some same) p
  by-kind l e k h p = cc

  arguments-many : (l : ℕ) → sort_at ts l ≡ Some (Function args rs) → params_at ts l ≡ Some tys → length args ≡ length tys
  arguments-many l h p =
      let a = bound (entry_at ts l) _ (Function args rs) h in
      let b = bound (entry_at ts l) _ tys p in
      let same = some-same a.0 b.0 (sym a.1 ∙ b.1) in
      by-kind l a.0 (kind_at (a.0).code) a.2 (subst (λ e. types.params_of ts e (kind_at e.code) ≡ Some tys) (sym same) b.2)

-- ---- functions

is-in : (f : ℕ) (gs : List Graph) (g : Graph) → find (λ g. (out-Graph g).number == f) gs ≡ Some g → IsIn f (map (λ g. (out-Graph g).number) gs)
is-in f [] g e = cc
is-in f (h ∷ gs) g e = go ((out-Graph h).number == f) refl e (is-in f gs g)
  where
    go : (b : Bool) → ((out-Graph h).number == f) ≡ b → (if b then Some h else find (λ g. (out-Graph g).number == f) gs) ≡ Some g → (find (λ g. (out-Graph g).number == f) gs ≡ Some g → IsIn f (map (λ g. (out-Graph g).number) gs)) → IsIn f (map (λ g. (out-Graph g).number) (h ∷ gs))
    go true t e rest = inl (sym (eqb-true (out-Graph h).number f t))
    go false t e rest = inr (rest e)

module _ (u : Unit1) (ready : IsReady u) where
  -- no node has label 0
  at-boundary : (g : Graph) (k : ℕ) (o : Option Node) → All IsNode (out-Graph g).nodes → node_at (out-Graph g).nodes 0 ≡ o → IsEndTyped u (record { graph = g; home = units.Function k }) o → IsFunctionType (function_type u g)
  at-boundary g k None nodes e h = h
  at-boundary g k (Some n) nodes e h =
      let r = found-in (λ n. label_of n == 0) (out-Graph g).nodes n e in
      let label = (All-contains IsNode (out-Graph g).nodes n nodes r.0).label in
      absurd (omega (arith, eqb-true (label_of n) 0 r.1, label.0))

  module _ (f : ℕ) (tys : List Ty) (has : params_of u f ≡ Some tys) where
    found : (g : Graph) × (function_of u f ≡ Some g) × (params_at u.types (out-Graph g).fun ≡ Some tys)
    found = bound (function_of u f) (λ g. params_at u.types (out-Graph g).fun) tys has

    abbrev g : Graph
    g = found.0

    among : Contains u.graphs g × (((out-Graph g).number == f) ≡ true)
    among = found-in (λ g. (out-Graph g).number == f) u.graphs g found.1

    abbrev home : ℕ
    home = (got_contained u.graphs g among.0).0

    abbrev p : Place
    p = record { graph = g; home = units.Function home }

    there : Contains (places u) p
    there = unit_from_within u home g p ready.formed.nesting (got_contained u.graphs g among.0).1 itself

    header : IsFunctionType (function_type u g)
    header =
        let formed : IsGraph u p = All-contains (IsGraph u) (places u) p ready.formed.graphs there in
        let typed : AreTypesRight u p 0 = All-contains (AreTypesRight u p) (ends g) 0 (All-contains (λ p. All (AreTypesRight u p) (ends p.graph)) (places u) p ready.types there) (here 0 _) in
        at-boundary g home (node_at (out-Graph g).nodes 0) formed.nodes refl typed.place

    pub function-in : IsIn f (functions_of u)
    function-in = is-in f u.graphs g found.1

    pub inputs-many : inputs_in u (place_of u f) ≡ length tys
    inputs-many =
        let number = eqb-true (out-Graph g).number f among.1 in
        let at : place_of u f ≡ Some p = sym (ap (place_of u) number) ∙ place-found u ready.formed p there in
        let own : inputs u p ≡ Some (length header.0) = ap (λ s. option_map length (arguments_of s)) header.2 in
        ap (inputs_in u) at ∙ (ap (λ o. unwrap_or o 0) own ∙ arguments-many u.types header.0 header.1 tys (out-Graph g).fun header.2 found.2)
