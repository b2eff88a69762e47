-- The test of an edge decides whether it has a type that its port wants and its source gives.
use Rattle.std.proofs.Common.{◌≡◌, ◌≢◌, ℕ, zero, suc, Bool, true, false, not, ◌==◌, ◌&&◌, List, [], ◌∷◌, filter, cond, All, Option, Some, None, option_map, MatchOption, Decides, arith, refl, sym, subst, eqb-true, ne_eqb}
use Rattle.std.proofs.lemmas.Bool.{and_parts, and_from}
use Rattle.std.proofs.lemmas.Bool.Decides.{Decides-at}
use Rattle.std.proofs.lemmas.List.Elements.{All-cons, All-head, All-tail}
use Rattle.if1_graph.specs.declared.graph.Graph.{Graph}
use Rattle.if1_graph.specs.declared.graph.Graph.TheViews.{out-Graph}
use Rattle.if1_graph.specs.declared.graph.Node.{Node, out-Node}
use Rattle.if1_graph.specs.declared.graph.Edge.{Edge}
use Rattle.if1_graph.specs.declared.graph.Origin.{Origin}
use Rattle.if1_graph.specs.declared.graph.Origin.TheVariants.{Port, Lit}
use Rattle.if1_graph.specs.declared.graph.Unit1.{Unit1}
use Rattle.if1_graph.specs.declared.kind.TypeKind.{TypeKind}
use Rattle.if1_graph.specs.declared.kind.TypeKind.TheVariants as kind
use Rattle.if1_graph.specs.declared.op.Compound.{Compound}
use Rattle.if1_graph.specs.declared.op.Compound.TheVariants as compound
use Rattle.if1_graph.specs.declared.op.Simple.{Simple}
use Rattle.if1_graph.specs.declared.row.Use.{Use}
use Rattle.if1_graph.specs.declared.row.Want.{Want}
use Rattle.if1_graph.specs.declared.row.Want.TheVariants as want
use Rattle.if1_graph.specs.Tables.{◌>>=◌}
use Rattle.if1_graph.specs.Ops.{simple_at, compound_at}
use Rattle.if1_graph.specs.Rows.{operand_of, output_of}
use Rattle.if1_graph.specs.Types.{Sort, sort_at}
use Rattle.if1_graph.specs.Units.{label_of, node_at, edges_into, Place}
use Rattle.if1_graph.specs.Formed.{want_at}
use Rattle.if1_graph.specs.Typing.{Fits, known, result_of, giving_part, FitsCompound, FitsNode, FitsOutputAs, FitsOutput, IsWanted, IsGiven, IsFunctionName, IsTyped, kind_of}
use Rattle.if1_types.specs.Forms.{IsSort}
use Rattle.if1_fits.specs.Tests.{IsNumbered}
use Rattle.if1_fits.proofs.Decided as by
use Rattle.if1_typing.specs.Tables.{Table, Tells, number, is_function_kind}
use Rattle.if1_typing.specs.Fed.{result_number}
use Rattle.if1_typing.specs.Ends.{doing_of, operand_fits, compound_fits, node_fits, is_wanted, output_as, output_fits, node_gives, is_given, want_of, is_name_for, is_sorted, is_typed, are_typed}
use Rattle.if1_typing.proofs.Numbered.{numbered, result_numbered, want_decided}
use Rattle.if1_typing.proofs.Tagged.{never, union_decided}
use Rattle.if1_typing.proofs.Sited.{around_of, value, same, input, result}

module _ (u : Unit1) (t : Table) (tells : Tells u.types u.graphs t) where
  -- ---- by a number

  module _ (n : ℕ) (s : Sort) (h : IsSort t.keys n s) where
    compound_wants : (c : Compound) (port : ℕ) → Decides (compound_fits t c port n) (FitsCompound c port s)
    compound_wants compound.TagCase (suc zero) = union_decided t.keys tells.once tells.read n s h
    compound_wants c port = value u t tells n s h

    operand_wants : (g : Graph) (l : ℕ) (o : Option (Use × Want)) →
        Decides (operand_fits t (edges_into g l) o n) (MatchOption o ⊥ (λ operand. Fits (known u g l) operand.1 s))
    operand_wants g l None = never (λ x. x)
    operand_wants g l (Some o) = want_decided u t tells g l o.1 n s h

    node_wants : (g : Graph) (l : ℕ) (c : Option Compound) (op : Option Simple) (port : ℕ) →
        Decides (node_fits t (edges_into g l) c op port n) (FitsNode u g l c op port s)
    node_wants g l (Some c) op port = compound_wants c port
    node_wants g l None (Some op) port = operand_wants g l (operand_of op port)
    node_wants g l None None port = never (λ x. x)

    wanted : (p : Place) (l : ℕ) (m : Option Node) (port : ℕ) →
        Decides (is_wanted t (around_of t p.graph p.home).site (around_of t p.graph p.home).parts (option_map doing_of m) (edges_into p.graph l) port n)
        (IsWanted u p l m port s)
    wanted p l (Some m) port = node_wants p.graph l (compound_at (out-Node m).op) (simple_at (out-Node m).op) port
    wanted p l None port = result u t tells n s h p.graph p.home port

    want_gives : (g : Graph) (l : ℕ) (w : Option Want) →
        Decides (output_as t (edges_into g l) w n) (MatchOption w ⊥ (λ w. Fits (known u g l) w s))
    want_gives g l None = never (λ x. x)
    want_gives g l (Some w) = want_decided u t tells g l w n s h

    output_gives : (g : Graph) (m : Node) (c : Option Compound) (op : Option Simple) (port : ℕ) →
        Decides (output_fits t g m c op port n) (FitsOutputAs u g m c op port s)
    output_gives g m (Some c) op port =
        same u t tells n s h (result_of u (out-Node m).subs (giving_part c) port) (result_number t (out-Node m).subs (giving_part c) port)
        (result_numbered u t tells (out-Node m).subs (giving_part c) port)
    output_gives g m None (Some op) port = want_gives g (label_of m) (output_of op port)
    output_gives g m None None port = never (λ x. x)

    output : (g : Graph) (m : Option Node) (port : ℕ) → Decides (node_gives t g m port n) (FitsOutput u g m port s)
    output g None port = never (λ x. x)
    output g (Some m) port = output_gives g m (compound_at (out-Node m).op) (simple_at (out-Node m).op) port

    given : (p : Place) (from : Origin) → Decides (is_given t (around_of t p.graph p.home) p.graph from n) (IsGiven u p from s)
    given p (Lit text) = (λ h. tt, λ h. refl)
    given p (Port zero port) = input u t tells n s h p.graph p.home port
    given p (Port (suc l) port) = output p.graph (node_at (out-Graph p.graph).nodes (suc l)) port

  -- ---- an edge

  no_none : {A : Type 0} (s : Sort) → ◌≡◌ {A = Option Sort} None (Some s) → A
  no_none s e = cc

  abbrev Sorted : Place → ℕ → Option Node → Edge → Option Sort → Type 0
  Sorted p l m e o = (s : Sort) × (o ≡ Some s) × IsWanted u p l m e.port s × IsGiven u p e.from s

  sorted_as : (p : Place) (l : ℕ) (m : Option Node) (e : Edge) (n : ℕ) (o : Option Sort) → IsNumbered t.keys o n →
      Decides (is_sorted t (around_of t p.graph p.home) p.graph (option_map doing_of m) (edges_into p.graph l) e n) (Sorted p l m e o)
  sorted_as p l m e n None is =
      subst (λ n. Decides (is_sorted t (around_of t p.graph p.home) p.graph (option_map doing_of m) (edges_into p.graph l) e n) (Sorted p l m e None)) (sym is)
      (never (λ r. no_none r.0 r.1))
  sorted_as p l m e n (Some s) is =
      let a = around_of t p.graph p.home in
      let x = is_wanted t a.site a.parts (option_map doing_of m) (edges_into p.graph l) e.port n in
      let y = is_given t a p.graph e.from n in
      let dx = wanted n s is p l m e.port in
      let dy = given n s is p e.from in
      let some : n ≢ 0 = λ z. tells.read.sorts 0 s (subst (λ n. IsSort t.keys n s) z is) in
      subst (λ b. Decides (not b && (x && y)) (Sorted p l m e (Some s))) (sym (ne_eqb n 0 some)) (
        λ b. let both = and_parts x y b in (s, refl, dx.0 both.0, dy.0 both.1),
        λ r.
            and_from x y (dx.1 (subst (λ s. IsWanted u p l m e.port s) (sym (this s r.0 r.1)) r.2))
            (dy.1 (subst (λ s. IsGiven u p e.from s) (sym (this s r.0 r.1)) r.3)),
      )
    where
      this : (s r : Sort) → Some s ≡ Some r → s ≡ r
      this s r e = cc

  kind_decided : (k : Option TypeKind) → Decides (is_function_kind k) (IsFunctionName (Some want.Reduction) k)
  kind_decided (Some kind.Function) = (λ h. tt, λ h. refl)
  kind_decided _ = never (λ x. x)

  name_decided : (w : Option Want) (l : ℕ) → Decides (is_name_for t w l) (IsFunctionName w (kind_of u l))
  name_decided (Some want.Reduction) l = Decides-at (t.is_function l) (is_function_kind (kind_of u l)) (tells.functions l) (kind_decided (kind_of u l))
  name_decided _ l = never (λ x. x)

  wants_at : (m : Option Node) (port : ℕ) →
      (option_map doing_of m >>= λ d. want_of d.simple port)
      ≡ (m >>= λ n. simple_at (out-Node n).op >>= λ op. operand_of op port >>= λ operand. Some operand.1)
  wants_at None port = refl
  wants_at (Some m) port = refl

  edge_here : (p : Place) (e : Edge) →
      Decides (is_typed t (around_of t p.graph p.home) p.graph (option_map doing_of (node_at (out-Graph p.graph).nodes e.node)) (edges_into p.graph e.node) e)
      (IsTyped u p e)
  edge_here p e =
      let a = around_of t p.graph p.home in
      let m = node_at (out-Graph p.graph).nodes e.node in
      let d = option_map doing_of m in
      by.or_decides (is_name_for t (d >>= λ d. want_of d.simple e.port) e.ty)
      (is_sorted t a p.graph d (edges_into p.graph e.node) e (number t e.ty))
      (subst (λ w. Decides (is_name_for t w e.ty) (IsFunctionName (want_at p.graph e.node e.port) (kind_of u e.ty))) (sym (wants_at m e.port))
      (name_decided (want_at p.graph e.node e.port) e.ty))
      (sorted_as p e.node m e (number t e.ty) (sort_at u.types e.ty) (numbered u t tells e.ty))

  edge_into : (p : Place) (l : ℕ) (e : Edge) → e.node ≡ l →
      Decides (is_typed t (around_of t p.graph p.home) p.graph (option_map doing_of (node_at (out-Graph p.graph).nodes l)) (edges_into p.graph l) e) (IsTyped u p e)
  edge_into p l e same =
      subst
      (λ l. Decides (is_typed t (around_of t p.graph p.home) p.graph (option_map doing_of (node_at (out-Graph p.graph).nodes l)) (edges_into p.graph l) e) (IsTyped u p e))
      same (edge_here p e)

  -- ---- all edges into a node

  into : (es : List Edge) (l : ℕ) → All (λ e. e.node ≡ l) (filter (λ e. e.node == l) es)
  into [] l = λ k d b. absurd (omega (arith, b))
  into (e ∷ es) l = kept (e.node == l) refl (into es l)
    where
      kept : (b : Bool) → (e.node == l) ≡ b → All (λ e. e.node ≡ l) (filter (λ e. e.node == l) es) → All (λ e. e.node ≡ l) (cond b (e ∷ filter (λ e. e.node == l) es) (filter (λ e. e.node == l) es))
      kept true is more = All-cons (λ e. e.node ≡ l) e (filter (λ e. e.node == l) es) (eqb-true e.node l is) more
      kept false is more = more

  each_decided : (p : Place) (l : ℕ) (es : List Edge) → All (λ e. e.node ≡ l) es →
      Decides (are_typed t (around_of t p.graph p.home) p.graph (option_map doing_of (node_at (out-Graph p.graph).nodes l)) (edges_into p.graph l) es) (All (IsTyped u p) es)
  each_decided p l [] here = (λ h k d b. absurd (omega (arith, b)), λ h. refl)
  each_decided p l (e ∷ es) here =
      let d = option_map doing_of (node_at (out-Graph p.graph).nodes l) in
      let x = is_typed t (around_of t p.graph p.home) p.graph d (edges_into p.graph l) e in
      let y = are_typed t (around_of t p.graph p.home) p.graph d (edges_into p.graph l) es in
      let dx = edge_into p l e (All-head (λ (e : Edge). e.node ≡ l) e es here) in
      let dy = each_decided p l es (All-tail (λ (e : Edge). e.node ≡ l) e es here) in (
        λ h. let both = and_parts x y h in All-cons (IsTyped u p) e es (dx.0 both.0) (dy.0 both.1),
        λ a. and_from x y (dx.1 (All-head (IsTyped u p) e es a)) (dy.1 (All-tail (IsTyped u p) e es a)),
      )

  pub edges_decided : (p : Place) (l : ℕ) →
      Decides (are_typed t (around_of t p.graph p.home) p.graph (option_map doing_of (node_at (out-Graph p.graph).nodes l)) (edges_into p.graph l) (edges_into p.graph l))
      (All (IsTyped u p) (edges_into p.graph l))
  edges_decided p l = each_decided p l (edges_into p.graph l) (into (out-Graph p.graph).edges l)
