-- A reduction is named by a literal.
use Rattle.std.proofs.Common.{◌≡◌, ℕ, zero, suc, ◌≤◌, Bool, true, false, List, [], ◌∷◌, map, Option, Some, None, IsSome, Contains, refl, sym, ap, ◌∙◌, subst, arith}
use Rattle.if1_graph.specs.declared.graph.Edge.{Edge}
use Rattle.if1_graph.specs.declared.graph.Graph.TheViews.{out-Graph}
use Rattle.if1_graph.specs.declared.graph.Node.{Node, out-Node}
use Rattle.if1_graph.specs.declared.graph.Origin.{Origin}
use Rattle.if1_graph.specs.declared.graph.Origin.TheVariants as origin
use Rattle.if1_graph.specs.declared.graph.Unit1.{Unit1}
use Rattle.if1_graph.specs.declared.op.Compound.{Compound}
use Rattle.if1_graph.specs.declared.op.Grouping.{Grouping}
use Rattle.if1_graph.specs.declared.op.Simple.{Simple}
use Rattle.if1_graph.specs.declared.op.Simple.TheVariants as simple
use Rattle.if1_graph.specs.declared.row.Want.{Want}
use Rattle.if1_graph.specs.declared.row.Want.TheVariants as want
use Rattle.if1_graph.specs.Formed.{want_at}
use Rattle.if1_graph.specs.Ops.{compound_at, simple_at}
use Rattle.if1_graph.specs.Ports.{IsFilledAs, IsNamed, IsSimpleFilled, literal_at, text_of}
use Rattle.if1_graph.specs.Ready.{IsReady}
use Rattle.if1_graph.specs.Tables.{◌>>=◌}
use Rattle.if1_graph.specs.Units.{Place, edge_into, label_of, width}
use Rattle.if1_marks.specs.Given.{is_call_as}
use Rattle.graph_meaning.proofs.StorageUnits.{call-kind, plain-kind}
use Rattle.graph_meaning.specs.Carried.{Carried}
use Rattle.graph_meaning.specs.Demand.{EachNode, Fixed, Kind, Plain, Source, Vertex, Whole}
use Rattle.graph_meaning.specs.Forms as form
use Rattle.graph_meaning.specs.Networks.{callee_number, fixed, ins_of, kind_as, kind_of, network, shape_of, simple_kind, source_at, source_by, source_from, sources, vertex_of}
use Rattle.graph_meaning.specs.NodeValues.{Shape}
use Rattle.unit_laws.proofs.TypedNodes.{node-filled, port-filled, want-is, width-over}
use Rattle.plan_shares.proofs.Graphs.{IsPlaced, network-each}
use Rattle.unit_whole.specs.Seen.{IsFixedFirst}

abbrev pub IsNamedAs : Vertex → Type 0
IsNamedAs v = (grouping : Grouping) (shape : Shape) → v.kind ≡ Plain (simple.Reduce grouping) shape → IsFixedFirst v.ins

module _ (u : Unit1) (ready : IsReady u) (g : ℕ) (q : Place) (x : IsPlaced u g q) (n : Node) (there : Contains (out-Graph q.graph).nodes n) where
  abbrev l : ℕ
  l = label_of n

  by-origin : (w : Option Want) (ty : ℕ) (from : Origin) (text : List ℕ) → text_of from ≡ Some text → (c : Carried) × (source_from u w ty from ≡ Fixed c)
  by-origin w ty (origin.Port node port) text h = absurd (let z : None ≡ Some text = h in cc)
  by-origin w ty (origin.Lit t) text h = (fixed u w ty t, refl)

  abbrev First : Type 0
  First = (c : Carried) × (source_at u q.graph l 1 ≡ Fixed c) × (1 ≤ width q.graph l)

  first-fixed : (grouping : Grouping) → compound_at (out-Node n).op ≡ None → simple_at (out-Node n).op ≡ Some (simple.Reduce grouping) → First
  first-fixed grouping none is =
      let filled : IsSimpleFilled u q.graph n (simple.Reduce grouping) = subst (λ z. IsFilledAs u q.graph n None z) is (subst (λ c. IsFilledAs u q.graph n c (simple_at (out-Node n).op)) none (node-filled u ready q x.there n there)) in
      let name : IsNamed (Some want.Reduction) (literal_at q.graph l 1) = subst (λ w. IsNamed w (literal_at q.graph l 1)) (want-is u ready q x.there n there 1 (simple.Reduce grouping) is) filled.name in
      go (edge_into q.graph l 1) refl name
    where
      by-text : (e : Edge) → edge_into q.graph l 1 ≡ Some e → (o : Option (List ℕ)) → text_of e.from ≡ o → IsSome o → First
      by-text e eq None t h = absurd cc
      by-text e eq (Some text) t h =
          let y = by-origin (want_at q.graph l 1) e.ty e.from text t in
          (y.0, ap (source_by u (want_at q.graph l 1)) eq ∙ y.1, width-over q.graph l 1 (port-filled q.graph l 1 e eq))

      go : (o : Option Edge) → edge_into q.graph l 1 ≡ o → IsSome (o >>= λ e. text_of e.from) → First
      go None e h = absurd cc
      go (Some e) eq h = by-text e eq (text_of e.from) refl h

  fixed-first : (w : ℕ) → First → 1 ≤ w → IsFixedFirst (sources u q.graph l 1 w)
  fixed-first zero f le = absurd (omega (arith, le))
  fixed-first (suc w) f le = subst (λ o. IsFixedFirst (o ∷ sources u q.graph l 2 w)) (sym f.1) tt

  -- what it is fired as tells its row
  abbrev IsRow : Grouping → Type 0
  IsRow grouping = (compound_at (out-Node n).op ≡ None) × (simple_at (out-Node n).op ≡ Some (simple.Reduce grouping))

  no-whole : (f : form.Form) (row : Simple) (shape : Shape) → Whole f ≡ Plain row shape → ⊥
  no-whole f row shape e = cc

  same-row : (op row : Simple) (own shape : Shape) → Plain op own ≡ Plain row shape → op ≡ row
  same-row op row own shape e = cc

  by-simple : (op : Simple) → compound_at (out-Node n).op ≡ None → simple_at (out-Node n).op ≡ Some op → (b : Bool) → is_call_as None (Some op) ≡ b → (grouping : Grouping) (shape : Shape) → simple_kind u q.graph l op ≡ Plain (simple.Reduce grouping) shape → IsRow grouping
  by-simple op is_c is_o true is grouping shape e = absurd (no-whole (form.Call (callee_number u q.graph l)) (simple.Reduce grouping) shape (sym (call-kind u q.graph l op is) ∙ e))
  by-simple op is_c is_o false is grouping shape e = (is_c, is_o ∙ ap Some (same-row op (simple.Reduce grouping) (shape_of u q.graph l op) shape (sym (plain-kind u q.graph l op is) ∙ e)))

  by-kind : (c : Option Compound) (o : Option Simple) → compound_at (out-Node n).op ≡ c → simple_at (out-Node n).op ≡ o → (grouping : Grouping) (shape : Shape) → kind_as u q.graph n c o ≡ Plain (simple.Reduce grouping) shape → IsRow grouping
  by-kind (Some c) o is_c is_o grouping shape e = absurd (no-whole _ (simple.Reduce grouping) shape e)
  by-kind None (Some op) is_c is_o grouping shape e = by-simple op is_c is_o (is_call_as None (Some op)) refl grouping shape e
  by-kind None None is_c is_o grouping shape e = absurd (clash (same-row simple.Error (simple.Reduce grouping) _ shape e))
    where
      clash : simple.Error ≡ simple.Reduce grouping → ⊥
      clash e = cc

  pub vertex-named : IsNamedAs (vertex_of u q.graph n)
  vertex-named grouping shape e =
      let row = by-kind (compound_at (out-Node n).op) (simple_at (out-Node n).op) refl refl grouping shape e in
      let f = first-fixed grouping row.0 row.1 in
      subst (λ k. IsFixedFirst (ins_of u q.graph l k)) (sym e) (fixed-first (width q.graph l) f f.2)

pub nodes-named : (u : Unit1) → IsReady u → (g : ℕ) → EachNode IsNamedAs (network u g).nodes
nodes-named u ready g = network-each u g IsNamedAs (λ q x n there. vertex-named u ready g q x n there)
