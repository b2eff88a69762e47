-- Each function of a valid unit has types of arguments.
use Rattle.std.proofs.Common.{◌≡◌, ℕ, List, Option, Some, None, is_some, true, false, eqb, Contains, All, arith, refl, sym, ap, ◌∙◌}
use Rattle.std.proofs.lemmas.Bool.{eqb-true}
use Rattle.std.proofs.lemmas.List.Elements.{All-contains}
use Rattle.flow_value.specs.declared.ty.Ty.{Ty}
use Rattle.if1_graph.specs.declared.graph.Graph.{Graph}
use Rattle.if1_graph.specs.declared.graph.Graph.TheViews.{out-Graph}
use Rattle.if1_graph.specs.declared.graph.Node.{Node}
use Rattle.if1_graph.specs.declared.graph.TypeEntry.{TypeEntry}
use Rattle.if1_graph.specs.declared.graph.Unit1.{Unit1}
use Rattle.if1_graph.specs.Tables.{◌>>=◌}
use Rattle.if1_graph.specs.Types.{params_at}
use Rattle.if1_graph.specs.Units.{label_of, node_at, ends, Place, places, Function}
use Rattle.if1_graph.specs.Formed.{IsNode, IsGraph}
use Rattle.if1_graph.specs.Typing.{AreTypesRight, IsEndTyped, IsFunctionType, function_type}
use Rattle.if1_graph.specs.Ready.{IsReady}
use Rattle.if1_order.specs.Within.{itself}
use Rattle.if1_order.proofs.Members.{contains_here, got_contained, found_in}
use Rattle.if1_order.proofs.Within.{unit_from_within}
use Rattle.if1_valid.specs.Params.{function_of, params_in, params_of}
use Rattle.if1_valid.proofs.Named.{params_there}

module _ (u : Unit1) (ready : IsReady u) where
  function_place : (g : Graph) → Contains u.graphs g → (k : ℕ) × Contains (places u) (record { graph = g; home = Function k })
  function_place g h =
      let at = got_contained u.graphs g h in
      (at.0, unit_from_within u at.0 g (record { graph = g; home = Function at.0 }) ready.formed.nesting at.1 itself)

  -- no node has label 0
  at_boundary : (g : Graph) (k : ℕ) (o : Option Node) → All IsNode (out-Graph g).nodes → node_at (out-Graph g).nodes 0 ≡ o →
      IsEndTyped u (record { graph = g; home = Function k }) o → IsFunctionType (function_type u g)
  at_boundary g k None nodes e h = h
  at_boundary g k (Some n) nodes e h =
      let r = found_in (λ n. eqb (label_of n) 0) (out-Graph g).nodes n e in
      let label = (All-contains IsNode (out-Graph g).nodes n nodes r.0).label in
      absurd (omega (arith, eqb-true (label_of n) 0 r.1, label.0))

  typed_header : (g : Graph) → Contains u.graphs g → IsFunctionType (function_type u g)
  typed_header g h =
      let at = function_place g h in
      let p : Place = record { graph = g; home = Function at.0 } in
      let formed : IsGraph u p = All-contains (IsGraph u) (places u) p ready.formed.graphs at.1 in
      let typed : AreTypesRight u p 0 =
      All-contains (AreTypesRight u p) (ends g) 0 (All-contains (λ p. All (AreTypesRight u p) (ends p.graph)) (places u) p ready.types at.1) (contains_here 0 _) in
      at_boundary g at.0 (node_at (out-Graph g).nodes 0) formed.nodes refl typed.place

  -- there are types of arguments for the number of each function
  pub has_params : (number : ℕ) → is_some (function_of u number) ≡ true → is_some (params_of u number) ≡ true
  has_params number h = by (function_of u number) refl h
    where
      by : (o : Option Graph) → function_of u number ≡ o → is_some o ≡ true → is_some (o >>= λ g. params_at u.types (out-Graph g).fun) ≡ true
      by None e h = cc
      by (Some g) e h =
          let typed = typed_header g (found_in (λ g. eqb (out-Graph g).number number) u.graphs g e).0 in
          params_there typed.0 typed.1 u.types (out-Graph g).fun typed.2

pub none_is_absurd : (u : Unit1) (number : ℕ) (ts : List TypeEntry) (gs : List Graph) (found : Option (List Ty)) → IsReady u → is_some (function_of u number) ≡ true →
    ts ≡ u.types → gs ≡ u.graphs → found ≡ params_in ts gs number → found ≡ None → ⊥
none_is_absurd u number ts gs found ready there types graphs is none =
    let some = has_params u ready number there in
    let same : None ≡ params_of u number =
    sym none ∙ is ∙ ap (λ ts. params_in ts gs number) types ∙ ap (λ gs. params_in u.types gs number) graphs in
    let e : false ≡ true = ap is_some same ∙ some in
    cc
