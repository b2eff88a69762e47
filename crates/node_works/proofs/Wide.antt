-- How many outputs a simple node has.
use Rattle.std.proofs.Common.{◌≡◌, ◌==◌, ℕ, List, find, length, bytes_eq, option_map, Option, Some, None, refl, sym, ap, ◌∙◌, arith}
use Rattle.std.specs.Prelude.{unwrap_or}
use Rattle.flow_value.specs.declared.operation.Scalar1.TheVariants as one
use Rattle.flow_value.specs.declared.operation.Scalar2.TheVariants as two
use Rattle.if1_graph.specs.declared.graph.Graph.{Graph}
use Rattle.if1_graph.specs.declared.graph.Graph.TheViews.{out-Graph}
use Rattle.if1_graph.specs.declared.graph.Unit1.{Unit1}
use Rattle.if1_graph.specs.declared.op.Simple.{Simple}
use Rattle.if1_graph.specs.declared.op.Simple.TheVariants as simple
use Rattle.if1_graph.specs.Formed.{function_named}
use Rattle.if1_graph.specs.Ports.{carried, fields_of, literal_at}
use Rattle.if1_graph.specs.Ready.{IsReady}
use Rattle.if1_graph.specs.Rows.{row_of}
use Rattle.if1_graph.specs.Tables.{◌>>=◌}
use Rattle.if1_graph.specs.Types.{Member}
use Rattle.if1_graph.specs.Units.{Function, Place, number_of, places}
use Rattle.if1_marks.proofs.Tests.{same-number}
use Rattle.if1_order.proofs.Members.{got_contained}
use Rattle.if1_ports.specs.declared.outline.Outline.{Outline}
use Rattle.if1_ports.specs.Outlines.{fields_in, outline_of}
use Rattle.if1_ports.proofs.Known.{fields_known}
use Rattle.graph_meaning.proofs.Lists.{found-in}
use Rattle.graph_meaning.specs.Laws.{outputs_by}
use Rattle.graph_meaning.specs.NodeValues as shape
use Rattle.graph_meaning.specs.Networks.{callee_number, fields_shape, net_at, network, number_or_zero, simple_kind}
use Rattle.unit_laws.proofs.TypedPlans.{function-place}
use Rattle.unit_plan.proofs.Found.{number-within}
use Rattle.unit_plan.proofs.Outputs.{results-long}
use Rattle.unit_plan.specs.Plans.{outputs_in}
use Rattle.node_works.specs.Tables.{callee_at, callee_named, callee_of, number_by, results_by}

-- ---- calls

module _ (u : Unit1) (ready : IsReady u) where
  no-zero : (o : Option Place) → find (λ p. number_of p == 0) (places u) ≡ o → o ≡ None
  no-zero None e = refl
  no-zero (Some p) e =
      let x = found-in (λ p. number_of p == 0) (places u) p e in
      let least = (number-within u ready.formed p x.0).0 in
      let zero_is = same-number (number_of p) 0 x.1 in
      absurd (omega (arith, least, zero_is))

  no-graph : length (network u 0).results ≡ 0
  no-graph = ap (λ o. length (net_at u o).results) (no-zero (find (λ p. number_of p == 0) (places u)) refl)

  named-wide : (name : List ℕ) (o : Option Graph) → function_named u.graphs name ≡ o → results_by (option_map callee_of o) ≡ length (network u (number_or_zero o)).results
  named-wide name None e = sym no-graph
  named-wide name (Some f) e =
      let x = got_contained u.graphs f (found-in (λ g. bytes_eq (out-Graph g).name name) u.graphs f e).0 in
      sym (results-long u ready (record { graph = f; home = Function x.0 }) (function-place u ready x.0 f x.1))

  literal-wide : (o : Option (List ℕ)) → results_by (o >>= callee_named u.graphs) ≡ length (network u (number_or_zero (o >>= λ name. function_named u.graphs name))).results
  literal-wide None = sym no-graph
  literal-wide (Some name) = named-wide name (function_named u.graphs name) refl

  pub call-wide : (g : Graph) (l : ℕ) → results_by (callee_at u.graphs g l) ≡ outputs_in u (simple_kind u g l simple.Call)
  call-wide g l = literal-wide (literal_at g l 1)

callee-by : (u : Unit1) (o : Option Graph) → number_by (option_map callee_of o) ≡ number_or_zero o
callee-by u None = refl
callee-by u (Some f) = refl

literal-callee : (u : Unit1) (o : Option (List ℕ)) → number_by (o >>= callee_named u.graphs) ≡ number_or_zero (o >>= λ name. function_named u.graphs name)
literal-callee u None = refl
literal-callee u (Some name) = callee-by u (function_named u.graphs name)

pub callee-is : (u : Unit1) (g : Graph) (l : ℕ) → number_by (callee_at u.graphs g l) ≡ callee_number u g l
callee-is u g l = literal-callee u (literal_at g l 1)

-- ---- records

fields-counted : (ms : Option (List Member)) → unwrap_or (option_map length ms) 0 ≡ outputs_by (row_of simple.RElements).gives (fields_shape ms)
fields-counted None = refl
fields-counted (Some fields) = refl

pub fields-wide : (u : Unit1) (g : Graph) (l : ℕ) (o : Outline) → o ≡ outline_of (carried u g l 1) → unwrap_or (fields_in o) 0 ≡ outputs_in u (simple_kind u g l simple.RElements)
fields-wide u g l o e =
    ap (λ x. unwrap_or (fields_in x) 0) e
    ∙ ap (λ x. unwrap_or x 0) (sym (fields_known (carried u g l 1)))
    ∙ fields-counted (fields_of (carried u g l 1))

-- ---- other nodes have as many as their row says

pub row-wide : (u : Unit1) (g : Graph) (l : ℕ) (o : Simple) → (o ≡ simple.Call → ⊥) → (o ≡ simple.RElements → ⊥) → outputs_by (row_of o).gives shape.Plain ≡ outputs_in u (simple_kind u g l o)
row-wide u g l simple.Call a b = absurd (a refl)
row-wide u g l simple.RElements a b = absurd (b refl)
row-wide u g l (simple.One one.Neg) a b = refl
row-wide u g l (simple.One one.Abs) a b = refl
row-wide u g l (simple.One one.Not) a b = refl
row-wide u g l (simple.One one.Int) a b = refl
row-wide u g l (simple.One one.Bool) a b = refl
row-wide u g l (simple.One one.Char) a b = refl
row-wide u g l (simple.One one.IsError) a b = refl
row-wide u g l (simple.Two two.Plus) a b = refl
row-wide u g l (simple.Two two.Minus) a b = refl
row-wide u g l (simple.Two two.Times) a b = refl
row-wide u g l (simple.Two two.Div) a b = refl
row-wide u g l (simple.Two two.Mod) a b = refl
row-wide u g l (simple.Two two.Max) a b = refl
row-wide u g l (simple.Two two.Min) a b = refl
row-wide u g l (simple.Two two.Equal) a b = refl
row-wide u g l (simple.Two two.NotEqual) a b = refl
row-wide u g l (simple.Two two.Less) a b = refl
row-wide u g l (simple.Two two.LessEqual) a b = refl
row-wide u g l _ a b = refl
