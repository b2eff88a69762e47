-- What is known of a node is what the rules say of it.
use Rattle.std.proofs.Common.{◌≡◌, ◌∙◌, ℕ, zero, suc, ◌-◌, Bool, true, false, List, map, Option, Some, None, refl, sym, ap, if◌then◌else◌}
use Rattle.if1_graph.specs.declared.graph.Edge.{Edge}
use Rattle.if1_graph.specs.declared.graph.Graph.{Graph}
use Rattle.if1_graph.specs.declared.graph.Node.{Node, out-Node}
use Rattle.if1_graph.specs.declared.graph.Unit1.{Unit1}
use Rattle.if1_graph.specs.declared.op.Compound.{Compound}
use Rattle.if1_graph.specs.declared.op.Simple.{Simple}
use Rattle.if1_graph.specs.declared.op.Simple.TheVariants as simple
use Rattle.if1_graph.specs.Formed.{function_named}
use Rattle.if1_graph.specs.Ops.{simple_at, compound_at}
use Rattle.if1_graph.specs.Ports.{literal_at, text_of}
use Rattle.if1_graph.specs.Rows.{operand_of}
use Rattle.if1_graph.specs.Tables.{◌>>=◌}
use Rattle.if1_graph.specs.Units.{label_of, edges_into}
use Rattle.if1_marks.specs.Given.{Inside, inside, is_operand_consumed, is_consumed_as, is_call_as, is_given_to_called, called, is_consumed_by, consumes_node}
use Rattle.if1_marks.proofs.Consumed.{consumed-at, only-call}
use Rattle.if1_ports.proofs.Edges.{first_into}
use Rattle.may_take.specs.declared.functions.Functions.{Functions}
use Rattle.may_take.specs.declared.uses.NodeUse.{NodeUse}
use Rattle.may_take.specs.declared.uses.NodeUse.TheVariants as how
use Rattle.may_take.specs.Uses.{is_given_at, is_consumed_inside, is_consumed, place_in, Tells}
use Rattle.may_take.specs.Looked.{named_in, callee_in, is_call_of, simple_use, IsUseAs, IsUse}
use Rattle.may_take.proofs.Labels.{given-named, given-called}

-- a Call consumes nothing by its row
row-of-call : (port : ℕ) → is_operand_consumed (operand_of simple.Call port) ≡ false
row-of-call zero = refl
row-of-call (suc zero) = refl
row-of-call (suc (suc k)) = refl

-- ---- other than by a call

module _ (f : Functions) (es : List Edge) (is : List Inside) (port : ℕ) where
  simple-inner : (o : Option Simple) → is_consumed_inside (simple_use f es o) port ≡ is_consumed_as None o is port
  simple-inner None = refl
  simple-inner (Some op) = split (is_call_of op) refl
    where
      split : (b : Bool) → is_call_of op ≡ b → is_consumed_inside (if b then how.Call (callee_in f es) else how.Simple op) port ≡ is_operand_consumed (operand_of op port)
      split true e = sym (ap (λ op. is_operand_consumed (operand_of op port)) (only-call op e) ∙ row-of-call port)
      split false e = refl

module _ (f : Functions) (g : Graph) (n : Node) (is : List Inside) where
  inner-as : (c : Option Compound) (h : NodeUse) → IsUseAs f g n is c h → (port : ℕ) → is_consumed_inside h port ≡ is_consumed_as c (simple_at (out-Node n).op) is port
  inner-as (Some c) h (a, ok, e) port = ap (λ h. is_consumed_inside h port) e ∙ ok.given port
  inner-as None h e port = ap (λ h. is_consumed_inside h port) e ∙ simple-inner f (edges_into g (label_of n)) is port (simple_at (out-Node n).op)

-- ---- calls too

literal-named : (g : Graph) (l : ℕ) → literal_at g l 1 ≡ named_in (edges_into g l)
literal-named g l = ap (λ (m : Option Edge). m >>= λ e. text_of e.from) (first_into g l)

module _ (u : Unit1) (f : Functions) (tells : Tells u f) where
  called-text : (o : Option (List ℕ)) (port : ℕ) → is_given_at f.inputs.items (o >>= place_in f) (port - 1) ≡ is_given_to_called u (o >>= λ name. function_named u.graphs name) port
  called-text None port = refl
  called-text (Some text) port =
      ap (λ k. is_given_at f.inputs.items k (port - 1)) (tells.names text)
      ∙ given-named u.types u.graphs f.inputs.items tells.inputs text (port - 1)
      ∙ given-called u (function_named u.graphs text) port

  module _ (g : Graph) (n : Node) (is : List Inside) (port : ℕ) where
    abbrev es : List Edge
    es = edges_into g (label_of n)

    abbrev by_rule : Option Compound → Option Simple → Bool
    by_rule c o = if is_call_as c o then is_given_to_called u (called u g (label_of n)) port else is_consumed_as c o is port

    call-is : is_given_at f.inputs.items (callee_in f es) (port - 1) ≡ is_given_to_called u (called u g (label_of n)) port
    call-is =
        called-text (named_in es) port
        ∙ ap (λ (o : Option (List ℕ)). is_given_to_called u (o >>= λ name. function_named u.graphs name) port) (sym (literal-named g (label_of n)))

    simple-outer : (o : Option Simple) → is_consumed f.inputs.items (simple_use f es o) port ≡ by_rule None o
    simple-outer None = refl
    simple-outer (Some op) = split (is_call_of op)
      where
        split : (b : Bool) → is_consumed f.inputs.items (if b then how.Call (callee_in f es) else how.Simple op) port ≡ (if b then is_given_to_called u (called u g (label_of n)) port else is_operand_consumed (operand_of op port))
        split true = call-is
        split false = refl

    outer-as : (c : Option Compound) (h : NodeUse) → IsUseAs f g n is c h → is_consumed f.inputs.items h port ≡ by_rule c (simple_at (out-Node n).op)
    outer-as (Some c) h (a, ok, e) = ap (λ h. is_consumed f.inputs.items h port) e ∙ ok.given port
    outer-as None h e = ap (λ h. is_consumed f.inputs.items h port) e ∙ simple-outer (simple_at (out-Node n).op)

-- ---- together

module _ (u : Unit1) (f : Functions) (g : Graph) (n : Node) (is : List Inside) (same : is ≡ map (inside u.types) (out-Node n).subs) (h : NodeUse) (known : IsUse f g n is h) where
  consumed-is : (port : ℕ) → is_consumed_by u n port ≡ is_consumed_as (compound_at (out-Node n).op) (simple_at (out-Node n).op) is port
  consumed-is port =
      consumed-at u.types n port
      ∙ ap (λ is. is_consumed_as (compound_at (out-Node n).op) (simple_at (out-Node n).op) is port) (sym same)

  pub inner-is : is_consumed_inside h ≡ is_consumed_by u n
  inner-is = λ j port. (inner-as f g n is (compound_at (out-Node n).op) h known port ∙ sym (consumed-is port)) j

  pub outer-is : Tells u f → is_consumed f.inputs.items h ≡ consumes_node u g (Some n)
  outer-is tells = λ j port.
      (outer-as u f tells g n is port (compound_at (out-Node n).op) h known
      ∙ ap (λ b. if is_call_as (compound_at (out-Node n).op) (simple_at (out-Node n).op) then is_given_to_called u (called u g (label_of n)) port else b) (sym (consumed-is port))) j
