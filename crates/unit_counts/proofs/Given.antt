-- What a simple node of a graph of a unit is given, by its row.
use Rattle.std.proofs.Common.{◌≡◌, ℕ, zero, suc, ◌≤◌, if◌then◌else◌, Bool, true, false, map, length, Option, Some, None, Contains, refl, sym, ap, ◌∙◌, subst, arith}
use Rattle.if1_graph.specs.declared.graph.Edge.{Edge}
use Rattle.if1_graph.specs.declared.graph.Graph.TheViews.{out-Graph}
use Rattle.if1_graph.specs.declared.graph.Node.{Node, out-Node}
use Rattle.if1_graph.specs.declared.graph.Unit1.{Unit1}
use Rattle.if1_graph.specs.declared.op.Compound.{Compound}
use Rattle.if1_graph.specs.declared.op.Simple.{Simple}
use Rattle.if1_graph.specs.declared.op.Simple.TheVariants as simple
use Rattle.if1_graph.specs.Ops.{compound_at, simple_at}
use Rattle.if1_graph.specs.Ready.{IsReady}
use Rattle.if1_graph.specs.Rows.{operand_of}
use Rattle.if1_graph.specs.Units.{Place, edge_into, label_of, width}
use Rattle.if1_marks.proofs.Consumed.{consumed-at}
use Rattle.if1_marks.specs.Given.{called, consumes, inside, is_call, is_call_as, is_consumed_as, is_consumed_by, is_given_to_called, is_operand_consumed}
use Rattle.graph_meaning.proofs.StorageUnits.{call-kind, plain-kind}
use Rattle.graph_meaning.specs.Demand.{EachNode, Kind, Plain, Vertex, Whole}
use Rattle.graph_meaning.specs.Forms as form
use Rattle.graph_meaning.specs.Networks.{callee_number, ins_of, kind_as, kind_of, network, shape_of, simple_kind, vertex_of}
use Rattle.graph_meaning.specs.NodeValues.{Shape}
use Rattle.graph_meaning.specs.Storage.{Storage, is_consumed_at}
use Rattle.graph_meaning.specs.StorageUnits.{carries_aggregate, storage_of, test_in}
use Rattle.unit_laws.proofs.TypedNodes.{port-filled, width-over}
use Rattle.unit_runs.proofs.PlanSharesGraphs.{IsPlaced, network-each}
use Rattle.unit_runs.proofs.Handed.{consumes-here}
use Rattle.unit_runs.proofs.OwnedParts.{sources-long}

-- It is given what its row consumes, and no edge leads to a port past its operands.
pub record IsGiven (u : Unit1) (g : ℕ) (v : Vertex) (row : Simple) : Type 0 where
  pub given : (p : ℕ) → (storage_of u).is_given g v.label p ≡ is_consumed_at row p
  pub past : (p : ℕ) → suc (length v.ins) ≤ p → (storage_of u).is_aggregate g v.label p ≡ false

abbrev pub IsGivenAs : Unit1 → (graph : ℕ) → Vertex → Type 0
IsGivenAs u g v = (row : Simple) (shape : Shape) → v.kind ≡ Plain row shape → IsGiven u g v row

module _ (u : Unit1) (ready : IsReady u) (g : ℕ) (q : Place) (x : IsPlaced u g q) (n : Node) (there : Contains (out-Graph q.graph).nodes n) where
  abbrev s : Storage
  s = storage_of u

  abbrev l : ℕ
  l = label_of n

  chosen : (b : Bool) (p : ℕ) → is_call n ≡ b
      → (if is_call n then is_given_to_called u (called u q.graph l) p else is_consumed_by u n p) ≡ (if b then is_given_to_called u (called u q.graph l) p else is_consumed_by u n p)
  chosen b p e = ap (λ b. if b then is_given_to_called u (called u q.graph l) p else is_consumed_by u n p) e

  abbrev of_row : (p : ℕ) → Option Compound → Option Simple → Bool
  of_row p c o = is_consumed_as c o (map (inside u.types) (out-Node n).subs) p

  -- what is no Call is given what it consumes as a node
  by-row : (c : Option Compound) (o : Option Simple) → compound_at (out-Node n).op ≡ c → simple_at (out-Node n).op ≡ o → is_call_as c o ≡ false → (p : ℕ) → s.is_given g l p ≡ of_row p c o
  by-row c o is_c is_o none p =
      ap (λ o. test_in o (λ h. consumes u h l p)) x.found
      ∙ (consumes-here u ready q x.there n there p
      ∙ (chosen false p (ap (λ c. is_call_as c (simple_at (out-Node n).op)) is_c ∙ (ap (is_call_as c) is_o ∙ none))
      ∙ (consumed-at u.types n p
      ∙ (ap (λ c. of_row p c (simple_at (out-Node n).op)) is_c ∙ ap (of_row p c) is_o))))

  abbrev IsByRow : Kind → Type 0
  IsByRow k = (row : Simple) (shape : Shape) → k ≡ Plain row shape → (p : ℕ) → s.is_given g l p ≡ is_consumed_at row p

  no-whole : (f : form.Form) (row : Simple) (shape : Shape) → Whole f ≡ Plain row shape → ⊥
  no-whole f row shape e = cc

  same-row : (op row : Simple) (own shape : Shape) → Plain op own ≡ Plain row shape → op ≡ row
  same-row op row own shape e = cc

  error-row : (p : ℕ) → false ≡ is_operand_consumed (operand_of simple.Error p)
  error-row zero = refl
  error-row (suc p) = refl

  by-simple : (op : Simple) → compound_at (out-Node n).op ≡ None → simple_at (out-Node n).op ≡ Some op → (b : Bool) → is_call_as None (Some op) ≡ b → IsByRow (simple_kind u q.graph l op)
  by-simple op is_c is_o true is = subst IsByRow (sym (call-kind u q.graph l op is)) (λ row shape e. absurd (no-whole (form.Call (callee_number u q.graph l)) row shape e))
  by-simple op is_c is_o false is =
      subst IsByRow (sym (plain-kind u q.graph l op is))
      (λ row shape e p. by-row None (Some op) is_c is_o is p ∙ ap (λ (z : Simple). is_consumed_at z p) (same-row op row (shape_of u q.graph l op) shape e))

  by-kind : (c : Option Compound) (o : Option Simple) → compound_at (out-Node n).op ≡ c → simple_at (out-Node n).op ≡ o → IsByRow (kind_as u q.graph n c o)
  by-kind (Some c) o is_c is_o = λ row shape e. absurd (no-whole _ row shape e)
  by-kind None (Some op) is_c is_o = by-simple op is_c is_o (is_call_as None (Some op)) refl
  by-kind None None is_c is_o = λ row shape e p. by-row None None is_c is_o refl p ∙ (error-row p ∙ ap (λ (z : Simple). is_consumed_at z p) (same-row simple.Error row _ shape e))

  no-edge : (p : ℕ) → suc (width q.graph l) ≤ p → (o : Option Edge) → edge_into q.graph l p ≡ o → carries_aggregate u o ≡ false
  no-edge p le None e = refl
  no-edge p le (Some d) e = let w = width-over q.graph l p (port-filled q.graph l p d e) in absurd (omega (arith, w, le))

  pub vertex-given : IsGivenAs u g (vertex_of u q.graph n)
  vertex-given row shape e =
      record {
        given = by-kind (compound_at (out-Node n).op) (simple_at (out-Node n).op) refl refl row shape e;
        past = λ p le.
            let long : length (ins_of u q.graph l (kind_of u q.graph n)) ≡ width q.graph l = ap (λ k. length (ins_of u q.graph l k)) e ∙ sources-long u q.graph l 1 (width q.graph l) in
            ap (λ o. test_in o (λ h. carries_aggregate u (edge_into h l p))) x.found ∙ no-edge p (omega (arith, long, le)) (edge_into q.graph l p) refl;
      }

pub nodes-given : (u : Unit1) → IsReady u → (g : ℕ) → EachNode (IsGivenAs u g) (network u g).nodes
nodes-given u ready g = network-each u g (IsGivenAs u g) (λ q x n there. vertex-given u ready g q x n there)
