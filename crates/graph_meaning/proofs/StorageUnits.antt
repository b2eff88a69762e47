-- Copies and writes of units with marks.
use Rattle.std.proofs.Common.{◌≡◌, ◌≢◌, ℕ, zero, suc, Bool, true, false, ◌&&◌, not, map, Option, Some, None, refl, sym, ap, ◌∙◌, subst, if◌then◌else◌}
use Rattle.if1_graph.specs.declared.graph.Edge.{Edge}
use Rattle.if1_graph.specs.declared.graph.Graph.{Graph}
use Rattle.if1_graph.specs.declared.graph.Graph.TheViews.{out-Graph}
use Rattle.if1_graph.specs.declared.graph.Node.{Node, out-Node}
use Rattle.if1_graph.specs.declared.graph.Unit1.{Unit1}
use Rattle.if1_graph.specs.declared.op.Compound.{Compound}
use Rattle.if1_graph.specs.declared.op.Simple.{Simple}
use Rattle.if1_graph.specs.declared.op.Simple.TheVariants as simple
use Rattle.if1_graph.specs.Ops.{simple_at, compound_at}
use Rattle.if1_graph.specs.Rows.{operand_of}
use Rattle.if1_graph.specs.Units.{label_of, node_at, edge_into, Place}
use Rattle.if1_marks.specs.Aggregates.{is_aggregate}
use Rattle.if1_marks.specs.Given.{inside, is_operand_consumed, is_call_as, is_call, is_consumed_as, is_consumed_by, is_given_to_called, called, consumes_node, consumes}
use Rattle.if1_marks.proofs.Consumed.{consumed-at, only-call}
use Rattle.if1_marks.proofs.Taken.{sound-in-order}
use Rattle.graph_meaning.specs.Demand.{Kind, Plain, Whole}
use Rattle.graph_meaning.specs.Forms.{Form, Call}
use Rattle.graph_meaning.specs.NodeValues.{Shape}
use Rattle.graph_meaning.specs.NodeValues as shape
use Rattle.graph_meaning.specs.Networks.{shape_of, callee_number, form_of, simple_kind, kind_as, kind_of, network}
use Rattle.graph_meaning.specs.Storage.{copying, writing, capped, is_left}
use Rattle.graph_meaning.specs.StorageUnits.{carries_aggregate, takes, test_in, storage_of}
use Rattle.graph_meaning.specs.Laws.{AreUnitCopiesDefined, AreUnitCopiesOne, is_copied_by, is_copied_along, IsAt, AreUnmarkedCopied, HaveSoundUnitsOneEnd}
use Rattle.graph_meaning.proofs.Ended.{units-one-end}
use Rattle.graph_meaning.proofs.Sums.{copies-defined}
use Rattle.graph_meaning.proofs.SumsOnce.{sum-one}
use Rattle.graph_meaning.proofs.Units.{units-orderly}

pub unit-copies-defined : AreUnitCopiesDefined
unit-copies-defined u g ins c n ready sound costs =
    let both = copies-defined (storage_of u) (network u) g ins c n (units-orderly u ready (sound-in-order u sound)) costs in
    ((both.0.1, (both.0.0, both.0.2)), (both.1.1, (both.1.0, both.1.2)))

pub unit-copies-one : AreUnitCopiesOne
unit-copies-one u g ins a b = (
  λ x y. x.1.2 ∙ (ap capped (sum-one (network u) (copying (storage_of u)) g ins x.0 y.0 x.1.0 y.1.0 x.1.1 y.1.1) ∙ sym y.1.2),
  λ x y. x.1.2 ∙ (ap capped (sum-one (network u) (writing (storage_of u)) g ins x.0 y.0 x.1.0 y.1.0 x.1.1 y.1.1) ∙ sym y.1.2),
)

pub sound-one-end : HaveSoundUnitsOneEnd
sound-one-end cut u g ins limit is_cut ready sound = units-one-end cut u g ins limit is_cut ready (sound-in-order u sound)

-- ---- what is copied goes along unmarked consuming edges

-- a simple node other than a Call stands as one
pub plain-kind : (u : Unit1) (g : Graph) (l : ℕ) (op : Simple) → is_call_as None (Some op) ≡ false → simple_kind u g l op ≡ Plain op (shape_of u g l op)
plain-kind u g l simple.Call e = absurd cc
plain-kind u g l (simple.One a) e = refl
plain-kind u g l (simple.Two a) e = refl
plain-kind u g l simple.NoOp e = refl
plain-kind u g l simple.Error e = refl
plain-kind u g l simple.ABuild e = refl
plain-kind u g l simple.AFill e = refl
plain-kind u g l simple.AElement e = refl
plain-kind u g l simple.AReplace e = refl
plain-kind u g l simple.AAddH e = refl
plain-kind u g l simple.AAddL e = refl
plain-kind u g l simple.ARemH e = refl
plain-kind u g l simple.ARemL e = refl
plain-kind u g l simple.ASetL e = refl
plain-kind u g l simple.AAdjust e = refl
plain-kind u g l simple.ALimL e = refl
plain-kind u g l simple.ALimH e = refl
plain-kind u g l simple.ASize e = refl
plain-kind u g l simple.AIsEmpty e = refl
plain-kind u g l simple.ACatenate e = refl
plain-kind u g l simple.FirstValue e = refl
plain-kind u g l simple.RestValues e = refl
plain-kind u g l simple.RBuild e = refl
plain-kind u g l simple.RElements e = refl
plain-kind u g l simple.RReplace e = refl
plain-kind u g l simple.RangeGenerate e = refl
plain-kind u g l simple.AScatter e = refl
plain-kind u g l simple.AGather e = refl
plain-kind u g l simple.FinalValue e = refl
plain-kind u g l (simple.Reduce a) e = refl

pub call-kind : (u : Unit1) (g : Graph) (l : ℕ) (op : Simple) → is_call_as None (Some op) ≡ true → simple_kind u g l op ≡ Whole (Call (callee_number u g l))
call-kind u g l op e = ap (simple_kind u g l) (only-call op e)

-- tests joined in another order
another-order : (a b c : Bool) → a && (b && not c) ≡ (b && a) && not c
another-order true true c = refl
another-order true false c = refl
another-order false true c = refl
another-order false false c = refl

module _ (u : Unit1) (k : ℕ) (p : Place) (e : Edge) (at : IsAt u k p) (into : edge_into p.graph e.node e.port ≡ Some e) where
  -- what the table says of the port
  left : is_left (storage_of u) k e.node e.port ≡ is_aggregate u.types e.ty && not e.takes
  left =
      ap (λ o. test_in o (λ g. carries_aggregate u (edge_into g e.node e.port)) && not (test_in o (λ g. takes (edge_into g e.node e.port)))) at
      ∙ ap (λ o. carries_aggregate u o && not (takes o)) into

  given : (storage_of u).is_given k e.node e.port ≡ consumes u p.graph e.node e.port
  given = ap (λ o. test_in o (λ g. consumes u g e.node e.port)) at

  -- a node of this kind copies where it consumes
  abbrev Consumes : Kind → Type 0
  Consumes kind = is_copied_by (storage_of u) k e.node e.port kind ≡ is_copied_along u p.graph e

  by-whole : (form : Form) → Consumes (Whole form)
  by-whole form =
      ap (λ b. b && is_left (storage_of u) k e.node e.port) given
      ∙ (ap (λ b. consumes u p.graph e.node e.port && b) left ∙ another-order (consumes u p.graph e.node e.port) (is_aggregate u.types e.ty) e.takes)

  by-plain : (op : Simple) (shape : Shape) → is_operand_consumed (operand_of op e.port) ≡ consumes u p.graph e.node e.port → Consumes (Plain op shape)
  by-plain op shape same =
      ap (λ b. b && is_left (storage_of u) k e.node e.port) same
      ∙ (ap (λ b. consumes u p.graph e.node e.port && b) left ∙ another-order (consumes u p.graph e.node e.port) (is_aggregate u.types e.ty) e.takes)

  at-boundary : e.node ≡ 0 → is_left (storage_of u) k 0 e.port ≡ is_copied_along u p.graph e
  at-boundary z =
      ap (λ l. is_left (storage_of u) k l e.port) (sym z)
      ∙ (left ∙ another-order true (is_aggregate u.types e.ty) e.takes
      ∙ ap (λ l. (is_aggregate u.types e.ty && consumes u p.graph l e.port) && not e.takes) (sym z))

  module _ (n : Node) where
    -- by what the node is
    chosen : (b : Bool) → is_call n ≡ b → (if is_call n then is_given_to_called u (called u p.graph (label_of n)) e.port else is_consumed_by u n e.port) ≡ (if b then is_given_to_called u (called u p.graph (label_of n)) e.port else is_consumed_by u n e.port)
    chosen b h = ap (λ b. if b then is_given_to_called u (called u p.graph (label_of n)) e.port else is_consumed_by u n e.port) h

    abbrev row : Option Compound → Option Simple → Bool
    row c o = is_consumed_as c o (map (inside u.types) (out-Node n).subs) e.port

    -- what is no Call consumes by its row
    by-row : (c : Option Compound) (o : Option Simple) → compound_at (out-Node n).op ≡ c → simple_at (out-Node n).op ≡ o → is_call_as c o ≡ false → consumes u p.graph e.node e.port ≡ consumes_node u p.graph (Some n) e.port → row c o ≡ consumes u p.graph e.node e.port
    by-row c o x y none same =
        sym (same ∙ (chosen false (ap (λ c. is_call_as c (simple_at (out-Node n).op)) x ∙ (ap (is_call_as c) y ∙ none))
        ∙ (consumed-at u.types n e.port ∙ (ap (λ c. row c (simple_at (out-Node n).op)) x ∙ ap (row c) y))))

    by-kind : (c : Option Compound) (o : Option Simple) → compound_at (out-Node n).op ≡ c → simple_at (out-Node n).op ≡ o → consumes u p.graph e.node e.port ≡ consumes_node u p.graph (Some n) e.port → Consumes (kind_as u p.graph n c o)
    by-kind (Some c) o x y same = by-whole (form_of c (out-Node n).subs (out-Node n).assoc)
    by-kind None None x y same = by-plain simple.Error shape.Plain (error-row e.port ∙ by-row None None x y refl same)
      where
        error-row : (port : ℕ) → is_operand_consumed (operand_of simple.Error port) ≡ false
        error-row zero = refl
        error-row (suc k) = refl
    by-kind None (Some op) x y same = go (is_call_as None (Some op)) refl
      where
        go : (b : Bool) → is_call_as None (Some op) ≡ b → Consumes (simple_kind u p.graph (label_of n) op)
        go true h = subst Consumes (sym (call-kind u p.graph (label_of n) op h)) (by-whole (Call (callee_number u p.graph (label_of n))))
        go false h = subst Consumes (sym (plain-kind u p.graph (label_of n) op h)) (by-plain op (shape_of u p.graph (label_of n) op) (by-row None (Some op) x y h same))

    at-node : e.node ≢ 0 → node_at (out-Graph p.graph).nodes e.node ≡ Some n → Consumes (kind_of u p.graph n)
    at-node ne found = by-kind (compound_at (out-Node n).op) (simple_at (out-Node n).op) refl refl (node-consumes e.node ne found)
      where
        node-consumes : (l : ℕ) → l ≢ 0 → node_at (out-Graph p.graph).nodes l ≡ Some n → consumes u p.graph l e.port ≡ consumes_node u p.graph (Some n) e.port
        node-consumes zero ne found = absurd (ne refl)
        node-consumes (suc l) ne found = ap (λ o. consumes_node u p.graph o e.port) found

pub unmarked-copied : AreUnmarkedCopied
unmarked-copied u k p e at into = record { at_node = λ n ne found. at-node u k p e at into n ne found; at_boundary = at-boundary u k p e at into }
