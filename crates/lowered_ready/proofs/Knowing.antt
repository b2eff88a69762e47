-- What is known of a node of a unit is what is known of its lowered node.
use Rattle.std.proofs.Common.{◌≡◌, ℕ, suc, ◌<◌, List, ◌∷◌, slice_get, Option, Some, refl, sym, ap, subst, ◌∙◌}
use Rattle.if1_graph.specs.declared.graph.Graph.{Graph}
use Rattle.if1_graph.specs.declared.graph.Graph.TheViews.{out-Graph}
use Rattle.if1_graph.specs.declared.graph.Node.{Node}
use Rattle.if1_graph.specs.declared.graph.Unit1.{Unit1}
use Rattle.if1_graph.specs.declared.op.Grouping.{Grouping}
use Rattle.if1_graph.specs.declared.op.Simple.TheVariants as simple
use Rattle.if1_graph.specs.Formed.{function_named}
use Rattle.if1_graph.specs.Ops.{reducer_at}
use Rattle.if1_graph.specs.Tables.{◌>>=◌}
use Rattle.if1_graph.specs.Types.{Sort, sort_at}
use Rattle.if1_graph.specs.Typing.{Known, known}
use Rattle.typed_tree.specs.declared.program.Function.{Function}
use Rattle.typed_tree.specs.declared.program.Program.{Program}
use Rattle.lowering.specs.declared.feed.Feed.TheVariants.{Named}
use Rattle.lowering.specs.declared.feed.Carried.{Carried}
use Rattle.lowering.specs.declared.feed.Carried.TheVariants.{One, Callee}
use Rattle.lowering.specs.declared.feed.Wire.{Wire}
use Rattle.lowering.specs.Feeds.{wire}
use Rattle.lowering.specs.declared.graph.Action.{Action}
use Rattle.lowering.specs.declared.graph.Action.TheVariants.{Row, Call, Whole}
use Rattle.lowering.specs.declared.graph.LoweredNode.{LoweredNode}
use Rattle.lowering.specs.declared.graph.LoweredGraph.{LoweredGraph}
use Rattle.lowering.specs.Operations.{integer}
use Rattle.lowering.specs.Programs.{graph_at}
use Rattle.lowering.specs.Types.{header_label}
use Rattle.type_table.specs.declared.form.Form.{Form}
use Rattle.lowered_units.specs.Fitting.{IsFitting}
use Rattle.lowered_units.specs.Units.{called_name, IsTranslated}
use Rattle.lowered_units.proofs.Built.{IsPlainRow, Fills, fills_row, fills_reduction, fills_call}
use Rattle.lowered_units.proofs.Programs.{functions}
use Rattle.lowered_units.proofs.Rights.{IsRightNode}
use Rattle.lowered_ready.specs.Ports.{reducer_in, IsNameKnown, IsKnown}
use Rattle.lowered_ready.specs.Shapes.{IsGraphOf}
use Rattle.lowered_ready.proofs.Ends.{IsAtNode}
use Rattle.lowered_ready.proofs.Callees.{called-graph}
use Rattle.lowered_ready.proofs.Reading.{IsGraphSorted, first_text, text_in, node-carries, node-text}

-- ---- names

-- a reduction is named at its first port
pub record IsNamed (ws : List Wire) : Type 0 where
  pub name : List ℕ
  pub others : List Wire
  pub is : ws ≡ wire (Named name) (One integer) ∷ others

pub reduction-named : (forms : List Form) (count : ℕ) (g : Grouping) (a : Action) (ws : List Wire) → Fills forms count a ws → a ≡ Row (simple.Reduce g) → IsNamed ws
reduction-named forms count g _ _ (fills_row op ws h k) e = absurd (subst IsPlainRow (same e) h)
  where
    same : Row op ≡ Row (simple.Reduce g) → op ≡ simple.Reduce g
    same e = cc
reduction-named forms count g _ _ (fills_reduction r name ws h k) e = record { name = name; others = ws; is = refl }
reduction-named forms count g _ _ (fills_call f ws h k) e = absurd cc

pub call-within : (forms : List Form) (count f : ℕ) (a : Action) (ws : List Wire) → Fills forms count a ws → a ≡ Call f → f < count
call-within forms count f _ _ (fills_row op ws h k) e = absurd cc
call-within forms count f _ _ (fills_reduction r name ws h k) e = absurd cc
call-within forms count f _ _ (fills_call x ws h k) e = subst (λ y. y < count) (same e) h
  where
    same : Call x ≡ Call f → x ≡ f
    same e = cc

pub no-call-row : (forms : List Form) (count : ℕ) (a : Action) (ws : List Wire) → Fills forms count a ws → a ≡ Row simple.Call → ⊥
no-call-row forms count _ _ (fills_row op ws h k) e = subst IsPlainRow (same e) h
  where
    same : Row op ≡ Row simple.Call → op ≡ simple.Call
    same e = cc
no-call-row forms count _ _ (fills_reduction r name ws h k) e = absurd cc
no-call-row forms count _ _ (fills_call x ws h k) e = absurd cc

-- the label of the header of each function stands for what its name carries
abbrev pub AreHeadersSorted : Program → Unit1 → (Carried → Sort) → Type 0
AreHeadersSorted p u sort = (k : ℕ) (f : Function) → slice_get p.functions k ≡ Some f → sort_at u.types (header_label p f) ≡ Some (sort (Callee k))

module _ (p : Program) (u : Unit1) (fit : IsFitting p) (t : IsTranslated p u) (sort : Carried → Sort) (headers : AreHeadersSorted p u sort) where
  abbrev callee_of : Option (List ℕ) → Option Sort
  callee_of text = text >>= λ name. function_named u.graphs name >>= λ f. sort_at u.types (out-Graph f).fun

  callee-is : (f : ℕ) → f < functions p fit → callee_of (Some (called_name p (slice_get p.functions f))) ≡ Some (sort (Callee f))
  callee-is f l =
      let c = called-graph p u fit t f l in
      ap (λ o. o >>= λ g. sort_at u.types (out-Graph g).fun) c.1.found ∙ (ap (sort_at u.types) c.1.is.fun ∙ headers f c.1.function c.1.is.there)

  reducer-is : (ws : List Wire) → IsNamed ws → ((slice_get ws 0 >>= λ w. text_in w.feed) >>= reducer_at) ≡ reducer_in ws
  reducer-is ws n = subst (λ vs. ((slice_get vs 0 >>= λ w. text_in w.feed) >>= reducer_at) ≡ reducer_in vs) (sym n.is) refl

  name-known : (k : Known) (a : Action) (ws : List Wire) → IsRightNode p.types (functions p fit) (graph_at p) a ws → k.callee ≡ callee_of (first_text p a ws) → k.reducer ≡ (first_text p a ws >>= reducer_at) → IsNameKnown sort a ws k
  name-known k (Call f) ws h c r = c ∙ callee-is f (call-within p.types (functions p fit) f (Call f) ws h refl)
  name-known k (Row (simple.Reduce g)) ws h c r = r ∙ reducer-is ws (reduction-named p.types (functions p fit) g (Row (simple.Reduce g)) ws h refl)
  name-known k (Row op) ws h c r = tt
  name-known k (Whole x gs arms given outs) ws h c r = tt

  pub node-known : (g : Graph) (d : LoweredGraph) (is : IsGraphOf p g d) → IsGraphSorted p u sort d → (i : ℕ) (n : Node) (v : LoweredNode) → IsAtNode p g d is i n v
      → IsRightNode p.types (functions p fit) (graph_at p) v.action v.ins → IsKnown sort v.action v.ins (known u g (suc i))
  node-known g d is sorts i n v s h =
      let text = node-text p g d is i n v s in
      record {
        at = node-carries p u sort g d is sorts i n v s;
        name = name-known (known u g (suc i)) v.action v.ins h (ap callee_of text) (ap (λ o. o >>= reducer_at) text);
      }
