-- The test of a node or boundary decides its rule.
use Rattle.std.proofs.Common.{◌≡◌, ℕ, zero, suc, true, false, ◌==◌, List, All, Option, Some, None, option_map, Decides, AllPairs, refl, sym, ap, subst, ◌∙◌, leb-true, le-leb, eqb-true}
use Rattle.std.specs.List.{list_all}
use Rattle.std.proofs.lemmas.Bool.{and_parts, and_from}
use Rattle.std.proofs.lemmas.Bool.Decides.{Decides-at, Decides-by_and}
use Rattle.if1_graph.specs.declared.graph.Graph.{Graph}
use Rattle.if1_graph.specs.declared.graph.Graph.TheViews.{out-Graph}
use Rattle.if1_graph.specs.declared.graph.Node.{Node, out-Node}
use Rattle.if1_graph.specs.declared.graph.Edge.{Edge}
use Rattle.if1_graph.specs.declared.graph.Origin.{Origin}
use Rattle.if1_graph.specs.declared.graph.Origin.TheVariants.{Port, Lit}
use Rattle.if1_graph.specs.declared.graph.Unit1.{Unit1}
use Rattle.if1_graph.specs.declared.op.Compound.{Compound}
use Rattle.if1_graph.specs.declared.op.Simple.{Simple}
use Rattle.if1_graph.specs.declared.row.Gives.{Gives}
use Rattle.if1_graph.specs.declared.row.Gives.TheVariants.{One, Pair, Results, AllFields}
use Rattle.if1_graph.specs.Ops.{simple_at, compound_at}
use Rattle.if1_graph.specs.Rows.{row_of}
use Rattle.if1_graph.specs.Units.{label_of, node_at, edges_into, ports_into, Place}
use Rattle.if1_graph.specs.Normal.{Precedes}
use Rattle.if1_graph.specs.Ports.{AreFirst, IsUpTo, IsFilledAs, IsEndFilled, IsThere, ArePortsRight, given_outputs, outputs, outputs_as, inputs, wanted_results, callee, carried}
use Rattle.if1_order.proofs.Members.{found_in}
use Rattle.if1_ports.specs.declared.around.Bounds.{Bounds}
use Rattle.if1_ports.specs.Outlines.{results_in, fields_in}
use Rattle.if1_ports.specs.Simple.{exactly}
use Rattle.if1_ports.specs.Ends.{fed_at, leaving, given_by, outputs_in, is_up_to, is_up_to_one, comes, all_come, is_filled_as, outs_in, is_end_filled, is_right}
use Rattle.if1_ports.specs.Ends as spec
use Rattle.if1_ports.proofs.Counts.{decides_first}
use Rattle.if1_ports.proofs.Edges.{ports_up}
use Rattle.if1_ports.proofs.Known.{types_by, callees_by, results_known, fields_known, carries_is, callee_is}
use Rattle.if1_ports.proofs.SimpleNodes.{simple_filled}
use Rattle.if1_ports.proofs.CompoundNodes.{compound_filled, Fits}

-- ---- outputs

gives_same : (u : Unit1) (g : Graph) (l : ℕ) (gives : Gives) → given_by (fed_at (types_by u) (callees_by u) g l) gives ≡ given_outputs u g l gives
gives_same u g l (One a) = refl
gives_same u g l (Pair a b) = refl
gives_same u g l Results = ap results_in (callee_is u g l) ∙ sym (results_known (callee u g l))
gives_same u g l AllFields = ap fields_in (carries_is u g l) ∙ sym (fields_known (carried u g l 1))

outputs_same : (u : Unit1) (g : Graph) (n : Node) (c : Option Compound) (op : Option Simple) →
    spec.outputs_as (fed_at (types_by u) (callees_by u) g (label_of n)) n c op ≡ outputs_as u g n c op
outputs_same u g n (Some c) op = refl
outputs_same u g n None (Some op) = gives_same u g (label_of n) (row_of op).gives
outputs_same u g n None None = refl

-- ---- sources

up_to : (m : Option ℕ) (port : ℕ) → Decides (is_up_to m port) (IsUpTo m port)
up_to None port = (λ h. tt, λ h. refl)
up_to (Some n) port = (λ h. leb-true port n h, λ h. le-leb port n h)

-- a node with so many outputs
abbrev HasPort : Unit1 → Graph → Option Node → ℕ → Type 0
HasPort u g m port = (n : Node) × (m ≡ Some n) × IsUpTo (outputs u g n) port

has_port : (u : Unit1) (g : Graph) (m : Option Node) (port : ℕ) →
    Decides (is_up_to_one (option_map (outputs_in (types_by u) (callees_by u) g) m) port) (HasPort u g m port)
has_port u g None port = (λ h. absurd cc, λ h. none h.0 h.1)
  where
    none : (n : Node) → ◌≡◌ {A = Option Node} None (Some n) → false ≡ true
    none n e = cc
has_port u g (Some n) port =
    let same = outputs_same u g n (compound_at (out-Node n).op) (simple_at (out-Node n).op) in
    let d = Decides-at (is_up_to (outputs_in (types_by u) (callees_by u) g n) port) (is_up_to (outputs u g n) port) (ap (λ m. is_up_to m port) same) (up_to (outputs u g n) port) in
    (λ h. (n, refl, d.0 h), λ h. d.1 (subst (λ m. IsUpTo (outputs u g m) port) (sym (this h.0 h.1)) h.2))
  where
    this : (m : Node) → Some n ≡ Some m → n ≡ m
    this m e = cc

there : (u : Unit1) (p : Place) (b : Bounds) → Fits u p b → (from : Origin) →
    Decides (comes (outs_in (types_by u) (callees_by u) p.graph) b.inputs from) (IsThere u p from)
there u p b fits (Lit text) = (λ h. tt, λ h. refl)
there u p b fits (Port zero port) = Decides-at (is_up_to b.inputs port) (is_up_to (inputs u p) port) (ap (λ m. is_up_to m port) fits.inputs) (up_to (inputs u p) port)
there u p b fits (Port (suc l) port) = has_port u p.graph (node_at (out-Graph p.graph).nodes (suc l)) port

all_there : (u : Unit1) (p : Place) (b : Bounds) → Fits u p b → (es : List Edge) →
    Decides (all_come (outs_in (types_by u) (callees_by u) p.graph) b.inputs es) (All (λ e. IsThere u p e.from) es)
all_there u p b fits es =
    Decides-by_and (λ (e : Edge). comes (outs_in (types_by u) (callees_by u) p.graph) b.inputs e.from) (λ e. IsThere u p e.from)
    (list_all (λ (e : Edge). comes (outs_in (types_by u) (callees_by u) p.graph) b.inputs e.from))
    (λ e. there u p b fits e.from) refl (λ _ _. refl) es

-- ---- ends

node_filled : (u : Unit1) (g : Graph) (n : Node) → AllPairs Precedes (out-Graph g).edges → node_at (out-Graph g).nodes (label_of n) ≡ Some n →
    (c : Option Compound) (op : Option Simple) → simple_at (out-Node n).op ≡ op →
    Decides (is_filled_as (types_by u) (fed_at (types_by u) (callees_by u) g (label_of n)) (leaving (out-Graph g).edges (label_of n)) n c op)
    (IsFilledAs u g n c op)
node_filled u g n order at (Some c) op is = compound_filled u g n c order
node_filled u g n order at None (Some op) is = simple_filled u g n op order at is
node_filled u g n order at None None is = (λ h. absurd cc, λ h. absurd h)

end_filled : (u : Unit1) (p : Place) (b : Bounds) → Fits u p b → AllPairs Precedes (out-Graph p.graph).edges → (l : ℕ) (m : Option Node) →
    node_at (out-Graph p.graph).nodes l ≡ m →
    Decides (is_end_filled (types_by u) (callees_by u) b p.graph l m) (IsEndFilled u p l m)
end_filled u p b fits order l (Some n) is =
    let same : label_of n ≡ l = eqb-true (label_of n) l (found_in (λ n. label_of n == l) (out-Graph p.graph).nodes n is).1 in
    subst
    (λ l. node_at (out-Graph p.graph).nodes l ≡ Some n → Decides (is_end_filled (types_by u) (callees_by u) b p.graph l (Some n)) (IsEndFilled u p l (Some n)))
    same (λ is. node_filled u p.graph n order is (compound_at (out-Node n).op) (simple_at (out-Node n).op) refl) is
end_filled u p b fits order zero None is =
    subst (λ k. Decides (exactly (fed_at (types_by u) (callees_by u) p.graph 0) k) (AreFirst (wanted_results u p) (ports_into p.graph 0))) (sym fits.results)
    (decides_first (ports_into p.graph 0) (wanted_results u p) (ports_up p.graph 0 order))
end_filled u p b fits order (suc l) None is = (λ h. absurd cc, λ h. absurd h)

pub decides_right : (u : Unit1) (p : Place) (b : Bounds) → Fits u p b → AllPairs Precedes (out-Graph p.graph).edges → (l : ℕ) →
    Decides (is_right (types_by u) (callees_by u) b p.graph l) (ArePortsRight u p l)
decides_right u p b fits order l =
    let m = node_at (out-Graph p.graph).nodes l in
    let x = is_end_filled (types_by u) (callees_by u) b p.graph l m in
    let y = all_come (outs_in (types_by u) (callees_by u) p.graph) b.inputs (edges_into p.graph l) in
    let dx = end_filled u p b fits order l m refl in
    let dy = all_there u p b fits (edges_into p.graph l) in (
      λ h. let both = and_parts x y h in record { filled = dx.0 both.0; sources = dy.0 both.1 },
      λ r. and_from x y (dx.1 r.filled) (dy.1 r.sources),
    )
