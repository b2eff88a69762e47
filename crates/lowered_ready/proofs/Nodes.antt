-- Nodes of a graph of a unit by what their lowered nodes do, and the graphs inside of them.
use Rattle.std.proofs.Common.{◌≡◌, ℕ, zero, suc, ◌+◌, List, [], ◌∷◌, map, drop, length, slice_get, Some, None, refl, sym, ap, subst, ◌∙◌}
use Rattle.if1_graph.specs.declared.graph.Graph.{Graph}
use Rattle.if1_graph.specs.declared.graph.Node.{Node, out-Node}
use Rattle.if1_graph.specs.declared.op.Compound.{Compound}
use Rattle.if1_graph.specs.declared.op.Compound.TheVariants as compound
use Rattle.if1_graph.specs.declared.op.Part.{Part}
use Rattle.if1_graph.specs.declared.op.Part.TheVariants as part
use Rattle.if1_graph.specs.declared.op.Simple.{Simple}
use Rattle.if1_graph.specs.declared.op.Simple.TheVariants as simple
use Rattle.if1_graph.specs.Ops.{simple_at, compound_at}
use Rattle.if1_graph.specs.Ports as unit_ports
use Rattle.if1_graph.specs.Units.{greatest, label_of, results}
use Rattle.typed_tree.specs.declared.program.Program.{Program}
use Rattle.lowering.specs.declared.graph.Action.{Action}
use Rattle.lowering.specs.declared.graph.Action.TheVariants.{Row, Call, Whole}
use Rattle.lowering.specs.declared.graph.LoweredGraph.{LoweredGraph}
use Rattle.lowering.specs.Programs.{graph_at}
use Rattle.lowered_units.specs.Listed.{ListedNode}
use Rattle.lowered_units.specs.Units.{listed_node}
use Rattle.lowered_units.proofs.Codes.{simple-is, no-compound, compound-is, number_in}
use Rattle.lowered_units.proofs.Named.{row_of, label-is}
use Rattle.lowered_units.proofs.Nets.{op-of, assoc-of, parts-of}
use Rattle.lowered_units.proofs.OneUnit.{nil-is-no-cons, cons-is-no-nil, heads, tails}
use Rattle.lowered_ready.specs.Parts.{results_at, most_results, compound_outputs, part_inputs, part_results}
use Rattle.lowered_ready.specs.Shapes.{IsGraphOf, IsLowered}
use Rattle.lowered_ready.proofs.Reading.{AreShown, results-are}

-- ---- what a node does

pub label-of-node : (n : Node) (l : ℕ) (a : Action) → row_of n ≡ listed_node l a → label_of n ≡ l
label-of-node n l a e = sym (label-is n) ∙ (ap (λ (x : ListedNode). x.label) e ∙ by a)
  where
    by : (a : Action) → (listed_node l a).label ≡ l
    by (Row op) = refl
    by (Call f) = refl
    by (Whole c gs arms given outs) = refl

no-parts : (gs : List Graph) → map number_in gs ≡ [] → gs ≡ []
no-parts [] e = refl
no-parts (g ∷ gs) e = cons-is-no-nil (number_in g) (map number_in gs) e

-- a node of a row, or a call
pub record IsSimpleNode (n : Node) (op : Simple) : Type 0 where
  pub no_compound : compound_at (out-Node n).op ≡ None
  pub simple : simple_at (out-Node n).op ≡ Some op
  pub no_graphs : (out-Node n).subs ≡ []
  pub no_list : (out-Node n).assoc ≡ []

pub row-node : (n : Node) (l : ℕ) (op : Simple) → row_of n ≡ listed_node l (Row op) → IsSimpleNode n op
row-node n l op e =
    let x = listed_node l (Row op) in
    let code = op-of n x e in
    record {
      no_compound = ap compound_at code ∙ no-compound op;
      simple = ap simple_at code ∙ simple-is op;
      no_graphs = no-parts (out-Node n).subs (parts-of n x e);
      no_list = assoc-of n x e;
    }

pub call-node : (n : Node) (l f : ℕ) → row_of n ≡ listed_node l (Call f) → IsSimpleNode n simple.Call
call-node n l f e =
    let x = listed_node l (Call f) in
    let code = op-of n x e in
    record {
      no_compound = ap compound_at code ∙ no-compound simple.Call;
      simple = ap simple_at code ∙ simple-is simple.Call;
      no_graphs = no-parts (out-Node n).subs (parts-of n x e);
      no_list = assoc-of n x e;
    }

pub record IsWholeNode (n : Node) (c : Compound) (numbers arms : List ℕ) : Type 0 where
  pub kind : compound_at (out-Node n).op ≡ Some c
  pub parts : map number_in (out-Node n).subs ≡ numbers
  pub list : (out-Node n).assoc ≡ arms

pub whole-node : (n : Node) (l : ℕ) (c : Compound) (numbers arms : List ℕ) (given outs : ℕ) → row_of n ≡ listed_node l (Whole c numbers arms given outs) → IsWholeNode n c numbers arms
whole-node n l c numbers arms given outs e =
    let x = listed_node l (Whole c numbers arms given outs) in
    record { kind = ap compound_at (op-of n x e) ∙ compound-is c; parts = parts-of n x e; list = assoc-of n x e }

-- ---- the graphs inside

module _ (p : Program) where
  -- graphs one for one with lowered graphs
  abbrev pub AreOf : List Graph → List LoweredGraph → Type 0
  AreOf [] [] = Unit {0}
  AreOf (s ∷ ss) (d ∷ ds) = IsGraphOf p s d × AreOf ss ds
  AreOf _ _ = ⊥

  pub are-of : (ss : List Graph) → ((k : ℕ) (s : Graph) → slice_get ss k ≡ Some s → IsLowered p s) → (ds : List LoweredGraph) → map (graph_at p) (map number_in ss) ≡ map Some ds → AreOf ss ds
  are-of [] h [] e = tt
  are-of [] h (d ∷ ds) e = nil-is-no-cons (Some d) (map Some ds) e
  are-of (s ∷ ss) h [] e = cons-is-no-nil (graph_at p (number_in s)) (map (graph_at p) (map number_in ss)) e
  are-of (s ∷ ss) h (d ∷ ds) e =
      let here = h 0 s refl in (
        subst (IsGraphOf p s) (same here.0 d (sym here.1.there ∙ heads (graph_at p (number_in s)) (Some d) (map (graph_at p) (map number_in ss)) (map Some ds) e)) here.1,
        are-of ss (λ k x i. h (suc k) x i) ds (tails (graph_at p (number_in s)) (Some d) (map (graph_at p) (map number_in ss)) (map Some ds) e),
      )
    where
      same : (a b : LoweredGraph) → Some a ≡ Some b → a ≡ b
      same a b e = cc

  pub length-of : (ss : List Graph) (ds : List LoweredGraph) → AreOf ss ds → length ss ≡ length ds
  length-of [] [] h = refl
  length-of [] (d ∷ ds) h = absurd h
  length-of (s ∷ ss) [] h = absurd h
  length-of (s ∷ ss) (d ∷ ds) h = ap suc (length-of ss ds h.1)

  -- the lowered graph of the place of a graph
  pub record AtPlace (ds : List LoweredGraph) (k : ℕ) (s : Graph) : Type 0 where
    pub graph : LoweredGraph
    pub there : slice_get ds k ≡ Some graph
    pub is : IsGraphOf p s graph

  pub of-at : (ss : List Graph) (ds : List LoweredGraph) → AreOf ss ds → (k : ℕ) (s : Graph) → slice_get ss k ≡ Some s → AtPlace ds k s
  of-at [] ds h k s e = absurd cc
  of-at (x ∷ ss) [] h k s e = absurd h
  of-at (x ∷ ss) (d ∷ ds) h zero s e = record { graph = d; there = refl; is = subst (λ y. IsGraphOf p y d) (same e) h.0 }
    where
      same : Some x ≡ Some s → x ≡ s
      same e = cc
  of-at (x ∷ ss) (d ∷ ds) h (suc k) s e = let r = of-at ss ds h.1 k s e in record { graph = r.graph; there = r.there; is = r.is }

  pub of-drop : (k : ℕ) (ss : List Graph) (ds : List LoweredGraph) → AreOf ss ds → AreOf (drop k ss) (drop k ds)
  of-drop zero ss ds h = h
  of-drop (suc k) [] [] h = h
  of-drop (suc k) [] (d ∷ ds) h = absurd h
  of-drop (suc k) (s ∷ ss) [] h = absurd h
  of-drop (suc k) (s ∷ ss) (d ∷ ds) h = of-drop k ss ds h.1

  -- ---- how many results

  abbrev pub AllShown : List LoweredGraph → Type 0
  AllShown [] = Unit {0}
  AllShown (d ∷ ds) = AreShown d.results × AllShown ds

  shown-drop : (k : ℕ) (ds : List LoweredGraph) → AllShown ds → AllShown (drop k ds)
  shown-drop zero ds h = h
  shown-drop (suc k) [] h = h
  shown-drop (suc k) (d ∷ ds) h = shown-drop k ds h.1

  results-same : (ss : List Graph) (ds : List LoweredGraph) → AreOf ss ds → AllShown ds → map results ss ≡ map (λ (d : LoweredGraph). length d.results) ds
  results-same [] [] h k = refl
  results-same [] (d ∷ ds) h k = absurd h
  results-same (s ∷ ss) [] h k = absurd h
  results-same (s ∷ ss) (d ∷ ds) h k = ap (λ n. n ∷ map results ss) (results-are p s d h.0 k.0) ∙ ap (λ l. length d.results ∷ l) (results-same ss ds h.1 k.1)

  pub results-at-same : (ss : List Graph) (ds : List LoweredGraph) → AreOf ss ds → AllShown ds → (k : ℕ) → unit_ports.results_at ss k ≡ results_at ds k
  results-at-same [] [] h k i = refl
  results-at-same [] (d ∷ ds) h k i = absurd h
  results-at-same (s ∷ ss) [] h k i = absurd h
  results-at-same (s ∷ ss) (d ∷ ds) h k zero = results-are p s d h.0 k.0
  results-at-same (s ∷ ss) (d ∷ ds) h k (suc i) = results-at-same ss ds h.1 k.1 i

  most-same : (ss : List Graph) (ds : List LoweredGraph) → AreOf ss ds → AllShown ds → unit_ports.most_results ss ≡ most_results ds
  most-same ss ds h k = ap greatest (results-same ss ds h k)

  pub outputs-same : (c : Compound) (ss : List Graph) (ds : List LoweredGraph) → AreOf ss ds → AllShown ds → unit_ports.compound_outputs c ss ≡ compound_outputs c ds
  outputs-same compound.Select ss ds h k = most-same (drop 1 ss) (drop 1 ds) (of-drop 1 ss ds h) (shown-drop 1 ds k)
  outputs-same compound.TagCase ss ds h k = most-same ss ds h k
  outputs-same compound.ForAll ss ds h k = results-at-same ss ds h k 2
  outputs-same compound.LoopA ss ds h k = results-at-same ss ds h k 3
  outputs-same compound.LoopB ss ds h k = results-at-same ss ds h k 3

  pub inputs-same : (c : Compound) (x : Part) (n : ℕ) (ss : List Graph) (ds : List LoweredGraph) → AreOf ss ds → AllShown ds → unit_ports.part_inputs c x n ss ≡ part_inputs c x n ds
  inputs-same c part.Test n ss ds h k = ap (λ i. n + i) (results-at-same ss ds h k 0)
  inputs-same c part.Body n ss ds h k = ap (λ i. n + i) (results-at-same ss ds h k 0)
  inputs-same compound.ForAll part.Returns n ss ds h k = ap (λ i. n + i + unit_ports.results_at ss 1) (results-at-same ss ds h k 0) ∙ ap (λ i. n + results_at ds 0 + i) (results-at-same ss ds h k 1)
  inputs-same compound.Select part.Returns n ss ds h k = ap (λ i. n + i) (results-at-same ss ds h k 0)
  inputs-same compound.TagCase part.Returns n ss ds h k = ap (λ i. n + i) (results-at-same ss ds h k 0)
  inputs-same compound.LoopA part.Returns n ss ds h k = ap (λ i. n + i) (results-at-same ss ds h k 0)
  inputs-same compound.LoopB part.Returns n ss ds h k = ap (λ i. n + i) (results-at-same ss ds h k 0)
  inputs-same c part.Selector n ss ds h k = refl
  inputs-same c part.Alternative n ss ds h k = refl
  inputs-same c part.Arm n ss ds h k = refl
  inputs-same c part.Generator n ss ds h k = refl
  inputs-same c part.Initialization n ss ds h k = refl

  pub wanted-same : (c : Compound) (x : Part) (own : ℕ) (ss : List Graph) (ds : List LoweredGraph) → AreOf ss ds → AllShown ds → unit_ports.part_results c x ss own ≡ part_results c x ds own
  wanted-same c part.Selector own ss ds h k = refl
  wanted-same c part.Test own ss ds h k = refl
  wanted-same c part.Alternative own ss ds h k = most-same (drop 1 ss) (drop 1 ds) (of-drop 1 ss ds h) (shown-drop 1 ds k)
  wanted-same c part.Arm own ss ds h k = most-same ss ds h k
  wanted-same c part.Generator own ss ds h k = refl
  wanted-same compound.ForAll part.Body own ss ds h k = refl
  wanted-same compound.Select part.Body own ss ds h k = results-at-same ss ds h k 0
  wanted-same compound.TagCase part.Body own ss ds h k = results-at-same ss ds h k 0
  wanted-same compound.LoopA part.Body own ss ds h k = results-at-same ss ds h k 0
  wanted-same compound.LoopB part.Body own ss ds h k = results-at-same ss ds h k 0
  wanted-same c part.Initialization own ss ds h k = refl
  wanted-same c part.Returns own ss ds h k = refl
