-- The marks of the outputs of a node that hands out what an aggregate has.
use Rattle.std.specs.Prelude.{◌≡◌, ℕ, ◌++◌, Bool, List, [], map, replicate, Contains}
use Rattle.if1_graph.specs.declared.graph.Graph.{Graph}
use Rattle.if1_graph.specs.declared.graph.Graph.TheViews.{out-Graph}
use Rattle.if1_graph.specs.declared.graph.Node.{Node}
use Rattle.if1_graph.specs.declared.graph.Unit1.{Unit1}
use Rattle.if1_graph.specs.declared.op.Simple.{Simple}
use Rattle.if1_graph.specs.declared.op.Simple.TheVariants as simple
use Rattle.if1_graph.specs.Ready.{IsReady}
use Rattle.if1_graph.specs.Ports.{count_from}
use Rattle.if1_graph.specs.Units.{Place, edge_into, label_of, number_of, places}
use Rattle.graph_meaning.specs.Demand.{Plain}
use Rattle.graph_meaning.specs.Networks.{kind_of}
use Rattle.graph_meaning.specs.NodeValues.{Shape}
use Rattle.graph_meaning.specs.StorageUnits.{carries_elements, storage_of}
use Rattle.row_counts.specs.Counts.{AreOutputsTold}
use Rattle.output_marks.specs.Outputs.{hands_aggregate}

-- An element is an aggregate by the type of what has it, and each output of a record by the edges that leave it.
abbrev pub marks_of : Unit1 → Graph → (label width : ℕ) → Simple → List Bool
marks_of u g l w simple.AElement = replicate w (carries_elements u (edge_into g l 1))
marks_of u g l w simple.FirstValue = replicate w (carries_elements u (edge_into g l 1))
marks_of u g l w simple.RElements = map (hands_aggregate u.types g l) (count_from 1 w)
marks_of u g l w row = []

-- At the node of this label and row the marks from one on tell of its outputs, whatever is put behind them.
abbrev pub AreTold : Unit1 → Graph → (label width : ℕ) → Simple → (marks : List Bool) → (first : ℕ) → Type 0
AreTold u g l w row marks first =
    IsReady u → (p : Place) → Contains (places u) p → p.graph ≡ g → (n : Node) → Contains (out-Graph g).nodes n → label_of n ≡ l → (shape : Shape) → kind_of u g n ≡ Plain row shape
    → (more : List Bool) → AreOutputsTold (storage_of u) (number_of p) l (marks ++ more) w first row
