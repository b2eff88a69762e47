-- What outlines tell of a simple node is what the types on its edges tell.
use Rattle.std.proofs.Common.{◌≡◌, ℕ, List, [], ◌∷◌, ◌⊎◌, inl, inr, refl, sym, ap}
use Rattle.if1_graph.specs.declared.graph.Edge.{Edge}
use Rattle.if1_graph.specs.declared.graph.Graph.{Graph}
use Rattle.if1_graph.specs.declared.graph.Node.{Node}
use Rattle.if1_graph.specs.declared.graph.Unit1.{Unit1}
use Rattle.if1_graph.specs.declared.op.Grouping.{Grouping}
use Rattle.if1_graph.specs.declared.op.Simple.{Simple}
use Rattle.if1_graph.specs.declared.op.Simple.TheVariants as simple
use Rattle.if1_graph.specs.Ports.{edges_from}
use Rattle.if1_graph.specs.Units.{label_of}
use Rattle.graph_meaning.specs.Networks.{first_type, output_type, shape_of, stream_shape}
use Rattle.node_works.specs.Tables.{first_label, output_label, sort_by}

-- ---- what leaves a node

first-types : (u : Unit1) (es : List Edge) → sort_by u (first_label es) ≡ first_type u es
first-types u [] = refl
first-types u (e ∷ es) = refl

pub output-known : (u : Unit1) (g : Graph) (n : Node) → sort_by u (output_label g n) ≡ output_type u g (label_of n)
output-known u g n = first-types u (edges_from g (label_of n) 1)

-- what may be a stream
pub stream-row : (u : Unit1) (g : Graph) (l : ℕ) (row : Simple) → (row ≡ simple.ABuild) ⊎ ((row ≡ simple.AGather) ⊎ ((grouping : Grouping) × (row ≡ simple.Reduce grouping)))
    → stream_shape (output_type u g l) ≡ shape_of u g l row
stream-row u g l row (inl e) = ap (shape_of u g l) (sym e)
stream-row u g l row (inr (inl e)) = ap (shape_of u g l) (sym e)
stream-row u g l row (inr (inr h)) = ap (shape_of u g l) (sym h.1)
