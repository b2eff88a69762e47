-- Edges that lead from lower labels to higher ones.
use Rattle.std.specs.Prelude.{◌≢◌, ℕ, ◌<◌, List, All}
use Rattle.if1_graph.specs.declared.graph.Edge.{Edge}
use Rattle.if1_graph.specs.Cycles.{IsFrom}

-- where it leads from a node to a node, the label of the latter is greater
abbrev pub LeadsOn : Edge → Type 0
LeadsOn e = (l : ℕ) → IsFrom l e.from → e.node ≢ 0 → l < e.node

abbrev pub AllLeadOn : List Edge → Type 0
AllLeadOn es = All LeadsOn es
