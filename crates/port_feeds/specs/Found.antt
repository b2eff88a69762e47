-- The edge that is found at a port.
use Rattle.std.specs.Prelude.{ℕ, ◌==◌, ◌&&◌, ◌||◌, not, Bool, nat_lt, List, find, Option, Some, None, if◌then◌else◌}
use Rattle.if1_graph.specs.declared.graph.Edge.{Edge}

-- it leads to this port of this node
abbrev pub leads_to : (node port : ℕ) → Edge → Bool
leads_to l port e = (e.node == l) && (e.port == port)

abbrev pub if_leading : (node port : ℕ) → Edge → Option Edge
if_leading l port e = if leads_to l port e then Some e else None

abbrev pub edge_found : List Edge → (node port : ℕ) → Option Edge
edge_found es l port = find (leads_to l port) es

-- it stands before the edges to this port, in an order where the boundary, 0, is last
abbrev pub stands_before : (node port : ℕ) → Edge → Bool
stands_before l port e = if e.node == l then nat_lt e.port port else not (e.node == 0) && ((l == 0) || nat_lt e.node l)
