-- What a depth of calls and turns adds, every greater one adds.
use Rattle.std.proofs.Common.{◌≡◌, ℕ, zero, suc, ◌+◌, ◌≤◌, Bool, true, List, ◌∷◌, arith}
use Rattle.graph_meaning.specs.Carried.{Carried}
use Rattle.graph_meaning.specs.Forms.{Form, Next, Stage, Enter, next_of, first, follow, gather}
use Rattle.graph_meaning.specs.Demand.{Kind, Vertex, Network}
use Rattle.graph_meaning.specs.Plain.{is_deeper, CarryAll}
use Rattle.graph_meaning.specs.Storage.{Weights, NodesAdd, no_node, a_node, InnerAdds, of_simple, of_whole, LaterAdds, of_leaving, of_graph, of_deeper, of_iterations, RowsAdd, of_no_row, of_row, GraphAdds, of_nodes}
use Rattle.graph_meaning.specs.Laws.{IsSumStable}
use Rattle.graph_meaning.proofs.PlainDepths.{all-on, outputs-on, rows-on}

module _ (u : Network) (w : Weights) where
  deeper-adds : (n m : ℕ) → suc n ≤ m → (form : Form) (ks : List Carried) (t : Bool) (g : ℕ) (ins : List Carried) (stage : Stage) (ms : List Carried) (c d : ℕ) → is_deeper form t ≡ true
      → ((k : ℕ) → n ≤ k → CarryAll u k g ins (u g).results ms) → ((k : ℕ) → n ≤ k → GraphAdds u w k g ins c) → ((k : ℕ) → n ≤ k → LaterAdds u w k form ks (follow form ks stage ms) d)
      → LaterAdds u w m form ks (Enter t g ins stage) (c + d)
  deeper-adds n zero le form ks t g ins stage ms c d p a b e = absurd (omega (arith, le))
  deeper-adds n (suc k) le form ks t g ins stage ms c d p a b e = of_deeper k form ks t g ins stage ms c d p (a k (omega (arith, le))) (b k (omega (arith, le))) (e k (omega (arith, le)))

  mutual
    nodes-add-on : (n g : ℕ) (ins : List Carried) (vs : List Vertex) (c : ℕ) → NodesAdd u w n g ins vs c → (m : ℕ) → n ≤ m → NodesAdd u w m g ins vs c
    nodes-add-on _ _ _ _ _ (no_node n g ins) m le = no_node m g ins
    nodes-add-on _ _ _ _ _ (a_node n g ins v vs ks rs c d a b e f) m le =
        a_node m g ins v vs ks rs c d (all-on u n g ins v.ins ks a m le) (outputs-on u n v.kind ks rs b m le) (inner-adds-on n v.kind ks c e m le) (nodes-add-on n g ins vs d f m le)

    inner-adds-on : (n : ℕ) (kind : Kind) (ks : List Carried) (c : ℕ) → InnerAdds u w n kind ks c → (m : ℕ) → n ≤ m → InnerAdds u w m kind ks c
    inner-adds-on _ _ _ _ (of_simple n row shape ks) m le = of_simple m row shape ks
    inner-adds-on _ _ _ _ (of_whole n form ks c a) m le = of_whole m form ks c (later-adds-on n form ks (next_of (first form ks)) c a m le)

    later-adds-on : (n : ℕ) (form : Form) (ks : List Carried) (next : Next) (c : ℕ) → LaterAdds u w n form ks next c → (m : ℕ) → n ≤ m → LaterAdds u w m form ks next c
    later-adds-on _ _ _ _ _ (of_leaving n form ks rs) m le = of_leaving m form ks rs
    later-adds-on _ _ _ _ _ (of_graph n form ks t g ins stage ms c d p a b e) m le =
        of_graph m form ks t g ins stage ms c d p (all-on u n g ins (u g).results ms a m le) (graph-adds-on n g ins c b m le) (later-adds-on n form ks (follow form ks stage ms) d e m le)
    later-adds-on _ _ _ _ _ (of_deeper n form ks t g ins stage ms c d p a b e) m le =
        deeper-adds n m le form ks t g ins stage ms c d p (all-on u n g ins (u g).results ms a) (graph-adds-on n g ins c b) (later-adds-on n form ks (follow form ks stage ms) d e)
    later-adds-on _ _ _ _ _ (of_iterations n form ks g row rows ms lists c d a b e) m le =
        of_iterations m form ks g row rows ms lists c d (rows-on u n g (row ∷ rows) lists a m le) (rows-add-on n g (row ∷ rows) c b m le) (later-adds-on n form ks (gather form ks ms lists) d e m le)

    rows-add-on : (n g : ℕ) (rows : List (List Carried)) (c : ℕ) → RowsAdd u w n g rows c → (m : ℕ) → n ≤ m → RowsAdd u w m g rows c
    rows-add-on _ _ _ _ (of_no_row n g) m le = of_no_row m g
    rows-add-on _ _ _ _ (of_row n g ins rows c d a b) m le = of_row m g ins rows c d (graph-adds-on n g ins c a m le) (rows-add-on n g rows d b m le)

    graph-adds-on : (n g : ℕ) (ins : List Carried) (c : ℕ) → GraphAdds u w n g ins c → (m : ℕ) → n ≤ m → GraphAdds u w m g ins c
    graph-adds-on _ _ _ _ (of_nodes n g ins rs c a b) m le = of_nodes m g ins rs c (all-on u n g ins (u g).results rs a m le) (nodes-add-on n g ins (u g).nodes c b m le)

pub sum-stable : IsSumStable
sum-stable u w g ins s n m le a = graph-adds-on u w n g ins s a m le
