-- What a depth of calls and turns costs, every greater one costs.
use Rattle.std.proofs.Common.{◌≡◌, ℕ, zero, suc, ◌+◌, ◌≤◌, Bool, true, List, ◌∷◌, arith}
use Rattle.graph_meaning.specs.Carried.{Carried}
use Rattle.graph_meaning.specs.Entered.{entry_fires}
use Rattle.graph_meaning.specs.Forms.{Form, Next, Stage, Enter, next_of, first, follow, gather}
use Rattle.graph_meaning.specs.Demand.{Source, Kind, Vertex, Network}
use Rattle.graph_meaning.specs.Plain.{is_deeper, CarryAll, NodesFire, no_node, a_node, InnerFires, of_simple, of_whole, LaterFires, of_leaving, of_graph, of_deeper, of_iterations, RowsFire, of_no_row, of_row}
use Rattle.graph_meaning.specs.Laws.{IsPlainCostStable}
use Rattle.graph_meaning.proofs.PlainDepths.{all-on, rows-on}

module _ (u : Network) where
  deeper-fires : (n m : ℕ) → suc n ≤ m → (form : Form) (ks : List Carried) (t : Bool) (g : ℕ) (ins : List Carried) (stage : Stage) (ms : List Carried) (c d : ℕ) → is_deeper form t ≡ true
      → ((k : ℕ) → n ≤ k → NodesFire u k g ins (u g).nodes c) → ((k : ℕ) → n ≤ k → CarryAll u k g ins (u g).results ms) → ((k : ℕ) → n ≤ k → LaterFires u k form ks (follow form ks stage ms) d)
      → LaterFires u m form ks (Enter t g ins stage) (entry_fires t + (c + d))
  deeper-fires n zero le form ks t g ins stage ms c d p a b e = absurd (omega (arith, le))
  deeper-fires n (suc k) le form ks t g ins stage ms c d p a b e = of_deeper k form ks t g ins stage ms c d p (a k (omega (arith, le))) (b k (omega (arith, le))) (e k (omega (arith, le)))

  mutual
    nodes-fire-on : (n g : ℕ) (ins : List Carried) (vs : List Vertex) (c : ℕ) → NodesFire u n g ins vs c → (m : ℕ) → n ≤ m → NodesFire u m g ins vs c
    nodes-fire-on _ _ _ _ _ (no_node n g ins) m le = no_node m g ins
    nodes-fire-on _ _ _ _ _ (a_node n g ins v vs c d a b) m le = a_node m g ins v vs c d (inner-fires-on n g ins v.kind v.ins c a m le) (nodes-fire-on n g ins vs d b m le)

    inner-fires-on : (n g : ℕ) (ins : List Carried) (kind : Kind) (os : List Source) (c : ℕ) → InnerFires u n g ins kind os c → (m : ℕ) → n ≤ m → InnerFires u m g ins kind os c
    inner-fires-on _ _ _ _ _ _ (of_simple n g ins row shape os) m le = of_simple m g ins row shape os
    inner-fires-on _ _ _ _ _ _ (of_whole n g ins form os ks c a b) m le = of_whole m g ins form os ks c (all-on u n g ins os ks a m le) (later-fires-on n form ks (next_of (first form ks)) c b m le)

    later-fires-on : (n : ℕ) (form : Form) (ks : List Carried) (next : Next) (c : ℕ) → LaterFires u n form ks next c → (m : ℕ) → n ≤ m → LaterFires u m form ks next c
    later-fires-on _ _ _ _ _ (of_leaving n form ks rs) m le = of_leaving m form ks rs
    later-fires-on _ _ _ _ _ (of_graph n form ks t g ins stage ms c d p a b e) m le =
        of_graph m form ks t g ins stage ms c d p (nodes-fire-on n g ins (u g).nodes c a m le) (all-on u n g ins (u g).results ms b m le) (later-fires-on n form ks (follow form ks stage ms) d e m le)
    later-fires-on _ _ _ _ _ (of_deeper n form ks t g ins stage ms c d p a b e) m le =
        deeper-fires n m le form ks t g ins stage ms c d p (nodes-fire-on n g ins (u g).nodes c a) (all-on u n g ins (u g).results ms b) (later-fires-on n form ks (follow form ks stage ms) d e)
    later-fires-on _ _ _ _ _ (of_iterations n form ks g row rows ms lists c d a b e) m le =
        of_iterations m form ks g row rows ms lists c d (rows-fire-on n g (row ∷ rows) c a m le) (rows-on u n g (row ∷ rows) lists b m le) (later-fires-on n form ks (gather form ks ms lists) d e m le)

    rows-fire-on : (n g : ℕ) (rows : List (List Carried)) (c : ℕ) → RowsFire u n g rows c → (m : ℕ) → n ≤ m → RowsFire u m g rows c
    rows-fire-on _ _ _ _ (of_no_row n g) m le = of_no_row m g
    rows-fire-on _ _ _ _ (of_row n g ins rows c d a b) m le = of_row m g ins rows c d (nodes-fire-on n g ins (u g).nodes c a m le) (rows-fire-on n g rows d b m le)

pub plain-cost-stable : IsPlainCostStable
plain-cost-stable u g ins c n m le a = nodes-fire-on u n g ins (u g).nodes c a m le
