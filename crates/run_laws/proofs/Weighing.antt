-- Weights that are alike on a unit give the same totals.
use Rattle.std.proofs.Common.{◌≡◌, ℕ, suc, ◌+◌, List, ◌∷◌, length, refl, sym, ap, subst}
use Rattle.run_code.specs.Carried.{Carried}
use Rattle.run_code.specs.Forms.{Form, Next, next_of, first, follow, gather}
use Rattle.run_code.specs.Demand.{Source, Kind, Vertex, Network, EachNode}
use Rattle.run_code.specs.Plain.{CarryAll, no_port, port}
use Rattle.run_code.specs.Storage.{Weights, NodesAdd, no_node, a_node, InnerAdds, of_simple, of_whole, LaterAdds, of_leaving, of_graph, of_deeper, of_iterations, RowsAdd, of_no_row, of_row, GraphAdds, of_nodes}
use Rattle.run_laws.specs.Weighing.{AreAlike, GiveTheSameTotals}

as-many : (u : Network) (n g : ℕ) (ins : List Carried) (os : List Source) (cs : List Carried) → CarryAll u n g ins os cs → length cs ≡ length os
as-many u _ _ _ _ _ (no_port n g ins) = refl
as-many u _ _ _ _ _ (port n g ins o os c cs one others) = ap suc (as-many u n g ins os cs others)

module _ (u : Network) (W W' : Weights) (same : AreAlike u W W') where
  mutual
    nodes-alike : (n g : ℕ) (ins : List Carried) (vs : List Vertex) (s : ℕ) → NodesAdd u W n g ins vs s → EachNode (λ v. (ks rs : List Carried) → W.of_node g v ks rs ≡ W'.of_node g v ks rs) vs → NodesAdd u W' n g ins vs s
    nodes-alike _ _ _ _ _ (no_node n g ins) h = no_node n g ins
    nodes-alike _ _ _ _ _ (a_node n g ins v vs ks rs c d reads outs inner nodes) h =
        subst (NodesAdd u W' n g ins (v ∷ vs)) (ap (λ x. x + (c + d)) (sym (h.0 ks rs))) (a_node n g ins v vs ks rs c d reads outs (inner-alike n v.kind ks c inner) (nodes-alike n g ins vs d nodes h.1))

    inner-alike : (n : ℕ) (k : Kind) (ks : List Carried) (s : ℕ) → InnerAdds u W n k ks s → InnerAdds u W' n k ks s
    inner-alike _ _ _ _ (of_simple n row shape ks) = of_simple n row shape ks
    inner-alike _ _ _ _ (of_whole n form ks c later) = of_whole n form ks c (later-alike n form ks (next_of (first form ks)) c later)

    later-alike : (n : ℕ) (form : Form) (ks : List Carried) (next : Next) (s : ℕ) → LaterAdds u W n form ks next s → LaterAdds u W' n form ks next s
    later-alike _ _ _ _ _ (of_leaving n form ks rs) = of_leaving n form ks rs
    later-alike _ _ _ _ _ (of_graph n form ks turn g ins stage ms c d deeper reads graph later) =
        of_graph n form ks turn g ins stage ms c d deeper reads (graph-alike n g ins c graph) (later-alike n form ks (follow form ks stage ms) d later)
    later-alike _ _ _ _ _ (of_deeper n form ks turn g ins stage ms c d deeper reads graph later) =
        of_deeper n form ks turn g ins stage ms c d deeper reads (graph-alike n g ins c graph) (later-alike n form ks (follow form ks stage ms) d later)
    later-alike _ _ _ _ _ (of_iterations n form ks g row rows ms lists c d mean adds later) =
        of_iterations n form ks g row rows ms lists c d mean (rows-alike n g (row ∷ rows) c adds) (later-alike n form ks (gather form ks ms lists) d later)

    rows-alike : (n g : ℕ) (rows : List (List Carried)) (s : ℕ) → RowsAdd u W n g rows s → RowsAdd u W' n g rows s
    rows-alike _ _ _ _ (of_no_row n g) = of_no_row n g
    rows-alike _ _ _ _ (of_row n g ins rows c d graph others) = of_row n g ins rows c d (graph-alike n g ins c graph) (rows-alike n g rows d others)

    graph-alike : (n g : ℕ) (ins : List Carried) (s : ℕ) → GraphAdds u W n g ins s → GraphAdds u W' n g ins s
    graph-alike _ _ _ _ (of_nodes n g ins rs c reads nodes) =
        subst (GraphAdds u W' n g ins) (ap (λ x. x + c) (sym ((same g).1 rs (as-many u n g ins (u g).results rs reads)))) (of_nodes n g ins rs c reads (nodes-alike n g ins (u g).nodes c nodes (same g).0))

pub same-totals : GiveTheSameTotals
same-totals u W W' same d g ins s adds = graph-alike u W W' same d g ins s adds
