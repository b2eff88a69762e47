-- The order of the taker, in each graph that a run enters.
use Rattle.std.specs.Prelude.{◌≡◌, ◌≢◌, ℕ, true, List, Contains}
use Rattle.if1_graph.specs.declared.graph.Edge.{Edge}
use Rattle.if1_graph.specs.declared.graph.Graph.TheViews.{out-Graph}
use Rattle.if1_graph.specs.declared.graph.Unit1.{Unit1}
use Rattle.if1_graph.specs.Ready.{IsReady}
use Rattle.if1_graph.specs.Units.{Place, places, number_of}
use Rattle.if1_marks.specs.Sound.{IsSound}
use Rattle.graph_meaning.specs.Carried.{Carried}
use Rattle.graph_meaning.specs.Entered.{Node}
use Rattle.graph_meaning.specs.Demand.{Network, Cut, IsCut, AreOrderly, WaitsFor, at_label}
use Rattle.graph_meaning.specs.Histories.{History, Legal, Claimable, is_made}
use Rattle.graph_meaning.specs.Networks.{network}
use Rattle.graph_meaning.specs.Laws.{run_of}
use Rattle.run_states.specs.Standing.{Path, plug}
use Rattle.run_states.specs.Phases.{last_of}
use Rattle.run_states.specs.Paths.{LeadsTo}

-- the last item of this node of the graph at a path is made
abbrev pub IsFinishedAt : History → Network → Path → (graph label : ℕ) → Type 0
IsFinishedAt h u p k l = is_made h (plug p (last_of (at_label (u k).nodes l) l)) ≡ true

-- Where the own item of a node of the graph at a path may be claimed, every node of that graph for which it waits along data
-- edges and ordering lists, itself or by others, has its last item made.
abbrev pub AreUsersFinishedInside : Type 0
AreUsersFinishedInside = (cut : Cut) (u : Network) (g : ℕ) (ins : List Carried) (limit : ℕ) (h : History) → IsCut cut → AreOrderly u → Legal (run_of cut u g ins) limit h
    → (p : Path) (k : ℕ) (is : List Carried)
    → LeadsTo u g ins p k is
    → (taker user : ℕ)
    → Claimable (run_of cut u g ins) h (plug p (Node taker))
    → WaitsFor (u k).nodes taker user
    → IsFinishedAt h u p k user

-- So where the taker of a port may be claimed, in whatever graph a ready unit with sound marks has entered, every other node with
-- an edge from the port has its last item made.
abbrev pub AreTakersLastInside : Type 0
AreTakersLastInside = (cut : Cut) (u : Unit1) (g : ℕ) (ins : List Carried) (limit : ℕ) (h : History) → IsCut cut → IsReady u → IsSound u → Legal (run_of cut (network u) g ins) limit h
    → (q : Path) (p : Place) (is : List Carried)
    → Contains (places u) p
    → LeadsTo (network u) g ins q (number_of p) is
    → (e f : Edge)
    → Contains (out-Graph p.graph).edges e
    → Contains (out-Graph p.graph).edges f
    → e.takes ≡ true
    → f.from ≡ e.from
    → f ≢ e
    → e.node ≢ 0
    → Claimable (run_of cut (network u) g ins) h (plug q (Node e.node))
    → IsFinishedAt h (network u) q (number_of p) f.node
