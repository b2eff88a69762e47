use Rattle.std.proofs.Common.{◌≡◌, ℕ, List, length, sym, subst}
use Rattle.if1_graph.specs.declared.graph.Edge.{Edge}
use Rattle.if1_graph.specs.declared.graph.Graph.TheViews.{out-Graph}
use Rattle.if1_graph.specs.declared.graph.Node.{Node}
use Rattle.take_marks.specs.declared.why.Why.{Why}
use Rattle.take_marks.specs.Applied.{AreTaken, AreNodesListed}
use Rattle.take_marks.proofs.Marking.{marked-is}
use Rattle.take_marks.proofs.apply.with_marks.Goals as goal

taken : (old all : List Edge) (whys notes : List Why) (now new : List Edge) → old ≡ all → whys ≡ notes → new ≡ now → AreTaken old whys (length old) now → AreTaken all notes (length all) new
taken old all whys notes now new e f h t =
    subst (AreTaken all notes (length all)) (sym h) (subst (λ ws. AreTaken all ws (length all) now) f (subst (λ es. AreTaken es whys (length es) now) e t))

listed : (old all : List Node) (lists : List (List ℕ)) (now new : List Node) → old ≡ all → new ≡ now → AreNodesListed old lists 0 now → AreNodesListed all lists 0 new
listed old all lists now new e h t = subst (AreNodesListed all lists 0) (sym h) (subst (λ ns. AreNodesListed ns lists 0 now) e t)

pub returns : goal.returns
returns c = λ may ok made.
    marked-is c.args.graph may ok c.requires.shape c.args.marks.befores.items made.lists c.args.marks.whys c.from_vec-2.result c.from_vec.result made.answers
    (taken c.into_vec-edges.result.items (out-Graph c.args.graph).edges c.as_slice.result.now c.args.marks.whys c.set_takes.new.edges.items c.from_vec-2.result c.into_vec-edges.ensures c.as_slice.ensures c.from_vec-2.ensures c.set_takes.ensures)
    (listed c.into_vec-nodes.result.items (out-Graph c.args.graph).nodes c.args.marks.befores.items c.set_lists.new.nodes.items c.from_vec.result c.into_vec-nodes.ensures c.from_vec.ensures c.set_lists.ensures)
