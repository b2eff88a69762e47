use Rattle.std.proofs.Common.{◌≡◌, ◌&&◌, Bool, map, take}
use Rattle.if1_graph.specs.declared.graph.Edge.{Edge}
use Rattle.if1_graph.specs.declared.graph.Graph.TheViews.{out-Graph}
use Rattle.if1_marks.specs.Owned.{users}
use Rattle.may_take.specs.Looked.{is_asked}
use Rattle.may_take.specs.Owned.{stand_of, is_owned_at}
use Rattle.may_take.proofs.flags.flags_of.Given as goal

abbrev pub invariant-loop-index : goal.invariant-loop-index
invariant-loop-index l = (c : Edge → Bool) → l.consuming ≡ map c (out-Graph l.graph).edges → l.flags ≡ map (λ e. is_asked l.asked (c e) && is_owned_at (stand_of l.site) l.graph (users l.graph e.from) e.from) (take l.index (out-Graph l.graph).edges)
