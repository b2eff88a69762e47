use Rattle.std.proofs.Common.{◌∙◌, ◌≤◌, All, List, ap, map, subst, sym}
use Rattle.if1_graph.specs.declared.graph.Graph.{Graph}
use Rattle.if1_graph.specs.Units.{Function, each_from, levels, most_levels, places_of}
use Rattle.may_take.specs.Looked.{AreLaid}
use Rattle.may_take.specs.Inner.{consuming_at}
use Rattle.may_take.proofs.Behind.{levels-below}
use Rattle.may_take.proofs.Laid.{all-laid}
use Rattle.may_take.proofs.inner.consuming_edges.Goals as goal

pub functions_of-requires-clause-laid : goal.functions_of-requires-clause-laid
functions_of-requires-clause-laid c = all-laid c.args.unit.now c.requires.formed c.requires.normal

pub see_parts-requires-clause-laid : goal.see_parts-requires-clause-laid
see_parts-requires-clause-laid c = subst (λ (gs : List Graph). AreLaid gs) (sym c.as_slice.ensures) (all-laid c.args.unit.now c.requires.formed c.requires.normal)

pub returns : goal.returns
returns c =
    c.in_ok-seen.ensures.consuming c.in_ok-functions.ensures.known most_levels (λ k. Function k)
    (levels-below most_levels c.as_slice.result.now (subst (All (λ g. levels g ≤ most_levels)) (sym c.as_slice.ensures) c.requires.formed.nesting))
    ∙ ap (λ gs. map (consuming_at c.args.unit.now) (each_from (λ k s. places_of most_levels (Function k) s) 0 gs)) c.as_slice.ensures
