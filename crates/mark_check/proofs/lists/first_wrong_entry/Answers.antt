use Rattle.std.proofs.Common.{◌≡◌, [], All, refl, subst}
use Rattle.if1_graph.specs.declared.graph.Graph.TheViews.{out-Graph}
use Rattle.if1_graph.specs.declared.graph.Node.{out-Node}
use Rattle.mark_check.proofs.Wrong.{none-listed}
use Rattle.mark_check.proofs.lists.first_wrong_entry.Goals as goal

pub returns-then-has_no_lists : goal.returns-then-has_no_lists
returns-then-has_no_lists c =
    none-listed c.args.graph.now (out-Graph c.args.graph.now).nodes (subst (All (λ n. (out-Node n).before ≡ [])) c.as_slice.ensures (c.if-has_no_lists.ensures.0 refl))
