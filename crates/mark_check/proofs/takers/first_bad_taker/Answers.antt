use Rattle.std.proofs.Common.{subst, refl, All, ◌≡◌, false}
use Rattle.if1_graph.specs.declared.graph.Graph.TheViews.{out-Graph}
use Rattle.mark_check.proofs.Blamed.{all-untaken}
use Rattle.mark_check.proofs.takers.first_bad_taker.Goals as goal

pub returns-then-takes_nothing : goal.returns-then-takes_nothing
returns-then-takes_nothing c = λ u home flags.
    all-untaken u (record { graph = c.args.graph.now; home = home }) (out-Graph c.args.graph.now).edges (subst (All (λ e. e.takes ≡ false)) c.as_slice.ensures (c.if-takes_nothing.ensures.0 refl))
