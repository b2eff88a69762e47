use Rattle.std.proofs.Common.{[], ℕ, Option, MatchOption, subst}
use Rattle.std.proofs.lemmas.List.{take_all}
use Rattle.std.proofs.lemmas.List.Elements.{All-more}
use Rattle.if1_graph.specs.declared.graph.Graph.{Graph}
use Rattle.if1_typing.specs.declared.site.Site.TheVariants.{Function}
use Rattle.if1_typing.specs.Tables.{table_of}
use Rattle.if1_typing.specs.Sites.{Around}
use Rattle.if1_typing.specs.Inside.{function_around, AllRight, SomeWrong, FunctionsRight}
use Rattle.if1_typing.proofs.units.wrong_functions.Goals as goal

pub loop-graph-preserved : goal.loop-graph-preserved
loop-graph-preserved c =
    let t = table_of c.args.known.now in
    let g = c.graph-item.result in
    let a : Around = record { site = Function c.number.result; inputs = []; parts = [] } in
    let right : AllRight t a g = subst (λ (m : Option (ℕ × ℕ)). MatchOption m (AllRight t a g) (SomeWrong t a g)) c.in_default.is c.in_ok-at.ensures in
    All-more (λ g. AllRight t (function_around t g) g) c.args.graphs.now c.loop-graph.graph-index g c.loop-graph-test.true c.loop-graph.invariant
    (subst (λ (g : Graph). AllRight t (function_around t g) g) c.graph-item.is
    (subst (λ (n : ℕ). AllRight t (record { site = Function n; inputs = []; parts = [] }) g) c.number.ensures right))

pub returns : goal.returns
returns c =
    subst (FunctionsRight (table_of c.args.known.now)) (take_all c.loop-graph.graph-index c.args.graphs.now c.loop-graph-test.false) c.loop-graph.invariant
