use Rattle.std.proofs.Common.{◌≡◌, ◌+◌, ◌∙◌, [], ◌∷◌, ◌++◌, ap, subst, sym, length, arith}
use Rattle.std.specs.Prelude.{All}
use Rattle.std.proofs.lemmas.List.{length_push}
use Rattle.lowered_units.specs.Units.{inner_graph, inner_graphs}
use Rattle.unit_build.specs.Nesting.{listings, IsNext}
use Rattle.unit_build.specs.Readiness.{IsReadyGraph}
use Rattle.unit_build.proofs.Blocks.{all-left}
use Rattle.unit_build.proofs.Functions.{nesting-before, listed-more}
use Rattle.unit_build.proofs.maker.Maker.nested.Goals as goal

pub put_graph-requires-clause-next : goal.put_graph-requires-clause-next
put_graph-requires-clause-next c =
    let p = c.args.self.now.program.now in
    let gs = c.pop.new.self in
    let d = c.in-Some.graph in
    let made = c.loop-graph.made.items in
    let apart : c.loop-graph.graphs ≡ gs ++ d ∷ [] = c.in-Some.ensures in
    subst (λ k. IsNext p (c.args.first + k) d made) (sym c.len.ensures)
    (nesting-before p c.args.first gs c.args.graphs d made
    (ap (λ l. inner_graphs p c.args.first l ++ listings made) (sym apart) ∙ c.loop-graph.invariant.listed) c.requires.nesting)

pub loop-graph-preserved : goal.loop-graph-preserved
loop-graph-preserved c =
    let p = c.args.self.now.program.now in
    let gs = c.pop.new.self in
    let d = c.in-Some.graph in
    let made = c.loop-graph.made.items in
    let apart : c.loop-graph.graphs ≡ gs ++ d ∷ [] = c.in-Some.ensures in
    let size : length c.loop-graph.graphs ≡ length gs + 1 = ap length apart ∙ length_push gs d in
    record {
      listed = listed-more p c.args.first gs c.args.graphs d made c.put_graph.new.made.items
          (ap (λ l. inner_graphs p c.args.first l ++ listings made) (sym apart) ∙ c.loop-graph.invariant.listed)
          (c.in_ok-put_graph.ensures ∙ ap (λ k. inner_graph p (c.args.first + k) d ∷ listings made) c.len.ensures);
      few = omega (arith, c.loop-graph.invariant.few, size);
      ready = all-left (IsReadyGraph p) gs (d ∷ []) (subst (All (IsReadyGraph p)) apart c.loop-graph.invariant.ready);
    }
