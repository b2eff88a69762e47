use Rattle.std.proofs.Common.{◌≡◌, ◌+◌, ◌∙◌, ◌++◌, ◌∷◌, [], sym, ap, take, arith}
use Rattle.std.proofs.lemmas.List.{take_more}
use Rattle.if1_graph.specs.Kinds.{kind_at}
use Rattle.if1_graph.specs.Types.{most_deep}
use Rattle.if1_types.specs.Trees.{sort_tree, tree_within}
use Rattle.if1_types.specs.Shapes.{trees_in}
use Rattle.if1_types.proofs.Told.{told_more}
use Rattle.if1_types.proofs.Walked.{found_later}
use Rattle.if1_types.proofs.sorts.sort_numbers.Goals as goal

pub loop-entry-preserved : goal.loop-entry-preserved
loop-entry-preserved c =
    let is : take (c.loop-entry.entry-index + 1) c.args.types.now ≡ take c.loop-entry.entry-index c.args.types.now ++ c.entry-item.result ∷ [] =
    take_more c.args.types.now c.loop-entry.entry-index c.entry-item.result c.loop-entry-test.true
    ∙ ap (λ x. take c.loop-entry.entry-index c.args.types.now ++ x ∷ []) (sym c.entry-item.is) in
    record {
      told =
          told_more (trees_in c.loop-entry.shapes) (trees_in c.sort_number.new.shapes) (λ e. sort_tree (tree_within most_deep c.args.types.now) c.args.types.now e (kind_at e.code))
          c.args.types.now (take c.loop-entry.entry-index c.args.types.now) (take (c.loop-entry.entry-index + 1) c.args.types.now) c.loop-entry.sorts c.add.new.self c.entry-item.result c.in_ok-number.number
          c.in_ok-number.ensures.later c.loop-entry.invariant.told c.in_ok-number.ensures.number is c.in_ok-add.ensures.ok;
      within = omega (arith, c.loop-entry-test.true);
      grows = omega (arith, c.loop-entry.invariant.grows, c.in_ok-number.ensures.grows);
      found = found_later (trees_in c.loop-entry.shapes) (trees_in c.sort_number.new.shapes) c.args.types.now c.args.found.now c.in_ok-number.ensures.later c.loop-entry.invariant.found;
    }
