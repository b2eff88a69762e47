use Rattle.std.proofs.Common.{◌≤◌, ◌+◌, length, take}
use Rattle.if1_graph.specs.Kinds.{kind_at}
use Rattle.if1_graph.specs.Types.{most_deep}
use Rattle.if1_types.specs.Trees.{sort_tree, tree_within}
use Rattle.if1_types.specs.Shapes.{trees_in}
use Rattle.if1_types.specs.Tables.{AreTold}
use Rattle.if1_types.specs.Finds.{AreFound}
use Rattle.if1_types.proofs.sorts.sort_numbers.Given as goal

abbrev pub invariant-loop-entry : goal.invariant-loop-entry
invariant-loop-entry l = record {
  told : AreTold (trees_in l.shapes) (λ e. sort_tree (tree_within most_deep l.types) l.types e (kind_at e.code)) (take l.entry-index l.types) l.sorts;
  within : l.entry-index ≤ length l.types;
  grows : length (trees_in l.shapes) ≤ length (trees_in l.fn.shapes) + l.entry-index;
  found : AreFound (trees_in l.shapes) l.types l.found;
}
