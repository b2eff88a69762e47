use Rattle.std.proofs.Common.{◌≡◌, ◌≤◌, ◌++◌, drop, length}
use Rattle.if1_graph.specs.Spelling.{after_commas}
use Rattle.if1_graph.proofs.write.put_after_commas.Given as goal

abbrev pub invariant-loop-i : goal.invariant-loop-i
invariant-loop-i l = record {
  within : l.i ≤ length l.ns;
  rest_to_come : l.to ++ after_commas (drop l.i l.ns) ≡ l.initial.to ++ after_commas (drop l.initial.i l.ns);
}
