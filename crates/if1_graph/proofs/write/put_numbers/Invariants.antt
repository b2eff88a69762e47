use Rattle.std.proofs.Common.{◌≡◌, ◌++◌, map, drop}
use Rattle.if1_graph.specs.Spelling.{number, after_blanks}
use Rattle.if1_graph.proofs.write.put_numbers.Given as goal

abbrev pub invariant-loop-n : goal.invariant-loop-n
invariant-loop-n l = l.to ++ after_blanks (map number (drop l.n-index l.ns)) ≡ l.initial.to ++ after_blanks (map number l.ns)
