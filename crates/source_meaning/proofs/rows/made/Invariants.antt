use Rattle.std.proofs.Common.{◌≡◌}
use Rattle.meaning.specs.Rows.{made}
use Rattle.source_meaning.proofs.rows.made.Given as goal

abbrev pub invariant-loop-clause : goal.invariant-loop-clause
invariant-loop-clause l = l.values ≡ made l.lower l.yielded
