use Rattle.std.proofs.Common.{◌≡◌, ◌-◌, drop, length}
use Rattle.if1_graph.specs.LineParts.{parts_of}
use Rattle.std.specs.List.{list_all}
use Rattle.if1_graph.specs.Pragmas.{is_pragma}
use Rattle.if1_graph.proofs.pragma.has_pragmas_only.Given as goal

abbrev pub invariant-loop-part : goal.invariant-loop-part
invariant-loop-part l = list_all is_pragma (parts_of (drop l.fn.from l.line)) ≡ list_all is_pragma (parts_of (drop l.at l.line))

abbrev pub decreases-loop-part : goal.decreases-loop-part
decreases-loop-part l = length l.line - l.at
