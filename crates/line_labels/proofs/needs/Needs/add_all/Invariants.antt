use Rattle.std.proofs.Common.{◌≡◌, drop}
use Rattle.line_labels.specs.Needs.{added}
use Rattle.line_labels.proofs.needs.Needs.add_all.Given as goal

-- what is still to be added decides the whole
abbrev pub invariant-loop-one : goal.invariant-loop-one
invariant-loop-one l = added l.self (drop l.one-index l.carried) ≡ added l.fn.self l.carried
