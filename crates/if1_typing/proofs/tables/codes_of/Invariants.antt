use Rattle.std.proofs.Common.{◌≡◌, map, take}
use Rattle.if1_typing.proofs.tables.codes_of.Given as goal

abbrev pub invariant-loop-entry : goal.invariant-loop-entry
invariant-loop-entry l = l.codes ≡ map (λ e. e.code) (take l.entry-index l.types)
