use Rattle.std.proofs.Common.{◌≡◌, ◌++◌, drop}
use Rattle.code_maker.proofs.draft.add_collects.Given as goal

abbrev pub invariant-loop-collect : goal.invariant-loop-collect
invariant-loop-collect l = l.list ++ drop l.collect-index l.collects ≡ l.initial.list ++ l.collects
