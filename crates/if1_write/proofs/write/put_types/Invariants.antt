use Rattle.std.proofs.Common.{◌≡◌, ◌++◌, drop}
use Rattle.std.specs.List.{flat_map}
use Rattle.if1_write.specs.Texts.{entry_text}
use Rattle.if1_write.proofs.write.put_types.Given as goal

abbrev pub invariant-loop-entry : goal.invariant-loop-entry
invariant-loop-entry l = l.to ++ flat_map entry_text (drop l.entry-index l.types) ≡ l.initial.to ++ flat_map entry_text l.types
