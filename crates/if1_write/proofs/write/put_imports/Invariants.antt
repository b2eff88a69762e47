use Rattle.std.proofs.Common.{◌≡◌, ◌++◌, drop}
use Rattle.std.specs.List.{flat_map}
use Rattle.if1_write.specs.Texts.{import_text}
use Rattle.if1_write.proofs.write.put_imports.Given as goal

abbrev pub invariant-loop-import : goal.invariant-loop-import
invariant-loop-import l = l.to ++ flat_map import_text (drop l.import-index l.imports) ≡ l.initial.to ++ flat_map import_text l.imports
