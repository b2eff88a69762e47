use Rattle.std.proofs.Common.{◌≡◌, drop}
use Rattle.std.specs.List.{find}
use Rattle.typed_tree.specs.Entries.{has_name}
use Rattle.typed_tree.proofs.program.Program.entry.Given as goal

-- the functions that are left decide
abbrev pub invariant-loop-number : goal.invariant-loop-number
invariant-loop-number l = find (has_name l.self l.name) l.self.defines ≡ find (has_name l.self l.name) (drop l.number-index l.self.defines)
