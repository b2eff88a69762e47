use Rattle.std.proofs.Common.{◌≡◌, ◌++◌, drop}
use Rattle.typed_tree.specs.Typing.{names_of}
use Rattle.unit_types.proofs.header.add_names.Given as goal

-- the names so far and those that are left are all
abbrev pub invariant-loop-one : goal.invariant-loop-one
invariant-loop-one l = l.names ++ names_of (drop l.one-index l.named) ≡ l.fn.names ++ names_of l.named
