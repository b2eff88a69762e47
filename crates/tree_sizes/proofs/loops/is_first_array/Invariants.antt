use Rattle.std.proofs.Common.{◌≡◌, map, drop}
use Rattle.lowered_sizes.specs.Forms.{first_array, types_of, phrase_sized}
use Rattle.tree_sizes.proofs.loops.is_first_array.Given as goal

-- the expressions that are left decide
abbrev pub invariant-loop-e : goal.invariant-loop-e
invariant-loop-e l = first_array l.types (types_of (map (phrase_sized l.types) (drop l.e-index l.parts))) ≡ first_array l.types (types_of (map (phrase_sized l.types) l.parts))
