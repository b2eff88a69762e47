use Rattle.std.proofs.Common.{◌≡◌, ◌++◌, map, drop}
use Rattle.unit_types.proofs.header.add_types.Given as goal

-- the types so far, with those that are left
abbrev pub invariant-loop-one : goal.invariant-loop-one
invariant-loop-one l = l.params ++ map (λ n. l.ty) (drop l._one-index l.named) ≡ l.fn.params ++ map (λ n. l.ty) l.named
