use Rattle.std.proofs.Common.{◌≡◌, map}
use Rattle.if1_types.proofs.params.types_of.Given as goal

abbrev pub invariant-loop-ty : goal.invariant-loop-ty
invariant-loop-ty l = record { so_far : l.types ≡ map (λ m. m.1) l.yielded }
