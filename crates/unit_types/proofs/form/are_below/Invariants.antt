use Rattle.std.proofs.Common.{◌<◌, All, map, drop}
use Rattle.unit_types.proofs.form.are_below.Given as goal

-- whether it holds of what is left decides
abbrev pub invariant-loop-member : goal.invariant-loop-member
invariant-loop-member l = All (λ t. t < l.n) (map (λ m. m.ty) (drop l.member-index l.members)) → All (λ t. t < l.n) (map (λ m. m.ty) l.members)
