use Rattle.std.proofs.Common.{◌≡◌, drop, nat_lt}
use Rattle.std.specs.List.{list_all}
use Rattle.value_ops.proofs.records.are_fields.Given as goal

abbrev pub invariant-loop-place : goal.invariant-loop-place
invariant-loop-place l =
    list_all (λ p. nat_lt p l.count) l.places ≡ list_all (λ p. nat_lt p l.count) (drop l.place-index l.places)
