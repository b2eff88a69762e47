use Rattle.std.proofs.Common.{◌≡◌, ◌<◌, ℕ, false, length, take, get_or}
use Rattle.std.specs.Prelude.{nat_eq}
use Rattle.std.specs.List.{list_any}
use Rattle.unit_build.proofs.unit.exports.Given as goal

abbrev pub invariant-loop-place : goal.invariant-loop-place
invariant-loop-place l = record {
  count : length l.marks.items ≡ l.functions;
  marks : (k : ℕ) → k < l.functions → get_or l.marks.items k false ≡ list_any (nat_eq k) (take l.place-index l.defines);
}
