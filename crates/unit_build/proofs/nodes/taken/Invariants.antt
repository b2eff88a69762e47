use Rattle.std.proofs.Common.{◌≡◌, take, drop}
use Rattle.unit_build.proofs.nodes.taken.Given as goal

abbrev pub invariant-loop-place : goal.invariant-loop-place
invariant-loop-place l = record {
  front : l.parts ≡ take l.place l.initial.made.items;
  rest : l.made.items ≡ drop l.place l.initial.made.items;
}
