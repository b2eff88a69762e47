use Rattle.std.proofs.Common.{◌≡◌, ◌++◌, drop}
use Rattle.gapped.specs.Spread.{spread}
use Rattle.gapped.proofs.gapped.spread_out.Given as goal

abbrev pub invariant-loop-place : goal.invariant-loop-place
invariant-loop-place g l = l.list ++ spread l.filler (drop l.place l.gaps) (drop l.place l.items) ≡ spread l.filler l.gaps l.items
