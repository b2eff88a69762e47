use Rattle.std.proofs.Common.{◌≡◌, ◌<◌, ◌^◌, ◌++◌, All, drop}
use Rattle.typing_laws.specs.Forming.{fields_of}
use Rattle.sisal_check.proofs.heads.names_of.Given as goal

-- the names so far and those that are left are all, and they are of 32 bits
abbrev pub invariant-loop-v : goal.invariant-loop-v
invariant-loop-v l = record {
  names : l.names ++ fields_of (drop l.v-index l.vs) ≡ fields_of l.vs;
  small : All (λ x. x < 2 ^ 32) l.names;
}
