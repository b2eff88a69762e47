use Rattle.std.proofs.Common.{ℕ, List, length, ap, subst, arith}
use Rattle.if1_graph.specs.declared.graph.TypeEntry.{TypeEntry}
use Rattle.if1_types.specs.Numbering.{IsNumbering}
use Rattle.if1_valid.proofs.Refusals.{numbering}
use Rattle.if1_valid.proofs.check.numbered.Goals as goal

pub of-requires-clause-numbers : goal.of-requires-clause-numbers
of-requires-clause-numbers c =
    let s = c.in_ok-sorts.ensures in
    subst (λ (ts : List TypeEntry). IsNumbering ts c.in_ok-sorts.sorts) c.as_slice.ensures
    (numbering c.as_slice.result.now c.in_ok-sorts.sorts s.labels s.numbers s.stand s.once s.read s.keys)

pub sorts_of-requires-clause-few : goal.sorts_of-requires-clause-few
sorts_of-requires-clause-few c = omega (arith, ap length c.as_slice.ensures, c.requires.ready.formed.types.few)
