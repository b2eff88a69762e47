use Rattle.std.proofs.Common.{ℕ, List, length, Option, MatchOption, IfErr, sym, ap, subst, arith}
use Rattle.std.proofs.lemmas.Result.{IfErr-weaker}
use Rattle.if1_graph.specs.declared.graph.TypeEntry.{TypeEntry}
use Rattle.if1_graph.specs.Ready.{PortsHold, BreaksPorts}
use Rattle.if1_types.specs.declared.numbered.Sorts.{Sorts}
use Rattle.if1_types.specs.Numbering.{IsNumbering}
use Rattle.if1_order.proofs.Units.{ports_linked}
use Rattle.if1_valid.specs.Refused.{IsRefused}
use Rattle.if1_valid.proofs.Refusals.{numbering, given_up}
use Rattle.if1_valid.proofs.check.valid.Goals as goal

pub sorts_of-requires-clause-few : goal.sorts_of-requires-clause-few
sorts_of-requires-clause-few c = omega (arith, ap length c.as_slice.ensures, c.requires.formed.types.few)

pub wrong_ports-requires-clause-numbers : goal.wrong_ports-requires-clause-numbers
wrong_ports-requires-clause-numbers c =
    let s = c.in_ok-sorts.ensures in
    subst (λ (ts : List TypeEntry). IsNumbering ts c.in_ok-sorts.sorts) c.as_slice.ensures
    (numbering c.as_slice.result.now c.in_ok-sorts.sorts s.labels s.numbers s.stand s.once s.read s.keys)

pub known_of-requires-clause-numbers : goal.known_of-requires-clause-numbers
known_of-requires-clause-numbers c =
    let s = c.in_ok-sorts.ensures in
    subst (λ (ts : List TypeEntry). IsNumbering ts c.in_ok-sorts.sorts) (sym c.as_slice-2.ensures)
    (subst (λ (ts : List TypeEntry). IsNumbering ts c.in_ok-sorts.sorts) c.as_slice.ensures
    (numbering c.as_slice.result.now c.in_ok-sorts.sorts s.labels s.numbers s.stand s.once s.read s.keys))

pub returns-in_err-graph-2-clause-refused : goal.returns-in_err-graph-2-clause-refused
returns-in_err-graph-2-clause-refused c = given_up (IsRefused c.args.unit) c.from_residual-in_err-graph-2.result c.from_residual-in_err-graph-2.ensures.1 tt

pub of-requires-clause-numbers : goal.of-requires-clause-numbers
of-requires-clause-numbers c =
    let s = c.in_ok-sorts.ensures in
    subst (λ (k : Sorts). IsNumbering c.args.unit.types k) (sym c.in_ok-known.ensures.sorts)
    (subst (λ (ts : List TypeEntry). IsNumbering ts c.in_ok-sorts.sorts) c.as_slice.ensures
    (numbering c.as_slice.result.now c.in_ok-sorts.sorts s.labels s.numbers s.stand s.once s.read s.keys))

pub wrong_order-requires-clause-linked : goal.wrong_order-requires-clause-linked
wrong_order-requires-clause-linked c =
    ports_linked c.args.unit c.requires.normal
    (subst (λ (o : Option (ℕ × ℕ)). MatchOption o (PortsHold c.args.unit) (λ at. BreaksPorts c.args.unit at.0 at.1)) c.in_default.is c.in_ok-graph.ensures)
