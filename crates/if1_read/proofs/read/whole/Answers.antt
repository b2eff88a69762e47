use Rattle.std.proofs.Common.{refl, sym, subst, ◌∙◌, arith}
use Rattle.if1_read.specs.Known.{IsTableSound}
use Rattle.if1_read.specs.Whole.{IsRefused, fault, unclosed, no_memory}
use Rattle.if1_read.proofs.Levelwise.{all_named, no_some, none_open, some_open}
use Rattle.if1_read.proofs.Refused.{given_up}
use Rattle.if1_read.proofs.read.whole.Goals as goal

pub returns-in_err-graphs-clause-fault : goal.returns-in_err-graphs-clause-fault
returns-in_err-graphs-clause-fault c =
    given_up (λ e. IsTableSound c.args.known.table → IsRefused c.args.known c.args.machine e) c.from_residual.result c.from_residual.ensures.1 (λ _. no_memory)

pub returns-in_err-first-clause-fault : goal.returns-in_err-first-clause-fault
returns-in_err-first-clause-fault c =
    given_up (λ e. IsTableSound c.args.known.table → IsRefused c.args.known c.args.machine e) c.from_residual-in_err-first.result c.from_residual-in_err-first.ensures.1 (λ _. no_memory)

pub number_parts-requires : goal.number_parts-requires
number_parts-requires c =
    let clean = c.in_ok-first.ensures.clean (no_some c.in_ok-first.first c.in_default.not-Some) in
    let outer = c.args.machine.outer in
    let closed = none_open outer.items outer.len c.is_empty-is_closed.result outer.ok.0 c.is_empty-is_closed.ensures c.if-not-is_closed.false in
    omega (arith, c.requires.room (c.in_ok-graphs.ensures.clean clean) closed c.in_ok-graphs.graphs (c.in_ok-graphs.ensures.ends clean c.requires.sound))

pub returns-in-Some-clause-fault : goal.returns-in-Some-clause-fault
returns-in-Some-clause-fault c = λ sound.
    let named = all_named c.args.known c.args.machine c.in_ok-graphs.first c.in_ok-first.first (c.in_ok-graphs.ensures.found sound) (c.in_ok-first.ensures.found sound) in
    subst (IsRefused c.args.known c.args.machine) (sym c.refusal.ensures) (fault c.in-Some.fault (named ∙ c.in-Some.is))

pub returns-then-not-is_closed-clause-fault : goal.returns-then-not-is_closed-clause-fault
returns-then-not-is_closed-clause-fault c = λ sound.
    let named = all_named c.args.known c.args.machine c.in_ok-graphs.first c.in_ok-first.first (c.in_ok-graphs.ensures.found sound) (c.in_ok-first.ensures.found sound) in
    let outer = c.args.machine.outer in
    unclosed (named ∙ no_some c.in_ok-first.first c.in_default.not-Some)
    (some_open outer.items outer.len c.is_empty-is_closed.result outer.ok.0 c.is_empty-is_closed.ensures c.if-not-is_closed.true)

pub returns-clause-read : goal.returns-clause-read
returns-clause-read c = λ sound.
    let outer = c.args.machine.outer in
    let clean = c.in_ok-first.ensures.clean (no_some c.in_ok-first.first c.in_default.not-Some) in
    record {
      clean = c.in_ok-graphs.ensures.clean clean;
      closed = none_open outer.items outer.len c.is_empty-is_closed.result outer.ok.0 c.is_empty-is_closed.ensures c.if-not-is_closed.false;
      types = refl;
      imports = refl;
      read = c.in_ok-graphs.graphs;
      ends = c.in_ok-graphs.ensures.ends clean sound;
      like = c.number_parts.ensures.like;
      counted = c.number_parts.ensures.counted;
    }
