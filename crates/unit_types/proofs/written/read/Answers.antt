use Rattle.std.proofs.Common.{sym, subst, drop, length, ◌-◌, ◌^◌, arith}
use Rattle.unit_types.specs.declared.open.Next.TheVariants as next
use Rattle.unit_types.specs.Reached.{IsReading}
use Rattle.unit_types.proofs.Lists.{cut_at, drop_all}
use Rattle.unit_types.proofs.Faults.{passed_on}
use Rattle.unit_types.proofs.Accepting.{none_open}
use Rattle.unit_types.proofs.Reading.{reading_few, begin_reading, go_on_reading, end_reading, stop_reading, end_accepted, end_there, next_accepted}
use Rattle.unit_types.proofs.written.read.Goals as goal

pub loop-token-init : goal.loop-token-init
loop-token-init c =
    subst (λ os. IsReading (drop (length c.args.named.now - c.args.known) c.args.named.now) c.args.types.now c.args.types.now c.args.tokens.now 0 next.Type os) (sym c.new-stack.ensures)
    (begin_reading (drop (length c.args.named.now - c.args.known) c.args.named.now) c.args.types.now c.args.tokens.now)

pub step-requires-clause-goes : goal.step-requires-clause-goes
step-requires-clause-goes c = next_accepted (drop (length c.args.named.now - c.args.known) c.args.named.now) c.args.types.now c.loop-token.types c.args.tokens.now c.loop-token.token-index
    c.loop-token.next c.loop-token.stack c.token-item.result (cut_at c.args.tokens.now c.loop-token.token-index c.token-item.result c.loop-token-test.true c.token-item.is)
    c.loop-token.invariant c.requires.accepted

pub step-requires-clause-few : goal.step-requires-clause-few
step-requires-clause-few c = reading_few (drop (length c.args.named.now - c.args.known) c.args.named.now) c.args.types.now c.loop-token.types c.args.tokens.now c.loop-token.token-index (2 ^ 32)
    c.loop-token.next c.loop-token.stack c.loop-token.invariant c.loop-token-test.true c.requires.few

pub loop-token-preserved : goal.loop-token-preserved
loop-token-preserved c = go_on_reading (drop (length c.args.named.now - c.args.known) c.args.named.now) c.args.types.now c.loop-token.types c.step.new.types c.args.tokens.now c.loop-token.token-index
    c.loop-token.next c.in_ok-next.next c.loop-token.stack c.step.new.stack c.token-item.result (cut_at c.args.tokens.now c.loop-token.token-index c.token-item.result c.loop-token-test.true c.token-item.is)
    c.loop-token.invariant c.in_ok-next.ensures.leads

pub number_of-requires : goal.number_of-requires
number_of-requires c = (end_accepted (drop (length c.args.named.now - c.args.known) c.args.named.now) c.args.types.now c.loop-token.types c.args.tokens.now c.loop-token.token-index
    c.loop-token.next c.loop-token.stack c.loop-token.invariant (drop_all c.args.tokens.now c.loop-token.token-index (omega arith)) c.requires.accepted).0

pub returns-clause-reads : goal.returns-clause-reads
returns-clause-reads c =
    let known = drop (length c.args.named.now - c.args.known) c.args.named.now in
    let l = c.loop-token in
    let all = drop_all c.args.tokens.now l.token-index (omega arith) in
    let ends = end_accepted known c.args.types.now l.types c.args.tokens.now l.token-index l.next l.stack l.invariant all c.requires.accepted in
    end_reading known c.args.types.now l.types c.args.tokens.now l.token-index c.number_of.result l.next l.stack l.invariant all c.number_of.ensures (none_open l.stack ends.1)
    (end_there known c.args.types.now l.types c.args.tokens.now l.token-index c.number_of.result l.next l.stack l.invariant c.holds-2.ensures c.number_of.ensures)

pub returns-in_err-next-clause-fault : goal.returns-in_err-next-clause-fault
returns-in_err-next-clause-fault c = passed_on c.from_residual.result c.in_err-next.field-0.0 c.from_residual.ensures.1
    (λ rule line r. stop_reading (drop (length c.args.named.now - c.args.known) c.args.named.now) c.args.types.now c.loop-token.types c.args.tokens.now c.loop-token.token-index
    c.loop-token.next c.loop-token.stack c.token-item.result rule line
    (cut_at c.args.tokens.now c.loop-token.token-index c.token-item.result c.loop-token-test.true c.token-item.is) c.holds.ensures c.loop-token.invariant r)
    c.in_err-next.ensures.refuses
