use Rattle.std.proofs.Common.{drop, length, ◌-◌}
use Rattle.unit_types.proofs.Lists.{if_ok_weaker}
use Rattle.unit_types.proofs.Faults.{faults_weaker}
use Rattle.unit_types.proofs.Reading.{range_few, type_accepted, range_denotes, range_uses, range_misnames}
use Rattle.unit_types.proofs.written.type_of.Goals as goal

pub read-requires-clause-accepted : goal.read-requires-clause-accepted
read-requires-clause-accepted c = type_accepted c.args.tokens.now c.args.written (record { ordered = c.requires.ordered; within = c.requires.within; spelled = c.requires.spelled })

pub read-requires-clause-few : goal.read-requires-clause-few
read-requires-clause-few c = range_few c.args.tokens.now c.args.written.from c.args.written.to c.end_of-to.ensures.small

pub returns-clause-used : goal.returns-clause-used
returns-clause-used c = if_ok_weaker c.read.result
    (λ k r. range_uses (drop (length c.args.named.now - c.args.known) c.args.named.now) c.args.types.now c.read.new.types c.args.tokens.now c.args.written.from c.args.written.to k r)
    c.read.ensures.reads

pub returns-clause-there : goal.returns-clause-there
returns-clause-there c = if_ok_weaker c.read.result (λ k r. r.there) c.read.ensures.reads

pub returns-clause-denotes : goal.returns-clause-denotes
returns-clause-denotes c = if_ok_weaker c.read.result
    (λ k r. range_denotes (drop (length c.args.named.now - c.args.known) c.args.named.now) c.args.types.now c.read.new.types c.args.tokens.now c.args.written.from c.args.written.to k r)
    c.read.ensures.reads

pub returns-clause-misnames : goal.returns-clause-misnames
returns-clause-misnames c = faults_weaker c.read.result
    (λ rule line r. range_misnames (drop (length c.args.named.now - c.args.known) c.args.named.now) c.args.types.now c.args.tokens.now c.args.written.from c.args.written.to rule line r)
    c.read.ensures.fault
