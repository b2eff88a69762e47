use Rattle.std.proofs.Common.{refl, sym, subst}
use Rattle.type_table.specs.Tables.{HasFew}
use Rattle.unit_types.specs.Faults.{IsDeep}
use Rattle.unit_types.specs.Rests.{IsMade, sequence_form}
use Rattle.unit_types.proofs.Lists.{if_ok_weaker}
use Rattle.unit_types.proofs.Faults.{faults_weaker}
use Rattle.unit_types.proofs.Steps.{closes_sequence, sequence_few, leads_as}
use Rattle.unit_types.proofs.Refusals.{refuses_sequence}
use Rattle.unit_types.proofs.step.close_sequence.Goals as goal

pub made-requires : goal.made-requires
made-requires c = subst HasFew (sym c.sequence_form.ensures) (sequence_few c.args.sequence.is_stream c.args.ty)

pub returns-clause-leads : goal.returns-clause-leads
returns-clause-leads c = if_ok_weaker c.made.result
    (λ later made known os t w.
    let m : IsMade c.args.types.now c.made.new.types (sequence_form c.args.sequence.is_stream c.args.ty) later
    = subst (λ f. IsMade c.args.types.now c.made.new.types f later) c.sequence_form.ensures made in
    leads_as m.is refl refl (closes_sequence known c.args.types.now c.made.new.types c.args.sequence os t c.args.ty m.number (w) m.there m.adds m.over))
    c.made.ensures.made

pub returns-clause-refuses : goal.returns-clause-refuses
returns-clause-refuses c = faults_weaker c.made.result
    (λ rule line d known os t w.
    let deep : IsDeep c.args.types.now (sequence_form c.args.sequence.is_stream c.args.ty) c.args.sequence.line rule line
    = subst (λ f. IsDeep c.args.types.now f c.args.sequence.line rule line) c.sequence_form.ensures d in
    refuses_sequence known c.args.types.now c.args.sequence os t c.args.ty rule line (w) deep)
    c.made.ensures.deep
