use Rattle.std.proofs.Common.{◌^◌, refl, subst, arith}
use Rattle.unit_types.specs.Accepting.{shapes_of}
use Rattle.unit_types.specs.Rests.{AreSized}
use Rattle.unit_types.proofs.Lists.{if_ok_weaker}
use Rattle.unit_types.proofs.Faults.{faults_weaker, no_faults}
use Rattle.unit_types.proofs.Accepting.{bracket_closes}
use Rattle.unit_types.proofs.Steps.{closes_members, leads_as}
use Rattle.unit_types.proofs.Refusals.{refuses_members, refuses_at}
use Rattle.unit_types.proofs.step.after_semicolon.Goals as goal

pub close_members-requires : goal.close_members-requires
close_members-requires c =
    let few = (subst (AreSized (2 ^ 32)) c.innermost-members.ensures c.requires.few).0 in
    omega (arith, few)

pub returns-in-Sign-clause-leads : goal.returns-in-Sign-clause-leads
returns-in-Sign-clause-leads c = if_ok_weaker c.close_members.result
    (λ later m known. leads_as m.is refl c.innermost-members.ensures
    (closes_members known c.args.types.now c.close_members.new.types c.innermost-members.result c.innermost-members.new.stack c.args.token.now m.number
    (bracket_closes (shapes_of c.args.stack.now) c.args.token.now.kind c.in-Sign.field-0 c.in-Sign.is c.requires.goes) c.close_members.ensures.distinct m.there m.adds m.over))
    c.close_members.ensures.made

pub returns-in-Sign-clause-refuses : goal.returns-in-Sign-clause-refuses
returns-in-Sign-clause-refuses c = faults_weaker c.close_members.result
    (λ rule line d known. refuses_at refl c.innermost-members.ensures
    (refuses_members known c.args.types.now c.innermost-members.result c.innermost-members.new.stack c.args.token.now rule line
    (bracket_closes (shapes_of c.args.stack.now) c.args.token.now.kind c.in-Sign.field-0 c.in-Sign.is c.requires.goes) d))
    c.close_members.ensures.deep

pub returns-in_default-clause-leads : goal.returns-in_default-clause-leads
returns-in_default-clause-leads c = if_ok_weaker c.add_name.result (λ later f known. f known c.args.types.now) c.add_name.ensures.behind

pub returns-in_default-clause-refuses : goal.returns-in_default-clause-refuses
returns-in_default-clause-refuses c = no_faults _ c.add_name.result c.add_name.ensures.memory
