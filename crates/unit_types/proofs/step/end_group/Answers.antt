use Rattle.std.proofs.Common.{◌≤◌, ◌^◌, length, ap, refl, sym, subst, ◌∙◌, ◌∷◌}
use Rattle.sisal_lex.specs.declared.token.Kind.TheVariants as kind
use Rattle.typed_tree.specs.Scopes.{AreDistinct}
use Rattle.unit_types.specs.declared.open.Open.TheVariants as entry
use Rattle.unit_types.specs.Faults.{IsDeep}
use Rattle.unit_types.specs.Rests.{IsMade, with_group, members_form}
use Rattle.unit_types.proofs.Lists.{if_ok_weaker, if_ok_both}
use Rattle.unit_types.proofs.Faults.{faults_weaker, no_faults, passed_on}
use Rattle.unit_types.proofs.Steps.{semicolon_leads, closes_group, group_sized, leads_as}
use Rattle.unit_types.proofs.Refusals.{refuses_twice, refuses_group}
use Rattle.unit_types.proofs.step.end_group.Goals as goal

pub close_members-requires : goal.close_members-requires
close_members-requires c =
    subst (λ m. length m.members ≤ 2 ^ 32) (sym c.in_ok-grouped.ensures.grouped) (group_sized c.args.members c.args.ty (2 ^ 32) c.requires.few)

pub returns-in-SSemicolon-clause-leads : goal.returns-in-SSemicolon-clause-leads
returns-in-SSemicolon-clause-leads c = if_ok_both c.keep_open.result
    (λ later a b known t w.
    leads_as a (b ∙ ap (λ m. entry.Members m ∷ c.args.stack.now) c.in_ok-grouped.ensures.grouped) refl
    (semicolon_leads known c.args.types.now c.args.members c.args.stack.now t c.args.ty (w ∙ ap kind.Sign c.in-SSemicolon.is)))
    c.keep_open.ensures.later c.keep_open.ensures.stack

pub returns-in-SSemicolon-clause-refuses : goal.returns-in-SSemicolon-clause-refuses
returns-in-SSemicolon-clause-refuses c = no_faults _ c.keep_open.result c.keep_open.ensures.memory

pub returns-in-SCloseBracket-clause-leads : goal.returns-in-SCloseBracket-clause-leads
returns-in-SCloseBracket-clause-leads c = if_ok_weaker c.close_members.result
    (λ later made known t w.
    let old = c.args.types.now in
    let new = c.close_members.new.types in
    let m : IsMade old new (members_form c.args.members.is_union (with_group c.args.members c.args.ty).members) later
    = subst (λ g. IsMade old new (members_form g.is_union g.members) later) c.in_ok-grouped.ensures.grouped made in
    let d : AreDistinct (with_group c.args.members c.args.ty).names = subst (λ g. AreDistinct g.names) c.in_ok-grouped.ensures.grouped c.close_members.ensures.distinct in
    leads_as m.is refl refl (closes_group known old new c.args.members c.args.stack.now t c.args.ty m.number (w ∙ ap kind.Sign c.in-SCloseBracket.is) d m.there m.adds m.over))
    c.close_members.ensures.made

pub returns-in-SCloseBracket-clause-refuses : goal.returns-in-SCloseBracket-clause-refuses
returns-in-SCloseBracket-clause-refuses c = faults_weaker c.close_members.result
    (λ rule line d known t w.
    let deep : IsDeep c.args.types.now (members_form c.args.members.is_union (with_group c.args.members c.args.ty).members) c.args.members.line rule line
    = subst (λ g. IsDeep c.args.types.now (members_form g.is_union g.members) g.line rule line) c.in_ok-grouped.ensures.grouped d in
    refuses_group known c.args.types.now c.args.members c.args.stack.now t c.args.ty rule line (w ∙ ap kind.Sign c.in-SCloseBracket.is) deep)
    c.close_members.ensures.deep

pub returns-in_err-grouped-clause-refuses : goal.returns-in_err-grouped-clause-refuses
returns-in_err-grouped-clause-refuses c = passed_on c.from_residual.result c.in_err-grouped.field-0.0 c.from_residual.ensures.1
    (λ rule line twice known t w. refuses_twice known c.args.types.now c.args.members c.args.stack.now t c.args.ty rule line twice)
    c.in_err-grouped.ensures.twice
