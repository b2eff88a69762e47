use Rattle.std.proofs.Common.{◌≡◌, ◌∙◌, sym, subst, Option, Some, None}
use Rattle.std.proofs.lemmas.Option.{same_Some, none-some}
use Rattle.flow_value.specs.declared.value.Val.{Val}
use Rattle.value_text.specs.ReadingBy.{text_value_by}
use Rattle.value_text.proofs.Whole.{text_sound, text_complete}
use Rattle.value_text.specs.Faults.{IsCause}
use Rattle.value_text.specs.declared.fault.ValueFault.TheVariants as faults
use Rattle.value_text.proofs.Alike.{text_alike_by}
use Rattle.value_text.proofs.VerdictBy.{same_fault}
use Rattle.value_text.proofs.read_by.read_value_by.Goals as goal

abbrev nothing : Option Val
nothing = None

pub returns-in-Some-clause-ok : goal.returns-in-Some-clause-ok
returns-in-Some-clause-ok g c ty h =
    let ts = g.T.NumberedTypes.seen c.args.types.now in
    let e : text_value_by c.args.text.now ts c.args.number ≡ Some c.in-Some.v = c.in_ok-v.ensures ∙ c.in-Some.is in
    text_sound c.args.text.now ty c.in-Some.v (sym (text_alike_by ts c.args.number ty c.args.text.now h) ∙ e)

pub returns-in-Some-clause-only : goal.returns-in-Some-clause-only
returns-in-Some-clause-only g c ty v h r =
    let ts = g.T.NumberedTypes.seen c.args.types.now in
    let e : text_value_by c.args.text.now ts c.args.number ≡ Some c.in-Some.v = c.in_ok-v.ensures ∙ c.in-Some.is in
    same_Some c.in-Some.v v (sym e ∙ (text_alike_by ts c.args.number ty c.args.text.now h ∙ text_complete c.args.text.now ty v r))

pub returns-in-None-clause-only : goal.returns-in-None-clause-only
returns-in-None-clause-only g c ty v h r =
    let ts = g.T.NumberedTypes.seen c.args.types.now in
    let e : text_value_by c.args.text.now ts c.args.number ≡ nothing = c.in_ok-v.ensures ∙ c.in-None.is in
    absurd (none-some v (sym e ∙ (text_alike_by ts c.args.number ty c.args.text.now h ∙ text_complete c.args.text.now ty v r)))

pub fault_of-requires : goal.fault_of-requires
fault_of-requires g c = record { unread = c.in_ok-v.ensures ∙ c.in-None.is }

pub returns-in-None-clause-bad_spelling : goal.returns-in-None-clause-bad_spelling
returns-in-None-clause-bad_spelling g c ty k h e =
    subst (IsCause c.args.text.now ty) (same_fault c.fault_of.result (faults.BadSpelling k) e) (c.fault_of.ensures ty h)

pub returns-in-None-clause-too_large : goal.returns-in-None-clause-too_large
returns-in-None-clause-too_large g c ty h e =
    subst (IsCause c.args.text.now ty) (same_fault c.fault_of.result faults.TooLarge e) (c.fault_of.ensures ty h)

pub returns-in-None-clause-wrong_shape : goal.returns-in-None-clause-wrong_shape
returns-in-None-clause-wrong_shape g c ty k h e =
    subst (IsCause c.args.text.now ty) (same_fault c.fault_of.result (faults.WrongShape k) e) (c.fault_of.ensures ty h)
