use Rattle.std.proofs.Common.{◌≡◌, ◌∙◌, sym, Option, Some, None, rules}
use Rattle.std.proofs.lemmas.Option.{same_Some, none-some}
use Rattle.flow_value.specs.declared.value.Val.{Val}
use Rattle.value_text.specs.Reading.{text_value}
use Rattle.value_text.proofs.Whole.{text_sound, text_complete}
use Rattle.value_text.proofs.read.read_value.Goals as goal

abbrev nothing : Option Val
nothing = None

pub returns-in-Some-clause-ok : goal.returns-in-Some-clause-ok
returns-in-Some-clause-ok c =
    let e : text_value c.args.text.now c.args.ty.now ≡ Some c.in-Some.v = search rules in
    text_sound c.args.text.now c.args.ty.now c.in-Some.v e

pub returns-in-Some-clause-only : goal.returns-in-Some-clause-only
returns-in-Some-clause-only c v h =
    let e : text_value c.args.text.now c.args.ty.now ≡ Some c.in-Some.v = search rules in
    same_Some c.in-Some.v v (sym e ∙ text_complete c.args.text.now c.args.ty.now v h)

pub returns-in-None-clause-only : goal.returns-in-None-clause-only
returns-in-None-clause-only c v h =
    let e : text_value c.args.text.now c.args.ty.now ≡ nothing = search rules in
    absurd (none-some v (sym e ∙ text_complete c.args.text.now c.args.ty.now v h))
