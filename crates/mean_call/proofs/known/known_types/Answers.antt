use Rattle.std.proofs.Common.{◌≡◌, ◌∙◌, [], ◌∷◌, ◌++◌, Some, slice_get, ap, rules}
use Rattle.mean_call.specs.Known.{is_known_form}
use Rattle.mean_call.proofs.ToldTypes.{known_next}
use Rattle.mean_call.proofs.known.known_types.Goals as goal

pub loop-place-preserved : goal.loop-place-preserved
loop-place-preserved c =
    let here : slice_get c.args.types.now c.loop-place.place ≡ Some c.in-Some.form.now = search rules in
    let told = c.is_form-here.ensures ∙ ap (λ k. is_known_form c.args.names k c.in-Some.form.now) c.as_slice.ensures in
    known_next c.args.names c.loop-place.known c.add.new.self c.args.types.now c.loop-place.place c.in-Some.form.now here
    (c.in_ok-add.ensures.ok ∙ ap (λ b. c.loop-place.known ++ b ∷ []) told) ∙ c.loop-place.invariant
