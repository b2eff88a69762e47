use Rattle.std.proofs.Common.{◌≡◌, ◌∙◌, ◌+◌, Some, None, map, drop, sym, ap}
use Rattle.std.specs.Prelude.{slice_get}
use Rattle.std.specs.Option.{option_copied}
use Rattle.lowered_sizes.specs.Forms.{phrase_sized, types_of}
use Rattle.tree_sizes.proofs.Told.{first_or, first-step}
use Rattle.tree_sizes.proofs.loops.is_first_array.Goals as goal

pub returns-in-Some : goal.returns-in-Some
returns-in-Some c =
    let forms = c.args.types.now in
    let es = c.args.parts.now in
    let i = c.loop-e.e-index in
    let e = c.e-item.result in
    let found : slice_get e.types 0 ≡ Some c.in-Some.ty.now = ap (λ ts. slice_get ts 0) (sym c.as_slice.ensures) ∙ sym c.item_at.ensures ∙ ap option_copied c.in-Some.is in
    c.is_array.ensures ∙ sym (ap (first_or forms (types_of (map (phrase_sized forms) (drop (i + 1) es)))) found) ∙ sym (first-step forms es i e c.loop-e-test.true c.e-item.is) ∙ c.loop-e.invariant

pub loop-e-preserved : goal.loop-e-preserved
loop-e-preserved c =
    let forms = c.args.types.now in
    let es = c.args.parts.now in
    let i = c.loop-e.e-index in
    let e = c.e-item.result in
    let found : slice_get e.types 0 ≡ None = ap (λ ts. slice_get ts 0) (sym c.as_slice.ensures) ∙ sym c.item_at.ensures ∙ ap option_copied c.in_default.is in
    sym (ap (first_or forms (types_of (map (phrase_sized forms) (drop (i + 1) es)))) found) ∙ sym (first-step forms es i e c.loop-e-test.true c.e-item.is) ∙ c.loop-e.invariant
