use Rattle.std.proofs.Common.{◌≡◌, ◌≢◌, slice_index, subst}
use Rattle.if1_components.proofs.Painted.{paints-one, paints-same}
use Rattle.if1_components.proofs.colors.paint.Goals as goal

pub returns-then-as_slice-place : goal.returns-then-as_slice-place
returns-then-as_slice-place c =
    paints-same c.args.from c.args.to c.args.colors.now c.args.met.now c.args.place
    (subst (λ xs. slice_index xs c.args.place ≢ c.args.from) c.as_slice.ensures c.if-as_slice-place.true)

pub returns : goal.returns
returns c =
    paints-one c.args.from c.args.to c.args.colors.now c.args.met.now c.set.new.self c.add.new.self c.args.place c.requires.place c.requires.apart
    (subst (λ xs. slice_index xs c.args.place ≡ c.args.from) c.as_slice.ensures c.if-as_slice-place.false) c.set.ensures c.in_ok-add.ensures.ok
