use Rattle.std.proofs.Common.{◌≡◌, ◌≢◌, ◌∙◌, ◌+◌, ◌<◌, take, slice_index, refl, sym, subst}
use Rattle.if1_components.specs.Colors.{IsCleared}
use Rattle.if1_components.proofs.Painted.{cleared-start, cleared-one, cleared-none, cleared-all}
use Rattle.if1_components.proofs.colors.clear.Goals.{then-as_slice-place, else-as_slice-place}
use Rattle.if1_components.proofs.colors.clear.Goals as goal

pub loop-place-init : goal.loop-place-init
loop-place-init c = cleared-start c.args.places.now c.args.from c.args.to c.args.colors.now

pub loop-place-preserved : goal.loop-place-preserved
loop-place-preserved c =
    let n = c.loop-place.place-index in
    let place = slice_index c.args.places.now n in
    let inside = subst (λ k. place < k) (sym c.loop-place.invariant.fit) (c.requires.places n 0 c.loop-place-test.true) in
    elim c.if-as_slice-place.branch [
      | then-as_slice-place w ↦
          subst (IsCleared (take (n + 1) c.args.places.now) c.args.from c.args.to c.args.colors.now) (sym (w.colors-is ∙ w.set.ensures))
          (cleared-one c.args.places.now n c.args.from c.args.to place c.args.colors.now c.loop-place.colors c.loop-place-test.true refl inside c.requires.apart c.loop-place.invariant
          (subst (λ xs. slice_index xs place ≡ c.args.from) c.as_slice.ensures w.if-as_slice-place.true))
      | else-as_slice-place w ↦
          subst (IsCleared (take (n + 1) c.args.places.now) c.args.from c.args.to c.args.colors.now) (sym w.colors-is)
          (cleared-none c.args.places.now n c.args.from c.args.to place c.args.colors.now c.loop-place.colors c.loop-place-test.true refl c.loop-place.invariant
          (subst (λ xs. slice_index xs place ≢ c.args.from) c.as_slice.ensures w.if-as_slice-place.false))
    ]

pub returns : goal.returns
returns c = cleared-all c.args.places.now c.loop-place.place-index c.args.from c.args.to c.args.colors.now c.loop-place.colors c.loop-place-test.false c.loop-place.invariant
