use Rattle.std.proofs.Common.{◌∷◌, ◌++◌, [], sym, subst}
use Rattle.std.specs.Prelude.{All}
use Rattle.std.proofs.lemmas.List.Elements.{All-push, All-same}
use Rattle.if1_read.specs.Spread.{IsRealAt}
use Rattle.if1_read.proofs.reals.marked_places.Goals as goal
use Rattle.if1_read.proofs.reals.marked_places.Goals.{then-marks-place+in_ok-push, else-marks-place}

pub loop-place-preserved : goal.loop-place-preserved
loop-place-preserved c = λ ts are.
    elim c.if-marks-place.branch [
      | then-marks-place+in_ok-push w ↦
          subst (λ v. All (IsRealAt ts) v.items) (sym w.places-is)
          (All-same (IsRealAt ts) w.push.new.self.items (c.loop-place.places.items ++ c.loop-place.place ∷ []) w.in_ok-push.ensures.items
          (All-push (IsRealAt ts) c.loop-place.places.items c.loop-place.place (c.loop-place.invariant ts are) (are c.loop-place.place w.if-marks-place.true)))
      | else-marks-place w ↦ subst (λ v. All (IsRealAt ts) v.items) (sym w.places-is) (c.loop-place.invariant ts are)
    ]
