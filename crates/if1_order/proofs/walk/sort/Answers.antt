use Rattle.std.proofs.Common.{◌≡◌, ◌<◌, ℕ, inl, inr, Option, MatchOption, length, arith, subst}
use Rattle.std.proofs.lemmas.Bool.{cases_lt}
use Rattle.if1_order.specs.Walks.{Visits, Leads}
use Rattle.if1_order.proofs.Walks.{same_contained}
use Rattle.if1_order.proofs.walk.sort.Goals as goal

pub loop-root-preserved : goal.loop-root-preserved
loop-root-preserved c =
    let v : Visits c.args.lists.now c.loop-root.walk c.enter.new.walk c.loop-root.root =
    subst (λ (o : Option ℕ). MatchOption o (Visits c.args.lists.now c.loop-root.walk c.enter.new.walk c.loop-root.root) (λ s. (s < length c.args.lists.now) × Leads c.args.lists.now s s))
    c.in_default.is c.in_ok-place.ensures in (
      v.walk,
      v.path,
      λ t h.
          elim (cases_lt t c.loop-root.root) [
            | inl lt ↦ v.kept t (c.loop-root.invariant.2 t lt)
            | inr ge ↦ let same : c.loop-root.root ≡ t = omega arith in same_contained c.enter.new.walk.order same v.done
          ],
    )
