use Rattle.std.proofs.Common.{◌∙◌, ◌||◌, not, ◌==◌, ap, refl, slice_index}
use Rattle.std.specs.Prelude.{nat_lt}
use Rattle.take_marks.proofs.Entered.{none-entered, one-entered, last-is}
use Rattle.take_marks.proofs.order.enter.Goals as goal

pub loop-index-init : goal.loop-index-init
loop-index-init c = record { entered = none-entered c.args.users.now c.args.places.now c.args.taker c.args.weights.now c.args.lists.now.items c.args.befores.now.items; last = refl }

pub loop-index-preserved : goal.loop-index-preserved
loop-index-preserved c =
    let n = c.loop-index.index in
    record {
      entered = one-entered c.args.users.now c.args.places.now c.args.taker c.args.weights.now n c.args.lists.now.items c.args.befores.now.items c.loop-index.lists.items c.loop-index.befores.items
          c.loop-index.invariant.entered c.loop-index-test.true (slice_index c.args.places.now n) (slice_index c.args.weights.now (slice_index c.args.places.now n)) refl refl c.requires.taker
          c.is_wanted-wanted.result
          (c.is_wanted-wanted.ensures ∙ ap (λ x. not ((slice_index c.args.users.now n == x) || nat_lt (slice_index c.args.weights.now (slice_index c.args.places.now n)) (slice_index c.args.users.now n))) c.loop-index.invariant.last)
          c.enter_if.new.lists.items c.enter_if.new.befores.items c.in_ok-enter_if.ensures.lists c.in_ok-enter_if.ensures.befores;
      last = last-is c.args.users.now n;
    }
