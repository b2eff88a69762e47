use Rattle.std.proofs.Common.{◌≡◌, ◌<◌, length, arith}
use Rattle.line_walk.proofs.Renewals.{one_same}
use Rattle.line_walk.proofs.turns.are_same.Goals as goal

pub loop-place-preserved : goal.loop-place-preserved
loop-place-preserved c =
    let xs = c.args.some.now in
    let ys = c.args.others.now in
    let i = c.loop-place.place in
    let a = c.item_of.result in
    let b = c.item_of-in-loop-place.result in
    let same : length xs ≡ length ys = search in
    let ly : i < length ys = omega (arith, c.loop-place-test.true, same) in
    one_same xs ys i a b c.loop-place-test.true ly (c.item_of.ensures a) (c.item_of-in-loop-place.ensures b) (c.is_same.ensures search) c.loop-place.invariant
