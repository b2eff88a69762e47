use Rattle.std.proofs.Common.{◌≡◌, ◌<◌, ◌+◌, ◌-◌, ◌∙◌, List, Option, Some, min, length, get_or, set, drop, sym, ap, arith}
use Rattle.std.proofs.lemmas.List.{length-set}
use Rattle.lowering.specs.declared.feed.Carried.{Carried}
use Rattle.line_walk.specs.Met.{ports}
use Rattle.line_walk.proofs.Tables.{no_port, one_port, blank_length}
use Rattle.line_walk.proofs.ports.filled.Goals as goal

pub loop-left-init : goal.loop-left-init
loop-left-init c =
    let ps = c.args.places.now in
    let cs = c.args.carried.now in
    let least : c.min-left.result ≡ min (length ps) (length cs) = c.min-left.ensures in
    record {
      places = omega (arith, least);
      carried = omega (arith, least);
      count = ap (λ (k : List (Option Carried)). length k) c.in_ok-ports.ensures ∙ blank_length c.args.count;
      ports = c.in_ok-ports.ensures ∙ no_port c.args.count c.min-left.result ps cs least;
    }

pub loop-left-preserved : goal.loop-left-preserved
loop-left-preserved c =
    let ps = c.args.places.now in
    let cs = c.args.carried.now in
    let n = c.args.count in
    let left = c.loop-left.left - 1 in
    let h = c.loop-left.invariant in
    let next : left + 1 ≡ c.loop-left.left = omega (arith, c.loop-left-test.true) in
    let lp : left < length ps = omega (arith, c.loop-left-test.true, h.places) in
    let lc : left < length cs = omega (arith, c.loop-left-test.true, h.carried) in
    let one = c.item_of-one.result in
    record {
      places = omega (arith, h.places);
      carried = omega (arith, h.carried);
      count = ap (λ (k : List (Option Carried)). length k) c.set.ensures ∙ length-set c.loop-left.ports (get_or ps left 0) (Some one) ∙ h.count;
      ports =
          c.set.ensures
          ∙ ap (λ (k : List (Option Carried)). set k (get_or ps left 0) (Some one)) (h.ports ∙ ap (λ m. ports 0 n (drop m ps) (drop m cs)) (sym next))
          ∙ one_port n ps cs left one one lp lc (c.item_of-one.ensures one);
    }
