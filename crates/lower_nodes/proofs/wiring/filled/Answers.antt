use Rattle.std.proofs.Common.{◌≡◌, ◌<◌, ◌+◌, ◌-◌, ◌∙◌, List, min, length, get_or, set, drop, sym, ap, arith}
use Rattle.std.proofs.lemmas.List.{length-set}
use Rattle.lowering.specs.declared.feed.Wire.{Wire}
use Rattle.lowering.specs.Operations.{changed}
use Rattle.lower_nodes.proofs.Lists.{nothing_changed, one_changed, absents_length}
use Rattle.lower_nodes.proofs.wiring.filled.Goals as goal

pub loop-left-init : goal.loop-left-init
loop-left-init c =
    let ps = c.args.places.now in
    let ws = c.args.wires.now in
    let least : c.min-left.result ≡ min (length ps) (length ws) = c.min-left.ensures in
    record {
      places = omega (arith, least);
      wires = omega (arith, least);
      count = ap (λ (k : List Wire). length k) c.in_ok-ports.ensures ∙ absents_length c.args.count;
      ports = c.in_ok-ports.ensures ∙ nothing_changed c.args.count c.min-left.result ps ws least;
    }

pub loop-left-preserved : goal.loop-left-preserved
loop-left-preserved c =
    let ps = c.args.places.now in
    let ws = c.args.wires.now in
    let n = c.args.count in
    let left = c.loop-left.left - 1 in
    let h = c.loop-left.invariant in
    let next : left + 1 ≡ c.loop-left.left = omega (arith, c.loop-left-test.true) in
    let lp : left < length ps = omega (arith, c.loop-left-test.true, h.places) in
    let lw : left < length ws = omega (arith, c.loop-left-test.true, h.wires) in
    record {
      places = omega (arith, h.places);
      wires = omega (arith, h.wires);
      count = ap (λ (k : List Wire). length k) c.set.ensures ∙ length-set c.loop-left.ports (get_or ps left 0) c.in_ok-w.w ∙ h.count;
      ports =
          c.set.ensures
          ∙ ap (λ (k : List Wire). set k (get_or ps left 0) c.in_ok-w.w) (h.ports ∙ ap (λ m. changed 0 n (drop m ps) (drop m ws)) (sym next))
          ∙ one_changed n ps ws left c.index-wires-left.result c.in_ok-w.w lp lw c.in_ok-w.ensures c.index-wires-left.is;
    }
