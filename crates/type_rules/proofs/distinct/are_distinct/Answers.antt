use Rattle.std.proofs.Common.{◌≡◌, ◌<◌, ◌+◌, ◌-◌, length, refl, sym, ◌∙◌, arith}
use Rattle.type_rules.proofs.Twice.{seen_more, distinct_more, twice}
use Rattle.type_rules.proofs.distinct.are_distinct.Goals as goal

pub returns-then-not-is_new : goal.returns-then-not-is_new
returns-then-not-is_new c =
    let within : c.loop-at.at - 1 < length c.args.numbers.now = omega (arith, c.loop-at.invariant.within, c.loop-at-test.true) in
    let next : (c.loop-at.at - 1) + 1 ≡ c.loop-at.at = omega (arith, c.loop-at-test.true) in
    sym (twice c.args.numbers.now c.loop-at.behind.keys (c.loop-at.at - 1) c.loop-at.at _ _ within refl next c.loop-at.invariant.seen (sym c.in_ok-is_new.ensures.is_new ∙ c.if-not-is_new.true))

pub loop-at-preserved : goal.loop-at-preserved
loop-at-preserved c =
    let within : c.loop-at.at - 1 < length c.args.numbers.now = omega (arith, c.loop-at.invariant.within, c.loop-at-test.true) in
    let next : (c.loop-at.at - 1) + 1 ≡ c.loop-at.at = omega (arith, c.loop-at-test.true) in
    record {
      within = omega (arith, within);
      seen = seen_more c.args.numbers.now c.loop-at.behind.keys c.put.new.seen.keys (c.loop-at.at - 1) c.loop-at.at _ _ within refl next c.loop-at.invariant.seen (sym c.in_ok-is_new.ensures.is_new ∙ c.if-not-is_new.false) c.in_ok-is_new.ensures.keys;
      whole = distinct_more c.args.numbers.now c.loop-at.behind.keys (c.loop-at.at - 1) c.loop-at.at _ _ within refl next c.loop-at.invariant.seen c.loop-at.invariant.whole (sym c.in_ok-is_new.ensures.is_new ∙ c.if-not-is_new.false);
    }
