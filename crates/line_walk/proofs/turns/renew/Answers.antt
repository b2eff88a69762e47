use Rattle.std.proofs.Common.{◌≡◌, ◌<◌, ◌+◌, ◌-◌, ◌⊎◌, inl, inr, ◌∙◌, [], List, min, length, drop, sym, ap, arith}
use Rattle.std.proofs.lemmas.List.{drop_all}
use mathlib.Core.Logic.{dite}
use native.Mathlib.Decide.{dec_le}
use Rattle.lowering.specs.declared.feed.Carried.{Carried}
use Rattle.line_types.specs.Traces.{renew, renew_one}
use Rattle.line_walk.proofs.Renewals.{no_renewal, one_renewal}
use Rattle.line_walk.proofs.turns.renew.Goals as goal

pub loop-left-init : goal.loop-left-init
loop-left-init c =
    let ds = c.args.renewed.now in
    let cs = c.args.carried.now in
    let n = c.min-left.result in
    let least : n ≡ min (length ds) (length cs) = c.min-left.ensures in
    let none : (drop n ds ≡ []) ⊎ (drop n cs ≡ []) =
    dite (dec_le (length ds) n) (λ le. inl (drop_all n ds le)) (λ gt. inr (drop_all n cs (omega (arith, least, gt)))) in
    record {
      renewed = omega (arith, least);
      carried = omega (arith, least);
      names = sym (no_renewal (drop n ds) (drop n cs) c.args.names.now none);
    }

pub loop-left-preserved : goal.loop-left-preserved
loop-left-preserved c =
    let ds = c.args.renewed.now in
    let cs = c.args.carried.now in
    let l = c.args.names.now in
    let left = c.loop-left.left - 1 in
    let h = c.loop-left.invariant in
    let next : left + 1 ≡ c.loop-left.left = omega (arith, c.loop-left-test.true) in
    let ld : left < length ds = omega (arith, c.loop-left-test.true, h.renewed) in
    let lc : left < length cs = omega (arith, c.loop-left-test.true, h.carried) in
    let d = c.place_at.result in
    let x = c.item_of.result in
    record {
      renewed = omega (arith, h.renewed);
      carried = omega (arith, h.carried);
      names =
          c.renew_one.ensures
          ∙ (ap (λ (k : List Carried). renew_one d x k) (h.names ∙ ap (λ m. renew (drop m ds) (drop m cs) l) (sym next))
          ∙ one_renewal ds cs l left d x ld lc (c.place_at.ensures d) (c.item_of.ensures x));
    }
