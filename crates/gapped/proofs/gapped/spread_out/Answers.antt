use Rattle.std.proofs.Common.{◌≡◌, suc, ◌+◌, List, [], ◌∷◌, ◌++◌, drop, replicate, get_or, length, sym, ap, ◌∙◌, subst, arith}
use Rattle.std.proofs.lemmas.List.{append-nil, append_assoc, drop_all, drop_more}
use Rattle.gapped.specs.Spread.{spread}
use Rattle.gapped.proofs.Spreading.{spread-end, spread-more, spread-step}
use Rattle.gapped.proofs.gapped.spread_out.Goals as goal

pub loop-place-preserved : goal.loop-place-preserved
loop-place-preserved g c =
    let xs = c.args.items.now in
    let i = c.loop-place.place in
    let x = c.index-items-place.result in
    spread-step c.args.filler c.args.gaps.now xs i c.loop-place.list c.add_fillers.new.list c.add.new.self x c.gap_at.result (drop_more xs i x c.loop-place-test.true ∙ ap (λ z. z ∷ drop (i + 1) xs) (sym c.index-items-place.is))
    c.in_ok-add_fillers.ensures c.in_ok-add.ensures.ok c.gap_at.ensures c.loop-place.invariant

pub returns : goal.returns
returns g c = spread-end c.args.filler c.args.gaps.now c.args.items.now c.loop-place.place c.loop-place.list c.loop-place-test.false c.loop-place.invariant
