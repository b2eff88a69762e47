use Rattle.std.proofs.Common.{◌≡◌, ◌≤◌, ◌+◌, ◌∷◌, drop, sym, ap, ◌∙◌, subst, arith}
use Rattle.graph_meaning.specs.Storage.{capped, leaves_where}
use Rattle.loop_folds.specs.Masks.{keep_of}
use Rattle.loop_folds.specs.declared.masking.Masking.TheVariants as masking
use Rattle.sequential.proofs.LoadSteps.{capped-most}
use Rattle.sequential_fire.proofs.Counts.{capped-more, capped-end, kept_leaves, kept-more, kept-none, split-item, none-behind}
use Rattle.sequential_fire.proofs.kept.leaves_masked.Goals as goal

pub loop-place-preserved : goal.loop-place-preserved
loop-place-preserved c =
    let l = c.loop-place in
    let vs = c.args.items.now in
    let ms = c.args.masks.now in
    let v = c.index-items-place.result in
    let m = c.index-masks-place.result in
    let lt = c.loop-place-test.true in
    let end = l.invariant.end in
    let more = c.if-place-masks.false in
    let first = split-item vs l.place v (omega (arith, lt, end)) c.index-items-place.is in
    let second = split-item ms l.place m (omega (arith, more)) c.index-masks-place.is in
    let x = leaves_where (v, keep_of masking.When m) in
    let y = kept_leaves (drop (l.place + 1) vs) (drop (l.place + 1) ms) in
    let e = c.saturating_add-sum.ensures ∙ ap (λ z. capped (l.sum + z)) c.leaves_of_one.ensures in
    record {
      end = l.invariant.end;
      small = subst (λ n. n ≤ 18446744073709551615) (sym e) (capped-most (l.sum + capped x));
      total = ap (λ s. capped (s + y)) e
          ∙ (capped-more l.sum x y
          ∙ (ap (λ n. capped (l.sum + n)) (sym (kept-more v m (drop (l.place + 1) vs) (drop (l.place + 1) ms)))
          ∙ subst (λ xs. capped (l.sum + kept_leaves xs (m ∷ drop (l.place + 1) ms)) ≡ capped (kept_leaves vs ms)) first
          (subst (λ ns. capped (l.sum + kept_leaves (drop l.place vs) ns) ≡ capped (kept_leaves vs ms)) second l.invariant.total)));
    }

pub returns-then-place-masks : goal.returns-then-place-masks
returns-then-place-masks c =
    let l = c.loop-place in
    let vs = c.args.items.now in
    let ms = c.args.masks.now in
    let no = c.if-place-masks.true in
    capped-end l.sum (capped (kept_leaves vs ms)) l.invariant.small
    (subst (λ n. capped (l.sum + n) ≡ capped (kept_leaves vs ms)) (kept-none (drop l.place vs))
    (subst (λ ns. capped (l.sum + kept_leaves (drop l.place vs) ns) ≡ capped (kept_leaves vs ms)) (none-behind ms l.place (omega (arith, no))) l.invariant.total))

pub returns : goal.returns
returns c =
    let l = c.loop-place in
    let vs = c.args.items.now in
    let ms = c.args.masks.now in
    let no = c.loop-place-test.false in
    let end = l.invariant.end in
    capped-end l.sum (capped (kept_leaves vs ms)) l.invariant.small
    (subst (λ xs. capped (l.sum + kept_leaves xs (drop l.place ms)) ≡ capped (kept_leaves vs ms)) (none-behind vs l.place (omega (arith, no, end))) l.invariant.total)
