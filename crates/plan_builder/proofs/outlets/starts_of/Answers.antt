use Rattle.std.proofs.Common.{◌≡◌, ℕ, suc, ◌+◌, ◌-◌, length, get_or, slice_index, drop, sym, ap, ◌∙◌, subst, arith, Contains}
use Rattle.std.proofs.lemmas.List.{length-set}
use Rattle.plan_builder.specs.Outlets.{cells_of, start_of}
use Rattle.plan_builder.proofs.Standing.{at-index, begin-fits, start-fits, starts-more}
use Rattle.plan_builder.proofs.outlets.starts_of.Goals as goal

pub overflow_sub-begin : goal.overflow_sub-begin
overflow_sub-begin c = begin-fits c.args.widths.now c.args.order.now c.loop-index.index c.loop-index.begin c.loop-index-test.true c.loop-index.invariant.inside c.loop-index.invariant.far

pub loop-index-preserved : goal.loop-index-preserved
loop-index-preserved c =
    let ws = c.args.widths.now in
    let os = c.args.order.now in
    let i = c.loop-index.index - 1 in
    let o = get_or os i 0 in
    let some = c.loop-index-test.true in
    let inside = c.loop-index.invariant.inside in
    let long = c.loop-index.invariant.long in
    let begin = c.loop-index.begin - slice_index ws o in
    let fits = begin-fits ws os c.loop-index.index c.loop-index.begin some inside c.loop-index.invariant.far in
    let e : c.loop-index.index ≡ suc i = omega (arith, some) in
    let rest = at-index ws os i (omega (arith, some, inside)) in
    let all = ap (cells_of ws) rest in
    let far' = subst (λ x. c.loop-index.begin + cells_of ws (drop x os) ≡ cells_of ws os) e c.loop-index.invariant.far in
    let there = c.requires i 0 (omega (arith, some, inside)) in
    let right' = subst (λ x. (k : ℕ) → Contains (drop x os) k → slice_index c.loop-index.starts k ≡ c.loop-index.begin + start_of ws (drop x os) k) e c.loop-index.invariant.right in
    let more = starts-more ws c.loop-index.starts o (drop (suc i) os) begin c.loop-index.begin (omega (arith, there, long)) (omega (arith, fits)) right' in
    record {
      inside = omega (arith, inside);
      long = ap length c.set.ensures ∙ (length-set c.loop-index.starts o begin ∙ long);
      most = c.loop-index.invariant.most;
      far = omega (arith, far', all, fits);
      right = λ k h.
          ap (λ x. slice_index x k) c.set.ensures
          ∙ (more k (subst (λ x. Contains x k) rest h) ∙ ap (λ x. begin + start_of ws x k) (sym rest));
    }

pub returns : goal.returns
returns c =
    let ws = c.args.widths.now in
    let os = c.args.order.now in
    let none = c.loop-index-test.false in
    let start : c.loop-index.index ≡ 0 = omega (arith, none) in
    let right = subst (λ x. (k : ℕ) → Contains (drop x os) k → slice_index c.loop-index.starts k ≡ c.loop-index.begin + start_of ws (drop x os) k) start c.loop-index.invariant.right in
    let far = subst (λ x. c.loop-index.begin + cells_of ws (drop x os) ≡ cells_of ws os) start c.loop-index.invariant.far in
    let most = c.loop-index.invariant.most in
    record {
      here = λ k h. let r = right k h in omega (arith, r, far);
      fits = λ k h. let r = right k h in let a = start-fits ws os k h in omega (arith, r, far, a, most);
      long = c.loop-index.invariant.long;
    }
