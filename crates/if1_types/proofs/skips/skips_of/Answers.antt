use Rattle.std.proofs.Common.{◌≡◌, ℕ, List, [], ◌∷◌, ◌++◌, length, sym, ap, subst, arith}
use Rattle.std.proofs.lemmas.List.{length-append}
use Rattle.if1_types.specs.Skips.{IsFurther, AreFurther}
use Rattle.if1_types.proofs.Skipping.{are_told, further_more}
use Rattle.if1_types.proofs.skips.skips_of.Goals as goal

pub skip_of-skip-requires-clause-told : goal.skip_of-skip-requires-clause-told
skip_of-skip-requires-clause-told c = are_told c.args.shapes.now c.bound-bound.ensures.keys

pub skip_of-skip-requires-clause-further : goal.skip_of-skip-requires-clause-further
skip_of-skip-requires-clause-further c = subst (λ (ss : List ℕ). AreFurther c.args.shapes.now ss) (sym c.as_slice.ensures) c.loop-list.invariant.further

pub loop-list-preserved : goal.loop-list-preserved
loop-list-preserved c =
    let ks = c.args.shapes.now in
    let is : c.add.new.self ≡ c.loop-list.skips ++ c.skip_of-skip.result ∷ [] = c.in_ok-add.ensures.ok in
    let count = c.loop-list.invariant.count in
    record {
      count = omega (arith, count, ap length is, length-append c.loop-list.skips (c.skip_of-skip.result ∷ []));
      further =
          subst (λ (ss : List ℕ). AreFurther ks ss) (sym is)
          (further_more ks c.loop-list.skips c.skip_of-skip.result c.loop-list.invariant.further (subst (λ l. IsFurther ks l c.skip_of-skip.result) count c.skip_of-skip.ensures));
    }
