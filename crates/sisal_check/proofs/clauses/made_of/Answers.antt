use Rattle.std.proofs.Common.{◌⊎◌, inl, inr, ◌≤◌, ◌+◌, [], ◌∷◌, length, ◌≡◌, refl, ap, ◌∙◌, arith}
use Rattle.std.proofs.lemmas.List.{length-append}
use Rattle.std.proofs.lemmas.Option.{slice_get-get_or}
use Rattle.typing_laws.proofs.Crossed.{all_made}
use Rattle.typing_laws.proofs.Later.{used_on, used_same}
use Rattle.breaking_laws.proofs.PMade.{one_made_refused}
use Rattle.sisal_check.specs.Walked.{given_of, folds_of}
use Rattle.sisal_check.proofs.Forms.{passed_on}
use Rattle.sisal_check.proofs.Looped.{nothing_made, more_made, deep_on}
use Rattle.sisal_check.proofs.Parts.{there_at}
use Rattle.sisal_check.proofs.clauses.made_of.Goals.{then-loop-place-test+else-place-values, else-loop-place-test}
use Rattle.sisal_check.proofs.clauses.made_of.Goals as goal

pub loop-place-init : goal.loop-place-init
loop-place-init c = record {
  used = used_same (given_of c.args.given.now) c.args.walk.now.types;
  names = refl;
  made = λ e. nothing_made c.args.walk.now.types c.args.is_masked c.new.result c.new-2.result c.new.ensures c.new-2.ensures;
  some = λ e. ap length c.new-2.ensures;
  deep = λ e. absurd cc;
}

pub returns-in_err-fold-clause-breaks : goal.returns-in_err-fold-clause-breaks
returns-in_err-fold-clause-breaks c =
    let g = given_of c.args.given.now in
    let i = c.loop-place.place in
    let x = c.index-cs-place.result in
    passed_on c.from_residual.result c.in_err-fold.field-0.0 c.from_residual.ensures.1 _ _
    (λ rule line q. λ groups. one_made_refused g c.args.walk.now.types c.loop-place.walk.types _ c.args.line c.args.cs.now c.args.values.now i x _ rule line c.loop-place.invariant.used
    (there_at c.args.cs.now i x c.loop-place-test.true c.index-cs-place.is) (slice_get-get_or c.args.values.now i _ c.if-place-values.true) (q g groups c.args.line)) c.in_err-fold.ensures.breaks

pub loop-place-preserved : goal.loop-place-preserved
loop-place-preserved c =
    let g = given_of c.args.given.now in
    let f = c.loop-place.walk.types in
    let h = c.fold.new.walk.types in
    let i = c.loop-place.place in
    let x = c.index-cs-place.result in
    let used = c.in_ok-fold.ensures.used g in
    record {
      used = used_on g c.args.walk.now.types f h c.loop-place.invariant.used used;
      names = c.in_ok-fold.ensures.names ∙ c.loop-place.invariant.names;
      made = λ e. let a = c.in_ok-fold.ensures.added e in
          more_made f h c.args.is_masked c.args.cs.now c.args.values.now i x _ (folds_of c.loop-place.made) (folds_of c.fold.new.made) used.grows c.loop-place-test.true c.index-cs-place.is
          (slice_get-get_or c.args.values.now i _ c.if-place-values.true) (c.loop-place.invariant.made a.0) a.1;
      some = λ e. let a = c.in_ok-fold.ensures.added e in
          ap length a.1.types ∙ length-append c.loop-place.made.types (a.1.made.ty ∷ []) ∙ ap (λ n. n + 1) (c.loop-place.invariant.some a.0);
      deep = deep_on g c.args.walk.now.types f c.args.line c.args.cs.now c.args.values.now i x _ c.loop-place.made.is_deep c.fold.new.made.is_deep c.loop-place.invariant.used
          (there_at c.args.cs.now i x c.loop-place-test.true c.index-cs-place.is) (slice_get-get_or c.args.values.now i _ c.if-place-values.true) c.in_ok-fold.ensures.deep c.loop-place.invariant.deep;
    }

pub returns-clause-made : goal.returns-clause-made
returns-clause-made c =
    let i = c.loop-place.place in
    let done : (length c.args.cs.now ≤ i) ⊎ (length c.args.values.now ≤ i) = elim c.loop-place-test.branch [
      | then-loop-place-test+else-place-values w ↦ inr w.if-place-values.false
      | else-loop-place-test w ↦ inl w.loop-place-test.false
    ] in
    all_made c.loop-place.walk.types c.args.is_masked i c.args.cs.now c.args.values.now (folds_of c.loop-place.made) done (c.loop-place.invariant.made c.if-made.false)

pub returns-clause-some : goal.returns-clause-some
returns-clause-some c = λ a b.
    let many : length c.loop-place.made.types ≡ c.loop-place.place = c.loop-place.invariant.some c.if-made.false in
    elim c.loop-place-test.branch [
      | then-loop-place-test+else-place-values w ↦ let end = w.if-place-values.false in omega (arith, many, end, b)
      | else-loop-place-test w ↦ let end = w.loop-place-test.false in omega (arith, many, end, a)
    ]
