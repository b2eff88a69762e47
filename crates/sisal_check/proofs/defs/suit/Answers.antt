use Rattle.std.proofs.Common.{refl, ◌∙◌}
use Rattle.std.proofs.lemmas.Option.{slice_get-get_or}
use Rattle.typing_laws.proofs.Later.{used_on, grows_same}
use Rattle.sisal_check.specs.Walked.{given_of}
use Rattle.sisal_check.proofs.Defined.{target_fails, declared_on, kept_on, declared_all, declared_out, kept_out}
use Rattle.sisal_check.proofs.Forms.{passed_on}
use Rattle.sisal_check.proofs.defs.suit.Goals as goal

pub returns-in_err-has_type-clause-breaks : goal.returns-in_err-has_type-clause-breaks
returns-in_err-has_type-clause-breaks c =
    let g = given_of c.args.given.now in
    passed_on c.from_residual.result c.in_err-has_type.field-0.0 c.from_residual.ensures.1 _ _
    (λ rule line q. target_fails g c.args.walk.now.types c.loop-place.walk.types c.args.walk.now.names c.loop-place.walk.names c.args.turn c.args.line c.args.targets.now c.args.types.now c.loop-place.place _ _ rule line
    c.loop-place.invariant.used c.loop-place.invariant.names (slice_get-get_or c.args.targets.now c.loop-place.place _ c.loop-place-test.true) (slice_get-get_or c.args.types.now c.loop-place.place _ c.if-place-types.true)
    (q c.args.turn)) c.in_err-has_type.ensures.breaks

pub returns-in_err-keeps_type-clause-breaks : goal.returns-in_err-keeps_type-clause-breaks
returns-in_err-keeps_type-clause-breaks c =
    let g = given_of c.args.given.now in
    passed_on c.from_residual-in_err-keeps_type.result c.in_err-keeps_type.field-0.0 c.from_residual-in_err-keeps_type.ensures.1 _ _
    (λ rule line q. target_fails g c.args.walk.now.types c.has_type.new.walk.types c.args.walk.now.names c.has_type.new.walk.names c.args.turn c.args.line c.args.targets.now c.args.types.now c.loop-place.place _ _ rule line
    (used_on g c.args.walk.now.types c.loop-place.walk.types c.has_type.new.walk.types c.loop-place.invariant.used c.in_ok-has_type.ensures.used) (c.in_ok-has_type.ensures.names ∙ c.loop-place.invariant.names)
    (slice_get-get_or c.args.targets.now c.loop-place.place _ c.loop-place-test.true) (slice_get-get_or c.args.types.now c.loop-place.place _ c.if-place-types.true)
    (q g)) c.in_err-keeps_type.ensures.breaks

pub loop-place-preserved : goal.loop-place-preserved
loop-place-preserved c =
    let g = given_of c.args.given.now in
    record {
      used = used_on g c.args.walk.now.types c.loop-place.walk.types c.has_type.new.walk.types c.loop-place.invariant.used c.in_ok-has_type.ensures.used;
      names = c.in_ok-has_type.ensures.names ∙ c.loop-place.invariant.names;
      declared = declared_on g c.loop-place.walk.types c.has_type.new.walk.types c.args.targets.now c.args.types.now c.loop-place.place _ _ c.in_ok-has_type.ensures.used
          (slice_get-get_or c.args.targets.now c.loop-place.place _ c.loop-place-test.true) (slice_get-get_or c.args.types.now c.loop-place.place _ c.if-place-types.true) c.in_ok-has_type.ensures.declared c.loop-place.invariant.declared;
      kept = kept_on c.args.turn c.args.walk.now.names c.has_type.new.walk.names c.args.targets.now c.args.types.now c.loop-place.place _ _ (c.in_ok-has_type.ensures.names ∙ c.loop-place.invariant.names)
          (slice_get-get_or c.args.targets.now c.loop-place.place _ c.loop-place-test.true) (slice_get-get_or c.args.types.now c.loop-place.place _ c.if-place-types.true) c.in_ok-keeps_type.ensures.kept c.loop-place.invariant.kept;
    }

pub returns-else-place-types-clause-declared : goal.returns-else-place-types-clause-declared
returns-else-place-types-clause-declared c =
    c.loop-place.invariant.declared c.loop-place.walk.types (grows_same c.loop-place.walk.types c.loop-place.walk.types refl)
    (declared_out (given_of c.args.given.now) c.loop-place.walk.types c.args.targets.now c.args.types.now c.loop-place.place c.if-place-types.false)

pub returns-else-place-types-clause-kept : goal.returns-else-place-types-clause-kept
returns-else-place-types-clause-kept c =
    c.loop-place.invariant.kept (kept_out c.args.turn c.args.walk.now.names c.args.targets.now c.args.types.now c.loop-place.place c.if-place-types.false)

pub returns-after-loop-place-clause-declared : goal.returns-after-loop-place-clause-declared
returns-after-loop-place-clause-declared c =
    c.loop-place.invariant.declared c.loop-place.walk.types (grows_same c.loop-place.walk.types c.loop-place.walk.types refl)
    (declared_all (given_of c.args.given.now) c.loop-place.walk.types c.args.targets.now c.args.types.now c.loop-place.place c.loop-place-test.false)
