use Rattle.std.proofs.Common.{◌-◌, ◌+◌, ◌++◌, ◌∙◌, ap, map, sym, subst, drop, length, arith}
use Rattle.text_trees.specs.Spelled.{IsType}
use Rattle.unit_types.specs.Headers.{AreParamsTo}
use Rattle.unit_types.proofs.Lists.{cut_at, drop_all}
use Rattle.unit_types.proofs.Reading.{unused, used_again, denoted_here}
use Rattle.unit_types.proofs.Headers.{params_first, params_more, params_all}
use Rattle.unit_types.proofs.Faults.{passed_on}
use Rattle.unit_types.proofs.Breaking.{misnamed}
use Rattle.unit_types.proofs.header.params_in.Goals as goal

pub loop-field-init : goal.loop-field-init
loop-field-init c = record {
  used = unused c.args.tokens.now c.args.types.now;
  are = λ u types is h n. subst (AreParamsTo u types c.args.types.now c.args.fields.now 0) (sym c.new-params.ensures)
      (params_first u types c.args.tokens.now is h (drop (length c.args.named.now - c.args.known) c.args.named.now) c.args.fields.now c.args.types.now);
}

pub type_of-requires : goal.type_of-requires
type_of-requires c = subst (λ f. IsType c.args.tokens.now f.ty) (sym c.field-item.is) (c.requires c.loop-field.field-index c.field-item.result c.loop-field-test.true)

pub loop-field-preserved : goal.loop-field-preserved
loop-field-preserved c =
    let i = c.loop-field.field-index in
    let fields = c.args.fields.now in
    let denotes = denoted_here (drop (length c.args.named.now - c.args.known) c.args.named.now) c.loop-field.types c.type_of.new.types c.args.tokens.now c.field-item.result.ty.from c.field-item.result.ty.to c.in_ok-ty.ty
    c.in_ok-ty.ensures.used c.in_ok-ty.ensures.there c.in_ok-ty.ensures.table c.in_ok-ty.ensures.denotes in
    record {
      used = used_again c.args.tokens.now c.args.types.now c.loop-field.types c.type_of.new.types c.loop-field.invariant.used c.in_ok-ty.ensures.used;
      are = λ u types is h n.
          subst (AreParamsTo u types c.type_of.new.types fields (i + 1)) (sym (c.in_ok-add_types.ensures ∙ ap (λ l. c.loop-field.params ++ map (λ n. c.in_ok-ty.ty) l) c.as_slice.ensures))
          (params_more u types c.args.tokens.now is h (drop (length c.args.named.now - c.args.known) c.args.named.now) fields i c.field-item.result
          c.args.types.now c.loop-field.types c.type_of.new.types c.loop-field.params c.in_ok-ty.ty (cut_at fields i c.field-item.result c.loop-field-test.true c.field-item.is)
          n c.loop-field.invariant.used c.in_ok-ty.ensures.used denotes (c.loop-field.invariant.are u types is h n));
    }

pub returns-clause-params : goal.returns-clause-params
returns-clause-params c = λ u types is h n. params_all u types c.args.tokens.now is h (drop (length c.args.named.now - c.args.known) c.args.named.now) c.args.fields.now c.loop-field.field-index
    c.loop-field.types c.loop-field.params (drop_all c.args.fields.now c.loop-field.field-index (omega arith)) (c.loop-field.invariant.are u types is h n)

pub returns-in_err-ty-clause-breaks : goal.returns-in_err-ty-clause-breaks
returns-in_err-ty-clause-breaks c =
    let f = c.field-item.result in
    passed_on c.from_residual.result c.in_err-ty.field-0.0 c.from_residual.ensures.1
    (λ rule line m u types is h n. (
      f,
      (c.loop-field.field-index, c.loop-field-test.true, sym c.field-item.is),
      misnamed u types c.args.tokens.now is h (drop (length c.args.named.now - c.args.known) c.args.named.now) f.ty c.args.types.now c.loop-field.types rule line n c.loop-field.invariant.used m,
    ))
    c.in_err-ty.ensures.misnames
