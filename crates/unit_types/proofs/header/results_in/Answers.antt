use Rattle.std.proofs.Common.{◌-◌, ◌+◌, ◌∙◌, ◌∷◌, [], ap, sym, subst, drop, length, get_or, arith}
use Rattle.std.proofs.lemmas.List.{length-append}
use Rattle.std.proofs.lemmas.List.Elements.{Contains-get_or}
use Rattle.unit_types.specs.Headers.{AreResultsTo}
use Rattle.unit_types.proofs.Lists.{cut, drop_all}
use Rattle.unit_types.proofs.Reading.{unused, used_again, denoted_here}
use Rattle.unit_types.proofs.Headers.{results_first, results_more, results_all}
use Rattle.unit_types.proofs.Faults.{passed_on}
use Rattle.unit_types.proofs.Breaking.{misnamed}
use Rattle.unit_types.proofs.header.results_in.Goals as goal

pub loop-ty-init : goal.loop-ty-init
loop-ty-init c = record {
  many = omega arith;
  used = unused c.args.tokens.now c.args.types.now;
  are = λ u types is h n. subst (AreResultsTo u types c.args.types.now c.args.written.now 0) (sym c.new-results.ensures)
      (results_first u types c.args.tokens.now is h (drop (length c.args.named.now - c.args.known) c.args.named.now) c.args.written.now c.args.types.now);
}

pub type_of-requires : goal.type_of-requires
type_of-requires c = c.requires c.loop-ty.ty-index (record { from = 0; to = 0 }) c.loop-ty-test.true

pub returns-clause-many : goal.returns-clause-many
returns-clause-many c = let many = c.loop-ty.invariant.many in omega (arith, many)

pub loop-ty-preserved : goal.loop-ty-preserved
loop-ty-preserved c =
    let i = c.loop-ty.ty-index in
    let written = c.args.written.now in
    let denotes = denoted_here (drop (length c.args.named.now - c.args.known) c.args.named.now) c.loop-ty.types c.type_of.new.types c.args.tokens.now (get_or written i (record { from = 0; to = 0 })).from (get_or written i (record { from = 0; to = 0 })).to c.in_ok-number.number
    c.in_ok-number.ensures.used c.in_ok-number.ensures.there c.in_ok-number.ensures.table c.in_ok-number.ensures.denotes in
    let more = ap length c.in_ok-add.ensures.ok ∙ length-append c.loop-ty.results (c.in_ok-number.number ∷ []) in
    let many = c.loop-ty.invariant.many in
    record {
      many = omega (arith, more, many);
      used = used_again c.args.tokens.now c.args.types.now c.loop-ty.types c.type_of.new.types c.loop-ty.invariant.used c.in_ok-number.ensures.used;
      are = λ u types is h n.
          subst (AreResultsTo u types c.type_of.new.types written (i + 1)) (sym c.in_ok-add.ensures.ok)
          (results_more u types c.args.tokens.now is h (drop (length c.args.named.now - c.args.known) c.args.named.now) written i (get_or written i (record { from = 0; to = 0 }))
          c.args.types.now c.loop-ty.types c.type_of.new.types c.loop-ty.results c.in_ok-number.number (cut written i (record { from = 0; to = 0 }) c.loop-ty-test.true)
          n c.loop-ty.invariant.used c.in_ok-number.ensures.used denotes (c.loop-ty.invariant.are u types is h n));
    }

pub returns-clause-results : goal.returns-clause-results
returns-clause-results c = λ u types is h n. results_all u types c.args.tokens.now is h (drop (length c.args.named.now - c.args.known) c.args.named.now) c.args.written.now c.loop-ty.ty-index
    c.loop-ty.types c.loop-ty.results (drop_all c.args.written.now c.loop-ty.ty-index (omega arith)) (c.loop-ty.invariant.are u types is h n)

pub returns-in_err-number-clause-breaks : goal.returns-in_err-number-clause-breaks
returns-in_err-number-clause-breaks c =
    let w = get_or c.args.written.now c.loop-ty.ty-index (record { from = 0; to = 0 }) in
    passed_on c.from_residual.result c.in_err-number.field-0.0 c.from_residual.ensures.1
    (λ rule line m u types is h n. (
      w,
      Contains-get_or c.args.written.now c.loop-ty.ty-index (record { from = 0; to = 0 }) c.loop-ty-test.true,
      misnamed u types c.args.tokens.now is h (drop (length c.args.named.now - c.args.known) c.args.named.now) w c.args.types.now c.loop-ty.types rule line n c.loop-ty.invariant.used m,
    ))
    c.in_err-number.ensures.misnames
