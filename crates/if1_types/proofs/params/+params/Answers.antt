use Rattle.std.proofs.Common.{◌≡◌, suc, ◌-◌, ◌∙◌, sym, arith}
use Rattle.if1_graph.specs.Types.{with_names, ty_within}
use Rattle.if1_types.specs.Tables.{is_line}
use Rattle.if1_types.proofs.Written.{label_step, member_step}
use Rattle.if1_types.proofs.params.+params.Goals as goal

pub label_ty-returns : goal.label_ty-returns
label_ty-returns t c =
    let below : suc (c.args.depth - 1) ≡ c.args.depth = omega (arith, c.if-depth-eq0.false) in
    c.in_ok-found.ensures ∙ label_step c.args.depth (c.args.depth - 1) c.args.types.now c.args.label c.in-Some.entry.now below c.in-Some.ensures

pub member_types-loop-label-preserved : goal.member_types-loop-label-preserved
member_types-loop-label-preserved t c = record {
  left =
      member_step (ty_within with_names c.args.depth c.args.types.now) (is_line c.args.line) c.args.types.now _
      c.loop-label.left (c.loop-label.left - 1) c.loop-label.label c.in-Some.entry.now c.in-Some-2.ty c.in_ok-from_slice.field-0 c.loop-label.fields c.add.new.self
      (omega (arith, c.loop-label-test.true)) (omega (arith, c.if-left-eq0.false)) c.in-Some.ensures (sym c.in-Some-2.is ∙ c.in_ok-ty.ensures) (c.in_ok-from_slice.ensures ∙ c.as_slice.ensures) c.loop-label.invariant.left c.in_ok-add.ensures.ok;
}
