use Rattle.std.proofs.Common.{◌≡◌, map, slice_get, Some, refl, sym, ap, ◌∙◌}
use Rattle.std.specs.Option.{option_map}
use Rattle.std.proofs.lemmas.Option.{slice_get-map}
use Rattle.typed_tree.specs.Typing.{with}
use Rattle.typed_tree.specs.declared.expr.TypedKind.TheVariants as typed
use Rattle.sisal_check.specs.Walked.{header_of}
use Rattle.sisal_check.proofs.Forms.{differ, alike}
use Rattle.sisal_check.proofs.calls.call_of.Goals as goal

pub returns-then-ne-clause-breaks : goal.returns-then-ne-clause-breaks
returns-then-ne-clause-breaks c = (
  refl,
  refl,
  record {
    header = header_of c.header_at-function.result.now;
    there = slice_get-map header_of c.args.given.now.functions.now c.args.number ∙ ap (option_map header_of) c.header_at-function.ensures;
    other = λ e. differ c.as_slice.result.now c.as_slice-2.result.now c.if-ne.ensures (c.as_slice.ensures ∙ e ∙ sym c.as_slice-2.ensures);
  },
)

pub returns-clause-calls : goal.returns-clause-calls
returns-clause-calls c = record {
  function = header_of c.header_at-function.result.now;
  there = slice_get-map header_of c.args.given.now.functions.now c.args.number ∙ ap (option_map header_of) c.header_at-function.ensures;
  params = sym c.as_slice.ensures ∙ alike c.as_slice.result.now c.as_slice-2.result.now c.if-ne.ensures ∙ c.as_slice-2.ensures;
  is = ap (λ ns. with c.args.line ns (typed.Call c.args.number c.args.operands.exprs)) (c.in_ok-from_slice.ensures ∙ c.as_slice-3.ensures);
}
