use Rattle.std.proofs.Common.{◌∙◌, sym, ap, subst}
use Rattle.std.specs.Prelude.{Result, Err}
use Rattle.flow_value.specs.declared.value.Val.{Val}
use Rattle.value_text.specs.declared.fault.ValueFault.{ValueFault}
use Rattle.mean_call.specs.Words.{IsWordRefusal}
use Rattle.mean_call.proofs.Reading.{word_refused}
use Rattle.mean_call.proofs.arguments.argument.Goals as goal

abbrev err : ValueFault → Result Val ValueFault
err e = Err e

pub returns-in-Err : goal.returns-in-Err
returns-in-Err g c = record {
  read = λ ty h. tt;
  refused = λ ty h.
      subst (IsWordRefusal c.args.word.now ty c.args.place) (sym c.refusal_of.ensures)
      (word_refused c.args.word.now ty c.args.place c.in-Err.fault
      (λ k e. c.read_value_by.ensures.bad_spelling ty k h (c.in-Err.is ∙ ap err e))
      (λ e. c.read_value_by.ensures.too_large ty h (c.in-Err.is ∙ ap err e))
      (λ k e. c.read_value_by.ensures.wrong_shape ty k h (c.in-Err.is ∙ ap err e)));
}
