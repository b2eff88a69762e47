use Rattle.std.proofs.Common.{◌≡◌, Some, is_some, true, sym, subst}
use Rattle.std.specs.Prelude.{IfOk, IfErr}
use Rattle.value_text.specs.Numbered.{StandForAll}
use Rattle.if1_valid.specs.Params.{function_of, params_of}
use Rattle.if1_arguments.specs.Numbered.{numbered}
use Rattle.mean_call.specs.Words.{AreRead, AreRefused}
use Rattle.run_call.specs.Calls.{IsEntry}
use Rattle.run_call.proofs.Entries.{is_function, called_with, not_called}
use Rattle.run_call.proofs.call.arguments.Goals as goal

pub arguments_of-requires-clause-there : goal.arguments_of-requires-clause-there
arguments_of-requires-clause-there c =
    subst (λ u. is_some (function_of u c.args.function) ≡ true) (sym c.unit.ensures.unit)
    (is_function c.args.unit.now c.args.set.now.entry c.args.function c.requires.entry)

pub returns-clause-call : goal.returns-clause-call
returns-clause-call c =
    let u = c.args.unit.now in
    let set = c.args.set.now in
    let of = c.in_ok-numbers.ensures in
    let are = subst (λ v. params_of v c.args.function ≡ Some of.arguments) c.unit.ensures.unit of.are in
    let here : IsEntry u set.entry c.args.function of.arguments = record { called = c.requires.entry; arguments = are } in
    let stand = subst (λ ns. StandForAll (numbered c.sorts-sorts.result.now.shapes) ns of.arguments) (sym c.as_slice-2.ensures) of.stand in
    called_with u set c.args.function of.arguments c.requires.linked here c.values_of_words.result
    (subst (λ ws. IfOk c.values_of_words.result (AreRead ws of.arguments)) c.as_slice.ensures (c.values_of_words.ensures.read of.arguments stand))

pub returns-clause-refused : goal.returns-clause-refused
returns-clause-refused c =
    let u = c.args.unit.now in
    let set = c.args.set.now in
    let of = c.in_ok-numbers.ensures in
    let are = subst (λ v. params_of v c.args.function ≡ Some of.arguments) c.unit.ensures.unit of.are in
    let here : IsEntry u set.entry c.args.function of.arguments = record { called = c.requires.entry; arguments = are } in
    let stand = subst (λ ns. StandForAll (numbered c.sorts-sorts.result.now.shapes) ns of.arguments) (sym c.as_slice-2.ensures) of.stand in
    not_called u set c.args.function of.arguments c.requires.linked here c.values_of_words.result
    (subst (λ ws. IfErr c.values_of_words.result (AreRefused ws of.arguments)) c.as_slice.ensures (c.values_of_words.ensures.refused of.arguments stand))
