use Rattle.std.proofs.Common.{◌∙◌, Some, sym, subst}
use Rattle.value_text.specs.Numbered.{StandForAll}
use Rattle.mean_call.specs.Calls.{IsEntry, IsEntryIf, IsRefused, params_of}
use Rattle.mean_call.specs.Table.{numbered}
use Rattle.mean_call.specs.Words.{AreRead, AreRefused}
use Rattle.mean_call.proofs.Calls.{refused_words}
use Rattle.mean_call.proofs.Like.{stand_for_all}
use Rattle.mean_call.proofs.Reading.{given_up, of_refusals, of_values}
use Rattle.mean_call.proofs.call.evaluate.Goals as goal

pub returns-in_err-args-clause-refused : goal.returns-in_err-args-clause-refused
returns-in_err-args-clause-refused c =
    let p = c.args.program.now in
    let set = c.args.set.now in
    let entry : IsEntryIf p c.as_slice.result.now (Some c.in-Some-2.function) = subst (IsEntryIf p c.as_slice.result.now) c.in-Some-2.is c.in_ok-function.ensures in
    let here = subst (λ w. IsEntry p w c.in-Some-2.function entry.0) c.as_slice.ensures entry.1 in
    let stand = subst (λ ns. StandForAll (numbered p.types) ns entry.0) (sym c.params_of-params.ensures) (stand_for_all p.types p.names (params_of p c.in-Some-2.function) entry.0 entry.1.parameters) in
    let why = of_refusals (AreRefused c.as_slice-2.result.now entry.0) c.values_of_words.result c.in_err-args.field-0.0 c.in_err-args.was (c.values_of_words.ensures.refused entry.0 stand) in
    let words = subst (λ ws. AreRefused ws entry.0 c.in_err-args.field-0.0) c.as_slice-2.ensures why in
    given_up (IsRefused p set) c.from_residual-in_err-args.result c.in_err-args.field-0.0 c.from_residual-in_err-args.ensures.1
    (refused_words p set c.in-Some-2.function entry.0 c.in_err-args.field-0.0 (sym c.in_ok-name.ensures ∙ c.in_default.is) here words)

pub returns-in-Ok-clause-values : goal.returns-in-Ok-clause-values
returns-in-Ok-clause-values c =
    let p = c.args.program.now in
    let set = c.args.set.now in
    let entry : IsEntryIf p c.as_slice.result.now (Some c.in-Some-2.function) = subst (IsEntryIf p c.as_slice.result.now) c.in-Some-2.is c.in_ok-function.ensures in
    let here = subst (λ w. IsEntry p w c.in-Some-2.function entry.0) c.as_slice.ensures entry.1 in
    let stand = subst (λ ns. StandForAll (numbered p.types) ns entry.0) (sym c.params_of-params.ensures) (stand_for_all p.types p.names (params_of p c.in-Some-2.function) entry.0 entry.1.parameters) in
    let told = of_values (AreRead c.as_slice-2.result.now entry.0) c.values_of_words.result c.in_ok-args.args c.in_ok-args.was (c.values_of_words.ensures.read entry.0 stand) in
    let read = subst (λ ws. AreRead ws entry.0 c.in_ok-args.args) c.as_slice-2.ensures told in
    let found = c.in-Ok.ensures.found in
    record {
      linked = sym c.in_ok-name.ensures ∙ c.in_default.is;
      function = c.in-Some-2.function;
      types = entry.0;
      entry = here;
      args = c.in_ok-args.args;
      read = read;
      depth = found.1.0;
      steps = c.in-Ok.found.steps;
      given = found.1.1;
      within = found.0;
    }

pub returns-in-Err-TurnLimit-clause-refused : goal.returns-in-Err-TurnLimit-clause-refused
returns-in-Err-TurnLimit-clause-refused c =
    let p = c.args.program.now in
    let set = c.args.set.now in
    let entry : IsEntryIf p c.as_slice.result.now (Some c.in-Some-2.function) = subst (IsEntryIf p c.as_slice.result.now) c.in-Some-2.is c.in_ok-function.ensures in
    let here = subst (λ w. IsEntry p w c.in-Some-2.function entry.0) c.as_slice.ensures entry.1 in
    let stand = subst (λ ns. StandForAll (numbered p.types) ns entry.0) (sym c.params_of-params.ensures) (stand_for_all p.types p.names (params_of p c.in-Some-2.function) entry.0 entry.1.parameters) in
    let told = of_values (AreRead c.as_slice-2.result.now entry.0) c.values_of_words.result c.in_ok-args.args c.in_ok-args.was (c.values_of_words.ensures.read entry.0 stand) in
    let read = subst (λ ws. AreRead ws entry.0 c.in_ok-args.args) c.as_slice-2.ensures told in
    record {
      linked = sym c.in_ok-name.ensures ∙ c.in_default.is;
      function = c.in-Some-2.function;
      types = entry.0;
      entry = here;
      args = c.in_ok-args.args;
      read = read;
      longer = c.in-Err-TurnLimit.ensures.turn_limit c.in-Err-TurnLimit.field-0-is;
    }
