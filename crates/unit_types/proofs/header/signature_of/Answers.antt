use Rattle.std.proofs.Common.{◌-◌, sym, subst, refl, drop, length}
use Rattle.unit_types.specs.Rests.{HasNames}
use Rattle.unit_types.proofs.Reading.{used_again, names_later}
use Rattle.unit_types.proofs.Naming.{all_known}
use Rattle.unit_types.proofs.Headers.{says}
use Rattle.unit_types.proofs.Faults.{passed_on}
use Rattle.unit_types.proofs.Breaking.{names_to, header_twice, header_param, header_result}
use Rattle.unit_types.proofs.header.signature_of.Goals as goal

pub returns-clause-used : goal.returns-clause-used
returns-clause-used c = used_again c.args.tokens.now c.args.types.now c.params_in.new.types c.results_in.new.types c.in_ok-params.ensures.used c.in_ok-results.ensures.used

pub returns-clause-says : goal.returns-clause-says
returns-clause-says c = λ u types is h n.
    let known = drop (length c.args.named.now - c.count-known.result) c.args.named.now in
    let m : HasNames u.tokens.names c.args.types.now known types
    = subst (λ l. HasNames u.tokens.names c.args.types.now l types) (sym (all_known c.args.named.now c.count-known.result c.count-known.ensures)) n in
    says u types c.params_in.new.types c.results_in.new.types c.args.header.now _ c.as_slice-fields.result.now c.as_slice-written.result.now c.as_slice-fields.ensures c.as_slice-written.ensures
    refl c.in_ok-parameters.ensures c.in_ok-are_distinct.ensures.distinct c.in_ok-results.ensures.used.grown
    (c.in_ok-params.ensures.params u types is h m)
    (c.in_ok-results.ensures.results u types is h (names_later c.args.tokens.now c.args.types.now c.params_in.new.types u.tokens.names known types c.in_ok-params.ensures.used h m))

pub returns-in_err-are_distinct-clause-breaks : goal.returns-in_err-are_distinct-clause-breaks
returns-in_err-are_distinct-clause-breaks c =
    passed_on c.from_residual.result c.in_err-are_distinct.field-0.0 c.from_residual.ensures.1
    (λ rule at t u types is h n. header_twice u types c.args.header.now c.as_slice-fields.result.now rule at c.as_slice-fields.ensures t)
    c.in_err-are_distinct.ensures.twice

pub returns-in_err-params-clause-breaks : goal.returns-in_err-params-clause-breaks
returns-in_err-params-clause-breaks c =
    passed_on c.from_residual-in_err-params.result c.in_err-params.field-0.0 c.from_residual-in_err-params.ensures.1
    (λ rule at f u types is h n. header_param u types c.args.header.now c.as_slice-fields.result.now rule at c.as_slice-fields.ensures
    (f u types is h (names_to u.tokens.names c.args.types.now c.args.named.now types c.count-known.result c.count-known.ensures n)))
    c.in_err-params.ensures.breaks

pub returns-in_err-results-clause-breaks : goal.returns-in_err-results-clause-breaks
returns-in_err-results-clause-breaks c =
    let known = drop (length c.args.named.now - c.count-known.result) c.args.named.now in
    passed_on c.from_residual-in_err-results.result c.in_err-results.field-0.0 c.from_residual-in_err-results.ensures.1
    (λ rule at f u types is h n. header_result u types c.args.header.now c.as_slice-written.result.now rule at c.as_slice-written.ensures
    (f u types is h (names_later c.args.tokens.now c.args.types.now c.params_in.new.types u.tokens.names known types c.in_ok-params.ensures.used h
    (names_to u.tokens.names c.args.types.now c.args.named.now types c.count-known.result c.count-known.ensures n))))
    c.in_err-results.ensures.breaks
