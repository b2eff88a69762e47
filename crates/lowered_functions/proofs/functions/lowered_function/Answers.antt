use Rattle.std.proofs.Common.{◌≡◌, ◌∙◌, [], ap, subst, map}
use Rattle.lowering.specs.declared.feed.Carried.TheVariants.{One}
use Rattle.lowering.specs.Operations.{all_lowered}
use Rattle.lowering.specs.Loops.{own_inputs}
use Rattle.lowering.specs.Programs.{bodies, function_lowered}
use Rattle.lowered_data.specs.declared.made.Made.{Made}
use Rattle.lowered_data.specs.Scopes.{Scopes, scopes, with_names}
use Rattle.lowered_data.specs.States.{IsMade}
use Rattle.lowered_functions.proofs.Ending.{begun-with-none}
use Rattle.lowered_functions.proofs.functions.lowered_function.Goals as goal

pub returns : goal.returns
returns c =
    let forms = c.args.forms.now in
    let f = c.args.function.now in
    let q = c.args.number in
    let own = own_inputs 1 (map One f.params) in
    let inputs : c.as_slice-2.result.now ≡ own = c.as_slice-2.ensures ∙ c.in_ok-inputs.ensures ∙ ap (λ ts. own_inputs 1 (map One ts)) c.as_slice.ensures in
    let names : c.define.new.self ≡ scopes own [] = c.in_ok-define.ensures ∙ ap (λ (s : Scopes). with_names s c.as_slice-2.result.now) c.new-names.ensures ∙ ap (λ ws. scopes ws []) inputs in
    let made_is : IsMade (function_lowered forms f) c.new-made.result c.results.new.made c.in_ok-values.values =
    subst (λ (s : Scopes). IsMade (all_lowered (bodies forms f.body f.results) s.here) c.new-made.result c.results.new.made c.in_ok-values.values) names c.in_ok-values.ensures in
    c.ended.ensures ∙ begun-with-none (function_lowered forms f) q c.results.new.made c.in_ok-values.values
    (subst (λ (s : Made). IsMade (function_lowered forms f) s c.results.new.made c.in_ok-values.values) c.new-made.ensures made_is)
