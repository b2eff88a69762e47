use Rattle.std.proofs.Common.{◌∙◌, ap, sym, Some, map, option_map}
use Rattle.if1_types.proofs.Written.{params_is}
use Rattle.if1_types.proofs.params.params_of.Goals as goal

pub returns : goal.returns
returns c =
    c.in_ok-params.ensures ∙ ap (option_map (λ ms. map (λ m. m.1) ms)) c.in_ok-members.ensures
    ∙ params_is c.args.types.now c.args.label c.in-Some.entry.now c.in-Some.ensures (sym c.kind_of.ensures ∙ c.in-Some-Function.is ∙ ap Some c.in-Some-Function.field-0-is)
