use Rattle.std.proofs.Common.{refl, ap, ◌∙◌, ◌∷◌, ◌+◌, drop}
use Rattle.std.proofs.lemmas.Result.{on_ok_weaker}
use Rattle.unit_types.proofs.Naming.{named_as}
use Rattle.unit_types.proofs.declaring.declare_item.Goals as goal

pub returns-in-Alias-clause-names : goal.returns-in-Alias-clause-names
returns-in-Alias-clause-names c = on_ok_weaker c.declare_type.result (λ f texts types h n. named_as c.in-Alias.is refl refl (f texts types h n)) c.declare_type.ensures.names

pub returns-in-Function-clause-names : goal.returns-in-Function-clause-names
returns-in-Function-clause-names c = on_ok_weaker c.declare_function.result (λ f texts types h n. named_as c.in-Function.is refl refl (f texts types h n)) c.declare_function.ensures.names

pub returns-in-Alias-clause-declares : goal.returns-in-Alias-clause-declares
returns-in-Alias-clause-declares c = on_ok_weaker c.declare_type.result
    (λ f u items n is h e r. f u items n is h (e ∙ ap (λ x. x ∷ drop (n + 1) items) c.in-Alias.is) r) c.declare_type.ensures.declares

pub returns-in-Function-clause-declares : goal.returns-in-Function-clause-declares
returns-in-Function-clause-declares c = on_ok_weaker c.declare_function.result
    (λ f u items n is h e r. f u items n is h (e ∙ ap (λ x. x ∷ drop (n + 1) items) c.in-Function.is) r) c.declare_function.ensures.declares
