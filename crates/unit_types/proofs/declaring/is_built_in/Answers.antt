use Rattle.std.proofs.Common.{ap, ◌∙◌}
use Rattle.sisal_lex.specs.Words.{beside}
use Rattle.typed_tree.specs.BuiltIns.{built_ins}
use Rattle.unit_types.proofs.Owning.{own_name, built_name}
use Rattle.unit_types.proofs.declaring.is_built_in.Goals as goal

pub returns-in-Some-clause-own : goal.returns-in-Some-clause-own
returns-in-Some-clause-own c = own_name built_ins c.args.spellings.now c.args.name c.in-Some.spelling.now c.built_in_named.result c.is_some.result c.in-Some.ensures
    (c.built_in_named.ensures ∙ ap (λ l. beside l built_ins) c.as_slice.ensures) c.is_some.ensures

pub returns-in-Some-clause-built : goal.returns-in-Some-clause-built
returns-in-Some-clause-built c = built_name built_ins c.args.spellings.now c.args.name c.in-Some.spelling.now c.built_in_named.result c.is_some.result c.in-Some.ensures
    (c.built_in_named.ensures ∙ ap (λ l. beside l built_ins) c.as_slice.ensures) c.is_some.ensures
