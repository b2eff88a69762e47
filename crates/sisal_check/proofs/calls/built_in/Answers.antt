use Rattle.std.proofs.Common.{sym, ap, ◌∙◌}
use Rattle.std.specs.Option.{option_copied}
use Rattle.sisal_lex.specs.Words.{beside}
use Rattle.typed_tree.specs.BuiltIns.{built_ins}
use Rattle.sisal_check.specs.Walked.{given_of}
use Rattle.sisal_check.proofs.Forms.{no_built_in}
use Rattle.sisal_check.proofs.calls.built_in.Goals as goal

pub returns-in-Some-clause-none : goal.returns-in-Some-clause-none
returns-in-Some-clause-none c =
    no_built_in (given_of c.args.given.now) c.args.name c.in-Some.spelling.now c.built_in_named.result (sym c.item_at.ensures ∙ ap option_copied c.in-Some.is)
    (c.built_in_named.ensures ∙ ap (λ s. beside s built_ins) c.as_slice.ensures)
