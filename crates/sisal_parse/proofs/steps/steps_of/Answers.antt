use Rattle.std.proofs.Common.{◌≡◌, ℕ, ◌+◌, ◌∷◌, List, [], map, length, sym, ◌∙◌, ap, subst}
use Rattle.pushdown.specs.Engine.{FirstBad}
use Rattle.pushdown.specs.Grammar.{Derives}
use Rattle.pushdown.specs.declared.Symbol.TheVariants.{Rule}
use Rattle.sisal_grammar.specs.Classes.{class_of}
use Rattle.sisal_grammar.specs.Language.{language}
use Rattle.sisal_parse.specs.Faults.{IsFirstBad, line_at}
use Rattle.sisal_parse.proofs.Faults.{classes, two_maps, derives_tokens, bad_token}
use Rattle.sisal_parse.proofs.steps.steps_of.Goals as goal

pub returns-in-Ok-clause-derived : goal.returns-in-Ok-clause-derived
returns-in-Ok-clause-derived c =
    let same : c.deref.result.now ≡ classes c.args.tokens.now = c.deref.ensures.value ∙ c.in_ok-classes.ensures in
    derives_tokens c.tables-tables.result c.args.tokens.now c.deref.result.now c.in-Ok.steps.items c.tables-tables.ensures.grammar same c.in-Ok.ensures.ok

pub returns-in-Err-Syntax-clause-syntax : goal.returns-in-Err-Syntax-clause-syntax
returns-in-Err-Syntax-clause-syntax c =
    let same : c.deref.result.now ≡ classes c.args.tokens.now = c.deref.ensures.value ∙ c.in_ok-classes.ensures in
    subst (λ l. IsFirstBad c.args.tokens.now (c.in-Err-Syntax.place + 1) l) (sym c.line_of.ensures)
    (bad_token c.tables-tables.result c.args.tokens.now c.deref.result.now c.in-Err-Syntax.field-0 c.in-Err-Syntax.place c.tables-tables.ensures.grammar same c.in-Err-Syntax.field-0-is c.in-Err-Syntax.ensures.err)
