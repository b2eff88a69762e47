use Rattle.std.proofs.Common.{◌∙◌, Bool, List, ap, sym}
use Rattle.type_table.specs.declared.form.Form.{Form}
use Rattle.lowering.specs.Loops.{loop_name}
use Rattle.lowering.specs.Phrases.{phrase}
use Rattle.lower_exprs.specs.Turned.{kept}
use Rattle.lower_exprs.proofs.turns.kept.Goals as goal

pub returns-else-is_negated : goal.returns-else-is_negated
returns-else-is_negated c = λ (forms : List Form).
    let loop = loop_name c.args.around c.args.count in
    let e = c.args.e.now in
    c.loop_name.ensures ∙ ap loop (c.name_of.ensures forms) ∙ ap (λ (b : Bool). kept loop b (phrase forms e).name) (sym c.if-is_negated.false)
