use Rattle.std.proofs.Common.{◌≡◌, [], ◌∷◌, Some, sym, ◌∙◌, ap}
use Rattle.pushdown.specs.Meaning.{run}
use Rattle.sisal_grammar.specs.declared.value.Value.TheVariants.{AnOutline}
use Rattle.sisal_grammar.specs.Acts.{sisal}
use Rattle.sisal_grammar.specs.Placed.{placed}
use Rattle.sisal_grammar.specs.Plan.{plan}
use Rattle.sisal_build.proofs.Finals.{final, Final, same_some}
use Rattle.sisal_build.proofs.build.outline_of.Goals as goal

pub take_outline-requires : goal.take_outline-requires
take_outline-requires c =
    let f : Final c.args.steps.now c.args.tokens.now = final c.args.steps.now c.args.tokens.now c.requires.derived in
    let r : run sisal plan c.args.steps.now (placed 0 c.args.tokens.now) ≡ Some c.in_ok-values.values = c.in_ok-values.ensures in
    let one : c.in_ok-values.values ≡ AnOutline f.outline ∷ [] = same_some (sym r ∙ f.means) in
    rw one (tt, tt)

pub returns : goal.returns
returns c =
    let f : Final c.args.steps.now c.args.tokens.now = final c.args.steps.now c.args.tokens.now c.requires.derived in
    let r : run sisal plan c.args.steps.now (placed 0 c.args.tokens.now) ≡ Some c.in_ok-values.values = c.in_ok-values.ensures in
    let one : c.in_ok-values.values ≡ AnOutline f.outline ∷ [] = same_some (sym r ∙ f.means) in
    let taken : c.in_ok-values.values ≡ AnOutline c.take_outline.result ∷ c.take_outline.new.self = c.take_outline.ensures.value in
    let value : AnOutline f.outline ∷ [] ≡ AnOutline c.take_outline.result ∷ [] = cc in
    f.means ∙ ap (λ s. Some s) value
