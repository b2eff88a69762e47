use Rattle.std.proofs.Common.{◌≡◌, ℕ, ◌+◌, suc, List, ◌∷◌, drop, map, sym, ap, ◌∙◌, arith}
use Rattle.std.proofs.Math.Seq.{drop-cons}
use Rattle.lowering.specs.declared.feed.Carried.TheVariants.{One}
use Rattle.lowering.specs.Operations.{character}
use Rattle.line_labels.specs.Needs.{added}
use Rattle.line_walk.proofs.nodes.add_letters.Goals as goal

pub loop-preserved : goal.loop-preserved
loop-preserved c =
    let codes = c.args.codes.now in
    let i = c.loop.index in
    let next : suc i ≡ i + 1 = omega arith in
    let cons = drop-cons codes i 0 c.loop-test.true in
    let f = λ (rest : List ℕ). map (λ (k : ℕ). One character) rest in
    ap (λ k. added k (f (drop (i + 1) codes))) c.in_ok-add.ensures
    ∙ (sym (ap (λ l. added c.loop.needs (f l)) cons ∙ ap (λ n. added c.loop.needs (One character ∷ f (drop n codes))) next) ∙ c.loop.invariant)
