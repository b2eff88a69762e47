use Rattle.std.proofs.Common.{ℕ, List, subst, ◌∙◌}
use Rattle.sisal_top.specs.Lines.{Takes}
use Rattle.sisal_top.proofs.lines.write_digits.Goals as goal

pub returns-clause-takes : goal.returns-clause-takes
returns-clause-takes g c =
    let taken = g.E.Sink.taken in
    subst (λ (bs : List ℕ). Takes c.write_words.result (taken c.args.err.now) bs (taken c.write_words.new.err)) (c.as_bytes.ensures.value ∙ c.format.ensures.text) c.write_words.ensures.takes
