use Rattle.std.proofs.Common.{◌≡◌, ap, ◌∙◌}
use Rattle.agg_pool.specs.Parts.{Cut}
use Rattle.test_pool.proofs.building.written_by_two.Goals as goal

pub returns-clause-others : goal.returns-clause-others
returns-clause-others g c = λ n other.
    let low : c.write_two.new.low.number ≡ c.args.key.number = ap (λ (s : Cut). s.number) c.write_two.ensures.low ∙ c.cut-low.ensures.number in
    let high : c.write_two.new.high.number ≡ c.args.key.number = ap (λ (s : Cut). s.number) c.write_two.ensures.high ∙ c.cut-high.ensures.number in
    c.seal.ensures.others n other
    ∙ c.join_segment-2.ensures.others n (λ e. other (e ∙ high))
    ∙ c.join_segment.ensures.others n (λ e. other (e ∙ low))
    ∙ c.cut-low.ensures.others n other
    ∙ c.cut-high.ensures.others n other
