use Rattle.std.proofs.Common.{◌≡◌, ◌∙◌, sym, ap, subst}
use Rattle.if1_graph.specs.Types.{sort_at}
use Rattle.if1_types.specs.Tables.{number_at}
use Rattle.if1_types.specs.Forms.{IsSort}
use Rattle.if1_ports.specs.Outlines.{outline_of}
use Rattle.if1_ports.proofs.Tables.{told}
use Rattle.if1_ports.proofs.outlines.outline_by.Goals as goal

pub returns-then-number-eq0 : goal.returns-then-number-eq0
returns-then-number-eq0 c = λ ts are stand.
    let zero : number_at c.args.sorts.now.labels c.args.sorts.now.numbers c.args.label ≡ 0 = sym c.number-number.ensures ∙ c.if-number-eq0.true in
    sym (ap outline_of ((are.there c.args.label).0 zero))

pub returns : goal.returns
returns c = λ ts are stand.
    told (sort_at ts c.args.label) c.sort_outline.result
    (λ e. c.if-number-eq0.false (c.number-number.ensures ∙ (are.there c.args.label).1 e))
    (λ s e. c.sort_outline.ensures s (c.sort.ensures.of s
    (subst (λ n. IsSort c.args.sorts.now.shapes n s) (sym c.number-number.ensures) (stand c.args.label s e))))
