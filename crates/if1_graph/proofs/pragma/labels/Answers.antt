use Rattle.std.proofs.Common.{◌∙◌, Bool, ap, sym, drop}
use Rattle.if1_graph.specs.LineParts.{parts_of}
use Rattle.if1_graph.specs.Places.{added, became, part_at}
use Rattle.if1_graph.specs.Pragmas.{labels_in, labels_of}
use Rattle.if1_graph.proofs.Lists.{labels_more}
use Rattle.if1_graph.proofs.pragma.labels.Goals as goal

pub loop-part-preserved : goal.loop-part-preserved
loop-part-preserved c =
    let line = c.args.line.now in
    let p = part_at line c.in-Some.part in
    let ps = parts_of (drop c.in-Some.rest line) in
    c.loop-part.invariant
    ∙ ap (λ t. added c.loop-part.all (labels_of t)) c.in-Some.ensures.parts
    ∙ labels_more c.loop-part.all c.add_labels.new.all p ps
    (ap (λ w. added c.loop-part.all (labels_in w)) (sym c.word_of.ensures) ∙ c.in_ok-add_labels.ensures ∙ ap (λ (b : Bool). became b c.add_labels.new.all) c.if-not-branch.false)
