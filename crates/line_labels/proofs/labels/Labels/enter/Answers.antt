use Rattle.std.proofs.Common.{◌≡◌, length, ap, ◌∙◌, arith}
use Rattle.lowering.specs.Types.{basics, with_types}
use Rattle.line_labels.proofs.Kept.{all-kept}
use Rattle.line_labels.proofs.Found.{all-labelled}
use Rattle.line_labels.proofs.labels.Labels.enter.Goals as goal

pub returns-clause-table : goal.returns-clause-table
returns-clause-table c =
    let l = c.loop-self.self in
    let k = c.loop-self.invariant.kept in
    let whole : length l.labels ≡ length l.needs = omega (arith, k.few, c.loop-self-test.false, c.len.ensures, c.len-in-loop-self.ensures) in
    all-kept c.args.types.now c.args.names.now c.args.functions.now l k whole
    ∙ ap (λ ks. with_types c.args.types.now c.args.names.now c.args.functions.now ks basics) c.loop-self.invariant.needs

pub returns-clause-labels : goal.returns-clause-labels
returns-clause-labels c =
    let l = c.loop-self.self in
    let k = c.loop-self.invariant.kept in
    let whole : length l.labels ≡ length l.needs = omega (arith, k.few, c.loop-self-test.false, c.len.ensures, c.len-in-loop-self.ensures) in
    all-labelled c.args.types.now c.args.names.now c.args.functions.now l k whole
