use Rattle.std.proofs.Common.{◌≡◌, sym, ap, ◌∙◌}
use Rattle.meaning.specs.Timed.{plus}
use Rattle.meaning.specs.Rows.{with_row}
use Rattle.source_meaning.specs.Pending.{rest, walk}
use Rattle.source_meaning.proofs.Laws.{moves_same, passes_back}
use Rattle.source_meaning.proofs.loops.end_place.Goals as goal

pub returns-clause-same : goal.returns-clause-same
returns-clause-same c = λ g n p.
    let w = c.args.walked in
    let s = c.args.state.now.steps in
    let row : c.add_row.new.clauses.items ≡ with_row w.parts.form.now.clauses w.clauses.items c.args.values =
    c.in_ok-add_row.ensures ∙ ap (λ cs. with_row cs w.clauses.items c.args.values) c.as_slice.ensures in
    let k = rest n p c.args.state.now.frames.items in
    ap (λ e. plus s (walk n p w k e (with_row w.parts.form.now.clauses w.clauses.items c.args.values))) (sym c.truncate.ensures)
    ∙ ap (λ fs. plus s (walk n p w k c.truncate.new.self fs)) (sym row)
    ∙ c.in_ok-going.ensures.same g n p

pub returns-clause-limit : goal.returns-clause-limit
returns-clause-limit c = λ g p.
    let w = c.args.walked in
    let s = c.args.state.now.steps in
    let row : c.add_row.new.clauses.items ≡ with_row w.parts.form.now.clauses w.clauses.items c.args.values =
    c.in_ok-add_row.ensures ∙ ap (λ cs. with_row cs w.clauses.items c.args.values) c.as_slice.ensures in
    passes_back c.args.limit _ _
    (moves_same _ _ (λ n.
    let k = rest n p c.args.state.now.frames.items in
    ap (λ e. plus s (walk n p w k e (with_row w.parts.form.now.clauses w.clauses.items c.args.values))) (sym c.truncate.ensures)
    ∙ ap (λ fs. plus s (walk n p w k c.truncate.new.self fs)) (sym row)))
    (c.in_ok-going.ensures.limit g p)
