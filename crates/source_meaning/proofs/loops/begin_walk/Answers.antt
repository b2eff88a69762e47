use Rattle.std.proofs.Common.{◌≡◌, refl, ap, ◌∙◌}
use Rattle.source_meaning.specs.declared.state.Walk.{Walk}
use Rattle.meaning.specs.Timed.{plus}
use Rattle.meaning.specs.Rows.{no_rows}
use Rattle.source_meaning.specs.Pending.{rest}
use Rattle.source_meaning.proofs.Laws.{moves_same, passes_back}
use Rattle.source_meaning.proofs.Walks.{open_count}
use Rattle.source_meaning.proofs.loops.begin_walk.Goals as goal

pub returns-clause-same : goal.returns-clause-same
returns-clause-same c = λ g n p.
    let old = c.args.state.now in
    let w : Walk = record { parts = c.args.parts; bounds = c.args.bounds; mark = 0; count = c.args.count; left = c.args.count; clauses = c.in_ok-clauses.clauses } in
    let clauses : w.clauses.items ≡ no_rows w.parts.form.now.clauses = c.in_ok-clauses.ensures ∙ ap no_rows c.as_slice.ensures in
    ap (plus old.steps) (open_count n p w (rest n p old.frames.items) old.names refl clauses) ∙ c.in_ok-going.ensures.same g n p

pub returns-clause-limit : goal.returns-clause-limit
returns-clause-limit c = λ g p.
    let old = c.args.state.now in
    let w : Walk = record { parts = c.args.parts; bounds = c.args.bounds; mark = 0; count = c.args.count; left = c.args.count; clauses = c.in_ok-clauses.clauses } in
    let clauses : w.clauses.items ≡ no_rows w.parts.form.now.clauses = c.in_ok-clauses.ensures ∙ ap no_rows c.as_slice.ensures in
    passes_back c.args.limit _ _
    (moves_same _ _ (λ n. ap (plus old.steps) (open_count n p w (rest n p old.frames.items) old.names refl clauses)))
    (c.in_ok-going.ensures.limit g p)
