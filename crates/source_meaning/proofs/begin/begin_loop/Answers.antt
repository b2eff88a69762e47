use Rattle.std.proofs.Common.{rules, ◌≡◌, refl}
use Rattle.source_meaning.specs.declared.state.Round.{Round}
use Rattle.meaning.specs.Rows.{no_rows}
use Rattle.source_meaning.specs.Pending.{rest}
use Rattle.source_meaning.proofs.Begins.{start_is}
use Rattle.source_meaning.proofs.begin.begin_loop.Goals as goal

pub returns-clause-means : goal.returns-clause-means
returns-clause-means c = λ n p.
    let m = c.len-mark.result in
    let r : Round = record { parts = c.args.parts; mark = m; height = m; is_tested = c.args.parts.form.now.is_first; clauses = c.in_ok-clauses.clauses } in
    let k : c.in_ok-clauses.clauses.items ≡ no_rows c.args.parts.form.now.clauses = search rules in
    let h = c.in_ok-define.ensures.means n p c.args.state.now.names in
    let q = start_is n p r (rest n p c.args.state.now.frames.items) c.args.first.now c.args.state.now.names c.len-mark.ensures refl k in
    search (rules, h, q)
