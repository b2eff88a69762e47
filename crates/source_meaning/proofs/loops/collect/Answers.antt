use Rattle.std.proofs.Common.{rules, ◌≡◌, false, take, drop, sym, ap, ◌∙◌}
use Rattle.meaning.specs.Timed.{plus}
use Rattle.meaning.specs.Rows.{with_row}
use Rattle.source_meaning.specs.Pending.{rest, tested}
use Rattle.meaning.specs.declared.words.Test.TheVariants as test
use Rattle.source_meaning.proofs.Laws.{moves_same, passes_back}
use Rattle.source_meaning.proofs.Turns.{untested}
use Rattle.source_meaning.proofs.loops.collect.Goals as goal

pub returns-in_ok-going-clause-limit : goal.returns-in_ok-going-clause-limit
returns-in_ok-going-clause-limit c = λ g p.
    let r = c.args.round in
    let s = c.args.state.now.steps in
    let around = take r.mark c.args.state.now.names in
    let l = drop r.mark c.args.state.now.names in
    let bare : r.is_tested ≡ false = search rules in
    let row : c.add_row.new.clauses.items ≡ with_row r.parts.form.now.clauses r.clauses.items c.args.values =
    c.in_ok-add_row.ensures ∙ ap (λ cs. with_row cs r.clauses.items c.args.values) c.as_slice.ensures in
    passes_back c.args.limit _ _
    (moves_same _ _ (λ n.
    let k = rest n p c.args.state.now.frames.items in
    ap (plus s) (untested n p r.parts r.is_tested k around (with_row r.parts.form.now.clauses r.clauses.items c.args.values) l bare)
    ∙ ap (λ fs. plus s (tested n p r.parts k around fs l test.Yes)) (sym row)))
    (c.in_ok-going.ensures.limit g p)
