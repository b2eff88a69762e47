use Rattle.std.proofs.Common.{◌∙◌, ap, map, sym, subst}
use Rattle.std.proofs.lemmas.Result.{MatchResult-weaker, err_from_is_err_and}
use Rattle.graph_meaning.specs.Carried.{Value}
use Rattle.unit_whole.specs.Parts.{table_of}
use Rattle.unit_whole.specs.Runs.{IsDecided, IsFault, LendsBelow}
use Rattle.unit_whole.specs.Totals.{CanEnter, HasTotals, entered_at}
use Rattle.unit_code.specs.Runs.{IsFaultOf}
use Rattle.unit_code.proofs.Recorded.{can-enter, fault-is, run-is, totals-are}
use Rattle.unit_code.proofs.runs.run_unit.Goals as goal

pub run_function-requires-clause-can : goal.run_function-requires-clause-can
run_function-requires-clause-can g c = λ κs h.
    let a = c.args in
    let code = a.code.now in
    let entry = c.number_at-entry.ensures ∙ ap (λ es. table_of es a.function) c.as_slice.ensures in
    let room = c.number_at-room.ensures ∙ ap (λ es. table_of es a.function) c.as_slice-2.ensures in
    let can = can-enter a.unit.now c.unit-whole.ensures.ready c.unit-whole.ensures.sound code c.requires.made a.function a.args c.requires.count a.limit in
    subst (λ n. CanEnter code.code n c.number_at-room.result) (sym entry) (subst (λ n. CanEnter code.code (table_of code.entries a.function) n) (sym room) can)

pub run_function-requires-clause-begun : goal.run_function-requires-clause-begun
run_function-requires-clause-begun g c = λ κs h.
    let a = c.args in
    let code = a.code.now in
    let entry = c.number_at-entry.ensures ∙ ap (λ es. table_of es a.function) c.as_slice.ensures in
    let run = run-is a.unit.now c.unit-whole.ensures.ready c.unit-whole.ensures.sound code c.requires.made a.function a.args c.requires.count a.limit in
    let ins = map Value a.args in (
      ins,
      c.in_ok-cells.ensures.cells,
      subst (λ n. IsDecided code.code a.limit (entered_at n ins)) (sym entry) run.decided,
      subst (λ n. LendsBelow code.code a.limit (entered_at n ins)) (sym entry) run.lends,
    )

pub returns : goal.returns
returns g c =
    let a = c.args in
    let code = a.code.now in
    let entry = c.number_at-entry.ensures ∙ ap (λ es. table_of es a.function) c.as_slice.ensures in
    let ins = map Value a.args in
    let run = c.in_ok-ended.ended in
    let has = subst (λ n. HasTotals code.code a.limit (entered_at n ins) run) entry (c.in_ok-ended.ensures ins c.in_ok-cells.ensures.cells) in
    MatchResult-weaker c.left.result c.left.ensures
    (λ t h. totals-are a.unit.now c.unit-whole.ensures.ready c.unit-whole.ensures.sound code c.requires.made a.function a.args c.requires.count a.limit run t has h)
    (λ e h. subst (IsFaultOf a.unit.now a.function a.limit ins) (sym h) tt)

pub returns-in_err-ended : goal.returns-in_err-ended
returns-in_err-ended g c =
    let a = c.args in
    let code = a.code.now in
    let entry = c.number_at-entry.ensures ∙ ap (λ es. table_of es a.function) c.as_slice.ensures in
    let ins = map Value a.args in
    let p = err_from_is_err_and c.from_residual-in_err-ended.result c.from_residual-in_err-ended.ensures.1 in
    let fault = subst (IsFault code.code a.limit (entered_at c.number_at-entry.result ins)) (sym p.2) (c.in_err-ended.ensures ins c.in_ok-cells.ensures.cells) in
    let own = subst (λ n. IsFault code.code a.limit (entered_at n ins) p.0) entry fault in
    rw p.1 (fault-is a.unit.now c.unit-whole.ensures.ready c.unit-whole.ensures.sound code c.requires.made a.function a.args c.requires.count a.limit p.0 own)
