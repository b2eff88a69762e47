use Rattle.std.proofs.Common.{subst, sym}
use Rattle.std.proofs.lemmas.Result.{err_from_is_err_and}
use Rattle.sequential_run.specs.Runs.{IsDecided, LendsBelow, IsFault}
use Rattle.sequential_run.specs.Totals.{entered_at}
use Rattle.sequential_run.proofs.Entering.{entered-stands, one-list, totals-are}
use Rattle.sequential_run.proofs.totals.run_function.Goals as goal

pub run-requires-clause-can : goal.run-requires-clause-can
run-requires-clause-can g c = λ κs h. entered-stands c.args.code.now c.args.entry c.args.room c.in_ok-machine.machine c.requires.can c.in_ok-machine.ensures.block

pub run-requires-clause-begun : goal.run-requires-clause-begun
run-requires-clause-begun g c = λ κs h.
    let b = c.requires.begun in
    (entered_at c.args.entry b.0, record { at = c.in_ok-machine.ensures.at b.0 b.1; decided = b.2; lends = b.3 })

pub returns : goal.returns
returns g c = λ ins e.
    let a = c.args in
    let b = c.requires.begun in
    let same = one-list a.args.items b.0 ins b.1 e in
    totals-are a.code.now a.limit (entered_at a.entry ins) c.run.new.machine c.totals.result c.in_ok-writes.writes c.totals.ensures.results c.totals.ensures.fires c.totals.ensures.copies c.totals.ensures.writes
    (c.in_ok-writes.ensures (entered_at a.entry ins) (record {
      at = c.in_ok-machine.ensures.at ins e;
      decided = subst (λ xs. IsDecided a.code.now a.limit (entered_at a.entry xs)) same b.2;
      lends = subst (λ xs. LendsBelow a.code.now a.limit (entered_at a.entry xs)) same b.3;
    }))

pub returns-in_err-machine : goal.returns-in_err-machine
returns-in_err-machine g c = λ ins e.
    let p = err_from_is_err_and c.from_residual.result c.from_residual.ensures.1 in
    rw (p.1, p.2) (subst (IsFault c.args.code.now c.args.limit (entered_at c.args.entry ins)) (sym c.in_err-machine.ensures.refused) tt)

pub returns-in_err-writes : goal.returns-in_err-writes
returns-in_err-writes g c = λ ins e.
    let a = c.args in
    let b = c.requires.begun in
    let same = one-list a.args.items b.0 ins b.1 e in
    let p = err_from_is_err_and c.from_residual-in_err-writes.result c.from_residual-in_err-writes.ensures.1 in
    rw (p.1, p.2) (c.in_err-writes.ensures (entered_at a.entry ins) (record {
      at = c.in_ok-machine.ensures.at ins e;
      decided = subst (λ xs. IsDecided a.code.now a.limit (entered_at a.entry xs)) same b.2;
      lends = subst (λ xs. LendsBelow a.code.now a.limit (entered_at a.entry xs)) same b.3;
    }))
