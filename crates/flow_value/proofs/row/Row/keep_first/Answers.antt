use Rattle.std.proofs.Common.{◌≤◌, [], ◌∷◌, length, take, sym, ap, ◌∙◌, arith, length-append, take_all}
use Rattle.std.proofs.lemmas.List.{take-append-le}
use Rattle.flow_value.specs.Rows.{items_of}
use Rattle.flow_value.proofs.row.Row.keep_first.Goals as goal

pub loop-self-preserved : goal.loop-self-preserved
loop-self-preserved g c =
    let l = c.loop-self in let inv = l.invariant in let n = c.args.n in let t = items_of c.take_last.new.self in let x = c.take_last.result in let e = c.take_last.ensures.items in
    let more = c.loop-self-test.true in let count = c.count.ensures.items in let long = length-append t (x ∷ []) in let one = ap length e in
    let le : n ≤ length t = omega arith in
    record { row = c.take_last.ensures.row.0; kept = sym (take-append-le n t (x ∷ []) le) ∙ ap (take n) (sym e) ∙ inv.kept }

pub returns : goal.returns
returns g c =
    let l = c.loop-self in let inv = l.invariant in let n = c.args.n in let xs = items_of l.self in let over = c.loop-self-test.false in let count = c.count.ensures.items in
    let le : length xs ≤ n = omega arith in
    (inv.row, sym (take_all n xs le) ∙ inv.kept)
