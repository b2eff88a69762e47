use Rattle.std.proofs.Common.{◌++◌, sym, ap, ◌∙◌, arith, append-nil}
use Rattle.flow_value.specs.Rows.{items_of}
use Rattle.flow_value.proofs.Rows.{no_item}
use Rattle.flow_value.proofs.row.Row.put_all.Goals as goal

pub returns-clause-all : goal.returns-clause-all
returns-clause-all g c =
    let l = c.loop-more in let inv = l.invariant in let over = c.loop-more-test.false in let none = no_item l.more inv.theirs (omega arith) in let xs = items_of l.self in
    (inv.mine, sym (append-nil xs) ∙ ap (λ ys. xs ++ ys) (sym none) ∙ inv.all)

pub returns-clause-left : goal.returns-clause-left
returns-clause-left g c =
    let l = c.loop-more in let inv = l.invariant in let over = c.loop-more-test.false in (inv.theirs, no_item l.more inv.theirs (omega arith))
