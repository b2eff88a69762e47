use Rattle.std.proofs.Common.{◌≡◌, subst, sym, ap, ◌∙◌, arith}
use Rattle.std.specs.Result.{IfOk}
use Rattle.graph_meaning.specs.Storage.{capped}
use Rattle.run_cells.specs.Held.{heap_of}
use Rattle.sequential.specs.Agrees.{owned_all}
use Rattle.sequential_fire.proofs.CountRows.{last-one, last-more}
use Rattle.sequential_fire.proofs.counting.last.Goals as goal

pub returns-in-len1 : goal.returns-in-len1
returns-in-len1 c =
    let a = c.args in
    let least = c.in-len1.len_at_least in
    let most = c.in-len1.len_below in
    c.marked.ensures ∙ ap capped (sym (last-one a.code.now a.base (heap_of a.cells.now) a.operands.now (owned_all a.made.now) (omega (arith, least, most))))

pub returns-in-len2-up : goal.returns-in-len2-up
returns-in-len2-up c =
    let a = c.args in
    let least = c.in-len2-up.len_at_least in
    subst (λ n. IfOk c.kept.result (λ m. m ≡ capped n)) (sym (last-more a.code.now a.base (heap_of a.cells.now) a.operands.now (owned_all a.made.now) (omega (arith, least)))) c.kept.ensures
