use Rattle.std.proofs.Common.{rules, Fits, w64, ◌+◌, [], ◌∷◌, sym, ap, ◌∙◌}
use Rattle.graph_meaning.specs.Storage.{capped}
use Rattle.run_store.specs.Stored as stored
use Rattle.run_fuller.proofs.Within.{same-within, taken-left}
use Rattle.run_cells.specs.Held.{heap_of}
use Rattle.step_code.specs.Reading.{operand_in, mode_in}
use Rattle.sequential.proofs.Stepping.{capped-none}
use Rattle.sequential.proofs.bringing.brought_apart.Goals as goal

pub returns-in-Some-clause-left : goal.returns-in-Some-clause-left
returns-in-Some-clause-left c =
    let h = heap_of c.args.cells.now.items in
    taken-left c.args.base (mode_in c.args.code.now c.args.from ∷ []) (operand_in c.args.code.now c.args.from ∷ []) h h (same-within h)

pub returns-in-Some-clause-copies : goal.returns-in-Some-clause-copies
returns-in-Some-clause-copies c =
    let code = c.args.code.now in
    let k = stored.seen (heap_of c.args.cells.now.items) c.args.base (mode_in code c.args.from) (operand_in code c.args.from) in
    let small : Fits w64 c.args.copies.now = search rules in
    sym (capped-none c.args.copies.now small.fits) ∙ ap (λ n. capped (c.args.copies.now + n)) (sym (c.in-Some.ensures.none k))
