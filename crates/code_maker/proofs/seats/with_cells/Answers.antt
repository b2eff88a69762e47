use Rattle.std.proofs.Common.{◌+◌, [], ◌∷◌, ◌++◌, sym, ap, ◌∙◌, append_assoc}
use Rattle.code_maker.specs.declared.seats.Seat.TheVariants as seat
use Rattle.code_maker.specs.Seats.{cells_from}
use Rattle.code_maker.proofs.Lists.{cells_push}
use Rattle.code_maker.proofs.seats.with_cells.Goals as goal

pub loop-count-preserved : goal.loop-count-preserved
loop-count-preserved c =
    let i = c.args.from in
    let n = c.loop-count.count in
    let old = c.args.seats.now in
    c.in_ok-add-2.ensures.ok
    ∙ (ap (λ q. q ++ seat.Cell (i + n) ∷ []) c.loop-count.invariant ∙ (append_assoc old (cells_from i n) (seat.Cell (i + n) ∷ []) ∙ ap (λ q. old ++ q) (sym (cells_push i n))))
