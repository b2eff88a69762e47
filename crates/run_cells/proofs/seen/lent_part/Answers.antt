use Rattle.std.proofs.Common.{◌∙◌, sym, ap}
use Rattle.run_store.specs.Stored as stored
use Rattle.run_cells.specs.Held.{heap_of}
use Rattle.run_cells.specs.Sights.{seen_from, seen_value}
use Rattle.run_cells.proofs.Parts.{viewed-from}
use Rattle.run_cells.proofs.seen.lent_part.Goals as goal

pub returns : goal.returns
returns c =
    let l = c.args.lent.now in
    c.part_of.ensures ∙ (ap (seen_from (seen_value c.at.result)) c.as_slice.ensures ∙ ap (λ k. seen_from k l.parts) c.at.ensures ∙ sym (viewed-from stored.Whole l.parts (stored.owned_in (heap_of c.args.cells.now l.owner))))
