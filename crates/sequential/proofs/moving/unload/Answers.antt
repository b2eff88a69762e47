use Rattle.std.proofs.Common.{◌+◌, ◌-◌, ◌<◌, List, drop, length, ◌∙◌, sym, ap, arith}
use Rattle.run_store.specs.Stored as stored
use Rattle.run_cells.specs.declared.cell.Cell.{Cell}
use Rattle.run_cells.specs.Held.{held, heap_of}
use Rattle.sequential.proofs.MoveSteps.{held-at, unload-more, same-place, same-behind}
use Rattle.sequential.proofs.moving.unload.Goals as goal

pub loop-place-preserved : goal.loop-place-preserved
loop-place-preserved c =
    let l = c.loop-place in
    let n = length c.args.loaded.now.items in
    let test = c.loop-place-test.true in
    let end = c.len-place-end.ensures in
    let room = c.requires in
    let size = l.invariant.size in
    let lt : l.place < n = omega (arith, test, end) in
    let inside : c.args.from + l.place < length l.cells.items = omega (arith, lt, room, size) in
    let cell = c.taken_out-cell.result in
    record {
      size = c.put.ensures.size ∙ l.invariant.size;
      long = c.taken_out-cell.ensures.long ∙ l.invariant.long;
      others = c.taken_out-cell.ensures.others ∙ same-behind l.loaded.items c.args.loaded.now.items l.place l.invariant.others;
      heap = λ hands rs e. l.invariant.heap hands rs e ∙ (unload-more n l.place c.args.from hands rs cell l.cells.items lt inside
          (ap held (c.taken_out-cell.ensures.value ∙ same-place l.loaded.items c.args.loaded.now.items l.place l.invariant.others) ∙ held-at c.args.loaded.now.items hands rs e l.place lt)
          ∙ ap (λ (xs : List Cell). stored.put_from stored.all_kept c.args.from (l.place + 1) (n - (l.place + 1)) (drop (l.place + 1) hands) rs (heap_of xs)) (sym c.put.ensures.cells));
    }
