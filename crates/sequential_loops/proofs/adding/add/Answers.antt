use Rattle.std.proofs.Common.{◌≡◌, ◌+◌, false, List, map, length, subst, refl, ap, arith}
use Rattle.graph_meaning.specs.Carried.{Carried}
use Rattle.graph_meaning.specs.Storage.{capped}
use Rattle.run_code.specs.Collections.{put_all}
use Rattle.run_store.specs.Stored as stored
use Rattle.run_cells.specs.declared.cell.Cell.{Cell}
use Rattle.run_cells.specs.Held.{heap_of}
use Rattle.step_code.specs.declared.step.Collect.{Collect}
use Rattle.step_code.specs.Laid.{puts_of}
use Rattle.step_code.specs.Reading.{so_many}
use Rattle.sequential.specs.declared.machine.Machine.{Machine}
use Rattle.sequential.specs.Agrees.{owned_all}
use Rattle.sequential.specs.Loading.{Loads}
use Rattle.sequential_loops.specs.Laying.{IsLaid, owning}
use Rattle.sequential_loops.specs.Putting.{AreThere, collections_of}
use Rattle.sequential_loops.proofs.PutSteps.{add-goes}
use Rattle.sequential_loops.proofs.adding.add.Goals as goal

pub put_row-requires-clause-room : goal.put_row-requires-clause-room
put_row-requires-clause-room c =
    let out = c.requires.out in
    let counted = c.requires.counted in
    let these = ap length c.collects_from-these.ensures in
    let size = c.in_ok-load.ensures.size in
    omega (arith, out, counted, these, size)

pub returns-clause-does : goal.returns-clause-does
returns-clause-does c =
    let m = c.args.machine.now in
    let a = c.args in
    let code = a.code.now in
    let loaded = c.load.new.loaded.items in
    let mid = c.load.new.cells.items in
    let these = so_many a.collects a.count code.collects in
    let now = c.put_row.new.cells.items in
    let new : Machine = record { pc = a.next; base = m.base; cells = c.put_row.new.cells; calls = m.calls; fires = m.fires; copies = c.with_puts-machine.result; results = c.put_row.new.row } in
    add-goes code a.limit m new a.collects a.count a.froms a.many a.out a.next loaded mid c.load.new.copies c.requires.counted c.requires.columns c.requires.sparing
    (subst (λ os. Loads code m.base os m.cells.items loaded mid m.copies c.load.new.copies) c.operands_from.ensures c.in_ok-load.ensures.loads)
    (subst (λ (xs : List Cell). c.with_puts-machine.result ≡ capped (c.load.new.copies + stored.put_copied (collections_of these) (map puts_of these) (owned_all xs))) c.as_slice.ensures.value
    (subst (λ (zs : List Collect). c.with_puts-machine.result ≡ capped (c.load.new.copies + stored.put_copied (collections_of zs) (map puts_of zs) (owned_all c.as_slice.result.now))) c.collects_from-these.ensures c.with_puts-machine.ensures))
    (subst (λ (zs : List Collect). (ms : List Carried) → AreThere false zs (m.base + a.out) ms (heap_of mid) → IsLaid (m.base + a.out) (length zs) (owning (put_all (collections_of zs) (owned_all loaded) ms)) (heap_of mid) (heap_of now)) c.collects_from-these.ensures c.in_ok-put_row.ensures.puts)
    refl refl (record { base = refl; calls = refl })
