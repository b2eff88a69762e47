use Rattle.std.proofs.Common.{rules, w64, Fits, FitsSigned, ◌≡◌, ◌+◌, ◌-◌, List, length, refl, subst, ap, arith}
use Rattle.std.proofs.lemmas.Int.{to_z-of_z}
use Rattle.flow_value.specs.declared.value.Val.TheVariants as val
use Rattle.graph_meaning.specs.Carried.{Carried, Value}
use Rattle.run_code.specs.Cells.{At}
use Rattle.run_code.specs.Collections.{behind}
use Rattle.run_store.specs.Stored as stored
use Rattle.run_cells.specs.declared.cell.Cell.{Cell}
use Rattle.run_cells.specs.Held.{heap_of}
use Rattle.step_code.specs.declared.code.Operand.TheVariants as operand
use Rattle.sequential.specs.Loading.{AreInside}
use Rattle.sequential.specs.declared.machine.Machine.{Machine}
use Rattle.sequential_loops.proofs.NumberSteps.{number-goes}
use Rattle.sequential_loops.proofs.adding.push.Goals as goal

pub number_in-requires : goal.number_in-requires
number_in-requires c =
    let m = c.args.machine.now in
    let inside = (subst (AreInside c.args.code.now (length m.cells.items - m.base)) c.requires.operand c.requires.inside).0 in
    let e = ap length c.as_slice.ensures.value in
    omega (arith, inside, e)

pub returns-in_ok-put_number-in-Some-clause-does : goal.returns-in_ok-put_number-in-Some-clause-does
returns-in_ok-put_number-in-Some-clause-does c =
    let m = c.args.machine.now in
    let a = c.args in
    let code = a.code.now in
    let n = c.in-Some.n in
    let new : Machine = record { pc = a.next; base = m.base; cells = c.put_number.new.cells; calls = m.calls; fires = m.fires; copies = m.copies; results = m.results } in
    let small : Fits w64 m.copies = search rules in
    let range : FitsSigned w64 n = search rules in
    number-goes code a.limit m new a.collects 1 a.froms 1 a.out a.next n c.requires.counted c.requires.columns c.requires.sparing
    (record {
      operand = operand.Looks a.from;
      only = c.requires.operand;
      uncopied = tt;
      value = subst (λ (xs : List Cell). stored.seen (heap_of xs) m.base stored.Looks (At a.from) ≡ Value (val.Int n)) c.as_slice.ensures.value c.in-Some.ensures;
      keeps = c.requires.keeps;
    })
    small.fits refl
    (subst (λ z. (k : Carried) → heap_of m.cells.items (m.base + a.out) ≡ stored.Owns k → heap_of c.put_number.new.cells.items (m.base + a.out) ≡ stored.Owns (behind k (Value (val.Int z)))) (to_z-of_z w64 n range) c.in_ok-put_number-in-Some.ensures.put)
    c.in_ok-put_number-in-Some.ensures.others refl refl (record { base = refl; calls = refl })
