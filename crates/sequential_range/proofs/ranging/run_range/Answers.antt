use Rattle.std.proofs.Common.{◌≡◌, ℕ, ◌+◌, Bool, true, false, IsTrue, refl, sym, ap, ◌∙◌, subst, arith}
use Rattle.graph_meaning.specs.Storage.{capped}
use Rattle.run_store.specs.Sums.{has_come}
use Rattle.run_cells.specs.Held.{heap_of}
use Rattle.step_code.specs.declared.code.Code.{Code}
use Rattle.sequential.specs.declared.machine.Machine.{Machine}
use Rattle.sequential.specs.declared.machine.Turn.TheVariants as turn
use Rattle.sequential_run.specs.Passing.{IsLed}
use Rattle.sequential_run.specs.Seen.{seen_written}
use Rattle.sequential_run.specs.Went.{IsQuiet, MayWrite}
use Rattle.sequential_run.specs.Whole.{step_at}
use Rattle.sequential_run.specs.Writes.{writes_at}
use Rattle.sequential_range.specs.Ranges.{Stands, count_of, rests_there}
use Rattle.sequential_range.proofs.Deciding.{AreFree, Came, answered, first-reaches, led-on, never-ends, stepped, stops, wrote}
use Rattle.sequential_range.proofs.Standing.{before-stands, stands-before}
use Rattle.sequential_range.proofs.ranging.run_range.Goals as goal

-- so much was counted, and more
told-more : (n a b old new : ℕ) → capped n ≡ old → a ≡ b → new ≡ capped (old + b) → capped (n + a) ≡ new
told-more n a b old new e f g = omega (arith, e, f, g)

-- where the machine does not stand before the iteration, the range does not end
free-of : (code : Code) (limit each base last cell : ℕ) (m : Machine) → cell ≡ count_of (step_at code each) → (b : Bool) → b ≡ false → (Stands m each base cell last → IsTrue b) → AreFree code limit each base last m
free-of code limit each base last cell m same b off to s begun before =
    let y : false ≡ true = sym off ∙ to (subst (λ n. Stands m each base n last) (sym same) (before-stands code limit each base last m s begun.at before)) in
    cc

pub turns-init : goal.turns-init
turns-init c = record { can = c.requires.can; begun = c.requires.begun; all = λ s b. (s, rests_there s, b, 0, has_come s, refl) }

pub returns-then-stands : goal.returns-then-stands
returns-then-stands c = λ s b.
    let l = c.turns in
    let code = c.args.code.now in
    let limit = c.args.limit in
    let each = c.args.machine.now.pc in
    let base = c.args.machine.now.base in
    let last = c.args.last in
    let x = l.invariant.all s b in
    let same = c.counts_in-counted.ensures ∙ ap count_of c.step_here.ensures in
    let there = c.stands.ensures.0 c.if-stands.true in
    record {
      state = x.0;
      reaches = x.1;
      before = stands-before code limit each base last c.requires.each l.machine x.0 x.2 (subst (λ n. Stands l.machine each base n last) same there);
      at = x.2.at;
      writes = x.3;
      writing = x.4;
      so_many = x.5;
    }

pub turns-smaller-in-Goes : goal.turns-smaller-in-Goes
turns-smaller-in-Goes c =
    let l = c.turns in
    let code = c.args.code.now in
    let limit = c.args.limit in
    let each = c.args.machine.now.pc in
    let base = c.args.machine.now.base in
    let last = c.args.last in
    let m = l.machine in
    let new = c.advance.new.machine in
    let first = l.invariant.begun in
    let free = free-of code limit each base last c.counts_in-counted.result m (c.counts_in-counted.ensures ∙ ap count_of c.step_here.ensures) c.stands.result c.if-stands.false c.stands.ensures.1 in
    let led = subst (λ w. IsLed code limit w m new) c.in-Goes.is c.advance.ensures.led in
    (led-on code limit each base last c.requires.each m new l.invariant.can free first.0 first.1 led).less

pub turns-preserved-in-Goes : goal.turns-preserved-in-Goes
turns-preserved-in-Goes c =
    let l = c.turns in
    let code = c.args.code.now in
    let limit = c.args.limit in
    let each = c.args.machine.now.pc in
    let base = c.args.machine.now.base in
    let last = c.args.last in
    let m = l.machine in
    let new = c.advance.new.machine in
    let first = l.invariant.begun in
    let free = free-of code limit each base last c.counts_in-counted.result m (c.counts_in-counted.ensures ∙ ap count_of c.step_here.ensures) c.stands.result c.if-stands.false c.stands.ensures.1 in
    let led = subst (λ w. IsLed code limit w m new) c.in-Goes.is c.advance.ensures.led in
    let on = led-on code limit each base last c.requires.each m new l.invariant.can free first.0 first.1 led in
    record {
      can = on.can;
      begun = (on.state, on.begun);
      all = λ s b.
          let x = l.invariant.all s b in
          let y = on.on s x.3 (record { state = x.0; reaches = x.1; begun = x.2; writing = x.4 }) in
          (y.state, y.reaches, y.begun, x.3, y.writing, x.5 ∙ sym (c.advance.ensures.quiet (subst IsQuiet (sym c.in-Goes.is) tt)));
    }

pub turns-smaller : goal.turns-smaller
turns-smaller c =
    let l = c.turns in
    let code = c.args.code.now in
    let limit = c.args.limit in
    let each = c.args.machine.now.pc in
    let base = c.args.machine.now.base in
    let last = c.args.last in
    let m = l.machine in
    let new = c.advance.new.machine in
    let first = l.invariant.begun in
    let free = free-of code limit each base last c.counts_in-counted.result m (c.counts_in-counted.ensures ∙ ap count_of c.step_here.ensures) c.stands.result c.if-stands.false c.stands.ensures.1 in
    let led = subst (λ w. IsLed code limit w m new) c.in-Writes.is c.advance.ensures.led in
    (stepped code limit each base last m new l.invariant.can free first.0 first.1 led.0 led.1).less

pub turns-preserved : goal.turns-preserved
turns-preserved c =
    let l = c.turns in
    let code = c.args.code.now in
    let limit = c.args.limit in
    let each = c.args.machine.now.pc in
    let base = c.args.machine.now.base in
    let last = c.args.last in
    let m = l.machine in
    let new = c.advance.new.machine in
    let can = l.invariant.can in
    let first = l.invariant.begun in
    let free = free-of code limit each base last c.counts_in-counted.result m (c.counts_in-counted.ensures ∙ ap count_of c.step_here.ensures) c.stands.result c.if-stands.false c.stands.ensures.1 in
    let led = subst (λ w. IsLed code limit w m new) c.in-Writes.is c.advance.ensures.led in
    let on = stepped code limit each base last m new can free first.0 first.1 led.0 led.1 in
    record {
      can = on.can;
      begun = (on.state, on.begun);
      all = λ s b.
          let x = l.invariant.all s b in
          let came : Came code limit each base last s m x.3 = record { state = x.0; reaches = x.1; begun = x.2; writing = x.4 } in
          let y = on.next s x.3 came in (
            y.state,
            y.reaches,
            y.begun,
            x.3 + writes_at code limit x.0,
            y.writing,
            told-more x.3 (writes_at code limit x.0) (seen_written code (step_at code m.pc) m.base (heap_of new.cells.items)) l.writes c.advance.new.writes x.5
                (wrote code limit each base last m new can x.0 x.2 (on.behind x.0 x.2)) (c.advance.ensures.writes (subst MayWrite (sym c.in-Writes.is) tt)),
          );
    }

pub returns-in-Over : goal.returns-in-Over
returns-in-Over c = λ s b.
    let l = c.turns in
    let code = c.args.code.now in
    let limit = c.args.limit in
    let each = c.args.machine.now.pc in
    let base = c.args.machine.now.base in
    let last = c.args.last in
    let m = l.machine in
    let new = c.advance.new.machine in
    let free = free-of code limit each base last c.counts_in-counted.result m (c.counts_in-counted.ensures ∙ ap count_of c.step_here.ensures) c.stands.result c.if-stands.false c.stands.ensures.1 in
    let x = l.invariant.all s b in
    let led = subst (λ w. IsLed code limit w m new) c.in-Over.is c.advance.ensures.led in
    stops code limit each base last m new x.0 x.2 (free x.0 x.2) s (first-reaches code limit each base last s x.0 x.1) (answered code limit each base last m new x.0 x.2 turn.Over led.0)

pub unreachable-requires : goal.unreachable-requires
unreachable-requires c =
    let l = c.turns in
    let code = c.args.code.now in
    let limit = c.args.limit in
    let each = c.args.machine.now.pc in
    let base = c.args.machine.now.base in
    let last = c.args.last in
    let m = l.machine in
    let new = c.advance.new.machine in
    let first = l.invariant.begun in
    let free = free-of code limit each base last c.counts_in-counted.result m (c.counts_in-counted.ensures ∙ ap count_of c.step_here.ensures) c.stands.result c.if-stands.false c.stands.ensures.1 in
    let led = subst (λ w. IsLed code limit w m new) c.in-Ends.is c.advance.ensures.led in
    never-ends code limit each base last m new first.0 first.1 (free first.0 first.1) (answered code limit each base last m new first.0 first.1 turn.Ends led.1.0)

pub unreachable-requires-in-EndsWriting : goal.unreachable-requires-in-EndsWriting
unreachable-requires-in-EndsWriting c =
    let l = c.turns in
    let code = c.args.code.now in
    let limit = c.args.limit in
    let each = c.args.machine.now.pc in
    let base = c.args.machine.now.base in
    let last = c.args.last in
    let m = l.machine in
    let new = c.advance.new.machine in
    let first = l.invariant.begun in
    let free = free-of code limit each base last c.counts_in-counted.result m (c.counts_in-counted.ensures ∙ ap count_of c.step_here.ensures) c.stands.result c.if-stands.false c.stands.ensures.1 in
    let led = subst (λ w. IsLed code limit w m new) c.in-EndsWriting.is c.advance.ensures.led in
    never-ends code limit each base last m new first.0 first.1 (free first.0 first.1) (answered code limit each base last m new first.0 first.1 turn.Ends led.0)
