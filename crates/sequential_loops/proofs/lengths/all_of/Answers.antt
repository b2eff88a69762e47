use Rattle.std.proofs.Common.{◌≡◌, ◌+◌, ◌-◌, ◌≤◌, ◌&&◌, nat_eq, List, drop, length, sym, ap, ◌∙◌, subst, arith}
use Rattle.std.proofs.lemmas.Bool.{eq-eqb, ne_eqb}
use Rattle.run_cells.specs.Held.{heap_of}
use Rattle.step_code.specs.declared.code.Operand.{Operand}
use Rattle.sequential.specs.Loading.{AreInside, seen_of}
use Rattle.sequential_loops.specs.Spreading.{all_long}
use Rattle.sequential_loops.proofs.Lists.{drop-next, drop-all}
use Rattle.sequential_loops.proofs.lengths.all_of.Goals as goal

pub long_of-found-requires : goal.long_of-found-requires
long_of-found-requires c =
    let l = c.loop-place in
    (subst (AreInside c.args.code.now (length c.args.cells.now - c.args.base)) (drop-next c.args.operands.now l.place c.operand_at-operand.result c.operand_at-operand.ensures) l.invariant.inside).0

pub returns-then-found-places : goal.returns-then-found-places
returns-then-found-places c =
    let l = c.loop-place in
    let code = c.args.code.now in
    let h = heap_of c.args.cells.now in
    let os = c.args.operands.now in
    let a = c.operand_at-operand.result in
    let n = c.args.places in
    let rest = all_long n (seen_of code c.args.base h (drop (l.place + 1) os)) in
    let same = subst (λ (zs : List Operand). all_long n (seen_of code c.args.base h zs) ≡ all_long n (seen_of code c.args.base h os)) (drop-next os l.place a c.operand_at-operand.ensures) l.invariant.same in
    let is = c.long_of-found.ensures.places in
    ap (λ b. b && rest) (sym (ne_eqb c.long_of-found.result n c.if-found-places.true)) ∙ (ap (λ k. nat_eq k n && rest) is ∙ same)

pub loop-place-preserved : goal.loop-place-preserved
loop-place-preserved c =
    let l = c.loop-place in
    let code = c.args.code.now in
    let h = heap_of c.args.cells.now in
    let os = c.args.operands.now in
    let a = c.operand_at-operand.result in
    let n = c.args.places in
    let split = drop-next os l.place a c.operand_at-operand.ensures in
    let rest = all_long n (seen_of code c.args.base h (drop (l.place + 1) os)) in
    let same = subst (λ (zs : List Operand). all_long n (seen_of code c.args.base h zs) ≡ all_long n (seen_of code c.args.base h os)) split l.invariant.same in
    let is = c.long_of-found.ensures.places in
    record {
      end = l.invariant.end;
      inside = (subst (AreInside code (length c.args.cells.now - c.args.base)) split l.invariant.inside).1;
      same = ap (λ b. b && rest) (sym (eq-eqb c.long_of-found.result n c.if-found-places.false)) ∙ (ap (λ k. nat_eq k n && rest) is ∙ same);
    }

pub returns : goal.returns
returns c =
    let l = c.loop-place in
    let os = c.args.operands.now in
    let n = c.args.places in
    let no = c.loop-place-test.false in
    let end = l.invariant.end in
    let over : length os ≤ l.place = omega (arith, no, end) in
    subst (λ (zs : List Operand). all_long n (seen_of c.args.code.now c.args.base (heap_of c.args.cells.now) zs) ≡ all_long n (seen_of c.args.code.now c.args.base (heap_of c.args.cells.now) os)) (drop-all os l.place over) l.invariant.same
