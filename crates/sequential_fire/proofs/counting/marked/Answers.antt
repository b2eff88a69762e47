use Rattle.std.proofs.Common.{◌≡◌, ℕ, ◌≤◌, ◌+◌, ◌-◌, if◌then◌else◌, true, drop, get_or, length, sym, ap, ◌∙◌, subst, arith}
use Rattle.graph_meaning.specs.Storage.{capped, leaves_of, leaves_at}
use Rattle.run_cells.specs.Held.{held}
use Rattle.run_store.specs.Stored as stored
use Rattle.sequential.specs.Agrees.{owned_all}
use Rattle.sequential.proofs.LoadSteps.{capped-most}
use Rattle.sequential_fire.proofs.Counts.{capped-more, capped-end, marked-more, split-item, none-behind}
use Rattle.sequential_fire.proofs.counting.marked.Goals as goal

pub loop-place-preserved : goal.loop-place-preserved
loop-place-preserved c =
    let l = c.loop-place in
    let made = c.args.made.now in
    let marks = c.args.marks.now in
    let test = λ (port : ℕ). get_or marks (port - 1) true in
    let k = stored.owned_in (held c.index-made-place.result) in
    let rest = owned_all (drop (l.place + 1) made) in
    let lt = c.loop-place-test.true in
    let end = l.invariant.end in
    let split = split-item made l.place c.index-made-place.result (omega (arith, lt, end)) c.index-made-place.is in
    let x = if get_or marks l.place true then leaves_of k else 0 in
    let y = leaves_at test ((l.place + 1) + 1) rest in
    let e = c.saturating_add-sum.ensures ∙ ap (λ z. capped (l.sum + z)) (c.marked_one.ensures ∙ ap (λ b. capped (if b then leaves_of k else 0)) c.mark_at.ensures) in
    record {
      end = l.invariant.end;
      small = subst (λ n. n ≤ 18446744073709551615) (sym e) (capped-most (l.sum + capped x));
      total = ap (λ s. capped (s + y)) e
          ∙ (capped-more l.sum x y
          ∙ (ap (λ n. capped (l.sum + n)) (sym (marked-more marks l.place k rest))
          ∙ subst (λ xs. capped (l.sum + leaves_at test (l.place + 1) (owned_all xs)) ≡ capped (leaves_at test 1 (owned_all made))) split l.invariant.total));
    }

pub returns : goal.returns
returns c =
    let l = c.loop-place in
    let no = c.loop-place-test.false in
    let end = l.invariant.end in
    let made = c.args.made.now in
    let marks = c.args.marks.now in
    let over : length made ≤ l.place = omega (arith, no, end) in
    capped-end l.sum (capped (leaves_at (λ port. get_or marks (port - 1) true) 1 (owned_all made))) l.invariant.small
    (subst (λ xs. capped (l.sum + leaves_at (λ port. get_or marks (port - 1) true) (l.place + 1) (owned_all xs)) ≡ capped (leaves_at (λ port. get_or marks (port - 1) true) 1 (owned_all made))) (none-behind made l.place over) l.invariant.total)
