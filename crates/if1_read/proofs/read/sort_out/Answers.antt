use Rattle.std.proofs.Common.{◌≡◌, sym, ap, ◌∙◌, length, suc, arith}
use Rattle.std.proofs.lemmas.List.{length_push}
use Rattle.std.proofs.lemmas.Iterator.Adapters.{YieldsList-from_vec}
use Rattle.std.proofs.lemmas.Iterator.Consumers.{YieldsList-turn}
use Rattle.if1_read.proofs.SortedOut.{sorts_more}
use Rattle.if1_read.proofs.read.sort_out.Goals as goal

pub next_number-number-requires : goal.next_number-number-requires
next_number-number-requires c =
    let begun = c.into_iter-line-iterator.ensures.into_iter_gives in
    let turn = YieldsList-turn (YieldsList-from_vec c.into_vec-line-items.result.items begun.0 (begun.1 ∙ c.into_vec-line-items.result.ok.0)) c.loop-line.yielded c.loop-line.line-iterator c.loop-line.yielded_by c.next.result c.next.new.self c.in-Some.line c.in-Some.is c.next.ensures.steps in
    omega (arith, turn.0, ap length c.into_vec-line-items.ensures, c.loop-line.invariant.counts, c.requires)

pub loop-line-preserved : goal.loop-line-preserved
loop-line-preserved c =
    let put = c.in_ok-sorted.ensures in
    record {
      sorts =
          sorts_more c.loop-line.number c.next_number-number.result c.loop-line.yielded c.in-Some.line c.loop-line.sorted c.in_ok-sorted.sorted c.next_number-number.ensures
          c.loop-line.invariant.sorts put.clean put.puts put.sorts;
      counts = omega (arith, c.next_number-number.ensures, c.loop-line.invariant.counts, length_push c.loop-line.yielded c.in-Some.line);
    }
