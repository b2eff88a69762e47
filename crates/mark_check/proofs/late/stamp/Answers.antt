use Rattle.std.proofs.Common.{◌∙◌, length, slice_index, Contains, sym, ap, subst}
use Rattle.std.proofs.lemmas.List.{length-set}
use Rattle.std.proofs.lemmas.List.Elements.{Contains-get_or}
use Rattle.if1_reach.proofs.Searches.{items-of}
use Rattle.if1_reach.proofs.Sinking.{fed-inside}
use Rattle.mark_check.proofs.Early.{stamped-more}
use Rattle.mark_check.proofs.late.stamp.Goals as goal

pub set-requires : goal.set-requires
set-requires c =
    let items = items-of c.args.lists.now c.args.taker c.index-lists-taker.result c.as_slice-place-items.result.now c.requires.taker c.index-lists-taker.is c.as_slice-place-items.ensures in
    fed-inside c.args.lists.now c.args.taker (length c.loop-place.stamps) c.as_slice-place-items.result.now c.requires.inside items (sym c.loop-place.invariant.fit) c.loop-place.place-index 0 c.loop-place-test.true

pub loop-place-preserved : goal.loop-place-preserved
loop-place-preserved c =
    let items = items-of c.args.lists.now c.args.taker c.index-lists-taker.result c.as_slice-place-items.result.now c.requires.taker c.index-lists-taker.is c.as_slice-place-items.ensures in
    let place = slice_index c.as_slice-place-items.result.now c.loop-place.place-index in
    record {
      fit = ap length c.set.ensures ∙ (length-set c.loop-place.stamps place c.args.mark ∙ c.loop-place.invariant.fit);
      right = stamped-more c.args.lists.now c.loop-place.stamps c.args.taker c.args.mark place c.loop-place.invariant.right c.requires.mark
          (subst (λ xs. Contains xs place) items (Contains-get_or c.as_slice-place-items.result.now c.loop-place.place-index 0 c.loop-place-test.true)) c.set.new.self c.set.ensures;
    }
