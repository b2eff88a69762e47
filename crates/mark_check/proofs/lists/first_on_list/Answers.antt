use Rattle.std.proofs.Common.{refl, subst, slice_index, All, false}
use Rattle.std.proofs.lemmas.List.{take_all}
use Rattle.std.proofs.lemmas.List.Elements.{All-more, Contains-get_or}
use Rattle.if1_marks.proofs.Tests.{no-both}
use Rattle.mark_check.specs.Entries.{IsWrong}
use Rattle.mark_check.proofs.Wrong.{first-here}
use Rattle.mark_check.proofs.lists.first_on_list.Goals as goal

pub is_wrong-requires-clause-linked : goal.is_wrong-requires-clause-linked
is_wrong-requires-clause-linked c =
    c.requires.linked (slice_index c.args.list.now c.loop-label.label-index) (Contains-get_or c.args.list.now c.loop-label.label-index 0 c.loop-label-test.true)

pub returns-then-is_wrong : goal.returns-then-is_wrong
returns-then-is_wrong c = λ g w.
    first-here (λ l. IsWrong g (slice_index c.args.labels.now c.args.at, l)) c.args.list.now c.loop-label.label-index (slice_index c.args.list.now c.loop-label.label-index) 0 c.loop-label-test.true refl (c.loop-label.invariant g w)
    ((c.if-is_wrong.ensures g w).0 refl)

pub loop-label-preserved : goal.loop-label-preserved
loop-label-preserved c = λ g w.
    All-more (λ l. ¬ IsWrong g (slice_index c.args.labels.now c.args.at, l)) c.args.list.now c.loop-label.label-index 0 c.loop-label-test.true (c.loop-label.invariant g w)
    (λ x. no-both false ((c.if-is_wrong.ensures g w).1 x) refl)

pub returns : goal.returns
returns c = λ g w.
    subst (All (λ l. ¬ IsWrong g (slice_index c.args.labels.now c.args.at, l))) (take_all c.loop-label.label-index c.args.list.now c.loop-label-test.false) (c.loop-label.invariant g w)
