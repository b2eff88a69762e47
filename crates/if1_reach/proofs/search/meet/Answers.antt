use Rattle.std.proofs.Common.{◌∙◌, sym, ap, false, slice_index_or}
use Rattle.if1_reach.proofs.Searches.{met-as}
use Rattle.if1_reach.proofs.search.meet.Goals as goal

pub returns : goal.returns
returns c =
    met-as c.args.lists.now c.args.to c.args.search.now c.requires.search c.args.place c.args.on c.requires.place c.requires.follows
    (ap (λ xs. slice_index_or xs c.args.place false) (sym c.as_slice.ensures) ∙ c.if-as_slice-place.false)
    c.add.new.self c.set.new.self c.in_ok-add.ensures.ok c.set.ensures
