use Rattle.std.proofs.Common.{◌∙◌}
use Rattle.source_meaning.proofs.Renewals.{set_middle, set_outside}
use Rattle.source_meaning.proofs.loops.put.Goals as goal

pub returns-then-place-height : goal.returns-then-place-height
returns-then-place-height c =
    c.set.ensures ∙ set_middle c.args.mark c.args.height c.args.place c.args.names.now c.args.v c.requires.within c.requires.there c.if-place-height.true

pub returns-else-place-height : goal.returns-else-place-height
returns-else-place-height c =
    set_outside c.args.mark c.args.height c.args.place c.args.names.now c.args.v c.requires.within c.requires.there c.if-place-height.false
