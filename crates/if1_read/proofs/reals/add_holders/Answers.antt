use Rattle.std.proofs.Common.{sym, ◌∙◌, subst}
use Rattle.std.specs.List.Sorted.{IsStrictlyIncreasing}
use Rattle.if1_read.proofs.Truly.{first_holds, second_holds}
use Rattle.if1_read.proofs.reals.add_holders.Goals as goal

pub returns : goal.returns
returns c = λ ts is up at all.
    let rising = subst IsStrictlyIncreasing is up in
    let no_basic = sym c.is_basic.ensures ∙ c.if-is_basic.false in
    c.in_ok-add_holder-2.ensures ts is up (second_holds ts c.args.place c.args.entry.now rising at no_basic)
    (c.in_ok-add_holder.ensures ts is up (first_holds ts c.args.place c.args.entry.now rising at no_basic) all)
