use Rattle.std.proofs.Common.{◌≡◌, arith, slice_index}
use Rattle.std.proofs.lemmas.List.Elements.{All-push, All-same}
use Rattle.if1_read.specs.Spread.{LeadsTo}
use Rattle.if1_read.proofs.Truly.{part_leads}
use Rattle.if1_read.proofs.reals.add_holder.Goals as goal

pub returns-in_ok-push-in-Ok : goal.returns-in_ok-push-in-Ok
returns-in_ok-push-in-Ok c = λ ts is up holds all.
    let at : slice_index c.args.labels.now c.in-Ok.part ≡ c.args.label = grind (arith, c.in-Ok.ensures.ok 0) in
    All-same (LeadsTo ts) c.push.new.self.items _ c.in_ok-push-in-Ok.ensures.items
    (All-push (LeadsTo ts) c.args.pairs.now.items (c.in-Ok.part, c.args.place) all (part_leads ts c.args.labels.now c.args.label c.in-Ok.part c.args.place is at holds))
