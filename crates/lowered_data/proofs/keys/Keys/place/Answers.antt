use Rattle.std.proofs.Common.{◌∙◌, List, ap, sym}
use Rattle.lowering.specs.declared.feed.Feed.TheVariants.{Port}
use Rattle.lowering.specs.declared.feed.Wire.{Wire}
use Rattle.lowering.specs.Feeds.{place}
use Rattle.lowered_data.proofs.Keying.{Key, found, missed}
use Rattle.lowered_data.proofs.keys.Keys.place.Goals as goal

pub returns-in-Some-clause-place : goal.returns-in-Some-clause-place
returns-in-Some-clause-place c =
    let v : Key = (c.args.up, c.args.node, c.args.port) in
    sym (found v c.self.inside.ports.entries c.in-Some.place c.in-Some.ensures.index).0
    ∙ ap (λ (ks : List Wire). place ks (Port c.args.up c.args.node c.args.port)) c.self.view_is

pub returns-in-None-clause-place : goal.returns-in-None-clause-place
returns-in-None-clause-place c =
    let v : Key = (c.args.up, c.args.node, c.args.port) in
    c.len-count.ensures.len
    ∙ sym (missed v c.self.inside.ports.entries c.in-None.ensures.index).0
    ∙ ap (λ (ks : List Wire). place ks (Port c.args.up c.args.node c.args.port)) c.self.view_is
