use Rattle.std.proofs.Common.{◌≡◌, ◌∙◌, ◌++◌, ◌∷◌, [], List, ap, map, false}
use Rattle.std.proofs.lemmas.List.{map-append}
use Rattle.lowering.specs.declared.feed.Feed.TheVariants.{Port}
use Rattle.lowering.specs.declared.feed.Wire.{Wire}
use Rattle.lowering.specs.Feeds.{wire, has}
use Rattle.lowered_data.specs.Keyed.{keyed}
use Rattle.lowered_data.proofs.Keying.{inserted}
use Rattle.lowered_data.proofs.keys.Keys.insert.Goals as goal

pub returns : goal.returns
returns c =
    let v = c.args.key in
    let es = c.self.inside.ports.entries in
    let absent : has (map keyed es) (Port v.0 v.1 v.2) ≡ false = ap (λ (ks : List Wire). has ks (Port v.0 v.1 v.2)) c.self.view_is ∙ c.requires in
    ap (map keyed) (c.in_ok-insert.ensures.entries ∙ inserted v c.args.ty es absent)
    ∙ map-append keyed es ((v, c.args.ty) ∷ [])
    ∙ ap (λ (ks : List Wire). ks ++ wire (Port v.0 v.1 v.2) c.args.ty ∷ []) c.self.view_is
