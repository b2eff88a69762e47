use Rattle.std.proofs.Common.{◌∙◌, ◌++◌, ◌∷◌, [], List, map, take, ap}
use Rattle.lowering.specs.declared.feed.Wire.{Wire}
use Rattle.lowered_data.specs.Keyed.{keyed}
use Rattle.lowered_data.proofs.Keying.{Entry, keyed_more}
use Rattle.lowered_data.proofs.keys.Keys.wires.Goals as goal

pub loop-place-preserved : goal.loop-place-preserved
loop-place-preserved c =
    let es = c.self.inside.ports.entries in
    let i = c.loop-place.place in
    let e : Entry = (c.in-Some.port.now, c.in-Some.ty.now) in
    c.in_ok-add.ensures.ok
    ∙ ap (λ (ws : List Wire). ws ++ c.keyed.result ∷ []) c.loop-place.invariant
    ∙ ap (λ (w : Wire). take i (map keyed es) ++ w ∷ []) c.keyed.ensures
    ∙ keyed_more es i e c.in-Some.ensures.entry
