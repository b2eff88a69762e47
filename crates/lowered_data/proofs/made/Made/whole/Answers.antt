use Rattle.std.proofs.Common.{◌≡◌, ◌∙◌, List, ap, map}
use Rattle.std.proofs.lemmas.Result.{IfOk-weaker}
use Rattle.lowering.specs.declared.feed.Carried.TheVariants.{One}
use Rattle.lowering.specs.declared.feed.Wire.{Wire}
use Rattle.lowering.specs.Graphs.{ports, whole}
use Rattle.lowered_data.specs.States.{IsMade, new_parts}
use Rattle.lowered_data.proofs.Parts.{whole_made}
use Rattle.lowered_data.proofs.made.Made.whole.Goals as goal

pub returns : goal.returns
returns c = λ before fs parts places.
    let after = c.add_whole.new.self in
    let ts = c.args.types.now in
    IfOk-weaker c.ports.result (λ (ws : List Wire). ws ≡ ports c.len.result 1 (map One ts))
    (λ (ws : List Wire). IsMade (whole c.args.compound (new_parts before fs) c.args.arms c.args.given c.args.types.now) before after ws)
    (λ ws e. whole_made c.args.compound fs c.args.arms c.args.given c.args.types.now before c.args.self.now after c.args.places.now ws parts places
    c.in_ok-add_whole.ensures (e ∙ ap (λ n. ports n 1 (map One ts)) c.len.ensures))
    c.ports.ensures
