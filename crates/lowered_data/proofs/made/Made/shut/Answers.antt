use Rattle.std.proofs.Common.{◌≡◌, ◌∙◌, ◌++◌, List, ap}
use Rattle.lowering.specs.declared.feed.Wire.{Wire}
use Rattle.lowering.specs.Feeds.{carried}
use Rattle.lowered_data.specs.States.{made}
use Rattle.lowered_data.proofs.Parts.{shut_as}
use Rattle.lowered_data.proofs.made.Made.shut.Goals as goal

pub returns-clause-part : goal.returns-clause-part
returns-clause-part c = λ f before is p.
    let b = c.args.self.now in
    let vs = c.args.results in
    let noted : c.note.new.self ≡ made b.first b.nodes b.graphs (b.lines ++ carried vs) =
    c.in_ok-note.ensures ∙ ap (λ (ws : List Wire). made b.first b.nodes b.graphs (b.lines ++ carried ws)) c.as_slice.ensures in
    shut_as f before b c.note.new.self c.args.around vs c.replace-nodes.new.dest c.replace-nodes.result c.set.new.self is p noted c.replace-nodes.ensures.after c.replace-nodes.ensures.value c.set.ensures
