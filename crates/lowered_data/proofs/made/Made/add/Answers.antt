use Rattle.std.proofs.Common.{◌≡◌, List, map}
use Rattle.std.proofs.lemmas.Result.{IfOk-weaker}
use Rattle.lowering.specs.declared.feed.Carried.TheVariants.{One}
use Rattle.lowering.specs.declared.feed.Wire.{Wire}
use Rattle.lowering.specs.Graphs.{a_node, ports}
use Rattle.lowered_data.specs.States.{IsMade}
use Rattle.lowered_data.proofs.Laws.{added}
use Rattle.lowered_data.proofs.made.Made.add.Goals as goal

pub returns : goal.returns
returns c =
    let s = c.args.self.now in
    let t = c.node.new.self in
    let ts = map One c.args.types.now in
    IfOk-weaker c.ports.result (λ (ws : List Wire). ws ≡ ports c.in_ok-label.label c.args.port ts)
    (λ (ws : List Wire). IsMade (a_node c.args.action c.args.ins c.args.port ts) s t ws)
    (λ ws e. added s t c.args.action c.args.ins c.args.port ts ws c.in_ok-label.label c.in_ok-label.ensures.added c.in_ok-label.ensures.label e)
    c.ports.ensures
