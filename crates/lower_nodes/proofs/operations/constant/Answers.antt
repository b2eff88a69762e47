use Rattle.std.proofs.Common.{◌≡◌, List, map}
use Rattle.std.proofs.lemmas.Result.{IfOk-weaker}
use Rattle.lowering.specs.declared.feed.Feed.TheVariants.{Literal}
use Rattle.lowering.specs.declared.feed.Carried.TheVariants.{One}
use Rattle.lowering.specs.declared.feed.Wire.{Wire}
use Rattle.lowering.specs.Feeds.{wire}
use Rattle.lowering.specs.Graphs.{only}
use Rattle.lowering.specs.Operations.{constant_lowered}
use Rattle.lowered_data.specs.States.{IsMade}
use Rattle.lower_nodes.proofs.Walks.{as_made, only_as}
use Rattle.lower_nodes.proofs.Rows.{plain_constant}
use Rattle.lower_nodes.proofs.operations.constant.Goals as goal

pub returns-in_default : goal.returns-in_default
returns-in_default c =
    let k = c.args.constant.now in
    let ts = c.args.types.now in
    let s = c.args.made.now in
    let ws = map (λ t. wire (Literal k) (One t)) ts in
    IfOk-weaker c.literals.result (λ (vs : List Wire). vs ≡ ws) (λ (vs : List Wire). IsMade (constant_lowered k ts) s s vs)
    (λ vs e. as_made (constant_lowered k ts) (only ws) s s vs (plain_constant k ts (λ t h. c.in_default.not-Quoted t h)) (only_as s ws vs e))
    c.literals.ensures
