use Rattle.std.proofs.Common.{◌∷◌, [], sym, subst}
use Rattle.std.proofs.lemmas.Result.{on_ok_weaker}
use Rattle.lowering.specs.declared.feed.Feed.TheVariants.{Literal}
use Rattle.lowering.specs.declared.feed.Carried.TheVariants.{One}
use Rattle.lowering.specs.Feeds.{wire}
use Rattle.lowering.specs.Operations.{boolean}
use Rattle.lowered_data.specs.declared.made.Made.{Made}
use Rattle.lowered_data.specs.States.{IsMade, opened}
use Rattle.lower_nodes.specs.Rows.{truth_of}
use Rattle.lower_nodes.proofs.Walks.{only_as}
use Rattle.lower_nodes.proofs.operations.truth.Goals as goal

pub returns-clause-part : goal.returns-clause-part
returns-clause-part c =
    let s = c.args.made.now in
    let k = c.args.constant in
    let vs = c.in_ok-values.values in
    let p : IsMade (truth_of k) (opened s) c.open.new.self vs =
    subst (λ (b : Made). IsMade (truth_of k) (opened s) b vs) (sym c.in_ok-around.ensures.opened)
    (only_as (opened s) (wire (Literal k) (One boolean) ∷ []) vs c.in_ok-values.ensures) in
    on_ok_weaker c.shut.result (λ h. h (truth_of k) s c.in_ok-around.ensures.around p) c.shut.ensures.part
