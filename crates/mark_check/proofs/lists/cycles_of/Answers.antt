use Rattle.std.proofs.Common.{ℕ, ◌<◌, length, subst, MatchOption}
use Rattle.if1_order.specs.Walks.{Leads}
use Rattle.if1_reach.specs.Ranks.{IsRanked}
use Rattle.mark_check.proofs.Wrong.{none-circular}
use Rattle.mark_check.proofs.lists.cycles_of.Goals as goal

pub returns : goal.returns
returns c =
    none-circular c.args.lists.now c.in-Some.field-0
    (subst (λ o. MatchOption o ((s : ℕ) × (s < length c.args.lists.now) × Leads c.args.lists.now s s) (IsRanked c.args.lists.now)) c.in-Some.is c.in_ok-ranked.ensures)
