use Rattle.std.proofs.Common.{◌≡◌, ℕ, sym, ap, ◌∙◌, subst}
use Rattle.std.proofs.lemmas.Result.{IfOk-weaker}
use Rattle.if1_graph.specs.declared.graph.Unit1.{Unit1}
use Rattle.if1_graph.specs.Formed.{want_at}
use Rattle.graph_meaning.specs.Demand.{Fixed}
use Rattle.graph_meaning.specs.Networks.{fixed, source_from}
use Rattle.run_cells.specs.Held.{held}
use Rattle.run_code.specs.Made.{Plan}
use Rattle.run_store.specs.Stored.{owned_in}
use Rattle.made_store.specs.Settings.{Shares}
use Rattle.plan_data.specs.declared.plan.Feed.{Feed}
use Rattle.plan_data.specs.declared.plan.PlanData.{PlanData}
use Rattle.plan_data.specs.Stands.{IsFed}
use Rattle.plan_builder.specs.Feeds.{HasLiterals}
use Rattle.plan_builder.specs.Outlets.{AreLaid}
use Rattle.port_feeds.proofs.filled.feed_of.Goals as goal

pub returns-in-Port-clause-fed : goal.returns-in-Port-clause-fed
returns-in-Port-clause-fed c u D P S g same lits laid =
    let e = c.args.edge.now in
    subst (λ o. IsFed D P S g c.port_feed.result (source_from u (want_at c.args.graph.now e.node e.port) e.ty o)) (sym c.in-Port.is) (c.port_feed.ensures.fed D P S g laid)

pub returns-in_ok-cell-in-Lit-clause-fed : goal.returns-in_ok-cell-in-Lit-clause-fed
returns-in_ok-cell-in-Lit-clause-fed c =
    let e = c.args.edge.now in
    let w = want_at c.args.graph.now e.node e.port in
    let text = c.in-Lit.text in
    IfOk-weaker c.literal_feed.result
    (λ (feed : Feed). (D : PlanData) (P : Plan) (S : Shares) (g : ℕ) → HasLiterals c.literal_feed.new.literals D → IsFed D P S g feed (Fixed (owned_in (held c.in_ok-cell-in-Lit.cell))))
    (λ (feed : Feed). (u : Unit1) (D : PlanData) (P : Plan) (S : Shares) (g : ℕ) → u.types ≡ c.args.types.now → HasLiterals c.literal_feed.new.literals D → AreLaid P c.args.outlets.now (P.nodes g) → IsFed D P S g feed (source_from u w e.ty e.from))
    (λ feed fed u D P S g same lits laid.
    let carried : owned_in (held c.in_ok-cell-in-Lit.cell) ≡ fixed u w e.ty text =
    c.in_ok-cell-in-Lit.ensures u same ∙ (ap (λ v. fixed u v e.ty c.as_slice.result.now) c.want_at-want.ensures ∙ ap (fixed u w e.ty) c.as_slice.ensures) in
    subst (λ o. IsFed D P S g feed (source_from u w e.ty o)) (sym c.in-Lit.is) (subst (λ k. IsFed D P S g feed (Fixed k)) carried (fed D P S g lits)))
    c.literal_feed.ensures.fed
