use Rattle.std.proofs.Common.{◌∙◌, ◌∷◌, ◌++◌, [], List, Bool, ap, subst, sym}
use Rattle.if1_graph.specs.Normal.{IsNormal}
use Rattle.storage_flags.proofs.Found.{consumer-rows, consumers-told}
use Rattle.storage_flags.proofs.tables.consumed_edges.Goals as goal

pub consuming_edges-requires-clause-normal : goal.consuming_edges-requires-clause-normal
consuming_edges-requires-clause-normal c = subst IsNormal (sym c.unit-whole.ensures.unit) c.unit-whole.ensures.normal

pub returns-clause-rows : goal.returns-clause-rows
returns-clause-rows c =
    let known = c.in_ok-known.known.items in
    consumers-told c.args.unit.now c.unit-whole.result.now c.unit-whole.ensures.unit c.unit-whole.ensures.ready.formed c.unit-whole.ensures.normal known c.append.new.self.items
    c.in_ok-known.ensures
    (c.in_ok-append.ensures.items
    ∙ (ap (λ (xs : List (List Bool)). xs ++ known) c.in_ok-push.ensures.items
    ∙ (ap (λ (xs : List (List Bool)). (xs ++ c.new.result ∷ []) ++ known) c.new-rows.ensures.items ∙ ap (λ (x : List Bool). x ∷ known) c.new.ensures)))

pub returns-clause-flags : goal.returns-clause-flags
returns-clause-flags c = consumer-rows c.args.unit.now c.unit-whole.ensures.ready.formed c.append.new.self.items (returns-clause-rows c)
