use Rattle.std.proofs.Common.{rules, ◌≡◌, ◌+◌, length, sym, ap, ◌∙◌}
use Rattle.meaning.specs.Timed.{plus}
use Rattle.source_meaning.specs.Slots.{slot_values}
use Rattle.meaning.specs.Sources.{places_of}
use Rattle.source_meaning.specs.Pending.{rest}
use Rattle.source_meaning.proofs.Laws.{moves_same, passes_back}
use Rattle.source_meaning.proofs.Walks.{opened, span_is}
use Rattle.source_meaning.proofs.loops.span.Goals as goal

pub returns-clause-same : goal.returns-clause-same
returns-clause-same c = λ g n p.
    let parts = c.args.parts in
    let old = c.args.state.now in
    let now = c.count.new.self in
    let x = c.in_ok-places.places in
    let places : places_of parts.form.now.sources (slot_values old.names c.args.bounds) ≡ x =
    sym (c.in_ok-places.ensures
    ∙ ap (λ ss. places_of ss (slot_values c.as_slice.result.now c.as_slice-2.result.now)) c.as_slice-sources.ensures
    ∙ ap (λ e. places_of parts.form.now.sources (slot_values e c.as_slice-2.result.now)) (c.as_slice.ensures ∙ c.count.ensures.names)
    ∙ ap (λ bs. places_of parts.form.now.sources (slot_values old.names bs)) c.as_slice-2.ensures) in
    let steps : now.steps ≡ old.steps + length parts.form.now.sources = search rules in
    let frames : now.frames.items ≡ old.frames.items = ap (λ v. v.items) c.count.ensures.frames in
    span_is n p parts (rest n p old.frames.items) old.names (slot_values old.names c.args.bounds) old.steps x places
    ∙ ap (λ s. plus s (opened n p parts (rest n p old.frames.items) old.names (slot_values old.names c.args.bounds) x)) (sym steps)
    ∙ ap (λ fs. plus now.steps (opened n p parts (rest n p fs) old.names (slot_values old.names c.args.bounds) x)) (sym frames)
    ∙ ap (λ e. plus now.steps (opened n p parts (rest n p now.frames.items) e (slot_values e c.args.bounds) x)) (sym c.count.ensures.names)
    ∙ c.in_ok-going.ensures.same g n p

pub returns-clause-limit : goal.returns-clause-limit
returns-clause-limit c = λ g p.
    let parts = c.args.parts in
    let old = c.args.state.now in
    let now = c.count.new.self in
    let x = c.in_ok-places.places in
    let places : places_of parts.form.now.sources (slot_values old.names c.args.bounds) ≡ x =
    sym (c.in_ok-places.ensures
    ∙ ap (λ ss. places_of ss (slot_values c.as_slice.result.now c.as_slice-2.result.now)) c.as_slice-sources.ensures
    ∙ ap (λ e. places_of parts.form.now.sources (slot_values e c.as_slice-2.result.now)) (c.as_slice.ensures ∙ c.count.ensures.names)
    ∙ ap (λ bs. places_of parts.form.now.sources (slot_values old.names bs)) c.as_slice-2.ensures) in
    let steps : now.steps ≡ old.steps + length parts.form.now.sources = search rules in
    let frames : now.frames.items ≡ old.frames.items = ap (λ v. v.items) c.count.ensures.frames in
    passes_back c.args.limit _ _
    (moves_same _ _ (λ n.
    span_is n p parts (rest n p old.frames.items) old.names (slot_values old.names c.args.bounds) old.steps x places
    ∙ ap (λ s. plus s (opened n p parts (rest n p old.frames.items) old.names (slot_values old.names c.args.bounds) x)) (sym steps)
    ∙ ap (λ fs. plus now.steps (opened n p parts (rest n p fs) old.names (slot_values old.names c.args.bounds) x)) (sym frames)
    ∙ ap (λ e. plus now.steps (opened n p parts (rest n p now.frames.items) e (slot_values e c.args.bounds) x)) (sym c.count.ensures.names)))
    (c.in_ok-going.ensures.limit g p)
