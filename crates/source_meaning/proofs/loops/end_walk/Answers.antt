use Rattle.std.proofs.Common.{rules, w64, FitsSigned, ◌≡◌, ◌+◌, length, sym, ap, ◌∙◌}
use Rattle.std.proofs.lemmas.Int.{to_z-of_z}
use Rattle.source_meaning.specs.Slots.{slot_values}
use Rattle.meaning.specs.Sources.{lower_of}
use Rattle.meaning.specs.Rows.{made}
use Rattle.source_meaning.specs.Pending.{rest}
use Rattle.source_meaning.proofs.Walks.{walk_end, whole_is}
use Rattle.source_meaning.proofs.loops.end_walk.Goals as goal

pub returns-clause-same : goal.returns-clause-same
returns-clause-same c = λ g n p.
    let w = c.args.walked in
    let env = c.args.state.now.names in
    let steps : c.count.new.self.steps ≡ c.args.state.now.steps + length w.parts.form.now.clauses = search rules in
    let frames : c.count.new.self.frames.items ≡ c.args.state.now.frames.items = ap (λ v. v.items) c.count.ensures.frames in
    let range : FitsSigned w64 c.lower_of-lower.result = search rules in
    let lower : c.lower_of-lower.result ≡ lower_of (slot_values env w.bounds) =
    c.lower_of-lower.ensures
    ∙ ap (λ e. lower_of (slot_values e c.as_slice-2.result.now)) (c.as_slice.ensures ∙ c.count.ensures.names)
    ∙ ap (λ bs. lower_of (slot_values env bs)) c.as_slice-2.ensures in
    let values : c.in_ok-values.values ≡ made (lower_of (slot_values env w.bounds)) w.clauses.items =
    c.in_ok-values.ensures
    ∙ ap (λ lo. made lo w.clauses.items) (to_z-of_z w64 c.lower_of-lower.result range ∙ lower) in
    walk_end n p w (rest n p c.args.state.now.frames.items) env w.clauses.items c.args.state.now.steps c.requires
    ∙ sym (whole_is n p _ _ _ _ _ _ _ _ steps frames c.count.ensures.names values)
