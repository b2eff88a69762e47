use Rattle.std.proofs.Common.{rules, ◌≡◌, suc, ◌-◌, ◌++◌, ap, ◌∙◌, arith}
use Rattle.meaning.specs.Timed.{plus, andthen}
use Rattle.source_meaning.specs.Slots.{slot_values, given_values}
use Rattle.meaning.specs.Sources.{names_at}
use Rattle.source_meaning.specs.Pending.{rest, finish}
use Rattle.meaning.specs.Meaning.{meanings, definitions}
use Rattle.source_meaning.specs.declared.state.After.TheVariants as after
use Rattle.source_meaning.proofs.Walks.{walk_step}
use Rattle.source_meaning.proofs.loops.begin_place.Goals as goal

pub returns-clause-means : goal.returns-clause-means
returns-clause-means c = λ n p.
    let w = c.args.walked in
    let env = c.args.state.now.names in
    let left : w.left ≡ suc (w.left - 1) = omega (arith, c.requires) in
    let ns = names_at w.parts.form.now.sources (slot_values env w.bounds) (w.count - suc (w.left - 1)) in
    let place : c.saturating_sub-place.result ≡ w.count - suc (w.left - 1) = c.saturating_sub-place.ensures ∙ ap (λ l. w.count - l) left in
    let more : c.in_ok-more.more ≡ ns =
    c.in_ok-more.ensures
    ∙ ap (λ ss. names_at ss (slot_values c.as_slice.result.now c.as_slice-2.result.now) c.saturating_sub-place.result) c.as_slice-sources.ensures
    ∙ ap (λ e. names_at w.parts.form.now.sources (slot_values e c.as_slice-2.result.now) c.saturating_sub-place.result) c.as_slice.ensures
    ∙ ap (λ bs. names_at w.parts.form.now.sources (slot_values env bs) c.saturating_sub-place.result) c.as_slice-2.ensures
    ∙ ap (names_at w.parts.form.now.sources (slot_values env w.bounds)) place in
    let names : c.define.new.self.names ≡ env ++ ns = search rules in
    let next = finish n p (after.Next (record w { mark = c.len-mark.result; left = w.left - 1 })) (rest n p c.args.state.now.frames.items) in
    let h = c.in_ok-define.ensures.means n p (env ++ ns) in
    ap (λ e. plus 1 (rest n p c.define.new.self.frames.items e (given_values c.define.new.self.given))) names
    ∙ ap (λ vs. plus 1 (rest n p c.define.new.self.frames.items (env ++ ns) vs)) c.in_ok-define.ensures.given
    ∙ ap (plus 1) h
    ∙ ap (λ ds. plus 1 (andthen (definitions n p ds (env ++ ns)) (λ e. andthen (meanings n p c.as_slice-values.result.now e) (next e)))) c.as_slice-3.ensures
    ∙ ap (λ vs. plus 1 (andthen (definitions n p w.parts.defs.now (env ++ ns)) (λ e. andthen (meanings n p vs e) (next e)))) c.as_slice-values.ensures
    ∙ walk_step n p w c.len-mark.result (w.left - 1) (rest n p c.args.state.now.frames.items) env left c.len-mark.ensures
