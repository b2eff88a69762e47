use Rattle.std.proofs.Common.{rules, ◌≡◌, ◌+◌, true, [], length, take, drop, refl, sym, ap, ◌∙◌}
use Rattle.meaning.specs.Timed.{plus, andthen}
use Rattle.source_meaning.specs.Slots.{given_values}
use Rattle.source_meaning.specs.Pending.{rest, round, turned_next, finish}
use Rattle.meaning.specs.Meaning.{meanings, definitions}
use Rattle.source_meaning.specs.declared.state.After.TheVariants as after
use Rattle.source_meaning.proofs.Laws.{plus_plus}
use Rattle.source_meaning.proofs.Walks.{whole_is}
use Rattle.source_meaning.proofs.Turns.{turn_is}
use Rattle.source_meaning.proofs.loops.go.Goals as goal

pub returns-clause-same : goal.returns-clause-same
returns-clause-same c = λ g n p.
    let r = c.args.round in
    let names = c.args.state.now.names in
    let s = c.args.state.now.steps in
    let new = c.define.new.self in
    let turned = turned_next n p r.parts (take r.mark names) (drop r.mark names) in
    let frames : c.count.new.self.frames.items ≡ c.args.state.now.frames.items = ap (λ v. v.items) c.count.ensures.frames in
    let height : c.len-height.result ≡ length names = c.len-height.ensures ∙ ap length c.count.ensures.names in
    let steps : new.steps ≡ s + 1 = search rules in
    let same : new.names ≡ names = search rules in
    let turn = turn_is n p r c.lesser-mark.result c.len-height.result (rest n p c.count.new.self.frames.items) names height c.lesser-mark.ensures.within c.lesser-mark.ensures.first c.lesser-mark.ensures.second in
    plus_plus s 1 (andthen turned (λ l. round n p r.parts true (rest n p c.args.state.now.frames.items) (take r.mark names) r.clauses.items l))
    ∙ ap (λ fs. plus (s + 1) (andthen turned (λ l. round n p r.parts true (rest n p fs) (take r.mark names) r.clauses.items l))) (sym frames)
    ∙ ap (plus (s + 1)) (sym (c.in_ok-define.ensures.means n p names
    ∙ ap (λ ds. andthen (definitions n p ds names) (λ e. andthen (meanings n p [] e) (finish n p (after.Renew (record r { mark = c.lesser-mark.result; height = c.len-height.result })) (rest n p c.count.new.self.frames.items) e))) c.as_slice-defs.ensures
    ∙ turn))
    ∙ sym (whole_is n p new.steps (s + 1) new.frames.items new.frames.items new.names names (given_values new.given) [] steps refl same c.in_ok-define.ensures.given)
