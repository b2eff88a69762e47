use Rattle.std.proofs.Common.{rules, ◌≡◌, ℕ, List, [], ◌∷◌, ◌++◌, refl, sym, ap, ◌∙◌}
use Rattle.flow_value.specs.declared.value.Val.{Val}
use Rattle.meaning.specs.Timed.{plus, andthen}
use Rattle.source_meaning.specs.Slots.{given_values}
use Rattle.meaning.specs.Meaning.{definitions}
use Rattle.source_meaning.specs.Pending.{Rest, rest}
use Rattle.source_meaning.proofs.Follows.{binds, bound, whole_as}
use Rattle.source_meaning.proofs.finish.bind.Goals as goal

pub returns-in_ok-list-in-Some-clause-same : goal.returns-in_ok-list-in-Some-clause-same
returns-in_ok-list-in-Some-clause-same c = λ n p.
    let s : ℕ = c.args.state.now.steps in
    let env : List Val = c.args.state.now.names ++ c.args.values in
    let k : Rest = rest n p c.args.state.now.frames.items in
    let l : c.pending.result.now ≡ c.as_slice.result.now ∷ c.in-Some.rest.now = search rules in
    let t : c.list.new.self.steps ≡ s = search rules in
    let m : c.list.new.self.names ≡ env = search rules in
    let g : given_values c.list.new.self.given ≡ [] = search rules in
    ap (λ x. plus s (andthen x (λ e. k e []))) (sym (c.pending.ensures.same n p env) ∙ ap (λ x. definitions n p x env) l)
    ∙ ap (plus s) (binds n p c.as_slice.result.now c.in-Some.rest.now k env ∙ sym (c.in_ok-list-in-Some.ensures.means n p env))
    ∙ whole_as n p s c.list.new.self.steps c.list.new.self.frames.items env c.list.new.self.names [] (given_values c.list.new.self.given) t m g

pub returns-in-None-clause-same : goal.returns-in-None-clause-same
returns-in-None-clause-same c = λ n p.
    let s : ℕ = c.args.state.now.steps in
    let env : List Val = c.args.state.now.names ++ c.args.values in
    let k : Rest = rest n p c.args.state.now.frames.items in
    let l : c.pending.result.now ≡ [] = search rules in
    let m : c.append.new.self ≡ env = search rules in
    ap (λ x. plus s (andthen x (λ e. k e []))) (sym (c.pending.ensures.same n p env) ∙ ap (λ x. definitions n p x env) l)
    ∙ ap (plus s) (bound n p k env)
    ∙ whole_as n p s s c.args.state.now.frames.items env c.append.new.self [] [] refl m refl
