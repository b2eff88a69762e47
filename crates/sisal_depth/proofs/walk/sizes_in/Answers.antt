use Rattle.std.proofs.Common.{◌≡◌, ◌-◌, ◌∷◌, take, drop, length, get_or, sym, ◌∙◌, ap, arith}
use Rattle.sisal_grammar.specs.Sorts.{args}
use Rattle.sisal_grammar.specs.Plan.{plan}
use Rattle.sisal_depth.specs.Sizes.{grown, sizes_of, token_size, no_token}
use Rattle.sisal_depth.proofs.Walks.{ReadTurn, read_turn, OpenTurn, open_turn}
use Rattle.sisal_depth.proofs.walk.sizes_in.Goals as goal

pub overflow_sub-left : goal.overflow_sub-left
overflow_sub-left c =
    let t : ReadTurn c.args.steps.now c.args.tokens.now c.loop-k.k c.loop-k.left = read_turn c.args.steps.now c.args.tokens.now c.loop-k.k c.loop-k.left c.loop-k-test.true c.loop-k.invariant.within c.requires c.in-Read.is c.loop-k.invariant.place in
    t.some

pub token_at-requires : goal.token_at-requires
token_at-requires c =
    let t : ReadTurn c.args.steps.now c.args.tokens.now c.loop-k.k c.loop-k.left = read_turn c.args.steps.now c.args.tokens.now c.loop-k.k c.loop-k.left c.loop-k-test.true c.loop-k.invariant.within c.requires c.in-Read.is c.loop-k.invariant.place in
    t.within

pub loop-k-preserved-in-Continue-1 : goal.loop-k-preserved-in-Continue-1
loop-k-preserved-in-Continue-1 c =
    let t : ReadTurn c.args.steps.now c.args.tokens.now c.loop-k.k c.loop-k.left = read_turn c.args.steps.now c.args.tokens.now c.loop-k.k c.loop-k.left c.loop-k-test.true c.loop-k.invariant.within c.requires c.in-Read.is c.loop-k.invariant.place in
    let made : c.push.new.self ≡ c.token_at.result ∷ c.loop-k.sizes = c.in_ok-push-in-Read.ensures in
    let same : c.token_at.result ≡ token_size (get_or c.args.tokens.now (c.loop-k.left - 1) no_token) = c.token_at.ensures in
    let rest : c.loop-k.sizes ≡ sizes_of (drop c.loop-k.k c.args.steps.now) (drop c.loop-k.left c.args.tokens.now) = c.loop-k.invariant.values in
    record {
      within = omega (arith, c.loop-k.invariant.within);
      place = t.place;
      values = made ∙ (ap (λ x. x ∷ c.loop-k.sizes) same ∙ (ap (λ l. token_size (get_or c.args.tokens.now (c.loop-k.left - 1) no_token) ∷ l) rest ∙ sym t.sizes));
    }

pub loop-k-preserved : goal.loop-k-preserved
loop-k-preserved c =
    let t : OpenTurn c.args.steps.now c.args.tokens.now c.loop-k.k c.loop-k.left c.in-Open.production = open_turn c.args.steps.now c.args.tokens.now c.loop-k.k c.loop-k.left c.in-Open.production c.loop-k-test.true c.loop-k.invariant.within c.in-Open.is c.loop-k.invariant.place in
    let made : c.push-in-Open.new.self ≡ c.grow-size.result ∷ c.skip.new.self = c.in_ok-push-in-Open.ensures in
    let size : c.grow-size.result ≡ grown c.action_of-action.result (take (length (args c.action_of-action.result)) c.loop-k.sizes) = c.grow-size.ensures in
    let action : c.action_of-action.result ≡ plan.action c.in-Open.production = c.action_of-action.ensures in
    let many : c.arity.result ≡ length (args c.action_of-action.result) = c.arity.ensures in
    let left : c.skip.new.self ≡ drop (length (args c.action_of-action.result)) c.loop-k.sizes = c.skip.ensures ∙ ap (λ n. drop n c.loop-k.sizes) many in
    let rest : c.loop-k.sizes ≡ sizes_of (drop c.loop-k.k c.args.steps.now) (drop c.loop-k.left c.args.tokens.now) = c.loop-k.invariant.values in
    record {
      within = omega (arith, c.loop-k.invariant.within);
      place = t.place;
      values = made ∙ (ap (λ x. x ∷ c.skip.new.self) size
          ∙ (ap (λ l. grown c.action_of-action.result (take (length (args c.action_of-action.result)) c.loop-k.sizes) ∷ l) left
          ∙ (ap (λ a. grown a (take (length (args a)) c.loop-k.sizes) ∷ drop (length (args a)) c.loop-k.sizes) action
          ∙ (ap (λ z. grown (plan.action c.in-Open.production) (take (length (args (plan.action c.in-Open.production))) z) ∷ drop (length (args (plan.action c.in-Open.production))) z) rest ∙ sym t.sizes))));
    }
