use Rattle.std.proofs.Common.{◌≡◌, ◌+◌, ◌∷◌, List, [], ℕ, drop, length, map, get_or, take, ◌<◌, ◌-◌, ◌≤◌, Some, arith, sym, ◌∙◌, ap, subst}
use Rattle.std.proofs.lemmas.List.{take_all, drop_all}
use Rattle.pushdown.specs.declared.Symbol.TheVariants.{Rule}
use Rattle.pushdown.specs.declared.Step.{Step}
use Rattle.pushdown.specs.declared.Step.TheVariants.{Read, Open}
use Rattle.pushdown.specs.Grammar.{Derives}
use Rattle.pushdown.specs.Meaning.{reads, run, perform}
use Rattle.pushdown.proofs.Values.{reads_all, read_turn, ReadTurn, open_turn, OpenTurn}
use Rattle.sisal_lex.specs.declared.token.Token.{Token}
use Rattle.sisal_grammar.specs.declared.value.Value.TheVariants.{AToken}
use Rattle.sisal_grammar.specs.Acts.{sisal}
use Rattle.sisal_grammar.specs.Classes.{class_of}
use Rattle.sisal_grammar.specs.Language.{language}
use Rattle.sisal_grammar.specs.Placed.{placed}
use Rattle.sisal_grammar.specs.Plan.{plan}
use Rattle.sisal_grammar.specs.Sorts.{args}
use Rattle.sisal_grammar.proofs.Plans.{plan_typed}
use Rattle.parse_stack.specs.Stack.{Tops}
use Rattle.sisal_build.specs.Nowhere.{nowhere}
use Rattle.sisal_build.proofs.Places.{placed_length, placed_classes, map_length}
use Rattle.sisal_build.proofs.Finals.{tops, derived}
use Rattle.sisal_build.proofs.Rooms.{HaveRoom, values_have_room}
use Rattle.sisal_build.proofs.build.values_of.Goals as goal

-- as many tokens are read as there are
all_read : (es : List Step) (ts : List Token) → Derives language (Rule 0 ∷ []) (map class_of (map (λ t. t.kind) ts)) es → reads es ≡ length (placed 0 ts)
all_read es ts d = reads_all (derived es ts d) ∙ map_length (λ t. class_of t.kind) (placed 0 ts)

pub loop-k-init : goal.loop-k-init
loop-k-init c =
    let all : reads c.args.steps.now ≡ length c.args.tokens.now = all_read c.args.steps.now c.args.tokens.now c.requires.derived ∙ placed_length c.args.tokens.now 0 in
    let many : length (placed 0 c.args.tokens.now) ≤ length c.args.tokens.now = omega (arith, placed_length c.args.tokens.now 0) in
    record {
      within = omega arith;
      place = rw (take_all (length c.args.steps.now) c.args.steps.now (omega arith)) (sym all);
      values = rw (drop_all (length c.args.steps.now) c.args.steps.now (omega arith), drop_all (length c.args.tokens.now) (placed 0 c.args.tokens.now) many) (ap (λ s. Some s) (sym c.new-values.ensures));
    }

pub overflow_sub-left : goal.overflow_sub-left
overflow_sub-left c =
    let t : ReadTurn sisal plan c.args.steps.now (placed 0 c.args.tokens.now) c.loop-k.k c.loop-k.left c.loop-k.values nowhere = read_turn sisal plan c.args.steps.now (placed 0 c.args.tokens.now) c.loop-k.k c.loop-k.left c.loop-k.values nowhere c.loop-k-test.true c.loop-k.invariant.within (all_read c.args.steps.now c.args.tokens.now c.requires.derived) c.in-Read.is c.loop-k.invariant.place c.loop-k.invariant.values in
    t.some

pub token_at-requires-clause-there : goal.token_at-requires-clause-there
token_at-requires-clause-there c =
    let t : ReadTurn sisal plan c.args.steps.now (placed 0 c.args.tokens.now) c.loop-k.k c.loop-k.left c.loop-k.values nowhere = read_turn sisal plan c.args.steps.now (placed 0 c.args.tokens.now) c.loop-k.k c.loop-k.left c.loop-k.values nowhere c.loop-k-test.true c.loop-k.invariant.within (all_read c.args.steps.now c.args.tokens.now c.requires.derived) c.in-Read.is c.loop-k.invariant.place c.loop-k.invariant.values in
    subst (λ n. c.loop-k.left - 1 < n) (placed_length c.args.tokens.now 0) t.within

pub loop-k-preserved-in-Continue-branch-2 : goal.loop-k-preserved-in-Continue-branch-2
loop-k-preserved-in-Continue-branch-2 c =
    let t : ReadTurn sisal plan c.args.steps.now (placed 0 c.args.tokens.now) c.loop-k.k c.loop-k.left c.loop-k.values nowhere = read_turn sisal plan c.args.steps.now (placed 0 c.args.tokens.now) c.loop-k.k c.loop-k.left c.loop-k.values nowhere c.loop-k-test.true c.loop-k.invariant.within (all_read c.args.steps.now c.args.tokens.now c.requires.derived) c.in-Read.is c.loop-k.invariant.place c.loop-k.invariant.values in
    let made : c.push.new.self ≡ AToken c.in_ok-token-in-Read.token ∷ c.loop-k.values = c.in_ok-push-in-Read.ensures in
    let same : c.in_ok-token-in-Read.token ≡ get_or (placed 0 c.args.tokens.now) (c.loop-k.left - 1) nowhere = c.in_ok-token-in-Read.ensures in
    record { within = omega arith; place = t.place; values = t.values ∙ ap (λ s. Some s) (ap (λ k. AToken k ∷ c.loop-k.values) (sym same) ∙ sym made) }

pub perform-requires : goal.perform-requires
perform-requires c =
    let t : OpenTurn sisal plan c.args.steps.now (placed 0 c.args.tokens.now) c.loop-k.k c.loop-k.left c.in-Open.production c.loop-k.values = open_turn language sisal plan plan_typed (Rule 0 ∷ []) c.args.steps.now (placed 0 c.args.tokens.now) c.loop-k.k c.loop-k.left c.in-Open.production c.loop-k.values (derived c.args.steps.now c.args.tokens.now c.requires.derived) c.loop-k-test.true c.loop-k.invariant.within c.in-Open.is c.loop-k.invariant.place c.loop-k.invariant.values in
    let room : HaveRoom c.loop-k.values = values_have_room (drop c.loop-k.k c.args.steps.now) c.args.tokens.now c.loop-k.left c.loop-k.values c.requires.few c.loop-k.invariant.values in
    rw c.action_of.ensures (tops (args (plan.action c.in-Open.production)) c.loop-k.values t.top room)

pub loop-k-preserved : goal.loop-k-preserved
loop-k-preserved c =
    let t : OpenTurn sisal plan c.args.steps.now (placed 0 c.args.tokens.now) c.loop-k.k c.loop-k.left c.in-Open.production c.loop-k.values = open_turn language sisal plan plan_typed (Rule 0 ∷ []) c.args.steps.now (placed 0 c.args.tokens.now) c.loop-k.k c.loop-k.left c.in-Open.production c.loop-k.values (derived c.args.steps.now c.args.tokens.now c.requires.derived) c.loop-k-test.true c.loop-k.invariant.within c.in-Open.is c.loop-k.invariant.place c.loop-k.invariant.values in
    let made : Some c.perform.new.stack ≡ perform sisal c.action_of.result c.loop-k.values = c.in_ok-perform-in-Open.ensures in
    record { within = omega arith; place = t.place; values = t.values ∙ (ap (λ a. perform sisal a c.loop-k.values) (sym c.action_of.ensures) ∙ sym made) }
