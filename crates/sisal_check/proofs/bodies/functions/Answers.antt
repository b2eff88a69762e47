use Rattle.std.proofs.Common.{◌≡◌, ◌+◌, [], ◌∷◌, ◌++◌, length, map, drop, take, refl, sym, ap, subst, ◌∙◌}
use Rattle.unit_types.specs.Headings.{has_body, given_by, given_functions}
use Rattle.unit_types.proofs.Lists.{cut_at}
use Rattle.unit_types.proofs.Given.{more_given}
use Rattle.typing_laws.proofs.Later.{used_on, used_same}
use Rattle.typing_laws.proofs.Walking.{taken}
use Rattle.sisal_check.specs.Headed.{HaveFirst, is_defined}
use Rattle.sisal_check.specs.Walked.{AreBodies, no_body, given_of}
use Rattle.text_trees.specs.Spelled.{IsItem}
use Rattle.sisal_check.proofs.Forms.{passed_on}
use Rattle.sisal_check.proofs.Items.{item_at}
use Rattle.sisal_check.proofs.Functions.{broken_next, kinds_more, room_for}
use Rattle.sisal_check.proofs.bodies.functions.Goals as goal

pub loop-item-init : goal.loop-item-init
loop-item-init c =
    let g = c.args.given.now in
    let headers = g.functions.now in
    let all = map (λ f. has_body f.kind) (given_functions c.args.items.now) in
    let none = sym c.new-all.ensures in
    record {
      heads = subst (λ l. HaveFirst headers l) none refl;
      bodies = subst (λ l. map is_defined l ++ all ≡ all) none refl;
      used = used_same (given_of g) c.args.walk.now.types;
      names = refl;
      typed = λ no. subst (λ l. AreBodies g c.args.walk.now.types [] headers l) none no_body;
    }

pub loop-item-preserved : goal.loop-item-preserved
loop-item-preserved c =
    let g = c.args.given.now in
    let items = c.args.items.now in
    let i = c.loop-item.item-index in
    let x = c.item-item.result in
    let kept = c.loop-item.invariant in
    let f0 = c.loop-item.walk.types in
    let f = c.add_item.new.walk.types in
    let here : drop i items ≡ x ∷ drop (i + 1) items = cut_at items i x c.loop-item-test.true c.item-item.is in
    let kinds : map (λ f. f.kind) (given_functions (take i items)) ++ map (λ f. f.kind) (given_by x) ≡ map (λ f. f.kind) (given_functions (take (i + 1) items)) =
    kinds_more (take i items) x ∙ ap (λ l. map (λ f. f.kind) (given_functions l)) (taken items i x c.loop-item-test.true c.item-item.is) in
    record {
      heads = c.in_ok-add_item.ensures.heads kept.heads;
      bodies = more_given (λ f. has_body f.kind) (map is_defined c.loop-item.all) (map is_defined c.add_item.new.all) (map (λ f. has_body f.kind) (given_functions items))
          x (drop i items) (drop (i + 1) items) here c.in_ok-add_item.ensures.bodies kept.bodies;
      used = used_on (given_of g) c.args.walk.now.types f0 f kept.used c.in_ok-add_item.ensures.used;
      names = c.in_ok-add_item.ensures.names ∙ kept.names;
      typed = λ none. subst (λ ks. AreBodies g f ks g.functions.now c.add_item.new.all) kinds
          (c.in_ok-add_item.ensures.typed (kept.names ∙ none) (map (λ f. f.kind) (given_functions (take i items))) (kept.typed none));
    }

pub returns-in_err-add_item-clause-breaks : goal.returns-in_err-add_item-clause-breaks
returns-in_err-add_item-clause-breaks c = λ none.
    let items = c.args.items.now in
    let i = c.loop-item.item-index in
    let x = c.item-item.result in
    let kept = c.loop-item.invariant in
    passed_on c.from_residual.result c.in_err-add_item.field-0.0 c.from_residual.ensures.1 _ _
    (λ rule line q. broken_next c.args.given.now c.args.walk.now.types c.loop-item.walk.types items i x (drop (i + 1) items) q.0 c.loop-item.all rule line kept.used
    (cut_at items i x c.loop-item-test.true c.item-item.is) (kept.typed none) q.1 q.2) (c.in_err-add_item.ensures.breaks (kept.names ∙ none))

pub add_item-requires-clause-room : goal.add_item-requires-clause-room
add_item-requires-clause-room c =
    let items = c.args.items.now in
    let i = c.loop-item.item-index in
    let x = c.item-item.result in
    room_for items (drop i items) x (drop (i + 1) items) c.loop-item.all (length c.args.given.now.functions.now) (cut_at items i x c.loop-item-test.true c.item-item.is) c.loop-item.invariant.bodies c.requires.room

pub add_item-requires-clause-spelled : goal.add_item-requires-clause-spelled
add_item-requires-clause-spelled c =
    item_at (IsItem c.args.given.now.tokens.now (length c.args.given.now.spellings.now)) c.args.items.now c.loop-item.item-index c.item-item.result c.loop-item-test.true c.item-item.is c.requires.spelled

pub add_item-requires-clause-none : goal.add_item-requires-clause-none
add_item-requires-clause-none c = c.loop-item.invariant.names ∙ c.requires.none
