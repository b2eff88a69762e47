use Rattle.std.proofs.Common.{◌≡◌, ◌∙◌, ◌≤◌, ◌<◌, ◌+◌, ◌++◌, ◌∷◌, [], ℕ, Bool, false, min, Option, List, length, get_or, drop, ap, ap₂, sym, append-nil, append_assoc, arith}
use Rattle.std.proofs.lemmas.List.{drop_more}
use Rattle.typed_tree.specs.declared.expr.TypedExpr.{TypedExpr}
use Rattle.type_table.specs.declared.form.Form.{Form}
use Rattle.lowering.specs.Loops.{loop_name, collected}
use Rattle.lowering.specs.Phrases.{phrase}
use Rattle.lowered_data.proofs.Lists.{rest_is}
use Rattle.lower_exprs.specs.Phrased.{phrases}
use Rattle.lower_exprs.specs.Turned.{kept, place_at, next_after}
use Rattle.lower_exprs.proofs.Initials.{collected_step, over}
use Rattle.lower_exprs.proofs.turns.collected.Goals as goal

pub loop-at-preserved : goal.loop-at-preserved
loop-at-preserved c = λ (forms : List Form).
    let loop = loop_name c.args.around c.args.count in
    let bs = c.args.negated.now in
    let es = c.args.parts.now in
    let i = c.loop-at.at in
    let next = c.loop-at.next in
    let e = c.index-parts-at.result in
    let b = get_or bs i false in
    let least : c.min-flags.result ≡ min (length bs) (length es) = c.min-flags.ensures in
    let lb : i < length bs = omega (arith, c.loop-at-test.true, least) in
    let le : i < length es = omega (arith, c.loop-at-test.true, least) in
    let flags : drop i bs ≡ b ∷ drop (i + 1) bs = drop_more bs i false lb in
    let parts : drop i es ≡ e ∷ drop (i + 1) es = rest_is es i e le c.index-parts-at.is in
    let o = kept loop b (phrase forms e).name in
    let place : c.kept-place.result ≡ o = c.kept-place.ensures forms in
    let rest : collected loop next (drop i bs) (phrases forms (drop i es)) ≡ place_at next o ∷ collected loop (next_after next o) (drop (i + 1) bs) (phrases forms (drop (i + 1) es)) =
    ap₂ (λ (k : List Bool) (u : List TypedExpr). collected loop next k (phrases forms u)) flags parts
    ∙ collected_step loop next b (drop (i + 1) bs) (phrase forms e) (phrases forms (drop (i + 1) es)) in
    let now : c.collect.new.places ≡ c.loop-at.places ++ place_at next o ∷ [] = c.in_ok-next.ensures.places ∙ ap (λ (k : Option ℕ). c.loop-at.places ++ place_at next k ∷ []) place in
    let then : c.in_ok-next.next ≡ next_after next o = c.in_ok-next.ensures.next ∙ ap (next_after next) place in
    ap₂ (λ (k : List ℕ) n. k ++ collected loop n (drop (i + 1) bs) (phrases forms (drop (i + 1) es))) now then
    ∙ append_assoc c.loop-at.places (place_at next o ∷ []) (collected loop (next_after next o) (drop (i + 1) bs) (phrases forms (drop (i + 1) es)))
    ∙ ap (λ (k : List ℕ). c.loop-at.places ++ k) (sym rest)
    ∙ c.loop-at.invariant forms

pub returns : goal.returns
returns c = λ (forms : List Form).
    let loop = loop_name c.args.around c.args.count in
    let bs = c.args.negated.now in
    let es = c.args.parts.now in
    let i = c.loop-at.at in
    let least : c.min-flags.result ≡ min (length bs) (length es) = c.min-flags.ensures in
    let past : min (length bs) (length es) ≤ i = omega (arith, c.loop-at-test.false, least) in
    let none : collected loop c.loop-at.next (drop i bs) (phrases forms (drop i es)) ≡ [] = over forms loop c.loop-at.next bs es i past in
    sym (append-nil c.loop-at.places) ∙ ap (λ (k : List ℕ). c.loop-at.places ++ k) (sym none) ∙ c.loop-at.invariant forms
