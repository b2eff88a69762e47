use Rattle.std.proofs.Common.{◌≡◌, ◌≤◌, ◌<◌, ◌+◌, ◌⊎◌, inl, inr, ◌∙◌, ◌∷◌, [], ℕ, List, min, length, get_or, drop, ap, sym, refl, subst, arith}
use Rattle.std.proofs.lemmas.List.{drop_more, drop_all}
use mathlib.Core.Logic.{dite}
use native.Mathlib.Decide.{dec_le}
use Rattle.typed_tree.specs.declared.expr.ClauseForm.{ClauseForm}
use Rattle.lowering.specs.declared.feed.Wire.{Wire}
use Rattle.lowering.specs.Graphs.{Lowering, only}
use Rattle.lowering.specs.Loops.{Bound, span, take_up, fold_lowered, returns_lowered}
use Rattle.lowered_data.specs.States.{IsMade}
use Rattle.lower_nodes.specs.Bounds.{plain}
use Rattle.lower_nodes.proofs.Walks.{Going, chain_goes_on, ended_only}
use Rattle.lower_nodes.proofs.loops.returns.Goals as goal

no_clause : (b : Bound) (cs : List ClauseForm) (ms : List Wire) (ts : List ℕ) → (cs ≡ []) ⊎ (ts ≡ []) → returns_lowered b cs ms ts ≡ only []
no_clause b [] ms ts h = refl
no_clause b (c ∷ cs) ms [] h = refl
no_clause b (c ∷ cs) ms (t ∷ ts) (inl e) = absurd cc
no_clause b (c ∷ cs) ms (t ∷ ts) (inr e) = absurd cc

pub loop-place-preserved : goal.loop-place-preserved
loop-place-preserved c =
    let b = plain c.args.bound.now in
    let cs = c.args.clauses.now in
    let ts = c.args.types.now in
    let i = c.loop-place.place in
    let x = c.clause_at-clause.result in
    let t = get_or ts i 0 in
    let left = c.loop-place.left.now in
    let least : c.min-count.result ≡ min (length cs) (length ts) = c.min-count.ensures in
    let lc : i < length cs = omega (arith, c.loop-place-test.true, least) in
    let lt : i < length ts = omega (arith, c.loop-place-test.true, least) in
    let f = returns_lowered b cs c.args.multiples.now ts in
    let clauses : drop i cs ≡ x ∷ drop (i + 1) cs = drop_more cs i x lc ∙ ap (λ k. k ∷ drop (i + 1) cs) (sym (c.clause_at-clause.ensures x)) in
    let begun : Going f (returns_lowered b (x ∷ drop (i + 1) cs) left (t ∷ drop (i + 1) ts)) c.args.made.now c.loop-place.made c.loop-place.values =
    subst (λ (k : List ℕ). Going f (returns_lowered b (x ∷ drop (i + 1) cs) left k) c.args.made.now c.loop-place.made c.loop-place.values) (drop_more ts i 0 lt)
    (subst (λ (k : List ClauseForm). Going f (returns_lowered b k left (drop i ts)) c.args.made.now c.loop-place.made c.loop-place.values) clauses c.loop-place.invariant) in
    let ms : c.in_ok-many.many ≡ take_up (span x.masking) left = c.in_ok-many.ensures ∙ c.take_up.ensures ∙ ap (λ n. take_up n left) c.span-columns.ensures in
    let g = fold_lowered b x.folding x.direction (take_up (span x.masking) left) t in
    let one : IsMade g c.loop-place.made c.fold.new.made c.in_ok-more.more =
    subst (λ (ws : List Wire). IsMade (fold_lowered b x.folding x.direction ws t) c.loop-place.made c.fold.new.made c.in_ok-more.more) ms c.in_ok-more.ensures in
    let later : c.behind_first-left.result.now ≡ drop (span x.masking) left = c.behind_first-left.ensures ∙ ap (λ n. drop n left) c.span-columns.ensures in
    subst (λ (ws : List Wire). Going f (returns_lowered b (drop (i + 1) cs) ws (drop (i + 1) ts)) c.args.made.now c.fold.new.made c.append.new.wires) (sym later)
    (chain_goes_on f g (returns_lowered b (drop (i + 1) cs) (drop (span x.masking) left) (drop (i + 1) ts)) c.args.made.now c.loop-place.made c.fold.new.made c.loop-place.values
    c.in_ok-more.more c.append.new.wires begun one c.in_ok-append.ensures)

pub returns : goal.returns
returns c =
    let b = plain c.args.bound.now in
    let cs = c.args.clauses.now in
    let ts = c.args.types.now in
    let i = c.loop-place.place in
    let left = c.loop-place.left.now in
    let least : c.min-count.result ≡ min (length cs) (length ts) = c.min-count.ensures in
    let past : min (length cs) (length ts) ≤ i = omega (arith, c.loop-place-test.false, least) in
    let f = returns_lowered b cs c.args.multiples.now ts in
    let none : (drop i cs ≡ []) ⊎ (drop i ts ≡ []) =
    dite (dec_le (length cs) i) (λ le. inl (drop_all i cs le)) (λ gt. inr (drop_all i ts (omega (arith, past, gt)))) in
    ended_only f c.args.made.now c.loop-place.made c.loop-place.values
    (subst (λ (g : Lowering). Going f g c.args.made.now c.loop-place.made c.loop-place.values) (no_clause b (drop i cs) left (drop i ts) none) c.loop-place.invariant)
