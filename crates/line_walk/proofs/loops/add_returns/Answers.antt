use Rattle.std.proofs.Common.{◌≡◌, ◌≤◌, ◌<◌, ◌+◌, ◌⊎◌, inl, inr, ◌∙◌, ◌∷◌, [], ℕ, List, min, length, get_or, drop, ap, sym, arith}
use Rattle.std.proofs.lemmas.List.{drop_more, drop_all}
use mathlib.Core.Logic.{dite}
use native.Mathlib.Decide.{dec_le}
use Rattle.typed_tree.specs.declared.expr.ClauseForm.{ClauseForm}
use Rattle.lowering.specs.declared.feed.Carried.{Carried}
use Rattle.lowering.specs.Loops.{span}
use Rattle.line_types.specs.Traces.{take_up, fold_lines, returns_traced}
use Rattle.line_labels.specs.Needs.{added}
use Rattle.line_walk.specs.Met.{plain}
use Rattle.line_walk.proofs.Generators.{no_clause, next_clause}
use Rattle.line_walk.proofs.loops.add_returns.Goals as goal

pub loop-place-preserved : goal.loop-place-preserved
loop-place-preserved c =
    let b = plain c.args.bound in
    let cs = c.args.clauses.now in
    let ts = c.args.types.now in
    let i = c.loop-place.place in
    let x = c.clause_at-clause.result in
    let t = get_or ts i 0 in
    let left = c.loop-place.left.now in
    let ks = c.loop-place.needs in
    let least : c.min-count.result ≡ min (length cs) (length ts) = c.min-count.ensures in
    let lc : i < length cs = omega (arith, c.loop-place-test.true, least) in
    let lt : i < length ts = omega (arith, c.loop-place-test.true, least) in
    let rest = drop (i + 1) cs in
    let more = drop (i + 1) ts in
    let n = span x.masking in
    let clauses : drop i cs ≡ x ∷ rest = drop_more cs i x lc ∙ ap (λ k. k ∷ rest) (sym (c.clause_at-clause.ensures x)) in
    let own : c.take_up.result.now ≡ take_up n left = c.take_up.ensures ∙ ap (λ k. take_up k left) c.span-columns.ensures in
    let later : c.behind_first-left.result.now ≡ drop n left = c.behind_first-left.ensures ∙ ap (λ k. drop k left) c.span-columns.ensures in
    ap (λ (l : List Carried). added c.add_fold.new.needs (returns_traced b rest l more).lines) later
    ∙ (ap (λ (k : List Carried). added k (returns_traced b rest (drop n left) more).lines) (c.in_ok-add_fold.ensures ∙ ap (λ l. added ks (fold_lines b x.folding l)) own)
    ∙ (next_clause b x rest left t more ks
    ∙ (ap (λ (l : List ℕ). added ks (returns_traced b (x ∷ rest) left l).lines) (sym (drop_more ts i 0 lt))
    ∙ (ap (λ (l : List ClauseForm). added ks (returns_traced b l left (drop i ts)).lines) (sym clauses) ∙ c.loop-place.invariant))))

pub returns : goal.returns
returns c =
    let b = plain c.args.bound in
    let cs = c.args.clauses.now in
    let ts = c.args.types.now in
    let i = c.loop-place.place in
    let left = c.loop-place.left.now in
    let least : c.min-count.result ≡ min (length cs) (length ts) = c.min-count.ensures in
    let past : min (length cs) (length ts) ≤ i = omega (arith, c.loop-place-test.false, least) in
    let none : (drop i cs ≡ []) ⊎ (drop i ts ≡ []) =
    dite (dec_le (length cs) i) (λ le. inl (drop_all i cs le)) (λ gt. inr (drop_all i ts (omega (arith, past, gt)))) in
    sym (ap (λ l. added c.loop-place.needs l) (no_clause b (drop i cs) left (drop i ts) none)) ∙ c.loop-place.invariant
