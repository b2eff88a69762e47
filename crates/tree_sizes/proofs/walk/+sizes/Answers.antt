use Rattle.std.proofs.Common.{rules, ◌≡◌, ◌∙◌, ℕ, suc, ◌+◌, ◌-◌, ◌<◌, ◌≤◌, Bool, false, List, [], ◌∷◌, length, drop_of_length-le, drop, map, sym, ap, subst, refl, arith}
use Rattle.std.specs.Prelude.{◌^◌, min, get_or, nat_lt, if◌then◌else◌}
use Rattle.std.proofs.lemmas.List.{length-map}
use Rattle.typed_tree.specs.declared.expr.TypedExpr.{TypedExpr}
use Rattle.typed_tree.specs.declared.expr.ClauseForm.{ClauseForm}
use Rattle.lowered_sizes.specs.declared.sizes.Sizes.{Sizes}
use Rattle.std.proofs.Math.Seq.{drop-cons}
use Rattle.typed_tree.specs.declared.expr.TypedKind.TheOpen.{TypedKind-F}
use Rattle.typed_tree.specs.declared.expr.TypedKind.TheVariants as typed
use Rattle.lowered_sizes.specs.Counting.{joined, beside, a_node, part, parts, whole, only, valued, capped_sizes}
use Rattle.lowered_sizes.specs.Forms.{all_sized, defs_sized, arms_sized, applied_sized, sizes, clauses_sized, extras_sized, generators_sized, returns_sized, is_limited, types_of, phrase_sized}
use Rattle.lowering.specs.Loops.{loop_name, unless_places}
use Rattle.tree_sizes.specs.Clauses.{places_left, unless_from, first_place, is_true, is_name, extra_at}
use Rattle.tree_sizes.proofs.Steps.{all-from, clause_at, clause-step, extra-step}
use Rattle.tree_sizes.specs.Capped.{KeepsSizes}
use Rattle.tree_sizes.specs.Phrases.{phrases, lists}
use Rattle.tree_sizes.proofs.Kept.{sum-kept, values-kept, beside-none, none-beside, beside-both}
use Rattle.tree_sizes.proofs.Folds.{expr-is, kind-is, length-kept}
use Rattle.tree_sizes.proofs.walk.+sizes.Goals as goal

pub expr-returns : goal.expr-returns
expr-returns t c = λ n h.
    let ts = c.args.e.now.types in
    let same : c.len.result ≡ length ts = search rules in
    let fits : c.len.result < 2 ^ 64 = search rules in
    c.kind.ensures n ts h (length-kept c.len.result (length ts) same fits) ∙ ap capped_sizes (sym (expr-is c.args.types.now c.args.e.now n))

pub exprs-returns : goal.exprs-returns
exprs-returns t c = λ n h.
    let none : c.loop-at.at ≡ 0 = omega (arith, c.loop-at-test.false) in
    subst (λ i. KeepsSizes c.loop-at.all (all_sized (phrases c.args.types.now (drop i c.args.parts.now)) n)) none (c.loop-at.invariant.1 n h)

pub arms-returns : goal.arms-returns
arms-returns t c = λ n h.
    let none : c.loop-at.at ≡ 0 = omega (arith, c.loop-at-test.false) in
    subst (λ i. KeepsSizes c.loop-at.all (parts (arms_sized c.args.case.now i (lists c.args.types.now (drop i c.args.bodies.now)) n))) none (c.loop-at.invariant.1 n h)

pub arms-loop-at-preserved : goal.arms-loop-at-preserved
arms-loop-at-preserved t c =
    let forms = c.args.types.now in
    let case = c.args.case.now in
    let us = c.args.bodies.now in
    let u = c.index-bodies-at.result in
    let at = c.loop-at.at in
    let some = c.loop-at-test.true in
    let inv = c.loop-at.invariant in
    let inside = inv.0 in
    let next : at ≡ suc (at - 1) = omega (arith, some) in
    let cons = drop-cons us (at - 1) u (omega (arith, some, inside)) in
    let same : get_or us (at - 1) u ≡ u = search rules in (
      omega (arith, inside),
      λ n h.
          let m = if nat_lt (at - 1) case.named then n + 1 else n in
          let left = parts (arms_sized case (suc (at - 1)) (lists forms (drop (suc (at - 1)) us)) n) in
          let rest = subst (λ i. KeepsSizes c.loop-at.all (parts (arms_sized case i (lists forms (drop i us)) n))) next (inv.1 n h) in
          let one = c.exprs.ensures m (c.within-inside.ensures n h) ∙ ap (λ es. capped_sizes (all_sized (phrases forms es) m)) c.as_slice.ensures in
          c.joined-all.ensures (part (all_sized (phrases forms u) m)) left (c.part.ensures (all_sized (phrases forms u) m) one) rest
          ∙ ap (λ x. capped_sizes (joined (part (all_sized (phrases forms x) m)) left)) (sym same)
          ∙ ap (λ l. capped_sizes (parts (arms_sized case (at - 1) (lists forms l) n))) (sym cons),
    )

pub defs-loop-list-init : goal.defs-loop-list-init
defs-loop-list-init t c = λ n h. (only 0, c.only-all.ensures 0 refl, ap (defs_sized (lists c.args.types.now c.args.definitions.now)) (omega arith) ∙ sym (beside-none (defs_sized (lists c.args.types.now c.args.definitions.now) (n + 0))))

pub defs-loop-list-preserved : goal.defs-loop-list-preserved
defs-loop-list-preserved t c = λ n h.
    let forms = c.args.types.now in
    let ds = c.args.definitions.now in
    let d = c.list-item.result in
    let i = c.loop-list.list-index in
    let inv = c.loop-list.invariant n h in
    let s = inv.0 in
    let names = n + s.values in
    let a = all_sized (phrases forms d) names in
    let inside = c.saturating_add-inside.ensures ∙ sum-kept c.args.names c.loop-list.all.values n s.values h (values-kept c.loop-list.all s inv.1) in
    let one = c.exprs.ensures names inside ∙ ap (λ es. capped_sizes (all_sized (phrases forms es) names)) c.as_slice.ensures in
    let here : d ≡ get_or ds i d = search rules in
    let cons = drop-cons ds i d c.loop-list-test.true in
    let rest = defs_sized (lists forms (drop (suc i) ds)) in
    let step : defs_sized (lists forms (drop i ds)) names ≡ beside a (rest (names + a.values)) =
    ap (λ us. defs_sized (lists forms us) names) cons ∙ ap (λ x. beside (all_sized (phrases forms x) names) (rest (names + (all_sized (phrases forms x) names).values))) (sym here) in
    let deeper : names + a.values ≡ n + (s.values + a.values) = omega arith in
    let further : suc i ≡ i + 1 = omega arith in (
      beside s a,
      c.beside-all.ensures s a inv.1 one,
      inv.2 ∙ ap (beside s) step ∙ sym (beside-both s a (rest (names + a.values))) ∙ ap (λ m. beside (beside s a) (rest m)) deeper ∙ ap (λ j. beside (beside s a) (defs_sized (lists forms (drop j ds)) (n + (s.values + a.values)))) further,
    )

pub exprs-loop-at-preserved : goal.exprs-loop-at-preserved
exprs-loop-at-preserved t c =
    let forms = c.args.types.now in
    let es = c.args.parts.now in
    let e = c.index-parts-at.result in
    let at = c.loop-at.at in
    let some = c.loop-at-test.true in
    let inv = c.loop-at.invariant in
    let inside = inv.0 in
    let next : at ≡ suc (at - 1) = omega (arith, some) in
    let cons = drop-cons es (at - 1) e (omega (arith, some, inside)) in
    let same : get_or es (at - 1) e ≡ e = search rules in (
      omega (arith, inside),
      λ n h.
          let rest = subst (λ i. KeepsSizes c.loop-at.all (all_sized (phrases forms (drop i es)) n)) next (inv.1 n h) in
          c.beside-all.ensures (sizes forms e n) (all_sized (phrases forms (drop (suc (at - 1)) es)) n) (c.expr.ensures n h) rest
          ∙ ap (λ x. capped_sizes (beside (sizes forms x n) (all_sized (phrases forms (drop (suc (at - 1)) es)) n))) (sym same)
          ∙ ap (λ l. capped_sizes (all_sized (phrases forms l) n)) (sym cons),
    )

pub kind-returns-in-Group : goal.kind-returns-in-Group
kind-returns-in-Group t c = λ n ts h k.
    let forms = c.args.types.now in
    let parts = c.in-Group.parts in
    c.exprs.ensures n h ∙ ap (λ es. capped_sizes (all_sized (phrases forms es) n)) c.as_slice.ensures
    ∙ ap capped_sizes (sym (kind-is forms (TypedKind-F.Group parts) c.args.kind.now (c.in-Group.is ∙ sym (typed.rolls-Group parts)) ts n))

pub kind-returns-in-Call : goal.kind-returns-in-Call
kind-returns-in-Call t c = λ n ts h k.
    let forms = c.args.types.now in
    let parts = c.in-Call.parts in
    let all = c.exprs-all.ensures n h ∙ ap (λ es. capped_sizes (all_sized (phrases forms es) n)) c.as_slice-in-Call.ensures in
    let s = all_sized (phrases forms parts) n in
    c.joined.ensures s (a_node s.values (length ts)) all (c.node.ensures s.values (length ts) (values-kept c.exprs-all.result s all) k)
    ∙ ap capped_sizes (sym (kind-is forms (TypedKind-F.Call c.in-Call.field-0 parts) c.args.kind.now (c.in-Call.is ∙ sym (typed.rolls-Call c.in-Call.field-0 parts)) ts n))

pub kind-returns-in-Apply : goal.kind-returns-in-Apply
kind-returns-in-Apply t c = λ n ts h k.
    let forms = c.args.types.now in
    let parts = c.in-Apply.parts in
    let op = c.in-Apply.op in
    let all = c.exprs-all-in-Apply.ensures n h ∙ ap (λ es. capped_sizes (all_sized (phrases forms es) n)) c.as_slice-in-Apply.ensures in
    let s = all_sized (phrases forms parts) n in
    c.joined-in-Apply.ensures s (applied_sized op s.values (length ts)) all (c.applied.ensures s.values (length ts) (values-kept c.exprs-all-in-Apply.result s all) k)
    ∙ ap capped_sizes (sym (kind-is forms (TypedKind-F.Apply op parts) c.args.kind.now (c.in-Apply.is ∙ sym (typed.rolls-Apply op parts)) ts n))

pub kind-returns-in-Let : goal.kind-returns-in-Let
kind-returns-in-Let t c = λ n ts h k.
    let forms = c.args.types.now in
    let ds = c.in-Let.parts in
    let es = c.in-Let.body in
    let s = defs_sized (lists forms ds) n in
    let first = c.defs-first.ensures n h ∙ ap (λ us. capped_sizes (defs_sized (lists forms us) n)) c.as_slice-in-Let.ensures in
    c.follow.ensures n s h first
    ∙ ap (λ us. capped_sizes (joined s (all_sized (phrases forms us) (n + s.values)))) c.as_slice-in-Let-2.ensures
    ∙ ap capped_sizes (sym (kind-is forms (TypedKind-F.Let ds es) c.args.kind.now (c.in-Let.is ∙ sym (typed.rolls-Let ds es)) ts n))

pub follow-returns : goal.follow-returns
follow-returns t c = λ n a h f.
    let inside = c.saturating_add-inside.ensures ∙ sum-kept c.args.names c.args.first.values n a.values h (values-kept c.args.first a f) in
    c.joined.ensures a (all_sized (phrases c.args.types.now c.args.parts.now) (n + a.values)) f (c.exprs.ensures (n + a.values) inside)

pub kind-returns-in-If : goal.kind-returns-in-If
kind-returns-in-If t c = λ n ts h k.
    let forms = c.args.types.now in
    let test = c.in-If.test in
    let yes = c.in-If.yes in
    let no = c.in-If.no in
    let z = all_sized (phrases forms test) n in
    let y = all_sized (phrases forms yes) n in
    let x = all_sized (phrases forms no) n in
    let tested = c.exprs-tested.ensures n h ∙ ap (λ es. capped_sizes (all_sized (phrases forms es) n)) c.as_slice-in-If.ensures in
    let arm = c.exprs-arm.ensures n h ∙ ap (λ es. capped_sizes (all_sized (phrases forms es) n)) c.as_slice-in-If-2.ensures in
    let other = c.exprs-other.ensures n h ∙ ap (λ es. capped_sizes (all_sized (phrases forms es) n)) c.as_slice-in-If-3.ensures in
    c.choice.ensures z y x (length ts) tested arm other k
    ∙ ap capped_sizes (sym (kind-is forms (TypedKind-F.If test yes no) c.args.kind.now (c.in-If.is ∙ sym (typed.rolls-If test yes no)) ts n))

pub kind-returns-in-Case : goal.kind-returns-in-Case
kind-returns-in-Case t c = λ n ts h k.
    let forms = c.args.types.now in
    let case = c.in-Case.case in
    let us = c.in-Case.subject in
    let bodies = c.in-Case.bodies in
    let u = all_sized (phrases forms us) n in
    let z = parts (arms_sized case 0 (lists forms bodies) n) in
    let union = c.exprs-union.ensures n h ∙ ap (λ es. capped_sizes (all_sized (phrases forms es) n)) c.as_slice-in-Case.ensures in
    let inside = c.arms-inside.ensures n h ∙ ap (λ es. capped_sizes (parts (arms_sized case 0 (lists forms es) n))) c.as_slice-in-Case-2.ensures in
    let whole = c.joined-in-Case.ensures z (a_node (length ts) (length ts)) inside (c.node-in-Case.ensures (length ts) (length ts) k k) in
    c.joined-in-Case-2.ensures u (joined z (a_node (length ts) (length ts))) union whole
    ∙ ap capped_sizes (sym (kind-is forms (TypedKind-F.Case case us bodies) c.args.kind.now (c.in-Case.is ∙ sym (typed.rolls-Case case us bodies)) ts n))

pub generators_loop-returns : goal.generators_loop-returns
generators_loop-returns t c = λ n ts h k.
    let forms = c.args.types.now in
    let p = c.in-Product.form in
    let bs = c.in-Product.bounds in
    let ds = c.in-Product.definitions in
    let gs = c.in-Product.results in
    let e = all_sized (phrases forms bs) n in
    let ends = c.exprs-ends.ensures n h ∙ ap (λ es. capped_sizes (all_sized (phrases forms es) n)) c.as_slice.ensures in
    let g = generators_sized p.sources in
    let inner = c.inputs-inner.ensures g refl in
    let m = n + g.values in
    let inside = c.deeper-inside.ensures n g.values h (values-kept c.inputs-inner.result g inner) in
    let d = defs_sized (lists forms ds) m in
    let first = c.defs-first.ensures m inside ∙ ap (λ us. capped_sizes (defs_sized (lists forms us) m)) c.as_slice-2.ensures in
    let places = unless_places p.clauses in
    let b = joined d (all_sized (clauses_sized places (phrases forms gs)) (m + d.values)) in
    let body = c.collect-body.ensures m d inside first
    ∙ ap (λ cs. capped_sizes (joined d (all_sized (clauses_sized (unless_places cs) (phrases forms c.as_slice-3.result.now)) (m + d.values)))) c.as_slice-forms.ensures
    ∙ ap (λ us. capped_sizes (joined d (all_sized (clauses_sized places (phrases forms us)) (m + d.values)))) c.as_slice-3.ensures in
    let types = types_of (map (phrase_sized forms) bs) in
    let limit = c.is_limited-is_limit.ensures ∙ ap (λ us. is_limited forms us (types_of (map (phrase_sized forms) c.as_slice-5.result.now))) c.as_slice-4.ensures
    ∙ ap (λ us. is_limited forms p.sources (types_of (map (phrase_sized forms) us))) c.as_slice-5.ensures in
    let made = c.product.ensures g b (length ts) inner body k
    ∙ ap (λ l. capped_sizes (whole (g ∷ b ∷ returns_sized l c.as_slice-forms.result.now b.values (length ts) ∷ []) (length ts))) limit
    ∙ ap (λ cs. capped_sizes (whole (g ∷ b ∷ returns_sized (is_limited forms p.sources types) cs b.values (length ts) ∷ []) (length ts))) c.as_slice-forms.ensures in
    c.joined.ensures e (whole (g ∷ b ∷ returns_sized (is_limited forms p.sources types) p.clauses b.values (length ts) ∷ []) (length ts)) ends made
    ∙ ap capped_sizes (sym (kind-is forms (TypedKind-F.Product p bs ds gs) c.args.kind.now (c.in-Product.is ∙ sym (typed.rolls-Product p bs ds gs)) ts n))

pub turns_loop-returns : goal.turns_loop-returns
turns_loop-returns t c = λ n ts h k.
    let forms = c.args.types.now in
    let x = c.in-Initial.turns in
    let fs = c.in-Initial.start in
    let us = c.in-Initial.test in
    let ds = c.in-Initial.definitions in
    let gs = c.in-Initial.results in
    let cs = c.as_slice-forms.result.now in
    let ps = c.as_slice-parts.result.now in
    let f = defs_sized (lists forms fs) n in
    let first = c.defs-first.ensures n h ∙ ap (λ l. capped_sizes (defs_sized (lists forms l) n)) c.as_slice.ensures in
    let some = values-kept c.defs-first.result f first in
    let m = n + f.values in
    let inside = c.deeper-inside.ensures n f.values h some in
    let u = all_sized (phrases forms us) m in
    let tested = c.exprs-tested.ensures m inside ∙ ap (λ l. capped_sizes (all_sized (phrases forms l) m)) c.as_slice-2.ensures in
    let d = defs_sized (lists forms ds) m in
    let turn = c.defs-turn.ensures m inside ∙ ap (λ l. capped_sizes (defs_sized (lists forms l) m)) c.as_slice-3.ensures in
    let row = λ (cs : List ClauseForm) (ps : List TypedExpr). all_sized (extras_sized (loop_name n f.values) (unless_places cs) (map (phrase_sized forms) ps)) m in
    let r = row cs ps in
    let kept = c.row-kept.ensures n f.values h some in
    let node = λ (r : Sizes) (i : ℕ).
    whole (beside f r ∷ (if x.is_until then joined u (a_node u.values 1) else u) ∷ beside (valued f.values d) r ∷ returns_sized false x.clauses (min (length (unless_places x.clauses)) i) (length ts) ∷ []) (length ts) in
    let made = c.initial.ensures f r u d (length ts) first kept tested turn k in
    let count : length ps ≡ length (map (phrase_sized forms) ps) = sym (length-map ps (phrase_sized forms)) in
    made ∙ ap (λ i. capped_sizes (node r i)) count
    ∙ ap (λ l. capped_sizes (node (row cs l) (length (map (phrase_sized forms) l)))) c.as_slice-parts.ensures
    ∙ ap (λ l. capped_sizes (node (row l gs) (length (map (phrase_sized forms) gs)))) c.as_slice-forms.ensures
    ∙ ap capped_sizes (sym (kind-is forms (TypedKind-F.Initial x fs us ds gs) c.args.kind.now (c.in-Initial.is ∙ sym (typed.rolls-Initial x fs us ds gs)) ts n))

pub collect-returns : goal.collect-returns
collect-returns t c = λ n a h f.
    let inside = c.deeper-inside.ensures n a.values h (values-kept c.args.first a f) in
    c.joined.ensures a (all_sized (clauses_sized (unless_places c.args.forms.now) (phrases c.args.types.now c.args.parts.now)) (n + a.values)) f (c.clauses.ensures (n + a.values) inside)

pub clauses-loop-e-init : goal.clauses-loop-e-init
clauses-loop-e-init t c = λ n h.
    let cs = c.args.forms.now in
    let gs = phrases c.args.types.now c.args.parts.now in
    (only 0, c.only-all.ensures 0 refl, ap (λ bs. all_sized (clauses_sized bs gs) n) (sym (all-from cs)) ∙ sym (beside-none (all_sized (clauses_sized (unless_from false cs) gs) n)))

pub clauses-loop-e-preserved : goal.clauses-loop-e-preserved
clauses-loop-e-preserved t c = λ n h.
    let forms = c.args.types.now in
    let es = c.args.parts.now in
    let i = c.loop-e.e-index in
    let e = c.e-item.result in
    let bs = places_left c.args.forms.now c.loop-e.place in
    let inv = c.loop-e.invariant n h in
    let s = inv.0 in
    let g = sizes forms e in
    let a = clause_at (is_true (first_place bs)) (g n) in
    let left = λ (ps : List Bool) (j : ℕ). all_sized (clauses_sized ps (phrases forms (drop j es))) n in
    let one = c.negated.ensures (g n) (c.expr-one.ensures n h) ∙ ap (λ b. capped_sizes (clause_at b (g n))) c.is_not-is_not.ensures in
    let cons : drop i es ≡ e ∷ drop (suc i) es = drop-cons es i e c.loop-e-test.true ∙ ap (λ x. x ∷ drop (suc i) es) (sym c.e-item.is) in
    let step : left bs i ≡ beside a (left (drop 1 bs) (suc i)) = ap (λ l. all_sized (clauses_sized bs (phrases forms l)) n) cons ∙ clause-step bs g (phrases forms (drop (suc i) es)) n in
    let further : suc i ≡ i + 1 = omega arith in (
      beside s a,
      c.beside-all.ensures s a inv.1 one,
      inv.2 ∙ ap (beside s) step ∙ sym (beside-both s a (left (drop 1 bs) (suc i))) ∙ ap (λ j. beside (beside s a) (left (drop 1 bs) j)) further
          ∙ ap (λ ps. beside (beside s a) (left ps (i + 1))) (sym c.next-place.ensures),
    )

pub clauses-returns : goal.clauses-returns
clauses-returns t c = λ n h.
    let forms = c.args.types.now in
    let es = c.args.parts.now in
    let i = c.loop-e.e-index in
    let bs = places_left c.args.forms.now c.loop-e.place in
    let inv = c.loop-e.invariant n h in
    let over : length es ≤ i = omega (arith, c.loop-e-test.false) in
    inv.1 ∙ ap capped_sizes (sym (inv.2 ∙ ap (λ l. beside inv.0 (all_sized (clauses_sized bs (phrases forms l)) n)) (drop_of_length-le es over) ∙ none-beside inv.0))

pub row-loop-e-init : goal.row-loop-e-init
row-loop-e-init t c = λ n k h f.
    let cs = c.args.forms.now in
    let ps = map (phrase_sized c.args.types.now) c.args.parts.now in (
      only 0,
      c.only-all.ensures 0 refl,
      ap (λ bs. all_sized (extras_sized (loop_name n k) bs ps) (n + k)) (sym (all-from cs)) ∙ sym (beside-none (all_sized (extras_sized (loop_name n k) (unless_from false cs) ps) (n + k))),
    )

pub row-loop-e-preserved : goal.row-loop-e-preserved
row-loop-e-preserved t c = λ n k h f.
    let forms = c.args.types.now in
    let es = c.args.parts.now in
    let i = c.loop-e.e-index in
    let e = c.e-item.result in
    let bs = places_left c.args.forms.now c.loop-e.place in
    let inv = c.loop-e.invariant n k h f in
    let s = inv.0 in
    let m = n + k in
    let loop = loop_name n k in
    let p = phrase_sized forms e in
    let g = sizes forms e m in
    let is = is_name (loop p.name) in
    let a = extra_at (first_place bs) is g in
    let left = λ (xs : List Bool) (j : ℕ). all_sized (extras_sized loop xs (map (phrase_sized forms) (drop j es))) m in
    let own = c.expr-one.ensures m (c.deeper-inside.ensures n k h f) in
    let one = c.extra.ensures g own ∙ ap (λ x. capped_sizes (extra_at x c.is_loop_name-is_name.result g)) c.is_unless.ensures ∙ ap (λ x. capped_sizes (extra_at (first_place bs) x g)) (c.is_loop_name-is_name.ensures forms n k h f) in
    let cons : drop i es ≡ e ∷ drop (suc i) es = drop-cons es i e c.loop-e-test.true ∙ ap (λ x. x ∷ drop (suc i) es) (sym c.e-item.is) in
    let step : left bs i ≡ beside a (left (drop 1 bs) (suc i)) = ap (λ l. all_sized (extras_sized loop bs (map (phrase_sized forms) l)) m) cons ∙ extra-step loop bs p (map (phrase_sized forms) (drop (suc i) es)) m in
    let further : suc i ≡ i + 1 = omega arith in (
      beside s a,
      c.beside-all.ensures s a inv.1 one,
      inv.2 ∙ ap (beside s) step ∙ sym (beside-both s a (left (drop 1 bs) (suc i))) ∙ ap (λ j. beside (beside s a) (left (drop 1 bs) j)) further
          ∙ ap (λ xs. beside (beside s a) (left xs (i + 1))) (sym c.next-place.ensures),
    )

pub row-returns : goal.row-returns
row-returns t c = λ n k h f.
    let forms = c.args.types.now in
    let es = c.args.parts.now in
    let i = c.loop-e.e-index in
    let bs = places_left c.args.forms.now c.loop-e.place in
    let inv = c.loop-e.invariant n k h f in
    let over : length es ≤ i = omega (arith, c.loop-e-test.false) in
    inv.1 ∙ ap capped_sizes (sym (inv.2 ∙ ap (λ l. beside inv.0 (all_sized (extras_sized (loop_name n k) bs (map (phrase_sized forms) l)) (n + k))) (drop_of_length-le es over) ∙ none-beside inv.0))
