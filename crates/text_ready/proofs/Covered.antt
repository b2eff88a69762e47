-- The program of a text is covered by the rules: each `for` that is bound has a generator.
use Rattle.std.proofs.Common.{◌≡◌, ℕ, zero, suc, ◌≤◌, Bool, true, false, ◌&&◌, List, [], ◌∷◌, map, length, Some, slice_get, refl, sym, ap, subst, ◌∙◌, arith}
use Rattle.std.specs.Prelude.{All}
use Rattle.std.proofs.lemmas.List.Elements.{All-head, All-tail}
use Rattle.typed_tree.specs.declared.expr.TypedExpr.{TypedExpr}
use Rattle.typed_tree.specs.declared.expr.TypedKind.{TypedKind}
use Rattle.typed_tree.specs.declared.expr.TypedKind.TheVariants as typed
use Rattle.typed_tree.specs.declared.expr.TypedKind.TheViews.{roll-TypedKind}
use Rattle.typed_tree.specs.declared.expr.TypedKind.TheOpen.{TypedKind-F}
use Rattle.typed_tree.specs.declared.expr.Source.{Source}
use Rattle.typed_tree.specs.declared.program.Function.{Function}
use Rattle.typed_tree.specs.Typing.{with}
use Rattle.bound_trees.specs.Bound as is
use Rattle.bound_trees.specs.Bound.{IsBound, AreBound, AreDefined, AreArms, IsBoundIn, IsBoundBody}
use Rattle.fitting_texts.proofs.Names.{names_once}
use Rattle.lowering_meaning.specs.Coverage.{all_ok, each_ok, counts, all_one, masks_alone, is_plain_operation, kind_covered, verdict, plain_forms}
use Rattle.lowering_meaning.proofs.Layers.{parts_covered, covered-is, count-is, and-true}
use Rattle.lowered_ready.specs.RuleLaws.{has_source, rule_forms}
use Rattle.bound_trees.specs.Laws.{TextLaw}
use Rattle.lowering_meaning.specs.Laws.{AreTypedCovered}
use Rattle.text_ready.specs.Laws.{AreTextsCovered}

both : (a b : Bool) → a ≡ true → b ≡ true → (a && b) ≡ true
both true b e f = f
both false b e f = absurd cc

some-source : (ss : List Source) → 1 ≤ length ss → has_source ss ≡ true
some-source [] h = absurd (omega (arith, h))
some-source (s ∷ ss) h = refl

abbrev Plain : TypedExpr → Bool
Plain e = (verdict plain_forms e).ok

abbrev Ruled : TypedExpr → Bool
Ruled e = (verdict rule_forms e).ok

abbrev all_plain : List TypedExpr → Bool
all_plain ts = all_ok (map (verdict plain_forms) ts)

abbrev all_ruled : List TypedExpr → Bool
all_ruled ts = all_ok (map (verdict rule_forms) ts)

abbrev each_plain : List (List TypedExpr) → Bool
each_plain us = each_ok (map (map (verdict plain_forms)) us)

abbrev each_ruled : List (List TypedExpr) → Bool
each_ruled us = each_ok (map (map (verdict rule_forms)) us)

-- both count values alike
same-counts : (ts : List TypedExpr) → counts (map (verdict plain_forms) ts) ≡ counts (map (verdict rule_forms) ts)
same-counts [] = refl
same-counts (t ∷ ts) =
    ap (λ n. n ∷ counts (map (verdict plain_forms) ts)) (count-is plain_forms t ∙ sym (count-is rule_forms t)) ∙ ap (λ l. (verdict rule_forms t).count ∷ l) (same-counts ts)

-- of a kind, from one to the other
from : (l : ℕ) (ns : List ℕ) (y : TypedKind) (x : TypedKind-F TypedKind TypedExpr) → y ≡ roll-TypedKind x → Plain (with l ns y) ≡ true → kind_covered plain_forms (parts_covered plain_forms x) ≡ true
from l ns y x e h = sym (covered-is plain_forms l ns y x e) ∙ h

to : (l : ℕ) (ns : List ℕ) (y : TypedKind) (x : TypedKind-F TypedKind TypedExpr) → y ≡ roll-TypedKind x → kind_covered rule_forms (parts_covered rule_forms x) ≡ true → Ruled (with l ns y) ≡ true
to l ns y x e h = covered-is rule_forms l ns y x e ∙ h

module _ (functions : ℕ) where
  mutual
    tree-ruled : (n : ℕ) (e : TypedExpr) → IsBound functions n e → Plain e ≡ true → Ruled e ≡ true
    tree-ruled n _ (is.constant {l = l} {ns = ns} {c = c} h) v = to l ns (typed.Constant c) (TypedKind-F.Constant c) (sym (typed.rolls-Constant c)) refl
    tree-ruled n _ (is.value {l = l} {level = i} {ns = ns} h) v = to l ns (typed.Value i) (TypedKind-F.Value i) (sym (typed.rolls-Value i)) refl
    tree-ruled n _ (is.group {l = l} {ns = ns} {ts = ts} p) v =
        let x = TypedKind-F.Group ts in
        let e = sym (typed.rolls-Group ts) in
        to l ns (typed.Group ts) x e (all-ruled n ts p (from l ns (typed.Group ts) x e v))
    tree-ruled n _ (is.call {l = l} {f = f} {ns = ns} {ts = ts} h p) v =
        let x = TypedKind-F.Call f ts in
        let e = sym (typed.rolls-Call f ts) in
        to l ns (typed.Call f ts) x e (all-ruled n ts p (from l ns (typed.Call f ts) x e v))
    tree-ruled n _ (is.apply {l = l} {ns = ns} {op = o} {ts = ts} p w) v =
        let x = TypedKind-F.Apply o ts in
        let e = sym (typed.rolls-Apply o ts) in
        to l ns (typed.Apply o ts) x e (all-ruled n ts p (and-true (is_plain_operation o) (all_plain ts) (from l ns (typed.Apply o ts) x e v)).1)
    tree-ruled n _ (is.let_in {l = l} {ns = ns} {us = us} {ts = ts} p q) v =
        let x = TypedKind-F.Let us ts in
        let e = sym (typed.rolls-Let us ts) in
        let ok = and-true (each_plain us) (all_plain ts) (from l ns (typed.Let us ts) x e v) in
        to l ns (typed.Let us ts) x e (both (each_ruled us) (all_ruled ts) (each-ruled n us p ok.0) (all-ruled _ ts q ok.1))
    tree-ruled n _ (is.if_else {l = l} {ns = ns} {ts = ts} {us = us} {vs = vs} p q r) v =
        let x = TypedKind-F.If ts us vs in
        let e = sym (typed.rolls-If ts us vs) in
        let ok = and-true (all_plain ts) (all_plain us && all_plain vs) (from l ns (typed.If ts us vs) x e v) in
        let arms = and-true (all_plain us) (all_plain vs) ok.1 in
        to l ns (typed.If ts us vs) x e (both (all_ruled ts) (all_ruled us && all_ruled vs) (all-ruled n ts p ok.0) (both (all_ruled us) (all_ruled vs) (all-ruled n us q arms.0) (all-ruled n vs r arms.1)))
    tree-ruled n _ (is.tag_case {l = l} {ns = ns} {c = c} {ts = ts} {arms = arms} p q h w) v =
        let x = TypedKind-F.Case c ts arms in
        let e = sym (typed.rolls-Case c ts arms) in
        let ok = and-true (all_plain ts) (each_plain arms) (from l ns (typed.Case c ts arms) x e v) in
        to l ns (typed.Case c ts arms) x e (both (all_ruled ts) (each_ruled arms) (all-ruled n ts p ok.0) (arms-ruled n c.named arms q ok.1))
    tree-ruled n _ (is.product {l = l} {ns = ns} {p = q} {bounds = bs} {us = us} {ts = ts} a b c some) v =
        let x = TypedKind-F.Product q bs us ts in
        let e = sym (typed.rolls-Product q bs us ts) in
        let alone = masks_alone q.clauses (counts (map (verdict plain_forms) ts)) in
        let ok = and-true alone (all_plain bs && (each_plain us && all_plain ts)) (from l ns (typed.Product q bs us ts) x e v) in
        let rest = and-true (all_plain bs) (each_plain us && all_plain ts) ok.1 in
        let last = and-true (each_plain us) (all_plain ts) rest.1 in
        to l ns (typed.Product q bs us ts) x e
        (both (has_source q.sources && masks_alone q.clauses (counts (map (verdict rule_forms) ts))) (all_ruled bs && (each_ruled us && all_ruled ts))
        (both (has_source q.sources) (masks_alone q.clauses (counts (map (verdict rule_forms) ts))) (some-source q.sources some) (subst (λ k. masks_alone q.clauses k ≡ true) (same-counts ts) ok.0))
        (both (all_ruled bs) (each_ruled us && all_ruled ts) (all-ruled n bs a rest.0) (both (each_ruled us) (all_ruled ts) (each-ruled _ us b last.0) (all-ruled _ ts c last.1))))
    tree-ruled n _ (is.initial {l = l} {ns = ns} {t = t} {us = us} {vs = vs} {test = test} {ts = ts} a b c d even renews) v =
        let x = TypedKind-F.Initial t us test vs ts in
        let e = sym (typed.rolls-Initial t us test vs ts) in
        let ok = and-true (all_one (counts (map (verdict plain_forms) ts))) (each_plain us && (all_plain test && (each_plain vs && all_plain ts))) (from l ns (typed.Initial t us test vs ts) x e v) in
        let first = and-true (each_plain us) (all_plain test && (each_plain vs && all_plain ts)) ok.1 in
        let second = and-true (all_plain test) (each_plain vs && all_plain ts) first.1 in
        let third = and-true (each_plain vs) (all_plain ts) second.1 in
        to l ns (typed.Initial t us test vs ts) x e
        (both (all_one (counts (map (verdict rule_forms) ts))) (each_ruled us && (all_ruled test && (each_ruled vs && all_ruled ts))) (subst (λ k. all_one k ≡ true) (same-counts ts) ok.0)
        (both (each_ruled us) (all_ruled test && (each_ruled vs && all_ruled ts)) (each-ruled n us a first.0)
        (both (all_ruled test) (each_ruled vs && all_ruled ts) (all-ruled _ test b second.0) (both (each_ruled vs) (all_ruled ts) (each-ruled _ vs c third.0) (all-ruled _ ts d third.1)))))

    all-ruled : (n : ℕ) (ts : List TypedExpr) → AreBound functions n ts → all_plain ts ≡ true → all_ruled ts ≡ true
    all-ruled n _ is.no_more v = refl
    all-ruled n _ (is.more {t = t} {ts = ts} p q) v = let ok = and-true (Plain t) (all_plain ts) v in both (Ruled t) (all_ruled ts) (tree-ruled n t p ok.0) (all-ruled n ts q ok.1)

    each-ruled : (n : ℕ) (us : List (List TypedExpr)) → AreDefined functions n us → each_plain us ≡ true → each_ruled us ≡ true
    each-ruled n _ is.no_def v = refl
    each-ruled n _ (is.a_def {ts = ts} {us = us} p q) v = let ok = and-true (all_plain ts) (each_plain us) v in both (all_ruled ts) (each_ruled us) (all-ruled n ts p ok.0) (each-ruled _ us q ok.1)

    arms-ruled : (n named : ℕ) (us : List (List TypedExpr)) → AreArms functions n named us → each_plain us ≡ true → each_ruled us ≡ true
    arms-ruled n _ _ is.no_arm v = refl
    arms-ruled n _ _ (is.a_named_arm {named = named} {ts = ts} {arms = us} p q) v =
        let ok = and-true (all_plain ts) (each_plain us) v in both (all_ruled ts) (each_ruled us) (all-ruled _ ts p ok.0) (arms-ruled n named us q ok.1)
    arms-ruled n _ _ (is.an_arm {ts = ts} {arms = us} p q) v =
        let ok = and-true (all_plain ts) (each_plain us) v in both (all_ruled ts) (each_ruled us) (all-ruled n ts p ok.0) (arms-ruled n 0 us q ok.1)

  function-at : (fs : List Function) (i : ℕ) (f : Function) → All (IsBoundIn functions) fs → slice_get fs i ≡ Some f → IsBoundIn functions f
  function-at [] i f h e = absurd cc
  function-at (x ∷ fs) zero f h e = subst (IsBoundIn functions) (same e) (All-head (IsBoundIn functions) x fs h)
    where
      same : Some x ≡ Some f → x ≡ f
      same e = cc
  function-at (x ∷ fs) (suc i) f h e = function-at fs i f (All-tail (IsBoundIn functions) x fs h) e

pub texts-covered : TextLaw → AreTypedCovered → AreTextsCovered
texts-covered bounds covers bytes u p h i d es e b =
    let bound = bounds bytes u p h.lexed h.spelled h.typed in
    let plain = covers u p (names_once bytes u.tokens h.lexed) h.typed i d es e b in
    let own : IsBoundIn (length p.functions) d = function-at (length p.functions) p.functions i d bound.functions e in
    all-ruled (length p.functions) (length d.parameters) es (subst (IsBoundBody (length p.functions) (length d.parameters)) b own) plain
