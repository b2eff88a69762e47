-- Each fitting expression obeys the rules: a case a form.
use Rattle.std.proofs.Common.{◌≡◌, ℕ, ◌≤◌, Bool, true, false, ◌&&◌, ◌||◌, List, [], ◌∷◌, ◌++◌, map, length, slice_get, Some, None, refl, sym, ap, subst, ◌∙◌, arith, nat_eq}
use Rattle.std.specs.Prelude.{All}
use Rattle.std.proofs.lemmas.Bool.{eqb-true}
use Rattle.std.proofs.lemmas.List.{length-map}
use Rattle.flow_value.specs.declared.ty.Ty.{Ty}
use Rattle.flow_value.specs.declared.ty.Ty.TheVariants as ty
use Rattle.if1_graph.specs.declared.op.Simple.TheVariants as simple
use Rattle.if1_graph.specs.Types.{Plain}
use Rattle.sisal_tree.specs.declared.expr.Constant.{Constant}
use Rattle.sisal_tree.specs.declared.expr.Constant.TheVariants as constant
use Rattle.typed_tree.specs.declared.expr.TypedExpr.{TypedExpr}
use Rattle.typed_tree.specs.declared.expr.TypedKind.{TypedKind}
use Rattle.typed_tree.specs.declared.expr.TypedKind.TheVariants as typed
use Rattle.typed_tree.specs.declared.expr.TypedKind.TheViews.{roll-TypedKind}
use Rattle.typed_tree.specs.declared.expr.TypedKind.TheOpen.{TypedKind-F}
use Rattle.typed_tree.specs.declared.expr.TypedKind.TheFolds.{map-TypedKind, fold-roll-TypedKind, fold-roll-TypedExpr}
use Rattle.typed_tree.specs.declared.expr.ClauseForm.{ClauseForm}
use Rattle.typed_tree.specs.declared.expr.Source.{Source}
use Rattle.typed_tree.specs.Typing.{with}
use Rattle.typed_tree.specs.Types.{AreNumbers, constant_type}
use Rattle.lowering_meaning.specs.FittingTreesFitting.{AreMade, TagsFit, IsChosen, Fits, AllFit, DefsFit, ArmsFit}
use Rattle.lowering_meaning.specs.FittingTreesFitting as is
use Rattle.lowering.specs.declared.feed.Carried.TheVariants.{One}
use Rattle.lowering.specs.Graphs.{andthen}
use Rattle.lowering.specs.Operations.{Lowers, all_lowered, body_lowered, constant_lowered}
use Rattle.lowering.specs.Choices.{applied, case_lowered}
use Rattle.lowering.specs.Loops.{Phrase, unless_places, clauses_lowered, product_lowered}
use Rattle.lowering.specs.Phrases.{Kind, each, expr_lowered, kind_lowered, phrase, phrase_kind, lowers}
use Rattle.lowering.specs.Programs.{stub}
use Rattle.lowering_meaning.specs.Coverage.{verdict, kind_covered, all_ok, each_ok, counts, all_one, no_true, masks_alone}
use Rattle.lowering_meaning.proofs.Layers.{parts_lowered, name-is, parts_covered, covered-is, count-is, and-true}
use Rattle.lowering_meaning.proofs.BuiltTrees.{numbers-length}
use Rattle.lowered_ready.specs.RuleLaws.{has_source, rule_forms}
use Rattle.lowered_ready.proofs.World.{World, To, AllTo, to_none, to_more, DefsTo, to_no_def, to_def, ArmsTo, to_no_arm, to_named_arm, to_arm, row-does}
use Rattle.lowered_ready.proofs.Rows as rows
use Rattle.lowered_ready.proofs.RuleForms as forms_are
use Rattle.lowered_ready.proofs.Operations.{ordinary, text-does}
use Rattle.lowered_ready.proofs.Ifs.{if-does}
use Rattle.lowered_ready.proofs.Applied.{applied-does}
use Rattle.lowered_ready.proofs.CaseForms.{case-does}
use Rattle.lowered_ready.proofs.Clauses.{OnesTo, ones_none, ones_more, made-aligned, clauses-to, no-masks}
use Rattle.lowered_ready.proofs.Products.{forall-does}
use Rattle.lowered_ready.proofs.Initials.{NamedRight, PhrasesTo, phrases_none, phrases_more, initial-does}

one-of : (ts : List Ty) → length ts ≡ 1 → (a : Ty) × (ts ≡ a ∷ [])
one-of [] e = absurd (omega (arith, e))
one-of (a ∷ []) e = (a, refl)
one-of (a ∷ b ∷ ts) e = absurd (omega (arith, e))

some-source : (ss : List Source) → has_source ss ≡ true → 1 ≤ length ss
some-source [] e = absurd cc
some-source (s ∷ ss) e = omega arith

module _ (x : World) where
  abbrev Fit : List Ty → TypedExpr → List Ty → Type 0
  Fit γ e tys = Fits (AreNumbers x.forms x.names) x.hs γ e tys

  abbrev FitAll : List Ty → List TypedExpr → List Ty → Type 0
  FitAll γ es tys = AllFit (AreNumbers x.forms x.names) x.hs γ es tys

  abbrev several : List TypedExpr → List Lowers
  several es = each (map (phrase x.forms) es)

  abbrev several_lists : List (List TypedExpr) → List (List Lowers)
  several_lists us = map each (map (map (phrase x.forms)) us)

  abbrev pub IsRuled : TypedExpr → Type 0
  IsRuled e = (verdict rule_forms e).ok ≡ true

  abbrev pub AreRuled : List TypedExpr → Type 0
  AreRuled es = all_ok (map (verdict rule_forms) es) ≡ true

  abbrev EachRuled : List (List TypedExpr) → Type 0
  EachRuled us = each_ok (map (map (verdict rule_forms)) us) ≡ true

  seen : (γ tys : List Ty) (z : TypedKind-F TypedKind TypedExpr) (y : TypedKind) (l : ℕ) (ns : List ℕ) → y ≡ roll-TypedKind z
      → To x γ tys ((kind_lowered x.forms (map-TypedKind TypedKind TypedExpr Kind Phrase (phrase_kind x.forms) (phrase x.forms) z)).lowers ns) → To x γ tys (lowers x.forms (with l ns y))
  seen γ tys z y l ns e h =
      subst (To x γ tys)
      (sym (ap (λ (p : Phrase). p.lowers) (fold-roll-TypedExpr Kind Phrase (kind_lowered x.forms) expr_lowered (record { line = l; types = ns; kind = y }))
      ∙ (ap (λ z. (phrase_kind x.forms z).lowers ns) e ∙ ap (λ (z : Kind). z.lowers ns) (fold-roll-TypedKind Kind Phrase (kind_lowered x.forms) expr_lowered z))))
      h

  -- what is covered of the parts
  parts : (l : ℕ) (ns : List ℕ) (y : TypedKind) (z : TypedKind-F TypedKind TypedExpr) → y ≡ roll-TypedKind z → IsRuled (with l ns y) → kind_covered rule_forms (parts_covered rule_forms z) ≡ true
  parts l ns y z e v = sym (covered-is rule_forms l ns y z e) ∙ v

  -- ---- constants

  one-number : (ns : List ℕ) (a : Ty) → AreNumbers x.forms x.names ns (a ∷ []) → (n : ℕ) × (ns ≡ n ∷ [])
  one-number [] a h = absurd h
  one-number (n ∷ []) a h = (n, refl)
  one-number (n ∷ m ∷ ns) a h = absurd h.1

  constant-to : (γ : List Ty) (c : Constant) (ns : List ℕ) → AreNumbers x.forms x.names ns (constant_type c ∷ []) → To x γ (constant_type c ∷ []) (λ env. constant_lowered c ns)
  constant-to γ c [] h = absurd h
  constant-to γ c (n ∷ m ∷ ns) h = absurd h.1
  constant-to γ (constant.Integer z) (n ∷ []) h = forms_are.literal-does x γ (constant.Integer z) n ty.Int h
  constant-to γ (constant.Letter c) (n ∷ []) h = forms_are.literal-does x γ (constant.Letter c) n ty.Char h
  constant-to γ (constant.Quoted s) (n ∷ []) h = λ p own before ls env t i. text-does x p own before ls s n h.0
  constant-to γ constant.True (n ∷ []) h = forms_are.literal-does x γ constant.True n ty.Bool h
  constant-to γ constant.False (n ∷ []) h = forms_are.literal-does x γ constant.False n ty.Bool h
  constant-to γ constant.Nil (n ∷ []) h = forms_are.literal-does x γ constant.Nil n ty.Null h

  -- ---- names, and the numbers of types

  numbers-of : (γ : List Ty) (e : TypedExpr) (tys : List Ty) → Fit γ e tys → AreNumbers x.forms x.names e.types tys
  numbers-of γ _ _ (is.a_constant lit num) = num
  numbers-of γ _ _ (is.a_value there num) = num
  numbers-of γ _ _ (is.group f num) = num
  numbers-of γ _ _ (is.call there f num) = num
  numbers-of γ _ _ (is.apply f row num) = num
  numbers-of γ _ _ (is.let_in d f num) = num
  numbers-of γ _ _ (is.if_else t f g num) = num
  numbers-of γ _ _ (is.tag_case ms contents f a tags named chosen others one num) = num
  numbers-of γ _ _ (is.product b g d f m num) = num
  numbers-of γ _ _ (is.initial d c v w f m num) = num

  unnamed-right : (γ : List Ty) (l : ℕ) (ns : List ℕ) (y : TypedKind) (z : TypedKind-F TypedKind TypedExpr) (a : Ty) → y ≡ roll-TypedKind z → (kind_lowered x.forms (parts_lowered x.forms z)).name ≡ None → NamedRight x γ (phrase x.forms (with l ns y)).name a
  unnamed-right γ l ns y z a e n = subst (λ o. NamedRight x γ o a) (sym (name-is x.forms l ns y z e ∙ n)) tt

  named-of : (γ : List Ty) (e : TypedExpr) (tys : List Ty) → Fit γ e tys → (a : Ty) → tys ≡ a ∷ [] → NamedRight x γ (phrase x.forms e).name a
  named-of γ _ _ (is.a_constant {l = l} {ns = ns} {c = c} lit num) a e = unnamed-right γ l ns (typed.Constant c) (TypedKind-F.Constant c) a (sym (typed.rolls-Constant c)) refl
  named-of γ _ _ (is.a_value {l = l} {level = n} {ns = ns} {a = b} there num) a e =
      subst (λ o. NamedRight x γ o a) (sym (name-is x.forms l ns (typed.Value n) (TypedKind-F.Value n) (sym (typed.rolls-Value n)))) (subst (λ t. slice_get γ n ≡ Some t) (same e) there)
    where
      same : b ∷ [] ≡ a ∷ [] → b ≡ a
      same e = cc
  named-of γ _ _ (is.group {l = l} {ns = ns} {ts = ts} f num) a e = unnamed-right γ l ns (typed.Group ts) (TypedKind-F.Group ts) a (sym (typed.rolls-Group ts)) refl
  named-of γ _ _ (is.call {l = l} {f = f} {ns = ns} {ts = ts} there g num) a e = unnamed-right γ l ns (typed.Call f ts) (TypedKind-F.Call f ts) a (sym (typed.rolls-Call f ts)) refl
  named-of γ _ _ (is.apply {l = l} {ns = ns} {o = o} {ts = ts} f row num) a e = unnamed-right γ l ns (typed.Apply o ts) (TypedKind-F.Apply o ts) a (sym (typed.rolls-Apply o ts)) refl
  named-of γ _ _ (is.let_in {l = l} {ns = ns} {us = us} {ts = ts} d f num) a e = unnamed-right γ l ns (typed.Let us ts) (TypedKind-F.Let us ts) a (sym (typed.rolls-Let us ts)) refl
  named-of γ _ _ (is.if_else {l = l} {ns = ns} {ts = ts} {us = us} {vs = vs} t f g num) a e = unnamed-right γ l ns (typed.If ts us vs) (TypedKind-F.If ts us vs) a (sym (typed.rolls-If ts us vs)) refl
  named-of γ _ _ (is.tag_case ms contents {l = l} {ns = ns} {c = c} {ts = ts} {arms = arms} f b tags named chosen others one num) a e = unnamed-right γ l ns (typed.Case c ts arms) (TypedKind-F.Case c ts arms) a (sym (typed.rolls-Case c ts arms)) refl
  named-of γ _ _ (is.product {l = l} {ns = ns} {p = p} {bounds = bounds} {us = us} {ts = ts} b g d f m num) a e = unnamed-right γ l ns (typed.Product p bounds us ts) (TypedKind-F.Product p bounds us ts) a (sym (typed.rolls-Product p bounds us ts)) refl
  named-of γ _ _ (is.initial {l = l} {ns = ns} {t = t} {us = us} {vs = vs} {tests = tests} {ts = ts} d c v w f m num) a e =
      unnamed-right γ l ns (typed.Initial t us tests vs ts) (TypedKind-F.Initial t us tests vs ts) a (sym (typed.rolls-Initial t us tests vs ts)) refl

  ones-of : (γ : List Ty) (fs : List Phrase) (row : List Ty) → PhrasesTo x γ fs row → OnesTo x γ (each fs) row
  ones-of γ _ _ phrases_none = ones_none
  ones-of γ _ _ (phrases_more f fs a row h n r) = ones_more f.lowers (each fs) a row h (ones-of γ fs row r)

  -- ---- clauses of a loop over generators

  body-to : (γ row made : List Ty) (cs : List ClauseForm) (fs : List Phrase) (ks : List ℕ) → AreMade cs row made → AllTo x γ (each fs) row → (all_one ks ≡ true → PhrasesTo x γ fs row) → masks_alone cs ks ≡ true
      → AllTo x γ (clauses_lowered (unless_places cs) (each fs)) row
  body-to γ row made cs fs ks m h one v = by (no_true (unless_places cs)) refl v
    where
      by : (b : Bool) → no_true (unless_places cs) ≡ b → (b || all_one ks) ≡ true → AllTo x γ (clauses_lowered (unless_places cs) (each fs)) row
      by true e v = subst (λ gs. AllTo x γ gs row) (sym (no-masks x (unless_places cs) (each fs) e)) h
      by false e v = clauses-to x γ (unless_places cs) (each fs) row (made-aligned x cs row made m) (ones-of γ fs row (one v))

  -- ---- trees

  mutual
    pub tree-to : (γ : List Ty) (e : TypedExpr) (tys : List Ty) → Fit γ e tys → IsRuled e → To x γ tys (lowers x.forms e)
    tree-to γ _ _ (is.a_constant {l = l} {ns = ns} {c = c} lit num) v =
        seen γ (constant_type c ∷ []) (TypedKind-F.Constant c) (typed.Constant c) l ns (sym (typed.rolls-Constant c)) (constant-to γ c ns num)
    tree-to γ _ _ (is.a_value {l = l} {level = n} {ns = ns} {a = a} there num) v =
        seen γ (a ∷ []) (TypedKind-F.Value n) (typed.Value n) l ns (sym (typed.rolls-Value n)) (forms_are.name-does x γ n a there)
    tree-to γ _ tys (is.group {l = l} {ns = ns} {ts = ts} f num) v =
        let w = parts l ns (typed.Group ts) (TypedKind-F.Group ts) (sym (typed.rolls-Group ts)) v in
        seen γ tys (TypedKind-F.Group ts) (typed.Group ts) l ns (sym (typed.rolls-Group ts)) (forms_are.all-does x γ (several ts) tys (all-to γ ts tys f w))
    tree-to γ _ _ (is.call {l = l} {f = n} {ns = ns} {g = g} {ts = ts} there f num) v =
        let w = parts l ns (typed.Call n ts) (TypedKind-F.Call n ts) (sym (typed.rolls-Call n ts)) v in
        seen γ g.results (TypedKind-F.Call n ts) (typed.Call n ts) l ns (sym (typed.rolls-Call n ts)) (forms_are.call-does x γ n g (several ts) ns there (all-to γ ts g.params f w) num)
    tree-to γ _ _ (is.apply {tys = tys} {l = l} {ns = ns} {o = o} {a = a} {ts = ts} f row num) v =
        let w = parts l ns (typed.Apply o ts) (TypedKind-F.Apply o ts) (sym (typed.rolls-Apply o ts)) v in
        let n = one-number ns a num in
        seen γ (a ∷ []) (TypedKind-F.Apply o ts) (typed.Apply o ts) l ns (sym (typed.rolls-Apply o ts))
        (subst (λ ns. AreNumbers x.forms x.names ns (a ∷ []) → To x γ (a ∷ []) (λ env. andthen (all_lowered (several ts) env) (λ ws. applied x.forms o ws ns))) (sym n.1)
        (λ num p own before ls env t i.
        forms_are.then-does x p own before ls tys (a ∷ []) (all_lowered (several ts) env) (λ ws. applied x.forms o ws (n.0 ∷ [])) (forms_are.all-does x γ (several ts) tys (all-to γ ts tys f w) p own before ls env t i)
        (λ more ws aw tw. applied-does x p own (before ++ more) ls o tys a row ws n.0 num.0 tw aw)) num)
    tree-to γ _ tys (is.let_in {δ = δ} {l = l} {ns = ns} {us = us} {ts = ts} d f num) v =
        let w = and-true (each_ok (map (map (verdict rule_forms)) us)) (all_ok (map (verdict rule_forms) ts)) (parts l ns (typed.Let us ts) (TypedKind-F.Let us ts) (sym (typed.rolls-Let us ts)) v) in
        seen γ tys (TypedKind-F.Let us ts) (typed.Let us ts) l ns (sym (typed.rolls-Let us ts)) (forms_are.body-does x γ δ tys (several_lists us) (several ts) (defs-to γ us δ d w.0) (all-to (γ ++ δ) ts tys f w.1))
    tree-to γ _ tys (is.if_else {l = l} {ns = ns} {ts = ts} {us = us} {vs = vs} t f g num) v =
        let w = and-true (all_ok (map (verdict rule_forms) ts)) (all_ok (map (verdict rule_forms) us) && all_ok (map (verdict rule_forms) vs)) (parts l ns (typed.If ts us vs) (TypedKind-F.If ts us vs) (sym (typed.rolls-If ts us vs)) v) in
        let y = and-true (all_ok (map (verdict rule_forms) us)) (all_ok (map (verdict rule_forms) vs)) w.1 in
        seen γ tys (TypedKind-F.If ts us vs) (typed.If ts us vs) l ns (sym (typed.rolls-If ts us vs))
        (if-does x γ tys (several ts) (several us) (several vs) ns (all-to γ ts (ty.Bool ∷ []) t w.0) (all-to γ us tys f y.0) (all-to γ vs tys g y.1) num)
    tree-to γ _ tys (is.tag_case ms contents {l = l} {ns = ns} {c = c} {ts = ts} {arms = arms} f a tags named chosen others one num) v =
        let w = and-true (all_ok (map (verdict rule_forms) ts)) (each_ok (map (map (verdict rule_forms)) arms)) (parts l ns (typed.Case c ts arms) (TypedKind-F.Case c ts arms) (sym (typed.rolls-Case c ts arms)) v) in
        let lists = several_lists arms in
        let count : length lists ≡ length arms = length-map (map (map (phrase x.forms)) arms) each ∙ length-map arms (map (phrase x.forms)) in
        seen γ tys (TypedKind-F.Case c ts arms) (typed.Case c ts arms) l ns (sym (typed.rolls-Case c ts arms))
        (λ p own before ls env t i.
        forms_are.then-does x p own before ls (ty.Uni ms ∷ []) tys (all_lowered (several ts) env) (λ ws. case_lowered x.forms c lists ns ws env) (forms_are.all-does x γ (several ts) (ty.Uni ms ∷ []) (all-to γ ts (ty.Uni ms ∷ []) f w.0) p own before ls env t i)
        (λ more ws aw tw.
        case-does x γ tys contents ms c lists ns ws (arms-to γ c.named arms contents tys a w.1) (subst (λ n. TagsFit n contents c 0 ms) (sym count) tags) named (subst (λ n. All (IsChosen c n (length ms)) c.choices) (sym count) chosen)
        (omega (arith, one, count)) num p own (before ++ more) ls env t (forms_are.more-in x own before more ls env i) tw aw))
    tree-to γ _ made (is.product {tys = tys} {names = xs} {δ = δ} {row = row} {l = l} {ns = ns} {p = q} {bounds = bounds} {us = us} {ts = ts} b g d f m num) v =
        let all = parts l ns (typed.Product q bounds us ts) (TypedKind-F.Product q bounds us ts) (sym (typed.rolls-Product q bounds us ts)) v in
        let ks = counts (map (verdict rule_forms) ts) in
        let w = and-true (has_source q.sources && masks_alone q.clauses ks) (all_ok (map (verdict rule_forms) bounds) && (each_ok (map (map (verdict rule_forms)) us) && all_ok (map (verdict rule_forms) ts))) all in
        let z = and-true (has_source q.sources) (masks_alone q.clauses ks) w.0 in
        let y = and-true (all_ok (map (verdict rule_forms) bounds)) (each_ok (map (map (verdict rule_forms)) us) && all_ok (map (verdict rule_forms) ts)) w.1 in
        let u = and-true (each_ok (map (map (verdict rule_forms)) us)) (all_ok (map (verdict rule_forms) ts)) y.1 in
        let body = body_lowered (several_lists us) (clauses_lowered (unless_places q.clauses) (several ts)) in
        seen γ made (TypedKind-F.Product q bounds us ts) (typed.Product q bounds us ts) l ns (sym (typed.rolls-Product q bounds us ts))
        (λ p own before ls env t i.
        forms_are.then-does x p own before ls tys made (all_lowered (several bounds) env) (λ ws. product_lowered x.forms q (several_lists us) (several ts) ns ws env) (forms_are.all-does x γ (several bounds) tys (all-to γ bounds tys b y.0) p own before ls env t i)
        (λ more ws aw tw.
        forall-does x γ xs tys row made q.sources q.clauses body ns ws g (some-source q.sources z.0)
        (forms_are.body-does x (γ ++ xs) δ row (several_lists us) (clauses_lowered (unless_places q.clauses) (several ts)) (defs-to (γ ++ xs) us δ d u.0)
        (body-to ((γ ++ xs) ++ δ) row made q.clauses (map (phrase x.forms) ts) ks m (all-to ((γ ++ xs) ++ δ) ts row f u.1) (λ one. phrases-to ((γ ++ xs) ++ δ) ts row f u.1 one) z.1)) m num
        p own (before ++ more) ls env t (forms_are.more-in x own before more ls env i) tw aw))
    tree-to γ _ made (is.initial {loop = loop} {later = later} {row = row} {l = l} {ns = ns} {t = t} {us = us} {vs = vs} {tests = tests} {ts = ts} d c e r f m num) v =
        let all = parts l ns (typed.Initial t us tests vs ts) (TypedKind-F.Initial t us tests vs ts) (sym (typed.rolls-Initial t us tests vs ts)) v in
        let w = and-true (all_one (counts (map (verdict rule_forms) ts))) (each_ok (map (map (verdict rule_forms)) us) && (all_ok (map (verdict rule_forms) tests) && (each_ok (map (map (verdict rule_forms)) vs) && all_ok (map (verdict rule_forms) ts)))) all in
        let y = and-true (each_ok (map (map (verdict rule_forms)) us)) (all_ok (map (verdict rule_forms) tests) && (each_ok (map (map (verdict rule_forms)) vs) && all_ok (map (verdict rule_forms) ts))) w.1 in
        let z = and-true (all_ok (map (verdict rule_forms) tests)) (each_ok (map (map (verdict rule_forms)) vs) && all_ok (map (verdict rule_forms) ts)) y.1 in
        let u = and-true (each_ok (map (map (verdict rule_forms)) vs)) (all_ok (map (verdict rule_forms) ts)) z.1 in
        seen γ made (TypedKind-F.Initial t us tests vs ts) (typed.Initial t us tests vs ts) l ns (sym (typed.rolls-Initial t us tests vs ts))
        (initial-does x γ loop later row made t (several_lists us) (several tests) (several_lists vs) (map (phrase x.forms) ts) ns (defs-to γ us loop d y.0) (all-to (γ ++ loop) tests (ty.Bool ∷ []) c z.0) (defs-to (γ ++ loop) vs later e u.0) r
        (phrases-to (γ ++ loop) ts row f u.1 w.0) m num)

    pub all-to : (γ : List Ty) (es : List TypedExpr) (tys : List Ty) → FitAll γ es tys → AreRuled es → AllTo x γ (several es) tys
    all-to γ _ _ is.no_more v = to_none γ
    all-to γ _ _ (is.more {tys = tys} {others = others} {t = t} {ts = ts} f g) v =
        let w = and-true (verdict rule_forms t).ok (all_ok (map (verdict rule_forms) ts)) v in
        to_more γ (lowers x.forms t) (several ts) tys others (tree-to γ t tys f w.0) (all-to γ ts others g w.1)

    -- where each has one value
    phrases-to : (γ : List Ty) (es : List TypedExpr) (row : List Ty) → FitAll γ es row → AreRuled es → all_one (counts (map (verdict rule_forms) es)) ≡ true → PhrasesTo x γ (map (phrase x.forms) es) row
    phrases-to γ _ _ is.no_more v o = phrases_none
    phrases-to γ _ _ (is.more {tys = tys} {others = others} {t = t} {ts = ts} f g) v o =
        let w = and-true (verdict rule_forms t).ok (all_ok (map (verdict rule_forms) ts)) v in
        let u = and-true (nat_eq (verdict rule_forms t).count 1) (all_one (counts (map (verdict rule_forms) ts))) o in
        let count : length tys ≡ 1 = sym (numbers-length x.forms x.names t.types tys (numbers-of γ t tys f)) ∙ sym (count-is rule_forms t) ∙ eqb-true (verdict rule_forms t).count 1 u.0 in
        let a = one-of tys count in
        subst (λ ts'. PhrasesTo x γ (map (phrase x.forms) (t ∷ ts)) (ts' ++ others)) (sym a.1)
        (phrases_more (phrase x.forms t) (map (phrase x.forms) ts) a.0 others (subst (λ ts'. To x γ ts' (lowers x.forms t)) a.1 (tree-to γ t tys f w.0)) (named-of γ t tys f a.0 a.1) (phrases-to γ ts others g w.1 u.1))

    defs-to : (γ : List Ty) (us : List (List TypedExpr)) (δ : List Ty) → DefsFit (AreNumbers x.forms x.names) x.hs γ us δ → EachRuled us → DefsTo x γ (several_lists us) δ
    defs-to γ _ _ is.no_def v = to_no_def γ
    defs-to γ _ _ (is.a_def {tys = tys} {others = others} {ts = ts} {us = us} f g) v =
        let w = and-true (all_ok (map (verdict rule_forms) ts)) (each_ok (map (map (verdict rule_forms)) us)) v in
        to_def γ (several ts) (several_lists us) tys others (all-to γ ts tys f w.0) (defs-to (γ ++ tys) us others g w.1)

    arms-to : (γ : List Ty) (named : ℕ) (arms : List (List TypedExpr)) (contents tys : List Ty) → ArmsFit (AreNumbers x.forms x.names) x.hs γ named arms contents tys → EachRuled arms → ArmsTo x γ named (several_lists arms) contents tys
    arms-to γ _ _ _ tys is.no_arm v = to_no_arm γ tys
    arms-to γ _ _ _ tys (is.a_named_arm {contents = contents} {named = named} a {ts = ts} {arms = arms} f g) v =
        let w = and-true (all_ok (map (verdict rule_forms) ts)) (each_ok (map (map (verdict rule_forms)) arms)) v in
        to_named_arm γ tys named (several ts) (several_lists arms) a contents (all-to (γ ++ (a ∷ [])) ts tys f w.0) (arms-to γ named arms contents tys g w.1)
    arms-to γ _ _ _ tys (is.an_arm {ts = ts} {arms = arms} f g) v =
        let w = and-true (all_ok (map (verdict rule_forms) ts)) (each_ok (map (map (verdict rule_forms)) arms)) v in
        to_arm γ tys (several ts) (several_lists arms) (all-to γ ts tys f w.0) (arms-to γ 0 arms [] tys g w.1)

  -- ---- a function that another text has

  pub stubs-to : (γ : List Ty) (ns : List ℕ) (tys : List Ty) → AreNumbers x.forms x.names ns tys → AllTo x γ (map stub ns) tys
  stubs-to γ [] [] h = to_none γ
  stubs-to γ [] (t ∷ tys) h = absurd h
  stubs-to γ (n ∷ ns) [] h = absurd h
  stubs-to γ (n ∷ ns) (t ∷ tys) h = to_more γ (stub n) (map stub ns) (t ∷ []) tys one (stubs-to γ ns tys h.1)
    where
      one : To x γ (t ∷ []) (stub n)
      one p own before ls env te i = row-does x p own before ls simple.Error [] [] n t (Plain (x.bare t)) tt (rows.an-error (x.bare t)) refl h.0 (ordinary x p simple.Error [] (One n) tt) tt
