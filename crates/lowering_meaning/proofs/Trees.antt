-- What fitting expressions give in the source, their graphs give: a case a form.
use Rattle.std.proofs.Common.{◌≡◌, ℕ, suc, ◌+◌, ◌*◌, true, List, [], ◌∷◌, ◌++◌, map, length, slice_get, Some, None, refl, sym, ap, ◌∙◌, subst, arith}
use Rattle.std.proofs.lemmas.List.{length-append}
use Rattle.flow_value.specs.declared.value.Val.{Val}
use Rattle.flow_value.specs.declared.value.Val.TheViews.{out-Val}
use Rattle.flow_value.specs.declared.ty.Ty.{Ty}
use Rattle.flow_value.specs.declared.ty.Ty.TheVariants as ty
use Rattle.if1_graph.specs.declared.op.Simple.TheVariants as simple
use Rattle.value_ops.specs.Operations.{op_value}
use Rattle.value_ops.specs.declared.operation.Operation.{Operation}
use Rattle.type_table.specs.declared.form.Form.{Form}
use Rattle.typed_tree.specs.declared.expr.TypedExpr.{TypedExpr}
use Rattle.typed_tree.specs.declared.expr.TypedKind.{TypedKind}
use Rattle.typed_tree.specs.declared.expr.TypedKind.TheVariants as typed
use Rattle.typed_tree.specs.declared.expr.TypedKind.TheViews.{roll-TypedKind}
use Rattle.typed_tree.specs.declared.expr.TypedKind.TheOpen.{TypedKind-F}
use Rattle.typed_tree.specs.declared.expr.Product.{Product}
use Rattle.typed_tree.specs.declared.expr.Turns.{Turns}
use Rattle.typed_tree.specs.declared.program.Function.{Function}
use Rattle.typed_tree.specs.Typing.{with}
use Rattle.typed_tree.specs.Types.{IsNumber, AreNumbers, constant_type}
use Rattle.typed_values.specs.Fitting.{Row, Goes, AreMade, Renews, TagsFit, Header, Fits, AllFit, DefsFit, ArmsFit}
use Rattle.typed_values.specs.Fitting as is
use Rattle.typed_rows.specs.Rows.{AreOf}
use Rattle.meaning.specs.Timed.{given, plus, andthen}
use Rattle.meaning.specs.Words.{constant_value, value_at}
use Rattle.meaning.specs.Meaning.{Gives as Means, all_of, defined, body_of, kind_gives, arm_of, calls, meaning}
use Rattle.graph_meaning.specs.Carried.{Value}
use Rattle.lowering_meaning.proofs.Told.{Telling}
use Rattle.graph_meaning.specs.NodeValues.{Shape}
use Rattle.graph_meaning.specs.NodeValues as shapes
use Rattle.graph_meaning.specs.Demand.{Network}
use Rattle.lowering.specs.declared.feed.Carried.TheVariants.{One}
use Rattle.lowering.specs.declared.graph.Action.TheVariants.{Call}
use Rattle.lowering.specs.Graphs.{only, a_node}
use Rattle.lowering.specs.Graphs as graphs
use Rattle.lowering.specs.Operations.{Lowers, all_lowered, defs_lowered, body_lowered, constant_lowered}
use Rattle.lowering.specs.Choices.{applied, case_lowered}
use Rattle.lowering.specs.Loops.{Phrase}
use Rattle.lowering.specs.Phrases.{each, kind_lowered, phrase, lowers}
use Rattle.lowering_meaning.specs.Coverage.{Coverage, all_ok, each_ok, counts, total, kind_covered, verdict}
use Rattle.lowering_meaning.proofs.Layers.{parts_meant, meaning-is, parts_lowered, lowers-is, name-is, parts_covered, covered-is, count-is, and-true}
use Rattle.lowering_meaning.proofs.Sites.{ShapeOf}
use Rattle.lowering_meaning.proofs.Inside.{Gives}
use Rattle.lowering_meaning.proofs.Forms.{Wired, Typed, nil-typed, cons-typed, nil-defs-typed, cons-defs-typed, FreeOn, Drawn, drawn-as, step-drawn, nil-drawn, cons-drawn, DrawnOn, then-drawn, nil-defs-drawn, cons-defs-drawn, body-drawn, less-drawn}
use Rattle.lowering_meaning.proofs.Ifs.{node-from, if-drawn}
use Rattle.lowering_meaning.proofs.Contents.{content-typed}
use Rattle.lowering_meaning.proofs.CaseForms.{ArmsDrawn, no_arm, named_arm, other_arm, arms-free, case-free, case-drawn}
use Rattle.lowering_meaning.proofs.Widths.{Wide, expr-wide, fit-count}
use Rattle.lowering_meaning.proofs.WireTypes.{all-wired, defs-wired}
use Rattle.lowering_meaning.proofs.Operations.{value-drawn, constant-drawn, call-on}

-- the one type of an expression
pub one-number : (forms : List Form) (spellings : List (List ℕ)) (ns : List ℕ) (a : Ty) → AreNumbers forms spellings ns (a ∷ []) → (n : ℕ) × (ns ≡ n ∷ [])
one-number forms spellings [] a h = absurd h
one-number forms spellings (n ∷ []) a h = (n, refl)
one-number forms spellings (n ∷ m ∷ ns) a h = absurd h.1

pub numbers-length : (forms : List Form) (spellings : List (List ℕ)) (ns : List ℕ) (tys : List Ty) → AreNumbers forms spellings ns tys → length ns ≡ length tys
numbers-length forms spellings [] [] h = refl
numbers-length forms spellings [] (t ∷ tys) h = absurd h
numbers-length forms spellings (n ∷ ns) [] h = absurd h
numbers-length forms spellings (n ∷ ns) (t ∷ tys) h = ap suc (numbers-length forms spellings ns tys h.1)

module _ (u : Network) (number : ℕ → ℕ) (shape : Telling) (forms : List Form) (spellings : List (List ℕ)) (hs : List Header) (p : List Function) (cover : Coverage) where
  abbrev pub FitsTo : List Ty → TypedExpr → List Ty → Type 0
  FitsTo γ e tys = Fits (AreNumbers forms spellings) hs γ e tys

  abbrev pub AllFitTo : List Ty → List TypedExpr → List Ty → Type 0
  AllFitTo γ es tys = AllFit (AreNumbers forms spellings) hs γ es tys

  abbrev pub DefsFitTo : List Ty → List (List TypedExpr) → List Ty → Type 0
  DefsFitTo γ us δ = DefsFit (AreNumbers forms spellings) hs γ us δ

  abbrev pub ArmsFitTo : List Ty → ℕ → List (List TypedExpr) → List Ty → List Ty → Type 0
  ArmsFitTo γ named arms contents tys = ArmsFit (AreNumbers forms spellings) hs γ named arms contents tys

  abbrev pub several : List TypedExpr → List Lowers
  several es = each (map (phrase forms) es)

  abbrev pub several_lists : List (List TypedExpr) → List (List Lowers)
  several_lists us = map each (map (map (phrase forms)) us)

  pub several-length : (us : List (List TypedExpr)) → length us ≡ length (map all_lowered (several_lists us))
  several-length [] = refl
  several-length (ts ∷ us) = ap suc (several-length us)

  abbrev pub means : ℕ → List TypedExpr → List Means
  means n es = map (meaning n p) es

  abbrev pub means_lists : ℕ → List (List TypedExpr) → List (List Means)
  means_lists n us = map (map (meaning n p)) us

  -- phrases one for one
  abbrev pub EachDrawn : List Ty → List Phrase → List Means → Type 0
  EachDrawn γ [] [] = Unit {0}
  EachDrawn γ (g ∷ gs) (k ∷ ks) = Drawn u number shape forms spellings γ 1 0 g.lowers k × EachDrawn γ gs ks
  EachDrawn γ _ _ = ⊥

  pub each-all : (γ : List Ty) (gs : List Phrase) (ks : List Means) → EachDrawn γ gs ks → Drawn u number shape forms spellings γ (length gs) 0 (all_lowered (each gs)) (all_of ks)
  each-all γ [] [] h = nil-drawn u number shape forms spellings γ
  each-all γ (g ∷ gs) (k ∷ ks) h = cons-drawn u number shape forms spellings γ (length gs) g.lowers (each gs) k ks h.0 (each-all γ gs ks h.1)
  each-all γ [] (k ∷ ks) h = absurd h
  each-all γ (g ∷ gs) [] h = absurd h

  -- a phrase that is a name has its value
  abbrev pub IsNamed : Phrase → Means → Type 0
  IsNamed g k = (x : ℕ) → g.name ≡ Some x → (names : List Val) → k names ≡ Some (value_at names x ∷ [], 1)

  -- one phrase for one: it gives so many values, its lowering has them, and where it is a name, it gives what the name has
  abbrev pub EachOf : List Ty → List Phrase → List Means → List ℕ → Type 0
  EachOf γ [] [] [] = Unit {0}
  EachOf γ (g ∷ gs) (k ∷ ks) (c ∷ cs) = (((tys : List Ty) × Typed γ k tys × (length tys ≡ c)) × Wide c g.lowers × IsNamed g k) × EachOf γ gs ks cs
  EachOf γ _ _ _ = ⊥

  -- what calls give to a depth, the graphs of the functions give
  abbrev pub CallsDrawn : ℕ → Type 0
  CallsDrawn n = (f : ℕ) (h : Header) → slice_get hs f ≡ Some h → (vs rs : List Val) (j : ℕ) → AreOf h.params vs → calls n p f vs ≡ Some (rs, j) → Gives u number shape (number f) (map Value vs) (map Value rs) (8 * j)

  abbrev pub OperationDrawn : Operation → Type 0
  OperationDrawn o = (γ tys : List Ty) (a : Ty) (t : ℕ) → IsNumber forms spellings t a → Row o tys a
      → FreeOn (λ env ws. applied forms o ws (t ∷ [])) × DrawnOn u number shape forms spellings γ tys 0 7 (λ env ws. applied forms o ws (t ∷ [])) (λ names vs. given (op_value o vs ∷ []))

  -- a loop over generators, where its bounds, definitions and clauses are drawn
  abbrev pub ProductDrawn : Product → List ℕ → Type 0
  ProductDrawn q arity = (γ tys xs δ row made : List Ty) (ns : List ℕ) (bs : List Phrase) (ds : List (List Phrase)) (gs : List Phrase) (kb : List Means) (kd : List (List Means)) (ks : List Means)
      → Goes q.sources tys xs → AreMade q.clauses row made → AreNumbers forms spellings ns made
      → EachDrawn γ bs kb → Typed γ (all_of kb) tys → Wired forms spellings γ (all_lowered (each bs)) tys
      → Drawn u number shape forms spellings (γ ++ xs) 0 0 (defs_lowered (map each ds)) (defined kd) → Typed (γ ++ xs) (defined kd) ((γ ++ xs) ++ δ) → Wired forms spellings (γ ++ xs) (defs_lowered (map each ds)) ((γ ++ xs) ++ δ)
      → EachDrawn ((γ ++ xs) ++ δ) gs ks → Typed ((γ ++ xs) ++ δ) (all_of ks) row → EachOf ((γ ++ xs) ++ δ) gs ks arity → total arity ≡ length row
      → (n : ℕ) (call : ℕ → Means) → Drawn u number shape forms spellings γ 0 7 ((kind_lowered forms (TypedKind-F.Product q bs ds gs)).lowers ns) (kind_gives n call (TypedKind-F.Product q kb kd ks) (length ns))

  -- a loop of turns
  abbrev pub InitialDrawn : Turns → List ℕ → Type 0
  InitialDrawn t arity = (γ loop later row made : List Ty) (ns : List ℕ) (fs : List (List Phrase)) (ts : List Phrase) (ds : List (List Phrase)) (gs : List Phrase) (kf : List (List Means)) (kt : List Means) (kd : List (List Means)) (ks : List Means)
      → Renews loop t.renewed later → AreMade t.clauses row made → AreNumbers forms spellings ns made
      → Drawn u number shape forms spellings γ 0 0 (defs_lowered (map each fs)) (defined kf) → Typed γ (defined kf) (γ ++ loop) → Wired forms spellings γ (defs_lowered (map each fs)) (γ ++ loop)
      → EachDrawn (γ ++ loop) ts kt → Typed (γ ++ loop) (all_of kt) (ty.Bool ∷ [])
      → Drawn u number shape forms spellings (γ ++ loop) 0 0 (defs_lowered (map each ds)) (defined kd) → Typed (γ ++ loop) (defined kd) ((γ ++ loop) ++ later) → Wired forms spellings (γ ++ loop) (defs_lowered (map each ds)) ((γ ++ loop) ++ later)
      → EachDrawn (γ ++ loop) gs ks → Typed (γ ++ loop) (all_of ks) row → EachOf (γ ++ loop) gs ks arity → total arity ≡ length row
      → (n : ℕ) (call : ℕ → Means) → Drawn u number shape forms spellings γ 0 7 ((kind_lowered forms (TypedKind-F.Initial t fs ts ds gs)).lowers ns) (kind_gives n call (TypedKind-F.Initial t kf kt kd ks) (length ns))

  -- what is asked of the forms that are covered
  pub record FormsDrawn : Type 0 where
    pub arrays : (t : ℕ) (a : Ty) → IsNumber forms spellings t (ty.Arr a) → ShapeOf u number shape simple.ABuild t shapes.Plain
    pub operation : (o : Operation) → cover.operation o ≡ true → OperationDrawn o
    pub product : (q : Product) (arity : List ℕ) → cover.product q arity ≡ true → ProductDrawn q arity
    pub initial : (t : Turns) (arity : List ℕ) → cover.initial t arity ≡ true → InitialDrawn t arity

  module _ (sound : (n : ℕ) (γ : List Ty) (e : TypedExpr) (tys : List Ty) → FitsTo γ e tys → Typed γ (meaning n p e) tys)
      (sound-calls : (n f : ℕ) (h : Header) → slice_get hs f ≡ Some h → Typed h.params (calls n p f) h.results) where
    -- ---- values have the types of their expressions

    pub all-typed : (n : ℕ) (γ : List Ty) (es : List TypedExpr) (tys : List Ty) → AllFitTo γ es tys → Typed γ (all_of (means n es)) tys
    all-typed n γ _ _ is.no_more = nil-typed γ
    all-typed n γ _ _ (is.more {tys = tys} {others = others} {t = t} {ts = ts} h k) = cons-typed γ (meaning n p t) (means n ts) tys others (sound n γ t tys h) (all-typed n γ ts others k)

    nameless : (x : ℕ) → None ≡ Some x → ⊥
    nameless x e = cc

    named : (n : ℕ) (γ : List Ty) (e : TypedExpr) (tys : List Ty) → FitsTo γ e tys → IsNamed (phrase forms e) (meaning n p e)
    named n γ _ _ (is.a_value {l = l} {level = y} {ns = ns} {a = a} there num) x e names =
        meaning-is n p l ns (typed.Value y) (TypedKind-F.Value y) (sym (typed.rolls-Value y)) names
        ∙ ap (λ z. Some (value_at names z ∷ [], 1)) (same (sym (name-is forms l ns (typed.Value y) (TypedKind-F.Value y) (sym (typed.rolls-Value y))) ∙ e))
      where
        same : Some y ≡ Some x → y ≡ x
        same e = cc
    named n γ _ _ (is.a_constant {l = l} {ns = ns} {c = c} lit num) x e names = absurd (nameless x (sym (name-is forms l ns (typed.Constant c) (TypedKind-F.Constant c) (sym (typed.rolls-Constant c))) ∙ e))
    named n γ _ _ (is.group {l = l} {ns = ns} {ts = ts} h num) x e names = absurd (nameless x (sym (name-is forms l ns (typed.Group ts) (TypedKind-F.Group ts) (sym (typed.rolls-Group ts))) ∙ e))
    named n γ _ _ (is.call {l = l} {f = f} {ns = ns} {ts = ts} there h num) x e names = absurd (nameless x (sym (name-is forms l ns (typed.Call f ts) (TypedKind-F.Call f ts) (sym (typed.rolls-Call f ts))) ∙ e))
    named n γ _ _ (is.apply {l = l} {ns = ns} {o = o} {ts = ts} h r num) x e names = absurd (nameless x (sym (name-is forms l ns (typed.Apply o ts) (TypedKind-F.Apply o ts) (sym (typed.rolls-Apply o ts))) ∙ e))
    named n γ _ _ (is.let_in {l = l} {ns = ns} {us = us} {ts = ts} d h num) x e names = absurd (nameless x (sym (name-is forms l ns (typed.Let us ts) (TypedKind-F.Let us ts) (sym (typed.rolls-Let us ts))) ∙ e))
    named n γ _ _ (is.if_else {l = l} {ns = ns} {ts = ts} {us = us} {vs = vs} t h k num) x e names = absurd (nameless x (sym (name-is forms l ns (typed.If ts us vs) (TypedKind-F.If ts us vs) (sym (typed.rolls-If ts us vs))) ∙ e))
    named n γ _ _ (is.tag_case ms contents {l = l} {ns = ns} {c = c} {ts = ts} {arms = arms} h a t r picked others one num) x e names = absurd (nameless x (sym (name-is forms l ns (typed.Case c ts arms) (TypedKind-F.Case c ts arms) (sym (typed.rolls-Case c ts arms))) ∙ e))
    named n γ _ _ (is.product {l = l} {ns = ns} {p = q} {bounds = bounds} {us = us} {ts = ts} b g d h m num) x e names = absurd (nameless x (sym (name-is forms l ns (typed.Product q bounds us ts) (TypedKind-F.Product q bounds us ts) (sym (typed.rolls-Product q bounds us ts))) ∙ e))
    named n γ _ _ (is.initial {l = l} {ns = ns} {t = t} {us = us} {vs = vs} {tests = tests} {ts = ts} d c y r h m num) x e names = absurd (nameless x (sym (name-is forms l ns (typed.Initial t us tests vs ts) (TypedKind-F.Initial t us tests vs ts) (sym (typed.rolls-Initial t us tests vs ts))) ∙ e))

    pub each-of : (n : ℕ) (γ : List Ty) (es : List TypedExpr) (tys : List Ty) → AllFitTo γ es tys → EachOf γ (map (phrase forms) es) (means n es) (counts (map (verdict cover) es))
    each-of n γ _ _ is.no_more = tt
    each-of n γ _ _ (is.more {tys = tys} {others = others} {t = t} {ts = ts} h k) =
        let c = count-is cover t in
        (((tys, sound n γ t tys h, sym (c ∙ fit-count forms spellings hs γ t tys h)), (λ env n q. expr-wide forms spellings hs γ t tys h env n q ∙ sym c), named n γ t tys h), each-of n γ ts others k)

    pub total-is : (γ : List Ty) (es : List TypedExpr) (tys : List Ty) → AllFitTo γ es tys → total (counts (map (verdict cover) es)) ≡ length tys
    total-is γ _ _ is.no_more = refl
    total-is γ _ _ (is.more {tys = tys} {others = others} {t = t} {ts = ts} h k) =
        let n = total (counts (map (verdict cover) ts)) in
        ap (λ i. i + n) (count-is cover t ∙ fit-count forms spellings hs γ t tys h) ∙ (ap (λ i. length tys + i) (total-is γ ts others k) ∙ sym (length-append tys others))

    pub defs-typed : (n : ℕ) (γ : List Ty) (us : List (List TypedExpr)) (δ : List Ty) → DefsFitTo γ us δ → Typed γ (defined (means_lists n us)) (γ ++ δ)
    defs-typed n γ _ _ is.no_def = nil-defs-typed γ
    defs-typed n γ _ _ (is.a_def {tys = tys} {others = others} {ts = ts} {us = us} h k) =
        cons-defs-typed γ (means n ts) (means_lists n us) tys others (all-typed n γ ts tys h) (defs-typed n (γ ++ tys) us others k)

    module _ (laws : FormsDrawn) (n : ℕ) (calls-drawn : CallsDrawn n) where
      seen : (γ : List Ty) (l : ℕ) (ns : List ℕ) (y : TypedKind) (x : TypedKind-F TypedKind TypedExpr) → y ≡ roll-TypedKind x
          → Drawn u number shape forms spellings γ 0 7 ((kind_lowered forms (parts_lowered forms x)).lowers ns) (kind_gives n (calls n p) (parts_meant n p x) (length ns))
          → Drawn u number shape forms spellings γ 1 0 (lowers forms (with l ns y)) (meaning n p (with l ns y))
      seen γ l ns y x e h =
          let g = (kind_lowered forms (parts_lowered forms x)).lowers ns in
          let k = kind_gives n (calls n p) (parts_meant n p x) (length ns) in
          drawn-as u number shape forms spellings γ 1 0 g (lowers forms (with l ns y)) (λ names. plus 1 (k names)) (meaning n p (with l ns y)) (lowers-is forms l ns y x e) (meaning-is n p l ns y x e) (step-drawn u number shape forms spellings γ g k h)

      -- what is covered, by the form
      covered : (l : ℕ) (ns : List ℕ) (y : TypedKind) (x : TypedKind-F TypedKind TypedExpr) → y ≡ roll-TypedKind x → (verdict cover (with l ns y)).ok ≡ true → kind_covered cover (parts_covered cover x) ≡ true
      covered l ns y x e v = sym (covered-is cover l ns y x e) ∙ v

      abbrev all_covered : List TypedExpr → Type 0
      all_covered es = all_ok (map (verdict cover) es) ≡ true

      abbrev each_covered : List (List TypedExpr) → Type 0
      each_covered us = each_ok (map (map (verdict cover)) us) ≡ true

      mutual
        pub expr-drawn : (γ : List Ty) (e : TypedExpr) (tys : List Ty) → FitsTo γ e tys → (verdict cover e).ok ≡ true → Drawn u number shape forms spellings γ 1 0 (lowers forms e) (meaning n p e)
        expr-drawn γ _ _ (is.a_constant {l = l} {ns = ns} {c = c} lit num) v =
            let t = one-number forms spellings ns (constant_type c) num in
            seen γ l ns (typed.Constant c) (TypedKind-F.Constant c) (sym (typed.rolls-Constant c))
            (subst (λ ns. Drawn u number shape forms spellings γ 0 7 (λ env. constant_lowered c ns) (λ names. given (constant_value c ∷ []))) (sym t.1) (constant-drawn u number shape forms spellings γ c t.0
            (λ cs e. laws.arrays t.0 ty.Char (subst (λ c. IsNumber forms spellings t.0 (constant_type c)) e (subst (λ ns. AreNumbers forms spellings ns (constant_type c ∷ [])) t.1 num).0))))
        expr-drawn γ _ _ (is.a_value {l = l} {level = x} {ns = ns} {a = a} there num) v =
            seen γ l ns (typed.Value x) (TypedKind-F.Value x) (sym (typed.rolls-Value x)) (value-drawn u number shape forms spellings γ x a there)
        expr-drawn γ _ tys (is.group {l = l} {ns = ns} {ts = ts} h num) v =
            let e = sym (typed.rolls-Group ts) in
            seen γ l ns (typed.Group ts) (TypedKind-F.Group ts) e
            (less-drawn u number shape forms spellings γ (length (map (phrase forms) ts)) 0 0 7 (all_lowered (several ts)) (all_of (means n ts)) (omega arith) (omega arith) (all-drawn γ ts tys h (covered l ns (typed.Group ts) (TypedKind-F.Group ts) e v)))
        expr-drawn γ _ _ (is.call {l = l} {f = f} {ns = ns} {g = g} {ts = ts} there h num) v =
            let e = sym (typed.rolls-Call f ts) in
            seen γ l ns (typed.Call f ts) (TypedKind-F.Call f ts) e
            (then-drawn u number shape forms spellings γ g.params (length (map (phrase forms) ts)) 0 7 (all_lowered (several ts)) (all_of (means n ts)) (λ env ws. a_node (Call f) ws 1 (map One ns)) (λ names. calls n p f)
            (all-drawn γ ts g.params h (covered l ns (typed.Call f ts) (TypedKind-F.Call f ts) e v)) (all-typed n γ ts g.params h) (all-wired forms spellings hs γ ts g.params h)
            (λ env ws k q w. node-from env (Call f) ws 1 (map One ns) k q w)
            (call-on u number shape forms spellings γ g.params f ns g.results (calls n p f) (numbers-length forms spellings ns g.results num) (sound-calls n f g there) (calls-drawn f g there)))
        expr-drawn γ _ _ (is.apply {tys = tys} {l = l} {ns = ns} {o = o} {a = a} {ts = ts} h r num) v =
            let e = sym (typed.rolls-Apply o ts) in
            let c = and-true _ _ (covered l ns (typed.Apply o ts) (TypedKind-F.Apply o ts) e v) in
            let t = one-number forms spellings ns a num in
            let w = laws.operation o c.0 γ tys a t.0 (subst (λ ns. AreNumbers forms spellings ns (a ∷ [])) t.1 num).0 r in
            seen γ l ns (typed.Apply o ts) (TypedKind-F.Apply o ts) e
            (subst (λ ns. Drawn u number shape forms spellings γ 0 7 (λ env. graphs.andthen (all_lowered (several ts) env) (λ ws. applied forms o ws ns)) (λ names. andthen (all_of (means n ts) names) (λ vs. given (op_value o vs ∷ [])))) (sym t.1)
            (then-drawn u number shape forms spellings γ tys (length (map (phrase forms) ts)) 0 7 (all_lowered (several ts)) (all_of (means n ts)) (λ env ws. applied forms o ws (t.0 ∷ [])) (λ names vs. given (op_value o vs ∷ []))
            (all-drawn γ ts tys h c.1) (all-typed n γ ts tys h) (all-wired forms spellings hs γ ts tys h) w.0 w.1))
        expr-drawn γ _ tys (is.let_in {δ = δ} {l = l} {ns = ns} {us = us} {ts = ts} d h num) v =
            let e = sym (typed.rolls-Let us ts) in
            let c = and-true _ _ (covered l ns (typed.Let us ts) (TypedKind-F.Let us ts) e v) in
            seen γ l ns (typed.Let us ts) (TypedKind-F.Let us ts) e
            (less-drawn u number shape forms spellings γ 0 0 0 7 (body_lowered (several_lists us) (several ts)) (body_of (means_lists n us) (means n ts)) (omega arith) (omega arith)
            (body-drawn u number shape forms spellings γ δ (length (map (phrase forms) ts)) (several_lists us) (several ts) (means_lists n us) (means n ts) (defs-drawn γ us δ d c.0) (defs-typed n γ us δ d) (defs-wired forms spellings hs γ us δ d) (all-drawn (γ ++ δ) ts tys h c.1)))
        expr-drawn γ _ tys (is.if_else {l = l} {ns = ns} {ts = ts} {us = us} {vs = vs} t h k num) v =
            let e = sym (typed.rolls-If ts us vs) in
            let c = and-true _ _ (covered l ns (typed.If ts us vs) (TypedKind-F.If ts us vs) e v) in
            let d = and-true _ _ c.1 in
            seen γ l ns (typed.If ts us vs) (TypedKind-F.If ts us vs) e
            (if-drawn (several ts) (several us) (several vs) ns u number shape forms spellings γ tys (length (map (phrase forms) ts)) (length (map (phrase forms) us)) (length (map (phrase forms) vs)) (all_of (means n ts)) (all_of (means n us)) (all_of (means n vs))
            (all-drawn γ ts (ty.Bool ∷ []) t c.0) (all-typed n γ ts (ty.Bool ∷ []) t) (all-drawn γ us tys h d.0) (all-typed n γ us tys h) (all-drawn γ vs tys k d.1) (all-typed n γ vs tys k) (numbers-length forms spellings ns tys num))
        expr-drawn γ _ tys (is.tag_case ms contents {l = l} {ns = ns} {c = c} {ts = ts} {arms = arms} h a t named chosen others one num) v =
            let e = sym (typed.rolls-Case c ts arms) in
            let d = and-true _ _ (covered l ns (typed.Case c ts arms) (TypedKind-F.Case c ts arms) e v) in
            let gs : List Lowers = map all_lowered (several_lists arms) in
            let ks : List Means = map all_of (means_lists n arms) in
            let made = arms-drawn γ c.named arms contents tys a d.1 in
            seen γ l ns (typed.Case c ts arms) (TypedKind-F.Case c ts arms) e
            (then-drawn u number shape forms spellings γ (ty.Uni ms ∷ []) (length (map (phrase forms) ts)) 0 7 (all_lowered (several ts)) (all_of (means n ts)) (λ env ws. case_lowered forms c (several_lists arms) ns ws env) (λ names vs. arm_of c (length ns) ks (out-Val (value_at vs 0)) names)
            (all-drawn γ ts (ty.Uni ms ∷ []) h d.0) (all-typed n γ ts (ty.Uni ms ∷ []) h) (all-wired forms spellings hs γ ts (ty.Uni ms ∷ []) h)
            (case-free u number shape forms spellings c gs ns (arms-free u number shape forms spellings made))
            (case-drawn u number shape forms spellings c gs ns γ tys contents ms (length arms) ks (several-length arms) t (λ k num i a below at. content-typed forms spellings k ms contents c (length arms) num t chosen i (named i below) a at) made (numbers-length forms spellings ns tys num)))
        expr-drawn γ _ made (is.product {tys = tys} {names = xs} {δ = δ} {row = row} {l = l} {ns = ns} {p = q} {bounds = bounds} {us = us} {ts = ts} b g d h m num) v =
            let e = sym (typed.rolls-Product q bounds us ts) in
            let c = and-true _ _ (covered l ns (typed.Product q bounds us ts) (TypedKind-F.Product q bounds us ts) e v) in
            let c1 = and-true _ _ c.1 in
            let c2 = and-true _ _ c1.1 in
            seen γ l ns (typed.Product q bounds us ts) (TypedKind-F.Product q bounds us ts) e
            (laws.product q (counts (map (verdict cover) ts)) c.0 γ tys xs δ row made ns (map (phrase forms) bounds) (map (map (phrase forms)) us) (map (phrase forms) ts) (means n bounds) (means_lists n us) (means n ts) g m num
            (each-drawn γ bounds tys b c1.0) (all-typed n γ bounds tys b) (all-wired forms spellings hs γ bounds tys b) (defs-drawn (γ ++ xs) us δ d c2.0) (defs-typed n (γ ++ xs) us δ d) (defs-wired forms spellings hs (γ ++ xs) us δ d) (each-drawn ((γ ++ xs) ++ δ) ts row h c2.1) (all-typed n ((γ ++ xs) ++ δ) ts row h) (each-of n ((γ ++ xs) ++ δ) ts row h) (total-is ((γ ++ xs) ++ δ) ts row h) n (calls n p))
        expr-drawn γ _ made (is.initial {loop = loop} {later = later} {row = row} {l = l} {ns = ns} {t = t} {us = us} {vs = vs} {tests = tests} {ts = ts} d c y r h m num) v =
            let e = sym (typed.rolls-Initial t us tests vs ts) in
            let c0 = and-true _ _ (covered l ns (typed.Initial t us tests vs ts) (TypedKind-F.Initial t us tests vs ts) e v) in
            let c1 = and-true _ _ c0.1 in
            let c2 = and-true _ _ c1.1 in
            let c3 = and-true _ _ c2.1 in
            seen γ l ns (typed.Initial t us tests vs ts) (TypedKind-F.Initial t us tests vs ts) e
            (laws.initial t (counts (map (verdict cover) ts)) c0.0 γ loop later row made ns (map (map (phrase forms)) us) (map (phrase forms) tests) (map (map (phrase forms)) vs) (map (phrase forms) ts) (means_lists n us) (means n tests) (means_lists n vs) (means n ts) r m num
            (defs-drawn γ us loop d c1.0) (defs-typed n γ us loop d) (defs-wired forms spellings hs γ us loop d) (each-drawn (γ ++ loop) tests (ty.Bool ∷ []) c c2.0) (all-typed n (γ ++ loop) tests (ty.Bool ∷ []) c)
            (defs-drawn (γ ++ loop) vs later y c3.0) (defs-typed n (γ ++ loop) vs later y) (defs-wired forms spellings hs (γ ++ loop) vs later y) (each-drawn (γ ++ loop) ts row h c3.1) (all-typed n (γ ++ loop) ts row h) (each-of n (γ ++ loop) ts row h) (total-is (γ ++ loop) ts row h) n (calls n p))

        pub each-drawn : (γ : List Ty) (es : List TypedExpr) (tys : List Ty) → AllFitTo γ es tys → all_covered es → EachDrawn γ (map (phrase forms) es) (means n es)
        each-drawn γ _ _ is.no_more v = tt
        each-drawn γ _ _ (is.more {tys = tys} {others = others} {t = t} {ts = ts} h k) v =
            let c = and-true _ _ v in
            (expr-drawn γ t tys h c.0, each-drawn γ ts others k c.1)

        pub all-drawn : (γ : List Ty) (es : List TypedExpr) (tys : List Ty) → AllFitTo γ es tys → all_covered es → Drawn u number shape forms spellings γ (length (map (phrase forms) es)) 0 (all_lowered (several es)) (all_of (means n es))
        all-drawn γ _ _ is.no_more v = nil-drawn u number shape forms spellings γ
        all-drawn γ _ _ (is.more {tys = tys} {others = others} {t = t} {ts = ts} h k) v =
            let c = and-true _ _ v in
            cons-drawn u number shape forms spellings γ (length (map (phrase forms) ts)) (lowers forms t) (several ts) (meaning n p t) (means n ts) (expr-drawn γ t tys h c.0) (all-drawn γ ts others k c.1)

        pub defs-drawn : (γ : List Ty) (us : List (List TypedExpr)) (δ : List Ty) → DefsFitTo γ us δ → each_covered us → Drawn u number shape forms spellings γ 0 0 (defs_lowered (several_lists us)) (defined (means_lists n us))
        defs-drawn γ _ _ is.no_def v = nil-defs-drawn u number shape forms spellings γ
        defs-drawn γ _ _ (is.a_def {tys = tys} {others = others} {ts = ts} {us = us} h k) v =
            let c = and-true _ _ v in
            cons-defs-drawn u number shape forms spellings γ tys (length (map (phrase forms) ts)) (several ts) (several_lists us) (means n ts) (means_lists n us) (all-drawn γ ts tys h c.0) (all-typed n γ ts tys h) (all-wired forms spellings hs γ ts tys h) (defs-drawn (γ ++ tys) us others k c.1)

        pub arms-drawn : (γ : List Ty) (named : ℕ) (arms : List (List TypedExpr)) (contents tys : List Ty) → ArmsFitTo γ named arms contents tys → each_covered arms
            → ArmsDrawn u number shape forms spellings γ tys named (map all_lowered (several_lists arms)) (map all_of (means_lists n arms)) contents
        arms-drawn γ _ _ _ tys is.no_arm v = no_arm
        arms-drawn γ _ _ _ tys (is.a_named_arm {contents = contents} {named = named} a {ts = ts} {arms = arms} h k) v =
            let c = and-true _ _ v in
            named_arm named (all_lowered (several ts)) (map all_lowered (several_lists arms)) (all_of (means n ts)) (map all_of (means_lists n arms)) a contents
            (record { slack = length (map (phrase forms) ts); drawn = all-drawn (γ ++ a ∷ []) ts tys h c.0; typed = all-typed n (γ ++ a ∷ []) ts tys h }) (arms-drawn γ named arms contents tys k c.1)
        arms-drawn γ _ _ _ tys (is.an_arm {ts = ts} {arms = arms} h k) v =
            let c = and-true _ _ v in
            other_arm (all_lowered (several ts)) (map all_lowered (several_lists arms)) (all_of (means n ts)) (map all_of (means_lists n arms))
            (record { slack = length (map (phrase forms) ts); drawn = all-drawn γ ts tys h c.0; typed = all-typed n γ ts tys h }) (arms-drawn γ 0 arms [] tys k c.1)
