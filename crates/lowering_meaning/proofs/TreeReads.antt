-- Where the graphs of fitting expressions fire, the source gives something: a case a form.
use Rattle.std.proofs.Common.{◌≡◌, ℕ, ◌<◌, ◌≤◌, true, List, [], ◌∷◌, ◌++◌, map, length, slice_get, Some, sym, ◌∙◌, arith}
use Rattle.flow_value.specs.declared.value.Val.{Val}
use Rattle.flow_value.specs.declared.value.Val.TheViews.{out-Val}
use Rattle.flow_value.specs.declared.ty.Ty.{Ty}
use Rattle.flow_value.specs.declared.ty.Ty.TheVariants as ty
use Rattle.value_ops.specs.Operations.{op_value}
use Rattle.type_table.specs.declared.form.Form.{Form}
use Rattle.typed_tree.specs.declared.expr.TypedExpr.{TypedExpr}
use Rattle.typed_tree.specs.declared.expr.TypedKind.{TypedKind}
use Rattle.typed_tree.specs.declared.expr.TypedKind.TheVariants as typed
use Rattle.typed_tree.specs.declared.expr.TypedKind.TheViews.{roll-TypedKind}
use Rattle.typed_tree.specs.declared.expr.TypedKind.TheOpen.{TypedKind-F}
use Rattle.typed_tree.specs.declared.expr.Product.{Product}
use Rattle.typed_tree.specs.declared.expr.Turns.{Turns}
use Rattle.typed_tree.specs.declared.program.Function.{Function}
use Rattle.typed_tree.specs.Typing.{with}
use Rattle.typed_tree.specs.Types.{AreNumbers}
use Rattle.typed_values.specs.Fitting.{Goes, AreMade, Renews, Header, Fits}
use Rattle.typed_values.specs.Fitting as is
use Rattle.typed_rows.specs.Rows.{AreOf}
use Rattle.meaning.specs.Timed.{given, plus}
use Rattle.meaning.specs.Words.{constant_value, value_at}
use Rattle.meaning.specs.Meaning.{Gives as Means, all_of, defined, kind_gives, arm_of, calls, meaning}
use Rattle.graph_meaning.specs.Carried.{Value}
use Rattle.lowering_meaning.proofs.Told.{Telling}
use Rattle.graph_meaning.specs.Demand.{Network}
use Rattle.graph_meaning.specs.Plain.{NodesFire}
use Rattle.lowering.specs.declared.feed.Carried.TheVariants.{One}
use Rattle.lowering.specs.declared.graph.Action.TheVariants.{Call}
use Rattle.lowering.specs.Graphs.{a_node}
use Rattle.lowering.specs.Operations.{Lowers, all_lowered, defs_lowered}
use Rattle.lowering.specs.Choices.{applied, case_lowered}
use Rattle.lowering.specs.Loops.{Phrase}
use Rattle.lowering.specs.Phrases.{each, kind_lowered, phrase, lowers}
use Rattle.lowering_meaning.specs.Coverage.{Coverage, all_ok, each_ok, counts, total, kind_covered, verdict}
use Rattle.lowering_meaning.proofs.Layers.{parts_meant, meaning-is, parts_lowered, lowers-is, parts_covered, covered-is, and-true}
use Rattle.lowering_meaning.proofs.Timed.{Yield}
use Rattle.lowering_meaning.proofs.Forms.{Wired, Typed}
use Rattle.lowering_meaning.proofs.ReadForms.{Read, DrawnAll, TypedAll, read-as, step-read, given-read, nil-read, cons-read, then-read, given-on, nil-defs-read, cons-defs-read, body-read, call-on}
use Rattle.lowering_meaning.proofs.WireTypes.{all-wired, defs-wired}
use Rattle.lowering_meaning.proofs.IfReads.{if-read}
use Rattle.lowering_meaning.proofs.Contents.{content-typed}
use Rattle.lowering_meaning.proofs.CaseForms.{arms-free}
use Rattle.lowering_meaning.proofs.CaseReads.{ArmsRead, no_arm, named_arm, other_arm, case-read}
use Rattle.lowering_meaning.proofs.Trees as trees
use Rattle.lowering_meaning.proofs.Trees.{FitsTo, AllFitTo, DefsFitTo, several, several_lists, means, means_lists, EachDrawn, EachOf, CallsDrawn, FormsDrawn}

module _ (u : Network) (number : ℕ → ℕ) (shape : Telling) (forms : List Form) (spellings : List (List ℕ)) (hs : List Header) (p : List Function) (cover : Coverage) where
  -- phrases one for one, at a depth
  pub data EachRead (m : ℕ) (γ : List Ty) : List Phrase → (ℕ → List Means) → Type 0 where
    no_read : EachRead m γ [] (λ j. [])
    a_read : (g : Phrase) (gs : List Phrase) (k : ℕ → Means) (ks : ℕ → List Means) → Read u number shape forms spellings m γ g.lowers k → EachRead m γ gs ks → EachRead m γ (g ∷ gs) (λ j. k j ∷ ks j)

  abbrev Each : List Ty → List Phrase → (ℕ → List Means) → Type 0
  Each γ gs ks = (n : ℕ) → EachDrawn u number shape forms spellings hs p cover γ gs (ks n)

  -- a loop over generators, where its bounds, definitions and clauses are read
  abbrev pub ProductRead : Product → List ℕ → Type 0
  ProductRead q arity = (γ tys xs δ row made : List Ty) (ns : List ℕ) (bs : List Phrase) (ds : List (List Phrase)) (gs : List Phrase) (kb : ℕ → List Means) (kd : ℕ → List (List Means)) (ks : ℕ → List Means)
      → Goes q.sources tys xs → AreMade q.clauses row made → AreNumbers forms spellings ns made
      → Each γ bs kb → TypedAll u number shape forms spellings γ (λ j. all_of (kb j)) tys → Wired forms spellings γ (all_lowered (each bs)) tys
      → DrawnAll u number shape forms spellings (γ ++ xs) 0 0 (defs_lowered (map each ds)) (λ j. defined (kd j)) → TypedAll u number shape forms spellings (γ ++ xs) (λ j. defined (kd j)) ((γ ++ xs) ++ δ) → Wired forms spellings (γ ++ xs) (defs_lowered (map each ds)) ((γ ++ xs) ++ δ)
      → Each ((γ ++ xs) ++ δ) gs ks → TypedAll u number shape forms spellings ((γ ++ xs) ++ δ) (λ j. all_of (ks j)) row → ((n : ℕ) → EachOf u number shape forms spellings hs p cover ((γ ++ xs) ++ δ) gs (ks n) arity) → total arity ≡ length row
      → (m : ℕ) → EachRead m γ bs kb → Read u number shape forms spellings m (γ ++ xs) (defs_lowered (map each ds)) (λ j. defined (kd j)) → EachRead m ((γ ++ xs) ++ δ) gs ks
      → (call : ℕ → ℕ → Means) → Read u number shape forms spellings m γ ((kind_lowered forms (TypedKind-F.Product q bs ds gs)).lowers ns) (λ j. kind_gives j (call j) (TypedKind-F.Product q (kb j) (kd j) (ks j)) (length ns))

  -- a loop of turns, whose parts are read at lesser depths too
  abbrev pub InitialRead : Turns → List ℕ → Type 0
  InitialRead t arity = (γ loop later row made : List Ty) (ns : List ℕ) (fs : List (List Phrase)) (ts : List Phrase) (ds : List (List Phrase)) (gs : List Phrase)
      (kf : ℕ → List (List Means)) (kt : ℕ → List Means) (kd : ℕ → List (List Means)) (ks : ℕ → List Means)
      → Renews loop t.renewed later → AreMade t.clauses row made → AreNumbers forms spellings ns made
      → DrawnAll u number shape forms spellings γ 0 0 (defs_lowered (map each fs)) (λ j. defined (kf j)) → TypedAll u number shape forms spellings γ (λ j. defined (kf j)) (γ ++ loop) → Wired forms spellings γ (defs_lowered (map each fs)) (γ ++ loop)
      → Each (γ ++ loop) ts kt → TypedAll u number shape forms spellings (γ ++ loop) (λ j. all_of (kt j)) (ty.Bool ∷ [])
      → DrawnAll u number shape forms spellings (γ ++ loop) 0 0 (defs_lowered (map each ds)) (λ j. defined (kd j)) → TypedAll u number shape forms spellings (γ ++ loop) (λ j. defined (kd j)) ((γ ++ loop) ++ later) → Wired forms spellings (γ ++ loop) (defs_lowered (map each ds)) ((γ ++ loop) ++ later)
      → Each (γ ++ loop) gs ks → TypedAll u number shape forms spellings (γ ++ loop) (λ j. all_of (ks j)) row → ((n : ℕ) → EachOf u number shape forms spellings hs p cover (γ ++ loop) gs (ks n) arity) → total arity ≡ length row
      → (m : ℕ) → ((l : ℕ) → l ≤ m → Read u number shape forms spellings l γ (defs_lowered (map each fs)) (λ j. defined (kf j))) → ((l : ℕ) → l ≤ m → EachRead l (γ ++ loop) ts kt)
      → ((l : ℕ) → l ≤ m → Read u number shape forms spellings l (γ ++ loop) (defs_lowered (map each ds)) (λ j. defined (kd j))) → ((l : ℕ) → l ≤ m → EachRead l (γ ++ loop) gs ks)
      → (call : ℕ → ℕ → Means) → Read u number shape forms spellings m γ ((kind_lowered forms (TypedKind-F.Initial t fs ts ds gs)).lowers ns) (λ j. kind_gives j (call j) (TypedKind-F.Initial t (kf j) (kt j) (kd j) (ks j)) (length ns))

  pub record FormsRead : Type 0 where
    pub product : (q : Product) (arity : List ℕ) → cover.product q arity ≡ true → ProductRead q arity
    pub initial : (t : Turns) (arity : List ℕ) → cover.initial t arity ≡ true → InitialRead t arity

  -- where the graph of a function fires at a depth, the source gives something
  abbrev pub CallRead : ℕ → Type 0
  CallRead m = (f : ℕ) (h : Header) → slice_get hs f ≡ Some h → (args : List Val) (c : ℕ) → AreOf h.params args → NodesFire u m (number f) (map Value args) (u (number f)).nodes c → Yield (λ j. calls j p f args)

  abbrev pub CallsRead : ℕ → Type 0
  CallsRead m = (l : ℕ) → l < m → CallRead l

  module _ (sound : (n : ℕ) (γ : List Ty) (e : TypedExpr) (tys : List Ty) → FitsTo u number shape forms spellings hs p cover γ e tys → Typed γ (meaning n p e) tys)
      (sound-calls : (n f : ℕ) (h : Header) → slice_get hs f ≡ Some h → Typed h.params (calls n p f) h.results)
      (laws : FormsDrawn u number shape forms spellings hs p cover) (reads : FormsRead) (calls-drawn : (n : ℕ) → CallsDrawn u number shape forms spellings hs p cover n) where
    abbrev all_covered : List TypedExpr → Type 0
    all_covered es = all_ok (map (verdict cover) es) ≡ true

    abbrev each_covered : List (List TypedExpr) → Type 0
    each_covered us = each_ok (map (map (verdict cover)) us) ≡ true

    abbrev AllFitIn : List Ty → List TypedExpr → List Ty → Type 0
    AllFitIn γ es tys = AllFitTo u number shape forms spellings hs p cover γ es tys

    abbrev DefsFitIn : List Ty → List (List TypedExpr) → List Ty → Type 0
    DefsFitIn γ us δ = DefsFitTo u number shape forms spellings hs p cover γ us δ

    all-d : (γ : List Ty) (es : List TypedExpr) (tys : List Ty) → AllFitIn γ es tys → all_covered es
        → DrawnAll u number shape forms spellings γ (length (map (phrase forms) es)) 0 (all_lowered (several u number shape forms spellings hs p cover es)) (λ j. all_of (means u number shape forms spellings hs p cover j es))
    all-d γ es tys h v n = trees.all-drawn u number shape forms spellings hs p cover sound sound-calls laws n (calls-drawn n) γ es tys h v

    each-d : (γ : List Ty) (es : List TypedExpr) (tys : List Ty) → AllFitIn γ es tys → all_covered es → Each γ (map (phrase forms) es) (λ j. means u number shape forms spellings hs p cover j es)
    each-d γ es tys h v n = trees.each-drawn u number shape forms spellings hs p cover sound sound-calls laws n (calls-drawn n) γ es tys h v

    defs-d : (γ : List Ty) (us : List (List TypedExpr)) (δ : List Ty) → DefsFitIn γ us δ → each_covered us
        → DrawnAll u number shape forms spellings γ 0 0 (defs_lowered (several_lists u number shape forms spellings hs p cover us)) (λ j. defined (means_lists u number shape forms spellings hs p cover j us))
    defs-d γ us δ h v n = trees.defs-drawn u number shape forms spellings hs p cover sound sound-calls laws n (calls-drawn n) γ us δ h v

    all-t : (γ : List Ty) (es : List TypedExpr) (tys : List Ty) → AllFitIn γ es tys → TypedAll u number shape forms spellings γ (λ j. all_of (means u number shape forms spellings hs p cover j es)) tys
    all-t γ es tys h n = trees.all-typed u number shape forms spellings hs p cover sound sound-calls n γ es tys h

    defs-t : (γ : List Ty) (us : List (List TypedExpr)) (δ : List Ty) → DefsFitIn γ us δ → TypedAll u number shape forms spellings γ (λ j. defined (means_lists u number shape forms spellings hs p cover j us)) (γ ++ δ)
    defs-t γ us δ h n = trees.defs-typed u number shape forms spellings hs p cover sound sound-calls n γ us δ h

    seen : (m : ℕ) (γ : List Ty) (l : ℕ) (ns : List ℕ) (y : TypedKind) (x : TypedKind-F TypedKind TypedExpr) → y ≡ roll-TypedKind x
        → Read u number shape forms spellings m γ ((kind_lowered forms (parts_lowered forms x)).lowers ns) (λ j. kind_gives j (calls j p) (parts_meant j p x) (length ns))
        → Read u number shape forms spellings m γ (lowers forms (with l ns y)) (λ j. meaning j p (with l ns y))
    seen m γ l ns y x e h =
        let g = (kind_lowered forms (parts_lowered forms x)).lowers ns in
        let k : ℕ → Means = λ j. kind_gives j (calls j p) (parts_meant j p x) (length ns) in
        read-as u number shape forms spellings m γ g (lowers forms (with l ns y)) (λ j names. plus 1 (k j names)) (λ j. meaning j p (with l ns y)) (lowers-is forms l ns y x e) (λ j. meaning-is j p l ns y x e) (step-read u number shape forms spellings m γ g k h)

    covered : (l : ℕ) (ns : List ℕ) (y : TypedKind) (x : TypedKind-F TypedKind TypedExpr) → y ≡ roll-TypedKind x → (verdict cover (with l ns y)).ok ≡ true → kind_covered cover (parts_covered cover x) ≡ true
    covered l ns y x e v = sym (covered-is cover l ns y x e) ∙ v

    below : (m l : ℕ) → l ≤ m → CallsRead m → CallsRead l
    below m l le r k lt = r k (omega (arith, le, lt))

    mutual
      pub expr-read : (γ : List Ty) (e : TypedExpr) (tys : List Ty) → FitsTo u number shape forms spellings hs p cover γ e tys → (verdict cover e).ok ≡ true → (m : ℕ) → CallsRead m → Read u number shape forms spellings m γ (lowers forms e) (λ j. meaning j p e)
      expr-read γ _ _ (is.a_constant {l = l} {ns = ns} {c = c} lit num) v m r =
          seen m γ l ns (typed.Constant c) (TypedKind-F.Constant c) (sym (typed.rolls-Constant c)) (given-read u number shape forms spellings m γ _ (λ names. constant_value c ∷ []))
      expr-read γ _ _ (is.a_value {l = l} {level = x} {ns = ns} {a = a} there num) v m r =
          seen m γ l ns (typed.Value x) (TypedKind-F.Value x) (sym (typed.rolls-Value x)) (given-read u number shape forms spellings m γ _ (λ names. value_at names x ∷ []))
      expr-read γ _ tys (is.group {l = l} {ns = ns} {ts = ts} h num) v m r =
          let e = sym (typed.rolls-Group ts) in
          seen m γ l ns (typed.Group ts) (TypedKind-F.Group ts) e (all-read γ ts tys h (covered l ns (typed.Group ts) (TypedKind-F.Group ts) e v) m r)
      expr-read γ _ _ (is.call {l = l} {f = f} {ns = ns} {g = g} {ts = ts} there h num) v m r =
          let e = sym (typed.rolls-Call f ts) in
          let c = covered l ns (typed.Call f ts) (TypedKind-F.Call f ts) e v in
          seen m γ l ns (typed.Call f ts) (TypedKind-F.Call f ts) e
          (then-read u number shape forms spellings m γ g.params (length (map (phrase forms) ts)) (all_lowered (several u number shape forms spellings hs p cover ts)) (λ j. all_of (means u number shape forms spellings hs p cover j ts)) (λ env ws. a_node (Call f) ws 1 (map One ns)) (λ j names. calls j p f)
          (all-d γ ts g.params h c) (all-t γ ts g.params h) (all-wired forms spellings hs γ ts g.params h) (all-read γ ts g.params h c m r)
          (call-on u number shape forms spellings m γ g.params f ns (λ j. calls j p f) (λ l lt. r l lt f g there)))
      expr-read γ _ _ (is.apply {tys = tys} {l = l} {ns = ns} {o = o} {a = a} {ts = ts} h x num) v m r =
          let e = sym (typed.rolls-Apply o ts) in
          let c = and-true _ _ (covered l ns (typed.Apply o ts) (TypedKind-F.Apply o ts) e v) in
          seen m γ l ns (typed.Apply o ts) (TypedKind-F.Apply o ts) e
          (then-read u number shape forms spellings m γ tys (length (map (phrase forms) ts)) (all_lowered (several u number shape forms spellings hs p cover ts)) (λ j. all_of (means u number shape forms spellings hs p cover j ts)) (λ env ws. applied forms o ws ns) (λ j names vs. given (op_value o vs ∷ []))
          (all-d γ ts tys h c.1) (all-t γ ts tys h) (all-wired forms spellings hs γ ts tys h) (all-read γ ts tys h c.1 m r) (given-on u number shape forms spellings m γ tys (λ env ws. applied forms o ws ns) (λ vs. op_value o vs ∷ [])))
      expr-read γ _ tys (is.let_in {δ = δ} {l = l} {ns = ns} {us = us} {ts = ts} d h num) v m r =
          let e = sym (typed.rolls-Let us ts) in
          let c = and-true _ _ (covered l ns (typed.Let us ts) (TypedKind-F.Let us ts) e v) in
          seen m γ l ns (typed.Let us ts) (TypedKind-F.Let us ts) e
          (body-read u number shape forms spellings m γ δ (several_lists u number shape forms spellings hs p cover us) (several u number shape forms spellings hs p cover ts) (λ j. means_lists u number shape forms spellings hs p cover j us) (λ j. means u number shape forms spellings hs p cover j ts)
          (defs-d γ us δ d c.0) (defs-t γ us δ d) (defs-wired forms spellings hs γ us δ d) (defs-read γ us δ d c.0 m r) (all-read (γ ++ δ) ts tys h c.1 m r))
      expr-read γ _ tys (is.if_else {l = l} {ns = ns} {ts = ts} {us = us} {vs = vs} t h k num) v m r =
          let e = sym (typed.rolls-If ts us vs) in
          let c = and-true _ _ (covered l ns (typed.If ts us vs) (TypedKind-F.If ts us vs) e v) in
          let d = and-true _ _ c.1 in
          let M : List TypedExpr → ℕ → Means = λ es j. all_of (means u number shape forms spellings hs p cover j es) in
          let L : List TypedExpr → List Lowers = λ es. several u number shape forms spellings hs p cover es in
          seen m γ l ns (typed.If ts us vs) (TypedKind-F.If ts us vs) e
          (if-read (L ts) (L us) (L vs) ns u number shape forms spellings m γ (M ts) (M us) (M vs) (length (map (phrase forms) ts)) 0 0 (all-d γ ts (ty.Bool ∷ []) t c.0) (all-t γ ts (ty.Bool ∷ []) t)
          (all-read γ ts (ty.Bool ∷ []) t c.0 m r) (all-d γ us tys h d.0 0).free (all-read γ us tys h d.0 m r) (all-d γ vs tys k d.1 0).free (all-read γ vs tys k d.1 m r))
      expr-read γ _ tys (is.tag_case ms contents {l = l} {ns = ns} {c = c} {ts = ts} {arms = arms} h a t named chosen others one num) v m r =
          let e = sym (typed.rolls-Case c ts arms) in
          let d = and-true _ _ (covered l ns (typed.Case c ts arms) (TypedKind-F.Case c ts arms) e v) in
          let us : List (List Lowers) = several_lists u number shape forms spellings hs p cover arms in
          let gs : List Lowers = map all_lowered us in
          let ks : ℕ → List Means = λ j. map all_of (means_lists u number shape forms spellings hs p cover j arms) in
          seen m γ l ns (typed.Case c ts arms) (TypedKind-F.Case c ts arms) e
          (then-read u number shape forms spellings m γ (ty.Uni ms ∷ []) (length (map (phrase forms) ts)) (all_lowered (several u number shape forms spellings hs p cover ts)) (λ j. all_of (means u number shape forms spellings hs p cover j ts)) (λ env ws. case_lowered forms c us ns ws env) (λ j names vs. arm_of c (length ns) (ks j) (out-Val (value_at vs 0)) names)
          (all-d γ ts (ty.Uni ms ∷ []) h d.0) (all-t γ ts (ty.Uni ms ∷ []) h) (all-wired forms spellings hs γ ts (ty.Uni ms ∷ []) h) (all-read γ ts (ty.Uni ms ∷ []) h d.0 m r)
          (case-read u number shape forms spellings m γ c gs ns contents ms (length arms) ks (trees.several-length u number shape forms spellings hs p cover arms) t (λ k num i a below at. content-typed forms spellings k ms contents c (length arms) num t chosen i (named i below) a at)
          (arms-free u number shape forms spellings (trees.arms-drawn u number shape forms spellings hs p cover sound sound-calls laws 0 (calls-drawn 0) γ c.named arms contents tys a d.1)) (arms-read γ c.named arms contents tys a d.1 m r)))
      expr-read γ _ made (is.product {tys = tys} {names = xs} {δ = δ} {row = row} {l = l} {ns = ns} {p = q} {bounds = bounds} {us = us} {ts = ts} b g d h x num) v m r =
          let e = sym (typed.rolls-Product q bounds us ts) in
          let c = and-true _ _ (covered l ns (typed.Product q bounds us ts) (TypedKind-F.Product q bounds us ts) e v) in
          let c1 = and-true _ _ c.1 in
          let c2 = and-true _ _ c1.1 in
          seen m γ l ns (typed.Product q bounds us ts) (TypedKind-F.Product q bounds us ts) e
          (reads.product q (counts (map (verdict cover) ts)) c.0 γ tys xs δ row made ns (map (phrase forms) bounds) (map (map (phrase forms)) us) (map (phrase forms) ts)
          (λ j. means u number shape forms spellings hs p cover j bounds) (λ j. means_lists u number shape forms spellings hs p cover j us) (λ j. means u number shape forms spellings hs p cover j ts) g x num
          (each-d γ bounds tys b c1.0) (all-t γ bounds tys b) (all-wired forms spellings hs γ bounds tys b) (defs-d (γ ++ xs) us δ d c2.0) (defs-t (γ ++ xs) us δ d) (defs-wired forms spellings hs (γ ++ xs) us δ d) (each-d ((γ ++ xs) ++ δ) ts row h c2.1) (all-t ((γ ++ xs) ++ δ) ts row h) (λ n. trees.each-of u number shape forms spellings hs p cover sound sound-calls n ((γ ++ xs) ++ δ) ts row h) (trees.total-is u number shape forms spellings hs p cover sound sound-calls ((γ ++ xs) ++ δ) ts row h)
          m (each-read γ bounds tys b c1.0 m r) (defs-read (γ ++ xs) us δ d c2.0 m r) (each-read ((γ ++ xs) ++ δ) ts row h c2.1 m r) (λ j. calls j p))
      expr-read γ _ made (is.initial {loop = loop} {later = later} {row = row} {l = l} {ns = ns} {t = t} {us = us} {vs = vs} {tests = tests} {ts = ts} d c y x h z num) v m r =
          let e = sym (typed.rolls-Initial t us tests vs ts) in
          let c0 = and-true _ _ (covered l ns (typed.Initial t us tests vs ts) (TypedKind-F.Initial t us tests vs ts) e v) in
          let c1 = and-true _ _ c0.1 in
          let c2 = and-true _ _ c1.1 in
          let c3 = and-true _ _ c2.1 in
          seen m γ l ns (typed.Initial t us tests vs ts) (TypedKind-F.Initial t us tests vs ts) e
          (reads.initial t (counts (map (verdict cover) ts)) c0.0 γ loop later row made ns (map (map (phrase forms)) us) (map (phrase forms) tests) (map (map (phrase forms)) vs) (map (phrase forms) ts)
          (λ j. means_lists u number shape forms spellings hs p cover j us) (λ j. means u number shape forms spellings hs p cover j tests) (λ j. means_lists u number shape forms spellings hs p cover j vs) (λ j. means u number shape forms spellings hs p cover j ts) x z num
          (defs-d γ us loop d c1.0) (defs-t γ us loop d) (defs-wired forms spellings hs γ us loop d) (each-d (γ ++ loop) tests (ty.Bool ∷ []) c c2.0) (all-t (γ ++ loop) tests (ty.Bool ∷ []) c)
          (defs-d (γ ++ loop) vs later y c3.0) (defs-t (γ ++ loop) vs later y) (defs-wired forms spellings hs (γ ++ loop) vs later y) (each-d (γ ++ loop) ts row h c3.1) (all-t (γ ++ loop) ts row h) (λ n. trees.each-of u number shape forms spellings hs p cover sound sound-calls n (γ ++ loop) ts row h) (trees.total-is u number shape forms spellings hs p cover sound sound-calls (γ ++ loop) ts row h)
          m (λ k le. defs-read γ us loop d c1.0 k (below m k le r)) (λ k le. each-read (γ ++ loop) tests (ty.Bool ∷ []) c c2.0 k (below m k le r))
          (λ k le. defs-read (γ ++ loop) vs later y c3.0 k (below m k le r)) (λ k le. each-read (γ ++ loop) ts row h c3.1 k (below m k le r)) (λ j. calls j p))

      pub all-read : (γ : List Ty) (es : List TypedExpr) (tys : List Ty) → AllFitIn γ es tys → all_covered es → (m : ℕ) → CallsRead m
          → Read u number shape forms spellings m γ (all_lowered (several u number shape forms spellings hs p cover es)) (λ j. all_of (means u number shape forms spellings hs p cover j es))
      all-read γ _ _ is.no_more v m r = nil-read u number shape forms spellings m γ
      all-read γ _ _ (is.more {tys = tys} {others = others} {t = t} {ts = ts} h k) v m r =
          let c = and-true _ _ v in
          cons-read u number shape forms spellings m γ (lowers forms t) (several u number shape forms spellings hs p cover ts) (λ j. meaning j p t) (λ j. means u number shape forms spellings hs p cover j ts) (expr-read γ t tys h c.0 m r) (all-read γ ts others k c.1 m r)

      pub each-read : (γ : List Ty) (es : List TypedExpr) (tys : List Ty) → AllFitIn γ es tys → all_covered es → (m : ℕ) → CallsRead m → EachRead m γ (map (phrase forms) es) (λ j. means u number shape forms spellings hs p cover j es)
      each-read γ _ _ is.no_more v m r = no_read
      each-read γ _ _ (is.more {tys = tys} {others = others} {t = t} {ts = ts} h k) v m r =
          let c = and-true _ _ v in
          a_read (phrase forms t) (map (phrase forms) ts) (λ j. meaning j p t) (λ j. means u number shape forms spellings hs p cover j ts) (expr-read γ t tys h c.0 m r) (each-read γ ts others k c.1 m r)

      pub defs-read : (γ : List Ty) (us : List (List TypedExpr)) (δ : List Ty) → DefsFitIn γ us δ → each_covered us → (m : ℕ) → CallsRead m
          → Read u number shape forms spellings m γ (defs_lowered (several_lists u number shape forms spellings hs p cover us)) (λ j. defined (means_lists u number shape forms spellings hs p cover j us))
      defs-read γ _ _ is.no_def v m r = nil-defs-read u number shape forms spellings m γ
      defs-read γ _ _ (is.a_def {tys = tys} {others = others} {ts = ts} {us = us} h k) v m r =
          let c = and-true _ _ v in
          cons-defs-read u number shape forms spellings m γ tys (length (map (phrase forms) ts)) (several u number shape forms spellings hs p cover ts) (several_lists u number shape forms spellings hs p cover us) (λ j. means u number shape forms spellings hs p cover j ts) (λ j. means_lists u number shape forms spellings hs p cover j us)
          (all-d γ ts tys h c.0) (all-t γ ts tys h) (all-wired forms spellings hs γ ts tys h) (all-read γ ts tys h c.0 m r) (defs-read (γ ++ tys) us others k c.1 m r)

      pub arms-read : (γ : List Ty) (named : ℕ) (arms : List (List TypedExpr)) (contents tys : List Ty) → trees.ArmsFitTo u number shape forms spellings hs p cover γ named arms contents tys → each_covered arms → (m : ℕ) → CallsRead m
          → ArmsRead u number shape forms spellings m γ named (map all_lowered (several_lists u number shape forms spellings hs p cover arms)) (λ j. map all_of (means_lists u number shape forms spellings hs p cover j arms)) contents
      arms-read γ _ _ _ tys is.no_arm v m r = no_arm
      arms-read γ _ _ _ tys (is.a_named_arm {contents = contents} {named = named} a {ts = ts} {arms = arms} h k) v m r =
          let c = and-true _ _ v in
          named_arm named (all_lowered (several u number shape forms spellings hs p cover ts)) (map all_lowered (several_lists u number shape forms spellings hs p cover arms)) (λ j. all_of (means u number shape forms spellings hs p cover j ts)) (λ j. map all_of (means_lists u number shape forms spellings hs p cover j arms)) a contents
          (all-read (γ ++ a ∷ []) ts tys h c.0 m r) (arms-read γ named arms contents tys k c.1 m r)
      arms-read γ _ _ _ tys (is.an_arm {ts = ts} {arms = arms} h k) v m r =
          let c = and-true _ _ v in
          other_arm (all_lowered (several u number shape forms spellings hs p cover ts)) (map all_lowered (several_lists u number shape forms spellings hs p cover arms)) (λ j. all_of (means u number shape forms spellings hs p cover j ts)) (λ j. map all_of (means_lists u number shape forms spellings hs p cover j arms))
          (all-read γ ts tys h c.0 m r) (arms-read γ 0 arms [] tys k c.1 m r)
