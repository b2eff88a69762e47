-- What a fitting expression becomes, as it is made: a case a form.
use Rattle.std.proofs.Common.{◌≡◌, ℕ, zero, suc, ◌<◌, ◌≤◌, Bool, true, false, List, [], ◌∷◌, ◌++◌, map, length, slice_get, Option, Some, refl, sym, ap, subst, ◌∙◌, arith, rules}
use Rattle.std.specs.Prelude.{All, nat_eq, if◌then◌else◌}
use Rattle.std.proofs.lemmas.List.{length-map, length-append}
use Rattle.std.proofs.lemmas.List.Elements.{All-nil, All-cons, All-head, All-tail, All-weaker}
use Rattle.std.proofs.lemmas.Option.{slice_get_within}
use Rattle.flow_value.specs.declared.ty.Ty.{Ty}
use Rattle.flow_value.specs.declared.ty.Ty.TheVariants as ty
use Rattle.flow_value.specs.declared.ty.Ty.TheOpen.{Ty-F}
use Rattle.flow_value.specs.declared.ty.Ty.TheViews as types
use Rattle.flow_value.specs.declared.ty.Ty.TheViews.{out-Ty}
use Rattle.sisal_tree.specs.declared.expr.Constant.{Constant}
use Rattle.sisal_tree.specs.declared.expr.Constant.TheVariants as constant
use Rattle.type_table.specs.declared.form.Form.{Form}
use Rattle.type_table.specs.declared.form.Form.TheVariants as form
use Rattle.value_ops.specs.declared.operation.Operation.{Operation}
use Rattle.value_ops.specs.declared.operation.Operation.TheVariants as operation
use Rattle.typed_tree.specs.declared.expr.TypedExpr.{TypedExpr}
use Rattle.typed_tree.specs.declared.expr.TypedKind.{TypedKind}
use Rattle.typed_tree.specs.declared.expr.TypedKind.TheVariants as typed
use Rattle.typed_tree.specs.declared.expr.TypedKind.TheViews.{roll-TypedKind}
use Rattle.typed_tree.specs.declared.expr.TypedKind.TheOpen.{TypedKind-F}
use Rattle.typed_tree.specs.declared.expr.TypedKind.TheFolds.{map-TypedKind, fold-roll-TypedKind, fold-roll-TypedExpr}
use Rattle.typed_tree.specs.declared.expr.Case.{Case}
use Rattle.typed_tree.specs.declared.expr.Choice.{Choice}
use Rattle.lowering.specs.Meaning.{arm_place}
use Rattle.typed_tree.specs.declared.expr.ClauseForm.{ClauseForm}
use Rattle.typed_tree.specs.Typing.{with}
use Rattle.typed_tree.specs.Types.{Member, IsNumber, AreNumbers, constant_type}
use Rattle.typed_tree.specs.Types as number
use Rattle.fitting_trees.specs.Fitting.{Row, Header, AreMade, IsLiteral, AreFields, TagsFit, Fits, AllFit, DefsFit, ArmsFit}
use Rattle.fitting_trees.specs.Fitting as is
use Rattle.lowering.specs.declared.feed.Feed.TheVariants.{Literal}
use Rattle.lowering.specs.declared.feed.Carried.TheVariants.{One}
use Rattle.lowering.specs.declared.feed.Wire.{Wire}
use Rattle.lowering.specs.Feeds.{wire}
use Rattle.lowering.specs.declared.graph.Action.TheVariants.{Call}
use Rattle.lowering.specs.Graphs.{only, a_node}
use Rattle.lowering.specs.Operations.{Lowers, all_lowered, wire_at, constant_lowered, operation_lowered}
use Rattle.lowering.specs.Choices.{applied, case_lowered, arms_from_tag, arms_of, tag_count, type_of}
use Rattle.lowering.specs.Loops.{Phrase, product_lowered}
use Rattle.lowering.specs.Phrases.{Kind, each, expr_lowered, kind_lowered, phrase, phrase_kind, lowers}
use Rattle.lowered_units.proofs.Built.{IsConstantOf, AreTypes, AreGood, fills_call, Gives, To, AllTo, to_none, to_more}
use Rattle.lowered_units.proofs.Built as built
use Rattle.lowered_units.proofs.BuiltForms.{HasBasics, DefsTo, to_no_def, to_def, AreOperands, EachTo, each_none, each_more}
use Rattle.lowered_units.proofs.BuiltForms as forms_are
use Rattle.lowered_units.proofs.BuiltLoops as loops

-- ---- types by number

pub out-bool : out-Ty ty.Bool ≡ Ty-F.Bool
out-bool = search (rules, types.the_lemmas)

pub out-char : out-Ty ty.Char ≡ Ty-F.Char
out-char = search (rules, types.the_lemmas)

pub out-int : out-Ty ty.Int ≡ Ty-F.Int
out-int = search (rules, types.the_lemmas)

pub out-null : out-Ty ty.Null ≡ Ty-F.Null
out-null = search (rules, types.the_lemmas)

pub out-array : (t : Ty) → out-Ty (ty.Arr t) ≡ Ty-F.Arr t
out-array t = search (rules, types.the_lemmas)

pub out-stream : (t : Ty) → out-Ty (ty.Stream t) ≡ Ty-F.Stream t
out-stream t = search (rules, types.the_lemmas)

pub out-record : (ms : List Member) → out-Ty (ty.Rec ms) ≡ Ty-F.Rec ms
out-record ms = search (rules, types.the_lemmas)

pub out-union : (ms : List Member) → out-Ty (ty.Uni ms) ≡ Ty-F.Uni ms
out-union ms = search (rules, types.the_lemmas)

-- the form of a basic type
abbrev IsBasicOf : Ty-F Ty → Option Form → Type 0
IsBasicOf Ty-F.Bool o = o ≡ Some form.Boolean
IsBasicOf Ty-F.Char o = o ≡ Some form.Character
IsBasicOf Ty-F.Int o = o ≡ Some form.Integer
IsBasicOf Ty-F.Null o = o ≡ Some form.Null
IsBasicOf _ o = Unit {0}

module _ (forms : List Form) (names : List (List ℕ)) where
  number-in : (n : ℕ) (t : Ty) → IsNumber forms names n t → n < length forms
  number-in n _ (number.boolean e) = slice_get_within forms n form.Boolean e
  number-in n _ (number.character e) = slice_get_within forms n form.Character e
  number-in n _ (number.integer e) = slice_get_within forms n form.Integer e
  number-in n _ (number.null e) = slice_get_within forms n form.Null e
  number-in n _ (number.array {m = m} e h) = slice_get_within forms n (form.Array m) e
  number-in n _ (number.stream {m = m} e h) = slice_get_within forms n (form.Stream m) e
  number-in n _ (number.a_record {ms = ms} e h) = slice_get_within forms n (form.Record ms) e
  number-in n _ (number.a_union {ms = ms} e h) = slice_get_within forms n (form.Union ms) e

  number-basic : (n : ℕ) (t : Ty) → IsNumber forms names n t → IsBasicOf (out-Ty t) (slice_get forms n)
  number-basic n _ (number.boolean e) = subst (λ z. IsBasicOf z (slice_get forms n)) (sym out-bool) e
  number-basic n _ (number.character e) = subst (λ z. IsBasicOf z (slice_get forms n)) (sym out-char) e
  number-basic n _ (number.integer e) = subst (λ z. IsBasicOf z (slice_get forms n)) (sym out-int) e
  number-basic n _ (number.null e) = subst (λ z. IsBasicOf z (slice_get forms n)) (sym out-null) e
  number-basic n _ (number.array {t = t} e h) = subst (λ z. IsBasicOf z (slice_get forms n)) (sym (out-array t)) tt
  number-basic n _ (number.stream {t = t} e h) = subst (λ z. IsBasicOf z (slice_get forms n)) (sym (out-stream t)) tt
  number-basic n _ (number.a_record {fs = fs} e h) = subst (λ z. IsBasicOf z (slice_get forms n)) (sym (out-record fs)) tt
  number-basic n _ (number.a_union {fs = fs} e h) = subst (λ z. IsBasicOf z (slice_get forms n)) (sym (out-union fs)) tt

  basic-number : (n : ℕ) (t : Ty) (o : Ty-F Ty) → out-Ty t ≡ o → IsNumber forms names n t → IsBasicOf o (slice_get forms n)
  basic-number n t o e h = subst (λ z. IsBasicOf z (slice_get forms n)) e (number-basic n t h)

  module _ (functions : ℕ) where
    pub numbers-types : (ns : List ℕ) (tys : List Ty) → AreNumbers forms names ns tys → AreTypes forms functions (map One ns)
    numbers-types [] [] h = tt
    numbers-types [] (t ∷ tys) h = absurd h
    numbers-types (n ∷ ns) [] h = absurd h
    numbers-types (n ∷ ns) (t ∷ tys) h = (number-in n t h.0, numbers-types ns tys h.1)

  pub numbers-length : (ns : List ℕ) (tys : List Ty) → AreNumbers forms names ns tys → length ns ≡ length tys
  numbers-length [] [] h = refl
  numbers-length [] (t ∷ tys) h = absurd h
  numbers-length (n ∷ ns) [] h = absurd h
  numbers-length (n ∷ ns) (t ∷ tys) h = ap suc (numbers-length ns tys h.1)

-- ---- fields

fields-length : (ms : List Member) (places : List ℕ) (tys : List Ty) → AreFields ms places tys → length places ≡ length tys
fields-length ms [] [] h = refl
fields-length ms [] (t ∷ tys) h = absurd h
fields-length ms (p ∷ ps) [] h = absurd h
fields-length ms (p ∷ ps) (t ∷ tys) h = ap suc (fields-length ms ps tys h.1)

made-length : (cs : List ClauseForm) (row made : List Ty) → AreMade cs row made → length cs ≡ length made
made-length _ _ _ is.no_clause = refl
made-length _ _ _ (is.unmasked {cs = cs} {tys = tys} {made = made} e m h) = ap suc (made-length cs tys made h)
made-length _ _ _ (is.masked {cs = cs} {tys = tys} {made = made} e m h) = ap suc (made-length cs tys made h)

arm-within : (arms others : ℕ) (choices : List Choice) → All (λ x. x.arm < arms) choices → others ≤ arms → (tag : ℕ) → arm_place choices others tag ≤ arms
arm-within arms others [] all rest tag = rest
arm-within arms others (x ∷ xs) all rest tag = by (nat_eq x.tag tag) (arm-within arms others xs (All-tail (λ x. x.arm < arms) x xs all) rest tag)
  where
    by : (b : Bool) → arm_place xs others tag ≤ arms → (if b then x.arm else arm_place xs others tag) ≤ arms
    by true later = let h = All-head (λ x. x.arm < arms) x xs all in omega (arith, h)
    by false later = later

tags-within : (arms : ℕ) (c : Case) → All (λ x. x.arm < arms) c.choices → c.others ≤ arms → (tag count : ℕ) → All (λ k. k ≤ arms) (arms_from_tag c tag count)
tags-within arms c all rest tag zero = All-nil (λ k. k ≤ arms)
tags-within arms c all rest tag (suc count) = All-cons (λ k. k ≤ arms) _ _ (arm-within arms c.others c.choices all rest tag) (tags-within arms c all rest (suc tag) count)

-- ---- a phrase by its form

module _ (forms : List Form) (names : List (List ℕ)) (hs : List Header) (basics : HasBasics forms) where
  abbrev functions : ℕ
  functions = length hs

  abbrev Does : ℕ → Lowers → Type 0
  Does k g = To forms functions k g

  seen : (k : ℕ) (x : TypedKind-F TypedKind TypedExpr) (y : TypedKind) (l : ℕ) (ns : List ℕ) → y ≡ roll-TypedKind x
      → Does k ((kind_lowered forms (map-TypedKind TypedKind TypedExpr Kind Phrase (phrase_kind forms) (phrase forms) x)).lowers ns) → Does k (lowers forms (with l ns y))
  seen k x y l ns e h =
      subst (Does k)
      (sym (ap (λ (p : Phrase). p.lowers) (fold-roll-TypedExpr Kind Phrase (kind_lowered forms) expr_lowered (record { line = l; types = ns; kind = y }))
      ∙ (ap (λ z. (phrase_kind forms z).lowers ns) e ∙ ap (λ (z : Kind). z.lowers ns) (fold-roll-TypedKind Kind Phrase (kind_lowered forms) expr_lowered x))))
      h

  abbrev several : List TypedExpr → List Lowers
  several es = each (map (phrase forms) es)

  abbrev several_lists : List (List TypedExpr) → List (List Lowers)
  several_lists us = map each (map (map (phrase forms)) us)

  -- ---- constants

  literal-to : (c : Constant) (n : ℕ) → n < length forms → IsConstantOf c (slice_get forms n) → Does 1 (λ env. only (wire (Literal c) (One n) ∷ []))
  literal-to c n i h env a = built.only-gives forms functions (wire (Literal c) (One n) ∷ []) ((i, h), tt)

  constant-to : (c : Constant) (ns : List ℕ) → IsLiteral c → AreNumbers forms names ns (constant_type c ∷ []) → Does 1 (λ env. constant_lowered c ns)
  constant-to c [] lit h = absurd h
  constant-to c (n ∷ m ∷ ns) lit h = absurd h.1
  constant-to (constant.Integer z) (n ∷ []) lit h = literal-to (constant.Integer z) n (number-in forms names n ty.Int h.0) (subst (IsConstantOf (constant.Integer z)) (sym (basic-number forms names n ty.Int Ty-F.Int out-int h.0)) lit)
  constant-to (constant.Letter c) (n ∷ []) lit h = literal-to (constant.Letter c) n (number-in forms names n ty.Char h.0) (subst (IsConstantOf (constant.Letter c)) (sym (basic-number forms names n ty.Char Ty-F.Char out-char h.0)) lit)
  constant-to (constant.Quoted s) (n ∷ []) lit h = λ env a. forms_are.text-to forms functions basics s (n ∷ []) lit (numbers-types forms names functions (n ∷ []) (ty.Arr ty.Char ∷ []) h)
  constant-to constant.True (n ∷ []) lit h = literal-to constant.True n (number-in forms names n ty.Bool h.0) (subst (IsConstantOf constant.True) (sym (basic-number forms names n ty.Bool Ty-F.Bool out-bool h.0)) tt)
  constant-to constant.False (n ∷ []) lit h = literal-to constant.False n (number-in forms names n ty.Bool h.0) (subst (IsConstantOf constant.False) (sym (basic-number forms names n ty.Bool Ty-F.Bool out-bool h.0)) tt)
  constant-to constant.Nil (n ∷ []) lit h = literal-to constant.Nil n (number-in forms names n ty.Null h.0) (subst (IsConstantOf constant.Nil) (sym (basic-number forms names n ty.Null Ty-F.Null out-null h.0)) tt)

  -- ---- operations

  abbrev IsOrTag : Operation → List Wire → Type 0
  IsOrTag (operation.IsTag tag) ws = Unit {0}
  IsOrTag o ws = AreOperands forms functions basics o ws

  row-operands : (o : Operation) (tys : List Ty) (a : Ty) → Row o tys a → (ws : List Wire) → length ws ≡ length tys → IsOrTag o ws
  row-operands _ _ _ (is.union ms tag m h) ws e = omega (arith, e)
  row-operands _ _ _ (is.change ms p ps tys h) ws e = omega (arith, e, fields-length ms (p ∷ ps) tys h)
  row-operands _ _ _ r ws e = tt

  one-type : (ns : List ℕ) (a : Ty) → AreNumbers forms names ns (a ∷ []) → (n : ℕ) × (ns ≡ n ∷ [])
  one-type [] a h = absurd h
  one-type (n ∷ []) a h = (n, refl)
  one-type (n ∷ m ∷ ns) a h = absurd h.1

  applied-to : (o : Operation) (ws : List Wire) (n : ℕ) → IsOrTag o ws → AreGood forms functions ws → AreTypes forms functions (One n ∷ []) → Gives forms functions 1 (applied forms o ws (n ∷ []))
  applied-to (operation.IsTag tag) ws n h g k = forms_are.is-tag-to forms functions basics tag ws n g k
  applied-to o ws n h g k = by o h (forms_are.operation-to forms functions basics o ws (n ∷ []))
    where
      by : (o : Operation) → IsOrTag o ws → (AreOperands forms functions basics o ws → AreGood forms functions ws → AreTypes forms functions (One n ∷ []) → Gives forms functions 1 (operation_lowered o ws (n ∷ []))) → Gives forms functions 1 (applied forms o ws (n ∷ []))
      by (operation.IsTag tag) h f = forms_are.is-tag-to forms functions basics tag ws n g k
      by o h f = f h g k

  -- ---- trees

  of-length : (k l : ℕ) (g : Lowers) → k ≡ l → Does k g → Does l g
  of-length k l g e h = subst (λ i. Does i g) e h

  mutual
    pub tree-to : (γ : List Ty) (e : TypedExpr) (tys : List Ty) → Fits (AreNumbers forms names) hs γ e tys → Does (length tys) (lowers forms e)
    tree-to γ _ _ (is.a_constant {l = l} {ns = ns} {c = c} lit num) =
        seen 1 (TypedKind-F.Constant c) (typed.Constant c) l ns (sym (typed.rolls-Constant c)) (constant-to c ns lit num)
    tree-to γ _ _ (is.a_value {l = l} {level = x} {ns = ns} {a = a} there num) =
        seen 1 (TypedKind-F.Value x) (typed.Value x) l ns (sym (typed.rolls-Value x)) (λ env g. built.only-gives forms functions (wire_at env x ∷ []) (forms_are.wire-good forms functions basics env x g, tt))
    tree-to γ _ tys (is.group {l = l} {ns = ns} {ts = ts} h num) =
        seen (length tys) (TypedKind-F.Group ts) (typed.Group ts) l ns (sym (typed.rolls-Group ts)) (forms_are.all-to forms functions basics (several ts) (length tys) (all-fit γ ts tys h))
    tree-to γ _ _ (is.call {l = l} {f = f} {ns = ns} {g = g} {ts = ts} there h num) =
        seen (length g.results) (TypedKind-F.Call f ts) (typed.Call f ts) l ns (sym (typed.rolls-Call f ts))
        (λ env a. built.then-gives forms functions (length g.params) (length g.results) (all_lowered (several ts) env) (λ ws. a_node (Call f) ws 1 (map One ns)) (forms_are.all-to forms functions basics (several ts) (length g.params) (all-fit γ ts g.params h) env a)
        (λ ws gw lw. forms_are.gives-as forms functions basics (length (map One ns)) (length g.results) (a_node (Call f) ws 1 (map One ns)) (length-map ns One ∙ numbers-length forms names ns g.results num)
        (built.node-gives forms functions (Call f) ws 1 (map One ns) (fills_call f ws (slice_get_within hs f g there) gw) (omega arith) (numbers-types forms names functions ns g.results num))))
    tree-to γ _ _ (is.apply {tys = tys} {l = l} {ns = ns} {o = o} {a = a} {ts = ts} h r num) =
        let single = one-type ns a num in
        seen 1 (TypedKind-F.Apply o ts) (typed.Apply o ts) l ns (sym (typed.rolls-Apply o ts))
        (λ env g. built.then-gives forms functions (length tys) 1 (all_lowered (several ts) env) (λ ws. applied forms o ws ns) (forms_are.all-to forms functions basics (several ts) (length tys) (all-fit γ ts tys h) env g)
        (λ ws gw lw. subst (λ z. Gives forms functions 1 (applied forms o ws z)) (sym single.1) (applied-to o ws single.0 (row-operands o tys a r ws lw) gw (subst (λ z. AreTypes forms functions (map One z)) single.1 (numbers-types forms names functions ns (a ∷ []) num)))))
    tree-to γ _ tys (is.let_in {δ = δ} {l = l} {ns = ns} {us = us} {ts = ts} d h num) =
        seen (length tys) (TypedKind-F.Let us ts) (typed.Let us ts) l ns (sym (typed.rolls-Let us ts)) (forms_are.body-to forms functions basics (several_lists us) (several ts) (length δ) (length tys) (defs-fit γ us δ d) (all-fit (γ ++ δ) ts tys h))
    tree-to γ _ tys (is.if_else {l = l} {ns = ns} {ts = ts} {us = us} {vs = vs} t h k num) =
        let same = numbers-length forms names ns tys num in
        seen (length tys) (TypedKind-F.If ts us vs) (typed.If ts us vs) l ns (sym (typed.rolls-If ts us vs))
        (subst (λ i. Does i ((kind_lowered forms (TypedKind-F.If (map (phrase forms) ts) (map (phrase forms) us) (map (phrase forms) vs))).lowers ns)) same
        (forms_are.if-to forms functions basics (several ts) (several us) (several vs) 1 ns (all-fit γ ts (ty.Bool ∷ []) t) (subst (AllTo forms functions (several us)) (sym same) (all-fit γ us tys h)) (subst (AllTo forms functions (several vs)) (sym same) (all-fit γ vs tys k)) (numbers-types forms names functions ns tys num)))
    tree-to γ _ tys (is.tag_case ms contents {l = l} {ns = ns} {c = c} {ts = ts} {arms = arms} h a t r named others one num) =
        let same = numbers-length forms names ns tys num in
        let lists = several_lists arms in
        let count = length-map (map (map (phrase forms)) arms) each ∙ length-map arms (map (phrase forms)) in
        seen (length tys) (TypedKind-F.Case c ts arms) (typed.Case c ts arms) l ns (sym (typed.rolls-Case c ts arms))
        (λ env g. built.then-gives forms functions 1 (length tys) (all_lowered (several ts) env) (λ ws. case_lowered forms c lists ns ws env) (forms_are.all-to forms functions basics (several ts) 1 (all-fit γ ts (ty.Uni ms ∷ []) h) env g)
        (λ ws gw lw. forms_are.gives-as forms functions basics (length ns) (length tys) (case_lowered forms c lists ns ws env) same
        (forms_are.case-to forms functions basics c lists ns ws gw (subst (λ i. EachTo forms functions basics i (map all_lowered lists)) (sym same) (arms-fit γ c.named arms contents tys a)) (omega (arith, one, count)) (subst (λ i. All (λ k. k ≤ i) (arms_of c (tag_count forms (type_of (wire_at ws 0).ty)))) (sym count) (tags-within (length arms) c (All-weaker (is.IsChosen c (length arms) (length ms)) (λ x. x.arm < length arms) (λ x h. h.within) c.choices named) others 0 (tag_count forms (type_of (wire_at ws 0).ty)))) (numbers-types forms names functions ns tys num) env g)))
    tree-to γ _ made (is.product {tys = tys} {names = xs} {δ = δ} {row = row} {l = l} {ns = ns} {p = q} {bounds = bounds} {us = us} {ts = ts} b g d h m num) =
        let same = numbers-length forms names ns made num in
        seen (length made) (TypedKind-F.Product q bounds us ts) (typed.Product q bounds us ts) l ns (sym (typed.rolls-Product q bounds us ts))
        (λ env a. built.then-gives forms functions (length tys) (length made) (all_lowered (several bounds) env) (λ ws. product_lowered forms q (several_lists us) (several ts) ns ws env) (forms_are.all-to forms functions basics (several bounds) (length tys) (all-fit γ bounds tys b) env a)
        (λ ws gw lw. forms_are.gives-as forms functions basics (length ns) (length made) (product_lowered forms q (several_lists us) (several ts) ns ws env) same
        (loops.product-to forms functions basics q (several_lists us) (length δ) (several ts) (length row) ns ws (defs-fit (γ ++ xs) us δ d) (all-fit ((γ ++ xs) ++ δ) ts row h) gw (numbers-types forms names functions ns made num) (made-length q.clauses row made m ∙ sym same) env a)))
    tree-to γ _ made (is.initial {loop = loop} {later = later} {row = row} {l = l} {ns = ns} {t = t} {us = us} {vs = vs} {tests = tests} {ts = ts} d c v r h m num) =
        let same = numbers-length forms names ns made num in
        seen (length made) (TypedKind-F.Initial t us tests vs ts) (typed.Initial t us tests vs ts) l ns (sym (typed.rolls-Initial t us tests vs ts))
        (subst (λ i. Does i ((kind_lowered forms (TypedKind-F.Initial t (map (map (phrase forms)) us) (map (phrase forms) tests) (map (map (phrase forms)) vs) (map (phrase forms) ts))).lowers ns)) same
        (loops.initial-to forms functions basics t (several_lists us) (length loop) (several tests) (several_lists vs) (length later) (map (phrase forms) ts) ns (defs-fit γ us loop d) (loops.of-all forms functions basics (several tests) 1 (all-fit (γ ++ loop) tests (ty.Bool ∷ []) c))
        (defs-fit (γ ++ loop) vs later v) (loops.of-all forms functions basics (several ts) (length row) (all-fit (γ ++ loop) ts row h)) (numbers-types forms names functions ns made num) (made-length t.clauses row made m ∙ sym same)))

    pub all-fit : (γ : List Ty) (es : List TypedExpr) (tys : List Ty) → AllFit (AreNumbers forms names) hs γ es tys → AllTo forms functions (several es) (length tys)
    all-fit γ _ _ is.no_more = to_none
    all-fit γ _ _ (is.more {tys = tys} {others = others} {t = t} {ts = ts} h k) =
        subst (AllTo forms functions (several (t ∷ ts))) (sym (length-append tys others)) (to_more (lowers forms t) (several ts) (length tys) (length others) (tree-to γ t tys h) (all-fit γ ts others k))

    pub defs-fit : (γ : List Ty) (us : List (List TypedExpr)) (δ : List Ty) → DefsFit (AreNumbers forms names) hs γ us δ → DefsTo forms functions (several_lists us) (length δ)
    defs-fit γ _ _ is.no_def = to_no_def
    defs-fit γ _ _ (is.a_def {tys = tys} {others = others} {ts = ts} {us = us} h k) =
        subst (DefsTo forms functions (several_lists (ts ∷ us))) (sym (length-append tys others)) (to_def (several ts) (several_lists us) (length tys) (length others) (all-fit γ ts tys h) (defs-fit (γ ++ tys) us others k))

    pub arms-fit : (γ : List Ty) (named : ℕ) (arms : List (List TypedExpr)) (contents tys : List Ty) → ArmsFit (AreNumbers forms names) hs γ named arms contents tys
        → EachTo forms functions basics (length tys) (map all_lowered (several_lists arms))
    arms-fit γ _ _ _ tys is.no_arm = each_none
    arms-fit γ _ _ _ tys (is.a_named_arm {contents = contents} {named = named} a {ts = ts} {arms = arms} h k) =
        each_more (all_lowered (several ts)) (map all_lowered (several_lists arms)) (forms_are.all-to forms functions basics (several ts) (length tys) (all-fit (γ ++ (a ∷ [])) ts tys h)) (arms-fit γ named arms contents tys k)
    arms-fit γ _ _ _ tys (is.an_arm {ts = ts} {arms = arms} h k) =
        each_more (all_lowered (several ts)) (map all_lowered (several_lists arms)) (forms_are.all-to forms functions basics (several ts) (length tys) (all-fit γ ts tys h)) (arms-fit γ 0 arms [] tys k)
