-- The ports of a fitting program within the limits fit 32 bits.
use Rattle.std.proofs.Common.{◌≡◌, ℕ, zero, suc, ◌+◌, ◌≤◌, List, [], ◌∷◌, ◌++◌, map, length, slice_get, Option, Some, None, refl, sym, ap, subst, ◌∙◌, arith}
use Rattle.std.specs.Prelude.{All, ◌^◌}
use Rattle.std.proofs.lemmas.List.{length-map}
use Rattle.std.proofs.lemmas.List.Elements.{All-nil, All-cons}
use Rattle.std.proofs.lemmas.Option.{slice_get_within}
use Rattle.flow_value.specs.declared.ty.Ty.{Ty}
use Rattle.flow_value.specs.declared.ty.Ty.TheVariants as ty
use Rattle.flow_value.specs.declared.ty.Ty.TheOpen.{Ty-F}
use Rattle.flow_value.specs.declared.ty.Ty.TheViews.{out-Ty}
use Rattle.if1_graph.specs.declared.op.Simple.TheVariants as simple
use Rattle.type_table.specs.declared.form.Form.{Form}
use Rattle.type_table.specs.declared.form.Member.{Member as NumberedMember}
use Rattle.type_table.specs.Tables.{members_if, members_at}
use Rattle.value_ops.specs.declared.operation.Operation.{Operation}
use Rattle.typed_tree.specs.declared.expr.TypedExpr.{TypedExpr}
use Rattle.typed_tree.specs.declared.expr.TypedKind.{TypedKind}
use Rattle.typed_tree.specs.declared.expr.TypedKind.TheVariants as typed
use Rattle.typed_tree.specs.declared.expr.TypedKind.TheViews.{roll-TypedKind}
use Rattle.typed_tree.specs.declared.expr.TypedKind.TheOpen.{TypedKind-F}
use Rattle.typed_tree.specs.declared.expr.TypedKind.TheFolds.{map-TypedKind, fold-roll-TypedKind, fold-roll-TypedExpr}
use Rattle.typed_tree.specs.declared.program.Function.{Function}
use Rattle.typed_tree.specs.declared.program.Program.{Program}
use Rattle.typed_tree.specs.Typing.{with}
use Rattle.typed_tree.specs.Types.{Member, constant_type, IsNumber, AreMembers, AreNumbers}
use Rattle.typed_tree.specs.Types as number
use Rattle.fitting_trees.specs.Fitting.{Row, Header, Fits, AllFit, DefsFit, ArmsFit, BodyFits, FunctionsFit}
use Rattle.fitting_trees.specs.Fitting as is
use Rattle.lowering.specs.declared.feed.Feed.{Feed}
use Rattle.lowering.specs.declared.feed.Feed.TheVariants.{Literal, Named, Absent, Port}
use Rattle.lowering.specs.declared.feed.Carried.{Carried}
use Rattle.lowering.specs.declared.feed.Carried.TheVariants.{One, Many, Callee}
use Rattle.lowering.specs.declared.feed.Wire.{Wire}
use Rattle.lowering.specs.Feeds.{one_carried, carried}
use Rattle.lowering.specs.declared.graph.Action.TheVariants.{Call}
use Rattle.lowering.specs.declared.graph.LoweredGraph.{LoweredGraph}
use Rattle.lowering.specs.declared.graph.Lowered.{Lowered}
use Rattle.lowering.specs.Graphs.{ports, a_node, size, closed_graphs, graph_lines, new_graph, new_graphs}
use Rattle.lowering.specs.Operations.{Lowers, integer, all_lowered, wire_at}
use Rattle.lowering.specs.Choices.{type_of, applied, case_lowered}
use Rattle.lowering.specs.Loops.{Phrase, own_inputs, product_lowered}
use Rattle.lowering.specs.Phrases.{Kind, each, expr_lowered, kind_lowered, phrase, phrase_kind, lowers}
use Rattle.lowering.specs.Programs.{stub, bodies, function_lowered, functions_lowered, graphs}
use Rattle.lowering.specs.Types.{basics, needs}
use Rattle.lowering.specs.TooMany.{most_types, most_ports, types_over, graph_ports, header_ports, graphs_over, program_over, too_many}
use Rattle.lowered_units.specs.Fitting.{IsFitting}
use Rattle.lowered_units.specs.Small.{IsSmallGraph, HasSmallPorts}
use Rattle.lowered_units.proofs.BuiltTrees.{out-bool, out-char, out-int, out-null, out-array, out-stream, out-record, out-union, numbers-length}
use Rattle.lowered_units.proofs.Entries.{length-new}
use Rattle.lowered_units.proofs.Forming.{few-over, or-right}
use Rattle.lowered_units.proofs.Kept.{inner, inner-is, AllKept, AreSmallGraphs}
use Rattle.lowered_units.proofs.Kept as keeping
use Rattle.lowered_units.proofs.KeptForms.{Does, KeepsTo, GivesTo, EachKeep, AllKeepTo, keep_none, keep_more, DefsKeep, keep_no_def, keep_def, ArmsKeep, keep_no_arm, keep_named_arm, keep_arm, reach}
use Rattle.lowered_units.proofs.KeptForms as forms_are
use Rattle.lowered_units.proofs.Members.{EachLine, HasFew, more-few, few-members}
use Rattle.lowered_units.proofs.Programs.{has-basics}
use Rattle.lowered_units.proofs.Wired.{IsShown, IsTyped, AreTyped, typed-at, typed-ports, first-typed, the-number, content-typed}

-- ---- fields

module _ (forms : List Form) (names : List (List ℕ)) where
  members-length : (ms : List NumberedMember) (fs : List Member) → AreMembers forms names ms fs → length fs ≡ length ms
  members-length _ _ number.no_member = refl
  members-length _ _ (number.a_member {ms = ms} {fs = fs} e h r) = ap suc (members-length ms fs r)

  -- a record has as many fields as its form
  abbrev HasForm : ℕ → Ty-F Ty → Type 0
  HasForm n (Ty-F.Rec ms) = length ms ≡ length (members_at forms n)
  HasForm n _ = Unit {0}

  has-form : (n : ℕ) (t : Ty) → IsNumber forms names n t → HasForm n (out-Ty t)
  has-form n _ (number.boolean e) = subst (HasForm n) (sym out-bool) tt
  has-form n _ (number.character e) = subst (HasForm n) (sym out-char) tt
  has-form n _ (number.integer e) = subst (HasForm n) (sym out-int) tt
  has-form n _ (number.null e) = subst (HasForm n) (sym out-null) tt
  has-form n _ (number.array {t = t} e h) = subst (HasForm n) (sym (out-array t)) tt
  has-form n _ (number.stream {t = t} e h) = subst (HasForm n) (sym (out-stream t)) tt
  has-form n _ (number.a_record {ms = ms} {fs = fs} e h) = subst (HasForm n) (sym (out-record fs)) (subst (λ (o : Option Form). length fs ≡ length (members_if o)) (sym e) (members-length ms fs h))
  has-form n _ (number.a_union {fs = fs} e h) = subst (HasForm n) (sym (out-union fs)) tt

  fields-are : (n : ℕ) (ms : List Member) → IsNumber forms names n (ty.Rec ms) → length ms ≡ length (members_at forms n)
  fields-are n ms h = subst (HasForm n) (out-record ms) (has-form n (ty.Rec ms) h)

  shown-line : (P : Carried → Type 0) (f : Feed) (c : Carried) → IsShown f → EachLine P (one_carried f c ++ []) → P c
  shown-line P (Literal k) c h l = l.0
  shown-line P (Named s) c h l = absurd h
  shown-line P Absent c h l = absurd h
  shown-line P (Port up n q) c h l = l.0

  few-fields : (most : ℕ) (c : Carried) (ms : List Member) → IsTyped forms names c (ty.Rec ms) → HasFew forms names most c → length ms ≤ most
  few-fields most (One n) ms h few = let same = fields-are n ms h in omega (arith, same, few)
  few-fields most (Many n) ms h few = absurd h
  few-fields most (Callee f) ms h few = absurd h

  -- a field is read from a record that a line carries
  reach-few : (most : ℕ) → 1 ≤ most → (o : Operation) (tys : List Ty) (a : Ty) → Row o tys a → (ws : List Wire) → AreTyped forms names ws tys → EachLine (HasFew forms names most) (carried ws) → reach o ≤ most
  reach-few most one _ _ _ (is.field ms place m e) [] h l = absurd h
  reach-few most one _ _ _ (is.field ms place m e) (w ∷ v ∷ ws) h l = absurd h.1
  reach-few most one _ _ _ (is.field ms place m e) (w ∷ []) h l =
      let within = slice_get_within ms place m e in
      let few = few-fields most w.ty ms h.0.0 (shown-line (HasFew forms names most) w.feed w.ty h.0.1 l) in
      omega (arith, within, few)
  reach-few most one _ _ _ r ws h l = one

-- ---- trees

module _ (most : ℕ) (two : 2 ≤ most) (fits : most + most + 2 ≤ 2 ^ 32) (forms : List Form) (names : List (List ℕ)) (hs : List Header) (integers : IsNumber forms names integer ty.Int) (results : (f : ℕ) (g : Header) → slice_get hs f ≡ Some g → length g.results ≤ most) where
  abbrev Keep : List Ty → Lowers → Type 0
  Keep γ g = KeepsTo most two fits forms names γ g

  -- a phrase keeps to so many ports, and gives wires of its types
  record Fine (γ : List Ty) (g : Lowers) (tys : List Ty) : Type 0 where
    pub keeps : Keep γ g
    pub gives : GivesTo most two fits forms names γ tys g

  seen : (γ : List Ty) (tys : List Ty) (x : TypedKind-F TypedKind TypedExpr) (y : TypedKind) (l : ℕ) (ns : List ℕ) → y ≡ roll-TypedKind x
      → Fine γ ((kind_lowered forms (map-TypedKind TypedKind TypedExpr Kind Phrase (phrase_kind forms) (phrase forms) x)).lowers ns) tys → Fine γ (lowers forms (with l ns y)) tys
  seen γ tys x y l ns e h =
      subst (λ g. Fine γ g tys)
      (sym (ap (λ (p : Phrase). p.lowers) (fold-roll-TypedExpr Kind Phrase (kind_lowered forms) expr_lowered (record { line = l; types = ns; kind = y }))
      ∙ (ap (λ z. (phrase_kind forms z).lowers ns) e ∙ ap (λ (z : Kind). z.lowers ns) (fold-roll-TypedKind Kind Phrase (kind_lowered forms) expr_lowered x))))
      h

  abbrev several : List TypedExpr → List Lowers
  several es = each (map (phrase forms) es)

  abbrev several_lists : List (List TypedExpr) → List (List Lowers)
  several_lists us = map each (map (map (phrase forms)) us)

  abbrev Each : List Ty → List TypedExpr → Type 0
  Each γ es = EachKeep most two fits forms names γ (several es)

  one-number : (ns : List ℕ) (a : Ty) → AreNumbers forms names ns (a ∷ []) → (n : ℕ) × (ns ≡ n ∷ [])
  one-number [] a h = absurd h
  one-number (n ∷ []) a h = (n, refl)
  one-number (n ∷ m ∷ ns) a h = absurd h.1

  at-least : 1 ≤ most
  at-least = omega (arith, two)

  -- values of their own outputs
  own-values : (n port : ℕ) (ns : List ℕ) (tys : List Ty) → AreNumbers forms names ns tys → AreTyped forms names (ports n port (map One ns)) tys
  own-values n port ns tys h = typed-ports forms names ns tys h n port

  mutual
    tree-keeps : (γ : List Ty) (e : TypedExpr) (tys : List Ty) → Fits (AreNumbers forms names) hs γ e tys → Fine γ (lowers forms e) tys
    tree-keeps γ _ _ (is.a_constant {l = l} {ns = ns} {c = c} lit num) =
        let one = numbers-length forms names ns (constant_type c ∷ []) num in
        seen γ (constant_type c ∷ []) (TypedKind-F.Constant c) (typed.Constant c) l ns (sym (typed.rolls-Constant c)) (record {
          keeps = λ env t a. forms_are.constant-keeps most two fits forms names c ns (omega (arith, one, at-least));
          gives = λ env t. forms_are.constant-gives most two fits forms names c ns (constant_type c ∷ []) num;
        })
    tree-keeps γ _ _ (is.a_value {l = l} {level = x} {ns = ns} {a = a} there num) =
        seen γ (a ∷ []) (TypedKind-F.Value x) (typed.Value x) l ns (sym (typed.rolls-Value x)) (record {
          keeps = λ env t b. forms_are.name-keeps most two fits forms names γ x env t b;
          gives = λ env t n q. (typed-at forms names env γ t x a there, tt);
        })
    tree-keeps γ _ tys (is.group {l = l} {ns = ns} {ts = ts} f num) =
        seen γ tys (TypedKind-F.Group ts) (typed.Group ts) l ns (sym (typed.rolls-Group ts)) (record {
          keeps = forms_are.all-keep most two fits forms names γ (several ts) (each-keep γ ts tys f);
          gives = forms_are.all-give most two fits forms names γ (several ts) tys (all-fine γ ts tys f);
        })
    tree-keeps γ _ _ (is.call {l = l} {f = x} {ns = ns} {g = g} {ts = ts} there f num) =
        let few = results x g there in
        let same = numbers-length forms names ns g.results num in
        seen γ g.results (TypedKind-F.Call x ts) (typed.Call x ts) l ns (sym (typed.rolls-Call x ts)) (record {
          keeps = forms_are.call-keeps most two fits forms names γ x (several ts) ns (omega (arith, few, same)) (each-keep γ ts g.params f);
          gives = λ env t. forms_are.then-gives most two fits forms names g.results (all_lowered (several ts) env) (λ ws. a_node (Call x) ws 1 (map One ns)) (λ ws n q. own-values (suc n) 1 ns g.results num);
        })
    tree-keeps γ _ _ (is.apply {tys = tys} {l = l} {ns = ns} {o = o} {a = a} {ts = ts} f row num) =
        let single = one-number ns a num in
        seen γ (a ∷ []) (TypedKind-F.Apply o ts) (typed.Apply o ts) l ns (sym (typed.rolls-Apply o ts)) (record {
          keeps = λ env t b.
              forms_are.then-knows most two fits forms names tys (all_lowered (several ts) env) (λ ws. applied forms o ws ns) (forms_are.all-keep most two fits forms names γ (several ts) (each-keep γ ts tys f) env t b)
              (forms_are.all-give most two fits forms names γ (several ts) tys (all-fine γ ts tys f) env t)
              (λ ws tw bw. subst (λ z. Does most two fits forms names (applied forms o ws z)) (sym single.1) (forms_are.applied-keeps most two fits forms names o ws single.0 (reach-few forms names most at-least o tys a row ws tw) bw));
          gives = λ env t. forms_are.then-gives most two fits forms names (a ∷ []) (all_lowered (several ts) env) (λ ws. applied forms o ws ns) (λ ws. forms_are.applied-gives most two fits forms names o ws ns (a ∷ []) num);
        })
    tree-keeps γ _ tys (is.let_in {δ = δ} {l = l} {ns = ns} {us = us} {ts = ts} d f num) =
        seen γ tys (TypedKind-F.Let us ts) (typed.Let us ts) l ns (sym (typed.rolls-Let us ts)) (record {
          keeps = forms_are.body-keeps most two fits forms names γ δ (several_lists us) (several ts) (defs-keep γ us δ d) (each-keep (γ ++ δ) ts tys f);
          gives = forms_are.body-gives most two fits forms names γ δ tys (several_lists us) (several ts) (defs-keep γ us δ d) (all-fine (γ ++ δ) ts tys f);
        })
    tree-keeps γ _ tys (is.if_else {l = l} {ns = ns} {ts = ts} {us = us} {vs = vs} t f g num) =
        seen γ tys (TypedKind-F.If ts us vs) (typed.If ts us vs) l ns (sym (typed.rolls-If ts us vs)) (record {
          keeps = forms_are.if-keeps most two fits forms names γ (several ts) (several us) (several vs) ns (each-keep γ ts (ty.Bool ∷ []) t) (each-keep γ us tys f) (each-keep γ vs tys g);
          gives = λ env t n q. own-values (suc n) 1 ns tys num;
        })
    tree-keeps γ _ tys (is.tag_case ms contents {l = l} {ns = ns} {c = c} {ts = ts} {arms = arms} f a tags named chosen others one num) =
        seen γ tys (TypedKind-F.Case c ts arms) (typed.Case c ts arms) l ns (sym (typed.rolls-Case c ts arms)) (record {
          keeps = λ env t b.
              forms_are.then-knows most two fits forms names (ty.Uni ms ∷ []) (all_lowered (several ts) env) (λ ws. case_lowered forms c (several_lists arms) ns ws env) (forms_are.all-keep most two fits forms names γ (several ts) (each-keep γ ts (ty.Uni ms ∷ []) f) env t b)
              (forms_are.all-give most two fits forms names γ (several ts) (ty.Uni ms ∷ []) (all-fine γ ts (ty.Uni ms ∷ []) f) env t)
              (λ ws tw bw.
              forms_are.case-keeps most two fits forms names γ c (several_lists arms) contents ns ws bw (arms-keep γ c.named arms contents tys a)
              (λ d x k there.
              content-typed forms names (type_of (wire_at ws 0).ty) ms contents c (length arms) (the-number forms names (wire_at ws 0).ty (ty.Uni ms) (first-typed forms names ws (ty.Uni ms) tw)) tags chosen d (named d k) x there)
              env t b);
          gives = λ env t. forms_are.then-gives most two fits forms names tys (all_lowered (several ts) env) (λ ws. case_lowered forms c (several_lists arms) ns ws env) (λ ws n q. own-values (suc n) 1 ns tys num);
        })
    tree-keeps γ _ made (is.product {tys = tys} {names = xs} {δ = δ} {row = row} {l = l} {ns = ns} {p = q} {bounds = bounds} {us = us} {ts = ts} b g d f m num) =
        seen γ made (TypedKind-F.Product q bounds us ts) (typed.Product q bounds us ts) l ns (sym (typed.rolls-Product q bounds us ts)) (record {
          keeps = λ env t a.
              forms_are.then-knows most two fits forms names tys (all_lowered (several bounds) env) (λ ws. product_lowered forms q (several_lists us) (several ts) ns ws env) (forms_are.all-keep most two fits forms names γ (several bounds) (each-keep γ bounds tys b) env t a)
              (forms_are.all-give most two fits forms names γ (several bounds) tys (all-fine γ bounds tys b) env t)
              (λ ws tw bw. forms_are.product-keeps most two fits forms names γ xs δ tys q (several_lists us) (several ts) ns ws g integers tw bw (defs-keep (γ ++ xs) us δ d) (each-keep ((γ ++ xs) ++ δ) ts row f) env t a);
          gives = λ env t. forms_are.then-gives most two fits forms names made (all_lowered (several bounds) env) (λ ws. product_lowered forms q (several_lists us) (several ts) ns ws env) (λ ws n i. own-values (suc n) 1 ns made num);
        })
    tree-keeps γ _ made (is.initial {loop = loop} {later = later} {row = row} {l = l} {ns = ns} {t = t} {us = us} {vs = vs} {tests = tests} {ts = ts} d c v w f m num) =
        seen γ made (TypedKind-F.Initial t us tests vs ts) (typed.Initial t us tests vs ts) l ns (sym (typed.rolls-Initial t us tests vs ts)) (record {
          keeps = forms_are.initial-keeps most two fits forms names γ loop later t (several_lists us) (several tests) (several_lists vs) (map (phrase forms) ts) ns (defs-keep γ us loop d) (each-keep (γ ++ loop) tests (ty.Bool ∷ []) c) (defs-keep (γ ++ loop) vs later v) w (each-keep (γ ++ loop) ts row f);
          gives = λ env t n q. own-values (suc n) 1 ns made num;
        })

    all-fine : (γ : List Ty) (es : List TypedExpr) (tys : List Ty) → AllFit (AreNumbers forms names) hs γ es tys → AllKeepTo most two fits forms names γ (several es) tys
    all-fine γ _ _ is.no_more = keep_none γ
    all-fine γ _ _ (is.more {tys = tys} {others = others} {t = t} {ts = ts} f g) =
        let x = tree-keeps γ t tys f in
        keep_more γ (lowers forms t) (several ts) tys others x.keeps x.gives (all-fine γ ts others g)

    each-keep : (γ : List Ty) (es : List TypedExpr) (tys : List Ty) → AllFit (AreNumbers forms names) hs γ es tys → Each γ es
    each-keep γ _ _ is.no_more = tt
    each-keep γ _ _ (is.more {tys = tys} {others = others} {t = t} {ts = ts} f g) = ((tree-keeps γ t tys f).keeps, each-keep γ ts others g)

    defs-keep : (γ : List Ty) (us : List (List TypedExpr)) (δ : List Ty) → DefsFit (AreNumbers forms names) hs γ us δ → DefsKeep most two fits forms names γ (several_lists us) δ
    defs-keep γ _ _ is.no_def = keep_no_def γ
    defs-keep γ _ _ (is.a_def {tys = tys} {others = others} {ts = ts} {us = us} f g) = keep_def γ (several ts) (several_lists us) tys others (all-fine γ ts tys f) (defs-keep (γ ++ tys) us others g)

    arms-keep : (γ : List Ty) (named : ℕ) (arms : List (List TypedExpr)) (contents tys : List Ty) → ArmsFit (AreNumbers forms names) hs γ named arms contents tys → ArmsKeep most two fits forms names γ named (several_lists arms) contents
    arms-keep γ _ _ _ tys is.no_arm = keep_no_arm γ
    arms-keep γ _ _ _ tys (is.a_named_arm {contents = contents} {named = named} a {ts = ts} {arms = arms} f g) = keep_named_arm γ named (several ts) (several_lists arms) a contents (each-keep (γ ++ (a ∷ [])) ts tys f) (arms-keep γ named arms contents tys g)
    arms-keep γ _ _ _ tys (is.an_arm {ts = ts} {arms = arms} f g) = keep_arm γ (several ts) (several_lists arms) (each-keep γ ts tys f) (arms-keep γ 0 arms [] tys g)

  -- ---- functions

  stubs-keep : (γ : List Ty) (ts : List ℕ) → EachKeep most two fits forms names γ (map stub ts)
  stubs-keep γ [] = tt
  stubs-keep γ (t ∷ ts) = (λ env u a. forms_are.row-keeps most two fits forms names simple.Error [] (t ∷ []) at-least tt, stubs-keep γ ts)

  body-keeps : (h : Header) (b : Option (List TypedExpr)) (rs : List ℕ) → BodyFits (AreNumbers forms names) hs h b → Keep h.params (all_lowered (bodies forms b rs))
  body-keeps h None rs f = forms_are.all-keep most two fits forms names h.params (map stub rs) (stubs-keep h.params rs)
  body-keeps h (Some es) rs f = forms_are.all-keep most two fits forms names h.params (map (lowers forms) es) (subst (EachKeep most two fits forms names h.params) (same es) (each-keep h.params es h.results f))
    where
      same : (es : List TypedExpr) → several es ≡ map (lowers forms) es
      same [] = refl
      same (e ∷ es) = ap (λ l. lowers forms e ∷ l) (same es)

  functions-kept : (q : ℕ) (gs : List Header) (fs : List Function) → FunctionsFit (AreNumbers forms names) hs gs fs → header_ports fs ≤ most → inner (new_graphs q (map (function_lowered forms) fs)) ≤ most
      → EachLine (HasFew forms names most) (graph_lines (new_graphs q (map (function_lowered forms) fs))) → AllKept most (HasFew forms names most) (new_graphs q (map (function_lowered forms) fs))
  functions-kept q [] [] h few k l = tt
  functions-kept q [] (f ∷ fs) h few k l = absurd h
  functions-kept q (g ∷ gs) [] h few k l = absurd h
  functions-kept q (g ∷ gs) (f ∷ fs) h few k l =
      let m = new_graph (function_lowered forms f) q in
      let rest = new_graphs (q + size m) (map (function_lowered forms) fs) in
      let lines = keeping.graph-few most (HasFew forms names most) at-least fits m rest l in
      let same = length-map f.params One in (
        body-keeps g f.body f.results h.0.body (own_inputs 1 (map One f.params)) (own-values 0 1 f.params g.params h.0.params) (forms_are.own-below most two fits forms names 1 (map One f.params) (omega (arith, few, same))) 0 (suc q) (omega (arith, k)) lines.0,
        functions-kept (q + size m) gs fs h.1 (omega (arith, few)) (omega (arith, k)) lines.1,
      )

-- ---- a program

few-results : (forms : List Form) (names : List (List ℕ)) (hs gs : List Header) (fs : List Function) → FunctionsFit (AreNumbers forms names) hs gs fs → (f : ℕ) (g : Header) → slice_get gs f ≡ Some g → length g.results ≤ header_ports fs
few-results forms names hs [] fs h f g e = absurd cc
few-results forms names hs (x ∷ gs) [] h f g e = absurd h
few-results forms names hs (x ∷ gs) (y ∷ fs) h zero g e =
    let same = numbers-length forms names y.results x.results h.0.results in
    let known = ap (λ (g : Header). length g.results) (one e) in
    omega (arith, same, known)
  where
    one : Some x ≡ Some g → x ≡ g
    one e = cc
few-results forms names hs (x ∷ gs) (y ∷ fs) h (suc f) g e = let rest = few-results forms names hs gs fs h.1 f g e in omega (arith, rest)

few-ports : (fs : List Function) (ms : List Lowered) (before ports : ℕ) → length fs ≡ length ms → ports ≤ most_ports → graphs_over fs ms before ports ≡ None → ports + graph_ports (closed_graphs [] 0 0 ms) ≤ most_ports
few-ports [] [] before ports l k e = omega (arith, k)
few-ports [] (m ∷ ms) before ports l k e = absurd (omega (arith, l))
few-ports (f ∷ fs) [] before ports l k e = absurd (omega (arith, l))
few-ports (f ∷ fs) (m ∷ ms) before ports l k e =
    let all = few-over f fs m ms before ports e in
    let here = inner-is [] 0 0 (m ∷ []) in
    let whole = inner-is [] 0 0 (m ∷ ms) in
    let others = inner-is [] 0 0 ms in
    let rest = few-ports fs ms (before + size m) (ports + graph_ports (closed_graphs [] 0 0 (m ∷ []))) (omega (arith, l)) all.few_ports all.rest in
    omega (arith, here, whole, others, rest)

ports-before : (f : Function) (fs : List Function) (m : Lowered) (ms : List Lowered) (before ports : ℕ) → graphs_over (f ∷ fs) (m ∷ ms) before ports ≡ None → ports ≤ most_ports
ports-before f fs m ms before ports e = let all = few-over f fs m ms before ports e in omega (arith, all.few_ports)

each-small : (most : ℕ) (Few : Carried → Type 0) (ds : List LoweredGraph) → AreSmallGraphs most Few ds → All IsSmallGraph ds
each-small most Few [] h = All-nil IsSmallGraph
each-small most Few (d ∷ ds) h = All-cons IsSmallGraph d ds h.0 (each-small most Few ds h.1)

-- within a limit on all ports, where lines carry types of no more members
small-within : (most : ℕ) (two : 2 ≤ most) (fits : most + most + 2 ≤ 2 ^ 32) (p : Program) → IsFitting p → header_ports p.functions + graph_ports (graphs p) ≤ most → EachLine (HasFew p.types p.names most) (graph_lines (functions_lowered p)) → HasSmallPorts p
small-within most two fits p fit few lines =
    let one : 1 ≤ most = omega (arith, two) in
    let all = inner-is [] 0 0 (functions_lowered p) in
    let results = few-results p.types p.names fit.headers fit.headers p.functions fit.tree.fits in
    let integers = number.integer (has-basics p.types fit.types).integers in
    let h = functions-kept most two fits p.types p.names fit.headers integers (λ f g e. let r = results f g e in omega (arith, few, r)) 1 fit.headers p.functions fit.tree.fits (omega (arith, few)) (omega (arith, few, all)) lines in
    each-small most (HasFew p.types p.names most) (graphs p) (keeping.graphs-small most (HasFew p.types p.names most) one fits [] 0 0 (omega arith) (omega arith) (omega arith) (functions_lowered p) (omega (arith, few, all)) h)

pub small-ports : (p : Program) → IsFitting p → too_many p ≡ None → HasSmallPorts p
small-ports p fit e = by p.functions (functions_lowered p) as-many (or-right (types_over (needs p) basics) (program_over p) e) (λ few. small-within most_ports (omega arith) (omega arith) p fit few lines)
  where
    as-many : length p.functions ≡ length (functions_lowered p)
    as-many = sym (length-new p 1 (map (function_lowered p.types) p.functions) ∙ length-map p.functions (function_lowered p.types))

    lines : EachLine (HasFew p.types p.names most_ports) (graph_lines (functions_lowered p))
    lines = more-few p.types p.names most_types most_ports (graph_lines (functions_lowered p)) (omega arith) (few-members p as-many e)

    by : (fs : List Function) (ms : List Lowered) → length fs ≡ length ms → graphs_over fs ms 0 (header_ports p.functions) ≡ None
        → (header_ports p.functions + graph_ports (closed_graphs [] 0 0 ms) ≤ most_ports → All IsSmallGraph (closed_graphs [] 0 0 ms)) → All IsSmallGraph (closed_graphs [] 0 0 ms)
    by [] [] l e f = All-nil IsSmallGraph
    by [] (m ∷ ms) l e f = absurd (omega (arith, l))
    by (g ∷ fs) [] l e f = absurd (omega (arith, l))
    by (g ∷ fs) (m ∷ ms) l e f = f (few-ports (g ∷ fs) (m ∷ ms) 0 (header_ports p.functions) l (ports-before g fs m ms 0 (header_ports p.functions) e) e)
