-- A fitting tree has its sizes, and so the limits show in the same function.
use Rattle.std.proofs.Common.{◌≡◌, ℕ, suc, ◌+◌, Bool, true, false, ◌||◌, max, List, [], ◌∷◌, ◌++◌, map, length, Option, Some, None, refl, sym, ap, subst, ◌∙◌, arith}
use Rattle.std.specs.Prelude.{if◌then◌else◌, nat_lt}
use Rattle.std.specs.List.{list_any}
use Rattle.std.proofs.lemmas.Bool.{lt-ltb, le-ltb, ltb-true, ltb-false}
use Rattle.flow_value.specs.declared.ty.Ty.{Ty}
use Rattle.flow_value.specs.declared.ty.Ty.TheVariants as ty
use Rattle.if1_graph.specs.declared.op.Simple.TheVariants as simple
use Rattle.type_table.specs.declared.form.Form.{Form}
use Rattle.typed_tree.specs.declared.expr.TypedExpr.{TypedExpr}
use Rattle.typed_tree.specs.declared.expr.TypedKind.{TypedKind}
use Rattle.typed_tree.specs.declared.expr.TypedKind.TheVariants as typed
use Rattle.typed_tree.specs.declared.expr.TypedKind.TheViews.{roll-TypedKind}
use Rattle.typed_tree.specs.declared.expr.TypedKind.TheOpen.{TypedKind-F}
use Rattle.typed_tree.specs.declared.expr.TypedKind.TheFolds.{map-TypedKind, fold-roll-TypedKind, fold-roll-TypedExpr}
use Rattle.typed_tree.specs.declared.program.Function.{Function}
use Rattle.typed_tree.specs.declared.program.Program.{Program}
use Rattle.typed_tree.specs.Typing.{with}
use Rattle.typed_tree.specs.Types.{constant_type, IsNumber, AreNumbers}
use Rattle.typed_tree.specs.Types as number
use Rattle.fitting_trees.specs.Fitting.{Header, Fits, AllFit, DefsFit, ArmsFit, BodyFits, FunctionsFit}
use Rattle.fitting_trees.specs.Fitting as is
use Rattle.lowering.specs.declared.feed.Carried.TheVariants.{One}
use Rattle.lowering.specs.declared.graph.LoweredGraph.{LoweredGraph}
use Rattle.lowering.specs.declared.graph.Lowered.{Lowered}
use Rattle.lowering.specs.Graphs.{size, closed_graphs, new_graph, new_graphs}
use Rattle.lowering.specs.Operations.{Lowers, integer, all_lowered, wire_at}
use Rattle.lowering.specs.Choices.{type_of, applied, case_lowered}
use Rattle.lowering.specs.Loops.{Phrase, own_inputs, product_lowered}
use Rattle.lowering.specs.Phrases.{Kind, each as each_lowered, expr_lowered, kind_lowered, phrase, phrase_kind, lowers}
use Rattle.lowering.specs.Programs.{stub, bodies, function_lowered}
use Rattle.lowering.specs.TooMany.{most_nodes, most_graphs, most_ports, is_large, graph_ports, header_ports, graphs_over, program_over}
use Rattle.lowered_units.specs.Fitting.{IsFitting}
use Rattle.lowered_units.proofs.Kept.{inner-is}
use Rattle.lowered_units.proofs.Programs.{has-basics}
use Rattle.lowered_sizes.specs.Counting.{Sizing}
use Rattle.lowered_sizes.specs.Forms.{all_sized, applied_sized, case_sized, product_sized, SizedPhrase, SizedKind, each, types_of, expr_sized, kind_sized, phrase_sized, kind_sizes, sizes}
use Rattle.lowered_sizes.specs.Programs.{stub_sized, bodies_sized, function_sized, sizes_over, program_sized}
use Rattle.lowered_units.proofs.Wired.{first-typed, the-number, typed-ports, content-typed}
use Rattle.lowered_sizes.proofs.Sized.{Any, then-gives, largest_in, a_part, no_part, closed-parts}
use Rattle.lowered_sizes.proofs.SizedForms.{Of, To, AllTo, to_none, to_more, EachTo, each_none, each_more, DefsTo, to_no_def, to_def, ArmsTo, no_arm, named_arm, other_arm}
use Rattle.lowered_sizes.proofs.SizedForms as forms_are
use Rattle.lowered_sizes.proofs.SizedLoops.{PhrasesTo, no_phrase, a_phrase}
use Rattle.lowered_sizes.proofs.SizedLoops as loops_are

module _ (forms : List Form) (names : List (List ℕ)) (hs : List Header) (integers : IsNumber forms names integer ty.Int) where
  -- an expression has its sizes, and the name that it is
  record Told (γ : List Ty) (e : TypedExpr) (tys : List Ty) : Type 0 where
    pub to : To forms names γ (Of forms names tys) (sizes forms e) (lowers forms e)
    pub name : (phrase_sized forms e).name ≡ (phrase forms e).name

  told : (γ : List Ty) (tys : List Ty) (x : TypedKind-F TypedKind TypedExpr) (y : TypedKind) (l : ℕ) (ns : List ℕ) → y ≡ roll-TypedKind x
      → To forms names γ (Of forms names tys) ((kind_sized forms (map-TypedKind TypedKind TypedExpr SizedKind SizedPhrase (kind_sizes forms) (phrase_sized forms) x)).sizes ns)
      ((kind_lowered forms (map-TypedKind TypedKind TypedExpr Kind Phrase (phrase_kind forms) (phrase forms) x)).lowers ns)
      → (kind_sized forms (map-TypedKind TypedKind TypedExpr SizedKind SizedPhrase (kind_sizes forms) (phrase_sized forms) x)).name ≡ (kind_lowered forms (map-TypedKind TypedKind TypedExpr Kind Phrase (phrase_kind forms) (phrase forms) x)).name
      → Told γ (with l ns y) tys
  told γ tys x y l ns e h k =
      let sized_expr = fold-roll-TypedExpr SizedKind SizedPhrase (kind_sized forms) expr_sized (record { line = l; types = ns; kind = y }) in
      let lowered_expr = fold-roll-TypedExpr Kind Phrase (kind_lowered forms) expr_lowered (record { line = l; types = ns; kind = y }) in
      let sized_kind = fold-roll-TypedKind SizedKind SizedPhrase (kind_sized forms) expr_sized x in
      let lowered_kind = fold-roll-TypedKind Kind Phrase (kind_lowered forms) expr_lowered x in
      record {
        to =
            subst (λ z. To forms names γ (Of forms names tys) z (lowers forms (with l ns y)))
            (sym (ap (λ (p : SizedPhrase). p.sizes) sized_expr ∙ (ap (λ z. (kind_sizes forms z).sizes ns) e ∙ ap (λ (z : SizedKind). z.sizes ns) sized_kind)))
            (subst (λ z. To forms names γ (Of forms names tys) ((kind_sized forms (map-TypedKind TypedKind TypedExpr SizedKind SizedPhrase (kind_sizes forms) (phrase_sized forms) x)).sizes ns) z)
            (sym (ap (λ (p : Phrase). p.lowers) lowered_expr ∙ (ap (λ z. (phrase_kind forms z).lowers ns) e ∙ ap (λ (z : Kind). z.lowers ns) lowered_kind)))
            h);
        name =
            (ap (λ (p : SizedPhrase). p.name) sized_expr ∙ (ap (λ z. (kind_sizes forms z).name) e ∙ ap (λ (z : SizedKind). z.name) sized_kind))
            ∙ (k ∙ sym (ap (λ (p : Phrase). p.name) lowered_expr ∙ (ap (λ z. (phrase_kind forms z).name) e ∙ ap (λ (z : Kind). z.name) lowered_kind)));
      }

  types-are : (e : TypedExpr) → (phrase_sized forms e).types ≡ e.types
  types-are e = ap (λ (p : SizedPhrase). p.types) (fold-roll-TypedExpr SizedKind SizedPhrase (kind_sized forms) expr_sized (record { line = e.line; types = e.types; kind = e.kind }))

  abbrev lowers_of : List TypedExpr → List Lowers
  lowers_of es = each_lowered (map (phrase forms) es)

  abbrev lists_of : List (List TypedExpr) → List (List Lowers)
  lists_of us = map each_lowered (map (map (phrase forms)) us)

  abbrev sizes_of : List TypedExpr → List Sizing
  sizes_of es = each (map (phrase_sized forms) es)

  abbrev size_lists : List (List TypedExpr) → List (List Sizing)
  size_lists us = map each (map (map (phrase_sized forms)) us)

  numbered : (γ : List Ty) (t : TypedExpr) (tys : List Ty) → Fits (AreNumbers forms names) hs γ t tys → AreNumbers forms names t.types tys
  numbered γ _ _ (is.a_constant lit num) = num
  numbered γ _ _ (is.a_value there num) = num
  numbered γ _ _ (is.group h num) = num
  numbered γ _ _ (is.call there h num) = num
  numbered γ _ _ (is.apply h r num) = num
  numbered γ _ _ (is.let_in d h num) = num
  numbered γ _ _ (is.if_else t h k num) = num
  numbered γ _ _ (is.tag_case ms contents h a t r named others one num) = num
  numbered γ _ _ (is.product b g d h m num) = num
  numbered γ _ _ (is.initial d c v r h m num) = num

  numbers-both : (ns ms : List ℕ) (tys others : List Ty) → AreNumbers forms names ns tys → AreNumbers forms names ms others → AreNumbers forms names (ns ++ ms) (tys ++ others)
  numbers-both [] ms [] others a b = b
  numbers-both [] ms (t ∷ tys) others a b = absurd a
  numbers-both (n ∷ ns) ms [] others a b = absurd a
  numbers-both (n ∷ ns) ms (t ∷ tys) others a b = (a.0, numbers-both ns ms tys others a.1 b)

  bounds-numbered : (γ : List Ty) (es : List TypedExpr) (tys : List Ty) → AllFit (AreNumbers forms names) hs γ es tys → AreNumbers forms names (types_of (map (phrase_sized forms) es)) tys
  bounds-numbered γ _ _ is.no_more = tt
  bounds-numbered γ _ _ (is.more {tys = tys} {others = others} {t = t} {ts = ts} h k) =
      numbers-both (phrase_sized forms t).types (types_of (map (phrase_sized forms) ts)) tys others (subst (λ ns. AreNumbers forms names ns tys) (sym (types-are t)) (numbered γ t tys h)) (bounds-numbered γ ts others k)

  mutual
    tree-to : (γ : List Ty) (e : TypedExpr) (tys : List Ty) → Fits (AreNumbers forms names) hs γ e tys → Told γ e tys
    tree-to γ _ _ (is.a_constant {l = l} {ns = ns} {c = c} lit num) =
        told γ (constant_type c ∷ []) (TypedKind-F.Constant c) (typed.Constant c) l ns (sym (typed.rolls-Constant c)) (λ env a n e. forms_are.constant-to forms names c ns (constant_type c ∷ []) num) refl
    tree-to γ _ _ (is.a_value {l = l} {level = x} {ns = ns} {a = a} there num) =
        told γ (a ∷ []) (TypedKind-F.Value x) (typed.Value x) l ns (sym (typed.rolls-Value x)) (forms_are.name-to forms names γ x a there) refl
    tree-to γ _ tys (is.group {l = l} {ns = ns} {ts = ts} h num) =
        told γ tys (TypedKind-F.Group ts) (typed.Group ts) l ns (sym (typed.rolls-Group ts)) (forms_are.all-to forms names γ (sizes_of ts) (lowers_of ts) tys (all-fit γ ts tys h)) refl
    tree-to γ _ _ (is.call {l = l} {f = f} {ns = ns} {g = g} {ts = ts} there h num) =
        told γ g.results (TypedKind-F.Call f ts) (typed.Call f ts) l ns (sym (typed.rolls-Call f ts)) (forms_are.call-to forms names γ f (sizes_of ts) (lowers_of ts) g.params ns g.results (all-fit γ ts g.params h) num) refl
    tree-to γ _ _ (is.apply {tys = tys} {l = l} {ns = ns} {o = o} {a = a} {ts = ts} h r num) =
        told γ (a ∷ []) (TypedKind-F.Apply o ts) (typed.Apply o ts) l ns (sym (typed.rolls-Apply o ts))
        (λ env b n e.
        let s = all_sized (sizes_of ts) n in
        then-gives (Of forms names tys) (Of forms names (a ∷ [])) s (applied_sized o s.values (length ns)) (all_lowered (lowers_of ts) env) (λ ws. applied forms o ws ns)
        (forms_are.all-to forms names γ (sizes_of ts) (lowers_of ts) tys (all-fit γ ts tys h) env b n e) (λ ws tw lw. forms_are.applied-to forms names o ws s.values ns (a ∷ []) lw num)) refl
    tree-to γ _ tys (is.let_in {δ = δ} {l = l} {ns = ns} {us = us} {ts = ts} d h num) =
        told γ tys (TypedKind-F.Let us ts) (typed.Let us ts) l ns (sym (typed.rolls-Let us ts))
        (forms_are.body-to forms names γ δ (Of forms names tys) (size_lists us) (lists_of us) (sizes_of ts) (lowers_of ts) (defs-fit γ us δ d) (forms_are.all-to forms names (γ ++ δ) (sizes_of ts) (lowers_of ts) tys (all-fit (γ ++ δ) ts tys h))) refl
    tree-to γ _ tys (is.if_else {l = l} {ns = ns} {ts = ts} {us = us} {vs = vs} t h k num) =
        told γ tys (TypedKind-F.If ts us vs) (typed.If ts us vs) l ns (sym (typed.rolls-If ts us vs))
        (forms_are.if-to forms names γ (sizes_of ts) (sizes_of us) (sizes_of vs) (lowers_of ts) (lowers_of us) (lowers_of vs) (ty.Bool ∷ []) tys ns (all-fit γ ts (ty.Bool ∷ []) t) (all-fit γ us tys h) (all-fit γ vs tys k) num) refl
    tree-to γ _ tys (is.tag_case ms contents {l = l} {ns = ns} {c = c} {ts = ts} {arms = arms} h a t r named others one num) =
        told γ tys (TypedKind-F.Case c ts arms) (typed.Case c ts arms) l ns (sym (typed.rolls-Case c ts arms))
        (λ env b n e.
        let s = all_sized (sizes_of ts) n in
        then-gives (Of forms names (ty.Uni ms ∷ [])) (Of forms names tys) s (case_sized c (size_lists arms) (length ns) n) (all_lowered (lowers_of ts) env) (λ ws. case_lowered forms c (lists_of arms) ns ws env)
        (forms_are.all-to forms names γ (sizes_of ts) (lowers_of ts) (ty.Uni ms ∷ []) (all-fit γ ts (ty.Uni ms ∷ []) h) env b n e)
        (λ ws tw lw. forms_are.case-to forms names γ c (size_lists arms) (lists_of arms) contents tys ws ns (arms-fit γ c.named arms contents tys a)
        (λ d x k there. content-typed forms names (type_of (wire_at ws 0).ty) ms contents c (length arms) (the-number forms names (wire_at ws 0).ty (ty.Uni ms) (first-typed forms names ws (ty.Uni ms) tw)) t named d (r d k) x there)
        num env b n e)) refl
    tree-to γ _ made (is.product {tys = tys} {names = xs} {δ = δ} {row = row} {l = l} {ns = ns} {p = q} {bounds = bounds} {us = us} {ts = ts} b g d h m num) =
        told γ made (TypedKind-F.Product q bounds us ts) (typed.Product q bounds us ts) l ns (sym (typed.rolls-Product q bounds us ts))
        (λ env a n e.
        let s = all_sized (sizes_of bounds) n in
        let bs = types_of (map (phrase_sized forms) bounds) in
        then-gives (Of forms names tys) (Of forms names made) s (product_sized forms q bs (size_lists us) (sizes_of ts) (length ns) n) (all_lowered (lowers_of bounds) env) (λ ws. product_lowered forms q (lists_of us) (lowers_of ts) ns ws env)
        (forms_are.all-to forms names γ (sizes_of bounds) (lowers_of bounds) tys (all-fit γ bounds tys b) env a n e)
        (λ ws tw lw. loops_are.product-to forms names γ xs δ q tys made (size_lists us) (lists_of us) (sizes_of ts) (lowers_of ts) ns bs ws g integers (defs-fit (γ ++ xs) us δ d)
        (forms_are.any-each forms names ((γ ++ xs) ++ δ) (sizes_of ts) (lowers_of ts) row (all-fit ((γ ++ xs) ++ δ) ts row h)) (bounds-numbered γ bounds tys b) tw num env a n e)) refl
    tree-to γ _ made (is.initial {loop = loop} {later = later} {row = row} {l = l} {ns = ns} {t = t} {us = us} {vs = vs} {tests = tests} {ts = ts} d c v r h m num) =
        told γ made (TypedKind-F.Initial t us tests vs ts) (typed.Initial t us tests vs ts) l ns (sym (typed.rolls-Initial t us tests vs ts))
        (loops_are.initial-to forms names γ loop later made t (size_lists us) (lists_of us) (sizes_of tests) (lowers_of tests) (size_lists vs) (lists_of vs) (map (phrase_sized forms) ts) (map (phrase forms) ts) ns (defs-fit γ us loop d)
        (forms_are.any-each forms names (γ ++ loop) (sizes_of tests) (lowers_of tests) (ty.Bool ∷ []) (all-fit (γ ++ loop) tests (ty.Bool ∷ []) c)) (defs-fit (γ ++ loop) vs later v) r (phrases-fit (γ ++ loop) ts row h) num) refl

    all-fit : (γ : List Ty) (es : List TypedExpr) (tys : List Ty) → AllFit (AreNumbers forms names) hs γ es tys → AllTo forms names γ (sizes_of es) (lowers_of es) tys
    all-fit γ _ _ is.no_more = to_none γ
    all-fit γ _ _ (is.more {tys = tys} {others = others} {t = t} {ts = ts} h k) =
        to_more γ (sizes forms t) (sizes_of ts) (lowers forms t) (lowers_of ts) tys others (tree-to γ t tys h).to (all-fit γ ts others k)

    phrases-fit : (γ : List Ty) (es : List TypedExpr) (tys : List Ty) → AllFit (AreNumbers forms names) hs γ es tys → PhrasesTo forms names γ (map (phrase_sized forms) es) (map (phrase forms) es)
    phrases-fit γ _ _ is.no_more = no_phrase γ
    phrases-fit γ _ _ (is.more {tys = tys} {others = others} {t = t} {ts = ts} h k) =
        let x = tree-to γ t tys h in
        a_phrase γ (phrase_sized forms t) (map (phrase_sized forms) ts) (phrase forms t) (map (phrase forms) ts) x.name
        (λ env a n e. forms_are.of-any forms names tys (sizes forms t n) (lowers forms t env) (x.to env a n e)) (phrases-fit γ ts others k)

    defs-fit : (γ : List Ty) (us : List (List TypedExpr)) (δ : List Ty) → DefsFit (AreNumbers forms names) hs γ us δ → DefsTo forms names γ (size_lists us) (lists_of us) δ
    defs-fit γ _ _ is.no_def = to_no_def γ
    defs-fit γ _ _ (is.a_def {tys = tys} {others = others} {ts = ts} {us = us} h k) =
        to_def γ (sizes_of ts) (size_lists us) (lowers_of ts) (lists_of us) tys others (all-fit γ ts tys h) (defs-fit (γ ++ tys) us others k)

    arms-fit : (γ : List Ty) (named : ℕ) (arms : List (List TypedExpr)) (contents tys : List Ty) → ArmsFit (AreNumbers forms names) hs γ named arms contents tys → ArmsTo forms names γ named (size_lists arms) (lists_of arms) contents tys
    arms-fit γ _ _ _ tys is.no_arm = no_arm γ tys
    arms-fit γ _ _ _ tys (is.a_named_arm {contents = contents} {named = named} a {ts = ts} {arms = arms} h k) =
        named_arm γ named (sizes_of ts) (size_lists arms) (lowers_of ts) (lists_of arms) a contents tys (all-fit (γ ++ (a ∷ [])) ts tys h) (arms-fit γ named arms contents tys k)
    arms-fit γ _ _ _ tys (is.an_arm {ts = ts} {arms = arms} h k) = other_arm γ (sizes_of ts) (size_lists arms) (lowers_of ts) (lists_of arms) tys (all-fit γ ts tys h) (arms-fit γ 0 arms [] tys k)

  -- ---- functions

  stubs-to : (γ : List Ty) (ts : List ℕ) → EachTo forms names γ (map stub_sized ts) (map stub ts)
  stubs-to γ [] = each_none γ
  stubs-to γ (t ∷ ts) = each_more γ (stub_sized t) (map stub_sized ts) (stub t) (map stub ts) (λ env a n e. forms_are.row-any forms names simple.Error [] 0 t refl) (stubs-to γ ts)

  same-lowers : (es : List TypedExpr) → lowers_of es ≡ map (lowers forms) es
  same-lowers [] = refl
  same-lowers (e ∷ es) = ap (λ l. lowers forms e ∷ l) (same-lowers es)

  same-sizes : (es : List TypedExpr) → sizes_of es ≡ map (sizes forms) es
  same-sizes [] = refl
  same-sizes (e ∷ es) = ap (λ l. sizes forms e ∷ l) (same-sizes es)

  body-to : (h : Header) (b : Option (List TypedExpr)) (rs : List ℕ) → BodyFits (AreNumbers forms names) hs h b → To forms names h.params Any (all_sized (bodies_sized forms b rs)) (all_lowered (bodies forms b rs))
  body-to h None rs f = forms_are.each-to forms names h.params (map stub_sized rs) (map stub rs) (stubs-to h.params rs)
  body-to h (Some es) rs f =
      subst (λ zs. To forms names h.params Any (all_sized zs) (all_lowered (map (lowers forms) es))) (same-sizes es)
      (subst (λ gs. To forms names h.params Any (all_sized (sizes_of es)) (all_lowered gs)) (same-lowers es)
      (forms_are.each-to forms names h.params (sizes_of es) (lowers_of es) (forms_are.any-each forms names h.params (sizes_of es) (lowers_of es) h.results (all-fit h.params es h.results f))))

  -- ---- where the limits show

  or-max : (k a b : ℕ) → (nat_lt k a || nat_lt k b) ≡ nat_lt k (max a b)
  or-max k a b = by (nat_lt k a) refl (nat_lt k b) refl
    where
      by : (x : Bool) → nat_lt k a ≡ x → (y : Bool) → nat_lt k b ≡ y → (x || y) ≡ nat_lt k (max a b)
      by true e y f = let l = ltb-true k a e in sym (lt-ltb k (max a b) (omega (arith, l)))
      by false e true f = let l = ltb-true k b f in sym (lt-ltb k (max a b) (omega (arith, l)))
      by false e false f =
          let l = ltb-false k a e in
          let m = ltb-false k b f in
          sym (le-ltb k (max a b) (omega (arith, l, m)))

  any-largest : (k : ℕ) (ds : List LoweredGraph) → list_any (λ (d : LoweredGraph). nat_lt k (length d.nodes)) ds ≡ nat_lt k (largest_in ds)
  any-largest k [] = sym (le-ltb k 0 (omega arith))
  any-largest k (d ∷ ds) = ap (λ b. nat_lt k (length d.nodes) || b) (any-largest k ds) ∙ or-max k (length d.nodes) (largest_in ds)

  over-is : (gs : List Header) (fs : List Function) → FunctionsFit (AreNumbers forms names) hs gs fs → (q graphs ports : ℕ)
      → sizes_over forms fs graphs ports ≡ graphs_over fs (new_graphs q (map (function_lowered forms) fs)) graphs ports
  over-is [] [] h q graphs ports = refl
  over-is [] (f ∷ fs) h q graphs ports = absurd h
  over-is (g ∷ gs) [] h q graphs ports = absurd h
  over-is (g ∷ gs) (f ∷ fs) h q graphs ports =
      let s = function_sized forms f in
      let m = new_graph (function_lowered forms f) q in
      let env = own_inputs 1 (map One f.params) in
      let z = all_sized (bodies_sized forms f.body f.results) (length f.params) in
      let count : length env ≡ length f.params = forms_count 1 f.params in
      let sized = body-to g f.body f.results h.0.body env (typed-ports forms names f.params g.params h.0.params 0 1) (length f.params) count 0 (suc q) in
      let parts_are = closed-parts [] 0 0 (z ∷ []) (m ∷ []) (a_part z [] m [] sized no_part) in
      let inner = inner-is [] 0 0 (m ∷ []) in
      let large : is_large m ≡ nat_lt most_nodes s.largest = any-largest most_nodes (closed_graphs [] 0 0 (m ∷ [])) ∙ ap (nat_lt most_nodes) (parts_are.largest ∙ omega arith) in
      let graphs_are : size m ≡ s.graphs = let l = sized.graphs in omega (arith, l) in
      let ports_are : graph_ports (closed_graphs [] 0 0 (m ∷ [])) ≡ s.ports = let l = parts_are.ports in omega (arith, l, inner) in
      ap (λ r. if nat_lt most_nodes s.largest || (nat_lt most_graphs (graphs + s.graphs) || nat_lt most_ports (ports + s.ports)) then Some f.line else r) (over-is gs fs h.1 (q + size m) (graphs + s.graphs) (ports + s.ports))
      ∙ sym (same f (new_graphs (q + size m) (map (function_lowered forms) fs)) fs graphs ports (is_large m) (nat_lt most_nodes s.largest) (size m) s.graphs (graph_ports (closed_graphs [] 0 0 (m ∷ []))) s.ports large graphs_are ports_are)
    where
      forms_count : (port : ℕ) (ns : List ℕ) → length (own_inputs port (map One ns)) ≡ length ns
      forms_count port [] = refl
      forms_count port (n ∷ ns) = ap suc (forms_count (suc port) ns)

      same : (f : Function) (ms : List Lowered) (fs : List Function) (graphs ports : ℕ) (a b : Bool) (g k i j : ℕ) → a ≡ b → g ≡ k → i ≡ j
          → (if a || (nat_lt most_graphs (graphs + g) || nat_lt most_ports (ports + i)) then Some f.line else graphs_over fs ms (graphs + g) (ports + i))
          ≡ (if b || (nat_lt most_graphs (graphs + k) || nat_lt most_ports (ports + j)) then Some f.line else graphs_over fs ms (graphs + k) (ports + j))
      same f ms fs graphs ports a b g k i j e h l =
          ap (λ x. if x || (nat_lt most_graphs (graphs + g) || nat_lt most_ports (ports + i)) then Some f.line else graphs_over fs ms (graphs + g) (ports + i)) e
          ∙ (ap (λ x. if b || (nat_lt most_graphs (graphs + x) || nat_lt most_ports (ports + i)) then Some f.line else graphs_over fs ms (graphs + x) (ports + i)) h
          ∙ ap (λ x. if b || (nat_lt most_graphs (graphs + k) || nat_lt most_ports (ports + x)) then Some f.line else graphs_over fs ms (graphs + k) (ports + x)) l)

pub program-sizes : (p : Program) → IsFitting p → program_sized p ≡ program_over p
program-sizes p fit =
    over-is p.types p.names fit.headers (number.integer (has-basics p.types fit.types).integers) fit.headers p.functions fit.tree.fits 1 0 (header_ports p.functions)
