-- The values of a phrase have wires of their types.
use Rattle.std.proofs.Common.{◌≡◌, ℕ, zero, suc, ◌+◌, List, [], ◌∷◌, ◌++◌, map, length, slice_get, Some, sym, subst, append-nil, append_assoc}
use Rattle.flow_value.specs.declared.ty.Ty.{Ty}
use Rattle.sisal_tree.specs.declared.expr.Constant.{Constant}
use Rattle.sisal_tree.specs.declared.expr.Constant.TheVariants as constant
use Rattle.value_ops.specs.declared.operation.Operation.{Operation}
use Rattle.value_ops.specs.declared.operation.Operation.TheVariants as operation
use Rattle.type_table.specs.declared.form.Form.{Form}
use Rattle.typed_tree.specs.declared.expr.TypedExpr.{TypedExpr}
use Rattle.typed_tree.specs.declared.expr.TypedKind.{TypedKind}
use Rattle.typed_tree.specs.declared.expr.TypedKind.TheVariants as typed
use Rattle.typed_tree.specs.declared.expr.TypedKind.TheViews.{roll-TypedKind}
use Rattle.typed_tree.specs.declared.expr.TypedKind.TheOpen.{TypedKind-F}
use Rattle.typed_tree.specs.Typing.{with}
use Rattle.typed_tree.specs.Types.{AreNumbers, constant_type}
use Rattle.typed_values.specs.Fitting.{Header, Fits, AllFit, DefsFit}
use Rattle.typed_values.specs.Fitting as is
use Rattle.lowering.specs.declared.feed.Feed.{Feed}
use Rattle.lowering.specs.declared.feed.Feed.TheVariants.{Literal}
use Rattle.lowering.specs.declared.feed.Carried.TheVariants.{One}
use Rattle.lowering.specs.declared.feed.Wire.{Wire}
use Rattle.lowering.specs.Feeds.{wire}
use Rattle.lowering.specs.Graphs.{Lowering}
use Rattle.lowering.specs.Operations.{all_lowered, defs_lowered, constant_lowered, wire_at}
use Rattle.lowering.specs.Choices.{applied}
use Rattle.lowering.specs.Phrases.{each, kind_lowered, phrase, lowers}
use Rattle.lowering_meaning.proofs.Layers.{parts_lowered, lowers-is}
use Rattle.lowering_meaning.proofs.Forms.{HasType, WiresOf, wires-both, ports-wired, Wired}

pub at-wired : (forms : List Form) (spellings : List (List ℕ)) (γ : List Ty) (env : List Wire) (x : ℕ) (a : Ty) → WiresOf forms spellings γ env → slice_get γ x ≡ Some a → HasType forms spellings (wire_at env x).ty a
at-wired forms spellings [] env x a w e = absurd cc
at-wired forms spellings (t ∷ γ) [] x a w e = absurd w
at-wired forms spellings (t ∷ γ) (v ∷ env) zero a w e = subst (HasType forms spellings v.ty) (same e) w.0
  where
    same : Some t ≡ Some a → t ≡ a
    same e = cc
at-wired forms spellings (t ∷ γ) (v ∷ env) (suc x) a w e = at-wired forms spellings γ env x a w.1 e

literal-wired : (forms : List Form) (spellings : List (List ℕ)) (f : Feed) (ns : List ℕ) (tys : List Ty) → AreNumbers forms spellings ns tys → WiresOf forms spellings tys (map (λ t. wire f (One t)) ns)
literal-wired forms spellings f [] [] h = tt
literal-wired forms spellings f (n ∷ ns) (t ∷ tys) h = (h.0, literal-wired forms spellings f ns tys h.1)
literal-wired forms spellings f [] (t ∷ tys) h = absurd h
literal-wired forms spellings f (n ∷ ns) [] h = absurd h

constant-wired : (forms : List Form) (spellings : List (List ℕ)) (c : Constant) (ns : List ℕ) (tys : List Ty) → AreNumbers forms spellings ns tys → (n q : ℕ) → WiresOf forms spellings tys (constant_lowered c ns n q).values
constant-wired forms spellings (constant.Integer z) ns tys h n q = literal-wired forms spellings (Literal (constant.Integer z)) ns tys h
constant-wired forms spellings (constant.Letter z) ns tys h n q = literal-wired forms spellings (Literal (constant.Letter z)) ns tys h
constant-wired forms spellings (constant.Quoted s) ns tys h n q = ports-wired forms spellings (suc n) 1 ns tys h
constant-wired forms spellings constant.True ns tys h n q = literal-wired forms spellings (Literal constant.True) ns tys h
constant-wired forms spellings constant.False ns tys h n q = literal-wired forms spellings (Literal constant.False) ns tys h
constant-wired forms spellings constant.Nil ns tys h n q = literal-wired forms spellings (Literal constant.Nil) ns tys h

applied-wired : (forms : List Form) (spellings : List (List ℕ)) (o : Operation) (ws : List Wire) (ns : List ℕ) (tys : List Ty) → AreNumbers forms spellings ns tys → (n q : ℕ) → WiresOf forms spellings tys (applied forms o ws ns n q).values
applied-wired forms spellings (operation.Unary f) ws ns tys h n q = ports-wired forms spellings (suc n) 1 ns tys h
applied-wired forms spellings (operation.Binary f) ws ns tys h n q = ports-wired forms spellings (suc n) 1 ns tys h
applied-wired forms spellings (operation.Swapped f) ws ns tys h n q = ports-wired forms spellings (suc n) 1 ns tys h
applied-wired forms spellings operation.Error ws ns tys h n q = ports-wired forms spellings (suc n) 1 ns tys h
applied-wired forms spellings operation.Array ws ns tys h n q = ports-wired forms spellings (suc n) 1 ns tys h
applied-wired forms spellings operation.EmptyArray ws ns tys h n q = ports-wired forms spellings (suc n) 1 ns tys h
applied-wired forms spellings operation.Stream ws ns tys h n q = ports-wired forms spellings (suc n) 1 ns tys h
applied-wired forms spellings operation.Fill ws ns tys h n q = ports-wired forms spellings (suc n) 1 ns tys h
applied-wired forms spellings operation.Element ws ns tys h n q = ports-wired forms spellings (suc n) 1 ns tys h
applied-wired forms spellings operation.Update ws ns tys h n q = ports-wired forms spellings (suc n) 1 ns tys h
applied-wired forms spellings operation.AddHigh ws ns tys h n q = ports-wired forms spellings (suc n) 1 ns tys h
applied-wired forms spellings operation.AddLow ws ns tys h n q = ports-wired forms spellings (suc n) 1 ns tys h
applied-wired forms spellings operation.RemoveHigh ws ns tys h n q = ports-wired forms spellings (suc n) 1 ns tys h
applied-wired forms spellings operation.RemoveLow ws ns tys h n q = ports-wired forms spellings (suc n) 1 ns tys h
applied-wired forms spellings operation.SetLow ws ns tys h n q = ports-wired forms spellings (suc n) 1 ns tys h
applied-wired forms spellings operation.Adjust ws ns tys h n q = ports-wired forms spellings (suc n) 1 ns tys h
applied-wired forms spellings operation.LimitLow ws ns tys h n q = ports-wired forms spellings (suc n) 1 ns tys h
applied-wired forms spellings operation.LimitHigh ws ns tys h n q = ports-wired forms spellings (suc n) 1 ns tys h
applied-wired forms spellings operation.Size ws ns tys h n q = ports-wired forms spellings (suc n) 1 ns tys h
applied-wired forms spellings operation.IsEmpty ws ns tys h n q = ports-wired forms spellings (suc n) 1 ns tys h
applied-wired forms spellings operation.Catenate ws ns tys h n q = ports-wired forms spellings (suc n) 1 ns tys h
applied-wired forms spellings operation.First ws ns tys h n q = ports-wired forms spellings (suc n) 1 ns tys h
applied-wired forms spellings operation.Rest ws ns tys h n q = ports-wired forms spellings (suc n) 1 ns tys h
applied-wired forms spellings operation.Record ws ns tys h n q = ports-wired forms spellings (suc n) 1 ns tys h
applied-wired forms spellings (operation.Union tag) ws ns tys h n q = ports-wired forms spellings (suc n) 1 ns tys h
applied-wired forms spellings (operation.Field f) ws ns tys h n q = ports-wired forms spellings (suc n) (suc f) ns tys h
applied-wired forms spellings (operation.Change places) ws ns tys h n q = ports-wired forms spellings (suc n) 1 ns tys h
applied-wired forms spellings (operation.IsTag tag) ws ns tys h n q = ports-wired forms spellings (suc n) 1 ns tys h

module _ (forms : List Form) (spellings : List (List ℕ)) (hs : List Header) where
  seen : (γ tys : List Ty) (l : ℕ) (ns : List ℕ) (y : TypedKind) (x : TypedKind-F TypedKind TypedExpr) → y ≡ roll-TypedKind x → Wired forms spellings γ ((kind_lowered forms (parts_lowered forms x)).lowers ns) tys → Wired forms spellings γ (lowers forms (with l ns y)) tys
  seen γ tys l ns y x e h env n q w = subst (λ (f : Lowering). WiresOf forms spellings tys (f n q).values) (sym (lowers-is forms l ns y x e env)) (h env n q w)

  mutual
    pub expr-wired : (γ : List Ty) (e : TypedExpr) (tys : List Ty) → Fits (AreNumbers forms spellings) hs γ e tys → Wired forms spellings γ (lowers forms e) tys
    expr-wired γ _ _ (is.a_constant {l = l} {ns = ns} {c = c} lit num) =
        seen γ (constant_type c ∷ []) l ns (typed.Constant c) (TypedKind-F.Constant c) (sym (typed.rolls-Constant c)) (λ env n q w. constant-wired forms spellings c ns (constant_type c ∷ []) num n q)
    expr-wired γ _ _ (is.a_value {l = l} {level = x} {ns = ns} {a = a} there num) =
        seen γ (a ∷ []) l ns (typed.Value x) (TypedKind-F.Value x) (sym (typed.rolls-Value x)) (λ env n q w. (at-wired forms spellings γ env x a w there, tt))
    expr-wired γ _ _ (is.group {tys = tys} {l = l} {ns = ns} {ts = ts} h num) =
        seen γ tys l ns (typed.Group ts) (TypedKind-F.Group ts) (sym (typed.rolls-Group ts)) (all-wired γ ts tys h)
    expr-wired γ _ _ (is.call {l = l} {f = f} {ns = ns} {g = g} {ts = ts} there h num) =
        seen γ g.results l ns (typed.Call f ts) (TypedKind-F.Call f ts) (sym (typed.rolls-Call f ts)) (λ env n q w. ports-wired forms spellings _ 1 ns g.results num)
    expr-wired γ _ _ (is.apply {tys = tys} {l = l} {ns = ns} {o = o} {a = a} {ts = ts} h r num) =
        seen γ (a ∷ []) l ns (typed.Apply o ts) (TypedKind-F.Apply o ts) (sym (typed.rolls-Apply o ts)) (λ env n q w. applied-wired forms spellings o _ ns (a ∷ []) num _ _)
    expr-wired γ _ _ (is.let_in {δ = δ} {tys = tys} {l = l} {ns = ns} {us = us} {ts = ts} d h num) =
        seen γ tys l ns (typed.Let us ts) (TypedKind-F.Let us ts) (sym (typed.rolls-Let us ts)) (λ env n q w. all-wired (γ ++ δ) ts tys h _ _ _ (defs-wired γ us δ d env n q w))
    expr-wired γ _ _ (is.if_else {tys = tys} {l = l} {ns = ns} {ts = ts} {us = us} {vs = vs} t h k num) =
        seen γ tys l ns (typed.If ts us vs) (TypedKind-F.If ts us vs) (sym (typed.rolls-If ts us vs)) (λ env n q w. ports-wired forms spellings (suc n) 1 ns tys num)
    expr-wired γ _ _ (is.tag_case {tys = tys} ms contents {l = l} {ns = ns} {c = c} {ts = ts} {arms = arms} h a t r picked others one num) =
        seen γ tys l ns (typed.Case c ts arms) (TypedKind-F.Case c ts arms) (sym (typed.rolls-Case c ts arms)) (λ env n q w. ports-wired forms spellings _ 1 ns tys num)
    expr-wired γ _ _ (is.product {made = made} {l = l} {ns = ns} {p = q} {bounds = bounds} {us = us} {ts = ts} b g d h m num) =
        seen γ made l ns (typed.Product q bounds us ts) (TypedKind-F.Product q bounds us ts) (sym (typed.rolls-Product q bounds us ts)) (λ env n k w. ports-wired forms spellings _ 1 ns made num)
    expr-wired γ _ _ (is.initial {made = made} {l = l} {ns = ns} {t = t} {us = us} {vs = vs} {tests = tests} {ts = ts} d c y r h m num) =
        seen γ made l ns (typed.Initial t us tests vs ts) (TypedKind-F.Initial t us tests vs ts) (sym (typed.rolls-Initial t us tests vs ts)) (λ env n k w. ports-wired forms spellings _ 1 ns made num)

    pub all-wired : (γ : List Ty) (es : List TypedExpr) (tys : List Ty) → AllFit (AreNumbers forms spellings) hs γ es tys → Wired forms spellings γ (all_lowered (each (map (phrase forms) es))) tys
    all-wired γ _ _ is.no_more env n q w = tt
    all-wired γ _ _ (is.more {tys = tys} {others = others} {t = t} {ts = ts} h k) env n q w =
        let m = lowers forms t env n q in
        let x = all_lowered (each (map (phrase forms) ts)) env (n + length m.nodes) (q + length m.graphs) in
        wires-both forms spellings tys others m.values x.values (expr-wired γ t tys h env n q w) (all-wired γ ts others k env (n + length m.nodes) (q + length m.graphs) w)

    pub defs-wired : (γ : List Ty) (us : List (List TypedExpr)) (δ : List Ty) → DefsFit (AreNumbers forms spellings) hs γ us δ → Wired forms spellings γ (defs_lowered (map each (map (map (phrase forms)) us))) (γ ++ δ)
    defs-wired γ _ _ is.no_def env n q w = subst (λ ts. WiresOf forms spellings ts env) (sym (append-nil γ)) w
    defs-wired γ _ _ (is.a_def {tys = tys} {others = others} {ts = ts} {us = us} h k) env n q w =
        let m = all_lowered (each (map (phrase forms) ts)) env n q in
        let x = defs_lowered (map each (map (map (phrase forms)) us)) (env ++ m.values) (n + length m.nodes) (q + length m.graphs) in
        subst (λ ts. WiresOf forms spellings ts x.values) (append_assoc γ tys others)
        (defs-wired (γ ++ tys) us others k (env ++ m.values) (n + length m.nodes) (q + length m.graphs) (wires-both forms spellings γ tys env m.values w (all-wired γ ts tys h env n q w)))
