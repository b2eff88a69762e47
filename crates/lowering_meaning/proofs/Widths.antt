-- How many values a phrase has.
use Rattle.std.proofs.Common.{◌≡◌, ℕ, suc, ◌+◌, List, [], ◌∷◌, ◌++◌, map, length, refl, sym, ap, ◌∙◌}
use Rattle.std.proofs.lemmas.List.{length-map, length-append}
use Rattle.flow_value.specs.declared.ty.Ty.{Ty}
use Rattle.sisal_tree.specs.declared.expr.Constant.{Constant}
use Rattle.sisal_tree.specs.declared.expr.Constant.TheVariants as constant
use Rattle.value_ops.specs.declared.operation.Operation.{Operation}
use Rattle.value_ops.specs.declared.operation.Operation.TheVariants as operation
use Rattle.type_table.specs.declared.form.Form.{Form}
use Rattle.typed_tree.specs.declared.expr.TypedExpr.{TypedExpr}
use Rattle.typed_tree.specs.declared.expr.TypedKind.{TypedKind}
use Rattle.typed_tree.specs.declared.expr.TypedKind.TheVariants as typed
use Rattle.typed_tree.specs.declared.expr.TypedKind.TheViews.{roll-TypedKind}
use Rattle.typed_tree.specs.declared.expr.TypedKind.TheOpen.{TypedKind-F}
use Rattle.typed_tree.specs.Typing.{with}
use Rattle.typed_tree.specs.Types.{AreNumbers}
use Rattle.typed_values.specs.Fitting.{Header, Fits, AllFit}
use Rattle.typed_values.specs.Fitting as is
use Rattle.lowering.specs.declared.feed.Feed.TheVariants.{Literal}
use Rattle.lowering.specs.declared.feed.Carried as wired
use Rattle.lowering.specs.declared.feed.Carried.TheVariants.{One}
use Rattle.lowering.specs.declared.feed.Wire.{Wire}
use Rattle.lowering.specs.Feeds.{wire}
use Rattle.lowering.specs.Graphs.{Lowering, ports}
use Rattle.lowering.specs.Operations.{Lowers, all_lowered, constant_lowered}
use Rattle.lowering.specs.Choices.{applied}
use Rattle.lowering.specs.Phrases.{each, kind_lowered, phrase, lowers}
use Rattle.lowering_meaning.proofs.Layers.{parts_lowered, lowers-is}

pub length-ports : (n port : ℕ) (ts : List wired.Carried) → length (ports n port ts) ≡ length ts
length-ports n port [] = refl
length-ports n port (t ∷ ts) = ap suc (length-ports n (suc port) ts)

pub length-ones : (n port : ℕ) (ns : List ℕ) → length (ports n port (map One ns)) ≡ length ns
length-ones n port ns = length-ports n port (map One ns) ∙ length-map ns One

-- it has so many values, wherever it stands
abbrev pub WideAt : ℕ → Lowering → Type 0
WideAt k f = (n q : ℕ) → length (f n q).values ≡ k

abbrev pub Wide : ℕ → Lowers → Type 0
Wide k g = (env : List Wire) → WideAt k (g env)

numbers-count : (forms : List Form) (spellings : List (List ℕ)) (ns : List ℕ) (tys : List Ty) → AreNumbers forms spellings ns tys → length ns ≡ length tys
numbers-count forms spellings [] [] h = refl
numbers-count forms spellings [] (t ∷ tys) h = absurd h
numbers-count forms spellings (n ∷ ns) [] h = absurd h
numbers-count forms spellings (n ∷ ns) (t ∷ tys) h = ap suc (numbers-count forms spellings ns tys h.1)

constant-wide : (c : Constant) (ns : List ℕ) → WideAt (length ns) (constant_lowered c ns)
constant-wide (constant.Integer z) ns n q = length-map ns (λ t. wire (Literal (constant.Integer z)) (One t))
constant-wide (constant.Letter z) ns n q = length-map ns (λ t. wire (Literal (constant.Letter z)) (One t))
constant-wide (constant.Quoted s) ns n q = length-ones (suc n) 1 ns
constant-wide constant.True ns n q = length-map ns (λ t. wire (Literal constant.True) (One t))
constant-wide constant.False ns n q = length-map ns (λ t. wire (Literal constant.False) (One t))
constant-wide constant.Nil ns n q = length-map ns (λ t. wire (Literal constant.Nil) (One t))

applied-wide : (forms : List Form) (o : Operation) (ws : List Wire) (ns : List ℕ) → WideAt (length ns) (applied forms o ws ns)
applied-wide forms (operation.Unary f) ws ns n q = length-ones (suc n) 1 ns
applied-wide forms (operation.Binary f) ws ns n q = length-ones (suc n) 1 ns
applied-wide forms (operation.Swapped f) ws ns n q = length-ones (suc n) 1 ns
applied-wide forms operation.Error ws ns n q = length-ones (suc n) 1 ns
applied-wide forms operation.Array ws ns n q = length-ones (suc n) 1 ns
applied-wide forms operation.EmptyArray ws ns n q = length-ones (suc n) 1 ns
applied-wide forms operation.Stream ws ns n q = length-ones (suc n) 1 ns
applied-wide forms operation.Fill ws ns n q = length-ones (suc n) 1 ns
applied-wide forms operation.Element ws ns n q = length-ones (suc n) 1 ns
applied-wide forms operation.Update ws ns n q = length-ones (suc n) 1 ns
applied-wide forms operation.AddHigh ws ns n q = length-ones (suc n) 1 ns
applied-wide forms operation.AddLow ws ns n q = length-ones (suc n) 1 ns
applied-wide forms operation.RemoveHigh ws ns n q = length-ones (suc n) 1 ns
applied-wide forms operation.RemoveLow ws ns n q = length-ones (suc n) 1 ns
applied-wide forms operation.SetLow ws ns n q = length-ones (suc n) 1 ns
applied-wide forms operation.Adjust ws ns n q = length-ones (suc n) 1 ns
applied-wide forms operation.LimitLow ws ns n q = length-ones (suc n) 1 ns
applied-wide forms operation.LimitHigh ws ns n q = length-ones (suc n) 1 ns
applied-wide forms operation.Size ws ns n q = length-ones (suc n) 1 ns
applied-wide forms operation.IsEmpty ws ns n q = length-ones (suc n) 1 ns
applied-wide forms operation.Catenate ws ns n q = length-ones (suc n) 1 ns
applied-wide forms operation.First ws ns n q = length-ones (suc n) 1 ns
applied-wide forms operation.Rest ws ns n q = length-ones (suc n) 1 ns
applied-wide forms operation.Record ws ns n q = length-ones (suc n) 1 ns
applied-wide forms (operation.Union tag) ws ns n q = length-ones (suc n) 1 ns
applied-wide forms (operation.Field f) ws ns n q = length-ones (suc n) (suc f) ns
applied-wide forms (operation.Change places) ws ns n q = length-ones (suc n) 1 ns
applied-wide forms (operation.IsTag tag) ws ns n q = length-ones (suc n) 1 ns

module _ (forms : List Form) (spellings : List (List ℕ)) (hs : List Header) where
  seen : (l : ℕ) (ns : List ℕ) (y : TypedKind) (x : TypedKind-F TypedKind TypedExpr) → y ≡ roll-TypedKind x → Wide (length ns) ((kind_lowered forms (parts_lowered forms x)).lowers ns) → Wide (length ns) (lowers forms (with l ns y))
  seen l ns y x e h env n q = ap (λ (f : Lowering). length (f n q).values) (lowers-is forms l ns y x e env) ∙ h env n q

  mutual
    -- as many as types
    pub expr-wide : (γ : List Ty) (e : TypedExpr) (tys : List Ty) → Fits (AreNumbers forms spellings) hs γ e tys → Wide (length e.types) (lowers forms e)
    expr-wide γ _ _ (is.a_constant {l = l} {ns = ns} {c = c} lit num) =
        seen l ns (typed.Constant c) (TypedKind-F.Constant c) (sym (typed.rolls-Constant c)) (λ env. constant-wide c ns)
    expr-wide γ _ _ (is.a_value {l = l} {level = x} {ns = ns} {a = a} there num) =
        seen l ns (typed.Value x) (TypedKind-F.Value x) (sym (typed.rolls-Value x)) (λ env n q. sym (numbers-count forms spellings ns (a ∷ []) num))
    expr-wide γ _ tys (is.group {l = l} {ns = ns} {ts = ts} h num) =
        seen l ns (typed.Group ts) (TypedKind-F.Group ts) (sym (typed.rolls-Group ts)) (λ env n q. all-wide γ ts tys h env n q ∙ sym (numbers-count forms spellings ns tys num))
    expr-wide γ _ _ (is.call {l = l} {f = f} {ns = ns} {g = g} {ts = ts} there h num) =
        seen l ns (typed.Call f ts) (TypedKind-F.Call f ts) (sym (typed.rolls-Call f ts)) (λ env n q. length-ones _ 1 ns)
    expr-wide γ _ _ (is.apply {tys = tys} {l = l} {ns = ns} {o = o} {a = a} {ts = ts} h r num) =
        seen l ns (typed.Apply o ts) (TypedKind-F.Apply o ts) (sym (typed.rolls-Apply o ts)) (λ env n q. applied-wide forms o _ ns _ _)
    expr-wide γ _ tys (is.let_in {δ = δ} {l = l} {ns = ns} {us = us} {ts = ts} d h num) =
        seen l ns (typed.Let us ts) (TypedKind-F.Let us ts) (sym (typed.rolls-Let us ts)) (λ env n q. all-wide (γ ++ δ) ts tys h _ _ _ ∙ sym (numbers-count forms spellings ns tys num))
    expr-wide γ _ tys (is.if_else {l = l} {ns = ns} {ts = ts} {us = us} {vs = vs} t h k num) =
        seen l ns (typed.If ts us vs) (TypedKind-F.If ts us vs) (sym (typed.rolls-If ts us vs)) (λ env n q. length-ones (suc n) 1 ns)
    expr-wide γ _ tys (is.tag_case ms contents {l = l} {ns = ns} {c = c} {ts = ts} {arms = arms} h a t r named others one num) =
        seen l ns (typed.Case c ts arms) (TypedKind-F.Case c ts arms) (sym (typed.rolls-Case c ts arms)) (λ env n q. length-ones _ 1 ns)
    expr-wide γ _ made (is.product {l = l} {ns = ns} {p = q} {bounds = bounds} {us = us} {ts = ts} b g d h m num) =
        seen l ns (typed.Product q bounds us ts) (TypedKind-F.Product q bounds us ts) (sym (typed.rolls-Product q bounds us ts)) (λ env n k. length-ones _ 1 ns)
    expr-wide γ _ made (is.initial {l = l} {ns = ns} {t = t} {us = us} {vs = vs} {tests = tests} {ts = ts} d c y r h m num) =
        seen l ns (typed.Initial t us tests vs ts) (TypedKind-F.Initial t us tests vs ts) (sym (typed.rolls-Initial t us tests vs ts)) (λ env n k. length-ones _ 1 ns)

    pub all-wide : (γ : List Ty) (es : List TypedExpr) (tys : List Ty) → AllFit (AreNumbers forms spellings) hs γ es tys → Wide (length tys) (all_lowered (each (map (phrase forms) es)))
    all-wide γ _ _ is.no_more env n q = refl
    all-wide γ _ _ (is.more {tys = tys} {others = others} {t = t} {ts = ts} h k) env n q =
        let m = lowers forms t env n q in
        let x = all_lowered (each (map (phrase forms) ts)) env (n + length m.nodes) (q + length m.graphs) in
        length-append m.values x.values
        ∙ (ap (λ i. i + length x.values) (expr-wide γ t tys h env n q ∙ fit-count γ t tys h) ∙ (ap (λ i. length tys + i) (all-wide γ ts others k env (n + length m.nodes) (q + length m.graphs)) ∙ sym (length-append tys others)))

    -- an expression has as many types by number as types
    pub fit-count : (γ : List Ty) (e : TypedExpr) (tys : List Ty) → Fits (AreNumbers forms spellings) hs γ e tys → length e.types ≡ length tys
    fit-count γ _ tys (is.a_constant {ns = ns} lit num) = numbers-count forms spellings ns tys num
    fit-count γ _ tys (is.a_value {ns = ns} there num) = numbers-count forms spellings ns tys num
    fit-count γ _ tys (is.group {ns = ns} h num) = numbers-count forms spellings ns tys num
    fit-count γ _ tys (is.call {ns = ns} there h num) = numbers-count forms spellings ns tys num
    fit-count γ _ tys (is.apply {ns = ns} h r num) = numbers-count forms spellings ns tys num
    fit-count γ _ tys (is.let_in {ns = ns} d h num) = numbers-count forms spellings ns tys num
    fit-count γ _ tys (is.if_else {ns = ns} t h k num) = numbers-count forms spellings ns tys num
    fit-count γ _ tys (is.tag_case ms contents {ns = ns} h a t r named others one num) = numbers-count forms spellings ns tys num
    fit-count γ _ tys (is.product {ns = ns} b g d h m num) = numbers-count forms spellings ns tys num
    fit-count γ _ tys (is.initial {ns = ns} d c y r h m num) = numbers-count forms spellings ns tys num
