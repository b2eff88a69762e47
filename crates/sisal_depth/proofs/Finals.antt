-- The depth of a unit, and the line on which its deepest result begins, are those that its steps tell.
use Rattle.std.proofs.Common.{◌≡◌, ℕ, zero, suc, ◌+◌, ◌<◌, ◌≤◌, max, Bool, true, false, if◌then◌else◌, nat_lt, List, [], ◌∷◌, ◌++◌, Some, map, take, drop, length, refl, sym, ◌∙◌, ap, subst, arith, Contains}
use Rattle.std.proofs.lemmas.Bool.{ltb-true, ltb-false}
use Rattle.std.proofs.lemmas.List.Elements.{Contains-append_left, Contains-append_right}
use Rattle.pushdown.specs.Grammar.{Derives}
use Rattle.pushdown.specs.declared.Step.{Step}
use Rattle.pushdown.specs.declared.Step.TheVariants.{Read, Open}
use Rattle.pushdown.specs.declared.Symbol.TheVariants.{Rule}
use Rattle.pushdown.specs.Meaning.{Measured, measure, run, reads}
use Rattle.pushdown.proofs.Sizes.{measures}
use Rattle.pushdown.proofs.Spelling.{bound}
use Rattle.pushdown.proofs.Values.{reads_all}
use Rattle.sisal_lex.specs.declared.token.Token.{Token}
use Rattle.sisal_tree.specs.declared.expr.Expr.{Expr}
use Rattle.sisal_tree.specs.declared.unit.Item.{Item}
use Rattle.sisal_tree.specs.declared.unit.Item.TheVariants as item
use Rattle.sisal_tree.specs.declared.unit.FunKind.{FunKind}
use Rattle.sisal_tree.specs.declared.unit.FunKind.TheVariants as fun
use Rattle.sisal_tree.specs.Depth.{depth, results_in, results, results_of, depth_of, PassesAt}
use Rattle.sisal_grammar.specs.declared.value.Outline.{Outline}
use Rattle.sisal_grammar.specs.declared.value.Value.TheVariants.{AnOutline}
use Rattle.sisal_grammar.specs.Acts.{sisal}
use Rattle.sisal_grammar.specs.Classes.{class_of}
use Rattle.sisal_grammar.specs.Language.{language}
use Rattle.sisal_grammar.specs.Placed.{placed}
use Rattle.sisal_grammar.specs.Plan.{plan}
use Rattle.sisal_grammar.specs.Sorts.{an_outline, args}
use Rattle.sisal_grammar.proofs.Plans.{plan_typed, first_kind}
use Rattle.sisal_depth.specs.declared.sizes.Growth.{Growth}
use Rattle.sisal_depth.specs.Sizes.{at, capped, deeper_line, grown, sizes_of, token_size}
use Rattle.sisal_depth.proofs.Depths.{depths, expr_size, exprs_size, exprs_least, fun_size, item_size, items_size}
use Rattle.sisal_depth.proofs.Folds.{exprs_depth}

-- ---- the depth

greatest_append : (es fs : List Expr) → exprs_depth (es ++ fs) ≡ max (exprs_depth es) (exprs_depth fs)
greatest_append [] fs = omega arith
greatest_append (e ∷ es) fs = let h : exprs_depth (es ++ fs) ≡ max (exprs_depth es) (exprs_depth fs) = greatest_append es fs in omega (arith, h)

fun_least : (f : FunKind) → (fun_size f).least ≡ capped (exprs_depth (results_in f))
fun_least fun.Forward = refl
fun_least fun.Global = refl
fun_least (fun.Defined es) = exprs_least es

item_least : (i : Item) → (item_size i).least ≡ capped (exprs_depth (results i))
item_least (item.Alias t) = refl
item_least (item.Function f) = fun_least f.kind

pub items_least : (is : List Item) → (items_size is).least ≡ capped (depth_of is)
items_least [] = refl
items_least (i ∷ is) =
    let h : (item_size i).least ≡ capped (exprs_depth (results i)) = item_least i in
    let k : (items_size is).least ≡ capped (depth_of is) = items_least is in
    let a : exprs_depth (results i ++ results_of is) ≡ max (exprs_depth (results i)) (depth_of is) = greatest_append (results i) (results_of is) in
    omega (arith, h, k, a)

-- ---- the line

-- one of these expressions begins on this line and passes the greatest depth
abbrev Passes : List Expr → ℕ → Type 0
Passes es l = (e : Expr) × Contains es e × (200 < depth e) × (e.line ≡ l)

first_of : (e : Expr) (es : List Expr) (l : ℕ) → 200 < depth e → e.line ≡ l → Passes (e ∷ es) l
first_of e es l h k = (e, (zero, omega arith, refl), h, k)

further : (e : Expr) (es : List Expr) (l : ℕ) → Passes es l → Passes (e ∷ es) l
further e es l p = (p.0, (suc p.1.0, (let h : p.1.0 < length es = p.1.1 in omega (arith, h)), p.1.2), p.2, p.3)

at_line : {b c : Bool} (x y : Growth) → c ≡ b → (if c then y.line else x.line) ≡ (if b then y.line else x.line)
at_line x y h = ap (λ d. if d then y.line else x.line) h

passes_exprs : (es : List Expr) → 200 < (exprs_size es).least → Passes es (exprs_size es).line
passes_exprs [] h = absurd (omega (arith, h))
passes_exprs (e ∷ es) h = by (passes_exprs es) (nat_lt (expr_size e).least (exprs_size es).least) refl
  where
    by : (200 < (exprs_size es).least → Passes es (exprs_size es).line) → (b : Bool) → nat_lt (expr_size e).least (exprs_size es).least ≡ b → Passes (e ∷ es) (exprs_size (e ∷ es)).line
    by rest true k =
        let lt : (expr_size e).least < (exprs_size es).least = ltb-true (expr_size e).least (exprs_size es).least k in
        let deep : 200 < (exprs_size es).least = omega (arith, lt, h) in
        let same : deeper_line (expr_size e) (exprs_size es) ≡ (exprs_size es).line = at_line (expr_size e) (exprs_size es) k in
        subst (λ l. Passes (e ∷ es) l) (sym same) (further e es (exprs_size es).line (rest deep))
    by rest false k =
        let le : (exprs_size es).least ≤ (expr_size e).least = ltb-false (expr_size e).least (exprs_size es).least k in
        let deep : 200 < depth e = omega (arith, le, h) in
        let same : deeper_line (expr_size e) (exprs_size es) ≡ e.line = at_line (expr_size e) (exprs_size es) k in
        first_of e es (exprs_size (e ∷ es)).line deep (sym same)

passes_fun : (f : FunKind) → 200 < (fun_size f).least → Passes (results_in f) (fun_size f).line
passes_fun fun.Forward h = absurd (omega (arith, h))
passes_fun fun.Global h = absurd (omega (arith, h))
passes_fun (fun.Defined es) h = passes_exprs es h

passes_item : (i : Item) → 200 < (item_size i).least → Passes (results i) (item_size i).line
passes_item (item.Alias t) h = absurd (omega (arith, h))
passes_item (item.Function f) h = passes_fun f.kind h

before : (es fs : List Expr) (l : ℕ) → Passes es l → Passes (es ++ fs) l
before es fs l p = (p.0, Contains-append_left es fs p.0 p.1, p.2, p.3)

behind : (es fs : List Expr) (l : ℕ) → Passes fs l → Passes (es ++ fs) l
behind es fs l p = (p.0, Contains-append_right es fs p.0 p.1, p.2, p.3)

pub passes_items : (is : List Item) → 200 < (items_size is).least → PassesAt 200 is (items_size is).line
passes_items [] h = absurd (omega (arith, h))
passes_items (i ∷ is) h = by (passes_items is) (nat_lt (item_size i).least (items_size is).least) refl
  where
    by : (200 < (items_size is).least → PassesAt 200 is (items_size is).line) → (b : Bool) → nat_lt (item_size i).least (items_size is).least ≡ b → PassesAt 200 (i ∷ is) (items_size (i ∷ is)).line
    by rest true k =
        let lt : (item_size i).least < (items_size is).least = ltb-true (item_size i).least (items_size is).least k in
        let deep : 200 < (items_size is).least = omega (arith, lt, h) in
        let same : deeper_line (item_size i) (items_size is) ≡ (items_size is).line = at_line (item_size i) (items_size is) k in
        subst (λ l. PassesAt 200 (i ∷ is) l) (sym same) (behind (results i) (results_of is) (items_size is).line (rest deep))
    by rest false k =
        let le : (items_size is).least ≤ (item_size i).least = ltb-false (item_size i).least (items_size is).least k in
        let deep : 200 < (item_size i).least = omega (arith, le, h) in
        let same : deeper_line (item_size i) (items_size is) ≡ (item_size i).line = at_line (item_size i) (items_size is) k in
        subst (λ l. PassesAt 200 (i ∷ is) l) (sym same) (before (results i) (results_of is) (item_size i).line (passes_item i deep))

-- ---- a whole derivation

placed_classes : (ts : List Token) (n : ℕ) → map (λ t. class_of t.kind) (placed n ts) ≡ map class_of (map (λ t. t.kind) ts)
placed_classes [] n = refl
placed_classes (t ∷ ts) n = ap (λ cs. class_of t.kind ∷ cs) (placed_classes ts (n + 1))

map_length : {A B : Type 0} (f : A → B) (xs : List A) → length (map f xs) ≡ length xs
map_length f [] = refl
map_length f (x ∷ xs) = ap (λ n. suc n) (map_length f xs)

-- the steps read as many tokens as there are
pub reads_tokens : (es : List Step) (ts : List Token) → Derives language (Rule 0 ∷ []) (map class_of (map (λ t. t.kind) ts)) es → reads es ≡ length ts
reads_tokens es ts d = reads_all d ∙ (map_length class_of (map (λ t. t.kind) ts) ∙ map_length (λ t. t.kind) ts)

same_some : {A : Type 0} {x y : A} → Some x ≡ Some y → x ≡ y
same_some e = cc

-- the sizes are those of the measure
sizes_are : (es : List Step) (ts : List Token) (n : ℕ) (zs : List Growth) → measure sisal plan depths es (placed n ts) ≡ Some zs → sizes_of es ts ≡ zs
sizes_are [] [] n zs e = cc
sizes_are [] (t ∷ ts) n zs e = cc
sizes_are (Read ∷ es) [] n zs e = cc
sizes_are (Read ∷ es) (t ∷ ts) n zs e =
    let b : (l : List Growth) × (measure sisal plan depths es (placed (n + 1) ts) ≡ Some l) × (Some (token_size t ∷ l) ≡ Some zs) = bound (measure sisal plan depths es (placed (n + 1) ts)) (λ l. Some (token_size t ∷ l)) zs e in
    ap (λ l. token_size t ∷ l) (sizes_are es ts (n + 1) b.0 b.1) ∙ same_some b.2
sizes_are (Open p ∷ es) ts n zs e =
    let f : List Growth → List Growth = λ l. grown (plan.action p) (take (length (args (plan.action p))) l) ∷ drop (length (args (plan.action p))) l in
    let b : (l : List Growth) × (measure sisal plan depths es (placed n ts) ≡ Some l) × (Some (f l) ≡ Some zs) = bound (measure sisal plan depths es (placed n ts)) (λ l. Some (f l)) zs e in
    ap f (sizes_are es ts n b.0 b.1) ∙ same_some b.2

-- the size of the unit
top : (es : List Step) (ts : List Token) (o : Outline) → Measured sisal depths (an_outline ∷ []) (run sisal plan es (placed 0 ts)) (measure sisal plan depths es (placed 0 ts)) → run sisal plan es (placed 0 ts) ≡ Some (AnOutline o ∷ []) → at 0 (sizes_of es ts) ≡ items_size o.items
top es ts o m r =
    let both : Some (AnOutline o ∷ []) ≡ Some (AnOutline m.0.0 ∷ []) = sym r ∙ m.1 in
    let same : o ≡ m.0.0 = cc in
    ap (at 0) (sizes_are es ts 0 (items_size m.0.0.items ∷ []) m.2) ∙ ap (λ p. items_size p.items) (sym same)

pub top_of : (es : List Step) (ts : List Token) → Derives language (Rule 0 ∷ []) (map class_of (map (λ t. t.kind) ts)) es → (o : Outline) → run sisal plan es (placed 0 ts) ≡ Some (AnOutline o ∷ []) → at 0 (sizes_of es ts) ≡ items_size o.items
top_of es ts d o r =
    let m : Measured sisal depths (plan.kind 0 ∷ []) (run sisal plan es (placed 0 ts)) (measure sisal plan depths es (placed 0 ts)) = measures language sisal plan depths plan_typed d (placed 0 ts) (placed_classes ts 0) in
    top es ts o (subst (λ k. Measured sisal depths (k ∷ []) (run sisal plan es (placed 0 ts)) (measure sisal plan depths es (placed 0 ts))) first_kind m) r

pub first_of_one : (z : List Growth) → at 0 (take 1 z) ≡ at 0 z
first_of_one [] = refl
first_of_one (x ∷ z) = refl
