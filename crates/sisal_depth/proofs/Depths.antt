-- The sizes of values are told by the sizes of their parts.
use Rattle.std.proofs.Common.{◌≡◌, ℕ, suc, ◌+◌, max, Bool, true, false, List, [], ◌∷◌, Option, Some, None, map, option_map, fold, length, refl, sym, ◌∙◌, ap, arith}
use Rattle.pushdown.specs.Meaning.{Vals, Measure, sizes}
use Rattle.sisal_tree.specs.declared.unit.Item.{Item}
use Rattle.sisal_tree.specs.declared.unit.Item.TheVariants as item
use Rattle.sisal_tree.specs.declared.unit.FunKind.{FunKind}
use Rattle.sisal_tree.specs.declared.unit.FunKind.TheVariants as fun
use Rattle.sisal_tree.specs.declared.expr.Expr.{Expr}
use Rattle.sisal_tree.specs.declared.expr.ExprKind.{ExprKind}
use Rattle.sisal_tree.specs.declared.expr.ExprKind.TheVariants as expr
use Rattle.sisal_tree.specs.declared.expr.Constant.TheVariants as constant
use Rattle.sisal_tree.specs.declared.expr.BinaryOperator.{BinaryOperator}
use Rattle.sisal_tree.specs.declared.expr.Generator.{Generator, roll-Generator}
use Rattle.sisal_tree.specs.declared.expr.Arm.{Arm, roll-Arm}
use Rattle.sisal_tree.specs.declared.expr.Def.{Def, roll-Def}
use Rattle.sisal_tree.specs.declared.expr.Clause.{Clause, roll-Clause}
use Rattle.sisal_tree.specs.declared.expr.Turn.{Turn, roll-Turn}
use Rattle.sisal_tree.specs.declared.expr.Elements.{roll-Elements}
use Rattle.sisal_tree.specs.declared.expr.Mask.{Mask}
use Rattle.sisal_tree.specs.declared.expr.ClauseKind.{ClauseKind}
use Rattle.sisal_tree.specs.declared.expr.Target.{Target}
use Rattle.sisal_tree.specs.declared.expr.Loop.TheVariants as loop
use Rattle.sisal_tree.specs.declared.unit.Named.{Named}
use Rattle.sisal_grammar.specs.declared.value.Subject.{Subject}
use Rattle.sisal_tree.specs.Depth.{depth, if_any, greatest_if_any}
use Rattle.sisal_grammar.specs.declared.value.Placed.{Placed}
use Rattle.sisal_grammar.specs.declared.value.Selector.{Selector}
use Rattle.sisal_grammar.specs.declared.value.Selector.TheVariants as selector
use Rattle.sisal_grammar.specs.declared.value.Bracket.{Bracket}
use Rattle.sisal_grammar.specs.declared.value.Bracket.TheVariants as bracket
use Rattle.sisal_grammar.specs.declared.value.SubjectRest.{SubjectRest}
use Rattle.sisal_grammar.specs.declared.value.SubjectRest.TheVariants as more
use Rattle.sisal_grammar.specs.declared.value.ExprRest.{ExprRest}
use Rattle.sisal_grammar.specs.declared.action.Action.{Action}
use Rattle.sisal_grammar.specs.declared.action.Action.TheVariants as action
use Rattle.sisal_grammar.specs.Sorts.{Sort, a_token, an_outline, an_item, items, an_expr, exprs, maybe_expr, maybe_exprs, tail, a_post, posts, a_bracket, a_value, values, maybe_elements, a_subject, a_rest, an_arm, arms, a_loop, a_gen, gens, groups, a_def, defs, a_turn, a_test, a_clause, clauses, maybe_mask, Val, args, gives}
use Rattle.sisal_grammar.specs.Acts.{at, act, sisal, binary_of, prefix_of, scalar_of, constant_of, gathered_of, is_until, is_unless, name_in, named, joined, chained, selected, posted, bracketed, called, asked, content, rest_of, subject_of, tag_case}
use Rattle.sisal_grammar.specs.Acts as acts
use Rattle.sisal_depth.specs.declared.sizes.Growth.{Growth}
use Rattle.sisal_depth.specs.Sizes.{capped, growth, no_growth, flat, on_line, deepest, link, both, listed, deeper, followed, through, grown}
use Rattle.sisal_depth.proofs.Folds.{kind_depth, loop_depth, arm_depth, clause_depth, def_depth, elements_depth, value_depth, generator_depth, mask_depth, case_depth, turn_depth, exprs_depth, values_depth, defs_depth, arms_depth, clauses_depth, generators_depth, groups_depth}
use Rattle.sisal_depth.proofs.Folds as folds

-- equal numbers up to 201 are equal sizes
same_growth : (a b c d e f l : ℕ) → capped a ≡ capped d → capped b ≡ capped e → capped c ≡ capped f → growth a b c l ≡ growth d e f l
same_growth a b c d e f l p q r =
    ap (λ n. record { adds = n; along = capped b; least = capped c; line = l }) p
    ∙ (ap (λ n. record { adds = capped d; along = n; least = capped c; line = l }) q
    ∙ ap (λ n. record { adds = capped d; along = capped e; least = n; line = l }) r)

same_flat : (a b : ℕ) → capped a ≡ capped b → flat a ≡ flat b
same_flat a b e = ap (λ n. record { adds = 0; along = 0; least = n; line = 0 }) e

same_line : (a b l : ℕ) → capped a ≡ capped b → on_line a l ≡ on_line b l
same_line a b l e = ap (λ n. record { adds = 0; along = 0; least = n; line = l }) e

-- ---- the size of each kind of value

abbrev pub expr_size : Expr → Growth
expr_size e = on_line (depth e) e.line

abbrev pub exprs_size : List Expr → Growth
exprs_size [] = no_growth
exprs_size (e ∷ es) = listed (expr_size e) (exprs_size es)

abbrev pub fun_size : FunKind → Growth
fun_size fun.Forward = no_growth
fun_size fun.Global = no_growth
fun_size (fun.Defined es) = exprs_size es

abbrev pub item_size : Item → Growth
item_size (item.Alias t) = no_growth
item_size (item.Function f) = fun_size f.kind

abbrev pub items_size : List Item → Growth
items_size [] = no_growth
items_size (i ∷ is) = deeper (item_size i) (items_size is)

abbrev tail_size : List (BinaryOperator × Expr) → Growth
tail_size [] = no_growth
tail_size (t ∷ ts) = link (expr_size t.1) (tail_size ts)

-- a list of expressions as selectors
abbrev selecting : Growth → Growth
selecting x = record { adds = x.adds; along = x.along; least = 0; line = 0 }

abbrev post_size : Selector → Growth
post_size (selector.At es) = selecting (exprs_size es)
post_size (selector.Change i v) = growth 1 (max (depth i) (depth v) + 1) 0 0
post_size (selector.Field x) = growth 1 0 0 0
post_size (selector.Replace vs) = growth 1 (values_depth vs + 1) 0 0

abbrev posts_size : List Selector → Growth
posts_size [] = no_growth
posts_size (p ∷ ps) = both (post_size p) (posts_size ps)

abbrev bracket_size : Bracket → Growth
bracket_size (bracket.Further es) = exprs_size es
bracket_size (bracket.Colon v) = growth 0 (depth v + 1) 0 0

abbrev content_depth : Option Expr → ℕ
content_depth None = 1
content_depth (Some e) = depth e

abbrev call_size : Option (List Expr) → Growth
call_size None = no_growth
call_size (Some es) = flat (exprs_depth es)

abbrev rest_size : SubjectRest → Growth
rest_size (more.Bound e) = flat (depth e)
rest_size (more.Rest r) = through (on_line ((call_size r.call).least + 1) 0) (posts_size r.posts) (tail_size r.factors) (tail_size r.terms) (tail_size r.parts) (tail_size r.compared) (tail_size r.all) (tail_size r.any)

abbrev pub size_of : (k : Sort) → Val k → Growth
size_of a_token v = on_line 0 v.line
size_of an_outline v = items_size v.items
size_of an_item v = item_size v
size_of items v = items_size v
size_of an_expr v = expr_size v
size_of exprs v = exprs_size v
size_of maybe_expr v = growth 0 (content_depth v) (if_any (option_map depth v)) 0
size_of maybe_exprs v = call_size v
size_of tail v = tail_size v
size_of a_post v = post_size v
size_of posts v = posts_size v
size_of a_bracket v = bracket_size v
size_of a_value v = flat (value_depth v)
size_of values v = flat (values_depth v)
size_of maybe_elements v = flat (if_any (option_map elements_depth v))
size_of a_subject v = flat (depth v.expr)
size_of a_rest v = rest_size v
size_of an_arm v = flat (arm_depth v)
size_of arms v = flat (arms_depth v)
size_of a_loop v = flat (loop_depth v)
size_of a_gen v = flat (generator_depth v)
size_of gens v = flat (generators_depth v)
size_of groups v = growth (length v) 0 (groups_depth v) 0
size_of a_def v = flat (def_depth v)
size_of defs v = flat (defs_depth v)
size_of a_turn v = flat (turn_depth v)
size_of a_test v = flat (depth v.test)
size_of a_clause v = flat (clause_depth v)
size_of clauses v = flat (clauses_depth v)
size_of maybe_mask v = flat (if_any (option_map mask_depth v))
size_of _ v = no_growth

-- ---- what stands in a list

pub exprs_least : (es : List Expr) → (exprs_size es).least ≡ capped (exprs_depth es)
exprs_least [] = refl
exprs_least (e ∷ es) = let h : (exprs_size es).least ≡ capped (exprs_depth es) = exprs_least es in omega (arith, h)

-- an operand with what follows it, and then more
followed_both : (x y z : Growth) → followed (followed x y) z ≡ followed x (both y z)
followed_both x y z = same_line (max (capped (max (x.least + y.adds) y.along) + z.adds) z.along) (max (x.least + capped (y.adds + z.adds)) (capped (max (y.along + z.adds) z.along))) x.line (omega arith)

joined_size : (a : Expr) (t : BinaryOperator × Expr) (rest : Growth) → followed (expr_size (joined a t)) rest ≡ followed (expr_size a) (link (expr_size t.1) rest)
joined_size a t rest =
    let h : depth (at a.line (expr.Binary t.0 a t.1)) ≡ max (depth a) (depth t.1) + 1 = folds.in_binary a.line t.0 a t.1 in
    same_line (max (capped (depth (at a.line (expr.Binary t.0 a t.1))) + rest.adds) rest.along) (max (capped (depth a) + capped (rest.adds + 1)) (capped (max (capped (depth t.1) + rest.adds + 1) rest.along))) a.line (omega (arith, h))

alone : (a : Expr) → expr_size a ≡ followed (expr_size a) no_growth
alone a = same_line (depth a) (max (capped (depth a) + 0) 0) a.line (omega arith)

chained_size : (a : Expr) (ts : List (BinaryOperator × Expr)) → expr_size (chained a ts) ≡ followed (expr_size a) (tail_size ts)
chained_size a [] = alone a
chained_size a (t ∷ ts) = chained_size (joined a t) ts ∙ joined_size a t (tail_size ts)

selected_size : (a i : Expr) (rest : Growth) → followed (expr_size (selected a i)) (selecting rest) ≡ followed (expr_size a) (selecting (listed (expr_size i) rest))
selected_size a i rest =
    let h : depth (at a.line (expr.Select a i)) ≡ max (depth a) (depth i) + 1 = folds.in_select a.line a i in
    same_line (max (capped (depth (at a.line (expr.Select a i))) + rest.adds) rest.along) (max (capped (depth a) + capped (rest.adds + 1)) (capped (max (capped (depth i) + rest.adds + 1) rest.along))) a.line (omega (arith, h))

along_size : (a : Expr) (is : List Expr) → expr_size (fold selected a is) ≡ followed (expr_size a) (selecting (exprs_size is))
along_size a [] = alone a
along_size a (i ∷ is) = along_size (selected a i) is ∙ selected_size a i (exprs_size is)

followed_size : (a : Expr) (p : Selector) → expr_size (acts.followed a p) ≡ followed (expr_size a) (post_size p)
followed_size a (selector.At is) = along_size a is
followed_size a (selector.Change i v) =
    let h : depth (at a.line (expr.Update a i v)) ≡ max (depth a) (max (depth i) (depth v)) + 1 = folds.in_update a.line a i v in
    same_line (depth (at a.line (expr.Update a i v))) (max (capped (depth a) + 1) (capped (max (depth i) (depth v) + 1))) a.line (omega (arith, h))
followed_size a (selector.Field x) =
    let h : depth (at a.line (expr.Field a x)) ≡ depth a + 1 = folds.in_field a.line a x in
    same_line (depth (at a.line (expr.Field a x))) (max (capped (depth a) + 1) 0) a.line (omega (arith, h))
followed_size a (selector.Replace vs) =
    let h : depth (at a.line (expr.Replace a vs)) ≡ max (depth a) (values_depth vs) + 1 = folds.in_replace a.line a vs in
    same_line (depth (at a.line (expr.Replace a vs))) (max (capped (depth a) + 1) (capped (values_depth vs + 1))) a.line (omega (arith, h))

posted_size : (a : Expr) (ps : List Selector) → expr_size (posted a ps) ≡ followed (expr_size a) (posts_size ps)
posted_size a [] = alone a
posted_size a (p ∷ ps) =
    posted_size (acts.followed a p) ps
    ∙ (ap (λ x. followed x (posts_size ps)) (followed_size a p) ∙ followed_both (expr_size a) (post_size p) (posts_size ps))

called_size : (t : Placed) (c : Option (List Expr)) → expr_size (called t c) ≡ on_line ((call_size c).least + 1) t.line
called_size t None = same_line (depth (at t.line (expr.Name (name_in t)))) 1 t.line (let h : depth (at t.line (expr.Name (name_in t))) ≡ 1 = folds.in_name t.line (name_in t) in omega (arith, h))
called_size t (Some es) = same_line (depth (at t.line (expr.Call (name_in t) es))) (capped (exprs_depth es) + 1) t.line (let h : depth (at t.line (expr.Call (name_in t) es)) ≡ exprs_depth es + 1 = folds.in_call t.line (name_in t) es in omega (arith, h))

-- one operand after another
then : (a : Expr) (x : Growth) (ts : List (BinaryOperator × Expr)) → expr_size a ≡ x → expr_size (chained a ts) ≡ followed x (tail_size ts)
then a x ts e = chained_size a ts ∙ ap (λ y. followed y (tail_size ts)) e

rest_of_size : (t : Placed) (r : ExprRest) → expr_size (rest_of t r) ≡ through (on_line ((call_size r.call).least + 1) t.line) (posts_size r.posts) (tail_size r.factors) (tail_size r.terms) (tail_size r.parts) (tail_size r.compared) (tail_size r.all) (tail_size r.any)
rest_of_size t r =
    let x0 : Growth = on_line ((call_size r.call).least + 1) t.line in
    let a1 : Expr = posted (called t r.call) r.posts in
    let x1 : Growth = followed x0 (posts_size r.posts) in
    let h1 : expr_size a1 ≡ x1 = posted_size (called t r.call) r.posts ∙ ap (λ y. followed y (posts_size r.posts)) (called_size t r.call) in
    let a2 : Expr = chained a1 r.factors in
    let x2 : Growth = followed x1 (tail_size r.factors) in
    let h2 : expr_size a2 ≡ x2 = then a1 x1 r.factors h1 in
    let a3 : Expr = chained a2 r.terms in
    let x3 : Growth = followed x2 (tail_size r.terms) in
    let h3 : expr_size a3 ≡ x3 = then a2 x2 r.terms h2 in
    let a4 : Expr = chained a3 r.parts in
    let x4 : Growth = followed x3 (tail_size r.parts) in
    let h4 : expr_size a4 ≡ x4 = then a3 x3 r.parts h3 in
    let a5 : Expr = chained a4 r.compared in
    let x5 : Growth = followed x4 (tail_size r.compared) in
    let h5 : expr_size a5 ≡ x5 = then a4 x4 r.compared h4 in
    let a6 : Expr = chained a5 r.all in
    let x6 : Growth = followed x5 (tail_size r.all) in
    let h6 : expr_size a6 ≡ x6 = then a5 x5 r.all h5 in
    then a6 x6 r.any h6

subject_size : (t : Placed) (r : SubjectRest) → capped (depth (subject_of t r).expr) ≡ (rest_size r).least
subject_size t (more.Bound e) = refl
subject_size t (more.Rest r) = ap (λ x. x.least) (rest_of_size t r)

bracketed_size : (e : Expr) (b : Bracket) → post_size (bracketed e b) ≡ link (expr_size e) (bracket_size b)
bracketed_size e (bracket.Further es) = refl
bracketed_size e (bracket.Colon v) =
    same_growth 1 (max (depth e) (depth v) + 1) 0 1 (max (capped (depth e) + 0 + 1) (capped (depth v + 1))) 0 0 refl (omega arith) refl

asked_size : (l : ℕ) (x : Option ℕ) (e : Expr) → expr_size (asked l x e) ≡ on_line (depth e + 1) l
asked_size l None e = ap (λ n. on_line n l) (folds.in_is_error l e)
asked_size l (Some x) e = ap (λ n. on_line n l) (folds.in_is_tag l x e)

content_size : (t : Placed) (o : Option Expr) → depth (content t o) ≡ content_depth o
content_size t None = folds.in_constant t.line constant.Nil
content_size t (Some e) = refl

-- an expression whose depth is one more than that of its parts
above : (l n : ℕ) (k : ExprKind) (m : ℕ) → depth (at l k) ≡ n + 1 → capped n ≡ capped m → expr_size (at l k) ≡ on_line (m + 1) l
above l n k m h e = same_line (depth (at l k)) (m + 1) l (omega (arith, h, e))

cap_max : (a b : ℕ) → capped (max a b) ≡ max (capped a) (capped b)
cap_max a b = omega arith

cap_twice : (a : ℕ) → capped a ≡ capped (capped a)
cap_twice a = omega arith

cap_both : (a b x y : ℕ) → capped a ≡ capped x → capped b ≡ capped y → capped (max a b) ≡ capped (max x y)
cap_both a b x y p q = cap_max a b ∙ (ap (λ n. max n (capped b)) p ∙ (ap (λ n. max (capped x) n) q ∙ sym (cap_max x y)))

-- the greatest of two, of which nothing more stands after them
cap_last : (c cs : ℕ) → capped (max c cs) ≡ capped (max 0 (max (capped c) (max (capped cs) 0)))
cap_last c cs = cap_both c cs (capped c) (max (capped cs) 0) (cap_twice c) (let e : max (capped cs) 0 ≡ capped cs = omega arith in cap_twice cs ∙ ap capped (sym e)) ∙ ap capped (let e : max (capped c) (max (capped cs) 0) ≡ max 0 (max (capped c) (max (capped cs) 0)) = omega arith in e)

cap_more : (a b y : ℕ) → capped b ≡ capped y → capped (max a b) ≡ capped (max (capped a) y)
cap_more a b y q = cap_both a b (capped a) y (cap_twice a) q

max_three : (a b c : ℕ) → max (max a b) c ≡ max a (max b c)
max_three a b c = omega arith

max_none : (a : ℕ) → a ≡ max 0 a
max_none a = omega arith

cap_plus : (a m n : ℕ) → capped a ≡ capped m → capped (a + suc n) ≡ capped (m + capped n + 1)
cap_plus a m n e = omega (arith, e)

cap_one : (a m : ℕ) → capped a ≡ capped m → capped (a + 1) ≡ capped (m + 1)
cap_one a m e = omega (arith, e)

elements_size : (e : Expr) (es : List Expr) (m : ℕ) → capped (max (depth e) (exprs_depth es)) ≡ capped m → flat (elements_depth (roll-Elements (record { lower = e; values = es }))) ≡ flat m
elements_size e es m h = same_flat (elements_depth (roll-Elements (record { lower = e; values = es }))) m (ap capped (folds.of_elements e es) ∙ h)

arm_size : (l : ℕ) (ts : List Named) (es : List Expr) (m : ℕ) → capped (exprs_depth es) ≡ capped m → flat (arm_depth (roll-Arm (record { line = l; tags = ts; results = es }))) ≡ flat m
arm_size l ts es m h = same_flat (arm_depth (roll-Arm (record { line = l; tags = ts; results = es }))) m (ap capped (folds.of_arm l ts es) ∙ h)

def_size : (ts : List Target) (es : List Expr) (m : ℕ) → capped (exprs_depth es) ≡ capped m → flat (def_depth (roll-Def (record { targets = ts; values = es }))) ≡ flat m
def_size ts es m h = same_flat (def_depth (roll-Def (record { targets = ts; values = es }))) m (ap capped (folds.of_def ts es) ∙ h)

gen_size : (n : Named) (e : Expr) (t : Option Expr) (x : Option ℕ) (m : ℕ) → capped (max (depth e) (if_any (option_map depth t))) ≡ capped m → flat (generator_depth (roll-Generator (record { name = n; from = e; to = t; at = x }))) ≡ flat m
gen_size n e t x m h = same_flat (generator_depth (roll-Generator (record { name = n; from = e; to = t; at = x }))) m (ap capped (folds.of_generator n e t x) ∙ h)

turn_size : (f u : Bool) (e : Expr) (ds : List Def) (m : ℕ) → capped (max (depth e) (defs_depth ds)) ≡ capped m → flat (turn_depth (roll-Turn (record { is_first = f; is_until = u; test = e; defs = ds }))) ≡ flat m
turn_size f u e ds m h = same_flat (turn_depth (roll-Turn (record { is_first = f; is_until = u; test = e; defs = ds }))) m (ap capped (folds.of_turn f u e ds) ∙ h)

clause_size : (l : ℕ) (k : ClauseKind) (e : Expr) (o : Option Mask) (m : ℕ) → capped (max (depth e) (if_any (option_map mask_depth o))) ≡ capped m → flat (clause_depth (roll-Clause (record { line = l; kind = k; value = e; mask = o }))) ≡ flat m
clause_size l k e o m h = same_flat (clause_depth (roll-Clause (record { line = l; kind = k; value = e; mask = o }))) m (ap capped (folds.of_clause l k e o) ∙ h)

call_least : (o : Option (List Expr)) → (call_size o).least ≡ capped (greatest_if_any (option_map (λ es. map depth es) o))
call_least None = refl
call_least (Some es) = refl

cap_cell : (n : ℕ) → capped n ≡ capped (max 0 (max (capped n) 0))
cap_cell n = omega arith

least_cell : (x y : Growth) → (followed x y).least ≡ capped (max 0 (max (followed x y).least 0))
least_cell x y = cap_cell (max (x.least + y.adds) y.along)

rest_capped : (r : SubjectRest) → (rest_size r).least ≡ capped (max 0 (max (rest_size r).least 0))
rest_capped (more.Bound e) = cap_cell (depth e)
rest_capped (more.Rest r) = least_cell (followed (followed (followed (followed (followed (followed (on_line ((call_size r.call).least + 1) 0) (posts_size r.posts)) (tail_size r.factors)) (tail_size r.terms)) (tail_size r.parts)) (tail_size r.compared)) (tail_size r.all)) (tail_size r.any)

if_parts : (c : Expr) (es fs : List Expr) → capped (max (depth c) (max (exprs_depth es) (exprs_depth fs))) ≡ capped (max (capped (depth c)) (max 0 (max (exprs_size es).least (max (exprs_size fs).least 0))))
if_parts c es fs =
    let j : (exprs_size es).least ≡ capped (exprs_depth es) = exprs_least es in
    let k : (exprs_size fs).least ≡ capped (exprs_depth fs) = exprs_least fs in
    cap_more (depth c) (max (exprs_depth es) (exprs_depth fs)) (max 0 (max (exprs_size es).least (max (exprs_size fs).least 0)))
    (cap_last (exprs_depth es) (exprs_depth fs) ∙ (ap (λ n. capped (max 0 (max n (max (capped (exprs_depth fs)) 0)))) (sym j) ∙ ap (λ n. capped (max 0 (max (exprs_size es).least (max n 0)))) (sym k)))

if_size : (l : ℕ) (c : Expr) (es fs : List Expr) → expr_size (at l (expr.If c es fs)) ≡ on_line (max 0 (max (capped (depth c)) (max 0 (max (exprs_size es).least (max (exprs_size fs).least (max 0 (max 0 0)))))) + 1) l
if_size l c es fs =
    let n : max 0 (max 0 0) ≡ 0 = omega arith in
    let z : ℕ = max (capped (depth c)) (max 0 (max (exprs_size es).least (max (exprs_size fs).least 0))) in
    above l (max (depth c) (max (exprs_depth es) (exprs_depth fs))) (expr.If c es fs) (max 0 z) (folds.in_if l c es fs) (if_parts c es fs ∙ ap capped (max_none z))

else_if_size : (l : ℕ) (c : Expr) (es fs : List Expr) → expr_size (at l (expr.If c es fs)) ≡ on_line (max 0 (max (capped (depth c)) (max 0 (max (exprs_size es).least (max (exprs_size fs).least 0)))) + 1) l
else_if_size l c es fs =
    let z : ℕ = max (capped (depth c)) (max 0 (max (exprs_size es).least (max (exprs_size fs).least 0))) in
    above l (max (depth c) (max (exprs_depth es) (exprs_depth fs))) (expr.If c es fs) (max 0 z) (folds.in_if l c es fs) (if_parts c es fs ∙ ap capped (max_none z))

case_size : (l : ℕ) (s : Subject) (a : Arm) (bs : List Arm) (o : Option (List Expr)) → expr_size (at l (expr.TagCase (tag_case s (a ∷ bs) o))) ≡ on_line (max 0 (max (capped (depth s.expr)) (max (capped (arm_depth a)) (max (capped (arms_depth bs)) (max (call_size o).least (max 0 (max 0 0)))))) + 1) l
case_size l s a bs o =
    let n : ℕ = greatest_if_any (option_map (λ es. map depth es) o) in
    let h : depth (at l (expr.TagCase (tag_case s (a ∷ bs) o))) ≡ case_depth (tag_case s (a ∷ bs) o) + 1 = folds.in_tag_case l (tag_case s (a ∷ bs) o) in
    let j : case_depth (tag_case s (a ∷ bs) o) ≡ max (depth s.expr) (max (max (arm_depth a) (arms_depth bs)) n) = folds.of_case s.name s.expr (a ∷ bs) o in
    let k : (call_size o).least ≡ capped n = call_least o in
    let last : capped n ≡ capped (max (call_size o).least (max 0 (max 0 0))) = omega (arith, k) in
    let z : ℕ = max (capped (depth s.expr)) (max (capped (arm_depth a)) (max (capped (arms_depth bs)) (max (call_size o).least (max 0 (max 0 0))))) in
    let parts : capped (max (depth s.expr) (max (max (arm_depth a) (arms_depth bs)) n)) ≡ capped z =
    ap (λ x. capped (max (depth s.expr) x)) (max_three (arm_depth a) (arms_depth bs) n)
    ∙ cap_more (depth s.expr) (max (arm_depth a) (max (arms_depth bs) n)) (max (capped (arm_depth a)) (max (capped (arms_depth bs)) (max (call_size o).least (max 0 (max 0 0)))))
    (cap_more (arm_depth a) (max (arms_depth bs) n) (max (capped (arms_depth bs)) (max (call_size o).least (max 0 (max 0 0))))
    (cap_more (arms_depth bs) n (max (call_size o).least (max 0 (max 0 0))) last)) in
    above l (max (depth s.expr) (max (max (arm_depth a) (arms_depth bs)) n)) (expr.TagCase (tag_case s (a ∷ bs) o)) (max 0 z) (h ∙ ap (λ x. x + 1) j) (parts ∙ ap capped (max_none z))

loop_parts : (ds : List Def) (c : Clause) (cs : List Clause) → capped (max (defs_depth ds) (max (clause_depth c) (clauses_depth cs))) ≡ capped (max (capped (defs_depth ds)) (max 0 (max (capped (clause_depth c)) (max (capped (clauses_depth cs)) 0))))
loop_parts ds c cs = cap_more (defs_depth ds) (max (clause_depth c) (clauses_depth cs)) (max 0 (max (capped (clause_depth c)) (max (capped (clauses_depth cs)) 0))) (cap_last (clause_depth c) (clauses_depth cs))

product_size : (g : List Generator) (gs : List (List Generator)) (ds : List Def) (c : Clause) (cs : List Clause) → flat (loop_depth (loop.Product (g ∷ gs) ds (c ∷ cs))) ≡ flat (max (capped (generators_depth g)) (max (capped (groups_depth gs)) (max (capped (defs_depth ds)) (max 0 (max (capped (clause_depth c)) (max (capped (clauses_depth cs)) 0))))) + capped (length gs) + 1)
product_size g gs ds c cs =
    let r : ℕ = max (defs_depth ds) (max (clause_depth c) (clauses_depth cs)) in
    let y : ℕ = max (capped (defs_depth ds)) (max 0 (max (capped (clause_depth c)) (max (capped (clauses_depth cs)) 0))) in
    let z : ℕ = max (capped (generators_depth g)) (max (capped (groups_depth gs)) y) in
    let h : loop_depth (loop.Product (g ∷ gs) ds (c ∷ cs)) ≡ max (max (generators_depth g) (groups_depth gs)) r + suc (length gs) = folds.in_product (g ∷ gs) ds (c ∷ cs) in
    let parts : capped (max (max (generators_depth g) (groups_depth gs)) r) ≡ capped z =
    ap capped (max_three (generators_depth g) (groups_depth gs) r)
    ∙ cap_more (generators_depth g) (max (groups_depth gs) r) (max (capped (groups_depth gs)) y) (cap_more (groups_depth gs) r y (loop_parts ds c cs)) in
    same_flat (loop_depth (loop.Product (g ∷ gs) ds (c ∷ cs))) (z + capped (length gs) + 1) (ap capped h ∙ cap_plus (max (max (generators_depth g) (groups_depth gs)) r) z (length gs) parts)

initial_size : (ds : List Def) (t : Turn) (c : Clause) (cs : List Clause) → flat (loop_depth (loop.Initial ds t (c ∷ cs))) ≡ flat (max 0 (max (capped (defs_depth ds)) (max (capped (turn_depth t)) (max 0 (max (capped (clause_depth c)) (max (capped (clauses_depth cs)) 0))))) + 1)
initial_size ds t c cs =
    let r : ℕ = max (clause_depth c) (clauses_depth cs) in
    let y : ℕ = max 0 (max (capped (clause_depth c)) (max (capped (clauses_depth cs)) 0)) in
    let z : ℕ = max (capped (defs_depth ds)) (max (capped (turn_depth t)) y) in
    let h : loop_depth (loop.Initial ds t (c ∷ cs)) ≡ max (defs_depth ds) (max (turn_depth t) r) + 1 = folds.in_initial ds t (c ∷ cs) in
    let parts : capped (max (defs_depth ds) (max (turn_depth t) r)) ≡ capped (max 0 z) =
    cap_more (defs_depth ds) (max (turn_depth t) r) (max (capped (turn_depth t)) y) (cap_more (turn_depth t) r y (cap_last (clause_depth c) (clauses_depth cs))) ∙ ap capped (max_none z) in
    same_flat (loop_depth (loop.Initial ds t (c ∷ cs))) (max 0 z + 1) (ap capped h ∙ cap_one (max (defs_depth ds) (max (turn_depth t) r)) (max 0 z) parts)

-- the size of what an action gives is told by the sizes of what it takes
pub fits : (a : Action) (v : Vals Val (args a)) → size_of (gives a) (act a v) ≡ grown a (sizes size_of (args a) v)
fits action.Whole v = refl
fits action.NoNames v = refl
fits action.MoreNames v = refl
fits action.Absent v = refl
fits action.Sign v = refl
fits action.NoItems v = refl
fits action.MoreItems v = refl
fits action.Alias v = refl
fits action.Forward v = refl
fits action.Global v = refl
fits action.Defined v = refl
fits action.Basic v = refl
fits action.Listed v = refl
fits action.Fielded v = refl
fits action.Tagged v = refl
fits action.NoFields v = refl
fits action.SemiFields v = refl
fits action.MoreFields v = refl
fits action.OneField v = refl
fits action.SemiTags v = refl
fits action.MoreTags v = refl
fits action.OneTag v = refl
fits action.TypedTag v = refl
fits action.OneHeader v = refl
fits action.NoTypes v = refl
fits action.MoreTypes v = refl
fits action.Exprs v = refl
fits action.NoExprs v = refl
fits action.MoreExprs v = refl
fits action.SameExprs v = refl
fits action.Chain v = chained_size v.0 v.1.0
fits action.NoTail v = refl
fits action.MoreTail v = refl
fits action.Prefix v = above v.0.line (depth v.1.0) (expr.Prefix (prefix_of v.0.kind) v.1.0) (deepest (sizes size_of (args action.Prefix) v)) (folds.in_prefix v.0.line (prefix_of v.0.kind) v.1.0) (omega arith)
fits action.SameExpr v = refl
fits action.OneTail v = refl
fits action.Posted v = posted_size v.0 v.1.0
fits action.NoPosts v = refl
fits action.MorePosts v = refl
fits action.Bracket v = bracketed_size v.1.0 v.1.1.0
fits action.Dot v = refl
fits action.Replaced v = same_growth 1 (values_depth (v.1.1.0 ∷ v.1.1.1.0) + 1) 0 1 (deepest (sizes size_of (args action.Replaced) v) + 1) 0 0 refl (omega arith) refl
fits action.CloseBracket v = refl
fits action.MoreBracket v = refl
fits action.ColonBracket v = same_growth 0 (depth v.1.0 + 1) 0 0 (capped (depth v.1.0) + 1) 0 0 refl (omega arith) refl
fits action.OneValue v = let h : value_depth (record { field = named v.0; value = v.1.1.0 }) ≡ depth v.1.1.0 = folds.of_value (named v.0) v.1.1.0 in same_flat (value_depth (record { field = named v.0; value = v.1.1.0 })) (deepest (sizes size_of (args action.OneValue) v)) (omega (arith, h))
fits action.NoValues v = refl
fits action.SemiValues v = same_flat (values_depth v.1.0) (deepest (sizes size_of (args action.SemiValues) v)) (omega arith)
fits action.MoreValues v = same_flat (values_depth (v.0 ∷ v.1.0)) (deepest (sizes size_of (args action.MoreValues) v)) (omega arith)
fits action.NameOrCall v = called_size v.0 v.1.0 ∙ same_line ((call_size v.1.0).least + 1) (deepest (sizes size_of (args action.NameOrCall) v) + 1) v.0.line (omega arith)
fits action.NoCall v = refl
fits action.Call v = let k : (exprs_size v.1.0).least ≡ capped (exprs_depth v.1.0) = exprs_least v.1.0 in same_flat (exprs_depth v.1.0) (deepest (sizes size_of (args action.Call) v)) (omega (arith, k))
fits action.Literal v = above v.0.line (0) (expr.Constant (constant_of v.0.kind)) (deepest (sizes size_of (args action.Literal) v)) (folds.in_constant v.0.line (constant_of v.0.kind)) (omega arith)
fits action.Old v = above v.0.line (0) (expr.Old (name_in v.1.0)) (deepest (sizes size_of (args action.Old) v)) (folds.in_old v.0.line (name_in v.1.0)) (omega arith)
fits action.Convert v = above v.0.line (depth v.1.1.0) (expr.Convert (scalar_of v.0.kind) v.1.1.0) (deepest (sizes size_of (args action.Convert) v)) (folds.in_convert v.0.line (scalar_of v.0.kind) v.1.1.0) (omega arith)
fits action.Group v = above v.0.line (depth v.1.0) (expr.Group v.1.0) (deepest (sizes size_of (args action.Group) v)) (folds.in_group v.0.line v.1.0) (omega arith)
fits action.ErrorOf v = above v.0.line (0) (expr.ErrorOf v.1.1.0) (deepest (sizes size_of (args action.ErrorOf) v)) (folds.in_error_of v.0.line v.1.1.0) (omega arith)
fits action.Is v = asked_size v.0.line v.1.0 v.1.1.1.0 ∙ same_line (depth v.1.1.1.0 + 1) (deepest (sizes size_of (args action.Is) v) + 1) v.0.line (omega arith)
fits action.Array v = above v.0.line (if_any (option_map elements_depth v.1.1.1.0)) (expr.Array v.1.0 v.1.1.1.0) (deepest (sizes size_of (args action.Array) v)) (folds.in_array v.0.line v.1.0 v.1.1.1.0) (omega arith)
fits action.Stream v = let k : (exprs_size v.1.1.1.0).least ≡ capped (exprs_depth v.1.1.1.0) = exprs_least v.1.1.1.0 in above v.0.line (exprs_depth v.1.1.1.0) (expr.Stream v.1.0 v.1.1.1.0) (deepest (sizes size_of (args action.Stream) v)) (folds.in_stream v.0.line v.1.0 v.1.1.1.0) (omega (arith, k))
fits action.Record v = above v.0.line (values_depth (v.1.1.1.0 ∷ v.1.1.1.1.0)) (expr.Record v.1.0 (v.1.1.1.0 ∷ v.1.1.1.1.0)) (deepest (sizes size_of (args action.Record) v)) (folds.in_record v.0.line v.1.0 (v.1.1.1.0 ∷ v.1.1.1.1.0)) (omega arith)
fits action.Union v = let h : depth (at v.0.line (expr.Union (name_in v.1.0) (name_in v.1.1.1.0) (content v.1.1.1.0 v.1.1.1.1.0))) ≡ depth (content v.1.1.1.0 v.1.1.1.1.0) + 1 = folds.in_union v.0.line (name_in v.1.0) (name_in v.1.1.1.0) (content v.1.1.1.0 v.1.1.1.1.0) in let k : depth (content v.1.1.1.0 v.1.1.1.1.0) ≡ content_depth v.1.1.1.1.0 = content_size v.1.1.1.0 v.1.1.1.1.0 in same_line (depth (at v.0.line (expr.Union (name_in v.1.0) (name_in v.1.1.1.0) (content v.1.1.1.0 v.1.1.1.1.0)))) (capped (content_depth v.1.1.1.1.0) + 1) v.0.line (omega (arith, h, k))
fits action.Let v = let k : (exprs_size v.1.1.1.0).least ≡ capped (exprs_depth v.1.1.1.0) = exprs_least v.1.1.1.0 in above v.0.line (max (defs_depth v.1.0) (exprs_depth v.1.1.1.0)) (expr.Let v.1.0 v.1.1.1.0) (deepest (sizes size_of (args action.Let) v)) (folds.in_let v.0.line v.1.0 v.1.1.1.0) (omega (arith, k))
fits action.If v = if_size v.0.line v.1.0 v.1.1.1.0 v.1.1.1.1.0
fits action.Case v = case_size v.0.line v.1.0 v.1.1.0 v.1.1.1.0 v.1.1.1.1.0
fits action.For v = let h : depth (at v.0.line (expr.For v.1.0)) ≡ loop_depth v.1.0 = folds.in_for v.0.line v.1.0 in same_line (depth (at v.0.line (expr.For v.1.0))) (capped (loop_depth v.1.0)) v.0.line (omega (arith, h))
fits action.WordName v = refl
fits action.AName v = refl
fits action.NoName v = refl
fits action.NoElements v = refl
fits action.SomeElements v = elements_size v.0 v.1.1.0 (deepest (sizes size_of (args action.SomeElements) v)) (let k : (exprs_size v.1.1.0).least ≡ capped (exprs_depth v.1.1.0) = exprs_least v.1.1.0 in omega (arith, k))
fits action.NoExpr v = refl
fits action.SomeExpr v = same_growth 0 (depth v.1.0) (depth v.1.0) 0 (capped (depth v.1.0)) (capped (depth v.1.0)) 0 refl (omega arith) (omega arith)
fits action.ElseIf v = ap (λ x. listed x no_growth) (else_if_size v.0.line v.1.0 v.1.1.1.0 v.1.1.1.1.0)
fits action.Else v = refl
fits action.NameSubject v = let h : capped (depth (subject_of v.0 v.1.0).expr) ≡ (rest_size v.1.0).least = subject_size v.0 v.1.0 in same_flat (depth (subject_of v.0 v.1.0).expr) (deepest (sizes size_of (args action.NameSubject) v)) (h ∙ rest_capped v.1.0)
fits action.OtherSubject v = same_flat (depth v.0) (deepest (sizes size_of (args action.OtherSubject) v)) (omega arith)
fits action.Bound v = same_flat (depth v.1.0) (deepest (sizes size_of (args action.Bound) v)) (omega arith)
fits action.Rest v = refl
fits action.NoArms v = refl
fits action.MoreArms v = same_flat (arms_depth (v.0 ∷ v.1.0)) (deepest (sizes size_of (args action.MoreArms) v)) (omega arith)
fits action.OneArm v = arm_size v.0.line (named v.1.0 ∷ v.1.1.0) v.1.1.1.1.0 (deepest (sizes size_of (args action.OneArm) v)) (let k : (exprs_size v.1.1.1.1.0).least ≡ capped (exprs_depth v.1.1.1.1.0) = exprs_least v.1.1.1.1.0 in omega (arith, k))
fits action.Otherwise v = let k : (exprs_size v.1.1.0).least ≡ capped (exprs_depth v.1.1.0) = exprs_least v.1.1.0 in same_flat (exprs_depth v.1.1.0) (deepest (sizes size_of (args action.Otherwise) v)) (omega (arith, k))
fits action.Product v = product_size v.0 v.1.0 v.1.1.0 v.1.1.1.1.0 v.1.1.1.1.1.0
fits action.Initial v = initial_size v.1.0 v.1.1.0 v.1.1.1.1.0 v.1.1.1.1.1.0
fits action.NoGroups v = refl
fits action.MoreGroups v = same_growth (length (v.1.0 ∷ v.1.1.0)) 0 (groups_depth (v.1.0 ∷ v.1.1.0)) (capped (length v.1.1.0) + 1) 0 (deepest (sizes size_of (args action.MoreGroups) v)) 0 (omega arith) refl (omega arith)
fits action.Gens v = same_flat (generators_depth (v.0 ∷ v.1.0)) (deepest (sizes size_of (args action.Gens) v)) (omega arith)
fits action.NoGens v = refl
fits action.MoreGens v = same_flat (generators_depth (v.1.0 ∷ v.1.1.0)) (deepest (sizes size_of (args action.MoreGens) v)) (omega arith)
fits action.OneGen v = gen_size (named v.0) v.1.1.0 v.1.1.1.0 v.1.1.1.1.0 (deepest (sizes size_of (args action.OneGen) v)) (omega arith)
fits action.AtName v = refl
fits action.NoDefs v = refl
fits action.SameDefs v = same_flat (defs_depth v.0) (deepest (sizes size_of (args action.SameDefs) v)) (omega arith)
fits action.Defs v = same_flat (defs_depth (v.0 ∷ v.1.0)) (deepest (sizes size_of (args action.Defs) v)) (omega arith)
fits action.SemiDefs v = same_flat (defs_depth v.1.0) (deepest (sizes size_of (args action.SemiDefs) v)) (omega arith)
fits action.OneDef v = def_size (v.0 ∷ v.1.0) v.1.1.1.0 (deepest (sizes size_of (args action.OneDef) v)) (let k : (exprs_size v.1.1.1.0).least ≡ capped (exprs_depth v.1.1.1.0) = exprs_least v.1.1.1.0 in omega (arith, k))
fits action.NoTargets v = refl
fits action.MoreTargets v = refl
fits action.OneTarget v = refl
fits action.NoType v = refl
fits action.SomeType v = refl
fits action.TestFirst v = turn_size true v.0.is_until v.0.test v.1.1.0 (deepest (sizes size_of (args action.TestFirst) v)) (omega arith)
fits action.TestLast v = turn_size false v.1.1.0.is_until v.1.1.0.test v.1.0 (deepest (sizes size_of (args action.TestLast) v)) (omega arith)
fits action.OneTest v = same_flat (depth v.1.0) (deepest (sizes size_of (args action.OneTest) v)) (omega arith)
fits action.NoClauses v = refl
fits action.MoreClauses v = same_flat (clauses_depth (v.0 ∷ v.1.0)) (deepest (sizes size_of (args action.MoreClauses) v)) (omega arith)
fits action.Gathered v = clause_size v.0.line (gathered_of v.0.kind) v.1.1.0 v.1.1.1.0 (deepest (sizes size_of (args action.Gathered) v)) (omega arith)
fits action.Valued v = clause_size v.0.line v.1.1.0 v.1.1.1.0 v.1.1.1.1.0 (deepest (sizes size_of (args action.Valued) v)) (omega arith)
fits action.NoFold v = refl
fits action.PlainFold v = refl
fits action.Directed v = refl
fits action.Reduced v = refl
fits action.NoMask v = refl
fits action.SomeMask v = let h : mask_depth (record { is_unless = is_unless v.0.kind; test = v.1.0 }) ≡ depth v.1.0 = folds.of_mask (is_unless v.0.kind) v.1.0 in same_flat (mask_depth (record { is_unless = is_unless v.0.kind; test = v.1.0 })) (deepest (sizes size_of (args action.SomeMask) v)) (omega (arith, h))

abbrev pub depths : Measure sisal
depths = record { Size = Growth; size = size_of; step = grown; fits = fits }
