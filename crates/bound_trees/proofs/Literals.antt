-- The leaves of an expression are literals where those of its parts are.
use Rattle.std.proofs.Common.{◌≡◌, ◌≤◌, ◌<◌, ℕ, List, [], ◌∷◌, ◌++◌, map, Option, Some, None, length, sym, subst}
use Rattle.std.specs.Prelude.{fold}
use Rattle.sisal_tree.specs.declared.expr.Expr.{Expr}
use Rattle.sisal_tree.specs.declared.expr.ExprKind.TheVariants as tree
use Rattle.sisal_tree.specs.declared.expr.BinaryOperator.{BinaryOperator}
use Rattle.sisal_tree.specs.declared.expr.Constant.TheVariants as constant
use Rattle.sisal_tree.specs.declared.expr.Elements.{Elements}
use Rattle.sisal_tree.specs.declared.expr.Generator.{Generator}
use Rattle.sisal_tree.specs.declared.unit.Header.{Header}
use Rattle.sisal_tree.specs.declared.unit.Item.{Item}
use Rattle.sisal_tree.specs.declared.unit.Item.TheVariants as item
use Rattle.sisal_tree.specs.declared.unit.FunKind.{FunKind}
use Rattle.sisal_tree.specs.declared.unit.FunKind.TheVariants as fun
use Rattle.sisal_grammar.specs.declared.value.Placed.{Placed}
use Rattle.sisal_grammar.specs.declared.value.Selector.{Selector}
use Rattle.sisal_grammar.specs.declared.value.Selector.TheVariants as select
use Rattle.sisal_grammar.specs.Acts.{at, joined as joined_by, chained, selected, followed, posted, content}
use Rattle.sisal_grammar.specs.Phrases.{ElseIf}
use Rattle.sisal_grammar.specs.Spells.{compared, nested, listed}
use Rattle.bound_trees.specs.Leaves.{IsWritten, a_change, a_constant, Leaves, leaves, all_in}
use Rattle.bound_trees.proofs.Every.{Each, joined, left, right}
use Rattle.bound_trees.proofs.Forms.{exprs_leaves, values_leaves, elements_leaves, group_leaves, groups_leaves, in_constant, in_binary, in_select, in_update, in_field, in_replace, in_if, in_array, in_no_elements}

abbrev pub Fine : Leaves → Type 0
Fine cs = Each IsWritten cs

abbrev pub IfFine : {A : Type 0} → (A → Type 0) → Option A → Type 0
IfFine P None = Unit {0}
IfFine P (Some a) = P a

pub made : (xs ys : Leaves) → xs ≡ ys → Fine ys → Fine xs
made xs ys e p = subst Fine (sym e) p

pub both : (xs ys : Leaves) → Fine xs → Fine ys → Fine (xs ++ ys)
both xs ys p q = joined IsWritten xs ys p q

pub gathered : {A : Type 0} (f : A → Leaves) (xs : List A) → Each (λ x. Fine (f x)) xs → Fine (all_in (map f xs))
gathered f [] p = tt
gathered f (x ∷ xs) p = both (f x) (all_in (map f xs)) p.0 (gathered f xs p.1)

pub groups_fine : (gs : List (List Generator)) → Each (λ g. Fine (group_leaves g)) gs → Fine (groups_leaves gs)
groups_fine [] p = tt
groups_fine (g ∷ gs) p = both (group_leaves g) (groups_leaves gs) p.0 (groups_fine gs p.1)

-- ---- operators and selections one after another

pub joined_fine : (a : Expr) (t : BinaryOperator × Expr) → Fine (leaves a) → Fine (leaves t.1) → Fine (leaves (joined_by a t))
joined_fine a t p q = made (leaves (joined_by a t)) (leaves a ++ leaves t.1) (in_binary a.line t.0 a t.1) (both (leaves a) (leaves t.1) p q)

pub chained_fine : (l : List (BinaryOperator × Expr)) (a : Expr) → Fine (leaves a) → Each (λ t. Fine (leaves t.1)) l → Fine (leaves (chained a l))
chained_fine [] a p q = p
chained_fine (t ∷ l) a p q = chained_fine l (joined_by a t) (joined_fine a t p q.0) q.1

pub compared_fine : (c : Option (BinaryOperator × Expr)) (a : Expr) → Fine (leaves a) → IfFine (λ t. Fine (leaves t.1)) c → Fine (leaves (compared a c))
compared_fine None a p q = p
compared_fine (Some t) a p q = joined_fine a t p q

pub selected_fine : (is : List Expr) (a : Expr) → Fine (leaves a) → Fine (exprs_leaves is) → Fine (leaves (fold selected a is))
selected_fine [] a p q = p
selected_fine (i ∷ is) a p q =
    selected_fine is (selected a i) (made (leaves (selected a i)) (leaves a ++ leaves i) (in_select a.line a i) (both (leaves a) (leaves i) p (left IsWritten (leaves i) (exprs_leaves is) q)))
    (right IsWritten (leaves i) (exprs_leaves is) q)

abbrev pub IsFineSelector : Selector → Type 0
IsFineSelector (select.At is) = Fine (exprs_leaves is)
IsFineSelector (select.Change i v) = Fine (leaves i) × Fine (leaves v)
IsFineSelector (select.Field x) = Unit {0}
IsFineSelector (select.Replace vs) = (1 ≤ length vs) × Fine (values_leaves vs)

pub followed_fine : (a : Expr) (s : Selector) → Fine (leaves a) → IsFineSelector s → Fine (leaves (followed a s))
followed_fine a (select.At is) p q = selected_fine is a p q
followed_fine a (select.Change i v) p q =
    made (leaves (at a.line (tree.Update a i v))) (leaves a ++ (leaves i ++ leaves v)) (in_update a.line a i v) (both (leaves a) (leaves i ++ leaves v) p (both (leaves i) (leaves v) q.0 q.1))
followed_fine a (select.Field x) p q = made (leaves (at a.line (tree.Field a x))) (leaves a) (in_field a.line a x) p
followed_fine a (select.Replace vs) p q =
    made (leaves (at a.line (tree.Replace a vs))) (a_change (length vs) ∷ leaves a ++ values_leaves vs) (in_replace a.line a vs) (q.0, both (leaves a) (values_leaves vs) p q.1)

pub posted_fine : (l : List Selector) (a : Expr) → Fine (leaves a) → Each IsFineSelector l → Fine (leaves (posted a l))
posted_fine [] a p q = p
posted_fine (s ∷ l) a p q = posted_fine l (followed a s) (followed_fine a s p q.0) q.1

-- ---- parts that may be absent

pub listed_fine : (o : Option (List Expr)) → IfFine (λ es. Fine (exprs_leaves es)) o → Fine (exprs_leaves (listed o))
listed_fine None p = tt
listed_fine (Some es) p = p

pub array_fine : (l : ℕ) (x : Option ℕ) (o : Option Elements) → IfFine (λ els. Fine (elements_leaves els)) o → Fine (leaves (at l (tree.Array x o)))
array_fine l x None p = made (leaves (at l (tree.Array x None))) [] (in_no_elements l x) tt
array_fine l x (Some els) p = made (leaves (at l (tree.Array x (Some els)))) (elements_leaves els) (in_array l x els) p

pub content_fine : (t : Placed) (o : Option Expr) → IfFine (λ e. Fine (leaves e)) o → Fine (leaves (content t o))
content_fine t None p = made (leaves (at t.line (tree.Constant constant.Nil))) (a_constant constant.Nil ∷ []) (in_constant t.line constant.Nil) (tt, tt)
content_fine t (Some e) p = p

abbrev pub IsFineElse : ElseIf → Type 0
IsFineElse i = Fine (leaves i.test) × Fine (exprs_leaves i.results)

pub if_fine : (l : ℕ) (c : Expr) (es fs : List Expr) → Fine (leaves c) → Fine (exprs_leaves es) → Fine (exprs_leaves fs) → Fine (leaves (at l (tree.If c es fs)))
if_fine l c es fs p q r =
    made (leaves (at l (tree.If c es fs))) (leaves c ++ (exprs_leaves es ++ exprs_leaves fs)) (in_if l c es fs)
    (both (leaves c) (exprs_leaves es ++ exprs_leaves fs) p (both (exprs_leaves es) (exprs_leaves fs) q r))

pub nested_fine : (is : List ElseIf) (es : List Expr) → Each IsFineElse is → Fine (exprs_leaves es) → Fine (exprs_leaves (nested is es))
nested_fine [] es p q = q
nested_fine (i ∷ is) es p q =
    both (leaves (at i.line (tree.If i.test i.results (nested is es)))) [] (if_fine i.line i.test i.results (nested is es) p.0.0 p.0.1 (nested_fine is es p.1 q)) tt

-- ---- units

abbrev pub IsFineKind : FunKind → Type 0
IsFineKind fun.Forward = Unit {0}
IsFineKind fun.Global = Unit {0}
IsFineKind (fun.Defined es) = Fine (exprs_leaves es)

-- a header has a result, and the name of a function is one of so many
abbrev pub IsFineHeader : ℕ → Header → Type 0
IsFineHeader names h = (1 ≤ length h.results) × (h.name.name < names)

abbrev pub IsFineItem : ℕ → Item → Type 0
IsFineItem names (item.Alias d) = Unit {0}
IsFineItem names (item.Function f) = IsFineKind f.kind × IsFineHeader names f.header
