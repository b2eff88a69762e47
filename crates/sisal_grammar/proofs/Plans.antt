-- The actions fit their productions.
use Rattle.std.proofs.Common.{◌≡◌, ℕ, ◌<◌, List, [], ◌∷◌, Bool, true, false, ◌&&◌, nat_eq, map, refl, sym, ◌∙◌, ap, slice_index_or}
use Rattle.std.proofs.lemmas.Bool.{eqb-true}
use Rattle.pushdown.specs.Grammar.{Grammar}
use Rattle.pushdown.specs.Rows.{each_below}
use Rattle.pushdown.specs.Meaning.{Scheme, Typed, kind_of}
use Rattle.pushdown.proofs.RowTests.{each_holds}
use Rattle.sisal_grammar.specs.Sorts.{Sort, a_token, nothing, an_outline, names, an_item, items, a_type, types, a_field, fields, a_header, an_expr, exprs, maybe_expr, maybe_exprs, tail, a_post, posts, a_bracket, a_value, values, maybe_name, maybe_elements, a_subject, a_rest, an_arm, arms, a_loop, a_gen, gens, groups, a_def, defs, a_target, targets, maybe_type, a_turn, a_test, a_clause, clauses, a_kind, a_reduction, maybe_mask, args, gives}
use Rattle.sisal_grammar.specs.Acts.{sisal}
use Rattle.sisal_grammar.specs.Language.{language}
use Rattle.sisal_grammar.specs.Plan.{plan, sorts}

both : (a b : Bool) → (a && b) ≡ true → (a ≡ true) × (b ≡ true)
both true b h = (refl, h)
both false b h = let x : false ≡ true = h in cc

number_of : Sort → ℕ
number_of a_token = 0
number_of nothing = 1
number_of an_outline = 2
number_of names = 3
number_of an_item = 4
number_of items = 5
number_of a_type = 6
number_of types = 7
number_of a_field = 8
number_of fields = 9
number_of a_header = 10
number_of an_expr = 11
number_of exprs = 12
number_of maybe_expr = 13
number_of maybe_exprs = 14
number_of tail = 15
number_of a_post = 16
number_of posts = 17
number_of a_bracket = 18
number_of a_value = 19
number_of values = 20
number_of maybe_name = 21
number_of maybe_elements = 22
number_of a_subject = 23
number_of a_rest = 24
number_of an_arm = 25
number_of arms = 26
number_of a_loop = 27
number_of a_gen = 28
number_of gens = 29
number_of groups = 30
number_of a_def = 31
number_of defs = 32
number_of a_target = 33
number_of targets = 34
number_of maybe_type = 35
number_of a_turn = 36
number_of a_test = 37
number_of a_clause = 38
number_of clauses = 39
number_of a_kind = 40
number_of a_reduction = 41
number_of maybe_mask = 42

abbrev sort_at : ℕ → Sort
sort_at n = slice_index_or (a_token ∷ nothing ∷ an_outline ∷ names ∷ an_item ∷ items ∷ a_type ∷ types ∷ a_field ∷ fields ∷ a_header ∷ an_expr ∷ exprs ∷ maybe_expr ∷ maybe_exprs ∷ tail ∷ a_post ∷ posts ∷ a_bracket ∷ a_value ∷ values ∷ maybe_name ∷ maybe_elements ∷ a_subject ∷ a_rest ∷ an_arm ∷ arms ∷ a_loop ∷ a_gen ∷ gens ∷ groups ∷ a_def ∷ defs ∷ a_target ∷ targets ∷ maybe_type ∷ a_turn ∷ a_test ∷ a_clause ∷ clauses ∷ a_kind ∷ a_reduction ∷ maybe_mask ∷ []) n a_token

sort_back : (k : Sort) → sort_at (number_of k) ≡ k
unfolding number_of
sort_back a_token = refl
sort_back _ = refl

same_sort : (j k : Sort) → nat_eq (number_of j) (number_of k) ≡ true → j ≡ k
same_sort j k h = sym (sort_back j) ∙ (ap sort_at (eqb-true (number_of j) (number_of k) h) ∙ sort_back k)

abbrev same_sorts : List Sort → List Sort → Bool
same_sorts [] [] = true
same_sorts [] (k ∷ ks) = false
same_sorts (j ∷ js) [] = false
same_sorts (j ∷ js) (k ∷ ks) = nat_eq (number_of j) (number_of k) && same_sorts js ks

all_same : (js ks : List Sort) → same_sorts js ks ≡ true → js ≡ ks
all_same [] [] h = refl
all_same [] (k ∷ ks) h = let x : false ≡ true = h in cc
all_same (j ∷ js) [] h = let x : false ≡ true = h in cc
all_same (j ∷ js) (k ∷ ks) h =
    let b : (nat_eq (number_of j) (number_of k) ≡ true) × (same_sorts js ks ≡ true) = both (nat_eq (number_of j) (number_of k)) (same_sorts js ks) h in
    let first : j ≡ k = same_sort j k b.0 in
    let rest : js ≡ ks = all_same js ks b.1 in
    cc

-- whether the action of a production takes the values of its symbols, and gives that of its rule
abbrev takes_right : Grammar → Scheme sisal → ℕ → Bool
takes_right g h p = same_sorts (map (kind_of sisal h) (g.body p)) (args (h.action p))

abbrev gives_right : Grammar → Scheme sisal → ℕ → Bool
gives_right g h p = nat_eq (number_of (gives (h.action p))) (number_of (h.kind (g.head p)))

abbrev is_typed : Grammar → Scheme sisal → ℕ → Bool
is_typed g h p = takes_right g h p && gives_right g h p

typed : (g : Grammar) (h : Scheme sisal) → each_below g.productions (is_typed g h) ≡ true → Typed g sisal h
typed g h e = record {
  takes = λ p lt. all_same (map (kind_of sisal h) (g.body p)) (args (h.action p)) (both (takes_right g h p) (gives_right g h p) (each_holds g.productions (is_typed g h) e p lt)).0;
  makes = λ p lt. same_sort (gives (h.action p)) (h.kind (g.head p)) (both (takes_right g h p) (gives_right g h p) (each_holds g.productions (is_typed g h) e p lt)).1;
}

test : each_below language.productions (is_typed language plan) ≡ true
unfolding language plan sorts number_of
test = refl

pub plan_typed : Typed language sisal plan
plan_typed = typed language plan test

-- what the whole text makes
pub first_kind : plan.kind 0 ≡ an_outline
unfolding plan sorts
first_kind = refl
