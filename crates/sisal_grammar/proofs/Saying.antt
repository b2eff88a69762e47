-- What the tokens of each rule of the factored grammar say, in terms of the phrases of the manual's: the
-- rest of a phrase tells how whatever stands before it goes on.
use Rattle.std.specs.Prelude.{◌≡◌, ℕ, List, [], ◌∷◌, ◌++◌, Option, Some, None, slice_index_or}
use Rattle.pushdown.specs.Meaning.{Scheme}
use Rattle.sisal_tree.specs.Word.TheVariants as word
use Rattle.sisal_tree.specs.Sign.TheVariants as sign
use Rattle.sisal_tree.specs.declared.unit.Written.{Written}
use Rattle.sisal_tree.specs.declared.unit.Field.{Field}
use Rattle.sisal_tree.specs.declared.expr.Expr.{Expr}
use Rattle.sisal_tree.specs.declared.expr.ExprKind.TheVariants as tree
use Rattle.sisal_tree.specs.declared.expr.BinaryOperator.{BinaryOperator}
use Rattle.sisal_tree.specs.declared.expr.Def.{Def}
use Rattle.sisal_tree.specs.declared.expr.ClauseKind.{ClauseKind}
use Rattle.sisal_grammar.specs.declared.value.Placed.{Placed}
use Rattle.sisal_grammar.specs.declared.value.Subject.{Subject}
use Rattle.sisal_grammar.specs.Acts.{sisal, at, asked, bracketed, called, subject_of}
use Rattle.sisal_grammar.specs.Phrases.{Phrase, ElseIf, Meant, many, maybe, unit, definition, ty, field, fields, tagf, header, exprs, expr, conj, inv, rel, cat, sum, term, neg, post, selector, fv, prim, arm, defs, def, target, group, gen, turn, test, clause, red, mask, name, comma_name, semicolon, semi_field, semi_tagf, comma_type, colon_type, comma_expr, colon_expr, or_conj, and_inv, comparison, or_sum, sum_term, term_neg, semi_fv, elements, else_if, binding, otherwise, semi_def, comma_target, cross_group, dot_gen, at_name, folding}
use Rattle.sisal_grammar.specs.Plan.{plan}
use Rattle.sisal_grammar.specs.Sorts.{Sort, Val}
use Rattle.sisal_grammar.specs.Sorts as sort
use Rattle.sisal_grammar.specs.Spells.{Spells, IsWord, IsSign, IsName, listed, nested, folded}

-- any number of phrases, and a semicolon or none
pub record Ended (p : Phrase) (ts : List Placed) (l : List (Meant p)) : Type 0 where
  pub front : List Placed
  pub back : List Placed
  pub last : Option (Unit {0})
  pub tokens : ts ≡ front ++ back
  pub all : Spells (many p) front l
  pub closed : Spells (maybe semicolon) back last

abbrev pub TagsEnd : List Placed → Type 0
TagsEnd ts = (l : List (Unit {0})) × Ended semi_tagf ts l

-- fields or none, and what they are after others and a semicolon
pub record FieldsMore (ts : List Placed) (l : List Field) : Type 0 where
  pub found : Option (List Field)
  pub same : l ≡ listed found
  pub spelled : Spells (maybe fields) ts found
  pub further : (t : Placed) → IsSign sign.SSemicolon t → Ended semi_field (t ∷ ts) l

pub record ListedExprs (ts : List Placed) (l : List Expr) : Type 0 where
  pub found : Option (List Expr)
  pub same : l ≡ listed found
  pub spelled : Spells (maybe exprs) ts found

pub record ListedDefs (ts : List Placed) (l : List Def) : Type 0 where
  pub found : Option (List Def)
  pub same : l ≡ listed found
  pub spelled : Spells (maybe defs) ts found

-- one operator with its operand, or none
abbrev pub as_tail : Option (BinaryOperator × Expr) → List (BinaryOperator × Expr)
as_tail None = []
as_tail (Some c) = c ∷ []

pub record Compares (ts : List Placed) (l : List (BinaryOperator × Expr)) : Type 0 where
  pub found : Option (BinaryOperator × Expr)
  pub same : l ≡ as_tail found
  pub spelled : Spells (maybe comparison) ts found

pub record Folds (ts : List Placed) (k : ClauseKind) : Type 0 where
  pub found : Option ClauseKind
  pub same : k ≡ folded found
  pub spelled : Spells (maybe folding) ts found

abbrev pub Asks : List Placed → Option ℕ → Type 0
Asks ts o = (t v w : Placed) (us : List Placed) (e : Expr) → IsWord word.WIs t → IsSign sign.SOpenParen v → Spells expr us e → IsSign sign.SCloseParen w
    → Spells prim (t ∷ (ts ++ (v ∷ (us ++ (w ∷ []))))) (asked t.line o e)

-- the rest of an `if` after its first results
pub record Elses (ts : List Placed) (es : List Expr) : Type 0 where
  pub ifs : List ElseIf
  pub results : List Expr
  pub front : List Placed
  pub mark : Placed
  pub back : List Placed
  pub tokens : ts ≡ front ++ (mark ∷ back)
  pub same : es ≡ nested ifs results
  pub all : Spells (many else_if) front ifs
  pub is_else : IsWord word.WElse mark
  pub last : Spells exprs back results

-- [name ":="] expr
pub record HasSubject (ts : List Placed) (s : Subject) : Type 0 where
  pub front : List Placed
  pub back : List Placed
  pub tokens : ts ≡ front ++ back
  pub bound : Spells (maybe binding) front s.name
  pub union : Spells expr back s.expr

-- the rules in the order of the grammar
pub data Role : Type 0 where
  is_unit : Role
  is_names : Role
  is_semi : Role
  is_items : Role
  is_item : Role
  is_type : Role
  is_fields : Role
  is_fields_more : Role
  is_field : Role
  is_tagfs : Role
  is_tagfs_more : Role
  is_tagf : Role
  is_tag_type : Role
  is_header : Role
  is_types : Role
  is_exprs : Role
  is_exprs_more : Role
  is_args : Role
  is_expr : Role
  is_expr_more : Role
  is_conj : Role
  is_conj_more : Role
  is_inv : Role
  is_rel : Role
  is_rel_more : Role
  is_cat : Role
  is_cat_more : Role
  is_sum : Role
  is_sum_more : Role
  is_term : Role
  is_term_more : Role
  is_neg : Role
  is_post : Role
  is_posts : Role
  is_selector : Role
  is_index : Role
  is_fv : Role
  is_fvs : Role
  is_fvs_more : Role
  is_prim : Role
  is_call : Role
  is_other : Role
  is_is_what : Role
  is_named : Role
  is_elements : Role
  is_content : Role
  is_elses : Role
  is_subject : Role
  is_subject_more : Role
  is_o_expr : Role
  is_o_conj : Role
  is_o_inv : Role
  is_o_rel : Role
  is_o_cat : Role
  is_o_sum : Role
  is_o_term : Role
  is_o_neg : Role
  is_o_post : Role
  is_arms : Role
  is_arm : Role
  is_otherwise : Role
  is_loop : Role
  is_groups : Role
  is_group : Role
  is_gens : Role
  is_gen : Role
  is_to : Role
  is_at : Role
  is_body : Role
  is_defs : Role
  is_defs_more : Role
  is_defs_rest : Role
  is_def : Role
  is_targets : Role
  is_target : Role
  is_of_type : Role
  is_turn : Role
  is_test : Role
  is_clauses : Role
  is_clause : Role
  is_fold : Role
  is_red : Role
  is_mask : Role

abbrev pub sort_of : Role → Sort
sort_of is_unit = sort.an_outline
sort_of is_names = sort.names
sort_of is_semi = sort.nothing
sort_of is_items = sort.items
sort_of is_item = sort.an_item
sort_of is_type = sort.a_type
sort_of is_fields = sort.fields
sort_of is_fields_more = sort.fields
sort_of is_field = sort.a_field
sort_of is_tagfs = sort.nothing
sort_of is_tagfs_more = sort.nothing
sort_of is_tagf = sort.nothing
sort_of is_tag_type = sort.nothing
sort_of is_header = sort.a_header
sort_of is_types = sort.types
sort_of is_exprs = sort.exprs
sort_of is_exprs_more = sort.exprs
sort_of is_args = sort.exprs
sort_of is_expr = sort.an_expr
sort_of is_expr_more = sort.tail
sort_of is_conj = sort.an_expr
sort_of is_conj_more = sort.tail
sort_of is_inv = sort.an_expr
sort_of is_rel = sort.an_expr
sort_of is_rel_more = sort.tail
sort_of is_cat = sort.an_expr
sort_of is_cat_more = sort.tail
sort_of is_sum = sort.an_expr
sort_of is_sum_more = sort.tail
sort_of is_term = sort.an_expr
sort_of is_term_more = sort.tail
sort_of is_neg = sort.an_expr
sort_of is_post = sort.an_expr
sort_of is_posts = sort.posts
sort_of is_selector = sort.a_post
sort_of is_index = sort.a_bracket
sort_of is_fv = sort.a_value
sort_of is_fvs = sort.values
sort_of is_fvs_more = sort.values
sort_of is_prim = sort.an_expr
sort_of is_call = sort.maybe_exprs
sort_of is_other = sort.an_expr
sort_of is_is_what = sort.maybe_name
sort_of is_named = sort.maybe_name
sort_of is_elements = sort.maybe_elements
sort_of is_content = sort.maybe_expr
sort_of is_elses = sort.exprs
sort_of is_subject = sort.a_subject
sort_of is_subject_more = sort.a_rest
sort_of is_o_expr = sort.an_expr
sort_of is_o_conj = sort.an_expr
sort_of is_o_inv = sort.an_expr
sort_of is_o_rel = sort.an_expr
sort_of is_o_cat = sort.an_expr
sort_of is_o_sum = sort.an_expr
sort_of is_o_term = sort.an_expr
sort_of is_o_neg = sort.an_expr
sort_of is_o_post = sort.an_expr
sort_of is_arms = sort.arms
sort_of is_arm = sort.an_arm
sort_of is_otherwise = sort.maybe_exprs
sort_of is_loop = sort.a_loop
sort_of is_groups = sort.groups
sort_of is_group = sort.gens
sort_of is_gens = sort.gens
sort_of is_gen = sort.a_gen
sort_of is_to = sort.maybe_expr
sort_of is_at = sort.maybe_name
sort_of is_body = sort.defs
sort_of is_defs = sort.defs
sort_of is_defs_more = sort.defs
sort_of is_defs_rest = sort.defs
sort_of is_def = sort.a_def
sort_of is_targets = sort.targets
sort_of is_target = sort.a_target
sort_of is_of_type = sort.maybe_type
sort_of is_turn = sort.a_turn
sort_of is_test = sort.a_test
sort_of is_clauses = sort.clauses
sort_of is_clause = sort.a_clause
sort_of is_fold = sort.a_kind
sort_of is_red = sort.a_reduction
sort_of is_mask = sort.maybe_mask

-- the tokens of a rule, and their value
abbrev pub says_of : (r : Role) → List Placed → Val (sort_of r) → Type 0
says_of is_unit ts v = Spells unit ts v
says_of is_names ts v = Spells (many comma_name) ts v
says_of is_semi ts v = (s : Option (Unit {0})) × Spells (maybe semicolon) ts s
says_of is_items ts v = Spells (many definition) ts v
says_of is_item ts v = Spells definition ts v
says_of is_type ts v = Spells ty ts v
says_of is_fields ts v = Ended semi_field ts v
says_of is_fields_more ts v = FieldsMore ts v
says_of is_field ts v = Spells field ts v
says_of is_tagfs ts v = TagsEnd ts
says_of is_tagfs_more ts v = (t : Placed) → IsSign sign.SSemicolon t → TagsEnd (t ∷ ts)
says_of is_tagf ts v = Spells tagf ts tt
says_of is_tag_type ts v = (w : Option Written) × Spells (maybe colon_type) ts w
says_of is_header ts v = Spells header ts v
says_of is_types ts v = Spells (many comma_type) ts v
says_of is_exprs ts v = Spells exprs ts v
says_of is_exprs_more ts v = Spells (many comma_expr) ts v
says_of is_args ts v = ListedExprs ts v
says_of is_expr ts v = Spells expr ts v
says_of is_expr_more ts v = Spells (many or_conj) ts v
says_of is_conj ts v = Spells conj ts v
says_of is_conj_more ts v = Spells (many and_inv) ts v
says_of is_inv ts v = Spells inv ts v
says_of is_rel ts v = Spells rel ts v
says_of is_rel_more ts v = Compares ts v
says_of is_cat ts v = Spells cat ts v
says_of is_cat_more ts v = Spells (many or_sum) ts v
says_of is_sum ts v = Spells sum ts v
says_of is_sum_more ts v = Spells (many sum_term) ts v
says_of is_term ts v = Spells term ts v
says_of is_term_more ts v = Spells (many term_neg) ts v
says_of is_neg ts v = Spells neg ts v
says_of is_post ts v = Spells post ts v
says_of is_posts ts v = Spells (many selector) ts v
says_of is_selector ts v = Spells selector ts v
says_of is_index ts v = (t : Placed) (ws : List Placed) (e : Expr) → IsSign sign.SOpenBracket t → Spells expr ws e → Spells selector (t ∷ (ws ++ ts)) (bracketed e v)
says_of is_fv ts v = Spells fv ts v
says_of is_fvs ts v = Ended semi_fv ts v
says_of is_fvs_more ts v = (t : Placed) → IsSign sign.SSemicolon t → Ended semi_fv (t ∷ ts) v
says_of is_prim ts v = Spells prim ts v
says_of is_call ts v = (t : Placed) → IsName t → Spells prim (t ∷ ts) (called t v)
says_of is_other ts v = Spells prim ts v
says_of is_is_what ts v = Asks ts v
says_of is_named ts v = Spells (maybe name) ts v
says_of is_elements ts v = Spells (maybe elements) ts v
says_of is_content ts v = Spells (maybe colon_expr) ts v
says_of is_elses ts v = Elses ts v
says_of is_subject ts v = HasSubject ts v
says_of is_subject_more ts v = (t : Placed) → IsName t → HasSubject (t ∷ ts) (subject_of t v)
says_of is_o_expr ts v = Spells expr ts v
says_of is_o_conj ts v = Spells conj ts v
says_of is_o_inv ts v = Spells inv ts v
says_of is_o_rel ts v = Spells rel ts v
says_of is_o_cat ts v = Spells cat ts v
says_of is_o_sum ts v = Spells sum ts v
says_of is_o_term ts v = Spells term ts v
says_of is_o_neg ts v = Spells neg ts v
says_of is_o_post ts v = Spells post ts v
says_of is_arms ts v = Spells (many arm) ts v
says_of is_arm ts v = Spells arm ts v
says_of is_otherwise ts v = Spells (maybe otherwise) ts v
says_of is_loop ts v = (t u w : Placed) → IsWord word.WFor t → IsWord word.WEnd u → IsWord word.WFor w → Spells prim (t ∷ (ts ++ (u ∷ w ∷ []))) (at t.line (tree.For v))
says_of is_groups ts v = Spells (many cross_group) ts v
says_of is_group ts v = Spells group ts v
says_of is_gens ts v = Spells (many dot_gen) ts v
says_of is_gen ts v = Spells gen ts v
says_of is_to ts v = Spells (maybe comma_expr) ts v
says_of is_at ts v = Spells (maybe at_name) ts v
says_of is_body ts v = ListedDefs ts v
says_of is_defs ts v = Spells defs ts v
says_of is_defs_more ts v = Ended semi_def ts v
says_of is_defs_rest ts v = (t : Placed) → IsSign sign.SSemicolon t → Ended semi_def (t ∷ ts) v
says_of is_def ts v = Spells def ts v
says_of is_targets ts v = Spells (many comma_target) ts v
says_of is_target ts v = Spells target ts v
says_of is_of_type ts v = Spells (maybe colon_type) ts v
says_of is_turn ts v = Spells turn ts v
says_of is_test ts v = Spells test ts v
says_of is_clauses ts v = Spells (many clause) ts v
says_of is_clause ts v = Spells clause ts v
says_of is_fold ts v = Folds ts v
says_of is_red ts v = Spells red ts v
says_of is_mask ts v = Spells (maybe mask) ts v

abbrev pub role_at : ℕ → Role
role_at n = slice_index_or (is_unit ∷ is_names ∷ is_semi ∷ is_items ∷ is_item ∷ is_type ∷ is_fields ∷ is_fields_more ∷ is_field ∷ is_tagfs ∷ is_tagfs_more ∷ is_tagf ∷ is_tag_type ∷ is_header ∷ is_types ∷ is_exprs ∷ is_exprs_more ∷ is_args ∷ is_expr ∷ is_expr_more ∷ is_conj ∷ is_conj_more ∷ is_inv ∷ is_rel ∷ is_rel_more ∷ is_cat ∷ is_cat_more ∷ is_sum ∷ is_sum_more ∷ is_term ∷ is_term_more ∷ is_neg ∷ is_post ∷ is_posts ∷ is_selector ∷ is_index ∷ is_fv ∷ is_fvs ∷ is_fvs_more ∷ is_prim ∷ is_call ∷ is_other ∷ is_is_what ∷ is_named ∷ is_elements ∷ is_content ∷ is_elses ∷ is_subject ∷ is_subject_more ∷ is_o_expr ∷ is_o_conj ∷ is_o_inv ∷ is_o_rel ∷ is_o_cat ∷ is_o_sum ∷ is_o_term ∷ is_o_neg ∷ is_o_post ∷ is_arms ∷ is_arm ∷ is_otherwise ∷ is_loop ∷ is_groups ∷ is_group ∷ is_gens ∷ is_gen ∷ is_to ∷ is_at ∷ is_body ∷ is_defs ∷ is_defs_more ∷ is_defs_rest ∷ is_def ∷ is_targets ∷ is_target ∷ is_of_type ∷ is_turn ∷ is_test ∷ is_clauses ∷ is_clause ∷ is_fold ∷ is_red ∷ is_mask ∷ []) n is_unit

-- the kind of value of each rule, as `plan` has it
abbrev pub roles : Scheme sisal
roles = record { action = plan.action; kind = λ n. sort_of (role_at n) }

abbrev pub says : (n : ℕ) → List Placed → Val (roles.kind n) → Type 0
says n = says_of (role_at n)
