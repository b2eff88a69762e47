-- The leaves of each kind of phrase, and what they are at each of its forms.
use Rattle.std.proofs.Common.{◌≡◌, ℕ, Bool, List, [], ◌∷◌, ◌++◌, Option, Some, None, map, length, sym, ◌∙◌, ap}
use Rattle.std.proofs.lemmas.List.{length-map}
use Rattle.sisal_tree.specs.declared.unit.Named.{Named}
use Rattle.sisal_tree.specs.declared.unit.Written.{Written}
use Rattle.sisal_tree.specs.declared.expr.Expr.{Expr}
use Rattle.sisal_tree.specs.declared.expr.ExprKind.{ExprKind}
use Rattle.sisal_tree.specs.declared.expr.Loop.{Loop}
use Rattle.sisal_tree.specs.declared.expr.Arm.{Arm, roll-Arm}
use Rattle.sisal_tree.specs.declared.expr.Clause.{Clause, roll-Clause}
use Rattle.sisal_tree.specs.declared.expr.Def.{Def, roll-Def}
use Rattle.sisal_tree.specs.declared.expr.Elements.{Elements, roll-Elements}
use Rattle.sisal_tree.specs.declared.expr.FieldValue.{FieldValue}
use Rattle.sisal_tree.specs.declared.expr.Generator.{Generator, roll-Generator}
use Rattle.sisal_tree.specs.declared.expr.Mask.{Mask}
use Rattle.sisal_tree.specs.declared.expr.TagCase.{TagCase, roll-TagCase}
use Rattle.sisal_tree.specs.declared.expr.Turn.{Turn, roll-Turn}
use Rattle.sisal_tree.specs.declared.expr.Target.{Target}
use Rattle.sisal_tree.specs.declared.expr.Constant.{Constant}
use Rattle.sisal_tree.specs.declared.expr.Scalar.{Scalar}
use Rattle.sisal_tree.specs.declared.expr.PrefixOperator.{PrefixOperator}
use Rattle.sisal_tree.specs.declared.expr.BinaryOperator.{BinaryOperator}
use Rattle.sisal_tree.specs.declared.expr.ClauseKind.{ClauseKind}
use Rattle.sisal_tree.specs.declared.expr.ExprKind.TheVariants as expr
use Rattle.sisal_tree.specs.declared.expr.Loop.TheVariants as loop
use Rattle.sisal_tree.specs.declared.expr.ExprKind.TheFolds.{fold-ExprKind, fold-Loop, fold-Arm, fold-Clause, fold-Def, fold-Elements, fold-FieldValue, fold-Generator, fold-Mask, fold-TagCase, fold-Turn, fold-roll-ExprKind, fold-roll-Loop, fold-roll-Arm, fold-roll-Clause, fold-roll-Def, fold-roll-Elements, fold-roll-Generator, fold-roll-TagCase, fold-roll-Turn, fold-roll-Expr, fold-roll-FieldValue, fold-roll-Mask}
use Rattle.sisal_tree.specs.declared.expr.ExprKind.TheOpen.{ExprKind-F, Loop-F}
use Rattle.bound_trees.specs.Leaves.{a_constant, a_record, a_change, a_case, Leaves, leaves, all_in, in_kind, in_generators, in_loop, in_arm, in_clause, in_def, in_elements, in_generator, in_case, in_turn}
use Rattle.typed_tree.specs.Typing.{at}

abbrev pub kind_leaves : ExprKind → Leaves
kind_leaves = fold-ExprKind Leaves Leaves Leaves Leaves Leaves Leaves Leaves Leaves Leaves Leaves Leaves Leaves in_kind in_loop in_arm in_clause in_def in_elements (λ e. e.kind) (λ v. v.value) in_generator (λ m. m.test) in_case in_turn

abbrev pub loop_leaves : Loop → Leaves
loop_leaves = fold-Loop Leaves Leaves Leaves Leaves Leaves Leaves Leaves Leaves Leaves Leaves Leaves Leaves in_kind in_loop in_arm in_clause in_def in_elements (λ e. e.kind) (λ v. v.value) in_generator (λ m. m.test) in_case in_turn

abbrev pub arm_leaves : Arm → Leaves
arm_leaves = fold-Arm Leaves Leaves Leaves Leaves Leaves Leaves Leaves Leaves Leaves Leaves Leaves Leaves in_kind in_loop in_arm in_clause in_def in_elements (λ e. e.kind) (λ v. v.value) in_generator (λ m. m.test) in_case in_turn

abbrev pub clause_leaves : Clause → Leaves
clause_leaves = fold-Clause Leaves Leaves Leaves Leaves Leaves Leaves Leaves Leaves Leaves Leaves Leaves Leaves in_kind in_loop in_arm in_clause in_def in_elements (λ e. e.kind) (λ v. v.value) in_generator (λ m. m.test) in_case in_turn

abbrev pub def_leaves : Def → Leaves
def_leaves = fold-Def Leaves Leaves Leaves Leaves Leaves Leaves Leaves Leaves Leaves Leaves Leaves Leaves in_kind in_loop in_arm in_clause in_def in_elements (λ e. e.kind) (λ v. v.value) in_generator (λ m. m.test) in_case in_turn

abbrev pub elements_leaves : Elements → Leaves
elements_leaves = fold-Elements Leaves Leaves Leaves Leaves Leaves Leaves Leaves Leaves Leaves Leaves Leaves Leaves in_kind in_loop in_arm in_clause in_def in_elements (λ e. e.kind) (λ v. v.value) in_generator (λ m. m.test) in_case in_turn

abbrev pub value_leaves : FieldValue → Leaves
value_leaves = fold-FieldValue Leaves Leaves Leaves Leaves Leaves Leaves Leaves Leaves Leaves Leaves Leaves Leaves in_kind in_loop in_arm in_clause in_def in_elements (λ e. e.kind) (λ v. v.value) in_generator (λ m. m.test) in_case in_turn

abbrev pub generator_leaves : Generator → Leaves
generator_leaves = fold-Generator Leaves Leaves Leaves Leaves Leaves Leaves Leaves Leaves Leaves Leaves Leaves Leaves in_kind in_loop in_arm in_clause in_def in_elements (λ e. e.kind) (λ v. v.value) in_generator (λ m. m.test) in_case in_turn

abbrev pub mask_leaves : Mask → Leaves
mask_leaves = fold-Mask Leaves Leaves Leaves Leaves Leaves Leaves Leaves Leaves Leaves Leaves Leaves Leaves in_kind in_loop in_arm in_clause in_def in_elements (λ e. e.kind) (λ v. v.value) in_generator (λ m. m.test) in_case in_turn

abbrev pub case_leaves : TagCase → Leaves
case_leaves = fold-TagCase Leaves Leaves Leaves Leaves Leaves Leaves Leaves Leaves Leaves Leaves Leaves Leaves in_kind in_loop in_arm in_clause in_def in_elements (λ e. e.kind) (λ v. v.value) in_generator (λ m. m.test) in_case in_turn

abbrev pub turn_leaves : Turn → Leaves
turn_leaves = fold-Turn Leaves Leaves Leaves Leaves Leaves Leaves Leaves Leaves Leaves Leaves Leaves Leaves in_kind in_loop in_arm in_clause in_def in_elements (λ e. e.kind) (λ v. v.value) in_generator (λ m. m.test) in_case in_turn

-- the leaves of all of these
abbrev pub exprs_leaves : List Expr → Leaves
exprs_leaves es = all_in (map leaves es)

abbrev pub values_leaves : List FieldValue → Leaves
values_leaves vs = all_in (map value_leaves vs)

abbrev pub defs_leaves : List Def → Leaves
defs_leaves ds = all_in (map def_leaves ds)

abbrev pub arms_leaves : List Arm → Leaves
arms_leaves bs = all_in (map arm_leaves bs)

abbrev pub clauses_leaves : List Clause → Leaves
clauses_leaves cs = all_in (map clause_leaves cs)

abbrev pub generators_leaves : List Generator → Leaves
generators_leaves gs = all_in (map generator_leaves gs)

abbrev pub group_leaves : List Generator → Leaves
group_leaves g = in_generators (map generator_leaves g)

abbrev pub groups_leaves : List (List Generator) → Leaves
groups_leaves gs = all_in (map in_generators (map (λ g. map generator_leaves g) gs))

pub leaves_at : (l : ℕ) (k : ExprKind) → leaves (at l k) ≡ kind_leaves k
leaves_at l k = fold-roll-Expr Leaves Leaves Leaves Leaves Leaves Leaves Leaves Leaves Leaves Leaves Leaves Leaves in_kind in_loop in_arm in_clause in_def in_elements (λ e. e.kind) (λ v. v.value) in_generator (λ m. m.test) in_case in_turn (record { line = l; kind = k })

pub of_value : (n : Named) (e : Expr) → value_leaves (record { field = n; value = e }) ≡ leaves e
of_value n e = fold-roll-FieldValue Leaves Leaves Leaves Leaves Leaves Leaves Leaves Leaves Leaves Leaves Leaves Leaves in_kind in_loop in_arm in_clause in_def in_elements (λ e. e.kind) (λ v. v.value) in_generator (λ m. m.test) in_case in_turn (record { field = n; value = e })

pub of_mask : (u : Bool) (e : Expr) → mask_leaves (record { is_unless = u; test = e }) ≡ leaves e
of_mask u e = fold-roll-Mask Leaves Leaves Leaves Leaves Leaves Leaves Leaves Leaves Leaves Leaves Leaves Leaves in_kind in_loop in_arm in_clause in_def in_elements (λ e. e.kind) (λ v. v.value) in_generator (λ m. m.test) in_case in_turn (record { is_unless = u; test = e })

pub in_constant : (l : ℕ) (c : Constant) → leaves (at l (expr.Constant c)) ≡ a_constant c ∷ []
in_constant l c = leaves_at l (expr.Constant c) ∙ (ap kind_leaves (sym (expr.rolls-Constant c)) ∙ fold-roll-ExprKind Leaves Leaves Leaves Leaves Leaves Leaves Leaves Leaves Leaves Leaves Leaves Leaves in_kind in_loop in_arm in_clause in_def in_elements (λ e. e.kind) (λ v. v.value) in_generator (λ m. m.test) in_case in_turn (ExprKind-F.Constant c))

pub in_name : (l : ℕ) (x : ℕ) → leaves (at l (expr.Name x)) ≡ []
in_name l x = leaves_at l (expr.Name x) ∙ (ap kind_leaves (sym (expr.rolls-Name x)) ∙ fold-roll-ExprKind Leaves Leaves Leaves Leaves Leaves Leaves Leaves Leaves Leaves Leaves Leaves Leaves in_kind in_loop in_arm in_clause in_def in_elements (λ e. e.kind) (λ v. v.value) in_generator (λ m. m.test) in_case in_turn (ExprKind-F.Name x))

pub in_old : (l : ℕ) (x : ℕ) → leaves (at l (expr.Old x)) ≡ []
in_old l x = leaves_at l (expr.Old x) ∙ (ap kind_leaves (sym (expr.rolls-Old x)) ∙ fold-roll-ExprKind Leaves Leaves Leaves Leaves Leaves Leaves Leaves Leaves Leaves Leaves Leaves Leaves in_kind in_loop in_arm in_clause in_def in_elements (λ e. e.kind) (λ v. v.value) in_generator (λ m. m.test) in_case in_turn (ExprKind-F.Old x))

pub in_group : (l : ℕ) (e : Expr) → leaves (at l (expr.Group e)) ≡ leaves e
in_group l e = leaves_at l (expr.Group e) ∙ (ap kind_leaves (sym (expr.rolls-Group e)) ∙ fold-roll-ExprKind Leaves Leaves Leaves Leaves Leaves Leaves Leaves Leaves Leaves Leaves Leaves Leaves in_kind in_loop in_arm in_clause in_def in_elements (λ e. e.kind) (λ v. v.value) in_generator (λ m. m.test) in_case in_turn (ExprKind-F.Group e))

pub in_call : (l : ℕ) (x : ℕ) (es : List Expr) → leaves (at l (expr.Call x es)) ≡ exprs_leaves es
in_call l x es = leaves_at l (expr.Call x es) ∙ (ap kind_leaves (sym (expr.rolls-Call x es)) ∙ fold-roll-ExprKind Leaves Leaves Leaves Leaves Leaves Leaves Leaves Leaves Leaves Leaves Leaves Leaves in_kind in_loop in_arm in_clause in_def in_elements (λ e. e.kind) (λ v. v.value) in_generator (λ m. m.test) in_case in_turn (ExprKind-F.Call x es))

pub in_convert : (l : ℕ) (s : Scalar) (e : Expr) → leaves (at l (expr.Convert s e)) ≡ leaves e
in_convert l s e = leaves_at l (expr.Convert s e) ∙ (ap kind_leaves (sym (expr.rolls-Convert s e)) ∙ fold-roll-ExprKind Leaves Leaves Leaves Leaves Leaves Leaves Leaves Leaves Leaves Leaves Leaves Leaves in_kind in_loop in_arm in_clause in_def in_elements (λ e. e.kind) (λ v. v.value) in_generator (λ m. m.test) in_case in_turn (ExprKind-F.Convert s e))

pub in_error_of : (l : ℕ) (t : Written) → leaves (at l (expr.ErrorOf t)) ≡ []
in_error_of l t = leaves_at l (expr.ErrorOf t) ∙ (ap kind_leaves (sym (expr.rolls-ErrorOf t)) ∙ fold-roll-ExprKind Leaves Leaves Leaves Leaves Leaves Leaves Leaves Leaves Leaves Leaves Leaves Leaves in_kind in_loop in_arm in_clause in_def in_elements (λ e. e.kind) (λ v. v.value) in_generator (λ m. m.test) in_case in_turn (ExprKind-F.ErrorOf t))

pub in_is_error : (l : ℕ) (e : Expr) → leaves (at l (expr.IsError e)) ≡ leaves e
in_is_error l e = leaves_at l (expr.IsError e) ∙ (ap kind_leaves (sym (expr.rolls-IsError e)) ∙ fold-roll-ExprKind Leaves Leaves Leaves Leaves Leaves Leaves Leaves Leaves Leaves Leaves Leaves Leaves in_kind in_loop in_arm in_clause in_def in_elements (λ e. e.kind) (λ v. v.value) in_generator (λ m. m.test) in_case in_turn (ExprKind-F.IsError e))

pub in_is_tag : (l : ℕ) (x : ℕ) (e : Expr) → leaves (at l (expr.IsTag x e)) ≡ leaves e
in_is_tag l x e = leaves_at l (expr.IsTag x e) ∙ (ap kind_leaves (sym (expr.rolls-IsTag x e)) ∙ fold-roll-ExprKind Leaves Leaves Leaves Leaves Leaves Leaves Leaves Leaves Leaves Leaves Leaves Leaves in_kind in_loop in_arm in_clause in_def in_elements (λ e. e.kind) (λ v. v.value) in_generator (λ m. m.test) in_case in_turn (ExprKind-F.IsTag x e))

pub in_prefix : (l : ℕ) (o : PrefixOperator) (e : Expr) → leaves (at l (expr.Prefix o e)) ≡ leaves e
in_prefix l o e = leaves_at l (expr.Prefix o e) ∙ (ap kind_leaves (sym (expr.rolls-Prefix o e)) ∙ fold-roll-ExprKind Leaves Leaves Leaves Leaves Leaves Leaves Leaves Leaves Leaves Leaves Leaves Leaves in_kind in_loop in_arm in_clause in_def in_elements (λ e. e.kind) (λ v. v.value) in_generator (λ m. m.test) in_case in_turn (ExprKind-F.Prefix o e))

pub in_binary : (l : ℕ) (o : BinaryOperator) (a b : Expr) → leaves (at l (expr.Binary o a b)) ≡ leaves a ++ leaves b
in_binary l o a b = leaves_at l (expr.Binary o a b) ∙ (ap kind_leaves (sym (expr.rolls-Binary o a b)) ∙ fold-roll-ExprKind Leaves Leaves Leaves Leaves Leaves Leaves Leaves Leaves Leaves Leaves Leaves Leaves in_kind in_loop in_arm in_clause in_def in_elements (λ e. e.kind) (λ v. v.value) in_generator (λ m. m.test) in_case in_turn (ExprKind-F.Binary o a b))

pub in_select : (l : ℕ) (a i : Expr) → leaves (at l (expr.Select a i)) ≡ leaves a ++ leaves i
in_select l a i = leaves_at l (expr.Select a i) ∙ (ap kind_leaves (sym (expr.rolls-Select a i)) ∙ fold-roll-ExprKind Leaves Leaves Leaves Leaves Leaves Leaves Leaves Leaves Leaves Leaves Leaves Leaves in_kind in_loop in_arm in_clause in_def in_elements (λ e. e.kind) (λ v. v.value) in_generator (λ m. m.test) in_case in_turn (ExprKind-F.Select a i))

pub in_update : (l : ℕ) (a i v : Expr) → leaves (at l (expr.Update a i v)) ≡ leaves a ++ (leaves i ++ leaves v)
in_update l a i v = leaves_at l (expr.Update a i v) ∙ (ap kind_leaves (sym (expr.rolls-Update a i v)) ∙ fold-roll-ExprKind Leaves Leaves Leaves Leaves Leaves Leaves Leaves Leaves Leaves Leaves Leaves Leaves in_kind in_loop in_arm in_clause in_def in_elements (λ e. e.kind) (λ v. v.value) in_generator (λ m. m.test) in_case in_turn (ExprKind-F.Update a i v))

pub in_field : (l : ℕ) (e : Expr) (x : ℕ) → leaves (at l (expr.Field e x)) ≡ leaves e
in_field l e x = leaves_at l (expr.Field e x) ∙ (ap kind_leaves (sym (expr.rolls-Field e x)) ∙ fold-roll-ExprKind Leaves Leaves Leaves Leaves Leaves Leaves Leaves Leaves Leaves Leaves Leaves Leaves in_kind in_loop in_arm in_clause in_def in_elements (λ e. e.kind) (λ v. v.value) in_generator (λ m. m.test) in_case in_turn (ExprKind-F.Field e x))

pub in_replace : (l : ℕ) (e : Expr) (vs : List FieldValue) → leaves (at l (expr.Replace e vs)) ≡ a_change (length vs) ∷ leaves e ++ values_leaves vs
in_replace l e vs = leaves_at l (expr.Replace e vs) ∙ (ap kind_leaves (sym (expr.rolls-Replace e vs)) ∙ fold-roll-ExprKind Leaves Leaves Leaves Leaves Leaves Leaves Leaves Leaves Leaves Leaves Leaves Leaves in_kind in_loop in_arm in_clause in_def in_elements (λ e. e.kind) (λ v. v.value) in_generator (λ m. m.test) in_case in_turn (ExprKind-F.Replace e vs)) ∙ ap (λ n. a_change n ∷ leaves e ++ values_leaves vs) (length-map vs value_leaves)

pub in_no_elements : (l : ℕ) (x : Option ℕ) → leaves (at l (expr.Array x None)) ≡ []
in_no_elements l x = leaves_at l (expr.Array x None) ∙ (ap kind_leaves (sym (expr.rolls-Array x None)) ∙ fold-roll-ExprKind Leaves Leaves Leaves Leaves Leaves Leaves Leaves Leaves Leaves Leaves Leaves Leaves in_kind in_loop in_arm in_clause in_def in_elements (λ e. e.kind) (λ v. v.value) in_generator (λ m. m.test) in_case in_turn (ExprKind-F.Array x None))

pub in_array : (l : ℕ) (x : Option ℕ) (els : Elements) → leaves (at l (expr.Array x (Some els))) ≡ elements_leaves els
in_array l x els = leaves_at l (expr.Array x (Some els)) ∙ (ap kind_leaves (sym (expr.rolls-Array x (Some els))) ∙ fold-roll-ExprKind Leaves Leaves Leaves Leaves Leaves Leaves Leaves Leaves Leaves Leaves Leaves Leaves in_kind in_loop in_arm in_clause in_def in_elements (λ e. e.kind) (λ v. v.value) in_generator (λ m. m.test) in_case in_turn (ExprKind-F.Array x (Some els)))

pub in_stream : (l : ℕ) (x : Option ℕ) (es : List Expr) → leaves (at l (expr.Stream x es)) ≡ exprs_leaves es
in_stream l x es = leaves_at l (expr.Stream x es) ∙ (ap kind_leaves (sym (expr.rolls-Stream x es)) ∙ fold-roll-ExprKind Leaves Leaves Leaves Leaves Leaves Leaves Leaves Leaves Leaves Leaves Leaves Leaves in_kind in_loop in_arm in_clause in_def in_elements (λ e. e.kind) (λ v. v.value) in_generator (λ m. m.test) in_case in_turn (ExprKind-F.Stream x es))

pub in_record : (l : ℕ) (x : Option ℕ) (vs : List FieldValue) → leaves (at l (expr.Record x vs)) ≡ a_record (length vs) ∷ values_leaves vs
in_record l x vs = leaves_at l (expr.Record x vs) ∙ (ap kind_leaves (sym (expr.rolls-Record x vs)) ∙ fold-roll-ExprKind Leaves Leaves Leaves Leaves Leaves Leaves Leaves Leaves Leaves Leaves Leaves Leaves in_kind in_loop in_arm in_clause in_def in_elements (λ e. e.kind) (λ v. v.value) in_generator (λ m. m.test) in_case in_turn (ExprKind-F.Record x vs)) ∙ ap (λ n. a_record n ∷ values_leaves vs) (length-map vs value_leaves)

pub in_union : (l : ℕ) (x t : ℕ) (e : Expr) → leaves (at l (expr.Union x t e)) ≡ leaves e
in_union l x t e = leaves_at l (expr.Union x t e) ∙ (ap kind_leaves (sym (expr.rolls-Union x t e)) ∙ fold-roll-ExprKind Leaves Leaves Leaves Leaves Leaves Leaves Leaves Leaves Leaves Leaves Leaves Leaves in_kind in_loop in_arm in_clause in_def in_elements (λ e. e.kind) (λ v. v.value) in_generator (λ m. m.test) in_case in_turn (ExprKind-F.Union x t e))

pub in_let : (l : ℕ) (ds : List Def) (es : List Expr) → leaves (at l (expr.Let ds es)) ≡ defs_leaves ds ++ exprs_leaves es
in_let l ds es = leaves_at l (expr.Let ds es) ∙ (ap kind_leaves (sym (expr.rolls-Let ds es)) ∙ fold-roll-ExprKind Leaves Leaves Leaves Leaves Leaves Leaves Leaves Leaves Leaves Leaves Leaves Leaves in_kind in_loop in_arm in_clause in_def in_elements (λ e. e.kind) (λ v. v.value) in_generator (λ m. m.test) in_case in_turn (ExprKind-F.Let ds es))

pub in_if : (l : ℕ) (c : Expr) (es fs : List Expr) → leaves (at l (expr.If c es fs)) ≡ leaves c ++ (exprs_leaves es ++ exprs_leaves fs)
in_if l c es fs = leaves_at l (expr.If c es fs) ∙ (ap kind_leaves (sym (expr.rolls-If c es fs)) ∙ fold-roll-ExprKind Leaves Leaves Leaves Leaves Leaves Leaves Leaves Leaves Leaves Leaves Leaves Leaves in_kind in_loop in_arm in_clause in_def in_elements (λ e. e.kind) (λ v. v.value) in_generator (λ m. m.test) in_case in_turn (ExprKind-F.If c es fs))

pub in_tag_case : (l : ℕ) (c : TagCase) → leaves (at l (expr.TagCase c)) ≡ case_leaves c
in_tag_case l c = leaves_at l (expr.TagCase c) ∙ (ap kind_leaves (sym (expr.rolls-TagCase c)) ∙ fold-roll-ExprKind Leaves Leaves Leaves Leaves Leaves Leaves Leaves Leaves Leaves Leaves Leaves Leaves in_kind in_loop in_arm in_clause in_def in_elements (λ e. e.kind) (λ v. v.value) in_generator (λ m. m.test) in_case in_turn (ExprKind-F.TagCase c))

pub in_for : (l : ℕ) (p : Loop) → leaves (at l (expr.For p)) ≡ loop_leaves p
in_for l p = leaves_at l (expr.For p) ∙ (ap kind_leaves (sym (expr.rolls-For p)) ∙ fold-roll-ExprKind Leaves Leaves Leaves Leaves Leaves Leaves Leaves Leaves Leaves Leaves Leaves Leaves in_kind in_loop in_arm in_clause in_def in_elements (λ e. e.kind) (λ v. v.value) in_generator (λ m. m.test) in_case in_turn (ExprKind-F.For p))

pub in_product : (gs : List (List Generator)) (ds : List Def) (cs : List Clause) → loop_leaves (loop.Product gs ds cs) ≡ groups_leaves gs ++ (defs_leaves ds ++ clauses_leaves cs)
in_product gs ds cs = ap loop_leaves (sym (loop.rolls-Product gs ds cs)) ∙ fold-roll-Loop Leaves Leaves Leaves Leaves Leaves Leaves Leaves Leaves Leaves Leaves Leaves Leaves in_kind in_loop in_arm in_clause in_def in_elements (λ e. e.kind) (λ v. v.value) in_generator (λ m. m.test) in_case in_turn (Loop-F.Product gs ds cs)

pub in_initial : (ds : List Def) (t : Turn) (cs : List Clause) → loop_leaves (loop.Initial ds t cs) ≡ defs_leaves ds ++ (turn_leaves t ++ clauses_leaves cs)
in_initial ds t cs = ap loop_leaves (sym (loop.rolls-Initial ds t cs)) ∙ fold-roll-Loop Leaves Leaves Leaves Leaves Leaves Leaves Leaves Leaves Leaves Leaves Leaves Leaves in_kind in_loop in_arm in_clause in_def in_elements (λ e. e.kind) (λ v. v.value) in_generator (λ m. m.test) in_case in_turn (Loop-F.Initial ds t cs)

pub of_arm : (l : ℕ) (ts : List Named) (es : List Expr) → arm_leaves (roll-Arm (record { line = l; tags = ts; results = es })) ≡ exprs_leaves es
of_arm l ts es = fold-roll-Arm Leaves Leaves Leaves Leaves Leaves Leaves Leaves Leaves Leaves Leaves Leaves Leaves in_kind in_loop in_arm in_clause in_def in_elements (λ e. e.kind) (λ v. v.value) in_generator (λ m. m.test) in_case in_turn (record { line = l; tags = ts; results = es })

pub of_no_mask : (l : ℕ) (k : ClauseKind) (e : Expr) → clause_leaves (roll-Clause (record { line = l; kind = k; value = e; mask = None })) ≡ leaves e ++ []
of_no_mask l k e = fold-roll-Clause Leaves Leaves Leaves Leaves Leaves Leaves Leaves Leaves Leaves Leaves Leaves Leaves in_kind in_loop in_arm in_clause in_def in_elements (λ e. e.kind) (λ v. v.value) in_generator (λ m. m.test) in_case in_turn (record { line = l; kind = k; value = e; mask = None })

pub of_a_mask : (l : ℕ) (k : ClauseKind) (e : Expr) (m : Mask) → clause_leaves (roll-Clause (record { line = l; kind = k; value = e; mask = Some m })) ≡ leaves e ++ mask_leaves m
of_a_mask l k e m = fold-roll-Clause Leaves Leaves Leaves Leaves Leaves Leaves Leaves Leaves Leaves Leaves Leaves Leaves in_kind in_loop in_arm in_clause in_def in_elements (λ e. e.kind) (λ v. v.value) in_generator (λ m. m.test) in_case in_turn (record { line = l; kind = k; value = e; mask = Some m })

pub of_def : (ts : List Target) (es : List Expr) → def_leaves (roll-Def (record { targets = ts; values = es })) ≡ exprs_leaves es
of_def ts es = fold-roll-Def Leaves Leaves Leaves Leaves Leaves Leaves Leaves Leaves Leaves Leaves Leaves Leaves in_kind in_loop in_arm in_clause in_def in_elements (λ e. e.kind) (λ v. v.value) in_generator (λ m. m.test) in_case in_turn (record { targets = ts; values = es })

pub of_elements : (e : Expr) (es : List Expr) → elements_leaves (roll-Elements (record { lower = e; values = es })) ≡ leaves e ++ exprs_leaves es
of_elements e es = fold-roll-Elements Leaves Leaves Leaves Leaves Leaves Leaves Leaves Leaves Leaves Leaves Leaves Leaves in_kind in_loop in_arm in_clause in_def in_elements (λ e. e.kind) (λ v. v.value) in_generator (λ m. m.test) in_case in_turn (record { lower = e; values = es })

pub of_no_end : (n : Named) (e : Expr) (x : Option ℕ) → generator_leaves (roll-Generator (record { name = n; from = e; to = None; at = x })) ≡ leaves e ++ []
of_no_end n e x = fold-roll-Generator Leaves Leaves Leaves Leaves Leaves Leaves Leaves Leaves Leaves Leaves Leaves Leaves in_kind in_loop in_arm in_clause in_def in_elements (λ e. e.kind) (λ v. v.value) in_generator (λ m. m.test) in_case in_turn (record { name = n; from = e; to = None; at = x })

pub of_an_end : (n : Named) (e f : Expr) (x : Option ℕ) → generator_leaves (roll-Generator (record { name = n; from = e; to = Some f; at = x })) ≡ leaves e ++ leaves f
of_an_end n e f x = fold-roll-Generator Leaves Leaves Leaves Leaves Leaves Leaves Leaves Leaves Leaves Leaves Leaves Leaves in_kind in_loop in_arm in_clause in_def in_elements (λ e. e.kind) (λ v. v.value) in_generator (λ m. m.test) in_case in_turn (record { name = n; from = e; to = Some f; at = x })

pub of_no_otherwise : (x : Option ℕ) (e : Expr) (bs : List Arm) → case_leaves (roll-TagCase (record { name = x; subject = e; arms = bs; otherwise = None })) ≡ a_case (length bs) ∷ leaves e ++ (arms_leaves bs ++ [])
of_no_otherwise x e bs = fold-roll-TagCase Leaves Leaves Leaves Leaves Leaves Leaves Leaves Leaves Leaves Leaves Leaves Leaves in_kind in_loop in_arm in_clause in_def in_elements (λ e. e.kind) (λ v. v.value) in_generator (λ m. m.test) in_case in_turn (record { name = x; subject = e; arms = bs; otherwise = None }) ∙ ap (λ n. a_case n ∷ leaves e ++ (arms_leaves bs ++ [])) (length-map bs arm_leaves)

pub of_an_otherwise : (x : Option ℕ) (e : Expr) (bs : List Arm) (es : List Expr) → case_leaves (roll-TagCase (record { name = x; subject = e; arms = bs; otherwise = Some es })) ≡ a_case (length bs) ∷ leaves e ++ (arms_leaves bs ++ exprs_leaves es)
of_an_otherwise x e bs es = fold-roll-TagCase Leaves Leaves Leaves Leaves Leaves Leaves Leaves Leaves Leaves Leaves Leaves Leaves in_kind in_loop in_arm in_clause in_def in_elements (λ e. e.kind) (λ v. v.value) in_generator (λ m. m.test) in_case in_turn (record { name = x; subject = e; arms = bs; otherwise = Some es }) ∙ ap (λ n. a_case n ∷ leaves e ++ (arms_leaves bs ++ exprs_leaves es)) (length-map bs arm_leaves)

pub of_turn : (f u : Bool) (e : Expr) (ds : List Def) → turn_leaves (roll-Turn (record { is_first = f; is_until = u; test = e; defs = ds })) ≡ leaves e ++ defs_leaves ds
of_turn f u e ds = fold-roll-Turn Leaves Leaves Leaves Leaves Leaves Leaves Leaves Leaves Leaves Leaves Leaves Leaves in_kind in_loop in_arm in_clause in_def in_elements (λ e. e.kind) (λ v. v.value) in_generator (λ m. m.test) in_case in_turn (record { is_first = f; is_until = u; test = e; defs = ds })
