-- The depth of each kind of phrase, and what it is at each of its forms.
use Rattle.std.proofs.Common.{◌≡◌, ℕ, ◌+◌, max, Bool, List, Option, Some, None, map, option_map, length, sym, ◌∙◌, ap}
use lib.ListN.{length-map}
use Rattle.sisal_tree.specs.declared.unit.Named.{Named}
use Rattle.sisal_tree.specs.declared.unit.Written.{Written}
use Rattle.sisal_tree.specs.declared.expr.Expr.{Expr}
use Rattle.sisal_tree.specs.declared.expr.ExprKind.{ExprKind}
use Rattle.sisal_tree.specs.declared.expr.Loop.{Loop}
use Rattle.sisal_tree.specs.declared.expr.Arm.{Arm, roll-Arm}
use Rattle.sisal_tree.specs.declared.expr.Clause.{Clause, roll-Clause}
use Rattle.sisal_tree.specs.declared.expr.Def.{Def, roll-Def}
use Rattle.sisal_tree.specs.declared.expr.Elements.{Elements, roll-Elements}
use Rattle.sisal_tree.specs.declared.expr.FieldValue.{FieldValue}
use Rattle.sisal_tree.specs.declared.expr.Generator.{Generator, roll-Generator}
use Rattle.sisal_tree.specs.declared.expr.Mask.{Mask}
use Rattle.sisal_tree.specs.declared.expr.TagCase.{TagCase, roll-TagCase}
use Rattle.sisal_tree.specs.declared.expr.Turn.{Turn, roll-Turn}
use Rattle.sisal_tree.specs.declared.expr.Target.{Target}
use Rattle.sisal_tree.specs.declared.expr.Constant.{Constant}
use Rattle.sisal_tree.specs.declared.expr.Scalar.{Scalar}
use Rattle.sisal_tree.specs.declared.expr.PrefixOperator.{PrefixOperator}
use Rattle.sisal_tree.specs.declared.expr.BinaryOperator.{BinaryOperator}
use Rattle.sisal_tree.specs.declared.expr.ClauseKind.{ClauseKind}
use Rattle.sisal_tree.specs.declared.expr.ExprKind.TheVariants as expr
use Rattle.sisal_tree.specs.declared.expr.Loop.TheVariants as loop
use Rattle.sisal_tree.specs.declared.expr.ExprKind.TheFolds.{fold-ExprKind, fold-Loop, fold-Arm, fold-Clause, fold-Def, fold-Elements, fold-FieldValue, fold-Generator, fold-Mask, fold-TagCase, fold-Turn, fold-roll-ExprKind, fold-roll-Loop, fold-roll-Arm, fold-roll-Clause, fold-roll-Def, fold-roll-Elements, fold-roll-Generator, fold-roll-TagCase, fold-roll-Turn, fold-roll-Expr, fold-roll-FieldValue, fold-roll-Mask}
use Rattle.sisal_tree.specs.declared.expr.ExprKind.TheOpen.{ExprKind-F, Loop-F}
use Rattle.sisal_tree.specs.Depth.{depth, greatest, if_any, greatest_if_any, each_greatest, in_kind, in_loop, in_arm, in_clause, in_def, in_elements, in_generator, in_case, in_turn}
use Rattle.sisal_grammar.specs.Acts.{at}

abbrev pub kind_depth : ExprKind → ℕ
kind_depth = fold-ExprKind ℕ ℕ ℕ ℕ ℕ ℕ ℕ ℕ ℕ ℕ ℕ ℕ in_kind in_loop in_arm in_clause in_def in_elements (λ e. e.kind) (λ v. v.value) in_generator (λ m. m.test) in_case in_turn

abbrev pub loop_depth : Loop → ℕ
loop_depth = fold-Loop ℕ ℕ ℕ ℕ ℕ ℕ ℕ ℕ ℕ ℕ ℕ ℕ in_kind in_loop in_arm in_clause in_def in_elements (λ e. e.kind) (λ v. v.value) in_generator (λ m. m.test) in_case in_turn

abbrev pub arm_depth : Arm → ℕ
arm_depth = fold-Arm ℕ ℕ ℕ ℕ ℕ ℕ ℕ ℕ ℕ ℕ ℕ ℕ in_kind in_loop in_arm in_clause in_def in_elements (λ e. e.kind) (λ v. v.value) in_generator (λ m. m.test) in_case in_turn

abbrev pub clause_depth : Clause → ℕ
clause_depth = fold-Clause ℕ ℕ ℕ ℕ ℕ ℕ ℕ ℕ ℕ ℕ ℕ ℕ in_kind in_loop in_arm in_clause in_def in_elements (λ e. e.kind) (λ v. v.value) in_generator (λ m. m.test) in_case in_turn

abbrev pub def_depth : Def → ℕ
def_depth = fold-Def ℕ ℕ ℕ ℕ ℕ ℕ ℕ ℕ ℕ ℕ ℕ ℕ in_kind in_loop in_arm in_clause in_def in_elements (λ e. e.kind) (λ v. v.value) in_generator (λ m. m.test) in_case in_turn

abbrev pub elements_depth : Elements → ℕ
elements_depth = fold-Elements ℕ ℕ ℕ ℕ ℕ ℕ ℕ ℕ ℕ ℕ ℕ ℕ in_kind in_loop in_arm in_clause in_def in_elements (λ e. e.kind) (λ v. v.value) in_generator (λ m. m.test) in_case in_turn

abbrev pub value_depth : FieldValue → ℕ
value_depth = fold-FieldValue ℕ ℕ ℕ ℕ ℕ ℕ ℕ ℕ ℕ ℕ ℕ ℕ in_kind in_loop in_arm in_clause in_def in_elements (λ e. e.kind) (λ v. v.value) in_generator (λ m. m.test) in_case in_turn

abbrev pub generator_depth : Generator → ℕ
generator_depth = fold-Generator ℕ ℕ ℕ ℕ ℕ ℕ ℕ ℕ ℕ ℕ ℕ ℕ in_kind in_loop in_arm in_clause in_def in_elements (λ e. e.kind) (λ v. v.value) in_generator (λ m. m.test) in_case in_turn

abbrev pub mask_depth : Mask → ℕ
mask_depth = fold-Mask ℕ ℕ ℕ ℕ ℕ ℕ ℕ ℕ ℕ ℕ ℕ ℕ in_kind in_loop in_arm in_clause in_def in_elements (λ e. e.kind) (λ v. v.value) in_generator (λ m. m.test) in_case in_turn

abbrev pub case_depth : TagCase → ℕ
case_depth = fold-TagCase ℕ ℕ ℕ ℕ ℕ ℕ ℕ ℕ ℕ ℕ ℕ ℕ in_kind in_loop in_arm in_clause in_def in_elements (λ e. e.kind) (λ v. v.value) in_generator (λ m. m.test) in_case in_turn

abbrev pub turn_depth : Turn → ℕ
turn_depth = fold-Turn ℕ ℕ ℕ ℕ ℕ ℕ ℕ ℕ ℕ ℕ ℕ ℕ in_kind in_loop in_arm in_clause in_def in_elements (λ e. e.kind) (λ v. v.value) in_generator (λ m. m.test) in_case in_turn

-- the greatest depth of these
abbrev pub exprs_depth : List Expr → ℕ
exprs_depth es = greatest (map depth es)

abbrev pub values_depth : List FieldValue → ℕ
values_depth vs = greatest (map value_depth vs)

abbrev pub defs_depth : List Def → ℕ
defs_depth ds = greatest (map def_depth ds)

abbrev pub arms_depth : List Arm → ℕ
arms_depth bs = greatest (map arm_depth bs)

abbrev pub clauses_depth : List Clause → ℕ
clauses_depth cs = greatest (map clause_depth cs)

abbrev pub generators_depth : List Generator → ℕ
generators_depth gs = greatest (map generator_depth gs)

abbrev pub groups_depth : List (List Generator) → ℕ
groups_depth gs = greatest (each_greatest (map (λ g. map generator_depth g) gs))

pub depth_at : (l : ℕ) (k : ExprKind) → depth (at l k) ≡ kind_depth k
depth_at l k = fold-roll-Expr ℕ ℕ ℕ ℕ ℕ ℕ ℕ ℕ ℕ ℕ ℕ ℕ in_kind in_loop in_arm in_clause in_def in_elements (λ e. e.kind) (λ v. v.value) in_generator (λ m. m.test) in_case in_turn (record { line = l; kind = k })

pub of_value : (n : Named) (e : Expr) → value_depth (record { field = n; value = e }) ≡ depth e
of_value n e = fold-roll-FieldValue ℕ ℕ ℕ ℕ ℕ ℕ ℕ ℕ ℕ ℕ ℕ ℕ in_kind in_loop in_arm in_clause in_def in_elements (λ e. e.kind) (λ v. v.value) in_generator (λ m. m.test) in_case in_turn (record { field = n; value = e })

pub of_mask : (u : Bool) (e : Expr) → mask_depth (record { is_unless = u; test = e }) ≡ depth e
of_mask u e = fold-roll-Mask ℕ ℕ ℕ ℕ ℕ ℕ ℕ ℕ ℕ ℕ ℕ ℕ in_kind in_loop in_arm in_clause in_def in_elements (λ e. e.kind) (λ v. v.value) in_generator (λ m. m.test) in_case in_turn (record { is_unless = u; test = e })

pub in_constant : (l : ℕ) (c : Constant) → depth (at l (expr.Constant c)) ≡ 1
in_constant l c = depth_at l (expr.Constant c) ∙ (ap kind_depth (sym (expr.rolls-Constant c)) ∙ fold-roll-ExprKind ℕ ℕ ℕ ℕ ℕ ℕ ℕ ℕ ℕ ℕ ℕ ℕ in_kind in_loop in_arm in_clause in_def in_elements (λ e. e.kind) (λ v. v.value) in_generator (λ m. m.test) in_case in_turn (ExprKind-F.Constant c))

pub in_name : (l : ℕ) (x : ℕ) → depth (at l (expr.Name x)) ≡ 1
in_name l x = depth_at l (expr.Name x) ∙ (ap kind_depth (sym (expr.rolls-Name x)) ∙ fold-roll-ExprKind ℕ ℕ ℕ ℕ ℕ ℕ ℕ ℕ ℕ ℕ ℕ ℕ in_kind in_loop in_arm in_clause in_def in_elements (λ e. e.kind) (λ v. v.value) in_generator (λ m. m.test) in_case in_turn (ExprKind-F.Name x))

pub in_old : (l : ℕ) (x : ℕ) → depth (at l (expr.Old x)) ≡ 1
in_old l x = depth_at l (expr.Old x) ∙ (ap kind_depth (sym (expr.rolls-Old x)) ∙ fold-roll-ExprKind ℕ ℕ ℕ ℕ ℕ ℕ ℕ ℕ ℕ ℕ ℕ ℕ in_kind in_loop in_arm in_clause in_def in_elements (λ e. e.kind) (λ v. v.value) in_generator (λ m. m.test) in_case in_turn (ExprKind-F.Old x))

pub in_group : (l : ℕ) (e : Expr) → depth (at l (expr.Group e)) ≡ depth e + 1
in_group l e = depth_at l (expr.Group e) ∙ (ap kind_depth (sym (expr.rolls-Group e)) ∙ fold-roll-ExprKind ℕ ℕ ℕ ℕ ℕ ℕ ℕ ℕ ℕ ℕ ℕ ℕ in_kind in_loop in_arm in_clause in_def in_elements (λ e. e.kind) (λ v. v.value) in_generator (λ m. m.test) in_case in_turn (ExprKind-F.Group e))

pub in_call : (l : ℕ) (x : ℕ) (es : List Expr) → depth (at l (expr.Call x es)) ≡ exprs_depth es + 1
in_call l x es = depth_at l (expr.Call x es) ∙ (ap kind_depth (sym (expr.rolls-Call x es)) ∙ fold-roll-ExprKind ℕ ℕ ℕ ℕ ℕ ℕ ℕ ℕ ℕ ℕ ℕ ℕ in_kind in_loop in_arm in_clause in_def in_elements (λ e. e.kind) (λ v. v.value) in_generator (λ m. m.test) in_case in_turn (ExprKind-F.Call x es))

pub in_convert : (l : ℕ) (s : Scalar) (e : Expr) → depth (at l (expr.Convert s e)) ≡ depth e + 1
in_convert l s e = depth_at l (expr.Convert s e) ∙ (ap kind_depth (sym (expr.rolls-Convert s e)) ∙ fold-roll-ExprKind ℕ ℕ ℕ ℕ ℕ ℕ ℕ ℕ ℕ ℕ ℕ ℕ in_kind in_loop in_arm in_clause in_def in_elements (λ e. e.kind) (λ v. v.value) in_generator (λ m. m.test) in_case in_turn (ExprKind-F.Convert s e))

pub in_error_of : (l : ℕ) (t : Written) → depth (at l (expr.ErrorOf t)) ≡ 1
in_error_of l t = depth_at l (expr.ErrorOf t) ∙ (ap kind_depth (sym (expr.rolls-ErrorOf t)) ∙ fold-roll-ExprKind ℕ ℕ ℕ ℕ ℕ ℕ ℕ ℕ ℕ ℕ ℕ ℕ in_kind in_loop in_arm in_clause in_def in_elements (λ e. e.kind) (λ v. v.value) in_generator (λ m. m.test) in_case in_turn (ExprKind-F.ErrorOf t))

pub in_is_error : (l : ℕ) (e : Expr) → depth (at l (expr.IsError e)) ≡ depth e + 1
in_is_error l e = depth_at l (expr.IsError e) ∙ (ap kind_depth (sym (expr.rolls-IsError e)) ∙ fold-roll-ExprKind ℕ ℕ ℕ ℕ ℕ ℕ ℕ ℕ ℕ ℕ ℕ ℕ in_kind in_loop in_arm in_clause in_def in_elements (λ e. e.kind) (λ v. v.value) in_generator (λ m. m.test) in_case in_turn (ExprKind-F.IsError e))

pub in_is_tag : (l : ℕ) (x : ℕ) (e : Expr) → depth (at l (expr.IsTag x e)) ≡ depth e + 1
in_is_tag l x e = depth_at l (expr.IsTag x e) ∙ (ap kind_depth (sym (expr.rolls-IsTag x e)) ∙ fold-roll-ExprKind ℕ ℕ ℕ ℕ ℕ ℕ ℕ ℕ ℕ ℕ ℕ ℕ in_kind in_loop in_arm in_clause in_def in_elements (λ e. e.kind) (λ v. v.value) in_generator (λ m. m.test) in_case in_turn (ExprKind-F.IsTag x e))

pub in_prefix : (l : ℕ) (o : PrefixOperator) (e : Expr) → depth (at l (expr.Prefix o e)) ≡ depth e + 1
in_prefix l o e = depth_at l (expr.Prefix o e) ∙ (ap kind_depth (sym (expr.rolls-Prefix o e)) ∙ fold-roll-ExprKind ℕ ℕ ℕ ℕ ℕ ℕ ℕ ℕ ℕ ℕ ℕ ℕ in_kind in_loop in_arm in_clause in_def in_elements (λ e. e.kind) (λ v. v.value) in_generator (λ m. m.test) in_case in_turn (ExprKind-F.Prefix o e))

pub in_binary : (l : ℕ) (o : BinaryOperator) (a b : Expr) → depth (at l (expr.Binary o a b)) ≡ max (depth a) (depth b) + 1
in_binary l o a b = depth_at l (expr.Binary o a b) ∙ (ap kind_depth (sym (expr.rolls-Binary o a b)) ∙ fold-roll-ExprKind ℕ ℕ ℕ ℕ ℕ ℕ ℕ ℕ ℕ ℕ ℕ ℕ in_kind in_loop in_arm in_clause in_def in_elements (λ e. e.kind) (λ v. v.value) in_generator (λ m. m.test) in_case in_turn (ExprKind-F.Binary o a b))

pub in_select : (l : ℕ) (a i : Expr) → depth (at l (expr.Select a i)) ≡ max (depth a) (depth i) + 1
in_select l a i = depth_at l (expr.Select a i) ∙ (ap kind_depth (sym (expr.rolls-Select a i)) ∙ fold-roll-ExprKind ℕ ℕ ℕ ℕ ℕ ℕ ℕ ℕ ℕ ℕ ℕ ℕ in_kind in_loop in_arm in_clause in_def in_elements (λ e. e.kind) (λ v. v.value) in_generator (λ m. m.test) in_case in_turn (ExprKind-F.Select a i))

pub in_update : (l : ℕ) (a i v : Expr) → depth (at l (expr.Update a i v)) ≡ max (depth a) (max (depth i) (depth v)) + 1
in_update l a i v = depth_at l (expr.Update a i v) ∙ (ap kind_depth (sym (expr.rolls-Update a i v)) ∙ fold-roll-ExprKind ℕ ℕ ℕ ℕ ℕ ℕ ℕ ℕ ℕ ℕ ℕ ℕ in_kind in_loop in_arm in_clause in_def in_elements (λ e. e.kind) (λ v. v.value) in_generator (λ m. m.test) in_case in_turn (ExprKind-F.Update a i v))

pub in_field : (l : ℕ) (e : Expr) (x : ℕ) → depth (at l (expr.Field e x)) ≡ depth e + 1
in_field l e x = depth_at l (expr.Field e x) ∙ (ap kind_depth (sym (expr.rolls-Field e x)) ∙ fold-roll-ExprKind ℕ ℕ ℕ ℕ ℕ ℕ ℕ ℕ ℕ ℕ ℕ ℕ in_kind in_loop in_arm in_clause in_def in_elements (λ e. e.kind) (λ v. v.value) in_generator (λ m. m.test) in_case in_turn (ExprKind-F.Field e x))

pub in_replace : (l : ℕ) (e : Expr) (vs : List FieldValue) → depth (at l (expr.Replace e vs)) ≡ max (depth e) (values_depth vs) + 1
in_replace l e vs = depth_at l (expr.Replace e vs) ∙ (ap kind_depth (sym (expr.rolls-Replace e vs)) ∙ fold-roll-ExprKind ℕ ℕ ℕ ℕ ℕ ℕ ℕ ℕ ℕ ℕ ℕ ℕ in_kind in_loop in_arm in_clause in_def in_elements (λ e. e.kind) (λ v. v.value) in_generator (λ m. m.test) in_case in_turn (ExprKind-F.Replace e vs))

pub in_array : (l : ℕ) (x : Option ℕ) (es : Option Elements) → depth (at l (expr.Array x es)) ≡ if_any (option_map elements_depth es) + 1
in_array l x None = depth_at l (expr.Array x None) ∙ (ap kind_depth (sym (expr.rolls-Array x None)) ∙ fold-roll-ExprKind ℕ ℕ ℕ ℕ ℕ ℕ ℕ ℕ ℕ ℕ ℕ ℕ in_kind in_loop in_arm in_clause in_def in_elements (λ e. e.kind) (λ v. v.value) in_generator (λ m. m.test) in_case in_turn (ExprKind-F.Array x None))
in_array l x (Some e) = depth_at l (expr.Array x (Some e)) ∙ (ap kind_depth (sym (expr.rolls-Array x (Some e))) ∙ fold-roll-ExprKind ℕ ℕ ℕ ℕ ℕ ℕ ℕ ℕ ℕ ℕ ℕ ℕ in_kind in_loop in_arm in_clause in_def in_elements (λ e. e.kind) (λ v. v.value) in_generator (λ m. m.test) in_case in_turn (ExprKind-F.Array x (Some e)))

pub in_stream : (l : ℕ) (x : Option ℕ) (es : List Expr) → depth (at l (expr.Stream x es)) ≡ exprs_depth es + 1
in_stream l x es = depth_at l (expr.Stream x es) ∙ (ap kind_depth (sym (expr.rolls-Stream x es)) ∙ fold-roll-ExprKind ℕ ℕ ℕ ℕ ℕ ℕ ℕ ℕ ℕ ℕ ℕ ℕ in_kind in_loop in_arm in_clause in_def in_elements (λ e. e.kind) (λ v. v.value) in_generator (λ m. m.test) in_case in_turn (ExprKind-F.Stream x es))

pub in_record : (l : ℕ) (x : Option ℕ) (vs : List FieldValue) → depth (at l (expr.Record x vs)) ≡ values_depth vs + 1
in_record l x vs = depth_at l (expr.Record x vs) ∙ (ap kind_depth (sym (expr.rolls-Record x vs)) ∙ fold-roll-ExprKind ℕ ℕ ℕ ℕ ℕ ℕ ℕ ℕ ℕ ℕ ℕ ℕ in_kind in_loop in_arm in_clause in_def in_elements (λ e. e.kind) (λ v. v.value) in_generator (λ m. m.test) in_case in_turn (ExprKind-F.Record x vs))

pub in_union : (l : ℕ) (x t : ℕ) (e : Expr) → depth (at l (expr.Union x t e)) ≡ depth e + 1
in_union l x t e = depth_at l (expr.Union x t e) ∙ (ap kind_depth (sym (expr.rolls-Union x t e)) ∙ fold-roll-ExprKind ℕ ℕ ℕ ℕ ℕ ℕ ℕ ℕ ℕ ℕ ℕ ℕ in_kind in_loop in_arm in_clause in_def in_elements (λ e. e.kind) (λ v. v.value) in_generator (λ m. m.test) in_case in_turn (ExprKind-F.Union x t e))

pub in_let : (l : ℕ) (ds : List Def) (es : List Expr) → depth (at l (expr.Let ds es)) ≡ max (defs_depth ds) (exprs_depth es) + 1
in_let l ds es = depth_at l (expr.Let ds es) ∙ (ap kind_depth (sym (expr.rolls-Let ds es)) ∙ fold-roll-ExprKind ℕ ℕ ℕ ℕ ℕ ℕ ℕ ℕ ℕ ℕ ℕ ℕ in_kind in_loop in_arm in_clause in_def in_elements (λ e. e.kind) (λ v. v.value) in_generator (λ m. m.test) in_case in_turn (ExprKind-F.Let ds es))

pub in_if : (l : ℕ) (c : Expr) (es fs : List Expr) → depth (at l (expr.If c es fs)) ≡ max (depth c) (max (exprs_depth es) (exprs_depth fs)) + 1
in_if l c es fs = depth_at l (expr.If c es fs) ∙ (ap kind_depth (sym (expr.rolls-If c es fs)) ∙ fold-roll-ExprKind ℕ ℕ ℕ ℕ ℕ ℕ ℕ ℕ ℕ ℕ ℕ ℕ in_kind in_loop in_arm in_clause in_def in_elements (λ e. e.kind) (λ v. v.value) in_generator (λ m. m.test) in_case in_turn (ExprKind-F.If c es fs))

pub in_tag_case : (l : ℕ) (c : TagCase) → depth (at l (expr.TagCase c)) ≡ case_depth c + 1
in_tag_case l c = depth_at l (expr.TagCase c) ∙ (ap kind_depth (sym (expr.rolls-TagCase c)) ∙ fold-roll-ExprKind ℕ ℕ ℕ ℕ ℕ ℕ ℕ ℕ ℕ ℕ ℕ ℕ in_kind in_loop in_arm in_clause in_def in_elements (λ e. e.kind) (λ v. v.value) in_generator (λ m. m.test) in_case in_turn (ExprKind-F.TagCase c))

pub in_for : (l : ℕ) (p : Loop) → depth (at l (expr.For p)) ≡ loop_depth p
in_for l p = depth_at l (expr.For p) ∙ (ap kind_depth (sym (expr.rolls-For p)) ∙ fold-roll-ExprKind ℕ ℕ ℕ ℕ ℕ ℕ ℕ ℕ ℕ ℕ ℕ ℕ in_kind in_loop in_arm in_clause in_def in_elements (λ e. e.kind) (λ v. v.value) in_generator (λ m. m.test) in_case in_turn (ExprKind-F.For p))

pub in_product : (gs : List (List Generator)) (ds : List Def) (cs : List Clause) → loop_depth (loop.Product gs ds cs) ≡ max (groups_depth gs) (max (defs_depth ds) (clauses_depth cs)) + length gs
in_product gs ds cs = ap loop_depth (sym (loop.rolls-Product gs ds cs)) ∙ fold-roll-Loop ℕ ℕ ℕ ℕ ℕ ℕ ℕ ℕ ℕ ℕ ℕ ℕ in_kind in_loop in_arm in_clause in_def in_elements (λ e. e.kind) (λ v. v.value) in_generator (λ m. m.test) in_case in_turn (Loop-F.Product gs ds cs) ∙ ap (λ n. max (groups_depth gs) (max (defs_depth ds) (clauses_depth cs)) + n) (length-map gs (λ g. map generator_depth g))

pub in_initial : (ds : List Def) (t : Turn) (cs : List Clause) → loop_depth (loop.Initial ds t cs) ≡ max (defs_depth ds) (max (turn_depth t) (clauses_depth cs)) + 1
in_initial ds t cs = ap loop_depth (sym (loop.rolls-Initial ds t cs)) ∙ fold-roll-Loop ℕ ℕ ℕ ℕ ℕ ℕ ℕ ℕ ℕ ℕ ℕ ℕ in_kind in_loop in_arm in_clause in_def in_elements (λ e. e.kind) (λ v. v.value) in_generator (λ m. m.test) in_case in_turn (Loop-F.Initial ds t cs)

pub of_arm : (l : ℕ) (ts : List Named) (es : List Expr) → arm_depth (roll-Arm (record { line = l; tags = ts; results = es })) ≡ exprs_depth es
of_arm l ts es = fold-roll-Arm ℕ ℕ ℕ ℕ ℕ ℕ ℕ ℕ ℕ ℕ ℕ ℕ in_kind in_loop in_arm in_clause in_def in_elements (λ e. e.kind) (λ v. v.value) in_generator (λ m. m.test) in_case in_turn (record { line = l; tags = ts; results = es })

pub of_clause : (l : ℕ) (k : ClauseKind) (e : Expr) (m : Option Mask) → clause_depth (roll-Clause (record { line = l; kind = k; value = e; mask = m })) ≡ max (depth e) (if_any (option_map mask_depth m))
of_clause l k e None = fold-roll-Clause ℕ ℕ ℕ ℕ ℕ ℕ ℕ ℕ ℕ ℕ ℕ ℕ in_kind in_loop in_arm in_clause in_def in_elements (λ e. e.kind) (λ v. v.value) in_generator (λ m. m.test) in_case in_turn (record { line = l; kind = k; value = e; mask = None })
of_clause l k e (Some y) = fold-roll-Clause ℕ ℕ ℕ ℕ ℕ ℕ ℕ ℕ ℕ ℕ ℕ ℕ in_kind in_loop in_arm in_clause in_def in_elements (λ e. e.kind) (λ v. v.value) in_generator (λ m. m.test) in_case in_turn (record { line = l; kind = k; value = e; mask = (Some y) })

pub of_def : (ts : List Target) (es : List Expr) → def_depth (roll-Def (record { targets = ts; values = es })) ≡ exprs_depth es
of_def ts es = fold-roll-Def ℕ ℕ ℕ ℕ ℕ ℕ ℕ ℕ ℕ ℕ ℕ ℕ in_kind in_loop in_arm in_clause in_def in_elements (λ e. e.kind) (λ v. v.value) in_generator (λ m. m.test) in_case in_turn (record { targets = ts; values = es })

pub of_elements : (e : Expr) (es : List Expr) → elements_depth (roll-Elements (record { lower = e; values = es })) ≡ max (depth e) (exprs_depth es)
of_elements e es = fold-roll-Elements ℕ ℕ ℕ ℕ ℕ ℕ ℕ ℕ ℕ ℕ ℕ ℕ in_kind in_loop in_arm in_clause in_def in_elements (λ e. e.kind) (λ v. v.value) in_generator (λ m. m.test) in_case in_turn (record { lower = e; values = es })

pub of_generator : (n : Named) (e : Expr) (t : Option Expr) (x : Option ℕ) → generator_depth (roll-Generator (record { name = n; from = e; to = t; at = x })) ≡ max (depth e) (if_any (option_map depth t))
of_generator n e None x = fold-roll-Generator ℕ ℕ ℕ ℕ ℕ ℕ ℕ ℕ ℕ ℕ ℕ ℕ in_kind in_loop in_arm in_clause in_def in_elements (λ e. e.kind) (λ v. v.value) in_generator (λ m. m.test) in_case in_turn (record { name = n; from = e; to = None; at = x })
of_generator n e (Some y) x = fold-roll-Generator ℕ ℕ ℕ ℕ ℕ ℕ ℕ ℕ ℕ ℕ ℕ ℕ in_kind in_loop in_arm in_clause in_def in_elements (λ e. e.kind) (λ v. v.value) in_generator (λ m. m.test) in_case in_turn (record { name = n; from = e; to = (Some y); at = x })

pub of_case : (x : Option ℕ) (e : Expr) (bs : List Arm) (o : Option (List Expr)) → case_depth (roll-TagCase (record { name = x; subject = e; arms = bs; otherwise = o })) ≡ max (depth e) (max (arms_depth bs) (greatest_if_any (option_map (λ es. map depth es) o)))
of_case x e bs None = fold-roll-TagCase ℕ ℕ ℕ ℕ ℕ ℕ ℕ ℕ ℕ ℕ ℕ ℕ in_kind in_loop in_arm in_clause in_def in_elements (λ e. e.kind) (λ v. v.value) in_generator (λ m. m.test) in_case in_turn (record { name = x; subject = e; arms = bs; otherwise = None })
of_case x e bs (Some y) = fold-roll-TagCase ℕ ℕ ℕ ℕ ℕ ℕ ℕ ℕ ℕ ℕ ℕ ℕ in_kind in_loop in_arm in_clause in_def in_elements (λ e. e.kind) (λ v. v.value) in_generator (λ m. m.test) in_case in_turn (record { name = x; subject = e; arms = bs; otherwise = (Some y) })

pub of_turn : (f u : Bool) (e : Expr) (ds : List Def) → turn_depth (roll-Turn (record { is_first = f; is_until = u; test = e; defs = ds })) ≡ max (depth e) (defs_depth ds)
of_turn f u e ds = fold-roll-Turn ℕ ℕ ℕ ℕ ℕ ℕ ℕ ℕ ℕ ℕ ℕ ℕ in_kind in_loop in_arm in_clause in_def in_elements (λ e. e.kind) (λ v. v.value) in_generator (λ m. m.test) in_case in_turn (record { is_first = f; is_until = u; test = e; defs = ds })
