-- Faults that name a rule; the forms of expressions, from what the walk reads of them.
use Rattle.std.proofs.Common.{◌≡◌, ℕ, ◌≤◌, Bool, true, false, not, List, [], ◌∷◌, drop, length, Option, Some, None, Result, Ok, Err, IfErr, IsErrAnd, is_some, slice_get, refl, sym, ap, subst, ◌∙◌}
use Rattle.std.specs.Prelude.{IfNone}
use Rattle.std.specs.Str.{bytes_eq}
use Rattle.std.proofs.lemmas.Slice.Eq.{bytes_eq-Decides}
use Rattle.std.proofs.lemmas.List.{append-nil, drop_all}
use Rattle.std.proofs.lemmas.Option.{same_Some}
use Rattle.sisal_lex.specs.Words.{beside}
use Rattle.type_table.specs.declared.form.Form.{Form}
use Rattle.type_table.specs.Tables.{IsTable}
use Rattle.sisal_tree.specs.declared.expr.Elements.{Elements}
use Rattle.sisal_tree.specs.declared.expr.Expr.{Expr}
use Rattle.sisal_tree.specs.declared.expr.ExprKind.{ExprKind}
use Rattle.sisal_tree.specs.declared.expr.ExprKind.TheVariants as tree
use Rattle.sisal_tree.specs.declared.expr.ExprKind.TheViews.{out-ExprKind}
use Rattle.sisal_tree.specs.declared.expr.FieldValue.{FieldValue}
use Rattle.sisal_tree.specs.declared.unit.Written.{Written}
use Rattle.typed_tree.specs.declared.built_in.BuiltIn.{BuiltIn}
use Rattle.typed_tree.specs.BuiltIns.{built_ins}
use Rattle.typed_tree.specs.Typing.{at}
use Rattle.type_rules.specs.declared.fault.TypeFault.{TypeFault}
use Rattle.type_rules.specs.declared.fault.TypeFault.TheVariants as fault
use Rattle.type_rules.specs.declared.head.Head.{Head}
use Rattle.type_rules.specs.declared.head.Head.TheVariants as head
use Rattle.type_rules.specs.Faults.{IsRule}
use Rattle.type_rules.specs.Heads.{IsUnnamedHead, convert, is_error, is_tag, prefix, binary, select, update, field}
use Rattle.value_names.specs.Names.{Names}
use Rattle.typing_laws.specs.Bodies.{define_params}
use Rattle.typing_laws.proofs.Used.{HeadFits}
use Rattle.typing_laws.proofs.Formed.{out_empty_array, out_error_of}
use Rattle.typing_laws.proofs.Headed.{array_head, empty_array_head}
use Rattle.sisal_check.specs.Walked.{IsArrayHead, IsHeadSpelled}
use Rattle.typing_laws.specs.Given as by
use Rattle.typing_laws.specs.Judged.{Adds, IsUsedIn}
use Rattle.typing_laws.specs.Forming.{HasHead, IsHead, IsBuiltIn, Operands, OperandsIn, fields_of}
use Rattle.typing_laws.specs.Forming as form
use Rattle.breaking_laws.specs.Broken.{Broken, BrokenOne, BrokenIn, BrokenField, BrokenForm}
use Rattle.breaking_laws.specs.Refusals.{IsUnnamed, IsNoBuiltIn}
use Rattle.breaking_laws.specs.FormLaws.{NamesType, IsOperand, AreElementsOf, AreFieldsOf}
use Rattle.breaking_laws.specs.FormLaws as part
use Rattle.breaking_laws.proofs.FParts.{no_type_breaks, operand_breaks, elements_break, fields_break}

-- ---- faults

pub rule_weaker : (P Q : ℕ → ℕ → Type 0) (f : TypeFault) → ((rule line : ℕ) → P rule line → Q rule line) → IsRule P f → IsRule Q f
rule_weaker P Q (fault.Rule rule line) f h = f rule line h
rule_weaker P Q fault.NoMemory f h = tt

pub faults_weaker : {T : Type 0} (r : Result T TypeFault) (P Q : ℕ → ℕ → Type 0) → ((rule line : ℕ) → P rule line → Q rule line) → IfErr r (IsRule P) → IfErr r (IsRule Q)
faults_weaker (Ok x) P Q f h = tt
faults_weaker (Err e) P Q f h = rule_weaker P Q e f h

-- a fault that is passed on
pub passed_on : {T : Type 0} (r : Result T TypeFault) (e : TypeFault) → IsErrAnd r (λ f. f ≡ e) → (P Q : ℕ → ℕ → Type 0) → ((rule line : ℕ) → P rule line → Q rule line) → IsRule P e → IfErr r (IsRule Q)
passed_on (Ok x) e is P Q f h = tt
passed_on (Err x) e is P Q f h = subst (IsRule Q) (sym is) (rule_weaker P Q e f h)

-- ---- lists

true_not : (b : Bool) → b ≡ true → true ≡ not b → ⊥
true_not true e f = cc
true_not false e f = cc

false_not : (b : Bool) → false ≡ not b → b ≡ true
false_not true e = refl
false_not false e = absurd cc

pub differ : (xs ys : List ℕ) → true ≡ not (bytes_eq xs ys) → xs ≡ ys → ⊥
differ xs ys e same = true_not (bytes_eq xs ys) ((bytes_eq-Decides xs ys).1 same) e

pub alike : (xs ys : List ℕ) → false ≡ not (bytes_eq xs ys) → xs ≡ ys
alike xs ys e = (bytes_eq-Decides xs ys).0 (false_not (bytes_eq xs ys) e)

no_params : (xs : List ℕ) (s : Names) → define_params xs [] s ≡ s
no_params [] s = refl
no_params (x ∷ xs) s = refl

pub all_params : (xs ts : List ℕ) (p : ℕ) (s : Names) → length ts ≤ p → define_params xs (drop p ts) s ≡ s
all_params xs ts p s h = ap (λ l. define_params xs l s) (drop_all p ts h) ∙ no_params xs s

-- ---- names that are built in

none_some : (o : Option BuiltIn) (b : BuiltIn) → o ≡ None → o ≡ Some b → ⊥
none_some None b e f = cc
none_some (Some x) b e f = cc

pub no_built_in : (g : by.Given) (x : ℕ) (name : List ℕ) (r : Option BuiltIn) → slice_get g.spellings x ≡ Some name → r ≡ beside name built_ins → IfNone r (IsNoBuiltIn g x)
no_built_in g x name (Some b) there is = tt
no_built_in g x name None there is = λ b q.
    none_some (beside name built_ins) b (sym is) (ap (λ s. beside s built_ins) (same_Some name q.spelling (sym there ∙ q.spelled)) ∙ q.named)

-- ---- forms that name no type

pub unnamed_form : (g : by.Given) (f : List Form) (kind : ExprKind) (h : Head) → IsUnnamedHead kind h → IsHead g f kind h
unnamed_form g f _ _ (convert c e) = record { holds = λ k agrees. form.convert c e }
unnamed_form g f _ _ (is_error e) = record { holds = λ k agrees. form.is_error e }
unnamed_form g f _ _ (is_tag x e) = record { holds = λ k agrees. form.is_tag x e }
unnamed_form g f _ _ (prefix o e) = record { holds = λ k agrees. form.prefix o e }
unnamed_form g f _ _ (binary o e b) = record { holds = λ k agrees. form.binary o e b }
unnamed_form g f _ _ (select e i) = record { holds = λ k agrees. form.select e i }
unnamed_form g f _ _ (update e i b) = record { holds = λ k agrees. form.update e i b }
unnamed_form g f _ _ (field e x) = record { holds = λ k agrees. form.field e x }

pub unnamed_spelled : (spellings : List (List ℕ)) (kind : ExprKind) (h : Head) → IsUnnamedHead kind h → IsHeadSpelled spellings h
unnamed_spelled spellings _ _ (convert c e) = tt
unnamed_spelled spellings _ _ (is_error e) = tt
unnamed_spelled spellings _ _ (is_tag x e) = tt
unnamed_spelled spellings _ _ (prefix o e) = tt
unnamed_spelled spellings _ _ (binary o e b) = tt
unnamed_spelled spellings _ _ (select e i) = tt
unnamed_spelled spellings _ _ (update e i b) = tt
unnamed_spelled spellings _ _ (field e x) = tt

-- ---- forms that name a type

pub same_kind : (g : by.Given) (f : List Form) (kind k : ExprKind) (h : Head) → kind ≡ k → IsHead g f k h → IsHead g f kind h
same_kind g f kind k h is p = subst (λ r. IsHead g f r h) (sym is) p

pub replace_head : (g : by.Given) (f : List Form) (e : Expr) (vs : List FieldValue) (xs : List ℕ) → xs ≡ fields_of vs → IsHead g f (tree.Replace e vs) (head.Replace xs)
replace_head g f e vs xs is = subst (λ l. IsHead g f (tree.Replace e vs) (head.Replace l)) (sym is) (record { holds = λ k agrees. form.replace e vs })

-- the name of a type is not known
pub unnamed : (g : by.Given) (f : List Form) (names : Names) (l : ℕ) (kind k : ExprKind) (x : Option ℕ) → IsTable f → kind ≡ k → ((y : ℕ) → x ≡ Some y → NamesType k y) → (rule line : ℕ) → IsUnnamed g.named x l rule line
    → Broken g f names (at l kind) rule line
unnamed g f names l kind k None table is of rule line p = absurd p.2
unnamed g f names l kind k (Some y) table is of rule line p =
    subst (λ r. Broken g f names (at l r) rule line) (sym is)
    (subst (λ r. Broken g f names (at l k) r line) (sym p.0) (subst (λ r. Broken g f names (at l k) 2 r) (sym p.1) (no_type_breaks g f names l k y table (of y refl) p.2)))

pub array_named : (x : Option ℕ) (els : Option Elements) (y : ℕ) → x ≡ Some y → NamesType (tree.Array x els) y
array_named x els y e = subst (λ z. NamesType (tree.Array z els) y) (sym e) (part.array y els)

pub stream_named : (x : Option ℕ) (es : List Expr) (y : ℕ) → x ≡ Some y → NamesType (tree.Stream x es) y
stream_named x es y e = subst (λ z. NamesType (tree.Stream z es) y) (sym e) (part.stream y es)

pub record_named : (x : Option ℕ) (vs : List FieldValue) (y : ℕ) → x ≡ Some y → NamesType (tree.Record x vs) y
record_named x vs y e = subst (λ z. NamesType (tree.Record z vs) y) (sym e) (part.a_record y vs)

pub union_named : (x tag : ℕ) (e : Expr) (y : ℕ) → Some x ≡ Some y → NamesType (tree.Union x tag e) y
union_named x tag e y is = subst (λ z. NamesType (tree.Union z tag e) y) (sym (same_Some x y is)) (part.union y tag e)

-- an array, with elements or without
pub arrays_head : (g : by.Given) (f : List Form) (x : Option ℕ) (els : Option Elements) (h : Head) → IsArrayHead g x (is_some els) h → IsHead g f (tree.Array x els) h
arrays_head g f x None h p = subst (λ r. IsHead g f (tree.Array x None) r) (sym p.is) (empty_array_head g f x p.named p.found)
arrays_head g f x (Some els) h p = subst (λ r. IsHead g f (tree.Array x (Some els)) r) (sym p.is) (array_head g f x p.named els p.found)

-- the names of the fields of a form are spelled
pub head_fits : (names : List (List ℕ)) (h : Head) → IsHeadSpelled names h → HeadFits names h
head_fits names (head.ErrorOf n) s = tt
head_fits names (head.Convert c) s = tt
head_fits names head.IsError s = tt
head_fits names (head.IsTag x) s = tt
head_fits names (head.Prefix o) s = tt
head_fits names (head.Binary o) s = tt
head_fits names head.Select s = tt
head_fits names head.Update s = tt
head_fits names (head.Field x) s = tt
head_fits names (head.Replace xs) s = tt
head_fits names (head.Array x) s = tt
head_fits names (head.EmptyArray x) s = tt
head_fits names (head.Stream x) s = tt
head_fits names (head.Record x xs) s = s
head_fits names (head.Union n x) s = tt
head_fits names (head.BuiltIn b) s = tt

-- ---- operands

module _ (g : by.Given) (f0 f1 : List Form) (names inner : Names) (kind k : ExprKind) (rule line : ℕ) (used : IsUsedIn g f0 f1) (same : inner ≡ names) (is : kind ≡ k) where
  pub operand_fault : (e x : Expr) → IsOperand k e → x ≡ e → BrokenOne g f1 inner x rule line → BrokenForm g f0 names kind rule line
  operand_fault e x of at_e q =
      subst (λ r. BrokenForm g f0 names r rule line) (sym is)
      (operand_breaks g f0 f1 names k e rule line used of (subst (λ m. BrokenOne g f1 m e rule line) same (subst (λ y. BrokenOne g f1 inner y rule line) at_e q)))

  pub elements_fault : (es xs : List Expr) → AreElementsOf k es → xs ≡ es → BrokenIn g f1 inner xs rule line → BrokenForm g f0 names kind rule line
  elements_fault es xs of at_es q =
      subst (λ r. BrokenForm g f0 names r rule line) (sym is)
      (elements_break g f0 f1 names k es rule line used of (subst (λ m. BrokenIn g f1 m es rule line) same (subst (λ y. BrokenIn g f1 inner y rule line) at_es q)))

  pub fields_fault : (vs xs : List FieldValue) → AreFieldsOf k vs → xs ≡ vs → BrokenField g f1 inner xs rule line → BrokenForm g f0 names kind rule line
  fields_fault vs xs of at_vs q =
      subst (λ r. BrokenForm g f0 names r rule line) (sym is)
      (fields_break g f0 f1 names k vs rule line used of (subst (λ m. BrokenField g f1 m vs rule line) same (subst (λ y. BrokenField g f1 inner y rule line) at_vs q)))

-- forms without operands
no_operands : (g : by.Given) (f : List Form) (names : Names) (kind : ExprKind) (p : by.Parts) → OperandsIn g f names (out-ExprKind kind) [] [] → Adds p p (Operands g f names kind)
no_operands g f names kind p none = record {
  exprs = [];
  types = [];
  is_exprs = sym (append-nil p.exprs);
  is_types = sym (append-nil p.types);
  holds = record { is = none };
}

pub no_elements : (g : by.Given) (f : List Form) (names : Names) (x : Option ℕ) (p : by.Parts) → Adds p p (Operands g f names (tree.Array x None))
no_elements g f names x p = no_operands g f names (tree.Array x None) p (subst (λ l. OperandsIn g f names l [] []) (sym (out_empty_array x)) (refl, refl))

pub no_error_operands : (g : by.Given) (f : List Form) (names : Names) (w : Written) (p : by.Parts) → Adds p p (Operands g f names (tree.ErrorOf w))
no_error_operands g f names w p = no_operands g f names (tree.ErrorOf w) p (subst (λ l. OperandsIn g f names l [] []) (sym (out_error_of w)) (refl, refl))
