-- Constants and names are typed.
use Rattle.std.proofs.Common.{◌≡◌, ℕ, Bool, true, false, nat_eq, List, [], ◌∷◌, Some, slice_get, refl, sym, ap, subst, ◌∙◌}
use Rattle.std.specs.Prelude.{if◌then◌else◌}
use Rattle.std.proofs.lemmas.Option.{same_Some}
use Rattle.name_scope.specs.Newest.{newest}
use Rattle.flow_value.specs.declared.ty.Ty.{Ty}
use Rattle.flow_value.specs.declared.ty.Ty.TheVariants as ty
use Rattle.type_table.specs.declared.form.Form.{Form}
use Rattle.type_table.specs.declared.form.Form.TheVariants as form
use Rattle.type_table.specs.Tables.{IsTable, basic_forms}
use Rattle.type_table.proofs.Lists.{left}
use Rattle.sisal_tree.specs.declared.expr.Constant.{Constant}
use Rattle.sisal_tree.specs.declared.expr.Constant.TheVariants as constant
use Rattle.sisal_tree.specs.declared.expr.ExprKind.TheVariants as tree
use Rattle.typed_tree.specs.declared.expr.TypedExpr.{TypedExpr}
use Rattle.typed_tree.specs.declared.expr.TypedKind.TheVariants as typed
use Rattle.typed_tree.specs.Scopes as scopes
use Rattle.typed_tree.specs.Types.{IsNumber, array, constant_type}
use Rattle.typed_tree.specs.Typing as rule
use Rattle.typed_tree.specs.Typing.{Known, Number, at, with}
use Rattle.type_rules.proofs.Grown.{boolean_is, character_is, integer_is, null_is}
use Rattle.value_names.specs.declared.value.Value.{Value}
use Rattle.value_names.specs.declared.value.Meaning.{Meaning}
use Rattle.value_names.specs.declared.value.Meaning.TheVariants as means
use Rattle.value_names.specs.Names.{Names}
use Rattle.value_names.specs.Scopes.{seen}
use Rattle.typing_laws.specs.Given.{Given}
use Rattle.typing_laws.specs.Judged.{IsValue, IsMeaning, AreMeanings, AreValues, IsTypedAs, Typed}
use Rattle.typing_laws.specs.Forming.{constant_number}
use Rattle.typing_laws.proofs.Unique.{a_number}

-- ---- constants

text_is : (forms : List Form) (names : List (List ℕ)) → IsTable forms → IsNumber forms names 4 (ty.Arr ty.Char)
text_is forms names table =
    array (subst (λ fs. slice_get fs 4 ≡ Some (form.Array 1)) (sym table.basics) (left basic_forms table.rest 4 (form.Array 1) refl)) (character_is forms names table)

constant_is : (forms : List Form) (names : List (List ℕ)) → IsTable forms → (c : Constant) → IsNumber forms names (constant_number c) (constant_type c)
constant_is forms names table (constant.Integer n) = integer_is forms names table
constant_is forms names table (constant.Letter c) = character_is forms names table
constant_is forms names table (constant.Quoted s) = text_is forms names table
constant_is forms names table constant.True = boolean_is forms names table
constant_is forms names table constant.False = boolean_is forms names table
constant_is forms names table constant.Nil = null_is forms names table

pub constant_typed : (g : Given) (f : List Form) (names : Names) (line : ℕ) (c : Constant) (t : TypedExpr) → t ≡ with line (constant_number c ∷ []) (typed.Constant c)
    → Typed g f names (at line (tree.Constant c)) t
constant_typed g f names line c t e = record {
  holds = λ k s a st.
      let n : Number k (constant_number c ∷ []) (constant_type c ∷ []) = a_number k (constant_number c) (constant_type c) (constant_is k.forms k.spellings a.table c) in
      subst (λ r. IsTypedAs k g s (at line (tree.Constant c)) r) (sym e) (record { tys = constant_type c ∷ []; number = n; typed = rule.constant n });
}

-- ---- names

record IsFound (k : Known) (x : ℕ) (v : Value) (ms : List (ℕ × scopes.Meaning)) : Type 0 where
  type : Ty
  found : newest x ms ≡ Some (scopes.At v.level type)
  number : IsNumber k.forms k.spellings v.ty type

level_of : (k : Known) (v : Value) (m : scopes.Meaning) → IsValue k v m → (t : Ty) × (m ≡ scopes.At v.level t) × IsNumber k.forms k.spellings v.ty t
level_of k v (scopes.At level t) p = (t, ap (λ l. scopes.At l t) (sym p.0), p.1)
level_of k v scopes.Later p = absurd p

value_of : (k : Known) (m : Meaning) (v : Value) → seen (Some m) ≡ Some v → (n : scopes.Meaning) → IsMeaning k m n → IsValue k v n
value_of k (means.At w) v e n p = subst (λ u. IsValue k u n) (same_Some w v e) p
value_of k means.Later v e n p = absurd cc

module _ (k : Known) (x : ℕ) (v : Value) where
  name_by : (n : ℕ × Meaning) (ns : List (ℕ × Meaning)) (m : ℕ × scopes.Meaning) (ms : List (ℕ × scopes.Meaning)) → n.0 ≡ m.0 → IsMeaning k n.1 m.1
      → (seen (newest x ns) ≡ Some v → IsFound k x v ms) → (b : Bool) → nat_eq x n.0 ≡ b → seen (newest x (n ∷ ns)) ≡ Some v → IsFound k x v (m ∷ ms)
  name_by n ns m ms same p rest true t e =
      let l = level_of k v m.1 (value_of k n.1 v (ap (λ c. seen (if c then Some n.1 else newest x ns)) (sym t) ∙ e) m.1 p) in record {
        type = l.0;
        found = ap (λ c. if c then Some m.1 else newest x ms) (ap (nat_eq x) (sym same) ∙ t) ∙ ap Some l.1;
        number = l.2;
      }
  name_by n ns m ms same p rest false t e =
      let r = rest (ap (λ c. seen (if c then Some n.1 else newest x ns)) (sym t) ∙ e) in record {
        type = r.type;
        found = ap (λ c. if c then Some m.1 else newest x ms) (ap (nat_eq x) (sym same) ∙ t) ∙ r.found;
        number = r.number;
      }

  found_name : (ns : List (ℕ × Meaning)) (ms : List (ℕ × scopes.Meaning)) → AreMeanings k ns ms → seen (newest x ns) ≡ Some v → IsFound k x v ms
  found_name [] ms p e = absurd cc
  found_name (n ∷ ns) [] p e = absurd p
  found_name (n ∷ ns) (m ∷ ms) p e = name_by n ns m ms p.0 p.1 (found_name ns ms p.2) (nat_eq x n.0) refl e

  old_by : (n : ℕ × Value) (ns : List (ℕ × Value)) (m : ℕ × scopes.Meaning) (ms : List (ℕ × scopes.Meaning)) → n.0 ≡ m.0 → IsValue k n.1 m.1
      → (newest x ns ≡ Some v → IsFound k x v ms) → (b : Bool) → nat_eq x n.0 ≡ b → newest x (n ∷ ns) ≡ Some v → IsFound k x v (m ∷ ms)
  old_by n ns m ms same p rest true t e =
      let l = level_of k v m.1 (subst (λ u. IsValue k u m.1) (same_Some n.1 v (ap (λ c. if c then Some n.1 else newest x ns) (sym t) ∙ e)) p) in record {
        type = l.0;
        found = ap (λ c. if c then Some m.1 else newest x ms) (ap (nat_eq x) (sym same) ∙ t) ∙ ap Some l.1;
        number = l.2;
      }
  old_by n ns m ms same p rest false t e =
      let r = rest (ap (λ c. if c then Some n.1 else newest x ns) (sym t) ∙ e) in record {
        type = r.type;
        found = ap (λ c. if c then Some m.1 else newest x ms) (ap (nat_eq x) (sym same) ∙ t) ∙ r.found;
        number = r.number;
      }

  found_old : (ns : List (ℕ × Value)) (ms : List (ℕ × scopes.Meaning)) → AreValues k ns ms → newest x ns ≡ Some v → IsFound k x v ms
  found_old [] ms p e = absurd cc
  found_old (n ∷ ns) [] p e = absurd p
  found_old (n ∷ ns) (m ∷ ms) p e = old_by n ns m ms p.0 p.1 (found_old ns ms p.2) (nat_eq x n.0) refl e

pub name_typed : (g : Given) (f : List Form) (names : Names) (line x : ℕ) (v : Value) (t : TypedExpr) → seen (newest x names.names) ≡ Some v
    → t ≡ with line (v.ty ∷ []) (typed.Value v.level) → Typed g f names (at line (tree.Name x)) t
name_typed g f names line x v t e is = record {
  holds = λ k s a st.
      let r = found_name k x v names.names s.names st.names e in
      let n : Number k (v.ty ∷ []) (r.type ∷ []) = a_number k v.ty r.type r.number in
      subst (λ u. IsTypedAs k g s (at line (tree.Name x)) u) (sym is) (record { tys = r.type ∷ []; number = n; typed = rule.name r.found n });
}

pub old_typed : (g : Given) (f : List Form) (names : Names) (line x : ℕ) (v : Value) (t : TypedExpr) → newest x names.olds ≡ Some v
    → t ≡ with line (v.ty ∷ []) (typed.Value v.level) → Typed g f names (at line (tree.Old x)) t
old_typed g f names line x v t e is = record {
  holds = λ k s a st.
      let r = found_old k x v names.olds s.olds st.olds e in
      let n : Number k (v.ty ∷ []) (r.type ∷ []) = a_number k v.ty r.type r.number in
      subst (λ u. IsTypedAs k g s (at line (tree.Old x)) u) (sym is) (record { tys = r.type ∷ []; number = n; typed = rule.old r.found n });
}
