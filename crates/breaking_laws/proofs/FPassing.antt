-- What a later table reaches an earlier one reaches; names that stand for nothing by number stand for nothing by type.
use Rattle.std.proofs.Common.{◌≡◌, ℕ, Bool, true, false, nat_eq, List, [], ◌∷◌, Some, None, refl, sym, ap, subst, ◌∙◌}
use Rattle.std.specs.Prelude.{if◌then◌else◌}
use Rattle.name_scope.specs.Newest.{newest}
use Rattle.flow_value.specs.declared.ty.Ty.{Ty}
use Rattle.type_table.specs.declared.form.Form.{Form}
use Rattle.type_table.specs.Tables.{IsTable}
use Rattle.typed_tree.specs.Scopes as tree
use Rattle.typed_tree.specs.Typing.{Known}
use Rattle.typed_tree.specs.Breaks.{IsUnknown}
use Rattle.type_rules.specs.declared.fault.TypeFault.{TypeFault}
use Rattle.type_rules.specs.declared.fault.TypeFault.TheVariants as fault
use Rattle.type_rules.specs.Faults.{IsRule}
use Rattle.type_rules.specs.Applies.{Grows}
use Rattle.unit_types.specs.Rests.{AreKnown}
use Rattle.value_names.specs.declared.value.Value.{Value}
use Rattle.value_names.specs.declared.value.Meaning.{Meaning}
use Rattle.value_names.specs.declared.value.Meaning.TheVariants as means
use Rattle.value_names.specs.Scopes.{seen}
use Rattle.typing_laws.specs.Given.{Given}
use Rattle.typing_laws.specs.Judged.{IsUsedIn, Agrees, IsMeaning, AreMeanings, AreValues}
use Rattle.typing_laws.proofs.Later.{agrees_before, used_same, used_on}
use Rattle.breaking_laws.specs.Broken.{Reaches, IsWhole}

-- ---- tables

pub reach_later : (g : Given) (f0 f1 : List Form) (says : List Form → Type 0) → IsUsedIn g f0 f1 → Reaches g f1 says → Reaches g f0 says
reach_later g f0 f1 says used r = record { table = r.table; used = used_on g f0 f1 r.table used r.used; is_table = r.is_table; holds = r.holds }

pub reach_more : (g : Given) (f : List Form) (says more : List Form → Type 0) → ((forms : List Form) → says forms → more forms) → Reaches g f says → Reaches g f more
reach_more g f says more leads r = record { table = r.table; used = r.used; is_table = r.is_table; holds = leads r.table r.holds }

pub reach_here : (g : Given) (f : List Form) (says : List Form → Type 0) → IsTable f → says f → Reaches g f says
reach_here g f says table p = record { table = f; used = used_same g f; is_table = table; holds = p }

pub rule_passes : (says more : ℕ → ℕ → Type 0) → ((rule line : ℕ) → says rule line → more rule line) → (e : TypeFault) → IsRule says e → IsRule more e
rule_passes says more leads (fault.Rule rule line) p = leads rule line p
rule_passes says more leads fault.NoMemory p = tt

pub agrees_at : (g : Given) (f0 f1 : List Form) (k : Known) → Grows f0 f1 → IsWhole g f1 k → Agrees g f0 k
agrees_at g f0 f1 k grows whole = agrees_before g f0 f1 k grows whole.agrees

-- ---- names

module _ (k : Known) (x : ℕ) where
  no_value : (m : Meaning) (n : tree.Meaning) → IsMeaning k m n → seen (Some m) ≡ None → IsUnknown (Some n)
  no_value (means.At v) n p e = absurd cc
  no_value means.Later (tree.At level t) p e = absurd p
  no_value means.Later tree.Later p e = tt

  name_by : (n : ℕ × Meaning) (ns : List (ℕ × Meaning)) (m : ℕ × tree.Meaning) (ms : List (ℕ × tree.Meaning)) → n.0 ≡ m.0 → IsMeaning k n.1 m.1
      → (seen (newest x ns) ≡ None → IsUnknown (newest x ms)) → (b : Bool) → nat_eq x n.0 ≡ b → seen (newest x (n ∷ ns)) ≡ None → IsUnknown (newest x (m ∷ ms))
  name_by n ns m ms same p rest true t e =
      subst IsUnknown (sym (ap (λ c. if c then Some m.1 else newest x ms) (ap (nat_eq x) (sym same) ∙ t)))
      (no_value n.1 m.1 p (ap (λ c. seen (if c then Some n.1 else newest x ns)) (sym t) ∙ e))
  name_by n ns m ms same p rest false t e =
      subst IsUnknown (sym (ap (λ c. if c then Some m.1 else newest x ms) (ap (nat_eq x) (sym same) ∙ t)))
      (rest (ap (λ c. seen (if c then Some n.1 else newest x ns)) (sym t) ∙ e))

  pub unknown_name : (ns : List (ℕ × Meaning)) (ms : List (ℕ × tree.Meaning)) → AreMeanings k ns ms → seen (newest x ns) ≡ None → IsUnknown (newest x ms)
  unknown_name [] [] p e = tt
  unknown_name [] (m ∷ ms) p e = absurd p
  unknown_name (n ∷ ns) [] p e = absurd p
  unknown_name (n ∷ ns) (m ∷ ms) p e = name_by n ns m ms p.0 p.1 (unknown_name ns ms p.2) (nat_eq x n.0) refl e

-- a name that stands for nothing in one list stands for nothing in another of the same names
absent_by : {A B : Type 0} (x : ℕ) (n : ℕ × A) (ns : List (ℕ × A)) (m : ℕ × B) (ms : List (ℕ × B)) → n.0 ≡ m.0 → (newest x ns ≡ None → newest x ms ≡ None)
    → (b : Bool) → nat_eq x n.0 ≡ b → newest x (n ∷ ns) ≡ None → newest x (m ∷ ms) ≡ None
absent_by x n ns m ms same rest true t e = absurd (none_some n.1 (ap (λ c. if c then Some n.1 else newest x ns) (sym t) ∙ e))
  where
    none_some : {A : Type 0} (a : A) → Some a ≡ None → ⊥
    none_some a e = cc
absent_by x n ns m ms same rest false t e =
    ap (λ c. if c then Some m.1 else newest x ms) (ap (nat_eq x) (sym same) ∙ t) ∙ rest (ap (λ c. if c then Some n.1 else newest x ns) (sym t) ∙ e)

pub unknown_old : (k : Known) (x : ℕ) (ns : List (ℕ × Value)) (ms : List (ℕ × tree.Meaning)) → AreValues k ns ms → newest x ns ≡ None → newest x ms ≡ None
unknown_old k x [] [] p e = refl
unknown_old k x [] (m ∷ ms) p e = absurd p
unknown_old k x (n ∷ ns) [] p e = absurd p
unknown_old k x (n ∷ ns) (m ∷ ms) p e = absent_by x n ns m ms p.0 (unknown_old k x ns ms p.2) (nat_eq x n.0) refl e

pub unknown_type : (forms : List Form) (spellings : List (List ℕ)) (x : ℕ) (ns : List (ℕ × ℕ)) (ts : List (ℕ × Ty)) → AreKnown forms spellings ns ts → newest x ns ≡ None → newest x ts ≡ None
unknown_type forms spellings x [] [] p e = refl
unknown_type forms spellings x [] (t ∷ ts) p e = absurd p
unknown_type forms spellings x (n ∷ ns) [] p e = absurd p
unknown_type forms spellings x (n ∷ ns) (t ∷ ts) p e = absent_by x n ns t ts p.0 (unknown_type forms spellings x ns ts p.2) (nat_eq x n.0) refl e
