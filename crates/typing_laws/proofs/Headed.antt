-- The forms of expressions over operands, once names of types are resolved; names that stand once.
use Rattle.std.proofs.Common.{◌≡◌, inl, inr, ℕ, suc, zero, ◌+◌, ◌<◌, Bool, true, false, nat_eq, List, [], ◌∷◌, map, length, All, Option, Some, None, refl, sym, ap, subst, ◌∙◌, arith}
use Rattle.std.specs.Prelude.{if◌then◌else◌, Contains}
use Rattle.std.proofs.lemmas.Bool.{eq-eqb}
use Rattle.std.proofs.lemmas.Option.{same_Some}
use Rattle.std.proofs.lemmas.List.Elements.{Contains-append_cases}
use Rattle.name_scope.specs.Newest.{newest}
use Rattle.flow_value.specs.declared.ty.Ty.{Ty}
use Rattle.type_table.specs.declared.form.Form.{Form}
use Rattle.sisal_tree.specs.declared.unit.Named.{Named}
use Rattle.sisal_tree.specs.declared.unit.Written.{Written}
use Rattle.sisal_tree.specs.declared.expr.Elements.{Elements}
use Rattle.sisal_tree.specs.declared.expr.Expr.{Expr}
use Rattle.sisal_tree.specs.declared.expr.ExprKind.TheVariants as tree
use Rattle.sisal_tree.specs.declared.expr.FieldValue.{FieldValue}
use Rattle.typed_tree.specs.Types.{IsNumber}
use Rattle.typed_tree.specs.Scopes.{AreDistinct}
use Rattle.typed_tree.specs.Typing.{Known, names_of}
use Rattle.type_rules.specs.declared.head.Head.{Head}
use Rattle.type_rules.specs.declared.head.Head.TheVariants as head
use Rattle.unit_types.specs.Rests.{AreKnown}
use Rattle.value_names.specs.Scopes.{twice_if, twice_onto, twice_in}
use Rattle.typing_laws.specs.Given.{Given}
use Rattle.typing_laws.specs.Judged.{Agrees, denotes_in, IsDenoted}
use Rattle.typing_laws.specs.Forming.{IsNamedAs, AreNamedAs, fields_of, HasHead, IsHead, AreFound, IsRecordHead}
use Rattle.typing_laws.specs.Forming as form

-- ---- names of types

module _ (k : Known) (x n : ℕ) where
  -- the type of a name in such a list
  record IsTyped (ts : List (ℕ × Ty)) : Type 0 where
    type : Ty
    named : newest x ts ≡ Some type
    number : IsNumber k.forms k.spellings n type

  type_by : (m : ℕ × ℕ) (ms : List (ℕ × ℕ)) (t : ℕ × Ty) (ts : List (ℕ × Ty)) → m.0 ≡ t.0 → IsNumber k.forms k.spellings m.1 t.1 → (newest x ms ≡ Some n → IsTyped ts)
      → (b : Bool) → nat_eq x m.0 ≡ b → newest x (m ∷ ms) ≡ Some n → IsTyped (t ∷ ts)
  type_by m ms t ts same p rest true e found =
      let is : m.1 ≡ n = same_Some m.1 n (ap (λ c. if c then Some m.1 else newest x ms) (sym e) ∙ found) in record {
        type = t.1;
        named = ap (λ c. if c then Some t.1 else newest x ts) (ap (nat_eq x) (sym same) ∙ e);
        number = subst (λ i. IsNumber k.forms k.spellings i t.1) is p;
      }
  type_by m ms t ts same p rest false e found =
      let r = rest (ap (λ c. if c then Some m.1 else newest x ms) (sym e) ∙ found) in record {
        type = r.type;
        named = ap (λ c. if c then Some t.1 else newest x ts) (ap (nat_eq x) (sym same) ∙ e) ∙ r.named;
        number = r.number;
      }

  type_found : (ms : List (ℕ × ℕ)) (ts : List (ℕ × Ty)) → AreKnown k.forms k.spellings ms ts → newest x ms ≡ Some n → IsTyped ts
  type_found [] ts p e = absurd cc
  type_found (m ∷ ms) [] p e = absurd p
  type_found (m ∷ ms) (t ∷ ts) p e = type_by m ms t ts p.0 p.1 (type_found ms ts p.2) (nat_eq x m.0) refl e

named_as : (g : Given) (f : List Form) (k : Known) (x n : ℕ) → Agrees g f k → newest x g.named ≡ Some n → IsNamedAs k x n
named_as g f k x n agrees e = let r = type_found k x n g.named k.types agrees.types e in record { type = r.type; named = r.named; number = r.number }

are_named_as : (g : Given) (f : List Form) (k : Known) (x n : Option ℕ) → Agrees g f k → AreFound g.named x n → AreNamedAs k x n
are_named_as g f k None None agrees e = tt
are_named_as g f k None (Some n) agrees e = absurd e
are_named_as g f k (Some x) None agrees e = absurd e
are_named_as g f k (Some x) (Some n) agrees e = named_as g f k x n agrees e

-- ---- heads

pub error_head : (g : Given) (f : List Form) (w : Written) (n : ℕ) → IsDenoted g f w n → IsHead g f (tree.ErrorOf w) (head.ErrorOf n)
error_head g f w n p = record { holds = λ k agrees. let d = p.holds k agrees in form.error_of w d.1 d.2 }

pub array_head : (g : Given) (f : List Form) (x n : Option ℕ) (els : Elements) → AreFound g.named x n → IsHead g f (tree.Array x (Some els)) (head.Array n)
array_head g f x n els e = record { holds = λ k agrees. form.array x els (are_named_as g f k x n agrees e) }

pub empty_array_head : (g : Given) (f : List Form) (x n : Option ℕ) → AreFound g.named x n → IsHead g f (tree.Array x None) (head.EmptyArray n)
empty_array_head g f x n e = record { holds = λ k agrees. form.empty_array x (are_named_as g f k x n agrees e) }

pub stream_head : (g : Given) (f : List Form) (x n : Option ℕ) (es : List Expr) → AreFound g.named x n → IsHead g f (tree.Stream x es) (head.Stream n)
stream_head g f x n es e = record { holds = λ k agrees. form.stream x es (are_named_as g f k x n agrees e) }

pub record_head : (g : Given) (f : List Form) (x : Option ℕ) (vs : List FieldValue) (h : Head) → IsRecordHead g x vs h → IsHead g f (tree.Record x vs) h
record_head g f x vs h p = record {
  holds = λ k agrees.
      subst (HasHead k (denotes_in g k) (tree.Record x vs)) (sym p.is)
      (form.a_record x vs (are_named_as g f k x p.named agrees p.found) (subst (λ l. All (λ y. y < length l) (fields_of vs)) (sym agrees.spellings) p.spelled));
}

pub union_head : (g : Given) (f : List Form) (x n tag : ℕ) (e : Expr) → newest x g.named ≡ Some n → IsHead g f (tree.Union x tag e) (head.Union n tag)
union_head g f x n tag e found = record { holds = λ k agrees. form.union x tag e (named_as g f k x n agrees found) }

-- ---- names that stand once

none_some : (u : Unit {0}) → Some u ≡ None → ⊥
none_some u e = cc

fresh_then : (o : Option (Unit {0})) (line : ℕ) (rest : Option ℕ) → twice_if o line rest ≡ None → (o ≡ None) × (rest ≡ None)
fresh_then None line rest e = (refl, e)
fresh_then (Some u) line rest e = absurd cc

not_before : (x y : ℕ) (before : List (ℕ × Unit {0})) (b : Bool) → nat_eq x y ≡ b → newest x ((y, tt) ∷ before) ≡ None → newest x before ≡ None
not_before x y before true t e = absurd (none_some tt (ap (λ c. if c then Some tt else newest x before) (sym t) ∙ e))
not_before x y before false t e = ap (λ c. if c then Some tt else newest x before) (sym t) ∙ e

fresh : (ns : List Named) (before : List (ℕ × Unit {0})) → twice_onto before ns ≡ None → (x : ℕ) → Contains (names_of ns) x → newest x before ≡ None
fresh [] before e x c = absurd (let n = c.1 in omega (arith, n))
fresh (n ∷ ns) before e x c =
    let split = fresh_then (newest n.name before) n.line (twice_onto ((n.name, tt) ∷ before) ns) e in
    elim (Contains-append_cases (n.name ∷ []) (names_of ns) x c) [
      | inl here ↦ ap (λ y. newest y before) (only_one x n.name here) ∙ split.0
      | inr there ↦ not_before x n.name before (nat_eq x n.name) refl (fresh ns ((n.name, tt) ∷ before) split.1 x there)
    ]
  where
    only_one : (x y : ℕ) → Contains (y ∷ []) x → x ≡ y
    only_one x y (zero, l, e) = sym e
    only_one x y (suc i, l, e) = absurd (omega (arith, l))

once_onto : (ns : List Named) (before : List (ℕ × Unit {0})) → twice_onto before ns ≡ None → AreDistinct (names_of ns)
once_onto [] before e = tt
once_onto (n ∷ ns) before e =
    let split = fresh_then (newest n.name before) n.line (twice_onto ((n.name, tt) ∷ before) ns) e in (
      (λ c. itself n.name before (fresh ns ((n.name, tt) ∷ before) split.1 n.name c)),
      once_onto ns ((n.name, tt) ∷ before) split.1,
    )
  where
    itself : (x : ℕ) (before : List (ℕ × Unit {0})) → newest x ((x, tt) ∷ before) ≡ None → ⊥
    itself x before e = none_some tt (ap (λ c. if c then Some tt else newest x before) (sym (eq-eqb x x refl)) ∙ e)

-- where no name stands twice all differ
pub once_distinct : (ns : List Named) → twice_in ns ≡ None → AreDistinct (names_of ns)
once_distinct ns e = once_onto ns [] e
