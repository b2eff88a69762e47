-- A number stands for one type, and numbers one after another for the types one after another.
use Rattle.std.proofs.Common.{◌≡◌, ℕ, suc, List, [], ◌∷◌, ◌++◌, length, refl, ap, ◌∙◌}
use Rattle.flow_value.specs.declared.ty.Ty.{Ty}
use Rattle.type_table.specs.declared.form.Form.{Form}
use Rattle.typed_tree.specs.Types.{IsNumber, AreNumbers}
use Rattle.typed_tree.specs.Typing.{Known, Number}
use Rattle.type_rules.proofs.Standing.{one_type}

pub one_list : (forms : List Form) (names : List (List ℕ)) (ns : List ℕ) (ts us : List Ty) → AreNumbers forms names ns ts → AreNumbers forms names ns us → ts ≡ us
one_list forms names [] [] [] p q = refl
one_list forms names [] [] (u ∷ us) p q = absurd q
one_list forms names [] (t ∷ ts) us p q = absurd p
one_list forms names (n ∷ ns) [] us p q = absurd p
one_list forms names (n ∷ ns) (t ∷ ts) [] p q = absurd q
one_list forms names (n ∷ ns) (t ∷ ts) (u ∷ us) p q = ap (λ x. x ∷ ts) (one_type forms names n t u p.0 q.0) ∙ ap (λ xs. u ∷ xs) (one_list forms names ns ts us p.1 q.1)

pub same_types : (k : Known) (ns : List ℕ) (ts us : List Ty) → Number k ns ts → Number k ns us → ts ≡ us
same_types k ns ts us p q = one_list k.forms k.spellings ns ts us p.each q.each

pub numbers_append : (forms : List Form) (names : List (List ℕ)) (ns ms : List ℕ) (ts us : List Ty) → AreNumbers forms names ns ts → AreNumbers forms names ms us
    → AreNumbers forms names (ns ++ ms) (ts ++ us)
numbers_append forms names [] ms [] us p q = q
numbers_append forms names [] ms (t ∷ ts) us p q = absurd p
numbers_append forms names (n ∷ ns) ms [] us p q = absurd p
numbers_append forms names (n ∷ ns) ms (t ∷ ts) us p q = (p.0, numbers_append forms names ns ms ts us p.1 q)

pub number_append : (k : Known) (ns ms : List ℕ) (ts us : List Ty) → Number k ns ts → Number k ms us → Number k (ns ++ ms) (ts ++ us)
number_append k ns ms ts us p q = record { each = numbers_append k.forms k.spellings ns ms ts us p.each q.each }

pub no_numbers : (k : Known) → Number k [] []
no_numbers k = record { each = tt }

pub a_number : (k : Known) (n : ℕ) (t : Ty) → IsNumber k.forms k.spellings n t → Number k (n ∷ []) (t ∷ [])
a_number k n t p = record { each = (p, tt) }

-- a list of one number, and its type
pub record IsSingle (k : Known) (ns : List ℕ) (ts : List Ty) : Type 0 where
  pub number : ℕ
  pub type : Ty
  pub is_number : ns ≡ number ∷ []
  pub is_type : ts ≡ type ∷ []
  pub stands : IsNumber k.forms k.spellings number type

pub single_of : (k : Known) (ns : List ℕ) (ts : List Ty) → Number k ns ts → length ns ≡ 1 → IsSingle k ns ts
single_of k [] ts p one = absurd cc
single_of k (n ∷ []) [] p one = absurd p.each
single_of k (n ∷ []) (t ∷ []) p one = record { number = n; type = t; is_number = refl; is_type = refl; stands = p.each.0 }
single_of k (n ∷ []) (t ∷ u ∷ ts) p one = absurd p.each.1
single_of k (n ∷ m ∷ ns) ts p one = absurd cc

pub as_many : (forms : List Form) (names : List (List ℕ)) (ns : List ℕ) (ts : List Ty) → AreNumbers forms names ns ts → length ns ≡ length ts
as_many forms names [] [] p = refl
as_many forms names [] (t ∷ ts) p = absurd p
as_many forms names (n ∷ ns) [] p = absurd p
as_many forms names (n ∷ ns) (t ∷ ts) p = ap suc (as_many forms names ns ts p.1)
