-- Tokens denote one type, and none where they break a rule.
use Rattle.std.proofs.Common.{◌≡◌, ℕ, List, [], ◌++◌, length, refl, sym, ap, ◌∙◌, append-nil, Option, Some, None, le_refl, le_of_eq}
use mathlib.Core.List.{append_cancel_right}
use Rattle.flow_value.specs.declared.ty.Ty.{Ty}
use Rattle.sisal_grammar.specs.declared.value.Placed.{Placed}
use Rattle.typed_tree.specs.Written.{Denotes, Misnames}
use Rattle.typing_unique.proofs.UReader.{read}
use Rattle.typing_unique.proofs.URead.{read_type}
use Rattle.typing_unique.proofs.UMisread.{misread_type}

same_parts : (o : Option (Ty × List Placed)) (a b : Ty) (rest others : List Placed) → o ≡ Some (a, rest) → o ≡ Some (b, others) → (a ≡ b) × (rest ≡ others)
same_parts o a b rest others p q =
    let same : ◌≡◌ {A = Ty × List Placed} (a, rest) (b, others) = cc in
    (ap (λ r. r.0) same, ap (λ r. r.1) same)

some_none : (o : Option (Ty × List Placed)) (a : Ty) (rest : List Placed) → o ≡ Some (a, rest) → o ≡ None → ⊥
some_none o a rest p q = cc

module _ (spellings : List (List ℕ)) (types : List (ℕ × Ty)) where
  -- also where other tokens stand behind
  same_front : (ts us rest others : List Placed) (a b : Ty) → Denotes spellings types ts a → Denotes spellings types us b → ts ++ rest ≡ us ++ others → (a ≡ b) × (rest ≡ others)
  same_front ts us rest others a b d e h =
      let n = length (ts ++ rest) in
      same_parts (read spellings types n (ts ++ rest)) a b rest others
      (read_type spellings types ts a d n rest (le_refl n))
      (ap (read spellings types n) h ∙ read_type spellings types us b e n others (le_of_eq (ap length (sym h))))

  pub one_front : (ts us rest others : List Placed) (a b : Ty) → Denotes spellings types ts a → Denotes spellings types us b → ts ++ rest ≡ us ++ others → (ts ≡ us) × (a ≡ b) × (rest ≡ others)
  one_front ts us rest others a b d e h =
      let s = same_front ts us rest others a b d e h in
      (append_cancel_right ts us others (ap (λ l. ts ++ l) (sym s.1) ∙ h), s.0, s.1)

  pub one_denoted : (ts : List Placed) (a b : Ty) → Denotes spellings types ts a → Denotes spellings types ts b → a ≡ b
  one_denoted ts a b d e = (same_front ts ts [] [] a b d e refl).0

  pub none_in_front : (ts us rest : List Placed) (rule line : ℕ) (a : Ty) → Misnames spellings types ts rule line → Denotes spellings types us a → us ++ rest ≡ ts → ⊥
  none_in_front ts us rest rule line a d e h =
      let n = length ts in
      some_none (read spellings types n (us ++ rest)) a rest
      (read_type spellings types us a e n rest (le_of_eq (ap length h)))
      (ap (read spellings types n) h ∙ misread_type spellings types ts rule line d n (le_refl n))

  pub none_denoted : (ts : List Placed) (rule line : ℕ) (a : Ty) → Misnames spellings types ts rule line → Denotes spellings types ts a → ⊥
  none_denoted ts rule line a d e = none_in_front ts ts [] rule line a d e (append-nil ts)
