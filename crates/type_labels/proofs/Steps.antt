-- A type one deeper, and a list of members with one more in front.
use Rattle.std.proofs.Common.{◌≡◌, ℕ, ◌-◌, ◌≤◌, zero, suc, List, [], ◌∷◌, ◌++◌, length, take, drop, get_or, slice_get, Some, refl, sym, ap, subst, ◌∙◌, arith}
use Rattle.std.proofs.lemmas.List.{map-append, take-append-drop}
use Rattle.type_table.specs.declared.form.Form.{Form}
use Rattle.type_table.specs.declared.form.Member.{Member}
use Rattle.lowering.specs.Types.{Table, Labelled, members, named, form_label, label_within}
use Rattle.type_labels.specs.Keys.{before}
use Rattle.type_labels.proofs.Growth.{within_grows, suffix_grows}

module _ (forms : List Form) (names : List (List ℕ)) where
  pub one_deeper : (depth ty : ℕ) (form : Form) (ts : Table) → (depth ≡ 0 → ⊥) → slice_get forms ty ≡ Some form
      → form_label forms names (label_within forms names (depth - 1)) (Some form) ts ≡ label_within forms names depth ty ts
  one_deeper zero ty form ts some is = absurd (some refl)
  one_deeper (suc depth) ty form ts some is =
      let less : suc depth - 1 ≡ depth = omega arith in
      ap (λ d. form_label forms names (label_within forms names d) (Some form) ts) less
      ∙ ap (λ o. form_label forms names (label_within forms names depth) o ts) (sym is)

  -- what a member needs is needed by all
  pub needed : (depth code at : ℕ) (parts : List Member) (part : Member) (ts : Table) (rest : Labelled)
      → drop at parts ≡ part ∷ drop (suc at) parts
      → members (label_within forms names depth) code (named forms names (drop (suc at) parts)) ts ≡ rest
      → length (before (label_within forms names depth) code (get_or names part.name []) part.ty rest).table ≤ length (members (label_within forms names depth) code (named forms names parts) ts).table
  needed depth code at parts part ts rest cons is =
      let type = label_within forms names depth in
      let of = named forms names in
      let whole : of (take at parts) ++ of (drop at parts) ≡ of parts = sym (map-append (λ m. (get_or names m.name [], m.ty)) (take at parts) (drop at parts)) ∙ ap of (take-append-drop at parts) in
      let grown = suffix_grows type (within_grows forms names depth) code (of (take at parts)) (of (drop at parts)) ts in
      let first : members type code (of (drop at parts)) ts ≡ before type code (get_or names part.name []) part.ty rest =
      ap (λ ps. members type code (of ps) ts) cons ∙ ap (before type code (get_or names part.name []) part.ty) is in
      subst (λ (l : Labelled). length l.table ≤ length (members type code (of parts) ts).table) first
      (subst (λ ps. length (members type code (of (drop at parts)) ts).table ≤ length (members type code ps ts).table) whole grown)
