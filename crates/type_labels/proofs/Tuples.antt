-- What the members of tuples, and the parts of a function's type, need is needed by the whole.
use Rattle.std.proofs.Common.{◌≡◌, ℕ, ◌≤◌, suc, List, [], ◌∷◌, ◌++◌, length, take, drop, sym, ap, subst, ◌∙◌, arith}
use Rattle.std.proofs.lemmas.List.{map-append, take-append-drop}
use Rattle.lowering.specs.Types.{Table, Labelled, entry, members, label_within}
use Rattle.type_table.specs.declared.form.Form.{Form}
use Rattle.type_labels.specs.Keys.{before}
use Rattle.type_labels.specs.Functions.{unnamed, tuple_by, function_by}
use Rattle.type_labels.proofs.Growth.{Grows, enter_grows, members_grow, suffix_grows, within_grows}

module _ (forms : List Form) (names : List (List ℕ)) (depth : ℕ) where
  abbrev type : ℕ → Table → Labelled
  type = label_within forms names depth

  -- what a member needs is needed by all
  pub member_needed : (at : ℕ) (tys : List ℕ) (ty : ℕ) (ts : Table) (rest : Labelled) → drop at tys ≡ ty ∷ drop (suc at) tys → tuple_by type (drop (suc at) tys) ts ≡ rest
      → length (before type 8 [] ty rest).table ≤ length (tuple_by type tys ts).table
  member_needed at tys ty ts rest cons is =
      let whole : unnamed (take at tys) ++ unnamed (drop at tys) ≡ unnamed tys = sym (map-append (λ t. ([], t)) (take at tys) (drop at tys)) ∙ ap unnamed (take-append-drop at tys) in
      let grown = suffix_grows type (within_grows forms names depth) 8 (unnamed (take at tys)) (unnamed (drop at tys)) ts in
      let first : tuple_by type (drop at tys) ts ≡ before type 8 [] ty rest = ap (λ l. tuple_by type l ts) cons ∙ ap (before type 8 [] ty) is in
      subst (λ (l : Labelled). length l.table ≤ length (tuple_by type tys ts).table) first
      (subst (λ ps. length (tuple_by type (drop at tys) ts).table ≤ length (members type 8 ps ts).table) whole grown)

  pub tuple_grows : (tys : List ℕ) → Grows (tuple_by type tys)
  tuple_grows tys ts = members_grow type (within_grows forms names depth) 8 (unnamed tys) ts

  pub results_needed : (params results : List ℕ) (ts : Table) → length (tuple_by type results (tuple_by type params ts).table).table ≤ length (function_by type params results ts).table
  results_needed params results ts =
      let a = tuple_by type params ts in
      let r = tuple_by type results a.table in
      enter_grows (entry 3 a.label r.label []) r.table

  pub arguments_needed : (params results : List ℕ) (ts : Table) → length (tuple_by type params ts).table ≤ length (function_by type params results ts).table
  arguments_needed params results ts =
      let a = tuple_by type params ts in
      let more = tuple_grows results a.table in
      let rest = results_needed params results ts in
      omega (arith, more, rest)
