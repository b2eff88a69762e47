-- What more things do to the table and to what is kept.
use Rattle.std.proofs.Common.{◌≡◌, ℕ, Bool, true, false, ◌||◌, inl, inr, List, [], ◌∷◌, ◌++◌, refl, sym, ap, ◌∙◌}
use Rattle.std.specs.Prelude.{if◌then◌else◌}
use Rattle.std.specs.List.{list_any}
use Rattle.type_table.specs.declared.form.Form.{Form}
use Rattle.typed_tree.specs.declared.program.Function.{Function}
use Rattle.lowering.specs.declared.feed.Carried.{Carried}
use Rattle.lowering.specs.Types.{Table, carried_label, with_types}
use Rattle.lowering.proofs.Tables.{grows-none}
use Rattle.line_types.proofs.Same.{In, with-both, entered}
use Rattle.line_labels.specs.Needs.{is_same, put, added}
use Rattle.line_labels.proofs.Found.{same-is}

pub any-in : (c : Carried) (ks : List Carried) → list_any (is_same c) ks ≡ true → In c ks
any-in c [] h = absurd cc
any-in c (k ∷ ks) h = by (is_same c k) refl (λ r. any-in c ks r) h
  where
    by : (b : Bool) → is_same c k ≡ b → (list_any (is_same c) ks ≡ true → In c ks) → (b || list_any (is_same c) ks) ≡ true → In c (k ∷ ks)
    by true is r h = inl (same-is c k is)
    by false is r h = inr (r h)

module _ (forms : List Form) (names : List (List ℕ)) (fs : List Function) where
  abbrev with : List Carried → Table → Table
  with cs ts = with_types forms names fs cs ts

  put-table : (ks : List Carried) (c : Carried) (ts : Table) → with (put ks c) ts ≡ (carried_label forms names fs c (with ks ts)).table
  put-table ks c ts = by (list_any (is_same c) ks) refl
    where
      by : (b : Bool) → list_any (is_same c) ks ≡ b → with (if b then ks else ks ++ c ∷ []) ts ≡ (carried_label forms names fs c (with ks ts)).table
      by true is = sym (entered forms names fs c ks (any-in c ks is) ts (with ks ts) (grows-none (with ks ts)))
      by false is = with-both forms names fs ks (c ∷ []) ts

  -- the table of all things is that of the lists one after another
  pub added-table : (ks cs : List Carried) (ts : Table) → with (added ks cs) ts ≡ with cs (with ks ts)
  added-table ks [] ts = refl
  added-table ks (c ∷ cs) ts = added-table (put ks c) cs ts ∙ ap (with cs) (put-table ks c ts)
