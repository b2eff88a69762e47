-- A thing that is there has its label.
use Rattle.std.proofs.Common.{◌≡◌, ℕ, zero, suc, Bool, true, false, cond, List, [], ◌∷◌, length, get_or, slice_get, position, Some, None, refl, sym, ap, ◌∙◌, arith}
use Rattle.std.specs.Prelude.{All}
use Rattle.std.specs.List.{position_or_len}
use Rattle.std.proofs.lemmas.Bool.{eq-eqb, lt-ltb}
use Rattle.std.proofs.lemmas.Bool.Decides.{Decides-eqb}
use Rattle.std.proofs.lemmas.Option.{same_Some, slice_get-get_or, slice_get_within}
use Rattle.type_table.specs.declared.form.Form.{Form}
use Rattle.typed_tree.specs.declared.program.Function.{Function}
use Rattle.lowering.specs.declared.feed.Carried.{Carried}
use Rattle.lowering.specs.declared.feed.Carried.TheVariants.{One, Many, Callee}
use Rattle.lowering.specs.Types.{labelled, carried_label}
use Rattle.line_labels.specs.declared.labels.Labels.{Labels}
use Rattle.line_labels.specs.Needs.{is_same}
use Rattle.line_labels.specs.Labels.{label_at, label_in, AreKept}

pub same-itself : (c : Carried) → is_same c c ≡ true
same-itself (One a) = eq-eqb a a refl
same-itself (Many a) = eq-eqb a a refl
same-itself (Callee a) = eq-eqb a a refl

pub same-is : (a b : Carried) → is_same a b ≡ true → a ≡ b
same-is (One a) (One b) h = ap One ((Decides-eqb a b).0 h)
same-is (One a) (Many b) h = absurd cc
same-is (One a) (Callee b) h = absurd cc
same-is (Many a) (One b) h = absurd cc
same-is (Many a) (Many b) h = ap Many ((Decides-eqb a b).0 h)
same-is (Many a) (Callee b) h = absurd cc
same-is (Callee a) (One b) h = absurd cc
same-is (Callee a) (Many b) h = absurd cc
same-is (Callee a) (Callee b) h = ap Callee ((Decides-eqb a b).0 h)

module _ (c : Carried) where
  abbrev place : List Carried → ℕ
  place xs = position_or_len (is_same c) xs

  here : (x : Carried) (xs : List Carried) → is_same c x ≡ true → place (x ∷ xs) ≡ 0
  here x xs is = rw is refl

  later : (x : Carried) (xs : List Carried) → is_same c x ≡ false → place (x ∷ xs) ≡ suc (place xs)
  later x xs is = rw is (omega arith)

  pub found : (xs : List Carried) (k : ℕ) → slice_get xs k ≡ Some c → slice_get xs (place xs) ≡ Some c
  found [] k e = absurd cc
  found (x ∷ xs) k e = by (is_same c x) refl k e (λ j h. found xs j h)
    where
      by : (b : Bool) → is_same c x ≡ b → (k : ℕ) → slice_get (x ∷ xs) k ≡ Some c → ((j : ℕ) → slice_get xs j ≡ Some c → slice_get xs (place xs) ≡ Some c) → slice_get (x ∷ xs) (place (x ∷ xs)) ≡ Some c
      by true is k e r = ap (slice_get (x ∷ xs)) (here x xs is) ∙ ap Some (sym (same-is c x is))
      by false is zero e r = absurd (differ (sym (ap (is_same c) (same_Some x c e) ∙ same-itself c) ∙ is))
        where
          differ : true ≡ false → ⊥
          differ h = cc
      by false is (suc j) e r = ap (slice_get (x ∷ xs)) (later x xs is) ∙ r j e

  pub placed : (xs : List Carried) (k : ℕ) → slice_get xs k ≡ Some c → position (is_same c) xs ≡ Some (place xs)
  placed xs k e = ap (λ (b : Bool). cond b (Some (place xs)) None) (lt-ltb (place xs) (length xs) (slice_get_within xs (place xs) c (found xs k e)))

module _ (forms : List Form) (names : List (List ℕ)) (fs : List Function) where
  -- where each thing has a label, it is that of the table
  pub all-labelled : (l : Labels) → AreKept forms names fs l → length l.labels ≡ length l.needs → All (λ c. carried_label forms names fs c l.table ≡ labelled (label_in l c) l.table) l.needs
  all-labelled l k whole i d below =
      let c = get_or l.needs i d in
      let there = slice_get-get_or l.needs i d below in
      let at = place c l.needs in
      let is = found c l.needs i there in
      let inside = slice_get_within l.needs at c is in
      k.labels at c (omega (arith, whole, inside)) is ∙ ap (λ o. labelled (label_at l.labels o) l.table) (sym (placed c l.needs i there))
