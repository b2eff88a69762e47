-- Lists of what lines carry that leave the same table.
use Rattle.std.proofs.Common.{◌≡◌, ℕ, List, [], ◌∷◌, ◌++◌, ◌⊎◌, inl, inr, refl, sym, ap, subst, ◌∙◌}
use Rattle.type_table.specs.declared.form.Form.{Form}
use Rattle.typed_tree.specs.declared.program.Function.{Function}
use Rattle.lowering.specs.declared.feed.Carried.{Carried}
use Rattle.lowering.specs.Types.{Table, Labelled, carried_label, with_types}
use Rattle.lowering.proofs.Tables.{Grows, grows-none, grows-then, types-grow}
use Rattle.lowering.proofs.Stable.{carried-stays}

-- ---- members of lists

abbrev pub In : {A : Type 0} → A → List A → Type 0
In x [] = ⊥
In x (y ∷ ys) = (x ≡ y) ⊎ In x ys

pub in-left : {A : Type 0} (x : A) (xs ys : List A) → In x xs → In x (xs ++ ys)
in-left x [] ys h = absurd h
in-left x (z ∷ xs) ys (inl e) = inl e
in-left x (z ∷ xs) ys (inr h) = inr (in-left x xs ys h)

pub in-right : {A : Type 0} (x : A) (xs ys : List A) → In x ys → In x (xs ++ ys)
in-right x [] ys h = h
in-right x (z ∷ xs) ys h = inr (in-right x xs ys h)

pub in-either : {A : Type 0} (x : A) (xs ys : List A) → In x (xs ++ ys) → In x xs ⊎ In x ys
in-either x [] ys h = inr h
in-either x (z ∷ xs) ys (inl e) = inl (inl e)
in-either x (z ∷ xs) ys (inr h) = elim (in-either x xs ys h) [ inl a ↦ inl (inr a) | inr b ↦ inr b ]

pub append-nil : {A : Type 0} (xs : List A) → xs ++ [] ≡ xs
append-nil [] = refl
append-nil (x ∷ xs) = ap (λ l. x ∷ l) (append-nil xs)

module _ (forms : List Form) (names : List (List ℕ)) (fs : List Function) where
  abbrev pub with : List Carried → Table → Table
  with cs ts = with_types forms names fs cs ts

  pub with-both : (xs ys : List Carried) (ts : Table) → with (xs ++ ys) ts ≡ with ys (with xs ts)
  with-both [] ys ts = refl
  with-both (x ∷ xs) ys ts = with-both xs ys (carried_label forms names fs x ts).table

  -- what has been entered changes no later table
  pub entered : (c : Carried) (l : List Carried) → In c l → (ts later : Table) → Grows (with l ts) later → (carried_label forms names fs c later).table ≡ later
  entered c [] i ts later g = absurd i
  entered c (x ∷ l) (inl e) ts later g =
      let r = carried_label forms names fs x ts in
      let grown = grows-then r.table (with l r.table) later (types-grow forms names fs l r.table) g in
      ap (λ y. (carried_label forms names fs y later).table) e ∙ ap (λ (y : Labelled). y.table) (carried-stays forms names fs x ts later grown)
  entered c (x ∷ l) (inr i) ts later g = entered c l i (carried_label forms names fs x ts).table later g

  -- these are entered already
  pub all-entered : (ks l : List Carried) → ((c : Carried) → In c ks → In c l) → (ts later : Table) → Grows (with l ts) later → with ks later ≡ later
  all-entered [] l h ts later g = refl
  all-entered (k ∷ ks) l h ts later g =
      ap (with ks) (entered k l (h k (inl refl)) ts later g) ∙ all-entered ks l (λ c i. h c (inr i)) ts later g

  -- the first leaves the same table as the second, which has each of its things
  pub record Same (xs ys : List Carried) : Type 0 where
    pub table : (ts : Table) → with xs ts ≡ with ys ts
    pub among : (c : Carried) → In c xs → In c ys

  pub same-as : (xs ys : List Carried) → xs ≡ ys → Same xs ys
  same-as xs ys e = record { table = λ ts. ap (λ l. with l ts) e; among = λ c i. subst (In c) e i }

  pub same-itself : (xs : List Carried) → Same xs xs
  same-itself xs = record { table = λ ts. refl; among = λ c i. i }

  pub same-then : (xs ys zs : List Carried) → Same xs ys → Same ys zs → Same xs zs
  same-then xs ys zs a b = record { table = λ ts. a.table ts ∙ b.table ts; among = λ c i. b.among c (a.among c i) }

  pub same-both : (xs ys us vs : List Carried) → Same xs ys → Same us vs → Same (xs ++ us) (ys ++ vs)
  same-both xs ys us vs a b = record {
    table = λ ts. with-both xs us ts ∙ (ap (with us) (a.table ts) ∙ (b.table (with ys ts) ∙ sym (with-both ys vs ts)));
    among = λ c i. elim (in-either c xs us i) [ inl l ↦ in-left c ys vs (a.among c l) | inr r ↦ in-right c ys vs (b.among c r) ];
  }

  -- what is there already may be left out
  pub same-without : (l ks : List Carried) → ((c : Carried) → In c ks → In c l) → Same (l ++ ks) l
  same-without l ks h = record {
    table = λ ts. with-both l ks ts ∙ all-entered ks l h ts (with l ts) (grows-none (with l ts));
    among = λ c i. elim (in-either c l ks i) [ inl a ↦ a | inr b ↦ h c b ];
  }
