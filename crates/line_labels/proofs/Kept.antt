-- One thing more is entered.
use Rattle.std.proofs.Common.{◌≡◌, ℕ, zero, suc, ◌<◌, ◌≤◌, List, [], ◌∷◌, ◌++◌, take, drop, length, get_or, slice_get, Some, refl, sym, ap, subst, ◌∙◌, arith}
use Rattle.std.proofs.lemmas.List.{length-append}
use Rattle.std.proofs.lemmas.Option.{same_Some}
use mathlib.Core.Logic.{dite}
use native.Mathlib.Decide.{dec_le}
use Rattle.type_table.specs.declared.form.Form.{Form}
use Rattle.typed_tree.specs.declared.program.Function.{Function}
use Rattle.lowering.specs.declared.feed.Carried.{Carried}
use Rattle.lowering.specs.Types.{Table, Labelled, labelled, basics, carried_label, with_types}
use Rattle.lowering.proofs.Tables.{Grows, grows-none, carried-grows, types-grow}
use Rattle.lowering.proofs.Stable.{carried-stays}
use Rattle.line_types.proofs.Same.{with-both}
use Rattle.type_labels.specs.declared.known.Known.{Known}
use Rattle.type_labels.specs.Known.{AreKnown}
use Rattle.line_labels.specs.declared.labels.Labels.{Labels}
use Rattle.line_labels.specs.Labels.{AreKept}

-- ---- lists

pub one-more : {A : Type 0} (xs : List A) (n : ℕ) (x : A) → slice_get xs n ≡ Some x → take (suc n) xs ≡ take n xs ++ x ∷ []
one-more [] n x e = absurd cc
one-more (y ∷ xs) zero x e = ap (λ z. z ∷ []) (same_Some y x e)
one-more (y ∷ xs) (suc n) x e = ap (λ l. y ∷ l) (one-more xs n x e)

pub parts-of : {A : Type 0} (xs : List A) (n : ℕ) (x : A) → slice_get xs n ≡ Some x → xs ≡ (take n xs ++ x ∷ []) ++ drop (suc n) xs
parts-of [] n x e = absurd cc
parts-of (y ∷ xs) zero x e = ap (λ z. z ∷ xs) (same_Some y x e)
parts-of (y ∷ xs) (suc n) x e = ap (λ l. y ∷ l) (parts-of xs n x e)

last-of : (xs : List ℕ) (x : ℕ) → get_or (xs ++ x ∷ []) (length xs) 0 ≡ x
last-of [] x = refl
last-of (y ∷ xs) x = last-of xs x

front-of : (xs : List ℕ) (x i : ℕ) → i < length xs → get_or (xs ++ x ∷ []) i 0 ≡ get_or xs i 0
front-of [] x i l = absurd (omega (arith, l))
front-of (y ∷ xs) x zero l = refl
front-of (y ∷ xs) x (suc i) l = front-of xs x i (omega (arith, l))

grown-length : (ts later : Table) → Grows ts later → length ts ≤ length later
grown-length ts later g = omega (arith, ap length g.is, length-append ts g.rest)

module _ (forms : List Form) (names : List (List ℕ)) (fs : List Function) where
  abbrev with : List Carried → Table → Table
  with cs ts = with_types forms names fs cs ts

  abbrev label_of : Carried → Table → Labelled
  label_of c ts = carried_label forms names fs c ts

  -- what the next thing needs is needed by all
  pub next-needed : (l : Labels) (c : Carried) → AreKept forms names fs l → slice_get l.needs (length l.labels) ≡ Some c → length (label_of c l.table).table ≤ length (with l.needs basics)
  next-needed l c k is =
      let n = length l.labels in
      let rest = drop (suc n) l.needs in
      let there : with l.needs basics ≡ with rest (label_of c l.table).table =
      ap (λ ks. with ks basics) (parts-of l.needs n c is)
      ∙ (with-both forms names fs (take n l.needs ++ c ∷ []) rest basics
      ∙ ap (with rest) (with-both forms names fs (take n l.needs) (c ∷ []) basics ∙ ap (λ t. (label_of c t).table) (sym k.table))) in
      let grown = grown-length (label_of c l.table).table (with rest (label_of c l.table).table) (types-grow forms names fs rest (label_of c l.table).table) in
      omega (arith, grown, ap length there)

  pub next-kept : (l : Labels) (c : Carried) (label : ℕ) (table : Table) (known : Known) → AreKept forms names fs l → slice_get l.needs (length l.labels) ≡ Some c → length l.labels < length l.needs → label_of c l.table ≡ labelled label table → AreKnown forms names known table
      → (later : Labels) → later.needs ≡ l.needs → later.labels ≡ l.labels ++ label ∷ [] → later.table ≡ table → later.known ≡ known → AreKept forms names fs later
  next-kept l c label table known k is some made found later e-needs e-labels e-table e-known =
      let n = length l.labels in
      let long : length later.labels ≡ suc n = ap length e-labels ∙ (length-append l.labels (label ∷ []) ∙ omega arith) in
      let made-table : (label_of c l.table).table ≡ table = ap (λ (r : Labelled). r.table) made in
      let grows : Grows l.table table = subst (Grows l.table) made-table (carried-grows forms names fs c l.table) in
      let now : table ≡ with (take (suc n) l.needs) basics =
      sym made-table ∙ (ap (λ t. (label_of c t).table) k.table
      ∙ (sym (with-both forms names fs (take n l.needs) (c ∷ []) basics) ∙ ap (λ ks. with ks basics) (sym (one-more l.needs n c is)))) in
      record {
        few = omega (arith, long, some, ap length e-needs);
        known = subst (λ x. AreKnown forms names x later.table) (sym e-known) (subst (AreKnown forms names known) (sym e-table) found);
        table = e-table ∙ (now ∙ (ap (λ i. with (take i l.needs) basics) (sym long) ∙ ap (λ ks. with (take (length later.labels) ks) basics) (sym e-needs)));
        labels = λ i d below there.
            let at : slice_get l.needs i ≡ Some d = ap (λ ks. slice_get ks i) (sym e-needs) ∙ there in
            ap (label_of d) e-table ∙ (each i d (omega (arith, below, long)) at made-table grows ∙ (ap (λ x. labelled (get_or x i 0) table) (sym e-labels) ∙ ap (labelled (get_or later.labels i 0)) (sym e-table)));
      }
    where
      each : (i : ℕ) (d : Carried) → i < suc (length l.labels) → slice_get l.needs i ≡ Some d → (label_of c l.table).table ≡ table → Grows l.table table
          → label_of d table ≡ labelled (get_or (l.labels ++ label ∷ []) i 0) table
      each i d below at made-table grows = dite (dec_le (length l.labels) i) last before
        where
          last : length l.labels ≤ i → label_of d table ≡ labelled (get_or (l.labels ++ label ∷ []) i 0) table
          last ge =
              let here : i ≡ length l.labels = omega (arith, ge, below) in
              let same : d ≡ c = same_Some d c (sym at ∙ (ap (slice_get l.needs) here ∙ is)) in
              ap (λ x. label_of x table) same
              ∙ (carried-stays forms names fs c l.table table (subst (Grows (label_of c l.table).table) made-table (grows-none (label_of c l.table).table))
              ∙ ap (λ x. labelled x table) (ap (λ (r : Labelled). r.label) made ∙ sym (ap (λ j. get_or (l.labels ++ label ∷ []) j 0) here ∙ last-of l.labels label)))

          before : (length l.labels ≤ i → ⊥) → label_of d table ≡ labelled (get_or (l.labels ++ label ∷ []) i 0) table
          before lt =
              let inside : i < length l.labels = omega (arith, lt) in
              let old = k.labels i d inside at in
              carried-stays forms names fs d l.table table (subst (λ t. Grows t table) (sym (ap (λ (r : Labelled). r.table) old)) grows)
              ∙ ap (λ x. labelled x table) (ap (λ (r : Labelled). r.label) old ∙ sym (front-of l.labels label i inside))

  pub take-all : (xs : List Carried) → take (length xs) xs ≡ xs
  take-all [] = refl
  take-all (x ∷ xs) = ap (λ l. x ∷ l) (take-all xs)

  -- where all are entered, the table is that of all
  pub all-kept : (l : Labels) → AreKept forms names fs l → length l.labels ≡ length l.needs → l.table ≡ with l.needs basics
  all-kept l k whole = k.table ∙ ap (λ ks. with ks basics) (ap (λ n. take n l.needs) whole ∙ take-all l.needs)
