-- A type that is not marked is there and holds no reals.
use Rattle.std.proofs.Common.{◌≡◌, ℕ, suc, Bool, true, false, cond, not, ◌&&◌, ◌||◌, List, [], ◌∷◌, Option, Some, IsSome, refl, ap, subst, ◌∙◌, ◌⊎◌, inl, inr, arith, Contains}
use Rattle.std.specs.Prelude.{◌==◌}
use Rattle.std.proofs.lemmas.Bool.{eqb-true}
use Rattle.std.proofs.lemmas.List.Elements.{All-contains}
use Rattle.if1_graph.specs.declared.graph.TypeEntry.{TypeEntry}
use Rattle.if1_graph.specs.Kinds.{kind_at, basic_at}
use Rattle.if1_graph.specs.Types.{entry_at}
use Rattle.if1_graph.specs.Formed.{IsType, is_basic, is_real, HasReal, itself, within}
use Rattle.if1_read.specs.declared.table.Table.{Table}
use Rattle.if1_read.specs.Marks.{mark_at, labels_in, is_set, is_marked, is_real_type, holds_marked, AreMarks}
use Rattle.if1_read.specs.Known.{IsTableSound, IsClear}

there_if : (b : Bool) (e : TypeEntry) (o : Option TypeEntry) → (b ≡ false → IsSome o) → IsSome (cond b (Some e) o)
there_if true e o h = refl
there_if false e o h = h refl

mark_if : (b : Bool) (m : Bool) (o : Option Bool) (n : Bool) → cond b (Some m) o ≡ Some n → b ≡ false → o ≡ Some n
mark_if true m o n h e = absurd cc
mark_if false m o n h e = h

marked_there : (ts : List TypeEntry) (ms : List Bool) (l : ℕ) (m : Bool) → mark_at (labels_in ts) ms l ≡ Some m → IsSome (entry_at ts l)
marked_there [] ms l m h = absurd cc
marked_there (e ∷ ts) [] l m h = absurd cc
marked_there (e ∷ ts) (x ∷ ms) l m h =
    there_if (e.label == l) e (entry_at ts l) (λ b. marked_there ts ms l m (mark_if (e.label == l) x (mark_at (labels_in ts) ms l) m h b))

here_if : (b : Bool) (e f : TypeEntry) (o : Option TypeEntry) (ts : List TypeEntry) (l : ℕ) → (e.label == l) ≡ b → (o ≡ Some f → Contains ts f × (f.label ≡ l)) →
    cond b (Some e) o ≡ Some f → Contains (e ∷ ts) f × (f.label ≡ l)
here_if true e f o ts l is there h =
    let same : e ≡ f = cc in
    subst (λ (x : TypeEntry). Contains (e ∷ ts) x × (x.label ≡ l)) same ((0, omega arith, refl), eqb-true e.label l is)
here_if false e f o ts l is there h = let r = there h in ((suc r.0.0, omega (arith, r.0.1), r.0.2), r.1)

found : (ts : List TypeEntry) (l : ℕ) (f : TypeEntry) → entry_at ts l ≡ Some f → Contains ts f × (f.label ≡ l)
found [] l f h = absurd cc
found (e ∷ ts) l f h = here_if (e.label == l) e f (entry_at ts l) ts l refl (found ts l f) h

and_both : (a b : Bool) → a ≡ true → b ≡ true → (a && b) ≡ true
and_both true b p q = q
and_both false b p q = absurd cc

or_one : (a b : Bool) → (a ≡ true) ⊎ (b ≡ true) → (a || b) ≡ true
or_one true b h = refl
or_one false true h = refl
or_one false false (inl h) = h
or_one false false (inr h) = h

is_no : (b : Bool) → b ≡ false → not b ≡ true
is_no b e = ap not e

parted : (f : ℕ → Bool) (a b m : ℕ) → (a ≡ m) ⊎ (b ≡ m) → f m ≡ true → (f a ≡ true) ⊎ (f b ≡ true)
parted f a b m (inl e) h = inl (ap f e ∙ h)
parted f a b m (inr e) h = inr (ap f e ∙ h)

pub marked : (ts : List TypeEntry) (ms : List Bool) → AreMarks ts ms → (l : ℕ) → HasReal ts l → is_marked ts ms l ≡ true
marked ts ms are l (itself r) =
    let f = found ts l r.entry r.found in
    subst (λ (x : ℕ). is_marked ts ms x ≡ true) f.1
    (All-contains (λ e. is_real_type e ≡ true → is_marked ts ms e.label ≡ true) ts r.entry are.reals f.0
    (and_both (is_basic (kind_at r.entry.code)) (is_real (basic_at r.entry.first)) r.basic_kind r.real_code))
marked ts ms are l (within {m = m} h r) =
    let f = found ts l h.entry h.found in
    let inner = marked ts ms are m r in
    subst (λ (x : ℕ). is_marked ts ms x ≡ true) f.1
    (All-contains (λ e. holds_marked ts ms e ≡ true → is_marked ts ms e.label ≡ true) ts h.entry are.closed f.0
    (and_both (not (is_basic (kind_at h.entry.code))) (is_marked ts ms h.entry.first || is_marked ts ms h.entry.second) (is_no (is_basic (kind_at h.entry.code)) h.no_basic)
    (or_one (is_marked ts ms h.entry.first) (is_marked ts ms h.entry.second)
    (parted (is_marked ts ms) h.entry.first h.entry.second m h.part inner))))

pub clear_there : (t : Table) (l : ℕ) → IsClear t l → IsType t.types l
clear_there t l h = marked_there t.types t.reals l false h

pub clear_free : (t : Table) (l : ℕ) → IsTableSound t → IsClear t l → ¬ HasReal t.types l
clear_free t l s h r =
    let yes : is_marked t.types t.reals l ≡ true = marked t.types t.reals s.marks l r in
    let no : is_marked t.types t.reals l ≡ false = ap is_set h in
    cc
