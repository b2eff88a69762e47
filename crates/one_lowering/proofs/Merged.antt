-- A table in which the types of two tables have numbers, each type one.
use Rattle.std.proofs.Common.{◌≡◌, ℕ, zero, suc, ◌<◌, ◌≤◌, Bool, true, false, nat_lt, List, [], ◌∷◌, ◌++◌, All, map, length, get_or, slice_get, Option, Some, None, option_map, inl, inr, ◌⊎◌, refl, sym, ap, subst, ◌∙◌, arith, position, append_assoc}
use Rattle.std.specs.Prelude.{unwrap_or}
use Rattle.std.proofs.lemmas.Bool.{ltb-true, ltb-false}
use Rattle.std.proofs.lemmas.List.{length-append, append-nil, get_or_append_left, get_or_past, get_or_push}
use Rattle.std.proofs.lemmas.List.Elements.{All-head, All-tail}
use Rattle.std.proofs.lemmas.Option.{slice_get_past, slice_get_within, slice_get-get_or}
use Rattle.type_table.specs.declared.form.Form.{Form}
use Rattle.type_table.specs.declared.form.Form.TheVariants as form
use Rattle.type_table.specs.declared.form.Member.{Member}
use Rattle.type_table.specs.Forms.{parts}
use Rattle.type_table.specs.Keys.{key_of, has_key, with_form}
use Rattle.type_table.specs.Tables.{IsOver, IsWell, IsTable}
use Rattle.type_table.proofs.Lists.{seam, left, which, IsEarlier, IsLast}
use Rattle.type_table.proofs.Codes.{form_found, with_form-found, with_form-absent, is_absent}
use Rattle.one_lowering.specs.Moves.{moved_member, moved_form, Moves}

-- ---- tables that grow

-- no form twice
abbrev pub Once : List Form → Type 0
Once fs = (k m : ℕ) (f : Form) → slice_get fs k ≡ Some f → slice_get fs m ≡ Some f → k ≡ m

abbrev pub Keeps : List Form → List Form → Type 0
Keeps fs gs = (k : ℕ) (f : Form) → slice_get fs k ≡ Some f → slice_get gs k ≡ Some f

-- the place of a form in a table that it is added to
abbrev place_of : Option ℕ → List Form → ℕ
place_of o fs = unwrap_or o (length fs)

abbrev place_in : List Form → Form → ℕ
place_in fs f = place_of (position (has_key (key_of f)) fs) fs

record IsAdded (fs : List Form) (f : Form) (gs : List Form) (k : ℕ) : Type 0 where
  there : slice_get gs k ≡ Some f
  keeps : Keeps fs gs
  once : Once fs → Once gs

apart : (fs : List Form) (f : Form) → position (has_key (key_of f)) fs ≡ None → Once fs → (k m : ℕ) (g : Form) → IsEarlier fs k g ⊎ IsLast fs f k g → IsEarlier fs m g ⊎ IsLast fs f m g → k ≡ m
apart fs f e once k m g (inl a) (inl b) = once k m g a.is b.is
apart fs f e once k m g (inl a) (inr b) = absurd (is_absent f fs k e (a.is ∙ ap Some (sym b.is)))
apart fs f e once k m g (inr a) (inl b) = absurd (is_absent f fs m e (b.is ∙ ap Some (sym a.is)))
apart fs f e once k m g (inr a) (inr b) = a.place ∙ sym b.place

added : (fs : List Form) (f : Form) → IsAdded fs f (with_form fs f) (place_in fs f)
added fs f = by (position (has_key (key_of f)) fs) refl
  where
    by : (o : Option ℕ) → position (has_key (key_of f)) fs ≡ o → IsAdded fs f (with_form fs f) (place_of o fs)
    by None e =
        subst (λ gs. IsAdded fs f gs (length fs)) (sym (with_form-absent f fs e)) (record {
          there = seam fs f;
          keeps = λ k g h. left fs (f ∷ []) k g h;
          once = λ once k m g a b. apart fs f e once k m g (which fs f k g a) (which fs f m g b);
        })
    by (Some k) e =
        subst (λ gs. IsAdded fs f gs k) (sym (with_form-found f fs k (sym e))) (record { there = form_found f fs k (sym e); keeps = λ j g h. h; once = λ once. once })

-- ---- forms by numbers that agree

members-agree : (a b : ℕ → ℕ) (ms : List Member) → All (λ t. a t ≡ b t) (map (λ m. m.ty) ms) → map (moved_member a) ms ≡ map (moved_member b) ms
members-agree a b [] h = refl
members-agree a b (m ∷ ms) h =
    ap (λ t. record { name = m.name; ty = t } ∷ map (moved_member a) ms) (All-head (λ t. a t ≡ b t) m.ty (map (λ m. m.ty) ms) h)
    ∙ ap (λ l. moved_member b m ∷ l) (members-agree a b ms (All-tail (λ t. a t ≡ b t) m.ty (map (λ m. m.ty) ms) h))

form-agrees : (a b : ℕ → ℕ) (f : Form) → All (λ t. a t ≡ b t) (parts f) → moved_form a f ≡ moved_form b f
form-agrees a b form.Boolean h = refl
form-agrees a b form.Character h = refl
form-agrees a b form.Integer h = refl
form-agrees a b form.Null h = refl
form-agrees a b (form.Array t) h = ap form.Array (All-head (λ t. a t ≡ b t) t [] h)
form-agrees a b (form.Stream t) h = ap form.Stream (All-head (λ t. a t ≡ b t) t [] h)
form-agrees a b (form.Record ms) h = ap form.Record (members-agree a b ms h)
form-agrees a b (form.Union ms) h = ap form.Union (members-agree a b ms h)

-- numbers are read from a list, whatever stands for those past it
abbrev pub read : List ℕ → ℕ → ℕ → ℕ
read ns d t = get_or ns t d

same_default : (xs : List ℕ) (k i j : ℕ) → k < length xs → get_or xs k i ≡ get_or xs k j
same_default [] k i j l = absurd (omega (arith, l))
same_default (x ∷ xs) zero i j l = refl
same_default (x ∷ xs) (suc k) i j l = same_default xs k i j (omega (arith, l))

below : (ns ms : List ℕ) (d e n : ℕ) (f : Form) → IsOver n f → n ≤ length ns → moved_form (read (ns ++ ms) d) f ≡ moved_form (read ns e) f
below ns ms d e n f over h = form-agrees (read (ns ++ ms) d) (read ns e) f (λ k x l. same (get_or (parts f) k x) (over k x l))
  where
    same : (t : ℕ) → t < n → get_or (ns ++ ms) t d ≡ get_or ns t e
    same t l = get_or_append_left ns ms d t (omega (arith, l, h)) ∙ same_default ns t d e (omega (arith, l, h))

-- ---- one table into another

-- a table, and the numbers in it of the types of another
pub record Merged : Type 0 where
  pub table : List Form
  pub numbers : List ℕ

abbrev step : Merged → Form → Merged
step m f =
    let g = moved_form (read m.numbers 0) f in
    record { table = with_form m.table g; numbers = m.numbers ++ place_in m.table g ∷ [] }

abbrev pub merged : List Form → Merged → Merged
merged [] m = m
merged (f ∷ fs) m = merged fs (step m f)

-- each type of these so far has its form at its number
record Stands (done : List Form) (m : Merged) : Type 0 where
  long : length m.numbers ≡ length done
  over : (t : ℕ) (f : Form) → slice_get done t ≡ Some f → IsOver t f
  placed : (t : ℕ) (f : Form) → slice_get done t ≡ Some f → slice_get m.table (read m.numbers 0 t) ≡ Some (moved_form (read m.numbers 0) f)

stepped : (done : List Form) (m : Merged) (f : Form) → IsOver (length done) f → Stands done m → Stands (done ++ f ∷ []) (step m f)
stepped done m f over s = record {
  long = let a = length-append m.numbers (k ∷ []) in let b = length-append done (f ∷ []) in let c = s.long in omega (arith, a, b, c);
  over = λ t h e. over-at t h (which done f t h e);
  placed = λ t h e. placed-at t h (which done f t h e);
}
  where
    g : Form
    g = moved_form (read m.numbers 0) f

    k : ℕ
    k = place_in m.table g

    add : IsAdded m.table g (with_form m.table g) k
    add = added m.table g

    over-at : (t : ℕ) (h : Form) → IsEarlier done t h ⊎ IsLast done f t h → IsOver t h
    over-at t h (inl e) = s.over t h e.is
    over-at t h (inr e) = subst (λ i. IsOver i h) (sym e.place) (subst (IsOver (length done)) e.is over)

    placed-at : (t : ℕ) (h : Form) → IsEarlier done t h ⊎ IsLast done f t h → slice_get (with_form m.table g) (read (m.numbers ++ k ∷ []) 0 t) ≡ Some (moved_form (read (m.numbers ++ k ∷ []) 0) h)
    placed-at t h (inl e) =
        let within : t < length done = slice_get_within done t h e.is in
        let long = s.long in
        ap (slice_get (with_form m.table g)) (get_or_append_left m.numbers (k ∷ []) 0 t (omega (arith, within, long)))
        ∙ add.keeps (read m.numbers 0 t) (moved_form (read m.numbers 0) h) (s.placed t h e.is)
        ∙ ap Some (sym (below m.numbers (k ∷ []) 0 0 t h (s.over t h e.is) (omega (arith, within, long))))
    placed-at t h (inr e) =
        let place = e.place in
        let long = s.long in
        ap (slice_get (with_form m.table g)) (get_or_push m.numbers k 0 t (omega (arith, place, long)))
        ∙ add.there
        ∙ ap (λ x. Some (moved_form (read m.numbers 0) x)) e.is
        ∙ ap Some (sym (below m.numbers (k ∷ []) 0 0 (length done) h (subst (IsOver (length done)) e.is over) (omega (arith, long))))

record AreMerged (done rest : List Form) (m : Merged) : Type 0 where
  stands : Stands (done ++ rest) (merged rest m)
  keeps : Keeps m.table (merged rest m).table
  once : Once m.table → Once (merged rest m).table

merge : (done rest : List Form) (m : Merged) → ((t : ℕ) (f : Form) → slice_get (done ++ rest) t ≡ Some f → IsOver t f) → Stands done m → AreMerged done rest m
merge done [] m over s = record { stands = subst (λ l. Stands l m) (sym (append-nil done)) s; keeps = λ k f h. h; once = λ once. once }
merge done (f ∷ rest) m over s =
    let g = moved_form (read m.numbers 0) f in
    let add = added m.table g in
    let again : (done ++ f ∷ []) ++ rest ≡ done ++ f ∷ rest = append_assoc done (f ∷ []) rest in
    let here : IsOver (length done) f = over (length done) f (ap (λ l. slice_get l (length done)) (sym again) ∙ left (done ++ f ∷ []) rest (length done) f (seam done f)) in
    let r = merge (done ++ f ∷ []) rest (step m f) (λ t h e. over t h (ap (λ l. slice_get l t) (sym again) ∙ e)) (stepped done m f here s) in
    record {
      stands = subst (λ l. Stands l (merged rest (step m f))) again r.stands;
      keeps = λ k h e. r.keeps k h (add.keeps k h e);
      once = λ once. r.once (add.once once);
    }

abbrev no_form : List Form
no_form = []

none-there : (t : ℕ) (f : Form) → slice_get no_form t ≡ Some f → ⊥
none-there t f e = cc

-- a table into another from the start
start : (fs ts : List Form) → IsWell fs → AreMerged [] fs (record { table = ts; numbers = [] })
start fs ts well =
    merge [] fs (record { table = ts; numbers = [] }) well.after_parts
    (record { long = refl; over = λ t f e. absurd (none-there t f e); placed = λ t f e. absurd (none-there t f e) })

-- ---- the numbers in the whole

-- numbers of types that stand in a table that each type is in once, and none for other numbers
module _ (fs : List Form) (table : IsTable fs) (m : Merged) (s : Stands fs m) (all : List Form) (keeps : Keeps m.table all) (once : Once all) where
  abbrev to : ℕ → ℕ
  to t = read m.numbers (length all) t

  within : (t : ℕ) (f : Form) → slice_get fs t ≡ Some f → slice_get all (to t) ≡ Some (moved_form to f)
  within t f e =
      let l : t < length fs = slice_get_within fs t f e in
      let long = s.long in
      ap (slice_get all) (same_default m.numbers t (length all) 0 (omega (arith, l, long)))
      ∙ keeps (read m.numbers 0 t) (moved_form (read m.numbers 0) f) (s.placed t f e)
      ∙ ap Some (sym (below m.numbers [] (length all) 0 t f (s.over t f e) (omega (arith, l, long))) ∙ ap (λ ns. moved_form (read ns (length all)) f) (append-nil m.numbers))

  form-at : (t : ℕ) → slice_get all (to t) ≡ option_map (moved_form to) (slice_get fs t)
  form-at t = by (nat_lt t (length fs)) refl
    where
      by : (b : Bool) → nat_lt t (length fs) ≡ b → slice_get all (to t) ≡ option_map (moved_form to) (slice_get fs t)
      by true e =
          let there : slice_get fs t ≡ Some (get_or fs t form.Boolean) = slice_get-get_or fs t form.Boolean (ltb-true t (length fs) e) in
          within t (get_or fs t form.Boolean) there ∙ ap (option_map (moved_form to)) (sym there)
      by false e =
          let far : length fs ≤ t = ltb-false t (length fs) e in
          let long = s.long in
          let past : to t ≡ length all = get_or_past m.numbers t (length all) (omega (arith, far, long)) in
          ap (slice_get all) past ∙ slice_get_past all (length all) (omega arith) ∙ ap (option_map (moved_form to)) (sym (slice_get_past fs t far))

  -- a basic type that stands at its own place in both
  own : (t : ℕ) (f : Form) → moved_form to f ≡ f → slice_get fs t ≡ Some f → slice_get all t ≡ Some f → to t ≡ t
  own t f e a b = once (to t) t f (within t f a ∙ ap Some e) b

  basic : (t : ℕ) (f : Form) → slice_get (form.Boolean ∷ form.Character ∷ form.Integer ∷ form.Null ∷ form.Array 1 ∷ table.rest) t ≡ Some f → slice_get fs t ≡ Some f
  basic t f e = ap (λ l. slice_get l t) table.basics ∙ e

  moves : slice_get all 0 ≡ Some form.Boolean → slice_get all 1 ≡ Some form.Character → slice_get all 2 ≡ Some form.Integer → slice_get all 3 ≡ Some form.Null → Moves to fs all
  moves b c i n = record {
    form = form-at;
    booleans = own 0 form.Boolean refl (basic 0 form.Boolean refl) b;
    characters = own 1 form.Character refl (basic 1 form.Character refl) c;
    integers = own 2 form.Integer refl (basic 2 form.Integer refl) i;
    nulls = own 3 form.Null refl (basic 3 form.Null refl) n;
  }

-- ---- two tables

pub record AreBoth (fs gs : List Form) : Type 0 where
  pub all : List Form
  pub once : Once all
  pub first : ℕ → ℕ
  pub second : ℕ → ℕ
  pub moves : Moves first fs all
  pub other : Moves second gs all

pub both_in : (fs gs : List Form) → IsTable fs → IsTable gs → AreBoth fs gs
both_in fs gs a b =
    let one = start fs fs a.well in
    let m = merged fs (record { table = fs; numbers = [] }) in
    let two = start gs m.table b.well in
    let n = merged gs (record { table = m.table; numbers = [] }) in
    let once = two.once (one.once a.well.once) in
    let kept : Keeps fs n.table = λ k f e. two.keeps k f (one.keeps k f e) in
    let has : (t : ℕ) (f : Form) → slice_get (form.Boolean ∷ form.Character ∷ form.Integer ∷ form.Null ∷ form.Array 1 ∷ a.rest) t ≡ Some f → slice_get n.table t ≡ Some f = λ t f e. kept t f (ap (λ l. slice_get l t) a.basics ∙ e) in
    let boolean = has 0 form.Boolean refl in
    let character = has 1 form.Character refl in
    let integer = has 2 form.Integer refl in
    let null = has 3 form.Null refl in
    record {
      all = n.table;
      once = once;
      first = to fs a m one.stands n.table two.keeps once;
      second = to gs b n two.stands n.table (λ k f e. e) once;
      moves = moves fs a m one.stands n.table two.keeps once boolean character integer null;
      other = moves gs b n two.stands n.table (λ k f e. e) once boolean character integer null;
    }
