-- What an iteration reads, from the table of forms.
use Rattle.std.proofs.Common.{◌≡◌, ℕ, zero, suc, if◌then◌else◌, nat_eq, pos, negsuc, Bool, true, false, List, [], ◌∷◌, ◌++◌, map, drop, length, slice_get, Option, Some, None, refl, sym, ap, ◌∙◌, arith}
use Rattle.std.specs.List.{list_all}
use Rattle.std.proofs.lemmas.Bool.{eqb-true}
use Rattle.flow_value.specs.declared.cause.Cause.{Cause}
use Rattle.flow_value.specs.declared.cause.Cause.TheVariants as cause
use Rattle.flow_value.specs.declared.value.Val.{Val}
use Rattle.flow_value.specs.declared.value.Val.TheOpen.{Val-F}
use Rattle.flow_value.specs.declared.value.Val.TheViews as values
use Rattle.if1_graph.specs.declared.op.Compound.TheVariants as compound
use Rattle.if1_graph.specs.declared.op.Part.TheVariants as part
use Rattle.if1_graph.specs.Parts.{part_at}
use Rattle.if1_graph.specs.Tables.{◌>>=◌}
use Rattle.if1_marks.proofs.Lent.{are-lent}
use Rattle.graph_meaning.specs.Carried.{Carried, Value, val_of}
use Rattle.graph_meaning.specs.Forms.{Form, Call, Select, TagCase, LoopA, LoopB, ForAll, Next, Iterate, Stage, Called, Selecting, Chosen, Starting, Testing, Turning, Generating, Returning, fails, enter_chosen, select, tested, follow, gather, spread, iterate, first_spoiled, are_as_long, rows_of, places_of, heads, items}
use Rattle.graph_meaning.specs.Demand.{Network}
use Rattle.run_states.specs.Phases.{Comes, skips, begins, enters, iterates}
use Rattle.run_states.proofs.Lookups.{some-same}
use Rattle.run_events.proofs.Lending.{by-form}
use Rattle.run_events.specs.Iterated.{IsIteration, AreIterationsTold, DoIterationsLook}
use Rattle.run_events.proofs.Modes.{and-left}
use Rattle.run_events.proofs.Owning.{and-right}

none-some : {A P : Type 0} (a : A) → None ≡ Some a → P
none-some a e = absurd (clash e)
  where
    clash : None ≡ Some a → ⊥
    clash e = cc

-- ---- rows of elements

-- each list has so many elements
abbrev AreLong : ℕ → List (List Val) → Type 0
AreLong n [] = Unit {0}
AreLong n (l ∷ ls) = (length l ≡ n) × AreLong n ls

long-rest : (n : ℕ) (ls : List (List Val)) → AreLong (suc n) ls → AreLong n (map (drop 1) ls)
long-rest n [] a = tt
long-rest n ([] ∷ ls) a = absurd (not-zero n a.0)
  where
    not-zero : (n : ℕ) → 0 ≡ suc n → ⊥
    not-zero n e = omega (arith, e)
long-rest n ((v ∷ l) ∷ ls) a = (let e = a.0 in omega (arith, e), long-rest n ls a.1)

first-at : (n : ℕ) (ls : List (List Val)) → AreLong (suc n) ls → (i : ℕ) (l : List Val) → slice_get ls i ≡ Some l → (v : Val) × (slice_get l 0 ≡ Some v) × (slice_get (heads ls) i ≡ Some (Value v))
first-at n [] a i l e = none-some l e
first-at n ([] ∷ ls) a i l e = absurd (not-zero n a.0)
  where
    not-zero : (n : ℕ) → 0 ≡ suc n → ⊥
    not-zero n e = omega (arith, e)
first-at n ((v ∷ vs) ∷ ls) a zero l e = (v, ap (λ z. slice_get z 0) (sym (some-same (v ∷ vs) l e)), refl)
first-at n ((v ∷ vs) ∷ ls) a (suc i) l e = first-at n ls a.1 i l e

mapped-at : (ls : List (List Val)) (i : ℕ) (l : List Val) → slice_get ls i ≡ Some l → slice_get (map (drop 1) ls) i ≡ Some (drop 1 l)
mapped-at [] i l e = none-some l e
mapped-at (x ∷ ls) zero l e = ap (λ z. Some (drop 1 z)) (some-same x l e)
mapped-at (x ∷ ls) (suc i) l e = mapped-at ls i l e

behind-first : (l : List Val) (r : ℕ) (v : Val) → slice_get (drop 1 l) r ≡ Some v → slice_get l (suc r) ≡ Some v
behind-first [] r v e = none-some v e
behind-first (x ∷ l) r v e = e

rows-at : (n : ℕ) (ls : List (List Val)) → AreLong n ls → (r : ℕ) (row : List Carried) → slice_get (rows_of n ls) r ≡ Some row
    → (i : ℕ) (l : List Val) → slice_get ls i ≡ Some l → (v : Val) × (slice_get l r ≡ Some v) × (slice_get row i ≡ Some (Value v))
rows-at zero ls a r row e i l at = none-some row e
rows-at (suc n) ls a zero row e i l at =
    let f = first-at n ls a i l at in
    (f.0, f.1, ap (λ z. slice_get z i) (sym (some-same (heads ls) row e)) ∙ f.2)
rows-at (suc n) ls a (suc r) row e i l at =
    let f = rows-at n (map (drop 1) ls) (long-rest n ls a) r row e i (drop 1 l) (mapped-at ls i l at) in
    (f.0, behind-first l r f.0 f.1, f.2)

-- ---- multiples

all-long : (n : ℕ) (ms : List Carried) → list_all (λ o. nat_eq (length (items o)) n) ms ≡ true → AreLong n (map items ms)
all-long n [] e = tt
all-long n (m ∷ ms) e =
    (eqb-true (length (items m)) n (and-left (nat_eq (length (items m)) n) (list_all (λ o. nat_eq (length (items o)) n) ms) e), all-long n ms (and-right (nat_eq (length (items m)) n) (list_all (λ o. nat_eq (length (items o)) n) ms) e))

long-multiples : (ms : List Carried) → are_as_long ms ≡ true → AreLong (places_of ms) (map items ms)
long-multiples [] e = tt
long-multiples (m ∷ ms) e = (refl, all-long (length (items m)) ms e)

items-at : (ms : List Carried) (i : ℕ) (m : Carried) → slice_get ms i ≡ Some m → slice_get (map items ms) i ≡ Some (items m)
items-at [] i m e = none-some m e
items-at (x ∷ ms) zero m e = ap (λ z. Some (items z)) (some-same x m e)
items-at (x ∷ ms) (suc i) m e = items-at ms i m e

-- ---- the table of forms

abbrev Reads : List Carried → Next → Type 0
Reads ks (Iterate h row rows ms) = (place : ℕ) (ins : List Carried) → slice_get (row ∷ rows) place ≡ Some ins → IsIteration ks ms place ins
Reads ks _ = Unit {0}

select-form : (form : Form) (gs : List ℕ) (ks : List Carried) (y : Val-F Val) → Reads ks (select form gs ks (values.roll-Val y))
unfolding values.roll-Val denote.Hole.Carrier.roll
select-form form gs ks (Val-F.Int (pos i)) = go (slice_get gs i)
  where
    go : (o : Option ℕ) → Reads ks (enter_chosen form ks o)
    go None = tt
    go (Some g) = tt
select-form form gs ks (Val-F.Int (negsuc i)) = tt
select-form form gs ks (Val-F.Err c) = tt
select-form form gs ks (Val-F.Bool b) = tt
select-form form gs ks (Val-F.Char d) = tt
select-form form gs ks Val-F.Null = tt
select-form form gs ks (Val-F.Arr a) = tt
select-form form gs ks (Val-F.Rec vs) = tt
select-form form gs ks (Val-F.Uni t v) = tt
select-form form gs ks (Val-F.Stream vs) = tt

tested-form : (form : Form) (b r : ℕ) (ks ls : List Carried) (turns : List (List Carried)) (y : Val-F Val) → Reads ks (tested form b r ks ls turns (values.roll-Val y))
unfolding values.roll-Val denote.Hole.Carrier.roll
tested-form form b r ks ls turns (Val-F.Bool true) = tt
tested-form form b r ks ls turns (Val-F.Bool false) = tt
tested-form form b r ks ls turns (Val-F.Err c) = tt
tested-form form b r ks ls turns (Val-F.Int d) = tt
tested-form form b r ks ls turns (Val-F.Char d) = tt
tested-form form b r ks ls turns Val-F.Null = tt
tested-form form b r ks ls turns (Val-F.Arr a) = tt
tested-form form b r ks ls turns (Val-F.Rec vs) = tt
tested-form form b r ks ls turns (Val-F.Uni d v) = tt
tested-form form b r ks ls turns (Val-F.Stream vs) = tt

select-reads : (form : Form) (gs : List ℕ) (ks : List Carried) (v : Val) → Reads ks (select form gs ks v)
select-reads form gs ks = by-form (λ v. Reads ks (select form gs ks v)) (select-form form gs ks)

tested-reads : (form : Form) (b r : ℕ) (ks ls : List Carried) (turns : List (List Carried)) (v : Val) → Reads ks (tested form b r ks ls turns v)
tested-reads form b r ks ls turns = by-form (λ v. Reads ks (tested form b r ks ls turns v)) (tested-form form b r ks ls turns)

added-at : (ks : List Carried) (rows : List (List Carried)) (r : ℕ) (ins : List Carried) → slice_get (map (λ z. ks ++ z) rows) r ≡ Some ins → (row : List Carried) × (slice_get rows r ≡ Some row) × (ins ≡ ks ++ row)
added-at ks [] r ins e = none-some ins e
added-at ks (row ∷ rows) zero ins e = (row, refl, sym (some-same (ks ++ row) ins e))
added-at ks (row ∷ rows) (suc r) ins e = added-at ks rows r ins e

abbrev HaveElements : List Carried → List (List Carried) → Type 0
HaveElements ms rows = (place : ℕ) (row : List Carried) → slice_get rows place ≡ Some row → (i : ℕ) (k : Carried) → slice_get ms i ≡ Some k → (v : Val) × (slice_get (items k) place ≡ Some v) × (slice_get row i ≡ Some (Value v))

behind-operands : (ks ms row : List Carried) (rows : List (List Carried)) → HaveElements ms (row ∷ rows) → (place : ℕ) (ins : List Carried) → slice_get ((ks ++ row) ∷ map (λ z. ks ++ z) rows) place ≡ Some ins → IsIteration ks ms place ins
behind-operands ks ms row rows h zero ins e = record { own = row; inputs = sym (some-same (ks ++ row) ins e); element = h 0 row refl }
behind-operands ks ms row rows h (suc place) ins e =
    let a = added-at ks rows place ins e in
    record { own = a.0; inputs = a.2; element = h (suc place) a.0 a.1 }

spread-reads : (b r m : ℕ) (ks ms : List Carried) (rows : List (List Carried)) → HaveElements ms rows → Reads ks (spread b r m ks ms rows)
spread-reads b r m ks ms [] h = tt
spread-reads b r m ks ms (row ∷ rows) h = behind-operands ks ms row rows h

iterate-reads : (form : Form) (b r m : ℕ) (ks ms : List Carried) (o : Option Cause) → Reads ks (iterate form b r m ks ms o)
iterate-reads form b r m ks ms (Some c) = tt
iterate-reads form b r m ks ms None = go (are_as_long ms) refl
  where
    go : (long : Bool) → are_as_long ms ≡ long → Reads ks (if long then spread b r m ks ms (rows_of (places_of ms) (map items ms)) else fails form cause.Size)
    go true e = spread-reads b r m ks ms (rows_of (places_of ms) (map items ms)) (λ place row at i k there. rows-at (places_of ms) (map items ms) (long-multiples ms e) place row at i (items k) (items-at ms i k there))
    go false e = tt

follow-reads : (form : Form) (ks : List Carried) (s : Stage) (rs : List Carried) → Reads ks (follow form ks s rs)
follow-reads (Call g) ks Called rs = tt
follow-reads (Call g) ks Selecting rs = tt
follow-reads (Call g) ks Chosen rs = tt
follow-reads (Call g) ks Starting rs = tt
follow-reads (Call g) ks (Testing turns) rs = tt
follow-reads (Call g) ks (Turning turns) rs = tt
follow-reads (Call g) ks Generating rs = tt
follow-reads (Call g) ks Returning rs = tt
follow-reads (Select s gs n) ks Called rs = tt
follow-reads (Select s gs n) ks Selecting [] = tt
follow-reads (Select s gs n) ks Selecting (r ∷ []) = select-reads (Select s gs n) gs ks (val_of r)
follow-reads (Select s gs n) ks Selecting (r ∷ (q ∷ rs)) = tt
follow-reads (Select s gs n) ks Chosen rs = tt
follow-reads (Select s gs n) ks Starting rs = tt
follow-reads (Select s gs n) ks (Testing turns) rs = tt
follow-reads (Select s gs n) ks (Turning turns) rs = tt
follow-reads (Select s gs n) ks Generating rs = tt
follow-reads (Select s gs n) ks Returning rs = tt
follow-reads (TagCase gs n) ks Called rs = tt
follow-reads (TagCase gs n) ks Selecting rs = tt
follow-reads (TagCase gs n) ks Chosen rs = tt
follow-reads (TagCase gs n) ks Starting rs = tt
follow-reads (TagCase gs n) ks (Testing turns) rs = tt
follow-reads (TagCase gs n) ks (Turning turns) rs = tt
follow-reads (TagCase gs n) ks Generating rs = tt
follow-reads (TagCase gs n) ks Returning rs = tt
follow-reads (LoopA i t b r n) ks Called rs = tt
follow-reads (LoopA i t b r n) ks Selecting rs = tt
follow-reads (LoopA i t b r n) ks Chosen rs = tt
follow-reads (LoopA i t b r n) ks Starting rs = tt
follow-reads (LoopA i t b r n) ks (Testing []) rs = tt
follow-reads (LoopA i t b r n) ks (Testing (l ∷ ls)) [] = tt
follow-reads (LoopA i t b r n) ks (Testing (l ∷ ls)) (q ∷ []) = tested-reads (LoopA i t b r n) b r ks l ls (val_of q)
follow-reads (LoopA i t b r n) ks (Testing (l ∷ ls)) (q ∷ (z ∷ rs)) = tt
follow-reads (LoopA i t b r n) ks (Turning turns) rs = tt
follow-reads (LoopA i t b r n) ks Generating rs = tt
follow-reads (LoopA i t b r n) ks Returning rs = tt
follow-reads (LoopB i t b r n) ks Called rs = tt
follow-reads (LoopB i t b r n) ks Selecting rs = tt
follow-reads (LoopB i t b r n) ks Chosen rs = tt
follow-reads (LoopB i t b r n) ks Starting rs = tt
follow-reads (LoopB i t b r n) ks (Testing []) rs = tt
follow-reads (LoopB i t b r n) ks (Testing (l ∷ ls)) [] = tt
follow-reads (LoopB i t b r n) ks (Testing (l ∷ ls)) (q ∷ []) = tested-reads (LoopB i t b r n) b r ks l ls (val_of q)
follow-reads (LoopB i t b r n) ks (Testing (l ∷ ls)) (q ∷ (z ∷ rs)) = tt
follow-reads (LoopB i t b r n) ks (Turning turns) rs = tt
follow-reads (LoopB i t b r n) ks Generating rs = tt
follow-reads (LoopB i t b r n) ks Returning rs = tt
follow-reads (ForAll g b r m n) ks Called rs = tt
follow-reads (ForAll g b r m n) ks Selecting rs = tt
follow-reads (ForAll g b r m n) ks Chosen rs = tt
follow-reads (ForAll g b r m n) ks Starting rs = tt
follow-reads (ForAll g b r m n) ks (Testing turns) rs = tt
follow-reads (ForAll g b r m n) ks (Turning turns) rs = tt
follow-reads (ForAll g b r m n) ks Generating rs = iterate-reads (ForAll g b r m n) b r m ks rs (first_spoiled rs)
follow-reads (ForAll g b r m n) ks Returning rs = tt

gather-reads : (form : Form) (ks ms : List Carried) (rows : List (List Carried)) → Reads ks (gather form ks ms rows)
gather-reads (Call g) ks ms rows = tt
gather-reads (Select s gs n) ks ms rows = tt
gather-reads (TagCase gs n) ks ms rows = tt
gather-reads (LoopA i t b r n) ks ms rows = tt
gather-reads (LoopB i t b r n) ks ms rows = tt
gather-reads (ForAll g b r m n) ks ms rows = tt

comes-reads : (u : Network) (form : Form) (ks : List Carried) (k : ℕ) (next : Next) → Comes u form ks k next → Reads ks next
comes-reads u form ks _ _ (skips rs e) = tt
comes-reads u form ks _ _ (begins g ins stage rs e res) = follow-reads form ks stage rs
comes-reads u form ks _ _ (enters k t g ins stage rs c res) = follow-reads form ks stage rs
comes-reads u form ks _ _ (iterates k g row rows ms lists c res) = gather-reads form ks ms lists

pub iterations-told : AreIterationsTold
iterations-told u form ks k h row rows ms c = comes-reads u form ks k (Iterate h row rows ms) c

pub iterations-look : DoIterationsLook
iterations-look u outer g n port is =
    (are-lent u g port).looked_at outer n 1 (compound.ForAll, part.Body)
    (ap (λ o. o >>= λ d. part_at d 1 >>= λ y. Some (d, y)) is) tt
