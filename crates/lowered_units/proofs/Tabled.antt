-- Each entry of the table of a fitting program is one of its kind, over entries that are there.
use Rattle.std.proofs.Common.{◌≡◌, ℕ, zero, suc, ◌+◌, ◌<◌, ◌≤◌, ◌⊎◌, inl, inr, List, [], ◌∷◌, ◌++◌, map, length, get_or, slice_get, Option, Some, None, refl, sym, subst, arith}
use Rattle.std.specs.Prelude.{All}
use Rattle.std.proofs.lemmas.List.{length-append}
use Rattle.std.proofs.lemmas.Option.{slice_get_within}
use Rattle.std.proofs.lemmas.List.Elements.{All-head, All-tail}
use Rattle.if1_graph.specs.Spelling.{IsName}
use Rattle.type_table.specs.declared.form.Form.{Form}
use Rattle.type_table.specs.declared.form.Form.TheVariants as form
use Rattle.type_table.specs.declared.form.Member.{Member}
use Rattle.type_table.specs.Forms.{deepest, form_depth}
use Rattle.type_table.specs.Tables.{depths, IsTable}
use Rattle.typed_tree.specs.declared.program.Function.{Function}
use Rattle.lowering.specs.declared.feed.Carried.{Carried}
use Rattle.lowering.specs.declared.feed.Carried.TheVariants.{One, Many, Callee}
use Rattle.lowering.specs.Types.{Entry, entry, Table, label_from, Labelled, or_new, enter, basics, Part, members, named, over, form_label, label_within, type_label, tuple_label, function_label, callee_label, carried_label, with_types}
use Rattle.lowered_units.proofs.Canonical.{HasCode, found-code}
use Rattle.lowered_units.proofs.Built.{IsLineType}
use Rattle.lowered_units.proofs.Depths.{depth_at}
use Rattle.lowered_units.proofs.Lines.{AreLines}

-- ---- entries

abbrev pub IsOverCode : ℕ → Type 0
IsOverCode c = (c ≡ 0) ⊎ ((c ≡ 4) ⊎ ((c ≡ 5) ⊎ ((c ≡ 6) ⊎ (c ≡ 9))))

abbrev pub IsMemberCode : ℕ → Type 0
IsMemberCode c = (c ≡ 2) ⊎ ((c ≡ 7) ⊎ (c ≡ 8))

pub record IsBasicEntry (e : Entry) : Type 0 where
  pub code : e.code ≡ 1
  pub first : (e.first ≡ 0) ⊎ ((e.first ≡ 1) ⊎ ((e.first ≡ 3) ⊎ (e.first ≡ 4)))
  pub second : e.second ≡ 0
  pub name : IsName e.name

pub record IsOverEntry (n : ℕ) (e : Entry) : Type 0 where
  pub code : IsOverCode e.code
  pub least : 1 ≤ e.first
  pub most : e.first ≤ n
  pub second : e.second ≡ 0
  pub name : e.name ≡ []

pub record IsMemberEntry (n : ℕ) (e : Entry) : Type 0 where
  pub code : IsMemberCode e.code
  pub least : 1 ≤ e.first
  pub most : e.first ≤ n
  pub second : e.second ≤ n
  pub name : IsName e.name

pub record IsFunctionEntry (n : ℕ) (e : Entry) : Type 0 where
  pub code : e.code ≡ 3
  pub first : e.first ≤ n
  pub least : 1 ≤ e.second
  pub most : e.second ≤ n
  pub name : e.name ≡ []

-- over entries that are among so many
abbrev pub IsSound : ℕ → Entry → Type 0
IsSound n e = IsBasicEntry e ⊎ (IsOverEntry n e ⊎ (IsMemberEntry n e ⊎ IsFunctionEntry n e))

wider : (n m : ℕ) (e : Entry) → n ≤ m → IsSound n e → IsSound m e
wider n m e l (inl h) = inl h
wider n m e l (inr (inl h)) = inr (inl (record { code = h.code; least = h.least; most = omega (arith, h.most, l); second = h.second; name = h.name }))
wider n m e l (inr (inr (inl h))) = inr (inr (inl (record { code = h.code; least = h.least; most = omega (arith, h.most, l); second = omega (arith, h.second, l); name = h.name })))
wider n m e l (inr (inr (inr h))) = inr (inr (inr (record { code = h.code; first = omega (arith, h.first, l); least = h.least; most = omega (arith, h.most, l); name = h.name })))

abbrev pub AreSound : ℕ → Table → Type 0
AreSound n [] = Unit {0}
AreSound n (e ∷ es) = IsSound n e × AreSound n es

all-wider : (n m : ℕ) (ts : Table) → n ≤ m → AreSound n ts → AreSound m ts
all-wider n m [] l h = tt
all-wider n m (e ∷ es) l h = (wider n m e l h.0, all-wider n m es l h.1)

sound-last : (n : ℕ) (ts : Table) (e : Entry) → AreSound n ts → IsSound n e → AreSound n (ts ++ e ∷ [])
sound-last n [] e h k = (k, tt)
sound-last n (t ∷ ts) e h k = (h.0, sound-last n ts e h.1 k)

pub record IsWellTable (ts : Table) : Type 0 where
  pub basics : 4 ≤ length ts
  pub sound : AreSound (length ts) ts

-- a label of a table that is well and has grown
pub record IsWell (ts : Table) (r : Labelled) : Type 0 where
  pub well : IsWellTable r.table
  pub grown : length ts ≤ length r.table
  pub label : r.label ≤ length r.table

abbrev pub IsWellLabel : Table → Labelled → Type 0
IsWellLabel ts r = IsWell ts r × (1 ≤ r.label)

found-below : (e : Entry) (ts : Table) (l : ℕ) → label_from 0 e ts ≡ Some l → (1 ≤ l) × (l ≤ length ts)
found-below e ts l h =
    let r = found-code 0 e ts l h in
    let below = inside (slice_get ts r.0) refl r.2 in
    (omega (arith, r.1), omega (arith, r.1, below))
  where
    inside : (o : Option Entry) → slice_get ts (found-code 0 e ts l h).0 ≡ o → HasCode e.code o → (found-code 0 e ts l h).0 < length ts
    inside None s k = absurd k
    inside (Some f) s k = slice_get_within ts (found-code 0 e ts l h).0 f s

enter-well : (e : Entry) (ts : Table) → IsWellTable ts → IsSound (length ts) e → IsWellLabel ts (enter e ts)
enter-well e ts w s = by (label_from 0 e ts) refl
  where
    by : (o : Option ℕ) → label_from 0 e ts ≡ o → IsWellLabel ts (or_new o e ts)
    by (Some l) h = let b = found-below e ts l h in (record { well = w; grown = omega arith; label = b.1 }, b.0)
    by None h =
        let more : length (ts ++ e ∷ []) ≡ length ts + 1 = length-append ts (e ∷ []) in (
          record {
            well = record { basics = omega (arith, w.basics, more); sound = sound-last (length (ts ++ e ∷ [])) ts e (all-wider (length ts) (length (ts ++ e ∷ [])) ts (omega (arith, more)) w.sound) (wider (length ts) (length (ts ++ e ∷ [])) e (omega (arith, more)) s) };
            grown = omega (arith, more);
            label = omega (arith, more);
          },
          omega arith,
        )

well-then : (a : Table) (r : Labelled) (s : Labelled) → length a ≤ length r.table → IsWellLabel r.table s → IsWellLabel a s
well-then a r s l h = (record { well = h.0.well; grown = omega (arith, l, h.0.grown); label = h.0.label }, h.1)

-- ---- lists of members

abbrev EachPart : (ℕ → Type 0) → List Part → Type 0
EachPart P [] = Unit {0}
EachPart P (m ∷ ms) = (P m.1 × IsName m.0) × EachPart P ms

abbrev Labels : (ℕ → Type 0) → (ℕ → Table → Labelled) → Type 0
Labels P type = (t : ℕ) → P t → (ts : Table) → IsWellTable ts → IsWellLabel ts (type t ts)

members-well : (P : ℕ → Type 0) (type : ℕ → Table → Labelled) → Labels P type → (code : ℕ) → IsMemberCode code → (ms : List Part) → EachPart P ms → (ts : Table) → IsWellTable ts
    → IsWell ts (members type code ms ts) × (1 ≤ length ms → 1 ≤ (members type code ms ts).label)
members-well P type f code c [] h ts w = (record { well = w; grown = omega arith; label = omega arith }, λ one. absurd (omega (arith, one)))
members-well P type f code c (m ∷ ms) h ts w =
    let rest = members type code ms ts in
    let r = members-well P type f code c ms h.1 ts w in
    let t = type m.1 rest.table in
    let k = f m.1 h.0.0 rest.table r.0.well in
    let e = entry code t.label rest.label m.0 in
    let last = enter-well e t.table k.0.well (inr (inr (inl (record { code = c; least = k.1; most = k.0.label; second = omega (arith, r.0.label, k.0.grown); name = h.0.1 })))) in
    (record { well = last.0.well; grown = omega (arith, r.0.grown, k.0.grown, last.0.grown); label = last.0.label }, λ one. last.1)

-- ---- types

module _ (forms : List Form) (names : List (List ℕ)) (visible : All IsName names) where
  abbrev EachType : (ℕ → Type 0) → List Member → Type 0
  EachType P [] = Unit {0}
  EachType P (m ∷ ms) = P m.ty × EachType P ms

  abbrev FitsForm : (ℕ → Type 0) → Option Form → Type 0
  FitsForm P None = ⊥
  FitsForm P (Some (form.Array t)) = P t
  FitsForm P (Some (form.Stream t)) = P t
  FitsForm P (Some (form.Record ms)) = (1 ≤ length ms) × EachType P ms
  FitsForm P (Some (form.Union ms)) = (1 ≤ length ms) × EachType P ms
  FitsForm P (Some f) = Unit {0}

  -- a type that is at most so deep
  abbrev pub FitsWithin : ℕ → ℕ → Type 0
  FitsWithin zero t = ⊥
  FitsWithin (suc d) t = FitsForm (FitsWithin d) (slice_get forms t)

  name-visible : (ns : List (List ℕ)) → All IsName ns → (k : ℕ) → IsName (get_or ns k [])
  name-visible [] h zero = refl
  name-visible [] h (suc k) = refl
  name-visible (n ∷ ns) h zero = All-head IsName n ns h
  name-visible (n ∷ ns) h (suc k) = name-visible ns (All-tail IsName n ns h) k

  named-parts : (P : ℕ → Type 0) (ms : List Member) → EachType P ms → EachPart P (named forms names ms)
  named-parts P [] h = tt
  named-parts P (m ∷ ms) h = ((h.0, name-visible names visible m.name), named-parts P ms h.1)

  named-some : (ms : List Member) → 1 ≤ length ms → 1 ≤ length (named forms names ms)
  named-some [] h = absurd (omega (arith, h))
  named-some (m ∷ ms) h = omega arith

  over-well : (code : ℕ) → IsOverCode code → (t : Labelled) (ts : Table) → IsWellLabel ts t → IsWellLabel ts (over forms names code t)
  over-well code c t ts k =
      well-then ts t (over forms names code t) k.0.grown (enter-well (entry code t.label 0 []) t.table k.0.well (inr (inl (record { code = c; least = k.1; most = k.0.label; second = refl; name = refl }))))

  form-well : (P : ℕ → Type 0) (type : ℕ → Table → Labelled) → Labels P type → (o : Option Form) → FitsForm P o → (ts : Table) → IsWellTable ts → IsWellLabel ts (form_label forms names type o ts)
  form-well P type f None h ts w = absurd h
  form-well P type f (Some form.Boolean) h ts w = (record { well = w; grown = omega arith; label = omega (arith, w.basics) }, omega arith)
  form-well P type f (Some form.Character) h ts w = (record { well = w; grown = omega arith; label = omega (arith, w.basics) }, omega arith)
  form-well P type f (Some form.Integer) h ts w = (record { well = w; grown = omega arith; label = omega (arith, w.basics) }, omega arith)
  form-well P type f (Some form.Null) h ts w = (record { well = w; grown = omega arith; label = omega (arith, w.basics) }, omega arith)
  form-well P type f (Some (form.Array t)) h ts w = over-well 0 (inl refl) (type t ts) ts (f t h ts w)
  form-well P type f (Some (form.Stream t)) h ts w = over-well 6 (inr (inr (inr (inl refl)))) (type t ts) ts (f t h ts w)
  form-well P type f (Some (form.Record ms)) h ts w =
      let k = members-well P type f 2 (inl refl) (named forms names ms) (named-parts P ms h.1) ts w in
      over-well 5 (inr (inr (inl refl))) (members type 2 (named forms names ms) ts) ts (k.0, k.1 (named-some ms h.0))
  form-well P type f (Some (form.Union ms)) h ts w =
      let k = members-well P type f 7 (inr (inl refl)) (named forms names ms) (named-parts P ms h.1) ts w in
      over-well 9 (inr (inr (inr (inr refl)))) (members type 7 (named forms names ms) ts) ts (k.0, k.1 (named-some ms h.0))

  within-well : (d : ℕ) → Labels (FitsWithin d) (label_within forms names d)
  within-well zero t h ts w = absurd h
  within-well (suc d) t h ts w = form-well (FitsWithin d) (label_within forms names d) (within-well d) (slice_get forms t) h ts w

  -- ---- the depth of each type

  module _ (table : IsTable forms) (filled : (t : ℕ) (ms : List Member) → (slice_get forms t ≡ Some (form.Record ms)) ⊎ (slice_get forms t ≡ Some (form.Union ms)) → 1 ≤ length ms) where
    abbrev depth : ℕ → ℕ
    depth t = get_or (depths forms) t 0

    some-form : (t : ℕ) → t < length forms → (f : Form) × (slice_get forms t ≡ Some f)
    some-form t i = by (slice_get forms t) refl
      where
        by : (o : Option Form) → slice_get forms t ≡ o → (f : Form) × (slice_get forms t ≡ Some f)
        by None e = absurd (past forms t i e)
          where
            past : (fs : List Form) (t : ℕ) → t < length fs → slice_get fs t ≡ None → ⊥
            past [] t i e = omega (arith, i)
            past (x ∷ fs) zero i e = absurd cc
            past (x ∷ fs) (suc t) i e = past fs t (omega (arith, i)) e
        by (Some f) e = (f, e)

    each-fits : (d t : ℕ) → ((x : ℕ) → x < length forms → depth x ≤ d → FitsWithin d x) → t < length forms → (ms : List Member) → All (λ x. x < t) (map (λ m. m.ty) ms) → deepest (depths forms) (map (λ m. m.ty) ms) ≤ d → EachType (FitsWithin d) ms
    each-fits d t f i [] o h = tt
    each-fits d t f i (m ∷ ms) o h =
        (f m.ty (omega (arith, i, All-head (λ x. x < t) m.ty (map (λ m. m.ty) ms) o)) (omega (arith, h)), each-fits d t f i ms (All-tail (λ x. x < t) m.ty (map (λ m. m.ty) ms) o) (omega (arith, h)))

    fits-at : (d : ℕ) → ((x : ℕ) → x < length forms → depth x ≤ d → FitsWithin d x) → (t : ℕ) → t < length forms → (f : Form) → slice_get forms t ≡ Some f → form_depth (depths forms) f ≤ suc d → FitsForm (FitsWithin d) (Some f)
    fits-at d g t i (form.Array x) e h = g x (omega (arith, i, table.well.after_parts t (form.Array x) e 0 0 (omega arith))) (omega (arith, h))
    fits-at d g t i (form.Stream x) e h = g x (omega (arith, i, table.well.after_parts t (form.Stream x) e 0 0 (omega arith))) (omega (arith, h))
    fits-at d g t i (form.Record ms) e h = (filled t ms (inl e), each-fits d t g i ms (table.well.after_parts t (form.Record ms) e) (omega (arith, h)))
    fits-at d g t i (form.Union ms) e h = (filled t ms (inr e), each-fits d t g i ms (table.well.after_parts t (form.Union ms) e) (omega (arith, h)))
    fits-at d g t i f e h = tt

    fits-within : (d t : ℕ) → t < length forms → depth t ≤ d → FitsWithin d t
    fits-within zero t i h = let f = some-form t i in omega (arith, h, depth_at forms table t f.0 f.1)
    fits-within (suc d) t i h =
        let f = some-form t i in
        subst (FitsForm (FitsWithin d)) (sym f.1) (fits-at d (fits-within d) t i f.0 f.1 (omega (arith, h, depth_at forms table t f.0 f.1)))

    shallow : (ds : List ℕ) → All (λ d. d ≤ 64) ds → (t : ℕ) → get_or ds t 0 ≤ 64
    shallow [] h zero = omega arith
    shallow [] h (suc t) = omega arith
    shallow (d ∷ ds) h zero = All-head (λ d. d ≤ 64) d ds h
    shallow (d ∷ ds) h (suc t) = shallow ds (All-tail (λ d. d ≤ 64) d ds h) t

    pub type-well : (t : ℕ) → t < length forms → (ts : Table) → IsWellTable ts → IsWellLabel ts (type_label forms names t ts)
    type-well t i ts w = within-well 64 t (fits-within 64 t i (shallow (depths forms) table.well.shallow t)) ts w

    -- ---- functions and lines

    abbrev pub AreIn : List ℕ → Type 0
    AreIn [] = Unit {0}
    AreIn (t ∷ ts) = (t < length forms) × AreIn ts

    tuple-parts : (tys : List ℕ) → AreIn tys → EachPart (λ t. t < length forms) (map (λ t. ([], t)) tys)
    tuple-parts [] h = tt
    tuple-parts (t ∷ tys) h = ((h.0, refl), tuple-parts tys h.1)

    abbrev bare : ℕ → Part
    bare t = ([], t)

    tuple-some : (tys : List ℕ) → 1 ≤ length tys → 1 ≤ length (map bare tys)
    tuple-some [] h = absurd (omega (arith, h))
    tuple-some (t ∷ tys) h = omega arith

    pub record IsHeaded (f : Function) : Type 0 where
      pub params : AreIn f.params
      pub results : AreIn f.results
      pub some : 1 ≤ length f.results

    pub function-well : (f : Function) → IsHeaded f → (ts : Table) → IsWellTable ts → IsWellLabel ts (function_label forms names f ts)
    function-well f h ts w =
        let a = tuple_label forms names f.params ts in
        let ka = members-well (λ t. t < length forms) (type_label forms names) type-well 8 (inr (inr refl)) (map (λ t. ([], t)) f.params) (tuple-parts f.params h.params) ts w in
        let r = tuple_label forms names f.results a.table in
        let kr = members-well (λ t. t < length forms) (type_label forms names) type-well 8 (inr (inr refl)) (map (λ t. ([], t)) f.results) (tuple-parts f.results h.results) a.table ka.0.well in
        let last = enter-well (entry 3 a.label r.label []) r.table kr.0.well (inr (inr (inr (record { code = refl; first = omega (arith, ka.0.label, kr.0.grown); least = kr.1 (tuple-some f.results h.some); most = kr.0.label; name = refl })))) in
        (record { well = last.0.well; grown = omega (arith, ka.0.grown, kr.0.grown, last.0.grown); label = last.0.label }, last.1)

    module _ (fs : List Function) (headed : (k : ℕ) (f : Function) → slice_get fs k ≡ Some f → IsHeaded f) (count : ℕ) (same : count ≡ length fs) where
      callee-well : (k : ℕ) → k < count → (ts : Table) → IsWellTable ts → IsWellLabel ts (callee_label forms names (slice_get fs k) ts)
      callee-well k i ts w = by (slice_get fs k) refl
        where
          by : (o : Option Function) → slice_get fs k ≡ o → IsWellLabel ts (callee_label forms names o ts)
          by None e = absurd (past fs k (omega (arith, i, same)) e)
            where
              past : (fs : List Function) (k : ℕ) → k < length fs → slice_get fs k ≡ None → ⊥
              past [] k i e = omega (arith, i)
              past (x ∷ fs) zero i e = absurd cc
              past (x ∷ fs) (suc k) i e = past fs k (omega (arith, i)) e
          by (Some f) e = function-well f (headed k f e) ts w

      pub carried-well : (c : Carried) → IsLineType forms count c → (ts : Table) → IsWellTable ts → IsWellLabel ts (carried_label forms names fs c ts)
      carried-well (One t) h ts w = type-well t h ts w
      carried-well (Many t) h ts w = over-well 4 (inr (inl refl)) (type_label forms names t ts) ts (type-well t h ts w)
      carried-well (Callee k) h ts w = callee-well k h ts w

      pub lines-well : (integers : 2 < length forms) (cs : List Carried) → AreLines forms count integers cs → (ts : Table) → IsWellTable ts → IsWellTable (with_types forms names fs cs ts)
      lines-well i [] h ts w = w
      lines-well i (c ∷ cs) h ts w = lines-well i cs h.1 (carried_label forms names fs c ts).table (carried-well c h.0 ts w).0.well

pub basics-well : IsWellTable basics
basics-well = record {
  basics = omega arith;
  sound = (
    inl (record { code = refl; first = inl refl; second = refl; name = refl }),
    (
      inl (record { code = refl; first = inr (inl refl); second = refl; name = refl }),
      (
        inl (record { code = refl; first = inr (inr (inl refl)); second = refl; name = refl }),
        (inl (record { code = refl; first = inr (inr (inr refl)); second = refl; name = refl }), tt),
      ),
    ),
  );
}
