-- Faults of lines that do not read and of types are found.
use Rattle.std.proofs.Common.{◌≡◌, ℕ, suc, ◌+◌, ◌<◌, ◌≤◌, Bool, true, false, ◌&&◌, ◌||◌, List, [], ◌∷◌, ◌++◌, map, length, Option, Some, None, IsSome, ◌⊎◌, inl, inr, if◌then◌else◌, refl, sym, ap, subst, ◌∙◌, arith, append_assoc, true≢false}
use Rattle.std.specs.Prelude.{Contains, is_some, nat_le, ◌==◌}
use Rattle.std.proofs.lemmas.Bool.{leb-true, le-leb, eqb-true, eq-eqb}
use Rattle.std.proofs.lemmas.List.{length-append}
use Rattle.std.proofs.lemmas.List.Elements.{Contains-append_left, Contains-append_right, Contains-append_cases}
use Rattle.if1_graph.specs.declared.line.Line.{Line}
use Rattle.if1_graph.specs.declared.line.Line.TheVariants as line
use Rattle.if1_graph.specs.declared.graph.TypeEntry.{TypeEntry}
use Rattle.if1_graph.specs.declared.kind.TypeKind.{TypeKind}
use Rattle.if1_graph.specs.declared.kind.TypeKind.TheVariants as kind
use Rattle.if1_graph.specs.Kinds.{kind_at}
use Rattle.if1_graph.specs.Types.{entry_at}
use Rattle.if1_graph.specs.Formed.{IsType, IsTypeOrEnd, most}
use Rattle.if1_graph.specs.Reads.{entries_in}
use Rattle.if1_read.specs.declared.fault.Kind.{Kind}
use Rattle.if1_read.specs.declared.fault.Kind.TheVariants.{Bad, Unknown, TooMany}
use Rattle.if1_read.specs.declared.fault.Fault.{Fault}
use Rattle.if1_read.specs.Entries.{HasTypes}
use Rattle.if1_read.specs.Faults.{numbered, types, with_some, is_unlabelled, FaultAt, unread, unclosing, read, too_many_types}
use Rattle.if1_read.specs.Least.{noted}
use Rattle.if1_read.specs.Rows.{many_types, wrong_label, row_faults, is_type, is_type_or_end, parts_there}
use Rattle.if1_read.proofs.Walking.{Lined}
use Rattle.if1_read.proofs.Same.{contains_here, contains_later, contains_cases, contains_none}
use Rattle.if1_read.proofs.Repeats.{noted_is, noted_has}
use Rattle.if1_read.proofs.Splits.{types_append}

-- ---- numbers

pub numbered_append : (n : ℕ) (xs ys : List (Option Line)) → numbered n (xs ++ ys) ≡ numbered n xs ++ numbered (n + length xs) ys
numbered_append n [] ys = ap (λ (m : ℕ). numbered m ys) (omega arith)
numbered_append n (None ∷ xs) ys =
    let same : suc n + length xs ≡ n + suc (length xs) = omega arith in
    numbered_append (suc n) xs ys ∙ ap (λ (m : ℕ). numbered (suc n) xs ++ numbered m ys) same
numbered_append n (Some l ∷ xs) ys =
    let same : suc n + length xs ≡ n + suc (length xs) = omega arith in
    ap (λ ls. (n, l) ∷ ls) (numbered_append (suc n) xs ys ∙ ap (λ (m : ℕ). numbered (suc n) xs ++ numbered m ys) same)

abbrev numbered_line : ℕ → Line → Lined
numbered_line n l = (n, l)

-- the row of a line
pub record RowOf (n : ℕ) (rows : List (Option Line)) (before : List Lined) (k : ℕ) (l : Line) : Type 0 where
  pub front : List (Option Line)
  pub back : List (Option Line)
  pub is : rows ≡ front ++ Some l ∷ back
  pub lines : numbered n front ≡ before
  pub number : k ≡ n + length front

pub row_of : (n : ℕ) (rows : List (Option Line)) (before : List Lined) (k : ℕ) (l : Line) (after : List Lined) → numbered n rows ≡ before ++ (k, l) ∷ after → RowOf n rows before k l
row_of n [] [] k l after e = absurd cc
row_of n [] (b ∷ before) k l after e = absurd cc
row_of n (None ∷ rows) before k l after e =
    let r = row_of (suc n) rows before k l after e in
    record { front = None ∷ r.front; back = r.back; is = ap (λ xs. None ∷ xs) r.is; lines = r.lines; number = omega (arith, r.number) }
row_of n (Some m ∷ rows) [] k l after e =
    let same : numbered_line n m ≡ numbered_line k l = cc in
    let at : n ≡ k = ap (λ (x : Lined). x.0) same in
    record { front = []; back = rows; is = ap (λ (x : Lined). Some x.1 ∷ rows) same; lines = refl; number = omega (arith, at) }
row_of n (Some m ∷ rows) (b ∷ before) k l after e =
    let same : numbered_line n m ≡ b = cc in
    let rest : numbered (suc n) rows ≡ before ++ (k, l) ∷ after = cc in
    let r = row_of (suc n) rows before k l after rest in
    record {
      front = Some m ∷ r.front;
      back = r.back;
      is = ap (λ xs. Some m ∷ xs) r.is;
      lines = ap (λ ls. (n, m) ∷ ls) r.lines ∙ ap (λ (x : Lined). x ∷ before) same;
      number = omega (arith, r.number);
    }

-- ---- lines that do not read, and too many types

many_if : (b : Bool) (before : ℕ) (k : Kind) → nat_le most before ≡ b → (if b then Some TooMany else None) ≡ Some k → (TooMany ≡ k) × (most ≤ before)
many_if true before k e h = (cc, leb-true most before e)
many_if false before k e h = absurd cc

bad_if : (b : Bool) (k : Kind) {c : Bool} → c ≡ b → (if b then Some Bad else None) ≡ Some k → (Bad ≡ k) × (c ≡ true)
bad_if true k e h = (cc, e)
bad_if false k e h = absurd cc

types_more : (before : List (Option Line)) (row : Option Line) (n : ℕ) → suc (length before) ≡ n →
    types (numbered 1 (before ++ row ∷ [])) ≡ types (numbered 1 before) ++ types (numbered n (row ∷ []))
types_more before row n e =
    ap types (numbered_append 1 before (row ∷ []))
    ∙ (types_append (numbered 1 before) (numbered (1 + length before) (row ∷ []))
    ∙ ap (λ (m : ℕ). types (numbered 1 before) ++ types (numbered m (row ∷ []))) (omega (arith, e)))

module _ (all : List (Option Line)) where
  abbrev IsAt : Fault → Type 0
  IsAt f = FaultAt all f.line f.kind

  type_past : (before rest : List (Option Line)) (n count label code first second : ℕ) (name : List ℕ) → all ≡ before ++ Some (line.Entry label code first second name) ∷ rest →
      suc (length before) ≡ n → count ≡ length (types (numbered 1 before)) → (f : Fault) → Contains (noted n (many_types count)) f → IsAt f
  type_past before rest n count label code first second name is number many f c =
      let t = noted_is n (many_types count) f c in
      let s = many_if (nat_le most count) count f.kind refl t.0 in
      let x = line.Entry label code first second name in
      let split : numbered 1 all ≡ numbered 1 before ++ (n, x) ∷ numbered (suc n) rest =
      ap (numbered 1) is ∙ (numbered_append 1 before (Some x ∷ rest) ∙ ap (λ (m : ℕ). numbered 1 before ++ numbered m (Some x ∷ rest)) (omega (arith, number))) in
      subst (λ (m : ℕ). FaultAt all m f.kind) (sym t.1)
      (subst (FaultAt all n) s.0 (read (numbered 1 before) (numbered (suc n) rest) n x TooMany split (too_many_types (omega (arith, s.1, many)))))

  unlabelled_past : (before rest : List (Option Line)) (n label op count : ℕ) (assoc lasts name : List ℕ) → all ≡ before ++ Some (line.Close label op count assoc lasts name) ∷ rest →
      suc (length before) ≡ n → (f : Fault) → Contains (noted n (wrong_label label)) f → IsAt f
  unlabelled_past before rest n label op count assoc lasts name is number f c =
      let t = noted_is n (wrong_label label) f c in
      let s = bad_if (label == 0) f.kind refl t.0 in
      subst (λ (m : ℕ). FaultAt all m f.kind) (sym t.1)
      (subst (FaultAt all n) s.0
      (subst (λ (m : ℕ). FaultAt all m Bad) number (unclosing before rest (line.Close label op count assoc lasts name) s.1 is)))

  rows_found : (rest before : List (Option Line)) (n count : ℕ) → all ≡ before ++ rest → suc (length before) ≡ n → count ≡ length (types (numbered 1 before)) →
      (f : Fault) → Contains (row_faults n count rest) f → IsAt f
  rows_found [] before n count is number many f c = absurd (contains_none f c)
  rows_found (None ∷ rest) before n count is number many f c =
      let front = before ++ None ∷ [] in
      elim (contains_cases (record { line = n; kind = Bad }) (row_faults (suc n) count rest) f c) [
        | inl e ↦ subst IsAt e (subst (λ (m : ℕ). FaultAt all m Bad) number (unread before rest is))
        | inr d ↦
            rows_found rest front (suc n) count (is ∙ sym (append_assoc before (None ∷ []) rest)) (omega (arith, number, length-append before (None ∷ [])))
            (omega (arith, many, ap length (types_more before None n number), length-append (types (numbered 1 before)) [])) f d
      ]
  rows_found (Some (line.Entry label code first second name) ∷ rest) before n count is number many f c =
      let x = line.Entry label code first second name in
      let front = before ++ Some x ∷ [] in
      elim (Contains-append_cases (noted n (many_types count)) (row_faults (suc n) (suc count) rest) f c) [
        | inl d ↦ type_past before rest n count label code first second name is number many f d
        | inr d ↦
            rows_found rest front (suc n) (suc count) (is ∙ sym (append_assoc before (Some x ∷ []) rest)) (omega (arith, number, length-append before (Some x ∷ [])))
            (omega (arith, many, ap length (types_more before (Some x) n number), length-append (types (numbered 1 before)) (types (numbered n (Some x ∷ []))))) f d
      ]
  rows_found (Some (line.Close label op graphs assoc lasts name) ∷ rest) before n count is number many f c =
      let x = line.Close label op graphs assoc lasts name in
      let front = before ++ Some x ∷ [] in
      elim (Contains-append_cases (noted n (wrong_label label)) (row_faults (suc n) count rest) f c) [
        | inl d ↦ unlabelled_past before rest n label op graphs assoc lasts name is number f d
        | inr d ↦
            rows_found rest front (suc n) count (is ∙ sym (append_assoc before (Some x ∷ []) rest)) (omega (arith, number, length-append before (Some x ∷ [])))
            (omega (arith, many, ap length (types_more before (Some x) n number), length-append (types (numbered 1 before)) [])) f d
      ]
  rows_found (Some l ∷ rest) before n count is number many f c =
      let front = before ++ Some l ∷ [] in
      rows_found rest front (suc n) count (is ∙ sym (append_assoc before (Some l ∷ []) rest)) (omega (arith, number, length-append before (Some l ∷ [])))
      (omega (arith, many, ap length (types_more before (Some l) n number), length-append (types (numbered 1 before)) [])) f c

pub rows_sound : (rows : List (Option Line)) (f : Fault) → Contains (row_faults 1 0 rows) f → FaultAt rows f.line f.kind
rows_sound rows f c = rows_found rows rows [] 1 0 refl refl refl f c

-- ---- each of them

later_row : (n count : ℕ) (row : Option Line) (rest : List (Option Line)) (f : Fault) → ((c : ℕ) → Contains (row_faults (suc n) c rest) f) → Contains (row_faults n count (row ∷ rest)) f
later_row n count None rest f h = contains_later (record { line = n; kind = Bad }) (row_faults (suc n) count rest) f (h count)
later_row n count (Some (line.Entry label code first second name)) rest f h =
    Contains-append_right (noted n (many_types count)) (row_faults (suc n) (suc count) rest) f (h (suc count))
later_row n count (Some (line.Close label op graphs assoc lasts name)) rest f h =
    Contains-append_right (noted n (wrong_label label)) (row_faults (suc n) count rest) f (h count)
later_row n count (Some l) rest f h = h count

pub unread_found : (before after : List (Option Line)) (n count k : ℕ) → n + length before ≡ k → Contains (row_faults n count (before ++ None ∷ after)) (record { line = k; kind = Bad })
unread_found [] after n count k e =
    subst (λ (m : ℕ). Contains (row_faults n count (None ∷ after)) (record { line = m; kind = Bad })) (omega (arith, e)) (contains_here (record { line = n; kind = Bad }) (row_faults (suc n) count after))
unread_found (row ∷ before) after n count k e =
    later_row n count row (before ++ None ∷ after) (record { line = k; kind = Bad }) (λ c. unread_found before after (suc n) c k (omega (arith, e)))

unlabelled_here : (l : Line) (rest : List (Option Line)) (n count : ℕ) → is_unlabelled l ≡ true → Contains (row_faults n count (Some l ∷ rest)) (record { line = n; kind = Bad })
unlabelled_here (line.Close label op graphs assoc lasts name) rest n count e =
    Contains-append_left (noted n (wrong_label label)) (row_faults (suc n) count rest) (record { line = n; kind = Bad })
    (noted_has n (wrong_label label) Bad (ap (λ (b : Bool). if b then Some Bad else None) e))
unlabelled_here _ rest n count e = absurd (true≢false (sym e))

pub unclosing_found : (before after : List (Option Line)) (l : Line) (n count k : ℕ) → is_unlabelled l ≡ true → n + length before ≡ k →
    Contains (row_faults n count (before ++ Some l ∷ after)) (record { line = k; kind = Bad })
unclosing_found [] after l n count k u e =
    subst (λ (m : ℕ). Contains (row_faults n count (Some l ∷ after)) (record { line = m; kind = Bad })) (omega (arith, e)) (unlabelled_here l after n count u)
unclosing_found (row ∷ before) after l n count k u e =
    later_row n count row (before ++ Some l ∷ after) (record { line = k; kind = Bad }) (λ c. unclosing_found before after l (suc n) c k u (omega (arith, e)))

pub many_found : (front back : List (Option Line)) (n count k label code first second : ℕ) (name : List ℕ) → n + length front ≡ k → most ≤ count + length (types (numbered n front)) →
    Contains (row_faults n count (front ++ Some (line.Entry label code first second name) ∷ back)) (record { line = k; kind = TooMany })
many_found [] back n count k label code first second name e h =
    let le : most ≤ count = omega (arith, h) in
    let at : n ≡ k = omega (arith, e) in
    Contains-append_left (noted n (many_types count)) (row_faults (suc n) (suc count) back) (record { line = k; kind = TooMany })
    (subst (λ (m : ℕ). Contains (noted n (many_types count)) (record { line = m; kind = TooMany })) at
    (noted_has n (many_types count) TooMany (ap (λ (b : Bool). if b then Some TooMany else None) (le-leb most count le))))
many_found (None ∷ front) back n count k label code first second name e h =
    contains_later (record { line = n; kind = Bad }) (row_faults (suc n) count (front ++ Some (line.Entry label code first second name) ∷ back)) (record { line = k; kind = TooMany })
    (many_found front back (suc n) count k label code first second name (omega (arith, e)) h)
many_found (Some (line.Entry label2 code2 first2 second2 name2) ∷ front) back n count k label code first second name e h =
    Contains-append_right (noted n (many_types count)) (row_faults (suc n) (suc count) (front ++ Some (line.Entry label code first second name) ∷ back)) (record { line = k; kind = TooMany })
    (many_found front back (suc n) (suc count) k label code first second name (omega (arith, e)) (omega (arith, h)))
many_found (Some (line.Close label2 op graphs assoc lasts name2) ∷ front) back n count k label code first second name e h =
    Contains-append_right (noted n (wrong_label label2)) (row_faults (suc n) count (front ++ Some (line.Entry label code first second name) ∷ back)) (record { line = k; kind = TooMany })
    (many_found front back (suc n) count k label code first second name (omega (arith, e)) h)
many_found (Some l ∷ front) back n count k label code first second name e h =
    many_found front back (suc n) count k label code first second name (omega (arith, e)) h

-- ---- numbers of types

or_says : (a b : Bool) → (a || b) ≡ true → (a ≡ true) ⊎ (b ≡ true)
or_says true b e = inl refl
or_says false b e = inr e

or_has : (a b : Bool) → (a ≡ true) ⊎ (b ≡ true) → (a || b) ≡ true
or_has true b h = refl
or_has false b (inl e) = absurd cc
or_has false b (inr e) = e

and_says : (a b : Bool) → (a && b) ≡ true → (a ≡ true) × (b ≡ true)
and_says true b e = (refl, e)
and_says false b e = absurd cc

and_has : (a b : Bool) → a ≡ true → b ≡ true → (a && b) ≡ true
and_has true b e f = f
and_has false b e f = absurd cc

module _ (ts : List TypeEntry) where
  end_says : (l : ℕ) → is_type_or_end ts l ≡ true → IsTypeOrEnd ts l
  end_says l e = elim (or_says (l == 0) (is_type ts l) e) [ inl h ↦ inl (eqb-true l 0 h) | inr h ↦ inr h ]

  end_has : (l : ℕ) → IsTypeOrEnd ts l → is_type_or_end ts l ≡ true
  end_has l (inl e) = or_has (l == 0) (is_type ts l) (inl (eq-eqb l 0 e))
  end_has l (inr h) = or_has (l == 0) (is_type ts l) (inr h)

  pub parts_say : (k : Option TypeKind) (first second : ℕ) → parts_there ts k first second ≡ true → HasTypes ts k first second
  parts_say (Some kind.Basic) first second e = tt
  parts_say (Some kind.Field) first second e = let t = and_says (is_type ts first) (is_type_or_end ts second) e in (t.0, end_says second t.1)
  parts_say (Some kind.Tag) first second e = let t = and_says (is_type ts first) (is_type_or_end ts second) e in (t.0, end_says second t.1)
  parts_say (Some kind.Tuple) first second e = let t = and_says (is_type ts first) (is_type_or_end ts second) e in (t.0, end_says second t.1)
  parts_say (Some kind.Function) first second e = let t = and_says (is_type_or_end ts first) (is_type ts second) e in (end_says first t.0, t.1)
  parts_say (Some _) first second e = e
  parts_say None first second e = absurd cc

  pub parts_have : (k : Option TypeKind) (first second : ℕ) → HasTypes ts k first second → parts_there ts k first second ≡ true
  parts_have (Some kind.Basic) first second h = refl
  parts_have (Some kind.Field) first second h = and_has (is_type ts first) (is_type_or_end ts second) h.0 (end_has second h.1)
  parts_have (Some kind.Tag) first second h = and_has (is_type ts first) (is_type_or_end ts second) h.0 (end_has second h.1)
  parts_have (Some kind.Tuple) first second h = and_has (is_type ts first) (is_type_or_end ts second) h.0 (end_has second h.1)
  parts_have (Some kind.Function) first second h = and_has (is_type_or_end ts first) (is_type ts second) (end_has first h.0) h.1
  parts_have (Some _) first second h = h
  parts_have None first second h = absurd h
