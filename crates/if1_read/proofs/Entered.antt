-- The lines that are read, and the types of them that stand in the table.
use Rattle.std.proofs.Common.{◌≡◌, ℕ, ◌≤◌, Bool, true, false, cond, List, [], ◌∷◌, map, length, get_or, Option, Some, None, IsSome, inl, inr, refl, sym, ap, ◌∙◌, true≢false, subst, arith}
use Rattle.std.specs.Prelude.{◌==◌, All, filter}
use Rattle.std.proofs.lemmas.Bool.{eqb-false}
use Rattle.std.proofs.lemmas.Bool.Decides.{eqb_tells}
use Rattle.std.proofs.lemmas.List.Elements.{All-nil, All-cons, All-head, All-tail}
use Rattle.std.proofs.lemmas.List.Sorted.{All-permutation, length_permutation}
use Rattle.if1_graph.specs.declared.line.Line.{Line}
use Rattle.if1_graph.specs.declared.line.Line.TheVariants as line
use Rattle.if1_graph.specs.Entries.{entry_form}
use Rattle.if1_graph.specs.Reading.{line_of}
use Rattle.if1_graph.specs.Spelling.{AreEntryNumbers, IsSpelled}
use Rattle.if1_graph.proofs.ReadSpelled.{read_spelled}
use Rattle.if1_graph.specs.declared.graph.TypeEntry.{TypeEntry}
use Rattle.if1_graph.specs.declared.kind.TypeKind.{TypeKind}
use Rattle.if1_graph.specs.Kinds.{kind_at, basic_at}
use Rattle.if1_graph.specs.Formed.{most, AreNumbers, IsEntry, IsTable}
use Rattle.if1_graph.specs.Lines.{entry_line}
use Rattle.if1_graph.specs.Reads.{entries_in, is_of_graph}
use Rattle.if1_read.specs.declared.table.Table.{Table}
use Rattle.if1_read.specs.Entries.{HasTypes, HasEntryTypes, IsTableOf}
use Rattle.if1_read.specs.Known.{IsTableSound}
use Rattle.if1_read.specs.Faults.{closes, row_by, row_of, is_unlabelled}
use Rattle.if1_read.specs.Stands.{IsRead}

-- ---- lines

pub spelled_lines : (xs : List (List ℕ)) (ls : List Line) → map line_of xs ≡ map (λ l. Some l) ls → All IsSpelled ls
spelled_lines [] [] e = All-nil IsSpelled
spelled_lines [] (l ∷ ls) e = absurd cc
spelled_lines (x ∷ xs) [] e = absurd cc
spelled_lines (x ∷ xs) (l ∷ ls) e =
    let here : line_of x ≡ Some l = cc in
    let rest : map line_of xs ≡ map (λ l. Some l) ls = cc in
    All-cons IsSpelled l ls (read_spelled x l here) (spelled_lines xs ls rest)

-- rows that all have labels are lines that read
row_read : (o : Option Line) (b : Bool) (l : Line) → row_by o b ≡ Some l → is_unlabelled l ≡ false → o ≡ Some l
row_read (Some m) b l e h = e
row_read None true l e h = absurd (true≢false (ap (λ (o : Option Line). elim o [ None ↦ true | Some l ↦ is_unlabelled l ]) e ∙ h))
row_read None false l e h = absurd cc

pub rows_read : (xs : List (List ℕ)) (ls : List Line) → map row_of xs ≡ map (λ l. Some l) ls → All (λ l. is_unlabelled l ≡ false) ls → map line_of xs ≡ map (λ l. Some l) ls
rows_read [] [] e h = refl
rows_read [] (l ∷ ls) e h = absurd cc
rows_read (x ∷ xs) [] e h = absurd cc
rows_read (x ∷ xs) (l ∷ ls) e h =
    let here : row_of x ≡ Some l = cc in
    let rest : map row_of xs ≡ map (λ l. Some l) ls = cc in
    let one = row_read (line_of x) (closes x) l here (All-head (λ (l : Line). is_unlabelled l ≡ false) l ls h) in
    let more = rows_read xs ls rest (All-tail (λ (l : Line). is_unlabelled l ≡ false) l ls h) in
    ap (λ (o : Option Line). o ∷ map line_of xs) one ∙ ap (λ os. Some l ∷ os) more

-- and lines that read are rows
pub lines_are_rows : (xs : List (List ℕ)) (ls : List Line) → map line_of xs ≡ map (λ l. Some l) ls → map row_of xs ≡ map (λ l. Some l) ls
lines_are_rows [] [] e = refl
lines_are_rows [] (l ∷ ls) e = absurd cc
lines_are_rows (x ∷ xs) [] e = absurd cc
lines_are_rows (x ∷ xs) (l ∷ ls) e =
    let here : line_of x ≡ Some l = cc in
    let rest : map line_of xs ≡ map (λ l. Some l) ls = cc in
    ap (λ o. row_by o (closes x) ∷ map row_of xs) here ∙ ap (λ os. Some l ∷ os) (lines_are_rows xs ls rest)

read_if : (b : Bool) (l : Line) (ls : List Line) → is_of_graph l ≡ b → IsSpelled l → All IsRead ls → All IsRead (cond b (l ∷ ls) ls)
read_if true l ls e s h = All-cons IsRead l ls (record { of_graph = e; spelled = s }) h
read_if false l ls e s h = h

pub lines_read : (ls : List Line) → All IsSpelled ls → All IsRead (filter is_of_graph ls)
lines_read [] h = All-nil IsRead
lines_read (l ∷ ls) h =
    read_if (is_of_graph l) l (filter is_of_graph ls) refl (All-head IsSpelled l ls h) (lines_read ls (All-tail IsSpelled l ls h))

-- ---- types

abbrev IsEntrySpelled : TypeEntry → Type 0
IsEntrySpelled e = IsSpelled (entry_line e)

entries_spelled : (ls : List Line) → All IsSpelled ls → All IsEntrySpelled (entries_in ls)
entries_spelled [] h = All-nil IsEntrySpelled
entries_spelled (line.Entry label code first second name ∷ ls) h =
    let e : TypeEntry = record { label = label; code = code; first = first; second = second; name = name } in
    All-cons IsEntrySpelled e (entries_in ls)
    (All-head IsSpelled (line.Entry label code first second name) ls h)
    (entries_spelled ls (All-tail IsSpelled (line.Entry label code first second name) ls h))
entries_spelled (l ∷ ls) h = entries_spelled ls (All-tail IsSpelled l ls h)

at_code : (P : ℕ → Type 0) (k code : ℕ) → P k → ((k == code) ≡ false → P code) → P code
at_code P k code here rest = elim (eqb_tells k code) [ inl p ↦ subst P p.1 here | inr p ↦ rest p.0 ]

IsBasicCode : ℕ → Type 0
IsBasicCode code = code ≤ 6 → IsSome (basic_at code)

basic_code : (code : ℕ) → IsBasicCode code
unfolding IsBasicCode
basic_code code =
    at_code IsBasicCode 0 code (λ _. refl) λ n0.
    at_code IsBasicCode 1 code (λ _. refl) λ n1.
    at_code IsBasicCode 2 code (λ _. refl) λ n2.
    at_code IsBasicCode 3 code (λ _. refl) λ n3.
    at_code IsBasicCode 4 code (λ _. refl) λ n4.
    at_code IsBasicCode 5 code (λ _. refl) λ n5.
    at_code IsBasicCode 6 code (λ _. refl) λ n6.
    λ h.
    absurd
    (omega (arith, h, eqb-false 0 code n0, eqb-false 1 code n1, eqb-false 2 code n2, eqb-false 3 code n3, eqb-false 4 code n4, eqb-false 5 code n5, eqb-false 6 code n6))

module _ (ts : List TypeEntry) (first second : ℕ) where
  Right : ℕ → Type 0
  Right code = HasTypes ts (kind_at code) first second → AreEntryNumbers (entry_form code) first second → AreNumbers ts (kind_at code) first second

  right : (code : ℕ) → Right code
  unfolding Right IsBasicCode
  right code =
      at_code Right 0 code (λ h n. (h, n.1)) λ n0.
      at_code Right 1 code (λ h n. (basic_code first n.0, n.1)) λ n1.
      at_code Right 2 code (λ h n. h) λ n2.
      at_code Right 3 code (λ h n. h) λ n3.
      at_code Right 4 code (λ h n. (h, n.1)) λ n4.
      at_code Right 5 code (λ h n. (h, n.1)) λ n5.
      at_code Right 6 code (λ h n. (h, n.1)) λ n6.
      at_code Right 7 code (λ h n. h) λ n7.
      at_code Right 8 code (λ h n. h) λ n8.
      at_code Right 9 code (λ h n. (h, n.1)) λ n9.
      λ h n.
      let none : kind_at code ≡ None = rw (n0, n1, n2, n3, n4, n5, n6, n7, n8, n9) refl in
      absurd (subst (λ (kind : Option TypeKind). HasTypes ts kind first second) none h)

  numbers_right : (code : ℕ) → HasTypes ts (kind_at code) first second → AreEntryNumbers (entry_form code) first second → AreNumbers ts (kind_at code) first second
  unfolding Right
  numbers_right code = right code

entry_right : (ts : List TypeEntry) (e : TypeEntry) → HasEntryTypes ts e → IsEntrySpelled e → IsEntry ts e
entry_right ts e h s = record { label = s.0; numbers = numbers_right ts e.first e.second e.code h s.2; name = s.3 }

pub table_right : (t : Table) (ls : List Line) → IsTableSound t → IsTableOf t (entries_in ls) → All IsSpelled ls → length (entries_in ls) ≤ most → IsTable t.types
table_right t ls sound of spelled few =
    let all = All-permutation IsEntrySpelled (entries_in ls) t.types of.these (entries_spelled ls spelled) in
    record {
      rising = sound.rising;
      entries = λ k d i. entry_right t.types (get_or t.types k d) (of.types k d i) (all k d i);
      few = omega (arith, few, length_permutation (entries_in ls) t.types of.these);
    }
