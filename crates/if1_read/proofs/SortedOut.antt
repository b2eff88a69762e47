-- What is sorted out line by line is what all lines give.
use Rattle.std.proofs.Common.{◌≡◌, ℕ, suc, ◌+◌, List, [], ◌∷◌, ◌++◌, length, Option, Some, None, refl, sym, ap, ◌∙◌, arith, append_assoc, append-nil}
use Rattle.std.specs.Prelude.{filter}
use Rattle.std.proofs.lemmas.List.{length-append}
use Rattle.if1_graph.specs.declared.line.Line.{Line}
use Rattle.if1_graph.specs.declared.line.Line.TheVariants as line
use Rattle.if1_graph.specs.declared.graph.TypeEntry.{TypeEntry}
use Rattle.if1_graph.specs.Reads.{is_of_graph}
use Rattle.if1_read.specs.declared.fault.Kind.{Kind}
use Rattle.if1_read.specs.declared.fault.Fault.{Fault}
use Rattle.if1_read.specs.declared.read.Sorted.{Sorted}
use Rattle.if1_read.specs.Faults.{numbered}
use Rattle.if1_read.specs.Least.{earlier, least, found, noted}
use Rattle.if1_read.specs.Rows.{many_types, wrong_label, row_faults, typed}
use Rattle.if1_read.specs.Putting.{IsPut, AreSorted, SortsOn, AreSortedOut}
use Rattle.if1_read.specs.Entries.{entries_of}
use Rattle.if1_read.specs.Stands.{lines_of}
use Rattle.if1_read.proofs.Putting.{sorted_more}
use Rattle.if1_read.proofs.Firsts.{earlier_assoc, earlier_none, least_append, least_noted}

-- one more type, and what comes behind it
noted_then : (first : Option Fault) (n : ℕ) (o : Option Kind) (fs : List Fault) → earlier (earlier first (found n o)) (least fs) ≡ earlier first (least (noted n o ++ fs))
noted_then first n o fs =
    sym (earlier_assoc first (found n o) (least fs))
    ∙ ap (earlier first) (ap (λ (x : Option Fault). earlier x (least fs)) (sym (least_noted n o)) ∙ sym (least_append (noted n o) fs))

pub type_put : (n label code one second : ℕ) (name : List ℕ) (before after : Sorted) →
    after.entries.items ≡ before.entries.items ++ (n, record { label = label; code = code; first = one; second = second; name = name }) ∷ [] →
    after.lines.items ≡ before.lines.items → after.first ≡ earlier before.first (found n (many_types (length before.entries.items))) →
    SortsOn n (Some (line.Entry label code one second name)) before after
type_put n label code one second name before after entries lines first =
    let e : TypeEntry = record { label = label; code = code; first = one; second = second; name = name } in
    let count : length after.entries.items ≡ suc (length before.entries.items) = omega (arith, ap length entries, length-append before.entries.items ((n, e) ∷ [])) in
    record {
      first = λ rest.
          ap (λ (o : Option Fault). earlier o (least (row_faults (suc n) (length after.entries.items) rest))) first
          ∙ (ap (λ (c : ℕ). earlier (earlier before.first (found n (many_types (length before.entries.items)))) (least (row_faults (suc n) c rest))) count
          ∙ noted_then before.first n (many_types (length before.entries.items)) (row_faults (suc n) (suc (length before.entries.items)) rest));
      entries = λ rest.
          ap (λ es. es ++ typed (numbered (suc n) rest)) entries ∙ append_assoc before.entries.items ((n, e) ∷ []) (typed (numbered (suc n) rest));
      lines = λ rest. ap (λ ls. ls ++ filter (λ l. is_of_graph l.1) (numbered (suc n) rest)) lines;
    }

pub close_put : (n label op count : ℕ) (assoc lasts name : List ℕ) (before after : Sorted) → after.entries.items ≡ before.entries.items →
    after.lines.items ≡ before.lines.items ++ (n, line.Close label op count assoc lasts name) ∷ [] → after.first ≡ earlier before.first (found n (wrong_label label)) →
    SortsOn n (Some (line.Close label op count assoc lasts name)) before after
close_put n label op count assoc lasts name before after entries lines first =
    let l = line.Close label op count assoc lasts name in
    record {
      first = λ rest.
          ap (λ (o : Option Fault). earlier o (least (row_faults (suc n) (length after.entries.items) rest))) first
          ∙ (ap (λ (es : List (ℕ × TypeEntry)). earlier (earlier before.first (found n (wrong_label label))) (least (row_faults (suc n) (length es) rest))) entries
          ∙ noted_then before.first n (wrong_label label) (row_faults (suc n) (length before.entries.items) rest));
      entries = λ rest. ap (λ es. es ++ typed (numbered (suc n) rest)) entries;
      lines = λ rest.
          ap (λ ls. ls ++ filter (λ l. is_of_graph l.1) (numbered (suc n) rest)) lines
          ∙ append_assoc before.lines.items ((n, l) ∷ []) (filter (λ l. is_of_graph l.1) (numbered (suc n) rest));
    }

-- with what is to come, these rows give all
pub record GivesAll (n : ℕ) (rows : List (Option Line)) (s : Sorted) : Type 0 where
  pub first : (rest : List (Option Line)) → earlier s.first (least (row_faults (suc n) (length s.entries.items) rest)) ≡ least (row_faults 1 0 (rows ++ rest))
  pub entries : (rest : List (Option Line)) → s.entries.items ++ typed (numbered (suc n) rest) ≡ typed (numbered 1 (rows ++ rest))
  pub lines : (rest : List (Option Line)) → s.lines.items ++ filter (λ l. is_of_graph l.1) (numbered (suc n) rest) ≡ filter (λ l. is_of_graph l.1) (numbered 1 (rows ++ rest))

pub gives_none : (s : Sorted) → s.first ≡ None → s.entries.items ≡ [] → s.lines.items ≡ [] → GivesAll 0 [] s
gives_none s first entries lines = record {
  first = λ rest.
      ap (λ (o : Option Fault). earlier o (least (row_faults 1 (length s.entries.items) rest))) first
      ∙ ap (λ es. least (row_faults 1 (length es) rest)) entries;
  entries = λ rest. ap (λ es. es ++ typed (numbered 1 rest)) entries;
  lines = λ rest. ap (λ ls. ls ++ filter (λ l. is_of_graph l.1) (numbered 1 rest)) lines;
}

pub gives_more : (n k : ℕ) (rows : List (Option Line)) (o : Option Line) (s t : Sorted) → k ≡ suc n → GivesAll n rows s → SortsOn k o s t → GivesAll k (rows ++ o ∷ []) t
gives_more n k rows o s t e g p = record {
  first = λ rest.
      p.first rest
      ∙ (ap (λ (m : ℕ). earlier s.first (least (row_faults m (length s.entries.items) (o ∷ rest)))) e
      ∙ (g.first (o ∷ rest) ∙ ap (λ xs. least (row_faults 1 0 xs)) (sym (append_assoc rows (o ∷ []) rest))));
  entries = λ rest.
      p.entries rest
      ∙ (ap (λ (m : ℕ). s.entries.items ++ typed (numbered m (o ∷ rest))) e
      ∙ (g.entries (o ∷ rest) ∙ ap (λ xs. typed (numbered 1 xs)) (sym (append_assoc rows (o ∷ []) rest))));
  lines = λ rest.
      p.lines rest
      ∙ (ap (λ (m : ℕ). s.lines.items ++ filter (λ l. is_of_graph l.1) (numbered m (o ∷ rest))) e
      ∙ (g.lines (o ∷ rest) ∙ ap (λ xs. filter (λ l. is_of_graph l.1) (numbered 1 xs)) (sym (append_assoc rows (o ∷ []) rest))));
}

pub gives_all : (n : ℕ) (rows : List (Option Line)) (s : Sorted) → GivesAll n rows s → AreSortedOut rows s
gives_all n rows s g = record {
  first = sym (earlier_none s.first) ∙ (g.first [] ∙ ap (λ xs. least (row_faults 1 0 xs)) (append-nil rows));
  entries = sym (append-nil s.entries.items) ∙ (g.entries [] ∙ ap (λ xs. typed (numbered 1 xs)) (append-nil rows));
  lines = sym (append-nil s.lines.items) ∙ (g.lines [] ∙ ap (λ xs. filter (λ l. is_of_graph l.1) (numbered 1 xs)) (append-nil rows));
}

-- these rows, and what they give with what is to come
pub record SortsAll (n : ℕ) (rows : List (Option Line)) (s : Sorted) : Type 0 where
  pub read : s.first ≡ None → AreSorted rows (entries_of s.entries.items) (lines_of s.lines.items)
  pub gives : GivesAll n rows s
  pub sorted : AreSortedOut rows s

pub sorts_more : (n k : ℕ) (rows : List (Option Line)) (o : Option Line) (s t : Sorted) → k ≡ suc n → SortsAll n rows s → (t.first ≡ None → s.first ≡ None) →
    (t.first ≡ None → IsPut o (entries_of s.entries.items) (entries_of t.entries.items) (lines_of s.lines.items) (lines_of t.lines.items)) → SortsOn k o s t →
    SortsAll k (rows ++ o ∷ []) t
sorts_more n k rows o s t e all clean puts on =
    let g = gives_more n k rows o s t e all.gives on in
    record {
      read = λ none.
          sorted_more rows o (entries_of s.entries.items) (entries_of t.entries.items) (lines_of s.lines.items) (lines_of t.lines.items) (all.read (clean none)) (puts none);
      gives = g;
      sorted = gives_all k (rows ++ o ∷ []) t g;
    }
