-- Rows without a fault are lines, and no more of them are types than there may be.
use Rattle.std.proofs.Common.{◌≡◌, ℕ, suc, ◌+◌, ◌<◌, ◌≤◌, Bool, true, false, cond, List, [], ◌∷◌, ◌++◌, map, length, Option, Some, None, inl, inr, refl, ap, ◌∙◌, arith}
use Rattle.std.specs.Prelude.{◌==◌, nat_le, All, Contains, filter, if◌then◌else◌}
use Rattle.std.proofs.lemmas.Bool.{leb-false}
use Rattle.std.proofs.lemmas.List.Elements.{All-nil, All-cons}
use Rattle.if1_graph.specs.declared.line.Line.{Line}
use Rattle.if1_graph.specs.declared.line.Line.TheVariants as line
use Rattle.if1_graph.specs.Formed.{most}
use Rattle.if1_graph.specs.Reads.{entries_in, is_of_graph}
use Rattle.if1_read.specs.declared.fault.Kind.{Kind}
use Rattle.if1_read.specs.declared.fault.Kind.TheVariants.{Bad, TooMany}
use Rattle.if1_read.specs.declared.fault.Fault.{Fault}
use Rattle.if1_read.specs.Faults.{numbered, functions, types, is_unlabelled, HasNoFault}
use Rattle.if1_read.specs.Least.{least, noted}
use Rattle.if1_read.specs.Pages.{Rules}
use Rattle.if1_read.specs.Rows.{many_types, wrong_label, row_faults, all_faults}
use Rattle.if1_read.specs.Ruled.{AreRules}
use Rattle.if1_read.proofs.Firsts.{least_none}
use Rattle.if1_read.proofs.Named.{some_named}
use Rattle.if1_read.proofs.Same.{contains_here, contains_later, contains_cases, contains_none}

-- ---- lists of faults that are empty

pub no_first : {A : Type 0} (xs ys : List A) → xs ++ ys ≡ [] → xs ≡ []
no_first [] ys e = refl
no_first (x ∷ xs) ys e = absurd cc

pub no_second : {A : Type 0} (xs ys : List A) → xs ++ ys ≡ [] → ys ≡ []
no_second [] ys e = e
no_second (x ∷ xs) ys e = absurd cc

pub nothing : {A : Type 0} (xs ys : List A) → xs ≡ [] → ys ≡ [] → xs ++ ys ≡ []
nothing {A = A} xs ys e f = ap (λ (zs : List A). zs ++ ys) e ∙ f

pub not_noted : (n : ℕ) (o : Option Kind) → noted n o ≡ [] → o ≡ None
not_noted n None e = refl
not_noted n (Some k) e = absurd cc

pub no_faults : (rows : List (Option Line)) (r : Rules) → AreRules (types (numbered 1 rows)) (functions (numbered 1 rows)) r → HasNoFault rows → all_faults r rows ≡ []
no_faults rows r rules clean = by (least (all_faults r rows)) refl
  where
    by : (o : Option Fault) → least (all_faults r rows) ≡ o → all_faults r rows ≡ []
    by None e = least_none (all_faults r rows) e
    by (Some f) e = absurd (clean f.line f.kind (some_named rows r rules f e).fault)

pub from_list : {A B : Type 0} (f : A → B) (xs : List A) (y : B) → Contains (map f xs) y → (x : A) × Contains xs x × (f x ≡ y)
from_list f [] y h = absurd (contains_none y h)
from_list f (x ∷ xs) y h = elim (contains_cases (f x) (map f xs) y h) [
  | inl s ↦ (x, contains_here x xs, s)
  | inr d ↦ let r = from_list f xs y d in (r.0, contains_later x xs r.0 r.1, r.2)
]

-- ---- rows

pub record AreLines (n count : ℕ) (rows : List (Option Line)) : Type 0 where
  pub lines : List Line
  pub are : rows ≡ map (λ l. Some l) lines
  pub labelled : All (λ l. is_unlabelled l ≡ false) lines
  pub said : map (λ x. x.1) (numbered n rows) ≡ lines
  pub few : count + length (entries_in lines) ≤ most

more_lines : (n count less : ℕ) (l : Line) (rows : List (Option Line)) (a : AreLines (suc n) less rows) → is_unlabelled l ≡ false →
    count + length (entries_in (l ∷ a.lines)) ≤ most → AreLines n count (Some l ∷ rows)
more_lines n count less l rows a labelled few = record {
  lines = l ∷ a.lines;
  are = ap (λ os. Some l ∷ os) a.are;
  labelled = All-cons (λ (l : Line). is_unlabelled l ≡ false) l a.lines labelled a.labelled;
  said = ap (λ ls. l ∷ ls) a.said;
  few = few;
}

room_if : (count : ℕ) (b : Bool) → nat_le most count ≡ b → (if b then Some TooMany else None) ≡ None → count < most
room_if count true e h = absurd cc
room_if count false e h = leb-false most count e

room : (n count : ℕ) → noted n (many_types count) ≡ [] → count < most
room n count e = room_if count (nat_le most count) refl (not_noted n (many_types count) e)

label_if : (b : Bool) → (if b then Some Bad else None) ≡ None → b ≡ false
label_if true h = absurd cc
label_if false h = refl

pub lines_are : (n count : ℕ) (rows : List (Option Line)) → count ≤ most → row_faults n count rows ≡ [] → AreLines n count rows
lines_are n count [] le e = record { lines = []; are = refl; labelled = All-nil (λ (l : Line). is_unlabelled l ≡ false); said = refl; few = omega (arith, le) }
lines_are n count (None ∷ rows) le e = absurd cc
lines_are n count (Some (line.Entry label code first second name) ∷ rows) le e =
    let few : count < most = room n count (no_first (noted n (many_types count)) (row_faults (suc n) (suc count) rows) e) in
    let rest = lines_are (suc n) (suc count) rows few (no_second (noted n (many_types count)) (row_faults (suc n) (suc count) rows) e) in
    more_lines n count (suc count) (line.Entry label code first second name) rows rest refl (omega (arith, rest.few))
lines_are n count (Some (line.Close label op graphs assoc before name) ∷ rows) le e =
    let rest = lines_are (suc n) count rows le (no_second (noted n (wrong_label label)) (row_faults (suc n) count rows) e) in
    more_lines n count count (line.Close label op graphs assoc before name) rows rest
    (label_if (label == 0) (not_noted n (wrong_label label) (no_first (noted n (wrong_label label)) (row_faults (suc n) count rows) e))) rest.few
lines_are n count (Some line.Blank ∷ rows) le e = let rest = lines_are (suc n) count rows le e in more_lines n count count line.Blank rows rest refl rest.few
lines_are n count (Some (line.Node label op before name) ∷ rows) le e =
    let rest = lines_are (suc n) count rows le e in more_lines n count count (line.Node label op before name) rows rest refl rest.few
lines_are n count (Some (line.Edge source out node port ty takes name) ∷ rows) le e =
    let rest = lines_are (suc n) count rows le e in more_lines n count count (line.Edge source out node port ty takes name) rows rest refl rest.few
lines_are n count (Some (line.Literal node port ty text name) ∷ rows) le e =
    let rest = lines_are (suc n) count rows le e in more_lines n count count (line.Literal node port ty text name) rows rest refl rest.few
lines_are n count (Some (line.Function exported fun name) ∷ rows) le e =
    let rest = lines_are (suc n) count rows le e in more_lines n count count (line.Function exported fun name) rows rest refl rest.few
lines_are n count (Some (line.Subgraph name) ∷ rows) le e =
    let rest = lines_are (suc n) count rows le e in more_lines n count count (line.Subgraph name) rows rest refl rest.few
lines_are n count (Some (line.Import ty name) ∷ rows) le e =
    let rest = lines_are (suc n) count rows le e in more_lines n count count (line.Import ty name) rows rest refl rest.few
lines_are n count (Some (line.Open words) ∷ rows) le e =
    let rest = lines_are (suc n) count rows le e in more_lines n count count (line.Open words) rows rest refl rest.few

-- the lines of graphs, without their numbers
said_if : (b : Bool) (x : ℕ × Line) (xs : List (ℕ × Line)) (ls : List Line) → map (λ x. x.1) xs ≡ ls → map (λ x. x.1) (cond b (x ∷ xs) xs) ≡ cond b (x.1 ∷ ls) ls
said_if true x xs ls e = ap (λ ms. x.1 ∷ ms) e
said_if false x xs ls e = e

pub graphs_said : (ls : List (ℕ × Line)) → map (λ x. x.1) (filter (λ x. is_of_graph x.1) ls) ≡ filter is_of_graph (map (λ x. x.1) ls)
graphs_said [] = refl
graphs_said (x ∷ ls) = said_if (is_of_graph x.1) x (filter (λ x. is_of_graph x.1) ls) (filter is_of_graph (map (λ x. x.1) ls)) (graphs_said ls)
