-- The faults of a graph that ends, by its sorted nodes and edges.
use Rattle.std.proofs.Common.{◌≡◌, ℕ, Bool, true, false, cond, List, [], ◌∷◌, ◌++◌, map, Option, Some, None, inl, inr, if◌then◌else◌, refl, sym, ap, subst, ◌∙◌}
use Rattle.std.specs.Prelude.{◌==◌, Contains, filter, find, option_map}
use Rattle.std.specs.List.Sorted.{IsPermutation, IsNonDecreasingBy}
use Rattle.std.proofs.lemmas.List.Sorted.{Contains-permutation, IsPermutation-sym}
use Rattle.if1_graph.specs.declared.graph.Edge.{Edge}
use Rattle.if1_graph.specs.declared.graph.Node.{Node, out-Node}
use Rattle.if1_graph.specs.declared.row.Want.{Want}
use Rattle.if1_graph.specs.Tables.{◌>>=◌}
use Rattle.if1_graph.specs.Ops.{simple_at}
use Rattle.if1_graph.specs.Rows.{operand_of}
use Rattle.if1_graph.specs.Types.{entry_at}
use Rattle.if1_graph.specs.Units.{label_of}
use Rattle.if1_read.specs.declared.fault.Kind.{Kind}
use Rattle.if1_read.specs.declared.fault.Fault.{Fault}
use Rattle.if1_read.specs.declared.judge.Known.{Known}
use Rattle.if1_read.specs.Faults.{want_of, with_some}
use Rattle.if1_read.specs.Least.{earlier, least, found}
use Rattle.if1_read.specs.Made.{lined_nodes}
use Rattle.if1_read.specs.Marks.{is_marked}
use Rattle.if1_read.specs.Pages.{Lit, Page, is_among, again, wrong_lits, page_faults}
use Rattle.if1_read.specs.Rows.{by_line, over, kept}
use Rattle.if1_read.specs.Rulings.{rules_of, lit_fault, lit_wrong}
use Rattle.if1_read.specs.Sheets.{marks_of, lined_marks, lit_of, lined_lits}
use Rattle.if1_read.proofs.Same.{contains_here, contains_later, contains_cases, contains_none}
use Rattle.if1_read.proofs.Repeats.{bad_at, wrong_lit, lit_wrongly}
use Rattle.if1_read.proofs.Firsts.{AreIn, same_least, first_then, least_append}
use Rattle.if1_read.proofs.Stably.{sorted_again, sorted_find}

-- ---- labels

module _ {A B : Type 0} (f : A → ℕ) (g : B → ℕ) (h : A → B) (same : (a : A) → g (h a) ≡ f a) where
  abbrev moved : List (ℕ × A) → List (ℕ × B)
  moved xs = map (λ x. (x.0, h x.1)) xs

  again_moved : (seen : List ℕ) (xs : List (ℕ × A)) → again f seen xs ≡ again g seen (moved xs)
  again_moved seen [] = refl
  again_moved seen (x ∷ xs) =
      ap (λ fs. if is_among (f x.1) seen then bad_at x.0 ∷ fs else again f (f x.1 ∷ seen) xs) (again_moved seen xs)
      ∙ (ap (λ fs. if is_among (f x.1) seen then bad_at x.0 ∷ again g seen (moved xs) else fs) (again_moved (f x.1 ∷ seen) xs)
      ∙ ap (λ (l : ℕ). if is_among l seen then bad_at x.0 ∷ again g seen (moved xs) else again g (l ∷ seen) (moved xs)) (sym (same x.1)))

-- ---- what ports want

abbrev want_from : Option (ℕ × ℕ) → ℕ → Option Want
want_from o port = o >>= λ n. simple_at n.1 >>= λ op. operand_of op port >>= λ operand. Some operand.1

find_if : (b : Bool) (x : ℕ × Node) (o : Option (ℕ × ℕ)) (p : Option (ℕ × Node)) → o ≡ option_map (λ y. marks_of y.1) p →
    cond b (Some (marks_of x.1)) o ≡ option_map (λ y. marks_of y.1) (cond b (Some x) p)
find_if true x o p e = refl
find_if false x o p e = e

find_marks : (xs : List (ℕ × Node)) (l : ℕ) → find (λ n. n.0 == l) (map marks_of (lined_nodes xs)) ≡ option_map (λ y. marks_of y.1) (find (λ x. label_of x.1 == l) xs)
find_marks [] l = refl
find_marks (x ∷ xs) l = find_if (label_of x.1 == l) x (find (λ n. n.0 == l) (map marks_of (lined_nodes xs))) (find (λ x. label_of x.1 == l) xs) (find_marks xs l)

marks_lined : (xs : List (ℕ × Node)) → map (λ n. n.1) (lined_marks xs) ≡ map marks_of (lined_nodes xs)
marks_lined [] = refl
marks_lined (x ∷ xs) = ap (λ ns. marks_of x.1 ∷ ns) (marks_lined xs)

module _ (k : Known) (ms ns : List (ℕ × ℕ)) (same : (l port : ℕ) → want_of ms l port ≡ want_of ns l port) where
  lit_same : (l : Lit) → lit_wrong k ms l ≡ lit_wrong k ns l
  lit_same l =
      ap (λ (w : Option Want). if is_marked k.table.types k.table.reals l.ty then None else lit_fault k.names w l.text (entry_at k.table.types l.ty))
      (same l.node l.port)

  lits_same : (xs : List (ℕ × Lit)) → wrong_lits (rules_of k) ms xs ≡ wrong_lits (rules_of k) ns xs
  lits_same [] = refl
  lits_same (x ∷ xs) =
      ap (λ (o : Option Kind). with_some (found x.0 o) (wrong_lits (rules_of k) ms xs)) (lit_same x.1)
      ∙ ap (with_some (found x.0 (lit_wrong k ns x.1))) (lits_same xs)

-- ---- literals in any order

record IsLitOf (es : List (ℕ × Edge)) (x : ℕ × Lit) : Type 0 where
  edge : ℕ × Edge
  among : Contains es edge
  is : by_line edge.0 (lit_of edge.1) ≡ Some x

lit_if : (e : ℕ × Edge) (es : List (ℕ × Edge)) (o : Option (ℕ × Lit)) (x : ℕ × Lit) → by_line e.0 (lit_of e.1) ≡ o → (Contains (lined_lits es) x → IsLitOf es x) →
    Contains (with_some o (lined_lits es)) x → IsLitOf (e ∷ es) x
lit_if e es None x is ih c = let r = ih c in record { edge = r.edge; among = contains_later e es r.edge r.among; is = r.is }
lit_if e es (Some y) x is ih c = elim (contains_cases y (lined_lits es) x c) [
  | inl s ↦ record { edge = e; among = contains_here e es; is = is ∙ ap Some s }
  | inr d ↦ let r = ih d in record { edge = r.edge; among = contains_later e es r.edge r.among; is = r.is }
]

lits_from : (es : List (ℕ × Edge)) (x : ℕ × Lit) → Contains (lined_lits es) x → IsLitOf es x
lits_from [] x c = absurd (contains_none x c)
lits_from (e ∷ es) x c = lit_if e es (by_line e.0 (lit_of e.1)) x refl (lits_from es x) c

with_later : (o : Option (ℕ × Lit)) (xs : List (ℕ × Lit)) (x : ℕ × Lit) → Contains xs x → Contains (with_some o xs) x
with_later None xs x c = c
with_later (Some y) xs x c = contains_later y xs x c

lits_have : (es : List (ℕ × Edge)) (e : ℕ × Edge) (x : ℕ × Lit) → Contains es e → by_line e.0 (lit_of e.1) ≡ Some x → Contains (lined_lits es) x
lits_have [] e x c is = absurd (contains_none e c)
lits_have (y ∷ es) e x c is = elim (contains_cases y es e c) [
  | inl s ↦
      subst (λ (o : Option (ℕ × Lit)). Contains (with_some o (lined_lits es)) x) (sym (ap (λ (z : ℕ × Edge). by_line z.0 (lit_of z.1)) s ∙ is)) (contains_here x (lined_lits es))
  | inr d ↦ with_later (by_line y.0 (lit_of y.1)) (lined_lits es) x (lits_have es e x d is)
]

lits_in : (es fs : List (ℕ × Edge)) → IsPermutation es fs → (x : ℕ × Lit) → Contains (lined_lits es) x → Contains (lined_lits fs) x
lits_in es fs p x c = let r = lits_from es x c in lits_have fs r.edge x (Contains-permutation es fs r.edge p r.among) r.is

wrong_in : (k : Known) (ns : List (ℕ × ℕ)) (es fs : List (ℕ × Edge)) → IsPermutation es fs → AreIn (wrong_lits (rules_of k) ns (lined_lits es)) (wrong_lits (rules_of k) ns (lined_lits fs))
wrong_in k ns es fs p f c =
    let w = wrong_lit (rules_of k) ns (lined_lits es) f c in
    subst (Contains (wrong_lits (rules_of k) ns (lined_lits fs))) (λ i. record { line = sym w.at i; kind = f.kind })
    (lit_wrongly (rules_of k) ns (lined_lits fs) w.item f.kind (lits_in es fs p w.item w.among) w.wrong)

-- ---- the whole graph

module _ (k : Known) (xs ys : List (ℕ × Node)) (same : (l : ℕ) → filter (λ n. label_of n.1 == l) ys ≡ filter (λ n. label_of n.1 == l) xs)
    (up : IsNonDecreasingBy (λ (n : ℕ × Node). label_of n.1) ys) (es fs : List (ℕ × Edge)) (these : IsPermutation es fs) where
  abbrev nodes : List (ℕ × ℕ)
  nodes = map (λ n. n.1) (lined_marks xs)

  abbrev sorted : List (ℕ × ℕ)
  sorted = map marks_of (lined_nodes (kept label_of None ys))

  same_wants : (l port : ℕ) → want_of sorted l port ≡ want_of nodes l port
  same_wants l port =
      ap (λ (o : Option (ℕ × ℕ)). want_from o port)
      (find_marks (kept label_of None ys) l
      ∙ (ap (option_map (λ (y : ℕ × Node). marks_of y.1)) (sorted_find label_of xs ys same up l)
      ∙ (sym (find_marks xs l) ∙ ap (find (λ (n : ℕ × ℕ). n.0 == l)) (sym (marks_lined xs)))))

  pub page_found : (first o r : Option Fault) → o ≡ earlier first (least (over label_of None ys)) → r ≡ earlier o (least (wrong_lits (rules_of k) sorted (lined_lits fs))) →
      r ≡ earlier first (least (page_faults (rules_of k) (record { nodes = lined_marks xs; lits = lined_lits es })))
  page_found first o r o_is r_is =
      let labels : least (over label_of None ys) ≡ least (again (λ n. n.0) [] (lined_marks xs)) =
      sorted_again label_of xs ys same up ∙ ap least (again_moved label_of (λ (n : ℕ × ℕ). n.0) marks_of (λ n. refl) [] xs) in
      let lits : least (wrong_lits (rules_of k) sorted (lined_lits fs)) ≡ least (wrong_lits (rules_of k) nodes (lined_lits es)) =
      ap least (lits_same k sorted nodes same_wants (lined_lits fs))
      ∙ same_least (wrong_lits (rules_of k) nodes (lined_lits fs)) (wrong_lits (rules_of k) nodes (lined_lits es)) (wrong_in k nodes fs es (IsPermutation-sym es fs these)) (wrong_in k nodes es fs these) in
      r_is
      ∙ (ap (λ (x : Option Fault). earlier x (least (wrong_lits (rules_of k) sorted (lined_lits fs)))) (o_is ∙ ap (earlier first) labels)
      ∙ (ap (earlier (earlier first (least (again (λ n. n.0) [] (lined_marks xs))))) lits
      ∙ first_then first (again (λ n. n.0) [] (lined_marks xs)) (wrong_lits (rules_of k) nodes (lined_lits es))))
