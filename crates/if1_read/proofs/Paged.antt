-- The first fault of a graph that ends, by its sorted nodes and edges.
use Rattle.std.proofs.Common.{◌≡◌, ℕ, Bool, true, false, cond, List, [], ◌∷◌, ◌++◌, map, Option, Some, None, ◌⊎◌, inl, inr, if◌then◌else◌, refl, sym, ap, subst, ◌∙◌}
use Rattle.std.specs.Prelude.{find, filter, Contains, option_map, ◌==◌}
use Rattle.std.specs.List.Sorted.{IsPermutation, IsNonDecreasingBy}
use Rattle.std.proofs.lemmas.List.Sorted.{Contains-permutation, IsPermutation-sym}
use Rattle.if1_graph.specs.declared.graph.Edge.{Edge}
use Rattle.if1_graph.specs.declared.graph.Node.{Node}
use Rattle.if1_graph.specs.Kinds.{kind_at, basic_at}
use Rattle.if1_graph.specs.Tables.{◌>>=◌}
use Rattle.if1_graph.specs.Ops.{simple_at}
use Rattle.if1_graph.specs.Rows.{operand_of}
use Rattle.if1_graph.specs.Types.{entry_at}
use Rattle.if1_graph.specs.Units.{label_of}
use Rattle.if1_read.specs.declared.fault.Kind.{Kind}
use Rattle.if1_read.specs.declared.fault.Kind.TheVariants.{Bad}
use Rattle.if1_read.specs.declared.fault.Fault.{Fault}
use Rattle.if1_read.specs.declared.judge.Known.{Known}
use Rattle.if1_read.specs.declared.part.Part.{Part}
use Rattle.if1_read.specs.Faults.{with_some}
use Rattle.if1_read.specs.Least.{earlier, least, found}
use Rattle.if1_read.specs.Marks.{is_marked}
use Rattle.if1_read.specs.Pages.{Lit, Rules, is_among, again, wrong_lits, page_faults}
use Rattle.if1_read.specs.Rows.{by_line, over, kept}
use Rattle.if1_read.specs.Rulings.{lit_fault, lit_wrong, rules_of}
use Rattle.if1_read.specs.Sheets.{marks_of, lit_of, lined_marks, lined_lits, page_of}
use Rattle.if1_read.proofs.Firsts.{AreIn, same_least, first_then}
use Rattle.if1_read.proofs.Repeats.{wrong_lit, lit_wrongly}
use Rattle.if1_read.proofs.Same.{contains_here, contains_later, contains_cases, contains_none}
use Rattle.if1_read.proofs.Stably.{sorted_again, sorted_find}

-- ---- edges in another order

lit_cases : (o : Option (ℕ × Lit)) (xs : List (ℕ × Lit)) (x : ℕ × Lit) → Contains (with_some o xs) x → (o ≡ Some x) ⊎ Contains xs x
lit_cases None xs x c = inr c
lit_cases (Some y) xs x c = elim (contains_cases y xs x c) [ inl e ↦ inl (ap Some e) | inr d ↦ inr d ]

lit_later : (o : Option (ℕ × Lit)) (xs : List (ℕ × Lit)) (x : ℕ × Lit) → Contains xs x → Contains (with_some o xs) x
lit_later None xs x c = c
lit_later (Some y) xs x c = contains_later y xs x c

record OfEdge (es : List (ℕ × Edge)) (x : ℕ × Lit) : Type 0 where
  edge : ℕ × Edge
  among : Contains es edge
  says : by_line edge.0 (lit_of edge.1) ≡ Some x

of_edge : (es : List (ℕ × Edge)) (x : ℕ × Lit) → Contains (lined_lits es) x → OfEdge es x
of_edge [] x c = absurd (contains_none x c)
of_edge (e ∷ es) x c = elim (lit_cases (by_line e.0 (lit_of e.1)) (lined_lits es) x c) [
  | inl s ↦ record { edge = e; among = contains_here e es; says = s }
  | inr d ↦ let o = of_edge es x d in record { edge = o.edge; among = contains_later e es o.edge o.among; says = o.says }
]

has_lit : (es : List (ℕ × Edge)) (e : ℕ × Edge) (x : ℕ × Lit) → Contains es e → by_line e.0 (lit_of e.1) ≡ Some x → Contains (lined_lits es) x
has_lit [] e x c s = absurd (contains_none e c)
has_lit (f ∷ es) e x c s = elim (contains_cases f es e c) [
  | inl h ↦
      let here : by_line f.0 (lit_of f.1) ≡ Some x = ap (λ (z : ℕ × Edge). by_line z.0 (lit_of z.1)) h ∙ s in
      subst (λ (o : Option (ℕ × Lit)). Contains (with_some o (lined_lits es)) x) (sym here) (contains_here x (lined_lits es))
  | inr d ↦ lit_later (by_line f.0 (lit_of f.1)) (lined_lits es) x (has_lit es e x d s)
]

wrong_moved : (r : Rules) (ns : List (ℕ × ℕ)) (es fs : List (ℕ × Edge)) → IsPermutation es fs → AreIn (wrong_lits r ns (lined_lits es)) (wrong_lits r ns (lined_lits fs))
wrong_moved r ns es fs p f c =
    let w = wrong_lit r ns (lined_lits es) f c in
    let o = of_edge es w.item w.among in
    let there = has_lit fs o.edge w.item (Contains-permutation es fs o.edge p o.among) o.says in
    subst (λ (n : ℕ). Contains (wrong_lits r ns (lined_lits fs)) (record { line = n; kind = f.kind })) (sym w.at) (lit_wrongly r ns (lined_lits fs) w.item f.kind there w.wrong)

same_wrong : (r : Rules) (ns : List (ℕ × ℕ)) (es fs : List (ℕ × Edge)) → IsPermutation es fs → least (wrong_lits r ns (lined_lits fs)) ≡ least (wrong_lits r ns (lined_lits es))
same_wrong r ns es fs p =
    same_least (wrong_lits r ns (lined_lits fs)) (wrong_lits r ns (lined_lits es)) (wrong_moved r ns fs es (IsPermutation-sym es fs p)) (wrong_moved r ns es fs p)

-- ---- nodes of the same labels and opcodes

find_if : (b : Bool) (x : ℕ × Node) (o : Option (ℕ × Node)) (p : Option (ℕ × ℕ)) → p ≡ option_map (λ x. marks_of x.1) o →
    cond b (Some (marks_of x.1)) p ≡ option_map (λ x. marks_of x.1) (cond b (Some x) o)
find_if true x o p e = refl
find_if false x o p e = e

find_marks : (xs : List (ℕ × Node)) (l : ℕ) → find (λ m. m.0 == l) (map (λ x. marks_of x.1) xs) ≡ option_map (λ x. marks_of x.1) (find (λ x. label_of x.1 == l) xs)
find_marks [] l = refl
find_marks (x ∷ xs) l = find_if (label_of x.1 == l) x (find (λ x. label_of x.1 == l) xs) (find (λ m. m.0 == l) (map (λ x. marks_of x.1) xs)) (find_marks xs l)

marks_twice : (xs : List (ℕ × Node)) → map marks_of (map (λ x. x.1) xs) ≡ map (λ x. marks_of x.1) xs
marks_twice [] = refl
marks_twice (x ∷ xs) = ap (λ ms. marks_of x.1 ∷ ms) (marks_twice xs)

marks_lined : (xs : List (ℕ × Node)) → map (λ n. n.1) (lined_marks xs) ≡ map (λ x. marks_of x.1) xs
marks_lined [] = refl
marks_lined (x ∷ xs) = ap (λ ms. marks_of x.1 ∷ ms) (marks_lined xs)

again_lined : (seen : List ℕ) (xs : List (ℕ × Node)) → again (λ n. n.0) seen (lined_marks xs) ≡ again label_of seen xs
again_lined seen [] = refl
again_lined seen (x ∷ xs) = λ i. if is_among (label_of x.1) seen then record { line = x.0; kind = Bad } ∷ again_lined seen xs i else again_lined (label_of x.1 ∷ seen) xs i

module _ (k : Known) (ns ms : List (ℕ × ℕ)) (same : (l : ℕ) → find (λ n. n.0 == l) ns ≡ find (λ n. n.0 == l) ms) where
  same_fault : (l : Lit) → lit_wrong k ns l ≡ lit_wrong k ms l
  same_fault l =
      ap
      (λ (o : Option (ℕ × ℕ)). if is_marked k.table.types k.table.reals l.ty then None
      else lit_fault k.names (o >>= λ n. simple_at n.1 >>= λ op. operand_of op l.port >>= λ operand. Some operand.1) l.text (entry_at k.table.types l.ty))
      (same l.node)

  same_lits : (xs : List (ℕ × Lit)) → wrong_lits (rules_of k) ns xs ≡ wrong_lits (rules_of k) ms xs
  same_lits [] = refl
  same_lits (x ∷ xs) =
      ap (λ (o : Option Kind). with_some (found x.0 o) (wrong_lits (rules_of k) ns xs)) (same_fault x.1)
      ∙ ap (with_some (found x.0 (lit_wrong k ms x.1))) (same_lits xs)

-- ---- the whole graph

pub page_found : (k : Known) (p : Part) (ys : List (ℕ × Node)) (fs : List (ℕ × Edge)) (nodes : List Node) (first one two : Option Fault) →
    ((l : ℕ) → filter (λ n. label_of n.1 == l) ys ≡ filter (λ n. label_of n.1 == l) p.nodes.items) → IsNonDecreasingBy (λ n. label_of n.1) ys →
    nodes ≡ map (λ n. n.1) (kept label_of None ys) → IsPermutation p.edges.items fs →
    one ≡ earlier first (least (over label_of None ys)) → two ≡ earlier one (least (wrong_lits (rules_of k) (map marks_of nodes) (lined_lits fs))) →
    two ≡ earlier first (least (page_faults (rules_of k) (page_of p)))
page_found k p ys fs nodes first one two same up are edges one_is two_is =
    let r = rules_of k in
    let xs = p.nodes.items in
    let here = map marks_of nodes in
    let all = map (λ (n : ℕ × (ℕ × ℕ)). n.1) (lined_marks xs) in
    let firsts : (l : ℕ) → find (λ n. n.0 == l) here ≡ find (λ n. n.0 == l) all =
    λ l.
    ap (find (λ (n : ℕ × ℕ). n.0 == l)) (ap (map marks_of) are ∙ marks_twice (kept label_of None ys))
    ∙ (find_marks (kept label_of None ys) l
    ∙ (ap (option_map (λ (x : ℕ × Node). marks_of x.1)) (sorted_find label_of xs ys same up l)
    ∙ (sym (find_marks xs l) ∙ ap (find (λ (n : ℕ × ℕ). n.0 == l)) (sym (marks_lined xs))))) in
    let labels : least (over label_of None ys) ≡ least (again (λ n. n.0) [] (lined_marks xs)) = sorted_again label_of xs ys same up ∙ ap least (sym (again_lined [] xs)) in
    let lits : least (wrong_lits r here (lined_lits fs)) ≡ least (wrong_lits r all (lined_lits p.edges.items)) =
    same_wrong r here p.edges.items fs edges ∙ ap least (same_lits k here all firsts (lined_lits p.edges.items)) in
    two_is
    ∙ (ap (λ (o : Option Fault). earlier o (least (wrong_lits r here (lined_lits fs)))) (one_is ∙ ap (earlier first) labels)
    ∙ (ap (earlier (earlier first (least (again (λ n. n.0) [] (lined_marks xs))))) lits
    ∙ first_then first (again (λ n. n.0) [] (lined_marks xs)) (wrong_lits r all (lined_lits p.edges.items))))
