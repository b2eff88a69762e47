-- Literals of edges that are found wrong, one after another.
use Rattle.std.proofs.Common.{◌≡◌, ℕ, List, [], ◌∷◌, ◌++◌, map, Option, Some, None, refl, sym, ap, subst, ◌∙◌}
use Rattle.std.specs.Prelude.{find, Contains, ◌==◌}
use Rattle.std.specs.List.Sorted.{IsPermutation, IsStrictlyIncreasing}
use Rattle.std.proofs.lemmas.List.Sorted.{Contains-permutation}
use Rattle.if1_graph.specs.declared.graph.Edge.{Edge}
use Rattle.if1_graph.specs.declared.graph.Node.{Node}
use Rattle.if1_graph.specs.Units.{label_of}
use Rattle.if1_read.specs.declared.fault.Kind.{Kind}
use Rattle.if1_read.specs.declared.fault.Fault.{Fault}
use Rattle.if1_read.specs.declared.judge.Known.{Known}
use Rattle.if1_read.specs.Edgewise.{lit_fault_of, edge_fault}
use Rattle.if1_read.specs.Faults.{with_some}
use Rattle.if1_read.specs.Known.{IsTableSound}
use Rattle.if1_read.specs.Least.{earlier, least, found}
use Rattle.if1_read.specs.Pages.{Lit, Rules, wrong_lits}
use Rattle.if1_read.specs.Rows.{by_line}
use Rattle.if1_read.specs.Rulings.{rules_of}
use Rattle.if1_read.specs.Sheets.{marks_of, lit_of, lined_lits}
use Rattle.if1_read.proofs.Walking.{some_append}
use Rattle.if1_read.proofs.Firsts.{earlier_assoc, earlier_none, least_append}

pub right_origin : (first : Option Fault) (n : ℕ) (o : Option Kind) → None ≡ o → first ≡ earlier first (found n o)
right_origin first n o e = sym (earlier_none first) ∙ ap (λ (k : Option Kind). earlier first (found n k)) e

pub wrong_origin : (first after : Option Fault) (n : ℕ) (k : Kind) (o : Option Kind) → after ≡ earlier first (Some (record { line = n; kind = k })) → Some k ≡ o → after ≡ earlier first (found n o)
wrong_origin first after n k o h e = h ∙ ap (λ (j : Option Kind). earlier first (found n j)) e

lits_append : (xs ys : List (ℕ × Edge)) → lined_lits (xs ++ ys) ≡ lined_lits xs ++ lined_lits ys
lits_append [] ys = refl
lits_append (x ∷ xs) ys =
    ap (with_some (by_line x.0 (lit_of x.1))) (lits_append xs ys) ∙ some_append (by_line x.0 (lit_of x.1)) (lined_lits xs) (lined_lits ys)

module _ (r : Rules) (ns : List (ℕ × ℕ)) where
  wrong_append : (xs ys : List (ℕ × Lit)) → wrong_lits r ns (xs ++ ys) ≡ wrong_lits r ns xs ++ wrong_lits r ns ys
  wrong_append [] ys = refl
  wrong_append (x ∷ xs) ys =
      ap (with_some (found x.0 (r.lit_wrong ns x.1))) (wrong_append xs ys)
      ∙ some_append (found x.0 (r.lit_wrong ns x.1)) (wrong_lits r ns xs) (wrong_lits r ns ys)

  one_found : (n : ℕ) (o : Option Kind) → least (with_some (found n o) []) ≡ found n o
  one_found n None = refl
  one_found n (Some k) = refl

  one_lit : (n : ℕ) (o : Option Lit) → least (wrong_lits r ns (with_some (by_line n o) [])) ≡ found n (lit_fault_of r ns o)
  one_lit n None = refl
  one_lit n (Some l) = one_found n (r.lit_wrong ns l)

  abbrev pub edge_faults : List (ℕ × Edge) → List Fault
  edge_faults es = wrong_lits r ns (lined_lits es)

  pub edges_more : (es : List (ℕ × Edge)) (n : ℕ) (e : Edge) → least (edge_faults (es ++ (n, e) ∷ [])) ≡ earlier (least (edge_faults es)) (found n (edge_fault r ns e))
  edges_more es n e =
      ap (λ xs. least (wrong_lits r ns xs)) (lits_append es ((n, e) ∷ []))
      ∙ (ap least (wrong_append (lined_lits es) (lined_lits ((n, e) ∷ [])))
      ∙ (least_append (edge_faults es) (wrong_lits r ns (lined_lits ((n, e) ∷ []))) ∙ ap (earlier (least (edge_faults es))) (one_lit n (lit_of e))))

-- what is named when these edges were looked at
abbrev pub AreJudged : Known → List Node → List ℕ → List (ℕ × Edge) → Option Fault → Option Fault → Type 0
AreJudged k nodes labels es before after =
    IsTableSound k.table → labels ≡ map label_of nodes → IsStrictlyIncreasing labels → after ≡ earlier before (least (edge_faults (rules_of k) (map marks_of nodes) es))

pub none_judged : (k : Known) (nodes : List Node) (labels : List ℕ) (first : Option Fault) → AreJudged k nodes labels [] first first
none_judged k nodes labels first sound is up = sym (earlier_none first)

pub judged_more : (k : Known) (nodes : List Node) (labels : List ℕ) (es : List (ℕ × Edge)) (n : ℕ) (e : Edge) (before first after : Option Fault) → AreJudged k nodes labels es before first →
    (IsTableSound k.table → labels ≡ map label_of nodes → IsStrictlyIncreasing labels → after ≡ earlier first (found n (edge_fault (rules_of k) (map marks_of nodes) e))) →
    AreJudged k nodes labels (es ++ (n, e) ∷ []) before after
judged_more k nodes labels es n e before first after h g sound is up =
    let r = rules_of k in
    let ns = map marks_of nodes in
    g sound is up
    ∙ (ap (λ (o : Option Fault). earlier o (found n (edge_fault r ns e))) (h sound is up)
    ∙ (sym (earlier_assoc before (least (edge_faults r ns es)) (found n (edge_fault r ns e))) ∙ ap (earlier before) (sym (edges_more r ns es n e))))
