-- How deep lines without a fault nest, and the names of their functions.
use Rattle.std.proofs.Common.{◌≡◌, ℕ, suc, ◌+◌, ◌-◌, ◌≤◌, max, List, [], ◌∷◌, ◌++◌, map, length, Some, None, refl, sym, ap, ◌∙◌, arith, true≢false}
use Rattle.if1_graph.specs.declared.line.Line.{Line}
use Rattle.if1_graph.specs.declared.line.Line.TheVariants as line
use Rattle.if1_graph.specs.declared.graph.TypeEntry.{TypeEntry}
use Rattle.if1_graph.specs.Units.{most_levels}
use Rattle.if1_graph.specs.Reads.{deepest}
use Rattle.if1_read.specs.Faults.{Layer, layers_from, told, name_on}
use Rattle.if1_read.specs.Pages.{Lit}
use Rattle.if1_read.proofs.Walking.{Lined, told_append, EachAt}
use Rattle.if1_read.proofs.Faultless.{IsBody, AreParts, AreFunctions, no_line, simple, compound, edge, literal, no_part, part, no_function, import, function}
use Rattle.if1_read.proofs.Standing.{Stands, body_stands, parts_stand}

abbrev pub IsShallow : Line → List Layer → Type 0
IsShallow (line.Open rest) os = length os ≤ most_levels
IsShallow _ os = Unit {0}

deepest_above : (k : ℕ) (ls : List Line) → k ≤ deepest k ls
deepest_above k [] = omega arith
deepest_above k (line.Open rest ∷ ls) = omega arith
deepest_above k (line.Close label op count assoc before name ∷ ls) = omega arith
deepest_above k (line.Blank ∷ ls) = deepest_above k ls
deepest_above k (line.Entry label code first second name ∷ ls) = deepest_above k ls
deepest_above k (line.Node label op before name ∷ ls) = deepest_above k ls
deepest_above k (line.Edge from out node port ty takes name ∷ ls) = deepest_above k ls
deepest_above k (line.Literal node port ty text name ∷ ls) = deepest_above k ls
deepest_above k (line.Function exported fun name ∷ ls) = deepest_above k ls
deepest_above k (line.Subgraph name ∷ ls) = deepest_above k ls
deepest_above k (line.Import ty name ∷ ls) = deepest_above k ls

abbrev lines_in : List Lined → List Line
lines_in ls = map (λ l. l.1) ls

opened : (n : ℕ) (ls : List Line) → max (suc n - 1) (deepest (suc (suc n - 1)) ls) ≤ most_levels → deepest (suc (suc n) - 1) ls ≤ most_levels
opened n ls h = let same : suc (suc n - 1) ≡ suc (suc n) - 1 = omega arith in omega (arith, h, ap (λ (k : ℕ). deepest k ls) same)

closed : (n : ℕ) (ls : List Line) → max (suc (suc n) - 1) (deepest (suc (suc n) - 1 - 1) ls) ≤ most_levels → deepest (suc n - 1) ls ≤ most_levels
closed n ls h = let same : suc (suc n) - 1 - 1 ≡ suc n - 1 = omega arith in omega (arith, h, ap (λ (k : ℕ). deepest k ls) same)

low : (n : ℕ) (ls : List Line) → deepest (suc n - 1) ls ≤ most_levels → n ≤ most_levels
low n ls h = omega (arith, h, deepest_above (suc n - 1) ls)

module _ (ts : List TypeEntry) where
  pub nests : (os : List Layer) (ls : List Lined) → EachAt (Stands ts) os ls → deepest (length os - 1) (lines_in ls) ≤ most_levels → EachAt IsShallow os ls
  nests os [] h d = tt
  nests os ((k, line.Blank) ∷ ls) h d = (tt, nests os ls h.1 d)
  nests os ((k, line.Entry label code first second name) ∷ ls) h d = (tt, nests os ls h.1 d)
  nests os ((k, line.Node label op before name) ∷ ls) h d = (tt, nests os ls h.1 d)
  nests os ((k, line.Edge from out node port ty takes name) ∷ ls) h d = (tt, nests os ls h.1 d)
  nests os ((k, line.Literal node port ty text name) ∷ ls) h d = (tt, nests os ls h.1 d)
  nests (u ∷ []) ((k, line.Function exported fun name) ∷ ls) h d = (tt, nests ((Some k, suc u.1) ∷ []) ls h.1 d)
  nests (u ∷ []) ((k, line.Import ty name) ∷ ls) h d = (tt, nests ((None, u.1) ∷ []) ls h.1 d)
  nests (a ∷ b ∷ os) ((k, line.Subgraph name) ∷ ls) h d = (tt, nests ((Some k, suc a.1) ∷ b ∷ os) ls h.1 d)
  nests ((Some g, c) ∷ os) ((k, line.Open rest) ∷ ls) h d =
      let d2 = opened (length os) (lines_in ls) d in
      (low (suc (length os)) (lines_in ls) d2, nests ((None, 0) ∷ (Some g, c) ∷ os) ls h.1 d2)
  nests (a ∷ b ∷ os) ((k, line.Close label op count assoc before name) ∷ ls) h d = (tt, nests (b ∷ os) ls h.1 (closed (length os) (lines_in ls) d))
  nests os (x ∷ ls) h d = absurd (true≢false (sym h.0.placed))

-- ---- names of functions

nothing : (os ps : List Layer) (xs ys : List Lined) → layers_from os xs ≡ ps → told name_on os xs ≡ [] → told name_on os (xs ++ ys) ≡ told name_on ps ys
nothing os ps xs ys e f =
    told_append name_on os xs ys ∙ (ap (λ zs. zs ++ told name_on (layers_from os xs) ys) f ∙ ap (λ qs. told name_on qs ys) e)

module _ (ts : List TypeEntry) (names : List (List ℕ)) where
  mutual
    body_names : (lo : ℕ) (ls : List Lined) (hi : ℕ) (ns : List (ℕ × ℕ)) (es : List Lit) → IsBody ts names lo ls hi ns es → (g c : ℕ) (os : List Layer) →
        told name_on ((Some g, c) ∷ os) ls ≡ []
    body_names lo ls hi ns es (no_line n) g c os = refl
    body_names lo ls hi ns es (simple {hi = h2} {ls = ls2} {ns = ns2} {es = es2} l k label op before name lt known b) g c os = body_names k ls2 h2 ns2 es2 b g c os
    body_names lo ls hi ns es (edge {hi = h2} {ls = ls2} {ns = ns2} {es = es2} l k from out node port ty takes name lt known b) g c os = body_names k ls2 h2 ns2 es2 b g c os
    body_names lo ls hi ns es (literal {hi = h2} {ls = ls2} {ns = ns2} {es = es2} l k node port ty text name lt known b) g c os = body_names k ls2 h2 ns2 es2 b g c os
    body_names lo ls hi ns es (compound {mid = mid} {count = count} {hi = h2} {ps = ps} {ls = ls2} {ns = ns2} {es = es2} l k j rest label op assoc before name lt known p lt2 b) g c os =
        let here : List Layer = (Some g, c) ∷ os in
        let close = line.Close label op count assoc before name in
        let stand = parts_stand ts names k ps mid count p (None, 0) (Some g, c) os in
        nothing ((None, 0) ∷ here) ((stand.last, 0 + count) ∷ here) ps ((j, close) ∷ ls2) stand.ends (parts_names k ps mid count p (None, 0) (Some g, c) os)
        ∙ body_names j ls2 h2 ns2 es2 b g c os

    parts_names : (lo : ℕ) (ls : List Lined) (hi count : ℕ) → AreParts ts names lo ls hi count → (o around : Layer) (os : List Layer) → told name_on (o ∷ around ∷ os) ls ≡ []
    parts_names lo ls hi count (no_part n) o around os = refl
    parts_names lo ls hi count (part {mid = mid} {hi = h2} {count = count2} {ls = bs} {ps = ps} {ns = ns} {es = es} l k name lt b right p) o around os =
        let here : List Layer = (Some k, suc o.1) ∷ around ∷ os in
        let stand = body_stands ts names k bs mid ns es b k (suc o.1) (around ∷ os) in
        nothing here here bs ps stand.ends (body_names k bs mid ns es b k (suc o.1) (around ∷ os)) ∙ parts_names mid ps h2 count2 p (Some k, suc o.1) around os

  pub functions_names : (lo : ℕ) (ls : List Lined) (hi : ℕ) (fs : List (List ℕ)) → AreFunctions ts names lo ls hi fs → (o : Layer) → told name_on (o ∷ []) ls ≡ fs
  functions_names lo ls hi fs (no_function n) o = refl
  functions_names lo ls hi fs (import {hi = h2} {ls = ls2} {fs = fs2} l k ty name lt known r) o = functions_names k ls2 h2 fs2 r (None, o.1)
  functions_names lo ls hi fs (function {mid = mid} {hi = h2} {bs = bs} {ls = ls2} {ns = ns} {es = es} {fs = fs2} l k exported fun name lt known b right r) o =
      let here : List Layer = (Some k, suc o.1) ∷ [] in
      let stand = body_stands ts names k bs mid ns es b k (suc o.1) [] in
      ap (λ xs. name ∷ xs) (nothing here here bs ls2 stand.ends (body_names k bs mid ns es b k (suc o.1) []) ∙ functions_names mid ls2 h2 fs2 r (Some k, suc o.1))
