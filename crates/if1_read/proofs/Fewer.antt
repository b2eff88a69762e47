-- Lines give no more graphs than they are.
use Rattle.std.proofs.Common.{◌≡◌, ℕ, suc, ◌+◌, ◌≤◌, Bool, true, false, cond, List, [], ◌∷◌, ◌++◌, map, sum, length, get_or, drop, ◌⊎◌, inl, inr, refl, sym, ap, subst, ◌∙◌, arith}
use Rattle.std.specs.Prelude.{◌==◌, filter}
use Rattle.std.proofs.lemmas.Bool.{cases_eq, eqb-true, eq-eqb, ne_eqb}
use Rattle.std.proofs.lemmas.List.{length-append}
use Rattle.if1_graph.specs.declared.line.Line.{Line}
use Rattle.if1_graph.specs.declared.line.Line.TheVariants as line
use Rattle.if1_graph.specs.declared.graph.Graph.{Graph}
use Rattle.if1_graph.specs.declared.graph.Graph.TheViews.{out-Graph}
use Rattle.if1_graph.specs.declared.graph.Node.{Node, out-Node}
use Rattle.if1_graph.specs.declared.graph.Edge.{Edge}
use Rattle.if1_graph.specs.declared.graph.Unit1.{Unit1}
use Rattle.if1_graph.specs.Units.{label_of, size, sizes}
use Rattle.if1_graph.specs.Reads.{GivesBody, GivesParts, GivesUnit, no_line, simple, compound, edge, literal, no_part, part, no_graph, import, function}
use Rattle.if1_read.specs.Counted.{node_size}
use Rattle.if1_read.proofs.Numbering.{sum_cons, size_of, size_of_node}

-- ---- what is the same by each key is as much in all

module _ {X : Type 0} (key : X → ℕ) where
  abbrev of_key : ℕ → List X → List X
  of_key l xs = filter (λ x. key x == l) xs

  -- a list without its first element of a key
  record Taken (f : X → ℕ) (l : ℕ) (x : X) (rest ys : List X) : Type 0 where
    left : List X
    total : sum (map f ys) ≡ f x + sum (map f left)
    here : of_key l left ≡ rest
    there : (m : ℕ) → (m ≡ l → ⊥) → of_key m left ≡ of_key m ys

  skips : (m : ℕ) (y : X) (ys : List X) → (key y ≡ m → ⊥) → of_key m (y ∷ ys) ≡ of_key m ys
  skips m y ys ne = ap (λ (b : Bool). cond b (y ∷ of_key m ys) (of_key m ys)) (ne_eqb (key y) m ne)

  keeps : (m : ℕ) (y : X) (ys : List X) → key y ≡ m → of_key m (y ∷ ys) ≡ y ∷ of_key m ys
  keeps m y ys e = ap (λ (b : Bool). cond b (y ∷ of_key m ys) (of_key m ys)) (eq-eqb (key y) m e)

  same_more : (m : ℕ) (y : X) (xs ys : List X) → of_key m xs ≡ of_key m ys → of_key m (y ∷ xs) ≡ of_key m (y ∷ ys)
  same_more m y xs ys e = ap (λ (zs : List X). cond (key y == m) (y ∷ zs) zs) e

  taken : (f : X → ℕ) (l : ℕ) (x : X) (rest ys : List X) → of_key l ys ≡ x ∷ rest → Taken f l x rest ys
  taken f l x rest [] h = absurd (omega (arith, ap length h))
  taken f l x rest (y ∷ ys) h = elim (cases_eq (key y) l) [
    | inl is ↦
        let e : y ∷ of_key l ys ≡ x ∷ rest = sym (keeps l y ys is) ∙ h in
        record {
          left = ys;
          total = sum_cons f y ys ∙ ap (λ n. n + sum (map f ys)) (ap f (ap (λ (zs : List X). get_or zs 0 x) e));
          here = ap (drop 1) e;
          there = λ m ne. sym (skips m y ys (λ k. ne (sym k ∙ is)));
        }
    | inr ne ↦
        let t = taken f l x rest ys (sym (skips l y ys ne) ∙ h) in
        record {
          left = y ∷ t.left;
          total = omega (arith, sum_cons f y ys, sum_cons f y t.left, t.total);
          here = skips l y t.left ne ∙ t.here;
          there = λ m other. same_more m y t.left ys (t.there m other);
        }
  ]

  pub same_sum : (f : X → ℕ) (xs ys : List X) → ((l : ℕ) → of_key l xs ≡ of_key l ys) → sum (map f xs) ≡ sum (map f ys)
  same_sum f [] [] h = refl
  same_sum f [] (y ∷ ys) h = absurd (omega (arith, ap length (h (key y) ∙ keeps (key y) y ys refl)))
  same_sum f (x ∷ xs) ys h =
      let t = taken f (key x) x (of_key (key x) xs) ys (sym (h (key x)) ∙ keeps (key x) x xs refl) in
      let rest : (m : ℕ) → of_key m xs ≡ of_key m t.left = λ m. elim (cases_eq m (key x)) [
        | inl is ↦ subst (λ (k : ℕ). of_key k xs ≡ of_key k t.left) (sym is) (sym t.here)
        | inr ne ↦ sym (skips m x xs (λ e. ne (sym e))) ∙ h m ∙ sym (t.there m ne)
      ] in
      omega (arith, sum_cons f x xs, t.total, same_sum f xs t.left rest)

-- ---- a line for each graph

module _ (u : Unit1) where
  mutual
    body_few : (ls : List Line) (ns : List Node) (es : List Edge) → GivesBody u ls ns es → sum (map node_size ns) ≤ length ls
    body_few ls ns es no_line = omega arith
    body_few ls ns es (simple {ls = ls0} {ns = ns0} {es = es0} n label op before name is g) =
        omega (arith, sum_cons node_size n ns0, size_of_node n, ap sizes is.no_graphs, body_few ls0 ns0 es0 g)
    body_few ls ns es (compound {ps = ps} {ls = ls0} {ns = ns0} {es = es0} n rest label op gs assoc before name is p g) =
        let long = length-append ps (line.Close label op (length gs) assoc before name ∷ ls0) in
        omega (arith, long, sum_cons node_size n ns0, size_of_node n, ap sizes is.graphs_are, parts_few ps gs p, body_few ls0 ns0 es0 g)
    body_few ls ns es (edge {ls = ls0} {ns = ns0} {es = es0} from out node port ty takes name g) = omega (arith, body_few ls0 ns0 es0 g)
    body_few ls ns es (literal {ls = ls0} {ns = ns0} {es = es0} node port ty text name g) = omega (arith, body_few ls0 ns0 es0 g)

    parts_few : (ls : List Line) (gs : List Graph) → GivesParts u ls gs → sizes gs ≤ length ls
    parts_few ls gs no_part = omega arith
    parts_few ls gs (part {ls = bs} {ps = ps} {ns = ns} {es = es} {gs = gs0} g b same p) =
        let all = same_sum label_of node_size (out-Graph g).nodes ns same.nodes in
        omega (arith, sum_cons size g gs0, size_of g, all, length-append bs ps, body_few bs ns es b, parts_few ps gs0 p)

  pub unit_few : (ls : List Line) (is : List (ℕ × List ℕ)) (gs : List Graph) → GivesUnit u ls is gs → sizes gs ≤ length ls
  unit_few ls is gs no_graph = omega arith
  unit_few ls is gs (import {ls = ls0} {is = is0} {gs = gs0} ty name g) = omega (arith, unit_few ls0 is0 gs0 g)
  unit_few ls is gs (function {bs = bs} {ls = ls0} {ns = ns} {es = es} {is = is0} {gs = gs0} g b same more) =
      let all = same_sum label_of node_size (out-Graph g).nodes ns same.nodes in
      omega (arith, sum_cons size g gs0, size_of g, all, length-append bs ls0, body_few bs ns es b, unit_few ls0 is0 gs0 more)
