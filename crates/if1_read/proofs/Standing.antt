-- Lines without a fault stand where they may.
use Rattle.std.proofs.Common.{◌≡◌, ℕ, suc, ◌+◌, true, List, [], ◌∷◌, ◌++◌, Option, Some, None, refl, sym, ap, subst, ◌∙◌, arith}
use Rattle.if1_graph.specs.declared.line.Line.{Line}
use Rattle.if1_graph.specs.declared.line.Line.TheVariants as line
use Rattle.if1_graph.specs.declared.graph.TypeEntry.{TypeEntry}
use Rattle.if1_graph.specs.Formed.{IsType, IsOpcode}
use Rattle.if1_read.specs.Faults.{Layer, layers_from, is_placed, graphs_in, node_on, type_on}
use Rattle.if1_read.specs.Pages.{Lit}
use Rattle.if1_read.proofs.Walking.{Lined, layers_append, EachAt, each_append}
use Rattle.if1_read.proofs.Faultless.{Bears, IsBody, AreParts, AreFunctions, no_line, simple, compound, edge, literal, no_part, part, no_function, import, function}

-- the number of a node's graphs
abbrev pub IsCounted : Line → List Layer → Type 0
IsCounted (line.Close label op count assoc before name) os = count ≡ graphs_in os
IsCounted _ os = Unit {0}

-- the opcode or the type of a line
abbrev pub IsKnown : List TypeEntry → Line → Type 0
IsKnown ts (line.Node label op before name) = IsOpcode op
IsKnown ts (line.Close label op count assoc before name) = IsOpcode op
IsKnown ts (line.Edge from out node port ty takes name) = Bears ts ty
IsKnown ts (line.Literal node port ty text name) = Bears ts ty
IsKnown ts (line.Function exported fun name) = Bears ts fun
IsKnown ts (line.Import ty name) = IsType ts ty
IsKnown ts _ = Unit {0}

pub record Stands (ts : List TypeEntry) (l : Line) (os : List Layer) : Type 0 where
  pub placed : is_placed l os ≡ true
  pub counted : IsCounted l os
  pub known : IsKnown ts l

pub known_opcode : (ts : List TypeEntry) (l : Line) (n : ℕ × ℕ) → IsKnown ts l → node_on l ≡ Some n → IsOpcode n.1
known_opcode ts (line.Node label op before name) n h e = let same : (label, op) ≡ n = cc in subst (λ (m : ℕ × ℕ). IsOpcode m.1) same h
known_opcode ts (line.Close label op count assoc before name) n h e = let same : (label, op) ≡ n = cc in subst (λ (m : ℕ × ℕ). IsOpcode m.1) same h
known_opcode ts _ n h e = absurd cc

pub known_type : (ts : List TypeEntry) (l : Line) (ty : ℕ) → IsKnown ts l → type_on l ≡ Some ty → Bears ts ty
known_type ts (line.Edge from out node port t takes name) ty h e = let same : t ≡ ty = cc in subst (Bears ts) same h
known_type ts (line.Literal node port t text name) ty h e = let same : t ≡ ty = cc in subst (Bears ts) same h
known_type ts (line.Function exported t name) ty h e = let same : t ≡ ty = cc in subst (Bears ts) same h
known_type ts _ ty h e = absurd cc

module _ (ts : List TypeEntry) (names : List (List ℕ)) where
  pub record BodyStands (g c : ℕ) (os : List Layer) (ls : List Lined) : Type 0 where
    pub each : EachAt (Stands ts) ((Some g, c) ∷ os) ls
    pub ends : layers_from ((Some g, c) ∷ os) ls ≡ (Some g, c) ∷ os

  pub record PartsStand (count : ℕ) (o around : Layer) (os : List Layer) (ls : List Lined) : Type 0 where
    pub each : EachAt (Stands ts) (o ∷ around ∷ os) ls
    pub last : Option ℕ
    pub ends : layers_from (o ∷ around ∷ os) ls ≡ (last, o.1 + count) ∷ around ∷ os

  pub record FunctionsStand (o : Layer) (ls : List Lined) : Type 0 where
    pub each : EachAt (Stands ts) (o ∷ []) ls
    pub last : Layer
    pub ends : layers_from (o ∷ []) ls ≡ last ∷ []

  -- lines behind others that lead to these layers
  both : (os ps : List Layer) (xs ys : List Lined) → EachAt (Stands ts) os xs → layers_from os xs ≡ ps → EachAt (Stands ts) ps ys → EachAt (Stands ts) os (xs ++ ys)
  both os ps xs ys h e k = each_append (Stands ts) os xs ys h (subst (λ (qs : List Layer). EachAt (Stands ts) qs ys) (sym e) k)

  ends_both : (os ps qs : List Layer) (xs ys : List Lined) → layers_from os xs ≡ ps → layers_from ps ys ≡ qs → layers_from os (xs ++ ys) ≡ qs
  ends_both os ps qs xs ys e f = layers_append os xs ys ∙ (ap (λ rs. layers_from rs ys) e ∙ f)

  mutual
    pub body_stands : (lo : ℕ) (ls : List Lined) (hi : ℕ) (ns : List (ℕ × ℕ)) (es : List Lit) → IsBody ts names lo ls hi ns es → (g c : ℕ) (os : List Layer) → BodyStands g c os ls
    body_stands lo ls hi ns es (no_line n) g c os = record { each = tt; ends = refl }
    body_stands lo ls hi ns es (simple {hi = h2} {ls = ls2} {ns = ns2} {es = es2} l k label op before name lt known b) g c os =
        let r = body_stands k ls2 h2 ns2 es2 b g c os in
        record { each = (record { placed = refl; counted = tt; known = known }, r.each); ends = r.ends }
    body_stands lo ls hi ns es (edge {hi = h2} {ls = ls2} {ns = ns2} {es = es2} l k from out node port ty takes name lt known b) g c os =
        let r = body_stands k ls2 h2 ns2 es2 b g c os in
        record { each = (record { placed = refl; counted = tt; known = known }, r.each); ends = r.ends }
    body_stands lo ls hi ns es (literal {hi = h2} {ls = ls2} {ns = ns2} {es = es2} l k node port ty text name lt known b) g c os =
        let r = body_stands k ls2 h2 ns2 es2 b g c os in
        record { each = (record { placed = refl; counted = tt; known = known }, r.each); ends = r.ends }
    body_stands lo ls hi ns es (compound {mid = mid} {count = count} {hi = h2} {ps = ps} {ls = ls2} {ns = ns2} {es = es2} l k j rest label op assoc before name lt known p lt2 b) g c os =
        let here : List Layer = (Some g, c) ∷ os in
        let inner = parts_stand k ps mid count p (None, 0) (Some g, c) os in
        let r = body_stands j ls2 h2 ns2 es2 b g c os in
        let close = line.Close label op count assoc before name in
        let closing : Stands ts close ((inner.last, 0 + count) ∷ here) = record { placed = refl; counted = omega arith; known = known } in
        record {
          each = (
            record { placed = refl; counted = tt; known = tt },
            both ((None, 0) ∷ here) ((inner.last, 0 + count) ∷ here) ps ((j, close) ∷ ls2) inner.each inner.ends (closing, r.each),
          );
          ends = ends_both ((None, 0) ∷ here) ((inner.last, 0 + count) ∷ here) here ps ((j, close) ∷ ls2) inner.ends r.ends;
        }

    pub parts_stand : (lo : ℕ) (ls : List Lined) (hi count : ℕ) → AreParts ts names lo ls hi count → (o around : Layer) (os : List Layer) → PartsStand count o around os ls
    parts_stand lo ls hi count (no_part n) o around os = record { each = tt; last = o.0; ends = ap (λ (m : ℕ). (o.0, m) ∷ around ∷ os) (omega arith) }
    parts_stand lo ls hi count (part {mid = mid} {hi = h2} {count = count2} {ls = bs} {ps = ps} {ns = ns} {es = es} l k name lt b right p) o around os =
        let b1 = body_stands k bs mid ns es b k (suc o.1) (around ∷ os) in
        let r = parts_stand mid ps h2 count2 p (Some k, suc o.1) around os in
        let here : List Layer = (Some k, suc o.1) ∷ around ∷ os in
        let same : suc o.1 + count2 ≡ o.1 + suc count2 = omega arith in
        record {
          each = (record { placed = refl; counted = tt; known = tt }, both here here bs ps b1.each b1.ends r.each);
          last = r.last;
          ends =
              ends_both here here ((r.last, suc o.1 + count2) ∷ around ∷ os) bs ps b1.ends r.ends
              ∙ ap (λ (m : ℕ). (r.last, m) ∷ around ∷ os) same;
        }

  pub functions_stand : (lo : ℕ) (ls : List Lined) (hi : ℕ) (fs : List (List ℕ)) → AreFunctions ts names lo ls hi fs → (o : Layer) → FunctionsStand o ls
  functions_stand lo ls hi fs (no_function n) o = record { each = tt; last = o; ends = refl }
  functions_stand lo ls hi fs (import {hi = h2} {ls = ls2} {fs = fs2} l k ty name lt known r) o =
      let t = functions_stand k ls2 h2 fs2 r (None, o.1) in
      record { each = (record { placed = refl; counted = tt; known = known }, t.each); last = t.last; ends = t.ends }
  functions_stand lo ls hi fs (function {mid = mid} {hi = h2} {bs = bs} {ls = ls2} {ns = ns} {es = es} {fs = fs2} l k exported fun name lt known b right r) o =
      let b1 = body_stands k bs mid ns es b k (suc o.1) [] in
      let t = functions_stand mid ls2 h2 fs2 r (Some k, suc o.1) in
      let here : List Layer = (Some k, suc o.1) ∷ [] in
      record {
        each = (record { placed = refl; counted = tt; known = known }, both here here bs ls2 b1.each b1.ends t.each);
        last = t.last;
        ends = ends_both here here (t.last ∷ []) bs ls2 b1.ends t.ends;
      }
