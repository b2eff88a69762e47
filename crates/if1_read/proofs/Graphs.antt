-- Each graph of lines without a fault is right.
use Rattle.std.proofs.Common.{ℕ, suc, ◌+◌, ◌≤◌, List, [], ◌∷◌, ◌++◌, Some, None, inl, refl, arith}
use Rattle.if1_graph.specs.declared.line.Line.TheVariants as line
use Rattle.if1_graph.specs.declared.graph.TypeEntry.{TypeEntry}
use Rattle.if1_read.specs.Faults.{Layer}
use Rattle.if1_read.specs.Pages.{Lit}
use Rattle.if1_read.proofs.Walking.{Lined}
use Rattle.if1_read.proofs.Faultless.{IsBody, AreParts, AreFunctions, no_line, simple, compound, edge, literal, no_part, part, no_function, import, function}
use Rattle.if1_read.proofs.Standing.{body_stands, parts_stand}
use Rattle.if1_read.proofs.Owning.{BodyTells, PartsTell, Inside, tells_none, tells_mine, tells_other, tells_both, no_home, apart, same_or_not, inside_step, inside_both, no_inner, begun_if, lower, begins}

module _ (ts : List TypeEntry) (names : List (List ℕ)) where
  pub record FunctionsTell (o : Layer) (lo : ℕ) (ls : List Lined) (hi : ℕ) : Type 0 where
    pub rises : lo ≤ hi
    pub each : (h : ℕ) → Inside ts names lo h hi (o ∷ []) ls

  mutual
    pub body_tells : (lo : ℕ) (ls : List Lined) (hi : ℕ) (ns : List (ℕ × ℕ)) (es : List Lit) → IsBody ts names lo ls hi ns es → (g c : ℕ) (os : List Layer) → g ≤ lo →
        BodyTells ts names g c os lo ls hi ns es
    body_tells lo ls hi ns es (no_line n) g c os le = record { rises = omega arith; mine = tells_none g ((Some g, c) ∷ os); others = λ h ne. inl (tells_none h ((Some g, c) ∷ os)) }
    body_tells lo ls hi ns es (simple {hi = h2} {ls = ls2} {ns = ns2} {es = es2} l k label op before name lt known b) g c os le =
        let r = body_tells k ls2 h2 ns2 es2 b g c os (omega (arith, lt, le)) in
        let here : List Layer = (Some g, c) ∷ os in
        let x = line.Node label op before name in
        record {
          rises = omega (arith, lt, r.rises);
          mine = tells_mine g k x here ls2 ns2 es2 refl r.mine;
          others = λ h ne. inside_step ts names l h h2 k x here ls2 (apart g h ne) (omega (arith, lt)) (r.others h ne);
        }
    body_tells lo ls hi ns es (edge {hi = h2} {ls = ls2} {ns = ns2} {es = es2} l k from out node port ty takes name lt known b) g c os le =
        let r = body_tells k ls2 h2 ns2 es2 b g c os (omega (arith, lt, le)) in
        let here : List Layer = (Some g, c) ∷ os in
        let x = line.Edge from out node port ty takes name in
        record {
          rises = omega (arith, lt, r.rises);
          mine = tells_mine g k x here ls2 ns2 es2 refl r.mine;
          others = λ h ne. inside_step ts names l h h2 k x here ls2 (apart g h ne) (omega (arith, lt)) (r.others h ne);
        }
    body_tells lo ls hi ns es (literal {hi = h2} {ls = ls2} {ns = ns2} {es = es2} l k node port ty text name lt known b) g c os le =
        let r = body_tells k ls2 h2 ns2 es2 b g c os (omega (arith, lt, le)) in
        let here : List Layer = (Some g, c) ∷ os in
        let x = line.Literal node port ty text name in
        record {
          rises = omega (arith, lt, r.rises);
          mine = tells_mine g k x here ls2 ns2 es2 refl r.mine;
          others = λ h ne. inside_step ts names l h h2 k x here ls2 (apart g h ne) (omega (arith, lt)) (r.others h ne);
        }
    body_tells lo ls hi ns es (compound {mid = mid} {count = count} {hi = h2} {ps = ps} {ls = ls2} {ns = ns2} {es = es2} l k j rest label op assoc before name lt known p lt2 b) g c os le =
        let here : List Layer = (Some g, c) ∷ os in
        let close = line.Close label op count assoc before name in
        let stand = parts_stand ts names k ps mid count p (None, 0) (Some g, c) os in
        let inner = parts_tell k ps mid count p (None, 0) (Some g, c) os in
        let at : List Layer = (None, 0) ∷ here in
        let then : List Layer = (stand.last, 0 + count) ∷ here in
        let r = body_tells j ls2 h2 ns2 es2 b g c os (omega (arith, lt, le, lt2, inner.rises)) in
        record {
          rises = omega (arith, lt, lt2, inner.rises, r.rises);
          mine =
              tells_other g k (line.Open rest) here (ps ++ (j, close) ∷ ls2) ((label, op) ∷ ns2) es2 (no_home g)
              (tells_both g at then ps ((j, close) ∷ ls2) [] ((label, op) ∷ ns2) [] es2 stand.ends
              (no_inner ts names k g mid at ps (omega (arith, lt, le)) (inner.each g))
              (tells_mine g j close then ls2 ns2 es2 refl r.mine));
          others = λ h ne.
              inside_step ts names l h h2 k (line.Open rest) here (ps ++ (j, close) ∷ ls2) (no_home h) (omega (arith, lt))
              (inside_both ts names k h mid h2 at then ps ((j, close) ∷ ls2) inner.rises (omega (arith, lt2, r.rises)) stand.ends (inner.each h)
              (inside_step ts names mid h h2 j close then ls2 (apart g h ne) (omega (arith, lt2)) (r.others h ne)));
        }

    pub parts_tell : (lo : ℕ) (ls : List Lined) (hi count : ℕ) → AreParts ts names lo ls hi count → (o around : Layer) (os : List Layer) → PartsTell ts names o around os lo ls hi
    parts_tell lo ls hi count (no_part n) o around os = record { rises = omega arith; each = λ h. inl (tells_none h (o ∷ around ∷ os)) }
    parts_tell lo ls hi count (part {mid = mid} {hi = h2} {count = count2} {ls = bs} {ps = ps} {ns = ns} {es = es} l k name lt b right p) o around os =
        let here : List Layer = (Some k, suc o.1) ∷ around ∷ os in
        let stand = body_stands ts names k bs mid ns es b k (suc o.1) (around ∷ os) in
        let b1 = body_tells k bs mid ns es b k (suc o.1) (around ∷ os) (omega arith) in
        let r = parts_tell mid ps h2 count2 p (Some k, suc o.1) around os in
        record {
          rises = omega (arith, lt, b1.rises, r.rises);
          each = λ h.
              begins ts names l h h2 k (line.Subgraph name) (o ∷ around ∷ os) (bs ++ ps) (no_home h)
              (inside_both ts names l h mid h2 here here bs ps (omega (arith, lt, b1.rises)) r.rises stand.ends
              (lower ts names l k h mid here bs lt (begun_if ts names h k (around ∷ os) l bs mid ns es (suc o.1) lt b1 right (same_or_not h k)))
              (r.each h));
        }

  pub functions_tell : (lo : ℕ) (ls : List Lined) (hi : ℕ) (fs : List (List ℕ)) → AreFunctions ts names lo ls hi fs → (o : Layer) → FunctionsTell o lo ls hi
  functions_tell lo ls hi fs (no_function n) o = record { rises = omega arith; each = λ h. inl (tells_none h (o ∷ [])) }
  functions_tell lo ls hi fs (import {hi = h2} {ls = ls2} {fs = fs2} l k ty name lt known r) o =
      let t = functions_tell k ls2 h2 fs2 r (None, o.1) in
      record {
        rises = omega (arith, lt, t.rises);
        each = λ h. inside_step ts names l h h2 k (line.Import ty name) (o ∷ []) ls2 (no_home h) (omega (arith, lt)) (t.each h);
      }
  functions_tell lo ls hi fs (function {mid = mid} {hi = h2} {bs = bs} {ls = ls2} {ns = ns} {es = es} {fs = fs2} l k exported fun name lt known b right r) o =
      let here : List Layer = (Some k, suc o.1) ∷ [] in
      let stand = body_stands ts names k bs mid ns es b k (suc o.1) [] in
      let b1 = body_tells k bs mid ns es b k (suc o.1) [] (omega arith) in
      let t = functions_tell mid ls2 h2 fs2 r (Some k, suc o.1) in
      record {
        rises = omega (arith, lt, b1.rises, t.rises);
        each = λ h.
            begins ts names l h h2 k (line.Function exported fun name) (o ∷ []) (bs ++ ls2) (no_home h)
            (inside_both ts names l h mid h2 here here bs ls2 (omega (arith, lt, b1.rises)) t.rises stand.ends
            (lower ts names l k h mid here bs lt (begun_if ts names h k [] l bs mid ns es (suc o.1) lt b1 right (same_or_not h k)))
            (t.each h));
      }
