-- A graph inside a node is closed: what it uses of the graphs around are inputs of the node, and so inputs of its own.
use Rattle.std.proofs.Common.{◌≡◌, ℕ, zero, suc, ◌+◌, Bool, true, false, List, [], ◌∷◌, ◌++◌, map, length, slice_get, Option, Some, refl, sym, ap, subst, ◌∙◌, arith}
use Rattle.std.specs.Prelude.{if◌then◌else◌}
use Rattle.std.proofs.lemmas.List.{append_assoc}
use Rattle.std.proofs.lemmas.Option.{same_Some}
use Rattle.if1_graph.specs.declared.op.Compound.{Compound}
use Rattle.if1_graph.specs.declared.op.Compound.TheVariants as compound
use Rattle.if1_graph.specs.declared.op.Part.{Part}
use Rattle.if1_graph.specs.Tables.{at_port}
use Rattle.if1_graph.specs.Types.{Sort}
use Rattle.type_table.specs.declared.form.Form.{Form}
use Rattle.lowering.specs.declared.feed.Feed.{Feed}
use Rattle.lowering.specs.declared.feed.Feed.TheVariants.{Literal, Named, Absent, Port}
use Rattle.lowering.specs.declared.feed.Carried.{Carried}
use Rattle.lowering.specs.declared.feed.Wire.{Wire}
use Rattle.lowering.specs.Feeds.{wire, is_port, outside, outsides, has, with_new, distinct, place}
use Rattle.lowering.specs.declared.graph.Action.{Action}
use Rattle.lowering.specs.declared.graph.Action.TheVariants.{Row, Call, Whole}
use Rattle.lowering.specs.declared.graph.LoweredNode.{LoweredNode}
use Rattle.lowering.specs.declared.graph.LoweredGraph.{LoweredGraph}
use Rattle.lowering.specs.declared.graph.Lowered.{Lowered}
use Rattle.lowering.specs.Graphs.{used_by, used, uses, resolved, closed_wires, closed_nodes, closed, all_uses, inputs, size, numbers, closed_graphs}
use Rattle.lowering_meaning.proofs.Wires.{is-port-same, is-port-self}
use Rattle.lowered_ready.specs.Ports.{Outs, type_at}
use Rattle.lowered_ready.specs.Parts.{IsShown}
use Rattle.lowered_ready.specs.Rules.{IsFrom, AreFrom, AreNodes, IsGraph}
use Rattle.lowered_ready.proofs.Scopes.{Level, level, output_type, reach, IsValue, IsIn, AreIn}
use Rattle.lowered_ready.proofs.Made.{slice-left, Sits, sits-right, AreOpen, HaveParts, Right}

-- ---- inputs, each once

has-left : (ks xs : List Wire) (f : Feed) → has ks f ≡ true → has (ks ++ xs) f ≡ true
has-left [] xs f e = absurd cc
has-left (k ∷ ks) xs f e = by (is_port k.feed f) (has-left ks xs f) e
  where
    by : (b : Bool) → (has ks f ≡ true → has (ks ++ xs) f ≡ true) → (if b then true else has ks f) ≡ true → (if b then true else has (ks ++ xs) f) ≡ true
    by true h e = refl
    by false h e = h e

has-last : (ks : List Wire) (w : Wire) → is_port w.feed w.feed ≡ true → has (ks ++ w ∷ []) w.feed ≡ true
has-last [] w e = ap (λ b. if b then true else false) e
has-last (k ∷ ks) w e = by (is_port k.feed w.feed) (has-last ks w e)
  where
    by : (b : Bool) → has (ks ++ w ∷ []) w.feed ≡ true → (if b then true else has (ks ++ w ∷ []) w.feed) ≡ true
    by true h = refl
    by false h = h

has-new : (ks : List Wire) (w : Wire) → is_port w.feed w.feed ≡ true → has (with_new ks w) w.feed ≡ true
has-new ks w e = by (has ks w.feed) refl
  where
    by : (b : Bool) → has ks w.feed ≡ b → has (if b then ks else ks ++ w ∷ []) w.feed ≡ true
    by true h = h
    by false h = has-last ks w e

has-old : (ks : List Wire) (w : Wire) (f : Feed) → has ks f ≡ true → has (with_new ks w) f ≡ true
has-old ks w f h = by (has ks w.feed)
  where
    by : (b : Bool) → has (if b then ks else ks ++ w ∷ []) f ≡ true
    by true = h
    by false = has-left ks (w ∷ []) f h

distinct-keeps : (ks ws : List Wire) (f : Feed) → has ks f ≡ true → has (distinct ks ws) f ≡ true
distinct-keeps ks [] f h = h
distinct-keeps ks (w ∷ ws) f h = distinct-keeps (with_new ks w) ws f (has-old ks w f h)

-- the first input with a feed
key-of : (ks : List Wire) (f : Feed) → has ks f ≡ true → (x : Wire) × (x.feed ≡ f) × (slice_get ks (place ks f) ≡ Some x)
key-of [] f h = absurd cc
key-of (k ∷ ks) f h = by (is_port k.feed f) refl (key-of ks f)
  where
    Goal : ℕ → Type 0
    Goal i = (x : Wire) × (x.feed ≡ f) × (slice_get (k ∷ ks) i ≡ Some x)

    by : (b : Bool) → is_port k.feed f ≡ b → (has ks f ≡ true → (x : Wire) × (x.feed ≡ f) × (slice_get ks (place ks f) ≡ Some x)) → Goal (place (k ∷ ks) f)
    by true e rest = subst (λ b. Goal (if b then 0 else suc (place ks f))) (sym e) (k, is-port-same k.feed f e, refl)
    by false e rest =
        let x = rest (ap (λ b. if b then true else has ks f) (sym e) ∙ h) in
        subst (λ b. Goal (if b then 0 else suc (place ks f))) (sym e) (x.0, x.1, x.2)

-- ---- what is used inside is an input

abbrev pub IsCovered : List Wire → Feed → Type 0
IsCovered ks (Port (suc up) n p) = has ks (Port up n p) ≡ true
IsCovered ks f = Unit {0}

abbrev pub AreCovered : List Wire → List Wire → Type 0
AreCovered ks [] = Unit {0}
AreCovered ks (w ∷ ws) = IsCovered ks w.feed × AreCovered ks ws

cover : (ks ws : List Wire) → AreCovered (distinct ks (outsides ws)) ws
cover ks [] = tt
cover ks (w ∷ ws) = by w.feed w.ty (λ js. cover js ws)
  where
    by : (f : Feed) (t : Carried) → ((js : List Wire) → AreCovered (distinct js (outsides ws)) ws) → IsCovered (distinct ks (outside t f ++ outsides ws)) f × AreCovered (distinct ks (outside t f ++ outsides ws)) ws
    by (Literal x) t r = (tt, r ks)
    by (Named x) t r = (tt, r ks)
    by Absent t r = (tt, r ks)
    by (Port zero n p) t r = (tt, r ks)
    by (Port (suc up) n p) t r =
        let k = wire (Port up n p) t in
        (distinct-keeps (with_new ks k) (outsides ws) (Port up n p) (has-new ks k (is-port-self up n p)), r (with_new ks k))

pub covered-left : (ks vs ws : List Wire) → AreCovered ks (vs ++ ws) → AreCovered ks vs
covered-left ks [] ws a = tt
covered-left ks (v ∷ vs) ws a = (a.0, covered-left ks vs ws a.1)

pub covered-right : (ks vs ws : List Wire) → AreCovered ks (vs ++ ws) → AreCovered ks ws
covered-right ks [] ws a = a
covered-right ks (v ∷ vs) ws a = covered-right ks vs ws a.1

abbrev pub AllCovered : List Wire → List Lowered → Type 0
AllCovered ks [] = Unit {0}
AllCovered ks (m ∷ ms) = AreCovered ks (uses m) × AllCovered ks ms

pub inputs-cover : (ms : List Lowered) → AllCovered (inputs ms) ms
inputs-cover ms = by (inputs ms) ms (cover [] (all_uses ms))
  where
    by : (ks : List Wire) (ms : List Lowered) → AreCovered ks (all_uses ms) → AllCovered ks ms
    by ks [] a = tt
    by ks (m ∷ ms) a = (covered-left ks (uses m) (all_uses ms) a, by ks ms (covered-right ks (uses m) (all_uses ms) a))

covered-ins : (ks : List Wire) (a : Action) (ws : List Wire) → AreCovered ks (used_by a ws) → AreCovered ks ws
covered-ins ks (Row op) ws h = h
covered-ins ks (Call f) ws h = h
covered-ins ks (Whole compound.ForAll gs arms given outs) ws h = h
covered-ins ks (Whole compound.Select gs arms given outs) ws h = h
covered-ins ks (Whole compound.LoopA gs arms given outs) ws h = h
covered-ins ks (Whole compound.LoopB gs arms given outs) ws h = h
covered-ins ks (Whole compound.TagCase gs arms given outs) [] h = tt
covered-ins ks (Whole compound.TagCase gs arms given outs) (u ∷ xs) h = ((covered-right ks xs (u ∷ []) h).0, covered-left ks xs (u ∷ []) h)

-- ---- graphs that are closed

abbrev pub closed_list : List Wire → ℕ → ℕ → List Lowered → List LoweredGraph
closed_list ks first own ms = map (closed ks first own) ms

shown-closed : (ks : List Wire) (first own : ℕ) (f : Feed) → IsShown f → IsShown (resolved ks first own f)
shown-closed ks first own (Literal x) h = tt
shown-closed ks first own (Named x) h = absurd h
shown-closed ks first own Absent h = absurd h
shown-closed ks first own (Port zero zero p) h = tt
shown-closed ks first own (Port zero (suc n) p) h = tt
shown-closed ks first own (Port (suc up) n p) h = tt

pub closed-shown : (ks : List Wire) (first own : ℕ) (f : Feed) → IsShown f → IsShown (resolved ks first own f)
closed-shown ks first own f h = shown-closed ks first own f h

module _ (forms : List Form) (names : List (List ℕ)) (sort : Carried → Sort) (at : ℕ → Option LoweredGraph) where
  -- ---- ports of graphs around

  -- a port of a graph around that carries a value
  abbrev pub IsOuter : List Level → Wire → Type 0
  IsOuter ls w = IsIn forms names ls w.feed w.ty × IsValue forms names w.ty × IsShown w.feed

  abbrev pub AreOuter : List Level → List Wire → Type 0
  AreOuter ls [] = Unit {0}
  AreOuter ls (w ∷ ws) = IsOuter ls w × AreOuter ls ws

  outer-both : (ls : List Level) (vs ws : List Wire) → AreOuter ls vs → AreOuter ls ws → AreOuter ls (vs ++ ws)
  outer-both ls [] ws a b = b
  outer-both ls (v ∷ vs) ws a b = (a.0, outer-both ls vs ws a.1 b)

  outsides-outer : (l : Level) (ls : List Level) (ws : List Wire) → AreIn forms names (l ∷ ls) ws → AreOuter ls (outsides ws)
  outsides-outer l ls [] a = tt
  outsides-outer l ls (w ∷ ws) a = outer-both ls (outside w.ty w.feed) (outsides ws) (by w.feed w.ty a.0) (outsides-outer l ls ws a.1)
    where
      by : (f : Feed) (c : Carried) → IsIn forms names (l ∷ ls) f c → AreOuter ls (outside c f)
      by (Literal x) c h = tt
      by (Named x) c h = tt
      by Absent c h = tt
      by (Port zero n p) c h = tt
      by (Port (suc zero) n p) c h = ((h.0, h.1, tt), tt)
      by (Port (suc (suc up)) n p) c h = (((h.0, h.1), h.1, tt), tt)

  distinct-outer : (ls : List Level) (ks ws : List Wire) → AreOuter ls ks → AreOuter ls ws → AreOuter ls (distinct ks ws)
  distinct-outer ls ks [] a b = a
  distinct-outer ls ks (w ∷ ws) a b = distinct-outer ls (with_new ks w) ws (by (has ks w.feed)) b.1
    where
      by : (b : Bool) → AreOuter ls (if b then ks else ks ++ w ∷ [])
      by true = a
      by false = outer-both ls ks (w ∷ []) a (b.0, tt)

  outsides-both : (vs ws : List Wire) → outsides (vs ++ ws) ≡ outsides vs ++ outsides ws
  outsides-both [] ws = refl
  outsides-both (v ∷ vs) ws = ap (λ l. outside v.ty v.feed ++ l) (outsides-both vs ws) ∙ sym (append_assoc (outside v.ty v.feed) (outsides vs) (outsides ws))

  -- graphs inside a node use ports of these graphs
  abbrev pub AllOuter : List Level → List Lowered → Type 0
  AllOuter ls [] = Unit {0}
  AllOuter ls (m ∷ ms) = AreOuter ls (outsides (uses m)) × AllOuter ls ms

  pub inputs-outer : (ls : List Level) (ms : List Lowered) → AllOuter ls ms → AreOuter ls (inputs ms)
  inputs-outer ls ms a = distinct-outer ls [] (outsides (all_uses ms)) tt (all ms a)
    where
      all : (ms : List Lowered) → AllOuter ls ms → AreOuter ls (outsides (all_uses ms))
      all [] a = tt
      all (m ∷ ms) a = subst (AreOuter ls) (sym (outsides-both (uses m) (all_uses ms))) (outer-both ls (outsides (uses m)) (outsides (all_uses ms)) a.0 (all ms a.1))

  used-in : (ls : List Level) (a : Action) (ws : List Wire) → AreIn forms names ls ws → AreIn forms names ls (used_by a ws)
  used-in ls (Row op) ws h = h
  used-in ls (Call f) ws h = h
  used-in ls (Whole compound.ForAll gs arms given outs) ws h = h
  used-in ls (Whole compound.Select gs arms given outs) ws h = h
  used-in ls (Whole compound.LoopA gs arms given outs) ws h = h
  used-in ls (Whole compound.LoopB gs arms given outs) ws h = h
  used-in ls (Whole compound.TagCase gs arms given outs) [] h = tt
  used-in ls (Whole compound.TagCase gs arms given outs) (u ∷ ks) h = both ks (u ∷ []) h.1 (h.0, tt)
    where
      both : (vs ws : List Wire) → AreIn forms names ls vs → AreIn forms names ls ws → AreIn forms names ls (vs ++ ws)
      both [] ws a b = b
      both (v ∷ vs) ws a b = (a.0, both vs ws a.1 b)

  nodes-outer : (p : Option (Compound × Part)) (l : Level) (ls : List Level) (vs : List LoweredNode) (os : List Outs) → AreOpen forms names sort at p (l ∷ ls) vs os → AreOuter ls (outsides (used vs))
  nodes-outer p l ls [] [] a = tt
  nodes-outer p l ls [] (o ∷ os) a = absurd a
  nodes-outer p l ls (v ∷ vs) [] a = absurd a
  nodes-outer p l ls (v ∷ vs) (o ∷ os) a =
      subst (AreOuter ls) (sym (outsides-both (used_by v.action v.ins) (used vs)))
      (outer-both ls (outsides (used_by v.action v.ins)) (outsides (used vs)) (outsides-outer l ls (used_by v.action v.ins) (used-in (l ∷ ls) v.action v.ins a.0.2)) (nodes-outer p l ls vs os a.1))

  pub right-outer : (p : Option (Compound × Part)) (own : List Carried) (ls : List Level) (P : List Wire → Type 0) (m : Lowered) → Right forms names sort at p own [] ls P m → AreOuter ls (outsides (uses m))
  right-outer p own ls P m r =
      subst (AreOuter ls) (sym (outsides-both (used m.nodes) m.values))
      (outer-both ls (outsides (used m.nodes)) (outsides m.values) (nodes-outer p (level own r.outs) ls m.nodes r.outs r.nodes) (outsides-outer (level own r.outs) ls m.values r.wires))

  outer-in : (ls : List Level) (ws : List Wire) → AreOuter ls ws → AreIn forms names ls ws
  outer-in ls [] a = tt
  outer-in ls (w ∷ ws) a = (a.0.0, outer-in ls ws a.1)

  pub inputs-in : (ls : List Level) (ws : List Wire) → AreOuter ls ws → AreIn forms names ls ws
  inputs-in ls ws a = outer-in ls ws a

  pub outer-at : (ls : List Level) (ws : List Wire) → AreOuter ls ws → (i : ℕ) (w : Wire) → slice_get ws i ≡ Some w → IsOuter ls w
  outer-at ls [] a i w e = absurd cc
  outer-at ls (x ∷ ws) a zero w e = subst (IsOuter ls) (same_Some x w e) a.0
  outer-at ls (x ∷ ws) a (suc i) w e = outer-at ls ws a.1 i w e

  -- ---- a graph is closed

  -- ports of its own, and of the graphs around, are inputs of it
  pub record Closes (own : List Carried) (ks : List Wire) (first shift : ℕ) (In : ℕ → Sort → Type 0) : Type 0 where
    pub owns : (q : ℕ) (c : Carried) → at_port q own ≡ Some c → In (shift + q) (sort c)
    pub around : (i : ℕ) (w : Wire) → slice_get ks i ≡ Some w → In (suc (first + i)) (sort w.ty)

  given-by : (outs : List Outs) (n q : ℕ) (c : Carried) → output_type outs n q ≡ Some c → (o : Outs) × (slice_get outs n ≡ Some o) × (type_at o q ≡ Some c)
  given-by [] n q c e = absurd cc
  given-by (o ∷ outs) zero q c e = (o, refl, e)
  given-by (o ∷ outs) (suc n) q c e = given-by outs n q c e

  in-outer : (ls : List Level) (f : Feed) (up n p : ℕ) (c : Carried) → f ≡ Port up n p → IsIn forms names ls f c → reach ls up n p ≡ Some c
  in-outer ls f up n p c e h = by up (subst (λ g. IsIn forms names ls g c) e h)
    where
      by : (up : ℕ) → IsIn forms names ls (Port up n p) c → reach ls up n p ≡ Some c
      by zero h = h
      by (suc up) h = h.0

  closed-from : (own : List Carried) (outs : List Outs) (ls : List Level) (ks : List Wire) (first shift : ℕ) (In : ℕ → Sort → Type 0) → Closes own ks first shift In → AreOuter ls ks
      → (f : Feed) (c : Carried) → IsIn forms names (level own outs ∷ ls) f c → IsCovered ks f → IsFrom sort at In outs (resolved ks first shift f) c
  closed-from own outs ls ks first shift In k a (Literal x) c h v = tt
  closed-from own outs ls ks first shift In k a (Named x) c h v = tt
  closed-from own outs ls ks first shift In k a Absent c h v = tt
  closed-from own outs ls ks first shift In k a (Port zero zero p) c h v = k.owns p c h
  closed-from own outs ls ks first shift In k a (Port zero (suc n) p) c h v = given-by outs n p c h
  closed-from own outs ls ks first shift In k a (Port (suc up) n p) c h v =
      let x = key-of ks (Port up n p) v in
      let o = outer-at ls ks a (place ks (Port up n p)) x.0 x.2 in
      let same = same_Some x.0.ty c (sym (in-outer ls x.0.feed up n p x.0.ty x.1 o.0) ∙ h.0) in
      subst (λ c. In (suc (first + place ks (Port up n p))) (sort c)) same (k.around (place ks (Port up n p)) x.0 x.2)

  wires-from : (own : List Carried) (outs : List Outs) (ls : List Level) (ks : List Wire) (first shift : ℕ) (In : ℕ → Sort → Type 0) → Closes own ks first shift In → AreOuter ls ks
      → (ws : List Wire) → AreIn forms names (level own outs ∷ ls) ws → AreCovered ks ws → AreFrom sort at In outs (closed_wires ks first shift ws)
  wires-from own outs ls ks first shift In k a [] h v = tt
  wires-from own outs ls ks first shift In k a (w ∷ ws) h v =
      (closed-from own outs ls ks first shift In k a w.feed w.ty h.0 v.0, wires-from own outs ls ks first shift In k a ws h.1 v.1)

  nodes-from : (p : Option (Compound × Part)) (own : List Carried) (outs : List Outs) (ls : List Level) (ks : List Wire) (first shift : ℕ) (In : ℕ → Sort → Type 0) → Closes own ks first shift In → AreOuter ls ks
      → (vs : List LoweredNode) (os : List Outs) → AreOpen forms names sort at p (level own outs ∷ ls) vs os → AreCovered ks (used vs) → AreNodes sort at p In outs (closed_nodes ks first shift vs) os
  nodes-from p own outs ls ks first shift In k a [] [] h v = tt
  nodes-from p own outs ls ks first shift In k a [] (o ∷ os) h v = absurd h
  nodes-from p own outs ls ks first shift In k a (x ∷ vs) [] h v = absurd h
  nodes-from p own outs ls ks first shift In k a (x ∷ vs) (o ∷ os) h v = (
    (h.0.0 ks first shift, wires-from own outs ls ks first shift In k a x.ins h.0.2 (covered-ins ks x.action x.ins (covered-left ks (used_by x.action x.ins) (used vs) v))),
    nodes-from p own outs ls ks first shift In k a vs os h.1 (covered-right ks (used_by x.action x.ins) (used vs) v),
  )

  nodes-parts : (p : Option (Compound × Part)) (ls : List Level) (ks : List Wire) (first shift : ℕ) (vs : List LoweredNode) (os : List Outs) → AreOpen forms names sort at p ls vs os
      → HaveParts forms names sort at (closed_nodes ks first shift vs)
  nodes-parts p ls ks first shift [] [] h = tt
  nodes-parts p ls ks first shift [] (o ∷ os) h = absurd h
  nodes-parts p ls ks first shift (x ∷ vs) [] h = absurd h
  nodes-parts p ls ks first shift (x ∷ vs) (o ∷ os) h = (h.0.1 ks first shift, nodes-parts p ls ks first shift vs os h.1)

  pub closed-parts : (p : Option (Compound × Part)) (own : List Carried) (ls : List Level) (P : List Wire → Type 0) (m : Lowered) (ks : List Wire) (first shift : ℕ) → Right forms names sort at p own [] ls P m
      → HaveParts forms names sort at (closed ks first shift m).nodes
  closed-parts p own ls P m ks first shift r = nodes-parts p (level own r.outs ∷ ls) ks first shift m.nodes r.outs r.nodes

  pub closed-graph : (p : Option (Compound × Part)) (own : List Carried) (ls : List Level) (P : List Wire → Type 0) (m : Lowered) (ks : List Wire) (first shift : ℕ) (In : ℕ → Sort → Type 0)
      → Right forms names sort at p own [] ls P m → AreCovered ks (uses m) → AreOuter ls ks → Closes own ks first shift In → IsGraph sort at p In (closed ks first shift m)
  closed-graph p own ls P m ks first shift In r v a k = record {
    outs = r.outs;
    nodes = nodes-from p own r.outs ls ks first shift In k a m.nodes r.outs r.nodes (covered-left ks (used m.nodes) m.values v);
    results = wires-from own r.outs ls ks first shift In k a m.values r.wires (covered-right ks (used m.nodes) m.values v);
  }

  -- ---- graphs of a node stand at their numbers

  pub others : (q : ℕ) (ks : List Wire) (first shift : ℕ) (m : Lowered) (ms : List Lowered) → Sits forms names sort at q (closed_graphs ks first shift (m ∷ ms)) → Sits forms names sort at (q + size m) (closed_graphs ks first shift ms)
  others q ks first shift m ms s =
      let e : q + suc (length m.graphs) ≡ q + size m = omega arith in
      subst (λ i. Sits forms names sort at i (closed_graphs ks first shift ms)) e (sits-right forms names sort at q (closed ks first shift m ∷ m.graphs) (closed_graphs ks first shift ms) s)

  pub sits-at : (q : ℕ) (ks : List Wire) (first shift : ℕ) (ms : List Lowered) → Sits forms names sort at q (closed_graphs ks first shift ms) → map at (numbers q ms) ≡ map Some (closed_list ks first shift ms)
  sits-at q ks first shift [] s = refl
  sits-at q ks first shift (m ∷ ms) s =
      let d = closed ks first shift m in
      let n : q + 0 ≡ q = omega arith in
      let here = subst (λ i. at i ≡ Some d) n (s 0 d refl) in
      let rest = sits-at (q + size m) ks first shift ms (others q ks first shift m ms s) in
      ap (λ o. o ∷ map at (numbers (q + size m) ms)) here ∙ ap (λ l. Some d ∷ l) rest

  -- and those inside of them
  pub sits-inside : (q : ℕ) (ks : List Wire) (first shift : ℕ) (m : Lowered) (ms : List Lowered) → Sits forms names sort at q (closed_graphs ks first shift (m ∷ ms)) → Sits forms names sort at (suc q) m.graphs
  sits-inside q ks first shift m ms s i d e =
      let n : q + suc i ≡ suc q + i = omega arith in
      subst (λ k. at k ≡ Some d) n (s (suc i) d (slice-left m.graphs (closed_graphs ks first shift ms) i d e))
