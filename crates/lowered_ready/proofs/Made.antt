-- What is known of a graph while it is made: its nodes obey the rules however the graph is closed, and what fills ports is in scope.
use Rattle.std.proofs.Common.{◌≡◌, ℕ, zero, suc, ◌+◌, List, [], ◌∷◌, ◌++◌, length, slice_get, Option, Some, refl, sym, ap, subst, ◌∙◌, arith}
use Rattle.std.proofs.lemmas.List.{append_assoc, length-append}
use Rattle.if1_graph.specs.declared.op.Compound.{Compound}
use Rattle.if1_graph.specs.declared.op.Part.{Part}
use Rattle.if1_graph.specs.Types.{Sort}
use Rattle.type_table.specs.declared.form.Form.{Form}
use Rattle.lowering.specs.declared.feed.Carried.{Carried}
use Rattle.lowering.specs.declared.feed.Wire.{Wire}
use Rattle.lowering.specs.declared.graph.Action.{Action}
use Rattle.lowering.specs.declared.graph.LoweredNode.{LoweredNode}
use Rattle.lowering.specs.declared.graph.LoweredGraph.{LoweredGraph}
use Rattle.lowering.specs.declared.graph.Lowered.{Lowered}
use Rattle.lowering.specs.Graphs.{Lowering, node, only, joined, andthen, ports, a_node, closed_wires}
use Rattle.lowered_ready.specs.Ports.{Outs}
use Rattle.lowered_ready.specs.Rules.{IsNode, ArePartsRight, HasPartsRight}
use Rattle.lowered_ready.proofs.Scopes.{Level, level, AreIn, all-more, ports-in}

pub slice-left : {A : Type 0} (xs ys : List A) (i : ℕ) (x : A) → slice_get xs i ≡ Some x → slice_get (xs ++ ys) i ≡ Some x
slice-left [] ys i x e = absurd cc
slice-left (y ∷ xs) ys zero x e = e
slice-left (y ∷ xs) ys (suc i) x e = slice-left xs ys i x e

pub slice-right : {A : Type 0} (xs ys : List A) (i : ℕ) → slice_get (xs ++ ys) (length xs + i) ≡ slice_get ys i
slice-right [] ys i = let z : 0 + i ≡ i = omega arith in ap (slice_get ys) z
slice-right (x ∷ xs) ys i = let z : suc (length xs) + i ≡ suc (length xs + i) = omega arith in ap (slice_get (x ∷ (xs ++ ys))) z ∙ slice-right xs ys i

module _ (forms : List Form) (names : List (List ℕ)) (sort : Carried → Sort) (at : ℕ → Option LoweredGraph) where
  -- ---- graphs stand at their numbers

  abbrev pub Sits : ℕ → List LoweredGraph → Type 0
  Sits q ds = (i : ℕ) (d : LoweredGraph) → slice_get ds i ≡ Some d → at (q + i) ≡ Some d

  pub sits-left : (q : ℕ) (xs ys : List LoweredGraph) → Sits q (xs ++ ys) → Sits q xs
  sits-left q xs ys s i d e = s i d (slice-left xs ys i d e)

  pub sits-right : (q : ℕ) (xs ys : List LoweredGraph) → Sits q (xs ++ ys) → Sits (q + length xs) ys
  sits-right q xs ys s i d e =
      let n : q + (length xs + i) ≡ q + length xs + i = omega arith in
      subst (λ k. at k ≡ Some d) n (s (length xs + i) d (slice-right xs ys i ∙ e))

  -- ---- nodes of a graph that is not closed yet

  abbrev pub IsRight : Option (Compound × Part) → LoweredNode → Outs → Type 0
  IsRight p v o = (ks : List Wire) (first own : ℕ) → IsNode sort at p v.action (closed_wires ks first own v.ins) o

  abbrev pub HasRight : LoweredNode → Type 0
  HasRight v = (ks : List Wire) (first own : ℕ) → ArePartsRight sort at v.action (closed_wires ks first own v.ins)

  abbrev pub AreOpen : Option (Compound × Part) → List Level → List LoweredNode → List Outs → Type 0
  AreOpen p ls [] [] = Unit {0}
  AreOpen p ls (v ∷ vs) (o ∷ os) = (IsRight p v o × HasRight v × AreIn forms names ls v.ins) × AreOpen p ls vs os
  AreOpen p ls _ _ = ⊥

  abbrev pub HaveParts : List LoweredNode → Type 0
  HaveParts [] = Unit {0}
  HaveParts (v ∷ vs) = HasPartsRight sort at v × HaveParts vs

  abbrev pub AllHaveParts : List LoweredGraph → Type 0
  AllHaveParts [] = Unit {0}
  AllHaveParts (d ∷ ds) = HaveParts d.nodes × AllHaveParts ds

  pub parts-both : (ds es : List LoweredGraph) → AllHaveParts ds → AllHaveParts es → AllHaveParts (ds ++ es)
  parts-both [] es a b = b
  parts-both (d ∷ ds) es a b = (a.0, parts-both ds es a.1 b)

  open-both : (p : Option (Compound × Part)) (ls : List Level) (vs ws : List LoweredNode) (os us : List Outs) → AreOpen p ls vs os → AreOpen p ls ws us → AreOpen p ls (vs ++ ws) (os ++ us)
  open-both p ls [] ws [] us a b = b
  open-both p ls [] ws (o ∷ os) us a b = absurd a
  open-both p ls (v ∷ vs) ws [] us a b = absurd a
  open-both p ls (v ∷ vs) ws (o ∷ os) us a b = (a.0, open-both p ls vs ws os us a.1 b)

  open-more : (p : Option (Compound × Part)) (own : List Carried) (before more : List Outs) (ls : List Level) (vs : List LoweredNode) (os : List Outs)
      → AreOpen p (level own before ∷ ls) vs os → AreOpen p (level own (before ++ more) ∷ ls) vs os
  open-more p own before more ls [] [] a = tt
  open-more p own before more ls [] (o ∷ os) a = absurd a
  open-more p own before more ls (v ∷ vs) [] a = absurd a
  open-more p own before more ls (v ∷ vs) (o ∷ os) a =
      ((a.0.0, a.0.1, all-more forms names own before more ls v.ins a.0.2), open-more p own before more ls vs os a.1)

  open-length : (p : Option (Compound × Part)) (ls : List Level) (vs : List LoweredNode) (os : List Outs) → AreOpen p ls vs os → length os ≡ length vs
  open-length p ls [] [] a = refl
  open-length p ls [] (o ∷ os) a = absurd a
  open-length p ls (v ∷ vs) [] a = absurd a
  open-length p ls (v ∷ vs) (o ∷ os) a = ap suc (open-length p ls vs os a.1)

  -- ---- what a phrase becomes, behind nodes that give these, with values of which something is known

  pub record Right (p : Option (Compound × Part)) (own : List Carried) (before : List Outs) (ls : List Level) (P : List Wire → Type 0) (m : Lowered) : Type 0 where
    pub outs : List Outs
    pub nodes : AreOpen p (level own (before ++ outs) ∷ ls) m.nodes outs
    pub wires : AreIn forms names (level own (before ++ outs) ∷ ls) m.values
    pub values : P m.values
    pub graphs : AllHaveParts m.graphs

  abbrev pub Does : Option (Compound × Part) → List Carried → List Outs → List Level → (List Wire → Type 0) → Lowering → Type 0
  Does p own before ls P f = (q : ℕ) → Sits q (f (length before) q).graphs → Right p own before ls P (f (length before) q)

  pub only-does : (p : Option (Compound × Part)) (own : List Carried) (before : List Outs) (ls : List Level) (P : List Wire → Type 0) (ws : List Wire)
      → AreIn forms names (level own before ∷ ls) ws → P ws → Does p own before ls P (only ws)
  only-does p own before ls P ws a v q s = record { outs = []; nodes = tt; wires = all-more forms names own before [] ls ws a; values = v; graphs = tt }

  joined-right : (p : Option (Compound × Part)) (own : List Carried) (before : List Outs) (ls : List Level) (P Q : List Wire → Type 0) (a b : Lowered)
      → (x : Right p own before ls P a) → Right p own (before ++ x.outs) ls Q b → Right p own before ls Q (joined a b)
  joined-right p own before ls P Q a b x y =
      let e = append_assoc before x.outs y.outs in
      record {
        outs = x.outs ++ y.outs;
        nodes =
            subst (λ z. AreOpen p (level own z ∷ ls) (a.nodes ++ b.nodes) (x.outs ++ y.outs)) e
            (open-both p (level own ((before ++ x.outs) ++ y.outs) ∷ ls) a.nodes b.nodes x.outs y.outs (open-more p own (before ++ x.outs) y.outs ls a.nodes x.outs x.nodes) y.nodes);
        wires = subst (λ z. AreIn forms names (level own z ∷ ls) b.values) e y.wires;
        values = y.values;
        graphs = parts-both a.graphs b.graphs x.graphs y.graphs;
      }

  pub then-does : (p : Option (Compound × Part)) (own : List Carried) (before : List Outs) (ls : List Level) (P Q : List Wire → Type 0) (f : Lowering) (h : List Wire → Lowering)
      → Does p own before ls P f → ((more : List Outs) (ws : List Wire) → AreIn forms names (level own (before ++ more) ∷ ls) ws → P ws → Does p own (before ++ more) ls Q (h ws))
      → Does p own before ls Q (andthen f h)
  then-does p own before ls P Q f h a b q s =
      let m = f (length before) q in
      let r = h m.values (length before + length m.nodes) (q + length m.graphs) in
      let x = a q (sits-left q m.graphs r.graphs s) in
      let e : length (before ++ x.outs) ≡ length before + length m.nodes =
      length-append before x.outs ∙ ap (λ i. length before + i) (open-length p (level own (before ++ x.outs) ∷ ls) m.nodes x.outs x.nodes) in
      let y = b x.outs m.values x.wires x.values (q + length m.graphs)
      (subst (λ i. Sits (q + length m.graphs) (h m.values i (q + length m.graphs)).graphs) (sym e) (sits-right q m.graphs r.graphs s)) in
      joined-right p own before ls P Q m r x (subst (λ i. Right p own (before ++ x.outs) ls Q (h m.values i (q + length m.graphs))) e y)

  pub weaker-does : (p : Option (Compound × Part)) (own : List Carried) (before : List Outs) (ls : List Level) (P Q : List Wire → Type 0) (f : Lowering)
      → ((ws : List Wire) → P ws → Q ws) → Does p own before ls P f → Does p own before ls Q f
  weaker-does p own before ls P Q f h a q s =
      let x = a q s in
      record { outs = x.outs; nodes = x.nodes; wires = x.wires; values = h (f (length before) q).values x.values; graphs = x.graphs }

  pub node-does : (p : Option (Compound × Part)) (own : List Carried) (before : List Outs) (ls : List Level) (P : List Wire → Type 0) (act : Action) (ins : List Wire) (port : ℕ) (ts : List Carried)
      → IsRight p (node act ins) (record { port = port; types = ts }) → HasRight (node act ins) → AreIn forms names (level own before ∷ ls) ins → P (ports (suc (length before)) port ts)
      → Does p own before ls P (a_node act ins port ts)
  node-does p own before ls P act ins port ts r h a v q s = record {
    outs = record { port = port; types = ts } ∷ [];
    nodes = ((r, h, all-more forms names own before (record { port = port; types = ts } ∷ []) ls ins a), tt);
    wires = ports-in forms names own before ls port ts;
    values = v;
    graphs = tt;
  }
