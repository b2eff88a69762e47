-- Compound nodes: their inputs, the inputs and results of their graphs, and their outputs.
use Rattle.std.proofs.Common.{◌≡◌, ℕ, zero, suc, ◌+◌, ◌-◌, ◌≤◌, Bool, true, false, List, [], ◌∷◌, map, length, slice_get, Some, refl, sym, ap, subst, ◌∙◌, arith, nat_le, leb-true, le-leb}
use Rattle.std.specs.Prelude.{MatchBool}
use Rattle.std.proofs.lemmas.Option.{same_Some, slice_get_within}
use Rattle.flow_value.specs.declared.ty.Ty.{Ty}
use Rattle.if1_graph.specs.declared.op.Compound.{Compound}
use Rattle.if1_graph.specs.declared.op.Part.{Part}
use Rattle.if1_graph.specs.Tables.{◌>>=◌, at_port}
use Rattle.if1_graph.specs.Types.{Sort}
use Rattle.if1_graph.specs.Parts.{part_at}
use Rattle.if1_graph.specs.Typing.{IsPlain, FitsCompound, giving_part}
use Rattle.typed_tree.specs.Types.{AreNumbers}
use Rattle.lowering.specs.declared.feed.Carried.{Carried}
use Rattle.lowering.specs.declared.feed.Carried.TheVariants.{One}
use Rattle.lowering.specs.declared.feed.Wire.{Wire}
use Rattle.lowering.specs.declared.graph.LoweredGraph.{LoweredGraph}
use Rattle.lowering.specs.declared.graph.Lowered.{Lowered}
use Rattle.lowering.specs.Feeds.{outsides}
use Rattle.lowering.specs.Graphs.{node, resolved, closed, closed_wires, closed_graphs, inputs, uses, whole}
use Rattle.lowering_meaning.proofs.Wired.{typed-ports}
use Rattle.lowered_ready.specs.Ports.{Outs, sort_in}
use Rattle.lowered_ready.specs.Parts.{part_inputs, part_results, compound_outputs, result_of, FitsResult, AreResults, FitsNodeInput, FitsOwnInput, IsPartInput, AreInputs, AreOutputs, IsCompound}
use Rattle.lowered_ready.specs.Rules.{IsPartGraph}
use Rattle.lowered_ready.proofs.Scopes.{Level, level, IsValue, all-more, ports-in}
use Rattle.lowered_ready.proofs.Made as made
use Rattle.lowered_ready.proofs.Made.{Sits, HaveParts, AllHaveParts, Right}
use Rattle.lowered_ready.proofs.Closing as closing
use Rattle.lowered_ready.proofs.Closing.{AreOuter, AllOuter, AllCovered, AreCovered, Closes, closed_list, closed-shown, inputs-cover}
use Rattle.lowered_ready.proofs.RuleSorting.{AreSorted, sorted-length, sort-shown, sort-at, sort-of, plain}
use Rattle.lowered_ready.proofs.World.{World, Which, Of}

module _ (x : World) where
  abbrev pub Outer : List Level → List Wire → Type 0
  Outer ls ws = AreOuter x.forms x.names x.sort x.at ls ws

  -- ---- inputs of a node, as they are where its graph is closed

  pub value-plain : (c : Carried) → IsValue x.forms x.names c → IsPlain (x.sort c)
  value-plain c v = (x.bare v.0, sort-of x.forms x.names x.hs x.bare x.sort x.sorting c v.0 v.1)

  pub input-sort : (ls : List Level) (ws : List Wire) (ks : List Wire) (first own : ℕ) → Outer ls ks → (i : ℕ) (w : Wire) → slice_get ks i ≡ Some w
      → sort_in x.sort (closed_wires ws first own ks) (suc i) ≡ Some (x.sort w.ty)
  input-sort ls ws [] first own a i w e = absurd cc
  input-sort ls ws (k ∷ ks) first own a zero w e =
      sort-shown x.sort (resolved ws first own k.feed) k.ty (closed-shown ws first own k.feed a.0.2) ∙ ap (λ (w : Wire). Some (x.sort w.ty)) (same_Some k w e)
  input-sort ls ws (k ∷ ks) first own a (suc i) w e = input-sort ls ws ks first own a.1 i w e

  -- of a node other than a TagCase, where each input is a value
  pub inputs-fit : (c : Compound) → ((port : ℕ) (s : Sort) → IsPlain s → FitsCompound c port s) → (ls : List Level) (ws ks : List Wire) (first own port : ℕ) → Outer ls ks → AreInputs x.sort c port (closed_wires ws first own ks)
  inputs-fit c f ls ws [] first own port a = tt
  inputs-fit c f ls ws (k ∷ ks) first own port a =
      ((closed-shown ws first own k.feed a.0.2, f port (x.sort k.ty) (value-plain k.ty a.0.1)), inputs-fit c f ls ws ks first own (suc port) a.1)

  -- ---- inputs of parts

  pub part-closes : (c : Compound) (p : Part) (vs : List Wire) (arms : List ℕ) (gs : List LoweredGraph) (k : ℕ) (ks : List Wire) (own : List Carried) (more : ℕ) → length vs ≡ length ks → part_inputs c p (length vs) gs ≡ length vs + more
      → ((i : ℕ) (w : Wire) → slice_get ks i ≡ Some w → FitsNodeInput x.sort vs arms p k (suc i) (x.sort w.ty))
      → ((q : ℕ) (c' : Carried) → at_port q own ≡ Some c' → (q ≤ more) × FitsOwnInput x.sort c p gs q (x.sort c'))
      → Closes x.forms x.names x.sort x.at own ks 0 (length ks) (IsPartInput x.sort c p vs arms gs k)
  part-closes c p vs arms gs k ks own more same count node own-fits = record {
    owns = λ q t e. owned q t e;
    around = λ i w e.
        let z : suc (0 + i) ≡ suc i = omega arith in
        let l = slice_get_within ks i w e in
        subst (λ n. IsPartInput x.sort c p vs arms gs k n (x.sort w.ty)) (sym z)
        (omega arith, omega (arith, l, same, count), from-node i (x.sort w.ty) (node i w e) (nat_le (suc i) (length vs)) refl (omega (arith, l, same)));
  }
    where
      from-node : (i : ℕ) (s : Sort) → FitsNodeInput x.sort vs arms p k (suc i) s → (b : Bool) → nat_le (suc i) (length vs) ≡ b → suc i ≤ length vs → MatchBool b (FitsNodeInput x.sort vs arms p k (suc i) s) (FitsOwnInput x.sort c p gs (suc i - length vs) s)
      from-node i s h true e l = h
      from-node i s h false e l = let t = le-leb (suc i) (length vs) l in absurd cc

      owned : (q : ℕ) (t : Carried) → at_port q own ≡ Some t → IsPartInput x.sort c p vs arms gs k (length ks + q) (x.sort t)
      owned zero t e = absurd cc
      owned (suc q) t e =
          let r = own-fits (suc q) t e in
          let few = r.0 in
          (omega arith, omega (arith, few, same, count), from-own (nat_le (length ks + suc q) (length vs)) refl r.1)
        where
          from-own : (b : Bool) → nat_le (length ks + suc q) (length vs) ≡ b → FitsOwnInput x.sort c p gs (suc q) (x.sort t)
              → MatchBool b (FitsNodeInput x.sort vs arms p k (length ks + suc q) (x.sort t)) (FitsOwnInput x.sort c p gs (length ks + suc q - length vs) (x.sort t))
          from-own true e h = let l = leb-true (length ks + suc q) (length vs) e in absurd (omega (arith, l, same))
          from-own false e h = let z : suc q ≡ length ks + suc q - length vs = omega (arith, same) in subst (λ n. FitsOwnInput x.sort c p gs n (x.sort t)) z h

  -- ---- results of parts

  pub results-fit : (c : Compound) (p : Part) (gs : List LoweredGraph) (port : ℕ) (ws : List Wire) (ss : List Sort) → AreSorted x.sort ws ss → ((i : ℕ) (s : Sort) → slice_get ss i ≡ Some s → FitsResult x.sort c p gs (port + i) s) → AreResults x.sort c p gs port ws
  results-fit c p gs port [] ss h f = tt
  results-fit c p gs port (w ∷ ws) [] h f = absurd h
  results-fit c p gs port (w ∷ ws) (s ∷ ss) h f =
      let z : port + 0 ≡ port = omega arith in (
        (h.0.0, subst (λ z. FitsResult x.sort c p gs port z) (sym h.0.1) (subst (λ n. FitsResult x.sort c p gs n s) z (f 0 s refl))),
        results-fit c p gs (suc port) ws ss h.1 (λ i s e. let y : port + suc i ≡ suc port + i = omega arith in subst (λ n. FitsResult x.sort c p gs n s) y (f (suc i) s e)),
      )

  pub result-at : (gs : List LoweredGraph) (k : ℕ) (d : LoweredGraph) (ss : List Sort) → slice_get gs k ≡ Some d → AreSorted x.sort d.results ss → (port : ℕ) → result_of x.sort gs k port ≡ at_port port ss
  result-at gs k d ss e h port = ap (λ o. o >>= λ (d : LoweredGraph). sort_in x.sort d.results port) e ∙ sort-at x.sort d.results ss h port

  -- ---- outputs

  outputs-from : (c : Compound) (gs : List LoweredGraph) (all : List Sort) (i : ℕ) (ns : List ℕ) (tys : List Ty) → AreNumbers x.forms x.names ns tys → ((port : ℕ) → result_of x.sort gs (giving_part c) port ≡ at_port port all)
      → ((j : ℕ) → slice_get (map (plain x.forms x.names x.hs x.bare x.sort x.sorting) tys) j ≡ slice_get all (i + j)) → i + length tys ≤ compound_outputs c gs → AreOutputs x.sort c gs (suc i) (map One ns)
  outputs-from c gs all i [] tys h r e l = tt
  outputs-from c gs all i (n ∷ ns) [] h r e l = absurd h
  outputs-from c gs all i (n ∷ ns) (t ∷ tys) h r e l =
      let z : i + 0 ≡ i = omega arith in (
        (omega (arith, l), r (suc i) ∙ ap (slice_get all) (sym z) ∙ sym (e 0) ∙ ap Some (sym (x.sorting.values n t h.0))),
        outputs-from c gs all (suc i) ns tys h.1 r (λ j. let y : i + suc j ≡ suc i + j = omega arith in e (suc j) ∙ ap (slice_get all) y) (omega (arith, l)),
      )

  abbrev pub sorts_of : List Ty → List Sort
  sorts_of tys = map (plain x.forms x.names x.hs x.bare x.sort x.sorting) tys

  pub outputs-fit : (c : Compound) (gs : List LoweredGraph) (ns : List ℕ) (tys : List Ty) → AreNumbers x.forms x.names ns tys → ((port : ℕ) → result_of x.sort gs (giving_part c) port ≡ at_port port (sorts_of tys))
      → length tys ≤ compound_outputs c gs → AreOutputs x.sort c gs 1 (map One ns)
  outputs-fit c gs ns tys h r l = outputs-from c gs (sorts_of tys) 0 ns tys h r (λ j. let z : j ≡ 0 + j = omega arith in ap (slice_get (sorts_of tys)) z) (omega (arith, l))

  -- ---- a compound node other than a TagCase

  abbrev pub Sit : ℕ → List LoweredGraph → Type 0
  Sit q ds = Sits x.forms x.names x.sort x.at q ds

  abbrev pub Made : Which → List Carried → List Level → (List Wire → Type 0) → Lowered → Type 0
  Made p own ls P m = Right x.forms x.names x.sort x.at p own [] ls P m

  -- what is asked of each graph inside of it
  pub record Inner (ls : List Level) (m : Lowered) : Type 0 where
    pub outer : Outer ls (outsides (uses m))
    pub parts : (ks : List Wire) (first shift : ℕ) → HaveParts x.forms x.names x.sort x.at (closed ks first shift m).nodes
    pub graphs : AllHaveParts x.forms x.names x.sort x.at m.graphs

  pub inner-of : (p : Which) (own : List Carried) (ls : List Level) (P : List Wire → Type 0) (m : Lowered) → Made p own ls P m → Inner ls m
  inner-of p own ls P m r = record {
    outer = closing.right-outer x.forms x.names x.sort x.at p own ls P m r;
    parts = λ ks first shift. closing.closed-parts x.forms x.names x.sort x.at p own ls P m ks first shift r;
    graphs = r.graphs;
  }

  abbrev pub AllInner : List Level → List Lowered → Type 0
  AllInner ls [] = Unit {0}
  AllInner ls (m ∷ ms) = Inner ls m × AllInner ls ms

  pub inner-outer : (ls : List Level) (ms : List Lowered) → AllInner ls ms → Outer ls (inputs ms)
  inner-outer ls ms a = closing.inputs-outer x.forms x.names x.sort x.at ls ms (all ms a)
    where
      all : (ms : List Lowered) → AllInner ls ms → AllOuter x.forms x.names x.sort x.at ls ms
      all [] a = tt
      all (m ∷ ms) a = (a.0.outer, all ms a.1)

  pub inner-graphs : (ls : List Level) (ks : List Wire) (first shift : ℕ) (ms : List Lowered) → AllInner ls ms → AllHaveParts x.forms x.names x.sort x.at (closed_graphs ks first shift ms)
  inner-graphs ls ks first shift [] a = tt
  inner-graphs ls ks first shift (m ∷ ms) a =
      (a.0.parts ks first shift, made.parts-both x.forms x.names x.sort x.at m.graphs (closed_graphs ks first shift ms) a.0.graphs (inner-graphs ls ks first shift ms a.1))

  pub whole-right : (p : Which) (own : List Carried) (before : List Outs) (ls : List Level) (c : Compound) (ms : List Lowered) (arms : List ℕ) (given : ℕ) (ns : List ℕ) (tys : List Ty) (q : ℕ)
      → AllInner (level own before ∷ ls) ms → Sit q (closed_graphs (inputs ms) 0 (length (inputs ms)) ms) → AreNumbers x.forms x.names ns tys
      → ((ws : List Wire) (first shift : ℕ) → IsCompound x.sort c (closed_wires ws first shift (inputs ms)) arms (closed_list (inputs ms) 0 (length (inputs ms)) ms) (record { port = 1; types = map One ns }))
      → ((ws : List Wire) (first shift k : ℕ) (part : Part) (d : LoweredGraph) → part_at c k ≡ Some part → slice_get (closed_list (inputs ms) 0 (length (inputs ms)) ms) k ≡ Some d
      → IsPartGraph x.sort x.at c part k (closed_wires ws first shift (inputs ms)) arms (closed_list (inputs ms) 0 (length (inputs ms)) ms) d)
      → Right x.forms x.names x.sort x.at p own before ls (Of x tys) (whole c ms arms given ns (length before) q)
  whole-right p own before ls c ms arms given ns tys q a s num compound parts =
      let ks = inputs ms in
      let gs = closed_list ks 0 (length ks) ms in
      let o : Outs = record { port = 1; types = map One ns } in
      let numbered = closing.sits-at x.forms x.names x.sort x.at q ks 0 (length ks) ms s in
      record {
        outs = o ∷ [];
        nodes = (
          (
            λ ws first shift. (gs, numbered, compound ws first shift),
            λ ws first shift. (gs, numbered, λ k part d e f. parts ws first shift k part d e f),
            all-more x.forms x.names own before (o ∷ []) ls ks (closing.inputs-in x.forms x.names x.sort x.at (level own before ∷ ls) ks (inner-outer (level own before ∷ ls) ms a)),
          ),
          tt,
        );
        wires = ports-in x.forms x.names own before ls 1 (map One ns);
        values = typed-ports x.forms x.names ns tys num (suc (length before)) 1;
        graphs = inner-graphs (level own before ∷ ls) ks 0 (length ks) ms a;
      }

  -- the graph at a place of it
  pub part-graph : (c : Compound) (p : Part) (k : ℕ) (own : List Carried) (ls : List Level) (P : List Wire → Type 0) (m : Lowered) (ks : List Wire) (first shift : ℕ) (vs : List Wire) (arms : List ℕ) (gs : List LoweredGraph) (ss : List Sort)
      → Made (Some (c, p)) own ls P m → AreCovered ks (uses m) → Outer ls ks → Closes x.forms x.names x.sort x.at own ks first shift (IsPartInput x.sort c p vs arms gs k)
      → AreSorted x.sort (closed ks first shift m).results ss → ((i : ℕ) (s : Sort) → slice_get ss i ≡ Some s → FitsResult x.sort c p gs (1 + i) s) → length ss ≡ part_results c p gs (length ss)
      → IsPartGraph x.sort x.at c p k vs arms gs (closed ks first shift m)
  part-graph c p k own ls P m ks first shift vs arms gs ss r v o closes h f e =
      let same = sorted-length x.sort (closed ks first shift m).results ss h in
      record {
        graph = closing.closed-graph x.forms x.names x.sort x.at (Some (c, p)) own ls P m ks first shift (IsPartInput x.sort c p vs arms gs k) r v o closes;
        results = results-fit c p gs 1 (closed ks first shift m).results ss h f;
        count = subst (λ n. n ≡ part_results c p gs n) (sym same) e;
      }
