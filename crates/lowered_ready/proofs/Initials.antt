-- Loops of turns obey the rules.
use Rattle.std.proofs.Common.{◌≡◌, ℕ, zero, suc, ◌+◌, ◌-◌, ◌<◌, ◌≤◌, Bool, true, false, ◌&&◌, List, [], ◌∷◌, ◌++◌, map, drop, length, slice_get, Option, Some, None, refl, sym, ap, subst, ◌∙◌, arith, nat_le}
use Rattle.std.specs.Prelude.{nat_lt, if◌then◌else◌}
use Rattle.std.proofs.lemmas.Bool.{leb-true}
use Rattle.std.proofs.lemmas.List.{length-map, append_assoc, append-nil}
use Rattle.std.proofs.lemmas.Option.{same_Some}
use Rattle.flow_value.specs.declared.ty.Ty.{Ty}
use Rattle.flow_value.specs.declared.ty.Ty.TheVariants as ty
use Rattle.if1_graph.specs.declared.op.Compound.{Compound}
use Rattle.if1_graph.specs.declared.op.Compound.TheVariants as compound
use Rattle.if1_graph.specs.declared.op.Part.{Part}
use Rattle.if1_graph.specs.declared.op.Part.TheVariants as part
use Rattle.if1_graph.specs.Tables.{at_port}
use Rattle.if1_graph.specs.Types.{Member, Sort, Plain}
use Rattle.if1_graph.specs.Parts.{HasParts, part_at, loop_part}
use Rattle.if1_graph.specs.Ports.{IsAssociation, least_width, tags_of}
use Rattle.if1_graph.specs.Typing.{IsPlain, IsMultiple as IsAllOf, FitsCompound, giving_part, is_returns}
use Rattle.typed_tree.specs.declared.expr.Turns.{Turns}
use Rattle.typed_tree.specs.Types.{AreNumbers}
use Rattle.lowering_meaning.specs.FittingTreesFitting.{Renews, AreMade}
use Rattle.lowering.specs.declared.feed.Carried.{Carried}
use Rattle.lowering.specs.declared.feed.Carried.TheVariants.{One}
use Rattle.lowering.specs.declared.feed.Wire.{Wire}
use Rattle.lowering.specs.Feeds.{into}
use Rattle.lowering.specs.declared.graph.LoweredGraph.{LoweredGraph}
use Rattle.lowering.specs.declared.graph.Lowered.{Lowered}
use Rattle.lowering.specs.Graphs.{only, andthen, closed, closed_wire, closed_wires, inputs, size, new_graph}
use Rattle.lowering.specs.Operations.{Lowers, one, wire_at, all_lowered, defs_lowered}
use Rattle.lowering.specs.Loops.{own_inputs, many, types, take_up, with_not, unless_places, Wired, returns_lowered, Phrase, loop_kind, loop_name, extra, extras, place_of, collected, renew, test_lowered, row_of_turn, initial_lowered}
use Rattle.lowering_meaning.proofs.Wired.{typed-length, typed-both, typed-into, typed-drop, typed-take, typed-renew, own-typed}
use Rattle.lowered_ready.specs.Ports.{Outs, sort_in}
use Rattle.lowered_ready.specs.Parts.{results_at, compound_outputs, part_inputs, part_results, result_of, FitsResult, FitsOwnInput, IsCompound}
use Rattle.lowered_ready.specs.Rules.{IsPartGraph}
use Rattle.lowered_ready.proofs.Scopes.{Level, level, all-into, in-both, in-at, in-drop, in-take, in-renew, own-in}
use Rattle.lowered_ready.proofs.Made.{slice-left, sits-left}
use Rattle.lowered_ready.proofs.Closing.{closed_list, inputs-cover}
use Rattle.lowered_ready.proofs.Closing as closing
use Rattle.lowered_ready.proofs.RuleSorting.{plain, AreSorted, sorted-length, sort-of}
use Rattle.lowered_ready.proofs.World.{World, Which, Of, In, Does, To, AllTo, to_none, to_more, DefsTo}
use Rattle.lowered_ready.proofs.Wholes.{Outer, Made, AllInner, sorts_of, inner-of, inner-outer, inputs-fit, input-sort, part-closes, part-graph, result-at, outputs-fit, whole-right}
use Rattle.lowered_ready.proofs.RuleForms as forms_are
use Rattle.lowered_ready.proofs.Ifs.{at-place, bare-part}
use Rattle.lowered_ready.proofs.Clauses.{Aligned, aligned_none, aligned_value, aligned_mask, made-aligned, not-does, AreMany, manys-typed, returns-does}
use Rattle.lowered_ready.proofs.Products.{manys-own}

module _ (x : World) where
  -- ---- a phrase of a clause has one value, and where it is a name the type of the name

  abbrev pub NamedRight : List Ty → Option ℕ → Ty → Type 0
  NamedRight γ None a = Unit {0}
  NamedRight γ (Some n) a = slice_get γ n ≡ Some a

  pub data PhrasesTo (γ : List Ty) : List Phrase → List Ty → Type 0 where
    phrases_none : PhrasesTo γ [] []
    phrases_more : (f : Phrase) (fs : List Phrase) (a : Ty) (row : List Ty) → To x γ (a ∷ []) f.lowers → NamedRight γ f.name a → PhrasesTo γ fs row → PhrasesTo γ (f ∷ fs) (a ∷ row)

  -- each of these types stands at its place
  abbrev AreAt : List Ty → List Ty → List ℕ → Type 0
  AreAt total [] [] = Unit {0}
  AreAt total (a ∷ row) (k ∷ ks) = (slice_get total k ≡ Some a) × AreAt total row ks
  AreAt total [] (k ∷ ks) = ⊥
  AreAt total (a ∷ row) [] = ⊥

  pub record Collects (δ front : List Ty) (gs : List Lowers) (row : List Ty) (ks : List ℕ) : Type 0 where
    pub more : List Ty
    pub lowers : AllTo x δ gs more
    pub places : AreAt (front ++ more) row ks

  seam : {A : Type 0} (front : List A) (a : A) (back : List A) → slice_get (front ++ a ∷ back) (length front) ≡ Some a
  seam [] a back = refl
  seam (b ∷ front) a back = seam front a back

  longer : (front : List Ty) (a : Ty) → length (front ++ a ∷ []) ≡ suc (length front)
  longer [] a = refl
  longer (b ∷ front) a = ap suc (longer front a)

  -- where names around stand before the names of the loop
  loop-place : (γ loop : List Ty) (n : ℕ) (a : Ty) → slice_get (γ ++ loop) n ≡ Some a → length γ ≤ n → slice_get loop (n - length γ) ≡ Some a
  loop-place [] loop n a e l = let z : n ≡ n - 0 = omega arith in subst (λ i. slice_get loop i ≡ Some a) z e
  loop-place (t ∷ γ) loop zero a e l = absurd (omega (arith, l))
  loop-place (t ∷ γ) loop (suc n) a e l = let z : n - length γ ≡ suc n - suc (length γ) = omega arith in subst (λ i. slice_get loop i ≡ Some a) z (loop-place γ loop n a e (omega (arith, l)))

  -- a name of the loop has its type there
  loop-typed : (γ loop : List Ty) (o : Option ℕ) (a : Ty) → NamedRight (γ ++ loop) o a → (k : ℕ) → loop_name (length γ) (length loop) o ≡ Some k → slice_get loop k ≡ Some a
  loop-typed γ loop None a h k e = absurd cc
  loop-typed γ loop (Some n) a h k e = by (nat_le (length γ) n) refl (nat_lt n (length γ + length loop)) e
    where
      by : (b : Bool) → nat_le (length γ) n ≡ b → (c : Bool) → (if b && c then Some (n - length γ) else None) ≡ Some k → slice_get loop k ≡ Some a
      by true l true e = subst (λ i. slice_get loop i ≡ Some a) (same_Some (n - length γ) k e) (loop-place γ loop n a h (leb-true (length γ) n l))
      by true l false e = absurd cc
      by false l c e = absurd cc

  grown : (loop front : List Ty) (t : Ty) → ((k : ℕ) (a : Ty) → slice_get loop k ≡ Some a → slice_get front k ≡ Some a) → (k : ℕ) (a : Ty) → slice_get loop k ≡ Some a → slice_get (front ++ t ∷ []) k ≡ Some a
  grown loop front t h k a e = slice-left front (t ∷ []) k a (h k a e)

  module _ (γ loop : List Ty) where
    abbrev named : Option ℕ → Option ℕ
    named o = loop_name (length γ) (length loop) o

    abbrev δ : List Ty
    δ = γ ++ loop

    -- one more that is collected besides the loop names
    besides : (front : List Ty) (g : Lowers) (a : Ty) (row : List Ty) (gs : List Lowers) (ks : List ℕ) → To x δ (a ∷ []) g → Collects δ (front ++ a ∷ []) gs row ks → Collects δ front (g ∷ gs) (a ∷ row) (length front ∷ ks)
    besides front g a row gs ks h c = record {
      more = a ∷ c.more;
      lowers = to_more δ g gs (a ∷ []) c.more h c.lowers;
      places = (seam front a c.more, subst (λ t. AreAt t row ks) (append_assoc front (a ∷ []) c.more) c.places);
    }

    -- what is collected, where these are collected before
    collect : (bs : List Bool) (fs : List Phrase) (row : List Ty) → Aligned x bs row → PhrasesTo δ fs row → (front : List Ty) → ((k : ℕ) (a : Ty) → slice_get loop k ≡ Some a → slice_get front k ≡ Some a)
        → Collects δ front (extras named bs fs) row (collected named (length front) bs fs)
    collect _ _ _ aligned_none phrases_none front h = record { more = []; lowers = to_none δ; places = tt }
    collect _ _ _ (aligned_mask {bs = bs} r) (phrases_more f fs _ row g n o) front h =
        let z = longer front ty.Bool in
        besides front (with_not f.lowers) ty.Bool row (extras named bs fs) (collected named (suc (length front)) bs fs) (not-does x δ f.lowers g)
        (subst (λ i. Collects δ (front ++ ty.Bool ∷ []) (extras named bs fs) row (collected named i bs fs)) z (collect bs fs row r o (front ++ ty.Bool ∷ []) (grown loop front ty.Bool h)))
    collect _ _ _ (aligned_value {bs = bs} r) (phrases_more f fs a row g n o) front h =
        by (named f.name) refl (collect bs fs row r o front h) (collect bs fs row r o (front ++ a ∷ []) (grown loop front a h))
      where
        by : (m : Option ℕ) → named f.name ≡ m → Collects δ front (extras named bs fs) row (collected named (length front) bs fs)
            → Collects δ (front ++ a ∷ []) (extras named bs fs) row (collected named (length (front ++ a ∷ [])) bs fs)
            → Collects δ front (extra m f.lowers ++ extras named bs fs) (a ∷ row) (place_of (length front) m (λ k. collected named k bs fs))
        by None e c d =
            let z = longer front a in
            besides front f.lowers a row (extras named bs fs) (collected named (suc (length front)) bs fs) g
            (subst (λ i. Collects δ (front ++ a ∷ []) (extras named bs fs) row (collected named i bs fs)) z d)
        by (Some k) e c d = record {
          more = c.more;
          lowers = c.lowers;
          places = (slice-left front c.more k a (h k a (loop-typed γ loop f.name a n k e)), c.places);
        }

  -- ---- multiples at these places

  many-at : (total : List Ty) (ws : List Wire) → AreMany x total ws → (k : ℕ) (a : Ty) → slice_get total k ≡ Some a → AreMany x (a ∷ []) (wire_at ws k ∷ [])
  many-at [] [] h k a e = absurd cc
  many-at [] (w ∷ ws) h k a e = absurd h
  many-at (t ∷ total) [] h k a e = absurd h
  many-at (t ∷ total) (w ∷ ws) h zero a e = subst (λ a. AreMany x (a ∷ []) (w ∷ [])) (same_Some t a e) (h.0, tt)
  many-at (t ∷ total) (w ∷ ws) h (suc k) a e = many-at total ws h.1 k a e

  many-places : (total row : List Ty) (ks : List ℕ) (ws : List Wire) → AreAt total row ks → AreMany x total ws → AreMany x row (map (wire_at ws) ks)
  many-places total [] [] ws h m = tt
  many-places total [] (k ∷ ks) ws h m = absurd h
  many-places total (a ∷ row) [] ws h m = absurd h
  many-places total (a ∷ row) (k ∷ ks) ws h m = ((many-at total ws m k a h.0).0, many-places total row ks ws h.1 m)

  in-places : (ls : List Level) (ws : List Wire) (ks : List ℕ) → In x ls ws → In x ls (map (wire_at ws) ks)
  in-places ls ws [] i = tt
  in-places ls ws (k ∷ ks) i = (in-at x.forms x.names ls ws k i, in-places ls ws ks i)

  -- own inputs that are values of these types
  value-own : (row : List Ty) (ws : List Wire) → Of x row ws → (i : ℕ) (c : Carried) → slice_get (types ws) i ≡ Some c → (i < length row) × (slice_get (sorts_of x row) i ≡ Some (x.sort c))
  value-own [] [] h i c e = absurd cc
  value-own [] (w ∷ ws) h i c e = absurd h
  value-own (t ∷ row) [] h i c e = absurd h
  value-own (t ∷ row) (w ∷ ws) h zero c e = (omega arith, ap Some (sym (sort-of x.forms x.names x.hs x.bare x.sort x.sorting w.ty t h.0.0) ∙ ap x.sort (same_Some w.ty c e)))
  value-own (t ∷ row) (w ∷ ws) h (suc i) c e = let r = value-own row ws h.1 i c e in let l = r.0 in (omega (arith, l), r.1)

  -- ---- what both kinds of loop have in common

  pub record IsLoop (c : Compound) : Type 0 where
    pub parts : HasParts c 4
    pub width : (n : ℕ) → least_width c ≤ n
    pub plain_inputs : (port : ℕ) (s : Sort) → IsPlain s → FitsCompound c port s
    pub list : (tags : Option (List Member)) → IsAssociation c tags 4 (0 ∷ 1 ∷ 2 ∷ 3 ∷ [])
    pub kinds : (k : ℕ) → part_at c k ≡ loop_part k
    pub outputs : (gs : List LoweredGraph) → compound_outputs c gs ≡ results_at gs 3
    pub giving : giving_part c ≡ 3
    pub test_inputs : (n : ℕ) (gs : List LoweredGraph) → part_inputs c part.Test n gs ≡ n + results_at gs 0
    pub body_inputs : (n : ℕ) (gs : List LoweredGraph) → part_inputs c part.Body n gs ≡ n + results_at gs 0
    pub returns_inputs : (n : ℕ) (gs : List LoweredGraph) → part_inputs c part.Returns n gs ≡ n + results_at gs 0
    pub first_inputs : (n : ℕ) (gs : List LoweredGraph) → part_inputs c part.Initialization n gs ≡ n + 0
    pub test_own : (gs : List LoweredGraph) (n : ℕ) (s : Sort) → result_of x.sort gs 0 n ≡ Some s → FitsOwnInput x.sort c part.Test gs n s
    pub body_own : (gs : List LoweredGraph) (n : ℕ) (s : Sort) → result_of x.sort gs 0 n ≡ Some s → FitsOwnInput x.sort c part.Body gs n s
    pub returns_own : (gs : List LoweredGraph) (n : ℕ) (s : Sort) → IsAllOf (result_of x.sort gs 0 n) s → FitsOwnInput x.sort c part.Returns gs n s
    pub body_results : (gs : List LoweredGraph) (n : ℕ) (s : Sort) → IsPlain s → result_of x.sort gs 0 n ≡ Some s → FitsResult x.sort c part.Body gs n s
    pub body_count : (gs : List LoweredGraph) (n : ℕ) → part_results c part.Body gs n ≡ results_at gs 0
    pub returning : is_returns (Some (c, part.Returns)) ≡ true

  loop-a : IsLoop compound.LoopA
  loop-a = record {
    parts = refl;
    width = λ n. omega arith;
    plain_inputs = λ port s h. h;
    list = λ tags. refl;
    kinds = λ k. refl;
    outputs = λ gs. refl;
    giving = refl;
    test_inputs = λ n gs. refl;
    body_inputs = λ n gs. refl;
    returns_inputs = λ n gs. refl;
    first_inputs = λ n gs. omega arith;
    test_own = λ gs n s h. h;
    body_own = λ gs n s h. h;
    returns_own = λ gs n s h. h;
    body_results = λ gs n s h k. (h, k);
    body_count = λ gs n. refl;
    returning = refl;
  }

  loop-b : IsLoop compound.LoopB
  loop-b = record {
    parts = refl;
    width = λ n. omega arith;
    plain_inputs = λ port s h. h;
    list = λ tags. refl;
    kinds = λ k. refl;
    outputs = λ gs. refl;
    giving = refl;
    test_inputs = λ n gs. refl;
    body_inputs = λ n gs. refl;
    returns_inputs = λ n gs. refl;
    first_inputs = λ n gs. omega arith;
    test_own = λ gs n s h. h;
    body_own = λ gs n s h. h;
    returns_own = λ gs n s h. h;
    body_results = λ gs n s h k. (h, k);
    body_count = λ gs n. refl;
    returning = refl;
  }

  is-loop : (b : Bool) → IsLoop (loop_kind b)
  is-loop true = loop-b
  is-loop false = loop-a

  -- ---- the graphs of a loop, as they are closed

  module _ (c : Compound) (loop : IsLoop c) (ls : List Level) (i t b r : Lowered) (row made : List Ty) (ri : Made x (Some (c, part.Initialization)) [] ls (Of x row) i)
      (rt : Made x (Some (c, part.Test)) (types i.values) ls (Of x (ty.Bool ∷ [])) t) (rb : Made x (Some (c, part.Body)) (types i.values) ls (Of x row) b) (rr : Made x (Some (c, part.Returns)) (map many (types i.values)) ls (Of x made) r) where
    abbrev ms : List Lowered
    ms = i ∷ t ∷ b ∷ r ∷ []

    abbrev ks : List Wire
    ks = inputs ms

    abbrev gs : List LoweredGraph
    gs = closed_list ks 0 (length ks) ms

    abbrev arms : List ℕ
    arms = 0 ∷ 1 ∷ 2 ∷ 3 ∷ []

    inner : AllInner x ls ms
    inner = (
      inner-of x (Some (c, part.Initialization)) [] ls (Of x row) i ri,
      (
        inner-of x (Some (c, part.Test)) (types i.values) ls (Of x (ty.Bool ∷ [])) t rt,
        (
          inner-of x (Some (c, part.Body)) (types i.values) ls (Of x row) b rb,
          (inner-of x (Some (c, part.Returns)) (map many (types i.values)) ls (Of x made) r rr, tt),
        ),
      ),
    )

    outer : Outer x ls ks
    outer = inner-outer x ls ms inner

    row-results : (m : Lowered) → Of x row m.values → AreSorted x.sort (closed ks 0 (length ks) m).results (sorts_of x row)
    row-results m h = forms_are.results-sorted x ks 0 (length ks) m.values row h

    made-results : AreSorted x.sort (closed ks 0 (length ks) r).results (sorts_of x made)
    made-results = forms_are.results-sorted x ks 0 (length ks) r.values made rr.values

    test-results : AreSorted x.sort (closed ks 0 (length ks) t).results (sorts_of x (ty.Bool ∷ []))
    test-results = forms_are.results-sorted x ks 0 (length ks) t.values (ty.Bool ∷ []) rt.values

    first-results : (port : ℕ) → result_of x.sort gs 0 port ≡ at_port port (sorts_of x row)
    first-results port = result-at x gs 0 (closed ks 0 (length ks) i) (sorts_of x row) refl (row-results i ri.values) port

    first-count : results_at gs 0 ≡ length row
    first-count = sorted-length x.sort (closed ks 0 (length ks) i).results (sorts_of x row) (row-results i ri.values) ∙ length-map row (plain x.forms x.names x.hs x.bare x.sort x.sorting)

    last-count : results_at gs 3 ≡ length made
    last-count = sorted-length x.sort (closed ks 0 (length ks) r).results (sorts_of x made) made-results ∙ length-map made (plain x.forms x.names x.hs x.bare x.sort x.sorting)

    compound-right : (ns : List ℕ) → AreNumbers x.forms x.names ns made → (ws : List Wire) (first shift : ℕ) → IsCompound x.sort c (closed_wires ws first shift ks) arms gs (record { port = 1; types = map One ns })
    compound-right ns num ws first shift = record {
      parts = loop.parts;
      width = loop.width (length (closed_wires ws first shift ks));
      inputs = inputs-fit x c loop.plain_inputs ls ws ks first shift 1 outer;
      list = loop.list (tags_of (sort_in x.sort (closed_wires ws first shift ks) 1));
      outputs = outputs-fit x c gs ns made num (subst (λ k. (port : ℕ) → result_of x.sort gs k port ≡ at_port port (sorts_of x made)) (sym loop.giving) (result-at x gs 3 (closed ks 0 (length ks) r) (sorts_of x made) refl made-results))
          (let e = loop.outputs gs in omega (arith, last-count, e));
    }

    -- the test and the turn take what the loop values are
    value-input : (q : ℕ) (a : Carried) → at_port q (types i.values) ≡ Some a → (q ≤ results_at gs 0) × (result_of x.sort gs 0 q ≡ Some (x.sort a))
    value-input zero a e = absurd cc
    value-input (suc j) a e = let s = value-own row i.values ri.values j a e in let l = s.0 in (omega (arith, l, first-count), first-results (suc j) ∙ s.1)

    -- returns take all of them
    many-input : (q : ℕ) (a : Carried) → at_port q (map many (types i.values)) ≡ Some a → (q ≤ results_at gs 0) × IsAllOf (result_of x.sort gs 0 q) (x.sort a)
    many-input zero a e = absurd cc
    many-input (suc j) a e = let s = manys-own x row i.values ri.values j a e in let l = s.0 in (omega (arith, l, first-count), (s.1.0, first-results (suc j) ∙ s.1.1, s.1.2))

    parts-right : (ws : List Wire) (first shift k : ℕ) (p : Part) (d : LoweredGraph) → part_at c k ≡ Some p → slice_get gs k ≡ Some d → IsPartGraph x.sort x.at c p k (closed_wires ws first shift ks) arms gs d
    parts-right ws first shift k p d e f = by k (sym (loop.kinds k) ∙ e) f
      where
        vs : List Wire
        vs = closed_wires ws first shift ks

        l : length vs ≡ length ks
        l = length-map ks (closed_wire ws first shift)

        Goal : ℕ → Part → LoweredGraph → Type 0
        Goal k p d = IsPartGraph x.sort x.at c p k vs arms gs d

        true-sort : (j : ℕ) (s : Sort) → slice_get (sorts_of x (ty.Bool ∷ [])) j ≡ Some s → s ≡ Plain ty.Bool
        true-sort zero s e = sym (same_Some (Plain (x.bare ty.Bool)) s e) ∙ forms_are.bool-is x
        true-sort (suc j) s e = absurd cc

        by : (k : ℕ) → loop_part k ≡ Some p → slice_get gs k ≡ Some d → Goal k p d
        by zero e f =
            at-place (Goal 0) part.Initialization p (closed ks 0 (length ks) i) d e f
            (bare-part x c part.Initialization 0 ls row i ks vs arms gs ri (inputs-cover ms).0 outer l (loop.first_inputs (length vs) gs) (input-sort x ls ws ks first shift outer) (λ j s e. forms_are.sorts-plain x row j s e) refl)
        by (suc zero) e f =
            at-place (Goal 1) part.Test p (closed ks 0 (length ks) t) d e f
            (part-graph x c part.Test 1 (types i.values) ls (Of x (ty.Bool ∷ [])) t ks 0 (length ks) vs arms gs (sorts_of x (ty.Bool ∷ [])) rt (inputs-cover ms).1.0 outer
            (part-closes x c part.Test vs arms gs 1 ks (types i.values) (results_at gs 0) l (loop.test_inputs (length vs) gs) (input-sort x ls ws ks first shift outer) (λ q a e. let v = value-input q a e in (v.0, loop.test_own gs q (x.sort a) v.1))) test-results true-sort refl)
        by (suc (suc zero)) e f =
            let many_rows = length-map row (plain x.forms x.names x.hs x.bare x.sort x.sorting) in
            at-place (Goal 2) part.Body p (closed ks 0 (length ks) b) d e f
            (part-graph x c part.Body 2 (types i.values) ls (Of x row) b ks 0 (length ks) vs arms gs (sorts_of x row) rb (inputs-cover ms).1.1.0 outer
            (part-closes x c part.Body vs arms gs 2 ks (types i.values) (results_at gs 0) l (loop.body_inputs (length vs) gs) (input-sort x ls ws ks first shift outer) (λ q a e. let v = value-input q a e in (v.0, loop.body_own gs q (x.sort a) v.1))) (row-results b rb.values)
            (λ j s e. let z : suc j ≡ 1 + j = omega arith in loop.body_results gs (1 + j) s (forms_are.sorts-plain x row j s e) (subst (λ n. result_of x.sort gs 0 n ≡ Some s) z (first-results (suc j) ∙ e))) (many_rows ∙ sym first-count ∙ sym (loop.body_count gs (length (sorts_of x row)))))
        by (suc (suc (suc zero))) e f =
            at-place (Goal 3) part.Returns p (closed ks 0 (length ks) r) d e f
            (part-graph x c part.Returns 3 (map many (types i.values)) ls (Of x made) r ks 0 (length ks) vs arms gs (sorts_of x made) rr (inputs-cover ms).1.1.1.0 outer
            (part-closes x c part.Returns vs arms gs 3 ks (map many (types i.values)) (results_at gs 0) l (loop.returns_inputs (length vs) gs) (input-sort x ls ws ks first shift outer) (λ q a e. let v = many-input q a e in (v.0, loop.returns_own gs q (x.sort a) v.1))) made-results
            (λ j s e. forms_are.sorts-plain x made j s e) refl)
        by (suc (suc (suc (suc k)))) e f = absurd cc

  -- ---- the loop

  -- the loop names, and what is collected besides
  turn-does : (γ loop more : List Ty) (es : List Lowers) → AllTo x (γ ++ loop) es more → (p : Which) (own : List Carried) (before : List Outs) (ls : List Level) (around names : List Wire) → Of x γ around → Of x loop names
      → In x (level own before ∷ ls) around → In x (level own before ∷ ls) names → Does x p own before ls (Of x (loop ++ more)) (row_of_turn es around names)
  turn-does γ loop more es h p own before ls around names ta tn ia n =
      forms_are.then-does x p own before ls more (loop ++ more) (all_lowered es (around ++ names)) (λ ws. only (names ++ ws))
      (forms_are.all-does x (γ ++ loop) es more h p own before ls (around ++ names) (typed-both x.forms x.names around names γ loop ta tn) (in-both x.forms x.names (level own before ∷ ls) around names ia n))
      (λ later ws aw tw.
      forms_are.only-does x p own (before ++ later) ls (loop ++ more) (names ++ ws) (in-both x.forms x.names (level own (before ++ later) ∷ ls) names ws (forms_are.more-in x own before later ls names n) aw)
      (typed-both x.forms x.names names ws loop more tn tw))

  test-does : (γ : List Ty) (is_until : Bool) (ts : List Lowers) → AllTo x γ ts (ty.Bool ∷ []) → To x γ (ty.Bool ∷ []) (test_lowered is_until ts)
  test-does γ true ts h = not-does x γ (all_lowered ts) (forms_are.all-does x γ ts (ty.Bool ∷ []) h)
  test-does γ false ts h = forms_are.all-does x γ ts (ty.Bool ∷ []) h

  types-both : (vs ws : List Wire) → types vs ++ types ws ≡ types (vs ++ ws)
  types-both [] ws = refl
  types-both (v ∷ vs) ws = ap (λ l. v.ty ∷ l) (types-both vs ws)

  pub initial-does : (γ loop later row made : List Ty) (t : Turns) (fs : List (List Lowers)) (test : List Lowers) (ds : List (List Lowers)) (ps : List Phrase) (ns : List ℕ)
      → DefsTo x γ fs loop → AllTo x (γ ++ loop) test (ty.Bool ∷ []) → DefsTo x (γ ++ loop) ds later → Renews loop t.renewed later → PhrasesTo (γ ++ loop) ps row → AreMade t.clauses row made → AreNumbers x.forms x.names ns made
      → To x γ made (initial_lowered t fs test ds ps ns)
  initial-does γ loop later row made t fs test ds ps ns f_to test_to d_to renews phrases clauses num p own before ls env te ie q s =
      let c = loop_kind t.is_first in
      let is = is-loop t.is_first in
      let up = level own before in
      let outer_levels = up ∷ ls in
      let around = map into env in
      let around_typed = typed-into x.forms x.names env γ te in
      let md = defs_lowered fs around 0 (suc q) in
      let names = drop (length env) md.values in
      let bs = unless_places t.clauses in
      let loops = loop_name (length env) (length names) in
      let es = extras loops bs ps in
      let places = collected loops (length names) bs ps in
      let first = λ (around : List Wire). andthen (defs_lowered fs around) (λ all. row_of_turn es around (drop (length env) all)) in
      let turn = λ (inside : List Wire). andthen (defs_lowered ds inside) (λ all. row_of_turn es (take_up (length env) inside) (renew t.renewed (drop (length inside) all) (drop (length env) inside))) in
      let tys = types names in
      let seen = around ++ own_inputs 1 tys in
      let i = new_graph (first around) q in
      let y = new_graph (test_lowered t.is_until test seen) (q + size i) in
      let b = new_graph (turn seen) (q + size i + size y) in
      let all_many = map many (types i.values) in
      let ms_own = own_inputs 1 all_many in
      let r = new_graph (returns_lowered (Wired one) t.clauses (map (wire_at ms_own) places) ns) (q + size i + size y + size b) in
      let ms = i ∷ y ∷ b ∷ r ∷ [] in
      let ks = inputs ms in
      let behind = all_lowered es (around ++ names) (0 + length md.nodes) (suc q + length md.graphs) in
      let sits1 = closing.others x.forms x.names x.sort x.at q ks 0 (length ks) i (y ∷ b ∷ r ∷ []) s in
      let sits2 = closing.others x.forms x.names x.sort x.at (q + size i) ks 0 (length ks) y (b ∷ r ∷ []) sits1 in
      let sits3 = closing.others x.forms x.names x.sort x.at (q + size i + size y) ks 0 (length ks) b (r ∷ []) sits2 in
      let sits_i = closing.sits-inside x.forms x.names x.sort x.at q ks 0 (length ks) i (y ∷ b ∷ r ∷ []) s in
      let sits_y = closing.sits-inside x.forms x.names x.sort x.at (q + size i) ks 0 (length ks) y (b ∷ r ∷ []) sits1 in
      let sits_b = closing.sits-inside x.forms x.names x.sort x.at (q + size i + size y) ks 0 (length ks) b (r ∷ []) sits2 in
      let sits_r = closing.sits-inside x.forms x.names x.sort x.at (q + size i + size y + size b) ks 0 (length ks) r [] sits3 in
      let context : length γ ≡ length env = sym (typed-length x.forms x.names env γ te) in
      let around_in = all-into x.forms x.names up (level [] []) ls env γ te ie in
      let rd = forms_are.defs-does x γ fs loop f_to (Some (c, part.Initialization)) [] [] outer_levels around around_typed around_in (suc q)
      (sits-left x.forms x.names x.sort x.at (suc q) md.graphs (row_of_turn es around names (0 + length md.nodes) (suc q + length md.graphs)).graphs sits_i) in
      let names_typed = typed-drop x.forms x.names γ loop md.values (length env) context rd.values in
      let named_many : length loop ≡ length names = sym (typed-length x.forms x.names names loop names_typed) in
      let gathered = collect γ loop bs ps row (made-aligned x t.clauses row made clauses) phrases loop (λ k a e. e) in
      let told : Collects (γ ++ loop) loop es row places =
      subst (λ n. Collects (γ ++ loop) loop (extras (loop_name (length env) n) bs ps) row (collected (loop_name (length env) n) n bs ps)) named_many
      (subst (λ n. Collects (γ ++ loop) loop (extras (loop_name n (length loop)) bs ps) row (collected (loop_name n (length loop)) (length loop) bs ps)) context gathered) in
      let total = loop ++ told.more in
      let ri = forms_are.then-does x (Some (c, part.Initialization)) [] [] outer_levels (γ ++ loop) total (defs_lowered fs around) (λ all. row_of_turn es around (drop (length env) all))
      (forms_are.defs-does x γ fs loop f_to (Some (c, part.Initialization)) [] [] outer_levels around around_typed around_in)
      (λ more all ia ta.
      turn-does γ loop told.more es told.lowers (Some (c, part.Initialization)) [] more outer_levels around (drop (length env) all) around_typed (typed-drop x.forms x.names γ loop all (length env) context ta)
      (forms_are.more-in x [] [] more outer_levels around around_in) (in-drop x.forms x.names (level [] more ∷ outer_levels) (length env) all ia)) (suc q) sits_i in
      let seen_typed = typed-both x.forms x.names around (own_inputs 1 tys) γ loop around_typed (own-typed x.forms x.names loop names names_typed 0 1) in
      let own_is = subst (λ l. In x (level l [] ∷ outer_levels) (own_inputs 1 tys)) (types-both names behind.values) (own-in x.forms x.names [] tys (types behind.values) [] outer_levels) in
      let seen_in = in-both x.forms x.names (level (types i.values) [] ∷ outer_levels) around (own_inputs 1 tys) (all-into x.forms x.names up (level (types i.values) []) ls env γ te ie) own_is in
      let ry = test-does (γ ++ loop) t.is_until test test_to (Some (c, part.Test)) (types i.values) [] outer_levels seen seen_typed seen_in (suc (q + size i)) sits_y in
      let rb = forms_are.then-does x (Some (c, part.Body)) (types i.values) [] outer_levels ((γ ++ loop) ++ later) total (defs_lowered ds seen) (λ all. row_of_turn es (take_up (length env) seen) (renew t.renewed (drop (length seen) all) (drop (length env) seen)))
      (forms_are.defs-does x (γ ++ loop) ds later d_to (Some (c, part.Body)) (types i.values) [] outer_levels seen seen_typed seen_in)
      (λ more all ia ta.
      let here = forms_are.more-in x (types i.values) [] more outer_levels seen seen_in in
      let levels = level (types i.values) more ∷ outer_levels in
      turn-does γ loop told.more es told.lowers (Some (c, part.Body)) (types i.values) more outer_levels (take_up (length env) seen) (renew t.renewed (drop (length seen) all) (drop (length env) seen))
      (typed-take x.forms x.names γ loop seen (length env) context seen_typed)
      (typed-renew x.forms x.names loop t.renewed later renews (drop (length seen) all) (drop (length env) seen) (typed-drop x.forms x.names (γ ++ loop) later all (length seen) (sym (typed-length x.forms x.names seen (γ ++ loop) seen_typed)) ta)
      (typed-drop x.forms x.names γ loop seen (length env) context seen_typed))
      (in-take x.forms x.names levels (length env) seen here) (in-renew x.forms x.names levels t.renewed (drop (length seen) all) (drop (length env) seen) (in-drop x.forms x.names levels (length seen) all ia) (in-drop x.forms x.names levels (length env) seen here)))
      (suc (q + size i + size y)) sits_b in
      let own_many = subst (λ l. In x (level l [] ∷ outer_levels) ms_own) (append-nil all_many) (own-in x.forms x.names [] all_many [] [] outer_levels) in
      let rr = returns-does x (Some (c, part.Returns)) is.returning t.clauses row made clauses all_many [] outer_levels (Wired one) (map (wire_at ms_own) places) ns (forms_are.one-typed x, (tt, tt))
      (many-places total row places ms_own told.places (manys-typed x total i.values ri.values 0 1)) (in-places (level all_many [] ∷ outer_levels) ms_own places own_many) num (suc (q + size i + size y + size b)) sits_r in
      whole-right x p own before ls c ms (0 ∷ 1 ∷ 2 ∷ 3 ∷ []) 0 ns made q (inner c is outer_levels i y b r total made ri ry rb rr) s num (compound-right c is outer_levels i y b r total made ri ry rb rr ns num) (parts-right c is outer_levels i y b r total made ri ry rb rr)
