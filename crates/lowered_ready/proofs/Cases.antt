-- `tagcase` and `is t(u)` obey the rules.
use Rattle.std.proofs.Common.{◌≡◌, ℕ, zero, suc, ◌+◌, ◌-◌, ◌<◌, ◌≤◌, Bool, true, false, List, [], ◌∷◌, map, length, slice_get, Some, refl, sym, ap, subst, ◌∙◌, arith, nat_le, le-leb}
use Rattle.std.specs.Prelude.{All, MatchBool}
use Rattle.std.proofs.lemmas.List.{length-map}
use Rattle.std.proofs.lemmas.Option.{same_Some, slice_get_within}
use Rattle.flow_value.specs.declared.ty.Ty.{Ty}
use Rattle.flow_value.specs.declared.ty.Ty.TheVariants as ty
use Rattle.if1_graph.specs.declared.op.Compound.TheVariants as compound
use Rattle.if1_graph.specs.declared.op.Part.{Part}
use Rattle.if1_graph.specs.declared.op.Part.TheVariants as part
use Rattle.if1_graph.specs.Tables.{at_port}
use Rattle.if1_graph.specs.Types.{Sort, Plain}
use Rattle.if1_graph.specs.Parts.{part_at}
use Rattle.if1_graph.specs.Ports.{IsAssociation, tags_of}
use Rattle.if1_graph.specs.Typing.{IsMember}
use Rattle.typed_tree.specs.Types.{Member, AreNumbers}
use Rattle.lowering.specs.declared.feed.Carried.{Carried}
use Rattle.lowering.specs.declared.feed.Carried.TheVariants.{One}
use Rattle.lowering.specs.declared.feed.Wire.{Wire}
use Rattle.lowering.specs.declared.graph.LoweredGraph.{LoweredGraph}
use Rattle.lowering.specs.declared.graph.Lowered.{Lowered}
use Rattle.lowering.specs.Graphs.{closed, closed_wire, closed_wires, closed_graphs, inputs, tag_case_on}
use Rattle.lowering_meaning.proofs.Wired.{IsTyped, typed-ports}
use Rattle.lowered_ready.specs.Ports.{Outs, sort_in}
use Rattle.lowered_ready.specs.Parts.{IsShown, most_results, result_of, FitsNodeInput, FitsOwnInput, IsPartInput, AreInputs, IsCompound}
use Rattle.lowered_ready.specs.Rules.{IsPartGraph}
use Rattle.lowered_ready.specs.RuleSorts.{unnamed}
use Rattle.lowered_ready.proofs.Scopes.{Level, level, all-more, ports-in}
use Rattle.lowered_ready.proofs.Made.{Right}
use Rattle.lowered_ready.proofs.Closing.{AreCovered, AllCovered, Closes, closed_list, closed-shown, inputs-cover}
use Rattle.lowered_ready.proofs.Closing as closing
use Rattle.lowered_ready.proofs.RuleSorting.{plain, sorted-length, seen-shown, sort-of, sort-shown}
use Rattle.lowered_ready.proofs.World.{World, Which, Of, In}
use Rattle.lowered_ready.proofs.Wholes.{Outer, Made, Sit, AllInner, sorts_of, value-plain, inner-of, inner-outer, inner-graphs, input-sort, part-graph, result-at, outputs-fit}
use Rattle.lowered_ready.proofs.RuleForms as forms_are
use Rattle.lowered_ready.proofs.Members.{tags-of-union, member-at}

module _ (x : World) where
  abbrev bare_members : List Member → List Member
  bare_members ms = map (unnamed x.bare) ms

  -- what an arm sees as its first input, if anything
  abbrev pub ContentFits : List Member → List ℕ → ℕ → List Carried → Type 0
  ContentFits ms arms k own = (q : ℕ) (c : Carried) → at_port q own ≡ Some c → (q ≡ 1) × (a : Ty) × IsTyped x.forms x.names c a × ((tag : ℕ) → slice_get arms tag ≡ Some k → (m : Member) × (slice_get ms tag ≡ Some m) × (a ≡ m.1))

  -- graphs of arms from a place on, each with what it sees
  pub data ArmsMade (ls : List Level) (tys : List Ty) (ms : List Member) (arms : List ℕ) : ℕ → List Lowered → Type 0 where
    no_arm_made : {k : ℕ} → ArmsMade ls tys ms arms k []
    arm_made : {k : ℕ} (own : List Carried) (m : Lowered) (gs : List Lowered) → Made x (Some (compound.TagCase, part.Arm)) own ls (Of x tys) m → ContentFits ms arms k own → ArmsMade ls tys ms arms (suc k) gs → ArmsMade ls tys ms arms k (m ∷ gs)

  arms-inner : (ls : List Level) (tys : List Ty) (ms : List Member) (arms : List ℕ) (k : ℕ) (gs : List Lowered) → ArmsMade ls tys ms arms k gs → AllInner x ls gs
  arms-inner ls tys ms arms k _ no_arm_made = tt
  arms-inner ls tys ms arms k _ (arm_made own m gs r c a) = (inner-of x (Some (compound.TagCase, part.Arm)) own ls (Of x tys) m r, arms-inner ls tys ms arms (suc k) gs a)

  -- ---- the arms of a TagCase, as they are closed

  module _ (ls : List Level) (tys : List Ty) (ms : List Member) (arms : List ℕ) (u : Wire) (first_arm : Lowered) (later : List Lowered)
      (made_arms : ArmsMade ls tys ms arms 0 (first_arm ∷ later)) (ut : Of x (ty.Uni ms ∷ []) (u ∷ [])) where
    abbrev gs : List Lowered
    gs = first_arm ∷ later

    abbrev ks : List Wire
    ks = inputs gs

    abbrev ds : List LoweredGraph
    ds = closed_list ks 1 0 gs

    outer : Outer x ls ks
    outer = inner-outer x ls gs (arms-inner ls tys ms arms 0 gs made_arms)

    counted : (k : ℕ) (hs : List Lowered) → ArmsMade ls tys ms arms k hs → (d : LoweredGraph) (i : ℕ) → slice_get (closed_list ks 1 0 hs) i ≡ Some d → length d.results ≡ length tys
    counted k _ no_arm_made d i e = absurd cc
    counted k _ (arm_made own m hs r c a) d zero e =
        subst (λ (d : LoweredGraph). length d.results ≡ length tys) (same_Some (closed ks 1 0 m) d e)
        (sorted-length x.sort (closed_wires ks 1 0 m.values) (sorts_of x tys) (forms_are.results-sorted x ks 1 0 m.values tys r.values) ∙ length-map tys (plain x.forms x.names x.hs x.bare x.sort x.sorting))
    counted k _ (arm_made own m hs r c a) d (suc i) e = counted (suc k) hs a d i e

    most-of : (k : ℕ) (hs : List Lowered) → ArmsMade ls tys ms arms k hs → most_results (closed_list ks 1 0 hs) ≤ length tys
    most-of k _ no_arm_made = omega arith
    most-of k _ (arm_made own m hs r c a) = let here = counted k (m ∷ hs) (arm_made own m hs r c a) (closed ks 1 0 m) 0 refl in let rest = most-of (suc k) hs a in omega (arith, here, rest)

    most : most_results ds ≡ length tys
    most = let few = most-of 0 gs made_arms in let here = counted 0 gs made_arms (closed ks 1 0 first_arm) 0 refl in omega (arith, few, here)

    first-results : (port : ℕ) → result_of x.sort ds 0 port ≡ at_port port (sorts_of x tys)
    first-results port = by made_arms
      where
        by : ArmsMade ls tys ms arms 0 (first_arm ∷ later) → result_of x.sort ds 0 port ≡ at_port port (sorts_of x tys)
        by (arm_made own _ _ r c a) = result-at x ds 0 (closed ks 1 0 first_arm) (sorts_of x tys) refl (forms_are.results-sorted x ks 1 0 first_arm.values tys r.values) port

    -- what the node's first input carries
    union-sort : x.sort u.ty ≡ Plain (ty.Uni (bare_members ms))
    union-sort = sort-of x.forms x.names x.hs x.bare x.sort x.sorting u.ty (ty.Uni ms) ut.0.0 ∙ ap Plain (x.sorting.union_of ms)

    union-shown : (ws : List Wire) (first shift : ℕ) → IsShown (closed_wire ws first shift u).feed
    union-shown ws first shift = closed-shown ws first shift u.feed (seen-shown u.feed ut.0.1)

    tags-are : (ws : List Wire) (first shift : ℕ) → tags_of (sort_in x.sort (closed_wires ws first shift (u ∷ ks)) 1) ≡ Some (bare_members ms)
    tags-are ws first shift = ap tags_of (sort-shown x.sort (closed_wire ws first shift u).feed u.ty (union-shown ws first shift) ∙ ap Some union-sort) ∙ tags-of-union x (bare_members ms)

    later-inputs : (ws : List Wire) (first shift i : ℕ) (js : List Wire) → Outer x ls js → AreInputs x.sort compound.TagCase (suc (suc i)) (closed_wires ws first shift js)
    later-inputs ws first shift i [] a = tt
    later-inputs ws first shift i (k ∷ js) a = ((closed-shown ws first shift k.feed a.0.2, value-plain x k.ty a.0.1), later-inputs ws first shift (suc i) js a.1)

    compound-right : (ns : List ℕ) → AreNumbers x.forms x.names ns tys → All (λ k. k < length gs) arms → length arms ≡ length ms → (ws : List Wire) (first shift : ℕ)
        → IsCompound x.sort compound.TagCase (closed_wires ws first shift (u ∷ ks)) arms ds (record { port = 1; types = map One ns })
    compound-right ns num within all ws first shift =
        let same = length-map gs (closed ks 1 0) in
        let many = length-map ms (unnamed x.bare) in
        record {
          parts = omega arith;
          width = omega arith;
          inputs = ((union-shown ws first shift, (bare_members ms, union-sort)), later-inputs ws first shift 0 ks outer);
          list = subst (λ o. IsAssociation compound.TagCase o (length ds) arms) (sym (tags-are ws first shift)) (subst (λ n. All (λ k. k < n) arms) (sym same) within, all ∙ sym many);
          outputs = outputs-fit x compound.TagCase ds ns tys num first-results (omega (arith, most));
        }

    arm-closes : (k : ℕ) (own : List Carried) → ContentFits ms arms k own → (ws : List Wire) (first shift : ℕ) → Closes x.forms x.names x.sort x.at own ks 1 0 (IsPartInput x.sort compound.TagCase part.Arm (closed_wires ws first shift (u ∷ ks)) arms ds k)
    arm-closes k own fits ws first shift = record {
      owns = λ q c e.
          let f = fits q c e in
          let z : 1 ≡ 0 + q = let y = f.0 in omega (arith, y) in
          subst (λ n. IsPartInput x.sort compound.TagCase part.Arm vs arms ds k n (x.sort c)) z
          (omega arith, omega arith, here 1 (x.sort c) (content c f.1 f.2 f.3) (nat_le 1 (length vs)) refl (omega arith));
      around = λ i w e.
          let z : suc (suc i) ≡ suc (1 + i) = omega arith in
          let l = slice_get_within ks i w e in
          subst (λ n. IsPartInput x.sort compound.TagCase part.Arm vs arms ds k n (x.sort w.ty)) z
          (omega arith, omega (arith, l, same), here (suc (suc i)) (x.sort w.ty) (input-sort x ls ws ks first shift outer i w e) (nat_le (suc (suc i)) (length vs)) refl (omega (arith, l, same)));
    }
      where
        vs : List Wire
        vs = closed_wires ws first shift (u ∷ ks)

        same : length (closed_wires ws first shift ks) ≡ length ks
        same = length-map ks (closed_wire ws first shift)

        here : (port : ℕ) (s : Sort) → FitsNodeInput x.sort vs arms part.Arm k port s → (b : Bool) → nat_le port (length vs) ≡ b → port ≤ length vs
            → MatchBool b (FitsNodeInput x.sort vs arms part.Arm k port s) (FitsOwnInput x.sort compound.TagCase part.Arm ds (port - length vs) s)
        here port s h true e l = h
        here port s h false e l = let t = le-leb port (length vs) l in absurd cc

        content : (c : Carried) (a : Ty) → IsTyped x.forms x.names c a → ((tag : ℕ) → slice_get arms tag ≡ Some k → (m : Member) × (slice_get ms tag ≡ Some m) × (a ≡ m.1)) → FitsNodeInput x.sort vs arms part.Arm k 1 (x.sort c)
        content c a t h = (
          value-plain x c (a, t),
          λ tag e.
              let m = h tag e in
              subst (λ o. IsMember o (suc tag) (x.sort c)) (sym (tags-are ws first shift))
              (unnamed x.bare m.0, member-at x ms tag m.0 m.1, sort-of x.forms x.names x.hs x.bare x.sort x.sorting c a t ∙ ap (λ t. Plain (x.bare t)) m.2),
        )

    arm-right : (ws : List Wire) (first shift k : ℕ) (hs : List Lowered) → ArmsMade ls tys ms arms k hs → AllCovered ks hs → (i : ℕ) (d : LoweredGraph) → slice_get (closed_list ks 1 0 hs) i ≡ Some d
        → IsPartGraph x.sort x.at compound.TagCase part.Arm (k + i) (closed_wires ws first shift (u ∷ ks)) arms ds d
    arm-right ws first shift k _ no_arm_made v i d e = absurd cc
    arm-right ws first shift k _ (arm_made own m hs r c a) v zero d e =
        let z : k ≡ k + 0 = omega arith in
        let vs = closed_wires ws first shift (u ∷ ks) in
        let count = length-map tys (plain x.forms x.names x.hs x.bare x.sort x.sorting) in
        subst (λ n. IsPartGraph x.sort x.at compound.TagCase part.Arm n vs arms ds d) z
        (subst (IsPartGraph x.sort x.at compound.TagCase part.Arm k vs arms ds) (same_Some (closed ks 1 0 m) d e)
        (part-graph x compound.TagCase part.Arm k own ls (Of x tys) m ks 1 0 vs arms ds (sorts_of x tys) r v.0 outer (arm-closes k own c ws first shift) (forms_are.results-sorted x ks 1 0 m.values tys r.values)
        (λ i s e. (forms_are.sorts-plain x tys i s e, first-results (1 + i) ∙ (let y : 1 + i ≡ suc i = omega arith in ap (λ n. at_port n (sorts_of x tys)) y ∙ e))) (count ∙ sym most)))
    arm-right ws first shift k _ (arm_made own m hs r c a) v (suc i) d e =
        let z : suc k + i ≡ k + suc i = omega arith in
        subst (λ n. IsPartGraph x.sort x.at compound.TagCase part.Arm n (closed_wires ws first shift (u ∷ ks)) arms ds d) z (arm-right ws first shift (suc k) hs a v.1 i d e)

    parts-right : (ws : List Wire) (first shift k : ℕ) (p : Part) (d : LoweredGraph) → part_at compound.TagCase k ≡ Some p → slice_get ds k ≡ Some d → IsPartGraph x.sort x.at compound.TagCase p k (closed_wires ws first shift (u ∷ ks)) arms ds d
    parts-right ws first shift k p d e f =
        let z : 0 + k ≡ k = omega arith in
        subst (λ p. IsPartGraph x.sort x.at compound.TagCase p k (closed_wires ws first shift (u ∷ ks)) arms ds d) (same_Some part.Arm p e)
        (subst (λ n. IsPartGraph x.sort x.at compound.TagCase part.Arm n (closed_wires ws first shift (u ∷ ks)) arms ds d) z (arm-right ws first shift 0 gs made_arms (inputs-cover gs) k d f))

  pub tag-right : (p : Which) (own : List Carried) (before : List Outs) (ls : List Level) (tys : List Ty) (ms : List Member) (arms : List ℕ) (u : Wire) (first_arm : Lowered) (later : List Lowered) (ns : List ℕ) (q : ℕ)
      → ArmsMade (level own before ∷ ls) tys ms arms 0 (first_arm ∷ later) → Of x (ty.Uni ms ∷ []) (u ∷ []) → In x (level own before ∷ ls) (u ∷ []) → AreNumbers x.forms x.names ns tys
      → All (λ k. k < length (first_arm ∷ later)) arms → length arms ≡ length ms → Sit x q (closed_graphs (inputs (first_arm ∷ later)) 1 0 (first_arm ∷ later))
      → Right x.forms x.names x.sort x.at p own before ls (Of x tys) (tag_case_on u (first_arm ∷ later) arms ns (length before) q)
  tag-right p own before ls tys ms arms u first_arm later ns q a ut i num within all s =
      let outer_levels = level own before ∷ ls in
      let gs = first_arm ∷ later in
      let ks = inputs gs in
      let ds = closed_list ks 1 0 gs in
      let o : Outs = record { port = 1; types = map One ns } in
      let numbered = closing.sits-at x.forms x.names x.sort x.at q ks 1 0 gs s in
      let inner = arms-inner outer_levels tys ms arms 0 gs a in
      record {
        outs = o ∷ [];
        nodes = (
          (
            λ ws first shift. (ds, numbered, compound-right outer_levels tys ms arms u first_arm later a ut ns num within all ws first shift),
            λ ws first shift. (ds, numbered, λ k part d e f. parts-right outer_levels tys ms arms u first_arm later a ut ws first shift k part d e f),
            all-more x.forms x.names own before (o ∷ []) ls (u ∷ ks) (i.0, closing.inputs-in x.forms x.names x.sort x.at outer_levels ks (inner-outer x outer_levels gs inner)),
          ),
          tt,
        );
        wires = ports-in x.forms x.names own before ls 1 (map One ns);
        values = typed-ports x.forms x.names ns tys num (suc (length before)) 1;
        graphs = inner-graphs x outer_levels ks 1 0 gs inner;
      }
