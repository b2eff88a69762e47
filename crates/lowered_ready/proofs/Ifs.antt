-- `if` obeys the rules.
use Rattle.std.proofs.Common.{◌≡◌, ℕ, zero, suc, ◌+◌, List, [], ◌∷◌, map, drop, length, slice_get, Some, refl, sym, ap, subst, ◌∙◌, arith}
use Rattle.std.proofs.lemmas.List.{length-map}
use Rattle.std.proofs.lemmas.Option.{same_Some}
use Rattle.flow_value.specs.declared.ty.Ty.{Ty}
use Rattle.flow_value.specs.declared.ty.Ty.TheVariants as ty
use Rattle.if1_graph.specs.declared.op.Compound.{Compound}
use Rattle.if1_graph.specs.declared.op.Compound.TheVariants as compound
use Rattle.if1_graph.specs.declared.op.Part.{Part}
use Rattle.if1_graph.specs.declared.op.Part.TheVariants as part
use Rattle.if1_graph.specs.Tables.{at_port}
use Rattle.if1_graph.specs.Types.{Sort, Plain}
use Rattle.if1_graph.specs.Parts.{part_at}
use Rattle.typed_tree.specs.Types.{AreNumbers}
use Rattle.lowering.specs.declared.feed.Carried.{Carried}
use Rattle.lowering.specs.declared.feed.Carried.TheVariants.{One}
use Rattle.lowering.specs.declared.feed.Wire.{Wire}
use Rattle.lowering.specs.Feeds.{into}
use Rattle.lowering.specs.declared.graph.LoweredGraph.{LoweredGraph}
use Rattle.lowering.specs.declared.graph.Lowered.{Lowered}
use Rattle.lowering.specs.Graphs.{uses, closed, closed_wire, closed_wires, inputs, size, new_graph}
use Rattle.lowering.specs.Operations.{Lowers, all_lowered}
use Rattle.lowering.specs.Choices.{selector_lowered, if_lowered}
use Rattle.lowering_meaning.proofs.Wired.{typed-into}
use Rattle.lowered_ready.specs.Ports.{sort_in}
use Rattle.lowered_ready.specs.Parts.{most_results, result_of, FitsResult, FitsNodeInput, part_inputs, part_results, IsCompound}
use Rattle.lowered_ready.specs.Rules.{IsPartGraph}
use Rattle.lowered_ready.proofs.Scopes.{Level, level, all-into}
use Rattle.lowered_ready.proofs.Closing.{AreCovered, closed_list, inputs-cover}
use Rattle.lowered_ready.proofs.Closing as closing
use Rattle.lowered_ready.proofs.RuleSorting.{plain, sorted-length}
use Rattle.lowered_ready.proofs.World.{World, Of, To, AllTo}
use Rattle.lowered_ready.proofs.Wholes.{Outer, Made, AllInner, sorts_of, inner-of, inner-outer, inputs-fit, input-sort, part-closes, part-graph, result-at, outputs-fit, whole-right}
use Rattle.lowered_ready.proofs.RuleForms as forms_are

-- a graph at a place, by which part it is
pub at-place : (P : Part → LoweredGraph → Type 0) (p q : Part) (d e : LoweredGraph) → Some p ≡ Some q → Some d ≡ Some e → P p d → P q e
at-place P p q d e a b h = subst (λ z. P z e) (same_Some p q a) (subst (P p) (same_Some d e b) h)

module _ (x : World) where
  -- a part without inputs of its own
  pub bare-part : (c : Compound) (p : Part) (k : ℕ) (ls : List Level) (tys : List Ty) (m : Lowered) (ks vs : List Wire) (arms : List ℕ) (gs : List LoweredGraph) → Made x (Some (c, p)) [] ls (Of x tys) m → AreCovered ks (uses m) → Outer x ls ks
      → length vs ≡ length ks → part_inputs c p (length vs) gs ≡ length vs + 0 → ((i : ℕ) (w : Wire) → slice_get ks i ≡ Some w → FitsNodeInput x.sort vs arms p k (suc i) (x.sort w.ty))
      → ((i : ℕ) (s : Sort) → slice_get (sorts_of x tys) i ≡ Some s → FitsResult x.sort c p gs (1 + i) s) → length tys ≡ part_results c p gs (length tys)
      → IsPartGraph x.sort x.at c p k vs arms gs (closed ks 0 (length ks) m)
  bare-part c p k ls tys m ks vs arms gs r v o l i n f e =
      let same = length-map tys (plain x.forms x.names x.hs x.bare x.sort x.sorting) in
      part-graph x c p k [] ls (Of x tys) m ks 0 (length ks) vs arms gs (sorts_of x tys) r v o (part-closes x c p vs arms gs k ks [] 0 l i n (λ q t e. absurd (none q t e)))
      (forms_are.results-sorted x ks 0 (length ks) m.values tys r.values) f (subst (λ n. n ≡ part_results c p gs n) (sym same) e)
    where
      none : (q : ℕ) (t : Carried) → at_port q [] ≡ Some t → ⊥
      none zero t e = cc
      none (suc q) t e = cc

  -- ---- the graphs of a Select, as they are closed

  module _ (ls : List Level) (s0 a0 b0 : Lowered) (tys : List Ty) (rs : Made x (Some (compound.Select, part.Selector)) [] ls (Of x (ty.Int ∷ [])) s0) (ra : Made x (Some (compound.Select, part.Alternative)) [] ls (Of x tys) a0) (rb : Made x (Some (compound.Select, part.Alternative)) [] ls (Of x tys) b0) where
    abbrev ms : List Lowered
    ms = s0 ∷ a0 ∷ b0 ∷ []

    abbrev ks : List Wire
    ks = inputs ms

    abbrev gs : List LoweredGraph
    gs = closed_list ks 0 (length ks) ms

    inner : AllInner x ls ms
    inner = (inner-of x (Some (compound.Select, part.Selector)) [] ls (Of x (ty.Int ∷ [])) s0 rs, (inner-of x (Some (compound.Select, part.Alternative)) [] ls (Of x tys) a0 ra, (inner-of x (Some (compound.Select, part.Alternative)) [] ls (Of x tys) b0 rb, tt)))

    outer : Outer x ls ks
    outer = inner-outer x ls ms inner

    first-results : (port : ℕ) → result_of x.sort gs 1 port ≡ at_port port (sorts_of x tys)
    first-results port = result-at x gs 1 (closed ks 0 (length ks) a0) (sorts_of x tys) refl (forms_are.results-sorted x ks 0 (length ks) a0.values tys ra.values) port

    count-of : (m : Lowered) → Of x tys m.values → length (closed ks 0 (length ks) m).results ≡ length tys
    count-of m t =
        sorted-length x.sort (closed_wires ks 0 (length ks) m.values) (sorts_of x tys) (forms_are.results-sorted x ks 0 (length ks) m.values tys t)
        ∙ length-map tys (plain x.forms x.names x.hs x.bare x.sort x.sorting)

    -- alternatives have as many results as the `if`
    most : most_results (drop 1 gs) ≡ length tys
    most = let a = count-of a0 ra.values in let b = count-of b0 rb.values in omega (arith, a, b)

    compound-right : (ns : List ℕ) → AreNumbers x.forms x.names ns tys → (ws : List Wire) (first shift : ℕ) → IsCompound x.sort compound.Select (closed_wires ws first shift ks) (0 ∷ 1 ∷ 2 ∷ []) gs (record { port = 1; types = map One ns })
    compound-right ns num ws first shift = record {
      parts = omega arith;
      width = omega arith;
      inputs = inputs-fit x compound.Select (λ port s h. h) ls ws ks first shift 1 outer;
      list = refl;
      outputs = outputs-fit x compound.Select gs ns tys num first-results (omega (arith, most));
    }

    alternative : (k : ℕ) (m : Lowered) (vs : List Wire) → Made x (Some (compound.Select, part.Alternative)) [] ls (Of x tys) m → AreCovered ks (uses m) → length vs ≡ length ks
        → ((i : ℕ) (w : Wire) → slice_get ks i ≡ Some w → sort_in x.sort vs (suc i) ≡ Some (x.sort w.ty)) → IsPartGraph x.sort x.at compound.Select part.Alternative k vs (0 ∷ 1 ∷ 2 ∷ []) gs (closed ks 0 (length ks) m)
    alternative k m vs r v l n =
        bare-part compound.Select part.Alternative k ls tys m ks vs (0 ∷ 1 ∷ 2 ∷ []) gs r v outer l (omega arith) n
        (λ i s e. (forms_are.sorts-plain x tys i s e, first-results (1 + i) ∙ (let z : 1 + i ≡ suc i = omega arith in ap (λ n. at_port n (sorts_of x tys)) z ∙ e))) (sym most)

    parts-right : (ws : List Wire) (first shift k : ℕ) (p : Part) (d : LoweredGraph) → part_at compound.Select k ≡ Some p → slice_get gs k ≡ Some d → IsPartGraph x.sort x.at compound.Select p k (closed_wires ws first shift ks) (0 ∷ 1 ∷ 2 ∷ []) gs d
    parts-right ws first shift zero p d e f =
        at-place (λ p d. IsPartGraph x.sort x.at compound.Select p 0 (closed_wires ws first shift ks) (0 ∷ 1 ∷ 2 ∷ []) gs d) part.Selector p (closed ks 0 (length ks) s0) d e f
        (bare-part compound.Select part.Selector 0 ls (ty.Int ∷ []) s0 ks (closed_wires ws first shift ks) (0 ∷ 1 ∷ 2 ∷ []) gs rs (inputs-cover ms).0 outer (length-map ks (closed_wire ws first shift)) (omega arith) (input-sort x ls ws ks first shift outer)
        (λ i s e. one i s e) refl)
      where
        one : (i : ℕ) (s : Sort) → slice_get (sorts_of x (ty.Int ∷ [])) i ≡ Some s → s ≡ Plain ty.Int
        one zero s e = sym (same_Some (Plain (x.bare ty.Int)) s e) ∙ forms_are.int-is x
        one (suc i) s e = absurd cc
    parts-right ws first shift (suc zero) p d e f =
        at-place (λ p d. IsPartGraph x.sort x.at compound.Select p 1 (closed_wires ws first shift ks) (0 ∷ 1 ∷ 2 ∷ []) gs d) part.Alternative p (closed ks 0 (length ks) a0) d e f
        (alternative 1 a0 (closed_wires ws first shift ks) ra (inputs-cover ms).1.0 (length-map ks (closed_wire ws first shift)) (input-sort x ls ws ks first shift outer))
    parts-right ws first shift (suc (suc zero)) p d e f =
        at-place (λ p d. IsPartGraph x.sort x.at compound.Select p 2 (closed_wires ws first shift ks) (0 ∷ 1 ∷ 2 ∷ []) gs d) part.Alternative p (closed ks 0 (length ks) b0) d e f
        (alternative 2 b0 (closed_wires ws first shift ks) rb (inputs-cover ms).1.1.0 (length-map ks (closed_wire ws first shift)) (input-sort x ls ws ks first shift outer))
    parts-right ws first shift (suc (suc (suc k))) p d e f = absurd cc

  pub if-does : (γ tys : List Ty) (test one other : List Lowers) (ns : List ℕ) → AllTo x γ test (ty.Bool ∷ []) → AllTo x γ one tys → AllTo x γ other tys → AreNumbers x.forms x.names ns tys → To x γ tys (if_lowered test one other ns)
  if-does γ tys test one other ns t o e num p own before ls env te a q s =
      let outer = level own before ∷ ls in
      let seen = map into env in
      let typed = typed-into x.forms x.names env γ te in
      let inside = all-into x.forms x.names (level own before) (level [] []) ls env γ te a in
      let s0 = new_graph (selector_lowered test seen) q in
      let a0 = new_graph (all_lowered other seen) (q + size s0) in
      let b0 = new_graph (all_lowered one seen) (q + size s0 + size a0) in
      let ms = s0 ∷ a0 ∷ b0 ∷ [] in
      let ks = inputs ms in
      let sits1 = closing.others x.forms x.names x.sort x.at q ks 0 (length ks) s0 (a0 ∷ b0 ∷ []) s in
      let sits2 = closing.others x.forms x.names x.sort x.at (q + size s0) ks 0 (length ks) a0 (b0 ∷ []) sits1 in
      let rs = forms_are.selector-does x γ test t (Some (compound.Select, part.Selector)) [] [] outer seen typed inside (suc q) (closing.sits-inside x.forms x.names x.sort x.at q ks 0 (length ks) s0 (a0 ∷ b0 ∷ []) s) in
      let ra = forms_are.all-does x γ other tys e (Some (compound.Select, part.Alternative)) [] [] outer seen typed inside (suc (q + size s0)) (closing.sits-inside x.forms x.names x.sort x.at (q + size s0) ks 0 (length ks) a0 (b0 ∷ []) sits1) in
      let rb = forms_are.all-does x γ one tys o (Some (compound.Select, part.Alternative)) [] [] outer seen typed inside (suc (q + size s0 + size a0)) (closing.sits-inside x.forms x.names x.sort x.at (q + size s0 + size a0) ks 0 (length ks) b0 [] sits2) in
      whole-right x p own before ls compound.Select ms (0 ∷ 1 ∷ 2 ∷ []) 0 ns tys q (inner outer s0 a0 b0 tys rs ra rb) s num (compound-right outer s0 a0 b0 tys rs ra rb ns num) (parts-right outer s0 a0 b0 tys rs ra rb)
