-- Clauses with masks, arms of a `tagcase`, and loops over generators.
use Rattle.std.proofs.Common.{◌≡◌, ◌<◌, ◌+◌, ℕ, zero, suc, Bool, true, false, nat_lt, List, [], ◌∷◌, ◌++◌, map, length, get_or, drop, Some, None, refl, sym, ap, ap₂, ◌∙◌, arith, if◌then◌else◌}
use Rattle.std.specs.Prelude.{Result, IfOk}
use Rattle.std.proofs.lemmas.List.{length-map, length-append}
use Rattle.std.proofs.lemmas.Result.{IfOk-weaker}
use Rattle.if1_graph.specs.declared.op.Compound.TheVariants as compound
use Rattle.type_table.specs.declared.form.Form.{Form}
use Rattle.typed_tree.specs.declared.expr.Case.{Case}
use Rattle.typed_tree.specs.declared.expr.Choice.{Choice}
use Rattle.typed_tree.specs.declared.expr.Source.{Source}
use Rattle.typed_tree.specs.declared.expr.ClauseForm.{ClauseForm}
use Rattle.lowering.specs.declared.feed.Feed.TheVariants.{Port}
use Rattle.lowering.specs.declared.feed.Carried.{Carried}
use Rattle.lowering.specs.declared.feed.Carried.TheVariants.{One}
use Rattle.lowering.specs.declared.feed.Wire.{Wire}
use Rattle.lowering.specs.declared.graph.Lowered.{Lowered}
use Rattle.lowering.specs.Feeds.{wire, into}
use Rattle.lowering.specs.Graphs.{Lowering, new_graph, size, whole}
use Rattle.lowering.specs.Operations.{Lowers}
use Rattle.lowering.specs.Choices.{tag_named, first_tag, content_of, arm_names}
use Rattle.lowering.specs.Loops.{clauses_lowered, types, single, many, own_inputs, generators_lowered, returns_lowered, bound_of, forall_lowered}
use Rattle.lowered_data.specs.declared.made.Made.{Made}
use Rattle.lowered_data.specs.States.{with_lowered, next_graph, with_part, unclosed, IsMade, IsPart, AreParts, new_parts, places_in}
use Rattle.lower_nodes.specs.declared.loops.Placed.{Placed}
use Rattle.lower_nodes.specs.Rows.{tags_named}
use Rattle.lower_nodes.specs.Placing.{IsPlaced}
use Rattle.lower_exprs.specs.Phrased.{content_at, with_content, maybe_not}
use Rattle.lower_exprs.proofs.Steps.{three_parts, three_places}

-- ---- clauses

no_flags : (gs : List Lowers) → clauses_lowered [] gs ≡ gs
no_flags [] = refl
no_flags (g ∷ gs) = refl

pub clause_step : (bs : List Bool) (g : Lowers) (gs : List Lowers) → clauses_lowered bs (g ∷ gs) ≡ maybe_not (get_or bs 0 false) g ∷ clauses_lowered (drop 1 bs) gs
clause_step [] g gs = ap (λ k. g ∷ k) (sym (no_flags gs))
clause_step (true ∷ bs) g gs = refl
clause_step (false ∷ bs) g gs = refl

-- ---- arms

pub tags_length : (p n : ℕ) (cs : List Choice) → length (tags_named p n cs) ≡ n
tags_length p zero cs = refl
tags_length p (suc n) cs = ap suc (tags_length (suc p) n cs)

pub tags_at : (p n : ℕ) (cs : List Choice) (k : ℕ) → k < n → get_or (tags_named p n cs) k 0 ≡ tag_named (p + k) cs
tags_at p zero cs k lt = absurd (omega (arith, lt))
tags_at p (suc n) cs zero lt = let e : p ≡ p + 0 = omega arith in ap (λ q. tag_named q cs) e
tags_at p (suc n) cs (suc k) lt = let e : suc p + k ≡ p + suc k = omega arith in tags_at (suc p) n cs k (omega (arith, lt)) ∙ ap (λ q. tag_named q cs) e

pub arm_is : (forms : List Form) (c : Case) (ty at : ℕ) (env : List Wire) → with_content (content_at forms ty c.named (first_tag c at) at) (map into env) ≡ arm_names forms c ty at env
arm_is forms c ty at env = by (nat_lt at c.named)
  where
    here : List Wire
    here = map into env

    content : ℕ
    content = content_of forms ty (first_tag c at)

    by : (b : Bool) → with_content (if b then Some content else None) here ≡ (if b then here ++ wire (Port 0 0 1) (One content) ∷ [] else here)
    by true = refl
    by false = refl

-- ---- loops over generators

number_behind : (f : Lowering) (a b : Made) → IsPart f a b → next_graph b ≡ next_graph a + size (new_graph f (next_graph a))
number_behind f a b p =
    let m = new_graph f (next_graph a) in
    let l = length-append a.graphs (unclosed m ∷ m.graphs) in
    let e : next_graph (with_part a m) ≡ next_graph a + size m = omega (arith, l) in
    ap next_graph p.after_is ∙ e

pub forall_made : {E : Type 0} (answer : Result (List Wire) E) (forms : List Form) (ss : List Source) (cs : List ClauseForm) (body : Lowers) (ts : List ℕ) (bounds env : List Wire)
    (a b c d m : Made) (g s r : Placed)
    → IsPlaced (generators_lowered forms ss (map into bounds)) a b g
    → IsPlaced (body (map into env ++ own_inputs 1 (map single g.carried))) b c s
    → IsPlaced (returns_lowered (bound_of forms ss (map into bounds)) cs (own_inputs (suc (length g.carried)) (map many s.carried)) ts) c d r
    → ((before : Made) (fs : List Lowering) → AreParts fs before d → g.place ∷ s.place ∷ r.place ∷ [] ≡ places_in before fs
    → IfOk answer (λ ws. IsMade (whole compound.ForAll (new_parts before fs) (0 ∷ 1 ∷ 2 ∷ []) (length s.carried) ts) before m ws))
    → IfOk answer (λ ws. IsMade (forall_lowered forms ss cs body ts bounds env) a m ws)
forall_made answer forms ss cs body ts bounds env a b c d m g s r pg ps pr h =
    let q = next_graph a in
    let gl = generators_lowered forms ss (map into bounds) in
    let bl : List Carried → Lowering = λ gc. body (map into env ++ own_inputs 1 (map single gc)) in
    let rl : ℕ → List Carried → Lowering = λ l sc. returns_lowered (bound_of forms ss (map into bounds)) cs (own_inputs (suc l) (map many sc)) ts in
    let g' = new_graph gl q in
    let fs = gl ∷ bl g.carried ∷ rl (length g.carried) s.carried ∷ [] in
    let F : List Carried → List Carried → ℕ → ℕ → Lowered = λ gc sc l k.
    whole compound.ForAll (g' ∷ new_graph (bl gc) (q + size g') ∷ new_graph (rl l sc) (q + size g' + size (new_graph (bl gc) (q + size g'))) ∷ []) (0 ∷ 1 ∷ 2 ∷ []) k ts (length a.nodes) q in
    let gc0 = types g'.values in
    let b0 = new_graph (bl gc0) (q + size g') in
    let eg : g.carried ≡ gc0 = pg.carried in
    let es : s.carried ≡ types b0.values = ps.carried ∙ ap₂ (λ gc n. types (new_graph (bl gc) n).values) eg (number_behind gl a b pg.part) in
    let el : length g.carried ≡ length g'.values = ap (λ (k : List Carried). length k) eg ∙ length-map g'.values (λ (w : Wire). w.ty) in
    let ek : length s.carried ≡ length b0.values = ap (λ (k : List Carried). length k) es ∙ length-map b0.values (λ (w : Wire). w.ty) in
    let same : F g.carried s.carried (length g.carried) (length s.carried) ≡ F gc0 (types b0.values) (length g'.values) (length b0.values) = λ i. F (eg i) (es i) (el i) (ek i) in
    IfOk-weaker answer (λ (ws : List Wire). IsMade (whole compound.ForAll (new_parts a fs) (0 ∷ 1 ∷ 2 ∷ []) (length s.carried) ts) a m ws)
    (λ (ws : List Wire). IsMade (forall_lowered forms ss cs body ts bounds env) a m ws)
    (λ ws p. record {
      after_is = p.after_is ∙ ap (with_lowered a) same;
      values_are = p.values_are ∙ ap (λ (k : Lowered). k.values) same;
    })
    (h a fs (three_parts gl (bl g.carried) (rl (length g.carried) s.carried) a b c d pg.part ps.part pr.part)
    (three_places gl (bl g.carried) (rl (length g.carried) s.carried) a b c d g.place s.place r.place pg.part ps.part pr.part pg.place ps.place pr.place))
