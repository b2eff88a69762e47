-- The graph of generators gives what they make of their bounds.
use Rattle.std.proofs.Common.{◌≡◌, ℕ, zero, suc, ◌+◌, List, [], ◌∷◌, ◌++◌, length, take, drop, get_or, refl, sym, ap, ◌∙◌, arith}
use Rattle.std.proofs.lemmas.List.{length-append}
use Rattle.flow_value.specs.declared.value.Val.{Val}
use Rattle.flow_value.specs.declared.value.Val.TheOpen.{Val-F}
use Rattle.flow_value.specs.declared.value.Val.TheViews.{out-Val}
use Rattle.flow_value.specs.declared.ty.Ty.{Ty}
use Rattle.if1_graph.specs.declared.op.Simple.TheVariants as simple
use Rattle.type_table.specs.declared.form.Form.{Form}
use Rattle.typed_tree.specs.declared.expr.Source.{Source}
use Rattle.typed_tree.specs.declared.expr.Source.TheVariants as source
use Rattle.typed_values.specs.Fitting.{Goes, no_source, over_range, over_array, over_stream, over_array_at, over_stream_at}
use Rattle.typed_rows.specs.Rows.{AreOf}
use Rattle.graph_meaning.specs.Carried.{Carried, Value, Unfilled}
use Rattle.lowering_meaning.proofs.Told.{Telling}
use Rattle.graph_meaning.specs.NodeValues.{scatter_in, scatter_of}
use Rattle.graph_meaning.specs.Demand.{Network}
use Rattle.lowering.specs.declared.feed.Carried.TheVariants.{Many}
use Rattle.lowering.specs.declared.feed.Wire.{Wire}
use Rattle.lowering.specs.declared.graph.Action.TheVariants.{Row}
use Rattle.lowering.specs.declared.graph.Lowered.{Lowered}
use Rattle.lowering.specs.Graphs.{only, joined, a_node}
use Rattle.lowering.specs.Operations.{integer}
use Rattle.lowering.specs.Loops.{take_up, width, elements_in, generator_lowered, generators_lowered}
use Rattle.loop_columns.specs.Generators.{generated_by, generated}
use Rattle.lowering_meaning.proofs.Wires.{AllWires, both-wires, FromNames, MadeFrom}
use Rattle.lowering_meaning.proofs.Sites.{Site, AllCarry, AllCarried, Placed, Made, made-only, made-both, made-more, carried-both, placed-left, placed-right}
use Rattle.lowering_meaning.proofs.Nodes.{row-made}
use Rattle.lowering_meaning.proofs.Forms.{from-both, values-from}
use Rattle.lowering_meaning.proofs.Ifs.{node-from}

-- ---- the first wires, and the others

pub taken : (P : Wire → Type 0) (n : ℕ) (ws : List Wire) → AllWires P ws → AllWires P (take_up n ws)
taken P zero ws h = tt
taken P (suc n) [] h = tt
taken P (suc n) (w ∷ ws) h = (h.0, taken P n ws h.1)

pub dropped : (P : Wire → Type 0) (n : ℕ) (ws : List Wire) → AllWires P ws → AllWires P (drop n ws)
dropped P zero ws h = h
dropped P (suc n) [] h = tt
dropped P (suc n) (w ∷ ws) h = dropped P n ws h.1

-- an array or stream is scattered to two multiples
record Two (cs : List Carried) : Type 0 where
  pub first : Carried
  pub second : Carried
  pub is : cs ≡ first ∷ second ∷ []

scatter-two : (x : Val-F Val) → Two (scatter_in x)
scatter-two (Val-F.Arr a) = record { first = _; second = _; is = refl }
scatter-two (Val-F.Stream vs) = record { first = _; second = _; is = refl }
scatter-two (Val-F.Err c) = record { first = _; second = _; is = refl }
scatter-two (Val-F.Int n) = record { first = _; second = _; is = refl }
scatter-two (Val-F.Bool b) = record { first = _; second = _; is = refl }
scatter-two (Val-F.Char c) = record { first = _; second = _; is = refl }
scatter-two Val-F.Null = record { first = _; second = _; is = refl }
scatter-two (Val-F.Rec vs) = record { first = _; second = _; is = refl }
scatter-two (Val-F.Uni t v) = record { first = _; second = _; is = refl }

module _ (forms : List Form) where
  -- ---- what generators use

  generator-from : (env : List Wire) (s : Source) (ws : List Wire) (k q : ℕ) → AllWires (FromNames env) ws → MadeFrom env (generator_lowered forms s ws k q)
  generator-from env source.Range ws k q h = node-from env (Row simple.RangeGenerate) ws 1 (Many integer ∷ []) k q h
  generator-from env source.Elements ws k q h =
      let m = a_node (Row simple.AScatter) ws 1 (elements_in forms ws ∷ Many integer ∷ []) k q in
      let x = node-from env (Row simple.AScatter) ws 1 (elements_in forms ws ∷ Many integer ∷ []) k q h in
      from-both env m (only (take_up 1 m.values) (k + length m.nodes) (q + length m.graphs)) x (taken (FromNames env) 1 m.values (values-from env m x))
  generator-from env source.Indexed ws k q h = node-from env (Row simple.AScatter) ws 1 (elements_in forms ws ∷ Many integer ∷ []) k q h

  pub generators-from : (env : List Wire) (ss : List Source) (ws : List Wire) (k q : ℕ) → AllWires (FromNames env) ws → MadeFrom env (generators_lowered forms ss ws k q)
  generators-from env [] ws k q h = tt
  generators-from env (s ∷ ss) ws k q h =
      let m = generator_lowered forms s (take_up (width s) ws) k q in
      let n = generators_lowered forms ss (drop (width s) ws) (k + length m.nodes) (q + length m.graphs) in
      let l : Lowered = only (m.values ++ n.values) (k + length m.nodes + length n.nodes) (q + length m.graphs + length n.graphs) in
      let x = generator-from env s (take_up (width s) ws) k q (taken (FromNames env) (width s) ws h) in
      let y = generators-from env ss (drop (width s) ws) (k + length m.nodes) (q + length m.graphs) (dropped (FromNames env) (width s) ws h) in
      from-both env m (joined n l) x (from-both env n l y (both-wires (FromNames env) m.values n.values (values-from env m x) (values-from env n y)))

  -- a wire for each name
  generators-next : (s : Source) (ss : List Source) (ws : List Wire) (k q a b : ℕ) → ((n r : ℕ) → length (generator_lowered forms s (take_up (width s) ws) n r).values ≡ a) → ((n r : ℕ) → length (generators_lowered forms ss (drop (width s) ws) n r).values ≡ b)
      → length (generators_lowered forms (s ∷ ss) ws k q).values ≡ a + b
  generators-next s ss ws k q a b x y =
      let m = generator_lowered forms s (take_up (width s) ws) k q in
      let n = generators_lowered forms ss (drop (width s) ws) (k + length m.nodes) (q + length m.graphs) in
      length-append m.values n.values ∙ (ap (λ i. i + length n.values) (x k q) ∙ ap (λ i. a + i) (y (k + length m.nodes) (q + length m.graphs)))

  pub generators-wide : (ss : List Source) (tys xs : List Ty) → Goes ss tys xs → (ws : List Wire) (k q : ℕ) → length (generators_lowered forms ss ws k q).values ≡ length xs
  generators-wide _ _ _ no_source ws k q = refl
  generators-wide _ _ _ (over_range {ss = ss} {bounds = bounds} {names = names} g) ws k q =
      generators-next source.Range ss ws k q 1 (length names) (λ n r. refl) (λ n r. generators-wide ss bounds names g (drop 2 ws) n r) ∙ counted (length names)
    where
      counted : (n : ℕ) → 1 + n ≡ suc n
      counted n = omega arith
  generators-wide _ _ _ (over_array {ss = ss} {bounds = bounds} {names = names} a g) ws k q =
      generators-next source.Elements ss ws k q 1 (length names) (λ n r. refl) (λ n r. generators-wide ss bounds names g (drop 1 ws) n r) ∙ counted (length names)
    where
      counted : (n : ℕ) → 1 + n ≡ suc n
      counted n = omega arith
  generators-wide _ _ _ (over_stream {ss = ss} {bounds = bounds} {names = names} a g) ws k q =
      generators-next source.Elements ss ws k q 1 (length names) (λ n r. refl) (λ n r. generators-wide ss bounds names g (drop 1 ws) n r) ∙ counted (length names)
    where
      counted : (n : ℕ) → 1 + n ≡ suc n
      counted n = omega arith
  generators-wide _ _ _ (over_array_at {ss = ss} {bounds = bounds} {names = names} a g) ws k q =
      generators-next source.Indexed ss ws k q 2 (length names) (λ n r. refl) (λ n r. generators-wide ss bounds names g (drop 1 ws) n r) ∙ counted (length names)
    where
      counted : (n : ℕ) → 2 + n ≡ suc (suc n)
      counted n = omega arith
  generators-wide _ _ _ (over_stream_at {ss = ss} {bounds = bounds} {names = names} a g) ws k q =
      generators-next source.Indexed ss ws k q 2 (length names) (λ n r. refl) (λ n r. generators-wide ss bounds names g (drop 1 ws) n r) ∙ counted (length names)
    where
      counted : (n : ℕ) → 2 + n ≡ suc (suc n)
      counted n = omega arith

  -- ---- what they give

  module _ (u : Network) (number : ℕ → ℕ) (shape : Telling) where
    range-made : (s : Site) (k q : ℕ) (x y : Wire) (v w : Val) → AllCarry u number shape s (x ∷ y ∷ []) (v ∷ w ∷ []) → Placed u number shape s k q (generator_lowered forms source.Range (x ∷ y ∷ []) k q)
        → Made u number shape s k (generator_lowered forms source.Range (x ∷ y ∷ []) k q) (generated_by source.Range (v ∷ w ∷ [])) 1
    range-made s k q x y v w a pl =
        row-made u number shape s k q 0 simple.RangeGenerate (x ∷ y ∷ []) (Many integer ∷ []) (Value v ∷ Value w ∷ []) (generated_by source.Range (v ∷ w ∷ [])) pl (a.0, (a.1.0, tt)) refl
        (λ i n. let e : 0 + i ≡ i = omega arith in ap (λ j. get_or (generated_by source.Range (v ∷ w ∷ [])) j Unfilled) e)

    scatter-made : (s : Site) (k q : ℕ) (x : Wire) (v : Val) → AllCarry u number shape s (x ∷ []) (v ∷ []) → Placed u number shape s k q (generator_lowered forms source.Indexed (x ∷ []) k q)
        → Made u number shape s k (generator_lowered forms source.Indexed (x ∷ []) k q) (scatter_of (v ∷ [])) 1
    scatter-made s k q x v a pl =
        let two = scatter-two (out-Val v) in
        row-made u number shape s k q 0 simple.AScatter (x ∷ []) (elements_in forms (x ∷ []) ∷ Many integer ∷ []) (Value v ∷ []) (scatter_of (v ∷ [])) pl (a.0, tt) (sym (ap length two.is))
        (λ i n. let e : 0 + i ≡ i = omega arith in ap (λ j. get_or (scatter_of (v ∷ [])) j Unfilled) e)

    first-carried : (s : Site) (ws : List Wire) (cs : List Carried) (n : ℕ) → AllCarried u number shape s ws cs → AllCarried u number shape s (take_up n ws) (take n cs)
    first-carried s ws cs zero a = tt
    first-carried s [] [] (suc n) a = tt
    first-carried s (w ∷ ws) (c ∷ cs) (suc n) a = (a.0, first-carried s ws cs n a.1)
    first-carried s [] (c ∷ cs) (suc n) a = absurd a
    first-carried s (w ∷ ws) [] (suc n) a = absurd a

    elements-made : (s : Site) (k q : ℕ) (x : Wire) (v : Val) → AllCarry u number shape s (x ∷ []) (v ∷ []) → Placed u number shape s k q (generator_lowered forms source.Elements (x ∷ []) k q)
        → Made u number shape s k (generator_lowered forms source.Elements (x ∷ []) k q) (take 1 (scatter_of (v ∷ []))) 1
    elements-made s k q x v a pl =
        let m = generator_lowered forms source.Indexed (x ∷ []) k q in
        let l : Lowered = only (take_up 1 m.values) (k + length m.nodes) (q + length m.graphs) in
        let d = scatter-made s k q x v a (placed-left u number shape s k q m l pl) in
        made-more u number shape s k (joined m l) (take 1 (scatter_of (v ∷ []))) (1 + 0) 1
        (made-both u number shape s k m l (scatter_of (v ∷ [])) (take 1 (scatter_of (v ∷ []))) 1 0 d (made-only u number shape s (k + length m.nodes) l (take 1 (scatter_of (v ∷ []))) refl (first-carried s m.values (scatter_of (v ∷ [])) 1 d.held))) (omega arith)

    -- one generator before the others
    next-made : (s : Site) (k q : ℕ) (x : Source) (ss : List Source) (ws : List Wire) (cs ds : List Carried) (n : ℕ) → Placed u number shape s k q (generators_lowered forms (x ∷ ss) ws k q)
        → (Placed u number shape s k q (generator_lowered forms x (take_up (width x) ws) k q) → Made u number shape s k (generator_lowered forms x (take_up (width x) ws) k q) cs 1)
        → ((k q : ℕ) → Placed u number shape s k q (generators_lowered forms ss (drop (width x) ws) k q) → Made u number shape s k (generators_lowered forms ss (drop (width x) ws) k q) ds n)
        → Made u number shape s k (generators_lowered forms (x ∷ ss) ws k q) (cs ++ ds) (suc n)
    next-made s k q x ss ws cs ds n pl a b =
        let m = generator_lowered forms x (take_up (width x) ws) k q in
        let r = generators_lowered forms ss (drop (width x) ws) (k + length m.nodes) (q + length m.graphs) in
        let l : Lowered = only (m.values ++ r.values) (k + length m.nodes + length r.nodes) (q + length m.graphs + length r.graphs) in
        let pl' = placed-right u number shape s k q m (joined r l) pl in
        let y = a (placed-left u number shape s k q m (joined r l) pl) in
        let z = b (k + length m.nodes) (q + length m.graphs) (placed-left u number shape s (k + length m.nodes) (q + length m.graphs) r l pl') in
        let w = made-only u number shape s (k + length m.nodes + length r.nodes) l (cs ++ ds) refl (carried-both u number shape s m.values cs r.values ds y.held z.held) in
        made-more u number shape s k (joined m (joined r l)) (cs ++ ds) (1 + (n + 0)) (suc n) (made-both u number shape s k m (joined r l) cs (cs ++ ds) 1 (n + 0) y (made-both u number shape s (k + length m.nodes) r l ds (cs ++ ds) n 0 z w)) (omega arith)

    pub generators-made : (ss : List Source) (tys xs : List Ty) → Goes ss tys xs → (vs : List Val) → AreOf tys vs → (s : Site) (k q : ℕ) (ws : List Wire) → AllCarry u number shape s ws vs → Placed u number shape s k q (generators_lowered forms ss ws k q)
        → Made u number shape s k (generators_lowered forms ss ws k q) (generated ss vs) (length ss)
    generators-made _ _ _ no_source vs o s k q ws a pl = made-only u number shape s k (generators_lowered forms [] ws k q) [] refl tt
    generators-made _ _ _ (over_range {ss = ss} {bounds = bounds} {names = names} g) (v ∷ w ∷ vs) o s k q (x ∷ y ∷ ws) a pl =
        next-made s k q source.Range ss (x ∷ y ∷ ws) (generated_by source.Range (v ∷ w ∷ vs)) (generated ss vs) (length ss) pl (λ h. range-made s k q x y v w (a.0, (a.1.0, tt)) h)
        (λ k q h. generators-made ss bounds names g vs o.1.1 s k q ws a.1.1 h)
    generators-made _ _ _ (over_array {ss = ss} {bounds = bounds} {names = names} t g) (v ∷ vs) o s k q (x ∷ ws) a pl =
        next-made s k q source.Elements ss (x ∷ ws) (generated_by source.Elements (v ∷ vs)) (generated ss vs) (length ss) pl (λ h. elements-made s k q x v (a.0, tt) h) (λ k q h. generators-made ss bounds names g vs o.1 s k q ws a.1 h)
    generators-made _ _ _ (over_stream {ss = ss} {bounds = bounds} {names = names} t g) (v ∷ vs) o s k q (x ∷ ws) a pl =
        next-made s k q source.Elements ss (x ∷ ws) (generated_by source.Elements (v ∷ vs)) (generated ss vs) (length ss) pl (λ h. elements-made s k q x v (a.0, tt) h) (λ k q h. generators-made ss bounds names g vs o.1 s k q ws a.1 h)
    generators-made _ _ _ (over_array_at {ss = ss} {bounds = bounds} {names = names} t g) (v ∷ vs) o s k q (x ∷ ws) a pl =
        next-made s k q source.Indexed ss (x ∷ ws) (generated_by source.Indexed (v ∷ vs)) (generated ss vs) (length ss) pl (λ h. scatter-made s k q x v (a.0, tt) h) (λ k q h. generators-made ss bounds names g vs o.1 s k q ws a.1 h)
    generators-made _ _ _ (over_stream_at {ss = ss} {bounds = bounds} {names = names} t g) (v ∷ vs) o s k q (x ∷ ws) a pl =
        next-made s k q source.Indexed ss (x ∷ ws) (generated_by source.Indexed (v ∷ vs)) (generated ss vs) (length ss) pl (λ h. scatter-made s k q x v (a.0, tt) h) (λ k q h. generators-made ss bounds names g vs o.1 s k q ws a.1 h)
    generators-made _ _ _ (over_range g) [] o s k q ws a pl = absurd o
    generators-made _ _ _ (over_range g) (v ∷ []) o s k q ws a pl = absurd o.1
    generators-made _ _ _ (over_range g) (v ∷ w ∷ vs) o s k q [] a pl = absurd a
    generators-made _ _ _ (over_range g) (v ∷ w ∷ vs) o s k q (x ∷ []) a pl = absurd a.1
    generators-made _ _ _ (over_array t g) [] o s k q ws a pl = absurd o
    generators-made _ _ _ (over_array t g) (v ∷ vs) o s k q [] a pl = absurd a
    generators-made _ _ _ (over_stream t g) [] o s k q ws a pl = absurd o
    generators-made _ _ _ (over_stream t g) (v ∷ vs) o s k q [] a pl = absurd a
    generators-made _ _ _ (over_array_at t g) [] o s k q ws a pl = absurd o
    generators-made _ _ _ (over_array_at t g) (v ∷ vs) o s k q [] a pl = absurd a
    generators-made _ _ _ (over_stream_at t g) [] o s k q ws a pl = absurd o
    generators-made _ _ _ (over_stream_at t g) (v ∷ vs) o s k q [] a pl = absurd a
