-- Loops over generators obey the rules.
use Rattle.std.proofs.Common.{◌≡◌, ℕ, zero, suc, ◌+◌, ◌-◌, ◌<◌, ◌≤◌, ◌⊎◌, inl, inr, Bool, true, false, List, [], ◌∷◌, ◌++◌, map, drop, length, slice_get, Some, refl, sym, ap, subst, ◌∙◌, arith, nat_le, leb-true, le-leb}
use Rattle.std.specs.Prelude.{MatchBool, if◌then◌else◌}
use Rattle.std.proofs.lemmas.List.{length-map, append-nil}
use Rattle.std.proofs.lemmas.Option.{same_Some}
use Rattle.flow_value.specs.declared.ty.Ty.{Ty}
use Rattle.flow_value.specs.declared.ty.Ty.TheVariants as ty
use Rattle.flow_value.specs.declared.ty.Ty.TheOpen.{Ty-F}
use Rattle.flow_value.specs.declared.ty.Ty.TheViews.{out-Ty}
use Rattle.if1_graph.specs.declared.op.Simple.TheVariants as simple
use Rattle.if1_graph.specs.declared.op.Compound.TheVariants as compound
use Rattle.if1_graph.specs.declared.op.Part.{Part}
use Rattle.if1_graph.specs.declared.op.Part.TheVariants as part
use Rattle.if1_graph.specs.Tables.{at_port}
use Rattle.if1_graph.specs.Types.{Sort, Plain, Many}
use Rattle.if1_graph.specs.Parts.{part_at}
use Rattle.if1_graph.specs.Ports.{AreFirst}
use Rattle.if1_graph.specs.Typing.{IsSequence, IsCarried, IsMultiple as IsAllOf, is_generator, is_returns}
use Rattle.typed_tree.specs.declared.expr.Source.{Source}
use Rattle.typed_tree.specs.declared.expr.Source.TheVariants as source
use Rattle.typed_tree.specs.declared.expr.ClauseForm.{ClauseForm}
use Rattle.typed_tree.specs.Types.{IsNumber, AreNumbers}
use Rattle.typed_tree.specs.Types as number
use Rattle.lowering_meaning.specs.FittingTreesFitting.{Goes, AreMade}
use Rattle.lowering_meaning.specs.FittingTreesFitting as is
use Rattle.lowering.specs.declared.feed.Carried.{Carried}
use Rattle.lowering.specs.declared.feed.Carried.TheVariants.{One, Many as Multiple, Callee}
use Rattle.lowering.specs.declared.feed.Wire.{Wire}
use Rattle.lowering.specs.Feeds.{into}
use Rattle.lowering.specs.declared.graph.Action.TheVariants.{Row}
use Rattle.lowering.specs.declared.graph.LoweredGraph.{LoweredGraph}
use Rattle.lowering.specs.declared.graph.Lowered.{Lowered}
use Rattle.lowering.specs.Graphs.{Lowering, node, only, andthen, a_node, closed, closed_wire, closed_wires, inputs, size, new_graph}
use Rattle.lowering.specs.Operations.{Lowers, integer, one, wire_at}
use Rattle.lowering.specs.Choices.{element_of, is_array, is_array_form, type_of}
use Rattle.lowering.specs.Loops.{own_inputs, many, single, types, take_up, Wired, Limit, width, elements_in, generator_lowered, generators_lowered, bound_of, returns_lowered, forall_lowered}
use Rattle.lowering_meaning.proofs.BuiltTrees.{out-bool, out-char, out-int, out-null, out-array, out-stream, out-record, out-union}
use Rattle.lowering_meaning.proofs.Wired.{IsMultiple, AreMultiples, IsTyped, ones-typed, typed-both, typed-into, typed-drop, typed-take, first-typed, the-number, array-elements, stream-elements}
use Rattle.lowered_ready.specs.Ports.{Outs}
use Rattle.lowered_ready.specs.Parts.{results_at, result_of, FitsOwnInput, IsCompound}
use Rattle.lowered_ready.specs.Rules.{IsPartGraph}
use Rattle.lowered_ready.proofs.Scopes.{Level, level, all-into, in-both, in-drop, in-take, own-in}
use Rattle.lowered_ready.proofs.Made as made
use Rattle.lowered_ready.proofs.Made.{slice-left, slice-right}
use Rattle.lowered_ready.proofs.Closing.{AreCovered, closed_list, inputs-cover}
use Rattle.lowered_ready.proofs.Closing as closing
use Rattle.lowered_ready.proofs.RuleSorting.{plain, AreSorted, closed-sorted, filled-sorted, sort-at, sorted-length, fit-wanted, first-ports}
use Rattle.lowered_ready.proofs.Rows as rows
use Rattle.lowered_ready.proofs.World.{World, Which, Of, In, Does, To, row-right}
use Rattle.lowered_ready.proofs.Wholes.{Outer, Made, AllInner, sorts_of, inner-of, inner-outer, inputs-fit, input-sort, part-closes, part-graph, result-at, outputs-fit, whole-right}
use Rattle.lowered_ready.proofs.RuleForms as forms_are
use Rattle.lowered_ready.proofs.Ifs.{at-place}
use Rattle.lowered_ready.proofs.Operations.{int-sort, array-sort, stream-sort, sorts-of}
use Rattle.lowered_ready.proofs.Clauses.{AreMany, many_sorts, many-sort, many-sorted, many-both, many-length, manys-typed, IsBoundRight, returns-does}

module _ (x : World) where
  abbrev Makes : Which → List Carried → List Outs → List Level → List Ty → Lowering → Type 0
  Makes p own before ls ts f = made.Does x.forms x.names x.sort x.at p own before ls (AreMany x ts) f

  -- ---- generators

  scatter-right : (p : Which) → is_generator p ≡ true → (ws : List Wire) (s : Sort) (t : Ty) (c : Carried) → AreSorted x.sort ws (s ∷ []) → IsSequence t s → x.sort c ≡ Many t
      → made.IsRight x.forms x.names x.sort x.at p (node (Row simple.AScatter) ws) (record { port = 1; types = c ∷ Multiple integer ∷ [] })
  scatter-right p g ws s t c h q e ks first own =
      let vs = closed_wires ks first own ws in
      let i = closed-sorted x.sort ks first own ws (s ∷ []) h in
      record {
        wanted = λ k n. fit-wanted x.sort k simple.AScatter 1 vs (s ∷ []) i ((t, q), tt);
        gives = λ k n.
            let at : k.at 1 ≡ Some s = n.at 1 ∙ sort-at x.sort vs (s ∷ []) i 1 in (
              (omega arith, (t, e, subst (λ o. IsCarried o (IsSequence t)) (sym at) q)),
              ((omega arith, x.sorting.multiples 2 ty.Int x.integers ∙ ap Many x.sorting.int), tt),
            );
        ports = λ k n. subst (AreFirst 1) (sym (filled-sorted x.sort 1 vs (s ∷ []) i)) (first-ports 1);
        bound = tt;
        name = tt;
        place = g;
      }

  module _ (p : Which) (g : is_generator p ≡ true) where
    range-does : (own : List Carried) (before : List Outs) (ls : List Level) (ws : List Wire) → Of x (ty.Int ∷ ty.Int ∷ []) ws → In x (level own before ∷ ls) ws → Makes p own before ls (ty.Int ∷ []) (generator_lowered x.forms source.Range ws)
    range-does own before ls ws t i =
        made.node-does x.forms x.names x.sort x.at p own before ls (AreMany x (ty.Int ∷ [])) (Row simple.RangeGenerate) ws 1 (Multiple integer ∷ [])
        (row-right x p simple.RangeGenerate ws (Plain ty.Int ∷ Plain ty.Int ∷ []) (Multiple integer) (Many ty.Int) (sorts-of x ws (ty.Int ∷ ty.Int ∷ []) (Plain ty.Int ∷ Plain ty.Int ∷ []) t (int-sort x, (int-sort x, tt))) rows.range
        (x.sorting.multiples 2 ty.Int x.integers ∙ ap Many x.sorting.int) (record { place = g; one = λ k. omega arith; bound = λ ks first own. tt; name = λ ks first own. tt }))
        (λ ks first shift. tt) i ((x.integers, tt), tt)

    scatter-does : (own : List Carried) (before : List Outs) (ls : List Level) (ws : List Wire) (a b : Ty) (s : Sort) → Of x (a ∷ []) ws → In x (level own before ∷ ls) ws → Plain (x.bare a) ≡ s → IsSequence (x.bare b) s
        → IsNumber x.forms x.names (element_of x.forms (type_of (wire_at ws 0).ty)) b → Makes p own before ls (b ∷ ty.Int ∷ []) (a_node (Row simple.AScatter) ws 1 (elements_in x.forms ws ∷ Multiple integer ∷ []))
    scatter-does own before ls ws a b s t i e q num =
        made.node-does x.forms x.names x.sort x.at p own before ls (AreMany x (b ∷ ty.Int ∷ [])) (Row simple.AScatter) ws 1 (elements_in x.forms ws ∷ Multiple integer ∷ [])
        (scatter-right p g ws s (x.bare b) (elements_in x.forms ws) (sorts-of x ws (a ∷ []) (s ∷ []) t (e, tt)) q (x.sorting.multiples (element_of x.forms (type_of (wire_at ws 0).ty)) b num)) (λ ks first shift. tt) i
        ((num, tt), ((x.integers, tt), tt))

    -- of the two multiples the elements alone
    elements-does : (own : List Carried) (before : List Outs) (ls : List Level) (ws : List Wire) (b : Ty) → Makes p own before ls (b ∷ ty.Int ∷ []) (a_node (Row simple.AScatter) ws 1 (elements_in x.forms ws ∷ Multiple integer ∷ []))
        → Makes p own before ls (b ∷ []) (generator_lowered x.forms source.Elements ws)
    elements-does own before ls ws b h =
        made.then-does x.forms x.names x.sort x.at p own before ls (AreMany x (b ∷ ty.Int ∷ [])) (AreMany x (b ∷ [])) (a_node (Row simple.AScatter) ws 1 (elements_in x.forms ws ∷ Multiple integer ∷ [])) (λ os. only (take_up 1 os)) h
        (λ more os ao mo. made.only-does x.forms x.names x.sort x.at p own (before ++ more) ls (AreMany x (b ∷ [])) (take_up 1 os) (in-take x.forms x.names (level own (before ++ more) ∷ ls) 1 os ao) (first-one os mo))
      where
        first-one : (os : List Wire) → AreMany x (b ∷ ty.Int ∷ []) os → AreMany x (b ∷ []) (take_up 1 os)
        first-one [] m = absurd m
        first-one (o ∷ os) m = (m.0, tt)

    -- a generator and those behind it
    beside : (own : List Carried) (before : List Outs) (ls : List Level) (s : Source) (ss : List Source) (ws : List Wire) (mine others : List Ty) → Makes p own before ls mine (generator_lowered x.forms s (take_up (width s) ws))
        → ((more : List Outs) → Makes p own (before ++ more) ls others (generators_lowered x.forms ss (drop (width s) ws))) → Makes p own before ls (mine ++ others) (generators_lowered x.forms (s ∷ ss) ws)
    beside own before ls s ss ws mine others h r =
        made.then-does x.forms x.names x.sort x.at p own before ls (AreMany x mine) (AreMany x (mine ++ others)) (generator_lowered x.forms s (take_up (width s) ws)) (λ ms. andthen (generators_lowered x.forms ss (drop (width s) ws)) (λ ns. only (ms ++ ns))) h
        (λ more ms am mm.
        made.then-does x.forms x.names x.sort x.at p own (before ++ more) ls (AreMany x others) (AreMany x (mine ++ others)) (generators_lowered x.forms ss (drop (width s) ws)) (λ ns. only (ms ++ ns)) (r more)
        (λ later ns an mn.
        made.only-does x.forms x.names x.sort x.at p own ((before ++ more) ++ later) ls (AreMany x (mine ++ others)) (ms ++ ns)
        (in-both x.forms x.names (level own ((before ++ more) ++ later) ∷ ls) ms ns (forms_are.more-in x own (before ++ more) later ls ms am) an) (many-both x mine others ms ns mm mn)))

    element-number : (array : Bool) (ws : List Wire) (a : Ty) → Of x ((if array then ty.Arr a else ty.Stream a) ∷ []) ws → IsNumber x.forms x.names (element_of x.forms (type_of (wire_at ws 0).ty)) a
    element-number true ws a h = array-elements x.forms x.names (type_of (wire_at ws 0).ty) a (the-number x.forms x.names (wire_at ws 0).ty (ty.Arr a) (first-typed x.forms x.names ws (ty.Arr a) h))
    element-number false ws a h = stream-elements x.forms x.names (type_of (wire_at ws 0).ty) a (the-number x.forms x.names (wire_at ws 0).ty (ty.Stream a) (first-typed x.forms x.names ws (ty.Stream a) h))

    abbrev Here : List Carried → List Outs → List Level → List Wire → Type 0
    Here own before ls ws = In x (level own before ∷ ls) ws

    array-scatters : (own : List Carried) (before : List Outs) (ls : List Level) (ws : List Wire) (a : Ty) → Of x (ty.Arr a ∷ []) ws → Here own before ls ws → Makes p own before ls (a ∷ ty.Int ∷ []) (a_node (Row simple.AScatter) ws 1 (elements_in x.forms ws ∷ Multiple integer ∷ []))
    array-scatters own before ls ws a t i = scatter-does own before ls ws (ty.Arr a) a (Plain (ty.Arr (x.bare a))) t i (array-sort x a) (inl refl) (element-number true ws a t)

    stream-scatters : (own : List Carried) (before : List Outs) (ls : List Level) (ws : List Wire) (a : Ty) → Of x (ty.Stream a ∷ []) ws → Here own before ls ws → Makes p own before ls (a ∷ ty.Int ∷ []) (a_node (Row simple.AScatter) ws 1 (elements_in x.forms ws ∷ Multiple integer ∷ []))
    stream-scatters own before ls ws a t i = scatter-does own before ls ws (ty.Stream a) a (Plain (ty.Stream (x.bare a))) t i (stream-sort x a) (inr refl) (element-number false ws a t)

    pub generators-does : (ss : List Source) (tys xs : List Ty) → Goes ss tys xs → (own : List Carried) (before : List Outs) (ls : List Level) (ws : List Wire) → Of x tys ws → Here own before ls ws → Makes p own before ls xs (generators_lowered x.forms ss ws)
    generators-does _ _ _ is.no_source own before ls ws t i = made.only-does x.forms x.names x.sort x.at p own before ls (AreMany x []) [] tt tt
    generators-does _ _ _ (is.over_range {ss = ss} {bounds = bounds} {names = xs} r) own before ls ws t i =
        beside own before ls source.Range ss ws (ty.Int ∷ []) xs
        (range-does own before ls (take_up 2 ws) (typed-take x.forms x.names (ty.Int ∷ ty.Int ∷ []) bounds ws 2 refl t) (in-take x.forms x.names (level own before ∷ ls) 2 ws i))
        (λ more. generators-does ss bounds xs r own (before ++ more) ls (drop 2 ws) (typed-drop x.forms x.names (ty.Int ∷ ty.Int ∷ []) bounds ws 2 refl t) (forms_are.more-in x own before more ls (drop 2 ws) (in-drop x.forms x.names (level own before ∷ ls) 2 ws i)))
    generators-does _ _ _ (is.over_array {ss = ss} {bounds = bounds} {names = xs} a r) own before ls ws t i =
        beside own before ls source.Elements ss ws (a ∷ []) xs
        (elements-does own before ls (take_up 1 ws) a (array-scatters own before ls (take_up 1 ws) a (typed-take x.forms x.names (ty.Arr a ∷ []) bounds ws 1 refl t) (in-take x.forms x.names (level own before ∷ ls) 1 ws i)))
        (λ more. generators-does ss bounds xs r own (before ++ more) ls (drop 1 ws) (typed-drop x.forms x.names (ty.Arr a ∷ []) bounds ws 1 refl t) (forms_are.more-in x own before more ls (drop 1 ws) (in-drop x.forms x.names (level own before ∷ ls) 1 ws i)))
    generators-does _ _ _ (is.over_stream {ss = ss} {bounds = bounds} {names = xs} a r) own before ls ws t i =
        beside own before ls source.Elements ss ws (a ∷ []) xs
        (elements-does own before ls (take_up 1 ws) a (stream-scatters own before ls (take_up 1 ws) a (typed-take x.forms x.names (ty.Stream a ∷ []) bounds ws 1 refl t) (in-take x.forms x.names (level own before ∷ ls) 1 ws i)))
        (λ more. generators-does ss bounds xs r own (before ++ more) ls (drop 1 ws) (typed-drop x.forms x.names (ty.Stream a ∷ []) bounds ws 1 refl t) (forms_are.more-in x own before more ls (drop 1 ws) (in-drop x.forms x.names (level own before ∷ ls) 1 ws i)))
    generators-does _ _ _ (is.over_array_at {ss = ss} {bounds = bounds} {names = xs} a r) own before ls ws t i =
        beside own before ls source.Indexed ss ws (a ∷ ty.Int ∷ []) xs
        (array-scatters own before ls (take_up 1 ws) a (typed-take x.forms x.names (ty.Arr a ∷ []) bounds ws 1 refl t) (in-take x.forms x.names (level own before ∷ ls) 1 ws i))
        (λ more. generators-does ss bounds xs r own (before ++ more) ls (drop 1 ws) (typed-drop x.forms x.names (ty.Arr a ∷ []) bounds ws 1 refl t) (forms_are.more-in x own before more ls (drop 1 ws) (in-drop x.forms x.names (level own before ∷ ls) 1 ws i)))
    generators-does _ _ _ (is.over_stream_at {ss = ss} {bounds = bounds} {names = xs} a r) own before ls ws t i =
        beside own before ls source.Indexed ss ws (a ∷ ty.Int ∷ []) xs
        (stream-scatters own before ls (take_up 1 ws) a (typed-take x.forms x.names (ty.Stream a ∷ []) bounds ws 1 refl t) (in-take x.forms x.names (level own before ∷ ls) 1 ws i))
        (λ more. generators-does ss bounds xs r own (before ++ more) ls (drop 1 ws) (typed-drop x.forms x.names (ty.Stream a ∷ []) bounds ws 1 refl t) (forms_are.more-in x own before more ls (drop 1 ws) (in-drop x.forms x.names (level own before ∷ ls) 1 ws i)))

  pub some-names : (ss : List Source) (tys xs : List Ty) → Goes ss tys xs → 1 ≤ length ss → 1 ≤ length xs
  some-names _ _ _ is.no_source l = absurd (omega (arith, l))
  some-names _ _ _ (is.over_range r) l = omega arith
  some-names _ _ _ (is.over_array a r) l = omega arith
  some-names _ _ _ (is.over_stream a r) l = omega arith
  some-names _ _ _ (is.over_array_at a r) l = omega arith
  some-names _ _ _ (is.over_stream_at a r) l = omega arith

  -- ---- the lower bound of an array that is made

  abbrev IsNoArray : ℕ → Ty-F Ty → Type 0
  IsNoArray n (Ty-F.Stream t) = is_array x.forms n ≡ false
  IsNoArray n _ = Unit {0}

  no-array : (n : ℕ) (t : Ty) → IsNumber x.forms x.names n t → IsNoArray n (out-Ty t)
  no-array n _ (number.boolean e) = subst (IsNoArray n) (sym out-bool) tt
  no-array n _ (number.character e) = subst (IsNoArray n) (sym out-char) tt
  no-array n _ (number.integer e) = subst (IsNoArray n) (sym out-int) tt
  no-array n _ (number.null e) = subst (IsNoArray n) (sym out-null) tt
  no-array n _ (number.array {t = t} e h) = subst (IsNoArray n) (sym (out-array t)) tt
  no-array n _ (number.stream {t = t} e h) = subst (IsNoArray n) (sym (out-stream t)) (ap is_array_form e)
  no-array n _ (number.a_record {fs = fs} e h) = subst (IsNoArray n) (sym (out-record fs)) tt
  no-array n _ (number.a_union {fs = fs} e h) = subst (IsNoArray n) (sym (out-union fs)) tt

  stream-no-array : (n : ℕ) (a : Ty) → IsNumber x.forms x.names n (ty.Stream a) → is_array x.forms n ≡ false
  stream-no-array n a h = subst (IsNoArray n) (out-stream a) (no-array n (ty.Stream a) h)

  first-of : (ws : List Wire) (ls : List Level) (a : Ty) (tys : List Ty) → Of x (a ∷ tys) ws → In x ls ws → Of x (a ∷ []) (wire_at ws 0 ∷ []) × In x ls (wire_at ws 0 ∷ [])
  first-of [] ls a tys t i = absurd t
  first-of (w ∷ ws) ls a tys t i = ((t.0, tt), (i.0, tt))

  one-bound : (p : Which) (returns : is_returns p ≡ true) (ls : List Level) → IsBoundRight x p returns ls (Wired one)
  one-bound p returns ls = (forms_are.one-typed x, (tt, tt))

  bound-right : (p : Which) (returns : is_returns p ≡ true) (ss : List Source) (tys xs : List Ty) → Goes ss tys xs → (ls : List Level) (ws : List Wire) → Of x tys ws → In x ls ws → IsBoundRight x p returns ls (bound_of x.forms ss ws)
  bound-right p returns _ _ _ is.no_source ls ws t i = one-bound p returns ls
  bound-right p returns _ _ _ (is.over_range {bounds = bounds} r) ls ws t i = first-of ws ls ty.Int (ty.Int ∷ bounds) t i
  bound-right p returns _ _ _ (is.over_array {bounds = bounds} a r) ls ws t i = let f = first-of ws ls (ty.Arr a) bounds t i in either (is_array x.forms (type_of (wire_at ws 0).ty)) f
    where
      either : (b : Bool) → Of x (ty.Arr a ∷ []) (wire_at ws 0 ∷ []) × In x ls (wire_at ws 0 ∷ []) → IsBoundRight x p returns ls (if b then Limit (wire_at ws 0) else Wired one)
      either true f = (a, f.0, f.1)
      either false f = one-bound p returns ls
  bound-right p returns _ _ _ (is.over_array_at {bounds = bounds} a r) ls ws t i = let f = first-of ws ls (ty.Arr a) bounds t i in either (is_array x.forms (type_of (wire_at ws 0).ty)) f
    where
      either : (b : Bool) → Of x (ty.Arr a ∷ []) (wire_at ws 0 ∷ []) × In x ls (wire_at ws 0 ∷ []) → IsBoundRight x p returns ls (if b then Limit (wire_at ws 0) else Wired one)
      either true f = (a, f.0, f.1)
      either false f = one-bound p returns ls
  bound-right p returns _ _ _ (is.over_stream {bounds = bounds} a r) ls ws t i =
      let f = first-of ws ls (ty.Stream a) bounds t i in
      subst (λ (b : Bool). IsBoundRight x p returns ls (if b then Limit (wire_at ws 0) else Wired one)) (sym (stream-no-array (type_of (wire_at ws 0).ty) a (the-number x.forms x.names (wire_at ws 0).ty (ty.Stream a) f.0.0.0))) (one-bound p returns ls)
  bound-right p returns _ _ _ (is.over_stream_at {bounds = bounds} a r) ls ws t i =
      let f = first-of ws ls (ty.Stream a) bounds t i in
      subst (λ (b : Bool). IsBoundRight x p returns ls (if b then Limit (wire_at ws 0) else Wired one)) (sym (stream-no-array (type_of (wire_at ws 0).ty) a (the-number x.forms x.names (wire_at ws 0).ty (ty.Stream a) f.0.0.0))) (one-bound p returns ls)

  -- ---- own inputs of the body and of returns

  single-sort : (c : Carried) (t : Ty) → IsMultiple x.forms x.names c t → x.sort (single c) ≡ Plain (x.bare t)
  single-sort (One n) t h = absurd h
  single-sort (Multiple n) t h = x.sorting.values n t h
  single-sort (Callee f) t h = absurd h

  single-own : (xs : List Ty) (ws : List Wire) → AreMany x xs ws → (i : ℕ) (c : Carried) → slice_get (map single (types ws)) i ≡ Some c → (i < length xs) × ((t : Ty) × (slice_get (many_sorts x xs) i ≡ Some (Many t)) × (x.sort c ≡ Plain t))
  single-own [] [] h i c e = absurd cc
  single-own [] (w ∷ ws) h i c e = absurd h
  single-own (t ∷ xs) [] h i c e = absurd h
  single-own (t ∷ xs) (w ∷ ws) h zero c e = (omega arith, (x.bare t, refl, ap x.sort (sym (same_Some (single w.ty) c e)) ∙ single-sort w.ty t h.0.0))
  single-own (t ∷ xs) (w ∷ ws) h (suc i) c e = let r = single-own xs ws h.1 i c e in let l = r.0 in (omega (arith, l), r.1)

  many-own : (xs : List Ty) (ws : List Wire) → AreMany x xs ws → (i : ℕ) (c : Carried) → slice_get (types ws) i ≡ Some c → (i < length xs) × (slice_get (many_sorts x xs) i ≡ Some (x.sort c))
  many-own [] [] h i c e = absurd cc
  many-own [] (w ∷ ws) h i c e = absurd h
  many-own (t ∷ xs) [] h i c e = absurd h
  many-own (t ∷ xs) (w ∷ ws) h zero c e = (omega arith, ap Some (sym (many-sort x w.ty t h.0.0) ∙ ap x.sort (same_Some w.ty c e)))
  many-own (t ∷ xs) (w ∷ ws) h (suc i) c e = let r = many-own xs ws h.1 i c e in let l = r.0 in (omega (arith, l), r.1)

  many-of-sort : (c : Carried) (t : Ty) → IsTyped x.forms x.names c t → x.sort (many c) ≡ Many (x.bare t)
  many-of-sort (One n) t h = x.sorting.multiples n t h
  many-of-sort (Multiple n) t h = absurd h
  many-of-sort (Callee f) t h = absurd h

  pub manys-own : (row : List Ty) (ws : List Wire) → Of x row ws → (i : ℕ) (c : Carried) → slice_get (map many (types ws)) i ≡ Some c → (i < length row) × ((t : Ty) × (slice_get (sorts_of x row) i ≡ Some (Plain t)) × (x.sort c ≡ Many t))
  manys-own [] [] h i c e = absurd cc
  manys-own [] (w ∷ ws) h i c e = absurd h
  manys-own (t ∷ row) [] h i c e = absurd h
  manys-own (t ∷ row) (w ∷ ws) h zero c e = (omega arith, (x.bare t, refl, ap x.sort (sym (same_Some (many w.ty) c e)) ∙ many-of-sort w.ty t h.0.0))
  manys-own (t ∷ row) (w ∷ ws) h (suc i) c e = let r = manys-own row ws h.1 i c e in let l = r.0 in (omega (arith, l), r.1)

  slice-cases : {A : Type 0} (vs ws : List A) (i : ℕ) (c : A) → slice_get (vs ++ ws) i ≡ Some c → (slice_get vs i ≡ Some c) ⊎ ((j : ℕ) × (i ≡ length vs + j) × (slice_get ws j ≡ Some c))
  slice-cases [] ws i c e = inr (i, omega arith, e)
  slice-cases (v ∷ vs) ws zero c e = inl e
  slice-cases (v ∷ vs) ws (suc i) c e =
      elim (slice-cases vs ws i c e) [
        | inl l ↦ inl l
        | inr r ↦ let s = r.1 in inr (r.0, omega (arith, s), r.2)
      ]

  -- ---- the graphs of a ForAll, as they are closed

  module _ (ls : List Level) (g b r : Lowered) (xs row made : List Ty) (rg : Made x (Some (compound.ForAll, part.Generator)) [] ls (AreMany x xs) g)
      (rb : Made x (Some (compound.ForAll, part.Body)) (map single (types g.values)) ls (Of x row) b) (rr : Made x (Some (compound.ForAll, part.Returns)) (types g.values ++ map many (types b.values)) ls (Of x made) r) where
    abbrev ms : List Lowered
    ms = g ∷ b ∷ r ∷ []

    abbrev ks : List Wire
    ks = inputs ms

    abbrev gs : List LoweredGraph
    gs = closed_list ks 0 (length ks) ms

    abbrev arms : List ℕ
    arms = 0 ∷ 1 ∷ 2 ∷ []

    inner : AllInner x ls ms
    inner = (
      inner-of x (Some (compound.ForAll, part.Generator)) [] ls (AreMany x xs) g rg,
      (
        inner-of x (Some (compound.ForAll, part.Body)) (map single (types g.values)) ls (Of x row) b rb,
        (inner-of x (Some (compound.ForAll, part.Returns)) (types g.values ++ map many (types b.values)) ls (Of x made) r rr, tt),
      ),
    )

    outer : Outer x ls ks
    outer = inner-outer x ls ms inner

    many-results : AreSorted x.sort (closed ks 0 (length ks) g).results (many_sorts x xs)
    many-results = closed-sorted x.sort ks 0 (length ks) g.values (many_sorts x xs) (many-sorted x xs g.values rg.values)

    body-results : AreSorted x.sort (closed ks 0 (length ks) b).results (sorts_of x row)
    body-results = forms_are.results-sorted x ks 0 (length ks) b.values row rb.values

    made-results : AreSorted x.sort (closed ks 0 (length ks) r).results (sorts_of x made)
    made-results = forms_are.results-sorted x ks 0 (length ks) r.values made rr.values

    first-results : (port : ℕ) → result_of x.sort gs 0 port ≡ at_port port (many_sorts x xs)
    first-results port = result-at x gs 0 (closed ks 0 (length ks) g) (many_sorts x xs) refl many-results port

    second-results : (port : ℕ) → result_of x.sort gs 1 port ≡ at_port port (sorts_of x row)
    second-results port = result-at x gs 1 (closed ks 0 (length ks) b) (sorts_of x row) refl body-results port

    first-count : results_at gs 0 ≡ length xs
    first-count = sorted-length x.sort (closed ks 0 (length ks) g).results (many_sorts x xs) many-results ∙ length-map xs (λ t. Many (x.bare t))

    second-count : results_at gs 1 ≡ length row
    second-count = sorted-length x.sort (closed ks 0 (length ks) b).results (sorts_of x row) body-results ∙ length-map row (plain x.forms x.names x.hs x.bare x.sort x.sorting)

    third-count : results_at gs 2 ≡ length made
    third-count = sorted-length x.sort (closed ks 0 (length ks) r).results (sorts_of x made) made-results ∙ length-map made (plain x.forms x.names x.hs x.bare x.sort x.sorting)

    compound-right : (ns : List ℕ) → AreNumbers x.forms x.names ns made → (ws : List Wire) (first shift : ℕ) → IsCompound x.sort compound.ForAll (closed_wires ws first shift ks) arms gs (record { port = 1; types = map One ns })
    compound-right ns num ws first shift = record {
      parts = refl;
      width = omega arith;
      inputs = inputs-fit x compound.ForAll (λ port s h. h) ls ws ks first shift 1 outer;
      list = refl;
      outputs = outputs-fit x compound.ForAll gs ns made num (result-at x gs 2 (closed ks 0 (length ks) r) (sorts_of x made) refl made-results) (omega (arith, third-count));
    }

    -- what the body takes of the generators
    body-own : (q : ℕ) (c : Carried) → at_port q (map single (types g.values)) ≡ Some c → (q ≤ results_at gs 0) × FitsOwnInput x.sort compound.ForAll part.Body gs q (x.sort c)
    body-own zero c e = absurd cc
    body-own (suc i) c e =
        let s = single-own xs g.values rg.values i c e in
        let l = s.0 in
        (omega (arith, l, first-count), (s.1.0, first-results (suc i) ∙ s.1.1, s.1.2))

    -- what returns take of the generators, and of the body
    returns-own : (q : ℕ) (c : Carried) → at_port q (types g.values ++ map many (types b.values)) ≡ Some c → (q ≤ results_at gs 0 + results_at gs 1) × FitsOwnInput x.sort compound.ForAll part.Returns gs q (x.sort c)
    returns-own zero c e = absurd cc
    returns-own (suc i) c e = by (slice-cases (types g.values) (map many (types b.values)) i c e)
      where
        Fit : ℕ → Type 0
        Fit q = (q ≤ results_at gs 0 + results_at gs 1) × FitsOwnInput x.sort compound.ForAll part.Returns gs q (x.sort c)

        low : (bl : Bool) → nat_le (suc i) (results_at gs 0) ≡ bl → suc i ≤ results_at gs 0 → result_of x.sort gs 0 (suc i) ≡ Some (x.sort c)
            → MatchBool bl (result_of x.sort gs 0 (suc i) ≡ Some (x.sort c)) (IsAllOf (result_of x.sort gs 1 (suc i - results_at gs 0)) (x.sort c))
        low true e l h = h
        low false e l h = let t = le-leb (suc i) (results_at gs 0) l in absurd cc

        high : (j : ℕ) (bl : Bool) → nat_le (suc i) (results_at gs 0) ≡ bl → suc i ≡ results_at gs 0 + suc j → IsAllOf (result_of x.sort gs 1 (suc j)) (x.sort c)
            → MatchBool bl (result_of x.sort gs 0 (suc i) ≡ Some (x.sort c)) (IsAllOf (result_of x.sort gs 1 (suc i - results_at gs 0)) (x.sort c))
        high j true e l h = let t = leb-true (suc i) (results_at gs 0) e in absurd (omega (arith, t, l))
        high j false e l h = let z : suc j ≡ suc i - results_at gs 0 = omega (arith, l) in subst (λ n. IsAllOf (result_of x.sort gs 1 n) (x.sort c)) z h

        by : (slice_get (types g.values) i ≡ Some c) ⊎ ((j : ℕ) × (i ≡ length (types g.values) + j) × (slice_get (map many (types b.values)) j ≡ Some c)) → Fit (suc i)
        by (inl e) =
            let s = many-own xs g.values rg.values i c e in
            let l = s.0 in
            (omega (arith, l, first-count), low (nat_le (suc i) (results_at gs 0)) refl (omega (arith, l, first-count)) (first-results (suc i) ∙ s.1))
        by (inr e) =
            let s = manys-own row b.values rb.values e.0 c e.2 in
            let l = s.0 in
            let at = e.1 in
            let many_g = many-length x xs g.values rg.values in
            let sizes = length-map g.values (λ (w : Wire). w.ty) in
            (omega (arith, l, at, many_g, sizes, first-count, second-count), high e.0 (nat_le (suc i) (results_at gs 0)) refl (omega (arith, at, many_g, sizes, first-count)) (s.1.0, second-results (suc e.0) ∙ s.1.1, s.1.2))

    parts-right : 1 ≤ length xs → (ws : List Wire) (first shift k : ℕ) (p : Part) (d : LoweredGraph) → part_at compound.ForAll k ≡ Some p → slice_get gs k ≡ Some d → IsPartGraph x.sort x.at compound.ForAll p k (closed_wires ws first shift ks) arms gs d
    parts-right some ws first shift zero p d e f =
        let vs = closed_wires ws first shift ks in
        let l = length-map ks (closed_wire ws first shift) in
        let many_xs = length-map xs (λ t. Many (x.bare t)) in
        at-place (λ p d. IsPartGraph x.sort x.at compound.ForAll p 0 vs arms gs d) part.Generator p (closed ks 0 (length ks) g) d e f
        (part-graph x compound.ForAll part.Generator 0 [] ls (AreMany x xs) g ks 0 (length ks) vs arms gs (many_sorts x xs) rg (inputs-cover ms).0 outer
        (part-closes x compound.ForAll part.Generator vs arms gs 0 ks [] 0 l (omega arith) (input-sort x ls ws ks first shift outer) (λ q t e. absurd (none q t e))) many-results (λ i s e. multiple xs i s e) (omega (arith, some, many_xs)))
      where
        none : (q : ℕ) (t : Carried) → at_port q [] ≡ Some t → ⊥
        none zero t e = cc
        none (suc q) t e = cc

        multiple : (xs : List Ty) (i : ℕ) (s : Sort) → slice_get (many_sorts x xs) i ≡ Some s → (t : Ty) × (s ≡ Many t)
        multiple [] i s e = absurd cc
        multiple (t ∷ xs) zero s e = (x.bare t, sym (same_Some (Many (x.bare t)) s e))
        multiple (t ∷ xs) (suc i) s e = multiple xs i s e
    parts-right some ws first shift (suc zero) p d e f =
        let vs = closed_wires ws first shift ks in
        let l = length-map ks (closed_wire ws first shift) in
        at-place (λ p d. IsPartGraph x.sort x.at compound.ForAll p 1 vs arms gs d) part.Body p (closed ks 0 (length ks) b) d e f
        (part-graph x compound.ForAll part.Body 1 (map single (types g.values)) ls (Of x row) b ks 0 (length ks) vs arms gs (sorts_of x row) rb (inputs-cover ms).1.0 outer
        (part-closes x compound.ForAll part.Body vs arms gs 1 ks (map single (types g.values)) (results_at gs 0) l refl (input-sort x ls ws ks first shift outer) body-own) body-results (λ i s e. forms_are.sorts-plain x row i s e) refl)
    parts-right some ws first shift (suc (suc zero)) p d e f =
        let vs = closed_wires ws first shift ks in
        let l = length-map ks (closed_wire ws first shift) in
        at-place (λ p d. IsPartGraph x.sort x.at compound.ForAll p 2 vs arms gs d) part.Returns p (closed ks 0 (length ks) r) d e f
        (part-graph x compound.ForAll part.Returns 2 (types g.values ++ map many (types b.values)) ls (Of x made) r ks 0 (length ks) vs arms gs (sorts_of x made) rr (inputs-cover ms).1.1.0 outer
        (part-closes x compound.ForAll part.Returns vs arms gs 2 ks (types g.values ++ map many (types b.values)) (results_at gs 0 + results_at gs 1) l (omega arith) (input-sort x ls ws ks first shift outer) returns-own) made-results
        (λ i s e. forms_are.sorts-plain x made i s e) refl)
    parts-right some ws first shift (suc (suc (suc k))) p d e f = absurd cc

  -- ---- the loop

  same-multiples : (xs : List Ty) (ws : List Wire) → AreMany x xs ws → AreMultiples x.forms x.names xs ws
  same-multiples [] [] h = tt
  same-multiples [] (w ∷ ws) h = absurd h
  same-multiples (t ∷ xs) [] h = absurd h
  same-multiples (t ∷ xs) (w ∷ ws) h = (h.0.0, same-multiples xs ws h.1)

  pub forall-does : (γ xs tys row made : List Ty) (ss : List Source) (cs : List ClauseForm) (body : Lowers) (ns : List ℕ) (bounds : List Wire) → Goes ss tys xs → 1 ≤ length ss → To x (γ ++ xs) row body → AreMade cs row made → AreNumbers x.forms x.names ns made
      → (p : Which) (own : List Carried) (before : List Outs) (ls : List Level) (env : List Wire) → Of x γ env → In x (level own before ∷ ls) env → Of x tys bounds → In x (level own before ∷ ls) bounds
      → Does x p own before ls (Of x made) (forall_lowered x.forms ss cs body ns bounds env)
  forall-does γ xs tys row made ss cs body ns bounds goes some b_does clauses num p own before ls env t i tb ib q s =
      let up = level own before in
      let outer_levels = up ∷ ls in
      let g = new_graph (generators_lowered x.forms ss (map into bounds)) q in
      let singles = map single (types g.values) in
      let seen = map into env ++ own_inputs 1 singles in
      let b = new_graph (body seen) (q + size g) in
      let collected = map many (types b.values) in
      let ms_own = own_inputs (suc (length g.values)) collected in
      let at = bound_of x.forms ss (map into bounds) in
      let r = new_graph (returns_lowered at cs ms_own ns) (q + size g + size b) in
      let ms = g ∷ b ∷ r ∷ [] in
      let ks = inputs ms in
      let sits1 = closing.others x.forms x.names x.sort x.at q ks 0 (length ks) g (b ∷ r ∷ []) s in
      let sits2 = closing.others x.forms x.names x.sort x.at (q + size g) ks 0 (length ks) b (r ∷ []) sits1 in
      let outer_typed = typed-into x.forms x.names bounds tys tb in
      let rg = generators-does (Some (compound.ForAll, part.Generator)) refl ss tys xs goes [] [] outer_levels (map into bounds) outer_typed (all-into x.forms x.names up (level [] []) ls bounds tys tb ib) (suc q)
      (closing.sits-inside x.forms x.names x.sort x.at q ks 0 (length ks) g (b ∷ r ∷ []) s) in
      let seen_typed = typed-both x.forms x.names (map into env) (own_inputs 1 singles) γ xs (typed-into x.forms x.names env γ t) (ones-typed x.forms x.names xs g.values (same-multiples xs g.values rg.values) 0 1) in
      let nil_b : singles ++ [] ≡ singles = append-nil singles in
      let own_b = subst (λ l. In x (level l [] ∷ outer_levels) (own_inputs 1 singles)) nil_b (own-in x.forms x.names [] singles [] [] outer_levels) in
      let rb = b_does (Some (compound.ForAll, part.Body)) singles [] outer_levels seen seen_typed
      (in-both x.forms x.names (level singles [] ∷ outer_levels) (map into env) (own_inputs 1 singles) (all-into x.forms x.names up (level singles []) ls env γ t i) own_b) (suc (q + size g)) (closing.sits-inside x.forms x.names x.sort x.at (q + size g) ks 0 (length ks) b (r ∷ []) sits1) in
      let front = types g.values in
      let sizes : length front ≡ length g.values = length-map g.values (λ (w : Wire). w.ty) in
      let nil_r : front ++ (collected ++ []) ≡ front ++ collected = ap (λ l. front ++ l) (append-nil collected) in
      let own_r = subst (λ k. In x (level (front ++ collected) [] ∷ outer_levels) (own_inputs (suc k) collected)) sizes (subst (λ l. In x (level l [] ∷ outer_levels) (own_inputs (suc (length front)) collected)) nil_r (own-in x.forms x.names front collected [] [] outer_levels)) in
      let rr = returns-does x (Some (compound.ForAll, part.Returns)) refl cs row made clauses (front ++ collected) [] outer_levels at ms_own ns
      (bound-right (Some (compound.ForAll, part.Returns)) refl ss tys xs goes (level (front ++ collected) [] ∷ outer_levels) (map into bounds) outer_typed (all-into x.forms x.names up (level (front ++ collected) []) ls bounds tys tb ib))
      (manys-typed x row b.values rb.values 0 (suc (length g.values))) own_r num (suc (q + size g + size b)) (closing.sits-inside x.forms x.names x.sort x.at (q + size g + size b) ks 0 (length ks) r [] sits2) in
      whole-right x p own before ls compound.ForAll ms (0 ∷ 1 ∷ 2 ∷ []) (length b.values) ns made q (inner outer_levels g b r xs row made rg rb rr) s num (compound-right outer_levels g b r xs row made rg rb rr ns num) (parts-right outer_levels g b r xs row made rg rb rr (some-names ss tys xs goes some))
