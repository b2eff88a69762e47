-- A loop over generators: what stands inside of its node, and what it gives.
use Rattle.std.proofs.Common.{◌≡◌, ℕ, zero, suc, ◌+◌, ◌-◌, ◌*◌, ◌≤◌, Bool, true, false, ℤ, pos, List, [], ◌∷◌, ◌++◌, map, length, get_or, Some, ◌⊎◌, inl, inr, refl, sym, ap, ◌∙◌, subst, arith, append_assoc, append-nil, if◌then◌else◌}
use Rattle.std.proofs.lemmas.List.{length-map, length-replicate}
use Rattle.flow_value.specs.declared.value.Val.{Val}
use Rattle.flow_value.specs.declared.value.Val.TheVariants as val
use Rattle.flow_value.specs.declared.ty.Ty.{Ty}
use Rattle.flow_value.specs.declared.ty.Ty.TheVariants as ty
use Rattle.value_ops.specs.Operations.{op_value}
use Rattle.value_ops.specs.declared.operation.Operation.TheVariants as operation
use Rattle.sisal_tree.specs.declared.expr.Constant.TheVariants as constant
use Rattle.if1_graph.specs.declared.op.Compound.TheVariants as compound
use Rattle.type_table.specs.declared.form.Form.{Form}
use Rattle.loop_folds.specs.declared.masking.Masking.TheVariants as masking
use Rattle.loop_folds.specs.Clauses.{Cell, ClauseCells}
use Rattle.typed_tree.specs.declared.expr.ClauseForm.{ClauseForm}
use Rattle.typed_tree.specs.declared.expr.Product.{Product}
use Rattle.typed_tree.specs.declared.expr.Source.{Source}
use Rattle.typed_tree.specs.declared.expr.Source.TheVariants as source
use Rattle.typed_tree.specs.declared.program.Function.{Function}
use Rattle.typed_tree.specs.Types.{IsNumber, AreNumbers}
use Rattle.typed_values.specs.Fitting.{Header, Goes, AreMade}
use Rattle.typed_values.specs.Fitting as is
use Rattle.typed_rows.specs.Rows.{AreOf}
use Rattle.typed_values.proofs.Clauses.{names_well}
use Rattle.typed_rows.proofs.ValueKinds.{out_err}
use Rattle.flow_value.specs.declared.cause.Cause.TheVariants as cause
use Rattle.meaning.specs.declared.sources.Places.{Places}
use Rattle.meaning.specs.declared.sources.Places.TheVariants as places
use Rattle.meaning.specs.Timed.{given, plus}
use Rattle.meaning.specs.Words.{failed}
use Rattle.meaning.specs.Sources.{places_of, names_at, lower_of, first_index}
use Rattle.meaning.specs.Rows.{no_rows, with_cells, with_row, with_rows, cells_in, made}
use Rattle.meaning.specs.Rows as rows
use Rattle.meaning.specs.Meaning.{Gives as Means, all_of, defined, body_of, over, environments, at_place, each as at_each, folded}
use Rattle.graph_meaning.specs.Carried.{Carried, Value, Many, Unfilled}
use Rattle.lowering_meaning.proofs.Told.{Telling}
use Rattle.graph_meaning.specs.Forms.{columns, add_row}
use Rattle.graph_meaning.specs.Demand.{Network}
use Rattle.lowering.specs.declared.feed.Carried as wired
use Rattle.lowering.specs.declared.feed.Carried.TheVariants.{One}
use Rattle.lowering.specs.declared.feed.Wire.{Wire}
use Rattle.lowering.specs.Feeds.{into}
use Rattle.lowering.specs.declared.graph.Lowered.{Lowered}
use Rattle.lowering.specs.Graphs.{Lowering, uses, inputs, numbers, new_graph, size}
use Rattle.lowering.specs.Operations.{Lowers, one, integer, all_lowered, body_lowered, wire_at}
use Rattle.lowering.specs.Choices.{is_array, type_of}
use Rattle.lowering.specs.Loops.{Phrase, own_inputs, many, single, types, clauses_lowered, unless_places, Wired, Limit, generators_lowered, bound_of, returns_lowered, product_lowered}
use Rattle.lowering.specs.Phrases.{each}
use Rattle.loop_columns.specs.Parts.{From as TheirFrom, GraphGives}
use Rattle.loop_columns.specs.Generators.{generated}
use Rattle.loop_columns.specs.Clauses.{spans, noted, shown, folds_of, AreWide}
use Rattle.loop_columns.specs.Loops.{Gave, clauses_made, AreForAllParts}
use Rattle.loop_columns.proofs.Bounds.{lower-bounds}
use Rattle.loop_columns.proofs.Clauses.{folded-by-columns}
use Rattle.loop_columns.proofs.ForAlls.{for-alls-given}
use Rattle.lowering_meaning.specs.Coverage.{Coverage, total, masks_alone}
use Rattle.lowering_meaning.proofs.From.{From}
use Rattle.lowering_meaning.proofs.Timed.{plus-some, then-some, given-is}
use Rattle.lowering_meaning.proofs.Wires.{AllWires, both-wires, left-wires, right-wires, In, in-all, in-left, in-right, IsThere, FromNames, from-in, from-more, names-from, AreOwn, MadeFrom, AllFrom}
use Rattle.lowering_meaning.proofs.Sites.{Site, Carries, AllCarry, AllCarried, Placed, Done, Made, done-made, carry-both, carry-length, as-values}
use Rattle.lowering_meaning.proofs.Inside.{Gives, PartAt, part-at, own-carry}
use Rattle.lowering_meaning.proofs.Forms.{WiresOf, wires-both, wires-into, Typed, then-typed, of-both, of-length, from-fewer, Free, FreeOn, Drawn, then-drawn}
use Rattle.lowering_meaning.proofs.Parts.{at_part, Part, part, part-gives, Around, around, used-there, whole-done, get-right}
use Rattle.lowering_meaning.proofs.Ifs.{ports-from, whole-from}
use Rattle.lowering_meaning.proofs.Operations.{at-from, held-literal}
use Rattle.lowering_meaning.proofs.Widths.{Wide}
use Rattle.lowering_meaning.proofs.GenForms.{generators-from, generators-wide, generators-made}
use Rattle.lowering_meaning.proofs.GenTypes.{array-number, stream-number, names-wired}
use Rattle.lowering_meaning.proofs.ReturnForms.{bound_wire, returns-from, IsBound, AnyArray, AreShaped, returns-done}
use Rattle.lowering_meaning.proofs.Trees.{each-all, ProductDrawn, numbers-length}
use Rattle.lowering_meaning.proofs.Nots.{noted_body, noted-given, noted-body-drawn, clauses-wide}

-- ---- the records of both crates

pub from-mine : (A : ℕ → Type 0) → From A → TheirFrom A
from-mine A x = record { least = x.least; holds = x.holds }

pub from-theirs : (A : ℕ → Type 0) → TheirFrom A → From A
from-theirs A x = record { least = x.least; holds = x.holds }

-- ---- lists

map-both : {A B : Type 0} (f : A → B) (xs ys : List A) → map f (xs ++ ys) ≡ map f xs ++ map f ys
map-both f [] ys = refl
map-both f (x ∷ xs) ys = ap (λ zs. f x ∷ zs) (map-both f xs ys)

pub into-right : (env ws : List Wire) → AllWires (FromNames (map into (env ++ ws))) (map into ws)
into-right env ws = in-all (map into ws) (FromNames (map into (env ++ ws))) (λ w a. from-in (map into (env ++ ws)) w (subst (In w) (sym (map-both into env ws)) (in-right w (map into env) (map into ws) a)))

pub into-left : (env ws own : List Wire) → AllWires (FromNames (map into (env ++ ws) ++ own)) (map into env)
into-left env ws own =
    in-all (map into env) (FromNames (map into (env ++ ws) ++ own)) (λ w a. from-in (map into (env ++ ws) ++ own) w (in-left w (map into (env ++ ws)) own (subst (In w) (sym (map-both into env ws)) (in-left w (map into env) (map into ws) a))))

carried-length : (u : Network) (number : ℕ → ℕ) (shape : Telling) (s : Site) (ws : List Wire) (cs : List Carried) → AllCarried u number shape s ws cs → length ws ≡ length cs
carried-length u number shape s [] [] a = refl
carried-length u number shape s (w ∷ ws) (c ∷ cs) a = ap suc (carried-length u number shape s ws cs a.1)
carried-length u number shape s [] (c ∷ cs) a = absurd a
carried-length u number shape s (w ∷ ws) [] a = absurd a

-- ---- columns and clauses have their lengths

add-length : (row ms : List Carried) → length row ≡ length ms → length (add_row row ms) ≡ length ms
add-length [] ms e = refl
add-length (v ∷ vs) [] e = refl
add-length (v ∷ vs) (m ∷ ms) e = ap suc (add-length vs ms (omega (arith, e)))

abbrev pub AreLong : ℕ → List (List Carried) → Type 0
AreLong n [] = Unit {0}
AreLong n (r ∷ rs) = (length r ≡ n) × AreLong n rs

pub columns-length : (n : ℕ) (rs : List (List Carried)) → AreLong n rs → length (columns n rs) ≡ n
columns-length n [] h = length-replicate n (Many [])
columns-length n (r ∷ rs) h =
    let rest = columns-length n rs h.1 in
    add-length r (columns n rs) (h.0 ∙ sym rest) ∙ rest

cells-length : (fs : List ClauseCells) (xs : List Cell) → length (with_cells fs xs) ≡ length fs
cells-length [] xs = refl
cells-length (f ∷ fs) [] = refl
cells-length (f ∷ fs) (x ∷ xs) = ap suc (cells-length fs xs)

rows-length : (cs : List ClauseForm) (fs : List ClauseCells) (rs : List (List Val)) → length (with_rows cs fs rs) ≡ length fs
rows-length cs fs [] = refl
rows-length cs fs (r ∷ rs) = rows-length cs (with_row cs fs r) rs ∙ cells-length fs (cells_in cs r)

pub made-length : (cs : List ClauseForm) (l : ℤ) (rs : List (List Val)) → length (made l (with_rows cs (no_rows cs) rs)) ≡ length cs
made-length cs l rs = length-map (with_rows cs (no_rows cs) rs) _ ∙ (rows-length cs (no_rows cs) rs ∙ length-map cs _)

pub clauses-count : (cs : List ClauseForm) (row made : List Ty) → AreMade cs row made → (length row ≡ spans cs) × (length cs ≡ length made)
clauses-count _ _ _ is.no_clause = (refl, refl)
clauses-count _ _ _ (is.unmasked {c = c} {cs = cs} {tys = tys} {made = made} e m h) =
    let r = clauses-count cs tys made h in
    (ap suc r.0 ∙ (one-more (spans cs) ∙ ap (λ x. rows.span x + spans cs) (sym e)), ap suc r.1)
  where
    one-more : (n : ℕ) → suc n ≡ 1 + n
    one-more n = omega arith
clauses-count _ _ _ (is.masked {c = c} {cs = cs} {tys = tys} {made = made} e m h) =
    let r = clauses-count cs tys made h in
    (ap (λ n. suc (suc n)) r.0 ∙ (two-more (spans cs) ∙ ap (λ k. k + spans cs) (sym (two e))), ap suc r.1)
  where
    two-more : (n : ℕ) → suc (suc n) ≡ 2 + n
    two-more n = omega arith

    two : (c.masking ≡ masking.When) ⊎ (c.masking ≡ masking.Unless) → rows.span c.masking ≡ 2
    two (inl e) = ap rows.span e
    two (inr e) = ap rows.span e

noted-length : (bs : List Bool) (vs : List Val) → length (noted bs vs) ≡ length vs
noted-length bs [] = refl
noted-length [] (v ∷ vs) = refl
noted-length (true ∷ bs) (v ∷ vs) = ap suc (noted-length bs vs)
noted-length (false ∷ bs) (v ∷ vs) = ap suc (noted-length bs vs)

pub shown-wide : (cs : List ClauseForm) (n : ℕ) (rs : List (List Val)) → AreWide n rs → AreLong n (map (shown cs) rs)
shown-wide cs n [] h = tt
shown-wide cs n (r ∷ rs) h = (length-map (noted (unless_places cs) r) Value ∙ (noted-length (unless_places cs) r ∙ h.0), shown-wide cs n rs h.1)

-- ---- what a loop gives is one value a clause

over-length : (q : Product) (n : ℕ) (body : Means) (vs : List Val) (w : Places) (names rs : List Val) (i : ℕ) → n ≡ length q.clauses → over q n body vs w names ≡ Some (rs, i) → n ≡ length rs
over-length q n body vs (places.Failed c) names rs i e h = sym (length-replicate n (val.Err c)) ∙ ap length (given-is (failed n c) rs i h).0
over-length q n body vs (places.Count m) names rs i e h =
    let x = then-some (at_each (at_place body) (environments q.sources vs names m m)) (folded q.clauses (lower_of vs)) rs i h in
    let y = plus-some (length q.clauses) (given (made (lower_of vs) (with_rows q.clauses (no_rows q.clauses) x.mid))) rs x.k x.second in
    let z = given-is (made (lower_of vs) (with_rows q.clauses (no_rows q.clauses) x.mid)) rs y.0 y.1 in
    e ∙ (sym (made-length q.clauses (lower_of vs) x.mid) ∙ ap length z.0)

-- ---- what stands inside of the node

module _ (forms : List Form) (spellings : List (List ℕ)) (q : Product) (ds : List (List Lowers)) (gs : List Phrase) (ns : List ℕ) where
  abbrev pub bs : List Bool
  bs = unless_places q.clauses

  abbrev pub the_body : Lowers
  the_body = body_lowered ds (clauses_lowered bs (each gs))

  abbrev pub the_loop : List Wire → List Wire → Lowering
  the_loop env ws = product_lowered forms q ds (each gs) ns ws env

  module _ (j : ℕ) (env ws : List Wire) where
    abbrev pub m0 : Lowered
    m0 = new_graph (generators_lowered forms q.sources (map into ws)) j

    abbrev pub g1 : ℕ
    g1 = j + size m0

    abbrev pub own1 : List Wire
    own1 = own_inputs 1 (map single (types m0.values))

    abbrev pub m1 : Lowered
    m1 = new_graph (the_body (map into env ++ own1)) g1

    abbrev pub g2 : ℕ
    g2 = g1 + size m1

    abbrev pub own2 : List Wire
    own2 = own_inputs (suc (length m0.values)) (map many (types m1.values))

    abbrev pub m2 : Lowered
    m2 = new_graph (returns_lowered (bound_of forms q.sources (map into ws)) q.clauses own2 ns) g2

    abbrev pub graphs : List Lowered
    graphs = m0 ∷ m1 ∷ m2 ∷ []

    abbrev pub arms : List ℕ
    arms = 0 ∷ 1 ∷ 2 ∷ []

    ports-own : (i : ℕ) (ts : List wired.Carried) → AreOwn (own_inputs i ts)
    ports-own i [] = tt
    ports-own i (t ∷ ts) = (tt, ports-own (suc i) ts)

    bound-from : (ss : List Source) (xs : List Wire) → FromNames (map into (env ++ ws)) (wire_at xs 0) → FromNames (map into (env ++ ws)) (bound_wire (bound_of forms ss xs))
    bound-from [] xs h = tt
    bound-from (source.Range ∷ ss) xs h = h
    bound-from (source.Elements ∷ ss) xs h = by (is_array forms (type_of (wire_at xs 0).ty))
      where
        by : (b : Bool) → FromNames (map into (env ++ ws)) (bound_wire (if b then Limit (wire_at xs 0) else Wired one))
        by true = h
        by false = tt
    bound-from (source.Indexed ∷ ss) xs h = by (is_array forms (type_of (wire_at xs 0).ty))
      where
        by : (b : Bool) → FromNames (map into (env ++ ws)) (bound_wire (if b then Limit (wire_at xs 0) else Wired one))
        by true = h
        by false = tt

    pub graphs-from : Free the_body → AllFrom (env ++ ws) graphs
    graphs-from fb =
        let around = map into (env ++ ws) in
        let right = into-right env ws in
        let x0 : MadeFrom around m0 = generators-from forms around q.sources (map into ws) 0 (suc j) right in
        let x1 : MadeFrom (around ++ own1) m1 =
        from-fewer (around ++ own1) (map into env ++ own1) m1 (both-wires (FromNames (around ++ own1)) (map into env) own1 (into-left env ws own1) (ports-from (around ++ own1) 0 1 (map single (types m0.values)))) (fb (map into env ++ own1) 0 (suc g1)) in
        let x2 : MadeFrom around m2 =
        returns-from around (bound_of forms q.sources (map into ws)) q.clauses own2 ns 0 (suc g2)
        (bound-from q.sources (map into ws) (from-more around (map into ws) right (wire_at (map into ws) 0) (at-from (map into ws) 0))) (ports-from around 0 (suc (length m0.values)) (map many (types m1.values))) in
        (([], tt, subst (λ e. MadeFrom e m0) (sym (append-nil around)) x0), ((own1, ports-own 1 (map single (types m0.values)), x1), (([], tt, subst (λ e. MadeFrom e m2) (sym (append-nil around)) x2), tt)))

  pub loop-free : Free the_body → FreeOn the_loop
  loop-free fb env ws k j h =
      from-fewer env (env ++ ws) (the_loop env ws k j) (both-wires (FromNames env) env ws (names-from env) h)
      (whole-from (env ++ ws) compound.ForAll (graphs j env ws) (arms j env ws) (length (m1 j env ws).values) ns k j (graphs-from j env ws fb))

  -- ---- where a loop stands

  module _ (u : Network) (number : ℕ → ℕ) (shape : Telling) (tys xs : List Ty) (goes : Goes q.sources tys xs) (int : IsNumber forms spellings integer ty.Int) (fb : Free the_body) (wide : ℕ) (wb : Wide wide the_body) where
    module _ (s : Site) (k j : ℕ) (env ws : List Wire) (names vs : List Val) (γ : List Ty) (ew : WiresOf forms spellings γ env) (fw : WiresOf forms spellings tys ws) (a : AllCarry u number shape s env names) (b : AllCarry u number shape s ws vs) (ov : AreOf tys vs) (pl : Placed u number shape s k j (the_loop env ws k j)) where
      abbrev pub ks : List Wire
      ks = inputs (graphs j env ws)

      abbrev n0 : Lowered
      n0 = m0 j env ws

      abbrev n1 : Lowered
      n1 = m1 j env ws

      abbrev n2 : Lowered
      n2 = m2 j env ws

      pub here : Around u number shape s (graphs j env ws)
      here = around u number shape s k j (env ++ ws) (names ++ vs) compound.ForAll (graphs j env ws) (arms j env ws) (length n1.values) ns (carry-both u number shape s env names ws vs a b) pl (graphs-from j env ws fb)

      abbrev pub ins : List Carried
      ins = map Value here.values

      P0 : PartAt u number shape j ks 0 (length ks) n0 (n1 ∷ n2 ∷ [])
      P0 = part-at u number shape j ks 0 (length ks) n0 (n1 ∷ n2 ∷ []) pl.graphs

      P1 : PartAt u number shape (g1 j env ws) ks 0 (length ks) n1 (n2 ∷ [])
      P1 = part-at u number shape (g1 j env ws) ks 0 (length ks) n1 (n2 ∷ []) P0.others

      P2 : PartAt u number shape (g2 j env ws) ks 0 (length ks) n2 []
      P2 = part-at u number shape (g2 j env ws) ks 0 (length ks) n2 [] P1.others

      abbrev there : AllWires (IsThere ks) (uses n0 ++ (uses n1 ++ (uses n2 ++ [])))
      there = used-there u number shape (graphs j env ws)

      generator-part : Part u number shape j ks here.values ws vs [] [] n0
      generator-part = part u number shape s j ks here.values ws vs [] [] n0 (n1 ∷ n2 ∷ []) (numbers j (graphs j env ws)) 0 pl.told.0 refl b here.carry here.seen refl P0 (left-wires _ (uses n0) _ there)

      -- the graph of the generators
      generator-made : Made u number shape (at_part u number shape j ks here.values []) 0 n0 (generated q.sources vs) (length q.sources)
      generator-made = generators-made forms u number shape q.sources tys xs goes vs ov (at_part u number shape j ks here.values []) 0 (suc j) (map into ws) generator-part.carry generator-part.placed

      pub generator-gives : Gives u number shape j ins (generated q.sources vs) (length q.sources)
      generator-gives = subst (λ i. Gives u number shape j i (generated q.sources vs) (length q.sources)) (append-nil ins) (part-gives u number shape n0 (generated q.sources vs) (length q.sources) generator-part generator-made)

      generated-length : length n0.values ≡ length (generated q.sources vs)
      generated-length = carried-length u number shape (at_part u number shape j ks here.values []) n0.values (generated q.sources vs) generator-made.held

      -- the graph of the body, at a place
      pub names-typed : (i : ℕ) → AreOf xs (names_at q.sources vs i)
      names-typed i = names_well q.sources tys xs goes vs ov i

      pub body-part : (i : ℕ) → Part u number shape (g1 j env ws) ks here.values env names (map single (types n0.values)) (map Value (names_at q.sources vs i)) n1
      body-part i =
          part u number shape s (g1 j env ws) ks here.values env names (map single (types n0.values)) (map Value (names_at q.sources vs i)) n1 (n2 ∷ []) (numbers j (graphs j env ws)) 1 pl.told.0 refl a here.carry here.seen
          (length-map (types n0.values) single ∙ (length-map n0.values _ ∙ (generators-wide forms q.sources tys xs goes (map into ws) 0 (suc j) ∙ (of-length xs (names_at q.sources vs i) (names-typed i) ∙ sym (length-map (names_at q.sources vs i) Value)))))
          P1 (left-wires _ (uses n1) _ (right-wires _ (uses n0) _ there))

      pub body-names : (i : ℕ) → AllCarry u number shape (at_part u number shape (g1 j env ws) ks here.values (map Value (names_at q.sources vs i))) (map into env ++ own1 j env ws) (names ++ names_at q.sources vs i)
      body-names i =
          let t = at_part u number shape (g1 j env ws) ks here.values (map Value (names_at q.sources vs i)) in
          carry-both u number shape t (map into env) names (own1 j env ws) (names_at q.sources vs i) (body-part i).carry (as-values u number shape t (own1 j env ws) (names_at q.sources vs i) (body-part i).own)

      pub body-wires : WiresOf forms spellings (γ ++ xs) (map into env ++ own1 j env ws)
      body-wires =
          wires-both forms spellings γ xs (map into env) (own1 j env ws) (wires-into forms spellings γ env ew)
          (names-wired forms spellings int q.sources tys xs goes (map into ws) 0 (suc j) 1 (wires-into forms spellings tys ws fw))

      -- ---- what the node gives

      module _ (δ row made : List Ty) (kd : List (List Means)) (kc : List Means) (oγ : AreOf γ names) (clauses : AreMade q.clauses row made) (wide-is : wide ≡ length row)
          (drawn : Drawn u number shape forms spellings (γ ++ xs) 0 0 the_body (noted_body bs kd kc)) (typed : Typed (γ ++ xs) (body_of kd kc) row) (ns-are : length ns ≡ length made) (shaped : AreShaped u number shape q.clauses ns) where
        abbrev pub body : Means
        body = body_of kd kc

        body-gives : (i : ℕ) (r : List Val) (n : ℕ) → body (names ++ names_at q.sources vs i) ≡ Some (r, n) → Gives u number shape (g1 j env ws) (ins ++ map Value (names_at q.sources vs i)) (shown q.clauses r) (8 * n)
        body-gives i r n e =
            let p = body-part i in
            let t = at_part u number shape (g1 j env ws) ks here.values (map Value (names_at q.sources vs i)) in
            let d = drawn.runs (names ++ names_at q.sources vs i) (noted bs r) n (of-both γ xs names (names_at q.sources vs i) oγ (names-typed i)) (noted-given bs kd kc (names ++ names_at q.sources vs i) r n e) in
            let x = d.draws t 0 (suc (g1 j env ws)) (map into env ++ own1 j env ws) body-wires (body-names i) p.placed in
            let g = part-gives u number shape n1 (map Value (noted bs r)) d.limit p (done-made u number shape t 0 n1 (noted bs r) d.limit x) in
            record { cost = g.cost; fires = g.fires; bound = omega (arith, g.bound, d.bound); means = g.means }

        -- rows of the source are as wide as clauses ask
        gave-wide : (m n : ℕ) (rs : List (List Val)) → Gave body (environments q.sources vs names m n) rs → AreWide (spans q.clauses) rs
        gave-wide m zero [] g = tt
        gave-wide m zero (r ∷ rs) g = absurd g
        gave-wide m (suc n) [] g = absurd g
        gave-wide m (suc n) (r ∷ rs) g =
            (sym (of-length row r (typed (names ++ names_at q.sources vs (m - suc n)) r g.0.0 (of-both γ xs names (names_at q.sources vs (m - suc n)) oγ (names-typed (m - suc n))) g.0.1)) ∙ (clauses-count q.clauses row made clauses).0, gave-wide m n rs g.1)

        -- the lower bound of an array is the first number of a range, or that of the array
        bound-is : (n : ℕ) → places_of q.sources vs ≡ places.Count n → (cs : List Carried) → AnyArray u number shape q.clauses → IsBound u number shape (at_part u number shape (g2 j env ws) ks here.values cs) (bound_of forms q.sources (map into ws)) (lower_of vs)
        bound-is n e cs x = by q.sources tys xs goes vs ov (map into ws) around (wires-into forms spellings tys ws fw) e
          where
            t : Site
            t = at_part u number shape (g2 j env ws) ks here.values cs

            around : AllCarry u number shape t (map into ws) vs
            around = (part u number shape s (g2 j env ws) ks here.values ws vs (map (λ c. One 0) cs) cs n2 [] (numbers j (graphs j env ws)) 2 pl.told.0 refl b here.carry here.seen (length-map cs _) P2 (left-wires _ (uses n2) _ (right-wires _ (uses n1) _ (right-wires _ (uses n0) _ there)))).carry

            an-array : (is : Bool) (y : Wire) (v : Val) (l : ℤ) → is ≡ true → Carries u number shape t y (Value v) → op_value operation.LimitLow (v ∷ []) ≡ val.Int l → IsBound u number shape t (if is then Limit y else Wired one) l
            an-array true y v l e a h = (v, a, h)
            an-array false y v l e a h = absurd cc

            a-stream : (is : Bool) (y : Wire) (l : ℤ) → is ≡ false → l ≡ pos 1 → IsBound u number shape t (if is then Limit y else Wired one) l
            a-stream true y l e h = absurd cc
            a-stream false y l e h = λ _. held-literal u number shape t (constant.Integer (pos 1)) (val.Int l) (ap val.Int (sym h))

            by : (ss : List Source) (tys xs : List Ty) → Goes ss tys xs → (vs : List Val) → AreOf tys vs → (zs : List Wire) → AllCarry u number shape t zs vs → WiresOf forms spellings tys zs → places_of ss vs ≡ places.Count n → IsBound u number shape t (bound_of forms ss zs) (lower_of vs)
            by _ _ _ is.no_source [] o zs a w e = λ _. held-literal u number shape t (constant.Integer (pos 1)) (val.Int (lower_of [])) (ap val.Int (sym (ap first_index (out_err cause.Explicit))))
            by _ _ _ is.no_source (v ∷ vs) o zs a w e = absurd o
            by _ _ _ (is.over_range {ss = ss} {bounds = bounds} g) (v ∷ vs) o (y ∷ zs) a w e = subst (λ w. Carries u number shape t y (Value w)) (lower-bounds.of_range ss bounds (v ∷ vs) o (n, e)) a.0
            by _ _ _ (is.over_array {ss = ss} {bounds = bounds} c g) (v ∷ vs) o (y ∷ zs) a w e =
                an-array (is_array forms (type_of y.ty)) y v (lower_of (v ∷ vs)) (array-number forms spellings y.ty c w.0).array a.0 (lower-bounds.of_array source.Elements ss c bounds (v ∷ vs) o (n, e))
            by _ _ _ (is.over_array_at {ss = ss} {bounds = bounds} c g) (v ∷ vs) o (y ∷ zs) a w e =
                an-array (is_array forms (type_of y.ty)) y v (lower_of (v ∷ vs)) (array-number forms spellings y.ty c w.0).array a.0 (lower-bounds.of_array source.Indexed ss c bounds (v ∷ vs) o (n, e))
            by _ _ _ (is.over_stream {ss = ss} {bounds = bounds} c g) (v ∷ vs) o (y ∷ zs) a w e =
                a-stream (is_array forms (type_of y.ty)) y (lower_of (v ∷ vs)) (stream-number forms spellings y.ty c w.0).stream (lower-bounds.of_stream c bounds (v ∷ vs) o)
            by _ _ _ (is.over_stream_at {ss = ss} {bounds = bounds} c g) (v ∷ vs) o (y ∷ zs) a w e =
                a-stream (is_array forms (type_of y.ty)) y (lower_of (v ∷ vs)) (stream-number forms spellings y.ty c w.0).stream (lower-bounds.of_stream c bounds (v ∷ vs) o)
            by _ _ _ (is.over_range g) [] o zs a w e = absurd o
            by _ _ _ (is.over_range g) (v ∷ vs) o [] a w e = absurd a
            by _ _ _ (is.over_array c g) [] o zs a w e = absurd o
            by _ _ _ (is.over_array c g) (v ∷ vs) o [] a w e = absurd a
            by _ _ _ (is.over_array_at c g) [] o zs a w e = absurd o
            by _ _ _ (is.over_array_at c g) (v ∷ vs) o [] a w e = absurd a
            by _ _ _ (is.over_stream c g) [] o zs a w e = absurd o
            by _ _ _ (is.over_stream c g) (v ∷ vs) o [] a w e = absurd a
            by _ _ _ (is.over_stream_at c g) [] o zs a w e = absurd o
            by _ _ _ (is.over_stream_at c g) (v ∷ vs) o [] a w e = absurd a

        -- the graph of the returns
        returns-give : (n : ℕ) (rs : List (List Val)) → places_of q.sources vs ≡ places.Count n → Gave body (environments q.sources vs names n n) rs
            → Gives u number shape (g2 j env ws) (ins ++ generated q.sources vs ++ columns (length n1.values) (map (shown q.clauses) rs)) (map Value (clauses_made q vs rs)) (8 * length q.clauses)
        returns-give n rs e g =
            let gen = generated q.sources vs in
            let w = length n1.values in
            let cols = columns w (map (shown q.clauses) rs) in
            let counts = clauses-count q.clauses row made clauses in
            let w-is : w ≡ spans q.clauses = wb (map into env ++ own1 j env ws) 0 (suc (g1 j env ws)) ∙ (wide-is ∙ counts.0) in
            let long = gave-wide n n rs g in
            let t = at_part u number shape (g2 j env ws) ks here.values (gen ++ cols) in
            let p = part u number shape s (g2 j env ws) ks here.values ws vs (map (λ c. One 0) (gen ++ cols)) (gen ++ cols) n2 [] (numbers j (graphs j env ws)) 2 pl.told.0 refl b here.carry here.seen (length-map (gen ++ cols) _) P2 (left-wires _ (uses n2) _ (right-wires _ (uses n1) _ (right-wires _ (uses n0) _ there))) in
            let l : length (map many (types n1.values)) ≡ length cols =
            length-map (types n1.values) many ∙ (length-map n1.values _ ∙ sym (columns-length w (map (shown q.clauses) rs) (shown-wide q.clauses w rs (subst (λ k. AreWide k rs) (sym w-is) long)))) in
            let held : AllCarried u number shape t (own2 j env ws) cols =
            own-carry u number shape t (length n0.values) (map many (types n1.values)) cols l
            (λ i h.
            let x : length ks + length n0.values + i ≡ length ks + 0 + (length n0.values + i) = omega arith in
            let y : length n0.values + i ≡ length n0.values + 0 + i = omega arith in
            ap (λ k. get_or t.ins k Unfilled) x
            ∙ (get-right ins (gen ++ cols) Unfilled (length ks) (length n0.values + i) (carry-length u number shape s ks here.values here.carry ∙ sym (length-map here.values Value))
            ∙ (ap (λ k. get_or (gen ++ cols) k Unfilled) y ∙ get-right gen cols Unfilled (length n0.values) i generated-length))) in
            let d = returns-done u number shape t 0 (suc (g2 j env ws)) (bound_of forms q.sources (map into ws)) q.clauses (own2 j env ws) ns cols (lower_of vs) (ns-are ∙ sym counts.1) (bound-is n e (gen ++ cols)) shaped held p.placed in
            let r : folds_of q.clauses (lower_of vs) cols ≡ clauses_made q vs rs =
            ap (λ k. folds_of q.clauses (lower_of vs) (columns k (map (shown q.clauses) rs))) w-is ∙ sym (folded-by-columns q.clauses (lower_of vs) rs long) in
            subst (λ i. Gives u number shape (g2 j env ws) i (map Value (clauses_made q vs rs)) (8 * length q.clauses)) (sym (append_assoc ins gen cols))
            (part-gives u number shape n2 (map Value (clauses_made q vs rs)) (8 * length q.clauses) p
            (done-made u number shape t 0 n2 (clauses_made q vs rs) (8 * length q.clauses) (subst (λ vs. Done u number shape t 0 n2 vs (8 * length q.clauses)) r d)))

        as-theirs : (g : ℕ) (is rs : List Carried) (limit more : ℕ) → limit ≤ more → Gives u number shape g is rs limit → GraphGives u g is rs more
        as-theirs g is rs limit more le x = record { cost = x.cost; fires = from-mine _ x.fires; bound = omega (arith, x.bound, le); means = from-mine _ x.means }

        pub loop-done : (rs : List Val) (i : ℕ) → over q (length ns) body vs (places_of q.sources vs) names ≡ Some (rs, i) → Done u number shape s k (the_loop env ws k j) rs (1 + (8 * i + length q.sources))
        loop-done rs i e =
            let parts : AreForAllParts u j (g1 j env ws) (g2 j env ws) (length n1.values) ins q vs names body (length q.sources) =
            record {
              generator = as-theirs j ins (generated q.sources vs) (length q.sources) (length q.sources) (omega arith) generator-gives;
              at_each_place = λ x r n h. as-theirs (g1 j env ws) (ins ++ map Value (names_at q.sources vs x)) (shown q.clauses r) (8 * n) (8 * n + 7) (omega arith) (body-gives x r n h);
              returns = λ n rs h g. as-theirs (g2 j env ws) _ _ (8 * length q.clauses) (8 * length q.clauses) (omega arith) (returns-give n rs h g);
            } in
            let w = for-alls-given u j (g1 j env ws) (g2 j env ws) (length n1.values) (length ns) ins q tys xs vs names body (length q.sources) goes ov parts rs i e in
            let counts = clauses-count q.clauses row made clauses in
            whole-done u number shape s k j compound.ForAll (graphs j env ws) (arms j env ws) (length n1.values) ns here rs (8 * i + length q.sources) pl
            (over-length q (length ns) body vs (places_of q.sources vs) names rs i (ns-are ∙ sym counts.1) e)
            (record { cost = w.cost; leads = from-theirs _ w.leads; fires = from-theirs _ w.fires; bound = w.bound })

-- ---- the law

module _ (u : Network) (number : ℕ → ℕ) (shape : Telling) (forms : List Form) (spellings : List (List ℕ)) (hs : List Header) (p : List Function) (cover : Coverage) where
  -- what is asked of the shapes of the nodes of clauses
  abbrev pub ShapesAre : Type 0
  ShapesAre = (cs : List ClauseForm) (row made : List Ty) (ns : List ℕ) → AreMade cs row made → AreNumbers forms spellings ns made → AreShaped u number shape cs ns

  pub product-drawn : ShapesAre → IsNumber forms spellings integer ty.Int → (q : Product) (arity : List ℕ) → masks_alone q.clauses arity ≡ true → ProductDrawn u number shape forms spellings hs p cover q arity
  product-drawn shapes int q arity alone γ tys xs δ row made ns bs ds gs kb kd ks goes clauses num eb tb wb dd td wd eg tg og tot n call =
      let N = noted-body-drawn u number shape forms spellings hs p cover (γ ++ xs) δ (unless_places q.clauses) (map each ds) kd gs ks arity dd td wd eg og alone in
      let width : Wide (total arity) (the_body forms spellings q (map each ds) gs ns) = λ env n i. clauses-wide u number shape forms spellings hs p cover ((γ ++ xs) ++ δ) (unless_places q.clauses) gs ks arity og alone _ _ _ in
      then-drawn u number shape forms spellings γ tys (length bs) 0 7 (all_lowered (each bs)) (all_of kb) (the_loop forms spellings q (map each ds) gs ns) (λ names vs. plus (length q.sources) (over q (length ns) (body_of kd ks) vs (places_of q.sources vs) names))
      (each-all u number shape forms spellings hs p cover γ bs kb eb) tb wb (loop-free forms spellings q (map each ds) gs ns N.free)
      (λ names vs rs j o m e.
      let x = plus-some (length q.sources) (over q (length ns) (body_of kd ks) vs (places_of q.sources vs) names) rs j e in
      record {
        limit = 1 + (8 * x.0 + length q.sources);
        bound = omega (arith, x.2);
        draws = λ s k i env ws ew fw a b pl.
            loop-done forms spellings q (map each ds) gs ns u number shape tys xs goes int N.free (total arity) width s k i env ws names vs γ ew fw a b m pl δ row made kd ks o clauses tot N
            (then-typed (γ ++ xs) ((γ ++ xs) ++ δ) row (defined kd) (λ names. all_of ks) td (λ names o. tg)) (numbers-length forms spellings ns made num) (shapes q.clauses row made ns clauses num) rs x.0 x.1;
      })
