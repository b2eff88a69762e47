-- `for initial`.
use Rattle.std.proofs.Common.{◌≡◌, ℕ, suc, ◌+◌, Bool, true, false, List, [], ◌∷◌, ◌++◌, map, drop, length, Option, Some, None, refl, sym, ap, subst, ◌∙◌}
use Rattle.std.proofs.lemmas.List.{length-map}
use Rattle.std.specs.Prelude.{slice_set}
use Rattle.if1_graph.specs.declared.op.Compound.{Compound}
use Rattle.type_table.specs.declared.form.Form.{Form}
use Rattle.typed_tree.specs.declared.expr.Turns.{Turns}
use Rattle.typed_tree.specs.declared.expr.ClauseForm.{ClauseForm}
use Rattle.typed_tree.specs.declared.program.Function.{Function}
use Rattle.lowering.specs.declared.feed.Carried.{Carried}
use Rattle.lowering.specs.declared.feed.Wire.{Wire}
use Rattle.lowering.specs.declared.feed.Carried.TheVariants.{One}
use Rattle.lowering.specs.Feeds.{into}
use Rattle.lowering.specs.Graphs as graphs
use Rattle.lowering.specs.Graphs.{Lowering, only, size, new_graph}
use Rattle.lowering.specs.Operations.{Lowers, integer, one, all_lowered, defs_lowered, wire_at}
use Rattle.lowering.specs.Loops as loops
use Rattle.lowering.specs.Loops.{own_inputs, many, types, unless_places, returns_lowered, loop_lowered, loop_kind, loop_name, place_of, test_lowered, initial_lowered}
use Rattle.line_types.specs.Traces as told
use Rattle.line_types.specs.Traces.{Trace, Traces, no_line, andthen, a_node, graph_lines, ones, carried_at, all_traced, defs_traced, returns_traced, test_traced, initial_traced}
use Rattle.line_types.proofs.Wires.{AreFilled, filled-both, filled-drop, filled-at, filled-into, filled-ports, filled-set, types-both, types-drop, types-at, types-into, types-ports, types-set}
use Rattle.line_types.proofs.Made.{Is, To, Makes}
use Rattle.line_types.proofs.Made as made
use Rattle.line_types.proofs.Forms.{AllTo, DefsTo}
use Rattle.line_types.proofs.Forms as forms_are
use Rattle.line_types.proofs.Loops as loops_are

-- ---- lists of wires

length-types : (ws : List Wire) → length (types ws) ≡ length ws
length-types ws = length-map ws (λ w. w.ty)

take-into : (env ws : List Wire) → loops.take_up (length env) (map into env ++ ws) ≡ map into env
take-into [] ws = refl
take-into (w ∷ env) ws = ap (λ l. into w ∷ l) (take-into env ws)

drop-into : (env ws : List Wire) → drop (length env) (map into env ++ ws) ≡ ws
drop-into [] ws = refl
drop-into (w ∷ env) ws = drop-into env ws

filled-places : (ws : List Wire) (ps : List ℕ) → AreFilled ws → AreFilled (map (wire_at ws) ps)
filled-places ws [] a = tt
filled-places ws (p ∷ ps) a = (filled-at ws p a, filled-places ws ps a)

types-places : (ws : List Wire) (ps : List ℕ) → types (map (wire_at ws) ps) ≡ map (carried_at (types ws)) ps
types-places ws [] = refl
types-places ws (p ∷ ps) = ap (λ c. c ∷ types (map (wire_at ws) ps)) (types-at ws p) ∙ ap (λ l. carried_at (types ws) p ∷ l) (types-places ws ps)

filled-renew : (ds : List (Option ℕ)) (ws l : List Wire) → AreFilled ws → AreFilled l → AreFilled (loops.renew ds ws l)
filled-renew [] ws l a b = b
filled-renew (d ∷ ds) [] l a b = b
filled-renew (None ∷ ds) (w ∷ ws) l a b = filled-renew ds ws l a.1 b
filled-renew (Some x ∷ ds) (w ∷ ws) l a b = filled-set (loops.renew ds ws l) x w (filled-renew ds ws l a.1 b) a.0

types-renew : (ds : List (Option ℕ)) (ws l : List Wire) → types (loops.renew ds ws l) ≡ told.renew ds (types ws) (types l)
types-renew [] ws l = refl
types-renew (d ∷ ds) [] l = refl
types-renew (None ∷ ds) (w ∷ ws) l = types-renew ds ws l
types-renew (Some x ∷ ds) (w ∷ ws) l = types-set (loops.renew ds ws l) x w ∙ ap (λ z. slice_set z x w.ty) (types-renew ds ws l)

module _ (forms : List Form) (names : List (List ℕ)) (fs : List Function) where
  abbrev Does : Lowering → Trace → Type 0
  Does f t = Makes forms names fs f t

  abbrev Becomes : Lowers → Traces → Type 0
  Becomes g t = To forms names fs g t

  -- ---- phrases

  abbrev pub PhrasesTo : List loops.Phrase → List told.Phrase → Type 0
  PhrasesTo [] [] = Unit {0}
  PhrasesTo (p ∷ ps) (t ∷ ts) = ((p.name ≡ t.name) × To forms names fs p.lowers t.traces) × PhrasesTo ps ts
  PhrasesTo [] (t ∷ ts) = ⊥
  PhrasesTo (p ∷ ps) [] = ⊥

  extra-to : (o : Option ℕ) (g : Lowers) (t : Traces) (gs : List Lowers) (ts : List Traces) → Becomes g t → AllTo forms names fs gs ts → AllTo forms names fs (loops.extra o g ++ gs) (told.extra o t ++ ts)
  extra-to None g t gs ts h r = (h, r)
  extra-to (Some x) g t gs ts h r = r

  extras-to : (loop : Option ℕ → Option ℕ) (bs : List Bool) (ps : List loops.Phrase) (ts : List told.Phrase) → PhrasesTo ps ts → AllTo forms names fs (loops.extras loop bs ps) (told.extras loop bs ts)
  extras-to loop bs [] [] h = tt
  extras-to loop bs [] (t ∷ ts) h = absurd h
  extras-to loop bs (p ∷ ps) [] h = absurd h
  extras-to loop [] (p ∷ ps) (t ∷ ts) h = tt
  extras-to loop (true ∷ bs) (p ∷ ps) (t ∷ ts) h = (loops_are.not-to forms names fs p.lowers t.traces h.0.1, extras-to loop bs ps ts h.1)
  extras-to loop (false ∷ bs) (p ∷ ps) (t ∷ ts) h =
      subst (λ x. AllTo forms names fs (loops.extra (loop p.name) p.lowers ++ loops.extras loop bs ps) (told.extra (loop x) t.traces ++ told.extras loop bs ts)) h.0.0
      (extra-to (loop p.name) p.lowers t.traces (loops.extras loop bs ps) (told.extras loop bs ts) h.0.1 (extras-to loop bs ps ts h.1))

  same-collected : (loop : Option ℕ → Option ℕ) (bs : List Bool) (ps : List loops.Phrase) (ts : List told.Phrase) → PhrasesTo ps ts → (next : ℕ) → loops.collected loop next bs ps ≡ told.collected loop next bs ts
  same-collected loop bs [] [] h next = refl
  same-collected loop bs [] (t ∷ ts) h next = absurd h
  same-collected loop bs (p ∷ ps) [] h next = absurd h
  same-collected loop [] (p ∷ ps) (t ∷ ts) h next = refl
  same-collected loop (true ∷ bs) (p ∷ ps) (t ∷ ts) h next = ap (λ l. next ∷ l) (same-collected loop bs ps ts h.1 (suc next))
  same-collected loop (false ∷ bs) (p ∷ ps) (t ∷ ts) h next =
      let rest : (k : ℕ) → loops.collected loop k bs ps ≡ told.collected loop k bs ts = same-collected loop bs ps ts h.1 in
      λ i. place_of next (loop (h.0.0 i)) (λ k. rest k i)

  -- ---- graphs of a loop

  row-makes : (es : List Lowers) (ts : List Traces) (around loop : List Wire) (out turn : List Carried) → AllTo forms names fs es ts → AreFilled around → AreFilled loop → types around ≡ out → types loop ≡ turn
      → Does (loops.row_of_turn es around loop) (told.row_of_turn ts out turn)
  row-makes es ts around loop out turn h a b x y =
      let both : types (around ++ loop) ≡ out ++ turn = types-both around loop ∙ (ap (λ l. l ++ types loop) x ∙ ap (λ l. out ++ l) y) in
      made.then-makes forms names fs (all_lowered es (around ++ loop)) (λ ws. only (loop ++ ws)) (all_traced ts (out ++ turn)) (λ cs. no_line (turn ++ cs))
      (made.makes-as forms names fs (all_lowered es (around ++ loop)) (all_traced ts (types (around ++ loop))) (all_traced ts (out ++ turn)) (ap (all_traced ts) both) (forms_are.all-to forms names fs es ts h (around ++ loop) (filled-both around loop a b)))
      (λ ws aw. made.only-makes forms names fs (loop ++ ws) (turn ++ types ws) (filled-both loop ws b aw) (types-both loop ws ∙ ap (λ l. l ++ types ws) y))

  test-to : (u : Bool) (gs : List Lowers) (ts : List Traces) → AllTo forms names fs gs ts → Becomes (test_lowered u gs) (test_traced u ts)
  test-to true gs ts h = loops_are.not-to forms names fs (all_lowered gs) (all_traced ts) (forms_are.all-to forms names fs gs ts h)
  test-to false gs ts h = forms_are.all-to forms names fs gs ts h

  loop-plain : (b : Bool) → made.IsPlain (loop_kind b)
  loop-plain true = tt
  loop-plain false = tt

  loop-makes : (c : Compound) (first test turn : Lowers) (tys : List Carried) (places : List ℕ) (cs : List ClauseForm) (ts : List ℕ) (env : List Wire) (it xt bt : Trace) → made.IsPlain c
      → Does (first (map into env)) it → Does (test (map into env ++ own_inputs 1 tys)) xt → Does (turn (map into env ++ own_inputs 1 tys)) bt
      → Does (loop_lowered c first test turn tys places cs ts env) (a_node (graph_lines (it ∷ xt ∷ bt ∷ returns_traced (told.Wired (One integer)) cs (map (carried_at (map many it.values)) places) ts ∷ [])) (ones ts))
  loop-makes c first test turn tys places cs ts env it xt bt p hi hx hb n q =
      let seen = map into env ++ own_inputs 1 tys in
      let i = new_graph (first (map into env)) q in
      let ih = hi 0 (suc q) in
      let x = new_graph (test seen) (q + size i) in
      let xh = hx 0 (suc (q + size i)) in
      let b = new_graph (turn seen) (q + size i + size x) in
      let bh = hb 0 (suc (q + size i + size x)) in
      let multiples = map many (types i.values) in
      let ls = own_inputs 1 multiples in
      let ms = map (wire_at ls) places in
      let ms-types : types ms ≡ map (carried_at (map many it.values)) places =
      types-places ls places ∙ ap (λ l. map (carried_at l) places) (types-ports 0 1 multiples ∙ ap (map many) ih.values) in
      let r = new_graph (returns_lowered (loops.Wired one) cs ms ts) (q + size i + size x + size b) in
      let rt = returns_traced (told.Wired (One integer)) cs (map (carried_at (map many it.values)) places) ts in
      let rh : Is forms names fs r rt = subst (λ l. Is forms names fs r (returns_traced (told.Wired (One integer)) cs l ts)) ms-types
      (loops_are.returns-makes forms names fs (loops.Wired one) cs ms ts tt (filled-places ls places (filled-ports 0 1 multiples)) 0 (suc (q + size i + size x + size b))) in
      made.whole-makes forms names fs c (i ∷ x ∷ b ∷ r ∷ []) (it ∷ xt ∷ bt ∷ rt ∷ []) (0 ∷ 1 ∷ 2 ∷ 3 ∷ []) 0 ts n q p (ih, (xh, (bh, (rh, tt))))

  -- ---- the whole

  -- by how many names stand around, how many loop names there are, how many names a turn sees, and what loop names carry
  abbrev shape : Turns → List (List Traces) → List Traces → List (List Traces) → List told.Phrase → List ℕ → List Carried → ℕ → ℕ → ℕ → List Carried → Trace
  shape t us xs vs ps ts env around count inside loop =
      let es = told.extras (loop_name around count) (unless_places t.clauses) ps in
      let i = andthen (defs_traced us env) (λ all. told.row_of_turn es env (drop around all)) in
      let b = andthen (defs_traced vs (env ++ loop)) (λ all. told.row_of_turn es env (told.renew t.renewed (drop inside all) loop)) in
      let r = returns_traced (told.Wired (One integer)) t.clauses (map (carried_at (map many i.values)) (told.collected (loop_name around count) count (unless_places t.clauses) ps)) ts in
      a_node (graph_lines (i ∷ test_traced t.is_until xs (env ++ loop) ∷ b ∷ r ∷ [])) (ones ts)

  abbrev names_told : List (List Traces) → List Carried → List Carried
  names_told us env = drop (length env) (defs_traced us env).values

  is-shape : (t : Turns) (us : List (List Traces)) (xs : List Traces) (vs : List (List Traces)) (ps : List told.Phrase) (ts : List ℕ) (env : List Carried)
      → initial_traced t us xs vs ps ts env ≡ shape t us xs vs ps ts env (length env) (length (names_told us env)) (length (env ++ names_told us env)) (names_told us env)
  is-shape t us xs vs ps ts env = refl

  pub initial-makes : (t : Turns) (ds : List (List Lowers)) (us : List (List Traces)) (test : List Lowers) (xs : List Traces) (later : List (List Lowers)) (vs : List (List Traces)) (ps : List loops.Phrase) (qs : List told.Phrase) (ts : List ℕ)
      → DefsTo forms names fs ds us → AllTo forms names fs test xs → DefsTo forms names fs later vs → PhrasesTo ps qs → Becomes (initial_lowered t ds test later ps ts) (initial_traced t us xs vs qs ts)
  initial-makes t ds us test xs later vs ps qs ts hd hx hl hp env a n q =
      let around = map into env in
      let around-filled = filled-into env a in
      let e = types env in
      let k = length env in
      let into-e : types around ≡ e = types-into env in
      let first : Makes forms names fs (defs_lowered ds around) (defs_traced us e) = made.makes-as forms names fs (defs_lowered ds around) (defs_traced us (types around)) (defs_traced us e) (ap (defs_traced us) into-e) (forms_are.defs-to forms names fs ds us hd around around-filled) in
      let m = new_graph (graphs.andthen (defs_lowered ds around) (λ all. only (drop k all))) q in
      let mh : Is forms names fs m (andthen (defs_traced us e) (λ all. no_line (drop k all))) = made.then-makes forms names fs (defs_lowered ds around) (λ all. only (drop k all)) (defs_traced us e) (λ all. no_line (drop k all)) first
      (λ ws aw. made.only-makes forms names fs (drop k ws) (drop k (types ws)) (filled-drop k ws aw) (types-drop k ws)) 0 (suc q) in
      let tys = types m.values in
      let count = length m.values in
      let own = own_inputs 1 tys in
      let own-types : types own ≡ tys = types-ports 0 1 tys in
      let own-filled = filled-ports 0 1 tys in
      let seen = around ++ own in
      let seen-types : types seen ≡ e ++ tys = types-both around own ∙ (ap (λ l. l ++ types own) into-e ∙ ap (λ l. e ++ l) own-types) in
      let seen-filled = filled-both around own around-filled own-filled in
      let loop = loop_name k count in
      let bs = unless_places t.clauses in
      let es = loops.extras loop bs ps in
      let ft = told.extras loop bs qs in
      let eh = extras-to loop bs ps qs hp in
      let it = andthen (defs_traced us e) (λ all. told.row_of_turn ft e (drop k all)) in
      let ih = made.then-makes forms names fs (defs_lowered ds around) (λ all. loops.row_of_turn es around (drop k all)) (defs_traced us e) (λ all. told.row_of_turn ft e (drop k all)) first
      (λ ws aw. row-makes es ft around (drop k ws) e (drop k (types ws)) eh around-filled (filled-drop k ws aw) into-e (types-drop k ws)) in
      let xt = test_traced t.is_until xs (e ++ tys) in
      let xh = made.makes-as forms names fs (test_lowered t.is_until test seen) (test_traced t.is_until xs (types seen)) xt (ap (test_traced t.is_until xs) seen-types) (test-to t.is_until test xs hx seen seen-filled) in
      let len = length seen in
      let turn = λ (inside : List Wire). graphs.andthen (defs_lowered later inside) (λ all. loops.row_of_turn es (loops.take_up k inside) (loops.renew t.renewed (drop (length inside) all) (drop k inside))) in
      let bt = andthen (defs_traced vs (e ++ tys)) (λ all. told.row_of_turn ft e (told.renew t.renewed (drop len all) tys)) in
      let front : loops.take_up k seen ≡ around = take-into env own in
      let back : drop k seen ≡ own = drop-into env own in
      let bh : Makes forms names fs (turn seen) bt = made.then-makes forms names fs (defs_lowered later seen) (λ all. loops.row_of_turn es (loops.take_up k seen) (loops.renew t.renewed (drop len all) (drop k seen))) (defs_traced vs (e ++ tys)) (λ all. told.row_of_turn ft e (told.renew t.renewed (drop len all) tys))
      (made.makes-as forms names fs (defs_lowered later seen) (defs_traced vs (types seen)) (defs_traced vs (e ++ tys)) (ap (defs_traced vs) seen-types) (forms_are.defs-to forms names fs later vs hl seen seen-filled))
      (λ ws aw. row-makes es ft (loops.take_up k seen) (loops.renew t.renewed (drop len ws) (drop k seen)) e (told.renew t.renewed (drop len (types ws)) tys) eh
      (subst AreFilled (sym front) around-filled) (filled-renew t.renewed (drop len ws) (drop k seen) (filled-drop len ws aw) (subst AreFilled (sym back) own-filled))
      (ap types front ∙ into-e) (types-renew t.renewed (drop len ws) (drop k seen) ∙ (ap (λ l. told.renew t.renewed l (types (drop k seen))) (types-drop len ws) ∙ ap (told.renew t.renewed (drop len (types ws))) (ap types back ∙ own-types)))) in
      let places = loops.collected loop count bs ps in
      let made-so = loop-makes (loop_kind t.is_first) (λ z. graphs.andthen (defs_lowered ds z) (λ all. loops.row_of_turn es z (drop k all))) (test_lowered t.is_until test) turn tys places t.clauses ts env it xt bt (loop-plain t.is_first) ih xh bh n q in
      let result = initial_lowered t ds test later ps ts env n q in
      let with-places = subst (λ l. Is forms names fs result (a_node (graph_lines (it ∷ xt ∷ bt ∷ returns_traced (told.Wired (One integer)) t.clauses (map (carried_at (map many it.values)) l) ts ∷ [])) (ones ts))) (same-collected loop bs ps qs hp count) made-so in
      let e-length : length e ≡ k = length-types env in
      let tys-are : tys ≡ names_told us e = mh.values ∙ ap (λ i. drop i (defs_traced us e).values) (sym e-length) in
      let count-is : count ≡ length (names_told us e) = sym (length-types m.values) ∙ ap length tys-are in
      let len-is : len ≡ length (e ++ names_told us e) = sym (length-types seen) ∙ (ap length seen-types ∙ ap (λ l. length (e ++ l)) tys-are) in
      let told_by = shape t us xs vs qs ts e in
      subst (Is forms names fs result)
      (ap (λ i. told_by i count len tys) (sym e-length) ∙ (ap (λ i. told_by (length e) i len tys) count-is ∙ (ap (λ i. told_by (length e) (length (names_told us e)) i tys) len-is ∙ ap (λ l. told_by (length e) (length (names_told us e)) (length (e ++ names_told us e)) l) tys-are)))
      with-places
