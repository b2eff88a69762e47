-- Loops of turns.
use Rattle.std.proofs.Common.{◌≡◌, ℕ, zero, suc, ◌+◌, Bool, true, false, List, [], ◌∷◌, ◌++◌, map, drop, length, Option, Some, None, refl, sym, ap, subst, ◌∙◌}
use Rattle.std.specs.Prelude.{slice_set}
use Rattle.std.proofs.lemmas.List.{map-append, length-map, drop-map}
use Rattle.if1_graph.specs.declared.op.Compound.{Compound}
use Rattle.type_table.specs.declared.form.Form.{Form}
use Rattle.typed_tree.specs.declared.expr.Turns.{Turns}
use Rattle.typed_tree.specs.declared.expr.ClauseForm.{ClauseForm}
use Rattle.lowering.specs.declared.feed.Carried.{Carried}
use Rattle.lowering.specs.declared.feed.Wire.{Wire}
use Rattle.lowering.specs.Feeds.{into}
use Rattle.lowering.specs.declared.graph.Lowered.{Lowered}
use Rattle.lowering.specs.Graphs.{only, andthen, size, whole, new_graph}
use Rattle.lowering.specs.Operations.{Lowers, one, all_lowered, defs_lowered, wire_at}
use Rattle.lowering.specs.Loops.{own_inputs, many, types, take_up, unless_places, Wired, returns_lowered, Phrase, loop_lowered, loop_kind, loop_name, extra, extras, place_of, collected, renew, test_lowered, row_of_turn, initial_lowered}
use Rattle.one_lowering.specs.Moves.{Moves}
use Rattle.one_lowering.proofs.Moved.{moved_wire, wires, lines, moved_lowered, into-moved, ports-moved, size-moved, Makes, then-moved, both-moved, whole-moved}
use Rattle.one_lowering.proofs.Forms.{Becomes, AllTo, DefsTo}
use Rattle.one_lowering.proofs.Forms as forms_are
use Rattle.one_lowering.proofs.Loops.{take-moved, types-moved, inputs-of-many, moved_bound}
use Rattle.one_lowering.proofs.Loops as loops_are

module _ (to : ℕ → ℕ) where
  set-moved : (ws : List Wire) (k : ℕ) (w : Wire) → slice_set (wires to ws) k (moved_wire to w) ≡ wires to (slice_set ws k w)
  set-moved [] k w = refl
  set-moved (v ∷ vs) zero w = refl
  set-moved (v ∷ vs) (suc k) w = ap (λ l. moved_wire to v ∷ l) (set-moved vs k w)

  renew-moved : (ds : List (Option ℕ)) (ws l : List Wire) → renew ds (wires to ws) (wires to l) ≡ wires to (renew ds ws l)
  renew-moved [] ws l = refl
  renew-moved (d ∷ ds) [] l = refl
  renew-moved (None ∷ ds) (w ∷ ws) l = renew-moved ds ws l
  renew-moved (Some x ∷ ds) (w ∷ ws) l = ap (λ z. slice_set z x (moved_wire to w)) (renew-moved ds ws l) ∙ set-moved (renew ds ws l) x w

module _ (to : ℕ → ℕ) (forms others : List Form) (moves : Moves to forms others) where
  abbrev To : Lowers → Lowers → Type 0
  To g h = Becomes to forms others moves g h

  places-moved : (ws : List Wire) (ps : List ℕ) → map (wire_at (wires to ws)) ps ≡ wires to (map (wire_at ws) ps)
  places-moved ws [] = refl
  places-moved ws (p ∷ ps) = ap (λ w. w ∷ map (wire_at (wires to ws)) ps) (forms_are.at-moved to forms others moves ws p) ∙ ap (λ l. moved_wire to (wire_at ws p) ∷ l) (places-moved ws ps)

  -- ---- phrases

  abbrev pub PhrasesTo : List Phrase → List Phrase → Type 0
  PhrasesTo [] [] = Unit {0}
  PhrasesTo (p ∷ ps) (t ∷ ts) = ((p.name ≡ t.name) × Becomes to forms others moves p.lowers t.lowers) × PhrasesTo ps ts
  PhrasesTo [] (t ∷ ts) = ⊥
  PhrasesTo (p ∷ ps) [] = ⊥

  extra-to : (o : Option ℕ) (g h : Lowers) (gs hs : List Lowers) → To g h → AllTo to forms others moves gs hs → AllTo to forms others moves (extra o g ++ gs) (extra o h ++ hs)
  extra-to None g h gs hs r s = (r, s)
  extra-to (Some x) g h gs hs r s = s

  extras-to : (loop : Option ℕ → Option ℕ) (bs : List Bool) (ps ts : List Phrase) → PhrasesTo ps ts → AllTo to forms others moves (extras loop bs ps) (extras loop bs ts)
  extras-to loop bs [] [] r = tt
  extras-to loop bs [] (t ∷ ts) r = absurd r
  extras-to loop bs (p ∷ ps) [] r = absurd r
  extras-to loop [] (p ∷ ps) (t ∷ ts) r = tt
  extras-to loop (true ∷ bs) (p ∷ ps) (t ∷ ts) r = (loops_are.not-to to forms others moves p.lowers t.lowers r.0.1, extras-to loop bs ps ts r.1)
  extras-to loop (false ∷ bs) (p ∷ ps) (t ∷ ts) r =
      subst (λ x. AllTo to forms others moves (extra (loop p.name) p.lowers ++ extras loop bs ps) (extra (loop x) t.lowers ++ extras loop bs ts)) r.0.0
      (extra-to (loop p.name) p.lowers t.lowers (extras loop bs ps) (extras loop bs ts) r.0.1 (extras-to loop bs ps ts r.1))

  same-collected : (loop : Option ℕ → Option ℕ) (bs : List Bool) (ps ts : List Phrase) → PhrasesTo ps ts → (next : ℕ) → collected loop next bs ts ≡ collected loop next bs ps
  same-collected loop bs [] [] r next = refl
  same-collected loop bs [] (t ∷ ts) r next = absurd r
  same-collected loop bs (p ∷ ps) [] r next = absurd r
  same-collected loop [] (p ∷ ps) (t ∷ ts) r next = refl
  same-collected loop (true ∷ bs) (p ∷ ps) (t ∷ ts) r next = ap (λ l. next ∷ l) (same-collected loop bs ps ts r.1 (suc next))
  same-collected loop (false ∷ bs) (p ∷ ps) (t ∷ ts) r next =
      let rest : (k : ℕ) → collected loop k bs ts ≡ collected loop k bs ps = same-collected loop bs ps ts r.1 in
      let name : t.name ≡ p.name = sym r.0.0 in
      λ i. place_of next (loop (name i)) (λ k. rest k i)

  -- ---- graphs of a loop

  -- on names that stand around and loop names
  row-to : (es fs : List Lowers) (around loop : List Wire) → AllTo to forms others moves es fs → Makes to (row_of_turn es around loop) (row_of_turn fs (wires to around) (wires to loop))
  row-to es fs around loop r =
      then-moved to (all_lowered es (around ++ loop)) (all_lowered fs (wires to around ++ wires to loop)) (λ ws. only (loop ++ ws)) (λ ws. only (wires to loop ++ ws))
      (forms_are.makes-as to forms others moves (all_lowered es (around ++ loop)) (all_lowered fs (wires to (around ++ loop))) (all_lowered fs (wires to around ++ wires to loop))
      (ap (all_lowered fs) (map-append (moved_wire to) around loop)) (forms_are.all-to to forms others moves es fs r (around ++ loop)))
      (λ ws. both-moved to loop ws)

  row-as : (es fs : List Lowers) (around loop xs ys : List Wire) → AllTo to forms others moves es fs → xs ≡ wires to around → ys ≡ wires to loop → Makes to (row_of_turn es around loop) (row_of_turn fs xs ys)
  row-as es fs around loop xs ys r a b n q = ap (λ l. row_of_turn fs l ys n q) a ∙ ap (λ l. row_of_turn fs (wires to around) l n q) b ∙ row-to es fs around loop r n q

  test-to : (u : Bool) (gs hs : List Lowers) → AllTo to forms others moves gs hs → To (test_lowered u gs) (test_lowered u hs)
  test-to true gs hs r = loops_are.not-to to forms others moves (all_lowered gs) (all_lowered hs) (forms_are.all-to to forms others moves gs hs r)
  test-to false gs hs r = forms_are.all-to to forms others moves gs hs r

  -- what a turn sees
  seen-moved : (env : List Wire) (cs : List Carried) → map into (wires to env) ++ own_inputs 1 (lines to cs) ≡ wires to (map into env ++ own_inputs 1 cs)
  seen-moved env cs =
      ap (λ l. l ++ own_inputs 1 (lines to cs)) (into-moved to env) ∙ ap (λ l. wires to (map into env) ++ l) (ports-moved to 0 1 cs) ∙ sym (map-append (moved_wire to) (map into env) (own_inputs 1 cs))

  loop-to : (c : Compound) (f1 f2 x1 x2 b1 b2 : Lowers) (tys : List Carried) (places : List ℕ) (cs : List ClauseForm) (ts : List ℕ) → To f1 f2 → To x1 x2 → To b1 b2
      → To (loop_lowered c f1 x1 b1 tys places cs ts) (loop_lowered c f2 x2 b2 (lines to tys) places cs (map to ts))
  loop-to c f1 f2 x1 x2 b1 b2 tys places cs ts hf hx hb env n q =
      let seen = map into env ++ own_inputs 1 tys in
      let other = map into (wires to env) ++ own_inputs 1 (lines to tys) in
      let i = new_graph (f1 (map into env)) q in
      let x = new_graph (x1 seen) (q + size i) in
      let b = new_graph (b1 seen) (q + size i + size x) in
      let i-is : new_graph (f2 (map into (wires to env))) q ≡ moved_lowered to i = ap (λ l. new_graph (f2 l) q) (into-moved to env) ∙ hf (map into env) 0 (suc q) in
      let x-is : new_graph (x2 other) (q + size (moved_lowered to i)) ≡ moved_lowered to x =
      ap (λ l. new_graph (x2 l) (q + size (moved_lowered to i))) (seen-moved env tys) ∙ ap (λ k. new_graph (x2 (wires to seen)) (q + k)) (size-moved to i) ∙ hx seen 0 (suc (q + size i)) in
      let b-is : new_graph (b2 other) (q + size (moved_lowered to i) + size (moved_lowered to x)) ≡ moved_lowered to b =
      ap (λ l. new_graph (b2 l) (q + size (moved_lowered to i) + size (moved_lowered to x))) (seen-moved env tys)
      ∙ ap (λ k. new_graph (b2 (wires to seen)) (q + k + size (moved_lowered to x))) (size-moved to i)
      ∙ ap (λ k. new_graph (b2 (wires to seen)) (q + size i + k)) (size-moved to x) ∙ hb seen 0 (suc (q + size i + size x)) in
      let own = own_inputs 1 (map many (types i.values)) in
      let ms = map (wire_at own) places in
      let last = q + size i + size x + size b in
      let r2 = new_graph (returns_lowered (Wired one) cs ms ts) last in
      let r-is : new_graph (returns_lowered (Wired one) cs (map (wire_at (own_inputs 1 (map many (types (wires to i.values))))) places) (map to ts)) (q + size (moved_lowered to i) + size (moved_lowered to x) + size (moved_lowered to b)) ≡ moved_lowered to r2 =
      ap (λ l. new_graph (returns_lowered (Wired one) cs (map (wire_at l) places) (map to ts)) (q + size (moved_lowered to i) + size (moved_lowered to x) + size (moved_lowered to b))) (inputs-of-many to 1 i.values)
      ∙ ap (λ l. new_graph (returns_lowered (Wired one) cs l (map to ts)) (q + size (moved_lowered to i) + size (moved_lowered to x) + size (moved_lowered to b))) (places-moved own places)
      ∙ ap (λ k. new_graph (returns_lowered (Wired one) cs (wires to ms) (map to ts)) (q + k + size (moved_lowered to x) + size (moved_lowered to b))) (size-moved to i)
      ∙ ap (λ k. new_graph (returns_lowered (Wired one) cs (wires to ms) (map to ts)) (q + size i + k + size (moved_lowered to b))) (size-moved to x)
      ∙ ap (λ k. new_graph (returns_lowered (Wired one) cs (wires to ms) (map to ts)) (q + size i + size x + k)) (size-moved to b)
      ∙ ap (λ w. new_graph (returns_lowered (Wired w) cs (wires to ms) (map to ts)) last) (forms_are.one-moved to forms others moves)
      ∙ loops_are.returns-to to forms others moves (Wired one) cs ms ts 0 (suc last) in
      ap (from_first n q other) i-is ∙ ap (λ y. from_test n q other (moved_lowered to i) y) x-is ∙ ap (λ y. from_turn n q (moved_lowered to i) (moved_lowered to x) y) b-is
      ∙ ap (λ y. whole c (moved_lowered to i ∷ moved_lowered to x ∷ moved_lowered to b ∷ y ∷ []) (0 ∷ 1 ∷ 2 ∷ 3 ∷ []) 0 (map to ts) n q) r-is
      ∙ whole-moved to c (i ∷ x ∷ b ∷ r2 ∷ []) (0 ∷ 1 ∷ 2 ∷ 3 ∷ []) 0 ts n q
    where
      -- the loop on its first graphs
      from_turn : (n q : ℕ) (i x b : Lowered) → Lowered
      from_turn n q i x b =
          whole c (i ∷ x ∷ b ∷ new_graph (returns_lowered (Wired one) cs (map (wire_at (own_inputs 1 (map many (types i.values)))) places) (map to ts)) (q + size i + size x + size b) ∷ [])
          (0 ∷ 1 ∷ 2 ∷ 3 ∷ []) 0 (map to ts) n q

      from_test : (n q : ℕ) (seen : List Wire) (i x : Lowered) → Lowered
      from_test n q seen i x = from_turn n q i x (new_graph (b2 seen) (q + size i + size x))

      from_first : (n q : ℕ) (seen : List Wire) (i : Lowered) → Lowered
      from_first n q seen i = from_test n q seen i (new_graph (x2 seen) (q + size i))

  -- ---- the whole

  first-to : (ds es : List (List Lowers)) (xs ys : List Lowers) (k : ℕ) → DefsTo to forms others moves ds es → AllTo to forms others moves xs ys
      → To (λ around. andthen (defs_lowered ds around) (λ all. row_of_turn xs around (drop k all))) (λ around. andthen (defs_lowered es around) (λ all. row_of_turn ys around (drop k all)))
  first-to ds es xs ys k d r around =
      then-moved to (defs_lowered ds around) (defs_lowered es (wires to around)) (λ all. row_of_turn xs around (drop k all)) (λ all. row_of_turn ys (wires to around) (drop k all)) (forms_are.defs-to to forms others moves ds es d around)
      (λ all. row-as xs ys around (drop k all) (wires to around) (drop k (wires to all)) r refl (drop-map (moved_wire to) k all))

  names-to : (ds es : List (List Lowers)) (k : ℕ) → DefsTo to forms others moves ds es
      → To (λ around. andthen (defs_lowered ds around) (λ all. only (drop k all))) (λ around. andthen (defs_lowered es around) (λ all. only (drop k all)))
  names-to ds es k d around =
      then-moved to (defs_lowered ds around) (defs_lowered es (wires to around)) (λ all. only (drop k all)) (λ all. only (drop k all)) (forms_are.defs-to to forms others moves ds es d around)
      (λ all n q. ap (λ l. only l n q) (drop-map (moved_wire to) k all))

  turn-to : (ds es : List (List Lowers)) (xs ys : List Lowers) (renewed : List (Option ℕ)) (k : ℕ) → DefsTo to forms others moves ds es → AllTo to forms others moves xs ys
      → To (λ inside. andthen (defs_lowered ds inside) (λ all. row_of_turn xs (take_up k inside) (renew renewed (drop (length inside) all) (drop k inside))))
      (λ inside. andthen (defs_lowered es inside) (λ all. row_of_turn ys (take_up k inside) (renew renewed (drop (length inside) all) (drop k inside))))
  turn-to ds es xs ys renewed k d r inside =
      then-moved to (defs_lowered ds inside) (defs_lowered es (wires to inside)) (λ all. row_of_turn xs (take_up k inside) (renew renewed (drop (length inside) all) (drop k inside)))
      (λ all. row_of_turn ys (take_up k (wires to inside)) (renew renewed (drop (length (wires to inside)) all) (drop k (wires to inside)))) (forms_are.defs-to to forms others moves ds es d inside)
      (λ all. row-as xs ys (take_up k inside) (renew renewed (drop (length inside) all) (drop k inside)) (take_up k (wires to inside)) (renew renewed (drop (length (wires to inside)) (wires to all)) (drop k (wires to inside))) r
      (take-moved to k inside)
      (ap (λ i. renew renewed (drop i (wires to all)) (drop k (wires to inside))) (length-map inside (moved_wire to))
      ∙ ap (λ l. renew renewed l (drop k (wires to inside))) (drop-map (moved_wire to) (length inside) all)
      ∙ ap (λ l. renew renewed (wires to (drop (length inside) all)) l) (drop-map (moved_wire to) k inside)
      ∙ renew-moved to renewed (drop (length inside) all) (drop k inside)))

  -- by how many names stand around, how many loop names there are, and what these carry
  abbrev shape : Turns → List (List Lowers) → List Lowers → List (List Lowers) → List Phrase → List ℕ → ℕ → ℕ → List Carried → Lowers
  shape t fs test ds ps ts k count tys =
      let loop = loop_name k count in
      let es = extras loop (unless_places t.clauses) ps in
      loop_lowered (loop_kind t.is_first)
      (λ around. andthen (defs_lowered fs around) (λ all. row_of_turn es around (drop k all)))
      (test_lowered t.is_until test)
      (λ inside. andthen (defs_lowered ds inside) (λ all. row_of_turn es (take_up k inside) (renew t.renewed (drop (length inside) all) (drop k inside))))
      tys (collected loop count (unless_places t.clauses) ps) t.clauses ts

  shape-to : (t : Turns) (fs gs : List (List Lowers)) (test xs : List Lowers) (ds es : List (List Lowers)) (ps qs : List Phrase) (ts : List ℕ) (k count : ℕ) (tys : List Carried)
      → DefsTo to forms others moves fs gs → AllTo to forms others moves test xs → DefsTo to forms others moves ds es → PhrasesTo ps qs
      → To (shape t fs test ds ps ts k count tys) (shape t gs xs es qs (map to ts) k count (lines to tys))
  shape-to t fs gs test xs ds es ps qs ts k count tys hf hx hd hp env n q =
      let loop = loop_name k count in
      let bs = unless_places t.clauses in
      let rows = extras-to loop bs ps qs hp in
      let first = λ (around : List Wire). andthen (defs_lowered gs around) (λ all. row_of_turn (extras loop bs qs) around (drop k all)) in
      let turn = λ (inside : List Wire). andthen (defs_lowered es inside) (λ all. row_of_turn (extras loop bs qs) (take_up k inside) (renew t.renewed (drop (length inside) all) (drop k inside))) in
      ap (λ l. loop_lowered (loop_kind t.is_first) first (test_lowered t.is_until xs) turn (lines to tys) l t.clauses (map to ts) (wires to env) n q) (same-collected loop bs ps qs hp count)
      ∙ loop-to (loop_kind t.is_first)
      (λ around. andthen (defs_lowered fs around) (λ all. row_of_turn (extras loop bs ps) around (drop k all))) first (test_lowered t.is_until test) (test_lowered t.is_until xs)
      (λ inside. andthen (defs_lowered ds inside) (λ all. row_of_turn (extras loop bs ps) (take_up k inside) (renew t.renewed (drop (length inside) all) (drop k inside)))) turn
      tys (collected loop count bs ps) t.clauses ts
      (first-to fs gs (extras loop bs ps) (extras loop bs qs) k hf rows) (test-to t.is_until test xs hx) (turn-to ds es (extras loop bs ps) (extras loop bs qs) t.renewed k hd rows) env n q

  pub initial-to : (t : Turns) (fs gs : List (List Lowers)) (test xs : List Lowers) (ds es : List (List Lowers)) (ps qs : List Phrase) (ts : List ℕ)
      → DefsTo to forms others moves fs gs → AllTo to forms others moves test xs → DefsTo to forms others moves ds es → PhrasesTo ps qs
      → To (initial_lowered t fs test ds ps ts) (initial_lowered t gs xs es qs (map to ts))
  initial-to t fs gs test xs ds es ps qs ts hf hx hd hp env n q =
      let k = length env in
      let names = new_graph (andthen (defs_lowered fs (map into env)) (λ all. only (drop k all))) q in
      let told = λ (i : ℕ). new_graph (andthen (defs_lowered gs (map into (wires to env))) (λ all. only (drop i all))) q in
      let env-is : length (wires to env) ≡ k = length-map env (moved_wire to) in
      let names-are : told k ≡ moved_lowered to names =
      ap (λ l. new_graph (andthen (defs_lowered gs l) (λ all. only (drop k all))) q) (into-moved to env) ∙ names-to fs gs k hf (map into env) 0 (suc q) in
      ap (λ i. shape t gs xs es qs (map to ts) i (length (told i).values) (types (told i).values) (wires to env) n q) env-is
      ∙ ap (λ (m : Lowered). shape t gs xs es qs (map to ts) k (length m.values) (types m.values) (wires to env) n q) names-are
      ∙ ap (λ i. shape t gs xs es qs (map to ts) k i (types (wires to names.values)) (wires to env) n q) (length-map names.values (moved_wire to))
      ∙ ap (λ l. shape t gs xs es qs (map to ts) k (length names.values) l (wires to env) n q) (types-moved to names.values)
      ∙ shape-to t fs gs test xs ds es ps qs ts k (length names.values) (types names.values) hf hx hd hp env n q
