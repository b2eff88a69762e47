-- The graphs of a loop of turns: what they use, and what they give by what phrases give.
use Rattle.std.proofs.Common.{◌≡◌, ℕ, zero, suc, ◌+◌, ◌-◌, ◌*◌, ◌<◌, ◌≤◌, pos, Bool, true, false, ◌&&◌, List, [], ◌∷◌, ◌++◌, map, length, drop, get_or, Option, Some, None, refl, sym, ap, ◌∙◌, subst, arith, append-nil, if◌then◌else◌}
use Rattle.std.specs.Prelude.{nat_le, nat_lt}
use Rattle.std.proofs.lemmas.List.{length-map, length-append}
use Rattle.std.proofs.lemmas.Bool.{ltb-true, leb-true}
use Rattle.flow_value.specs.declared.value.Val.{Val}
use Rattle.flow_value.specs.declared.value.Val.TheVariants as val
use Rattle.flow_value.specs.declared.operation.Scalar1.TheVariants as unary
use Rattle.value_ops.specs.Operations.{op_value}
use Rattle.value_ops.specs.declared.operation.Operation.TheVariants as operation
use Rattle.if1_graph.specs.declared.op.Simple.TheVariants as simple
use Rattle.sisal_tree.specs.declared.expr.Constant.TheVariants as constant
use Rattle.flow_value.specs.declared.ty.Ty.{Ty}
use Rattle.type_table.specs.declared.form.Form.{Form as TypeForm}
use Rattle.typed_values.specs.Fitting.{Renews}
use Rattle.typed_tree.specs.declared.expr.Turns.{Turns}
use Rattle.typed_rows.proofs.Rows.{and_two}
use Rattle.meaning.specs.Meaning as source
use Rattle.graph_meaning.specs.Carried.{Carried, Value, Unfilled}
use Rattle.lowering_meaning.proofs.Told.{Telling, AreInner, IsTold}
use Rattle.graph_meaning.specs.Demand.{Network}
use Rattle.lowering.specs.declared.feed.Carried as wired
use Rattle.lowering.specs.declared.feed.Carried.TheVariants.{One}
use Rattle.lowering.specs.declared.feed.Wire.{Wire}
use Rattle.lowering.specs.Feeds.{into}
use Rattle.lowering.specs.declared.graph.Action.TheVariants.{Row, Whole}
use Rattle.lowering.specs.declared.graph.Lowered.{Lowered}
use Rattle.lowering.specs.Graphs.{Lowering, only, joined, ports, uses, inputs, numbers, new_graph, size, whole}
use Rattle.lowering.specs.Graphs as made
use Rattle.lowering.specs.Operations.{Lowers, boolean, integer, one, all_lowered, defs_lowered, wire_at, row_lowered}
use Rattle.lowering.specs.Loops.{Phrase, own_inputs, many, types, take_up, unless_places, Wired, returns_lowered, loop_kind, loop_name, extra, extras, place_of, collected, renew, test_lowered, row_of_turn, initial_lowered}
use Rattle.loop_columns.specs.Parts.{GraphGives}
use Rattle.loop_columns.specs.Clauses.{folds_of}
use Rattle.loop_columns.specs.Turns.{said}
use Rattle.lowering_meaning.proofs.Wires.{AllWires, both-wires, left-wires, right-wires, IsThere, FromNames, names-from, AreOwn, MadeFrom, AllFrom}
use Rattle.lowering_meaning.proofs.Sites.{Site, Carries, AllCarry, AllCarried, Placed, Done, done-only, done-both, done-made, done-more, carry-both, carry-length, as-carried, as-values, placed-left, placed-right}
use Rattle.lowering_meaning.proofs.Inside.{Gives, PartAt, part-at}
use Rattle.lowering_meaning.proofs.Nodes.{row-done}
use Rattle.lowering_meaning.proofs.Forms.{WiresOf, Wired as WiredTo, wires-both, wires-into, from-both, values-from, from-fewer, Free, Draws}
use Rattle.lowering_meaning.proofs.Parts.{at_part, Part, part, part-gives, Around, around, used-there}
use Rattle.lowering_meaning.proofs.Ifs.{node-from, whole-from, no-own}
use Rattle.lowering_meaning.proofs.Operations.{held-literal}
use Rattle.lowering_meaning.proofs.GenForms.{taken, dropped}
use Rattle.lowering_meaning.proofs.ReturnForms.{AreShaped, returns-from, returns-done}
use Rattle.lowering_meaning.proofs.TurnWires.{wires-drop, wires-take, own-wired, wires-renew, renew-wires, own-all-from, carry-drop, carry-take, carry-renew, own-first}

own-own : (j : ℕ) (ts : List wired.Carried) → AreOwn (ports 0 j ts)
own-own j [] = tt
own-own j (t ∷ ts) = (tt, own-own (suc j) ts)

drop-front : (names l : List Val) → drop (length names) (names ++ l) ≡ l
drop-front [] l = refl
drop-front (v ∷ names) l = drop-front names l

pub map-both : (vs ws : List Val) → map Value (vs ++ ws) ≡ map Value vs ++ map Value ws
map-both [] ws = refl
map-both (v ∷ vs) ws = ap (λ cs. Value v ∷ cs) (map-both vs ws)

-- ---- the places of what is collected

abbrev pub AreBelow : ℕ → List ℕ → Type 0
AreBelow w [] = Unit {0}
AreBelow w (x ∷ xs) = (x < w) × AreBelow w xs

pub below-count : (around count : ℕ) (z : Option ℕ) (y : ℕ) → loop_name around count z ≡ Some y → y < count
below-count around count None y e = absurd cc
below-count around count (Some x) y e = go (nat_le around x && nat_lt x (around + count)) refl e
  where
    go : (b : Bool) → (nat_le around x && nat_lt x (around + count)) ≡ b → (if b then Some (x - around) else None) ≡ Some y → y < count
    go true t f =
        let h = and_two (nat_le around x) (nat_lt x (around + count)) t in
        let low : around ≤ x = leb-true around x h.0 in
        let high : x < around + count = ltb-true x (around + count) h.1 in
        let same : x - around ≡ y = cc in
        omega (arith, low, high, same)
    go false t f = absurd cc

module _ (loop : Option ℕ → Option ℕ) (w : ℕ) (below : (z : Option ℕ) (x : ℕ) → loop z ≡ Some x → x < w) where
  pub places-below : (next : ℕ) (bs : List Bool) (ps : List Phrase) → next + length (extras loop bs ps) ≤ w → AreBelow w (collected loop next bs ps)
  places-below next bs [] h = tt
  places-below next [] (p ∷ ps) h = tt
  places-below next (true ∷ bs) (p ∷ ps) h = (omega (arith, h), places-below (suc next) bs ps (omega (arith, h)))
  places-below next (false ∷ bs) (p ∷ ps) h = go (λ k l. places-below k bs ps l) (loop p.name) refl
    where
      go : ((k : ℕ) → k + length (extras loop bs ps) ≤ w → AreBelow w (collected loop k bs ps)) → (z : Option ℕ) → loop p.name ≡ z → AreBelow w (place_of next z (λ k. collected loop k bs ps))
      go rest None e =
          let y : next + length (extra None p.lowers ++ extras loop bs ps) ≤ w = subst (λ z. next + length (extra z p.lowers ++ extras loop bs ps) ≤ w) e h in
          (omega (arith, y), rest (suc next) (omega (arith, y)))
      go rest (Some x) e =
          let y : next + length (extra (Some x) p.lowers ++ extras loop bs ps) ≤ w = subst (λ z. next + length (extra z p.lowers ++ extras loop bs ps) ≤ w) e h in
          (below p.name x e, rest next y)

module _ (u : Network) (number : ℕ → ℕ) (shape : Telling) where
  -- the wire of a place carries what stands there
  carried-at : (s : Site) (ws : List Wire) (cs : List Carried) (x : ℕ) → x < length cs → AllCarried u number shape s ws cs → Carries u number shape s (wire_at ws x) (get_or cs x Unfilled)
  carried-at s [] [] x h a = absurd (omega (arith, h))
  carried-at s [] (c ∷ cs) x h a = absurd a
  carried-at s (w ∷ ws) [] x h a = absurd a
  carried-at s (w ∷ ws) (c ∷ cs) zero h a = a.0
  carried-at s (w ∷ ws) (c ∷ cs) (suc x) h a = carried-at s ws cs x (omega (arith, h)) a.1

  all-carried-at : (s : Site) (ws : List Wire) (cs : List Carried) (places : List ℕ) → AreBelow (length cs) places → AllCarried u number shape s ws cs → AllCarried u number shape s (map (wire_at ws) places) (map (λ x. get_or cs x Unfilled) places)
  all-carried-at s ws cs [] b a = tt
  all-carried-at s ws cs (x ∷ places) b a = (carried-at s ws cs x b.0 a, all-carried-at s ws cs places b.1 a)

  pub as-graph : (g : ℕ) (ins rs : List Carried) (limit : ℕ) → Gives u number shape g ins rs limit → GraphGives u g ins rs limit
  as-graph g ins rs limit d = record {
    cost = d.cost;
    fires = record { least = d.fires.least; holds = d.fires.holds };
    bound = d.bound;
    means = record { least = d.means.least; holds = d.means.holds };
  }

  -- the loop names, and behind them what is collected besides
  pub row-made : (forms : List TypeForm) (spellings : List (List ℕ)) (δ : List Ty) (s : Site) (k q : ℕ) (es : List Lowers) (around ls : List Wire) (names l more : List Val) (limit : ℕ) → WiresOf forms spellings δ (around ++ ls) → AllCarry u number shape s around names → AllCarry u number shape s ls l
      → Draws u number shape forms spellings δ (all_lowered es) (names ++ l) more limit → Placed u number shape s k q (row_of_turn es around ls k q) → Done u number shape s k (row_of_turn es around ls k q) (l ++ more) limit
  row-made forms spellings δ s k q es around ls names l more limit we a b d pl =
      let m = all_lowered es (around ++ ls) k q in
      let r : Lowered = only (ls ++ m.values) (k + length m.nodes) (q + length m.graphs) in
      let x = d s k q (around ++ ls) we (carry-both u number shape s around names ls l a b) (placed-left u number shape s k q m r pl) in
      let y = done-only u number shape s (k + length m.nodes) r (l ++ more) refl (carry-both u number shape s ls l m.values more b x.held) in
      done-more u number shape s k (joined m r) (l ++ more) (limit + 0) limit (done-both u number shape s k m r more (l ++ more) limit 0 x y) (omega arith)

-- a loop of turns is no TagCase
loop-told : (shape : Telling) (is_first : Bool) (g l : ℕ) (gs arms : List ℕ) (given outs : ℕ) (ks : List Wire) → IsTold shape g l (Whole (loop_kind is_first) gs arms given outs) ks → AreInner shape 0 gs ks
loop-told shape true g l gs arms given outs ks h = h
loop-told shape false g l gs arms given outs ks h = h

-- what a row uses
row-from : (env : List Wire) (es : List Lowers) (around ls : List Wire) (k q : ℕ) → Free (all_lowered es) → AllWires (FromNames env) around → AllWires (FromNames env) ls → MadeFrom env (row_of_turn es around ls k q)
row-from env es around ls k q f a b =
    let m = all_lowered es (around ++ ls) k q in
    let r : Lowered = only (ls ++ m.values) (k + length m.nodes) (q + length m.graphs) in
    let x = from-fewer env (around ++ ls) m (both-wires (FromNames env) around ls a b) (f (around ++ ls) k q) in
    from-both env m r x (both-wires (FromNames env) ls m.values b (values-from env m x))

test-from : (until : Bool) (ts : List Lowers) → Free (all_lowered ts) → Free (test_lowered until ts)
test-from true ts f env k q =
    let m = all_lowered ts env k q in
    let x = f env k q in
    from-both env m (row_lowered (simple.One unary.Not) m.values (boolean ∷ []) (k + length m.nodes) (q + length m.graphs)) x
    (node-from env (Row (simple.One unary.Not)) m.values 1 (One boolean ∷ []) (k + length m.nodes) (q + length m.graphs) (values-from env m x))
test-from false ts f env k q = f env k q

module _ (t : Turns) (fs : List (List Lowers)) (ts : List Lowers) (ds : List (List Lowers)) (ps : List Phrase) (ns : List ℕ) where
  abbrev pub bs : List Bool
  bs = unless_places t.clauses

  abbrev pub the_loop : Lowers
  the_loop env = initial_lowered t fs ts ds ps ns env

  module _ (q : ℕ) (env : List Wire) where
    -- the initial definitions
    abbrev pub defined : Lowered
    defined = defs_lowered fs (map into env) 0 (suc q)

    abbrev pub loop_names : List Wire
    loop_names = drop (length env) defined.values

    abbrev pub count : ℕ
    count = length loop_names

    abbrev pub loop : Option ℕ → Option ℕ
    loop = loop_name (length env) count

    abbrev pub es : List Lowers
    es = extras loop bs ps

    abbrev pub tys : List wired.Carried
    tys = types loop_names

    abbrev pub first_of : Lowers
    first_of around = made.andthen (defs_lowered fs around) (λ all. row_of_turn es around (drop (length env) all))

    abbrev pub turn_of : Lowers
    turn_of inside = made.andthen (defs_lowered ds inside) (λ all. row_of_turn es (take_up (length env) inside) (renew t.renewed (drop (length inside) all) (drop (length env) inside)))

    abbrev pub inside_names : List Wire
    inside_names = map into env ++ own_inputs 1 tys

    abbrev pub i0 : Lowered
    i0 = new_graph (first_of (map into env)) q

    abbrev pub gt : ℕ
    gt = q + size i0

    abbrev pub x0 : Lowered
    x0 = new_graph (test_lowered t.is_until ts inside_names) gt

    abbrev pub gb : ℕ
    gb = gt + size x0

    abbrev pub b0 : Lowered
    b0 = new_graph (turn_of inside_names) gb

    abbrev pub gr : ℕ
    gr = gb + size b0

    abbrev pub places : List ℕ
    places = collected loop count bs ps

    abbrev pub many_tys : List wired.Carried
    many_tys = map many (types i0.values)

    abbrev pub r0 : Lowered
    r0 = new_graph (returns_lowered (Wired one) t.clauses (map (wire_at (own_inputs 1 many_tys)) places) ns) gr

    abbrev pub graphs : List Lowered
    graphs = i0 ∷ x0 ∷ b0 ∷ r0 ∷ []

    abbrev pub arms : List ℕ
    arms = 0 ∷ 1 ∷ 2 ∷ 3 ∷ []

    is-whole : (k : ℕ) → the_loop env k q ≡ whole (loop_kind t.is_first) graphs arms 0 ns k q
    is-whole k = refl

    pub graphs-from : Free (defs_lowered fs) → Free (all_lowered ts) → Free (defs_lowered ds) → Free (all_lowered es) → AllFrom env graphs
    graphs-from ff ft fd fe =
        let inner = map into env in
        let own = own_inputs 1 tys in
        let all = inner ++ own in
        let o = own-own 1 tys in
        let d = ff inner 0 (suc q) in
        let row = row-from inner es inner loop_names (0 + length defined.nodes) (suc q + length defined.graphs) fe (names-from inner) (dropped (FromNames inner) (length env) defined.values (values-from inner defined d)) in
        let first = from-both inner defined (row_of_turn es inner loop_names (0 + length defined.nodes) (suc q + length defined.graphs)) d row in
        let m = defs_lowered ds all 0 (suc gb) in
        let md = fd all 0 (suc gb) in
        let later = dropped (FromNames all) (length all) m.values (values-from all m md) in
        let before = dropped (FromNames all) (length env) all (names-from all) in
        let around = taken (FromNames all) (length env) all (names-from all) in
        let next = renew t.renewed (drop (length all) m.values) (drop (length env) all) in
        let turn_row = row-from all es (take_up (length env) all) next (0 + length m.nodes) (suc gb + length m.graphs) fe around (renew-wires (FromNames all) t.renewed (drop (length all) m.values) (drop (length env) all) later before) in
        let turn = from-both all m (row_of_turn es (take_up (length env) all) next (0 + length m.nodes) (suc gb + length m.graphs)) md turn_row in
        (no-own env i0 first, ((own, o, test-from t.is_until ts ft all 0 (suc gt)), ((own, o, turn), (no-own env r0 (returns-from inner (Wired one) t.clauses (map (wire_at (own_inputs 1 many_tys)) places) ns 0 (suc gr) tt (own-all-from inner 1 many_tys places)), tt))))

  pub loop-free : Free (defs_lowered fs) → Free (all_lowered ts) → Free (defs_lowered ds) → ((loop : Option ℕ → Option ℕ) → Free (all_lowered (extras loop bs ps))) → Free the_loop
  loop-free ff ft fd fe env k q = whole-from env (loop_kind t.is_first) (graphs q env) (arms q env) 0 ns k q (graphs-from q env ff ft fd (fe (loop q env)))

  -- where a loop stands
  module _ (u : Network) (number : ℕ → ℕ) (shape : Telling) (forms : List TypeForm) (spellings : List (List ℕ)) (γ around_loop later : List Ty) (s : Site) (k q : ℕ) (env : List Wire) (names : List Val) (a : AllCarry u number shape s env names) (pl : Placed u number shape s k q (the_loop env k q))
      (ff : Free (defs_lowered fs)) (ft : Free (all_lowered ts)) (fd : Free (defs_lowered ds)) (fe : (loop : Option ℕ → Option ℕ) → Free (all_lowered (extras loop bs ps)))
      (we : WiresOf forms spellings γ env) (wf : WiredTo forms spellings γ (defs_lowered fs) (γ ++ around_loop)) (wd : WiredTo forms spellings (γ ++ around_loop) (defs_lowered ds) ((γ ++ around_loop) ++ later)) (ren : Renews around_loop t.renewed later) where
    abbrev pub ks : List Wire
    ks = inputs (graphs q env)

    pub here : Around u number shape s (graphs q env)
    here = around u number shape s k q env names (loop_kind t.is_first) (graphs q env) (arms q env) 0 ns a pl (graphs-from q env ff ft fd (fe (loop q env)))

    abbrev pub ins : List Carried
    ins = map Value here.values

    P0 : PartAt u number shape q ks 0 (length ks) (i0 q env) (x0 q env ∷ b0 q env ∷ r0 q env ∷ [])
    P0 = part-at u number shape q ks 0 (length ks) (i0 q env) (x0 q env ∷ b0 q env ∷ r0 q env ∷ []) pl.graphs

    P1 : PartAt u number shape (gt q env) ks 0 (length ks) (x0 q env) (b0 q env ∷ r0 q env ∷ [])
    P1 = part-at u number shape (gt q env) ks 0 (length ks) (x0 q env) (b0 q env ∷ r0 q env ∷ []) P0.others

    P2 : PartAt u number shape (gb q env) ks 0 (length ks) (b0 q env) (r0 q env ∷ [])
    P2 = part-at u number shape (gb q env) ks 0 (length ks) (b0 q env) (r0 q env ∷ []) P1.others

    P3 : PartAt u number shape (gr q env) ks 0 (length ks) (r0 q env) []
    P3 = part-at u number shape (gr q env) ks 0 (length ks) (r0 q env) [] P2.others

    abbrev there : AllWires (IsThere ks) (uses (i0 q env) ++ (uses (x0 q env) ++ (uses (b0 q env) ++ (uses (r0 q env) ++ []))))
    there = used-there u number shape (graphs q env)

    told : AreInner shape 0 (numbers q (graphs q env)) ks
    told = loop-told shape t.is_first s.graph (suc k) (numbers q (graphs q env)) (arms q env) 0 (length ns) ks pl.told.0

    pub initial-part : Part u number shape q ks here.values env names [] [] (i0 q env)
    initial-part = part u number shape s q ks here.values env names [] [] (i0 q env) (x0 q env ∷ b0 q env ∷ r0 q env ∷ []) (numbers q (graphs q env)) 0 told refl a here.carry here.seen refl P0 (left-wires _ (uses (i0 q env)) _ there)

    pub test-part : (ts' : List wired.Carried) (cs : List Carried) → length ts' ≡ length cs → Part u number shape (gt q env) ks here.values env names ts' cs (x0 q env)
    test-part ts' cs l = part u number shape s (gt q env) ks here.values env names ts' cs (x0 q env) (b0 q env ∷ r0 q env ∷ []) (numbers q (graphs q env)) 1 told refl a here.carry here.seen l P1
        (left-wires _ (uses (x0 q env)) _ (right-wires _ (uses (i0 q env)) _ there))

    pub turn-part : (ts' : List wired.Carried) (cs : List Carried) → length ts' ≡ length cs → Part u number shape (gb q env) ks here.values env names ts' cs (b0 q env)
    turn-part ts' cs l = part u number shape s (gb q env) ks here.values env names ts' cs (b0 q env) (r0 q env ∷ []) (numbers q (graphs q env)) 2 told refl a here.carry here.seen l P2
        (left-wires _ (uses (b0 q env)) _ (right-wires _ (uses (x0 q env)) _ (right-wires _ (uses (i0 q env)) _ there)))

    pub returns-part : (ts' : List wired.Carried) (cs : List Carried) → length ts' ≡ length cs → Part u number shape (gr q env) ks here.values env names ts' cs (r0 q env)
    returns-part ts' cs l = part u number shape s (gr q env) ks here.values env names ts' cs (r0 q env) [] (numbers q (graphs q env)) 3 told refl a here.carry here.seen l P3
        (left-wires _ (uses (r0 q env)) _ (right-wires _ (uses (b0 q env)) _ (right-wires _ (uses (x0 q env)) _ (right-wires _ (uses (i0 q env)) _ there))))

    pub around-many : length env ≡ length names
    around-many = carry-length u number shape s env names a

    -- ---- the types of wires

    inner-wired : WiresOf forms spellings γ (map into env)
    inner-wired = wires-into forms spellings γ env we

    all-wired : WiresOf forms spellings (γ ++ around_loop) (defined q env).values
    all-wired = wf (map into env) 0 (suc q) inner-wired

    names-wired : WiresOf forms spellings around_loop (loop_names q env)
    names-wired = wires-drop forms spellings γ around_loop env (defined q env).values we all-wired

    pub first-wired : WiresOf forms spellings (γ ++ around_loop) (map into env ++ loop_names q env)
    first-wired = wires-both forms spellings γ around_loop (map into env) (loop_names q env) inner-wired names-wired

    pub inside-wired : WiresOf forms spellings (γ ++ around_loop) (inside_names q env)
    inside-wired = wires-both forms spellings γ around_loop (map into env) (own_inputs 1 (tys q env)) inner-wired (own-wired forms spellings 1 around_loop (loop_names q env) names-wired)

    -- ---- the initial graph

    abbrev pub site0 : Site
    site0 = at_part u number shape q ks here.values []

    abbrev pub first_row : Lowered
    first_row = row_of_turn (es q env) (map into env) (loop_names q env) (0 + length (defined q env).nodes) (suc q + length (defined q env).graphs)

    pub defined-done : (all : List Val) (limit : ℕ) → Draws u number shape forms spellings γ (defs_lowered fs) names all limit → Done u number shape site0 0 (defined q env) all limit
    defined-done all limit d = d site0 0 (suc q) (map into env) inner-wired initial-part.carry (placed-left u number shape site0 0 (suc q) (defined q env) first_row initial-part.placed)

    -- the loop names are as many as their values
    pub count-is : (all : List Val) (limit : ℕ) → Draws u number shape forms spellings γ (defs_lowered fs) names all limit → count q env ≡ length (drop (length names) all)
    count-is all limit d =
        carry-length u number shape site0 (loop_names q env) (drop (length names) all)
        (subst (λ n. AllCarry u number shape site0 (loop_names q env) (drop n all)) around-many (carry-drop u number shape site0 (length env) (defined q env).values all (defined-done all limit d).held))

    gives-as : (g : ℕ) (rs : List Carried) (limit : ℕ) → Gives u number shape g (ins ++ []) rs limit → GraphGives u g ins rs limit
    gives-as g rs limit h = as-graph u number shape g ins rs limit (subst (λ i. Gives u number shape g i rs limit) (append-nil ins) h)

    pub loop-names-carry : (all : List Val) (limit : ℕ) → Draws u number shape forms spellings γ (defs_lowered fs) names all limit → AllCarry u number shape site0 (loop_names q env) (drop (length names) all)
    loop-names-carry all limit d = subst (λ n. AllCarry u number shape site0 (loop_names q env) (drop n all)) around-many (carry-drop u number shape site0 (length env) (defined q env).values all (defined-done all limit d).held)

    pub initial-gives : (all more : List Val) (i j : ℕ) → Draws u number shape forms spellings γ (defs_lowered fs) names all i → Draws u number shape forms spellings (γ ++ around_loop) (all_lowered (es q env)) (names ++ drop (length names) all) more j
        → GraphGives u q ins (map Value (drop (length names) all ++ more)) (i + j)
    initial-gives all more i j d e =
        let l = drop (length names) all in
        let x = defined-done all i d in
        let ls = subst (λ n. AllCarry u number shape site0 (loop_names q env) (drop n all)) around-many (carry-drop u number shape site0 (length env) (defined q env).values all x.held) in
        let pl' = placed-right u number shape site0 0 (suc q) (defined q env) first_row initial-part.placed in
        let y = row-made u number shape forms spellings (γ ++ around_loop) site0 (0 + length (defined q env).nodes) (suc q + length (defined q env).graphs) (es q env) (map into env) (loop_names q env) names l more j first-wired initial-part.carry ls e pl' in
        gives-as q (map Value (l ++ more)) (i + j)
        (part-gives u number shape (i0 q env) (map Value (l ++ more)) (i + j) initial-part (done-made u number shape site0 0 (i0 q env) (l ++ more) (i + j) (done-both u number shape site0 0 (defined q env) first_row all (l ++ more) i j x y)))

    -- ---- the names inside

    abbrev pub own_tys : List Val → List wired.Carried
    own_tys more = tys q env ++ map (λ v. One integer) more

    pub own-long : (l more : List Val) → count q env ≡ length l → length (own_tys more) ≡ length (map Value l ++ map Value more)
    own-long l more e =
        let x = length-map (loop_names q env) (λ w. w.ty) in
        let y = length-map more (λ v. One integer) in
        let z = length-map l Value in
        let w = length-map more Value in
        length-append (tys q env) (map (λ v. One integer) more) ∙ (omega (arith, x, y, z, w, e) ∙ sym (length-append (map Value l) (map Value more)))

    abbrev pub site_of : ℕ → List Val → List Val → Site
    site_of g l more = at_part u number shape g ks here.values (map Value l ++ map Value more)

    pub names-inside : (g : ℕ) (l more : List Val) (m : Lowered) → count q env ≡ length l → Part u number shape g ks here.values env names (own_tys more) (map Value l ++ map Value more) m
        → AllCarry u number shape (site_of g l more) (inside_names q env) (names ++ l)
    names-inside g l more m e p =
        let x = length-map (loop_names q env) (λ w. w.ty) in
        let z = length-map l Value in
        carry-both u number shape (site_of g l more) (map into env) names (own_inputs 1 (tys q env)) l p.carry
        (as-values u number shape (site_of g l more) (own_inputs 1 (tys q env)) l (own-first u number shape (site_of g l more) 1 (tys q env) (map (λ v. One integer) more) (map Value l) (map Value more) (omega (arith, x, z, e)) p.own))

    pub at-values : (g : ℕ) (l more : List Val) (rs : List Carried) (limit : ℕ) → GraphGives u g (ins ++ (map Value l ++ map Value more)) rs limit → GraphGives u g (ins ++ map Value (l ++ more)) rs limit
    at-values g l more rs limit h = subst (λ cs. GraphGives u g (ins ++ cs) rs limit) (sym (map-both l more)) h

    -- ---- the test

    pub test-inside : (l more : List Val) (e : count q env ≡ length l) → Part u number shape (gt q env) ks here.values env names (own_tys more) (map Value l ++ map Value more) (x0 q env)
    test-inside l more e = test-part (own_tys more) (map Value l ++ map Value more) (own-long l more e)

    tested-done : (until : Bool) (st : Site) (n r : ℕ) (env' : List Wire) (vals : List Val) (v : Val) (limit : ℕ) → Draws u number shape forms spellings (γ ++ around_loop) (all_lowered ts) vals (v ∷ []) limit → WiresOf forms spellings (γ ++ around_loop) env' → AllCarry u number shape st env' vals
        → Placed u number shape st n r (test_lowered until ts env' n r) → Done u number shape st n (test_lowered until ts env' n r) (said until v ∷ []) (limit + 1)
    tested-done true st n r env' vals v limit d w0 c h =
        let m = all_lowered ts env' n r in
        let w = row_lowered (simple.One unary.Not) m.values (boolean ∷ []) (n + length m.nodes) (r + length m.graphs) in
        let x = d st n r env' w0 c (placed-left u number shape st n r m w h) in
        let y = row-done u number shape st (n + length m.nodes) (r + length m.graphs) (simple.One unary.Not) m.values boolean (Value v ∷ []) (op_value (operation.Unary unary.Not) (v ∷ [])) refl (placed-right u number shape st n r m w h) (as-carried u number shape st m.values (v ∷ []) x.held) in
        done-both u number shape st n m w (v ∷ []) (op_value (operation.Unary unary.Not) (v ∷ []) ∷ []) limit 1 x y
    tested-done false st n r env' vals v limit d w0 c h = done-more u number shape st n (all_lowered ts env' n r) (v ∷ []) limit (limit + 1) (d st n r env' w0 c h) (omega arith)

    pub test-gives : (l more : List Val) (v : Val) (limit : ℕ) → count q env ≡ length l → Draws u number shape forms spellings (γ ++ around_loop) (all_lowered ts) (names ++ l) (v ∷ []) limit
        → GraphGives u (gt q env) (ins ++ map Value (l ++ more)) (Value (said t.is_until v) ∷ []) (limit + 1)
    test-gives l more v limit e d =
        let p = test-inside l more e in
        let st = site_of (gt q env) l more in
        let z = tested-done t.is_until st 0 (suc (gt q env)) (inside_names q env) (names ++ l) v limit d inside-wired (names-inside (gt q env) l more (x0 q env) e p) p.placed in
        at-values (gt q env) l more (Value (said t.is_until v) ∷ []) (limit + 1)
        (as-graph u number shape (gt q env) _ (Value (said t.is_until v) ∷ []) (limit + 1) (part-gives u number shape (x0 q env) (Value (said t.is_until v) ∷ []) (limit + 1) p (done-made u number shape st 0 (x0 q env) (said t.is_until v ∷ []) (limit + 1) z)))

    -- ---- the turn

    pub turn-inside : (l more : List Val) (e : count q env ≡ length l) → Part u number shape (gb q env) ks here.values env names (own_tys more) (map Value l ++ map Value more) (b0 q env)
    turn-inside l more e = turn-part (own_tys more) (map Value l ++ map Value more) (own-long l more e)

    abbrev pub turn_defs : Lowered
    turn_defs = defs_lowered ds (inside_names q env) 0 (suc (gb q env))

    abbrev pub turn_row : Lowered
    turn_row = row_of_turn (es q env) (take_up (length env) (inside_names q env)) (renew t.renewed (drop (length (inside_names q env)) turn_defs.values) (drop (length env) (inside_names q env))) (0 + length turn_defs.nodes) (suc (gb q env) + length turn_defs.graphs)

    pub turn-wired : WiresOf forms spellings (γ ++ around_loop) (take_up (length env) (inside_names q env) ++ renew t.renewed (drop (length (inside_names q env)) turn_defs.values) (drop (length env) (inside_names q env)))
    turn-wired =
        let x = wd (inside_names q env) 0 (suc (gb q env)) inside-wired in
        let later_names = wires-drop forms spellings (γ ++ around_loop) later (inside_names q env) turn_defs.values inside-wired x in
        let before = wires-drop forms spellings γ around_loop env (inside_names q env) we inside-wired in
        wires-both forms spellings γ around_loop (take_up (length env) (inside_names q env)) (renew t.renewed (drop (length (inside_names q env)) turn_defs.values) (drop (length env) (inside_names q env)))
        (wires-take forms spellings γ around_loop env (inside_names q env) we inside-wired)
        (wires-renew forms spellings around_loop t.renewed later ren (drop (length (inside_names q env)) turn_defs.values) (drop (length env) (inside_names q env)) later_names before)

    -- the names around, and the loop names after the turn
    pub turn-carries : (l more all next : List Val) (i : ℕ) → count q env ≡ length l → Draws u number shape forms spellings (γ ++ around_loop) (defs_lowered ds) (names ++ l) all i → source.renew t.renewed (drop (length (names ++ l)) all) l ≡ next
        → AllCarry u number shape (site_of (gb q env) l more) (take_up (length env) (inside_names q env)) names
        × AllCarry u number shape (site_of (gb q env) l more) (renew t.renewed (drop (length (inside_names q env)) turn_defs.values) (drop (length env) (inside_names q env))) next
    turn-carries l more all next i e d r =
        let p = turn-inside l more e in
        let st = site_of (gb q env) l more in
        let c = names-inside (gb q env) l more (b0 q env) e p in
        let many = carry-length u number shape st (inside_names q env) (names ++ l) c in
        let y = d st 0 (suc (gb q env)) (inside_names q env) inside-wired c (placed-left u number shape st 0 (suc (gb q env)) turn_defs turn_row p.placed) in
        let around = subst (λ n. AllCarry u number shape st (take_up n (inside_names q env)) names) (sym around-many) (carry-take u number shape st (inside_names q env) names l c) in
        let before = subst (λ v. AllCarry u number shape st (drop (length env) (inside_names q env)) v) (ap (λ n. drop n (names ++ l)) around-many ∙ drop-front names l) (carry-drop u number shape st (length env) (inside_names q env) (names ++ l) c) in
        let news = subst (λ k. AllCarry u number shape st (drop (length (inside_names q env)) turn_defs.values) (drop k all)) many (carry-drop u number shape st (length (inside_names q env)) turn_defs.values all y.held) in (
          around,
          subst (AllCarry u number shape st (renew t.renewed (drop (length (inside_names q env)) turn_defs.values) (drop (length env) (inside_names q env)))) r
              (carry-renew u number shape st t.renewed (drop (length (inside_names q env)) turn_defs.values) (drop (length (names ++ l)) all) (drop (length env) (inside_names q env)) l news before),
        )

    pub turn-gives : (l more all next others : List Val) (i j : ℕ) → count q env ≡ length l → Draws u number shape forms spellings (γ ++ around_loop) (defs_lowered ds) (names ++ l) all i → source.renew t.renewed (drop (length (names ++ l)) all) l ≡ next
        → Draws u number shape forms spellings (γ ++ around_loop) (all_lowered (es q env)) (names ++ next) others j → GraphGives u (gb q env) (ins ++ map Value (l ++ more)) (map Value (next ++ others)) (i + j)
    turn-gives l more all next others i j e d r x =
        let p = turn-inside l more e in
        let st = site_of (gb q env) l more in
        let c = names-inside (gb q env) l more (b0 q env) e p in
        let y = d st 0 (suc (gb q env)) (inside_names q env) inside-wired c (placed-left u number shape st 0 (suc (gb q env)) turn_defs turn_row p.placed) in
        let carries = turn-carries l more all next i e d r in
        let around = carries.0 in
        let after = carries.1 in
        let z = row-made u number shape forms spellings (γ ++ around_loop) st (0 + length turn_defs.nodes) (suc (gb q env) + length turn_defs.graphs) (es q env) (take_up (length env) (inside_names q env)) (renew t.renewed (drop (length (inside_names q env)) turn_defs.values) (drop (length env) (inside_names q env))) names next others j turn-wired around after x
        (placed-right u number shape st 0 (suc (gb q env)) turn_defs turn_row p.placed) in
        at-values (gb q env) l more (map Value (next ++ others)) (i + j)
        (as-graph u number shape (gb q env) _ (map Value (next ++ others)) (i + j)
        (part-gives u number shape (b0 q env) (map Value (next ++ others)) (i + j) p (done-made u number shape st 0 (b0 q env) (next ++ others) (i + j) (done-both u number shape st 0 turn_defs turn_row all (next ++ others) i j y z))))

    -- ---- the returns

    pub returns-give : (cs : List Carried) → AreShaped u number shape t.clauses ns → length ns ≡ length t.clauses → length (i0 q env).values ≡ length cs → AreBelow (length cs) (places q env)
        → GraphGives u (gr q env) (ins ++ cs) (map Value (folds_of t.clauses (pos 1) (map (λ x. get_or cs x Unfilled) (places q env)))) (8 * length t.clauses)
    returns-give cs sh l w b =
        let x = length-map (types (i0 q env).values) many in
        let y = length-map (i0 q env).values (λ w. w.ty) in
        let p = returns-part (many_tys q env) cs (x ∙ (y ∙ w)) in
        let st = at_part u number shape (gr q env) ks here.values cs in
        let vs = folds_of t.clauses (pos 1) (map (λ x. get_or cs x Unfilled) (places q env)) in
        let d = returns-done u number shape st 0 (suc (gr q env)) (Wired one) t.clauses (map (wire_at (own_inputs 1 (many_tys q env))) (places q env)) ns (map (λ x. get_or cs x Unfilled) (places q env)) (pos 1) l
        (λ _. λ _. held-literal u number shape st (constant.Integer (pos 1)) (val.Int (pos 1)) refl) sh (all-carried-at u number shape st (own_inputs 1 (many_tys q env)) cs (places q env) b p.own) p.placed in
        as-graph u number shape (gr q env) (ins ++ cs) (map Value vs) (8 * length t.clauses) (part-gives u number shape (r0 q env) (map Value vs) (8 * length t.clauses) p (done-made u number shape st 0 (r0 q env) vs (8 * length t.clauses) d))
