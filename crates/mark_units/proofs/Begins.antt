-- A graph and the graphs inside it, each with its marks.
use Rattle.std.proofs.Common.{◌≡◌, ◌∙◌, ℕ, zero, suc, ◌+◌, ◌<◌, ◌≤◌, Bool, List, [], ◌∷◌, ◌++◌, map, drop, length, get_or, slice_index_or, All, Contains, refl, sym, ap, subst, arith, append_assoc, if◌then◌else◌}
use Rattle.std.specs.List.{flat_map}
use Rattle.std.proofs.lemmas.List.{length-map}
use Rattle.std.proofs.lemmas.List.Elements.{Contains-get_or}
use Rattle.if1_graph.specs.declared.graph.Edge.{Edge}
use Rattle.if1_graph.specs.declared.graph.Graph.{Graph}
use Rattle.if1_graph.specs.declared.graph.Graph.TheViews.{out-Graph, roll-Graph, out-roll-Graph, roll-out-Graph, out-roll-Node, roll-out-Node}
use Rattle.if1_graph.specs.declared.graph.Graph.TheOpen.{Graph-F, Node-F}
use Rattle.if1_graph.specs.declared.graph.Node.{Node, roll-Node, out-Node}
use Rattle.if1_graph.specs.declared.graph.Unit1.{Unit1}
use Rattle.if1_graph.specs.Units.{label_of, levels, level_below, Home, Inside, Place, places_of}
use Rattle.if1_order.proofs.Within.{levels_out, parts_below}
use Rattle.marks_made.specs.Made.{Answer, marked}
use Rattle.marks_made.specs.Units.{is_candidate, each_graph, with_graphs, with_parts, marked_at}
use Rattle.marks_made.specs.Laws.{IsMarkable}
use Rattle.marks_made.proofs.Units.{IsLike}
use Rattle.may_take.specs.Looked.{flags_at, node_places, inner_places, node_levels}
use Rattle.may_take.proofs.Placing.{places-are, node-below, part-below, none-deeper}
use Rattle.take_marks.specs.declared.why.Why.{Why}
use Rattle.take_marks.specs.declared.why.Why.TheVariants as why
use Rattle.take_marks.specs.Applied.{AreTaken, AreNodesListed}
use Rattle.take_marks.specs.Made.{IsInShape, AreListed, AreMade}
use Rattle.take_marks.proofs.Marking.{marked-is}
use Rattle.mark_units.specs.declared.begin.Begun.{Begun}
use Rattle.mark_units.specs.declared.begin.Pass.{Pass}
use Rattle.mark_units.specs.declared.note.Note.{Note}
use Rattle.mark_units.specs.Begun.{HasBegun}
use Rattle.mark_units.specs.Notes.{AreNotes, AreNotesOf, is_kept, one_note, noted}
use Rattle.mark_units.specs.Notes as notes
use Rattle.mark_units.specs.Walked.{AllFlags, AreNext, WentBy, GraphNext, GraphMarked, NodesNext, NodesMarked, NodeNext, NodeMarked, PartsNext, PartsMarked, marked_node}
use Rattle.mark_units.proofs.Likeness.{made-like, made-orders-like, markable-like, listed-like, shape-like}

-- ---- one node

pub node-parts : (n : Node) (flags : AllFlags) → NodeNext n flags → PartsNext (out-Node n).subs flags
node-parts n flags h =
    record {
      unit = h.unit;
      more = h.more;
      home = λ k. Inside h.outer n k;
      first = 0;
      rest = h.rest;
      deep = deep-parts n h.more h.deep;
      next = h.next;
    }
  where
    deep-parts : (n : Node) (more : ℕ) → node_levels n ≤ suc more → All (λ s. levels s ≤ more) (out-Node n).subs
    deep-parts n more deep = λ k d lt. part-below n more deep (get_or (out-Node n).subs k d) (Contains-get_or (out-Node n).subs k d lt)

pub node-marked : (n : Node) (flags : AllFlags) (old new : Pass) (gs : List Graph) → PartsMarked (out-Node n).subs flags old new gs →
    NodeMarked n flags old new (roll-Node (record { label = (out-Node n).label; op = (out-Node n).op; subs = gs; assoc = (out-Node n).assoc; before = (out-Node n).before; name = (out-Node n).name }))
node-marked n flags old new gs m u more g rest deep next =
    let r = m u more (λ k. Inside g n k) 0 rest (λ k d lt. part-below n more deep (get_or (out-Node n).subs k d) (Contains-get_or (out-Node n).subs k d lt)) next in (
      ap (λ gs. roll-Node (record { label = (out-Node n).label; op = (out-Node n).op; subs = gs; assoc = (out-Node n).assoc; before = (out-Node n).before; name = (out-Node n).name })) r.0,
      r.1,
    )

-- ---- levels

-- the levels inside a graph
abbrev pub inner : ℕ → ℕ
inner zero = 0
inner (suc more) = more

deeper-are : (more : ℕ) (g : Graph) → levels g ≤ more → inner_places more g ≡ flat_map (node_places (inner more) g) (out-Graph g).nodes
deeper-are zero g h = sym (none-deeper g h)
deeper-are (suc more) g h = refl

inner-deep : (more : ℕ) (g : Graph) → levels g ≤ more → All (λ n. node_levels n ≤ suc (inner more)) (out-Graph g).nodes
inner-deep zero g h = node-below g 0 (omega (arith, h))
inner-deep (suc more) g h = node-below g more h

none-in : (gs : List Graph) → level_below (map levels gs) ≤ 0 → gs ≡ []
none-in [] h = refl
none-in (g ∷ gs) h = absurd (omega (arith, h))

flat-node : (f : Node → ℕ → Graph → Graph) (n : Node) → (out-Node n).subs ≡ [] → with_graphs f n ≡ n
flat-node f n e =
    ap (λ gs. roll-Node (record { label = (out-Node n).label; op = (out-Node n).op; subs = gs; assoc = (out-Node n).assoc; before = (out-Node n).before; name = (out-Node n).name }))
    (ap (each_graph (f n) 0) e ∙ sym e)
    ∙ roll-out-Node n

flat-nodes : (f : Node → ℕ → Graph → Graph) (ns : List Node) → ((n : Node) → Contains ns n → (out-Node n).subs ≡ []) → map (with_graphs f) ns ≡ ns
flat-nodes f [] h = refl
flat-nodes f (n ∷ ns) h =
    ap (λ m. m ∷ map (with_graphs f) ns) (flat-node f n (h n (0, omega arith, refl)))
    ∙ ap (λ ms. n ∷ ms) (flat-nodes f ns (λ m c. h m (suc c.0, omega (arith, c.1), c.2)))

flat-graph : (f : Node → ℕ → Graph → Graph) (g : Graph) → levels g ≤ 0 → with_parts f g ≡ g
flat-graph f g h =
    ap (λ ns. roll-Graph (record { number = (out-Graph g).number; exported = (out-Graph g).exported; name = (out-Graph g).name; fun = (out-Graph g).fun; nodes = ns; edges = (out-Graph g).edges }))
    (flat-nodes f (out-Graph g).nodes (λ n c. none-in (out-Node n).subs (omega (arith, h, levels_out g, parts_below (out-Graph g).nodes n c))))
    ∙ roll-out-Graph g

module _ (u : Unit1) (home : Home) (g : Graph) where
  abbrev may : Edge → Bool
  may = is_candidate u (record { graph = g; home = home })

  abbrev parts : ℕ → Graph
  parts more = with_parts (λ n k s. marked_at u more (Inside g n k) s) g

  at-level : (more : ℕ) → levels g ≤ more → marked (parts (inner more)) may ≡ marked_at u more home g
  at-level zero h = ap (λ x. marked x may) (flat-graph (λ n k s. marked_at u 0 (Inside g n k) s) g h)
  at-level (suc more) h = refl

-- ---- the graph with other graphs inside

module _ (f : Node → ℕ → Graph → Graph) (g : Graph) where
  labels-kept : (ns : List Node) → map label_of (map (with_graphs f) ns) ≡ map label_of ns
  labels-kept [] = refl
  labels-kept (n ∷ ns) = ap (λ l. l ∷ map label_of (map (with_graphs f) ns)) (ap (λ (x : Node-F Graph Node). x.label) (out-roll-Node _)) ∙ ap (λ ls. label_of n ∷ ls) (labels-kept ns)

  nodes-in : (out-Graph (with_parts f g)).nodes ≡ map (with_graphs f) (out-Graph g).nodes
  nodes-in = ap (λ (x : Graph-F Graph Node). x.nodes) (out-roll-Graph _)

  like-parts : IsLike g (with_parts f g)
  like-parts =
      record {
        edges = ap (λ (x : Graph-F Graph Node). x.edges) (out-roll-Graph _);
        labels = ap (map label_of) nodes-in ∙ labels-kept (out-Graph g).nodes;
      }

-- ---- one graph

head-drop : (flags : AllFlags) (at : ℕ) (x : List Bool) (xs : AllFlags) → drop at flags ≡ x ∷ xs → (at < length flags) × (slice_index_or flags at [] ≡ x) × (drop (at + 1) flags ≡ xs)
head-drop [] zero x xs e = absurd (let z : 0 ≡ length (x ∷ xs) = ap length e in omega (arith, z))
head-drop [] (suc at) x xs e = absurd (let z : 0 ≡ length (x ∷ xs) = ap length e in omega (arith, z))
head-drop (f ∷ flags) zero x xs e = (omega arith, ap (λ (zs : AllFlags). slice_index_or zs 0 []) e, ap (drop 1) e)
head-drop (f ∷ flags) (suc at) x xs e =
    let r = head-drop flags at x xs e in
    (omega (arith, r.0), r.1, ap (λ k. drop k (f ∷ flags)) (let z : suc at + 1 ≡ suc (at + 1) = omega arith in z) ∙ r.2)

module _ (g : Graph) (flags : AllFlags) (at : ℕ) where
  module _ (u : Unit1) (more : ℕ) (home : Home) (rest : AllFlags) (deep : levels g ≤ more) (next : AreNext u (places_of more home g) (drop at flags) rest) where
    abbrev own : Place
    own = record { graph = g; home = home }

    abbrev inside : List Place
    inside = flat_map (node_places (inner more) g) (out-Graph g).nodes

    places-in : places_of more home g ≡ own ∷ inside
    places-in = places-are more home g ∙ ap (λ ps. own ∷ ps) (deeper-are more g deep)

    next-in : AreNext u (own ∷ inside) (drop at flags) rest
    next-in = subst (λ ps. AreNext u ps (drop at flags) rest) places-in next

    head : (at < length flags) × (slice_index_or flags at [] ≡ flags_at u own) × (drop (at + 1) flags ≡ map (flags_at u) inside ++ rest)
    head = head-drop flags at (flags_at u own) (map (flags_at u) inside ++ rest) next-in.are

    shape-in : IsInShape g
    shape-in = next-in.shapes own (0, omega arith, refl)

    markable-in : IsMarkable g (is_candidate u own)
    markable-in = next-in.markable own (0, omega arith, refl)

    inside-next : AreNext u inside (drop (at + 1) flags) rest
    inside-next =
        record {
          are = head.2;
          shapes = λ p c. next-in.shapes p (suc c.0, omega (arith, c.1), c.2);
          markable = λ p c. next-in.markable p (suc c.0, omega (arith, c.1), c.2);
        }

  pub graph-there : GraphNext g (drop at flags) → at < length flags
  graph-there h = (head h.unit h.more h.home h.rest h.deep h.next).0

  pub graph-shape : GraphNext g (drop at flags) → IsInShape g
  graph-shape h = shape-in h.unit h.more h.home h.rest h.deep h.next

  pub graph-flags : GraphNext g (drop at flags) → length (slice_index_or flags at []) ≡ length (out-Graph g).edges
  graph-flags h =
      ap length (head h.unit h.more h.home h.rest h.deep h.next).1
      ∙ length-map (out-Graph g).edges (is_candidate h.unit (own h.unit h.more h.home h.rest h.deep h.next))

  pub graph-nodes : GraphNext g (drop at flags) → NodesNext (out-Graph g).nodes (drop (at + 1) flags)
  graph-nodes h =
      record {
        unit = h.unit;
        more = inner h.more;
        outer = g;
        rest = h.rest;
        deep = inner-deep h.more g h.deep;
        next = inside-next h.unit h.more h.home h.rest h.deep h.next;
      }

  -- as many nodes as before
  pub graph-count : GraphNext g (drop at flags) → (old new : Pass) → old.at ≡ at + 1 → (ns : List Node) → NodesMarked (out-Graph g).nodes flags old new ns → length ns ≡ length (out-Graph g).nodes
  graph-count h old new e ns m =
      let d =
      m h.unit (inner h.more) g h.rest (inner-deep h.more g h.deep)
      (subst (λ k. AreNext h.unit (inside h.unit h.more h.home h.rest h.deep h.next) (drop k flags) h.rest) (sym e) (inside-next h.unit h.more h.home h.rest h.deep h.next)) in
      ap length d.0 ∙ length-map (out-Graph g).nodes (marked_node h.unit (inner h.more) g)

module _ (g : Graph) (flags : AllFlags) (old begun new : Pass) (r : Begun) (b : HasBegun g (slice_index_or flags old.at []) old begun r) (ns listed : List Node) (m : NodesMarked (out-Graph g).nodes flags begun new ns) (l : AreNodesListed ns r.befores.items 0 listed) where
  module _ (u : Unit1) (more : ℕ) (home : Home) (rest : AllFlags) (deep : levels g ≤ more) (next : AreNext u (places_of more home g) (drop old.at flags) rest) where
    abbrev p : Place
    p = record { graph = g; home = home }

    abbrev may-take : Edge → Bool
    may-take = is_candidate u p

    abbrev f : Node → ℕ → Graph → Graph
    f = λ n k s. marked_at u (inner more) (Inside g n k) s

    abbrev big : Graph
    big = with_parts f g

    abbrev deeper : List Place
    deeper = flat_map (node_places (inner more) g) (out-Graph g).nodes

    abbrev here : List Note
    here = noted (out-Graph g).number (out-Graph g).edges b.whys

    ok : IsMarkable g may-take
    ok = markable-in g flags old.at u more home rest deep next

    made : AreMade g may-take b.whys r.befores.items
    made = b.made may-take ok (head g flags old.at u more home rest deep next).1

    nodes-done : (ns ≡ map (marked_node u (inner more) g) (out-Graph g).nodes) × WentBy u deeper flags rest begun new
    nodes-done =
        m u (inner more) g rest (inner-deep more g deep)
        (subst (λ k. AreNext u deeper (drop k flags) rest) (sym b.at) (inside-next g flags old.at u more home rest deep next))

    like : IsLike g big
    like = like-parts f g

    abbrev whole : Graph-F Graph Node → Graph
    whole x = roll-Graph (record { number = x.number; exported = x.exported; name = x.name; fun = x.fun; nodes = listed; edges = b.taken.edges })

    is-whole : whole (out-Graph g) ≡ marked_at u more home g
    is-whole =
        ap whole (sym (out-roll-Graph (record { number = (out-Graph g).number; exported = (out-Graph g).exported; name = (out-Graph g).name; fun = (out-Graph g).fun; nodes = map (with_graphs f) (out-Graph g).nodes; edges = (out-Graph g).edges })))
        ∙ (marked-is big may-take (markable-like g big like may-take ok) (shape-like g big like may-take (shape-in g flags old.at u more home rest deep next)) r.befores.items
        (listed-like g big like _ r.befores.items (subst (λ os. AreListed g os r.befores.items) (sym (made-orders-like g big like may-take)) made.lists))
        b.whys b.taken.edges listed
        (made.answers ∙ ap (map (λ (x : Edge × Answer). x.1)) (sym (made-like g big like may-take)))
        (subst (λ es. AreTaken es b.whys (length es) b.taken.edges) (sym like.edges) b.taken.taken)
        (subst (λ ns. AreNodesListed ns r.befores.items 0 listed) (nodes-done.0 ∙ sym (nodes-in f g)) l)
        ∙ at-level u home g more deep)

    notes-here : AreNotesOf u p here
    notes-here = record { whys = b.whys; answers = made.answers; ways = made.ways; are = refl }

    went-by : WentBy u (places_of more home g) flags rest old new
    went-by =
        record {
          left = nodes-done.1.left;
          added = here ++ nodes-done.1.added;
          notes = nodes-done.1.notes ∙ (ap (λ ns. ns ++ nodes-done.1.added) b.notes ∙ append_assoc old.notes here nodes-done.1.added);
          are = subst (λ ps. AreNotes u ps (here ++ nodes-done.1.added)) (sym (places-in g flags old.at u more home rest deep next)) (notes.more notes-here nodes-done.1.are);
        }

  pub whole-graph : GraphMarked g flags old new (roll-Graph (record { number = (out-Graph g).number; exported = (out-Graph g).exported; name = (out-Graph g).name; fun = (out-Graph g).fun; nodes = listed; edges = b.taken.edges }))
  whole-graph u more home rest deep next = (is-whole u more home rest deep next, went-by u more home rest deep next)

-- ---- what was begun

pub begun-is : (g : Graph) (flags : List Bool) (old new : Pass) (r : Begun) (b : HasBegun g flags old new r) →
    out-Graph r.graph ≡ record { number = (out-Graph g).number; exported = (out-Graph g).exported; name = (out-Graph g).name; fun = (out-Graph g).fun; nodes = (out-Graph g).nodes; edges = b.taken.edges }
begun-is g flags old new r b = ap out-Graph b.taken.graph ∙ out-roll-Graph _

pub begun-nodes : (g : Graph) (flags : List Bool) (old new : Pass) (r : Begun) → HasBegun g flags old new r → (out-Graph r.graph).nodes ≡ (out-Graph g).nodes
begun-nodes g flags old new r b = ap (λ (x : Graph-F Graph Node). x.nodes) (begun-is g flags old new r b)

-- ---- notes look at no marks

abbrev Ends : List Edge → List Edge → Type 0
Ends es now = (length now ≡ length es) × ((k : ℕ) (d : Edge) → k < length es → ((get_or now k d).node ≡ (get_or es k d).node) × ((get_or now k d).port ≡ (get_or es k d).port))

same-noted : (n : ℕ) (es now : List Edge) (ws : List Why) → Ends es now → noted n now ws ≡ noted n es ws
same-noted n [] [] ws h = refl
same-noted n [] (x ∷ now) ws h = absurd (omega (arith, h.0))
same-noted n (e ∷ es) [] ws h = absurd (omega (arith, h.0))
same-noted n (e ∷ es) (x ∷ now) [] h = refl
same-noted n (e ∷ es) (x ∷ now) (w ∷ ws) h =
    let a = h.1 0 e (omega arith) in
    ap (λ k. (if is_kept w then [] else record { graph = n; node = k; port = x.port; why = w } ∷ []) ++ noted n now ws) a.0
    ∙ (ap (λ k. (if is_kept w then [] else record { graph = n; node = e.node; port = k; why = w } ∷ []) ++ noted n now ws) a.1
    ∙ ap (λ ns. one_note n e w ++ ns) (same-noted n es now ws (omega (arith, h.0), λ k d lt. h.1 (suc k) d (omega (arith, lt)))))

pub taken-noted : (n : ℕ) (es now : List Edge) (whys ws : List Why) → AreTaken es whys (length es) now → noted n now ws ≡ noted n es ws
taken-noted n es now whys ws t =
    same-noted n es now ws (t.fit, λ k d lt. let e = t.done k d why.Kept lt lt in (ap (λ (x : Edge). x.node) e, ap (λ (x : Edge). x.port) e))
