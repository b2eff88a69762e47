-- The inputs of graphs, one after another.
use Rattle.std.proofs.Common.{◌≡◌, ◌∙◌, ℕ, zero, suc, ◌+◌, ◌<◌, ◌≤◌, List, [], ◌∷◌, ◌++◌, length, map, take, get_or, option_map, unwrap_or, Option, Some, None, arith, refl, sym, ap, append_assoc}
use Rattle.std.specs.List.{flat_map}
use Rattle.std.proofs.lemmas.Grind.{flat_map-append}
use Rattle.std.proofs.lemmas.List.{take_more, take_all, map-append}
use Rattle.if1_graph.specs.declared.graph.Graph.{Graph}
use Rattle.if1_graph.specs.declared.graph.Graph.TheViews.{out-Graph}
use Rattle.if1_graph.specs.declared.graph.Graph.TheFolds.{fold_out-Node}
use Rattle.if1_graph.specs.declared.graph.Node.{Node, out-Node}
use Rattle.if1_graph.specs.declared.graph.Unit1.{Unit1}
use Rattle.if1_graph.specs.declared.op.Compound.{Compound}
use Rattle.if1_graph.specs.declared.op.Part.{Part}
use Rattle.if1_graph.specs.declared.op.Part.TheVariants as part
use Rattle.if1_graph.specs.Ops.{compound_at}
use Rattle.if1_graph.specs.Parts.{part_at}
use Rattle.if1_graph.specs.Ports.{part_inputs}
use Rattle.if1_graph.specs.Tables.{◌>>=◌}
use Rattle.if1_graph.specs.Units.{Home, Inside, Place, each_from, greatest, label_of, level_below, levels, places_of, width}
use Rattle.if1_order.proofs.Within.{node_levels, levels_out}
use Rattle.unit_plan.specs.Plans.{plain_as}
use Rattle.graph_inputs.specs.declared.inputs.Inputs.{Inputs}
use Rattle.graph_inputs.specs.Inputs.{inputs_by, inputs_for, inputs_of, plain_for}
use Rattle.graph_inputs.specs.Walks.{node_places, part_places}

append-none : {A : Type 0} (xs : List A) → (xs ++ []) ≡ xs
append-none [] = refl
append-none (x ∷ xs) = ap (λ ys. x ∷ ys) (append-none xs)

-- ---- lists of places

each-append : (f : ℕ → Graph → List Place) (i : ℕ) (xs ys : List Graph) → each_from f i (xs ++ ys) ≡ each_from f i xs ++ each_from f (i + length xs) ys
each-append f i [] ys = ap (λ j. each_from f j ys) (let e : i ≡ i + 0 = omega arith in e)
each-append f i (x ∷ xs) ys =
    ap (λ ps. f i x ++ ps) (each-append f (suc i) xs ys ∙ ap (λ j. each_from f (suc i) xs ++ each_from f j ys) (let e : suc i + length xs ≡ i + suc (length xs) = omega arith in e))
    ∙ sym (append_assoc (f i x) (each_from f (suc i) xs) (each_from f (i + suc (length xs)) ys))

take-long : {A : Type 0} (n : ℕ) (xs : List A) → n ≤ length xs → length (take n xs) ≡ n
take-long zero xs h = refl
take-long (suc n) [] h = absurd (omega (arith, h))
take-long (suc n) (x ∷ xs) h = ap suc (take-long n xs (omega (arith, h)))

module _ (u : Unit1) where
  abbrev known : List Place → List Inputs
  known ps = map (inputs_of u) ps

  known-append : (ps qs : List Place) → known (ps ++ qs) ≡ known ps ++ known qs
  known-append ps qs = map-append (inputs_of u) ps qs

  -- what was added before, and then this
  added : (old mid new : List Inputs) (ps qs rs : List Place) → mid ≡ old ++ known ps → new ≡ mid ++ known qs → rs ≡ ps ++ qs → new ≡ old ++ known rs
  added old mid new ps qs rs e k is =
      k ∙ (ap (λ xs. xs ++ known qs) e ∙ (append_assoc old (known ps) (known qs) ∙ ap (λ xs. old ++ xs) (sym (ap known is ∙ known-append ps qs))))

  -- one more of some graphs
  pub each-more : (f : ℕ → Graph → List Place) (gs : List Graph) (n : ℕ) (s : Graph) → n < length gs → s ≡ get_or gs n s → (old mid new : List Inputs)
      → mid ≡ old ++ known (each_from f 0 (take n gs)) → new ≡ mid ++ known (f n s) → new ≡ old ++ known (each_from f 0 (take (n + 1) gs))
  each-more f gs n s h is old mid new e k =
      let long = take-long n gs (omega (arith, h)) in
      let one : each_from f 0 (take (n + 1) gs) ≡ each_from f 0 (take n gs) ++ f n s =
      ap (each_from f 0) (take_more gs n s h ∙ ap (λ y. take n gs ++ y ∷ []) (sym is))
      ∙ (each-append f 0 (take n gs) (s ∷ []) ∙ (ap (λ j. each_from f 0 (take n gs) ++ (f j s ++ [])) (let x : 0 + length (take n gs) ≡ n = omega (arith, long) in x) ∙ ap (λ ps. each_from f 0 (take n gs) ++ ps) (append-none (f n s)))) in
      added old mid new (each_from f 0 (take n gs)) (f n s) (each_from f 0 (take (n + 1) gs)) e k one

  pub each-all : (f : ℕ → Graph → List Place) (gs : List Graph) (n : ℕ) → length gs ≤ n → (old new : List Inputs) → new ≡ old ++ known (each_from f 0 (take n gs)) → new ≡ old ++ known (each_from f 0 gs)
  each-all f gs n h old new e = e ∙ ap (λ xs. old ++ known (each_from f 0 xs)) (take_all n gs h)

  pub each-none : (f : ℕ → Graph → List Place) (gs : List Graph) (n : ℕ) → n ≡ 0 → (old : List Inputs) → old ≡ old ++ known (each_from f 0 (take n gs))
  each-none f gs n e old = sym (append-none old) ∙ ap (λ k. old ++ known (each_from f 0 (take k gs))) (sym e)

  -- one more of some nodes
  pub flat-more : (f : Node → List Place) (ns : List Node) (i : ℕ) (n : Node) → i < length ns → n ≡ get_or ns i n → (old mid new : List Inputs)
      → mid ≡ old ++ known (flat_map f (take i ns)) → new ≡ mid ++ known (f n) → new ≡ old ++ known (flat_map f (take (i + 1) ns))
  flat-more f ns i n h is old mid new e k =
      let one : flat_map f (take (i + 1) ns) ≡ flat_map f (take i ns) ++ f n =
      ap (flat_map f) (take_more ns i n h ∙ ap (λ y. take i ns ++ y ∷ []) (sym is))
      ∙ (flat_map-append f (take i ns) (n ∷ []) ∙ ap (λ ps. flat_map f (take i ns) ++ ps) (append-none (f n))) in
      added old mid new (flat_map f (take i ns)) (f n) (flat_map f (take (i + 1) ns)) e k one

  pub flat-all : (f : Node → List Place) (ns : List Node) (i : ℕ) → length ns ≤ i → (old new : List Inputs) → new ≡ old ++ known (flat_map f (take i ns)) → new ≡ old ++ known (flat_map f ns)
  flat-all f ns i h old new e = e ∙ ap (λ xs. old ++ known (flat_map f xs)) (take_all i ns h)

  pub flat-none : (f : Node → List Place) (ns : List Node) (i : ℕ) → i ≡ 0 → (old : List Inputs) → old ≡ old ++ known (flat_map f (take i ns))
  flat-none f ns i e old = sym (append-none old) ∙ ap (λ k. old ++ known (flat_map f (take k ns))) (sym e)

  -- ---- a graph

  no-parts : (more : ℕ) (g : Graph) (n : Node) (k : ℕ) (ss : List Graph) → level_below (map levels ss) ≤ 0 → part_places more g n k ss ≡ []
  no-parts more g n k [] h = refl
  no-parts more g n k (s ∷ ss) h = absurd (omega (arith, h))

  none-below : (more : ℕ) (g : Graph) (ns : List Node) → greatest (map node_levels ns) ≤ 0 → flat_map (node_places more g) ns ≡ []
  none-below more g [] h = refl
  none-below more g (n ∷ ns) h =
      let own : node_levels n ≤ 0 = omega (arith, h) in
      let rest : greatest (map node_levels ns) ≤ 0 = omega (arith, h) in
      let flat = no-parts more g n 0 (out-Node n).subs (omega (arith, own, fold_out-Node ℕ ℕ (λ g. greatest g.nodes) (λ n. level_below n.subs) n)) in
      ap (λ xs. xs ++ flat_map (node_places more g) ns) flat ∙ none-below more g ns rest

  pub graph-added : (g : Graph) (old mid new : List Inputs) (own : Inputs) (home : Home) → own ≡ inputs_of u (record { graph = g; home = home }) → mid ≡ old ++ own ∷ []
      → ((more : ℕ) → levels g ≤ suc more → new ≡ mid ++ known (flat_map (node_places more g) (out-Graph g).nodes)) → (more : ℕ) → levels g ≤ more → new ≡ old ++ known (places_of more home g)
  graph-added g old mid new own home is e below more deep = go more deep
    where
      here : Place
      here = record { graph = g; home = home }

      one : mid ≡ old ++ known (here ∷ [])
      one = e ∙ ap (λ x. old ++ x ∷ []) is

      go : (more : ℕ) → levels g ≤ more → new ≡ old ++ known (places_of more home g)
      go zero deep =
          let none = none-below 0 g (out-Graph g).nodes (omega (arith, levels_out g, deep)) in
          added old mid new (here ∷ []) [] (here ∷ []) one (below 0 (omega (arith, deep)) ∙ ap (λ ps. mid ++ known ps) none) refl
      go (suc more) deep = added old mid new (here ∷ []) (flat_map (node_places more g) (out-Graph g).nodes) (here ∷ flat_map (node_places more g) (out-Graph g).nodes) one (below more deep) refl

  -- ---- the inputs of a part

  plain-is : (outer : Graph) (n : Node) (c : Compound) (x : Part) → plain_for c x (width outer (label_of n)) (out-Node n).subs ≡ plain_as outer n (Some (c, x))
  plain-is outer n c part.Returns = refl
  plain-is outer n c part.Selector = refl
  plain-is outer n c part.Alternative = refl
  plain-is outer n c part.Arm = refl
  plain-is outer n c part.Generator = refl
  plain-is outer n c part.Body = refl
  plain-is outer n c part.Initialization = refl
  plain-is outer n c part.Test = refl

  abbrev read : (outer : Graph) → Node → Option (Compound × Part) → Inputs
  read outer n o = record { all = unwrap_or (option_map (λ cp. part_inputs cp.0 cp.1 (width outer (label_of n)) (out-Node n).subs) o) 0; plain = plain_as outer n o }

  by-part : (outer : Graph) (n : Node) (c : Compound) (o : Option Part) → inputs_for c o (width outer (label_of n)) (out-Node n).subs ≡ read outer n (o >>= λ x. Some (c, x))
  by-part outer n c None = refl
  by-part outer n c (Some x) = ap (λ p. let y : Inputs = record { all = part_inputs c x (width outer (label_of n)) (out-Node n).subs; plain = p } in y) (plain-is outer n c x)

  by-compound : (outer : Graph) (n : Node) (o : Option Compound) (k : ℕ) → inputs_by o k (width outer (label_of n)) (out-Node n).subs ≡ read outer n (o >>= λ c. part_at c k >>= λ x. Some (c, x))
  by-compound outer n None k = refl
  by-compound outer n (Some c) k = by-part outer n c (part_at c k)

  pub part-known : (outer : Graph) (n : Node) (k : ℕ) (s : Graph) → inputs_by (compound_at (out-Node n).op) k (width outer (label_of n)) (out-Node n).subs ≡ inputs_of u (record { graph = s; home = Inside outer n k })
  part-known outer n k s = by-compound outer n (compound_at (out-Node n).op) k

  pub part-own : (outer : Graph) (n : Node) (k : ℕ) (s : Graph) (x : Inputs) (o : Option Compound) (w : ℕ) (gs : List Graph) → x ≡ inputs_by o k w gs → gs ≡ (out-Node n).subs → o ≡ compound_at (out-Node n).op → w ≡ width outer (label_of n)
      → x ≡ inputs_of u (record { graph = s; home = Inside outer n k })
  part-own outer n k s x o w gs is are compound wide =
      is
      ∙ (ap (λ o. inputs_by o k w gs) compound
      ∙ (ap (λ w. inputs_by (compound_at (out-Node n).op) k w gs) wide ∙ (ap (λ gs. inputs_by (compound_at (out-Node n).op) k (width outer (label_of n)) gs) are ∙ part-known outer n k s)))
