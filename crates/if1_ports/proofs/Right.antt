-- The tests of a graph's nodes and boundary together.
use Rattle.std.proofs.Common.{◌≡◌, ◌≢◌, ℕ, zero, suc, ◌<◌, ◌≤◌, Bool, true, false, cond, ◌&&◌, ◌==◌, List, [], ◌∷◌, ◌++◌, map, length, slice_index, get_or, All, Contains, Option, Some, None, MatchOption, option_map, ◌⊎◌, inl, inr, refl, sym, ap, subst, ◌∙◌, arith, eq-eqb, ne_eqb}
use Rattle.std.specs.List.Sorted.{IsStrictlyIncreasing}
use Rattle.std.proofs.lemmas.List.Elements.{All-cons, All-append, All-map, All-head, All-tail, All-contains, All-weaker, Contains-append_left, Contains-append_right}
use Rattle.if1_graph.specs.declared.graph.Graph.{Graph}
use Rattle.if1_graph.specs.declared.graph.Graph.TheViews.{out-Graph}
use Rattle.if1_graph.specs.declared.graph.Node.{Node}
use Rattle.if1_graph.specs.declared.graph.Edge.{Edge}
use Rattle.if1_graph.specs.Units.{label_of, node_at, ends, edges_into}
use Rattle.if1_order.proofs.Members.{contains_here, contains_there, contains_cases, contains_none, contains_mapped, mapped_contains}
use Rattle.if1_ports.specs.declared.around.Bounds.{Bounds}
use Rattle.if1_ports.specs.declared.ends.Outs.{Outs}
use Rattle.if1_ports.specs.Fed.{Types, Callees, fed_by}
use Rattle.if1_ports.specs.Simple.{exactly}
use Rattle.if1_ports.specs.Ends.{leaving, fed_at, outputs_in, count_at, all_come, outs_in, is_node_filled, is_end_filled, is_right, IsInOrder, AreOuts, FindsWrong}
use Rattle.if1_ports.proofs.Tables.{above, rising_rest}

-- ---- nodes by label

lower : (n : Node) (ns : List Node) (m : Node) → IsStrictlyIncreasing (map label_of (n ∷ ns)) → Contains ns m → label_of n < label_of m
lower n ns m up h =
    let c = mapped_contains label_of ns m h in
    omega (arith, above (label_of n) (map label_of ns) c.0 up c.1, at_zero (map label_of ns) c.0 (label_of m) c.1 c.2)
  where
    at_zero : (xs : List ℕ) (k x : ℕ) → k < length xs → get_or xs k x ≡ x → slice_index xs k ≡ x
    at_zero [] k x h e = absurd (omega (arith, h))
    at_zero (y ∷ ys) zero x h e = e
    at_zero (y ∷ ys) (suc k) x h e = at_zero ys k x (omega (arith, h)) e

pub node_found : (ns : List Node) (n : Node) → IsStrictlyIncreasing (map label_of ns) → Contains ns n → node_at ns (label_of n) ≡ Some n
node_found [] n up h = contains_none n h
node_found (m ∷ ns) n up h =
    elim (contains_cases m ns n h) [
      | inl same ↦
          subst (λ n. cond (label_of m == label_of n) (Some m) (node_at ns (label_of n)) ≡ Some n) same
          (ap (λ b. cond b (Some m) (node_at ns (label_of m))) (eq-eqb (label_of m) (label_of m) refl))
      | inr there ↦
          ap (λ b. cond b (Some m) (node_at ns (label_of n))) (ne_eqb (label_of m) (label_of n) (λ e. omega (arith, e, lower m ns n up there)))
          ∙ node_found ns n (rising_rest (label_of m) (map label_of ns) up) there
    ]

pub no_node : (ns : List Node) (l : ℕ) → (¬ Contains (map label_of ns) l) → node_at ns l ≡ None
no_node [] l h = refl
no_node (n ∷ ns) l h =
    ap (λ b. cond b (Some n) (node_at ns l))
    (ne_eqb (label_of n) l (λ e. h (subst (λ x. Contains (label_of n ∷ map label_of ns) x) e (contains_here (label_of n) (map label_of ns)))))
    ∙ no_node ns l (λ c. h (contains_there (label_of n) (map label_of ns) l c))

pub no_zero : (ns : List Node) → All (λ n. 1 ≤ label_of n) ns → node_at ns 0 ≡ None
no_zero [] h = refl
no_zero (n ∷ ns) h =
    ap (λ b. cond b (Some n) (node_at ns 0)) (ne_eqb (label_of n) 0 (λ e. omega (arith, e, All-head (λ n. 1 ≤ label_of n) n ns h)))
    ∙ no_zero ns (All-tail (λ n. 1 ≤ label_of n) n ns h)

count_nodes : (f : Node → Option ℕ) (ns : List Node) (l : ℕ) → count_at (map label_of ns) (map f ns) l ≡ option_map f (node_at ns l)
count_nodes f [] l = refl
count_nodes f (n ∷ ns) l = step (label_of n == l) (count_nodes f ns l)
  where
    step : (b : Bool) → count_at (map label_of ns) (map f ns) l ≡ option_map f (node_at ns l) →
        cond b (Some (f n)) (count_at (map label_of ns) (map f ns) l) ≡ option_map f (cond b (Some n) (node_at ns l))
    step true h = refl
    step false h = h

pub leaving_nodes : (es : List Edge) (ns : List Node) → map (leaving es) (map label_of ns) ≡ map (λ n. leaving es (label_of n)) ns
leaving_nodes es [] = refl
leaving_nodes es (n ∷ ns) = ap (λ ts. leaving es (label_of n) ∷ ts) (leaving_nodes es ns)

module _ (o : Types) (c : Callees) (b : Bounds) (g : Graph) where
  outs_same : (outs : Outs) → AreOuts o c g outs → count_at outs.labels outs.counts ≡ outs_in o c g
  outs_same outs is =
      ap (λ ls. count_at ls outs.counts) is.labels ∙ ap (count_at (map label_of (out-Graph g).nodes)) is.counts
      ∙ (λ j l. count_nodes (outputs_in o c g) (out-Graph g).nodes l j)

  pub node_right : (outs : Outs) (n : Node) (types : List ℕ) (es : List Edge) → IsInOrder g → AreOuts o c g outs → Contains (out-Graph g).nodes n →
      types ≡ leaving (out-Graph g).edges (label_of n) → es ≡ edges_into g (label_of n) →
      (is_node_filled o (fed_by o c es) types n && all_come (count_at outs.labels outs.counts) b.inputs es) ≡ is_right o c b g (label_of n)
  node_right outs n types es order is there t e =
      let l = label_of n in
      ap (λ es. is_node_filled o (fed_by o c es) types n && all_come (count_at outs.labels outs.counts) b.inputs es) e
      ∙ ap (λ ts. is_node_filled o (fed_at o c g l) ts n && all_come (count_at outs.labels outs.counts) b.inputs (edges_into g l)) t
      ∙ ap (λ f. is_node_filled o (fed_at o c g l) (leaving (out-Graph g).edges l) n && all_come f b.inputs (edges_into g l)) (outs_same outs is)
      ∙ ap (λ m. is_end_filled o c b g l m && all_come (outs_in o c g) b.inputs (edges_into g l)) (sym (node_found (out-Graph g).nodes n order.rising there))

  pub boundary_right : (outs : Outs) (es : List Edge) → IsInOrder g → AreOuts o c g outs → es ≡ edges_into g 0 →
      (exactly (fed_by o c es) b.results && all_come (count_at outs.labels outs.counts) b.inputs es) ≡ is_right o c b g 0
  boundary_right outs es order is e =
      ap (λ es. exactly (fed_by o c es) b.results && all_come (count_at outs.labels outs.counts) b.inputs es) e
      ∙ ap (λ f. exactly (fed_at o c g 0) b.results && all_come f b.inputs (edges_into g 0)) (outs_same outs is)
      ∙ ap (λ m. is_end_filled o c b g 0 m && all_come (outs_in o c g) b.inputs (edges_into g 0)) (sym (no_zero (out-Graph g).nodes order.labels))

  abbrev Right : ℕ → Type 0
  Right l = is_right o c b g l ≡ true

  pub wrong_label : (l : ℕ) → Contains (map label_of (out-Graph g).nodes) l → is_right o c b g l ≡ false → FindsWrong o c b g (Some l)
  wrong_label l there wrong = (
    contains_there 0 (map label_of (out-Graph g).nodes ++ map (λ (e : Edge). e.node) (out-Graph g).edges) l
        (Contains-append_left (map label_of (out-Graph g).nodes) (map (λ (e : Edge). e.node) (out-Graph g).edges) l there),
    wrong,
  )

  pub wrong_boundary : is_right o c b g 0 ≡ false → FindsWrong o c b g (Some 0)
  wrong_boundary wrong = (contains_here 0 (map label_of (out-Graph g).nodes ++ map (λ (e : Edge). e.node) (out-Graph g).edges), wrong)

  all_ends : All (λ n. Right (label_of n)) (out-Graph g).nodes → Right 0 → All (λ (e : Edge). (e.node ≡ 0) ⊎ Contains (map label_of (out-Graph g).nodes) e.node) (out-Graph g).edges →
      All Right (ends g)
  all_ends nodes bound edges =
      All-cons Right 0 (map label_of (out-Graph g).nodes ++ map (λ (e : Edge). e.node) (out-Graph g).edges) bound
      (All-append Right (map label_of (out-Graph g).nodes) (map (λ (e : Edge). e.node) (out-Graph g).edges)
      (All-map Right label_of (out-Graph g).nodes nodes)
      (All-map Right (λ (e : Edge). e.node) (out-Graph g).edges
      (All-weaker (λ (e : Edge). (e.node ≡ 0) ⊎ Contains (map label_of (out-Graph g).nodes) e.node) (λ e. Right e.node) (λ e h. at e h) (out-Graph g).edges edges)))
    where
      at : (e : Edge) → (e.node ≡ 0) ⊎ Contains (map label_of (out-Graph g).nodes) e.node → Right e.node
      at e (inl z) = subst Right (sym z) bound
      at e (inr there) =
          let n = contains_mapped label_of (out-Graph g).nodes e.node there in
          subst Right n.2 (All-contains (λ n. Right (label_of n)) (out-Graph g).nodes n.0 nodes n.1)

  missing : (l : ℕ) → l ≢ 0 → (¬ Contains (map label_of (out-Graph g).nodes) l) → is_right o c b g l ≡ false
  missing zero some none = absurd (some refl)
  missing (suc l) some none =
      ap (λ m. is_end_filled o c b g (suc l) m && all_come (outs_in o c g) b.inputs (edges_into g (suc l))) (no_node (out-Graph g).nodes (suc l) none)

  pub found_missing : (r : Option ℕ) → All (λ n. Right (label_of n)) (out-Graph g).nodes → Right 0 →
      MatchOption r (All (λ (e : Edge). (e.node ≡ 0) ⊎ Contains (map label_of (out-Graph g).nodes) e.node) (out-Graph g).edges)
      (λ l. Contains (map (λ (e : Edge). e.node) (out-Graph g).edges) l × (l ≢ 0) × (¬ Contains (map label_of (out-Graph g).nodes) l)) →
      FindsWrong o c b g r
  found_missing None nodes bound edges = all_ends nodes bound edges
  found_missing (Some l) nodes bound (there, some, none) = (
    contains_there 0 (map label_of (out-Graph g).nodes ++ map (λ (e : Edge). e.node) (out-Graph g).edges) l
        (Contains-append_right (map label_of (out-Graph g).nodes) (map (λ (e : Edge). e.node) (out-Graph g).edges) l there),
    missing l some none,
  )
