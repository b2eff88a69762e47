-- What is right or wrong in a graph, from its ends and from the graphs in its nodes.
use Rattle.std.specs.List.{list_all}
use Rattle.std.proofs.lemmas.Bool.Decides.{eqb_tells}
use Rattle.std.proofs.Common.{◌≢◌, eq-eqb, ◌==◌, ◌&&◌, ◌||◌, not, Bool, [], ◌∷◌, ◌≡◌, ℕ, ◌+◌, ◌<◌, ◌≤◌, true, false, ◌++◌, List, map, take, length, get_or, slice_get, Option, Some, None, option_map, All, Contains, inl, inr, ◌⊎◌, MatchOption, refl, sym, ap, subst, ◌∙◌, arith}
use Rattle.std.proofs.lemmas.List.Elements.{All-contains, All-more, All-cons, All-append, All-map, All-weaker, Contains-get_or, Contains-append_left, Contains-append_right}
use Rattle.std.proofs.lemmas.List.{take_all}
use Rattle.std.proofs.lemmas.Option.{slice_get_within, slice_get-get_or}
use Rattle.if1_graph.specs.declared.graph.Graph.{Graph}
use Rattle.if1_graph.specs.declared.graph.Graph.TheViews.{out-Graph}
use Rattle.if1_graph.specs.declared.graph.Node.{Node, out-Node}
use Rattle.if1_graph.specs.declared.graph.Edge.{Edge}
use Rattle.if1_graph.specs.Units.{label_of, node_at, edges_into, ends}
use Rattle.if1_order.specs.Within.{IsPart, whole}
use Rattle.if1_order.specs.Within as part
use Rattle.if1_order.proofs.Members.{contains_here, contains_there, contains_cases, contains_none, contains_mapped, mapped_contains, filter_contains}
use Rattle.if1_ports.proofs.Right.{node_found, no_zero}
use Rattle.if1_typing.specs.declared.site.Content.{Content}
use Rattle.if1_typing.specs.declared.site.Content.TheVariants.{Any}
use Rattle.if1_typing.specs.declared.site.Frame.{Frame}
use Rattle.if1_typing.specs.declared.site.Site.{Site}
use Rattle.if1_typing.specs.Tables.{Table, number}
use Rattle.if1_typing.specs.Fed.{AreOrdered}
use Rattle.if1_typing.specs.Sites.{Around, around_in, frame_by, content_in, site_at}
use Rattle.if1_typing.specs.declared.node.Doing.{Doing}
use Rattle.if1_typing.specs.Ends.{IsLaid, FindsWrong, doing_of, is_wanted, is_given, is_sorted, is_typed, is_end_typed, is_right_as, is_right}
use Rattle.if1_typing.specs.Given.{LeadsUngiven}
use Rattle.if1_typing.specs.Agree.{AreAgreed, Disagrees}
use Rattle.if1_typing.specs.Inside.{itself, deeper, IsLaidInside, AreLaid, AllRight, SomeWrong, part_around, PartsRight, PartsWrong, NodeRight, NodeWrong, NodesRight, NodesWrong}

-- ---- graphs whose ports are right

pub laid_order : (gs : List Graph) → AreLaid gs → AreOrdered gs
laid_order gs laid k d h = (laid (get_or gs k d) (Contains-get_or gs k d h) (get_or gs k d) whole).order.edges

pub parts_laid : (g : Graph) → IsLaidInside g → (n : Node) → Contains (out-Graph g).nodes n → AreLaid (out-Node n).subs
parts_laid g laid n h s there p w = laid p (part.deeper n h there w)

-- a node of a list that was gone through so far
pub node_here : (ns : List Node) (g : Graph) (i : ℕ) (n : Node) → ns ≡ (out-Graph g).nodes → i < length ns → n ≡ get_or ns i n → Contains (out-Graph g).nodes n
node_here ns g i n same h is = subst (λ ns. Contains ns n) same (i, h, sym is)

module _ (t : Table) where
  -- ---- the ends of one graph

  pub node_right_as : (a : Around) (g : Graph) (n : Node) (d : Doing) → IsLaid g → Contains (out-Graph g).nodes n → d ≡ doing_of n →
      is_right_as t a g (label_of n) (Some d) ≡ is_right t a g (label_of n)
  node_right_as a g n d laid there is =
      ap (λ d. is_right_as t a g (label_of n) (Some d)) is
      ∙ sym (ap (λ m. is_right_as t a g (label_of n) (option_map doing_of m)) (node_found (out-Graph g).nodes n laid.order.rising there))

  pub boundary_right_as : (a : Around) (g : Graph) → IsLaid g → is_right_as t a g 0 None ≡ is_right t a g 0
  boundary_right_as a g laid = sym (ap (λ m. is_right_as t a g 0 (option_map doing_of m)) (no_zero (out-Graph g).nodes laid.order.labels))

  module _ (a : Around) (g : Graph) where
    abbrev Right : ℕ → Type 0
    Right l = is_right t a g l ≡ true

    all_ends : All (λ n. Right (label_of n)) (out-Graph g).nodes → Right 0 →
        All (λ (e : Edge). (e.node ≡ 0) ⊎ Contains (map label_of (out-Graph g).nodes) e.node) (out-Graph g).edges → All Right (ends g)
    all_ends nodes bound edges =
        All-cons Right 0 (map label_of (out-Graph g).nodes ++ map (λ (e : Edge). e.node) (out-Graph g).edges) bound
        (All-append Right (map label_of (out-Graph g).nodes) (map (λ (e : Edge). e.node) (out-Graph g).edges)
        (All-map Right label_of (out-Graph g).nodes nodes)
        (All-map Right (λ (e : Edge). e.node) (out-Graph g).edges
        (All-weaker (λ (e : Edge). (e.node ≡ 0) ⊎ Contains (map label_of (out-Graph g).nodes) e.node) (λ e. Right e.node) (λ e h. at e h) (out-Graph g).edges edges)))
      where
        at : (e : Edge) → (e.node ≡ 0) ⊎ Contains (map label_of (out-Graph g).nodes) e.node → Right e.node
        at e (inl z) = subst Right (sym z) bound
        at e (inr there) =
            let n = contains_mapped label_of (out-Graph g).nodes e.node there in
            subst Right n.2 (All-contains (λ n. Right (label_of n)) (out-Graph g).nodes n.0 nodes n.1)

    pub right_more : (ns : List Node) (i : ℕ) (n : Node) → ns ≡ (out-Graph g).nodes → i < length ns → n ≡ get_or ns i n →
        All (λ n. Right (label_of n)) (take i (out-Graph g).nodes) → Right (label_of n) → All (λ n. Right (label_of n)) (take (i + 1) (out-Graph g).nodes)
    right_more ns i n same h is first right =
        subst (λ ns. All (λ n. Right (label_of n)) (take i ns) → All (λ n. Right (label_of n)) (take (i + 1) ns)) same
        (λ first. All-more (λ n. Right (label_of n)) ns i n h first (subst (λ n. Right (label_of n)) is right)) first

    pub wrong_label : (l : ℕ) → Contains (map label_of (out-Graph g).nodes) l → is_right t a g l ≡ false → FindsWrong t a g (Some l)
    wrong_label l there wrong = (
      contains_there 0 (map label_of (out-Graph g).nodes ++ map (λ (e : Edge). e.node) (out-Graph g).edges) l
          (Contains-append_left (map label_of (out-Graph g).nodes) (map (λ (e : Edge). e.node) (out-Graph g).edges) l there),
      inl wrong,
    )

    pub wrong_boundary : is_right t a g 0 ≡ false → FindsWrong t a g (Some 0)
    wrong_boundary wrong = (contains_here 0 (map label_of (out-Graph g).nodes ++ map (λ (e : Edge). e.node) (out-Graph g).edges), inl wrong)

    pub wrong_edge : (l : ℕ) → Disagrees t (out-Graph g).edges l → FindsWrong t a g (Some l)
    wrong_edge l d = (
      contains_there 0 (map label_of (out-Graph g).nodes ++ map (λ (e : Edge). e.node) (out-Graph g).edges) l
          (Contains-append_right (map label_of (out-Graph g).nodes) (map (λ (e : Edge). e.node) (out-Graph g).edges) l
          (subst (λ l. Contains (map (λ (e : Edge). e.node) (out-Graph g).edges) l) d.leads (mapped_contains (λ (e : Edge). e.node) (out-Graph g).edges d.one d.leaves.there))),
      inr d,
    )

    all_but : (p : Edge → Bool) (es : List Edge) (e : Edge) → Contains es e → p e ≡ false → list_all p es ≡ false
    all_but p [] e h off = absurd (contains_none e h)
    all_but p (f ∷ es) e h off =
        elim (contains_cases f es e h) [
          | inl same ↦ ap (λ b. b && list_all p es) (ap p same ∙ off)
          | inr there ↦ ap (λ b. p f && b) (all_but p es e there off) ∙ and_false (p f)
        ]
      where
        and_false : (b : Bool) → (b && false) ≡ false
        and_false true = refl
        and_false false = refl

    -- an edge that its source does not give
    pub wrong_source : (l : ℕ) → LeadsUngiven t g l → FindsWrong t a g (Some l)
    wrong_source l u = (
      contains_there 0 (map label_of (out-Graph g).nodes ++ map (λ (e : Edge). e.node) (out-Graph g).edges) l
          (Contains-append_right (map label_of (out-Graph g).nodes) (map (λ (e : Edge). e.node) (out-Graph g).edges) l
          (subst (λ l. Contains (map (λ (e : Edge). e.node) (out-Graph g).edges) l) u.leads (mapped_contains (λ (e : Edge). e.node) (out-Graph g).edges u.edge u.there))),
      inl (subst (λ l. is_right t a g l ≡ false) u.leads wrong),
    )
      where
        e : Edge
        e = u.edge

        d : Option Doing
        d = option_map doing_of (node_at (out-Graph g).nodes u.edge.node)

        into : List Edge
        into = edges_into g u.edge.node

        untyped : is_typed t a g (option_map doing_of (node_at (out-Graph g).nodes u.edge.node)) (edges_into g u.edge.node) u.edge ≡ false
        untyped =
            ap (λ b. b || is_sorted t a g d into e (number t e.ty)) u.ungiven.no_name
            ∙ ap (λ from. not (number t e.ty == 0) && (is_wanted t a.site a.parts d into e.port (number t e.ty) && is_given t a g from (number t e.ty))) u.ungiven.from
            ∙ ap (λ b. not (number t e.ty == 0) && (is_wanted t a.site a.parts d into e.port (number t e.ty) && b)) u.ungiven.ungiven
            ∙ ap (λ b. not (number t e.ty == 0) && b) (and_no (is_wanted t a.site a.parts d into e.port (number t e.ty)))
            ∙ and_no (not (number t e.ty == 0))
          where
            and_no : (b : Bool) → (b && false) ≡ false
            and_no true = refl
            and_no false = refl

        wrong : is_right t a g u.edge.node ≡ false
        wrong =
            ap (λ b. is_end_typed t a.site d && b)
            (all_but (is_typed t a g d into) into e (filter_contains (λ (f : Edge). f.node == e.node) (out-Graph g).edges e u.there (eq-eqb e.node e.node refl)) untyped)
            ∙ no_end (is_end_typed t a.site d)
          where
            no_end : (b : Bool) → (b && false) ≡ false
            no_end true = refl
            no_end false = refl

    pub wrong_either : (l m : ℕ) → Disagrees t (out-Graph g).edges l → (m ≢ l → LeadsUngiven t g m) → FindsWrong t a g (Some m)
    wrong_either l m d u = elim (eqb_tells m l) [
      | inl same ↦ subst (λ n. FindsWrong t a g (Some n)) (sym same.1) (wrong_edge l d)
      | inr other ↦ wrong_source m (u other.1)
    ]

    pub none_wrong : IsLaid g → All (λ n. Right (label_of n)) (out-Graph g).nodes → Right 0 → AreAgreed t (out-Graph g).edges → FindsWrong t a g None
    none_wrong laid nodes bound agreed = (all_ends nodes bound laid.leads, agreed)

  -- ---- one graph

  pub right_graph : (a : Around) (g : Graph) → FindsWrong t a g None → NodesRight t g (out-Graph g).nodes → AllRight t a g
  right_graph a g none nodes d h itself = none
  right_graph a g none nodes d h (deeper {s = s} n k there e i) = All-contains (NodeRight t g) (out-Graph g).nodes n nodes there k s e d h i

  pub wrong_here : (a : Around) (g : Graph) (l : ℕ) → FindsWrong t a g (Some l) → SomeWrong t a g ((out-Graph g).number, l)
  wrong_here a g l h = (a, g, itself, refl, h.0, h.1)

  pub wrong_inside : (a : Around) (g : Graph) (at : ℕ × ℕ) → NodesWrong t g (out-Graph g).nodes at → SomeWrong t a g at
  wrong_inside a g at (n, there, (k, s, e, (d, h, i, number, end, wrong))) = (d, h, deeper n k there e i, number, end, wrong)

  -- ---- graphs one after another

  module _ (f : Option Frame) (cs : List Content) (es : List Edge) (gs : List Graph) where
    -- the first of the graphs are right
    abbrev pub FirstRight : ℕ → Type 0
    FirstRight n = (k : ℕ) (s : Graph) → k < n → slice_get gs k ≡ Some s → AllRight t (part_around f cs es gs k) s

    one_more : (n : ℕ) (s : Graph) → n < length gs → s ≡ get_or gs n s → FirstRight n → AllRight t (part_around f cs es gs n) s → FirstRight (n + 1)
    one_more n s h is first right k r low e =
        elim (split k n (omega (arith, low))) [
          | inl l ↦ first k r l e
          | inr z ↦
              let found : slice_get gs k ≡ Some s = ap (slice_get gs) z ∙ slice_get-get_or gs n s h ∙ ap Some (sym is) in
              let same : s ≡ r = cc in
              subst (λ r. AllRight t (part_around f cs es gs k) r) same (subst (λ k. AllRight t (part_around f cs es gs k) s) (sym z) right)
        ]
      where
        split : (a b : ℕ) → a ≤ b → (a < b) ⊎ (a ≡ b)
        split a b h = grind arith

    pub all_of : (n : ℕ) → length gs ≤ n → FirstRight n → PartsRight t f cs es gs
    all_of n h first k s e = first k s (omega (arith, slice_get_within gs k s e)) e

    pub right_part : (n : ℕ) (s : Graph) (site : Site) → n < length gs → s ≡ get_or gs n s → site ≡ site_at f (get_or cs n Any) n → FirstRight n →
        AllRight t (record { site = site; inputs = es; parts = gs }) s → FirstRight (n + 1)
    right_part n s site h is e first right =
        one_more n s h is first (subst (λ site. AllRight t (record { site = site; inputs = es; parts = gs }) s) e right)

    pub wrong_part : (k : ℕ) (s : Graph) (site : Site) (at : ℕ × ℕ) → k < length gs → s ≡ get_or gs k s → site ≡ site_at f (get_or cs k Any) k →
        SomeWrong t (record { site = site; inputs = es; parts = gs }) s at → PartsWrong t f cs es gs at
    wrong_part k s site at h is e wrong =
        (k, s, slice_get-get_or gs k s h ∙ ap Some (sym is), subst (λ site. SomeWrong t (record { site = site; inputs = es; parts = gs }) s at) e wrong)

  -- ---- the nodes of a graph

  module _ (g : Graph) (n : Node) (f : Option Frame) (cs vs : List Content) (es : List Edge) (gs : List Graph) (list : List ℕ)
      (graphs : gs ≡ (out-Node n).subs) (inputs : es ≡ edges_into g (label_of n)) (frame : f ≡ frame_by t es n) (arms : list ≡ (out-Node n).assoc) (same : cs ≡ vs)
      (contents : (k : ℕ) → k < length gs → get_or vs k Any ≡ content_in t f list k) where
    around_same : (k : ℕ) → k < length gs → part_around f cs es gs k ≡ around_in t g n k
    around_same k h =
        ap (λ gs. part_around f cs es gs k) graphs
        ∙ ap (λ c. record { site = site_at f c k; inputs = es; parts = (out-Node n).subs })
        (ap (λ cs. get_or cs k Any) same ∙ contents k h ∙ ap (λ list. content_in t f list k) arms)
        ∙ ap (λ f. record { site = site_at f (content_in t f (out-Node n).assoc k) k; inputs = es; parts = (out-Node n).subs })
        (frame ∙ ap (λ es. frame_by t es n) inputs)
        ∙ ap (λ es. record { site = (around_in t g n k).site; inputs = es; parts = (out-Node n).subs }) inputs

    in_graphs : (k : ℕ) (s : Graph) → slice_get (out-Node n).subs k ≡ Some s → slice_get gs k ≡ Some s
    in_graphs k s at = ap (λ gs. slice_get gs k) graphs ∙ at

    in_node : (k : ℕ) (s : Graph) → slice_get gs k ≡ Some s → slice_get (out-Node n).subs k ≡ Some s
    in_node k s at = sym (ap (λ gs. slice_get gs k) graphs) ∙ at

    pub found_in_node : (r : Option (ℕ × ℕ)) → MatchOption r (PartsRight t f cs es gs) (PartsWrong t f cs es gs) → MatchOption r (NodeRight t g n) (NodeWrong t g n)
    found_in_node None right = λ k s at.
        let there = in_graphs k s at in subst (λ a. AllRight t a s) (around_same k (slice_get_within gs k s there)) (right k s there)
    found_in_node (Some at) (k, s, there, wrong) = (k, s, in_node k s there, subst (λ a. SomeWrong t a s at) (around_same k (slice_get_within gs k s there)) wrong)

  pub nodes_more : (g : Graph) (ns : List Node) (i : ℕ) (n : Node) → ns ≡ (out-Graph g).nodes → i < length ns → n ≡ get_or ns i n →
      NodesRight t g (take i (out-Graph g).nodes) → NodeRight t g n → NodesRight t g (take (i + 1) (out-Graph g).nodes)
  nodes_more g ns i n same h is first right =
      subst (λ ns. NodesRight t g (take i ns) → NodesRight t g (take (i + 1) ns)) same
      (λ first. All-more (NodeRight t g) ns i n h first (subst (NodeRight t g) is right)) first

  pub nodes_all : (g : Graph) (ns : List Node) (i : ℕ) → ns ≡ (out-Graph g).nodes → length ns ≤ i → NodesRight t g (take i (out-Graph g).nodes) →
      NodesRight t g (out-Graph g).nodes
  nodes_all g ns i same h first =
      subst (NodesRight t g) (take_all i (out-Graph g).nodes (subst (λ ns. length ns ≤ i) same h)) first
