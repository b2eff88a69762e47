-- What the parts of each node own, by the marks of a unit.
use Rattle.std.proofs.Common.{◌≡◌, ℕ, zero, suc, ◌+◌, ◌<◌, Bool, true, false, List, [], ◌∷◌, map, find, drop, length, Option, Some, None, Contains, refl, sym, ap, ◌∙◌, subst, arith, ◌==◌}
use Rattle.std.specs.Prelude.{slice_get, nat_lt, option_map, unwrap_or}
use Rattle.std.proofs.lemmas.List.Elements.{All-contains}
use Rattle.if1_graph.specs.declared.graph.Graph.{Graph}
use Rattle.if1_graph.specs.declared.graph.Graph.TheViews.{out-Graph}
use Rattle.if1_graph.specs.declared.graph.Node.{Node, out-Node}
use Rattle.if1_graph.specs.declared.graph.Unit1.{Unit1}
use Rattle.if1_graph.specs.declared.op.Compound.{Compound}
use Rattle.if1_graph.specs.declared.op.Compound.TheVariants as compound
use Rattle.if1_graph.specs.declared.op.Part.{Part}
use Rattle.if1_graph.specs.declared.op.Part.TheVariants as part
use Rattle.if1_graph.specs.declared.op.Simple.{Simple}
use Rattle.if1_graph.specs.declared.op.Simple.TheVariants as simple
use Rattle.if1_graph.specs.Ops.{compound_at, simple_at}
use Rattle.if1_graph.specs.Parts.{part_at}
use Rattle.if1_graph.specs.Ports.{count_from, part_of, results_at}
use Rattle.if1_graph.specs.Ready.{IsReady}
use Rattle.if1_graph.specs.Units.{Place, label_of, number_of, places, results, width}
use Rattle.if1_marks.proofs.Consumed.{consumed-where-given}
use Rattle.if1_marks.proofs.Lists.{found-in, here, there}
use Rattle.if1_marks.proofs.Tests.{both-left, no-both, same-number}
use Rattle.if1_marks.specs.Given.{is_consumed_by, is_used_inside}
use Rattle.if1_marks.specs.Laws.{IsGivenAtFirst, IsGivenTo}
use Rattle.if1_marks.specs.Owned.{has_one_edge, is_owned_as}
use Rattle.if1_marks.specs.Sound.{IsSound}
use Rattle.graph_meaning.specs.Demand.{EachNode, Vertex, Whole}
use Rattle.graph_meaning.specs.Networks.{form_of, ins_of, kind_as, net_at, net_of, network, number_or_zero, part as part_number, simple_kind, source_at, sources, vertex_of}
use Rattle.run_made.specs.Plans.{All}
use Rattle.made_store.specs.Marks.{owned_inputs}
use Rattle.unit_laws.proofs.TypeLists.{some-same}
use Rattle.unit_laws.proofs.TypedParts.{part-is, part-net}
use Rattle.plan_shares.proofs.Calls.{call-owned}
use Rattle.plan_shares.proofs.Handed.{graph-owns, handed-consumed, hands-on, none-zero, part-owns, part-reads}
use Rattle.plan_shares.proofs.Inputs.{IsPassedOn}
use Rattle.plan_shares.specs.Parts.{ArePartsOwned, IsKindOwned, IsLoopOwned, OwnsBehind, OwnsHanded, OwnsHandedOn, OwnsNothing, ReadsLent, is_handed}

pub false-or : (b : Bool) → (b ≡ true → ⊥) → b ≡ false
false-or true h = absurd (h refl)
false-or false h = refl

pub below : (k port : ℕ) → nat_lt k port ≡ true → k < port
below k port h = grind (arith, h)

pub all-graphs : (Q : ℕ → Type 0) (gs : List Graph) → ((k : ℕ) (s : Graph) → slice_get gs k ≡ Some s → Q (out-Graph s).number) → All Q (map (λ g. (out-Graph g).number) gs)
all-graphs Q [] h = tt
all-graphs Q (g ∷ gs) h = (h 0 g refl, all-graphs Q gs (λ k s e. h (suc k) s e))

pub all-parts : (Q : ℕ → Type 0) (gs : List Graph) (ks : List ℕ) → ((k : ℕ) → Q (part_number gs k)) → All Q (map (part_number gs) ks)
all-parts Q gs [] h = tt
all-parts Q gs (k ∷ ks) h = (h k, all-parts Q gs ks h)

pub slice-there : {A : Type 0} (xs : List A) (k : ℕ) (x : A) → slice_get xs k ≡ Some x → Contains xs x
slice-there [] k x e = absurd cc
slice-there (y ∷ xs) zero x e = subst (Contains (y ∷ xs)) (some-same y x e) (here y xs)
slice-there (y ∷ xs) (suc k) x e = there y xs x (slice-there xs k x e)

pub slice-later : {A : Type 0} (xs : List A) (k : ℕ) (x : A) → slice_get (drop 1 xs) k ≡ Some x → slice_get xs (suc k) ≡ Some x
slice-later [] k x e = absurd cc
slice-later (y ∷ xs) k x e = e

-- ---- how many inputs

count-long : (first n : ℕ) → length (count_from first n) ≡ n
count-long first zero = refl
count-long first (suc n) = ap suc (count-long (suc first) n)

map-long : {A B : Type 0} (f : A → B) (xs : List A) → length (map f xs) ≡ length xs
map-long f [] = refl
map-long f (x ∷ xs) = ap suc (map-long f xs)

pub sources-long : (u : Unit1) (g : Graph) (l first count : ℕ) → length (sources u g l first count) ≡ count
sources-long u g l first count = map-long (source_at u g l) (count_from first count) ∙ count-long first count

module _ (u : Unit1) (ready : IsReady u) (sound : IsSound u) (p : Place) (place : Contains (places u) p) (n : Node) (inside : Contains (out-Graph p.graph).nodes n) where
  abbrev subs : List Graph
  subs = (out-Node n).subs

  abbrev v : Vertex
  v = vertex_of u p.graph n

  abbrev wide : ℕ
  wide = width p.graph (label_of n)

  module _ (c : Compound) (is : compound_at (out-Node n).op ≡ Some c) where
    as-part : (k port : ℕ) (x : Part) (s : Graph) → part_at c k ≡ Some x → is_owned_as u p.graph n s (part_of n k) port ≡ is_owned_as u p.graph n s (Some (c, x)) port
    as-part k port x s at = ap (λ o. is_owned_as u p.graph n s o port) (part-is u ready p place n inside c is k x at)

    -- a part that owns nothing
    owns-nothing : (k : ℕ) (x : Part) → part_at c k ≡ Some x → ((s : Graph) (port : ℕ) → is_owned_as u p.graph n s (Some (c, x)) port ≡ false) → OwnsNothing u (part_number subs k)
    owns-nothing k x at none port =
        false-or (owned_inputs u (part_number subs k) port)
        (λ e. let r = part-owns u ready p place n inside k port e in no-both (is_owned_as u p.graph n r.0 (part_of n k) port) r.2 (as-part k port x r.0 at ∙ none r.0 port))

    -- a part that owns what the node consumes
    consumed-handed : (port : ℕ) → IsPassedOn c port → is_consumed_by u n port ≡ true → is_handed u (number_of p) (label_of n) port ≡ true
    consumed-handed port h e = hands-on u ready p place n inside c is port h e

    -- a part that owns inputs of its own alone
    owns-behind : (many k : ℕ) (x : Part) → part_at c k ≡ Some x → ((s : Graph) (port : ℕ) → is_owned_as u p.graph n s (Some (c, x)) port ≡ true → many < port) → OwnsBehind u many (part_number subs k)
    owns-behind many k x at more port e =
        let r = part-owns u ready p place n inside k port e in
        more r.0 port (sym (as-part k port x r.0 at) ∙ r.2)

    -- what is consumed is left by no edge in later parts
    reads-lent : (k : ℕ) → ((port : ℕ) (s : Graph) → slice_get subs k ≡ Some s → IsGivenTo u c subs port → is_used_inside s port ≡ false) → ReadsLent u (number_of p) v (part_number subs k)
    reads-lent k none port e =
        let r = part-reads u ready p place n inside k port e in
        false-or (is_handed u (number_of p) (label_of n) port)
        (λ h. no-both (is_used_inside r.0 port) r.2
        (none port r.0 r.1 ((consumed-where-given u n c port is).0 (handed-consumed u ready sound p place n inside c is port h))))

    ins-wide : (c : Compound) → length (ins_of u p.graph (label_of n) (Whole (form_of c subs (out-Node n).assoc))) ≡ wide
    ins-wide compound.Select = sources-long u p.graph (label_of n) 1 wide
    ins-wide compound.TagCase = sources-long u p.graph (label_of n) 1 wide
    ins-wide compound.LoopA = sources-long u p.graph (label_of n) 1 wide
    ins-wide compound.LoopB = sources-long u p.graph (label_of n) 1 wide
    ins-wide compound.ForAll = sources-long u p.graph (label_of n) 1 wide

    pub ins-are : length v.ins ≡ wide
    ins-are = ap (λ o. length (ins_of u p.graph (label_of n) (kind_as u p.graph n o (simple_at (out-Node n).op)))) is ∙ ins-wide c

    -- ---- loops

    module _ (init : part_at c 0 ≡ Some part.Initialization) (test : part_at c 1 ≡ Some part.Test) (body : part_at c 2 ≡ Some part.Body) (returns : part_at c 3 ≡ Some part.Returns)
        (passed : (port : ℕ) → IsPassedOn c port) (first : (port : ℕ) → IsGivenTo u c subs port → IsGivenAtFirst u subs port)
        (in_body : (s : Graph) (port : ℕ) → is_owned_as u p.graph n s (Some (c, part.Body)) port ≡ true → nat_lt wide port ≡ true)
        (in_returns : (s : Graph) (port : ℕ) → is_owned_as u p.graph n s (Some (c, part.Returns)) port ≡ true → nat_lt wide port ≡ true) where
      later-unused : (k port : ℕ) (s : Graph) → slice_get subs (suc k) ≡ Some s → IsGivenTo u c subs port → is_used_inside s port ≡ false
      later-unused k port s at given =
          let w = first port given in
          All-contains (λ g. is_used_inside g port ≡ false) w.others s w.unused (slice-there w.others k s (sym (ap (λ gs. slice_get gs (suc k)) w.are) ∙ at))

      pub loop-owned : IsLoopOwned u (number_of p) v (part_number subs 0) (part_number subs 1) (part_number subs 2) (part_number subs 3)
      loop-owned = (
        (λ port e. let r = part-owns u ready p place n inside 0 port e in consumed-handed port (passed port) (sym (as-part 0 port part.Initialization r.0 init) ∙ r.2)),
        owns-nothing 1 part.Test test (λ s port. refl),
        owns-behind (length v.ins) 2 part.Body body (λ s port e. let lt = below wide port (in_body s port e) in let same = ins-are in omega (arith, lt, same)),
        reads-lent 1 (later-unused 0),
        reads-lent 2 (later-unused 1),
        reads-lent 3 (later-unused 2),
        owns-behind (length v.ins) 3 part.Returns returns (λ s port e. let lt = below wide port (in_returns s port e) in let same = ins-are in omega (arith, lt, same)),
      )

  -- ---- each kind

  pub alternative-hands : compound_at (out-Node n).op ≡ Some compound.Select → (k : ℕ) (s : Graph) → slice_get subs (suc k) ≡ Some s → OwnsHanded u (number_of p) v (out-Graph s).number
  alternative-hands is k s at port e =
      consumed-handed compound.Select is port tt (sym (graph-owns u ready p place n inside (suc k) s at port ∙ as-part compound.Select is (suc k) port part.Alternative s refl) ∙ e)

  pub select-owned : compound_at (out-Node n).op ≡ Some compound.Select → IsKindOwned u (number_of p) v (Whole (form_of compound.Select subs (out-Node n).assoc))
  select-owned is = (
    owns-nothing compound.Select is 0 part.Selector refl (λ s port. refl),
    all-graphs (OwnsHanded u (number_of p) v) (drop 1 subs) (λ k s at. alternative-hands is k s (slice-later subs k s at)),
  )

  pub arm-hands : compound_at (out-Node n).op ≡ Some compound.TagCase → (k : ℕ) → OwnsHandedOn u (number_of p) v (part_number subs k)
  arm-hands is k port e =
      let r = part-owns u ready p place n inside k (suc (suc port)) e in
      consumed-handed compound.TagCase is (suc (suc port)) tt (sym (as-part compound.TagCase is k (suc (suc port)) part.Arm r.0 refl) ∙ r.2)

  tag-owned : compound_at (out-Node n).op ≡ Some compound.TagCase → IsKindOwned u (number_of p) v (Whole (form_of compound.TagCase subs (out-Node n).assoc))
  tag-owned is = all-parts (OwnsHandedOn u (number_of p) v) subs (out-Node n).assoc (arm-hands is)

  pub generated-long : length (network u (part_number subs 0)).results ≡ results_at subs 0
  generated-long = go (slice_get subs 0) refl
    where
      go : (o : Option Graph) → slice_get subs 0 ≡ o → length (network u (number_or_zero o)).results ≡ unwrap_or (option_map results o) 0
      go None at = ap (λ o. length (net_at u o).results) (none-zero u ready)
      go (Some s) at =
          ap (λ o. length (network u (number_or_zero o)).results) (sym at)
          ∙ (ap (λ z. length z.results) (part-net u ready p place n inside 0 s at) ∙ sources-long u s 0 1 (results s))

  pub for-all-owned : compound_at (out-Node n).op ≡ Some compound.ForAll → IsKindOwned u (number_of p) v (Whole (form_of compound.ForAll subs (out-Node n).assoc))
  for-all-owned is = (
    owns-nothing compound.ForAll is 0 part.Generator refl (λ s port. refl),
    owns-nothing compound.ForAll is 1 part.Body refl (λ s port. refl),
    reads-lent compound.ForAll is 1 (λ port s at given. absurd given),
    reads-lent compound.ForAll is 2 (λ port s at given. absurd given),
    owns-behind compound.ForAll is (length v.ins + length (network u (part_number subs 0)).results) 2 part.Returns refl
        (λ s port e.
        let lt = below (wide + results_at subs 0) port (both-left _ (has_one_edge s port) e) in
        let same = ins-are compound.ForAll is in
        let long = generated-long in
        omega (arith, lt, same, long)),
  )

  pub loop-a-owned : compound_at (out-Node n).op ≡ Some compound.LoopA → IsKindOwned u (number_of p) v (Whole (form_of compound.LoopA subs (out-Node n).assoc))
  loop-a-owned is = loop-owned compound.LoopA is refl refl refl refl (λ port. tt) (λ port h. h) (λ s port e. e) (λ s port e. both-left _ _ e)

  pub loop-b-owned : compound_at (out-Node n).op ≡ Some compound.LoopB → IsKindOwned u (number_of p) v (Whole (form_of compound.LoopB subs (out-Node n).assoc))
  loop-b-owned is = loop-owned compound.LoopB is refl refl refl refl (λ port. tt) (λ port h. h) (λ s port e. e) (λ s port e. both-left _ _ e)

  compound-owned : (c : Compound) → compound_at (out-Node n).op ≡ Some c → IsKindOwned u (number_of p) v (Whole (form_of c subs (out-Node n).assoc))
  compound-owned compound.Select is = select-owned is
  compound-owned compound.TagCase is = tag-owned is
  compound-owned compound.LoopA is = loop-a-owned is
  compound-owned compound.LoopB is = loop-b-owned is
  compound-owned compound.ForAll is = for-all-owned is

  simple-owned : (op : Simple) → simple_at (out-Node n).op ≡ Some op → compound_at (out-Node n).op ≡ None → IsKindOwned u (number_of p) v (simple_kind u p.graph (label_of n) op)
  simple-owned simple.Call is none = call-owned u ready p place n inside is none
  simple-owned _ is none = tt

  kind-owned : (c : Option Compound) (o : Option Simple) → compound_at (out-Node n).op ≡ c → simple_at (out-Node n).op ≡ o → IsKindOwned u (number_of p) v (kind_as u p.graph n c o)
  kind-owned (Some c) o is e = compound-owned c is
  kind-owned None (Some op) is e = simple-owned op e is
  kind-owned None None is e = tt

  pub node-owned : IsKindOwned u (number_of p) v v.kind
  node-owned = kind-owned (compound_at (out-Node n).op) (simple_at (out-Node n).op) refl refl

module _ (u : Unit1) (ready : IsReady u) (sound : IsSound u) (p : Place) (place : Contains (places u) p) where
  some-owned : (ns : List Node) → ((n : Node) → Contains ns n → Contains (out-Graph p.graph).nodes n) → EachNode (λ v. IsKindOwned u (number_of p) v v.kind) (map (vertex_of u p.graph) ns)
  some-owned [] h = tt
  some-owned (n ∷ ns) h = (node-owned u ready sound p place n (h n (here n ns)), some-owned ns (λ m c. h m (there n ns m c)))

  nodes-owned : EachNode (λ v. IsKindOwned u (number_of p) v v.kind) (net_of u p.graph).nodes
  nodes-owned = some-owned (out-Graph p.graph).nodes (λ n c. c)

pub parts-owned : ArePartsOwned
parts-owned u ready sound g = go (find (λ q. number_of q == g) (places u)) refl
  where
    go : (o : Option Place) → find (λ q. number_of q == g) (places u) ≡ o → EachNode (λ v. IsKindOwned u g v v.kind) (network u g).nodes
    go None e = subst (λ n. EachNode (λ v. IsKindOwned u g v v.kind) n.nodes) (sym (ap (net_at u) e)) tt
    go (Some q) e =
        let x = found-in (λ q. number_of q == g) (places u) q e in
        let s : number_of q ≡ g = same-number (number_of q) g x.1 in
        subst (λ n. EachNode (λ v. IsKindOwned u g v v.kind) n.nodes) (sym (ap (net_at u) e))
        (subst (λ k. EachNode (λ v. IsKindOwned u k v v.kind) (net_of u q.graph).nodes) s (nodes-owned u ready sound q x.0))
