-- The marks of a unit, graph by graph.
use Rattle.std.proofs.Common.{◌≡◌, ◌∙◌, ℕ, ◌+◌, ◌<◌, ◌≤◌, Bool, false, List, [], ◌∷◌, length, map, take, get_or, Option, Some, None, ◌⊎◌, inl, inr, Contains, All, Bor, Result, Ok, Err, IfErr, IsErrAnd, arith, refl, sym, ap, subst}
use Rattle.std.proofs.lemmas.List.{length-map, get_or-map, take_all}
use Rattle.std.proofs.lemmas.List.Elements.{All-contains, All-contains_itself, All-weaker, All-more, Contains-append_right, Contains-append_cases}
use Rattle.if1_graph.specs.declared.graph.Graph.{Graph}
use Rattle.if1_graph.specs.declared.graph.Graph.TheViews.{out-Graph}
use Rattle.if1_graph.specs.declared.graph.Node.{Node, out-Node}
use Rattle.if1_graph.specs.declared.graph.Unit1.{Unit1}
use Rattle.if1_graph.specs.Formed.{IsGraph}
use Rattle.if1_graph.specs.Normal.{IsNormal}
use Rattle.if1_graph.specs.Ready.{IsReady}
use Rattle.if1_graph.specs.Units.{label_of, Home, Function, Place, places}
use Rattle.if1_order.specs.Orders.{IsLinked}
use Rattle.if1_order.proofs.Units.{ports_linked}
use Rattle.if1_marks.specs.Faults.{IsWrongOnList, absent, itself, behind}
use Rattle.if1_marks.specs.Laws.{IsFaultless}
use Rattle.if1_marks.specs.Orders.{listed}
use Rattle.if1_marks.specs.Sound.{IsSound}
use Rattle.if1_marks.proofs.Blameless.{found-node, sound-faultless}
use Rattle.if1_marks.proofs.Faultless.{faultless-sound}
use Rattle.if1_marks.proofs.Lists.{here, there, in-none, in-mapped}
use Rattle.if1_marks.proofs.Tests.{no-both}
use Rattle.if1_reach.proofs.Labelled.{same-default}
use Rattle.marks_made.proofs.Lists.{from-mapped}
use Rattle.marks_made.specs.Units.{is_candidate}
use Rattle.may_take.specs.Looked.{flags_at}
use Rattle.mark_check.specs.declared.marks.MarkFault.{MarkFault}
use Rattle.mark_check.specs.declared.marks.MarkFault.TheVariants.{BadMark, NoMemory}
use Rattle.mark_check.specs.declared.takers.BadTaker.{BadTaker}
use Rattle.mark_check.specs.Entries.{IsWrong, IsFirst, FirstWrong, entries_of, entries}
use Rattle.mark_check.specs.Graphs.{AreUntaken, unit_graphs, lent}
use Rattle.mark_check.specs.Late.{IsInOrder}
use Rattle.mark_check.specs.Marks.{HasWrongEntry, HasWrongTaker, IsListFault, IsTakerFault, IsFirstFault, IsListFaultAs, IsTakerFaultAs, IsBad}
use Rattle.mark_check.specs.Takers.{IsWrongTaker, IsFirstTaker, FirstTaker}
use Rattle.mark_check.proofs.InOrder.{entry-there, place-in-order}
use Rattle.mark_check.proofs.Wrong.{first-here}

first-there : {A : Type 0} (P : A → Type 0) (xs : List A) (x : A) → IsFirst P xs x → Contains xs x
first-there P xs x f = subst (λ ys. Contains ys x) (sym f.is) (Contains-append_right f.before (x ∷ f.after) x (here x f.after))

from-entry : (ns : List Node) (at : ℕ × ℕ) → Contains (entries ns) at → (n : Node) × Contains ns n × (l : ℕ) × Contains (out-Node n).before l × ((label_of n, l) ≡ at)
from-entry [] at c = in-none at c
from-entry (n ∷ ns) at c =
    elim (Contains-append_cases (entries_of n) (entries ns) at c) [
      | inl now ↦ let r = from-mapped (λ l. (label_of n, l)) (out-Node n).before at now in (n, here n ns, r.0, r.1, r.2)
      | inr later ↦ let r = from-entry ns at later in (r.0, there n ns r.0 r.1, r.2, r.3, r.4)
    ]

-- ---- one graph, as the loops over the graphs have it

module _ (u : Unit1) (ready : IsReady u) (normal : IsNormal u) (gs : List (Bor Graph)) (are : lent gs ≡ unit_graphs u) (n : ℕ) (r : Bor Graph) (h : n < length gs) (is : r ≡ get_or gs n r) where
  lt : n < length (places u)
  lt = omega (arith, h, sym (length-map gs (λ (g : Bor Graph). g.now)) ∙ (ap length are ∙ length-map (places u) (λ (p : Place). p.graph)))

  abbrev dummy : Place
  dummy = record { graph = r.now; home = Function 0 }

  abbrev p : Place
  p = get_or (places u) n dummy

  p-is : p ≡ get_or (places u) n p
  p-is = same-default (places u) n dummy p lt

  graph-is : p.graph ≡ r.now
  graph-is =
      sym (get_or-map (λ (p : Place). p.graph) (places u) n dummy r.now lt)
      ∙ (ap (λ xs. get_or xs n r.now) (sym are) ∙ (get_or-map (λ (g : Bor Graph). g.now) gs n r r.now h ∙ ap (λ (g : Bor Graph). g.now) (sym is)))

  p-there : Contains (places u) p
  p-there = (n, lt, sym p-is)

  pub graph-linked : IsLinked r.now
  graph-linked = subst IsLinked graph-is (All-contains (λ p. IsLinked p.graph) (places u) p (ports_linked u normal ready.ports) p-there)

  -- labels on ordering lists
  pub entry-wrong : (found : Option (ℕ × ℕ)) (at : ℕ × ℕ) → found ≡ Some at → FirstWrong r.now (entries (out-Graph r.now).nodes) found → All (λ p. ¬ HasWrongEntry p) (take n (places u)) → IsListFault u (out-Graph r.now).number at.0 0 at.1
  entry-wrong found at e w none =
      let f : IsFirst (IsWrong p.graph) (entries (out-Graph p.graph).nodes) at =
      subst (λ g. IsFirst (IsWrong g) (entries (out-Graph g).nodes) at) (sym graph-is) (subst (FirstWrong r.now (entries (out-Graph r.now).nodes)) e w) in
      record {
        place = p;
        first = first-here HasWrongEntry (places u) n p p lt p-is none (at, first-there (IsWrong p.graph) (entries (out-Graph p.graph).nodes) at f, f.holds);
        entry = f;
        number = ap (λ g. (out-Graph g).number) graph-is;
        no_port = refl;
      }

  pub entries-right : (found : Option (ℕ × ℕ)) → found ≡ None → FirstWrong r.now (entries (out-Graph r.now).nodes) found → All (λ p. ¬ HasWrongEntry p) (take n (places u)) → All (λ p. ¬ HasWrongEntry p) (take (n + 1) (places u))
  entries-right found e w none =
      let right : All (λ at. ¬ IsWrong p.graph at) (entries (out-Graph p.graph).nodes) =
      subst (λ g. All (λ at. ¬ IsWrong g at) (entries (out-Graph g).nodes)) (sym graph-is) (subst (FirstWrong r.now (entries (out-Graph r.now).nodes)) e w) in
      All-more (λ p. ¬ HasWrongEntry p) (places u) n p lt none
      (subst (λ (q : Place). ¬ HasWrongEntry q) p-is (λ x. All-contains (λ at. ¬ IsWrong p.graph at) (entries (out-Graph p.graph).nodes) x.0 right x.1 x.2))

  -- edges that take
  module _ (lists : All (λ p. ¬ HasWrongEntry p) (places u)) (flags : List (List Bool)) (flags-are : flags ≡ map (flags_at u) (places u)) (own item : List Bool) (own-item : own ≡ item) (item-is : item ≡ get_or flags n item) where
    pub graph-in-order : IsInOrder r.now
    graph-in-order = subst IsInOrder graph-is (place-in-order u ready normal p p-there (All-contains (λ p. ¬ HasWrongEntry p) (places u) p lists p-there))

    own-at : own ≡ flags_at u p
    own-at = own-item ∙ (item-is ∙ (ap (λ xs. get_or xs n item) flags-are ∙ get_or-map (flags_at u) (places u) n dummy item lt))

    pub flags-fit : length own ≡ length (out-Graph r.now).edges
    flags-fit = ap length own-at ∙ (length-map (out-Graph p.graph).edges (is_candidate u p) ∙ ap (λ g. length (out-Graph g).edges) graph-is)

    module _ (found : Option BadTaker)
        (w : (u : Unit1) (home : Home) → own ≡ map (is_candidate u (record { graph = r.now; home = home })) (out-Graph r.now).edges → FirstTaker u (record { graph = r.now; home = home }) found) where
      abbrev same : Place → Graph → Place
      same p g = record { graph = g; home = p.home }

      here-found : FirstTaker u p found
      here-found =
          subst (λ g. FirstTaker u (same p g) found) (sym graph-is)
          (w u p.home (own-at ∙ ap (λ g. flags_at u (same p g)) graph-is))

      pub taker-wrong : (bad : BadTaker) → found ≡ Some bad → All (λ p. ¬ HasWrongTaker u p) (take n (places u)) → IsTakerFault u (out-Graph r.now).number bad.node bad.port bad.reader
      taker-wrong bad e none =
          let f : IsFirstTaker u p bad = subst (FirstTaker u p) e here-found in
          record {
            lists = lists;
            place = p;
            first = first-here (HasWrongTaker u) (places u) n p p lt p-is none (f.edge, first-there (IsWrongTaker u p) (out-Graph p.graph).edges f.edge f.first, f.first.holds);
            taker = f;
            number = ap (λ g. (out-Graph g).number) graph-is;
          }

      pub takers-right : found ≡ None → All (λ p. ¬ HasWrongTaker u p) (take n (places u)) → All (λ p. ¬ HasWrongTaker u p) (take (n + 1) (places u))
      takers-right e none =
          let right : All (λ e. ¬ IsWrongTaker u p e) (out-Graph p.graph).edges = subst (FirstTaker u p) e here-found in
          All-more (λ p. ¬ HasWrongTaker u p) (places u) n p lt none
          (subst (λ (q : Place). ¬ HasWrongTaker u q) p-is (λ x. All-contains (λ e. ¬ IsWrongTaker u p e) (out-Graph p.graph).edges x.0 right x.1 x.2))

-- all graphs were looked at
pub all-places : (P : Place → Type 0) (u : Unit1) (gs : List (Bor Graph)) → lent gs ≡ unit_graphs u → (n : ℕ) → length gs ≤ n → All P (take n (places u)) → All P (places u)
all-places P u gs are n h all =
    subst (All P) (take_all n (places u) (omega (arith, h, sym (length-map gs (λ (g : Bor Graph). g.now)) ∙ (ap length are ∙ length-map (places u) (λ (p : Place). p.graph))))) all

-- no graph has an edge that takes
pub untaken-places : (u : Unit1) (gs : List (Bor Graph)) → lent gs ≡ unit_graphs u → AreUntaken gs → All (λ p. ¬ HasWrongTaker u p) (places u)
untaken-places u gs are untaken =
    All-weaker (Contains (places u)) (λ p. ¬ HasWrongTaker u p)
    (λ p h x.
    let r = from-mapped (λ (g : Bor Graph). g.now) gs p.graph (subst (λ xs. Contains xs p.graph) (sym are) (in-mapped (λ (p : Place). p.graph) (places u) p h)) in
    let none = All-contains (λ (g : Bor Graph). All (λ e. e.takes ≡ false) (out-Graph g.now).edges) gs r.0 untaken r.1 in
    no-both x.0.takes x.2.0 (All-contains (λ e. e.takes ≡ false) (out-Graph p.graph).edges x.0 (subst (λ g. All (λ e. e.takes ≡ false) (out-Graph g).edges) r.2 none) x.1))
    (places u) (All-contains_itself (places u))

-- ---- the unit

pub right-sound : (u : Unit1) → IsReady u → All (λ p. ¬ HasWrongEntry p) (places u) → All (λ p. ¬ HasWrongTaker u p) (places u) → IsSound u
right-sound u ready lists takers =
    faultless-sound u ready
    (All-weaker (Contains (places u)) (IsFaultless u)
    (λ p h.
    let formed : IsGraph u p = All-contains (IsGraph u) (places u) p ready.formed.graphs h in
    record {
      lists = λ n l there w. All-contains (λ p. ¬ HasWrongEntry p) (places u) p lists h (wrong-entry p n l there formed w);
      takers = λ e reader there takes w. All-contains (λ p. ¬ HasWrongTaker u p) (places u) p takers h (e, there, (takes, (reader, w)));
    })
    (places u) (All-contains_itself (places u)))
  where
    wrong-entry : (p : Place) (n : Node) (l : ℕ) → Contains (out-Graph p.graph).nodes n → IsGraph u p → IsWrongOnList p.graph n l → HasWrongEntry p
    wrong-entry p n l h formed (absent c e) = ((label_of n, l), entry-there (out-Graph p.graph).nodes n l h c, inl e)
    wrong-entry p n l h formed (itself c) = ((label_of n, label_of n), entry-there (out-Graph p.graph).nodes n (label_of n) h c, inr (listed n (found-node (out-Graph p.graph).nodes n formed.labels h) c))
    wrong-entry p n l h formed (behind c w) = ((label_of n, l), entry-there (out-Graph p.graph).nodes n l h c, inr w)

pub fault-unsound : (u : Unit1) → IsReady u → (f : MarkFault) → IsFirstFault u f → IsBad f → ¬ IsSound u
fault-unsound u ready NoMemory first bad sound = absurd bad
fault-unsound u ready (BadMark graph node port reader) first bad sound = go first
  where
    faultless : (p : Place) → Contains (places u) p → IsFaultless u p
    faultless p h = All-contains (IsFaultless u) (places u) p (sound-faultless u ready sound) h

    no-entry : (p : Place) → Contains (places u) p → ¬ HasWrongEntry p
    no-entry p h (at, c, w) =
        let r = from-entry (out-Graph p.graph).nodes at c in
        (faultless p h).lists r.0 r.2 r.1 (by r.0 r.2 r.3 (subst (IsWrong p.graph) (sym r.4) w))
      where
        by : (n : Node) (l : ℕ) → Contains (out-Node n).before l → IsWrong p.graph (label_of n, l) → IsWrongOnList p.graph n l
        by n l c (inl e) = absent c e
        by n l c (inr v) = behind c v

    no-taker : (p : Place) → Contains (places u) p → ¬ HasWrongTaker u p
    no-taker p h (e, c, (takes, (reader, w))) = (faultless p h).takers e reader c takes w

    go : IsListFault u graph node port reader ⊎ IsTakerFault u graph node port reader → ⊥
    go (inl f) = no-entry f.place (first-there HasWrongEntry (places u) f.place f.first) f.first.holds
    go (inr f) = no-taker f.place (first-there (HasWrongTaker u) (places u) f.place f.first) f.first.holds

-- ---- the first fault

pub list-first : (u : Unit1) (f : MarkFault) → IsListFaultAs u f → IsFirstFault u f
list-first u NoMemory w = tt
list-first u (BadMark graph node port reader) w = inl w

pub taker-first : (u : Unit1) (f : MarkFault) → IsTakerFaultAs u f → IsFirstFault u f
taker-first u NoMemory w = tt
taker-first u (BadMark graph node port reader) w = inr w

pub passed-on : {A : Type 0} (P : MarkFault → Type 0) (r : Result A MarkFault) (x : MarkFault) → IsErrAnd r (λ e. e ≡ x) → P x → IfErr r P
passed-on P (Ok a) x h p = tt
passed-on P (Err e) x h p = subst P (sym h) p
