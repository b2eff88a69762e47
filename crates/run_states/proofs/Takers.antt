-- Where a node of an entered graph may be claimed, every node for which it waits has finished.
use Rattle.std.proofs.Common.{◌≡◌, ℕ, Bool, true, false, ◌||◌, List, [], ◌∷◌, Option, Some, None, All, refl, sym, ap, ◌∙◌, subst, arith}
use Rattle.std.proofs.lemmas.List.Elements.{All-contains}
use Rattle.if1_graph.specs.Formed.{IsGraph}
use Rattle.if1_graph.specs.Ports.{ArePortsRight}
use Rattle.if1_graph.specs.Units.{places, number_of, ends}
use Rattle.if1_marks.proofs.Taken.{taker-last, sound-in-order}
use Rattle.graph_meaning.specs.Carried.{Carried}
use Rattle.graph_meaning.specs.Entered.{Item, Node, Entry, Slice, Leave, Inside, IsIn}
use Rattle.graph_meaning.specs.Demand.{Kind, Plain, Whole, Vertex, Net, Network, Cut, IsCut, WaitsFor, straight, through, at_label, waits, waits_of, tree, IsLabel}
use Rattle.graph_meaning.specs.Histories.{Run, Exists, Follows, Made, OverLimit, NoMemory, Event, Claim, Idle, Ended, Finish, History, Legal, is_item, makes, is_claimed, is_made}
use Rattle.graph_meaning.specs.Networks.{network}
use Rattle.graph_meaning.proofs.Counting.{claimed-by}
use Rattle.graph_meaning.proofs.ItemsOnce.{is_item-sound}
use Rattle.graph_meaning.proofs.Numbers.{found-by-number}
use Rattle.graph_meaning.proofs.Ranks.{AreRanked, ranked}
use Rattle.graph_meaning.proofs.Takers.{claimed-after}
use Rattle.graph_meaning.proofs.Units.{units-orderly}
use Rattle.graph_meaning.proofs.UnitWaits.{waits as unit-waits}
use Rattle.run_states.specs.Standing.{Path, plug, label_of, AtLeast, IsNode}
use Rattle.run_states.specs.Phases.{last_by, last_of}
use Rattle.run_states.specs.Paths.{LeadsTo}
use Rattle.run_states.specs.Takers.{AreUsersFinishedInside, AreTakersLastInside}
use Rattle.run_states.proofs.Ready.{at-least}
use Rattle.run_states.proofs.Phases.{is-node}
use Rattle.run_states.proofs.Paths.{each-found, order-out, exists-in}

-- ---- histories

made-stays : (e : Event) (h : History) (j : Item) → is_made h j ≡ true → is_made (e ∷ h) j ≡ true
made-stays e h j m = go (makes e j)
  where
    go : (b : Bool) → b || is_made h j ≡ true
    go true = refl
    go false = m

made-claimed : (run : Run) (limit : ℕ) (h : History) → Legal run limit h → (i : Item) → is_made h i ≡ true → is_claimed h i ≡ true
made-claimed run limit [] g i m = m
made-claimed run limit (Claim w j ∷ h) g i m = go (is_item i j) (made-claimed run limit h g.0 i m)
  where
    go : (b : Bool) → is_claimed h i ≡ true → b || is_claimed h i ≡ true
    go true x = refl
    go false x = x
made-claimed run limit (Idle w ∷ h) g i m = made-claimed run limit h g.0 i m
made-claimed run limit (Ended w k ∷ h) g i m = made-claimed run limit h g.0 i m
made-claimed run limit (Finish w j (Made n) ∷ h) g i m = go (is_item i j) (is_item-sound i j) m (made-claimed run limit h g.0 i)
  where
    go : (b : Bool) → (b ≡ true → i ≡ j) → b || is_made h i ≡ true → (is_made h i ≡ true → is_claimed h i ≡ true) → is_claimed h i ≡ true
    go true s e k = ap (is_claimed h) (s refl) ∙ claimed-by h w j g.1.0
    go false s e k = k e
made-claimed run limit (Finish w j OverLimit ∷ h) g i m = made-claimed run limit h g.0 i m
made-claimed run limit (Finish w j NoMemory ∷ h) g i m = made-claimed run limit h g.0 i m

claimed-exists : (run : Run) (limit : ℕ) (h : History) → Legal run limit h → (i : Item) → is_claimed h i ≡ true → Exists run i
claimed-exists run limit [] g i c = absurd (never c)
  where
    never : false ≡ true → ⊥
    never e = cc
claimed-exists run limit (Claim w j ∷ h) g i c = go (is_item i j) (is_item-sound i j) c (claimed-exists run limit h g.0 i)
  where
    go : (b : Bool) → (b ≡ true → i ≡ j) → b || is_claimed h i ≡ true → (is_claimed h i ≡ true → Exists run i) → Exists run i
    go true s d r = subst (Exists run) (sym (s refl)) g.1.1.0
    go false s d r = r d
claimed-exists run limit (Idle w ∷ h) g i c = claimed-exists run limit h g.0 i c
claimed-exists run limit (Ended w k ∷ h) g i c = claimed-exists run limit h g.0 i c
claimed-exists run limit (Finish w k o ∷ h) g i c = claimed-exists run limit h g.0 i c

-- an item of no step is that of the node itself
own-of : (i : Item) → ¬ AtLeast 0 i → i ≡ Node (label_of i)
own-of (Node n) ne = refl
own-of (Entry t n k) ne = absurd (ne (omega arith))
own-of (Slice n k r) ne = absurd (ne (omega arith))
own-of (Leave n) ne = absurd (ne tt)
own-of (Inside n k j) ne = absurd (ne (omega arith))

-- ---- the graph at a path

module _ (cut : Cut) (u : Network) (is-cut : IsCut cut) (ready : AreRanked u) (g : ℕ) (ins : List Carried) (limit : ℕ) (p : Path) (k : ℕ) (is : List Carried) (path : LeadsTo u g ins p k is) where
  abbrev run : Run
  run m = tree cut m u g ins

  abbrev last : ℕ → Item
  last n = last_of (at_label (u k).nodes n) n

  node-of : (n : ℕ) (v : Vertex) → at_label (u k).nodes n ≡ Some v → IsNode (λ m. tree cut m u k is) n (waits v) (λ l. last_of (at_label (u k).nodes l) l)
  node-of n v at = is-node cut u is-cut ready k is v n at (each-found (λ z. (l : ℕ) → IsIn l (waits z) → IsLabel (u k).nodes l) (u k).nodes (ready k).named n v at)

  module _ (n : ℕ) (v : Vertex) (at : at_label (u k).nodes n ≡ Some v) where
    -- another item of the node was claimed only once the node's own was made
    abbrev Started : History → Type 0
    Started h = (i : Item) → is_claimed h (plug p i) ≡ true → label_of i ≡ n → AtLeast 0 i → is_made h (plug p (Node n)) ≡ true

    from-claim : (w : ℕ) (j : Item) (h : History) → Legal (λ m. tree cut m u g ins) limit (Claim w j ∷ h) → Started h → Started (Claim w j ∷ h)
    from-claim w j h legal rec i c lab le = go (is_item (plug p i) j) (is_item-sound (plug p i) j) c
      where
        later : (y : Item) → label_of y ≡ n → is_made h (plug p y) ≡ true → Dec (AtLeast 0 y) → is_made h (plug p (Node n)) ≡ true
        later y lab m (yes le) = rec y (made-claimed (λ m. tree cut m u g ins) limit h legal.0 (plug p y) m) lab le
        later y lab m (no ne) = sym (ap (λ z. is_made h (plug p z)) (own-of y ne ∙ ap Node lab)) ∙ m

        go : (b : Bool) → (b ≡ true → plug p i ≡ j) → b || is_claimed h (plug p i) ≡ true → is_made h (plug p (Node n)) ≡ true
        go true s d =
            let ex = exists-in u g ins cut is-cut ready p k is i path (subst (Exists (λ m. tree cut m u g ins)) (sym (s refl)) legal.1.1.0) in
            let x = (node-of n v at).inner i ex lab le in
            let f = order-out u g ins cut is-cut ready p k is i x.0 path x.1 in
            later x.0 x.2 (legal.1.1.2 (plug p x.0) (subst (λ z. Follows (λ m. tree cut m u g ins) z (plug p x.0)) (s refl) f)) (at-least 0 x.0)
        go false s d = rec i d lab le

    started : (h : History) → Legal (λ m. tree cut m u g ins) limit h → Started h
    started [] legal i c lab le = c
    started (Claim w j ∷ h) legal i c lab le = from-claim w j h legal (started h legal.0) i c lab le
    started (Idle w ∷ h) legal i c lab le = started h legal.0 i c lab le
    started (Ended w e ∷ h) legal i c lab le = started h legal.0 i c lab le
    started (Finish w j o ∷ h) legal i c lab le = made-stays (Finish w j o) h (plug p (Node n)) (started h legal.0 i c lab le)

  module _ (h : History) (legal : Legal (λ m. tree cut m u g ins) limit h) where
    -- a node whose last item is made has its own one made
    own-made : (n : ℕ) → is_made h (plug p (last n)) ≡ true → is_made h (plug p (Node n)) ≡ true
    own-made n m = go (at_label (u k).nodes n) refl m
      where
        by-kind : (v : Vertex) → at_label (u k).nodes n ≡ Some v → (q : Kind) → is_made h (plug p (last_by q n)) ≡ true → is_made h (plug p (Node n)) ≡ true
        by-kind v at (Plain row shape) m = m
        by-kind v at (Whole form) m = started n v at h legal (Leave n) (made-claimed (λ m. tree cut m u g ins) limit h legal (plug p (Leave n)) m) refl tt

        go : (o : Option Vertex) → at_label (u k).nodes n ≡ o → is_made h (plug p (last_of o n)) ≡ true → is_made h (plug p (Node n)) ≡ true
        go None at m = m
        go (Some v) at m = by-kind v at v.kind m

    abbrev CanBegin : ℕ → Type 0
    CanBegin l = (j : Item) → Follows (λ m. tree cut m u g ins) (plug p (Node l)) j → is_made h j ≡ true

    direct : (l n : ℕ) → IsIn n (waits_of (at_label (u k).nodes l)) → CanBegin l → is_made h (plug p (last n)) ≡ true
    direct l n i can = go (at_label (u k).nodes l) refl i
      where
        go : (o : Option Vertex) → at_label (u k).nodes l ≡ o → IsIn n (waits_of o) → is_made h (plug p (last n)) ≡ true
        go None at i = absurd i
        go (Some v) at i = can (plug p (last n)) (order-out u g ins cut is-cut ready p k is (Node l) (last n) path ((node-of l v at).waits n i))

    begun : (l : ℕ) → is_made h (plug p (Node l)) ≡ true → CanBegin l
    begun l m j f = claimed-after (λ m. tree cut m u g ins) limit h legal (plug p (Node l)) j (made-claimed (λ m. tree cut m u g ins) limit h legal (plug p (Node l)) m) f

    pub users : (l n : ℕ) → WaitsFor (u k).nodes l n → CanBegin l → is_made h (plug p (last n)) ≡ true
    users l n (straight i) can = direct l n i can
    users l n (through {m = m} a b) can = users m n b (begun m (own-made m (users l m a can)))

pub users-inside : AreUsersFinishedInside
users-inside cut u g ins limit h is-cut orderly legal p k is path taker user claimable w =
    users cut u is-cut (ranked u orderly) g ins limit p k is path h legal taker user w claimable.2

pub takers-inside : AreTakersLastInside
takers-inside cut u g ins limit h is-cut ready sound legal q p is there path e f a b takes same other ne claimable =
    let before = (taker-last u p e f sound there a b takes same other ne).0 in
    let waits-for = unit-waits u p (All-contains (IsGraph u) (places u) p ready.formed.graphs there)
    (All-contains (λ p. All (ArePortsRight u p) (ends p.graph)) (places u) p ready.ports there) before in
    users-inside cut (network u) g ins limit h is-cut (units-orderly u ready (sound-in-order u sound)) legal q (number_of p) is path e.node f.node claimable
    (subst (λ (net : Net). WaitsFor net.nodes e.node f.node) (sym (found-by-number u ready.formed p there)) waits-for)
