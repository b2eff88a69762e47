-- Where a taker is claimed, each node that reaches it along data and ordering edges has finished.
use Rattle.std.proofs.Common.{◌≡◌, ℕ, zero, suc, ◌+◌, ◌≤◌, Bool, true, false, ◌||◌, List, [], ◌∷◌, map, ◌⊎◌, inl, inr, Option, Some, None, refl, sym, ap, ◌∙◌, subst, arith, eqb, T, cond}
use Rattle.std.proofs.Math.Facts.{eqb_yes}
use Rattle.graph_meaning.specs.Carried.{Carried}
use Rattle.graph_meaning.specs.Forms.{Form, Next, Enter, Iterate, Leave as Leaving, next_of, first, follow, gather}
use Rattle.graph_meaning.specs.Entered.{Has, StepsHave, Entered, NoNode, SimpleNode, WholeNode, Steps, Left, Unshown, GraphStep, SliceStep, Item, Node, Entry, Slice, Leave, Inside, IsIn, IsLast, IsFresh, IsDistinct, OfStep, OfSlices, After, AfterSteps, ComesAfter}
use Rattle.graph_meaning.specs.Demand.{Kind, Plain, Whole, Vertex, Network, Cut, IsCut, WaitsFor, straight, through, waits_of, at_label, waits, all, operands, of_node, leads_to, dem, Grow, compound, steps_of, node_tree, nodes_tree, on_results, slice_cost, tree_from, tree}
use Rattle.graph_meaning.specs.Histories.{Run, Follows, Made, OverLimit, NoMemory, Event, Claim, Idle, Ended, Finish, History, is_item, makes, is_claimed, is_made, Legal}
use Rattle.graph_meaning.specs.Growing.{IsExecution}
use Rattle.graph_meaning.specs.Laws.{run_of, AreUsersFinished}
use Rattle.graph_meaning.proofs.ItemsOnce.{is_item-sound, slice-facts, part-facts, fresh-facts}
use Rattle.graph_meaning.proofs.Counting.{claimed-by}
use Rattle.graph_meaning.proofs.Growth.{last-stays}
use Rattle.graph_meaning.proofs.Ranks.{ranked}
use Rattle.graph_meaning.proofs.Executions.{execution}
use Rattle.graph_meaning.proofs.Confluent.{depth, made-shown}

made-stays : (e : Event) (h : History) (j : Item) → is_made h j ≡ true → is_made (e ∷ h) j ≡ true
made-stays e h j m = go (makes e j)
  where
    go : (b : Bool) → b || is_made h j ≡ true
    go true = refl
    go false = m

-- what a claimed item comes after is made, from its claim on
pub claimed-after : (run : Run) (limit : ℕ) (h : History) → Legal run limit h → (i j : Item) → is_claimed h i ≡ true → Follows run i j → is_made h j ≡ true
claimed-after run limit [] g i j c f = c
claimed-after run limit (Claim w k ∷ h) g i j c f = go (is_item i k) (is_item-sound i k) c (λ d. claimed-after run limit h g.0 i j d f)
  where
    go : (b : Bool) → (b ≡ true → i ≡ k) → b || is_claimed h i ≡ true → (is_claimed h i ≡ true → is_made h j ≡ true) → is_made h j ≡ true
    go true s d r = g.1.1.2 j (subst (λ x. Follows run x j) (s refl) f)
    go false s d r = r d
claimed-after run limit (Idle w ∷ h) g i j c f = claimed-after run limit h g.0 i j c f
claimed-after run limit (Ended w k ∷ h) g i j c f = claimed-after run limit h g.0 i j c f
claimed-after run limit (Finish w k o ∷ h) g i j c f = made-stays (Finish w k o) h j (claimed-after run limit h g.0 i j c f)

abbrev pub Test : Type 0
Test = Item → Bool

-- each part of slices has a slice
abbrev pub SlicesThere : Steps → Type 0
SlicesThere Left = Unit {0}
SlicesThere Unshown = Unit {0}
SlicesThere (GraphStep t a p) = SlicesThere p
SlicesThere (SliceStep [] p) = ⊥
SlicesThere (SliceStep (c ∷ cs) p) = SlicesThere p

abbrev pub AllThere : Entered → Type 0
AllThere NoNode = Unit {0}
AllThere (SimpleNode l ws rest) = AllThere rest
AllThere (WholeNode l ws first next rest) = SlicesThere next × AllThere rest

-- it is known that the node leaves
abbrev pub LeavesThere : Steps → Type 0
LeavesThere Left = Unit {0}
LeavesThere Unshown = ⊥
LeavesThere (GraphStep t a p) = LeavesThere p
LeavesThere (SliceStep cs p) = LeavesThere p

-- where the leave is made, so is all before it
parts-back : (p : Steps) (l k : ℕ) (before : Item → Type 0) (F : Test) → SlicesThere p → LeavesThere p → ((i j : Item) → AfterSteps p l k before i j → F i ≡ true → F j ≡ true) → F (Leave l) ≡ true → (j : Item) → before j → F j ≡ true
parts-back Left l k before F s d closed e j b = closed (Leave l) j (refl, b) e
parts-back Unshown l k before F s d closed e j b = absurd d
parts-back (GraphStep t a p) l k before F s d closed e j b =
    let x = parts-back p l (suc k) (OfStep (Entry t l k) l k a) F s d (λ i j' h. closed i j' (inr (inr h))) e (Entry t l k) (inl refl) in
    closed (Entry t l k) j (inl (refl, b)) x
parts-back (SliceStep [] p) l k before F s d closed e j b = absurd s
parts-back (SliceStep (c ∷ cs) p) l k before F s d closed e j b =
    let x = parts-back p l (suc k) (OfSlices l k (c ∷ cs)) F s d (λ i j' h. closed i j' (inr h)) e (Slice l k 0) (c, inl (refl, refl)) in
    closed (Slice l k 0) j (inl (0, refl, b)) x

-- the node of the first label waits for the second, at once or through others
abbrev pub Waits : Entered → ℕ → ℕ → Type 0
Waits NoNode n m = ⊥
Waits (SimpleNode l ws rest) n m = ((n ≡ l) × IsIn m ws) ⊎ Waits rest n m
Waits (WholeNode l ws first next rest) n m = ((n ≡ l) × IsIn m ws) ⊎ Waits rest n m

pub data Reaches (g : Entered) : ℕ → ℕ → Type 0 where
  at_once : {n m : ℕ} → Waits g n m → Reaches g m n
  by_others : {n m k : ℕ} → Waits g n k → Reaches g m k → Reaches g m n

waits-of : {g : Entered} {m n : ℕ} → Reaches g m n → (x : ℕ) × Waits g n x
waits-of (at_once {m = m} w) = (m, w)
waits-of (by_others {k = k} w r) = (k, w)

-- every compound node whose leave is made is known to leave
abbrev pub LeavesKnown : Test → Entered → Type 0
LeavesKnown F NoNode = Unit {0}
LeavesKnown F (SimpleNode l ws rest) = LeavesKnown F rest
LeavesKnown F (WholeNode l ws first next rest) = (F (Leave l) ≡ true → LeavesThere next) × LeavesKnown F rest

module _ (g : Entered) (F : Test) (closed : (i j : Item) → ComesAfter g i j → F i ≡ true → F j ≡ true) where
  -- a node whose last item is made has its own item made
  own-made : (f : Entered) → ((i j : Item) → After g f i j → F i ≡ true → F j ≡ true) → AllThere f → LeavesKnown F f → (n : ℕ) (j : Item) → IsLast f n j → F j ≡ true → F (Node n) ≡ true
  own-made NoNode c s d n j h e = absurd h
  own-made (SimpleNode l ws rest) c s d n j (inl h) e = ap (λ x. F (Node x)) h.0 ∙ (sym (ap F h.1) ∙ e)
  own-made (SimpleNode l ws rest) c s d n j (inr h) e = own-made rest (λ i k x. c i k (inr x)) s d n j h e
  own-made (WholeNode l ws first next rest) c s d n j (inl h) e =
      let leave : F (Leave l) ≡ true = sym (ap F h.1) ∙ e in
      ap (λ x. F (Node x)) h.0 ∙ parts-back next l 1 (OfStep (Node l) l 0 first) F s.0 (d.0 leave) (λ i k x. c i k (inr (inr (inl x)))) leave (Node l) (inl refl)
  own-made (WholeNode l ws first next rest) c s d n j (inr h) e = own-made rest (λ i k x. c i k (inr (inr (inr x)))) s.1 d.1 n j h e

  fed-by : (f : Entered) (n m : ℕ) (j : Item) → Waits f n m → IsLast g m j → After g f (Node n) j
  fed-by NoNode n m j w h = absurd w
  fed-by (SimpleNode l ws rest) n m j (inl w) h = inl (ap Node w.0, (m, w.1, h))
  fed-by (SimpleNode l ws rest) n m j (inr w) h = inr (fed-by rest n m j w h)
  fed-by (WholeNode l ws first next rest) n m j (inl w) h = inl (ap Node w.0, (m, w.1, h))
  fed-by (WholeNode l ws first next rest) n m j (inr w) h = inr (inr (inr (fed-by rest n m j w h)))

  last-of : (f : Entered) (n m : ℕ) → Waits f n m → (j : Item) × IsLast f n j
  last-of NoNode n m w = absurd w
  last-of (SimpleNode l ws rest) n m (inl w) = (Node l, inl (w.0, refl))
  last-of (SimpleNode l ws rest) n m (inr w) = let x = last-of rest n m w in (x.0, inr x.1)
  last-of (WholeNode l ws first next rest) n m (inl w) = (Leave l, inl (w.0, refl))
  last-of (WholeNode l ws first next rest) n m (inr w) = let x = last-of rest n m w in (x.0, inr x.1)

  -- the user reaches the taker: where the taker's own item may be claimed, the user has finished
  pub user-finished : AllThere g → LeavesKnown F g → (user taker : ℕ) → Reaches g user taker → ((j : Item) → ComesAfter g (Node taker) j → F j ≡ true) → (j : Item) → IsLast g user j → F j ≡ true
  user-finished s d user taker (at_once w) ready j h = ready j (fed-by g taker user j w h)
  user-finished s d user taker (by_others {k = k} w r) ready j h = user-finished s d user k r (next w) j h
    where
      next : Waits g taker k → (j' : Item) → ComesAfter g (Node k) j' → F j' ≡ true
      next w j' x =
          let y = waits-of r in
          let z = last-of g k y.0 y.1 in
          closed (Node k) j' x (own-made g closed s d k z.0 z.1 (ready z.0 (fed-by g taker k z.0 w z.1)))

-- in a legal history what is made is closed under what comes before it
pub made-closed : (run : Run) (limit : ℕ) (h : History) → Legal run limit h → ((i : Item) → is_made h i ≡ true → is_claimed h i ≡ true) → (n : ℕ) (i j : Item) → ComesAfter (run n) i j → is_made h i ≡ true → is_made h j ≡ true
made-closed run limit h g claimed n i j a m = claimed-after run limit h g i j (claimed i m) (n, a)

-- where the leave is made, so are all items of the parts
parts-all : (p : Steps) (l k : ℕ) (before : Item → Type 0) (F : Test) → SlicesThere p → LeavesThere p → ((i j : Item) → AfterSteps p l k before i j → F i ≡ true → F j ≡ true) → F (Leave l) ≡ true → (i : Item) (w : Option ℕ) → StepsHave l k p i w → F i ≡ true
parts-all Left l k before F s d closed e i w h = ap F h.0 ∙ e
parts-all Unshown l k before F s d closed e i w h = absurd d
parts-all (GraphStep t a p) l k before F s d closed e i w (inl h) =
    ap F h.0 ∙ parts-back p l (suc k) (OfStep (Entry t l k) l k a) F s d (λ x y z. closed x y (inr (inr z))) e (Entry t l k) (inl refl)
parts-all (GraphStep t a p) l k before F s d closed e i w (inr (inl h)) =
    parts-back p l (suc k) (OfStep (Entry t l k) l k a) F s d (λ x y z. closed x y (inr (inr z))) e i (inr (h.0, w, h.1, h.2))
parts-all (GraphStep t a p) l k before F s d closed e i w (inr (inr h)) =
    parts-all p l (suc k) (OfStep (Entry t l k) l k a) F s d (λ x y z. closed x y (inr (inr z))) e i w h
parts-all (SliceStep [] p) l k before F s d closed e i w h = absurd s
parts-all (SliceStep (c ∷ cs) p) l k before F s d closed e i w (inl h) =
    parts-back p l (suc k) (OfSlices l k (c ∷ cs)) F s d (λ x y z. closed x y (inr z)) e i (w, h)
parts-all (SliceStep (c ∷ cs) p) l k before F s d closed e i w (inr h) =
    parts-all p l (suc k) (OfSlices l k (c ∷ cs)) F s d (λ x y z. closed x y (inr z)) e i w h

-- The machine's own test for a part that is over: the last item of each of its nodes is made. Then all its items are.
pub all-made-by-last : (g f : Entered) (F : Test) → ((i j : Item) → After g f i j → F i ≡ true → F j ≡ true) → AllThere f → LeavesKnown F f → ((n : ℕ) (j : Item) → IsLast f n j → F j ≡ true) → (i : Item) (w : Option ℕ) → Has f i w → F i ≡ true
all-made-by-last g NoNode F c s d last i w h = absurd h
all-made-by-last g (SimpleNode l ws rest) F c s d last i w (inl h) = ap F h.0 ∙ last l (Node l) (inl (refl, refl))
all-made-by-last g (SimpleNode l ws rest) F c s d last i w (inr h) = all-made-by-last g rest F (λ x y z. c x y (inr z)) s d (λ n j z. last n j (inr z)) i w h
all-made-by-last g (WholeNode l ws first next rest) F c s d last i w (inl h) =
    let e = last l (Leave l) (inl (refl, refl)) in
    ap F h.0 ∙ parts-back next l 1 (OfStep (Node l) l 0 first) F s.0 (d.0 e) (λ x y z. c x y (inr (inr (inl z)))) e (Node l) (inl refl)
all-made-by-last g (WholeNode l ws first next rest) F c s d last i w (inr (inl h)) =
    let e = last l (Leave l) (inl (refl, refl)) in
    parts-back next l 1 (OfStep (Node l) l 0 first) F s.0 (d.0 e) (λ x y z. c x y (inr (inr (inl z)))) e i (inr (h.0, w, h.1, h.2))
all-made-by-last g (WholeNode l ws first next rest) F c s d last i w (inr (inr (inl h))) =
    let e = last l (Leave l) (inl (refl, refl)) in
    parts-all next l 1 (OfStep (Node l) l 0 first) F s.0 (d.0 e) (λ x y z. c x y (inr (inr (inl z)))) e i w h
all-made-by-last g (WholeNode l ws first next rest) F c s d last i w (inr (inr (inr h))) =
    all-made-by-last g rest F (λ x y z. c x y (inr (inr (inr z)))) s.1 d.1 (λ n j z. last n j (inr z)) i w h

made-claimed : (run : Run) (limit : ℕ) (h : History) → Legal run limit h → (i : Item) → is_made h i ≡ true → is_claimed h i ≡ true
made-claimed run limit [] g i m = m
made-claimed run limit (Claim w j ∷ h) g i m = go (is_item i j) (made-claimed run limit h g.0 i m)
  where
    go : (b : Bool) → is_claimed h i ≡ true → b || is_claimed h i ≡ true
    go true x = refl
    go false x = x
made-claimed run limit (Idle w ∷ h) g i m = made-claimed run limit h g.0 i m
made-claimed run limit (Ended w k ∷ h) g i m = made-claimed run limit h g.0 i m
made-claimed run limit (Finish w j (Made n) ∷ h) g i m = go (is_item i j) (is_item-sound i j) m (made-claimed run limit h g.0 i)
  where
    go : (b : Bool) → (b ≡ true → i ≡ j) → b || is_made h i ≡ true → (is_made h i ≡ true → is_claimed h i ≡ true) → is_claimed h i ≡ true
    go true s e k = ap (is_claimed h) (s refl) ∙ claimed-by h w j g.1.0
    go false s e k = k e
made-claimed run limit (Finish w j OverLimit ∷ h) g i m = made-claimed run limit h g.0 i m
made-claimed run limit (Finish w j NoMemory ∷ h) g i m = made-claimed run limit h g.0 i m

parts-lead : (p : Steps) (l k n : ℕ) (w : Option ℕ) → StepsHave l k p (Leave n) w → LeavesThere p
parts-lead Left l k n w h = tt
parts-lead Unshown l k n w h = absurd h
parts-lead (GraphStep t a p) l k n w (inl h) = absurd (clash h.0)
  where
    clash : Leave n ≡ Entry t l k → ⊥
    clash e = cc
parts-lead (GraphStep t a p) l k n w (inr (inl h)) = absurd (clash h.0 h.1)
  where
    clash : (i : Item) → Leave n ≡ Inside l k i → ⊥
    clash i e = cc
parts-lead (GraphStep t a p) l k n w (inr (inr h)) = parts-lead p l (suc k) n w h
parts-lead (SliceStep cs p) l k n w (inl h) = absurd (slice-facts l k 0 cs (Leave n) w h).range
parts-lead (SliceStep cs p) l k n w (inr h) = parts-lead p l (suc k) n w h

leaves-known : (f : Entered) (F : Test) → IsDistinct f → ((n : ℕ) → (IsFresh n f → ⊥) → F (Leave n) ≡ true → (w : Option ℕ) × Has f (Leave n) w) → LeavesKnown F f
leaves-known NoNode F d h = tt
leaves-known (SimpleNode l ws rest) F d h = leaves-known rest F d.1 (λ n fr e. go n (h n (λ x. fr x.1) e))
  where
    go : (n : ℕ) → (w : Option ℕ) × Has (SimpleNode l ws rest) (Leave n) w → (w : Option ℕ) × Has rest (Leave n) w
    go n x = on x.0 x.1
      where
        clash : Leave n ≡ Node l → ⊥
        clash e = cc

        on : (w : Option ℕ) → Has (SimpleNode l ws rest) (Leave n) w → (w : Option ℕ) × Has rest (Leave n) w
        on w (inl y) = absurd (clash y.0)
        on w (inr y) = (w, y)
leaves-known (WholeNode l ws first next rest) F d h =
    ((λ e. here (h l (λ fr. fr.0 refl) e)), leaves-known rest F d.3 (λ n fr e. later n fr (h n (λ x. fr x.1) e)))
  where
    node : (n : ℕ) → Leave n ≡ Node l → ⊥
    node n e = cc

    inner : (n : ℕ) (i : Item) → Leave n ≡ Inside l 0 i → ⊥
    inner n i e = cc

    on-here : (w : Option ℕ) → Has (WholeNode l ws first next rest) (Leave l) w → LeavesThere next
    on-here w (inl y) = absurd (node l y.0)
    on-here w (inr (inl y)) = absurd (inner l y.0 y.1)
    on-here w (inr (inr (inl y))) = parts-lead next l 1 l w y
    on-here w (inr (inr (inr y))) = absurd (fresh-facts rest l d.0 (Leave l) w y refl)

    here : (w : Option ℕ) × Has (WholeNode l ws first next rest) (Leave l) w → LeavesThere next
    here x = on-here x.0 x.1

    on-later : (n : ℕ) → (IsFresh n rest → ⊥) → (w : Option ℕ) → Has (WholeNode l ws first next rest) (Leave n) w → (w : Option ℕ) × Has rest (Leave n) w
    on-later n fr w (inl y) = absurd (node n y.0)
    on-later n fr w (inr (inl y)) = absurd (inner n y.0 y.1)
    on-later n fr w (inr (inr (inl y))) = absurd (fr (subst (λ m. IsFresh m rest) (sym (part-facts next l 1 (Leave n) w y).label) d.0))
    on-later n fr w (inr (inr (inr y))) = (w, y)

    later : (n : ℕ) → (IsFresh n rest → ⊥) → (w : Option ℕ) × Has (WholeNode l ws first next rest) (Leave n) w → (w : Option ℕ) × Has rest (Leave n) w
    later n fr x = on-later n fr x.0 x.1

compound-there : (v : Vertex) (p : Steps) (r : Entered) → SlicesThere p → AllThere r → AllThere (compound v p r)
compound-there v Left r s a = (tt, a)
compound-there v Unshown r s a = (tt, a)
compound-there v (GraphStep t f q) r s a = (s, a)
compound-there v (SliceStep cs q) r s a = (s, a)

results-there : {A : Type 0} (f : A → Steps) → ((a : A) → SlicesThere (f a)) → (o : Option A) → SlicesThere (on_results o f)
results-there f h None = tt
results-there f h (Some a) = h a

-- a tree has the edges of its graph
compound-waits : (v : Vertex) (p : Steps) (r : Entered) (n m : ℕ) → ((n ≡ v.label) × IsIn m (waits v)) ⊎ Waits r n m → Waits (compound v p r) n m
compound-waits v Left r n m h = h
compound-waits v Unshown r n m h = h
compound-waits v (GraphStep t f q) r n m h = h
compound-waits v (SliceStep cs q) r n m h = h

node-waits : (grow : Grow) (v : Vertex) (k : Kind) (o : Option (List Carried)) (r : Entered) (n m : ℕ) → ((n ≡ v.label) × IsIn m (waits v)) ⊎ Waits r n m → Waits (node_tree grow v k o r) n m
node-waits grow v (Plain row shape) o r n m h = h
node-waits grow v (Whole form) o r n m h = compound-waits v (steps_of grow form o) r n m h

nodes-wait : (grow : Grow) (ks : Vertex → Option (List Carried)) (vs : List Vertex) (n m : ℕ) → IsIn m (waits_of (at_label vs n)) → Waits (nodes_tree grow ks vs) n m
nodes-wait grow ks [] n m h = absurd h
nodes-wait grow ks (v ∷ vs) n m h = node-waits grow v v.kind (ks v) (nodes_tree grow ks vs) n m (go (eqb v.label n) refl h (nodes-wait grow ks vs n m))
  where
    go : (b : Bool) → eqb v.label n ≡ b → IsIn m (waits_of (cond b (Some v) (at_label vs n))) → (IsIn m (waits_of (at_label vs n)) → Waits (nodes_tree grow ks vs) n m) → ((n ≡ v.label) × IsIn m (waits v)) ⊎ Waits (nodes_tree grow ks vs) n m
    go true e h k = inl (sym (eqb_yes (subst T (sym e) tt)), h)
    go false e h k = inr (k h)

joined : (g : Entered) (a b c : ℕ) → Reaches g b a → Reaches g c b → Reaches g c a
joined g a b c (at_once w) r = by_others w r
joined g a b c (by_others {k = k} w q) r = by_others w (joined g k b c q r)

reached : (grow : Grow) (ks : Vertex → Option (List Carried)) (vs : List Vertex) (l m : ℕ) → WaitsFor vs l m → Reaches (nodes_tree grow ks vs) m l
reached grow ks vs l m (straight h) = at_once (nodes-wait grow ks vs l m h)
reached grow ks vs l m (through {m = k} a b) = joined (nodes_tree grow ks vs) l k m (reached grow ks vs l k a) (reached grow ks vs k m b)

module _ (cut : Cut) (is_cut : IsCut cut) (u : Network) where
  steps-there : (n : ℕ) (form : Form) (ks : List Carried) (next : Next) → SlicesThere (tree_from cut n u form ks next)
  steps-there zero form ks next = tt
  steps-there (suc n) form ks (Leaving rs) = tt
  steps-there (suc n) form ks (Enter t g ins stage) =
      results-there (λ rs. tree_from cut n u form ks (follow form ks stage rs)) (λ rs. steps-there n form ks (follow form ks stage rs)) (dem n u g ins)
  steps-there (suc n) form ks (Iterate g row rows ms) =
      let c = is_cut.some row rows in
      let rest = results-there (λ rs. tree_from cut n u form ks (gather form ks ms rs)) (λ rs. steps-there n form ks (gather form ks ms rs)) (all (map (λ ins. dem n u g ins) (row ∷ rows))) in
      subst (λ x. SlicesThere (SliceStep (map (slice_cost (λ ins. tree cut n u g ins)) x) (on_results (all (map (λ ins. dem n u g ins) (row ∷ rows))) (λ rs. tree_from cut n u form ks (gather form ks ms rs))))) (sym c.2) rest

  known-there : (n : ℕ) (form : Form) (o : Option (List Carried)) → SlicesThere (steps_of (tree_from cut n u) form o)
  known-there n form None = tt
  known-there n form (Some ks) = steps-there n form ks (next_of (first form ks))

  node-there : (n : ℕ) (v : Vertex) (k : Kind) (o : Option (List Carried)) (r : Entered) → AllThere r → AllThere (node_tree (tree_from cut n u) v k o r)
  node-there n v (Plain row shape) o r a = a
  node-there n v (Whole form) o r a = compound-there v (steps_of (tree_from cut n u) form o) r (known-there n form o) a

  nodes-there : (n : ℕ) (ks : Vertex → Option (List Carried)) (vs : List Vertex) → AllThere (nodes_tree (tree_from cut n u) ks vs)
  nodes-there n ks [] = tt
  nodes-there n ks (v ∷ vs) = node-there n v v.kind (ks v) (nodes_tree (tree_from cut n u) ks vs) (nodes-there n ks vs)

pub users-finished : AreUsersFinished
users-finished cut u g ins limit h is_cut orderly legal taker user claimable waits-for n j last =
    finished n (depth (run_of cut u g ins) limit good h legal) refl last
  where
    good : IsExecution (run_of cut u g ins)
    good = execution cut is_cut u (ranked u orderly) g ins

    finished : (n N : ℕ) → (depth (run_of cut u g ins) limit good h legal) ≡ N → IsLast (tree cut n u g ins) user j → is_made h j ≡ true
    finished n N e last = at (n + N) (subst (λ x. x ≤ n + N) (sym e) (omega arith)) (last-stays (good.grows n (n + N) (omega arith)) user j last)
      where
        at : (m : ℕ) → depth (run_of cut u g ins) limit good h legal ≤ m → IsLast (tree cut m u g ins) user j → is_made h j ≡ true
        at m le last =
            user-finished (tree cut m u g ins) (is_made h) (made-closed (run_of cut u g ins) limit h legal (made-claimed (run_of cut u g ins) limit h legal) m)
            (nodes-there cut is_cut u m (λ v. operands (of_node (leads_to m u)) (u g) ins v.ins) (u g).nodes)
            (leaves-known (tree cut m u g ins) (is_made h) (good.distinct m) (λ k fr e. let x = made-shown (run_of cut u g ins) limit good h legal m le (Leave k) e in (Some x.0, x.1)))
            user taker (reached (tree_from cut m u) (λ v. operands (of_node (leads_to m u)) (u g) ins v.ins) (u g).nodes taker user waits-for) (λ j' x. claimable.2 j' (m, x)) j last
