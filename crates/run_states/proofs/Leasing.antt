-- The sum of all leases of an aggregate, along the events.
use Rattle.std.proofs.Common.{◌≡◌, ℕ, zero, suc, ◌+◌, ◌<◌, eqb, if◌then◌else◌, Bool, true, false, List, [], ◌∷◌, inl, inr, Option, Some, None, refl, sym, ap, ◌∙◌, subst, arith}
use Rattle.std.proofs.lemmas.Bool.{eqb-true}
use native.Mathlib.Decide.{ℕ_discrete}
use Rattle.graph_meaning.specs.Entered.{IsIn}
use Rattle.run_states.specs.Standing.{State, Waiting, Claimed, Within, GoingOn, Done, Live, Table, with_state, put}
use Rattle.run_states.specs.Storing.{Cell, Plain, Kept, Port, Store, IsRead, IsAtWork}
use Rattle.run_states.specs.Leasing.{is_at_work, has_key, one_if, ports_with, node_leases, nodes_lease, graph_leases, leases, AreNoneLeased, StandsOnce, AreLeasesMoved, AreLeasesKept, IsIdle, AreAllIdleNotLeased}
use Rattle.run_states.proofs.Lookups.{put-same, put-other, set-other}
use Rattle.run_states.proofs.Taking.{no-holder}

-- ---- numbers

pub no-sum : (a b : ℕ) → a ≡ 0 → b ≡ 0 → a + b ≡ 0
no-sum a b p q = omega (arith, p, q)

pub same-sum : (a b c d : ℕ) → a ≡ b → c ≡ d → a + c ≡ b + d
same-sum a b c d p q = omega (arith, p, q)

-- the first part changes, or the second does
pub moved-here : (a b g h m n : ℕ) → a ≡ m → b ≡ n → g ≡ h → a + g + n ≡ b + h + m
moved-here a b g h m n p q r = omega (arith, p, q, r)

pub moved-later : (a b g h m n : ℕ) → a ≡ b → g + n ≡ h + m → a + g + n ≡ b + h + m
moved-later a b g h m n p q = omega (arith, p, q)

pub moved-before : (a b g h m n : ℕ) → a + n ≡ b + m → g ≡ h → a + g + n ≡ b + h + m
moved-before a b g h m n p q = omega (arith, p, q)

-- ---- who holds no lease

pub by-work : (key : ℕ) (s : Store) (ports : List Port) (st : State) → (IsAtWork st → ports_with key s ports ≡ 0) → (if is_at_work st then ports_with key s ports else 0) ≡ 0
by-work key s ports Waiting h = refl
by-work key s ports Claimed h = h tt
by-work key s ports (Within k g) h = h tt
by-work key s ports (GoingOn k os) h = h tt
by-work key s ports Done h = refl

no-key : (key : ℕ) (o : Option Cell) → ¬ (o ≡ Some (Kept key)) → one_if (has_key key o) ≡ 0
no-key key None n = refl
no-key key (Some (Plain carried)) n = refl
no-key key (Some (Kept k)) n = go (eqb k key) (eqb-true k key)
  where
    go : (b : Bool) → (b ≡ true → k ≡ key) → one_if b ≡ 0
    go true t = absurd (n (ap (λ z. Some (Kept z)) (t refl)))
    go false t = refl

pub none-with : (key : ℕ) (s : Store) (ports : List Port) → ((a : Port) → IsRead a ports → ¬ (s.cell a ≡ Some (Kept key))) → ports_with key s ports ≡ 0
none-with key s [] free = refl
none-with key s (a ∷ ports) free =
    no-sum (one_if (has_key key (s.cell a))) (ports_with key s ports) (no-key key (s.cell a) (free a (inl refl))) (none-with key s ports (λ b r. free b (inr r)))

pub none-lease : (key : ℕ) (s : Store) (x : Live) (ls : List ℕ) → ((l : ℕ) → IsIn l ls → node_leases key s x l ≡ 0) → nodes_lease key s x ls ≡ 0
none-lease key s x [] h = refl
none-lease key s x (l ∷ ls) h = no-sum (node_leases key s x l) (nodes_lease key s x ls) (h l (inl refl)) (none-lease key s x ls (λ n i. h n (inr i)))

pub none-leased : AreNoneLeased
none-leased run c m table root stores f x a key stands kept at cell own none zero = refl
none-leased run c m table root stores f x a key stands kept at cell own none (suc n) =
    no-sum (leases key table stores n) (graph_leases key (stores n) (table n)) (none-leased run c m table root stores f x a key stands kept at cell own none n) (go (table n) refl)
  where
    node : (y : Live) → table n ≡ Some y → (l : ℕ) → IsIn l y.labels → node_leases key (stores n) y l ≡ 0
    node y is l i =
        by-work key (stores n) ((stores n).reads l) (y.states l)
        (λ work. none-with key (stores n) ((stores n).reads l) (λ b r e. no-holder run c m table root stands stores kept f x at a key cell own none n y is l (record { inside = i; work = work; port = b; reads = r; kept = e })))

    go : (o : Option Live) → table n ≡ o → graph_leases key (stores n) o ≡ 0
    go None is = refl
    go (Some y) is = none-lease key (stores n) y y.labels (node y is)

-- ---- one node's state changes

other-node : (key : ℕ) (st : Store) (x : Live) (l : ℕ) (s : State) (n : ℕ) → ¬ (n ≡ l) → node_leases key st (with_state x l s) n ≡ node_leases key st x n
other-node key st x l s n ne = ap (λ z. if is_at_work z then ports_with key st (st.reads n) else 0) (set-other x.states l s n ne)

other-nodes : (key : ℕ) (st : Store) (x : Live) (l : ℕ) (s : State) (ls : List ℕ) → ¬ IsIn l ls → nodes_lease key st (with_state x l s) ls ≡ nodes_lease key st x ls
other-nodes key st x l s [] out = refl
other-nodes key st x l s (n ∷ ls) out =
    same-sum (node_leases key st (with_state x l s) n) (node_leases key st x n) (nodes_lease key st (with_state x l s) ls) (nodes_lease key st x ls)
    (other-node key st x l s n (λ e. out (inl (sym e)))) (other-nodes key st x l s ls (λ i. out (inr i)))

moved-nodes : (key : ℕ) (st : Store) (x : Live) (l : ℕ) (s : State) (ls : List ℕ) → StandsOnce l ls → nodes_lease key st (with_state x l s) ls + node_leases key st x l ≡ nodes_lease key st x ls + node_leases key st (with_state x l s) l
moved-nodes key st x l s [] once = absurd once
moved-nodes key st x l s (n ∷ ls) (inl once) =
    moved-here (node_leases key st (with_state x l s) n) (node_leases key st x n) (nodes_lease key st (with_state x l s) ls) (nodes_lease key st x ls) (node_leases key st (with_state x l s) l) (node_leases key st x l)
    (ap (node_leases key st (with_state x l s)) (sym once.0)) (ap (node_leases key st x) (sym once.0)) (other-nodes key st x l s ls once.1)
moved-nodes key st x l s (n ∷ ls) (inr once) =
    moved-later (node_leases key st (with_state x l s) n) (node_leases key st x n) (nodes_lease key st (with_state x l s) ls) (nodes_lease key st x ls) (node_leases key st (with_state x l s) l) (node_leases key st x l)
    (other-node key st x l s n (λ e. once.0 (sym e))) (moved-nodes key st x l s ls once.1)

-- tables that have the same graphs at the first places
same-leases : (key : ℕ) (table other : Table) (stores : ℕ → Store) (n : ℕ) → ((h : ℕ) → h < n → other h ≡ table h) → leases key other stores n ≡ leases key table stores n
same-leases key table other stores zero h = refl
same-leases key table other stores (suc n) h =
    same-sum (leases key other stores n) (leases key table stores n) (graph_leases key (stores n) (other n)) (graph_leases key (stores n) (table n))
    (same-leases key table other stores n (λ i lt. h i (omega (arith, lt)))) (ap (graph_leases key (stores n)) (h n (omega arith)))

pub leases-moved : AreLeasesMoved
leases-moved key table stores f l zero x s at once lt = absurd (omega (arith, lt))
leases-moved key table stores f l (suc n) x s at once lt = go (ℕ_discrete n f) (λ lt. leases-moved key table stores f l n x s at once lt)
  where
    go : Dec (n ≡ f) → (f < n → leases key (put table f (Some (with_state x l s))) stores n + node_leases key (stores f) x l ≡ leases key table stores n + node_leases key (stores f) (with_state x l s) l)
        → leases key (put table f (Some (with_state x l s))) stores (suc n) + node_leases key (stores f) x l ≡ leases key table stores (suc n) + node_leases key (stores f) (with_state x l s) l
    go (yes e) rec =
        moved-later (leases key (put table f (Some (with_state x l s))) stores n) (leases key table stores n) (graph_leases key (stores n) (put table f (Some (with_state x l s)) n)) (graph_leases key (stores n) (table n)) (node_leases key (stores f) (with_state x l s) l) (node_leases key (stores f) x l)
        (same-leases key table (put table f (Some (with_state x l s))) stores n (λ h below. put-other table f (Some (with_state x l s)) h (λ q. omega (arith, below, q, e))))
        (subst (λ z. graph_leases key (stores z) (put table f (Some (with_state x l s)) z) + node_leases key (stores f) x l ≡ graph_leases key (stores z) (table z) + node_leases key (stores f) (with_state x l s) l) (sym e) here)
      where
        here : graph_leases key (stores f) (put table f (Some (with_state x l s)) f) + node_leases key (stores f) x l ≡ graph_leases key (stores f) (table f) + node_leases key (stores f) (with_state x l s) l
        here =
            ap (λ o. graph_leases key (stores f) o + node_leases key (stores f) x l) (put-same table f (Some (with_state x l s)))
            ∙ (moved-nodes key (stores f) x l s x.labels once
            ∙ ap (λ o. graph_leases key (stores f) o + node_leases key (stores f) (with_state x l s) l) (sym at))
    go (no ne) rec =
        moved-before (leases key (put table f (Some (with_state x l s))) stores n) (leases key table stores n) (graph_leases key (stores n) (put table f (Some (with_state x l s)) n)) (graph_leases key (stores n) (table n)) (node_leases key (stores f) (with_state x l s) l) (node_leases key (stores f) x l)
        (rec (below f n lt (λ q. ne (sym q)))) (ap (graph_leases key (stores n)) (put-other table f (Some (with_state x l s)) n ne))
      where
        below : (f n : ℕ) → f < suc n → ¬ (f ≡ n) → f < n
        below f n lt ne = omega (arith, lt, ne)

-- ---- one port changes

pub same-with : (key : ℕ) (s t : Store) (ports : List Port) → ((a : Port) → IsRead a ports → t.cell a ≡ s.cell a) → ports_with key t ports ≡ ports_with key s ports
same-with key s t [] h = refl
same-with key s t (a ∷ ports) h =
    same-sum (one_if (has_key key (t.cell a))) (one_if (has_key key (s.cell a))) (ports_with key t ports) (ports_with key s ports)
    (ap (λ o. one_if (has_key key o)) (h a (inl refl))) (same-with key s t ports (λ b r. h b (inr r)))

same-work : (key : ℕ) (s t : Store) (ports other : List Port) (st : State) → (IsAtWork st → ports_with key t other ≡ ports_with key s ports) → (if is_at_work st then ports_with key t other else 0) ≡ (if is_at_work st then ports_with key s ports else 0)
same-work key s t ports other Waiting h = refl
same-work key s t ports other Claimed h = h tt
same-work key s t ports other (Within k g) h = h tt
same-work key s t ports other (GoingOn k os) h = h tt
same-work key s t ports other Done h = refl

same-nodes : (key : ℕ) (s t : Store) (x : Live) (ls : List ℕ) → ((l : ℕ) → IsIn l ls → node_leases key t x l ≡ node_leases key s x l) → nodes_lease key t x ls ≡ nodes_lease key s x ls
same-nodes key s t x [] h = refl
same-nodes key s t x (l ∷ ls) h =
    same-sum (node_leases key t x l) (node_leases key s x l) (nodes_lease key t x ls) (nodes_lease key s x ls) (h l (inl refl)) (same-nodes key s t x ls (λ n i. h n (inr i)))

pub leases-kept : AreLeasesKept
leases-kept key table stores others f a differ none zero = refl
leases-kept key table stores others f a differ none (suc n) =
    same-sum (leases key table others n) (leases key table stores n) (graph_leases key (others n) (table n)) (graph_leases key (stores n) (table n)) (leases-kept key table stores others f a differ none n) (go (table n) refl)
  where
    port : (y : Live) → table n ≡ Some y → (l : ℕ) → IsIn l y.labels → IsAtWork (y.states l) → (b : Port) → IsRead b ((stores n).reads l) → ¬ ((n ≡ f) × (b ≡ a))
    port y is l i work b r q =
        none y (ap table (sym q.0) ∙ is) l i (subst (λ z. IsRead a ((stores z).reads l)) q.0 (subst (λ z. IsRead z ((stores n).reads l)) q.1 r)) work

    node : (y : Live) → table n ≡ Some y → (l : ℕ) → IsIn l y.labels → node_leases key (others n) y l ≡ node_leases key (stores n) y l
    node y is l i =
        same-work key (stores n) (others n) ((stores n).reads l) ((others n).reads l) (y.states l)
        (λ work. ap (ports_with key (others n)) (differ.reads n l) ∙ same-with key (stores n) (others n) ((stores n).reads l) (λ b r. (differ.cells n b (port y is l i work b r)).0))

    go : (o : Option Live) → table n ≡ o → graph_leases key (others n) o ≡ graph_leases key (stores n) o
    go None is = refl
    go (Some y) is = same-nodes key (stores n) (others n) y y.labels (node y is)

-- ---- a graph comes or goes

idle-none : (key : ℕ) (s : Store) (y : Live) → IsIdle y → graph_leases key s (Some y) ≡ 0
idle-none key s y idle = none-lease key s y y.labels (λ l i. by-work key s (s.reads l) (y.states l) (λ work. absurd (idle l i work)))

-- the sum is the same where each place has the same
by-places : (key : ℕ) (table other : Table) (stores others : ℕ → Store) (n : ℕ) → ((h : ℕ) → graph_leases key (others h) (other h) ≡ graph_leases key (stores h) (table h)) → leases key other others n ≡ leases key table stores n
by-places key table other stores others zero h = refl
by-places key table other stores others (suc n) h =
    same-sum (leases key other others n) (leases key table stores n) (graph_leases key (others n) (other n)) (graph_leases key (stores n) (table n)) (by-places key table other stores others n h) (h n)

pub idle-not-leased : AreAllIdleNotLeased
idle-not-leased key table g y idle =
    record {
      added = λ stores others vacant same n. by-places key table (put table g (Some y)) stores others n (λ h. added stores others vacant same h (ℕ_discrete h g));
      left = λ stores at n. by-places key table (put table g None) stores stores n (λ h. left stores at h (ℕ_discrete h g));
    }
  where
    added : (stores others : ℕ → Store) → table g ≡ None → ((h : ℕ) → ¬ (h ≡ g) → others h ≡ stores h) → (h : ℕ) → Dec (h ≡ g) → graph_leases key (others h) (put table g (Some y) h) ≡ graph_leases key (stores h) (table h)
    added stores others vacant same h (yes e) =
        ap (graph_leases key (others h)) (ap (put table g (Some y)) e ∙ put-same table g (Some y))
        ∙ (idle-none key (others h) y idle
        ∙ sym (ap (graph_leases key (stores h)) (ap table e ∙ vacant)))
    added stores others vacant same h (no ne) =
        ap (graph_leases key (others h)) (put-other table g (Some y) h ne) ∙ ap (λ s. graph_leases key s (table h)) (same h ne)

    left : (stores : ℕ → Store) → table g ≡ Some y → (h : ℕ) → Dec (h ≡ g) → graph_leases key (stores h) (put table g None h) ≡ graph_leases key (stores h) (table h)
    left stores at h (yes e) =
        ap (graph_leases key (stores h)) (ap (put table g None) e ∙ put-same table g None)
        ∙ sym (ap (graph_leases key (stores h)) (ap table e ∙ at) ∙ idle-none key (stores h) y idle)
    left stores at h (no ne) = ap (graph_leases key (stores h)) (put-other table g None h ne)
