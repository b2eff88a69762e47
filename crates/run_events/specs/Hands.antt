-- What the nodes of live graphs have in their hands: aggregates that a graph which was left has given, and that go on into the next one
-- or into the node's own ports. Each aggregate that is kept has one place: a port that owns it, or one in the hands of one node.
use Rattle.std.specs.Prelude.{◌≡◌, ℕ, Bool, true, ◌∷◌, ◌⊎◌, Option, Some, None}
use Rattle.graph_meaning.specs.Entered.{IsIn}
use Rattle.graph_meaning.specs.Histories.{Run}
use Rattle.run_states.specs.Standing.{Test, State, Within, Live, Table, TableStands, put, changed, closed}
use Rattle.run_states.specs.Storing.{Kept, Port, Owned, Lent, Store, IsRead, IsAtWork, StoresStand, NoReader}
use Rattle.run_states.specs.Moving.{IsNotWithin, DifferAt, IsUnowned}
use Rattle.run_states.specs.Leasing.{leases}

-- the keys in the hands of each node, by the place of its live graph, its label, and what they are there: (0, i) was taken at its port
-- i, and (1, i) is the i-th value that goes on, a loop value or a result of the graph that was left
abbrev pub Hand : Type 0
Hand = ℕ × ℕ

abbrev pub Hands : Type 0
Hands = (place label : ℕ) → Hand → Option ℕ

-- a node of a live graph has this key in its hands
pub record HasInHand (table : Table) (hands : Hands) (f l : ℕ) (i : Hand) (key : ℕ) : Type 0 where
  pub live : Live
  pub found : table f ≡ Some live
  pub inside : IsIn l live.labels
  pub has : hands f l i ≡ Some key

-- no port owns the key, and no node has it in its hands
pub record IsFree (table : Table) (stores : ℕ → Store) (hands : Hands) (key : ℕ) : Type 0 where
  pub unowned : IsUnowned table stores key
  pub in_no_hand : (f l : ℕ) (i : Hand) → ¬ HasInHand table hands f l i key

pub record HandsStand (table : Table) (stores : ℕ → Store) (hands : Hands) : Type 0 where
  pub ports : StoresStand table stores
  -- what is in the hands of a node no port owns
  pub unowned : (f l : ℕ) (i : Hand) (key : ℕ) → HasInHand table hands f l i key → IsUnowned table stores key
  -- and it is there once
  pub once : (f l : ℕ) (i : Hand) (g n : ℕ) (j : Hand) (key : ℕ) → HasInHand table hands f l i key → HasInHand table hands g n j key → (f ≡ g) × (l ≡ n) × (i ≡ j)
  -- a node that is not at work has nothing in its hands
  pub at_work : (f l : ℕ) (i : Hand) (key : ℕ) (h : HasInHand table hands f l i key) → IsAtWork (h.live.states l)

-- ---- changes

-- the hands of all other nodes are as before
abbrev pub OtherHandsSame : Hands → Hands → ℕ → ℕ → Type 0
OtherHandsSame hands others f l = (g n : ℕ) (i : Hand) → ¬ ((g ≡ f) × (n ≡ l)) → others g n i ≡ hands g n i

-- the key is free, or in the hands of this node
abbrev pub IsAtHand : Table → (ℕ → Store) → Hands → ℕ → ℕ → ℕ → Type 0
IsAtHand table stores hands f l key = IsFree table stores hands key ⊎ ((i : Hand) × HasInHand table hands f l i key)

-- The hands of one node are changed: what it has then it had, or it is free; and each key once.
pub record IsRegrasped (table : Table) (stores : ℕ → Store) (hands others : Hands) (f l : ℕ) : Type 0 where
  pub same : OtherHandsSame hands others f l
  pub has : (i : Hand) (key : ℕ) → others f l i ≡ Some key → IsAtHand table stores hands f l key
  pub once : (i j : Hand) (key : ℕ) → others f l i ≡ Some key → others f l j ≡ Some key → i ≡ j

-- Empty ports of a graph are filled at once, as all outputs of a node are: each by a value, or by an aggregate of its own, which was free
-- or in the hands of the node, and is no more.
pub record AreFilled (table : Table) (stores others : ℕ → Store) (hands after : Hands) (f l : ℕ) (new : Port → Bool) : Type 0 where
  pub cells : (g : ℕ) (a : Port) → ¬ ((g ≡ f) × (new a ≡ true)) → ((others g).cell a ≡ (stores g).cell a) × ((others g).owning a ≡ (stores g).owning a)
  pub reads : (g n : ℕ) → (others g).reads n ≡ (stores g).reads n
  pub empty : (a : Port) → new a ≡ true → (stores f).cell a ≡ None
  pub own : (a : Port) (key : ℕ) → new a ≡ true → (others f).cell a ≡ Some (Kept key) → ((others f).owning a ≡ Owned) × IsAtHand table stores hands f l key
  pub each_own : (a b : Port) (key : ℕ) → new a ≡ true → new b ≡ true → (others f).cell a ≡ Some (Kept key) → (others f).cell b ≡ Some (Kept key) → a ≡ b
  pub hands_same : OtherHandsSame hands after f l
  pub hands_left : (i : Hand) (key : ℕ) → after f l i ≡ Some key → (hands f l i ≡ Some key) × ((a : Port) → new a ≡ true → ¬ ((others f).cell a ≡ Some (Kept key)))

-- A graph is entered: each of its inputs has an aggregate of its own, which was free or in the hands of the node and is no more, or that
-- of a port which the node reads.
pub record IsEntered (table : Table) (stores others : ℕ → Store) (hands after : Hands) (f l g : ℕ) : Type 0 where
  pub stores_same : (h : ℕ) → ¬ (h ≡ g) → others h ≡ stores h
  pub own : (a : Port) (key : ℕ) → (others g).cell a ≡ Some (Kept key) → (others g).owning a ≡ Owned → IsAtHand table stores hands f l key
  pub each_own : (a b : Port) (key : ℕ) → (others g).cell a ≡ Some (Kept key) → (others g).cell b ≡ Some (Kept key) → (others g).owning a ≡ Owned → (others g).owning b ≡ Owned → a ≡ b
  pub lent : (a : Port) (key : ℕ) → (others g).cell a ≡ Some (Kept key) → (others g).owning a ≡ Lent → (b : Port) × IsRead b ((stores f).reads l) × ((stores f).cell b ≡ Some (Kept key))
  pub empty_hands : (n : ℕ) (i : Hand) → after g n i ≡ None
  pub hands_same : (h n : ℕ) (i : Hand) → ¬ (h ≡ g) → ¬ ((h ≡ f) × (n ≡ l)) → after h n i ≡ hands h n i
  pub hands_left : (i : Hand) (key : ℕ) → after f l i ≡ Some key → (hands f l i ≡ Some key) × ((a : Port) → (others g).cell a ≡ Some (Kept key) → (others g).owning a ≡ Owned → ⊥)

-- A graph is left, and the node above takes over what it wants of it: what it has then in its hands it had, or a port of the graph owned
-- it, or it is free; and each key once.
pub record IsTakenOver (table : Table) (stores : ℕ → Store) (hands after : Hands) (f l g : ℕ) : Type 0 where
  pub same : OtherHandsSame hands after f l
  pub has : (i : Hand) (key : ℕ) → after f l i ≡ Some key → IsAtHand table stores hands f l key ⊎ ((a : Port) × ((stores g).cell a ≡ Some (Kept key)) × ((stores g).owning a ≡ Owned))
  pub once : (i j : Hand) (key : ℕ) → after f l i ≡ Some key → after f l j ≡ Some key → i ≡ j

-- ---- laws

-- So each aggregate has one place at the beginning, and after each event.
pub record AreHandsKept (run : Run) (c m : Test) (table : Table) (root : ℕ) (stores : ℕ → Store) (hands : Hands) : Type 0 where
  -- a state changes: of a claim and a finish that moves no aggregate, and, with empty hands, of a node that is done
  pub moved : (f l : ℕ) (x : Live) (s : State) → table f ≡ Some x → IsNotWithin s → (IsAtWork s ⊎ ((i : Hand) → hands f l i ≡ None)) → HandsStand (changed table f x l s 0 None) stores hands
  -- a port is emptied on which nobody is at work, as by the claim of its taker; its key is free then
  pub taken : (others : ℕ → Store) (f : ℕ) (x : Live) (a : Port) → DifferAt stores others f a → table f ≡ Some x → (others f).cell a ≡ None → NoReader table stores f x a
      → HandsStand table others hands × ((key : ℕ) → (stores f).cell a ≡ Some (Kept key) → (stores f).owning a ≡ Owned → IsFree table others hands key)
  -- a node at work changes what it has in its hands
  pub regrasped : (after : Hands) (f l : ℕ) (x : Live) → table f ≡ Some x → IsAtWork (x.states l) → IsRegrasped table stores hands after f l → HandsStand table stores after
  -- ports are filled
  pub filled : (others : ℕ → Store) (after : Hands) (f l : ℕ) (x : Live) (new : Port → Bool) → table f ≡ Some x → AreFilled table stores others hands after f l new → HandsStand table others after
  -- a graph is entered, with what was taken among its inputs
  pub entered : (others : ℕ → Store) (after : Hands) (f l k g : ℕ) (x y : Live) → TableStands run c m (changed table f x l (Within k g) g (Some y)) root
      → table f ≡ Some x
      → table g ≡ None
      → y.path ≡ (l, k) ∷ x.path
      → ((n : ℕ) → IsNotWithin (y.states n))
      → IsEntered table stores others hands after f l g
      → HandsStand (changed table f x l (Within k g) g (Some y)) others after
  -- a graph is left
  pub left : (after : Hands) (f l g : ℕ) (x y : Live) (s : State) → table f ≡ Some x → table g ≡ Some y → ¬ (f ≡ g) → IsNotWithin s → IsAtWork s
      → IsTakenOver table stores hands after f l g
      → HandsStand (closed table f x l s g) stores after

abbrev pub AreAllHandsKept : Type 0
AreAllHandsKept = (run : Run) (c m : Test) (table : Table) (root : ℕ) (stores : ℕ → Store) (hands : Hands) → HandsStand table stores hands → AreHandsKept run c m table root stores hands

-- at the beginning of a run no node has anything in its hands
abbrev pub DoHandsBegin : Type 0
DoHandsBegin = (stores : ℕ → Store) (x : Live)
    → ((a : Port) (key : ℕ) → (stores 0).cell a ≡ Some (Kept key) → ((stores 0).owning a ≡ Owned) × ((b : Port) → (stores 0).cell b ≡ Some (Kept key) → a ≡ b))
    → HandsStand (put (λ f. None) 0 (Some x)) stores (λ f l i. None)

-- Of a key that no port owns, as one in the hands of a node is and a free one, no node has a lease.
abbrev pub AreUnownedNotLeased : Type 0
AreUnownedNotLeased = (run : Run) (c m : Test) (table : Table) (root : ℕ) (stores : ℕ → Store) (key : ℕ) → TableStands run c m table root → StoresStand table stores
    → IsUnowned table stores key
    → (n : ℕ)
    → leases key table stores n ≡ 0
