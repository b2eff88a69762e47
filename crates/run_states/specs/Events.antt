-- What each claim and each finish leaves of a table: one node's state changes, a graph may be added, or one is left.
use Rattle.std.specs.Prelude.{◌≡◌, ℕ, suc, true, false, [], ◌∷◌, Some, None}
use Rattle.graph_meaning.specs.Entered.{Item, Node, IsIn}
use Rattle.graph_meaning.specs.Histories.{Run, Exists}
use Rattle.run_states.specs.Standing.{Test, plug, label_of, AtLeast, IsOuter, Status, Open, Taken, Finished, Opens, State, Claimed, Within, GoingOn, Done, Stands, IsAmong, GoesOn, IsMadeTo, Live, Table, tests_at, IsBusy, TableStands, AreBusy, ReadyAs, or_item, mark, taken, with_state, changed, closed, IsNew}

-- an item of this node of a live graph, and of none of the graphs that it enters
pub record IsOwn (table : Table) (f : ℕ) (x : Live) (l : ℕ) (e : Item) : Type 0 where
  pub found : table f ≡ Some x
  pub inside : IsIn l x.labels
  pub outer : IsOuter e
  pub own : label_of e ≡ l

-- these were claimed or made, and this item of a live graph too
abbrev pub also : Live → Item → Test → Test
also x e t = or_item (plug x.path e) t

-- ---- a claim

-- a ready item is claimed
abbrev pub IsClaimKept : Type 0
IsClaimKept = (run : Run) (c m : Test) (table : Table) (root f l : ℕ) (x : Live) (e : Item) → TableStands run c m table root → IsOwn table f x l e
    → ReadyAs x l (x.states l) e
    → TableStands run (also x e c) m (changed table f x l (taken (x.states l) e) 0 None) root

-- ---- finishes

-- What each finish of a claimed item leaves, by the state of its node.
pub record AreFinishesKept (run : Run) (c m : Test) (table : Table) (root f l : ℕ) (x : Live) (e : Item) : Type 0 where
  -- a node that has no other item
  pub simple_node : x.states l ≡ Claimed → e ≡ Node l → x.last l ≡ Node l → ((i : Item) → Exists x.run i → label_of i ≡ l → i ≡ Node l)
      → TableStands run c (also x e m) (changed table f x l Done 0 None) root
  -- a node that enters its first graph
  pub first_graph : (g : ℕ) (y : Live) → x.states l ≡ Claimed → e ≡ Node l → ¬ (e ≡ x.last l) → IsNew c (also x e m) table x l 0 g y
      → TableStands run c (also x e m) (changed table f x l (Within 0 g) g (Some y)) root
  -- the entry of a further graph
  pub next_graph : (k g : ℕ) (y : Live) → x.states l ≡ GoingOn k ((e, Taken) ∷ []) → ¬ AtLeast (suc k) e → ¬ (e ≡ x.last l) → IsNew c (also x e m) table x l k g y
      → TableStands run c (also x e m) (changed table f x l (Within k g) g (Some y)) root
  -- a slice, where another one is not finished
  pub a_slice : (k : ℕ) (os : Opens) → x.states l ≡ GoingOn k os → IsAmong e os → ¬ (e ≡ x.last l) → ((j : Item) × ((s : Status) × Stands j s (mark e Finished os) × ¬ (s ≡ Finished)))
      → TableStands run c (also x e m) (changed table f x l (GoingOn k (mark e Finished os)) 0 None) root
  -- the last slice, or what enters a graph that has no node: the node goes on at once
  pub goes_on : (k : ℕ) (os : Opens) → ((n h : ℕ) → x.states l ≡ Within n h → ⊥)
      → IsMadeTo x.run (tests_at x.path (also x e m)) l (suc k)
      → ((i : Item) → label_of i ≡ l → AtLeast (suc k) i → tests_at x.path c i ≡ false)
      → tests_at x.path m (x.last l) ≡ false
      → ¬ (e ≡ x.last l)
      → GoesOn x.run l (suc k) os
      → ((j : Item) (s : Status) → Stands j s os → s ≡ Open)
      → (j : Item)
      → Stands j Open os
      → TableStands run c (also x e m) (changed table f x l (GoingOn (suc k) os) 0 None) root
  -- the leaving
  pub leaving : (k : ℕ) (os : Opens) → x.states l ≡ GoingOn k os → e ≡ x.last l → ((i : Item) → Exists x.run i → label_of i ≡ l → AtLeast k i → i ≡ e)
      → TableStands run c (also x e m) (changed table f x l Done 0 None) root

abbrev pub AreAllFinishesKept : Type 0
AreAllFinishesKept = (run : Run) (c m : Test) (table : Table) (root f l : ℕ) (x : Live) (e : Item) → TableStands run c m table root → IsOwn table f x l e
    → tests_at x.path c e ≡ true
    → AreFinishesKept run c m table root f l x e

-- ---- what no entry says

-- All nodes of a graph are done: it leaves the table, and the node above goes on.
abbrev pub IsClosingKept : Type 0
IsClosingKept = (run : Run) (c m : Test) (table : Table) (root f l k g : ℕ) (x y : Live) (os : Opens) → TableStands run c m table root
    → table f ≡ Some x
    → IsIn l x.labels
    → x.states l ≡ Within k g
    → table g ≡ Some y
    → ((n : ℕ) → IsIn n y.labels → y.states n ≡ Done)
    → GoesOn x.run l (suc k) os
    → ((e : Item) (s : Status) → Stands e s os → s ≡ Open)
    → ((e : Item) × Stands e Open os)
    → TableStands run c m (closed table f x l (GoingOn (suc k) os) g) root

-- ---- who is busy

-- where the node's graph has a node that is not done, or is the first one, and an added graph has one
abbrev pub IsBusyKept : Type 0
IsBusyKept = (table : Table) (f l : ℕ) (x : Live) (s : State) → AreBusy table → (¬ (x.path ≡ []) → IsBusy (with_state x l s))
    → AreBusy (changed table f x l s 0 None) × ((g : ℕ) (y : Live) → IsBusy y → AreBusy (changed table f x l s g (Some y))) × ((g : ℕ) → AreBusy (closed table f x l s g))
