-- What lists of places and of labels say of the ordering edges so far.
use Rattle.std.specs.Prelude.{◌≡◌, ℕ, zero, suc, drop, ◌∷◌, ◌<◌, ◌≤◌, true, ◌↔◌, ◌⊎◌, List, [], length, slice_index, slice_index_or, All, Contains}
use Rattle.std.specs.List.{list_any}
use Rattle.std.specs.List.Sorted.{IsStrictlyIncreasing}
use Rattle.if1_graph.specs.declared.graph.Graph.{Graph}
use Rattle.if1_order.specs.Orders.{node_labels}
use Rattle.if1_order.specs.Walks.{Lists, Leads}
use Rattle.if1_order.specs.Feeders.{IsPlace}
use Rattle.if1_reach.specs.Searches.{IsWay}
use Rattle.if1_reach.specs.Least.{IsInStretch}
use Rattle.if1_reach.specs.Nets.{IsNet}
use Rattle.marks_made.specs.Made.{Orders, links, is_order}
use Rattle.take_marks.specs.Told.{told, is_light}

-- the lists of places have the edges of the graph and the ordering edges, those of labels the ordering edges alone
pub record Stands (g : Graph) (os : Orders) (lists : Lists) (befores : List (List ℕ)) : Type 0 where
  pub net : IsNet (node_labels g) lists (links g os)
  pub fit : length befores ≡ length (node_labels g)
  pub listed : (t l : ℕ) → t < length (node_labels g) → Contains (slice_index_or befores t []) l ↔ (list_any (is_order l (slice_index (node_labels g) t)) os ≡ true)

-- the places of these labels, in order
pub record ArePlaces (labels ls places : List ℕ) : Type 0 where
  pub fit : length places ≡ length ls
  pub are : (k : ℕ) → k < length ls → IsPlace labels (slice_index places k) (slice_index ls k)

-- a way from a place to one of these
pub record IsBlockedBy (lists : Lists) (t : ℕ) (places way : List ℕ) : Type 0 where
  pub user : ℕ
  pub there : user < length places
  pub is : IsWay lists t (slice_index places user) way

abbrev pub IsFree : Lists → ℕ → List ℕ → Type 0
IsFree lists t places = (k : ℕ) → k < length places → ¬ Leads lists t (slice_index places k)

-- the greatest number of a label
abbrev pub top : ℕ
top = 4294967295

-- in a stretch the taker weighs nothing, each other user its label, and all others too much
pub record AreWeights (lists : Lists) (ranks : List ℕ) (first end t : ℕ) (ls places weights : List ℕ) : Type 0 where
  pub fit : length weights ≡ length lists
  pub taker : slice_index weights t ≡ 0
  pub users : (k : ℕ) → k < length ls → slice_index weights (slice_index places k) ≡ slice_index ls k
  pub others : (x : ℕ) → IsInStretch lists ranks first end x →
      (x ≡ t) ⊎ (((k : ℕ) × (k < length ls) × (x ≡ slice_index places k)) ⊎ (slice_index weights x ≡ top))

-- the weights of the places of these ranks are the greatest number, the others as they were
pub record AreCleared (order : List ℕ) (first end : ℕ) (old new : List ℕ) : Type 0 where
  pub fit : length new ≡ length old
  pub clear : (k : ℕ) → first ≤ k → k < end → slice_index new (slice_index order k) ≡ top

-- the places of users weigh their labels, others what they did
pub record AreWeighed (users places old new : List ℕ) : Type 0 where
  pub fit : length new ≡ length old
  pub users_are : (k : ℕ) → k < length users → slice_index new (slice_index places k) ≡ slice_index users k
  pub others_are : (x : ℕ) → (slice_index new x ≡ slice_index old x) ⊎ ((k : ℕ) × (k < length users) × (x ≡ slice_index places k))

abbrev pub AreRankedBefore : List ℕ → ℕ → List ℕ → Type 0
AreRankedBefore ranks t places = All (λ p. slice_index ranks p < slice_index ranks t) places

-- ---- the users of a taker, one after another

-- those before the n-th, the last one first
abbrev pub past : List ℕ → ℕ → List ℕ
past ls zero = []
past ls (suc n) = slice_index ls n ∷ past ls n

-- labels of nodes that do not fall
pub record AreRising (ls : List ℕ) : Type 0 where
  pub least : (k : ℕ) → k < length ls → 1 ≤ slice_index ls k
  pub up : (i j : ℕ) → i ≤ j → j < length ls → slice_index ls i ≤ slice_index ls j

-- the ordering edges from the first n users are entered
pub record HasEntered (ls places : List ℕ) (t : ℕ) (weights : List ℕ) (n : ℕ) (old : Lists) (oldest : List (List ℕ)) (lists : Lists) (befores : List (List ℕ)) : Type 0 where
  pub fit : length lists ≡ length old
  pub fits : length befores ≡ length oldest
  pub told_so : (g : Graph) (os : Orders) (taker : ℕ) → IsStrictlyIncreasing (node_labels g) → ArePlaces (node_labels g) ls places → IsPlace (node_labels g) t taker → AreRising ls → Stands g os old oldest →
      (now : Orders) × Stands g now lists befores × (told (is_light (node_labels g) weights) taker (past ls n) (drop n ls) now ≡ told (is_light (node_labels g) weights) taker [] ls os)
  pub fed : (s u : ℕ) → Contains (slice_index_or lists u []) s → Contains (slice_index_or old u []) s ⊎ ((u ≡ t) × ((k : ℕ) × (k < length ls) × (s ≡ slice_index places k)))
