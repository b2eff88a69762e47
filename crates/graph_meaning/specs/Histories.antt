-- Histories of a run: lists of what workers claim and finish, in any order that the items allow, and how a run ends. A
-- history has its last entry first.
use Rattle.std.specs.Prelude.{◌≡◌, ℕ, ◌+◌, ◌<◌, ◌≤◌, Bool, true, false, ◌||◌, List, [], ◌∷◌, ◌⊎◌, ◌↔◌, Option, Some}
use native.Mathlib.Decide.{ℕ_discrete}
use mathlib.Core.Bool.{Bool-discrete}
use Rattle.graph_meaning.specs.Entered.{Entered, Item, Node, Entry, Slice, Leave, Inside, item_discrete, entry_fires, Has, ComesAfter, IsWhole, all_firings}

-- a run, as the trees of what it enters at each depth
abbrev pub Run : Type 0
Run = ℕ → Entered

abbrev pub Exists : Run → Item → Type 0
Exists run i = (n : ℕ) × (w : Option ℕ) × Has (run n) i w

abbrev pub OwnFirings : Run → Item → ℕ → Type 0
OwnFirings run i c = (n : ℕ) × Has (run n) i (Some c)

-- some depth shows that the first comes after the second
abbrev pub Follows : Run → Item → Item → Type 0
Follows run i j = (n : ℕ) × ComesAfter (run n) i j

-- some depth gives the whole tree, with so many firings
abbrev pub Cost : Run → ℕ → Type 0
Cost run c = (n : ℕ) × IsWhole (run n) × (all_firings (run n) ≡ c)

-- `Made` tells the firings that are counted at the finish: those of a slice, and none of another item
pub data Outcome : Type 0 where
  Made : (firings : ℕ) → Outcome
  OverLimit : Outcome
  NoMemory : Outcome

pub data EndKind : Type 0 where
  Results : EndKind
  TurnLimit : EndKind
  OutOfMemory : EndKind

pub data Event : Type 0 where
  Claim : (worker : ℕ) (item : Item) → Event
  Idle : (worker : ℕ) → Event
  Ended : (worker : ℕ) (kind : EndKind) → Event
  Finish : (worker : ℕ) (item : Item) (outcome : Outcome) → Event

-- the last entry first
abbrev pub History : Type 0
History = List Event

-- the firings that are counted at an item's claim
abbrev pub early : Item → ℕ
early (Node l) = 1
early (Entry t l k) = entry_fires t
early (Slice l k r) = 0
early (Leave l) = 0
early (Inside l k i) = early i

abbrev pub is_slice : Item → Bool
is_slice (Node l) = false
is_slice (Entry t l k) = false
is_slice (Slice l k r) = true
is_slice (Leave l) = false
is_slice (Inside l k i) = is_slice i

pub dec_item : (i j : Item) → Dec (i ≡ j)
dec_item = item_discrete ℕ_discrete Bool-discrete

abbrev pub is_yes : {A : Type 0} → Dec A → Bool
is_yes (yes a) = true
is_yes (no a) = false

abbrev pub is_item : Item → Item → Bool
is_item i j = is_yes (dec_item i j)

abbrev pub count : History → ℕ
count [] = 0
count (Claim w i ∷ h) = early i + count h
count (Finish w i (Made n) ∷ h) = n + count h
count (_ ∷ h) = count h

abbrev pub claims : Event → Item → Bool
claims (Claim w j) i = is_item i j
claims (Idle w) i = false
claims (Ended w k) i = false
claims (Finish w j o) i = false

abbrev pub finishes : Event → Item → Bool
finishes (Claim w j) i = false
finishes (Idle w) i = false
finishes (Ended w k) i = false
finishes (Finish w j o) i = is_item i j

abbrev pub makes : Event → Item → Bool
makes (Finish w j (Made n)) i = is_item i j
makes _ i = false

abbrev pub is_claimed : History → Item → Bool
is_claimed [] i = false
is_claimed (e ∷ h) i = claims e i || is_claimed h i

abbrev pub is_finished : History → Item → Bool
is_finished [] i = false
is_finished (e ∷ h) i = finishes e i || is_finished h i

-- finished with `Made`
abbrev pub is_made : History → Item → Bool
is_made [] i = false
is_made (e ∷ h) i = makes e i || is_made h i

abbrev pub ClaimedBy : History → ℕ → Item → Type 0
ClaimedBy [] w i = ⊥
ClaimedBy (Claim v j ∷ h) w i = ((v ≡ w) × (j ≡ i)) ⊎ ClaimedBy h w i
ClaimedBy (_ ∷ h) w i = ClaimedBy h w i

-- the item exists, was not claimed, and all that it comes after is made
abbrev pub Claimable : Run → History → Item → Type 0
Claimable run h i = Exists run i × (is_claimed h i ≡ false) × ((j : Item) → Follows run i j → is_made h j ≡ true)

abbrev pub AllMade : Run → History → Type 0
AllMade run h = (i : Item) → Exists run i → is_made h i ≡ true

-- the finish ends a history that had not ended: the limit is looked at first, then want of memory, then the results
abbrev pub FinishEnds : Run → ℕ → History → ℕ → Item → Outcome → EndKind → Type 0
FinishEnds run limit h w i (Made n) Results = (n + count h ≤ limit) × AllMade run (Finish w i (Made n) ∷ h)
FinishEnds run limit h w i (Made n) TurnLimit = limit < n + count h
FinishEnds run limit h w i OverLimit TurnLimit = Unit {0}
FinishEnds run limit h w i NoMemory OutOfMemory = Unit {0}
FinishEnds run limit h w i _ _ = ⊥

abbrev pub EndsWith : Run → ℕ → History → Event → EndKind → Type 0
EndsWith run limit h (Claim w i) kind = ⊥
EndsWith run limit h (Idle w) kind = ⊥
EndsWith run limit h (Ended w k) kind = kind ≡ k
EndsWith run limit h (Finish w i o) kind = FinishEnds run limit h w i o kind

-- a run with no item has ended before its first entry
abbrev pub HasEnded : Run → ℕ → History → EndKind → Type 0
HasEnded run limit [] kind = (kind ≡ Results) × AllMade run []
HasEnded run limit (e ∷ h) kind =
    HasEnded run limit h kind ⊎ (((k : EndKind) → HasEnded run limit h k → ⊥) × EndsWith run limit h e kind)

abbrev pub IsOn : Run → ℕ → History → Type 0
IsOn run limit h = (k : EndKind) → HasEnded run limit h k → ⊥

abbrev pub MadeWith : Run → ℕ → Item → ℕ → Bool → Type 0
MadeWith run limit i n true = OwnFirings run i n × (n ≤ limit)
MadeWith run limit i n false = n ≡ 0

-- what work may give
abbrev pub Gives : Run → ℕ → Item → Outcome → Type 0
Gives run limit i (Made n) = MadeWith run limit i n (is_slice i)
Gives run limit i OverLimit = (is_slice i ≡ true) × ((n : ℕ) → OwnFirings run i n → limit < n)
Gives run limit i NoMemory = Unit {0}

-- a claim ends the history for the limit, or for want of memory
abbrev pub ClaimEnds : Run → ℕ → History → EndKind → Type 0
ClaimEnds run limit h Results = ⊥
ClaimEnds run limit h TurnLimit = (i : Item) × Claimable run h i × (limit < early i + count h)
ClaimEnds run limit h OutOfMemory = Unit {0}

abbrev pub Allowed : Run → ℕ → History → Event → Type 0
Allowed run limit h (Claim w i) = IsOn run limit h × Claimable run h i × (early i + count h ≤ limit)
Allowed run limit h (Idle w) = IsOn run limit h × ((i : Item) → Claimable run h i → ⊥)
Allowed run limit h (Ended w k) = HasEnded run limit h k ⊎ (IsOn run limit h × ClaimEnds run limit h k)
Allowed run limit h (Finish w i o) = ClaimedBy h w i × (is_finished h i ≡ false) × Gives run limit i o

abbrev pub Legal : Run → ℕ → History → Type 0
Legal run limit [] = Unit {0}
Legal run limit (e ∷ h) = Legal run limit h × Allowed run limit h e

-- each claimed item is finished
abbrev pub IsSettled : History → Type 0
IsSettled h = (i : Item) → is_claimed h i ≡ true → is_finished h i ≡ true

-- the history has ended, and each claimed item is finished
abbrev pub IsComplete : Run → ℕ → History → Type 0
IsComplete run limit h = ((k : EndKind) × HasEnded run limit h k) × IsSettled h

-- Every legal complete history that does not end for want of memory ends with Results exactly where the cost is at most
-- the limit, and with TurnLimit exactly where the cost is above the limit or not defined.
-- With Results, the count is the cost. Where the cost is at most the limit, a legal history that has ended, complete or not and
-- not for want of memory, has ended with Results.
pub record IsConfluent (run : Run) (limit : ℕ) : Type 0 where
  pub results : (h : History) → Legal run limit h → IsComplete run limit h → (HasEnded run limit h OutOfMemory → ⊥) →
      HasEnded run limit h Results ↔ ((c : ℕ) × Cost run c × (c ≤ limit))
  pub turn_limit : (h : History) → Legal run limit h → IsComplete run limit h → (HasEnded run limit h OutOfMemory → ⊥) →
      HasEnded run limit h TurnLimit ↔ ((c : ℕ) → Cost run c → limit < c)
  pub count_is_cost : (h : History) → Legal run limit h → HasEnded run limit h Results → Cost run (count h)
  pub within : (h : History) → Legal run limit h → (HasEnded run limit h OutOfMemory → ⊥) → (c : ℕ) → Cost run c → c ≤ limit → (k : EndKind) → HasEnded run limit h k → HasEnded run limit h Results

-- Some item is claimable as long as the history has not ended and no claimed item is unfinished.
pub record IsNeverStuck (run : Run) (limit : ℕ) : Type 0 where
  pub some_item : (h : History) → Legal run limit h → IsOn run limit h → IsSettled h → (i : Item) × Claimable run h i
