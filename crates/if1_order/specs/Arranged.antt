-- What a sort of places gives, by labels.
use Rattle.std.specs.Prelude.{◌≡◌, ℕ, ◌<◌, List, map, length, slice_index}
use Rattle.if1_order.specs.declared.arranged.NodeOrder.{NodeOrder}
use Rattle.if1_order.specs.declared.arranged.NodeOrder.TheVariants.{Nodes, Circle}
use Rattle.if1_order.specs.Walks.{Lists, Leads, IsSorted}

abbrev pub Arranges : List ℕ → Lists → NodeOrder → Type 0
Arranges labels lists (Nodes ls) = (os : List ℕ) × IsSorted lists os × (ls ≡ map (slice_index labels) os)
Arranges labels lists (Circle l) = (s : ℕ) × (s < length lists) × Leads lists s s × (l ≡ slice_index labels s)
