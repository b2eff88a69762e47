-- The nodes to which edges lead from a port, in the order of the edges.
use Rattle.std.specs.Prelude.{◌≡◌, ℕ, ◌<◌, ◌&&◌, nat_eq, List, [], map, filter, length, slice_index_or, Option, Some, None}
use Rattle.if1_graph.specs.declared.graph.Edge.{Edge}
use Rattle.if1_graph.specs.declared.graph.Origin.{Origin}
use Rattle.if1_graph.specs.declared.graph.Origin.TheVariants.{Port, Lit}
use Rattle.if1_graph.specs.Ports.{leaves}
use Rattle.indexmap.specs.IndexMap.{get_by}
use Rattle.if1_reach.specs.declared.users.PortUsers.{PortUsers}

-- the nodes to which edges of the list lead from a port; a literal has no port
abbrev pub users_in : List Edge → Origin → List ℕ
users_in es (Port l port) = map (λ e. e.node) (filter (λ e. leaves l port e.from) es)
users_in es (Lit text) = []

-- ---- in groups

abbrev pub group_at : PortUsers → ℕ → ℕ → Option ℕ
group_at u l port = get_by (λ k. nat_eq l k.0 && nat_eq port k.1) u.groups

abbrev pub group_users : List (List ℕ) → Option ℕ → List ℕ
group_users lists None = []
group_users lists (Some k) = slice_index_or lists k []

-- what was noted at a port
abbrev pub users_at : PortUsers → ℕ → ℕ → List ℕ
users_at u l port = group_users u.lists.items (group_at u l port)

-- each group has a list of its own
pub record AreGrouped (u : PortUsers) : Type 0 where
  pub there : (l port k : ℕ) → group_at u l port ≡ Some k → k < length u.lists.items
  pub apart : (l port m out k : ℕ) → group_at u l port ≡ Some k → group_at u m out ≡ Some k → (l ≡ m) × (port ≡ out)

-- the nodes that were noted are those of these edges
pub record HasUsers (es : List Edge) (u : PortUsers) : Type 0 where
  pub grouped : AreGrouped u
  pub are : (l port : ℕ) → users_at u l port ≡ users_in es (Port l port)
