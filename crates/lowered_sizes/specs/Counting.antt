-- How much is lowered, by numbers alone: nodes, graphs, ports and values, one phrase after another and in graphs of their own (IF1
-- manual M-170, compound nodes).
use Rattle.std.specs.Prelude.{ℕ, suc, ◌+◌, min, max, List, [], ◌∷◌}
use Rattle.lowered_sizes.specs.declared.sizes.Sizes.{Sizes}

-- what a phrase becomes, by how many names are in force
abbrev pub Sizing : Type 0
Sizing = (names : ℕ) → Sizes

-- values, and no node
abbrev pub only : ℕ → Sizes
only values = record { nodes = 0; graphs = 0; largest = 0; ports = 0; values = values }

-- the same with so many values
abbrev pub valued : ℕ → Sizes → Sizes
valued values s = record { nodes = s.nodes; graphs = s.graphs; largest = s.largest; ports = s.ports; values = values }

-- one after the other, with the values of the second
abbrev pub joined : Sizes → Sizes → Sizes
joined a b = record { nodes = a.nodes + b.nodes; graphs = a.graphs + b.graphs; largest = max a.largest b.largest; ports = a.ports + b.ports; values = b.values }

-- with the values of both
abbrev pub beside : Sizes → Sizes → Sizes
beside a b = valued (a.values + b.values) (joined a b)

-- the second by the number of values of the first
abbrev pub behind : Sizes → (ℕ → Sizes) → Sizes
behind a f = joined a (f a.values)

-- a node without graphs inside
abbrev pub a_node : (operands values : ℕ) → Sizes
a_node operands values = record { nodes = 1; graphs = 0; largest = 0; ports = suc operands; values = values }

-- ---- compound nodes

-- a graph of its own, with the graphs inside of it
abbrev pub part : Sizes → Sizes
part s = record { nodes = 0; graphs = suc s.graphs; largest = max s.nodes s.largest; ports = s.ports + s.values; values = 0 }

abbrev pub parts : List Sizes → Sizes
parts [] = only 0
parts (s ∷ ss) = joined (part s) (parts ss)

-- a node with these graphs inside
abbrev pub whole : List Sizes → ℕ → Sizes
whole ss values = joined (parts ss) (a_node values values)

-- ---- numbers that are kept up to the greatest of 128 bits

abbrev pub most : ℕ
most = 340282366920938463463374607431768211455

abbrev pub capped : ℕ → ℕ
capped n = min n most

abbrev pub capped_sizes : Sizes → Sizes
capped_sizes s = record { nodes = capped s.nodes; graphs = capped s.graphs; largest = capped s.largest; ports = capped s.ports; values = capped s.values }
