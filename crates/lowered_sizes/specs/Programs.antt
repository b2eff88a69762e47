-- How large the graphs of a program are, and which function shows that they are too many.
use Rattle.std.specs.Prelude.{ℕ, ◌+◌, ◌||◌, nat_lt, List, [], ◌∷◌, map, length, Option, Some, None, if◌then◌else◌}
use Rattle.type_table.specs.declared.form.Form.{Form}
use Rattle.typed_tree.specs.declared.expr.TypedExpr.{TypedExpr}
use Rattle.typed_tree.specs.declared.program.Function.{Function}
use Rattle.typed_tree.specs.declared.program.Program.{Program}
use Rattle.lowering.specs.TooMany.{most_nodes, most_graphs, most_ports, header_ports}
use Rattle.lowered_sizes.specs.declared.sizes.Sizes.{Sizes}
use Rattle.lowered_sizes.specs.Counting.{Sizing, a_node, part}
use Rattle.lowered_sizes.specs.Forms.{all_sized, sizes}

-- an error of a type
abbrev pub stub_sized : ℕ → Sizing
stub_sized t names = a_node 0 1

module _ (forms : List Form) where
  abbrev pub bodies_sized : Option (List TypedExpr) → List ℕ → List Sizing
  bodies_sized None results = map stub_sized results
  bodies_sized (Some es) results = map (sizes forms) es

  -- the graph of a function, with those inside
  abbrev pub function_sized : Function → Sizes
  function_sized f = part (all_sized (bodies_sized f.body f.results) (length f.params))

  -- the line of the first function that has too large a graph, or with which, and so many of those before it, graphs or ports are too many
  abbrev pub sizes_over : List Function → (graphs ports : ℕ) → Option ℕ
  sizes_over [] graphs ports = None
  sizes_over (f ∷ fs) graphs ports =
      let s = function_sized f in
      if nat_lt most_nodes s.largest || (nat_lt most_graphs (graphs + s.graphs) || nat_lt most_ports (ports + s.ports)) then Some f.line
      else sizes_over fs (graphs + s.graphs) (ports + s.ports)

abbrev pub program_sized : Program → Option ℕ
program_sized p = sizes_over p.types p.functions 0 (header_ports p.functions)
