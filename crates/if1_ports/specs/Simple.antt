-- The ports of simple nodes, tested by what is fed to the node.
use Rattle.std.specs.Prelude.{ℕ, suc, ◌+◌, ◌==◌, ◌&&◌, ◌||◌, not, Bool, true, nat_le, List, length, Option, Some, None}
use Rattle.std.specs.List.{list_all}
use Rattle.if1_graph.specs.declared.op.Simple.{Simple}
use Rattle.if1_graph.specs.declared.op.Simple.TheVariants.{ABuild, AGather}
use Rattle.if1_graph.specs.declared.row.Rest.{Rest}
use Rattle.if1_graph.specs.declared.row.Rest.TheVariants.{Nothing, Mask, More, Arguments, Fields, NewFields}
use Rattle.if1_graph.specs.declared.row.Want.{Want}
use Rattle.if1_graph.specs.declared.row.Want.TheVariants as want
use Rattle.if1_graph.specs.declared.row.Use.{Use}
use Rattle.if1_graph.specs.Rows.{row_of, operand_of}
use Rattle.if1_ports.specs.declared.outline.Outline.{Outline}
use Rattle.if1_ports.specs.declared.outline.Outline.TheVariants.{Record, Union}
use Rattle.if1_ports.specs.declared.fed.Fed.{Fed}
use Rattle.if1_ports.specs.Outlines.{arguments_in, fields_in, is_stream_outline}
use Rattle.if1_ports.specs.Fed.{Types}

-- the ports 1 to n, one edge into each
abbrev pub exactly : Fed → ℕ → Bool
exactly f n = f.counted && (f.count == n)

-- at least so many ports from 1 on
abbrev pub at_least : Fed → ℕ → Bool
at_least f n = f.counted && nat_le n f.count

abbrev pub fits_arguments : Fed → ℕ → Option ℕ → Bool
fits_arguments f k None = at_least f k
fits_arguments f k (Some n) = exactly f (k + n)

-- for what is built, by the type of an edge that leaves it
abbrev pub fits_parts : Fed → Outline → Bool
fits_parts f (Record n) = exactly f n
fits_parts f (Union n) = (f.count == 1) && nat_le f.greatest n
fits_parts f _ = true

abbrev pub is_built : Types → Fed → List ℕ → Bool
is_built o f leaving = (at_least f 1 || (f.count == 1)) && list_all (λ t. fits_parts f (o t)) leaving

abbrev pub fits_fields : Fed → Option ℕ → Bool
fits_fields f None = true
fits_fields f (Some n) = nat_le f.greatest (suc n)

abbrev pub is_changed : Fed → Bool
is_changed f = (f.has_first && f.rising) && fits_fields f (fields_in f.carries)

-- the ports of a node with k operands and then these
abbrev pub is_filled : Types → Fed → List ℕ → ℕ → Rest → Bool
is_filled o f leaving k Nothing = exactly f k
is_filled o f leaving k Mask = exactly f k || exactly f (k + 1)
is_filled o f leaving k (More how want) = at_least f k
is_filled o f leaving k Arguments = fits_arguments f k (arguments_in f.callee)
is_filled o f leaving k Fields = is_built o f leaving
is_filled o f leaving k NewFields = is_changed f

-- the name of a function or reduction is a literal
abbrev pub is_named : Fed → Option (Use × Want) → Bool
is_named f (Some (how, want.Function)) = f.is_literal
is_named f (Some (how, want.Reduction)) = f.is_literal
is_named f _ = true

-- the lower bound of a stream is the literal 1
abbrev pub has_bound : Types → Fed → List ℕ → Bool
has_bound o f leaving = list_all (λ t. not (is_stream_outline (o t)) || f.is_one) leaving

abbrev pub is_bounded : Types → Fed → List ℕ → Simple → Bool
is_bounded o f leaving ABuild = has_bound o f leaving
is_bounded o f leaving AGather = has_bound o f leaving
is_bounded o f leaving _ = true

-- the node, with so many graphs and numbers in its list
abbrev pub is_simple_filled : Types → Fed → List ℕ → Simple → ℕ → ℕ → Bool
is_simple_filled o f leaving op graphs numbers =
    is_filled o f leaving (length (row_of op).operands) (row_of op).rest && is_named f (operand_of op 1) && is_bounded o f leaving op
    && (graphs == 0) && (numbers == 0)
