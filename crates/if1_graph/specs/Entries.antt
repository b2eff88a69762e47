-- The rows of the table of types (M-170, type table).
use Rattle.std.specs.Prelude.{ℕ, ◌||◌, ◌==◌, nat_le, List, Option, Some, None, if◌then◌else◌}
use Rattle.if1_graph.specs.LineParts.{◌>>=◌, Part}
use Rattle.if1_graph.specs.Numbers.{number_first}
use Rattle.if1_graph.specs.declared.line.EntryForm.{EntryForm}
use Rattle.if1_graph.specs.declared.line.EntryForm.TheVariants.{OneLabel, Basic, Member, Function}

-- 0 array, 1 basic, 2 field, 3 function, 4 multiple, 5 record, 6 stream, 7 tag, 8 tuple, 9 union
abbrev pub entry_form : ℕ → Option EntryForm
entry_form code =
    if (code == 0) || (code == 4) || (code == 5) || (code == 6) || (code == 9) then Some OneLabel
    else (if code == 1 then Some Basic
    else (if (code == 2) || (code == 7) || (code == 8) then Some Member
    else (if code == 3 then Some Function
    else None)))

-- the code of a basic type: 0 boolean, 1 character, 2 double, 3 integer, 4 null, 5 real, 6 wild
abbrev pub basic_code : ℕ × List Part → Option (ℕ × List Part)
basic_code p = if nat_le p.0 6 then Some p else None

-- the numbers behind the code, 0 for one that the form does not have. A list of members ends at label 0, and a
-- function may have the empty list of arguments.
abbrev pub entry_numbers : EntryForm → List Part → Option ((ℕ × ℕ) × List Part)
entry_numbers OneLabel ps = number_first 1 ps >>= λ first. Some ((first.0, 0), first.1)
entry_numbers Basic ps = number_first 0 ps >>= λ first. basic_code first >>= λ first. Some ((first.0, 0), first.1)
entry_numbers Member ps = number_first 1 ps >>= λ first. number_first 0 first.1 >>= λ second. Some ((first.0, second.0), second.1)
entry_numbers Function ps = number_first 0 ps >>= λ first. number_first 1 first.1 >>= λ second. Some ((first.0, second.0), second.1)
