-- Pragmas, `%xx=text`, which end a line (M-170, pragmas). Of the keys, `na` names, `tk` marks an edge that takes, and
-- `bf` lists nodes that come before this one.
use Rattle.std.specs.Prelude.{ℕ, Bool, ◌&&◌, ◌==◌, nat_le, List, [], ◌∷◌, ◌++◌, length, drop, slice_index, option_map, Option, Some, None, if◌then◌else◌}
use Rattle.std.specs.List.{list_all, list_any}
use Rattle.if1_graph.specs.LineParts.{◌>>=◌, Part, word_of}
use Rattle.if1_graph.specs.Numbers.{number_list, rising}

-- `%`, 37, any two bytes and `=`, 61
abbrev pub is_pragma_word : List ℕ → Bool
is_pragma_word w = nat_le 4 (length w) && (slice_index w 0 == 37) && (slice_index w 3 == 61)

abbrev pub is_pragma : Part → Bool
is_pragma p = is_pragma_word (word_of p)

-- whether a word is a pragma with a key of these two bytes; its text is what stands behind the first four
abbrev pub has_key : ℕ → ℕ → List ℕ → Bool
has_key a b w = is_pragma_word w && (slice_index w 1 == a) && (slice_index w 2 == b)

-- `na` is 110 97: the text of the last one, after this name
abbrev pub renamed : List ℕ → List ℕ → List ℕ
renamed name w = if has_key 110 97 w then drop 4 w else name

abbrev pub name_after : List ℕ → List Part → List ℕ
name_after name [] = name
name_after name (p ∷ ps) = name_after (renamed name (word_of p)) ps

-- `tk` is 116 107, and says something with the text `1` alone
abbrev pub is_taking_word : List ℕ → Bool
is_taking_word w = has_key 116 107 w && (length w == 5) && (slice_index w 4 == 49)

abbrev pub is_taking : Part → Bool
is_taking p = is_taking_word (word_of p)

abbrev pub takes_in : List Part → Bool
takes_in ps = list_any is_taking ps

-- `bf` is 98 102: the labels in its text
abbrev pub labels_in : List ℕ → Option (List ℕ)
labels_in w = if has_key 98 102 w then number_list 1 (drop 4 w) else Some []

-- those of all `bf` in their order
abbrev pub labels_of : List Part → Option (List ℕ)
labels_of [] = Some []
labels_of (p ∷ ps) = labels_in (word_of p) >>= λ ls. option_map (λ more. ls ++ more) (labels_of ps)

-- where nothing but pragmas is left of a line: the name that it has, empty where there is none
abbrev pub named : List Part → Option (List ℕ)
named ps = if list_all is_pragma ps then Some (name_after [] ps) else None

-- the nodes that come before this one, each once, rising
abbrev pub preceded : List Part → Option (List ℕ)
preceded ps = option_map rising (labels_of ps)
