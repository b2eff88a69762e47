-- Tokens with their places in the text.
use Rattle.std.specs.Prelude.{ℕ, ◌+◌, List, [], ◌∷◌}
use Rattle.sisal_tree.specs.Token.{Token}
use Rattle.sisal_grammar.specs.declared.value.Placed.{Placed}

-- these tokens, the first of which is at the place n
abbrev pub placed : ℕ → List Token → List Placed
placed n [] = []
placed n (t ∷ ts) = record { place = n; kind = t.kind; line = t.line } ∷ placed (n + 1) ts
