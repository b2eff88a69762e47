-- Characters and texts in quotes (manual M-146, constants): items between two quotes, in one line.
use Rattle.std.specs.Prelude.{ℕ, zero, suc, ◌+◌, ◌-◌, ◌*◌, Bool, not, ◌&&◌, nat_eq, nat_le, ◌≤◌, List, [], ◌∷◌, Option, Some, None, if◌then◌else◌, slice_get, option_map}
use Rattle.sisal_lex.specs.declared.quotes.Item.{Item}
use Rattle.sisal_lex.specs.declared.quotes.Codes.{Codes}

-- what the letter after a `\` stands for: n, t, r, \, ' and "
abbrev pub escaped : ℕ → Option ℕ
escaped b =
    if nat_eq b 110 then Some 10
    else (if nat_eq b 116 then Some 9
    else (if nat_eq b 114 then Some 13
    else (if nat_eq b 92 then Some 92
    else (if nat_eq b 39 then Some 39
    else (if nat_eq b 34 then Some 34
    else None)))))

-- the value of a hexadecimal digit, large or small
abbrev pub hex_digit : ℕ → Option ℕ
hex_digit b =
    if nat_le 48 b && nat_le b 57 then Some (b - 48)
    else (if nat_le 97 b && nat_le b 102 then Some (b - 87)
    else (if nat_le 65 b && nat_le b 70 then Some (b - 55)
    else None))

-- the code that two hexadecimal digits give, which is at most 7f
abbrev pub hex_code : Option ℕ → Option ℕ → Option ℕ
hex_code (Some high) (Some low) = if nat_le (16 * high + low) 127 then Some (16 * high + low) else None
hex_code (Some high) None = None
hex_code None low = None

abbrev pub hex_item : List ℕ → Option Item
hex_item (h ∷ l ∷ s) = option_map (λ code. record { code = code; bytes = 4 }) (hex_code (hex_digit h) (hex_digit l))
hex_item (h ∷ []) = None
hex_item [] = None

-- an item that begins with `\`, by what comes after that
abbrev pub escape : List ℕ → Option Item
escape [] = None
escape (b ∷ s) =
    if nat_eq b 120 then hex_item s
    else option_map (λ code. record { code = code; bytes = 2 }) (escaped b)

-- the item at the head of a text between two of `quote`: an escape, or a printable byte that is not the quote
abbrev pub item : ℕ → List ℕ → Option Item
item quote [] = None
item quote (b ∷ s) =
    if nat_eq b 92 then escape s
    else (if nat_le 32 b && nat_le b 126 && not (nat_eq b quote) then Some (record { code = b; bytes = 1 })
    else None)

-- an item has at least one byte, and at most n
abbrev pub IsWithin : Item → ℕ → Type 0
IsWithin one n = (1 ≤ one.bytes) × (one.bytes ≤ n)

-- a character, by what comes after its opening quote: one item and the closing quote
abbrev pub character_closed : List ℕ → Item → Option Item
character_closed s one = elim (slice_get s one.bytes) [
  | None ↦ None
  | Some b ↦ if nat_eq b 39 then Some (record { code = one.code; bytes = one.bytes + 1 }) else None
]

abbrev pub character : List ℕ → Option Item
character s = elim (item 39 s) [ None ↦ None | Some one ↦ character_closed s one ]

-- a text after one more byte of an item, and after one more item, of which this is the first byte
abbrev pub byte_more : Option Codes → Option Codes
byte_more None = None
byte_more (Some t) = Some (record { codes = t.codes; bytes = t.bytes + 1 })

abbrev pub item_more : ℕ → Option Codes → Option Codes
item_more code None = None
item_more code (Some t) = Some (record { codes = code ∷ t.codes; bytes = t.bytes + 1 })

-- the item at the head of a text, if there is one, and then what stands after its bytes
abbrev pub then_items : Option Item → (ℕ → Option Codes) → Option Codes
then_items None after = None
then_items (Some one) after = item_more one.code (after (one.bytes - 1))

-- a text, by what comes after its opening quote: items up to the closing quote.
-- The first `left` bytes belong to the item that was taken before.
abbrev pub items : List ℕ → ℕ → Option Codes
items [] left = None
items (b ∷ s) (suc left) = byte_more (items s left)
items (b ∷ s) zero =
    if nat_eq b 34 then Some (record { codes = []; bytes = 1 })
    else then_items (item 34 (b ∷ s)) (items s)
