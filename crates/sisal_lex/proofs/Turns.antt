-- The reading, turn by turn: what is left of the text decides what is still to come.
use Rattle.std.proofs.Common.{◌≡◌, ℕ, zero, suc, ◌+◌, ◌≤◌, ◌<◌, Bool, true, false, cond, not, ◌||◌, ◌&&◌, true≢false, List, [], ◌∷◌, ◌++◌, map, drop, drop-cons, length, get_or, Result, Ok, Err, IfErr, IsErrAnd, refl, sym, ap, ◌∙◌, subst, arith, append_assoc, append-nil, bytes_eq, nat_eq, nat_lt, if◌then◌else◌, add-one}
use Rattle.std.proofs.lemmas.List.{drop-drop, length-append, length-drop}
use Rattle.std.proofs.lemmas.Bool.{eq-eqb, lt-leb}
use Rattle.std.proofs.lemmas.List.Sums.{prefix_len-le-length}
use Rattle.std.specs.List.{fold, list_any, position_or_len, prefix_len}
use Rattle.sisal_lex.specs.Names.{Lexed, used, used_by, kind_in, names_of, numbered, with_names}
use Rattle.sisal_lex.specs.Heads.{bytes_after, tokens_in, used_at, IsNoFault}
use Rattle.sisal_lex.specs.Tokens.{is_in_line, tokens_of, head_of, line_after, followed, in_turn, lexed, named}
use Rattle.sisal_lex.proofs.Lines.{skip_bytes, head_within}
use Rattle.sisal_lex.specs.declared.head.Head.{Head}
use Rattle.sisal_lex.specs.declared.head.Head.TheVariants as head
use Rattle.sisal_lex.specs.declared.head.Lexeme.{Lexeme}
use Rattle.sisal_lex.specs.declared.head.Lexeme.TheVariants.{Named, Plain}
use Rattle.sisal_lex.specs.declared.token.Kind.TheVariants as kind
use Rattle.sisal_lex.specs.declared.token.Token.{Token}
use Rattle.sisal_lex.specs.declared.token.Tokens.{Tokens}
use Rattle.sisal_lex.specs.declared.fault.LexFault.{LexFault}
use Rattle.sisal_lex.specs.declared.fault.LexFault.TheVariants as fault

same_bytes : (xs : List ℕ) → bytes_eq xs xs ≡ true
same_bytes [] = refl
same_bytes (x ∷ xs) = ap (λ t. t && bytes_eq xs xs) (eq-eqb x x refl) ∙ same_bytes xs

-- a place is that of the first that passes: what comes later leaves it
place_stays : (p : List ℕ → Bool) (xs ys : List (List ℕ)) → list_any p xs ≡ true → position_or_len p (xs ++ ys) ≡ position_or_len p xs
place_stays p [] ys h = absurd (true≢false (sym h))
place_stays p (x ∷ xs) ys h = by (p x) h (place_stays p xs ys)
  where
    by : (t : Bool) → t || list_any p xs ≡ true → (list_any p xs ≡ true → position_or_len p (xs ++ ys) ≡ position_or_len p xs)
        → cond (not t) (1 + position_or_len p (xs ++ ys)) 0 ≡ cond (not t) (1 + position_or_len p xs) 0
    by true h rest = refl
    by false h rest = ap (λ n. 1 + n) (rest h)

place_last : (p : List ℕ → Bool) (xs : List (List ℕ)) (y : List ℕ) → p y ≡ true → position_or_len p (xs ++ y ∷ []) ≡ position_or_len p xs
place_last p [] y h = ap (λ t. cond (not t) 1 0) h
place_last p (x ∷ xs) y h = ap (λ n. cond (not (p x)) (1 + n) 0) (place_last p xs y h)

any_left : (p : List ℕ → Bool) (xs ys : List (List ℕ)) → list_any p xs ≡ true → list_any p (xs ++ ys) ≡ true
any_left p [] ys h = absurd (true≢false (sym h))
any_left p (x ∷ xs) ys h = by (p x) h (any_left p xs ys)
  where
    by : (t : Bool) → t || list_any p xs ≡ true → (list_any p xs ≡ true → list_any p (xs ++ ys) ≡ true) → t || list_any p (xs ++ ys) ≡ true
    by true h rest = refl
    by false h rest = rest h

any_last : (p : List ℕ → Bool) (xs : List (List ℕ)) (y : List ℕ) → p y ≡ true → list_any p (xs ++ y ∷ []) ≡ true
any_last p [] y h = ap (λ t. t || false) h
any_last p (x ∷ xs) y h = by (p x) (any_last p xs y h)
  where
    by : (t : Bool) → list_any p (xs ++ y ∷ []) ≡ true → t || list_any p (xs ++ y ∷ []) ≡ true
    by true h = refl
    by false h = h

-- a name that is used has its place, and a further name leaves it
pub place_used : (names : List (List ℕ)) (name : List ℕ) → position_or_len (bytes_eq name) (used names name) ≡ position_or_len (bytes_eq name) names
place_used names name = by (list_any (bytes_eq name) names)
  where
    by : (t : Bool) → position_or_len (bytes_eq name) (if t then names else names ++ name ∷ []) ≡ position_or_len (bytes_eq name) names
    by true = refl
    by false = place_last (bytes_eq name) names name (same_bytes name)

pub any_used : (names : List (List ℕ)) (name : List ℕ) → list_any (bytes_eq name) (used names name) ≡ true
any_used names name = by (list_any (bytes_eq name) names) refl
  where
    by : (t : Bool) → list_any (bytes_eq name) names ≡ t → list_any (bytes_eq name) (if t then names else names ++ name ∷ []) ≡ true
    by true h = h
    by false h = any_last (bytes_eq name) names name (same_bytes name)

place_kept : (p : List ℕ → Bool) (names : List (List ℕ)) (x : Lexeme) → list_any p names ≡ true → position_or_len p (used_by names x) ≡ position_or_len p names
place_kept p names (Plain k) h = refl
place_kept p names (Named name) h = by (list_any (bytes_eq name) names)
  where
    by : (t : Bool) → position_or_len p (if t then names else names ++ name ∷ []) ≡ position_or_len p names
    by true = refl
    by false = place_stays p names (name ∷ []) h

any_kept : (p : List ℕ → Bool) (names : List (List ℕ)) (x : Lexeme) → list_any p names ≡ true → list_any p (used_by names x) ≡ true
any_kept p names (Plain k) h = h
any_kept p names (Named name) h = by (list_any (bytes_eq name) names)
  where
    by : (t : Bool) → list_any p (if t then names else names ++ name ∷ []) ≡ true
    by true = h
    by false = any_left p names (name ∷ []) h

abbrev names_after : List (List ℕ) → List Lexed → List (List ℕ)
names_after names ls = fold (λ ns l. used_by ns l.lexeme) names ls

place_at_end : (p : List ℕ → Bool) (names : List (List ℕ)) (ls : List Lexed) → list_any p names ≡ true → position_or_len p (names_after names ls) ≡ position_or_len p names
place_at_end p names [] h = refl
place_at_end p names (l ∷ ls) h = place_at_end p (used_by names l.lexeme) ls (any_kept p names l.lexeme h) ∙ place_kept p names l.lexeme h

kind_at_end : (names : List (List ℕ)) (x : Lexeme) (ls : List Lexed) → kind_in (names_after (used_by names x) ls) x ≡ kind_in names x
kind_at_end names (Plain k) ls = refl
kind_at_end names (Named name) ls = ap kind.Id (place_at_end (bytes_eq name) (used names name) ls (any_used names name) ∙ place_used names name)

-- the tokens by the names so far
abbrev numbered_from : List (List ℕ) → List Lexed → List Token
numbered_from names [] = []
numbered_from names (l ∷ ls) = numbered names l ∷ numbered_from (used_by names l.lexeme) ls

same_numbers : (names : List (List ℕ)) (ls : List Lexed) → map (numbered (names_after names ls)) ls ≡ numbered_from names ls
same_numbers names [] = refl
same_numbers names (l ∷ ls) =
    ap (λ k. record { kind = k; line = l.line } ∷ map (numbered (names_after (used_by names l.lexeme) ls)) ls) (kind_at_end names l.lexeme ls)
    ∙ ap (λ ts. numbered names l ∷ ts) (same_numbers (used_by names l.lexeme) ls)

-- the answer, where some tokens and names were read
abbrev pub continued : List Token → List (List ℕ) → Result (List Lexed) LexFault → Result Tokens LexFault
continued list names (Ok ls) = Ok (record { list = list ++ numbered_from names ls; names = names_after names ls })
continued list names (Err e) = Err e

pub begun : (r : Result (List Lexed) LexFault) → named r ≡ continued [] [] r
begun (Ok ls) = ap (λ ts. Ok (record { list = ts; names = names_after [] ls })) (same_numbers [] ls)
begun (Err e) = refl

continued-followed : (list : List Token) (names : List (List ℕ)) (l : Lexed) (r : Result (List Lexed) LexFault)
    → continued list names (followed l r) ≡ continued (list ++ numbered names l ∷ []) (used_by names l.lexeme) r
continued-followed list names l (Ok ls) = ap (λ ts. Ok (record { list = ts; names = names_after (used_by names l.lexeme) ls })) (sym (append_assoc list (numbered names l ∷ []) (numbered_from (used_by names l.lexeme) ls)))
continued-followed list names l (Err e) = refl

-- what one turn does to the answer
abbrev pub turned : List Token → List (List ℕ) → ℕ → Head → Result (List Lexed) LexFault → Result Tokens LexFault
turned list names line (head.Gap more) rest = continued list names rest
turned list names line (head.Found x more) rest = continued (list ++ record { kind = kind_in names x; line = line } ∷ []) (used_by names x) rest
turned list names line (head.Fault e) rest = Err e

in_one_turn : (list : List Token) (names : List (List ℕ)) (line : ℕ) (h : Head) (after : ℕ → Result (List Lexed) LexFault)
    → continued list names (in_turn h line after) ≡ turned list names line h (after (bytes_after h))
in_one_turn list names line (head.Gap more) after = refl
in_one_turn list names line (head.Found x more) after = continued-followed list names (record { lexeme = x; line = line }) (after more)
in_one_turn list names line (head.Fault e) after = refl

pub turn : (list : List Token) (names : List (List ℕ)) (text : List ℕ) (line at : ℕ) (h : Head) → at < length text → h ≡ head_of line (get_or text at 0) (drop (at + 1) text)
    → continued list names (lexed (drop at text) line 0) ≡ turned list names line h (lexed (drop (at + (1 + bytes_after h)) text) (line_after line (get_or text at 0)) 0)
turn list names text line at h inside is =
    let b = get_or text at 0 in
    let s = drop (at + 1) text in
    let n = bytes_after h in
    let from : drop at text ≡ b ∷ s = drop-cons text at 0 inside ∙ ap (λ k. b ∷ drop k text) (sym (add-one at)) in
    let within : n ≤ prefix_len is_in_line s = subst (λ x. bytes_after x ≤ prefix_len is_in_line s) (sym is) (head_within line b s) in
    let rest : drop n s ≡ drop (at + (1 + n)) text = drop-drop n (at + 1) text ∙ ap (λ k. drop k text) (let e : at + 1 + n ≡ at + (1 + n) = omega arith in e) in
    ap (λ r. continued list names (lexed r line 0)) from
    ∙ ap (λ x. continued list names (in_turn x line (lexed s (line_after line b)))) (sym is)
    ∙ in_one_turn list names line h (lexed s (line_after line b))
    ∙ ap (turned list names line h) (skip_bytes s (line_after line b) n within ∙ ap (λ r. lexed r (line_after line b) 0) rest)

pub turned-entered : (list : List Token) (names : List (List ℕ)) (line : ℕ) (h : Head) (r : Result (List Lexed) LexFault) → IsNoFault h
    → turned list names line h r ≡ continued (list ++ tokens_in names line h) (used_at names h) r
turned-entered list names line (head.Gap more) r h = ap (λ l. continued l names r) (sym (append-nil list))
turned-entered list names line (head.Found x more) r h = refl
turned-entered list names line (head.Fault e) r h = absurd h

-- what stands at a place lies within the text
pub within_text : (text : List ℕ) (line at : ℕ) (h : Head) → at < length text → h ≡ head_of line (get_or text at 0) (drop (at + 1) text) → at + (1 + bytes_after h) ≤ length text
within_text text line at h inside is =
    let s = drop (at + 1) text in
    let within = subst (λ (x : Head). bytes_after x ≤ prefix_len is_in_line s) (sym is) (head_within line (get_or text at 0) s) in
    omega (arith, within, prefix_len-le-length is_in_line s, length-drop (at + 1) text, inside)

pub line_within : (line b : ℕ) → line_after line b ≤ line + 1
line_within line b = by (nat_eq b 10)
  where
    by : (t : Bool) → (if t then line + 1 else line) ≤ line + 1
    by true = omega arith
    by false = omega arith

-- a text that is not too long
pub tokens_of-short : (text : List ℕ) → length text ≤ 4194304 → tokens_of text ≡ named (lexed text 1 0)
tokens_of-short text h = let e : nat_lt 4194304 (length text) ≡ false = lt-leb (suc 4194304) (length text) (omega (arith, h)) in ap (λ t. if t then Err fault.TooLong else named (lexed text 1 0)) e

-- an error that is passed on
pub passed_on : {A : Type 0} (P : LexFault → Type 0) (r : Result A LexFault) (x : LexFault) → IsErrAnd r (λ e. e ≡ x) → P x → IfErr r P
passed_on P (Ok a) x h p = tt
passed_on P (Err e) x h p = subst P (sym h) p

-- one more name at most
pub names_grow : (names : List (List ℕ)) (h : Head) → length (used_at names h) ≤ length names + 1
names_grow names (head.Gap more) = omega arith
names_grow names (head.Fault e) = omega arith
names_grow names (head.Found (Plain k) more) = omega arith
names_grow names (head.Found (Named name) more) = by (list_any (bytes_eq name) names)
  where
    by : (t : Bool) → length (if t then names else names ++ name ∷ []) ≤ length names + 1
    by true = omega arith
    by false = omega (arith, length-append names (name ∷ []))
