-- The names in the tokens of a text are spelled, each in its own way.
use Rattle.std.proofs.Common.{◌≡◌, ◌<◌, ◌≤◌, ℕ, zero, suc, Bool, true, false, not, cond, ◌||◌, List, [], ◌∷◌, ◌++◌, map, Some, slice_get, get_or, bytes_eq, length, refl, sym, ap, subst, ◌∙◌, arith, if◌then◌else◌, Ok, Err, nat_lt, ◌⊎◌, inl, inr, ◌+◌}
use Rattle.std.proofs.lemmas.Slice.Eq.{bytes_eq-Decides}
use Rattle.std.proofs.lemmas.Bool.Decides.{nat_tests}
use Rattle.std.proofs.lemmas.List.Folds.{list_any-append}
use Rattle.std.proofs.lemmas.Option.{slice_get-get_or, slice_get_within}
use Rattle.std.proofs.lemmas.List.Elements.{All-nil, All-cons}
use Rattle.std.proofs.lemmas.List.{length-map}
use Rattle.std.specs.Prelude.{fold, Result}
use Rattle.std.specs.List.{list_any, position_or_len}
use Rattle.sisal_lex.specs.declared.head.Head.{Head}
use Rattle.sisal_lex.specs.declared.head.Head.TheVariants as head
use Rattle.sisal_lex.specs.declared.head.Lexeme.{Lexeme}
use Rattle.sisal_lex.specs.declared.head.Lexeme.TheVariants as lexeme
use Rattle.sisal_lex.specs.declared.fault.LexFault.{LexFault}
use Rattle.sisal_lex.specs.declared.fault.LexFault.TheVariants as fault
use Rattle.sisal_lex.specs.declared.token.Kind.{Kind}
use Rattle.sisal_lex.specs.declared.token.Kind.TheVariants as kind
use Rattle.sisal_lex.specs.declared.token.Tokens.{Tokens}
use Rattle.sisal_lex.specs.Names.{Lexed, used, used_by, names_of, with_names, kind_in, numbered}
use Rattle.sisal_lex.specs.Sound.{IsSoundKind}
use Rattle.sisal_lex.specs.Tokens.{tokens_of, named, lexed, in_turn, followed, head_of, line_after}
use Rattle.sisal_lex.proofs.Kept.{SoundHead, head_sound}
use Rattle.sisal_lex.proofs.Turns.{any_used}
use Rattle.type_rules.specs.Typed.{AreSpelledOnce}
use Rattle.unit_types.specs.Rests.{IsKindSpelled, AreTokensSpelled}
use Rattle.sisal_tree.specs.declared.unit.Unit as tree
use Rattle.sisal_lex.specs.declared.token.Token.{Token}
use Rattle.sisal_grammar.specs.Phrases.{unit}
use Rattle.sisal_grammar.specs.Placed.{placed}
use Rattle.sisal_grammar.specs.Spells.{Spells}
use Rattle.text_trees.specs.Spelled.{AreNamed}
use Rattle.text_trees.proofs.Spelled.{items_spelled}
use Rattle.sisal_check.specs.Texts.{IsText, TextLaw}

true_false : true ≡ false → ⊥
true_false e = cc

nowhere : (i : ℕ) (s : List ℕ) → slice_get [] i ≡ Some s → ⊥
nowhere zero s e = cc
nowhere (suc i) s e = cc

itself : (s : List ℕ) → bytes_eq s s ≡ true
itself s = (bytes_eq-Decides s s).1 refl

-- a place of a list with one more at its end
place : (names : List (List ℕ)) (name : List ℕ) (i : ℕ) (s : List ℕ) → slice_get (names ++ name ∷ []) i ≡ Some s → (slice_get names i ≡ Some s) ⊎ ((i ≡ length names) × (s ≡ name))
place [] name zero s h = inr (refl, cc)
place [] name (suc i) s h = absurd (nowhere i s h)
place (n ∷ ns) name zero s h = inl h
place (n ∷ ns) name (suc i) s h = elim (place ns name i s h) [ inl a ↦ inl a | inr b ↦ inr (ap suc b.0, b.1) ]

-- a name that is not among these stands at no place
absent : (name : List ℕ) (names : List (List ℕ)) (i : ℕ) → list_any (bytes_eq name) names ≡ false → slice_get names i ≡ Some name → ⊥
absent name [] i e h = cc
absent name (n ∷ ns) i e h = by (bytes_eq name n) refl e (λ j. absent name ns j) i h
  where
    by : (b : Bool) → bytes_eq name n ≡ b → b || list_any (bytes_eq name) ns ≡ false → ((j : ℕ) → list_any (bytes_eq name) ns ≡ false → slice_get ns j ≡ Some name → ⊥) → (i : ℕ) → slice_get (n ∷ ns) i ≡ Some name → ⊥
    by true q e rest i h = cc
    by false q e rest zero h = let same : n ≡ name = cc in true_false (sym (subst (λ m. bytes_eq name m ≡ true) (sym same) (itself name)) ∙ q)
    by false q e rest (suc i) h = rest i e h

one_more : (names : List (List ℕ)) (name : List ℕ) → AreSpelledOnce names → list_any (bytes_eq name) names ≡ false → AreSpelledOnce (names ++ name ∷ [])
one_more names name once e i j s h g = elim (place names name i s h) [
  | inl a ↦ elim (place names name j s g) [
    | inl b ↦ once i j s a b
    | inr b ↦ absurd (absent name names i e (subst (λ x. slice_get names i ≡ Some x) b.1 a))
  ]
  | inr a ↦ elim (place names name j s g) [
    | inl b ↦ absurd (absent name names j e (subst (λ x. slice_get names j ≡ Some x) a.1 b))
    | inr b ↦ a.0 ∙ sym b.0
  ]
]

used_once : (names : List (List ℕ)) (name : List ℕ) → AreSpelledOnce names → AreSpelledOnce (used names name)
used_once names name once = by (list_any (bytes_eq name) names) refl
  where
    by : (b : Bool) → list_any (bytes_eq name) names ≡ b → AreSpelledOnce (if b then names else names ++ name ∷ [])
    by true e = once
    by false e = one_more names name once e

by_once : (names : List (List ℕ)) (l : Lexeme) → AreSpelledOnce names → AreSpelledOnce (used_by names l)
by_once names (lexeme.Named name) once = used_once names name once
by_once names (lexeme.Plain k) once = once

all_once : (ls : List Lexed) (names : List (List ℕ)) → AreSpelledOnce names → AreSpelledOnce (fold (λ ns l. used_by ns l.lexeme) names ls)
all_once [] names once = once
all_once (l ∷ ls) names once = all_once ls (used_by names l.lexeme) (by_once names l.lexeme once)

named_once : (r : Result (List Lexed) LexFault) (t : Tokens) → named r ≡ Ok t → AreSpelledOnce t.names
named_once (Ok ls) t e = let q : with_names ls ≡ t = cc in subst (λ u. AreSpelledOnce u.names) q (all_once ls [] (λ i j s h g. absurd (nowhere i s h)))
named_once (Err f) t e = cc

-- each name in the tokens of a text is spelled in its own way
pub tokens_once : (text : List ℕ) (t : Tokens) → tokens_of text ≡ Ok t → AreSpelledOnce t.names
tokens_once text t e = by (nat_lt 4194304 (length text)) e
  where
    by : (b : Bool) → (if b then Err fault.TooLong else named (lexed text 1 0)) ≡ Ok t → AreSpelledOnce t.names
    by true e = cc
    by false e = named_once (lexed text 1 0) t e

-- ---- the names in the tokens are spelled

abbrev SoundLexeme : Lexeme → Type 0
SoundLexeme (lexeme.Named name) = Unit {0}
SoundLexeme (lexeme.Plain k) = IsSoundKind 0 k

abbrev AreSoundLexemes : List Lexed → Type 0
AreSoundLexemes [] = Unit {0}
AreSoundLexemes (l ∷ ls) = SoundLexeme l.lexeme × AreSoundLexemes ls

sound_lexeme : (x : Lexeme) (more : ℕ) → SoundHead (head.Found x more) → SoundLexeme x
sound_lexeme (lexeme.Named name) more h = tt
sound_lexeme (lexeme.Plain k) more h = h

followed_sound : (l : Lexed) (r : Result (List Lexed) LexFault) (ls : List Lexed) → followed l r ≡ Ok ls → SoundLexeme l.lexeme → ((ms : List Lexed) → r ≡ Ok ms → AreSoundLexemes ms) → AreSoundLexemes ls
followed_sound l (Ok ms) ls e s rest = let q : l ∷ ms ≡ ls = cc in subst AreSoundLexemes q (s, rest ms refl)
followed_sound l (Err f) ls e s rest = cc

turn_sound : (h : Head) (line : ℕ) (after : ℕ → Result (List Lexed) LexFault) (ls : List Lexed) → in_turn h line after ≡ Ok ls → SoundHead h → ((n : ℕ) (ms : List Lexed) → after n ≡ Ok ms → AreSoundLexemes ms) → AreSoundLexemes ls
turn_sound (head.Gap more) line after ls e s rest = rest more ls e
turn_sound (head.Found x more) line after ls e s rest = followed_sound (record { lexeme = x; line = line }) (after more) ls e (sound_lexeme x more s) (rest more)
turn_sound (head.Fault f) line after ls e s rest = cc

lexed_sound : (s : List ℕ) (line left : ℕ) (ls : List Lexed) → lexed s line left ≡ Ok ls → AreSoundLexemes ls
lexed_sound [] line left ls e = let q : [] ≡ ls = cc in subst AreSoundLexemes q tt
lexed_sound (b ∷ s) line (suc left) ls e = lexed_sound s (line_after line b) left ls e
lexed_sound (b ∷ s) line zero ls e = turn_sound (head_of line b s) line (lexed s (line_after line b)) ls e (head_sound line b s) (λ n ms h. lexed_sound s (line_after line b) n ms h)

kept_any : (p : List ℕ → Bool) (names : List (List ℕ)) (x : Lexeme) → list_any p names ≡ true → list_any p (used_by names x) ≡ true
kept_any p names (lexeme.Plain k) h = h
kept_any p names (lexeme.Named name) h = by (list_any (bytes_eq name) names)
  where
    by : (b : Bool) → list_any p (if b then names else names ++ name ∷ []) ≡ true
    by true = h
    by false = list_any-append p names (name ∷ []) ∙ ap (λ t. t || list_any p (name ∷ [])) h

kept_all : (p : List ℕ → Bool) (ls : List Lexed) (names : List (List ℕ)) → list_any p names ≡ true → list_any p (fold (λ ns l. used_by ns l.lexeme) names ls) ≡ true
kept_all p [] names h = h
kept_all p (l ∷ ls) names h = kept_all p ls (used_by names l.lexeme) (kept_any p names l.lexeme h)

abbrev IsNamedIn : List (List ℕ) → Lexeme → Type 0
IsNamedIn names (lexeme.Named name) = list_any (bytes_eq name) names ≡ true
IsNamedIn names (lexeme.Plain k) = Unit {0}

abbrev AreNamedIn : List (List ℕ) → List Lexed → Type 0
AreNamedIn names [] = Unit {0}
AreNamedIn names (l ∷ ls) = IsNamedIn names l.lexeme × AreNamedIn names ls

named_in : (x : Lexeme) (ls : List Lexed) (names : List (List ℕ)) → IsNamedIn (fold (λ ns l. used_by ns l.lexeme) (used_by names x) ls) x
named_in (lexeme.Named name) ls names = kept_all (bytes_eq name) ls (used names name) (any_used names name)
named_in (lexeme.Plain k) ls names = tt

all_named : (ls : List Lexed) (names : List (List ℕ)) → AreNamedIn (fold (λ ns l. used_by ns l.lexeme) names ls) ls
all_named [] names = tt
all_named (l ∷ ls) names = (named_in l.lexeme ls names, all_named ls (used_by names l.lexeme))

place_within : (p : List ℕ → Bool) (xs : List (List ℕ)) → list_any p xs ≡ true → position_or_len p xs < length xs
place_within p [] h = cc
place_within p (x ∷ xs) h = by (p x) h (place_within p xs)
  where
    by : (t : Bool) → t || list_any p xs ≡ true → (list_any p xs ≡ true → position_or_len p xs < length xs) → cond (not t) (1 + position_or_len p xs) 0 < suc (length xs)
    by true h rest = omega arith
    by false h rest = let k = rest h in omega (arith, k)

kind_spelled : (names : List (List ℕ)) (k : Kind) → IsSoundKind 0 k → IsKindSpelled names k
kind_spelled names (kind.Word w) s = tt
kind_spelled names (kind.Sign x) s = tt
kind_spelled names (kind.Id n) s = absurd (omega (arith, s))
kind_spelled names (kind.Number z) s = tt
kind_spelled names (kind.Letter c) s = tt
kind_spelled names (kind.Quoted cs) s = tt

lexeme_spelled : (names : List (List ℕ)) (x : Lexeme) → SoundLexeme x → IsNamedIn names x → IsKindSpelled names (kind_in names x)
lexeme_spelled names (lexeme.Named name) s h =
    record { spelling = get_or names (position_or_len (bytes_eq name) names) []; is = slice_get-get_or names (position_or_len (bytes_eq name) names) [] (place_within (bytes_eq name) names h) }
lexeme_spelled names (lexeme.Plain k) s h = kind_spelled names k s

all_spelled : (names : List (List ℕ)) (ls : List Lexed) → AreSoundLexemes ls → AreNamedIn names ls → AreTokensSpelled names (map (numbered names) ls)
all_spelled names [] s h = tt
all_spelled names (l ∷ ls) s h = (lexeme_spelled names l.lexeme s.0 h.0, all_spelled names ls s.1 h.1)

named_spelled : (r : Result (List Lexed) LexFault) (t : Tokens) → ((ls : List Lexed) → r ≡ Ok ls → AreSoundLexemes ls) → named r ≡ Ok t → AreTokensSpelled t.names t.list
named_spelled (Ok ls) t s e = let q : with_names ls ≡ t = cc in subst (λ u. AreTokensSpelled u.names u.list) q (all_spelled (names_of ls) ls (s ls refl) (all_named ls []))
named_spelled (Err f) t s e = cc

-- the names in the tokens of a text are spelled
pub tokens_spelled : (text : List ℕ) (t : Tokens) → tokens_of text ≡ Ok t → AreTokensSpelled t.names t.list
tokens_spelled text t e = by (nat_lt 4194304 (length text)) e
  where
    by : (b : Bool) → (if b then Err fault.TooLong else named (lexed text 1 0)) ≡ Ok t → AreTokensSpelled t.names t.list
    by true e = cc
    by false e = named_spelled (lexed text 1 0) t (λ ls h. lexed_sound text 1 0 ls h) e

-- ---- a text has no more tokens than bytes

followed_few : (n : ℕ) (l : Lexed) (r : Result (List Lexed) LexFault) (ls : List Lexed) → followed l r ≡ Ok ls → ((ms : List Lexed) → r ≡ Ok ms → length ms ≤ n) → length ls ≤ suc n
followed_few n l (Ok ms) ls e rest = let q : l ∷ ms ≡ ls = cc in let few = rest ms refl in subst (λ xs. length xs ≤ suc n) q (omega (arith, few))
followed_few n l (Err f) ls e rest = cc

turn_few : (n : ℕ) (h : Head) (line : ℕ) (after : ℕ → Result (List Lexed) LexFault) (ls : List Lexed) → in_turn h line after ≡ Ok ls → ((m : ℕ) (ms : List Lexed) → after m ≡ Ok ms → length ms ≤ n) → length ls ≤ suc n
turn_few n (head.Gap more) line after ls e rest = let few = rest more ls e in omega (arith, few)
turn_few n (head.Found x more) line after ls e rest = followed_few n (record { lexeme = x; line = line }) (after more) ls e (rest more)
turn_few n (head.Fault f) line after ls e rest = cc

lexed_few : (s : List ℕ) (line left : ℕ) (ls : List Lexed) → lexed s line left ≡ Ok ls → length ls ≤ length s
lexed_few [] line left ls e = let q : [] ≡ ls = cc in subst (λ xs. length xs ≤ 0) q (omega arith)
lexed_few (b ∷ s) line (suc left) ls e = let few = lexed_few s (line_after line b) left ls e in omega (arith, few)
lexed_few (b ∷ s) line zero ls e = turn_few (length s) (head_of line b s) line (lexed s (line_after line b)) ls e (λ n ms h. lexed_few s (line_after line b) n ms h)

not_more : (m n : ℕ) → nat_lt m n ≡ false → n ≤ m
not_more m n h = grind (arith, nat_tests)

named_few : (n : ℕ) (r : Result (List Lexed) LexFault) (t : Tokens) → ((ls : List Lexed) → r ≡ Ok ls → length ls ≤ n) → named r ≡ Ok t → length t.list ≤ n
named_few n (Ok ls) t few e =
    let q : with_names ls ≡ t = cc in let least = few ls refl in let same = length-map ls (numbered (names_of ls)) in
    subst (λ (u : Tokens). length u.list ≤ n) q (omega (arith, least, same))
named_few n (Err f) t few e = cc

tokens_few : (text : List ℕ) (t : Tokens) → tokens_of text ≡ Ok t → length t.list ≤ 4194304
tokens_few text t e = by (nat_lt 4194304 (length text)) refl e
  where
    by : (b : Bool) → nat_lt 4194304 (length text) ≡ b → (if b then Err fault.TooLong else named (lexed text 1 0)) ≡ Ok t → length t.list ≤ 4194304
    by true q e = cc
    by false q e =
        let most = not_more 4194304 (length text) q in
        named_few 4194304 (lexed text 1 0) t (λ ls h. let few = lexed_few text 1 0 ls h in omega (arith, most, few)) e

-- ---- what is spelled has a number below that of the names

below : (names : List (List ℕ)) (k : Kind) → IsKindSpelled names k → (x : ℕ) → k ≡ kind.Id x → x < length names
below names k s x e = let is : IsKindSpelled names (kind.Id x) = subst (IsKindSpelled names) e s in slice_get_within names x is.spelling is.is

all_below : (names : List (List ℕ)) (ts : List Token) → AreTokensSpelled names ts → AreNamed (length names) ts
all_below names [] s = All-nil (λ t. (x : ℕ) → t.kind ≡ kind.Id x → x < length names)
all_below names (t ∷ ts) s = All-cons (λ t. (x : ℕ) → t.kind ≡ kind.Id x → x < length names) t ts (below names t.kind s.0) (all_below names ts s.1)

own : (bytes : List ℕ) (u : tree.Unit) → tokens_of bytes ≡ Ok u.tokens → Spells unit (placed 0 u.tokens.list) (record { defines = u.defines; items = u.items }) → IsText u
own bytes u lexed spelled =
    let names = tokens_spelled bytes u.tokens lexed in
    record {
      spelled = names;
      once = tokens_once bytes u.tokens lexed;
      items = items_spelled u.tokens.list (length u.tokens.names) (record { defines = u.defines; items = u.items }) (all_below u.tokens.names u.tokens.list names)
          (tokens_few bytes u.tokens lexed) spelled;
    }

pub is_text : TextLaw
is_text bytes tokens u lexed same spelled =
    own bytes u (lexed ∙ ap Ok (sym same)) (subst (λ (t : Tokens). Spells unit (placed 0 t.list) (record { defines = u.defines; items = u.items })) (sym same) spelled)
