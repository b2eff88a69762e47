-- What the tokens of a text keep to, by what they are.
use Rattle.std.proofs.Common.{◌≡◌, ◌∙◌, ◌<◌, ◌≤◌, ℕ, zero, suc, Bool, true, false, not, cond, ◌||◌, List, [], ◌∷◌, ◌++◌, All, map, bytes_eq, length, refl, ap, subst, arith, if◌then◌else◌, Ok, Err, nat_lt, ◌+◌, IsTrue}
use Rattle.std.proofs.lemmas.List.Elements.{All-nil, All-cons}
use Rattle.std.proofs.lemmas.List.{length-map}
use Rattle.std.proofs.lemmas.List.Folds.{list_any-append}
use Rattle.std.specs.Prelude.{fold, Result}
use Rattle.std.specs.List.{list_any, position_or_len}
use Rattle.sisal_lex.specs.declared.head.Head.{Head}
use Rattle.sisal_lex.specs.declared.head.Head.TheVariants as head
use Rattle.sisal_lex.specs.declared.head.Lexeme.{Lexeme}
use Rattle.sisal_lex.specs.declared.head.Lexeme.TheVariants as lexeme
use Rattle.sisal_lex.specs.declared.fault.LexFault.{LexFault}
use Rattle.sisal_lex.specs.declared.fault.LexFault.TheVariants as fault
use Rattle.sisal_lex.specs.declared.token.Kind.{Kind}
use Rattle.sisal_lex.specs.declared.token.Kind.TheVariants as kind
use Rattle.sisal_lex.specs.declared.token.Token.{Token}
use Rattle.sisal_lex.specs.declared.token.Tokens.{Tokens}
use Rattle.sisal_lex.specs.Names.{Lexed, used, used_by, names_of, with_names, kind_in, numbered}
use Rattle.sisal_lex.specs.Sound.{IsSoundKind, is_folded}
use Rattle.bound_trees.specs.Tokens.{IsOfText, AreOfText}
use Rattle.bound_trees.proofs.Fitted.{FitsHead, head_fits, not_more}
use Rattle.sisal_lex.specs.Tokens.{tokens_of, named, lexed, in_turn, followed, head_of, line_after}
use Rattle.sisal_lex.proofs.Kept.{SoundHead, head_sound}
use Rattle.sisal_lex.proofs.Turns.{any_used}

abbrev pub SoundLexeme : Lexeme → Type 0
SoundLexeme (lexeme.Named name) = IsTrue (is_folded name)
SoundLexeme (lexeme.Plain k) = IsOfText 0 k

abbrev pub AreSoundLexemes : List Lexed → Type 0
AreSoundLexemes [] = Unit {0}
AreSoundLexemes (l ∷ ls) = SoundLexeme l.lexeme × AreSoundLexemes ls

told_kind : (k : Kind) (more : ℕ) → IsSoundKind 0 k → FitsHead (head.Found (lexeme.Plain k) more) → IsOfText 0 k
told_kind (kind.Word w) more s f = s
told_kind (kind.Sign x) more s f = s
told_kind (kind.Id x) more s f = s
told_kind (kind.Number z) more s f = (s, f)
told_kind (kind.Letter c) more s f = s
told_kind (kind.Quoted cs) more s f = s

sound_lexeme : (x : Lexeme) (more : ℕ) → SoundHead (head.Found x more) → FitsHead (head.Found x more) → SoundLexeme x
sound_lexeme (lexeme.Named name) more h f = h
sound_lexeme (lexeme.Plain k) more h f = told_kind k more h f

-- lexemes that are sound, and no more than the bytes that they are of
pub record AreTold (most : ℕ) (ls : List Lexed) : Type 0 where
  pub sound : AreSoundLexemes ls
  pub few : length ls ≤ most

followed_sound : (n : ℕ) (l : Lexed) (r : Result (List Lexed) LexFault) (ls : List Lexed) → followed l r ≡ Ok ls → SoundLexeme l.lexeme → ((ms : List Lexed) → r ≡ Ok ms → AreTold n ms) → AreTold (suc n) ls
followed_sound n l (Ok ms) ls e s rest =
    let q : l ∷ ms ≡ ls = cc in let r = rest ms refl in let few = r.few in
    subst (AreTold (suc n)) q (record { sound = (s, r.sound); few = omega (arith, few) })
followed_sound n l (Err f) ls e s rest = cc

turn_sound : (n : ℕ) (h : Head) (line : ℕ) (after : ℕ → Result (List Lexed) LexFault) (ls : List Lexed) → in_turn h line after ≡ Ok ls → SoundHead h → FitsHead h → ((m : ℕ) (ms : List Lexed) → after m ≡ Ok ms → AreTold n ms) → AreTold (suc n) ls
turn_sound n (head.Gap more) line after ls e s f rest = let r = rest more ls e in let few = r.few in record { sound = r.sound; few = omega (arith, few) }
turn_sound n (head.Found x more) line after ls e s f rest = followed_sound n (record { lexeme = x; line = line }) (after more) ls e (sound_lexeme x more s f) (rest more)
turn_sound n (head.Fault g) line after ls e s f rest = cc

pub lexed_sound : (s : List ℕ) (line left : ℕ) (ls : List Lexed) → lexed s line left ≡ Ok ls → AreTold (length s) ls
lexed_sound [] line left ls e = let q : [] ≡ ls = cc in subst (AreTold 0) q (record { sound = tt; few = omega arith })
lexed_sound (b ∷ s) line (suc left) ls e = let r = lexed_sound s (line_after line b) left ls e in let few = r.few in record { sound = r.sound; few = omega (arith, few) }
lexed_sound (b ∷ s) line zero ls e = turn_sound (length s) (head_of line b s) line (lexed s (line_after line b)) ls e (head_sound line b s) (head_fits line b s) (λ n ms h. lexed_sound s (line_after line b) n ms h)

kept_any : (p : List ℕ → Bool) (names : List (List ℕ)) (x : Lexeme) → list_any p names ≡ true → list_any p (used_by names x) ≡ true
kept_any p names (lexeme.Plain k) h = h
kept_any p names (lexeme.Named name) h = by (list_any (bytes_eq name) names)
  where
    by : (b : Bool) → list_any p (if b then names else names ++ name ∷ []) ≡ true
    by true = h
    by false = list_any-append p names (name ∷ []) ∙ ap (λ t. t || list_any p (name ∷ [])) h

kept_all : (p : List ℕ → Bool) (ls : List Lexed) (names : List (List ℕ)) → list_any p names ≡ true → list_any p (fold (λ ns l. used_by ns l.lexeme) names ls) ≡ true
kept_all p [] names h = h
kept_all p (l ∷ ls) names h = kept_all p ls (used_by names l.lexeme) (kept_any p names l.lexeme h)

abbrev IsNamedIn : List (List ℕ) → Lexeme → Type 0
IsNamedIn names (lexeme.Named name) = list_any (bytes_eq name) names ≡ true
IsNamedIn names (lexeme.Plain k) = Unit {0}

abbrev AreNamedIn : List (List ℕ) → List Lexed → Type 0
AreNamedIn names [] = Unit {0}
AreNamedIn names (l ∷ ls) = IsNamedIn names l.lexeme × AreNamedIn names ls

named_in : (x : Lexeme) (ls : List Lexed) (names : List (List ℕ)) → IsNamedIn (fold (λ ns l. used_by ns l.lexeme) (used_by names x) ls) x
named_in (lexeme.Named name) ls names = kept_all (bytes_eq name) ls (used names name) (any_used names name)
named_in (lexeme.Plain k) ls names = tt

all_named : (ls : List Lexed) (names : List (List ℕ)) → AreNamedIn (fold (λ ns l. used_by ns l.lexeme) names ls) ls
all_named [] names = tt
all_named (l ∷ ls) names = (named_in l.lexeme ls names, all_named ls (used_by names l.lexeme))

place_within : (p : List ℕ → Bool) (xs : List (List ℕ)) → list_any p xs ≡ true → position_or_len p xs < length xs
place_within p [] h = cc
place_within p (x ∷ xs) h = by (p x) h (place_within p xs)
  where
    by : (t : Bool) → t || list_any p xs ≡ true → (list_any p xs ≡ true → position_or_len p xs < length xs) → cond (not t) (1 + position_or_len p xs) 0 < suc (length xs)
    by true h rest = omega arith
    by false h rest = let k = rest h in omega (arith, k)

kind_sound : (n : ℕ) (k : Kind) → IsOfText 0 k → IsOfText n k
kind_sound n (kind.Word w) s = tt
kind_sound n (kind.Sign x) s = tt
kind_sound n (kind.Id x) s = absurd (omega (arith, s))
kind_sound n (kind.Number z) s = s
kind_sound n (kind.Letter c) s = s
kind_sound n (kind.Quoted cs) s = s

lexeme_sound : (names : List (List ℕ)) (x : Lexeme) → SoundLexeme x → IsNamedIn names x → IsOfText (length names) (kind_in names x)
lexeme_sound names (lexeme.Named name) s h = place_within (bytes_eq name) names h
lexeme_sound names (lexeme.Plain k) s h = kind_sound (length names) k s

all_sound : (names : List (List ℕ)) (ls : List Lexed) → AreSoundLexemes ls → AreNamedIn names ls → All (λ (t : Token). IsOfText (length names) t.kind) (map (numbered names) ls)
all_sound names [] s h = All-nil (λ (t : Token). IsOfText (length names) t.kind)
all_sound names (l ∷ ls) s h =
    All-cons (λ (t : Token). IsOfText (length names) t.kind) (numbered names l) (map (numbered names) ls) (lexeme_sound names l.lexeme s.0 h.0) (all_sound names ls s.1 h.1)

fewer : {m n : ℕ} {ls : List Lexed} → m ≤ n → AreTold m ls → AreTold n ls
fewer le p = let few = p.few in record { sound = p.sound; few = omega (arith, le, few) }

named_sound : (r : Result (List Lexed) LexFault) (t : Tokens) → ((ls : List Lexed) → r ≡ Ok ls → AreTold 4194304 ls) → named r ≡ Ok t → AreOfText (length t.names) t.list
named_sound (Ok ls) t s e =
    let q : with_names ls ≡ t = cc in let told = s ls refl in let few = told.few in let same = length-map ls (numbered (names_of ls)) in
    subst (λ (u : Tokens). AreOfText (length u.names) u.list) q (record { few = omega (arith, few, same); sound = all_sound (names_of ls) ls told.sound (all_named ls []) })
named_sound (Err f) t s e = cc

-- the tokens of a text keep to what the lexer says of its own, and are no more than its bytes
pub tokens_sound : (text : List ℕ) (t : Tokens) → tokens_of text ≡ Ok t → AreOfText (length t.names) t.list
tokens_sound text t e = by (nat_lt 4194304 (length text)) refl e
  where
    by : (b : Bool) → nat_lt 4194304 (length text) ≡ b → (if b then Err fault.TooLong else named (lexed text 1 0)) ≡ Ok t → AreOfText (length t.names) t.list
    by true q e = cc
    by false q e = named_sound (lexed text 1 0) t (λ ls h. fewer (not_more 4194304 (length text) q) (lexed_sound text 1 0 ls h)) e
