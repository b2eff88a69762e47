-- The names of a text are in small letters, so a word names at most one of them.
use Rattle.std.proofs.Common.{◌≡◌, ℕ, zero, suc, ◌+◌, Bool, true, false, ◌&&◌, List, [], ◌∷◌, ◌++◌, map, Some, slice_get, bytes_eq, length, refl, sym, ap, subst, ◌∙◌, arith, if◌then◌else◌, Ok, Err, nat_lt, cond}
use Rattle.std.proofs.lemmas.Bool.Decides.{nat_tests}
use Rattle.std.proofs.lemmas.Slice.Eq.{bytes_eq-Decides}
use Rattle.std.specs.Prelude.{fold, Result}
use Rattle.std.specs.List.{list_any, list_all}
use Rattle.std.specs.Char.{is_ascii_lowercase, to_ascii_lowercase}
use Rattle.std.specs.Str.{str_eq_ignore_ascii_case}
use Rattle.sisal_lex.specs.declared.head.Lexeme.{Lexeme}
use Rattle.sisal_lex.specs.declared.head.Lexeme.TheVariants as lexeme
use Rattle.sisal_lex.specs.declared.fault.LexFault.{LexFault}
use Rattle.sisal_lex.specs.declared.fault.LexFault.TheVariants as fault
use Rattle.sisal_lex.specs.declared.token.Tokens.{Tokens}
use Rattle.sisal_lex.specs.Names.{Lexed, used, used_by, with_names}
use Rattle.sisal_lex.specs.Sound.{is_folded, is_in_folded}
use Rattle.sisal_lex.specs.Tokens.{tokens_of, named, lexed}
use Rattle.bound_trees.proofs.Told.{SoundLexeme, AreSoundLexemes, lexed_sound}

-- ---- the names of a text

-- each name is folded
abbrev pub AreSmall : List (List ℕ) → Type 0
AreSmall names = (i : ℕ) (s : List ℕ) → slice_get names i ≡ Some s → is_folded s ≡ true

nowhere : (i : ℕ) (s : List ℕ) → slice_get [] i ≡ Some s → ⊥
nowhere zero s e = cc
nowhere (suc i) s e = cc

one-more : (names : List (List ℕ)) (name : List ℕ) → AreSmall names → is_folded name ≡ true → AreSmall (names ++ name ∷ [])
one-more [] name a f zero s e = subst (λ n. is_folded n ≡ true) (same e) f
  where
    same : Some name ≡ Some s → name ≡ s
    same e = cc
one-more [] name a f (suc i) s e = absurd (nowhere i s e)
one-more (n ∷ ns) name a f zero s e = a 0 s e
one-more (n ∷ ns) name a f (suc i) s e = one-more ns name (λ j t h. a (suc j) t h) f i s e

used-small : (names : List (List ℕ)) (name : List ℕ) → AreSmall names → is_folded name ≡ true → AreSmall (used names name)
used-small names name a f = by (list_any (bytes_eq name) names)
  where
    by : (b : Bool) → AreSmall (if b then names else names ++ name ∷ [])
    by true = a
    by false = one-more names name a f

all-small : (ls : List Lexed) (names : List (List ℕ)) → AreSoundLexemes ls → AreSmall names → AreSmall (fold (λ ns l. used_by ns l.lexeme) names ls)
all-small [] names s a = a
all-small (l ∷ ls) names s a = all-small ls (used_by names l.lexeme) s.1 (by l.lexeme s.0)
  where
    by : (x : Lexeme) → SoundLexeme x → AreSmall (used_by names x)
    by (lexeme.Named name) f = used-small names name a f
    by (lexeme.Plain k) f = a

named-small : (r : Result (List Lexed) LexFault) (t : Tokens) → ((ls : List Lexed) → r ≡ Ok ls → AreSoundLexemes ls) → named r ≡ Ok t → AreSmall t.names
named-small (Ok ls) t s e =
    let q : with_names ls ≡ t = cc in
    subst (λ (u : Tokens). AreSmall u.names) q (all-small ls [] (s ls refl) (λ i s h. absurd (nowhere i s h)))
named-small (Err f) t s e = cc

pub names-small : (text : List ℕ) (t : Tokens) → tokens_of text ≡ Ok t → AreSmall t.names
names-small text t e = by (nat_lt 4194304 (length text)) e
  where
    by : (b : Bool) → (if b then Err fault.TooLong else named (lexed text 1 0)) ≡ Ok t → AreSmall t.names
    by true e = cc
    by false e = named-small (lexed text 1 0) t (λ ls h. (lexed_sound text 1 0 ls h).sound) e

-- ---- small and capital letters

not-capital : (b : ℕ) → is_in_folded b ≡ true → nat_lt b 65 ≡ false → nat_lt b 91 ≡ true → ⊥
not-capital b h e f = grind (arith, nat_tests)

stays-small : (b : ℕ) → is_in_folded b ≡ true → to_ascii_lowercase b ≡ b
stays-small b h = by (nat_lt b 65) (nat_lt b 91) refl refl
  where
    by : (x y : Bool) → nat_lt b 65 ≡ x → nat_lt b 91 ≡ y → cond x b (cond y (b + 32) b) ≡ b
    by true y e f = refl
    by false true e f = absurd (not-capital b h e f)
    by false false e f = refl

each-small : (s : List ℕ) → list_all is_in_folded s ≡ true → map to_ascii_lowercase s ≡ s
each-small [] h = refl
each-small (b ∷ s) h = by (is_in_folded b) refl h (each-small s)
  where
    by : (t : Bool) → is_in_folded b ≡ t → (t && list_all is_in_folded s) ≡ true → (list_all is_in_folded s ≡ true → map to_ascii_lowercase s ≡ s) → map to_ascii_lowercase (b ∷ s) ≡ b ∷ s
    by true e h rest = ap (λ c. c ∷ map to_ascii_lowercase s) (stays-small b e) ∙ ap (λ r. b ∷ r) (rest h)
    by false e h rest = absurd cc

small-letter : (b : ℕ) → is_ascii_lowercase b ≡ true → is_in_folded b ≡ true
small-letter b h = grind (arith, nat_tests)

folded-small : (s : List ℕ) → is_folded s ≡ true → map to_ascii_lowercase s ≡ s
folded-small [] h = refl
folded-small (b ∷ s) h = by (is_ascii_lowercase b) refl h
  where
    by : (t : Bool) → is_ascii_lowercase b ≡ t → (t && list_all is_in_folded s) ≡ true → map to_ascii_lowercase (b ∷ s) ≡ b ∷ s
    by true e h = ap (λ c. c ∷ map to_ascii_lowercase s) (stays-small b (small-letter b e)) ∙ ap (λ r. b ∷ r) (each-small s h)
    by false e h = absurd cc

-- a folded name that a word spells is the word in small letters
pub spelled-small : (s word : List ℕ) → is_folded s ≡ true → str_eq_ignore_ascii_case s word ≡ true → s ≡ map to_ascii_lowercase word
spelled-small s word f e = sym (folded-small s f) ∙ (bytes_eq-Decides (map to_ascii_lowercase s) (map to_ascii_lowercase word)).0 e
