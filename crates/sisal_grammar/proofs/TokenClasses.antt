-- What the class of a token tells of the token.
use Rattle.std.proofs.Common.{◌≡◌, ℕ, ℤ, List, [], ◌∷◌, Bool, true, false, not, ◌||◌, nat_eq, refl, sym, ◌∙◌, ap, arith, slice_index_or}
use Rattle.sisal_tree.specs.Kind.{Kind}
use Rattle.sisal_tree.specs.Kind.TheVariants as kind
use Rattle.sisal_tree.specs.Word.{Word}
use Rattle.sisal_tree.specs.Word.TheVariants as word
use Rattle.sisal_tree.specs.Sign.{Sign}
use Rattle.sisal_tree.specs.Sign.TheVariants as sign
use Rattle.sisal_grammar.specs.declared.value.Placed.{Placed}
use Rattle.sisal_grammar.specs.Classes.{class_of, word_class, sign_class}
use Rattle.sisal_grammar.specs.Spells.{IsWord, IsSign, IsName}

-- no token of interest
abbrev other : Kind
other = kind.Letter 0

-- the one token of a class, where it has one
unfoldable pub kind_at : ℕ → Kind
kind_at n = slice_index_or (other ∷ kind.Word word.WDefine ∷ other ∷ kind.Sign sign.SComma ∷ kind.Sign sign.SSemicolon ∷ kind.Word word.WType ∷ kind.Sign sign.SEqual ∷ kind.Word word.WForward ∷ kind.Word word.WFunction ∷ kind.Word word.WGlobal ∷ kind.Word word.WEnd ∷ kind.Word word.WInteger ∷ kind.Word word.WBoolean ∷ kind.Word word.WCharacter ∷ kind.Word word.WNull ∷ kind.Word word.WReal ∷ kind.Word word.WDoubleReal ∷ kind.Word word.WArray ∷ kind.Sign sign.SOpenBracket ∷ kind.Sign sign.SCloseBracket ∷ kind.Word word.WStream ∷ kind.Word word.WRecord ∷ kind.Word word.WUnion ∷ kind.Sign sign.SColon ∷ kind.Sign sign.SOpenParen ∷ kind.Word word.WReturns ∷ kind.Sign sign.SCloseParen ∷ kind.Sign sign.SOr ∷ kind.Sign sign.SAnd ∷ kind.Sign sign.SNot ∷ kind.Sign sign.SNotEqual ∷ kind.Sign sign.SLess ∷ kind.Sign sign.SLessEqual ∷ kind.Sign sign.SGreater ∷ kind.Sign sign.SGreaterEqual ∷ kind.Sign sign.SCatenate ∷ kind.Sign sign.SPlus ∷ kind.Sign sign.SMinus ∷ kind.Sign sign.STimes ∷ kind.Sign sign.SDivide ∷ kind.Sign sign.SDot ∷ kind.Word word.WReplace ∷ other ∷ other ∷ other ∷ kind.Word word.WTrue ∷ kind.Word word.WFalse ∷ kind.Word word.WNil ∷ kind.Word word.WOld ∷ kind.Word word.WError ∷ kind.Word word.WIs ∷ kind.Word word.WLet ∷ kind.Word word.WIn ∷ kind.Word word.WIf ∷ kind.Word word.WThen ∷ kind.Word word.WTagcase ∷ kind.Word word.WFor ∷ kind.Word word.WElseif ∷ kind.Word word.WElse ∷ kind.Sign sign.SAssign ∷ kind.Word word.WTag ∷ kind.Word word.WOtherwise ∷ kind.Word word.WInitial ∷ kind.Word word.WCross ∷ kind.Word word.WDot ∷ kind.Word word.WAt ∷ kind.Word word.WRepeat ∷ kind.Word word.WWhile ∷ kind.Word word.WUntil ∷ kind.Word word.WOf ∷ kind.Word word.WValue ∷ kind.Word word.WLeft ∷ kind.Word word.WRight ∷ kind.Word word.WTree ∷ kind.Word word.WSum ∷ kind.Word word.WProduct ∷ kind.Word word.WLeast ∷ kind.Word word.WGreatest ∷ kind.Word word.WCatenate ∷ kind.Word word.WWhen ∷ kind.Word word.WUnless ∷ []) n other

-- whether a class has one token
abbrev pub is_plain : ℕ → Bool
is_plain c = not (nat_eq c 2 || (nat_eq c 42 || (nat_eq c 43 || nat_eq c 44)))

word_back : (w : Word) → kind.Word w ≡ kind_at (word_class w)
unfolding kind_at
word_back word.WArray = refl
word_back _ = refl

sign_back : (s : Sign) → kind.Sign s ≡ kind_at (sign_class s)
unfolding kind_at
sign_back sign.SOr = refl
sign_back _ = refl

word_plain : (w : Word) → is_plain (word_class w) ≡ true
word_plain word.WArray = refl
word_plain _ = refl

sign_plain : (s : Sign) → is_plain (sign_class s) ≡ true
sign_plain sign.SOr = refl
sign_plain _ = refl

not_plain : (c d : ℕ) → d ≡ c → is_plain c ≡ true → is_plain d ≡ false → ⊥
not_plain c d e p q = let x : is_plain d ≡ is_plain c = ap is_plain e in let y : false ≡ true = sym q ∙ (x ∙ p) in cc

-- the token of a class that has one
plain : (t : Kind) (c : ℕ) → class_of t ≡ c → is_plain c ≡ true → t ≡ kind_at c
plain (kind.Word w) c e p = word_back w ∙ ap kind_at e
plain (kind.Sign s) c e p = sign_back s ∙ ap kind_at e
plain (kind.Id x) c e p = absurd (not_plain c 2 e p refl)
plain (kind.Number n) c e p = absurd (not_plain c 42 e p refl)
plain (kind.Letter b) c e p = absurd (not_plain c 43 e p refl)
plain (kind.Quoted q) c e p = absurd (not_plain c 44 e p refl)

pub the_word : (w : Word) (t : Placed) → class_of t.kind ≡ word_class w → IsWord w t
the_word w t e = record { is = plain t.kind (word_class w) e (word_plain w) ∙ sym (word_back w) }

pub the_sign : (s : Sign) (t : Placed) → class_of t.kind ≡ sign_class s → IsSign s t
the_sign s t e = record { is = plain t.kind (sign_class s) e (sign_plain s) ∙ sym (sign_back s) }

-- a class that has more than one token is none of a word or sign
no_word : (w : Word) (c : ℕ) → word_class w ≡ c → is_plain c ≡ false → ⊥
no_word w c e q = not_plain (word_class w) c (sym e) (word_plain w) q

no_sign : (s : Sign) (c : ℕ) → sign_class s ≡ c → is_plain c ≡ false → ⊥
no_sign s c e q = not_plain (sign_class s) c (sym e) (sign_plain s) q

id_at : (t : Kind) → class_of t ≡ 2 → (x : ℕ) × (t ≡ kind.Id x)
id_at (kind.Id x) e = (x, refl)
id_at (kind.Word w) e = absurd (no_word w 2 e refl)
id_at (kind.Sign s) e = absurd (no_sign s 2 e refl)
id_at (kind.Number n) e = absurd (omega (arith, e))
id_at (kind.Letter b) e = absurd (omega (arith, e))
id_at (kind.Quoted q) e = absurd (omega (arith, e))

pub the_name : (t : Placed) → class_of t.kind ≡ 2 → IsName t
the_name t e = let x : (n : ℕ) × (t.kind ≡ kind.Id n) = id_at t.kind e in record { number = x.0; is = x.1 }

pub number_at : (t : Kind) → class_of t ≡ 42 → (n : ℤ) × (t ≡ kind.Number n)
number_at (kind.Number n) e = (n, refl)
number_at (kind.Word w) e = absurd (no_word w 42 e refl)
number_at (kind.Sign s) e = absurd (no_sign s 42 e refl)
number_at (kind.Id n) e = absurd (omega (arith, e))
number_at (kind.Letter b) e = absurd (omega (arith, e))
number_at (kind.Quoted q) e = absurd (omega (arith, e))

pub letter_at : (t : Kind) → class_of t ≡ 43 → (n : ℕ) × (t ≡ kind.Letter n)
letter_at (kind.Letter n) e = (n, refl)
letter_at (kind.Word w) e = absurd (no_word w 43 e refl)
letter_at (kind.Sign s) e = absurd (no_sign s 43 e refl)
letter_at (kind.Id n) e = absurd (omega (arith, e))
letter_at (kind.Number b) e = absurd (omega (arith, e))
letter_at (kind.Quoted q) e = absurd (omega (arith, e))

pub quoted_at : (t : Kind) → class_of t ≡ 44 → (n : List ℕ) × (t ≡ kind.Quoted n)
quoted_at (kind.Quoted n) e = (n, refl)
quoted_at (kind.Word w) e = absurd (no_word w 44 e refl)
quoted_at (kind.Sign s) e = absurd (no_sign s 44 e refl)
quoted_at (kind.Id n) e = absurd (omega (arith, e))
quoted_at (kind.Letter b) e = absurd (omega (arith, e))
quoted_at (kind.Number q) e = absurd (omega (arith, e))
