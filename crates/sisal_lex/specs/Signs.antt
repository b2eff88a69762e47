-- The signs of SISAL 1.2 (manual M-146, special symbols), as they are spelled.
use Rattle.std.specs.Prelude.{ℕ, List, [], ◌∷◌, Option, None, codes}
use Rattle.sisal_lex.specs.Words.{beside}
use Rattle.sisal_lex.specs.declared.token.Sign.{Sign}
use Rattle.sisal_lex.specs.declared.token.Sign.TheVariants.{SOpenParen, SCloseParen, SOpenBracket, SCloseBracket, SComma, SSemicolon, SColon, SAssign, SDot, SPlus, SMinus, STimes, SDivide, SCatenate, SOr, SAnd, SNot, SEqual, SNotEqual, SLess, SLessEqual, SGreater, SGreaterEqual}

abbrev pub signs : List (List ℕ × Sign)
signs =
    (codes "(", SOpenParen) ∷
    (codes ")", SCloseParen) ∷
    (codes "[", SOpenBracket) ∷
    (codes "]", SCloseBracket) ∷
    (codes ",", SComma) ∷
    (codes ";", SSemicolon) ∷
    (codes ":", SColon) ∷
    (codes ":=", SAssign) ∷
    (codes ".", SDot) ∷
    (codes "+", SPlus) ∷
    (codes "-", SMinus) ∷
    (codes "*", STimes) ∷
    (codes "/", SDivide) ∷
    (codes "||", SCatenate) ∷
    (codes "|", SOr) ∷
    (codes "&", SAnd) ∷
    (codes "~", SNot) ∷
    (codes "=", SEqual) ∷
    (codes "~=", SNotEqual) ∷
    (codes "<", SLess) ∷
    (codes "<=", SLessEqual) ∷
    (codes ">", SGreater) ∷
    (codes ">=", SGreaterEqual) ∷
    []

-- the sign of two bytes at the head of a text that begins with b, and the sign of one
abbrev pub long_sign : ℕ → List ℕ → Option Sign
long_sign b [] = None
long_sign b (c ∷ s) = beside (b ∷ c ∷ []) signs

abbrev pub short_sign : ℕ → Option Sign
short_sign b = beside (b ∷ []) signs
