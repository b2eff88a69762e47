-- The reserved words of SISAL 1.2 (manual M-146, reserved words), as they are spelled.
use Rattle.std.specs.Prelude.{ℕ, List, [], ◌∷◌, Option, Some, None, if◌then◌else◌, bytes_eq, codes}
use denote.Ref.{Bor}
use Rattle.sisal_lex.specs.declared.token.Word.{Word}
use Rattle.sisal_lex.specs.declared.token.Word.TheVariants.{WArray, WAt, WBoolean, WCatenate, WCharacter, WCross, WDefine, WDot, WDoubleReal, WElse, WElseif, WEnd, WError, WFalse, WFor, WForward, WFunction, WGlobal, WGreatest, WIf, WIn, WInitial, WInteger, WIs, WLeast, WLeft, WLet, WNil, WNull, WOf, WOld, WOtherwise, WProduct, WReal, WRecord, WRepeat, WReplace, WReturns, WRight, WStream, WSum, WTag, WTagcase, WThen, WTree, WTrue, WType, WUnion, WUnless, WUntil, WValue, WWhen, WWhile}

abbrev pub words : List (List ℕ × Word)
words =
    (codes "array", WArray) ∷
    (codes "at", WAt) ∷
    (codes "boolean", WBoolean) ∷
    (codes "catenate", WCatenate) ∷
    (codes "character", WCharacter) ∷
    (codes "cross", WCross) ∷
    (codes "define", WDefine) ∷
    (codes "dot", WDot) ∷
    (codes "double_real", WDoubleReal) ∷
    (codes "else", WElse) ∷
    (codes "elseif", WElseif) ∷
    (codes "end", WEnd) ∷
    (codes "error", WError) ∷
    (codes "false", WFalse) ∷
    (codes "for", WFor) ∷
    (codes "forward", WForward) ∷
    (codes "function", WFunction) ∷
    (codes "global", WGlobal) ∷
    (codes "greatest", WGreatest) ∷
    (codes "if", WIf) ∷
    (codes "in", WIn) ∷
    (codes "initial", WInitial) ∷
    (codes "integer", WInteger) ∷
    (codes "is", WIs) ∷
    (codes "least", WLeast) ∷
    (codes "left", WLeft) ∷
    (codes "let", WLet) ∷
    (codes "nil", WNil) ∷
    (codes "null", WNull) ∷
    (codes "of", WOf) ∷
    (codes "old", WOld) ∷
    (codes "otherwise", WOtherwise) ∷
    (codes "product", WProduct) ∷
    (codes "real", WReal) ∷
    (codes "record", WRecord) ∷
    (codes "repeat", WRepeat) ∷
    (codes "replace", WReplace) ∷
    (codes "returns", WReturns) ∷
    (codes "right", WRight) ∷
    (codes "stream", WStream) ∷
    (codes "sum", WSum) ∷
    (codes "tag", WTag) ∷
    (codes "tagcase", WTagcase) ∷
    (codes "then", WThen) ∷
    (codes "tree", WTree) ∷
    (codes "true", WTrue) ∷
    (codes "type", WType) ∷
    (codes "union", WUnion) ∷
    (codes "unless", WUnless) ∷
    (codes "until", WUntil) ∷
    (codes "value", WValue) ∷
    (codes "when", WWhen) ∷
    (codes "while", WWhile) ∷
    []

-- what a table has beside a spelling
abbrev pub beside : {A : Type 0} → List ℕ → List (List ℕ × A) → Option A
beside s [] = None
beside s (row ∷ rows) = if bytes_eq row.0 s then Some row.1 else beside s rows

-- a row of such a table in a program, which lends the spelling
abbrev pub plain_row : {A : Type 0} → Bor (List ℕ) × A → List ℕ × A
plain_row row = (row.0.now, row.1)
