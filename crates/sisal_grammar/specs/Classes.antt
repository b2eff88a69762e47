-- The classes of tokens, in the order in which the factored grammar first names them. Class 0 stands
-- for the end of the text.
use Rattle.std.specs.Prelude.{ℕ}
use Rattle.sisal_tree.specs.Kind.{Kind}
use Rattle.sisal_tree.specs.Kind.TheVariants as kind
use Rattle.sisal_tree.specs.Word.{Word}
use Rattle.sisal_tree.specs.Word.TheVariants as word
use Rattle.sisal_tree.specs.Sign.{Sign}
use Rattle.sisal_tree.specs.Sign.TheVariants as sign

abbrev pub word_class : Word → ℕ
word_class word.WArray = 17
word_class word.WAt = 65
word_class word.WBoolean = 12
word_class word.WCatenate = 78
word_class word.WCharacter = 13
word_class word.WCross = 63
word_class word.WDefine = 1
word_class word.WDot = 64
word_class word.WDoubleReal = 16
word_class word.WElse = 58
word_class word.WElseif = 57
word_class word.WEnd = 10
word_class word.WError = 49
word_class word.WFalse = 46
word_class word.WFor = 56
word_class word.WForward = 7
word_class word.WFunction = 8
word_class word.WGlobal = 9
word_class word.WGreatest = 77
word_class word.WIf = 53
word_class word.WIn = 52
word_class word.WInitial = 62
word_class word.WInteger = 11
word_class word.WIs = 50
word_class word.WLeast = 76
word_class word.WLeft = 71
word_class word.WLet = 51
word_class word.WNil = 47
word_class word.WNull = 14
word_class word.WOf = 69
word_class word.WOld = 48
word_class word.WOtherwise = 61
word_class word.WProduct = 75
word_class word.WReal = 15
word_class word.WRecord = 21
word_class word.WRepeat = 66
word_class word.WReplace = 41
word_class word.WReturns = 25
word_class word.WRight = 72
word_class word.WStream = 20
word_class word.WSum = 74
word_class word.WTag = 60
word_class word.WTagcase = 55
word_class word.WThen = 54
word_class word.WTree = 73
word_class word.WTrue = 45
word_class word.WType = 5
word_class word.WUnion = 22
word_class word.WUnless = 80
word_class word.WUntil = 68
word_class word.WValue = 70
word_class word.WWhen = 79
word_class word.WWhile = 67

abbrev pub sign_class : Sign → ℕ
sign_class sign.SOpenParen = 24
sign_class sign.SCloseParen = 26
sign_class sign.SOpenBracket = 18
sign_class sign.SCloseBracket = 19
sign_class sign.SComma = 3
sign_class sign.SSemicolon = 4
sign_class sign.SColon = 23
sign_class sign.SAssign = 59
sign_class sign.SDot = 40
sign_class sign.SPlus = 36
sign_class sign.SMinus = 37
sign_class sign.STimes = 38
sign_class sign.SDivide = 39
sign_class sign.SCatenate = 35
sign_class sign.SOr = 27
sign_class sign.SAnd = 28
sign_class sign.SNot = 29
sign_class sign.SEqual = 6
sign_class sign.SNotEqual = 30
sign_class sign.SLess = 31
sign_class sign.SLessEqual = 32
sign_class sign.SGreater = 33
sign_class sign.SGreaterEqual = 34

abbrev pub class_of : Kind → ℕ
class_of (kind.Word w) = word_class w
class_of (kind.Sign s) = sign_class s
class_of (kind.Id x) = 2
class_of (kind.Number n) = 42
class_of (kind.Letter c) = 43
class_of (kind.Quoted t) = 44
