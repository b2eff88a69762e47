-- The grammar of SISAL 1.2 as the manual has it (SISAL Language Reference Manual 1.2, syntax): a case a
-- production, with {x} for any number of x and [x] for x or nothing. Above each case stands its
-- production. Further, `global` gives a function by its header, and a record may be changed by
-- `replace`.
use Rattle.std.specs.Prelude.{◌≡◌, ℕ, ℤ, true, false, List, [], ◌∷◌, ◌++◌, Option, Some, None}
use Rattle.sisal_tree.specs.Kind.TheVariants as kind
use Rattle.sisal_tree.specs.Word.{Word}
use Rattle.sisal_tree.specs.Word.TheVariants as word
use Rattle.sisal_tree.specs.Sign.{Sign}
use Rattle.sisal_tree.specs.Sign.TheVariants as sign
use Rattle.sisal_tree.specs.declared.unit.Named.{Named}
use Rattle.sisal_tree.specs.declared.unit.Written.{Written}
use Rattle.sisal_tree.specs.declared.unit.Field.{Field}
use Rattle.sisal_tree.specs.declared.unit.Header.{Header}
use Rattle.sisal_tree.specs.declared.unit.Item.{Item}
use Rattle.sisal_tree.specs.declared.unit.Item.TheVariants as item
use Rattle.sisal_tree.specs.declared.unit.FunKind.TheVariants as fun
use Rattle.sisal_tree.specs.declared.expr.Expr.{Expr}
use Rattle.sisal_tree.specs.declared.expr.ExprKind.TheVariants as tree
use Rattle.sisal_tree.specs.declared.expr.Constant.TheVariants as constant
use Rattle.sisal_tree.specs.declared.expr.Scalar.TheVariants as scalar
use Rattle.sisal_tree.specs.declared.expr.PrefixOperator.TheVariants as prefix
use Rattle.sisal_tree.specs.declared.expr.BinaryOperator.{BinaryOperator}
use Rattle.sisal_tree.specs.declared.expr.BinaryOperator.TheVariants as binary
use Rattle.sisal_tree.specs.declared.expr.FieldValue.{FieldValue}
use Rattle.sisal_tree.specs.declared.expr.Elements.{Elements, roll-Elements}
use Rattle.sisal_tree.specs.declared.expr.Def.{Def, roll-Def}
use Rattle.sisal_tree.specs.declared.expr.Target.{Target}
use Rattle.sisal_tree.specs.declared.expr.Arm.{Arm, roll-Arm}
use Rattle.sisal_tree.specs.declared.expr.Loop.TheVariants as loop
use Rattle.sisal_tree.specs.declared.expr.Generator.{Generator, roll-Generator}
use Rattle.sisal_tree.specs.declared.expr.Turn.{Turn, roll-Turn}
use Rattle.sisal_tree.specs.declared.expr.Clause.{Clause, roll-Clause}
use Rattle.sisal_tree.specs.declared.expr.ClauseKind.{ClauseKind}
use Rattle.sisal_tree.specs.declared.expr.ClauseKind.TheVariants as made
use Rattle.sisal_tree.specs.declared.expr.Direction.{Direction}
use Rattle.sisal_tree.specs.declared.expr.Direction.TheVariants as towards
use Rattle.sisal_tree.specs.declared.expr.Reduction.{Reduction}
use Rattle.sisal_tree.specs.declared.expr.Reduction.TheVariants as reduction
use Rattle.sisal_tree.specs.declared.expr.Mask.{Mask}
use Rattle.sisal_grammar.specs.declared.value.Placed.{Placed}
use Rattle.sisal_grammar.specs.declared.value.Selector.{Selector}
use Rattle.sisal_grammar.specs.declared.value.Selector.TheVariants as select
use Rattle.sisal_grammar.specs.declared.value.Test.{Test}
use Rattle.sisal_grammar.specs.Acts.{named, name_in, at, span, joined, chained, posted, content, tag_case}
use Rattle.sisal_grammar.specs.Phrases.{Phrase, ElseIf, Meant, many, maybe, unit, definition, typedef, fundef, ty, field, fields, tagf, header, exprs, expr, conj, inv, rel, cat, sum, term, neg, post, selector, fv, prim, arm, defs, def, target, group, gen, turn, test, clause, red, mask, name, comma_name, semicolon, semi_field, semi_tagf, comma_type, colon_type, comma_expr, colon_expr, or_conj, and_inv, comparison, or_sum, sum_term, term_neg, semi_fv, elements, else_if, binding, otherwise, semi_def, comma_target, cross_group, dot_gen, at_name, folding, direction}

-- a token is this word
pub record IsWord (w : Word) (t : Placed) : Type 0 where
  pub is : t.kind ≡ kind.Word w

-- a token is this sign
pub record IsSign (s : Sign) (t : Placed) : Type 0 where
  pub is : t.kind ≡ kind.Sign s

-- a token is a name
pub record IsName (t : Placed) : Type 0 where
  pub number : ℕ
  pub is : t.kind ≡ kind.Id number

-- what is listed, if it is
abbrev pub listed : {A : Type 0} → Option (List A) → List A
listed None = []
listed (Some l) = l

-- an operand, compared or not
abbrev pub compared : Expr → Option (BinaryOperator × Expr) → Expr
compared a None = a
compared a (Some c) = joined a c

-- an `elseif` is an `if` in the `else` part
abbrev pub nested : List ElseIf → List Expr → List Expr
nested [] es = es
nested (i ∷ is) es = at i.line (tree.If i.test i.results (nested is es)) ∷ []

-- a reduction groups as is said
abbrev pub grouped : Option Direction → Direction
grouped None = towards.Any
grouped (Some d) = d

-- without a reduction, the value is the last
abbrev pub folded : Option ClauseKind → ClauseKind
folded None = made.Last
folded (Some k) = k

-- The tokens are the phrase, and mean this.
pub data Spells : (p : Phrase) → List Placed → Meant p → Type 0 where
  -- {x}
  nothing : {p : Phrase} → Spells (many p) [] []
  more : {p : Phrase} {ts us : List Placed} {a : Meant p} {l : List (Meant p)}
      → Spells p ts a → Spells (many p) us l → Spells (many p) (ts ++ us) (a ∷ l)
  -- [x]
  absent : {p : Phrase} → Spells (maybe p) [] None
  present : {p : Phrase} {ts : List Placed} {a : Meant p} → Spells p ts a → Spells (maybe p) ts (Some a)
  -- unit = "define" name {"," name} [";"] {typedef | fundef}
  unit_is : {t u : Placed} {ts us vs : List Placed} {ns : List Named} {s : Option (Unit {0})} {l : List Item}
      → IsWord word.WDefine t → IsName u → Spells (many comma_name) ts ns → Spells (maybe semicolon) us s → Spells (many definition) vs l
      → Spells unit (t ∷ u ∷ (ts ++ (us ++ vs))) (record { defines = named u ∷ ns; items = l })
  -- "," name
  comma_name_is : {t u : Placed} → IsSign sign.SComma t → IsName u → Spells comma_name (t ∷ u ∷ []) (named u)
  -- ";"
  semicolon_is : {t : Placed} → IsSign sign.SSemicolon t → Spells semicolon (t ∷ []) tt
  -- typedef | fundef
  a_typedef : {ts : List Placed} {i : Item} → Spells typedef ts i → Spells definition ts i
  a_fundef : {ts : List Placed} {i : Item} → Spells fundef ts i → Spells definition ts i
  -- typedef = "type" name "=" type [";"]
  typedef_is : {t u v : Placed} {ts us : List Placed} {w : Written} {s : Option (Unit {0})}
      → IsWord word.WType t → IsName u → IsSign sign.SEqual v → Spells ty ts w → Spells (maybe semicolon) us s
      → Spells typedef (t ∷ u ∷ v ∷ (ts ++ us)) (item.Alias (record { line = t.line; name = name_in u; ty = w }))
  -- fundef = "forward" "function" header [";"]
  forward : {t u : Placed} {ts us : List Placed} {h : Header} {s : Option (Unit {0})}
      → IsWord word.WForward t → IsWord word.WFunction u → Spells header ts h → Spells (maybe semicolon) us s
      → Spells fundef (t ∷ u ∷ (ts ++ us)) (item.Function (record { line = t.line; header = h; kind = fun.Forward }))
  -- fundef = "global" header [";"]
  global : {t : Placed} {ts us : List Placed} {h : Header} {s : Option (Unit {0})}
      → IsWord word.WGlobal t → Spells header ts h → Spells (maybe semicolon) us s
      → Spells fundef (t ∷ (ts ++ us)) (item.Function (record { line = t.line; header = h; kind = fun.Global }))
  -- fundef = "function" header exprs "end" "function" [";"]
  function : {t u v : Placed} {ts us vs : List Placed} {h : Header} {es : List Expr} {s : Option (Unit {0})}
      → IsWord word.WFunction t → Spells header ts h → Spells exprs us es → IsWord word.WEnd u → IsWord word.WFunction v → Spells (maybe semicolon) vs s
      → Spells fundef (t ∷ (ts ++ (us ++ (u ∷ v ∷ vs)))) (item.Function (record { line = t.line; header = h; kind = fun.Defined es }))
  -- type = "integer" | "boolean" | "character" | "null" | "real" | "double_real" | name
  integer_type : {t : Placed} → IsWord word.WInteger t → Spells ty (t ∷ []) (span t t)
  boolean_type : {t : Placed} → IsWord word.WBoolean t → Spells ty (t ∷ []) (span t t)
  character_type : {t : Placed} → IsWord word.WCharacter t → Spells ty (t ∷ []) (span t t)
  null_type : {t : Placed} → IsWord word.WNull t → Spells ty (t ∷ []) (span t t)
  real_type : {t : Placed} → IsWord word.WReal t → Spells ty (t ∷ []) (span t t)
  double_real_type : {t : Placed} → IsWord word.WDoubleReal t → Spells ty (t ∷ []) (span t t)
  named_type : {t : Placed} → IsName t → Spells ty (t ∷ []) (span t t)
  -- type = "array" "[" type "]"
  array_type : {t u v : Placed} {ts : List Placed} {w : Written}
      → IsWord word.WArray t → IsSign sign.SOpenBracket u → Spells ty ts w → IsSign sign.SCloseBracket v
      → Spells ty (t ∷ u ∷ (ts ++ (v ∷ []))) (span t v)
  -- type = "stream" "[" type "]"
  stream_type : {t u v : Placed} {ts : List Placed} {w : Written}
      → IsWord word.WStream t → IsSign sign.SOpenBracket u → Spells ty ts w → IsSign sign.SCloseBracket v
      → Spells ty (t ∷ u ∷ (ts ++ (v ∷ []))) (span t v)
  -- type = "record" "[" field {";" field} [";"] "]"
  record_type : {t u v : Placed} {ts : List Placed} {l : List Field}
      → IsWord word.WRecord t → IsSign sign.SOpenBracket u → Spells fields ts l → IsSign sign.SCloseBracket v
      → Spells ty (t ∷ u ∷ (ts ++ (v ∷ []))) (span t v)
  -- type = "union" "[" tagf {";" tagf} [";"] "]"
  union_type : {t u v : Placed} {ts us vs : List Placed} {l : List (Unit {0})} {s : Option (Unit {0})}
      → IsWord word.WUnion t → IsSign sign.SOpenBracket u → Spells tagf ts tt → Spells (many semi_tagf) us l → Spells (maybe semicolon) vs s → IsSign sign.SCloseBracket v
      → Spells ty (t ∷ u ∷ (ts ++ (us ++ (vs ++ (v ∷ []))))) (span t v)
  -- field {";" field} [";"]
  fields_are : {ts us vs : List Placed} {f : Field} {l : List Field} {s : Option (Unit {0})}
      → Spells field ts f → Spells (many semi_field) us l → Spells (maybe semicolon) vs s
      → Spells fields (ts ++ (us ++ vs)) (f ∷ l)
  -- ";" field
  semi_field_is : {t : Placed} {ts : List Placed} {f : Field} → IsSign sign.SSemicolon t → Spells field ts f → Spells semi_field (t ∷ ts) f
  -- field = name {"," name} ":" type
  field_is : {t u : Placed} {ts us : List Placed} {ns : List Named} {w : Written}
      → IsName t → Spells (many comma_name) ts ns → IsSign sign.SColon u → Spells ty us w
      → Spells field (t ∷ (ts ++ (u ∷ us))) (record { names = named t ∷ ns; ty = w })
  -- tagf = name {"," name} [":" type]
  tagf_is : {t : Placed} {ts us : List Placed} {ns : List Named} {w : Option Written}
      → IsName t → Spells (many comma_name) ts ns → Spells (maybe colon_type) us w
      → Spells tagf (t ∷ (ts ++ us)) tt
  -- ";" tagf
  semi_tagf_is : {t : Placed} {ts : List Placed} → IsSign sign.SSemicolon t → Spells tagf ts tt → Spells semi_tagf (t ∷ ts) tt
  -- ":" type
  colon_type_is : {t : Placed} {ts : List Placed} {w : Written} → IsSign sign.SColon t → Spells ty ts w → Spells colon_type (t ∷ ts) w
  -- header = name "(" [field {";" field} [";"]] "returns" type {"," type} ")"
  header_is : {t u v w : Placed} {ts us vs : List Placed} {l : Option (List Field)} {r : Written} {rs : List Written}
      → IsName t → IsSign sign.SOpenParen u → Spells (maybe fields) ts l → IsWord word.WReturns v → Spells ty us r → Spells (many comma_type) vs rs → IsSign sign.SCloseParen w
      → Spells header (t ∷ u ∷ (ts ++ (v ∷ (us ++ (vs ++ (w ∷ [])))))) (record { name = named t; params = listed l; results = r ∷ rs })
  -- "," type
  comma_type_is : {t : Placed} {ts : List Placed} {w : Written} → IsSign sign.SComma t → Spells ty ts w → Spells comma_type (t ∷ ts) w
  -- exprs = expr {"," expr}
  exprs_are : {ts us : List Placed} {e : Expr} {es : List Expr} → Spells expr ts e → Spells (many comma_expr) us es → Spells exprs (ts ++ us) (e ∷ es)
  -- "," expr
  comma_expr_is : {t : Placed} {ts : List Placed} {e : Expr} → IsSign sign.SComma t → Spells expr ts e → Spells comma_expr (t ∷ ts) e
  -- expr = conj {"|" conj}
  expr_is : {ts us : List Placed} {a : Expr} {l : List (BinaryOperator × Expr)} → Spells conj ts a → Spells (many or_conj) us l → Spells expr (ts ++ us) (chained a l)
  or_conj_is : {t : Placed} {ts : List Placed} {a : Expr} → IsSign sign.SOr t → Spells conj ts a → Spells or_conj (t ∷ ts) (binary.Or, a)
  -- conj = inv {"&" inv}
  conj_is : {ts us : List Placed} {a : Expr} {l : List (BinaryOperator × Expr)} → Spells inv ts a → Spells (many and_inv) us l → Spells conj (ts ++ us) (chained a l)
  and_inv_is : {t : Placed} {ts : List Placed} {a : Expr} → IsSign sign.SAnd t → Spells inv ts a → Spells and_inv (t ∷ ts) (binary.And, a)
  -- inv = "~" inv | rel
  not : {t : Placed} {ts : List Placed} {a : Expr} → IsSign sign.SNot t → Spells inv ts a → Spells inv (t ∷ ts) (at t.line (tree.Prefix prefix.Not a))
  inv_rel : {ts : List Placed} {a : Expr} → Spells rel ts a → Spells inv ts a
  -- rel = cat [("="|"~="|"<"|"<="|">"|">=") cat]
  rel_is : {ts us : List Placed} {a : Expr} {c : Option (BinaryOperator × Expr)} → Spells cat ts a → Spells (maybe comparison) us c → Spells rel (ts ++ us) (compared a c)
  equal : {t : Placed} {ts : List Placed} {a : Expr} → IsSign sign.SEqual t → Spells cat ts a → Spells comparison (t ∷ ts) (binary.Equal, a)
  not_equal : {t : Placed} {ts : List Placed} {a : Expr} → IsSign sign.SNotEqual t → Spells cat ts a → Spells comparison (t ∷ ts) (binary.NotEqual, a)
  less : {t : Placed} {ts : List Placed} {a : Expr} → IsSign sign.SLess t → Spells cat ts a → Spells comparison (t ∷ ts) (binary.Less, a)
  less_equal : {t : Placed} {ts : List Placed} {a : Expr} → IsSign sign.SLessEqual t → Spells cat ts a → Spells comparison (t ∷ ts) (binary.LessEqual, a)
  greater : {t : Placed} {ts : List Placed} {a : Expr} → IsSign sign.SGreater t → Spells cat ts a → Spells comparison (t ∷ ts) (binary.Greater, a)
  greater_equal : {t : Placed} {ts : List Placed} {a : Expr} → IsSign sign.SGreaterEqual t → Spells cat ts a → Spells comparison (t ∷ ts) (binary.GreaterEqual, a)
  -- cat = sum {"||" sum}
  cat_is : {ts us : List Placed} {a : Expr} {l : List (BinaryOperator × Expr)} → Spells sum ts a → Spells (many or_sum) us l → Spells cat (ts ++ us) (chained a l)
  catenate : {t : Placed} {ts : List Placed} {a : Expr} → IsSign sign.SCatenate t → Spells sum ts a → Spells or_sum (t ∷ ts) (binary.Catenate, a)
  -- sum = term {("+"|"-") term}
  sum_is : {ts us : List Placed} {a : Expr} {l : List (BinaryOperator × Expr)} → Spells term ts a → Spells (many sum_term) us l → Spells sum (ts ++ us) (chained a l)
  plus : {t : Placed} {ts : List Placed} {a : Expr} → IsSign sign.SPlus t → Spells term ts a → Spells sum_term (t ∷ ts) (binary.Plus, a)
  minus : {t : Placed} {ts : List Placed} {a : Expr} → IsSign sign.SMinus t → Spells term ts a → Spells sum_term (t ∷ ts) (binary.Minus, a)
  -- term = neg {("*"|"/") neg}
  term_is : {ts us : List Placed} {a : Expr} {l : List (BinaryOperator × Expr)} → Spells neg ts a → Spells (many term_neg) us l → Spells term (ts ++ us) (chained a l)
  times : {t : Placed} {ts : List Placed} {a : Expr} → IsSign sign.STimes t → Spells neg ts a → Spells term_neg (t ∷ ts) (binary.Times, a)
  divide : {t : Placed} {ts : List Placed} {a : Expr} → IsSign sign.SDivide t → Spells neg ts a → Spells term_neg (t ∷ ts) (binary.Divide, a)
  -- neg = "-" neg | post
  negate : {t : Placed} {ts : List Placed} {a : Expr} → IsSign sign.SMinus t → Spells neg ts a → Spells neg (t ∷ ts) (at t.line (tree.Prefix prefix.Negate a))
  neg_post : {ts : List Placed} {a : Expr} → Spells post ts a → Spells neg ts a
  -- post = prim {"[" exprs "]" | "[" expr ":" expr "]" | "." name | "replace" "[" fv {";" fv} [";"] "]"}
  post_is : {ts us : List Placed} {a : Expr} {l : List Selector} → Spells prim ts a → Spells (many selector) us l → Spells post (ts ++ us) (posted a l)
  at_places : {t u : Placed} {ts : List Placed} {es : List Expr}
      → IsSign sign.SOpenBracket t → Spells exprs ts es → IsSign sign.SCloseBracket u
      → Spells selector (t ∷ (ts ++ (u ∷ []))) (select.At es)
  change : {t u v : Placed} {ts us : List Placed} {i e : Expr}
      → IsSign sign.SOpenBracket t → Spells expr ts i → IsSign sign.SColon u → Spells expr us e → IsSign sign.SCloseBracket v
      → Spells selector (t ∷ (ts ++ (u ∷ (us ++ (v ∷ []))))) (select.Change i e)
  dot : {t u : Placed} → IsSign sign.SDot t → IsName u → Spells selector (t ∷ u ∷ []) (select.Field (name_in u))
  replace : {t u v : Placed} {ts us vs : List Placed} {f : FieldValue} {l : List FieldValue} {s : Option (Unit {0})}
      → IsWord word.WReplace t → IsSign sign.SOpenBracket u → Spells fv ts f → Spells (many semi_fv) us l → Spells (maybe semicolon) vs s → IsSign sign.SCloseBracket v
      → Spells selector (t ∷ u ∷ (ts ++ (us ++ (vs ++ (v ∷ []))))) (select.Replace (f ∷ l))
  -- fv = name ":" expr
  fv_is : {t u : Placed} {ts : List Placed} {e : Expr} → IsName t → IsSign sign.SColon u → Spells expr ts e
      → Spells fv (t ∷ u ∷ ts) (record { field = named t; value = e })
  -- ";" fv
  semi_fv_is : {t : Placed} {ts : List Placed} {f : FieldValue} → IsSign sign.SSemicolon t → Spells fv ts f → Spells semi_fv (t ∷ ts) f
  -- prim = number | character | text | "true" | "false" | "nil" | name | "old" name
  number : {t : Placed} {n : ℤ} → t.kind ≡ kind.Number n → Spells prim (t ∷ []) (at t.line (tree.Constant (constant.Integer n)))
  character : {t : Placed} {c : ℕ} → t.kind ≡ kind.Letter c → Spells prim (t ∷ []) (at t.line (tree.Constant (constant.Letter c)))
  text : {t : Placed} {s : List ℕ} → t.kind ≡ kind.Quoted s → Spells prim (t ∷ []) (at t.line (tree.Constant (constant.Quoted s)))
  true_is : {t : Placed} → IsWord word.WTrue t → Spells prim (t ∷ []) (at t.line (tree.Constant constant.True))
  false_is : {t : Placed} → IsWord word.WFalse t → Spells prim (t ∷ []) (at t.line (tree.Constant constant.False))
  nil_is : {t : Placed} → IsWord word.WNil t → Spells prim (t ∷ []) (at t.line (tree.Constant constant.Nil))
  a_name : {t : Placed} → IsName t → Spells prim (t ∷ []) (at t.line (tree.Name (name_in t)))
  old : {t u : Placed} → IsWord word.WOld t → IsName u → Spells prim (t ∷ u ∷ []) (at t.line (tree.Old (name_in u)))
  -- prim = name "(" [exprs] ")"
  call : {t u v : Placed} {ts : List Placed} {es : Option (List Expr)}
      → IsName t → IsSign sign.SOpenParen u → Spells (maybe exprs) ts es → IsSign sign.SCloseParen v
      → Spells prim (t ∷ u ∷ (ts ++ (v ∷ []))) (at t.line (tree.Call (name_in t) (listed es)))
  -- prim = ("integer"|"boolean"|"character") "(" expr ")"
  to_integer : {t u v : Placed} {ts : List Placed} {e : Expr}
      → IsWord word.WInteger t → IsSign sign.SOpenParen u → Spells expr ts e → IsSign sign.SCloseParen v
      → Spells prim (t ∷ u ∷ (ts ++ (v ∷ []))) (at t.line (tree.Convert scalar.Integer e))
  to_boolean : {t u v : Placed} {ts : List Placed} {e : Expr}
      → IsWord word.WBoolean t → IsSign sign.SOpenParen u → Spells expr ts e → IsSign sign.SCloseParen v
      → Spells prim (t ∷ u ∷ (ts ++ (v ∷ []))) (at t.line (tree.Convert scalar.Boolean e))
  to_character : {t u v : Placed} {ts : List Placed} {e : Expr}
      → IsWord word.WCharacter t → IsSign sign.SOpenParen u → Spells expr ts e → IsSign sign.SCloseParen v
      → Spells prim (t ∷ u ∷ (ts ++ (v ∷ []))) (at t.line (tree.Convert scalar.Character e))
  -- prim = "(" expr ")"
  parens : {t u : Placed} {ts : List Placed} {e : Expr}
      → IsSign sign.SOpenParen t → Spells expr ts e → IsSign sign.SCloseParen u
      → Spells prim (t ∷ (ts ++ (u ∷ []))) (at t.line (tree.Group e))
  -- prim = "error" "[" type "]"
  error_of : {t u v : Placed} {ts : List Placed} {w : Written}
      → IsWord word.WError t → IsSign sign.SOpenBracket u → Spells ty ts w → IsSign sign.SCloseBracket v
      → Spells prim (t ∷ u ∷ (ts ++ (v ∷ []))) (at t.line (tree.ErrorOf w))
  -- prim = "is" ("error" | name) "(" expr ")"
  is_error : {t u v w : Placed} {ts : List Placed} {e : Expr}
      → IsWord word.WIs t → IsWord word.WError u → IsSign sign.SOpenParen v → Spells expr ts e → IsSign sign.SCloseParen w
      → Spells prim (t ∷ u ∷ v ∷ (ts ++ (w ∷ []))) (at t.line (tree.IsError e))
  is_tag : {t u v w : Placed} {ts : List Placed} {e : Expr}
      → IsWord word.WIs t → IsName u → IsSign sign.SOpenParen v → Spells expr ts e → IsSign sign.SCloseParen w
      → Spells prim (t ∷ u ∷ v ∷ (ts ++ (w ∷ []))) (at t.line (tree.IsTag (name_in u) e))
  -- prim = "array" [name] "[" [expr ":" exprs] "]"
  array : {t u v : Placed} {ts us : List Placed} {n : Option ℕ} {es : Option Elements}
      → IsWord word.WArray t → Spells (maybe name) ts n → IsSign sign.SOpenBracket u → Spells (maybe elements) us es → IsSign sign.SCloseBracket v
      → Spells prim (t ∷ (ts ++ (u ∷ (us ++ (v ∷ []))))) (at t.line (tree.Array n es))
  -- prim = "stream" [name] "[" [exprs] "]"
  stream : {t u v : Placed} {ts us : List Placed} {n : Option ℕ} {es : Option (List Expr)}
      → IsWord word.WStream t → Spells (maybe name) ts n → IsSign sign.SOpenBracket u → Spells (maybe exprs) us es → IsSign sign.SCloseBracket v
      → Spells prim (t ∷ (ts ++ (u ∷ (us ++ (v ∷ []))))) (at t.line (tree.Stream n (listed es)))
  -- prim = "record" [name] "[" fv {";" fv} [";"] "]"
  a_record : {t u v : Placed} {ts us vs ws : List Placed} {n : Option ℕ} {f : FieldValue} {l : List FieldValue} {s : Option (Unit {0})}
      → IsWord word.WRecord t → Spells (maybe name) ts n → IsSign sign.SOpenBracket u → Spells fv us f → Spells (many semi_fv) vs l → Spells (maybe semicolon) ws s → IsSign sign.SCloseBracket v
      → Spells prim (t ∷ (ts ++ (u ∷ (us ++ (vs ++ (ws ++ (v ∷ []))))))) (at t.line (tree.Record n (f ∷ l)))
  -- prim = "union" name "[" name [":" expr] "]"
  union : {t u v w x : Placed} {ts : List Placed} {e : Option Expr}
      → IsWord word.WUnion t → IsName u → IsSign sign.SOpenBracket v → IsName w → Spells (maybe colon_expr) ts e → IsSign sign.SCloseBracket x
      → Spells prim (t ∷ u ∷ v ∷ w ∷ (ts ++ (x ∷ []))) (at t.line (tree.Union (name_in u) (name_in w) (content w e)))
  -- name
  name_is : {t : Placed} → IsName t → Spells name (t ∷ []) (name_in t)
  -- expr ":" exprs
  elements_are : {t : Placed} {ts us : List Placed} {e : Expr} {es : List Expr}
      → Spells expr ts e → IsSign sign.SColon t → Spells exprs us es
      → Spells elements (ts ++ (t ∷ us)) (roll-Elements (record { lower = e; values = es }))
  -- ":" expr
  colon_expr_is : {t : Placed} {ts : List Placed} {e : Expr} → IsSign sign.SColon t → Spells expr ts e → Spells colon_expr (t ∷ ts) e
  -- prim = "let" defs "in" exprs "end" "let"
  let_in : {t u v w : Placed} {ts us : List Placed} {ds : List Def} {es : List Expr}
      → IsWord word.WLet t → Spells defs ts ds → IsWord word.WIn u → Spells exprs us es → IsWord word.WEnd v → IsWord word.WLet w
      → Spells prim (t ∷ (ts ++ (u ∷ (us ++ (v ∷ w ∷ []))))) (at t.line (tree.Let ds es))
  -- prim = "if" expr "then" exprs {"elseif" expr "then" exprs} "else" exprs "end" "if"
  if_else : {t u v w x : Placed} {ts us vs ws : List Placed} {e : Expr} {es fs : List Expr} {l : List ElseIf}
      → IsWord word.WIf t → Spells expr ts e → IsWord word.WThen u → Spells exprs us es → Spells (many else_if) vs l → IsWord word.WElse v → Spells exprs ws fs → IsWord word.WEnd w → IsWord word.WIf x
      → Spells prim (t ∷ (ts ++ (u ∷ (us ++ (vs ++ (v ∷ (ws ++ (w ∷ x ∷ [])))))))) (at t.line (tree.If e es (nested l fs)))
  -- "elseif" expr "then" exprs
  else_if_is : {t u : Placed} {ts us : List Placed} {e : Expr} {es : List Expr}
      → IsWord word.WElseif t → Spells expr ts e → IsWord word.WThen u → Spells exprs us es
      → Spells else_if (t ∷ (ts ++ (u ∷ us))) (record { line = t.line; test = e; results = es })
  -- prim = "tagcase" [name ":="] expr arm {arm} ["otherwise" ":" exprs] "end" "tagcase"
  tagcase : {t u v : Placed} {ts us vs ws xs : List Placed} {n : Option ℕ} {e : Expr} {a : Arm} {l : List Arm} {o : Option (List Expr)}
      → IsWord word.WTagcase t → Spells (maybe binding) ts n → Spells expr us e → Spells arm vs a → Spells (many arm) ws l → Spells (maybe otherwise) xs o → IsWord word.WEnd u → IsWord word.WTagcase v
      → Spells prim (t ∷ (ts ++ (us ++ (vs ++ (ws ++ (xs ++ (u ∷ v ∷ []))))))) (at t.line (tree.TagCase (tag_case (record { name = n; expr = e }) (a ∷ l) o)))
  -- name ":="
  binding_is : {t u : Placed} → IsName t → IsSign sign.SAssign u → Spells binding (t ∷ u ∷ []) (name_in t)
  -- "otherwise" ":" exprs
  otherwise_is : {t u : Placed} {ts : List Placed} {es : List Expr} → IsWord word.WOtherwise t → IsSign sign.SColon u → Spells exprs ts es → Spells otherwise (t ∷ u ∷ ts) es
  -- arm = "tag" name {"," name} ":" exprs
  arm_is : {t u v : Placed} {ts us : List Placed} {ns : List Named} {es : List Expr}
      → IsWord word.WTag t → IsName u → Spells (many comma_name) ts ns → IsSign sign.SColon v → Spells exprs us es
      → Spells arm (t ∷ u ∷ (ts ++ (v ∷ us))) (roll-Arm (record { line = t.line; tags = named u ∷ ns; results = es }))
  -- prim = "for" group {"cross" group} [defs] "returns" clause {clause} "end" "for"
  for_product : {t u v w : Placed} {ts us vs ws xs : List Placed} {g : List Generator} {gs : List (List Generator)} {ds : Option (List Def)} {c : Clause} {cs : List Clause}
      → IsWord word.WFor t → Spells group ts g → Spells (many cross_group) us gs → Spells (maybe defs) vs ds → IsWord word.WReturns u → Spells clause ws c → Spells (many clause) xs cs → IsWord word.WEnd v → IsWord word.WFor w
      → Spells prim (t ∷ (ts ++ (us ++ (vs ++ (u ∷ (ws ++ (xs ++ (v ∷ w ∷ [])))))))) (at t.line (tree.For (loop.Product (g ∷ gs) (listed ds) (c ∷ cs))))
  -- prim = "for" "initial" defs turn "returns" clause {clause} "end" "for"
  for_initial : {t u v w x : Placed} {ts us vs ws : List Placed} {ds : List Def} {r : Turn} {c : Clause} {cs : List Clause}
      → IsWord word.WFor t → IsWord word.WInitial u → Spells defs ts ds → Spells turn us r → IsWord word.WReturns v → Spells clause vs c → Spells (many clause) ws cs → IsWord word.WEnd w → IsWord word.WFor x
      → Spells prim (t ∷ u ∷ (ts ++ (us ++ (v ∷ (vs ++ (ws ++ (w ∷ x ∷ []))))))) (at t.line (tree.For (loop.Initial ds r (c ∷ cs))))
  -- "cross" group
  cross_group_is : {t : Placed} {ts : List Placed} {g : List Generator} → IsWord word.WCross t → Spells group ts g → Spells cross_group (t ∷ ts) g
  -- group = gen {"dot" gen}
  group_is : {ts us : List Placed} {g : Generator} {gs : List Generator} → Spells gen ts g → Spells (many dot_gen) us gs → Spells group (ts ++ us) (g ∷ gs)
  -- "dot" gen
  dot_gen_is : {t : Placed} {ts : List Placed} {g : Generator} → IsWord word.WDot t → Spells gen ts g → Spells dot_gen (t ∷ ts) g
  -- gen = name "in" expr ["," expr] ["at" name]
  gen_is : {t u : Placed} {ts us vs : List Placed} {e : Expr} {o : Option Expr} {n : Option ℕ}
      → IsName t → IsWord word.WIn u → Spells expr ts e → Spells (maybe comma_expr) us o → Spells (maybe at_name) vs n
      → Spells gen (t ∷ u ∷ (ts ++ (us ++ vs))) (roll-Generator (record { name = named t; from = e; to = o; at = n }))
  -- "at" name
  at_name_is : {t u : Placed} → IsWord word.WAt t → IsName u → Spells at_name (t ∷ u ∷ []) (name_in u)
  -- defs = def {";" def} [";"]
  defs_are : {ts us vs : List Placed} {d : Def} {l : List Def} {s : Option (Unit {0})}
      → Spells def ts d → Spells (many semi_def) us l → Spells (maybe semicolon) vs s
      → Spells defs (ts ++ (us ++ vs)) (d ∷ l)
  -- ";" def
  semi_def_is : {t : Placed} {ts : List Placed} {d : Def} → IsSign sign.SSemicolon t → Spells def ts d → Spells semi_def (t ∷ ts) d
  -- def = target {"," target} ":=" exprs
  def_is : {t : Placed} {ts us vs : List Placed} {x : Target} {l : List Target} {es : List Expr}
      → Spells target ts x → Spells (many comma_target) us l → IsSign sign.SAssign t → Spells exprs vs es
      → Spells def (ts ++ (us ++ (t ∷ vs))) (roll-Def (record { targets = x ∷ l; values = es }))
  -- "," target
  comma_target_is : {t : Placed} {ts : List Placed} {x : Target} → IsSign sign.SComma t → Spells target ts x → Spells comma_target (t ∷ ts) x
  -- target = name [":" type]
  target_is : {t : Placed} {ts : List Placed} {w : Option Written} → IsName t → Spells (maybe colon_type) ts w
      → Spells target (t ∷ ts) (record { name = named t; ty = w })
  -- turn = test "repeat" defs
  test_first : {t : Placed} {ts us : List Placed} {x : Test} {ds : List Def}
      → Spells test ts x → IsWord word.WRepeat t → Spells defs us ds
      → Spells turn (ts ++ (t ∷ us)) (roll-Turn (record { is_first = true; is_until = x.is_until; test = x.test; defs = ds }))
  -- turn = "repeat" defs test
  test_last : {t : Placed} {ts us : List Placed} {x : Test} {ds : List Def}
      → IsWord word.WRepeat t → Spells defs ts ds → Spells test us x
      → Spells turn (t ∷ (ts ++ us)) (roll-Turn (record { is_first = false; is_until = x.is_until; test = x.test; defs = ds }))
  -- test = ("while" | "until") expr
  while : {t : Placed} {ts : List Placed} {e : Expr} → IsWord word.WWhile t → Spells expr ts e → Spells test (t ∷ ts) (record { is_until = false; test = e })
  until : {t : Placed} {ts : List Placed} {e : Expr} → IsWord word.WUntil t → Spells expr ts e → Spells test (t ∷ ts) (record { is_until = true; test = e })
  -- clause = ("array" | "stream") "of" expr [mask]
  array_of : {t u : Placed} {ts us : List Placed} {e : Expr} {m : Option Mask}
      → IsWord word.WArray t → IsWord word.WOf u → Spells expr ts e → Spells (maybe mask) us m
      → Spells clause (t ∷ u ∷ (ts ++ us)) (roll-Clause (record { line = t.line; kind = made.Array; value = e; mask = m }))
  stream_of : {t u : Placed} {ts us : List Placed} {e : Expr} {m : Option Mask}
      → IsWord word.WStream t → IsWord word.WOf u → Spells expr ts e → Spells (maybe mask) us m
      → Spells clause (t ∷ u ∷ (ts ++ us)) (roll-Clause (record { line = t.line; kind = made.Stream; value = e; mask = m }))
  -- clause = "value" "of" [["left"|"right"|"tree"] red] expr [mask]
  value_of : {t u : Placed} {ts us vs : List Placed} {k : Option ClauseKind} {e : Expr} {m : Option Mask}
      → IsWord word.WValue t → IsWord word.WOf u → Spells (maybe folding) ts k → Spells expr us e → Spells (maybe mask) vs m
      → Spells clause (t ∷ u ∷ (ts ++ (us ++ vs))) (roll-Clause (record { line = t.line; kind = folded k; value = e; mask = m }))
  -- ["left"|"right"|"tree"] red
  folding_is : {ts us : List Placed} {d : Option Direction} {r : Reduction} → Spells (maybe direction) ts d → Spells red us r → Spells folding (ts ++ us) (made.Reduce (grouped d) r)
  left : {t : Placed} → IsWord word.WLeft t → Spells direction (t ∷ []) towards.Left
  right : {t : Placed} → IsWord word.WRight t → Spells direction (t ∷ []) towards.Right
  as_tree : {t : Placed} → IsWord word.WTree t → Spells direction (t ∷ []) towards.Tree
  -- red = "sum" | "product" | "least" | "greatest" | "catenate"
  to_sum : {t : Placed} → IsWord word.WSum t → Spells red (t ∷ []) reduction.Sum
  to_product : {t : Placed} → IsWord word.WProduct t → Spells red (t ∷ []) reduction.Product
  to_least : {t : Placed} → IsWord word.WLeast t → Spells red (t ∷ []) reduction.Least
  to_greatest : {t : Placed} → IsWord word.WGreatest t → Spells red (t ∷ []) reduction.Greatest
  to_catenate : {t : Placed} → IsWord word.WCatenate t → Spells red (t ∷ []) reduction.Catenate
  -- mask = ("when" | "unless") expr
  when : {t : Placed} {ts : List Placed} {e : Expr} → IsWord word.WWhen t → Spells expr ts e → Spells mask (t ∷ ts) (record { is_unless = false; test = e })
  unless : {t : Placed} {ts : List Placed} {e : Expr} → IsWord word.WUnless t → Spells expr ts e → Spells mask (t ∷ ts) (record { is_unless = true; test = e })
