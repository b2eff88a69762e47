-- A unit that is typed, and one that breaks a rule:
--
--     define main
--     type row = array [integer]
--     type pair = record [a, b: row]
--     function main(n: integer; p: pair returns row)
--       for i in 1, n returns array of i end for
--     end function
use Rattle.std.proofs.Common.{◌≡◌, ℕ, List, [], ◌∷◌, Option, Some, None, false, refl, pos, ap, ◌∙◌, max, zero, suc, ◌≢◌, arith}
use Rattle.std.specs.Prelude.{codes, Contains}
use Rattle.loop_folds.specs.Ty.{Ty}
use Rattle.loop_folds.specs.Ty.TheVariants as ty
use Rattle.sisal_tree.specs.Token.{Token}
use Rattle.sisal_tree.specs.Kind.{Kind}
use Rattle.sisal_tree.specs.Kind.TheVariants as kind
use Rattle.sisal_tree.specs.Word.{Word}
use Rattle.sisal_tree.specs.Word.TheVariants as word
use Rattle.sisal_tree.specs.Sign.{Sign}
use Rattle.sisal_tree.specs.Sign.TheVariants as sign
use Rattle.sisal_tree.specs.declared.unit.Unit as tree_unit
use Rattle.sisal_tree.specs.declared.unit.FunKind.TheVariants as fun
use Rattle.sisal_tree.specs.declared.unit.FunDef.{FunDef}
use Rattle.sisal_tree.specs.declared.unit.Item.TheVariants as item
use Rattle.sisal_tree.specs.declared.expr.Expr.{Expr}
use Rattle.sisal_tree.specs.declared.expr.ExprKind.TheVariants as tree
use Rattle.sisal_tree.specs.declared.expr.Constant.TheVariants as constant
use Rattle.sisal_tree.specs.declared.expr.Loop.TheVariants as loop
use Rattle.sisal_tree.specs.declared.expr.Generator.{Generator, roll-Generator}
use Rattle.sisal_tree.specs.declared.expr.Clause.{roll-Clause}
use Rattle.sisal_tree.specs.declared.expr.Mask.{Mask}
use Rattle.sisal_tree.specs.declared.expr.ClauseKind.TheVariants as made
use Rattle.sisal_tree.specs.declared.expr.Direction.TheVariants as towards
use Rattle.sisal_grammar.specs.Spells.{IsWord, IsSign, IsName, Spells}
use Rattle.sisal_grammar.specs.Spells as spells
use Rattle.type_table.specs.declared.form.Form.{Form}
use Rattle.type_table.specs.declared.form.Form.TheVariants as form
use Rattle.loop_folds.specs.declared.folding.Folding.TheVariants as folding
use Rattle.loop_folds.specs.declared.masking.Masking.{Masking}
use Rattle.loop_folds.specs.declared.masking.Masking.TheVariants as masking
use Rattle.typed_tree.specs.declared.expr.TypedExpr.{TypedExpr}
use Rattle.typed_tree.specs.declared.expr.TypedKind.TheVariants as typed
use Rattle.typed_tree.specs.declared.expr.Source.TheVariants as source
use Rattle.typed_tree.specs.declared.program.Program.{Program}
use Rattle.typed_tree.specs.Types as types_are
use Rattle.typed_tree.specs.Types.{depth_of, IsShallow, IsNumber}
use Rattle.typed_tree.specs.Typing.{at, with, Signature, Known, Number, Types}
use Rattle.typed_tree.specs.Typing as rule
use Rattle.typed_tree.specs.Written.{Denotes, Misnames}
use Rattle.typed_tree.specs.Written as written_as
use Rattle.typed_tree.specs.Units.{IsTyped, Declared, Declares, AreDeclared, IsHeader, denotes, parameters}
use Rattle.typed_tree.specs.Units as units
use Rattle.typed_tree.specs.Breaks.{NoBuiltIn}
use Rattle.typed_tree.specs.BuiltIns.{built_ins}
use Rattle.typed_tree.specs.declared.built_in.BuiltIn.{BuiltIn}
use Rattle.sisal_tree.specs.Words.{beside}
use Rattle.std.proofs.lemmas.List.Elements.{All-cons, All-nil}
use Rattle.typed_tree.specs.Faults.{BreaksUnit}
use Rattle.typed_tree.specs.Faults as faults
use Rattle.typed_tree.proofs.Depths.{depth_basic, depth_array, depth_record}

abbrev token : ℕ → Kind → Token
token line kind = record { kind = kind; line = line }

abbrev w : ℕ → Word → Token
w line x = token line (kind.Word x)

abbrev g : ℕ → Sign → Token
g line x = token line (kind.Sign x)

abbrev n : ℕ → ℕ → Token
n line x = token line (kind.Id x)

-- the tokens up to the body
abbrev tokens : List Token
tokens =
    w 1 word.WDefine ∷ n 1 0 ∷
    w 2 word.WType ∷ n 2 1 ∷ g 2 sign.SEqual ∷ w 2 word.WArray ∷ g 2 sign.SOpenBracket ∷ w 2 word.WInteger ∷ g 2 sign.SCloseBracket ∷
    w 3 word.WType ∷ n 3 2 ∷ g 3 sign.SEqual ∷ w 3 word.WRecord ∷ g 3 sign.SOpenBracket ∷ n 3 3 ∷ g 3 sign.SComma ∷ n 3 4 ∷ g 3 sign.SColon ∷ n 3 1 ∷ g 3 sign.SCloseBracket ∷
    w 4 word.WFunction ∷ n 4 0 ∷ g 4 sign.SOpenParen ∷ n 4 5 ∷ g 4 sign.SColon ∷ w 4 word.WInteger ∷ g 4 sign.SSemicolon ∷ n 4 6 ∷ g 4 sign.SColon ∷ n 4 2 ∷ w 4 word.WReturns ∷ n 4 1 ∷ g 4 sign.SCloseParen ∷
    []

abbrev names : List (List ℕ)
names = codes "main" ∷ codes "row" ∷ codes "pair" ∷ codes "a" ∷ codes "b" ∷ codes "n" ∷ codes "p" ∷ codes "i" ∷ codes "j" ∷ []

-- a generator from 1 to a name
abbrev one_to : ℕ → ℕ → List Generator
one_to x y =
    roll-Generator (record { name = record { name = x; line = 5 }; from = at 5 (tree.Constant (constant.Integer (pos 1))); to = Some (at 5 (tree.Name y)); at = None }) ∷ []

abbrev body : Expr
body = at 5 (tree.For (loop.Product (one_to 7 5 ∷ []) [] (roll-Clause (record { line = 5; kind = made.Array; value = at 5 (tree.Name 7); mask = None }) ∷ [])))

abbrev main : FunDef
main = record {
  line = 4;
  header = record {
    name = record { name = 0; line = 4 };
    params =
        record { names = record { name = 5; line = 4 } ∷ []; ty = record { from = 25; to = 26 } }
        ∷ record { names = record { name = 6; line = 4 } ∷ []; ty = record { from = 29; to = 30 } } ∷ [];
    results = record { from = 31; to = 32 } ∷ [];
  };
  kind = fun.Defined (body ∷ []);
}

abbrev unit : tree_unit.Unit
unit = record {
  tokens = record { list = tokens; names = names };
  defines = record { name = 0; line = 1 } ∷ [];
  items =
      item.Alias (record { line = 2; name = 1; ty = record { from = 5; to = 9 } })
      ∷ item.Alias (record { line = 3; name = 2; ty = record { from = 12; to = 20 } })
      ∷ item.Function main ∷ [];
}

abbrev forms : List Form
forms = form.Boolean ∷ form.Character ∷ form.Integer ∷ form.Null ∷ form.Array 1 ∷ form.Array 2 ∷ form.Record (record { name = 3; ty = 5 } ∷ record { name = 4; ty = 5 } ∷ []) ∷ form.Array 5 ∷ []

-- a loop from 1 to the value at a level, with one clause
abbrev typed_loop : ℕ → Masking → ℕ → List TypedExpr → TypedExpr
typed_loop number m level values = with 5 (number ∷ []) (typed.Product
    (record { sources = source.Range ∷ []; clauses = record { folding = folding.Array; direction = towards.Any; masking = m } ∷ [] })
    (with 5 (2 ∷ []) (typed.Constant (constant.Integer (pos 1))) ∷ with 5 (2 ∷ []) (typed.Value level) ∷ [])
    []
    values)

abbrev typed_body : TypedExpr
typed_body = typed_loop 5 masking.All 0 (with 5 (2 ∷ []) (typed.Value 2) ∷ [])

abbrev program : Program
program = record {
  names = names;
  types = forms;
  functions = record { line = 4; name = 0; parameters = 5 ∷ 6 ∷ []; params = 2 ∷ 6 ∷ []; results = 5 ∷ []; body = Some (typed_body ∷ []) } ∷ [];
  defines = 0 ∷ [];
}

-- ---- types

abbrev row : Ty
row = ty.Arr ty.Int

abbrev pair : Ty
pair = ty.Rec ((codes "a", row) ∷ (codes "b", row) ∷ [])

abbrev known : List (ℕ × Ty)
known = (2, pair) ∷ (1, row) ∷ []

row_depth : depth_of row ≡ 2
row_depth = depth_array ty.Int ∙ ap suc depth_basic.0

pair_depth : depth_of pair ≡ 3
pair_depth = depth_record ((codes "a", row) ∷ (codes "b", row) ∷ []) ∙ ap (λ d. suc (max d (max d 0))) row_depth

row_is_shallow : IsShallow row
row_is_shallow = omega (arith, row_depth)

pair_is_shallow : IsShallow pair
pair_is_shallow = omega (arith, pair_depth)

row_is : denotes unit [] (record { from = 5; to = 9 }) row
row_is = written_as.sequence (written_as.array (record { is = refl })) (record { is = refl }) (written_as.integer (record { is = refl })) (record { is = refl }) row_is_shallow

a_row : Denotes names ((1, row) ∷ []) (record { place = 18; kind = kind.Id 1; line = 3 } ∷ []) row
a_row = written_as.a_name (record { number = 1; is = refl }) refl

only : {X : Type 0} (x y : X) → Contains (x ∷ []) y → x ≡ y
only x y (zero, near, e) = e
only x y (suc k, near, e) = absurd (omega (arith, near))

none_in : {X : Type 0} (y : X) → Contains [] y → ⊥
none_in y (k, near, e) = omega (arith, near)

differ : {x y : ℕ} → (x ≢ y) → Contains (x ∷ []) y → ⊥
differ {x = x} {y = y} apart c = apart (only x y c)

pair_is : denotes unit ((1, row) ∷ []) (record { from = 12; to = 20 }) pair
pair_is = written_as.members (written_as.a_record (record { is = refl })) (record { is = refl })
    (written_as.last
    (written_as.of_type (record { number = 3; is = refl }) (spells.more (spells.comma_name_is (record { is = refl }) (record { number = 4; is = refl })) spells.nothing) (record { is = refl })
    a_row (written_as.a_name refl (written_as.a_name refl written_as.no_name)))
    spells.absent)
    (record { is = refl }) (differ (λ e. omega (arith, e)), (none_in 4, tt)) pair_is_shallow

known_pair : denotes unit known (record { from = 29; to = 30 }) pair
known_pair = written_as.a_name (record { number = 2; is = refl }) refl

known_row : denotes unit known (record { from = 31; to = 32 }) row
known_row = written_as.a_name (record { number = 1; is = refl }) refl

known_integer : denotes unit known (record { from = 25; to = 26 }) ty.Int
known_integer = written_as.integer (record { is = refl })

abbrev signature : Signature
signature = record { name = 0; parameters = 5 ∷ 6 ∷ []; params = ty.Int ∷ pair ∷ []; results = row ∷ [] }

abbrev declared : Declared
declared = record { function = main; types = known; signature = signature }

is_main : IsHeader unit known main.header signature
is_main = record {
  named = refl;
  params = units.a_field known_integer (units.a_field known_pair units.no_field);
  distinct = (differ (λ e. omega (arith, e)), (none_in 6, tt));
  results = units.a_result known_row units.no_result;
}

declares : Declares unit [] unit.items (declared ∷ [])
declares = units.a_type row_is refl (units.a_type pair_is refl (units.a_function is_main units.no_item))

main_is_own : (b : BuiltIn) (spelling : List ℕ) → Some (codes "main") ≡ Some spelling → beside spelling built_ins ≡ Some b → ⊥
main_is_own b spelling e h = let none : beside (codes "main") built_ins ≡ None = refl in cc

are_declared : AreDeclared unit (declared ∷ [])
are_declared = record {
  declares = declares;
  distinct = (none_in 0, tt);
  own = All-cons (λ s. NoBuiltIn (units.known unit [] (declared ∷ []) []) s.name) signature [] (λ b h. main_is_own b h.spelling h.spelled h.named) (All-nil (λ s. NoBuiltIn (units.known unit [] (declared ∷ []) []) s.name));
}

row_number : IsNumber forms names 5 row
row_number = types_are.array refl (types_are.integer refl)

pair_number : IsNumber forms names 6 pair
pair_number = types_are.a_record refl (types_are.a_member refl row_number (types_are.a_member refl row_number types_are.no_member))

abbrev k : Known
k = units.known unit forms (declared ∷ []) known

integers : Number k (2 ∷ []) (ty.Int ∷ [])
integers = record { each = (types_are.integer refl, tt) }

numbers : Number k (5 ∷ []) (row ∷ [])
numbers = record { each = (row_number, tt) }

body_is : Types k (denotes unit known) (parameters signature) body typed_body (row ∷ [])
body_is = rule.for_product (rule.one_group
    (rule.range (record { name = 7; line = 5 }) (rule.constant integers) (rule.name refl integers) rule.no_generator)
    (none_in 7, tt) rule.no_def tt
    (rule.a_clause 5 (rule.name refl integers) (types_are.array_of ty.Int) row_is_shallow rule.no_mask rule.no_clause)
    numbers)

is_typed : IsTyped unit program
is_typed = record {
  declared = declared ∷ [];
  declares = are_declared;
  forward = All-cons (λ d. Contains (units.signatures (declared ∷ [])) d.signature) declared [] (0, omega arith, refl) (All-nil (λ d. Contains (units.signatures (declared ∷ [])) d.signature));
  names = refl;
  functions = units.a_function (record { line = refl; name = refl; parameters = refl; params = (types_are.integer refl, (pair_number, tt)); results = (row_number, tt); body = units.defined (rule.more body_is rule.no_more) }) units.no_function;
  defines = units.a_name (record { function = declared; there = refl; named = refl; body = body ∷ []; defined = refl }) units.no_name;
}

-- ---- loops in loops

abbrev mask : Option Mask
mask = Some (record { is_unless = false; test = at 5 (tree.Constant constant.True) })

-- for i in 1, n cross j in 1, i returns array of j when true end for
abbrev crossed : Expr
crossed = at 5 (tree.For (loop.Product (one_to 7 5 ∷ one_to 8 7 ∷ []) []
    (roll-Clause (record { line = 5; kind = made.Array; value = at 5 (tree.Name 8); mask = mask }) ∷ [])))

abbrev typed_crossed : TypedExpr
typed_crossed = typed_loop 7 masking.All 0 (typed_loop 5 masking.When 2 (with 5 (2 ∷ []) (typed.Value 3) ∷ with 5 (0 ∷ []) (typed.Constant constant.True) ∷ []) ∷ [])

rows_are_shallow : IsShallow (ty.Arr row)
rows_are_shallow = omega (arith, depth_array row, row_depth)

crossed_is : Types k (denotes unit known) (parameters signature) crossed typed_crossed (ty.Arr row ∷ [])
crossed_is = rule.for_product (rule.a_group
    (rule.range (record { name = 7; line = 5 }) (rule.constant integers) (rule.name refl integers) rule.no_generator)
    (none_in 7, tt)
    (rule.one_group
    (rule.range (record { name = 8; line = 5 }) (rule.constant integers) (rule.name refl integers) rule.no_generator)
    (none_in 8, tt) rule.no_def tt
    (rule.a_clause 5 (rule.name refl integers) (types_are.array_of ty.Int) row_is_shallow (rule.a_mask (rule.constant (record { each = (types_are.boolean refl, tt) }))) rule.no_clause)
    numbers)
    (rule.a_clause 5 (at 5 (tree.Name 8)) mask (types_are.array_of row) rows_are_shallow rule.no_clause)
    (record { each = (types_are.array refl row_number, tt) }))

-- ---- a real type

-- `define main  function main(returns real) 1 end function`, its tokens up to the body
abbrev real_tokens : List Token
real_tokens =
    w 1 word.WDefine ∷ n 1 0 ∷ w 2 word.WFunction ∷ n 2 0 ∷ g 2 sign.SOpenParen ∷ w 2 word.WReturns ∷ w 2 word.WReal ∷ g 2 sign.SCloseParen ∷ []

abbrev real_main : FunDef
real_main = record {
  line = 2;
  header = record { name = record { name = 0; line = 2 }; params = []; results = record { from = 6; to = 7 } ∷ [] };
  kind = fun.Defined (at 2 (tree.Constant (constant.Integer (pos 1))) ∷ []);
}

abbrev real_unit : tree_unit.Unit
real_unit = record {
  tokens = record { list = real_tokens; names = codes "main" ∷ [] };
  defines = record { name = 0; line = 1 } ∷ [];
  items = item.Function real_main ∷ [];
}

real_breaks : BreaksUnit real_unit 3 2
real_breaks = faults.in_items (faults.in_header (faults.in_result (0, omega arith, refl) (written_as.real [] (record { is = refl }))))
