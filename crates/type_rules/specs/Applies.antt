-- What a form of expression makes of operands, each of one type, by the numbers of types, and which rule it breaks where it makes
-- nothing of them: 15 of operators, conversions and calls that are built in, 19 of arrays and streams, 20 of records, 21 of
-- unions, and 4 where the type that is made would be deeper than 64.
use Rattle.std.specs.Prelude.{◌≡◌, ◌⊎◌, ℕ, ◌<◌, ◌≤◌, ◌^◌, All, List, ◌++◌, Option, Some, None, length, slice_get}
use Rattle.type_table.specs.declared.form.Form.{Form}
use Rattle.type_table.specs.Forms.{form_depth}
use Rattle.type_table.specs.Tables.{depths, AddsAtMost, HasFew, HasMember, IsOver}
use Rattle.type_rules.specs.declared.fault.Refused.{Refused}
use Rattle.type_rules.specs.declared.fault.Refused.TheVariants as refused
use Rattle.type_rules.specs.declared.head.Head.{Head}
use Rattle.type_rules.specs.declared.head.Head.TheVariants as head
use Rattle.type_rules.specs.declared.head.Applied.{Applied}
use Rattle.type_rules.specs.declared.head.Sort.{Sort}
use Rattle.type_rules.specs.declared.head.Sort.TheVariants as sort
use Rattle.type_rules.specs.declared.head.Outcome.{Outcome}
use Rattle.type_rules.specs.Scalars.{error_of, errs, converts, prefixed, combines}
use Rattle.type_rules.specs.Calls.{called}
use Rattle.type_rules.specs.Sequences.{selects, updates, arrays, empties, streams}
use Rattle.type_rules.specs.Records.{fields, replaces, records, unites, tests}

abbrev pub applies : List Form → Head → List ℕ → Option Outcome
applies forms (head.ErrorOf n) ns = error_of n ns
applies forms (head.Convert to) ns = converts to ns
applies forms head.IsError ns = errs ns
applies forms (head.IsTag x) ns = tests forms x ns
applies forms (head.Prefix o) ns = prefixed o ns
applies forms (head.Binary o) ns = combines forms o ns
applies forms head.Select ns = selects forms ns
applies forms head.Update ns = updates forms ns
applies forms (head.Field x) ns = fields forms x ns
applies forms (head.Replace xs) ns = replaces forms xs ns
applies forms (head.Array named) ns = arrays forms named ns
applies forms (head.EmptyArray named) ns = empties forms named ns
applies forms (head.Stream named) ns = streams forms named ns
applies forms (head.Record named xs) ns = records forms named xs ns
applies forms (head.Union n x) ns = unites forms n x ns
applies forms (head.BuiltIn b) ns = called forms b ns

-- a record has a field, and its names are of 32 bits
abbrev pub HasField : Head → Type 0
HasField (head.Record named xs) = (1 ≤ length xs) × All (λ x. x < 2 ^ 32) xs
HasField _ = Unit {0}

abbrev pub rule_of : Head → ℕ
rule_of head.Select = 19
rule_of head.Update = 19
rule_of (head.Array named) = 19
rule_of (head.EmptyArray named) = 19
rule_of (head.Stream named) = 19
rule_of (head.Field x) = 20
rule_of (head.Replace xs) = 20
rule_of (head.Record named xs) = 20
rule_of (head.Union n x) = 21
rule_of (head.IsTag x) = 21
rule_of _ = 15

-- ---- the numbers of types that are made

-- a record or a union that is made has a member, and few enough
abbrev pub IsFilled : Sort → Type 0
IsFilled (sort.There n) = Unit {0}
IsFilled (sort.Made f) = HasMember f × HasFew f

-- the table is as before, with some types more behind
abbrev pub Grows : List Form → List Form → Type 0
Grows old new = (more : List Form) × (new ≡ old ++ more)

-- the number of a type in a table
abbrev pub IsSorted : List Form → Sort → ℕ → Type 0
IsSorted forms (sort.There n) k = k ≡ n
IsSorted forms (sort.Made f) k = slice_get forms k ≡ Some f

-- where a type is made the table has its form at the end, if it has one form more; its parts were there
abbrev pub Adds : List Form → Sort → List Form → Type 0
Adds old (sort.There n) new = new ≡ old
Adds old (sort.Made f) new = AddsAtMost old f new × IsOver (length old) f

-- a type that would be deeper than 64, where its parts are in the table, breaks rule 4
abbrev pub IsTooDeep : List Form → Sort → Refused → Type 0
IsTooDeep forms s refused.NoMemory = Unit {0}
IsTooDeep forms (sort.There n) (refused.Rule rule) = ⊥
IsTooDeep forms (sort.Made f) (refused.Rule rule) = (rule ≡ 4) × (IsOver (length forms) f → 64 < form_depth (depths forms) f)

-- ---- forms

-- this is what the form does, and the type that it makes, where the table is that one afterwards
pub record IsApplied (forms : List Form) (h : Head) (ns : List ℕ) (a : Applied) (after : List Form) : Type 0 where
  pub made : Sort
  pub outcome : applies forms h ns ≡ Some (record { operation = a.operation; sort = made })
  pub typed : IsSorted after made a.ty
  pub adds : Adds forms made after

-- the form makes nothing of the operands, or a type that is too deep
abbrev pub IsRefused : List Form → Head → List ℕ → Refused → Type 0
IsRefused forms h ns refused.NoMemory = Unit {0}
IsRefused forms h ns (refused.Rule rule) =
    ((applies forms h ns ≡ None) × (rule ≡ rule_of h))
    ⊎ ((o : Outcome) × (applies forms h ns ≡ Some o) × IsTooDeep forms o.sort (refused.Rule rule))
