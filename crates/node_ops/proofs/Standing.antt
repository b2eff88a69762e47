-- Operands that are made of what is carried stand for it.
use Rattle.std.proofs.Common.{◌≡◌, ℕ, pos, List, [], ◌∷◌, map, Option, Some, refl, ap, ◌∙◌, rules}
use Rattle.std.specs.Option.{option_map}
use Rattle.flow_value.specs.Bounds.{bounded}
use Rattle.flow_value.specs.declared.cause.Cause.{Cause}
use Rattle.flow_value.specs.declared.value.Val.{Val}
use Rattle.flow_value.specs.declared.value.Val.TheOpen.{Val-F}
use Rattle.flow_value.specs.declared.value.Val.TheVariants as val
use Rattle.flow_value.specs.declared.value.Val.TheViews as values
use Rattle.if1_graph.specs.Rows.{Operand, row_of}
use Rattle.if1_graph.specs.declared.row.Rest.{Rest}
use Rattle.if1_graph.specs.declared.row.Rest.TheVariants as rest
use Rattle.graph_meaning.specs.Carried.{Carried, Value, Many, Spoiled, Name, Unfilled}
use Rattle.graph_meaning.specs.Strict.{Taken, AnyValue, AnInteger, AMultiple, AName, AReduction, taken_of, Takes, AllTake, MayHaveValues, FitsRest, Fits}
use Rattle.node_ops.specs.Operands.{text_of, named, name_in, multiple_in, multiple, name, plain, stands_for, stands_behind, carried, operand_for}
use Rattle.node_ops.specs.Laws.{DoOperandsStand}

text-of : (text : List ℕ) → text_of (map val.Char text) ≡ Some text
text-of [] = refl
text-of (c ∷ text) = ap (option_map (λ cs. c ∷ cs)) (text-of text)

out-stream : (vs : List Val) → values.out-Val (val.Stream vs) ≡ Val-F.Stream vs
out-stream vs = search (rules, values.the_lemmas)

out-error : (c : Cause) → values.out-Val (val.Err c) ≡ Val-F.Err c
out-error c = search (rules, values.the_lemmas)

stream-stands : (vs : List Val) → multiple (Some (val.Stream vs)) ≡ Many vs
stream-stands vs = ap (multiple_in (val.Stream vs)) (out-stream vs)

error-stands : (c : Cause) → multiple (Some (val.Err c)) ≡ Spoiled c
error-stands c = ap (multiple_in (val.Err c)) (out-error c)

name-stands : (text : List ℕ) → name (Some (val.Arr (bounded (pos 1) (map val.Char text)))) ≡ Name text
name-stands text =
    let v = val.Arr (bounded (pos 1) (map val.Char text)) in
    let out : values.out-Val v ≡ Val-F.Arr (bounded (pos 1) (map val.Char text)) = search (rules, values.the_lemmas) in
    ap (name_in v) out ∙ ap (named v) (text-of text)

stands : (k : Taken) (c : Carried) → Takes k c → stands_for k (operand_for c) ≡ c
stands AnyValue (Value v) t = refl
stands AnInteger (Value v) t = refl
stands AMultiple (Many vs) t = stream-stands vs
stands AMultiple (Spoiled c) t = error-stands c
stands AName (Name text) t = name-stands text
stands AReduction (Name text) t = name-stands text
stands AnyValue (Many vs) t = absurd t
stands AnyValue (Spoiled c) t = absurd t
stands AnyValue (Name text) t = absurd t
stands AnyValue Unfilled t = absurd t
stands AnInteger (Many vs) t = absurd t
stands AnInteger (Spoiled c) t = absurd t
stands AnInteger (Name text) t = absurd t
stands AnInteger Unfilled t = absurd t
stands AMultiple (Value v) t = absurd t
stands AMultiple (Name text) t = absurd t
stands AMultiple Unfilled t = absurd t
stands AName (Value v) t = absurd t
stands AName (Many vs) t = absurd t
stands AName (Spoiled c) t = absurd t
stands AName Unfilled t = absurd t
stands AReduction (Value v) t = absurd t
stands AReduction (Many vs) t = absurd t
stands AReduction (Spoiled c) t = absurd t
stands AReduction Unfilled t = absurd t

abbrev Stand : (Option Val → Carried) → List Carried → Type 0
Stand f cs = map f (map operand_for cs) ≡ cs

all-stand : (k : Taken) (cs : List Carried) → AllTake k cs → Stand (stands_for k) cs
all-stand k [] t = refl
all-stand k (c ∷ cs) t = ap (λ d. d ∷ map (stands_for k) (map operand_for cs)) (stands k c t.0) ∙ ap (λ ds. c ∷ ds) (all-stand k cs t.1)

values-stand : (cs : List Carried) → MayHaveValues cs → Stand plain cs
values-stand [] t = refl
values-stand (Value v ∷ cs) t = ap (λ ds. Value v ∷ ds) (values-stand cs t)
values-stand (Unfilled ∷ cs) t = ap (λ ds. Unfilled ∷ ds) (values-stand cs t)
values-stand (Many vs ∷ cs) t = absurd t
values-stand (Spoiled c ∷ cs) t = absurd t
values-stand (Name text ∷ cs) t = absurd t

rest-stands : (more : Rest) (cs : List Carried) → FitsRest more cs → Stand (stands_behind more) cs
rest-stands rest.Nothing [] t = refl
rest-stands rest.Nothing (c ∷ cs) t = absurd t
rest-stands rest.Mask [] t = refl
rest-stands rest.Mask (m ∷ []) t = ap (λ c. c ∷ []) (stands AMultiple m t)
rest-stands rest.Mask (m ∷ c ∷ cs) t = absurd t
rest-stands (rest.More how w) cs t = all-stand (taken_of w) cs t
rest-stands rest.Arguments cs t = all-stand AnyValue cs t
rest-stands rest.Fields cs t = values-stand cs t
rest-stands rest.NewFields cs t = values-stand cs t

all-carried : (os : List Operand) (more : Rest) (cs : List Carried) → Fits os more cs → carried os more (map operand_for cs) ≡ cs
all-carried [] more cs t = rest-stands more cs t
all-carried (o ∷ os) more [] t = absurd t
all-carried (o ∷ os) more (c ∷ cs) t =
    ap (λ d. d ∷ carried os more (map operand_for cs)) (stands (taken_of o.1) c t.0)
    ∙ ap (λ ds. c ∷ ds) (all-carried os more cs t.1)

pub operands-stand : DoOperandsStand
operands-stand o cs t = all-carried (row_of o).operands (row_of o).rest cs t
