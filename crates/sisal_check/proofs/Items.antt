-- What is spelled, item by item; how many values expressions have, and how many levels definitions take.
use Rattle.std.proofs.Common.{◌≡◌, ℕ, zero, suc, ◌+◌, ◌<◌, ◌≤◌, arith, List, [], ◌∷◌, ◌++◌, All, length, map, get_or, slice_get, Option, Some, None, refl, sym, ap, subst, ◌∙◌, drop, Bool, true, false, cond}
use Rattle.std.specs.Prelude.{IfSome, IsSomeAnd, min}
use Rattle.std.specs.List.{filter}
use Rattle.std.proofs.lemmas.List.{length-append, length-map}
use Rattle.std.proofs.lemmas.List.Elements.{All-get_or, All-nil, All-cons, All-head, All-tail, All-map}
use Rattle.std.proofs.Math.Nat.{min-le_right}
use Rattle.std.proofs.lemmas.Option.{same_Some}
use Rattle.sisal_lex.specs.declared.token.Token.{Token}
use Rattle.sisal_tree.specs.declared.expr.FieldValue.{FieldValue}
use Rattle.sisal_tree.specs.declared.unit.Named.{Named}
use Rattle.sisal_tree.specs.declared.unit.Field.{Field}
use Rattle.sisal_tree.specs.declared.unit.FunDef.{FunDef}
use Rattle.sisal_tree.specs.declared.unit.Item.{Item}
use Rattle.sisal_tree.specs.declared.unit.Item.TheVariants as item
use Rattle.sisal_tree.specs.declared.expr.Target.{Target}
use Rattle.typing_laws.specs.Defining.{named_targets}
use Rattle.text_trees.specs.Parts.{HasLoopParts}
use Rattle.text_trees.proofs.Parts.{spelled_parts}
use Rattle.type_rules.specs.Applies.{HasField}
use Rattle.type_rules.specs.Heads.{IsUnnamedHead, convert, is_error, is_tag, prefix, binary, select, update, field}
use Rattle.type_rules.specs.declared.head.Head.{Head}
use Rattle.type_rules.specs.declared.head.Head.TheVariants as head
use Rattle.sisal_tree.specs.declared.expr.ExprKind.{ExprKind}
use Rattle.sisal_tree.specs.declared.expr.Clause.{Clause}
use Rattle.sisal_tree.specs.declared.expr.Def.{Def, out-Def}
use Rattle.sisal_tree.specs.declared.expr.Generator.{Generator, out-Generator}
use Rattle.sisal_tree.specs.declared.expr.Loop.{Loop}
use Rattle.sisal_tree.specs.declared.expr.Loop.TheVariants as loop
use Rattle.sisal_tree.specs.declared.expr.Turn.{Turn}
use Rattle.sisal_tree.specs.declared.expr.ExprKind.TheViews.{out-Loop}
use Rattle.text_trees.proofs.Views.{out_product, out_initial}
use Rattle.text_trees.specs.Spelled.{IsLoop, IsDef, AreDefs, IsClause, IsTurn, IsGenerator, AreGroups, IsItem, defs_levels, index_levels, group_levels, groups_levels, content_levels, params_levels}
use Rattle.type_table.specs.declared.form.Form.{Form}
use Rattle.typed_tree.specs.declared.expr.TypedExpr.{TypedExpr}
use Rattle.unit_types.specs.declared.header.Signature.{Signature}
use Rattle.sisal_check.specs.declared.state.Given.{Given}
use Rattle.sisal_check.specs.Walked.{given_of, header_of}
use Rattle.value_names.specs.Names.{Names}
use Rattle.value_names.specs.Scopes.{define, define_all}
use Rattle.typing_laws.specs.Given as by
use Rattle.typing_laws.specs.Forming.{fields_of, Finishes, Calls, own, built_in}
use Rattle.typing_laws.specs.Casing.{first_types, named_content}
use Rattle.typing_laws.specs.Looping.{KeepsGenerator, index_names, index_types}
use Rattle.typing_laws.specs.Bodies.{define_params}
use Rattle.typed_tree.specs.Breaks.{generators_in, index_in}
use Rattle.typed_tree.specs.Faults.{functions}
use Rattle.typed_tree.specs.Scopes.{targets}
use Rattle.typed_tree.specs.Typing.{names_of}
use Rattle.typed_tree.specs.Units.{is_given}
use Rattle.type_rules.proofs.Lists.{cut}
use Rattle.unit_types.specs.Headings.{given_functions, heading_in, heading_of, parameters_of}

-- the item at a place
pub item_at : {A : Type 0} (P : A → Type 0) (xs : List A) (i : ℕ) (x : A) → i < length xs → x ≡ get_or xs i x → All P xs → P x
item_at P xs i x lt is all = subst P (sym is) (All-get_or P xs i x lt all)

-- the names of fields
pub names_spelled : (names : ℕ) (vs : List FieldValue) → All (λ v. v.field.name < names) vs → All (λ y. y < names) (fields_of vs)
names_spelled names vs all = All-map (λ y. y < names) (λ v. v.field.name) vs all

pub as_many_fields : (vs : List FieldValue) (names : List ℕ) → names ≡ fields_of vs → 1 ≤ length vs → 1 ≤ length names
as_many_fields vs names is some = let many : length names ≡ length vs = ap length is ∙ length-map vs (λ v. v.field.name) in omega (arith, many, some)

pub unnamed_field : (kind : ExprKind) (h : Head) → IsUnnamedHead kind h → HasField h
unnamed_field _ _ (convert c e) = tt
unnamed_field _ _ (is_error e) = tt
unnamed_field _ _ (is_tag x e) = tt
unnamed_field _ _ (prefix o e) = tt
unnamed_field _ _ (binary o e b) = tt
unnamed_field _ _ (select e i) = tt
unnamed_field _ _ (update e i b) = tt
unnamed_field _ _ (field e x) = tt

-- names of as many types take a level each
pub levels : (xs : List Named) (ts : List ℕ) (s : Names) → length ts ≡ length xs → (define_all xs ts s).height ≡ s.height + length ts
levels [] [] s e = omega arith
levels [] (t ∷ ts) s e = absurd (omega (arith, e))
levels (x ∷ xs) [] s e = absurd (omega (arith, e))
levels (x ∷ xs) (t ∷ ts) s e =
    let m : length ts ≡ length xs = omega (arith, e) in
    let r : (define_all xs ts (define x.name t s)).height ≡ s.height + 1 + length ts = levels xs ts (define x.name t s) m in
    r ∙ omega arith

-- the types of the first arm
pub first_some : (o : Option (List ℕ)) (ns : List ℕ) → IfSome o (λ ms. 1 ≤ length ms) → 1 ≤ length ns → IsSomeAnd (first_types o ns) (λ ms. 1 ≤ length ms)
first_some None ns h le = le
first_some (Some ms) ns h le = h

pub if_some : (o : Option (List ℕ)) → IsSomeAnd o (λ ms. 1 ≤ length ms) → IfSome o (λ ms. 1 ≤ length ms)
if_some None h = elim h [ ]
if_some (Some ms) h = h

pub first_stays : (o : Option (List ℕ)) (ns : List ℕ) → IsSomeAnd o (λ ms. 1 ≤ length ms) → IsSomeAnd (first_types o ns) (λ ms. 1 ≤ length ms)
first_stays None ns h = elim h [ ]
first_stays (Some ms) ns h = h

-- as many as there are at least of other lists
pub some_on : {A : Type 0} (es xs : List A) (ns : List ℕ) → xs ≡ es → 1 ≤ length es → length xs ≤ length ns → 1 ≤ length ns
some_on es xs ns is some le = let same : length xs ≡ length es = ap length is in omega (arith, same, some, le)

pub none_of : {A : Type 0} (xs : List A) → length xs ≤ 0 → xs ≡ []
none_of [] le = refl
none_of (x ∷ xs) le = absurd (omega (arith, le))

-- a definition takes as many levels as it has values
pub no_levels : (height : ℕ) (ns : List ℕ) → ns ≡ [] → height ≡ height + length ns
no_levels height ns is = let none : length ns ≡ 0 = ap length is in omega (arith, none)

pub levels_more : (xs : List Target) (ns old new : List ℕ) (before after : Names) (height : ℕ) → length ns ≡ length xs → new ≡ old ++ ns → after ≡ define_all (named_targets xs) ns before
    → before.height ≡ height + length old → after.height ≡ height + length new
levels_more xs ns old new before after height count is names so =
    let many : length ns ≡ length (named_targets xs) = count ∙ sym (length-map xs (λ x. x.name)) in
    let up : after.height ≡ before.height + length ns = ap (λ s. s.height) names ∙ levels (named_targets xs) ns before many in
    let all : length new ≡ length old + length ns = ap length is ∙ length-append old ns in
    omega (arith, up, all, so)

-- the levels of loop names are in use
pub in_use : (first height now m k : ℕ) → first ≡ height → now ≡ height + k → first + min m k ≤ now
in_use first height now m k is so = let least : min m k ≤ k = min-le_right m k in omega (arith, is, so, least)

-- an expression has some value
pub one_value_more : (old new ns : List ℕ) (first i : ℕ) → first + i ≤ length old → new ≡ old ++ ns → 1 ≤ length ns → first + (i + 1) ≤ length new
one_value_more old new ns first i so is some =
    let all : length new ≡ length old + length ns = ap length is ∙ length-append old ns in
    omega (arith, all, so, some)

pub two_values : {A : Type 0} (first mid last : List ℕ) (n : ℕ) (xs es : List A) → mid ≡ first ++ n ∷ [] → xs ≡ es → 1 ≤ length es → length mid + length xs ≤ length last → 1 < length last
two_values first mid last n xs es is same some le =
    let one : length mid ≡ length first + 1 = ap length is ∙ length-append first (n ∷ []) in
    let many : length xs ≡ length es = ap length same in
    omega (arith, one, many, some, le)

-- what is made of operands has one value, and a call has one at least
pub finished_some : (old new : List Form) (line : ℕ) (h : Head) (p : by.Parts) (t : TypedExpr) → Finishes old new line h p t → 1 ≤ length t.types
finished_some old new line h p t q = subst (λ x. 1 ≤ length x.types) (sym q.is) (omega arith)

results_of : (headers : List Signature) (n : ℕ) (h : by.Header) → All (λ s. 1 ≤ length s.results) headers → slice_get (map header_of headers) n ≡ Some h → 1 ≤ length h.results
results_of [] n h all e = absurd cc
results_of (x ∷ xs) zero h all e = subst (λ k. 1 ≤ length k.results) (same_Some (header_of x) h e) (All-head (λ s. 1 ≤ length s.results) x xs all)
results_of (x ∷ xs) (suc n) h all e = results_of xs n h (All-tail (λ s. 1 ≤ length s.results) x xs all) e

pub call_some : (g : Given) (f0 f1 : List Form) (line x : ℕ) (p : by.Parts) (t : TypedExpr) → All (λ s. 1 ≤ length s.results) g.functions.now → Calls (given_of g) f0 f1 line x p t → 1 ≤ length t.types
call_some g f0 f1 line x p t all (own n at q) = subst (λ y. 1 ≤ length y.types) (sym q.is) (results_of g.functions.now n q.function all q.there)
call_some g f0 f1 line x p t all (built_in b is q) = finished_some f0 f1 line (head.BuiltIn b) p t q

-- ---- levels

pub defs_next : (tokens : List Token) (names : ℕ) (ds : List Def) (i : ℕ) (d : Def) → i < length ds → d ≡ get_or ds i d → (ns : List ℕ) (before after : Names) → length ns ≡ length (out-Def d).targets
    → after ≡ define_all (named_targets (out-Def d).targets) ns before → AreDefs tokens names before.height (drop i ds) → AreDefs tokens names after.height (drop (i + 1) ds)
defs_next tokens names ds i d lt is ns before after count entered all =
    let many : length ns ≡ length (named_targets (out-Def d).targets) = count ∙ sym (length-map (out-Def d).targets (λ x. x.name)) in
    let up : after.height ≡ before.height + length (out-Def d).targets = ap (λ s. s.height) entered ∙ levels (named_targets (out-Def d).targets) ns before many ∙ ap (λ k. before.height + k) count in
    subst (λ k. AreDefs tokens names k (drop (i + 1) ds)) (sym up) (spelled_parts.defs tokens names before.height d (drop (i + 1) ds) (subst (λ l. AreDefs tokens names before.height l) (cut ds i d d lt is) all)).1

pub def_at : (tokens : List Token) (names h : ℕ) (ds : List Def) (i : ℕ) (d : Def) → i < length ds → d ≡ get_or ds i d → AreDefs tokens names h (drop i ds) → IsDef tokens names h d
def_at tokens names h ds i d lt is all = (spelled_parts.defs tokens names h d (drop (i + 1) ds) (subst (λ l. AreDefs tokens names h l) (cut ds i d d lt is) all)).0

pub targets_levels : (ds : List Def) → length (targets ds) ≡ defs_levels ds
targets_levels [] = refl
targets_levels (d ∷ ds) =
    length-append (map (λ t. t.name.name) (out-Def d).targets) (targets ds) ∙ ap (λ k. k + length (targets ds)) (length-map (out-Def d).targets (λ t. t.name.name)) ∙ ap (λ k. length (out-Def d).targets + k) (targets_levels ds)

pub group_at : (tokens : List Token) (names h : ℕ) (gs : List (List Generator)) (i : ℕ) (g : List Generator) → i < length gs → g ≡ get_or gs i g → AreGroups tokens names h (drop i gs)
    → All (IsGenerator tokens names h) g × (1 ≤ length g) × (h + group_levels g ≤ 4294967295) × AreGroups tokens names (h + group_levels g) (drop (i + 1) gs)
group_at tokens names h gs i g lt is all = spelled_parts.groups tokens names h g (drop (i + 1) gs) (subst (λ l. AreGroups tokens names h l) (cut gs i g g lt is) all)

pub groups_next : (gs : List (List Generator)) (i : ℕ) (g : List Generator) → i < length gs → g ≡ get_or gs i g → groups_levels (drop i gs) ≡ group_levels g + groups_levels (drop (i + 1) gs)
groups_next gs i g lt is = ap groups_levels (cut gs i g g lt is)

index_count : (line : ℕ) (x : Option ℕ) → length (index_in line x) ≡ index_levels x
index_count line None = refl
index_count line (Some x) = refl

pub generators_levels : (gs : List Generator) → length (generators_in gs) ≡ group_levels gs
generators_levels [] = refl
generators_levels (g ∷ gs) =
    let one : List Named = (out-Generator g).name ∷ index_in (out-Generator g).name.line (out-Generator g).at in
    let first : length (one ++ generators_in gs) ≡ length one + length (generators_in gs) = length-append one (generators_in gs) in
    let index : length (index_in (out-Generator g).name.line (out-Generator g).at) ≡ index_levels (out-Generator g).at = index_count (out-Generator g).name.line (out-Generator g).at in
    let rest : length (generators_in gs) ≡ group_levels gs = generators_levels gs in
    omega (arith, first, index, rest)

pub index_even : (x : Option ℕ) (line : ℕ) → length (index_types x) ≡ length (index_names x line)
index_even None line = refl
index_even (Some x) line = refl

-- a generator adds as many types as names
pub keeps_even : (f : List Form) (name : Named) (x : Option ℕ) (p : by.Parts) (old new : by.Group) → KeepsGenerator f name x p old new → length old.types ≡ length old.names → length new.types ≡ length new.names
keeps_even f name x p old new k same =
    let types : length new.types ≡ length old.types + length (k.type ∷ index_types x) = ap length k.types ∙ length-append old.types (k.type ∷ index_types x) in
    let names : length new.names ≡ length old.names + length (name ∷ index_names x name.line) = ap length k.names ∙ length-append old.names (name ∷ index_names x name.line) in
    let index : length (index_types x) ≡ length (index_names x name.line) = index_even x name.line in
    omega (arith, types, names, index, same)

pub content_height : (x : Option ℕ) (content : ℕ) (s : Names) → (named_content x content s).height ≡ s.height + content_levels x
content_height None content s = omega arith
content_height (Some x) content s = refl

-- ---- loops

pub product_parts : (tokens : List Token) (names h : ℕ) (l : Loop) (gs : List (List Generator)) (ds : List Def) (cs : List Clause) → l ≡ loop.Product gs ds cs → IsLoop tokens names h l
    → AreGroups tokens names h gs × (1 ≤ length gs) × AreDefs tokens names (h + groups_levels gs) ds × All (IsClause tokens names (h + groups_levels gs + defs_levels ds)) cs × (1 ≤ length cs)
product_parts tokens names h l gs ds cs is p = subst (λ x. HasLoopParts tokens names h x) (ap out-Loop is ∙ out_product gs ds cs) (spelled_parts.loop tokens names h l p)

pub initial_parts : (tokens : List Token) (names h : ℕ) (l : Loop) (ds : List Def) (t : Turn) (cs : List Clause) → l ≡ loop.Initial ds t cs → IsLoop tokens names h l
    → AreDefs tokens names h ds × (1 ≤ length ds) × IsTurn tokens names (h + defs_levels ds) t × All (IsClause tokens names (h + defs_levels ds)) cs × (1 ≤ length cs)
initial_parts tokens names h l ds t cs is p = subst (λ x. HasLoopParts tokens names h x) (ap out-Loop is ∙ out_initial ds t cs) (spelled_parts.loop tokens names h l p)

-- ---- parameters

-- behind parameters there are no more levels than these
pub params_height : (xs ts : List ℕ) (s : Names) → (define_params xs ts s).height ≤ s.height + length xs
params_height [] ts s = omega arith
params_height (x ∷ xs) [] s = omega arith
params_height (x ∷ xs) (t ∷ ts) s =
    let r : (define_params xs ts (define x t s)).height ≤ s.height + 1 + length xs = params_height xs ts (define x t s) in
    omega (arith, r)

pub params_count : (fs : List Field) → length (parameters_of fs) ≡ params_levels fs
params_count [] = refl
params_count (f ∷ fs) =
    length-append (names_of f.names) (parameters_of fs) ∙ ap (λ k. k + length (parameters_of fs)) (length-map f.names (λ n. n.name)) ∙ ap (λ k. length f.names + k) (params_count fs)

given_few : (f : FunDef) (rest : List FunDef) → params_levels f.header.params ≤ 4194304 → All (λ d. params_levels d.header.params ≤ 4194304) (filter is_given rest)
    → All (λ d. params_levels d.header.params ≤ 4194304) (filter is_given (f ∷ rest))
given_few f rest one all = by (is_given f) refl
  where
    by : (b : Bool) → is_given f ≡ b → All (λ d. params_levels d.header.params ≤ 4194304) (cond b (f ∷ filter is_given rest) (filter is_given rest))
    by true e = All-cons (λ d. params_levels d.header.params ≤ 4194304) f (filter is_given rest) one all
    by false e = all

-- no function of a text has more parameters than a text can have tokens
pub few_params : (tokens : List Token) (names : ℕ) (items : List Item) → All (IsItem tokens names) items → All (λ d. params_levels d.header.params ≤ 4194304) (given_functions items)
few_params tokens names [] all = All-nil (λ d. params_levels d.header.params ≤ 4194304)
few_params tokens names (item.Alias d ∷ items) all = few_params tokens names items (All-tail (IsItem tokens names) (item.Alias d) items all)
few_params tokens names (item.Function f ∷ items) all =
    given_few f (functions items) (All-head (IsItem tokens names) (item.Function f) items all).0.few (few_params tokens names items (All-tail (IsItem tokens names) (item.Function f) items all))

few_signatures : (fs : List FunDef) (ss : List Signature) → map heading_in ss ≡ map heading_of fs → All (λ d. params_levels d.header.params ≤ 4194304) fs → All (λ s. length s.parameters ≤ 4194304) ss
few_signatures fs [] e all = All-nil (λ s. length s.parameters ≤ 4194304)
few_signatures [] (s ∷ ss) e all = cc
few_signatures (f ∷ fs) (s ∷ ss) e all =
    let same : heading_in s ≡ heading_of f = cc in
    let rest : map heading_in ss ≡ map heading_of fs = cc in
    let many : length s.parameters ≡ params_levels f.header.params = ap (λ x. length x.parameters) same ∙ params_count f.header.params in
    let few : params_levels f.header.params ≤ 4194304 = All-head (λ d. params_levels d.header.params ≤ 4194304) f fs all in
    All-cons (λ s. length s.parameters ≤ 4194304) s ss (omega (arith, many, few)) (few_signatures fs ss rest (All-tail (λ d. params_levels d.header.params ≤ 4194304) f fs all))

pub few_parameters : (tokens : List Token) (names : ℕ) (items : List Item) (ss : List Signature) → All (IsItem tokens names) items → map heading_in ss ≡ map heading_of (given_functions items)
    → All (λ s. length s.parameters ≤ 4194304) ss
few_parameters tokens names items ss all e = few_signatures (given_functions items) ss e (few_params tokens names items all)

pub header_few : (headers : List Signature) (n : ℕ) (s : Signature) → All (λ s. length s.parameters ≤ 4194304) headers → slice_get headers n ≡ Some s → length s.parameters ≤ 4194304
header_few [] n s all e = absurd cc
header_few (x ∷ xs) zero s all e = subst (λ k. length k.parameters ≤ 4194304) (same_Some x s e) (All-head (λ s. length s.parameters ≤ 4194304) x xs all)
header_few (x ∷ xs) (suc n) s all e = header_few xs n s (All-tail (λ s. length s.parameters ≤ 4194304) x xs all) e
