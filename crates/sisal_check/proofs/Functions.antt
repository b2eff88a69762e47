-- The functions of a program one after another: what they give, and what they break.
use Rattle.std.proofs.Common.{◌≡◌, ◌≤◌, ◌+◌, ℕ, zero, suc, arith, List, [], ◌∷◌, ◌++◌, length, map, take, drop, slice_get, Option, Some, refl, sym, ap, subst, ◌∙◌, append_assoc}
use Rattle.std.proofs.lemmas.List.{append-nil, length-append, length-map, map-append}
use Rattle.std.proofs.lemmas.Option.{slice_get_within}
use Rattle.type_table.specs.declared.form.Form.{Form}
use Rattle.sisal_tree.specs.declared.expr.Expr.{Expr}
use Rattle.sisal_tree.specs.declared.unit.FunDef.{FunDef}
use Rattle.sisal_tree.specs.declared.unit.FunKind.{FunKind}
use Rattle.sisal_tree.specs.declared.unit.FunKind.TheVariants as fun
use Rattle.sisal_tree.specs.declared.unit.Item.{Item}
use Rattle.sisal_tree.specs.declared.unit.Item.TheVariants as item
use Rattle.typed_tree.specs.declared.expr.TypedExpr.{TypedExpr}
use Rattle.typed_tree.specs.declared.program.Function.{Function}
use Rattle.type_rules.specs.Applies.{Grows}
use Rattle.unit_types.specs.declared.header.Signature.{Signature}
use Rattle.unit_types.specs.Headings.{given_as, given_by, given_functions, has_body, numbering}
use Rattle.unit_types.proofs.Given.{given_cons}
use Rattle.unit_types.proofs.Numbered.{named_by}
use Rattle.value_names.specs.declared.in_force.Mark.{Mark}
use Rattle.value_names.specs.declared.value.Meaning.TheVariants as means
use Rattle.value_names.specs.Names.{Names}
use Rattle.value_names.specs.Scopes.{define, left, mark_of}
use Rattle.typing_laws.specs.Given as by
use Rattle.typing_laws.specs.Bodies.{define_params, parameters_in}
use Rattle.typing_laws.specs.Judged.{IsAbove, IsUsedIn}
use Rattle.typing_laws.proofs.Entering.{above_on, same_above}
use Rattle.typing_laws.proofs.Later.{all_later}
use Rattle.typing_laws.proofs.Walking.{let_left}
use Rattle.breaking_laws.specs.FormLaws.{BreaksBodyAt}
use Rattle.breaking_laws.proofs.FPassing.{reach_later}
use Rattle.sisal_check.specs.declared.state.Given.{Given}
use Rattle.sisal_check.specs.Headed.{is_defined}
use Rattle.sisal_check.specs.Numbered.{AreNumbered}
use Rattle.sisal_check.specs.Walked.{IsBodyOf, global, defined, AreBodies, no_body, a_body, IsBrokenAt, IsBrokenAmong, given_behind, given_of, header_of}

-- ---- parameters

pub params_above : (xs ns : List ℕ) (names : Names) → IsAbove names (define_params xs ns names)
params_above [] ns names = same_above names
params_above (x ∷ xs) [] names = same_above names
params_above (x ∷ xs) (n ∷ ns) names =
    above_on names (define x n names) (define_params xs ns (define x n names))
    (record { more = (x, means.At (record { level = names.height; ty = n })) ∷ []; names = refl; olds = refl }) (params_above xs ns (define x n names))

-- parameters end
pub params_left : (xs ns : List ℕ) (old after new : Names) (m : Mark) → new ≡ left m after → m ≡ mark_of old → after ≡ define_params xs ns old → new ≡ old
params_left xs ns old after new m e q r = let_left old (define_params xs ns old) after new m e q r (params_above xs ns old)

pub used_behind : (g : Given) (n k : ℕ) (a b : List Form) → IsUsedIn (given_behind n g) a b → IsUsedIn (given_behind k g) a b
used_behind g n k a b u = record { grows = u.grows; standing = u.standing }

-- ---- bodies

body_later : (g : by.Given) (f0 f1 : List Form) (h : by.Header) (kind : FunKind) (b : Option (List TypedExpr)) → Grows f0 f1 → IsBodyOf g f0 h kind b → IsBodyOf g f1 h kind b
body_later g f0 f1 h _ _ grows global = global
body_later g f0 f1 h _ _ grows (defined {es = es} {ts = ts} p) =
    defined (record { types = p.types; typed = all_later g f0 f1 (parameters_in h) es ts p.types grows p.typed; results = p.results })

pub bodies_later : (g : Given) (f0 f1 : List Form) (kinds : List FunKind) (headers : List Signature) (fs : List Function) → Grows f0 f1 → AreBodies g f0 kinds headers fs → AreBodies g f1 kinds headers fs
bodies_later g f0 f1 _ _ _ grows no_body = no_body
bodies_later g f0 f1 _ _ _ grows (a_body {kind = kind} {s = s} {f = f} {kinds = kinds} {headers = headers} {fs = fs} p r) =
    a_body (body_later (given_behind s.known g) f0 f1 (header_of s) kind f.body grows p) (bodies_later g f0 f1 kinds headers fs grows r)

first_body : (g : Given) (f : List Form) (kind : FunKind) (s : Signature) (fn : Function) (headers : List Signature) → slice_get headers 0 ≡ Some s
    → IsBodyOf (given_behind s.known g) f (header_of s) kind fn.body → AreBodies g f (kind ∷ []) headers (fn ∷ [])
first_body g f kind s fn [] e p = absurd cc
first_body g f kind s fn (x ∷ headers) e p =
    let same : x ≡ s = cc in
    a_body (subst (λ h. IsBodyOf (given_behind h.known g) f (header_of h) kind fn.body) (sym same) p) no_body

-- one more at the end
pub one_body_more : (g : Given) (f : List Form) (kind : FunKind) (s : Signature) (fn : Function) (kinds : List FunKind) (headers : List Signature) (fs : List Function) → AreBodies g f kinds headers fs
    → slice_get headers (length fs) ≡ Some s → IsBodyOf (given_behind s.known g) f (header_of s) kind fn.body → AreBodies g f (kinds ++ kind ∷ []) headers (fs ++ fn ∷ [])
one_body_more g f kind s fn _ _ _ (no_body {headers = headers}) e p = first_body g f kind s fn headers e p
one_body_more g f kind s fn _ _ _ (a_body {kinds = kinds} {headers = headers} {fs = fs} q r) e p = a_body q (one_body_more g f kind s fn kinds headers fs r e p)

pub as_many_bodies : (g : Given) (f : List Form) (kinds : List FunKind) (headers : List Signature) (fs : List Function) → AreBodies g f kinds headers fs → length fs ≡ length kinds
as_many_bodies g f _ _ _ no_body = refl
as_many_bodies g f _ _ _ (a_body {kinds = kinds} {headers = headers} {fs = fs} q r) = ap (λ n. suc n) (as_many_bodies g f kinds headers fs r)

-- ---- items

pub kinds_given : (f : FunDef) → given_as f.kind f.kind ≡ map (λ f. f.kind) (given_by (item.Function f))
kinds_given f = by f.kind
  where
    by : (k : FunKind) → given_as k k ≡ map (λ f. f.kind) (given_by (item.Function (record { line = f.line; header = f.header; kind = k })))
    by fun.Forward = refl
    by fun.Global = refl
    by (fun.Defined es) = refl

-- a function that is defined is given
pub one_given : (f : FunDef) (es : List Expr) → f.kind ≡ fun.Defined es → given_by (item.Function f) ≡ f ∷ []
one_given f es is = ap (λ k. given_by (item.Function (record { line = f.line; header = f.header; kind = k }))) is ∙ ap (λ k. record { line = f.line; header = f.header; kind = k } ∷ []) (sym is)

given_append : (xs ys : List Item) → given_functions (xs ++ ys) ≡ given_functions xs ++ given_functions ys
given_append [] ys = refl
given_append (x ∷ xs) ys =
    given_cons x (xs ++ ys) ∙ ap (λ l. given_by x ++ l) (given_append xs ys) ∙ sym (append_assoc (given_by x) (given_functions xs) (given_functions ys))
    ∙ ap (λ l. l ++ given_functions ys) (sym (given_cons x xs))

pub kinds_more : (before : List Item) (x : Item) → map (λ f. f.kind) (given_functions before) ++ map (λ f. f.kind) (given_by x) ≡ map (λ f. f.kind) (given_functions (before ++ x ∷ []))
kinds_more before x =
    sym (map-append (λ f. f.kind) (given_functions before) (given_by x))
    ∙ ap (map (λ f. f.kind)) (sym (given_append before (x ∷ []) ∙ ap (λ l. given_functions before ++ l) (given_cons x [] ∙ append-nil (given_by x))))

behind : {A : Type 0} (xs : List A) (y : A) (ys : List A) → slice_get (xs ++ y ∷ ys) (length xs) ≡ Some y
behind [] y ys = refl
behind (x ∷ xs) y ys = behind xs y ys

cut_take : {A : Type 0} (xs : List A) (i : ℕ) → xs ≡ take i xs ++ drop i xs
cut_take xs zero = refl
cut_take [] (suc i) = refl
cut_take (x ∷ xs) (suc i) = ap (λ l. x ∷ l) (cut_take xs i)

-- the next function that is given breaks a rule
pub broken_next : (g : Given) (f0 f1 : List Form) (items : List Item) (i : ℕ) (x : Item) (rest : List Item) (f : FunDef) (fs : List Function) (rule line : ℕ)
    → IsUsedIn (given_of g) f0 f1 → drop i items ≡ x ∷ rest → AreBodies g f1 (map (λ f. f.kind) (given_functions (take i items))) g.functions.now fs → given_by x ≡ f ∷ []
    → IsBrokenAt g f1 f.kind (length fs) rule line → IsBrokenAmong g f0 (given_functions items) rule line
broken_next g f0 f1 items i x rest f fs rule line used cut are one p =
    let before : List FunDef = given_functions (take i items) in
    let many : length fs ≡ length before = as_many_bodies g f1 (map (λ f. f.kind) before) g.functions.now fs are ∙ length-map before (λ f. f.kind) in
    let all : given_functions items ≡ before ++ f ∷ given_functions rest =
    ap given_functions (cut_take items i) ∙ given_append (take i items) (drop i items)
    ∙ ap (λ l. before ++ l) (ap given_functions cut ∙ given_cons x rest ∙ ap (λ l. l ++ given_functions rest) one) in
    record {
      function = f;
      place = length fs;
      there = ap (λ n. slice_get (given_functions items) n) many ∙ ap (λ l. slice_get l (length before)) all ∙ behind before f (given_functions rest);
      breaks = record {
        header = p.header;
        exprs = p.exprs;
        is = p.is;
        there = p.there;
        breaks = reach_later (given_behind p.header.known g) f0 f1 (BreaksBodyAt (given_behind p.header.known g) (header_of p.header) p.header.line p.exprs rule line)
            (used_behind g g.known p.header.known f0 f1 used) p.breaks;
      };
    }

-- an item adds as many functions as one of its kind does
pub as_many_given : (i : Item) (f : FunDef) → i ≡ item.Function f → length (given_as f.kind f.kind) ≡ length (given_by i)
as_many_given i f is = ap length (kinds_given f) ∙ length-map (given_by (item.Function f)) (λ f. f.kind) ∙ ap (λ i. length (given_by i)) (sym is)

-- there is room for the functions of an item, where there is for those of all items
pub room_for : (items here : List Item) (x : Item) (rest : List Item) (fs : List Function) (count : ℕ) → here ≡ x ∷ rest
    → map is_defined fs ++ map (λ f. has_body f.kind) (given_functions here) ≡ map (λ f. has_body f.kind) (given_functions items) → length (given_functions items) ≡ count → length fs + length (given_by x) ≤ count
room_for items here x rest fs count is all e =
    let cut : length (given_functions here) ≡ length (given_by x) + length (given_functions rest) =
    ap (λ l. length (given_functions l)) is ∙ ap length (given_cons x rest) ∙ length-append (given_by x) (given_functions rest) in
    let both : length (map is_defined fs) + length (map (λ f. has_body f.kind) (given_functions here)) ≡ length (map (λ f. has_body f.kind) (given_functions items)) =
    sym (length-append (map is_defined fs) (map (λ f. has_body f.kind) (given_functions here))) ∙ ap length all in
    omega (arith, cut, both, e, length-map fs is_defined, length-map (given_functions here) (λ f. has_body f.kind), length-map (given_functions items) (λ f. has_body f.kind))

-- the functions are numbered in order
pub all_numbered : (headers : List Signature) (numbers : List (ℕ × ℕ)) → numbers ≡ numbering 0 [] (map (λ s. s.name) headers) → AreNumbered numbers (length headers)
all_numbered headers numbers e = record {
  below = λ x n h. let p : (s : Signature) × (slice_get headers n ≡ Some s) × (s.name ≡ x) = named_by (λ s. s.name) headers numbers e x n h in slice_get_within headers n p.0 p.1;
}
