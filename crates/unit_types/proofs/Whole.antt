-- A unit whose items are declared.
use Rattle.std.proofs.Common.{◌≡◌, ℕ, zero, suc, Bool, true, false, not, List, [], ◌∷◌, All, map, slice_get, Contains, Option, Some, None, refl, sym, ap, subst, ◌∙◌, arith}
use Rattle.std.specs.List.{filter}
use Rattle.std.proofs.lemmas.List.Elements.{All-head, All-tail, All-contains}
use Rattle.name_scope.specs.Newest.{newest}
use Rattle.flow_value.specs.declared.ty.Ty.{Ty}
use Rattle.sisal_lex.specs.declared.token.Token.{Token}
use Rattle.sisal_tree.specs.declared.expr.Expr.{Expr}
use Rattle.sisal_tree.specs.declared.unit.Named.{Named}
use Rattle.sisal_tree.specs.declared.unit.FunDef.{FunDef}
use Rattle.sisal_tree.specs.declared.unit.FunKind.TheVariants as fun
use Rattle.sisal_tree.specs.declared.unit.Item.{Item}
use Rattle.sisal_tree.specs.declared.unit.Unit as tree
use Rattle.type_table.specs.declared.form.Form.{Form}
use Rattle.type_table.specs.Tables.{IsTable, IsWell}
use Rattle.type_rules.specs.Typed.{AreSpelledOnce}
use Rattle.type_rules.proofs.Standing.{one_type, one_number}
use Rattle.typed_tree.specs.Scopes.{AreDistinct}
use Rattle.typed_tree.specs.Types.{AreNumbers}
use Rattle.typed_tree.specs.Typing.{Signature as TypedSignature, Known}
use Rattle.typed_tree.specs.Breaks.{NoBuiltIn}
use Rattle.typed_tree.specs.Units.{is_given, Declared, given, signatures, known, Declares, no_item, a_type, a_function, AreDeclared, IsDefined, AreDefined, no_name, a_name}
use Rattle.typed_tree.specs.Faults.{functions, BreaksUnit, another_header, no_function, not_defined}
use Rattle.unit_types.specs.declared.header.Signature.{Signature}
use Rattle.unit_types.specs.declared.declaring.Announced.{Announced}
use Rattle.unit_types.specs.Headings.{heading_of, heading_in, has_body, given_functions, numbering, IsOwnName, AreOwnNames, AreOwn, IsUndefined, function_at, HasSame, IsKept, IsBroken, missing, other}
use Rattle.unit_types.specs.Headers.{IsSaid, AreSaid, forwards, AreAnnounced, AreItems, IsDeclared}
use Rattle.unit_types.specs.Rests.{AreTokensSpelled}
use Rattle.unit_types.proofs.Places.{place_of, at_place, all_from_contains, map_has, map_at, contains_map, contains_filter, filter_has, map_filter}
use Rattle.unit_types.proofs.Given.{forward_kind, defined_given, body_of, names_given, names_headed}
use Rattle.unit_types.proofs.Numbered.{named_by, numbering_gives}

names_said : (u : tree.Unit) (forms : List Form) (named : List (ℕ × ℕ)) (ss : List Signature) (ds : List Declared) → AreSaid u forms named ss ds
    → map (λ s. s.name) ss ≡ map (λ s. s.name) (map (λ d. d.signature) ds)
names_said u forms named [] [] h = refl
names_said u forms named [] (d ∷ ds) h = absurd h
names_said u forms named (s ∷ ss) [] h = absurd h
names_said u forms named (s ∷ ss) (d ∷ ds) h = λ i. h.0.name i ∷ names_said u forms named ss ds h.1 i

not_both : {A : Type 0} (o : Option A) (a : A) → o ≡ None → o ≡ Some a → ⊥
not_both o a n s = let e : None ≡ Some a = sym n ∙ s in cc

no_built_in : (k : Known) (x : ℕ) → IsOwnName k.spellings x → NoBuiltIn k x
no_built_in k x own = λ b i. not_both _ b (own i.spelling i.spelled) i.named

all_own : (k : Known) (ss : List TypedSignature) → AreOwnNames k.spellings (map (λ s. s.name) ss) → All (λ s. NoBuiltIn k s.name) ss
all_own k [] h n d within = absurd (omega arith)
all_own k (s ∷ ss) h zero d within = no_built_in k s.name h.0
all_own k (s ∷ ss) h (suc n) d within = all_own k ss h.1 n d (omega arith)

-- the functions are declared, each once
pub whole : (u : tree.Unit) (forms : List Form) (named : List (ℕ × ℕ)) (functions : List Signature) (ds : List Declared) → Declares u [] u.items ds → AreSaid u forms named functions (given ds)
    → AreOwn u.tokens.names (map (λ s. s.name) functions) → AreDeclared u ds
whole u forms named functions ds d said own =
    let e : map (λ s. s.name) functions ≡ map (λ s. s.name) (signatures ds) = names_said u forms named functions (given ds) said in
    record {
      declares = d;
      distinct = subst AreDistinct e own.distinct;
      own = all_own (known u [] ds []) (signatures ds) (subst (AreOwnNames u.tokens.names) e own.own);
    }

-- ---- headers by place

-- a header and its function, at one place
record IsPlace (u : tree.Unit) (forms : List Form) (named : List (ℕ × ℕ)) (ss : List Signature) (ds : List Declared) (k : ℕ) : Type 0 where
  header : Signature
  function : Declared
  here : slice_get ss k ≡ Some header
  there : slice_get ds k ≡ Some function
  said : IsSaid u forms named header function

place_behind : {u : tree.Unit} {forms : List Form} {named : List (ℕ × ℕ)} {ss : List Signature} {ds : List Declared} {k : ℕ} (s : Signature) (d : Declared) → IsPlace u forms named ss ds k → IsPlace u forms named (s ∷ ss) (d ∷ ds) (suc k)
place_behind s d p = record { header = p.header; function = p.function; here = p.here; there = p.there; said = p.said }

by_function : (u : tree.Unit) (forms : List Form) (named : List (ℕ × ℕ)) (ss : List Signature) (ds : List Declared) → AreSaid u forms named ss ds → (k : ℕ) (d : Declared) → slice_get ds k ≡ Some d → IsPlace u forms named ss ds k
by_function u forms named [] [] h k d e = absurd cc
by_function u forms named [] (d' ∷ ds) h k d e = absurd h
by_function u forms named (s ∷ ss) [] h k d e = absurd h
by_function u forms named (s ∷ ss) (d' ∷ ds) h zero d e = record { header = s; function = d'; here = refl; there = refl; said = h.0 }
by_function u forms named (s ∷ ss) (d' ∷ ds) h (suc k) d e = place_behind s d' (by_function u forms named ss ds h.1 k d e)

by_header : (u : tree.Unit) (forms : List Form) (named : List (ℕ × ℕ)) (ss : List Signature) (ds : List Declared) → AreSaid u forms named ss ds → (k : ℕ) (s : Signature) → slice_get ss k ≡ Some s → IsPlace u forms named ss ds k
by_header u forms named [] [] h k s e = absurd cc
by_header u forms named [] (d ∷ ds) h k s e = absurd h
by_header u forms named (s' ∷ ss) [] h k s e = absurd h
by_header u forms named (s' ∷ ss) (d ∷ ds) h zero s e = record { header = s'; function = d; here = refl; there = refl; said = h.0 }
by_header u forms named (s' ∷ ss) (d ∷ ds) h (suc k) s e = place_behind s' d (by_header u forms named ss ds h.1 k s e)

some_same : {A : Type 0} {o : Option A} {x y : A} → o ≡ Some x → o ≡ Some y → x ≡ y
some_same p q = cc

-- the function of a header that stands at a place, and the header of a function
function_said : (u : tree.Unit) (forms : List Form) (named : List (ℕ × ℕ)) (ss : List Signature) (ds : List Declared) → AreSaid u forms named ss ds → (k : ℕ) (s : Signature) → slice_get ss k ≡ Some s
    → (d : Declared) × (slice_get ds k ≡ Some d) × IsSaid u forms named s d
function_said u forms named ss ds h k s e =
    let p : IsPlace u forms named ss ds k = by_header u forms named ss ds h k s e in
    let q : p.header ≡ s = some_same p.here e in
    (p.function, p.there, subst (λ t. IsSaid u forms named t p.function) q p.said)

header_said : (u : tree.Unit) (forms : List Form) (named : List (ℕ × ℕ)) (ss : List Signature) (ds : List Declared) → AreSaid u forms named ss ds → (k : ℕ) (d : Declared) → slice_get ds k ≡ Some d
    → (s : Signature) × (slice_get ss k ≡ Some s) × IsSaid u forms named s d
header_said u forms named ss ds h k d e =
    let p : IsPlace u forms named ss ds k = by_function u forms named ss ds h k d e in
    let q : p.function ≡ d = some_same p.there e in
    (p.header, p.here, subst (λ t. IsSaid u forms named p.header t) q p.said)

-- ---- equal types have equal numbers

one_types : (forms : List Form) (sp : List (List ℕ)) (ns : List ℕ) (ts us : List Ty) → AreNumbers forms sp ns ts → AreNumbers forms sp ns us → ts ≡ us
one_types forms sp [] [] [] p q = refl
one_types forms sp [] [] (u ∷ us) p q = absurd q
one_types forms sp [] (t ∷ ts) us p q = absurd p
one_types forms sp (n ∷ ns) [] us p q = absurd p
one_types forms sp (n ∷ ns) (t ∷ ts) [] p q = absurd q
one_types forms sp (n ∷ ns) (t ∷ ts) (u ∷ us) p q = λ i. one_type forms sp n t u p.0 q.0 i ∷ one_types forms sp ns ts us p.1 q.1 i

one_numbers : (forms : List Form) (sp : List (List ℕ)) → IsWell forms → AreSpelledOnce sp → (ns ms : List ℕ) (ts : List Ty) → AreNumbers forms sp ns ts → AreNumbers forms sp ms ts → ns ≡ ms
one_numbers forms sp well once [] [] [] p q = refl
one_numbers forms sp well once [] (m ∷ ms) [] p q = absurd q
one_numbers forms sp well once [] ms (t ∷ ts) p q = absurd p
one_numbers forms sp well once (n ∷ ns) ms [] p q = absurd p
one_numbers forms sp well once (n ∷ ns) [] (t ∷ ts) p q = absurd q
one_numbers forms sp well once (n ∷ ns) (m ∷ ms) (t ∷ ts) p q = λ i. one_number forms sp well once n m t p.0 q.0 i ∷ one_numbers forms sp well once ns ms ts p.1 q.1 i

-- headers of one name that are the same by number are the same by type, and the other way round
same_by_type : (u : tree.Unit) (forms : List Form) (named : List (ℕ × ℕ)) (s t : Signature) (d e : Declared) → IsSaid u forms named s d → IsSaid u forms named t e → t.name ≡ s.name → HasSame s t → e.signature ≡ d.signature
same_by_type u forms named s t d e p q n h =
    let name : e.signature.name ≡ d.signature.name = sym q.name ∙ n ∙ p.name in
    let parameters : e.signature.parameters ≡ d.signature.parameters = sym q.parameters ∙ sym h.parameters ∙ p.parameters in
    let params : e.signature.params ≡ d.signature.params
    = one_types forms u.tokens.names t.params e.signature.params d.signature.params q.params (subst (λ l. AreNumbers forms u.tokens.names l d.signature.params) h.params p.params) in
    let results : e.signature.results ≡ d.signature.results
    = one_types forms u.tokens.names t.results e.signature.results d.signature.results q.results (subst (λ l. AreNumbers forms u.tokens.names l d.signature.results) h.results p.results) in
    λ i. record { name = name i; parameters = parameters i; params = params i; results = results i }

same_by_number : (u : tree.Unit) (forms : List Form) (named : List (ℕ × ℕ)) → IsWell forms → AreSpelledOnce u.tokens.names → (s t : Signature) (d e : Declared) → IsSaid u forms named s d → IsSaid u forms named t e
    → d.signature ≡ e.signature → HasSame s t
same_by_number u forms named well once s t d e p q h = record {
  parameters = p.parameters ∙ ap (λ f. f.parameters) h ∙ sym q.parameters;
  params = one_numbers forms u.tokens.names well once s.params t.params e.signature.params
      (subst (AreNumbers forms u.tokens.names s.params) (ap (λ f. f.params) h) p.params) q.params;
  results = one_numbers forms u.tokens.names well once s.results t.results e.signature.results
      (subst (AreNumbers forms u.tokens.names s.results) (ap (λ f. f.results) h) p.results) q.results;
}

-- ---- functions by name

-- the function of a name stands at the number of the name
pub function_named : (ss : List Signature) (numbers : List (ℕ × ℕ)) → numbers ≡ numbering 0 [] (map (λ s. s.name) ss) → (x : ℕ) (t : Signature) → function_at ss (newest x numbers) ≡ Some t
    → (k : ℕ) × (slice_get ss k ≡ Some t) × (t.name ≡ x)
function_named ss numbers count x t e = by (newest x numbers) refl e
  where
    by : (o : Option ℕ) → newest x numbers ≡ o → function_at ss o ≡ Some t → (k : ℕ) × (slice_get ss k ≡ Some t) × (t.name ≡ x)
    by None h e = absurd cc
    by (Some k) h e =
        let f : (a : Signature) × (slice_get ss k ≡ Some a) × (a.name ≡ x) = named_by (λ s. s.name) ss numbers count x k h in
        (k, e, ap (λ s. s.name) (some_same e f.1) ∙ f.2)

-- where there is none, no function has the name
none_named : (ss : List Signature) (numbers : List (ℕ × ℕ)) → numbers ≡ numbering 0 [] (map (λ s. s.name) ss) → AreDistinct (map (λ s. s.name) ss) → (x : ℕ) → function_at ss (newest x numbers) ≡ None → Contains (map (λ s. s.name) ss) x → ⊥
none_named ss numbers count distinct x e c =
    let p : (k : ℕ) × (slice_get (map (λ s. s.name) ss) k ≡ Some x) = place_of (map (λ s. s.name) ss) x c in
    let a : (s : Signature) × (slice_get ss p.0 ≡ Some s) × (s.name ≡ x) = map_has (λ s. s.name) ss p.0 x p.1 in
    let n : newest x numbers ≡ Some p.0 = ap (newest x) count ∙ numbering_gives (map (λ s. s.name) ss) distinct x p.0 p.1 in
    not_both (slice_get ss p.0) a.0 (sym (ap (function_at ss) n) ∙ e) a.1

-- ---- items

functions_in : (u : tree.Unit) {types : List (ℕ × Ty)} {items : List Item} {ds : List Declared} → Declares u types items ds → map (λ d. d.function) ds ≡ functions items
functions_in u no_item = refl
functions_in u (a_type d n r) = functions_in u r
functions_in u (a_function {f = f} h r) = ap (λ l. f ∷ l) (functions_in u r)

given_in : (u : tree.Unit) (items : List Item) (ds : List Declared) → Declares u [] items ds → map (λ d. d.function) (given ds) ≡ given_functions items
given_in u items ds r = map_filter (λ d. d.function) is_given ds ∙ ap (filter is_given) (functions_in u r)

named_in : (u : tree.Unit) {types : List (ℕ × Ty)} {items : List Item} {ds : List Declared} → Declares u types items ds → map (λ d. d.signature.name) ds ≡ map (λ d. d.function.header.name.name) ds
named_in u no_item = refl
named_in u (a_type d n r) = named_in u r
named_in u (a_function h r) = λ i. h.named i ∷ named_in u r i

-- ---- `forward`

module _ (u : tree.Unit) (forms : List Form) (named : List (ℕ × ℕ)) (ss : List Signature) (announced : List Announced) (ds : List Declared) (numbers : List (ℕ × ℕ)) (count : numbers ≡ numbering 0 [] (map (λ s. s.name) ss)) (said : AreSaid u forms named ss (given ds)) (as_said : AreAnnounced u forms named announced (forwards ds)) where
  said_at : (e d : Declared) (k : ℕ) → slice_get (given ds) k ≡ Some e → e.signature ≡ d.signature → Contains (signatures ds) d.signature
  said_at e d k there same = subst (Contains (signatures ds)) same (contains_map (λ d. d.signature) (given ds) e (at_place (given ds) k e there))

  kept_in : (d : Declared) → Contains (forwards ds) d → All (λ a. IsKept numbers ss a.signature) announced → Contains (signatures ds) d.signature
  kept_in d c kept =
      let p : (k : ℕ) × (slice_get (forwards ds) k ≡ Some d) = place_of (forwards ds) d c in
      let s : (s : Signature) × (slice_get (map (λ a. a.signature) announced) p.0 ≡ Some s) × IsSaid u forms named s d
      = header_said u forms named (map (λ a. a.signature) announced) (forwards ds) as_said.said p.0 d p.1 in
      let a : (a : Announced) × (slice_get announced p.0 ≡ Some a) × (a.signature ≡ s.0) = map_has (λ a. a.signature) announced p.0 s.0 s.1 in
      let k : IsKept numbers ss a.0.signature = All-contains (λ a. IsKept numbers ss a.signature) announced a.0 kept (at_place announced p.0 a.0 a.1) in
      let t : (k' : ℕ) × (slice_get ss k' ≡ Some k.function) × (k.function.name ≡ a.0.signature.name) = function_named ss numbers count a.0.signature.name k.function k.there in
      let e : (e : Declared) × (slice_get (given ds) t.0 ≡ Some e) × IsSaid u forms named k.function e = function_said u forms named ss (given ds) said t.0 k.function t.1 in
      let q : IsSaid u forms named a.0.signature d = subst (λ s. IsSaid u forms named s d) (sym a.2) s.2 in
      let same : e.0.signature ≡ d.signature = same_by_type u forms named a.0.signature k.function d e.0 q e.2 t.2 k.same in
      said_at e.0 d t.0 e.1 same

  pub all_kept : All (λ a. IsKept numbers ss a.signature) announced → All (λ d. Contains (signatures ds) d.signature) ds
  all_kept kept = all_from_contains (λ d. Contains (signatures ds) d.signature) ds (λ d c. by d (is_given d.function) refl c)
    where
      by : (d : Declared) (b : Bool) → is_given d.function ≡ b → Contains ds d → Contains (signatures ds) d.signature
      by d true e c = contains_map (λ d. d.signature) (given ds) d (contains_filter (λ d. is_given d.function) ds d c e)
      by d false e c = kept_in d (contains_filter (λ d. not (is_given d.function)) ds d c (ap not e)) kept

  -- the function of a header that is announced
  record IsForward (a : Announced) : Type 0 where
    function : Declared
    there : Contains ds function
    kind : function.function.kind ≡ fun.Forward
    says : IsSaid u forms named a.signature function
    line : a.line ≡ function.function.header.name.line

  forward_of : (a : Announced) → Contains announced a → IsForward a
  forward_of a c =
      let p : (k : ℕ) × (slice_get announced k ≡ Some a) = place_of announced a c in
      let d : (d : Declared) × (slice_get (forwards ds) p.0 ≡ Some d) × IsSaid u forms named a.signature d
      = function_said u forms named (map (λ a. a.signature) announced) (forwards ds) as_said.said p.0 a.signature (map_at (λ a. a.signature) announced p.0 a p.1) in
      let f : Contains ds d.0 × (not (is_given d.0.function) ≡ true) = filter_has (λ d. not (is_given d.function)) ds d.0 (at_place (forwards ds) p.0 d.0 d.1) in
      let l : Some a.line ≡ Some d.0.function.header.name.line
      = sym (map_at (λ a. a.line) announced p.0 a p.1) ∙ ap (λ l. slice_get l p.0) as_said.lines ∙ map_at (λ d. d.function.header.name.line) (forwards ds) p.0 d.0 d.1 in
      record { function = d.0; there = f.0; kind = forward_kind d.0.function f.1; says = d.2; line = cc }

  module _ (well : IsWell forms) (once : AreSpelledOnce u.tokens.names) (declares : Declares u [] u.items ds) (distinct : AreDistinct (map (λ s. s.name) ss)) (headings : map heading_in ss ≡ map heading_of (given_functions u.items)) where
    without : (a : Announced) → IsForward a → function_at ss (newest a.signature.name numbers) ≡ None → BreaksUnit u 7 a.line
    without a f none =
        let d : Declared = f.function in
        let there : Contains (functions u.items) d.function = subst (λ l. Contains l d.function) (functions_in u declares) (contains_map (λ d. d.function) ds d f.there) in
        let name : a.signature.name ≡ d.function.header.name.name = f.says.name ∙ header_name d f.there in
        subst (BreaksUnit u 7) (sym f.line)
        (no_function there f.kind (λ c. none_named ss numbers count distinct a.signature.name none
        (subst (Contains (map (λ s. s.name) ss)) (sym name) (subst (λ l. Contains l d.function.header.name.name) (names_given (given_functions u.items) ∙ sym (names_headed ss (given_functions u.items) headings)) c))))
      where
        header_name : (d : Declared) → Contains ds d → d.signature.name ≡ d.function.header.name.name
        header_name d c =
            let p : (k : ℕ) × (slice_get ds k ≡ Some d) = place_of ds d c in
            some_same (map_at (λ d. d.signature.name) ds p.0 d p.1) (ap (λ l. slice_get l p.0) (named_in u declares) ∙ map_at (λ d. d.function.header.name.name) ds p.0 d p.1)

    different : (a : Announced) (t : Signature) → IsForward a → function_at ss (newest a.signature.name numbers) ≡ Some t → (HasSame a.signature t → ⊥) → BreaksUnit u 6 a.line
    different a t f found unlike =
        let k : (k : ℕ) × (slice_get ss k ≡ Some t) × (t.name ≡ a.signature.name) = function_named ss numbers count a.signature.name t found in
        let e : (e : Declared) × (slice_get (given ds) k.0 ≡ Some e) × IsSaid u forms named t e = function_said u forms named ss (given ds) said k.0 t k.1 in
        let name : f.function.signature.name ≡ e.0.signature.name = sym f.says.name ∙ sym k.2 ∙ e.2.name in
        subst (BreaksUnit u 6) (sym f.line)
        (another_header declares f.there f.kind (at_place (given ds) k.0 e.0 e.1) name (λ h. unlike (same_by_number u forms named well once a.signature t f.function e.0 f.says e.2 h)))

    pub broken : (rule line : ℕ) → IsBroken numbers ss announced rule line → BreaksUnit u rule line
    broken _ _ (missing a c none) = without a (forward_of a c) none
    broken _ _ (other a t c found unlike) = different a t (forward_of a c) found unlike

-- ---- `define`

first_same : {A : Type 0} {x y : A} {xs ys : List A} → x ∷ xs ≡ y ∷ ys → x ≡ y
first_same h = cc

rest_same : {A : Type 0} {x y : A} {xs ys : List A} → x ∷ xs ≡ y ∷ ys → xs ≡ ys
rest_same h = cc

pub undefined_name : (u : tree.Unit) (ss : List Signature) (numbers : List (ℕ × ℕ)) (bodies : List Bool) → numbers ≡ numbering 0 [] (map (λ s. s.name) ss) → AreDistinct (map (λ s. s.name) ss)
    → map heading_in ss ≡ map heading_of (given_functions u.items) → bodies ≡ map (λ f. has_body f.kind) (given_functions u.items) → (line : ℕ) → IsUndefined numbers bodies u.defines line → BreaksUnit u 7 line
undefined_name u ss numbers bodies count distinct headings has line n =
    subst (BreaksUnit u 7) (sym n.at) (not_defined n.there (λ f es c named kind.
    let p : (k : ℕ) × (slice_get (given_functions u.items) k ≡ Some f) = place_of (given_functions u.items) f (contains_filter is_given (functions u.items) f c (defined_given f es kind)) in
    let name : slice_get (map (λ s. s.name) ss) p.0 ≡ Some n.named.name
    = ap (λ l. slice_get l p.0) (names_headed ss (given_functions u.items) headings) ∙ map_at (λ f. f.header.name.name) (given_functions u.items) p.0 f p.1 ∙ ap Some named in
    let body : slice_get bodies p.0 ≡ Some true = ap (λ l. slice_get l p.0) has ∙ map_at (λ f. has_body f.kind) (given_functions u.items) p.0 f p.1 ∙ ap (λ k. Some (has_body k)) kind in
    n.none p.0 (ap (newest n.named.name) count ∙ numbering_gives (map (λ s. s.name) ss) distinct n.named.name p.0 name) body))

pub defined_names : (u : tree.Unit) (forms : List Form) (known : List (ℕ × ℕ)) (ss : List Signature) (ds : List Declared) (fs : List FunDef) → AreSaid u forms known ss (given ds) → map (λ d. d.function) (given ds) ≡ fs
    → (names : List Named) (ks : List ℕ) → map (λ k. slice_get (map (λ s. s.name) ss) k) ks ≡ map (λ n. Some n.name) names → All (λ k. slice_get (map (λ f. has_body f.kind) fs) k ≡ Some true) ks → AreDefined u ds names ks
defined_names u forms known ss ds fs said is [] [] e all = no_name
defined_names u forms known ss ds fs said is [] (k ∷ ks) e all = absurd cc
defined_names u forms known ss ds fs said is (n ∷ names) [] e all = absurd cc
defined_names u forms known ss ds fs said is (n ∷ names) (k ∷ ks) e all =
    a_name (here (first_same e) (All-head (λ k. slice_get (map (λ f. has_body f.kind) fs) k ≡ Some true) k ks all))
    (defined_names u forms known ss ds fs said is names ks (rest_same e) (All-tail (λ k. slice_get (map (λ f. has_body f.kind) fs) k ≡ Some true) k ks all))
  where
    here : slice_get (map (λ s. s.name) ss) k ≡ Some n.name → slice_get (map (λ f. has_body f.kind) fs) k ≡ Some true → IsDefined u ds n.name k
    here name body =
        let s : (s : Signature) × (slice_get ss k ≡ Some s) × (s.name ≡ n.name) = map_has (λ s. s.name) ss k n.name name in
        let d : (d : Declared) × (slice_get (given ds) k ≡ Some d) × IsSaid u forms known s.0 d = function_said u forms known ss (given ds) said k s.0 s.1 in
        let f : slice_get fs k ≡ Some d.0.function = ap (λ l. slice_get l k) (sym is) ∙ map_at (λ d. d.function) (given ds) k d.0 d.1 in
        let b : has_body d.0.function.kind ≡ true = some_same (map_at (λ f. has_body f.kind) fs k d.0.function f) body in
        let es : (es : List Expr) × (d.0.function.kind ≡ fun.Defined es) = body_of d.0.function.kind b in
        record { function = d.0; there = d.1; named = sym d.2.name ∙ s.2; body = es.0; defined = es.1 }

-- ---- all that is declared

pub items_moved : (u : tree.Unit) (tokens : List Token) (items : List Item) (forms : List Form) (known : List (ℕ × ℕ)) (ss : List Signature) (announced : List Announced) → tokens ≡ u.tokens.list → items ≡ u.items
    → ((v : tree.Unit) → v.tokens.list ≡ tokens → AreTokensSpelled v.tokens.names tokens → AreItems v items forms known ss announced)
    → AreTokensSpelled u.tokens.names u.tokens.list → AreItems u u.items forms known ss announced
items_moved u tokens items forms known ss announced t i h s =
    subst (λ l. AreItems u l forms known ss announced) i (h u (sym t) (subst (AreTokensSpelled u.tokens.names) (sym t) s))

pub declared : (u : tree.Unit) (forms : List Form) (known : List (ℕ × ℕ)) (ss : List Signature) (announced : List Announced) (numbers : List (ℕ × ℕ)) (defines : List ℕ) → numbers ≡ numbering 0 [] (map (λ s. s.name) ss)
    → AreItems u u.items forms known ss announced → AreOwn u.tokens.names (map (λ s. s.name) ss) → All (λ a. IsKept numbers ss a.signature) announced
    → map (λ k. slice_get (map (λ s. s.name) ss) k) defines ≡ map (λ n. Some n.name) u.defines → All (λ k. slice_get (map (λ f. has_body f.kind) (given_functions u.items)) k ≡ Some true) defines
    → IsDeclared u forms known ss defines
declared u forms known ss announced numbers defines count r own kept named bodies = record {
  functions = r.done;
  declares = whole u forms known ss r.done r.declares r.said own;
  forward = all_kept u forms known ss announced r.done numbers count r.said r.forward kept;
  said = r.said;
  defined = defined_names u forms known ss r.done (given_functions u.items) r.said (given_in u u.items r.done r.declares) u.defines defines named bodies;
  standing = r.names.standing;
  types = r.types;
  names = r.names.named;
}

-- the same of values that are the same
pub declared_as : {u : tree.Unit} {forms table : List Form} {known named : List (ℕ × ℕ)} {ss headers : List Signature} {defines numbers : List ℕ} → table ≡ forms → named ≡ known → headers ≡ ss → numbers ≡ defines
    → IsDeclared u forms known ss defines → IsDeclared u table named headers numbers
declared_as {u} {forms} {table} {known} {named} {ss} {headers} {defines} {numbers} a b c d r =
    subst (λ x. IsDeclared u x named headers numbers) (sym a) (subst (λ x. IsDeclared u forms x headers numbers) (sym b) (subst (λ x. IsDeclared u forms known x numbers) (sym c) (subst (IsDeclared u forms known ss) (sym d) r)))

-- a header that was announced is not kept
pub broken_header : (u : tree.Unit) (forms : List Form) (known : List (ℕ × ℕ)) (ss : List Signature) (announced : List Announced) (numbers : List (ℕ × ℕ)) → numbers ≡ numbering 0 [] (map (λ s. s.name) ss)
    → AreItems u u.items forms known ss announced → AreDistinct (map (λ s. s.name) ss) → map heading_in ss ≡ map heading_of (given_functions u.items) → IsTable forms → AreSpelledOnce u.tokens.names
    → (rule line : ℕ) → IsBroken numbers ss announced rule line → BreaksUnit u rule line
broken_header u forms known ss announced numbers count r distinct headings table once rule line b =
    broken u forms known ss announced r.done numbers count r.said r.forward table.well once r.declares distinct headings rule line b
