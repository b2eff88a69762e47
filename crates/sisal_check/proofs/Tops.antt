-- The whole unit: its functions, typed or refused, make it a program or break a rule.
use Rattle.std.proofs.Common.{◌≡◌, ℕ, suc, zero, List, [], ◌∷◌, ◌++◌, drop, length, ◌-◌, map, Bool, Option, Some, None, slice_get, refl, sym, ap, subst, ◌∙◌}
use Rattle.std.specs.Prelude.{Contains}
use Rattle.std.specs.List.{filter}
use Rattle.name_scope.specs.Newest.{newest}
use Rattle.flow_value.specs.declared.ty.Ty.{Ty}
use Rattle.type_table.specs.declared.form.Form.{Form}
use Rattle.type_table.specs.Tables.{IsTable}
use Rattle.sisal_tree.specs.declared.expr.Expr.{Expr}
use Rattle.sisal_tree.specs.declared.unit.FunDef.{FunDef}
use Rattle.sisal_tree.specs.declared.unit.FunKind.{FunKind}
use Rattle.sisal_tree.specs.declared.unit.FunKind.TheVariants as fun
use Rattle.sisal_tree.specs.declared.unit.Item.{Item}
use Rattle.sisal_tree.specs.declared.unit.Unit as tree
use Rattle.typed_tree.specs.declared.expr.TypedExpr.{TypedExpr}
use Rattle.typed_tree.specs.declared.program.Function.{Function}
use Rattle.typed_tree.specs.declared.program.Program.{Program}
use Rattle.typed_tree.specs.Faults.{BreaksUnit, functions}
use Rattle.typed_tree.specs.Scopes.{AreDistinct}
use Rattle.typed_tree.specs.Types.{AreNumbers}
use Rattle.typed_tree.specs.Typing.{Known, Signature}
use Rattle.typed_tree.specs.Units as units
use Rattle.typed_tree.specs.Units.{Declared, Declares, no_item, a_type, a_function as a_declared, AreDeclared, HasBody, IsFunctionOf, AreFunctionsOf, no_function, a_function, IsTyped, given, is_given, known, signatures}
use Rattle.type_rules.specs.Applies.{Grows}
use Rattle.unit_types.specs.declared.header.Signature.{Signature as Numbered}
use Rattle.unit_types.specs.Headers.{IsSaid, AreSaid, IsDeclared}
use Rattle.unit_types.specs.Headings.{given_functions, numbering}
use Rattle.unit_types.specs.Rests.{AreKnown, AreStanding, AreTokensSpelled, IsGrown}
use Rattle.unit_types.proofs.Headers.{numbers_grown}
use Rattle.unit_types.proofs.Numbered.{named_by, number_of}
use Rattle.unit_types.proofs.Places.{at_place, filter_has, map_at, map_has, map_filter, map_twice}
use Rattle.unit_types.proofs.Reading.{known_grown}
use Rattle.typing_laws.specs.Given as by
use Rattle.typing_laws.specs.Judged.{Agrees, AreSignatures, IsSignature, IsUsedIn}
use Rattle.typing_laws.proofs.Bodied.{body_typed}
use Rattle.typing_laws.proofs.Later.{grows_same}
use Rattle.breaking_laws.specs.Broken.{IsWhole}
use Rattle.breaking_laws.specs.FormLaws.{BreaksBodyAt, BrokenBody}
use Rattle.breaking_laws.proofs.FBodies.{body_breaks}
use Rattle.sisal_check.specs.declared.state.Given.{Given}
use Rattle.sisal_check.specs.Headed.{Head, head_at, head_in}
use Rattle.sisal_check.specs.Texts.{IsText}
use Rattle.sisal_check.specs.Walked as walked
use Rattle.sisal_check.specs.Walked.{header_of, given_behind, given_of, IsBodyOf, AreBodies, no_body, a_body, IsBrokenAt, IsBrokenAmong}

-- ---- what is said of functions is so in a larger table

said_on : (u : tree.Unit) (f0 f1 : List Form) (named : List (ℕ × ℕ)) → IsGrown f0 f1 → (ss : List Numbered) (ds : List Declared) → AreSaid u f0 named ss ds → AreSaid u f1 named ss ds
said_on u f0 f1 named grown [] [] p = tt
said_on u f0 f1 named grown [] (d ∷ ds) p = absurd p
said_on u f0 f1 named grown (s ∷ ss) [] p = absurd p
said_on u f0 f1 named grown (s ∷ ss) (d ∷ ds) p = (
  record {
    line = p.0.line;
    name = p.0.name;
    parameters = p.0.parameters;
    params = numbers_grown f0 f1 u.tokens.names s.params d.signature.params grown p.0.params;
    results = numbers_grown f0 f1 u.tokens.names s.results d.signature.results grown p.0.results;
    within = p.0.within;
    types = known_grown f0 f1 u.tokens.names (drop (length named - s.known) named) d.types grown p.0.types;
  },
  said_on u f0 f1 named grown ss ds p.1,
)

-- the function of a header
pub record SaidAt (u : tree.Unit) (forms : List Form) (named : List (ℕ × ℕ)) (ds : List Declared) (i : ℕ) (s : Numbered) : Type 0 where
  pub function : Declared
  pub there : slice_get ds i ≡ Some function
  pub said : IsSaid u forms named s function

some_same : {A : Type 0} (a b : A) → Some a ≡ Some b → a ≡ b
some_same a b e = cc

said_at : (u : tree.Unit) (forms : List Form) (named : List (ℕ × ℕ)) (ss : List Numbered) (ds : List Declared) → AreSaid u forms named ss ds → (i : ℕ) (s : Numbered) → slice_get ss i ≡ Some s → SaidAt u forms named ds i s
said_at u forms named [] ds p i s e = absurd cc
said_at u forms named (x ∷ ss) [] p i s e = absurd p
said_at u forms named (x ∷ ss) (d ∷ ds) p zero s e = record { function = d; there = refl; said = subst (λ y. IsSaid u forms named y d) (some_same x s e) p.0 }
said_at u forms named (x ∷ ss) (d ∷ ds) p (suc i) s e = let r = said_at u forms named ss ds p.1 i s e in record { function = r.function; there = r.there; said = r.said }

-- ---- the functions of a unit

functions_of : (u : tree.Unit) {types : List (ℕ × Ty)} {items : List Item} {ds : List Declared} → Declares u types items ds → map (λ d. d.function) ds ≡ functions items
functions_of u no_item = refl
functions_of u (a_type p e r) = functions_of u r
functions_of u (a_declared {f = f} p r) = ap (λ l. f ∷ l) (functions_of u r)

given_of_unit : (u : tree.Unit) (items : List Item) (ds : List Declared) → Declares u [] items ds → map (λ d. d.function) (given ds) ≡ given_functions items
given_of_unit u items ds p = map_filter (λ d. d.function) is_given ds ∙ ap (filter is_given) (functions_of u p)

-- ---- what is known

module _ (u : tree.Unit) (ds : List Declared) (headers : List Numbered) (named numbers : List (ℕ × ℕ)) (forms : List Form) (table : IsTable forms) (standing : AreStanding u.tokens.names forms) (text : IsText u)
    (said : AreSaid u forms named headers (given ds)) (numbered : numbers ≡ numbering 0 [] (map (λ s. s.name) headers)) (distinct : AreDistinct (map (λ s. s.name) headers)) where
  -- what the walk is given in a function
  abbrev pub given_in : Numbered → by.Given
  given_in s = record { tokens = u.tokens.list; spellings = u.tokens.names; named = drop (length named - s.known) named; functions = map header_of headers; numbers = numbers }

  signature_of : (tys : List (ℕ × Ty)) (s : Numbered) (d : Declared) → IsSaid u forms named s d → IsSignature (known u forms ds tys) (header_of s) d.signature
  signature_of tys s d p = record { name = p.name; parameters = p.parameters; params = record { each = p.params }; results = record { each = p.results } }

  signatures_of : (tys : List (ℕ × Ty)) (ss : List Numbered) (es : List Declared) → AreSaid u forms named ss es → AreSignatures (known u forms ds tys) (map header_of ss) (map (λ d. d.signature) es)
  signatures_of tys [] [] p = tt
  signatures_of tys [] (d ∷ es) p = absurd p
  signatures_of tys (s ∷ ss) [] p = absurd p
  signatures_of tys (s ∷ ss) (d ∷ es) p = (signature_of tys s d p.0, signatures_of tys ss es p.1)

  agrees : (s : Numbered) (d : Declared) → IsSaid u forms named s d → Agrees (given_in s) forms (known u forms ds d.types)
  agrees s d p = record {
    grows = grows_same forms forms refl;
    table = table;
    spellings = refl;
    types = p.types;
    standing = standing;
    spelled = text.spelled;
    once = text.once;
    functions = signatures_of d.types headers (given ds) said;
    numbers = record { each = λ x n e. let q = named_by (λ s. s.name) headers numbers numbered x n e in record { header = header_of q.0; there = map_at header_of headers n q.0 q.1; named = q.2 } };
    all = record {
      each = λ n h e.
          let q = map_has header_of headers n h e in
          subst (λ y. newest y.name numbers ≡ Some n) q.2 (number_of (λ s. s.name) headers numbers numbered distinct n q.0 q.1);
    };
  }

  -- ---- a program

  body_of : (g : Given) (s : Numbered) (d : Declared) → given_behind s.known g ≡ given_in s → IsSaid u forms named s d → (k : FunKind) (b : Option (List TypedExpr))
      → IsBodyOf (given_behind s.known g) forms (header_of s) k b → HasBody u (known u forms ds d.types) d.signature k b
  body_of g s d same p _ _ walked.global = units.global
  body_of g s d same p _ _ (walked.defined {es = es} {ts = ts} b) =
      body_typed u forms forms ds d (given_behind s.known g) (header_of s) es ts b.types (ap (λ g. g.tokens) same) (subst (λ g. Agrees g forms (known u forms ds d.types)) (sym same) (agrees s d p))
      (signature_of d.types s d p) b.typed b.results

  function_of : (g : Given) (s : Numbered) (d : Declared) (f : Function) → given_behind s.known g ≡ given_in s → IsSaid u forms named s d → head_at f ≡ head_in s
      → IsBodyOf (given_behind s.known g) forms (header_of s) d.function.kind f.body → IsFunctionOf u forms ds d f
  function_of g s d f same p head body = record {
    line = ap (λ h. h.line) head ∙ p.line;
    name = ap (λ h. h.name) head ∙ p.name;
    parameters = ap (λ h. h.parameters) head ∙ p.parameters;
    params = subst (λ l. AreNumbers forms u.tokens.names l d.signature.params) (sym (ap (λ h. h.params) head)) p.params;
    results = subst (λ l. AreNumbers forms u.tokens.names l d.signature.results) (sym (ap (λ h. h.results) head)) p.results;
    body = body_of g s d same p d.function.kind f.body body;
  }

  all_of : (g : Given) → ((s : Numbered) → given_behind s.known g ≡ given_in s) → (kinds : List FunKind) (ss : List Numbered) (fs : List Function) (es : List Declared) → AreBodies g forms kinds ss fs
      → map (λ d. d.function.kind) es ≡ kinds → AreSaid u forms named ss es → map head_at fs ≡ map head_in ss → AreFunctionsOf u forms ds es fs
  all_of g same _ ss _ [] no_body e p heads = no_function
  all_of g same _ ss _ (d ∷ es) no_body e p heads = absurd cc
  all_of g same _ _ _ [] (a_body q r) e p heads = absurd cc
  all_of g same _ _ _ (d ∷ es) (a_body {kind = kind} {s = s} {f = f} {kinds = kinds} {headers = ss} {fs = fs} q r) e p heads =
      let first : d.function.kind ≡ kind = cc in
      let rest : map (λ d. d.function.kind) es ≡ kinds = cc in
      let head : head_at f ≡ head_in s = cc in
      let others : map head_at fs ≡ map head_in ss = cc in
      a_function (function_of g s d f (same s) p.0 head (subst (λ k. IsBodyOf (given_behind s.known g) forms (header_of s) k f.body) (sym first) q)) (all_of g same kinds ss fs es r rest p.1 others)

  -- ---- a broken rule

  broken_at : (g : Given) → ((s : Numbered) → given_behind s.known g ≡ given_in s) → AreDeclared u ds → (s : Numbered) (es : List Expr) (i rule line : ℕ) → slice_get headers i ≡ Some s
      → slice_get (map (λ d. d.function.kind) (given ds)) i ≡ Some (fun.Defined es) → BreaksBodyAt (given_behind s.known g) (header_of s) s.line es rule line forms → BreaksUnit u rule line
  broken_at g same declared s es i rule line there kind b =
      let at = said_at u forms named headers (given ds) said i s there in
      let d = at.function in
      let k = map_has (λ d. d.function.kind) (given ds) i (fun.Defined es) kind in
      let one : k.0 ≡ d = some_same k.0 d (sym k.1 ∙ at.there) in
      let is : d.function.kind ≡ fun.Defined es = ap (λ d. d.function.kind) (sym one) ∙ k.2 in
      let inside : Contains ds d = (filter_has (λ d. is_given d.function) ds d (at_place (given ds) i d at.there)).0 in
      body_breaks u forms ds d (given_in s) (header_of s) es rule line refl declared inside is (record { agrees = agrees s d at.said; same = refl }) (signature_of d.types s d at.said)
      (subst (λ l. BreaksBodyAt (given_in s) (header_of s) l es rule line forms) at.said.line (subst (λ g. BreaksBodyAt g (header_of s) s.line es rule line forms) (same s) b))

-- ---- the whole

-- what the walk is given is of the unit and of what its items declare
pub record IsGivenOf (g : Given) (u : tree.Unit) (named numbers : List (ℕ × ℕ)) (headers : List Numbered) : Type 0 where
  pub tokens : g.tokens.now ≡ u.tokens.list
  pub spellings : g.spellings.now ≡ u.tokens.names
  pub named_by : g.named.now ≡ named
  pub functions : g.functions.now ≡ headers
  pub numbers_by : g.numbers.now ≡ numbers

module _ (u : tree.Unit) (f0 : List Form) (named numbers : List (ℕ × ℕ)) (headers : List Numbered) (defines : List ℕ) (g : Given) (is : IsGivenOf g u named numbers headers) (d : IsDeclared u f0 named headers defines) (text : IsText u)
    (numbered : numbers ≡ numbering 0 [] (map (λ s. s.name) headers)) (distinct : AreDistinct (map (λ s. s.name) headers)) where
  same_given : (s : Numbered) → given_behind s.known g ≡ record { tokens = u.tokens.list; spellings = u.tokens.names; named = drop (length named - s.known) named; functions = map header_of headers; numbers = numbers }
  same_given s = λ i. record {
    tokens = is.tokens i;
    spellings = is.spellings i;
    named = drop (length (is.named_by i) - s.known) (is.named_by i);
    functions = map header_of (is.functions i);
    numbers = is.numbers_by i;
  }

  spelled : AreTokensSpelled g.spellings.now g.tokens.now
  spelled = subst (λ l. AreTokensSpelled l g.tokens.now) (sym is.spellings) (subst (λ l. AreTokensSpelled u.tokens.names l) (sym is.tokens) text.spelled)

  standing_at : (f1 : List Form) → (AreTokensSpelled g.spellings.now g.tokens.now → AreStanding g.spellings.now f0 → AreStanding g.spellings.now f1) → AreStanding u.tokens.names f1
  standing_at f1 stands = subst (λ l. AreStanding l f1) is.spellings (stands spelled (subst (λ l. AreStanding l f0) (sym is.spellings) d.standing))

  kinds : map (λ d. d.function.kind) (given d.functions) ≡ map (λ f. f.kind) (given_functions u.items)
  kinds = sym (map_twice (λ f. f.kind) (λ d. d.function) (given d.functions)) ∙ ap (map (λ f. f.kind)) (given_of_unit u u.items d.functions d.declares.declares)

  pub is_program : (f1 : List Form) (fs : List Function) (k : ℕ) → IsUsedIn (given_behind k g) f0 f1 → IsTable f1 → AreBodies g f1 (map (λ f. f.kind) (given_functions u.items)) headers fs → map head_at fs ≡ map head_in headers
      → IsTyped u (record { names = u.tokens.names; types = f1; functions = fs; defines = defines })
  is_program f1 fs k used table bodies heads =
      let grown : IsGrown f0 f1 = record { more = used.grows.0; is = used.grows.1 } in
      let said = said_on u f0 f1 named grown headers (given d.functions) d.said in
      record {
        declared = d.functions;
        declares = d.declares;
        forward = d.forward;
        names = refl;
        functions = all_of u d.functions headers named numbers f1 table (standing_at f1 used.standing) text said numbered distinct g same_given (map (λ f. f.kind) (given_functions u.items)) headers fs (given d.functions) bodies kinds said heads;
        defines = d.defined;
      }

  pub breaks_unit : (rule line : ℕ) → IsBrokenAmong g f0 (given_functions u.items) rule line → BreaksUnit u rule line
  breaks_unit rule line b =
      let at = b.breaks in
      let r = at.breaks in
      let f1 = r.table in
      let s = at.header in
      let grown : IsGrown f0 f1 = record { more = r.used.grows.0; is = r.used.grows.1 } in
      let said = said_on u f0 f1 named grown headers (given d.functions) d.said in
      let there : slice_get headers b.place ≡ Some s = subst (λ l. slice_get l b.place ≡ Some s) is.functions at.there in
      let kind : slice_get (map (λ d. d.function.kind) (given d.functions)) b.place ≡ Some (fun.Defined at.exprs) =
      ap (λ l. slice_get l b.place) kinds ∙ map_at (λ f. f.kind) (given_functions u.items) b.place b.function b.there ∙ ap Some at.is in
      broken_at u d.functions headers named numbers f1 r.is_table (standing_at f1 r.used.standing) text said numbered distinct g same_given d.declares s at.exprs b.place rule line there kind r.holds

-- each type of its table stands for a type, and no union has a tag twice
pub stands_of : {g : Given} (f1 : List Form) (items : List Item) (fs : List Function) → AreBodies g f1 (map (λ f. f.kind) (given_functions items)) g.functions.now fs
    → (u : tree.Unit) (f0 : List Form) (named numbers : List (ℕ × ℕ)) (headers : List Numbered) (defines : List ℕ) → IsGivenOf g u named numbers headers → IsDeclared u f0 named headers defines → IsText u
    → numbers ≡ numbering 0 [] (map (λ s. s.name) headers) → AreDistinct (map (λ s. s.name) headers) → IsUsedIn (given_of g) f0 f1 → AreStanding u.tokens.names f1
stands_of {g} f1 items fs bodies u f0 named numbers headers defines is d text numbered distinct used = standing_at u f0 named numbers headers defines g is d text numbered distinct f1 used.standing

-- the same, of the items that the walk goes over
pub program_of : {g : Given} (f1 : List Form) (items : List Item) (fs : List Function) → AreBodies g f1 (map (λ f. f.kind) (given_functions items)) g.functions.now fs
    → (u : tree.Unit) (f0 : List Form) (named numbers : List (ℕ × ℕ)) (headers : List Numbered) (defines : List ℕ) → IsGivenOf g u named numbers headers → IsDeclared u f0 named headers defines → IsText u
    → numbers ≡ numbering 0 [] (map (λ s. s.name) headers) → AreDistinct (map (λ s. s.name) headers) → items ≡ u.items → IsUsedIn (given_of g) f0 f1 → IsTable f1 → map head_at fs ≡ map head_in headers
    → IsTyped u (record { names = u.tokens.names; types = f1; functions = fs; defines = defines })
program_of {g} f1 items fs bodies u f0 named numbers headers defines is d text numbered distinct same used table heads =
    is_program u f0 named numbers headers defines g is d text numbered distinct f1 fs g.known used table
    (subst (λ l. AreBodies g f1 (map (λ f. f.kind) (given_functions l)) headers fs) same (subst (λ l. AreBodies g f1 (map (λ f. f.kind) (given_functions items)) l fs) is.functions bodies)) heads

pub unit_breaks : {g : Given} (rule line : ℕ) (items : List Item) (f0 : List Form) → IsBrokenAmong g f0 (given_functions items) rule line
    → (u : tree.Unit) (named numbers : List (ℕ × ℕ)) (headers : List Numbered) (defines : List ℕ) → IsGivenOf g u named numbers headers → IsDeclared u f0 named headers defines → IsText u
    → numbers ≡ numbering 0 [] (map (λ s. s.name) headers) → AreDistinct (map (λ s. s.name) headers) → items ≡ u.items → BreaksUnit u rule line
unit_breaks {g} rule line items f0 b u named numbers headers defines is d text numbered distinct same =
    breaks_unit u f0 named numbers headers defines g is d text numbered distinct rule line (subst (λ l. IsBrokenAmong g f0 (given_functions l) rule line) same b)
