-- A word names one function, in the program as in its unit.
use Rattle.std.proofs.Common.{◌≡◌, ℕ, zero, suc, ◌+◌, Bool, true, false, not, ◌&&◌, ◌||◌, List, [], ◌∷◌, ◌++◌, get_or, Option, Some, None, option_map, slice_get, find, nat_eq, bytes_eq, refl, sym, ap, subst, ◌∙◌}
use Rattle.std.specs.Prelude.{◌==◌, unwrap_or}
use Rattle.std.specs.List.{list_any}
use Rattle.std.specs.Option.{option_and_then, option_map_or, is_none}
use Rattle.std.specs.Str.{str_eq_ignore_ascii_case}
use Rattle.std.proofs.lemmas.Bool.{eqb-true, eq-eqb}
use Rattle.std.proofs.lemmas.Slice.Eq.{bytes_eq-Decides}
use Rattle.flow_value.specs.declared.ty.Ty.{Ty}
use Rattle.type_table.specs.declared.form.Form.{Form}
use Rattle.if1_graph.specs.declared.graph.Graph.{Graph}
use Rattle.if1_graph.specs.declared.graph.Graph.TheViews.{out-Graph}
use Rattle.if1_graph.specs.declared.graph.Unit1.{Unit1}
use Rattle.if1_graph.specs.Tables.{◌>>=◌}
use Rattle.if1_graph.specs.Types.{params_at}
use Rattle.if1_valid.specs.Params.{function_in, params_of}
use Rattle.unit_entry.specs.Entries.{is_called, entry_of, is_imported, is_lacking, first_lacking}
use Rattle.marks_made.specs.Units.{marks_of}
use Rattle.sisal_lex.specs.Sound.{is_folded}
use Rattle.sisal_tree.specs.declared.unit.FunKind.{FunKind}
use Rattle.sisal_tree.specs.declared.unit.FunKind.TheVariants as fun
use Rattle.sisal_tree.specs.declared.unit.Named.{Named}
use Rattle.sisal_tree.specs.declared.unit.Unit as tree
use Rattle.sisal_tree.specs.declared.expr.Expr.{Expr}
use Rattle.typed_tree.specs.declared.expr.TypedExpr.{TypedExpr}
use Rattle.typed_tree.specs.declared.program.Function.{Function}
use Rattle.typed_tree.specs.declared.program.Program.{Program}
use Rattle.typed_tree.specs.Entries.{has_name}
use Rattle.typed_tree.specs.Entries as named
use Rattle.typed_tree.specs.Types.{AreNumbers}
use Rattle.typed_tree.specs.Typing.{Signature, Known}
use Rattle.typed_tree.specs.Units.{Declared, given, HasBody, global, defined, AreFunctionsOf, no_function, a_function, IsFunctionOf, AreDefined, no_name, a_name, IsDefined, IsTyped}
use Rattle.fitting_trees.specs.Fitting.{Header, FunctionsFit}
use Rattle.lowering.specs.Programs.{number_of}
use Rattle.lowering.specs.Types.{header_label}
use Rattle.lowered_units.specs.Units.{name_of, import_if, imports_of}
use Rattle.mean_call.specs.Calls.{is_elsewhere, unlinked, params_if, IsEntry}
use Rattle.mean_call.specs.Calls as mean
use Rattle.entry_laws.specs.Laws.{IsUnitOfText, IsPlaced, HasHeader, AreUnitsEntries, AreProgramsEntries, DoesUnitLackAlike, AreHeadersOfEntries}
use Rattle.entry_laws.proofs.Types.{header-shown}
use Rattle.entry_laws.proofs.Names.{names-small, spelled-small}
use Rattle.entry_laws.proofs.Finds.{same-some, find-there, find-only, find-none, find-some, any-there, there-any, all-at}
use Rattle.entry_laws.proofs.Heads.{IsHead, graph-head, function-head, number-once}

and-both : (a b : Bool) → (a && b) ≡ true → (a ≡ true) × (b ≡ true)
and-both true b e = (refl, e)
and-both false b e = absurd cc

true-false : true ≡ false → ⊥
true-false e = cc

name-at : (names : List (List ℕ)) (x : ℕ) (name : List ℕ) → slice_get names x ≡ Some name → get_or names x [] ≡ name
name-at [] x name e = absurd cc
name-at (n ∷ ns) zero name e = same-some n name e
name-at (n ∷ ns) (suc x) name e = name-at ns x name e

header-at : (numbers : List ℕ → List Ty → Type 0) (all hs : List Header) (fs : List Function) → FunctionsFit numbers all hs fs → (i : ℕ) (f : Function) → slice_get fs i ≡ Some f → (h : Header) × (slice_get hs i ≡ Some h) × numbers f.params h.params
header-at numbers all [] [] k i f e = absurd cc
header-at numbers all [] (d ∷ fs) k i f e = absurd k
header-at numbers all (h ∷ hs) [] k i f e = absurd cc
header-at numbers all (h ∷ hs) (d ∷ fs) k zero f e = (h, refl, subst (λ (x : Function). numbers x.params h.params) (same-some d f e) k.0.params)
header-at numbers all (h ∷ hs) (d ∷ fs) k (suc i) f e = header-at numbers all hs fs k.1 i f e

-- ---- functions after `define` have bodies

has-body : (u : tree.Unit) (k : Known) (s : Signature) (kind : FunKind) (b : Option (List TypedExpr)) (es : List Expr) → HasBody u k s kind b → kind ≡ fun.Defined es → b ≡ None → ⊥
has-body u k s _ _ es global e n = cc
has-body u k s _ _ es (defined a) e n = cc

body-at : (u : tree.Unit) (forms : List Form) (ds : List Declared) (es : List Declared) (fs : List Function) → AreFunctionsOf u forms ds es fs → (i : ℕ) (d : Declared) (f : Function) → slice_get es i ≡ Some d → slice_get fs i ≡ Some f → IsFunctionOf u forms ds d f
body-at u forms ds _ _ no_function i d f a b = absurd cc
body-at u forms ds _ _ (a_function {d = e} {f = g} h rest) zero d f a b = subst (λ x. IsFunctionOf u forms ds x f) (same-some e d a) (subst (λ y. IsFunctionOf u forms ds e y) (same-some g f b) h)
body-at u forms ds _ _ (a_function h rest) (suc i) d f a b = body-at u forms ds _ _ rest i d f a b

defined-at : (u : tree.Unit) (ds : List Declared) (names : List Named) (ns : List ℕ) → AreDefined u ds names ns → (k i : ℕ) → slice_get ns k ≡ Some i → (name : ℕ) × IsDefined u ds name i
defined-at u ds _ _ no_name k i e = absurd cc
defined-at u ds _ _ (a_name {name = name} {n = n} d rest) zero i e = (name.name, subst (λ j. IsDefined u ds name.name j) (same-some n i e) d)
defined-at u ds _ _ (a_name d rest) (suc k) i e = defined-at u ds _ _ rest k i e

module _ (u : tree.Unit) (p : Program) (t : IsTyped u p) where
  defined-body : (i : ℕ) (f : Function) → slice_get p.functions i ≡ Some f → list_any (nat_eq i) p.defines ≡ true → f.body ≡ None → ⊥
  defined-body i f e h n =
      let k = any-there i p.defines h in
      let d = (defined-at u t.declared u.defines p.defines t.defines k.0 i k.1).1 in
      let b = body-at u p.types t.declared (given t.declared) p.functions t.functions i d.function f d.there e in
      has-body u _ d.function.signature d.function.function.kind f.body d.body b.body d.defined n

-- ---- a word

module _ (bytes : List ℕ) (u : tree.Unit) (p : Program) (v : Unit1) (h : IsUnitOfText bytes u p v) where
  abbrev w : Unit1
  w = marks_of v

  -- the word names the function of this place
  record Names (word : List ℕ) (i : ℕ) : Type 0 where
    function : Function
    there : slice_get p.functions i ≡ Some function
    name : List ℕ
    spelled : slice_get p.names function.name ≡ Some name
    alike : str_eq_ignore_ascii_case name word ≡ true
    exported : list_any (nat_eq i) p.defines ≡ true

  small : (x : ℕ) (s : List ℕ) → slice_get p.names x ≡ Some s → is_folded s ≡ true
  small x s e = names-small bytes u.tokens h.lexed x s (ap (λ names. slice_get names x) (sym h.typed.names) ∙ e)

  named-once : (word : List ℕ) (i j : ℕ) → Names word i → Names word j → i ≡ j
  named-once word i j a b =
      let x = spelled-small a.name word (small a.function.name a.name a.spelled) a.alike in
      let y = spelled-small b.name word (small b.function.name b.name b.spelled) b.alike in
      h.fits.once i j a.name (record { function = a.function; there = a.there; spelled = a.spelled })
      (record { function = b.function; there = b.there; spelled = b.spelled ∙ ap Some (y ∙ sym x) })

  -- ---- in the program

  has-is : (word : List ℕ) (i : ℕ) (a : Names word i) → has_name p word i ≡ true
  has-is word i a =
      ap (λ o. option_map_or (λ spelling. str_eq_ignore_ascii_case spelling word) (option_and_then (λ (f : Function). slice_get p.names f.name) o) false) a.there
      ∙ (ap (λ o. option_map_or (λ spelling. str_eq_ignore_ascii_case spelling word) o false) a.spelled ∙ a.alike)

  is-named : (word : List ℕ) (i : ℕ) → has_name p word i ≡ true → list_any (nat_eq i) p.defines ≡ true → Names word i
  is-named word i e d = by (slice_get p.functions i) refl e
    where
      spelled-by : (f : Function) → slice_get p.functions i ≡ Some f → (o : Option (List ℕ)) → slice_get p.names f.name ≡ o → option_map_or (λ spelling. str_eq_ignore_ascii_case spelling word) o false ≡ true → Names word i
      spelled-by f s None k e = absurd cc
      spelled-by f s (Some name) k e = record { function = f; there = s; name = name; spelled = k; alike = e; exported = d }

      by : (o : Option Function) → slice_get p.functions i ≡ o → option_map_or (λ spelling. str_eq_ignore_ascii_case spelling word) (option_and_then (λ (f : Function). slice_get p.names f.name) o) false ≡ true → Names word i
      by None s e = absurd cc
      by (Some f) s e = spelled-by f s (slice_get p.names f.name) refl e

  program-names : (word : List ℕ) (i : ℕ) → named.entry_of p word ≡ Some i → Names word i
  program-names word i e = let r = find-there (has_name p word) p.defines i e in is-named word i r.2 (there-any i p.defines r.0 r.1)

  names-program : (word : List ℕ) (i : ℕ) → Names word i → named.entry_of p word ≡ Some i
  names-program word i a =
      let k = any-there i p.defines a.exported in
      find-only (has_name p word) p.defines k.0 i k.1 (has-is word i a) (λ j y s t. named-once word y i (is-named word y t (there-any y p.defines j s)) a)

  -- ---- in the unit

  called-is : (word : List ℕ) (i : ℕ) (a : Names word i) (g : Graph) → IsHead p i (number_of p i) a.function g → is_called word g ≡ true
  called-is word i a g k =
      ap (λ b. b && str_eq_ignore_ascii_case (out-Graph g).name word) (k.exported ∙ a.exported)
      ∙ (ap (λ n. str_eq_ignore_ascii_case n word) (k.name ∙ name-at p.names a.function.name a.name a.spelled) ∙ a.alike)

  is-graph : (word : List ℕ) (i : ℕ) (g : Graph) → slice_get w.graphs i ≡ Some g → is_called word g ≡ true → Names word i
  is-graph word i g s e =
      let k = graph-head p v h.unit i g s in
      let x = and-both (out-Graph g).exported (str_eq_ignore_ascii_case (out-Graph g).name word) e in
      let n = all-at (λ (f : Function). (name : List ℕ) × (slice_get p.names f.name ≡ Some name)) p.functions i k.0 h.fits.named k.1 in
      record {
        function = k.0;
        there = k.1;
        name = n.0;
        spelled = n.1;
        alike = ap (λ m. str_eq_ignore_ascii_case m word) (sym (k.2.name ∙ name-at p.names k.0.name n.0 n.1)) ∙ x.1;
        exported = sym k.2.exported ∙ x.0;
      }

  -- two places of one number have one graph
  same-graph : (i j : ℕ) (x y : Graph) → i ≡ j → slice_get w.graphs i ≡ Some x → slice_get w.graphs j ≡ Some y → x ≡ y
  same-graph i j x y e a b = same-some x y (sym a ∙ (ap (slice_get w.graphs) e ∙ b))

  unit-names : (word : List ℕ) (number : ℕ) → entry_of w word ≡ Some number → (i : ℕ) × (number_of p i ≡ number) × Names word i
  unit-names word number e = by (find (is_called word) w.graphs) refl e
    where
      by : (o : Option Graph) → find (is_called word) w.graphs ≡ o → option_map (λ g. (out-Graph g).number) o ≡ Some number → (i : ℕ) × (number_of p i ≡ number) × Names word i
      by None s e = absurd cc
      by (Some g) s e =
          let r = find-there (is_called word) w.graphs g s in
          let k = graph-head p v h.unit r.0 g r.1 in
          (r.0, sym k.2.number ∙ same-some (out-Graph g).number number e, is-graph word r.0 g r.1 r.2)

  names-unit : (word : List ℕ) (i : ℕ) → Names word i → entry_of w word ≡ Some (number_of p i)
  names-unit word i a =
      let k = function-head p v h.unit i a.function a.there in
      ap (option_map (λ (g : Graph). (out-Graph g).number))
      (find-only (is_called word) w.graphs i k.0 k.1 (called-is word i a k.0 k.2) (λ j y s t. same-graph j i y k.0 (named-once word j i (is-graph word j y s t) a) s k.1))
      ∙ ap Some k.2.number

  -- ---- types

  found-by-number : (i : ℕ) (f : Function) (g : Graph) → slice_get p.functions i ≡ Some f → slice_get w.graphs i ≡ Some g → IsHead p i (number_of p i) f g → function_in w.graphs (number_of p i) ≡ Some g
  found-by-number i f g e s k =
      find-only (λ (x : Graph). (out-Graph x).number == number_of p i) w.graphs i g s (eq-eqb (out-Graph g).number (number_of p i) k.number)
      (λ j y r t.
      let m = graph-head p v h.unit j y r in
      same-graph j i y g (number-once p v h.unit j i m.0 f m.1 e (sym m.2.number ∙ eqb-true (out-Graph y).number (number_of p i) t)) r s)

  params-are : (i : ℕ) (f : Function) (types : List Ty) → slice_get p.functions i ≡ Some f → AreNumbers p.types p.names f.params types → params_of w (number_of p i) ≡ Some types
  params-are i f types e k =
      let g = function-head p v h.unit i f e in
      ap (λ o. o >>= λ (x : Graph). params_at w.types (out-Graph x).fun) (found-by-number i f g.0 e g.1 g.2)
      ∙ (ap (params_at w.types) g.2.fun
      ∙ (ap (λ ts. params_at ts (header_label p f)) h.unit.types
      ∙ header-shown p h.fits.types i f types e k))

  params-if : (i : ℕ) (f : Function) (types : List Ty) → slice_get p.functions i ≡ Some f → AreNumbers p.types p.names f.params types → AreNumbers p.types p.names (mean.params_of p i) types
  params-if i f types e k = subst (λ o. AreNumbers p.types p.names (params_if o) types) (sym e) k

  if-params : (i : ℕ) (f : Function) (types : List Ty) → slice_get p.functions i ≡ Some f → AreNumbers p.types p.names (mean.params_of p i) types → AreNumbers p.types p.names f.params types
  if-params i f types e k = subst (λ o. AreNumbers p.types p.names (params_if o) types) e k

  header-of : (i : ℕ) (f : Function) → slice_get p.functions i ≡ Some f → (d : Header) × (slice_get h.fits.headers i ≡ Some d) × AreNumbers p.types p.names f.params d.params
  header-of i f e = header-at (AreNumbers p.types p.names) h.fits.headers h.fits.headers p.functions h.fits.tree.fits i f e

  entry-of-unit : (word : List ℕ) (number : ℕ) (types : List Ty) → entry_of w word ≡ Some number → params_of w number ≡ Some types → IsPlaced p word number types
  entry-of-unit word number types e k =
      let r = unit-names word number e in
      let d = header-of r.0 r.2.function r.2.there in
      let same : d.0.params ≡ types = same-some d.0.params types (sym (params-are r.0 r.2.function d.0.params r.2.there d.2) ∙ (ap (params_of w) r.1 ∙ k)) in
      (r.0, r.1, record { called = names-program word r.0 r.2; parameters = params-if r.0 r.2.function types r.2.there (subst (AreNumbers p.types p.names r.2.function.params) same d.2) })

  entry-of-program : (word : List ℕ) (place : ℕ) (types : List Ty) → IsEntry p word place types → (entry_of w word ≡ Some (number_of p place)) × (params_of w (number_of p place) ≡ Some types)
  entry-of-program word place types e =
      let a = program-names word place e.called in
      (names-unit word place a, params-are place a.function types a.there (if-params place a.function types a.there e.parameters))

  entry-header : (word : List ℕ) (place : ℕ) (types : List Ty) → IsEntry p word place types → HasHeader h.fits.headers place types
  entry-header word place types e =
      let a = program-names word place e.called in
      let d = header-of place a.function a.there in
      (d.0, d.1, same-some d.0.params types (sym (params-are place a.function d.0.params a.there d.2) ∙ params-are place a.function types a.there (if-params place a.function types a.there e.parameters)))

  -- ---- functions that stand elsewhere

  bytes-same : (x : List ℕ) → bytes_eq x x ≡ true
  bytes-same x = (bytes_eq-Decides x x).1 refl

  imports-in : (fs : List Function) (i : ℕ) (f : Function) → slice_get fs i ≡ Some f → f.body ≡ None → is_imported (imports_of p fs) (name_of p f) ≡ true
  imports-in [] i f e n = absurd cc
  imports-in (d ∷ fs) zero f e n = first d (same-some d f e) n
    where
      first : (d : Function) → d ≡ f → f.body ≡ None → is_imported (imports_of p (d ∷ fs)) (name_of p f) ≡ true
      first d e n =
          ap (λ (x : Function). is_imported (import_if p x x.body ++ imports_of p fs) (name_of p f)) e
          ∙ (ap (λ b. is_imported (import_if p f b ++ imports_of p fs) (name_of p f)) n
          ∙ ap (λ b. b || is_imported (imports_of p fs) (name_of p f)) (bytes-same (name_of p f)))
  imports-in (d ∷ fs) (suc i) f e n = later d.body (imports-in fs i f e n)
    where
      or-true : (b : Bool) → is_imported (imports_of p fs) (name_of p f) ≡ true → (b || is_imported (imports_of p fs) (name_of p f)) ≡ true
      or-true true k = refl
      or-true false k = k

      later : (b : Option (List TypedExpr)) → is_imported (imports_of p fs) (name_of p f) ≡ true → is_imported (import_if p d b ++ imports_of p fs) (name_of p f) ≡ true
      later None k = or-true (bytes_eq (name_of p d) (name_of p f)) k
      later (Some es) k = k

  no-imports : (fs : List Function) → ((i : ℕ) (f : Function) → slice_get fs i ≡ Some f → is_elsewhere f ≡ false) → imports_of p fs ≡ []
  no-imports [] none = refl
  no-imports (f ∷ fs) none = here f.body (none 0 f refl) (no-imports fs (λ i d s. none (suc i) d s))
    where
      here : (b : Option (List TypedExpr)) → is_none b ≡ false → imports_of p fs ≡ [] → import_if p f b ++ imports_of p fs ≡ []
      here None e rest = absurd (true-false e)
      here (Some es) e rest = rest

  lacks : (i : ℕ) (f : Function) → slice_get p.functions i ≡ Some f → is_elsewhere f ≡ true → first_lacking w ≡ None → ⊥
  lacks i f e n none =
      let g = function-head p v h.unit i f e in
      let absent : f.body ≡ None = is-none f.body n in
      find-some (is_lacking w) w.graphs i g.0 g.1
      (ap (λ b. not b && is_imported w.imports (out-Graph g.0).name) (g.2.exported ∙ hidden (list_any (nat_eq i) p.defines) refl absent)
      ∙ (ap (λ is. is_imported is (out-Graph g.0).name) h.unit.imports
      ∙ (ap (is_imported (imports_of p p.functions)) g.2.name ∙ imports-in p.functions i f e absent)))
      (by (find (is_lacking w) w.graphs) none)
    where
      is-none : (b : Option (List TypedExpr)) → is_none b ≡ true → b ≡ None
      is-none None e = refl
      is-none (Some es) e = absurd cc

      hidden : (b : Bool) → list_any (nat_eq i) p.defines ≡ b → f.body ≡ None → list_any (nat_eq i) p.defines ≡ false
      hidden true s n = absurd (defined-body u p h.typed i f e s n)
      hidden false s n = s

      by : (o : Option Graph) → option_map (λ g. (out-Graph g).name) o ≡ None → o ≡ None
      by None e = refl
      by (Some g) e = absurd cc

  abbrev name_if : Function → List ℕ
  name_if f = unwrap_or (slice_get p.names f.name) []

  linked-program : first_lacking w ≡ None → unlinked p ≡ None
  linked-program none = ap (option_map name_if) (find-none is_elsewhere p.functions (λ j f s. here (is_elsewhere f) j f refl s))
    where
      here : (b : Bool) (j : ℕ) (f : Function) → is_elsewhere f ≡ b → slice_get p.functions j ≡ Some f → is_elsewhere f ≡ false
      here true j f e s = absurd (lacks j f s e none)
      here false j f e s = e

  and-false : (b : Bool) → (b && false) ≡ false
  and-false true = refl
  and-false false = refl

  not-elsewhere : find is_elsewhere p.functions ≡ None → (b : Bool) (i : ℕ) (f : Function) → is_elsewhere f ≡ b → slice_get p.functions i ≡ Some f → is_elsewhere f ≡ false
  not-elsewhere n true i f e s = absurd (find-some is_elsewhere p.functions i f s e n)
  not-elsewhere n false i f e s = e

  none-elsewhere : (o : Option Function) → find is_elsewhere p.functions ≡ o → option_map name_if o ≡ None → (i : ℕ) (f : Function) → slice_get p.functions i ≡ Some f → is_elsewhere f ≡ false
  none-elsewhere None e n i f s = not-elsewhere e (is_elsewhere f) i f refl s
  none-elsewhere (Some d) e n i f s = absurd cc

  linked-unit : unlinked p ≡ None → first_lacking w ≡ None
  linked-unit none =
      let empty : w.imports ≡ [] = h.unit.imports ∙ no-imports p.functions (none-elsewhere (find is_elsewhere p.functions) refl none) in
      ap (option_map (λ (g : Graph). (out-Graph g).name)) (find-none (is_lacking w) w.graphs (λ j g s. ap (λ is. not (out-Graph g).exported && is_imported is (out-Graph g).name) empty ∙ and-false (not (out-Graph g).exported)))

pub units-entries : AreUnitsEntries
units-entries bytes u p v word number types h e k = entry-of-unit bytes u p v h word number types e k

pub programs-entries : AreProgramsEntries
programs-entries bytes u p v word place types h e = entry-of-program bytes u p v h word place types e

pub headers-of-entries : AreHeadersOfEntries
headers-of-entries bytes u p v word place types h e = entry-header bytes u p v h word place types e

pub unit-lacks : DoesUnitLackAlike
unit-lacks bytes u p v h = (linked-program bytes u p v h, linked-unit bytes u p v h)
