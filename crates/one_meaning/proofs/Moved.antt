-- What one typed tree of a unit answers, each answers.
use Rattle.std.proofs.Common.{◌≡◌, ◌<◌, ◌∙◌, ℕ, zero, suc, Bool, true, false, cond, List, [], ◌∷◌, map, find, Option, Some, None, option_map, slice_get, unwrap_or, refl, sym, ap, subst}
use Rattle.std.proofs.lemmas.Option.{slice_get-map}
use Rattle.std.specs.Option.{is_none, option_and_then, option_map_or}
use Rattle.std.specs.Str.{str_eq_ignore_ascii_case}
use Rattle.flow_value.specs.declared.ty.Ty.{Ty}
use Rattle.flow_value.specs.declared.value.Val.{Val}
use Rattle.type_table.specs.declared.form.Form.{Form}
use Rattle.run_words.specs.declared.command.MeanSet.{MeanSet}
use Rattle.sisal_tree.specs.declared.unit.Unit as tree
use Rattle.typed_tree.specs.declared.expr.TypedExpr.{TypedExpr}
use Rattle.typed_tree.specs.declared.program.Function.{Function}
use Rattle.typed_tree.specs.declared.program.Program.{Program}
use Rattle.typed_tree.specs.Entries.{entry_of, has_name, name_of}
use Rattle.typed_tree.specs.Types.{AreNumbers}
use Rattle.typed_tree.specs.Units.{IsTyped}
use Rattle.typing_unique.specs.UnitLaws.{AreSpelledOnce, IsAlike, AreAlike, no_function, a_function, SameProgram, OneTypingLaw}
use Rattle.typing_unique.specs.Bare.{bare_body, bare_function, bare_program, OneShapeLaw}
use Rattle.meaning.specs.Plain.{plain_calls}
use Rattle.mean_call.specs.Calls.{is_elsewhere, unlinked, params_if, params_of, IsEntry, Gives, IsRefused, HasNoEntry, HasWrongWords, PassesLimit}
use Rattle.mean_call.specs.declared.fault.ArgumentFault.{ArgumentFault}
use Rattle.mean_call.specs.declared.fault.ArgumentFault.TheVariants as argument
use Rattle.mean_call.specs.declared.fault.Refusal.{Refusal}
use Rattle.mean_call.specs.declared.fault.Refusal.TheVariants as refusal
use Rattle.mean_call.proofs.One.{one_entry}
use Rattle.one_meaning.specs.Laws.{AreAnswersMoved, IsOneMeaning}

-- ---- what a program has without its types

elsewhere_bare : (o : Option (List TypedExpr)) → is_none (bare_body o) ≡ is_none o
elsewhere_bare None = refl
elsewhere_bare (Some es) = refl

found_bare : (fs : List Function) → find is_elsewhere (map bare_function fs) ≡ option_map bare_function (find is_elsewhere fs)
found_bare [] = refl
found_bare (f ∷ fs) = by (is_elsewhere (bare_function f)) (is_elsewhere f) (elsewhere_bare f.body) (found_bare fs)
  where
    by : (a b : Bool) → a ≡ b → find is_elsewhere (map bare_function fs) ≡ option_map bare_function (find is_elsewhere fs)
        → cond a (Some (bare_function f)) (find is_elsewhere (map bare_function fs)) ≡ option_map bare_function (cond b (Some f) (find is_elsewhere fs))
    by true true e r = refl
    by false false e r = r
    by true false e r = cc
    by false true e r = cc

named_bare : (names : List (List ℕ)) (o : Option Function) → option_map (λ (f : Function). unwrap_or (slice_get names f.name) []) (option_map bare_function o) ≡ option_map (λ (f : Function). unwrap_or (slice_get names f.name) []) o
named_bare names None = refl
named_bare names (Some f) = refl

unlinked_bare : (p : Program) → unlinked (bare_program p) ≡ unlinked p
unlinked_bare p = ap (λ o. option_map (λ (f : Function). unwrap_or (slice_get p.names f.name) []) o) (found_bare p.functions) ∙ named_bare p.names (find is_elsewhere p.functions)

then_bare : (names : List (List ℕ)) (o : Option Function) → option_and_then (λ (f : Function). slice_get names f.name) (option_map bare_function o) ≡ option_and_then (λ (f : Function). slice_get names f.name) o
then_bare names None = refl
then_bare names (Some f) = refl

name_bare : (p : Program) (n : ℕ) → name_of (bare_program p) n ≡ name_of p n
name_bare p n = ap (λ o. option_and_then (λ (f : Function). slice_get p.names f.name) o) (slice_get-map bare_function p.functions n) ∙ then_bare p.names (slice_get p.functions n)

has_bare : (p : Program) (word : List ℕ) (n : ℕ) → has_name (bare_program p) word n ≡ has_name p word n
has_bare p word n = ap (λ o. option_map_or (λ spelling. str_eq_ignore_ascii_case spelling word) o false) (name_bare p n)

entry_bare : (p : Program) (word : List ℕ) → entry_of (bare_program p) word ≡ entry_of p word
entry_bare p word = ap (λ (h : ℕ → Bool). find h p.defines) (λ i n. has_bare p word n i)

-- ---- types of parameters

-- the functions of a number in two lists
data AreThere (names : List (List ℕ)) (forms others : List Form) : Option Function → Option Function → Type 0 where
  neither : AreThere names forms others None None
  each : {f g : Function} → IsAlike names forms others f g → AreThere names forms others (Some f) (Some g)

at_number : (names : List (List ℕ)) (forms others : List Form) (fs gs : List Function) → AreAlike names forms others fs gs → (k : ℕ) → AreThere names forms others (slice_get fs k) (slice_get gs k)
at_number names forms others _ _ no_function k = neither
at_number names forms others _ _ (a_function p ps) zero = each p
at_number names forms others _ _ (a_function {fs = fs} {gs = gs} p ps) (suc k) = at_number names forms others fs gs ps k

record HaveTypes (names : List (List ℕ)) (forms others : List Form) (ns ms : List ℕ) : Type 0 where
  types : List Ty
  one : AreNumbers forms names ns types
  other : AreNumbers others names ms types

types_there : (names : List (List ℕ)) (forms others : List Form) (o r : Option Function) → AreThere names forms others o r → HaveTypes names forms others (params_if o) (params_if r)
types_there names forms others _ _ neither = record { types = []; one = tt; other = tt }
types_there names forms others _ _ (each p) = record { types = p.params.0; one = p.params.1; other = p.params.2 }

module _ (shape : OneShapeLaw) (typing : OneTypingLaw) (meaning : IsOneMeaning) (u : tree.Unit) (p q : Program) (once : AreSpelledOnce u.tokens.names) (s : IsTyped u p) (t : IsTyped u q) where
  same_shape : bare_program p ≡ bare_program q
  same_shape = shape u p q once s t

  same_program : SameProgram u p q
  same_program = typing u p q s t

  unlinked_same : unlinked p ≡ unlinked q
  unlinked_same = sym (unlinked_bare p) ∙ ap unlinked same_shape ∙ unlinked_bare q

  entry_same : (word : List ℕ) → entry_of p word ≡ entry_of q word
  entry_same word = sym (entry_bare p word) ∙ ap (λ (r : Program). entry_of r word) same_shape ∙ entry_bare q word

  entry_moved : (word : List ℕ) (f : ℕ) (ts : List Ty) → IsEntry p word f ts → IsEntry q word f ts
  entry_moved word f ts e =
      let have = types_there u.tokens.names p.types q.types (slice_get p.functions f) (slice_get q.functions f) (at_number u.tokens.names p.types q.types p.functions q.functions same_program.functions f) in
      let mine : AreNumbers p.types p.names (params_of p f) have.types = subst (λ names. AreNumbers p.types names (params_of p f) have.types) (sym s.names) have.one in
      let same : ts ≡ have.types = (one_entry p word f f ts have.types e (record { called = e.called; parameters = mine })).1 in
      let here : AreNumbers q.types q.names (params_of q f) have.types = subst (λ names. AreNumbers q.types names (params_of q f) have.types) (sym t.names) have.other in
      record { called = sym (entry_same word) ∙ e.called; parameters = subst (AreNumbers q.types q.names (params_of q f)) (sym same) here }

  pub gives_moved : (set : MeanSet) (values : List Val) → Gives p set values → Gives q set values
  gives_moved set values g = record {
    linked = sym unlinked_same ∙ g.linked;
    function = g.function;
    types = g.types;
    entry = entry_moved set.entry g.function g.types g.entry;
    args = g.args;
    read = g.read;
    depth = g.depth;
    steps = g.steps;
    given = sym (meaning u p q once s t g.depth g.function g.args) ∙ g.given;
    within = g.within;
  }

  wrong_moved : (set : MeanSet) (f : ArgumentFault) → HasWrongWords p set f → HasWrongWords q set f
  wrong_moved set f w = record {
    linked = sym unlinked_same ∙ w.linked;
    function = w.function;
    types = w.types;
    entry = entry_moved set.entry w.function w.types w.entry;
    refused = w.refused;
  }

  passes_moved : (set : MeanSet) → PassesLimit p set → PassesLimit q set
  passes_moved set w = record {
    linked = sym unlinked_same ∙ w.linked;
    function = w.function;
    types = w.types;
    entry = entry_moved set.entry w.function w.types w.entry;
    args = w.args;
    read = w.read;
    longer = λ depth steps values e. w.longer depth steps values (meaning u p q once s t depth w.function w.args ∙ e);
  }

module _ (shape : OneShapeLaw) (typing : OneTypingLaw) (meaning : IsOneMeaning) where
  refused_moved : (u : tree.Unit) (p q : Program) (once : AreSpelledOnce u.tokens.names) (s : IsTyped u p) (t : IsTyped u q) (set : MeanSet) (r : Refusal) → IsRefused p set r → IsRefused q set r
  refused_moved u p q once s t set (refusal.Unlinked name) w = sym (unlinked_same shape typing meaning u p q once s t) ∙ w
  refused_moved u p q once s t set (refusal.Argument argument.Entry) w = record {
    linked = sym (unlinked_same shape typing meaning u p q once s t) ∙ w.linked;
    none = λ f ts e. w.none f ts (entry_moved shape typing meaning u q p once t s set.entry f ts e);
  }
  refused_moved u p q once s t set (refusal.Argument (argument.Count wanted given)) w = wrong_moved shape typing meaning u p q once s t set (argument.Count wanted given) w
  refused_moved u p q once s t set (refusal.Argument (argument.Value k fault)) w = wrong_moved shape typing meaning u p q once s t set (argument.Value k fault) w
  refused_moved u p q once s t set refusal.TurnLimit w = passes_moved shape typing meaning u p q once s t set w
  refused_moved u p q once s t set refusal.NoMemory w = tt

  pub answers_moved : AreAnswersMoved
  answers_moved = record {
    values = λ u p q once s t set values g. gives_moved shape typing meaning u p q once s t set values g;
    refusals = refused_moved;
  }
