-- The results of functions of texts are read from what is printed of them.
use Rattle.std.proofs.Common.{◌≡◌, ℕ, zero, suc, ◌+◌, ◌<◌, ◌≤◌, Bool, true, false, not, ◌||◌, eqb, List, [], ◌∷◌, map, length, Some, refl, sym, ap, subst, arith, slice_get, if◌then◌else◌, Ok, Err, nat_lt, nat_eq}
use Rattle.std.specs.Prelude.{fold, Result}
use Rattle.std.specs.List.{list_any, IsDistinct, AllByRecursion}
use Rattle.std.proofs.lemmas.Map.Steps.{length-le_from_distinct_below}
use Rattle.std.proofs.lemmas.Bool.{eqb-true}
use Rattle.std.proofs.lemmas.Bool.Decides.{nat_tests}
use Rattle.flow_value.specs.declared.value.Val.{Val}
use Rattle.flow_value.specs.declared.ty.Ty.{Ty}
use Rattle.value_text.proofs.RoundTrip.{printed_reads}
use Rattle.type_table.specs.declared.form.Form.{Form}
use Rattle.type_table.specs.declared.form.Form.TheVariants as form
use Rattle.type_table.specs.declared.form.Member.{Member as NumberedMember}
use Rattle.type_table.specs.Tables.{IsTable}
use Rattle.type_rules.specs.Records.{are_distinct}
use Rattle.typed_tree.specs.Types.{Member, depth_of, IsNumber, AreNumbers, boolean, character, integer, null, array, stream, a_record, a_union, AreMembers, no_member, a_member}
use Rattle.typed_tree.specs.declared.program.Function.{Function}
use Rattle.typed_tree.specs.declared.program.Program.{Program}
use Rattle.typed_tree.specs.Typing.{Signature}
use Rattle.typed_tree.specs.Units.{Declared, given, AreFunctionsOf, no_function, a_function}
use Rattle.typed_rows.specs.Rows.{AreOf}
use Rattle.unit_types.specs.Rests.{HasEachOnce, AreStanding}
use Rattle.unit_types.proofs.Depth.{shallow_number}
use Rattle.sisal_lex.specs.declared.head.Lexeme.{Lexeme}
use Rattle.sisal_lex.specs.declared.head.Lexeme.TheVariants as lexeme
use Rattle.sisal_lex.specs.declared.fault.LexFault.{LexFault}
use Rattle.sisal_lex.specs.declared.fault.LexFault.TheVariants as fault
use Rattle.sisal_lex.specs.declared.token.Tokens.{Tokens}
use Rattle.sisal_lex.specs.Names.{Lexed, used_by, with_names}
use Rattle.sisal_lex.specs.Tokens.{tokens_of, named, lexed}
use Rattle.sisal_tree.specs.declared.unit.Unit as tree
use Rattle.std.specs.Prelude.{◌++◌, bytes_eq}
use Rattle.std.proofs.lemmas.List.{length-append}
use Rattle.bound_trees.proofs.Told.{lexed_sound}
use Rattle.fitting_texts.specs.Laws.{AreReadAs, AreResultsRead}
use Rattle.fitting_texts.proofs.Printed.{and_both, number_flat}
use Rattle.fitting_texts.proofs.Texts.{all_at}
use Rattle.fitting_texts.proofs.Typed.{texts_typed}

-- ---- names are few

used_few : (names : List (List ℕ)) (x : Lexeme) → length (used_by names x) ≤ suc (length names)
used_few names (lexeme.Plain k) = omega arith
used_few names (lexeme.Named name) = by (list_any (bytes_eq name) names)
  where
    by : (b : Bool) → length (if b then names else names ++ name ∷ []) ≤ suc (length names)
    by true = omega arith
    by false = omega (arith, length-append names (name ∷ []))

all_few : (ls : List Lexed) (names : List (List ℕ)) → length (fold (λ ns l. used_by ns l.lexeme) names ls) ≤ length names + length ls
all_few [] names = omega arith
all_few (l ∷ ls) names = let a = all_few ls (used_by names l.lexeme) in let b = used_few names l.lexeme in omega (arith, a, b)

named_few : (n : ℕ) (r : Result (List Lexed) LexFault) (t : Tokens) → ((ls : List Lexed) → r ≡ Ok ls → length ls ≤ n) → named r ≡ Ok t → length t.names ≤ n
named_few n (Ok ls) t few e =
    let q : with_names ls ≡ t = cc in
    subst (λ (u : Tokens). length u.names ≤ n) q (let a = all_few ls [] in let b = few ls refl in omega (arith, a, b))
named_few n (Err f) t few e = cc

not_more : (n m : ℕ) → nat_lt n m ≡ false → m ≤ n
not_more n m e = grind (arith, nat_tests)

-- a text has at most as many names as bytes
names_few : (text : List ℕ) (t : Tokens) → tokens_of text ≡ Ok t → length t.names ≤ 4194304
names_few text t e = by (nat_lt 4194304 (length text)) refl e
  where
    by : (b : Bool) → nat_lt 4194304 (length text) ≡ b → (if b then Err fault.TooLong else named (lexed text 1 0)) ≡ Ok t → length t.names ≤ 4194304
    by true q e = cc
    by false q e = named_few 4194304 (lexed text 1 0) t (λ ls h. let f = (lexed_sound text 1 0 ls h).few in let g = not_more 4194304 (length text) q in omega (arith, f, g)) e

-- ---- unions have few tags

none_of : (x : ℕ) (xs : List ℕ) → not (list_any (nat_eq x) xs) ≡ true → AllByRecursion (λ y. eqb x y ≡ false) xs
none_of x [] e = tt
none_of x (y ∷ ys) e = by (nat_eq x y) refl e (none_of x ys)
  where
    by : (b : Bool) → nat_eq x y ≡ b → not (b || list_any (nat_eq x) ys) ≡ true → (not (list_any (nat_eq x) ys) ≡ true → AllByRecursion (λ z. eqb x z ≡ false) ys) → AllByRecursion (λ z. eqb x z ≡ false) (y ∷ ys)
    by true q e rest = cc
    by false q e rest = (q, rest e)

distinct_is : (xs : List ℕ) → are_distinct xs ≡ true → IsDistinct eqb xs
unfolding IsDistinct
distinct_is [] e = tt
distinct_is (x ∷ xs) e = let h = and_both (not (list_any (nat_eq x) xs)) (are_distinct xs) e in (none_of x xs h.0, distinct_is xs h.1)

there_below : {A : Type 0} (xs : List A) (n : ℕ) (x : A) → slice_get xs n ≡ Some x → n < length xs
there_below [] n x e = cc
there_below (y ∷ ys) zero x e = omega arith
there_below (y ∷ ys) (suc n) x e = let h = there_below ys n x e in omega (arith, h)

members_below : (forms : List Form) (names : List (List ℕ)) {ms : List NumberedMember} {fs : List Member} → AreMembers forms names ms fs → (q : ℕ) → list_any (eqb q) (map (λ m. m.name) ms) ≡ true → q < length names
members_below forms names no_member q e = cc
members_below forms names (a_member {x = x} {name = name} {ms = ms} s p more) q e = by (eqb q x) refl e (members_below forms names more q)
  where
    by : (b : Bool) → eqb q x ≡ b → (b || list_any (eqb q) (map (λ m. m.name) ms)) ≡ true → (list_any (eqb q) (map (λ m. m.name) ms) ≡ true → q < length names) → q < length names
    by true h e rest = let same = eqb-true q x h in subst (λ k. k < length names) (sym same) (there_below names x name s)
    by false h e rest = rest e

union_members : (forms : List Form) (names : List (List ℕ)) (n : ℕ) (ms : List NumberedMember) (t : Ty) → slice_get forms n ≡ Some (form.Union ms) → IsNumber forms names n t → (fs : List Member) × AreMembers forms names ms fs
union_members forms names n ms _ e (boolean h) = cc
union_members forms names n ms _ e (character h) = cc
union_members forms names n ms _ e (integer h) = cc
union_members forms names n ms _ e (null h) = cc
union_members forms names n ms _ e (array h p) = cc
union_members forms names n ms _ e (stream h p) = cc
union_members forms names n ms _ e (a_record h p) = cc
union_members forms names n ms _ e (a_union {ms = ks} {fs = fs} h p) = let s : ks ≡ ms = cc in (fs, subst (λ ls. AreMembers forms names ls fs) s p)

map_length : (ms : List NumberedMember) → length (map (λ m. m.name) ms) ≡ length ms
map_length [] = refl
map_length (m ∷ ms) = ap suc (map_length ms)

unions_few : (forms : List Form) (names : List (List ℕ)) → AreStanding names forms → length names ≤ 4194304 → (n : ℕ) (ms : List NumberedMember) → slice_get forms n ≡ Some (form.Union ms) → length ms ≤ 4194304
unions_few forms names standing few n ms e =
    let s = standing.stands n (there_below forms n (form.Union ms) e) in
    let members = union_members forms names n ms s.0 e s.1 in
    let once = all_at HasEachOnce forms n (form.Union ms) standing.once e in
    let h = length-le_from_distinct_below (map (λ m. m.name) ms) (length names) (distinct_is (map (λ m. m.name) ms) once) (members_below forms names members.1) in
    let same = map_length ms in
    omega (arith, h, same, few)

-- ---- results

module _ (forms : List Form) (names : List (List ℕ)) (standing : AreStanding names forms) (table : IsTable forms) (few : length names ≤ 4194304) where
  number_form : {n : ℕ} {t : Ty} → IsNumber forms names n t → (f : Form) × (slice_get forms n ≡ Some f)
  number_form (boolean h) = (form.Boolean, h)
  number_form (character h) = (form.Character, h)
  number_form (integer h) = (form.Integer, h)
  number_form (null h) = (form.Null, h)
  number_form (array {m = m} h p) = (form.Array m, h)
  number_form (stream {m = m} h p) = (form.Stream m, h)
  number_form (a_record {ms = ms} h p) = (form.Record ms, h)
  number_form (a_union {ms = ms} h p) = (form.Union ms, h)

  values_read : (ns : List ℕ) (ts : List Ty) (vs : List Val) → AreNumbers forms names ns ts → AreOf ts vs → AreReadAs ts vs
  values_read [] [] [] a o = tt
  values_read [] [] (v ∷ vs) a o = absurd o
  values_read [] (t ∷ ts) vs a o = absurd a
  values_read (n ∷ ns) [] vs a o = absurd a
  values_read (n ∷ ns) (t ∷ ts) [] a o = absurd o
  values_read (n ∷ ns) (t ∷ ts) (v ∷ vs) a o =
      let f = number_form a.0 in
      let shallow : depth_of t ≤ 64 = shallow_number forms names n f.0 t table f.1 a.0 in
      let flat = number_flat forms names (unions_few forms names standing few) a.0 v o.0 in
      let deep = flat.deep in
      (printed_reads t v o.0 (omega (arith, deep, shallow)) flat.tags, values_read ns ts vs a.1 o.1)

-- the numbers of a function's results
results_numbered : (u : tree.Unit) (p : Program) (all ds : List Declared) (fs : List Function) → AreFunctionsOf u p.types all ds fs → (k : ℕ) (s : Signature) → slice_get (map (λ d. d.signature) ds) k ≡ Some s → (ns : List ℕ) × AreNumbers p.types u.tokens.names ns s.results
results_numbered u p all _ _ no_function k s e = cc
results_numbered u p all _ _ (a_function {d = d} {f = f} one more) zero s e =
    let same : d.signature ≡ s = cc in (f.results, subst (λ x. AreNumbers p.types u.tokens.names f.results x.results) same one.results)
results_numbered u p all _ _ (a_function {es = es} {fs = fs} one more) (suc k) s e = results_numbered u p all es fs more k s e

pub results_read : AreResultsRead
results_read bytes u p t table f s there n vs r h g =
    let few = names_few bytes u.tokens t.lexed in
    let numbers = results_numbered u p t.typed.declared (given t.typed.declared) p.functions t.typed.functions f s there in
    values_read p.types u.tokens.names t.standing table few numbers.0 s.results r.0 numbers.1 (texts_typed bytes u p t f s there n vs r h g)
