-- Labels of types by their other numbers.
use Rattle.std.proofs.Common.{◌≡◌, ℕ, zero, suc, List, [], ◌∷◌, map, Option, Some, None, option_map, slice_get, get_or, refl, ap, ◌∙◌}
use Rattle.std.proofs.lemmas.Option.{slice_get-map}
use Rattle.type_table.specs.declared.form.Form.{Form}
use Rattle.type_table.specs.declared.form.Form.TheVariants as form
use Rattle.type_table.specs.declared.form.Member.{Member}
use Rattle.typed_tree.specs.declared.program.Function.{Function}
use Rattle.typing_unique.specs.Bare.{renumbered_function}
use Rattle.lowering.specs.declared.feed.Carried.{Carried}
use Rattle.lowering.specs.declared.feed.Carried.TheVariants.{One, Many, Callee}
use Rattle.lowering.specs.Types.{entry, Table, Labelled, enter, members, deepest, named, over, form_label, label_within, type_label, tuple_label, function_label, callee_label, carried_label, with_types}
use Rattle.one_lowering.specs.Moves.{moved_member, moved_form, Moves}
use Rattle.one_lowering.proofs.Moved.{moved, lines}

module _ (to : ℕ → ℕ) (forms others : List Form) (moves : Moves to forms others) (names : List (List ℕ)) where
  -- a member behind the others
  abbrev member : ℕ → List ℕ → Labelled → Labelled → Labelled
  member code name t rest = enter (entry code t.label rest.label name) t.table

  -- members by types that have these labels
  members-same : (type other : ℕ → Table → Labelled) → ((t : ℕ) (ts : Table) → other (to t) ts ≡ type t ts) → (code : ℕ) (ms : List Member) (ts : Table)
      → members other code (named others names (map (moved_member to) ms)) ts ≡ members type code (named forms names ms) ts
  members-same type other h code [] ts = refl
  members-same type other h code (m ∷ ms) ts =
      let name = get_or names m.name [] in
      let rest = members type code (named forms names ms) ts in
      ap (λ (r : Labelled). member code name (other (to m.ty) r.table) r) (members-same type other h code ms ts)
      ∙ ap (λ t. member code name t rest) (h m.ty rest.table)

  tuples-same : (type other : ℕ → Table → Labelled) → ((t : ℕ) (ts : Table) → other (to t) ts ≡ type t ts) → (code : ℕ) (ns : List ℕ) (ts : Table)
      → members other code (map (λ t. ([], t)) (map to ns)) ts ≡ members type code (map (λ t. ([], t)) ns) ts
  tuples-same type other h code [] ts = refl
  tuples-same type other h code (n ∷ ns) ts =
      let rest = members type code (map (λ t. ([], t)) ns) ts in
      ap (λ (r : Labelled). member code [] (other (to n) r.table) r) (tuples-same type other h code ns ts)
      ∙ ap (λ t. member code [] t rest) (h n rest.table)

  form-moved : (type other : ℕ → Table → Labelled) → ((t : ℕ) (ts : Table) → other (to t) ts ≡ type t ts) → (o : Option Form) (ts : Table)
      → form_label others names other (option_map (moved_form to) o) ts ≡ form_label forms names type o ts
  form-moved type other h None ts = refl
  form-moved type other h (Some form.Boolean) ts = refl
  form-moved type other h (Some form.Character) ts = refl
  form-moved type other h (Some form.Integer) ts = refl
  form-moved type other h (Some form.Null) ts = refl
  form-moved type other h (Some (form.Array t)) ts = ap (over forms names 0) (h t ts)
  form-moved type other h (Some (form.Stream t)) ts = ap (over forms names 6) (h t ts)
  form-moved type other h (Some (form.Record ms)) ts = ap (over forms names 5) (members-same type other h 2 ms ts)
  form-moved type other h (Some (form.Union ms)) ts = ap (over forms names 9) (members-same type other h 7 ms ts)

  within-moved : (depth t : ℕ) (ts : Table) → label_within others names depth (to t) ts ≡ label_within forms names depth t ts
  within-moved zero t ts = refl
  within-moved (suc depth) t ts =
      ap (λ o. form_label others names (label_within others names depth) o ts) (moves.form t)
      ∙ form-moved (label_within forms names depth) (label_within others names depth) (within-moved depth) (slice_get forms t) ts

  type-moved : (t : ℕ) (ts : Table) → type_label others names (to t) ts ≡ type_label forms names t ts
  type-moved t ts = within-moved deepest t ts

  tuple-moved : (ns : List ℕ) (ts : Table) → tuple_label others names (map to ns) ts ≡ tuple_label forms names ns ts
  tuple-moved ns ts = tuples-same (type_label forms names) (type_label others names) type-moved 8 ns ts

  abbrev header : Labelled → Labelled → Labelled
  header a r = enter (entry 3 a.label r.label []) r.table

  pub function-moved : (f : Function) (ts : Table) → function_label others names (renumbered_function to f) ts ≡ function_label forms names f ts
  function-moved f ts =
      let a = tuple_label forms names f.params ts in
      ap (λ (x : Labelled). header x (tuple_label others names (map to f.results) x.table)) (tuple-moved f.params ts) ∙ ap (header a) (tuple-moved f.results a.table)

  pub carried-labelled : (fs : List Function) (c : Carried) (ts : Table) → carried_label others names (map (renumbered_function to) fs) (moved to c) ts ≡ carried_label forms names fs c ts
  carried-labelled fs (One t) ts = type-moved t ts
  carried-labelled fs (Many t) ts = ap (over forms names 4) (type-moved t ts)
  carried-labelled fs (Callee f) ts = ap (λ o. callee_label others names o ts) (slice_get-map (renumbered_function to) fs f) ∙ by (slice_get fs f)
    where
      by : (o : Option Function) → callee_label others names (option_map (renumbered_function to) o) ts ≡ callee_label forms names o ts
      by None = refl
      by (Some g) = function-moved g ts

  pub types-same : (fs : List Function) (cs : List Carried) (ts : Table) → with_types others names (map (renumbered_function to) fs) (lines to cs) ts ≡ with_types forms names fs cs ts
  types-same fs [] ts = refl
  types-same fs (c ∷ cs) ts =
      ap (λ (l : Labelled). with_types others names (map (renumbered_function to) fs) (lines to cs) l.table) (carried-labelled fs c ts) ∙ types-same fs cs (carried_label forms names fs c ts).table
