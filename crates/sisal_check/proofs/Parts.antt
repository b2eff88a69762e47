-- Lists that are cut where something is refused.
use Rattle.std.proofs.Common.{◌≡◌, ℕ, zero, suc, ◌+◌, ◌<◌, ◌≤◌, List, [], ◌∷◌, ◌++◌, slice_index_or, take, drop, length, Option, Some, None, get_or, slice_get, refl, sym, ap, subst, ◌∙◌, arith, inl, inr, ◌⊎◌}
use Rattle.std.proofs.Common.{Result, Err, IfErr, map}
use Rattle.std.proofs.lemmas.Option.{slice_get-get_or}
use Rattle.std.proofs.lemmas.List.{append_assoc, take-append-drop, length-map}
use Rattle.std.proofs.lemmas.Grind.{flat_map-append}
use Rattle.type_rules.proofs.Lists.{cut}
use Rattle.sisal_tree.specs.declared.unit.Named.{Named}
use Rattle.sisal_tree.specs.declared.expr.Generator.{Generator, out-Generator}
use Rattle.typed_tree.specs.Breaks.{generators_in, index_in}
use Rattle.type_table.specs.declared.form.Form.{Form}
use Rattle.type_table.specs.Tables.{IsTable}
use Rattle.type_rules.specs.declared.fault.TypeFault.{TypeFault}
use Rattle.type_rules.specs.declared.fault.TypeFault.TheVariants as fault
use Rattle.type_rules.specs.Faults.{IsRule}
use Rattle.value_names.specs.Names.{Names}
use Rattle.typing_laws.specs.Given.{Given}
use Rattle.typing_laws.specs.Given as by
use Rattle.typing_laws.specs.Judged.{AddsSingle, IsUsedIn}
use Rattle.typing_laws.specs.Looping.{index_names, GroupsTyped, no_group, a_group}
use Rattle.breaking_laws.specs.Parts.{StandsTwice, BrokenGenerator, BrokenGroup}
use Rattle.breaking_laws.proofs.PGenerators.{one_generator_refused, group_twice}
use Rattle.sisal_check.specs.declared.generators.Group.{Group}
use Rattle.sisal_check.specs.Walked.{group_of}

-- those before a place, the one there and those behind it
pub whole_at : {A : Type 0} (xs : List A) (i : ℕ) (x : A) → i < length xs → x ≡ get_or xs i x → take i xs ++ (x ∷ drop (i + 1) xs) ≡ xs
whole_at xs i x lt is = ap (λ l. take i xs ++ l) (sym (cut xs i x x lt is)) ∙ take-append-drop i xs

pub there_at : {A : Type 0} (xs : List A) (i : ℕ) (x : A) → i < length xs → x ≡ get_or xs i x → slice_get xs i ≡ Some x
there_at xs i x lt is = slice_get-get_or xs i x lt ∙ ap (λ y. Some y) (sym is)

-- the first names of a group
pub first_names : (gs : List Generator) (i : ℕ) → (more : List Named) × (generators_in gs ≡ generators_in (take i gs) ++ more)
first_names gs i = (generators_in (drop i gs), ap generators_in (sym (take-append-drop i gs)) ∙ flat_map-append (λ g. (out-Generator g).name ∷ index_in (out-Generator g).name.line (out-Generator g).at) (take i gs) (drop i gs))

index_same : (line : ℕ) (o : Option ℕ) → index_names o line ≡ index_in line o
index_same line None = refl
index_same line (Some i) = refl

-- those behind the generator that is looked at
pub names_behind : (gs : List Generator) (i : ℕ) (g : Generator) (old new more : List Named) → i < length gs → g ≡ get_or gs i g → old ≡ generators_in (take i gs)
    → old ++ ((out-Generator g).name ∷ index_names (out-Generator g).at (out-Generator g).name.line) ≡ new ++ more → (rest : List Named) × (generators_in gs ≡ new ++ rest)
names_behind gs i g old new more lt is before e =
    let one : List Named = (out-Generator g).name ∷ index_in (out-Generator g).name.line (out-Generator g).at in
    let same : old ++ one ≡ new ++ more = ap (λ l. old ++ ((out-Generator g).name ∷ l)) (sym (index_same (out-Generator g).name.line (out-Generator g).at)) ∙ e in (
      more ++ generators_in (drop (i + 1) gs),
      ap generators_in (sym (whole_at gs i g lt is)) ∙ flat_map-append (λ g. (out-Generator g).name ∷ index_in (out-Generator g).name.line (out-Generator g).at) (take i gs) (g ∷ drop (i + 1) gs)
          ∙ ap (λ l. l ++ (one ++ generators_in (drop (i + 1) gs))) (sym before) ∙ sym (append_assoc old one (generators_in (drop (i + 1) gs))) ∙ ap (λ l. l ++ generators_in (drop (i + 1) gs)) same
          ∙ append_assoc new more (generators_in (drop (i + 1) gs)),
    )

-- a list of one
pub one_item : (xs : List ℕ) → 1 ≤ length xs → length xs < 2 → xs ≡ slice_index_or xs 0 0 ∷ []
one_item [] le lt = absurd (omega (arith, le))
one_item (x ∷ []) le lt = refl
one_item (x ∷ y ∷ xs) le lt = absurd (omega (arith, lt))

-- a generator is refused, or a name of those up to it stands twice
pub group_fails : (g : Given) (f0 f1 : List Form) (names now : Names) (gs : List Generator) (i : ℕ) (one : Generator) (old new more : List Named) (gone : Result Unit TypeFault) (rule line : ℕ) → IsUsedIn g f0 f1 → IsTable f1
    → now ≡ names → i < length gs → one ≡ get_or gs i one → old ≡ generators_in (take i gs)
    → old ++ ((out-Generator one).name ∷ index_names (out-Generator one).at (out-Generator one).name.line) ≡ new ++ more
    → IfErr gone (IsRule (λ r l. BrokenGenerator g f1 now one r l)) → (StandsTwice new rule line) ⊎ (gone ≡ Err (fault.Rule rule line)) → BrokenGroup g f0 names gs rule line
group_fails g f0 f1 names now gs i one old new more gone rule line used table same lt is before e breaks q = elim q [
  | inl twice ↦ let rest = names_behind gs i one old new more lt is before e in group_twice g f0 f1 names gs new rest.0 rule line used table rest.1 twice
  | inr err ↦
      one_generator_refused g f0 f1 names gs one rule line used (i, lt, sym is)
      (subst (λ m. BrokenGenerator g f1 m one rule line) same (subst (λ r. IfErr r (IsRule (λ r l. BrokenGenerator g f1 now one r l))) err breaks))
]

-- as many groups are typed as stand there
many_groups : (g : Given) (f : List Form) (names after : Names) (gs : List (List Generator)) (ms : List by.Group) → GroupsTyped g f names gs ms after → length ms ≡ length gs
many_groups g f _ _ _ _ no_group = refl
many_groups g f names after _ _ (a_group {names = _} {after = _} {gs = gs} {m = m} {groups = groups} {ms = ms} p r) = let e = many_groups g f _ after groups ms r in omega (arith, e)

pub groups_many : (g : Given) (f : List Form) (names : Names) (gs : List (List Generator)) (goes : List Group) (after : Names) → GroupsTyped g f names gs (map group_of goes) after → length goes ≡ length gs
groups_many g f names gs goes after p = sym (length-map goes group_of) ∙ many_groups g f names after gs (map group_of goes) p

-- where there was nothing, there is one value
pub single_of : (old new : by.Parts) → old.types ≡ [] → AddsSingle old new → length new.types ≡ 1
single_of old new none s = ap length s.types ∙ ap (λ l. length (l ++ s.type ∷ [])) none
