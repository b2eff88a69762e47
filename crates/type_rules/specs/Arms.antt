-- Which arm each tag of a union has in a `tagcase` (SISAL Language Reference Manual 1.2, unions). The arms of tags are a list of
-- the tags that have one, by their places in the union, each with the place of its arm, in the order of the text.
use Rattle.std.specs.Prelude.{◌≡◌, ◌++◌, ℕ, Bool, true, false, not, List, [], ◌∷◌, map, Option, Some, None, Result, Ok, Err, nat_eq, if◌then◌else◌}
use Rattle.sisal_tree.specs.declared.unit.Named.{Named}
use Rattle.type_table.specs.declared.form.Form.{Form}
use Rattle.type_table.specs.declared.form.Member.{Member}
use Rattle.typed_tree.specs.declared.expr.Choice.{Choice}
use Rattle.type_rules.specs.declared.arms.Choices.{Choices}
use Rattle.type_rules.specs.declared.fault.TypeFault.{TypeFault}
use Rattle.type_rules.specs.declared.fault.TypeFault.TheVariants as fault
use Rattle.type_rules.specs.Parts.{tag_at, tags_at}

-- a tag has no arm
abbrev pub is_free : List (ℕ × ℕ) → ℕ → Bool
is_free [] tag = true
is_free (c ∷ cs) tag = if nat_eq tag c.0 then false else is_free cs tag

-- the first tag of a name has an arm
abbrev pub has_arm : List (ℕ × ℕ) → Option (ℕ × ℕ) → Bool
has_arm arms None = false
has_arm arms (Some m) = not (is_free arms m.0)

-- these tags of a union have arms
abbrev pub have_arms : List Form → ℕ → List (ℕ × ℕ) → List Member → Bool
have_arms forms union arms [] = true
have_arms forms union arms (m ∷ ms) = if has_arm arms (tag_at forms union m.name) then have_arms forms union arms ms else false

abbrev pub have_arms_if : List Form → ℕ → List (ℕ × ℕ) → Option (List Member) → Bool
have_arms_if forms union arms None = true
have_arms_if forms union arms (Some ms) = have_arms forms union arms ms

-- each tag of a union has an arm
abbrev pub are_all_named : List Form → ℕ → List (ℕ × ℕ) → Bool
are_all_named forms union arms = have_arms_if forms union arms (tags_at forms union)

-- as they stand in the typed tree
abbrev pub choice_of : ℕ × ℕ → Choice
choice_of c = record { tag = c.0; arm = c.1 }

abbrev pub choices_of : List (ℕ × ℕ) → List Choice
choices_of arms = map choice_of arms

-- the type of a tag's content, and the arms once the tag has this one
abbrev pub chosen_at : List (ℕ × ℕ) → ℕ → Option (ℕ × ℕ) → Option (ℕ × List (ℕ × ℕ))
chosen_at arms arm None = None
chosen_at arms arm (Some m) = if is_free arms m.0 then Some (m.1, arms ++ ((m.0, arm) ∷ [])) else None

abbrev pub chosen : List Form → ℕ → List (ℕ × ℕ) → ℕ → ℕ → Option (ℕ × List (ℕ × ℕ))
chosen forms union arms arm tag = chosen_at arms arm (tag_at forms union tag)

-- a content is of the type of those before it
abbrev pub agrees : Option ℕ → ℕ → Bool
agrees None a = true
agrees (Some b) a = nat_eq b a

-- The tags of an arm, one after another: the type of their contents, if there is a tag, and the arms of all tags; or the line of
-- what is wrong first. That is the tag's where the union has no such tag or an arm has it, and the arm's where contents differ.
abbrev pub gives_arm : List Form → ℕ → ℕ → ℕ → Option ℕ → List (ℕ × ℕ) → List Named → Result (Option ℕ × List (ℕ × ℕ)) ℕ
gives_arm forms union arm line content arms [] = Ok (content, arms)
gives_arm forms union arm line content arms (t ∷ ts) = elim (chosen forms union arms arm t.name) [
  | None ↦ Err t.line
  | Some c ↦ if agrees content c.0 then gives_arm forms union arm line (Some c.0) c.1 ts else Err line
]

-- what is wrong is told as rule 18
abbrev pub IsFaultOf : TypeFault → Result (Option ℕ × List (ℕ × ℕ)) ℕ → Type 0
IsFaultOf fault.NoMemory r = Unit {0}
IsFaultOf (fault.Rule rule line) r = (rule ≡ 18) × (r ≡ Err line)

abbrev pub IsArm : List Form → Choices → ℕ → ℕ → List Named → ℕ → List (ℕ × ℕ) → Type 0
IsArm forms c arm line tags content after = gives_arm forms c.union arm line None c.arms.entries tags ≡ Ok (Some content, after)

abbrev pub IsNoArm : List Form → Choices → ℕ → ℕ → List Named → TypeFault → Type 0
IsNoArm forms c arm line tags e = IsFaultOf e (gives_arm forms c.union arm line None c.arms.entries tags)
