-- Types by number, and the types that numbers stand for.
use Rattle.std.specs.Prelude.{◌≡◌, ℕ, zero, suc, List, [], ◌∷◌}
use Rattle.flow_value.specs.declared.ty.Ty.{Ty}
use Rattle.flow_value.specs.declared.ty.Ty.TheOpen.{Ty-F}
use Rattle.flow_value.specs.declared.ty.Ty.TheViews.{out-Ty}
use Rattle.value_text.specs.declared.type_form.TypeForm.{TypeForm}
use Rattle.value_text.specs.declared.type_form.TypeForm.TheVariants as form

-- what the type of each number is, and the types of the members of a record or union in order
pub record Numbered : Type 0 where
  pub form : ℕ → TypeForm
  pub members : ℕ → List ℕ

-- the numbers are like the types of these fields or tags, whatever their names are
abbrev pub AreLike : (ℕ → Ty → Type 0) → List ℕ → List (List ℕ × Ty) → Type 0
AreLike like [] [] = Unit {0}
AreLike like [] (f ∷ fs) = ⊥
AreLike like (n ∷ ns) [] = ⊥
AreLike like (n ∷ ns) (f ∷ fs) = like n f.1 × AreLike like ns fs

-- the number has this form, and its parts are like those of the form
abbrev pub HasForm : Numbered → (ℕ → Ty → Type 0) → ℕ → Ty-F Ty → Type 0
HasForm ts like n Ty-F.Int = ts.form n ≡ form.Integer
HasForm ts like n Ty-F.Bool = ts.form n ≡ form.Boolean
HasForm ts like n Ty-F.Char = ts.form n ≡ form.Character
HasForm ts like n Ty-F.Null = ts.form n ≡ form.Null
HasForm ts like n (Ty-F.Arr e) = (m : ℕ) × (ts.form n ≡ form.Array m) × like m e
HasForm ts like n (Ty-F.Stream e) = (m : ℕ) × (ts.form n ≡ form.Stream m) × like m e
HasForm ts like n (Ty-F.Rec fs) = (ts.form n ≡ form.Record) × AreLike like (ts.members n) fs
HasForm ts like n (Ty-F.Uni fs) = (ts.form n ≡ form.Union) × AreLike like (ts.members n) fs

-- the number is like the type on so many levels
abbrev pub IsLike : Numbered → ℕ → ℕ → Ty → Type 0
IsLike ts zero n ty = Unit {0}
IsLike ts (suc levels) n ty = HasForm ts (IsLike ts levels) n (out-Ty ty)

-- The number stands for the type, whatever the names of fields and tags are: it is like it on all levels.
abbrev pub StandsFor : Numbered → ℕ → Ty → Type 0
StandsFor ts n ty = (levels : ℕ) → IsLike ts levels n ty

-- so do numbers for types
abbrev pub StandForAll : Numbered → List ℕ → List Ty → Type 0
StandForAll ts [] [] = Unit {0}
StandForAll ts [] (t ∷ tys) = ⊥
StandForAll ts (n ∷ ns) [] = ⊥
StandForAll ts (n ∷ ns) (t ∷ tys) = StandsFor ts n t × StandForAll ts ns tys
