-- What is fair of a unit's types and functions, so that each of its expressions has one list of types (SISAL Language Reference
-- Manual 1.2, types and scope): a written type is one type, and a name is one function.
use Rattle.std.specs.Prelude.{◌≡◌, ℕ, List, [], ◌∷◌, All}
use Rattle.flow_value.specs.declared.ty.Ty.{Ty}
use Rattle.flow_value.specs.declared.ty.Ty.TheVariants as ty
use Rattle.sisal_tree.specs.declared.unit.Written.{Written}
use Rattle.typed_tree.specs.declared.built_in.BuiltIn.{BuiltIn}
use Rattle.typed_tree.specs.Types.{Member, IsMember}
use Rattle.typed_tree.specs.Typing.{Signature, Known, IsFunction, IsSpelled, IsBuiltIn, IsTypeNamed}

-- no field or tag stands twice
pub record AreOnce (ms : List Member) : Type 0 where
  pub place : (i j : ℕ) (name : List ℕ) (a b : Ty) → IsMember ms name i a → IsMember ms name j b → i ≡ j

mutual
  -- no field or tag stands twice in the type, and in none of its parts
  pub data IsProper : Ty → Type 0 where
    integer : IsProper ty.Int
    boolean : IsProper ty.Bool
    character : IsProper ty.Char
    null : IsProper ty.Null
    array : (a : Ty) → IsProper a → IsProper (ty.Arr a)
    stream : (a : Ty) → IsProper a → IsProper (ty.Stream a)
    a_record : (ms : List Member) → AreOnce ms → AreProper ms → IsProper (ty.Rec ms)
    -- a union has a tag
    a_union : (ms : List Member) → (ms ≡ [] → ⊥) → AreOnce ms → AreProper ms → IsProper (ty.Uni ms)

  pub data AreProper : List Member → Type 0 where
    no_member : AreProper []
    a_member : {name : List ℕ} {a : Ty} {ms : List Member} → IsProper a → AreProper ms → AreProper ((name, a) ∷ ms)

-- At a place where this is known. Nothing is said of the table of types.
pub record IsFair (k : Known) (denotes : Written → Ty → Type 0) (misnames : Written → ℕ → ℕ → Type 0) : Type 0 where
  -- a written type denotes one type, and none where it breaks a rule
  pub one : (w : Written) (a b : Ty) → denotes w a → denotes w b → a ≡ b
  pub none : (w : Written) (rule line : ℕ) (a : Ty) → misnames w rule line → denotes w a → ⊥
  pub proper : (w : Written) (a : Ty) → denotes w a → IsProper a
  pub types : (x : ℕ) (a : Ty) → IsTypeNamed k x a → IsProper a
  -- a name is that of one function, and of none where a call of it is built in
  pub functions : (x n m : ℕ) (f g : Signature) → IsFunction k x n f → IsFunction k x m g → f ≡ g
  pub results : (x n : ℕ) (f : Signature) → IsFunction k x n f → All IsProper f.results
  pub own : (x n : ℕ) (f : Signature) (b : BuiltIn) → IsFunction k x n f → IsBuiltIn k x b → ⊥
  -- each name is spelled in its own way
  pub spelled : (x y : ℕ) (spelling : List ℕ) → IsSpelled k x spelling → IsSpelled k y spelling → x ≡ y
