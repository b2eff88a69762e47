-- The depth of each type by those of its parts.
use Rattle.std.proofs.Common.{ℕ, ◌≡◌, suc, List, map, ap, sym, ◌∙◌}
use Rattle.loop_folds.specs.Ty.{Ty}
use Rattle.loop_folds.specs.Ty.TheOpen.{Ty-F}
use Rattle.loop_folds.specs.Ty.TheFolds.{fold-roll-Ty}
use Rattle.loop_folds.specs.Ty.TheVariants as ty
use Rattle.typed_tree.specs.Types.{Member, deepest, depth_step, depth_of}

pub depth_array : (a : Ty) → depth_of (ty.Arr a) ≡ suc (depth_of a)
depth_array a = ap depth_of (sym (ty.rolls-Arr a)) ∙ fold-roll-Ty ℕ depth_step (Ty-F.Arr a)

pub depth_stream : (a : Ty) → depth_of (ty.Stream a) ≡ suc (depth_of a)
depth_stream a = ap depth_of (sym (ty.rolls-Stream a)) ∙ fold-roll-Ty ℕ depth_step (Ty-F.Stream a)

pub depth_record : (ms : List Member) → depth_of (ty.Rec ms) ≡ suc (deepest (map (λ m. (m.0, depth_of m.1)) ms))
depth_record ms = ap depth_of (sym (ty.rolls-Rec ms)) ∙ fold-roll-Ty ℕ depth_step (Ty-F.Rec ms)

pub depth_union : (ms : List Member) → depth_of (ty.Uni ms) ≡ suc (deepest (map (λ m. (m.0, depth_of m.1)) ms))
depth_union ms = ap depth_of (sym (ty.rolls-Uni ms)) ∙ fold-roll-Ty ℕ depth_step (Ty-F.Uni ms)

pub depth_basic : (depth_of ty.Int ≡ 1) × (depth_of ty.Bool ≡ 1) × (depth_of ty.Char ≡ 1) × (depth_of ty.Null ≡ 1)
depth_basic = (
  ap depth_of (sym ty.rolls-Int) ∙ fold-roll-Ty ℕ depth_step Ty-F.Int,
  ap depth_of (sym ty.rolls-Bool) ∙ fold-roll-Ty ℕ depth_step Ty-F.Bool,
  ap depth_of (sym ty.rolls-Char) ∙ fold-roll-Ty ℕ depth_step Ty-F.Char,
  ap depth_of (sym ty.rolls-Null) ∙ fold-roll-Ty ℕ depth_step Ty-F.Null,
)
