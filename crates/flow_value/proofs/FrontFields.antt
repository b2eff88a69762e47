-- The one data field of a block. Assumes `Logic`.
use Rattle.std.proofs.Common.{◌≡◌, List, [], ◌∷◌, ◌++◌, refl, ap, ◌∙◌}
use seplogic.Ra.Ura.{Ura}
use mir.Val.{Val, vstruct, of_list}
use base.Logic.{ent, emp}
use types.Logic.{Logic, sem}
use denote.RattleType.{RattleType}
use denote.Laws.{Is}
use denote.Opens.{Opens}
use denote.Copied.{Struct-Copied}
use denote.RawPtr.{Ptr, ptr_val}
use denote.Shadow.{makes_shadow}
use denote.Struct.Laws.{RawPtr-copy}
use denote.Struct.Struct.{Struct}
use denote.Struct.Owning.{shape}
use Rattle.segment.proofs.Fields.{stored}
use Rattle.flow_value.specs.contracts.block.Block as block

module _ (R : RattleType) where
  abbrev pub Pointer : RattleType
  Pointer = Struct (shape (block.the_type R))

  pub stored_as : (p : Ptr) (vs : List Val) → Is Pointer (p, tt) vs → vs ≡ stored p ∷ []
  stored_as p vs is = is.1.0 ∙ ap (λ (ws : List Val). vstruct (of_list (ws ++ [])) ∷ []) is.1.1.0

  module _ {M : Type 1} {𝓤 : Ura M} (𝓛 : Logic 𝓤) where
    pub pointer_made : (p : Ptr) → ent 𝓤 (emp 𝓤) (sem 𝓛 (Pointer.own_val (p, tt) (stored p ∷ [])))
    pointer_made p = makes_shadow 𝓛 (Pointer.own_val (p, tt) (stored p ∷ [])) (λ vss. (tt, (tt, tt))) ((ptr_val p ∷ [], tt), (refl, (refl, tt)))

    pub pointer_opens : Opens 𝓛 Pointer
    pointer_opens = (Struct-Copied 𝓛 (shape (block.the_type R)) (refl, tt) (RawPtr-copy.copied M 𝓤 𝓛, tt)).opens
