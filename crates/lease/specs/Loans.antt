-- What a stake and a title own. A loan is a lifetime of its own; its number is the loan's identity.
use Rattle.std.specs.Prelude.{ℕ, [], ◌∷◌}
use mir.Syntax.{Ty}
use mir.Raw.{raw}
use base.Fraction.{full_share}
use base.FractionLaws.{Counts}
use base.Fml.{Lft, Share, Fml, ftrue, fsep, fex, flft, flent}
use denote.RattleType.{RattleType}
use denote.Memory.{lone}
use denote.RawPtr.{Ptr, InBlock, lies_at}
use denote.Sharing.{beside, one, held}
use denote.Struct.Lending.{lent_at}

-- the lifetime of the loan a
abbrev pub life : ℕ → Lft
life a = a ∷ []

-- n of the 2 ^ 101 equal shares of the token that says that the loan a lasts
abbrev pub tokens : ℕ → ℕ → Fml
tokens a n = fex Share (λ q. fex (Counts 101 q n) (λ _. flft (life a) q))

-- n stakes of the loan a: their tokens, and the value x at p, shared while the loan lasts
abbrev pub stake_owns : (R : RattleType) → Ptr → R.Denot → ℕ → ℕ → Fml
stake_owns R p x a n = fsep (tokens a n) (lent_at R p x (life a))

-- what a `&` to a stake shows: that the loan lasts, and the shared value
abbrev pub stake_shares : (R : RattleType) → Ptr → R.Denot → ℕ → Lft → Fml
stake_shares R p x a = beside (one (λ q. flft (life a) q)) (held (life a) (lent_at R p x))

-- the title to the value x at p: the value once the loan a has ended, and the right to free its block
abbrev pub title_owns : (Ty → Ptr → Fml) → (R : RattleType) → Ptr → R.Denot → ℕ → Fml
title_owns frees R p x a =
    fsep (fex (InBlock p) (λ _. ftrue)) (fsep (flent (life a) (lies_at R full_share p x)) (frees (raw (lone R.mir)) p))
