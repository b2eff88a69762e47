-- A value is lent for a loan and comes back, and a stake is lent in turn. Assumes `Logic`.
use Rattle.std.proofs.Common.{◌≡◌, ℕ, ◌^◌, [], ◌∷◌}
use seplogic.Ra.Ura.{Ura}
use base.Fraction.{full_share}
use base.FractionLaws.{Counts, Counts-all}
use base.Logic.{ent, sep, upd_i, id⊢, apply∗, wand}
use base.Fml.{Lft, Incl, Incl-trans, Share, Fml, ftrue, fsep, fseps, fex, fwand, fupd, fdead, fbor, flft, flent}
use contract.BorrowLft.{meet_⊑_left, meet_⊑_right}
use contract.Monad.{fact}
use ghost.Rules.{span, thinned}
use types.Logic.{Logic, sem, lfts}
use types.Kit.{‵, raw, ◌⊛◌, some as exists, later, ◌$◌, ◌∵◌, !, qed, by, move, keep, drop, use1, use2, split, split3, join, fsplit, fsplit3, fjoin, fpick, fpack, pick, assume, suffices, await, updating, now, done}
use types.Tokens.{lft_new, lft_end, bor_new, lent_back, bor_open, obor_alter, bor_fracture, one_token}
use denote.Sharing.{ShrLaws, one, held}
use denote.SharingLaws.{contraction, beside_shr_laws, one_shr_laws, held_shr_laws}
use denote.Moves.{moves_from}
use denote.Steps.{nothing}
use denote.Struct.Lending.{Lends, lent_at, lent_at_shr_laws, in_block_says}
use denote.RattleType.{RattleType}
use denote.RawPtr.{Ptr, InBlock}
use denote.Param.Laws.{Laws}
use Rattle.lease.specs.Loans.{life, tokens, stake_owns, stake_shares}
use Rattle.lease.proofs.Tokens.{counted, all_of_it}

module _ (R : RattleType) (L : Laws R) (p : Ptr) (x : R.Denot) where
  -- the value as it is shared
  abbrev pub shared : Lft → Fml
  shared = lent_at R p x

  pub shared_laws : ShrLaws shared
  shared_laws = lent_at_shr_laws R L.shr_laws p x

  pub stake_shr_laws : (a : ℕ) → ShrLaws (stake_shares R p x a)
  stake_shr_laws a =
      beside_shr_laws (one (λ q. flft (life a) q)) (held (life a) shared) (one_shr_laws (λ q. flft (life a) q)) (held_shr_laws (life a) shared shared_laws)

  module _ {M : Type 1} {𝓤 : Ura M} (𝓛 : Logic 𝓤) where
    open 𝓛 use {H, A}

    -- a loan of P: the right to have P back once it has ended, and every stake
    abbrev pub Begun : Fml → ℕ → Fml
    Begun P a = fsep (flent (life a) P) (stake_owns R p x a (2 ^ 101))

    -- what is lent as `shared` may go on loan
    pub begins : (P : Fml) (l μ : Lft) (q : Share) → Lends 𝓛 P shared l → Incl μ l
        → ent 𝓤 (sep 𝓤 (sem 𝓛 P) (A.lft μ q)) (H.⇛ (sep 𝓤 (sem 𝓛 (fex ℕ (Begun P))) (A.lft μ q)))
    begins P l μ q lends within = qed 𝓛 (‵ P ∷ ‵ (flft μ q) ∷ []) ∵ updating ! $ lft_new ! tt (λ a. move ! (1 ∷ []) $ bor_new ! tt (life a) $
        move ! (2 ∷ 3 ∷ []) $ join ! $ move ! (1 ∷ 0 ∷ []) $
        use2 𝓛 (later (‵ (shared (life a)) ⊛ ‵ (flft (life a) full_share) ⊛ ‵ (flft μ q)))
        (lends (life a) ((life a, full_share) ∷ (μ, q) ∷ []) (Incl-trans (meet_⊑_right (life a) μ) within) (meet_⊑_left (life a) μ)) $
        await ! tt $ split3 ! $
        -- [the shared value; the token; the caller's token; the right to have P back]
        move ! (1 ∷ []) $ use1 𝓛 (‵ (tokens a (2 ^ 101))) (counted 𝓛 a (2 ^ 101) full_share (Counts-all 101)) $ fjoin ! $
        move ! (2 ∷ 0 ∷ []) $ fjoin ! $ fpack ! ℕ (Begun P) a $ now ! $ done !)

    -- every token ends the loan
    pub ends : (P : Fml) (a : ℕ) → ent 𝓤 (sep 𝓤 (sem 𝓛 (flent (life a) P)) (sem 𝓛 (tokens a (2 ^ 101)))) (H.⇛ (sem 𝓛 P))
    ends P a = qed 𝓛 (‵ (flent (life a) P) ∷ ‵ (tokens a (2 ^ 101)) ∷ []) ∵ updating ! $ move ! (1 ∷ []) $
        use1 𝓛 (‵ (flft (life a) full_share)) (all_of_it 𝓛 a) $ lft_end ! tt $ lent_back ! tt $ now ! $ done !

    -- whoever may use the stake for the lifetime κ sees the value for κ
    pub sees : (a : ℕ) (κ : Lft) → ent 𝓤 (sem 𝓛 (stake_shares R p x a κ)) (sem 𝓛 (shared κ))
    sees a κ = qed 𝓛 (‵ (stake_shares R p x a κ) ∷ []) ∵ fsplit ! $
        by ! (moves_from 𝓛 shared shared_laws κ (life a) (life a) (meet_⊑_left (life a) κ))

    -- a stake's pointer points into a block
    pub points : (a n : ℕ) → ent 𝓤 (sem 𝓛 (stake_owns R p x a n)) (fact 𝓤 (InBlock p))
    points a n = qed 𝓛 (‵ (stake_owns R p x a n) ∷ []) ∵ fsplit ! $ drop ! $ fsplit ! $ keep ! (0 ∷ []) $ by ! (in_block_says 𝓛 p)

    module _ (a n : ℕ) (κ : Lft) where
      -- the stake is whole again from its share of the token, once κ is over
      whole_again : (e : Share) → Counts 101 e n
          → ent 𝓤 (sem 𝓛 (shared (life a))) (sem 𝓛 (fwand (fsep (fdead κ) (fseps (flft (life a) e ∷ []))) (fupd (stake_owns R p x a n))))
      unfolding fseps
      whole_again e is = qed 𝓛 (‵ (shared (life a)) ∷ []) ∵ assume ! (‵ (fsep (fdead κ) (fsep (flft (life a) e) ftrue))) $
          suffices ! (sem 𝓛 (stake_owns R p x a n)) (upd_i 𝓤 (sem 𝓛 (stake_owns R p x a n))) $
          fsplit3 ! $ move ! (1 ∷ []) $ use1 𝓛 (‵ (tokens a n)) (counted 𝓛 a n e is) $ keep ! (0 ∷ 3 ∷ []) $ fjoin ! $ done !

      -- a borrow of a stake becomes a share of it
      borrowed : (q : Share) → ent 𝓤 (sep 𝓤 (A.bor κ (stake_owns R p x a n)) (A.lft κ q)) (H.⇛ (sep 𝓤 (sem 𝓛 (stake_shares R p x a κ)) (A.lft κ q)))
      unfolding fseps
      borrowed q = qed 𝓛 (‵ (fbor κ (stake_owns R p x a n)) ∷ ‵ (flft κ q) ∷ []) ∵ updating ! $ bor_open ! tt $ move ! (1 ∷ []) $ fsplit ! $
          fpick ! (λ e. fpick ! (λ is. move ! (1 ∷ []) $
          use1 𝓛 (‵ (shared (life a)) ⊛ ‵ (shared (life a))) (contraction 𝓛 shared shared_laws (life a)) $ split ! $
          use1 𝓛 (‵ (fwand (fsep (fdead κ) (fseps (flft (life a) e ∷ []))) (fupd (stake_owns R p x a n)))) (whole_again e is) $
          nothing ! $ move ! (3 ∷ 0 ∷ []) $ fjoin ! $ move ! (3 ∷ 0 ∷ 1 ∷ []) $ obor_alter ! tt (flft (life a) e ∷ []) $
          use1 𝓛 (‵ (fbor κ (flft (life a) e)) ⊛ ‵ ftrue) (id⊢ 𝓤 _) $ split ! $ bor_fracture ! tt (λ r. flft (life a) r) e $
          move ! (0 ∷ 3 ∷ []) $ fjoin ! $ now ! $ keep ! (0 ∷ 2 ∷ []) $ done !))

    pub stake_lends : (a n : ℕ) (l : Lft) → Lends 𝓛 (stake_owns R p x a n) (stake_shares R p x a) l
    stake_lends a n l κ ts within spans =
        qed 𝓛 (‵ (fbor κ (stake_owns R p x a n)) ∷ raw (lfts 𝓛 ts) ∷ []) ∵ updating ! $ move ! (1 ∷ []) $
        use1 𝓛 (exists (λ (q : Share). ‵ (flft (span ts) q) ⊛ raw (wand 𝓤 (A.lft (span ts) q) (lfts 𝓛 ts)))) (one_token 𝓛 ts) $ pick ! (λ q. split ! $
        use1 𝓛 (‵ (flft κ (thinned κ q)) ⊛ raw (wand 𝓤 (A.lft κ (thinned κ q)) (A.lft (span ts) q))) (𝓛.lfts.lft-incl (span ts) κ q spans) $ split ! $
        move ! (3 ∷ 0 ∷ []) $ use2 𝓛 (later (‵ (stake_shares R p x a κ) ⊛ ‵ (flft κ (thinned κ q)))) (borrowed a n κ (thinned κ q)) $ await ! tt $ split ! $
        move ! (1 ∷ 2 ∷ []) $ use2 𝓛 (‵ (flft (span ts) q)) (apply∗ 𝓤 (A.lft κ (thinned κ q)) (A.lft (span ts) q)) $
        move ! (0 ∷ 2 ∷ []) $ use2 𝓛 (raw (lfts 𝓛 ts)) (apply∗ 𝓤 (A.lft (span ts) q) (lfts 𝓛 ts)) $ now ! $ move ! (1 ∷ 0 ∷ []) $ done !)
