-- The token of a loan's lifetime in its 2 ^ 101 shares. Assumes `Logic`.
use Rattle.std.proofs.Common.{◌≡◌, ℕ, ◌+◌, ◌-◌, ◌^◌, ◌<◌, ◌≤◌, [], ◌∷◌, refl, arith}
use mathlib.Core.Logic.{dite}
use native.Mathlib.Decide.{ℕ_discrete}
use seplogic.Ra.Ura.{Ura}
use base.Fraction.{full_share}
use base.FractionLaws.{Counts, counts_some, Counts-op, Counts-all}
use base.Logic.{ent, sep, guard, guard_i, via, never, never_e}
use base.Fml.{Share, fex, flft}
use types.Logic.{Logic, sem}
use types.Kit.{‵, ◌⊛◌, given, later, ◌$◌, ◌∵◌, !, qed, by, move, use1, use2, split, fpick, fpack, rewrite, updating, done}
use types.Tokens.{lft_end}
use Rattle.lease.specs.Loans.{life, tokens}

module _ {M : Type 1} {𝓤 : Ura M} (𝓛 : Logic 𝓤) (a : ℕ) where
  open 𝓛 use {A, H}

  -- a share of the token is as many tokens as it counts
  pub counted : (n : ℕ) (q : Share) → Counts 101 q n → ent 𝓤 (A.lft (life a) q) (sem 𝓛 (tokens a n))
  counted n q is = qed 𝓛 (‵ (flft (life a) q) ∷ []) ∵
      fpack ! (Counts 101 q n) (λ _. flft (life a) q) is $
      fpack ! Share (λ r. fex (Counts 101 r n) (λ _. flft (life a) r)) q $ done !

  -- tokens and one more are any share that counts as many
  summed : (n : ℕ) (r : Share) → Counts 101 r (n + 1)
      → ent 𝓤 (sep 𝓤 (sem 𝓛 (tokens a n)) (sem 𝓛 (tokens a 1))) (A.lft (life a) r)
  summed n r is = qed 𝓛 (‵ (tokens a n) ∷ ‵ (tokens a 1) ∷ []) ∵
      fpick ! (λ q. fpick ! (λ many. move ! (1 ∷ []) $ fpick ! (λ s. fpick ! (λ single. move ! (1 ∷ []) $
      by ! (𝓛.lfts.lft_glue (life a) r q s (Counts-op 101 q s r n 1 (n + 1) many single is refl))))))

  -- one token is cut off
  pub one_off : (n : ℕ) → 1 < n → n ≤ 2 ^ 101
      → ent 𝓤 (sem 𝓛 (tokens a n)) (sep 𝓤 (sem 𝓛 (tokens a 1)) (sem 𝓛 (tokens a (n - 1))))
  one_off n several fits =
      let q = counts_some 101 1 (omega arith) (omega arith) in
      let r = counts_some 101 (n - 1) (omega arith) (omega arith) in
      qed 𝓛 (‵ (tokens a n) ∷ []) ∵ fpick ! (λ s. fpick ! (λ is.
      use1 𝓛 (‵ (flft (life a) q.0) ⊛ ‵ (flft (life a) r.0))
      (𝓛.lfts.lft_cut (life a) s q.0 r.0 (Counts-op 101 q.0 r.0 s 1 (n - 1) n q.1 r.1 is (omega arith))) $ split ! $
      move ! (1 ∷ []) $ use1 𝓛 (‵ (tokens a (n - 1))) (counted (n - 1) r.0 r.1) $
      move ! (1 ∷ []) $ use1 𝓛 (‵ (tokens a 1)) (counted 1 q.0 q.1) $ done !))

  -- all the tokens are the whole token
  pub all_of_it : ent 𝓤 (sem 𝓛 (tokens a (2 ^ 101))) (A.lft (life a) full_share)
  all_of_it = qed 𝓛 (‵ (tokens a (2 ^ 101)) ∷ []) ∵
      use1 𝓛 (‵ (tokens a 1) ⊛ ‵ (tokens a (2 ^ 101 - 1))) (one_off (2 ^ 101) (omega arith) (omega arith)) $ split ! $
      move ! (1 ∷ 0 ∷ []) $ by ! (summed (2 ^ 101 - 1) full_share (Counts-all 101))

  -- a token beside others shows that the others are not all, for all of them would end the lifetime
  not_all : (n : ℕ) → n ≡ 2 ^ 101
      → ent 𝓤 (sep 𝓤 (sem 𝓛 (tokens a n)) (sem 𝓛 (tokens a 1))) (H.⇛ (guard 𝓤 (n < 2 ^ 101) (sem 𝓛 (tokens a (n + 1)))))
  not_all n is = qed 𝓛 (‵ (tokens a n) ∷ ‵ (tokens a 1) ∷ []) ∵ updating ! $
      rewrite ! 0 (λ (m : ℕ). ‵ (tokens a m)) is refl $ use1 𝓛 (‵ (flft (life a) full_share)) all_of_it $ lft_end ! tt $
      move ! (1 ∷ []) $ fpick ! (λ q. fpick ! (λ _. by ! (via 𝓤 (never 𝓤) (𝓛.lfts.lft-dead (life a) q) (never_e 𝓤 _))))

  -- one token is put back
  pub one_on : (n : ℕ) → 0 < n → n ≤ 2 ^ 101
      → ent 𝓤 (sep 𝓤 (sem 𝓛 (tokens a n)) (sem 𝓛 (tokens a 1))) (H.⇛ (guard 𝓤 (n < 2 ^ 101) (sem 𝓛 (tokens a (n + 1)))))
  one_on n some fits =
      let More = sem 𝓛 (tokens a (n + 1)) in
      dite (ℕ_discrete n (2 ^ 101)) (not_all n) (λ less.
      let r = counts_some 101 (n + 1) (omega arith) (omega arith) in
      let glued = via 𝓤 (A.lft (life a) r.0) (summed n r.0 r.1) (counted (n + 1) r.0 r.1) in
      via 𝓤 (guard 𝓤 (n < 2 ^ 101) More) (via 𝓤 More glued (guard_i 𝓤 (n < 2 ^ 101) More (omega arith))) (𝓛.laws.⇛_intro _))
