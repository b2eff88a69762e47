-- `merge_one` puts a token back, which shows that it was out.
use Rattle.lease.proofs.Words.{◌≡◌, ℕ, ◌+◌, ◌^◌, ◌<◌, ◌≤◌, List, [], ◌∷◌, refl, a_type, named, Val, vunit, vptr, inst_fn, SProp, emp, guard_i, Lft, Fml, ftrue, fsep, flft, sem, ‵, raw, ◌⊛◌, given, later, ◌$◌, ◌∵◌, !, qed, by, move, keep, drop, split, join, fsplit, fsplit3, fjoin, fjoin3, learn, use0, use1, use2, await, rewrite, feq_i, unit_lit, of_opd, returns, enter, alloc_all, pass_all, free_all, look_at, sets, tables, fact, fact_i, fact_use, no, RattleType, owns, types_at, plain, Ptr, InBlock, nothing, heard, opens, closes, param, layouts, param_laws, mut_vals, mut_Tells, Stays, stay_dropped, stay_ref, walk_of, Goes-dropped, Goes-ref, proved, leaves, strip_good}
use Rattle.lease.specs.Loans.{tokens, stake_owns}
use Rattle.lease.proofs.Tokens.{one_on}
use Rattle.lease.proofs.Fields.{stored, stored_as}
use Rattle.lease.proofs.Steps.{points}
use Rattle.lease.specs.contracts.loan.Stake as stake
use Rattle.lease.specs.contracts.loan.Stake.merge_one.{ended, clauses}
use Rattle.lease.specs.contracts.loan.Stake.merge_one.Key.{name as #self}
use Rattle.lease.proofs.loan.Stake.merge_one.Statement.{statement}
use Rattle.lease.proofs.loan.Stake.merge_one.Code as code

pub merge_one_spec : {M : Type 1} → statement M
merge_one_spec 𝓤 𝓛 𝓜 𝓡 wired X L =
    let 𝓣 = tables 𝓤 𝓛.H 𝓜 𝓡 𝓡.env in
    let R : RattleType = param 0 X in
    let LR = param_laws 0 X L in
    let Row : RattleType = stake.the_row R in
    let En = ended X in
    let inst = layouts (a_type ∷ []) (X, tt) in
    let fn = inst_fn inst code.function in
    let c = clauses X 𝓛 𝓜.mem 𝓡.returns in
    let plainly = plain (λ _. Row) in
    let hs : Stays En.signature.params En.kept = (stay_ref (0 ∷ []) tt plainly, (stay_dropped plainly no, tt)) in
    proved 𝓛 En hs c 𝓜 𝓡 (Goes-ref 𝓛 2 0 tt plainly, (Goes-dropped 𝓛 2 plainly no (λ κs x f. refl), tt)) (#self inst) fn (code.unfolded 𝓤 𝓛.H 𝓜 𝓡 wired (X, tt))
    (λ κs. (mut_vals, ((λ s. stored s.at ∷ []), tt))) (λ κs. (mut_Tells (named 0) κs.0 Row, ((λ s vs so. stored_as R s.at vs so.0), tt))) (λ κs qs bounds a gh are.
    let b : ℕ = a.0.ref_ptr.0 in
    let o : ℕ = a.0.ref_ptr.1 in
    let κ : Lft = κs.0 in
    let s : Row.Denot = a.0.now in
    let n : ℕ = s.stakes in
    let one : Row.Denot = a.1.0 in
    let grown : Row.Denot = record s { stakes = n + 1 } in
    let Asked : Type 0 = (one.loan ≡ s.loan) × (one.stakes ≡ 1) × (0 < n) × (n ≤ 2 ^ 101) in
    let Told : Type 0 = (n < 2 ^ 101) × (grown ≡ grown) in
    let Single : Fml = stake_owns R one.at one.value one.loan one.stakes in
    let More : Fml = tokens s.loan (n + 1) in
    let others : Fml = fsep (flft κs.1.0 qs.1.0) ftrue in
    let y : (walk_of 𝓛 En hs c).Ghost = ((κs, qs, bounds, a, (vptr b o ∷ [], (stored one.at ∷ [], tt))), gh) in
    let Post : Val → SProp 𝓤 = (walk_of 𝓛 En hs c).post y in
    qed 𝓛 (((‵ (flft κ qs.0) ⊛ ‵ others) ⊛ ‵ (owns (types_at En.signature.params κs) a y.0.4)) ∷ raw (fact 𝓤 _) ∷ raw (fact 𝓤 Asked) ∷ []) ∵
    keep ! (2 ∷ 0 ∷ []) $ heard ! Asked (λ asked. split ! $ split ! $ move ! (2 ∷ []) $ fsplit3 ! $ move ! (1 ∷ []) $ fsplit ! $ drop ! $
    use1 𝓛 (given (InBlock one.at) (‵ Single)) (fact_use 𝓤 _ (points R LR one.at one.value 𝓛 one.loan one.stakes) (guard_i 𝓤 (InBlock one.at) (sem 𝓛 Single))) $ learn ! (λ inside.
    fsplit ! $ rewrite ! 0 (λ (m : ℕ × ℕ). ‵ (tokens m.0 m.1)) (λ i. (asked.0 i, asked.1 i)) refl $
    -- [the token; the value as the one stake shares it; self; the tokens of the call]
    move ! (2 ∷ []) $ fsplit3 ! $ keep ! (1 ∷ 2 ∷ 6 ∷ 7 ∷ 3 ∷ []) $
    enter ! 𝓣.C 𝓣.Λ fn (vptr b o ∷ stored one.at ∷ []) Post $ alloc_all ! (λ l. pass_all ! refl ((tt, tt), (strip_good one.at inside, tt)) $
    opens ! tt Row b o (λ vs. move ! (1 ∷ []) $ fsplit ! $ move ! (1 ∷ []) $ fsplit ! $ move ! (0 ∷ 8 ∷ []) $
    use2 𝓛 (later (given (n < 2 ^ 101) (‵ More))) (one_on 𝓛 s.loan n asked.2 asked.3) $ await ! tt $ learn ! (λ was_out. fjoin ! $
    move ! (1 ∷ 0 ∷ []) $ fjoin ! $ move ! (1 ∷ 0 ∷ []) $ closes ! tt Row grown vs b o $ feq_i ! (List Val) (vptr b o ∷ []) (vptr b o ∷ []) refl $ fjoin3 ! $
    nothing ! $ nothing ! $ fjoin ! $ move ! (1 ∷ 0 ∷ []) $ fjoin ! $ move ! (1 ∷ 2 ∷ []) $ join ! $
    sets ! (of_opd ! (unit_lit !)) refl (tt, tt) $
    use0 𝓛 (raw (fact 𝓤 Told)) (fact_i 𝓤 Told (emp 𝓤) (was_out, refl)) $ feq_i ! (List Val) (vunit ∷ []) (vunit ∷ []) refl $
    returns ! (look_at ! 0 refl) $ free_all ! refl $ keep ! (2 ∷ 3 ∷ 0 ∷ 1 ∷ []) $ by ! (leaves 𝓛 En hs c y vunit tt (grown, (tt, tt)) (tt, (tt, tt)))))))))
