-- `cut_one` cuts a token off, and both stakes share the value.
use Rattle.lease.proofs.Words.{◌≡◌, ℕ, ◌-◌, ◌^◌, ◌<◌, ◌≤◌, List, [], ◌∷◌, sym, refl, arith, a_type, named, Val, vptr, inst_fn, full_share, SProp, emp, guard_i, Lft, Fml, ftrue, fsep, flft, sem, ‵, raw, ◌⊛◌, given, ◌$◌, ◌∵◌, !, qed, by, move, keep, split, join, fsplit, fsplit3, fjoin, fjoin3, learn, use0, use1, rewrite, feq_i, stop, fld, load, of_opd, no_more, and_then, returns, enter, alloc_all, pass_all, free_all, look_at, get, through, sets, agg, sub, whole, look_in, tables, fact, fact_i, fact_use, RattleType, owns, types_at, plain, Ptr, InBlock, nothing, peeks, heard, opens, closes, Is, shows, cell_at, param, layouts, param_laws, mut_vals, mut_Tells, contraction, Stays, stay_ref, walk_of, Goes-ref, proved, leaves, Ptr-Good, strip_good}
use Rattle.lease.specs.Loans.{life, tokens, stake_owns}
use Rattle.lease.proofs.Tokens.{one_off}
use Rattle.lease.proofs.Fields.{stored, Pointer, stored_as, pointer_made}
use Rattle.lease.proofs.Steps.{shared, shared_laws, points}
use Rattle.lease.specs.contracts.loan.Stake as stake
use Rattle.lease.specs.contracts.loan.Stake.cut_one.{ended, clauses}
use Rattle.lease.specs.contracts.loan.Stake.cut_one.Key.{name as #self}
use Rattle.lease.proofs.loan.Stake.cut_one.Statement.{statement}
use Rattle.lease.proofs.loan.Stake.cut_one.Code as code

pub cut_one_spec : {M : Type 1} → statement M
cut_one_spec 𝓤 𝓛 𝓜 𝓡 wired X L =
    let 𝓣 = tables 𝓤 𝓛.H 𝓜 𝓡 𝓡.env in
    let R : RattleType = param 0 X in
    let LR = param_laws 0 X L in
    let Row : RattleType = stake.the_row R in
    let D : RattleType = Pointer R in
    let En = ended X in
    let inst = layouts (a_type ∷ []) (X, tt) in
    let fn = inst_fn inst code.function in
    let c = clauses X 𝓛 𝓜.mem 𝓡.returns in
    let self = plain (λ _. Row) in
    let hs : Stays En.signature.params En.kept = (stay_ref (0 ∷ []) tt self, tt) in
    proved 𝓛 En hs c 𝓜 𝓡 (Goes-ref 𝓛 2 0 tt self, tt) (#self inst) fn (code.unfolded 𝓤 𝓛.H 𝓜 𝓡 wired (X, tt))
    (λ κs. (mut_vals, tt)) (λ κs. (mut_Tells (named 0) κs.0 Row, tt)) (λ κs qs bounds a gh are.
    let b : ℕ = a.0.ref_ptr.0 in
    let o : ℕ = a.0.ref_ptr.1 in
    let κ : Lft = κs.0 in
    let s : Row.Denot = a.0.now in
    let p : Ptr = s.at in
    let n : ℕ = s.stakes in
    let left : Row.Denot = record s { stakes = n - 1 } in
    let cut : Row.Denot = record s { stakes = 1 } in
    let Seen : Fml = shared R LR p s.value (life s.loan) in
    let Whole : Fml = stake_owns R p s.value s.loan n in
    let Asked : Type 0 = (1 < n) × (n ≤ 2 ^ 101) in
    let Told : Type 0 = (left ≡ left) × (cut ≡ cut) in
    let others : Fml = fsep (flft κs.1.0 qs.1.0) ftrue in
    let y : (walk_of 𝓛 En hs c).Ghost = ((κs, qs, bounds, a, (vptr b o ∷ [], tt)), gh) in
    let Post : Val → SProp 𝓤 = (walk_of 𝓛 En hs c).post y in
    let Cell = λ (ws : List Val). ‵ (cell_at full_share Row.mir ws b o) in
    qed 𝓛 (((‵ (flft κ qs.0) ⊛ ‵ others) ⊛ ‵ (owns (types_at En.signature.params κs) a y.0.4)) ∷ raw (fact 𝓤 _) ∷ raw (fact 𝓤 Asked) ∷ []) ∵
    keep ! (2 ∷ 0 ∷ []) $ heard ! Asked (λ asked. let several = asked.0 in
    split ! $ split ! $ move ! (2 ∷ []) $ fsplit ! $ fsplit3 ! $ keep ! (1 ∷ 2 ∷ 4 ∷ 5 ∷ []) $
    enter ! 𝓣.C 𝓣.Λ fn (vptr b o ∷ []) Post $ alloc_all ! (λ l. pass_all ! refl ((tt, tt), tt) $
    opens ! tt Row b o (λ vs. move ! (1 ∷ []) $ fsplit ! $ peeks ! D (Is D) (shows 𝓛 D) (p, tt) vs (λ so.
    let cell_is : vs ≡ stored p ∷ [] = stored_as R p vs so in
    move ! (1 ∷ []) $ use1 𝓛 (given (InBlock p) (‵ Whole)) (fact_use 𝓤 _ (points R LR p s.value 𝓛 s.loan n) (guard_i 𝓤 (InBlock p) (sem 𝓛 Whole))) $
    learn ! (λ inside. fsplit ! $
    use1 𝓛 (‵ (tokens s.loan 1) ⊛ ‵ (tokens s.loan (n - 1))) (one_off 𝓛 s.loan n several asked.1) $ split ! $ move ! (2 ∷ []) $
    use1 𝓛 (‵ Seen ⊛ ‵ Seen) (contraction 𝓛 (shared R LR p s.value) (shared_laws R LR p s.value) (life s.loan)) $ split ! $
    move ! (2 ∷ 0 ∷ []) $ fjoin ! $ move ! (2 ∷ 1 ∷ []) $ fjoin ! $
    -- [what is left; what is cut off; the pointer; the cell; the open borrow; the tokens]
    rewrite ! 3 Cell cell_is refl $
    sets ! (of_opd ! (load ! (through ! refl (fld ! refl (stop !))) (look_in ! 3 (sub ! 0 refl (whole !))))) refl (Ptr-Good p inside) $
    sets ! (agg ! (and_then ! (get ! refl) (no_more !))) refl (strip_good p inside) $
    rewrite ! 3 Cell (sym cell_is) refl $ move ! (2 ∷ 0 ∷ []) $ fjoin ! $
    move ! (2 ∷ 0 ∷ 3 ∷ 4 ∷ 5 ∷ []) $ closes ! tt Row left vs b o $
    feq_i ! (List Val) (vptr b o ∷ []) (vptr b o ∷ []) refl $ fjoin3 ! $ nothing ! $ move ! (1 ∷ 0 ∷ []) $ fjoin ! $ move ! (1 ∷ 3 ∷ []) $ join ! $
    move ! (2 ∷ []) $ use0 𝓛 (‵ (D.own_val (p, tt) (stored p ∷ []))) (pointer_made R 𝓛 p) $ fjoin ! $
    use0 𝓛 (raw (fact 𝓤 Told)) (fact_i 𝓤 Told (emp 𝓤) (refl, refl)) $
    returns ! (look_at ! 0 refl) $ free_all ! refl $ keep ! (2 ∷ 3 ∷ 1 ∷ 0 ∷ []) $ by ! (leaves 𝓛 En hs c y (stored p) cut (left, tt) (tt, tt))))))))
