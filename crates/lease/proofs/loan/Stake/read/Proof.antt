-- `read` goes through the pointer: a `&` to the stake shows the value for as long as it lasts.
use Rattle.lease.proofs.Words.{◌≡◌, ℕ, List, [], ◌∷◌, sym, refl, ap, ◌∙◌, Share, Item, a_type, named, Val, vptr, inst_fn, SProp, emp, Lft, Fml, ftrue, fsep, flft, fhide, ‵, raw, ◌⊛◌, at_ret, ◌$◌, ◌∵◌, !, qed, by, move, keep, split, join, fsplit, fjoin, use0, use1, rewrite, feq_i, stop, fld, hop, addr, of_opd, first, blocks, exec, returns, enter, alloc_all, pass_all, free_all, look_at, get, through, sets, sets_last, env, sub, whole, look_in, tables, fact, fact_i, yes, RattleType, owns, types_at, plain, Ptr, InBlock, block_ptr, block_of, count_of, at_block, nothing, peeks, heard, looks, shuts, unhide, hide, Is, shows, cell_at, hidden_shr, param, layouts, param_laws, RefOf, shr_vals, shr_Tells, lent_at, lent_out, in_block_says, Stays, stay_dropped, walk_of, Goes-dropped, proved, leaves, after}
use Rattle.lease.specs.Loans.{stake_shares}
use Rattle.lease.proofs.Fields.{stored, Pointer, stored_as, pointer_opens}
use Rattle.lease.proofs.Steps.{sees}
use Rattle.lease.specs.contracts.loan.Stake as stake
use Rattle.lease.specs.contracts.loan.Stake.read.{ended, clauses}
use Rattle.lease.specs.contracts.loan.Stake.read.Key.{name as #self}
use Rattle.lease.proofs.loan.Stake.read.Statement.{statement}
use Rattle.lease.proofs.loan.Stake.read.Code as code

pub read_spec : {M : Type 1} → statement M
read_spec 𝓤 𝓛 𝓜 𝓡 wired X L =
    let 𝓣 = tables 𝓤 𝓛.H 𝓜 𝓡 𝓡.env in
    let R : RattleType = param 0 X in
    let Row : RattleType = stake.the_row R in
    let D : RattleType = Pointer R in
    let En = ended X in
    let inst = layouts (a_type ∷ []) (X, tt) in
    let fn = inst_fn inst code.function in
    let c = clauses X 𝓛 𝓜.mem 𝓡.returns in
    let self = RefOf (0 ∷ []) tt (plain (λ _. Row)) (λ _. tt) in
    let hs : Stays En.signature.params En.kept = (stay_dropped self yes, tt) in
    proved 𝓛 En hs c 𝓜 𝓡 (Goes-dropped 𝓛 2 self yes (λ κs x f. refl), tt) (#self inst) fn (code.unfolded 𝓤 𝓛.H 𝓜 𝓡 wired (X, tt))
    (λ κs. (shr_vals, tt)) (λ κs. (shr_Tells (named 0) κs.0 Row, tt)) (λ κs qs bounds a gh are.
    let b : ℕ = a.0.ref_ptr.0 in
    let o : ℕ = a.0.ref_ptr.1 in
    let κ : Lft = κs.0 in
    let s : Row.Denot = a.0.now in
    let p : Ptr = s.at in
    let x : X.Denot = s.value in
    let others : Fml = fsep (flft κs.1.0 qs.1.0) ftrue in
    let y : (walk_of 𝓛 En hs c).Ghost = ((κs, qs, bounds, a, (vptr b o ∷ [], tt)), gh) in
    let Post : Val → SProp 𝓤 = (walk_of 𝓛 En hs c).post y in
    let there : Val = vptr (block_of p) (count_of p) in
    let Cell : Share → List Val → Item 𝓤 = λ q ws. ‵ (cell_at q D.mir ws b o) in
    qed 𝓛 (((‵ (flft κ qs.0) ⊛ ‵ others) ⊛ ‵ (owns (types_at En.signature.params κs) a y.0.4)) ∷ raw ((c κs a).requires gh) ∷ []) ∵
    split ! $ split ! $ move ! (2 ∷ []) $ fsplit ! $ fsplit ! $ keep ! (1 ∷ 3 ∷ 4 ∷ []) $
    enter ! 𝓣.C 𝓣.Λ fn (vptr b o ∷ []) Post $ alloc_all ! (λ l. pass_all ! refl ((tt, tt), tt) $
    -- [the reference to the stake; the token; the other tokens]
    use1 𝓛 (‵ (hidden_shr D κ (p, tt) b o) ⊛ ‵ (fhide (stake_shares R p x s.loan κ)))
    (lent_out 𝓛 (stake.struct R) (stake.the_codes X.Denot R.coded) (stake.the_heap R) (stake.the_lent R) κ s b o) $
    split ! $ move ! (1 ∷ []) $ unhide ! $ use1 𝓛 (‵ (lent_at R p x κ)) (sees R (param_laws 0 X L) p x 𝓛 s.loan κ) $ fsplit ! $
    use1 𝓛 (raw (fact 𝓤 (InBlock p))) (in_block_says 𝓛 p) $ heard ! (InBlock p) (λ inside. hide ! $ move ! (1 ∷ 2 ∷ []) $
    looks ! tt D (pointer_opens R 𝓛) (p, tt) b o (λ q vs. move ! (1 ∷ []) $ peeks ! D (Is D) (shows 𝓛 D) (p, tt) vs (λ so.
    let cell_is : vs ≡ stored (block_ptr (block_of p) (count_of p)) ∷ [] = stored_as R p vs so ∙ ap (λ (r : Ptr). stored r ∷ []) (at_block p inside) in
    rewrite ! 1 (Cell q) cell_is refl $ first ! $ blocks ! $
    sets_last ! (addr ! (through ! refl (fld ! refl (hop ! (look_in ! 1 (sub ! 0 refl (whole !))) (stop !))))) refl (tt, tt) $
    exec ! 𝓣.C 𝓣.Λ (env fn.locals l) (after 1 fn.body) (at_ret (env fn.locals l) Post) $ sets ! (of_opd ! (get ! refl)) refl (tt, tt) $
    rewrite ! 1 (Cell q) (sym cell_is) refl $ move ! (1 ∷ 0 ∷ 2 ∷ []) $ shuts ! tt D q (p, tt) vs b o $ move ! (0 ∷ 3 ∷ []) $ join ! $
    -- [the tokens; the reference to the value]
    move ! (2 ∷ []) $ feq_i ! (List Val) (there ∷ []) (there ∷ []) refl $ fjoin ! $
    use0 𝓛 (raw (fact 𝓤 (x ≡ x))) (fact_i 𝓤 (x ≡ x) (emp 𝓤) refl) $ nothing ! $ nothing ! $ fjoin ! $
    returns ! (look_at ! 0 refl) $ free_all ! refl $ keep ! (3 ∷ 0 ∷ 2 ∷ 1 ∷ []) $
    by ! (leaves 𝓛 En hs c y there (record { ref_ptr = (block_of p, count_of p); now = x }) (tt, tt) (tt, tt)))))))
