-- `reclaim` ends the loan, and makes the box again.
use Rattle.lease.proofs.Words.{◌≡◌, ℕ, ◌^◌, T, List, [], ◌∷◌, ◌++◌, sym, refl, ap, ◌∙◌, subst, a_type, dcons, dnil, Val, vptr, vstruct, of_list, has_ty, WT, inst_fn, full_share, SProp, ent, emp, id⊢, guard_i, Fml, ftrue, fsep, flft, sem, Item, ‵, raw, ◌⊛◌, some, given, later, at_ret, ◌$◌, ◌∵◌, !, qed, by, move, keep, drop, split, split3, join, fsplit, fsplit3, fjoin, fjoin3, fpick, pick, learn, use0, use1, use2, await, rewrite, feq_i, feq_l, suffices, stop, fld, of_opd, no_more, and_then, first, blocks, exec, returns, enter, alloc_all, pass_all, free_all, look_at, get, get_in, sets, lands_last, is, env, sub, whole, tables, fact, fact_i, fact_use, ◌⊑◌, no, RattleType, plain, Ptr, InBlock, block_ptr, ptr_val, block_of, count_of, at_block, lies_at, nothing, only, heard, param_laws, bounded, Lasts, lasts, triple_of, calls_at_last, Stays, stay_dropped, walk_of, Goes-dropped, proved_at, leaves, fm, strip_good, handle_tells, Goes-blank, box_out, box_in, after}
use Rattle.lease.specs.Loans.{tokens, stake_owns}
use Rattle.lease.proofs.Fields.{stored, stored_as}
use Rattle.lease.proofs.Steps.{ends, points}
use Rattle.std.proofs.BoxSteps.Form as box
use Rattle.std.specs.contracts.boxed.Box.from_raw as callee
use Rattle.std.proofs.boxed.Box.from_raw.Met as callee_met
use Rattle.lease.specs.contracts.loan.Stake as stake
use Rattle.lease.specs.contracts.loan.Title as title
use Rattle.lease.specs.contracts.loan.reclaim.{ended, clauses}
use Rattle.lease.specs.contracts.loan.reclaim.Key.{name as #self}
use Rattle.lease.proofs.loan.reclaim.Statement.{statement}
use Rattle.lease.proofs.loan.reclaim.Code as code

pub reclaim_spec : {M : Type 1} → statement M
reclaim_spec 𝓤 𝓛 𝓜 𝓡 wired X Z L LZ g d dd met md =
    let 𝓣 = tables 𝓤 𝓛.H 𝓜 𝓡 𝓡.env in
    let E : box.Bx = record { row = X; laws = L; al = record { row = Z; laws = LZ; g = g; d = d; drops = dd } } in
    let R : RattleType = box.R E in
    let P : RattleType = box.P E in
    let B : RattleType = box.B E in
    let Row : RattleType = stake.the_row R in
    let Deed : RattleType = title.the_row R P g in
    let LR = param_laws 0 X L in
    let En = ended X Z g d dd in
    let inst = bounded (a_type ∷ a_type ∷ []) (X, (Z, tt)) (dcons d (dcons dd dnil)) in
    let fn = inst_fn inst code.function in
    let c = clauses X Z g d dd 𝓛 𝓜.mem 𝓡.returns in
    let Made = triple_of 𝓛 (callee.signature X Z g d dd) (callee.spec X Z g d dd 𝓛 𝓜.mem 𝓡.returns) in
    let made = callee_met.met 𝓤 𝓛 𝓜 𝓡 (code.calls-std_alloc::boxed::Box::from_raw 𝓡.env wired) X Z L LZ g d dd met md in
    let Ce = callee.ended X Z g d dd in
    let hs : Stays En.signature.params En.kept = (stay_dropped (plain (λ _. Deed)) no, (stay_dropped (plain (λ _. Row)) no, tt)) in
    proved_at 𝓛 En hs c 𝓜 𝓡 (Goes-blank 𝓛 2 (plain (λ _. Deed)) no (λ κs x f. tt), (Goes-dropped 𝓛 2 (plain (λ _. Row)) no (λ κs x f. refl), tt)) (#self inst) fn
    (code.unfolded 𝓤 𝓛.H 𝓜 𝓡 wired (X, (Z, tt)) d dd) (λ z are.
    let κs = z.0.0 in
    let qs = z.0.1 in
    let t₁ : Item 𝓤 = ‵ (flft κs.0 qs.0) in
    let t₂ : Item 𝓤 = ‵ (flft κs.1.0 qs.1.0) in
    let InX = κs.0 ⊑ X.lives in
    let InZ = κs.1.0 ⊑ Z.lives in
    let Post : Val → SProp 𝓤 = (walk_of 𝓛 En hs c).post z in
    let Run : List Val → SProp 𝓤 = λ ws. prog.Wp.WpFn 𝓤 𝓛.H 𝓣.C 𝓣.Λ fn ws Post in
    let right : Deed.Denot = z.0.3.0 in
    let all : Row.Denot = z.0.3.1.0 in
    let h : Z.Denot = right.alloc in
    let p : Ptr = right.at in
    let b : ℕ = block_of p in
    let o : ℕ = count_of p in
    let Asked : Type 0 = (all.loan ≡ right.loan) × (all.stakes ≡ 2 ^ 101) in
    let Value : Fml = lies_at R full_share p right.value in
    let Stakes : Fml = stake_owns R all.at all.value all.loan all.stakes in
    qed 𝓛 (((t₁ ⊛ t₂ ⊛ ‵ ftrue) ⊛ ‵ (fsep (Deed.own_val right z.0.4.0) (fsep (Row.own_val all z.0.4.1.0) ftrue))) ∷ raw (fact 𝓤 InX) ∷ raw (fact 𝓤 InZ) ∷ raw (fact 𝓤 Asked) ∷ []) ∵
    move ! (1 ∷ 2 ∷ 3 ∷ []) $ heard ! InX (λ in_x. heard ! InZ (λ in_z. heard ! Asked (λ asked. split ! $ move ! (1 ∷ []) $ fsplit3 ! $ move ! (1 ∷ []) $ fsplit ! $ drop ! $
    use1 𝓛 (given (InBlock all.at) (‵ Stakes)) (fact_use 𝓤 _ (points R LR all.at all.value 𝓛 all.loan all.stakes) (guard_i 𝓤 (InBlock all.at) (sem 𝓛 Stakes))) $ learn ! (λ inside.
    fsplit ! $ rewrite ! 0 (λ (m : ℕ × ℕ). ‵ (tokens m.0 m.1)) (λ i. (asked.0 i, asked.1 i)) refl $ move ! (2 ∷ []) $ fsplit ! $
    fpick ! (λ vss. fsplit ! $ feq_l ! (λ title_is. fsplit ! $ feq_l ! (λ ptr_is. fsplit ! $ handle_tells E.al ! h vss.1.0 (λ hv handle_is fits. move ! (2 ∷ []) $ fsplit3 ! $ fpick ! (λ within. drop ! $
    -- [the right to have the value back; the right to free; the handle; nothing; the tokens of the loan; the shared value; nothing; the tokens]
    move ! (0 ∷ 4 ∷ []) $ use2 𝓛 (later (‵ Value)) (ends R LR p right.value 𝓛 Value right.loan) $
    let at : p ≡ block_ptr b o = at_block p within in
    let w : Val = box.word E hv b o in
    let typed = box.box_typed E hv b o fits in
    let us : List Val = w ∷ stored all.at ∷ [] in
    let first_is : z.0.4.0 ≡ w ∷ [] = title_is ∙ (λ j. vstruct (of_list ((ptr_is ∙ ap (λ (π : Ptr). ptr_val π ∷ []) at) j ++ (handle_is j ++ []))) ∷ []) in
    let second_is : z.0.4.1.0 ≡ stored all.at ∷ [] = stored_as R all.at z.0.4.1.0 are.1.0.0 in
    let y : Made.Ghost = ((κs, qs, tt, (h, (p, tt)), (hv ∷ [], (vptr b o ∷ [], tt))), right.value) in
    suffices ! (Run us) (subst (λ (ws : List Val). ent 𝓤 (Run us) (Run ws)) (sym (λ i. first_is i ++ (second_is i ++ []))) (id⊢ 𝓤 (Run us))) $ keep ! (0 ∷ 1 ∷ 2 ∷ 6 ∷ []) $
    enter ! 𝓣.C 𝓣.Λ fn us Post $ alloc_all ! (λ l. pass_all ! refl (typed, (strip_good all.at inside, tt)) $ await ! tt $ fjoin ! $
    sets ! (of_opd ! (get_in ! (fld ! refl (stop !)) (sub ! 0 refl (whole !)))) refl (tt, tt) $
    sets ! (of_opd ! (get_in ! (fld ! refl (stop !)) (sub ! 1 refl (whole !)))) refl fits $
    first ! $ blocks ! $ sets ! (of_opd ! (get ! refl)) refl fits $
    -- the call that makes the box
    use0 𝓛 (raw (fact 𝓤 InZ)) (fact_i 𝓤 InZ (emp 𝓤) in_z) $ join ! $ use0 𝓛 (raw (fact 𝓤 InX)) (fact_i 𝓤 InX (emp 𝓤) in_x) $ join ! $
    nothing ! $ feq_i ! (List Val) (vptr b o ∷ []) (ptr_val p ∷ []) (ap (λ (π : Ptr). ptr_val π ∷ []) (sym at)) $ move ! (3 ∷ 0 ∷ 1 ∷ []) $ fjoin3 ! $
    move ! (2 ∷ 0 ∷ []) $ join ! $ join ! $ use1 𝓛 (raw (Made.pre y)) (id⊢ 𝓤 _) $
    calls_at_last ! (fm 𝓛 𝓜 𝓡) Made made y (and_then ! (get ! refl) (and_then ! (get ! refl) (no_more !))) (λ u.
    use1 𝓛 (later (some (λ (r : B.Denot). ((t₁ ⊛ t₂ ⊛ ‵ ftrue) ⊛ ‵ (B.own_val r (u ∷ []))) ⊛ some (λ (ws : Lasts Ce κs (h, (p, tt))). ‵ (lasts Ce κs (h, (p, tt)) ws) ⊛
    (raw (fact 𝓤 (r.value ≡ right.value)) ⊛ raw (fact 𝓤 (r.alloc ≡ h))))))) (id⊢ 𝓤 _) $
    await ! tt $ pick ! (λ r. split ! $ move ! (1 ∷ []) $ pick ! (λ _. split3 ! $ drop ! $ move ! (1 ∷ []) $ drop ! $ heard ! (r.value ≡ right.value) (λ same. split ! $ move ! (1 ∷ []) $
    box_out E ! r (u ∷ []) (λ b' o' hw e' box_is fits'. box_in E ! r b' o' r.value e' refl $
    let w' : Val = box.word E hw b' o' in
    let typed' = box.box_typed E hw b' o' fits' in
    let word_is : u ≡ w' = ap only box_is in
    let Ev = env fn.locals l in
    lands_last ! refl (subst (λ (s : Val). T (has_ty (box.box_ty E) s) × WT s) (sym word_is) typed') $
    exec ! 𝓣.C 𝓣.Λ Ev (after 3 fn.body) (at_ret Ev Post) $ sets ! (is ! (of_opd ! (get ! refl)) word_is) refl typed' $
    use0 𝓛 (raw (fact 𝓤 (r.value ≡ right.value))) (fact_i 𝓤 (r.value ≡ right.value) (emp 𝓤) same) $ nothing ! $ nothing ! $ fjoin ! $ nothing ! $ fjoin ! $
    returns ! (look_at ! 0 refl) $ free_all ! refl $ keep ! (3 ∷ 0 ∷ 2 ∷ 1 ∷ []) $
    by ! (leaves 𝓛 En hs c z w' r ((tt, (tt, tt)), (tt, tt)) (tt, (tt, tt)))))))))))))))))))
