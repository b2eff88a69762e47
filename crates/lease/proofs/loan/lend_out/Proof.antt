-- `lend_out` takes the box apart, and lends its value for a new loan.
use Rattle.lease.proofs.Words.{◌≡◌, ℕ, ◌^◌, ◌&&◌, true, List, [], ◌∷◌, ◌++◌, sym, refl, ap, ◌∙◌, subst, a_type, dcons, dnil, Val, vptr, vstruct, vcons, vnil, of_list, has_ty, inst_fn, bare, SProp, ent, emp, id⊢, fst∗, never, full_share, Fml, ftrue, fsep, fex, feq, flft, sem, Item, ‵, raw, ◌⊛◌, some, later, ◌$◌, ◌∵◌, !, qed, by, move, keep, drop, split, split3, join, fsplit, fjoin, fjoin3, fpick, fpack, pick, use0, use1, use2, await, rewrite, feq_i, feq_l, suffices, stop, fld, of_opd, no_more, and_then, returns, enter, alloc_all, pass_all, free_all, look_at, get, get_in, sets, lands_as, agg, sub, whole, tables, fact, fact_i, ◌⊑◌, no, RattleType, Valss, owns, plain, Ptr, InBlock, block_ptr, null_ptr, ptr_val, lies_at, in_a_block, nothing, only, heard, param_laws, layout, bounded, RawPtr, Tuple, within, shape, Lends-lies, triple_of, calls_at, Stays, stay_dropped, walk_of, proved_at, leaves, fm, α, token, handle_tells, Goes-blank, box_owns, box_out, box_in, and_tt}
use Rattle.lease.proofs.Fields.{stored, Pointer, pointer_made}
use Rattle.lease.proofs.Steps.{begins, Begun}
use Rattle.std.proofs.BoxSteps.Form as box
use Rattle.std.specs.contracts.boxed.Box.into_raw_with_allocator as callee
use Rattle.std.proofs.boxed.Box.into_raw_with_allocator.Met as callee_met
use Rattle.lease.specs.contracts.loan.Stake as stake
use Rattle.lease.specs.contracts.loan.Title as title
use Rattle.lease.specs.contracts.loan.lend_out.{ended, clauses}
use Rattle.lease.specs.contracts.loan.lend_out.Key.{name as #self}
use Rattle.lease.proofs.loan.lend_out.Statement.{statement}
use Rattle.lease.proofs.loan.lend_out.Code as code

pub lend_out_spec : {M : Type 1} → statement M
lend_out_spec 𝓤 𝓛 𝓜 𝓡 wired X Z L LZ g d dx dd met glue md =
    let 𝓣 = tables 𝓤 𝓛.H 𝓜 𝓡 𝓡.env in
    let E : box.Bx = record { row = X; laws = L; al = record { row = Z; laws = LZ; g = g; d = d; drops = dd } } in
    let R : RattleType = box.R E in
    let P : RattleType = box.P E in
    let B : RattleType = box.B E in
    let Row : RattleType = stake.the_row R in
    let Deed : RattleType = title.the_row R P g in
    let LR = param_laws 0 X L in
    let En = ended X Z g d dx dd in
    let inst = bounded (a_type ∷ a_type ∷ []) (X, (Z, tt)) (dcons d (dcons dx (dcons dd dnil))) in
    let fn = inst_fn inst code.function in
    let c = clauses X Z g d dx dd 𝓛 𝓜.mem 𝓡.returns in
    let Apart = triple_of 𝓛 (callee.signature X Z g d dd dx) (callee.spec X Z g d dd dx 𝓛 𝓜.mem 𝓡.returns) in
    let apart = callee_met.met 𝓤 𝓛 𝓜 𝓡 (code.calls-std_alloc::boxed::Box::into_raw_with_allocator 𝓡.env wired) X Z L LZ g d dd dx met md glue in
    let hs : Stays En.signature.params En.kept = (stay_dropped (plain (λ _. B)) no, tt) in
    proved_at 𝓛 En hs c 𝓜 𝓡 (Goes-blank 𝓛 2 (plain (λ _. B)) no (λ κs x f. tt), tt) (#self inst) fn (code.unfolded 𝓤 𝓛.H 𝓜 𝓡 wired (X, (Z, tt)) d dx dd) (λ z are.
    let κs = z.0.0 in
    let qs = z.0.1 in
    let t₁ : Item 𝓤 = ‵ (flft κs.0 qs.0) in
    let t₂ : Item 𝓤 = ‵ (flft κs.1.0 qs.1.0) in
    let InX = κs.0 ⊑ X.lives in
    let InZ = κs.1.0 ⊑ Z.lives in
    let Post : Val → SProp 𝓤 = (walk_of 𝓛 En hs c).post z in
    let Run : List Val → SProp 𝓤 = λ ws. prog.Wp.WpFn 𝓤 𝓛.H 𝓣.C 𝓣.Λ fn ws Post in
    let v : B.Denot = z.0.3.0 in
    let h : Z.Denot = v.alloc in
    let x : X.Denot = v.value in
    qed 𝓛 (((t₁ ⊛ t₂ ⊛ ‵ ftrue) ⊛ ‵ (fsep (B.own_val v z.0.4.0) ftrue)) ∷ raw (fact 𝓤 InX) ∷ raw (fact 𝓤 InZ) ∷ ‵ ftrue ∷ []) ∵
    move ! (1 ∷ 2 ∷ []) $ heard ! InX (λ in_x. heard ! InZ (λ in_z. split ! $ move ! (1 ∷ []) $ fsplit ! $
    box_out E ! v z.0.4.0 (λ b o hv e ws fits. box_in E ! v b o x e refl $ keep ! (0 ∷ 2 ∷ []) $
    let w : Val = box.word E hv b o in
    let typed = box.box_typed E hv b o fits in
    let y : Apart.Ghost = ((κs, qs, tt, (v, tt), (w ∷ [], tt)), tt) in
    suffices ! (Run (w ∷ [])) (subst (λ (us : List Val). ent 𝓤 (Run (w ∷ [])) (Run us)) (sym (λ i. ws i ++ [])) (id⊢ 𝓤 (Run (w ∷ [])))) $
    enter ! 𝓣.C 𝓣.Λ fn (w ∷ []) Post $ alloc_all ! (λ l. pass_all ! refl (typed, tt) $ sets ! (of_opd ! (get ! refl)) refl typed $
    -- the call that takes the box apart
    nothing ! $ move ! (1 ∷ 0 ∷ []) $ fjoin ! $ move ! (1 ∷ 0 ∷ []) $ join ! $
    nothing ! $ use0 𝓛 (raw (fact 𝓤 InZ)) (fact_i 𝓤 InZ (emp 𝓤) in_z) $ join ! $ use0 𝓛 (raw (fact 𝓤 InX)) (fact_i 𝓤 InX (emp 𝓤) in_x) $ join ! $
    move ! (1 ∷ 0 ∷ []) $ join ! $ use1 𝓛 (raw (Apart.pre y)) (id⊢ 𝓤 _) $
    calls_at ! (fm 𝓛 𝓜 𝓡) Apart apart y (and_then ! (get ! refl) (no_more !)) (λ u. let Pair = Tuple (RawPtr ∷ P ∷ []) in
    use1 𝓛 (later (some (λ (r : Ptr × Z.Denot). ((t₁ ⊛ t₂ ⊛ ‵ ftrue) ⊛ ‵ (Pair.own_val r (u ∷ []))) ⊛ some (λ (_ : (Unit {0} × (Unit {0} × Unit {0})) × Unit {0}).
    ‵ (fsep (fsep ftrue (fsep ftrue ftrue)) ftrue) ⊛ (raw (fact 𝓤 (r.1 ≡ h)) ⊛ ‵ (box_owns (token E.al h) R r.0 x)))))) (id⊢ 𝓤 _) $
    await ! tt $ pick ! (λ r. split ! $ move ! (1 ∷ []) $ pick ! (λ _. split3 ! $ drop ! $ heard ! (r.1 ≡ h) (λ same_handle.
    in_a_block ! r.0 (λ p. box_owns (token E.al h) R p x) (fst∗ 𝓤 (never 𝓤) (sem 𝓛 (token E.al h (bare (layout X)) null_ptr))) (λ b' o' at.
    let p : Ptr = block_ptr b' o' in
    let Value : Fml = lies_at R full_share p x in
    -- the loan begins
    fsplit ! $ move ! (2 ∷ []) $ split ! $ split ! $ move ! (3 ∷ 0 ∷ []) $
    use2 𝓛 (later (‵ (fex ℕ (Begun R LR p x 𝓛 Value)) ⊛ t₁)) (begins R LR p x 𝓛 Value R.lives κs.0 qs.0 (Lends-lies 𝓛 R R.lives p x (LR.shares 𝓛 x)) in_x) $
    await ! tt $ split ! $ fpick ! (λ a. fsplit ! $ move ! (2 ∷ 3 ∷ []) $ join ! $ move ! (3 ∷ []) $
    fpick ! (λ vss. fsplit ! $ feq_l ! (λ pair_is. fsplit ! $ feq_l ! (λ ptr_is. fsplit ! $
    rewrite ! 0 (λ (k : Z.Denot). ‵ (Z.own_val k vss.1.0)) same_handle refl $ handle_tells E.al ! h vss.1.0 (λ hw handle_is fits'.
    let w' : Val = box.word E hw b' o' in
    let typed' = box.box_typed E hw b' o' fits' in
    let out : Val = vstruct (vcons w' (vcons (stored p) vnil)) in
    let right : Deed.Denot = record { at = p; alloc = h; value = x; loan = a } in
    let all : Row.Denot = record { at = p; value = x; loan = a; stakes = 2 ^ 101 } in
    let Told : Type 0 = (x ≡ x) × (x ≡ x) × (a ≡ a) × (2 ^ 101 ≡ 2 ^ 101) in
    lands_as ! (ap only (pair_is ∙ (λ j. vstruct (of_list ((ptr_is ∙ ap (λ (π : Ptr). ptr_val π ∷ []) at) j ++ (handle_is j ++ []))) ∷ []))) refl typed' $
    sets ! (of_opd ! (get_in ! (fld ! refl (stop !)) (sub ! 0 refl (whole !)))) refl (tt, tt) $
    sets ! (of_opd ! (get_in ! (fld ! refl (stop !)) (sub ! 1 refl (whole !)))) refl fits' $
    sets ! (of_opd ! (get ! refl)) refl fits' $
    sets ! (agg ! (and_then ! (get ! refl) (and_then ! (get ! refl) (no_more !)))) refl typed' $
    sets ! (agg ! (and_then ! (get ! refl) (no_more !))) refl (tt, (tt, tt)) $
    sets ! (agg ! (and_then ! (get ! refl) (and_then ! (get ! refl) (no_more !)))) refl (and_tt (has_ty (α E.al) hw && true) typed'.0, (typed'.1, ((tt, tt), tt))) $
    -- [the handle; nothing; the tokens; the right to have the value back; every stake; the right to free]
    move ! (1 ∷ []) $ fpack ! (InBlock p) (λ _. ftrue) tt $ move ! (0 ∷ 3 ∷ 5 ∷ []) $ fjoin3 ! $ nothing ! $ move ! (2 ∷ 0 ∷ []) $ fjoin ! $
    feq_i ! (List Val) (vptr b' o' ∷ []) (vptr b' o' ∷ []) refl $ fjoin ! $ feq_i ! (List Val) (w' ∷ []) (w' ∷ []) refl $ fjoin ! $
    fpack ! (Valss (RawPtr ∷ P ∷ [])) (within (shape (title.the_type R P g)) (p, (h, tt)) (w' ∷ [])) (vptr b' o' ∷ [], (hw ∷ [], tt)) $ fjoin ! $
    move ! (2 ∷ []) $ use0 𝓛 (‵ ((Pointer R).own_val (p, tt) (stored p ∷ []))) (pointer_made R 𝓛 p) $ fjoin ! $
    nothing ! $ move ! (2 ∷ 1 ∷ 0 ∷ []) $ fjoin3 ! $ feq_i ! (List Val) (out ∷ []) (out ∷ []) refl $ fjoin ! $
    fpack ! (Valss (Deed ∷ Row ∷ [])) (λ uss. fsep (feq (List Val) (out ∷ []) (vstruct (of_list (uss.0 ++ (uss.1.0 ++ []))) ∷ [])) (owns (Deed ∷ Row ∷ []) (right, (all, tt)) uss)) (w' ∷ [], (stored p ∷ [], tt)) $
    use0 𝓛 (raw (fact 𝓤 Told)) (fact_i 𝓤 Told (emp 𝓤) (refl, refl, refl, refl)) $ nothing ! $ nothing ! $ fjoin ! $
    returns ! (look_at ! 0 refl) $ free_all ! refl $ keep ! (3 ∷ 0 ∷ 2 ∷ 1 ∷ []) $
    by ! (leaves 𝓛 En hs c z out (right, all) ((tt, (tt, tt)), tt) (tt, tt)))))))))))))))))
