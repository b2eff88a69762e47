-- `join` puts the other run's places where they belong.
use Rattle.segment.proofs.Words.{◌≡◌, ℕ, ◌+◌, ◌*◌, ◌^◌, ◌<◌, ◌≤◌, List, [], ◌∷◌, length, sym, refl, ap, ◌∙◌, subst, a_type, named, w64, Val, vunit, vint, vptr, inst_fn, SProp, emp, id⊢, never, guard_i, Lft, Fml, ftrue, fsep, flft, sem, ‵, raw, ◌⊛◌, given, ◌$◌, ◌∵◌, !, qed, by, move, keep, drop, split, join, fsplit, fsplit3, fjoin, fjoin3, fpick, fpack, learn, use0, use1, use2, rewrite, feq_i, flt_i, flt_l, unit_lit, of_opd, returns, enter, alloc_all, pass_all, free_all, look_at, sets, tables, fact, fact_i, fact_use, yes, no, RattleType, owns, types_at, plain, Ptr, InBlock, block_ptr, in_block, in_a_block, ◌+ₚ◌, nothing, heard, opens, closes, layouts, usize, uint_vals, uint_Tells, mut_vals, mut_Tells, Stays, stay_dropped, stay_ref, walk_of, Goes-dropped, Goes-ref, proved, leaves, strip_good, El, R}
use Rattle.segment.specs.Runs.{bytes_of, place_at, part, spliced, places_own, run_owns}
use Rattle.segment.proofs.Lists.{spliced_long}
use Rattle.segment.proofs.Rows.{points, Around, comes_out, goes_back}
use Rattle.segment.proofs.Fields.{stored, stored_as}
use Rattle.segment.specs.contracts.run.Run as run
use Rattle.segment.specs.contracts.run.Run.join.{ended, clauses}
use Rattle.segment.specs.contracts.run.Run.join.Key.{name as #self}
use Rattle.segment.proofs.run.Run.join.Statement.{statement}
use Rattle.segment.proofs.run.Run.join.Code as code

pub join_spec : {M : Type 1} → statement M
join_spec 𝓤 𝓛 𝓜 𝓡 wired X L =
    let 𝓣 = tables 𝓤 𝓛.H 𝓜 𝓡 𝓡.env in
    let E : El = record { row = X; laws = L } in
    let Row : RattleType = run.the_row (R E) in
    let s : ℕ = bytes_of (R E) in
    let En = ended X in
    let inst = layouts (a_type ∷ []) (X, tt) in
    let fn = inst_fn inst code.function in
    let c = clauses X 𝓛 𝓜.mem 𝓡.returns in
    let self = plain (λ _. Row) in
    let word = plain (λ _. usize) in
    let hs : Stays En.signature.params En.kept = (stay_ref (0 ∷ []) tt self, (stay_dropped self no, (stay_dropped word yes, tt))) in
    proved 𝓛 En hs c 𝓜 𝓡 (Goes-ref 𝓛 2 0 tt self, (Goes-dropped 𝓛 2 self no (λ κs x f. refl), (Goes-dropped 𝓛 2 word yes (λ κs x f. refl), tt))) (#self inst) fn
    (code.unfolded 𝓤 𝓛.H 𝓜 𝓡 wired (X, tt))
    (λ κs. (mut_vals, ((λ r. stored r.at ∷ []), (uint_vals w64, tt)))) (λ κs. (mut_Tells (named 0) κs.0 Row, ((λ r vs so. stored_as (R E) r.at vs so.0), (uint_Tells w64, tt)))) (λ κs qs bounds a gh are.
    let b : ℕ = a.0.ref_ptr.0 in
    let o : ℕ = a.0.ref_ptr.1 in
    let κ : Lft = κs.0 in
    let r : Row.Denot = a.0.now in
    let other : Row.Denot = a.1.0 in
    let from : ℕ = a.1.1.0 in
    let joined : Row.Denot = record r { places = spliced r.places from other.places } in
    let Asked : Type 0 = (other.start ≡ r.at) × (other.offset ≡ from) × (from + length other.places ≤ length r.places) in
    let Told : Type 0 = joined ≡ joined in
    let Theirs : Fml = run_owns (R E) other.at other.places in
    let others : Fml = fsep (flft κs.1.0 qs.1.0) ftrue in
    let y : (walk_of 𝓛 En hs c).Ghost = ((κs, qs, bounds, a, (vptr b o ∷ [], (stored other.at ∷ [], (vint w64 from ∷ [], tt)))), gh) in
    let Post : Val → SProp 𝓤 = (walk_of 𝓛 En hs c).post y in
    qed 𝓛 (((‵ (flft κ qs.0) ⊛ ‵ others) ⊛ ‵ (owns (types_at En.signature.params κs) a y.0.4)) ∷ raw (fact 𝓤 _) ∷ raw (fact 𝓤 Asked) ∷ []) ∵
    keep ! (2 ∷ 0 ∷ []) $ heard ! Asked (λ asked.
    let fits = asked.2 in
    split ! $ split ! $ move ! (2 ∷ []) $ fsplit3 ! $ keep ! (1 ∷ 0 ∷ 3 ∷ 4 ∷ []) $ fsplit ! $ drop ! $ fsplit ! $ fpick ! (λ theirs. drop ! $
    -- [the other's places; self; the token; the other tokens]
    use1 𝓛 (given (InBlock other.at) (‵ Theirs)) (fact_use 𝓤 _ (points (R E) 𝓛 other.at other.places) (guard_i 𝓤 (InBlock other.at) (sem 𝓛 Theirs))) $ learn ! (λ inside.
    fsplit ! $ drop ! $ move ! (1 ∷ []) $ fsplit3 ! $ keep ! (1 ∷ 2 ∷ 4 ∷ 5 ∷ 3 ∷ []) $
    enter ! 𝓣.C 𝓣.Λ fn (vptr b o ∷ stored other.at ∷ vint w64 from ∷ []) Post $
    alloc_all ! (λ l. pass_all ! refl ((tt, tt), (strip_good other.at inside, ((tt, record { fits = are.1.1.0.1 }), tt))) $
    opens ! tt Row b o (λ vs. move ! (1 ∷ []) $ fsplit ! $ move ! (1 ∷ []) $ fsplit ! $ fpick ! (λ lies. drop ! $ fsplit ! $ flt_l ! (λ small.
    in_a_block ! r.at (λ q. in_block q (places_own (R E) q r.places)) (id⊢ 𝓤 (never 𝓤)) (λ b' o' at.
    -- [self's places; the pointer; the cell; the open borrow, in three entries; the other tokens; the other's places]
    use1 𝓛 (‵ (places_own (R E) (block_ptr b' (o' + from * s)) (part r.places from (length other.places))) ⊛ ‵ (Around E 𝓛 b' r.places from (length other.places) fits o'))
    (comes_out E 𝓛 b' r.places from (length other.places) fits o') $ split ! $ drop ! $ move ! (7 ∷ 0 ∷ []) $
    rewrite ! 0 (λ (q : Ptr). ‵ (in_block q (places_own (R E) q other.places))) (theirs ∙ (λ i. place_at (R E) (asked.0 i) (asked.1 i)) ∙ ap (λ (q : Ptr). q +ₚ from * s) at) refl $
    use2 𝓛 (‵ (places_own (R E) (block_ptr b' o') joined.places)) (goes_back E 𝓛 b' r.places from (length other.places) fits o' other.places refl) $
    rewrite ! 0 (λ (q : Ptr). ‵ (in_block q (places_own (R E) q joined.places))) (sym at) refl $
    flt_i ! (length joined.places * s) (2 ^ 63) (subst (λ (k : ℕ). k * s < 2 ^ 63) (sym (spliced_long r.places from other.places fits)) small) $ fjoin ! $
    nothing ! $ fpack ! (r.at ≡ place_at (R E) r.start r.offset) (λ _. ftrue) lies $ fjoin ! $
    move ! (1 ∷ 0 ∷ []) $ fjoin ! $ move ! (1 ∷ 0 ∷ []) $ closes ! tt Row joined vs b o $ feq_i ! (List Val) (vptr b o ∷ []) (vptr b o ∷ []) refl $ fjoin3 ! $
    nothing ! $ nothing ! $ fjoin ! $ nothing ! $ fjoin ! $ move ! (1 ∷ 0 ∷ []) $ fjoin ! $ move ! (1 ∷ 2 ∷ []) $ join ! $
    sets ! (of_opd ! (unit_lit !)) refl (tt, tt) $
    use0 𝓛 (raw (fact 𝓤 Told)) (fact_i 𝓤 Told (emp 𝓤) refl) $ feq_i ! (List Val) (vunit ∷ []) (vunit ∷ []) refl $
    returns ! (look_at ! 0 refl) $ free_all ! refl $ keep ! (2 ∷ 3 ∷ 0 ∷ 1 ∷ []) $
    by ! (leaves 𝓛 En hs c y vunit tt (joined, (tt, (tt, tt))) (tt, (tt, (tt, tt)))))))))))))
