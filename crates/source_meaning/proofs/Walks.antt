-- Loops over generators: their beginning, one place, and their end.
use Rattle.std.proofs.Common.{◌≡◌, ℕ, suc, ◌+◌, ◌-◌, List, [], ◌∷◌, ◌++◌, map, take, length, sym, ap, ◌∙◌, append_assoc}
use Rattle.std.proofs.Math.Seq.{take-append_seam}
use Rattle.flow_value.specs.declared.value.Val.{Val}
use Rattle.loop_folds.specs.Clauses.{ClauseCells}
use Rattle.meaning.specs.declared.sources.Places.{Places}
use Rattle.meaning.specs.declared.sources.Places.TheVariants as places
use Rattle.source_meaning.specs.declared.state.Walked.{Walked}
use Rattle.source_meaning.specs.declared.state.Walk.{Walk}
use Rattle.source_meaning.specs.declared.state.Frame.{Frame}
use Rattle.source_meaning.specs.declared.state.After.TheVariants as after
use Rattle.meaning.specs.Timed.{Timed, given, plus, andthen}
use Rattle.source_meaning.specs.Slots.{slot_values}
use Rattle.meaning.specs.Sources.{places_of, names_at, lower_of}
use Rattle.meaning.specs.Rows.{no_rows, with_row, with_rows, made}
use Rattle.meaning.specs.Meaning.{Gives, all_of, defined, each, environments, at_place, folded, over, meaning, meanings, definitions}
use Rattle.source_meaning.specs.Pending.{Program, Rest, walked_body, walk, spanned, finish, rest}
use Rattle.source_meaning.proofs.Wholes.{whole}
use Rattle.source_meaning.proofs.Laws.{given_then, then_then, plus_then, plus_plus, joined}
use Rattle.source_meaning.proofs.Rests.{defined_then}

-- the parts of a state
pub whole_is : (n : ℕ) (p : Program) (s t : ℕ) (fs gs : List Frame) (env e vs ws : List Val) → s ≡ t → fs ≡ gs → env ≡ e → vs ≡ ws
    → whole n p s fs env vs ≡ plus t (rest n p gs e ws)
whole_is n p s t fs gs env e vs ws hs hf he hv =
    ap (λ x. whole n p x fs env vs) hs ∙ ap (λ x. whole n p t x env vs) hf ∙ ap (λ x. whole n p t gs x vs) he ∙ ap (whole n p t gs e) hv

-- the loop ends
pub walk_end : (n : ℕ) (p : Program) (w : Walk) (k : Rest) (env : List Val) (fs : List ClauseCells) (s : ℕ) → w.left ≡ 0
    → plus s (walk n p w k env fs) ≡ plus (s + length w.parts.form.now.clauses) (k env (made (lower_of (slot_values env w.bounds)) fs))
walk_end n p w k env fs s h =
    let bs : List Val = slot_values env w.bounds in
    let G : List (List Val) → Timed (List Val) = λ rows. plus (length w.parts.form.now.clauses) (k env (made (lower_of bs) (with_rows w.parts.form.now.clauses fs rows))) in
    ap (λ l. plus s (andthen (each (at_place (walked_body n p w.parts)) (environments w.parts.form.now.sources bs env w.count l)) G)) h
    ∙ ap (plus s) (given_then [] G)
    ∙ plus_plus s (length w.parts.form.now.clauses) (k env (made (lower_of bs) fs))

-- one place, whose names come into force
pub walk_step : (n : ℕ) (p : Program) (w : Walk) (m left : ℕ) (k : Rest) (env : List Val) → w.left ≡ suc left → m ≡ length env
    → plus 1 (andthen (definitions n p w.parts.defs.now (env ++ names_at w.parts.form.now.sources (slot_values env w.bounds) (w.count - suc left)))
    (λ e. andthen (meanings n p w.parts.values.now e) (finish n p (after.Next (record w { mark = m; left = left })) k e)))
    ≡ walk n p w k env w.clauses.items
walk_step n p w m left k env hl hm =
    let v : Walk = record w { mark = m; left = left } in
    let bs : List Val = slot_values env w.bounds in
    let ns : List Val = names_at w.parts.form.now.sources bs (w.count - suc left) in
    let x : List Val = env ++ ns in
    let xs : List (List Val) = environments w.parts.form.now.sources bs env w.count left in
    let ds : List (List Gives) = map (map (meaning n p)) w.parts.defs.now in
    let gs : List Gives = map (meaning n p) w.parts.values.now in
    let body : Gives = walked_body n p w.parts in
    let G : List ClauseCells → List (List Val) → Timed (List Val) = λ f rows. plus (length w.parts.form.now.clauses) (k env (made (lower_of bs) (with_rows w.parts.form.now.clauses f rows))) in
    let W : ℕ → Timed (List Val) = λ l. andthen (each (at_place body) (environments w.parts.form.now.sources bs env w.count l)) (G w.clauses.items) in
    let F : List Val → Timed (List Val) = λ row. walk n p v k env (with_row w.parts.form.now.clauses w.clauses.items row) in
    let first : W (suc left) ≡ andthen (plus 1 (body x)) F =
    joined (plus 1 (body x)) (λ row. andthen (each (at_place body) xs) (λ rows. given (row ∷ rows))) (G w.clauses.items) F
    (λ row. joined (each (at_place body) xs) (λ rows. given (row ∷ rows)) (G w.clauses.items) (G (with_row w.parts.form.now.clauses w.clauses.items row)) (λ rows. given_then (row ∷ rows) (G w.clauses.items))) in
    let cut : (us : List Val) → take m (x ++ us) ≡ env = λ us. ap (λ i. take i (x ++ us)) hm ∙ ap (take (length env)) (append_assoc env ns us) ∙ take-append_seam env (ns ++ us) in
    let behind : andthen (defined ds x) (λ e. andthen (all_of gs e) (finish n p (after.Next v) k e)) ≡ andthen (defined ds x) (λ e. andthen (all_of gs e) F) =
    defined_then ds x (λ e. andthen (all_of gs e) (finish n p (after.Next v) k e)) (λ e. andthen (all_of gs e) F)
    (λ us. ap (λ y. andthen (all_of gs (x ++ us)) (λ vs. walk n p v k y (with_row w.parts.form.now.clauses w.clauses.items vs))) (cut us)) in
    ap (plus 1) (behind ∙ sym (then_then (defined ds x) (all_of gs) F))
    ∙ sym (plus_then 1 (body x) F)
    ∙ sym first
    ∙ sym (ap W hl)

-- what comes of a loop whose generators have so many places, or an error
abbrev pub opened : ℕ → Program → Walked → Rest → List Val → List Val → Places → Timed (List Val)
opened n p w k env bs x = andthen (over w.form.now w.results (walked_body n p w) bs x env) (k env)

-- the generators are counted
pub span_is : (n : ℕ) (p : Program) (w : Walked) (k : Rest) (env bs : List Val) (s : ℕ) (x : Places) → places_of w.form.now.sources bs ≡ x
    → plus s (spanned n p w k env bs) ≡ plus (s + length w.form.now.sources) (opened n p w k env bs x)
span_is n p w k env bs s x h = ap (λ y. plus s (plus (length w.form.now.sources) (opened n p w k env bs y))) h ∙ plus_plus s (length w.form.now.sources) (opened n p w k env bs x)

-- the loop begins
pub open_count : (n : ℕ) (p : Program) (w : Walk) (k : Rest) (env : List Val) → w.left ≡ w.count → w.clauses.items ≡ no_rows w.parts.form.now.clauses
    → opened n p w.parts k env (slot_values env w.bounds) (places.Count w.count) ≡ walk n p w k env w.clauses.items
open_count n p w k env hl hc =
    let bs : List Val = slot_values env w.bounds in
    let body : Gives = walked_body n p w.parts in
    let b : ℕ = length w.parts.form.now.clauses in
    let E : Timed (List (List Val)) = each (at_place body) (environments w.parts.form.now.sources bs env w.count w.count) in
    let V : List ClauseCells → List (List Val) → List Val = λ f rows. made (lower_of bs) (with_rows w.parts.form.now.clauses f rows) in
    let fs : List ClauseCells = no_rows w.parts.form.now.clauses in
    joined E (folded w.parts.form.now.clauses (lower_of bs)) (k env) (λ rows. plus b (k env (V fs rows)))
    (λ rows. plus_then b (given (V fs rows)) (k env) ∙ ap (plus b) (given_then (V fs rows) (k env)))
    ∙ ap (λ f. andthen E (λ rows. plus b (k env (V f rows)))) (sym hc)
    ∙ ap (λ l. andthen (each (at_place body) (environments w.parts.form.now.sources bs env w.count l)) (λ rows. plus b (k env (V w.clauses.items rows)))) (sym hl)
