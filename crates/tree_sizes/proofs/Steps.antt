-- Places among the values of clauses.
use Rattle.std.proofs.Common.{◌≡◌, ◌∙◌, ℕ, suc, ◌+◌, ◌<◌, Bool, true, false, true≢false, List, [], ◌∷◌, ◌++◌, length, drop, get_or, Option, Some, None, sym, ap, refl, arith}
use Rattle.std.specs.Prelude.{if◌then◌else◌}
use Rattle.std.proofs.Math.Seq.{drop-cons}
use Rattle.loop_folds.specs.declared.masking.Masking.{Masking}
use Rattle.loop_folds.specs.declared.masking.Masking.TheVariants as masking
use Rattle.typed_tree.specs.declared.expr.ClauseForm.{ClauseForm}
use Rattle.lowering.specs.Loops.{mask_places, unless_places}
use Rattle.lowered_sizes.specs.declared.sizes.Sizes.{Sizes}
use Rattle.lowered_sizes.specs.Counting.{Sizing, only, beside, joined, a_node}
use Rattle.lowered_sizes.specs.Forms.{SizedPhrase, all_sized, clauses_sized, extra_sized, extras_sized}
use Rattle.tree_sizes.specs.Clauses.{is_unless, unless_from, is_masked, first_place, is_true, is_name, extra_at}
use Rattle.tree_sizes.proofs.Kept.{beside-none}

pub all-from : (cs : List ClauseForm) → unless_from false cs ≡ unless_places cs
all-from [] = refl
all-from (c ∷ cs) = refl

mask-of : (m : Masking) (bs : List Bool) (b : Bool) → is_masked m b ≡ true → is_unless m ∷ bs ≡ drop 1 (if b then is_unless m ∷ bs else (mask_places m ++ bs))
mask-of masking.All bs b e = absurd (true≢false (sym e))
mask-of masking.When bs true e = absurd (true≢false (sym e))
mask-of masking.When bs false e = refl
mask-of masking.Unless bs true e = absurd (true≢false (sym e))
mask-of masking.Unless bs false e = refl

clause-of : (m : Masking) (bs : List Bool) (b : Bool) → is_masked m b ≡ false → bs ≡ drop 1 (if b then is_unless m ∷ bs else (mask_places m ++ bs))
clause-of masking.All bs true e = refl
clause-of masking.All bs false e = refl
clause-of masking.When bs true e = refl
clause-of masking.When bs false e = absurd (true≢false e)
clause-of masking.Unless bs true e = refl
clause-of masking.Unless bs false e = absurd (true≢false e)

from-first : (c : ClauseForm) (cs : List ClauseForm) (b : Bool) → unless_from b (c ∷ cs) ≡ (if b then is_unless c.masking ∷ unless_places cs else (mask_places c.masking ++ unless_places cs))
from-first c cs true = refl
from-first c cs false = refl

pub place-mask : (cs : List ClauseForm) (at : ℕ) (b : Bool) (x : ClauseForm) → at < length cs → is_masked (get_or cs at x).masking b ≡ true → unless_from true (drop at cs) ≡ drop 1 (unless_from b (drop at cs))
place-mask cs at b x lt e =
    let c = get_or cs at x in
    let cons = drop-cons cs at x lt in
    ap (unless_from true) cons ∙ mask-of c.masking (unless_places (drop (suc at) cs)) b e ∙ ap (drop 1) (sym (from-first c (drop (suc at) cs) b)) ∙ ap (λ l. drop 1 (unless_from b l)) (sym cons)

pub place-clause : (cs : List ClauseForm) (at : ℕ) (b : Bool) (x : ClauseForm) → at < length cs → is_masked (get_or cs at x).masking b ≡ false → unless_from false (drop (at + 1) cs) ≡ drop 1 (unless_from b (drop at cs))
place-clause cs at b x lt e =
    let c = get_or cs at x in
    let cons = drop-cons cs at x lt in
    let further : at + 1 ≡ suc at = omega arith in
    ap (λ j. unless_from false (drop j cs)) further ∙ all-from (drop (suc at) cs) ∙ clause-of c.masking (unless_places (drop (suc at) cs)) b e
    ∙ ap (drop 1) (sym (from-first c (drop (suc at) cs) b)) ∙ ap (λ l. drop 1 (unless_from b l)) (sym cons)

-- the value of a clause, or its mask
abbrev pub clause_at : Bool → Sizes → Sizes
clause_at is_not s = if is_not then joined s (a_node s.values 1) else s

no-clauses : (gs : List Sizing) → gs ≡ clauses_sized [] gs
no-clauses [] = refl
no-clauses (g ∷ gs) = refl

pub clause-step : (bs : List Bool) (g : Sizing) (gs : List Sizing) (n : ℕ)
    → all_sized (clauses_sized bs (g ∷ gs)) n ≡ beside (clause_at (is_true (first_place bs)) (g n)) (all_sized (clauses_sized (drop 1 bs) gs) n)
clause-step [] g gs n = ap (λ l. beside (g n) (all_sized l n)) (no-clauses gs)
clause-step (true ∷ bs) g gs n = refl
clause-step (false ∷ bs) g gs n = refl

no-extras : (loop : Option ℕ → Option ℕ) (ps : List SizedPhrase) → [] ≡ extras_sized loop [] ps
no-extras loop [] = refl
no-extras loop (p ∷ ps) = refl

extra-both : (o : Option ℕ) (g : Sizing) (gs : List Sizing) (n : ℕ) → all_sized (extra_sized o g ++ gs) n ≡ beside (if is_name o then only 0 else g n) (all_sized gs n)
extra-both None g gs n = refl
extra-both (Some x) g gs n = sym (beside-none (all_sized gs n))

pub extra-step : (loop : Option ℕ → Option ℕ) (bs : List Bool) (p : SizedPhrase) (ps : List SizedPhrase) (n : ℕ)
    → all_sized (extras_sized loop bs (p ∷ ps)) n ≡ beside (extra_at (first_place bs) (is_name (loop p.name)) (p.sizes n)) (all_sized (extras_sized loop (drop 1 bs) ps) n)
extra-step loop [] p ps n = sym (beside-none (only 0)) ∙ ap (λ l. beside (only 0) (all_sized l n)) (no-extras loop ps)
extra-step loop (true ∷ bs) p ps n = refl
extra-step loop (false ∷ bs) p ps n = extra-both (loop p.name) p.sizes (extras_sized loop bs ps) n
