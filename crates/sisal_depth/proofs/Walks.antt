-- The steps of a derivation, taken from the last to the first.
use Rattle.std.proofs.Common.{◌≡◌, ℕ, suc, ◌<◌, ◌≤◌, ◌+◌, ◌-◌, take, drop, length, get_or, List, [], ◌∷◌, ◌++◌, refl, ◌∙◌, ap, arith}
use Rattle.std.proofs.lemmas.List.{take_more}
use Rattle.std.proofs.Math.Seq.{drop-cons}
use Rattle.pushdown.specs.declared.Step.{Step}
use Rattle.pushdown.specs.declared.Step.TheVariants.{Read, Open}
use Rattle.pushdown.specs.Meaning.{reads}
use Rattle.pushdown.proofs.Values.{reads_within}
use Rattle.sisal_lex.specs.declared.token.Token.{Token}
use Rattle.sisal_grammar.specs.Sorts.{args}
use Rattle.sisal_grammar.specs.Plan.{plan}
use Rattle.sisal_depth.specs.Sizes.{grown, sizes_of, token_size, no_token}

reads_append : (es fs : List Step) → reads (es ++ fs) ≡ reads es + reads fs
reads_append [] fs = omega arith
reads_append (Read ∷ es) fs = let h : reads (es ++ fs) ≡ reads es + reads fs = reads_append es fs in omega (arith, h)
reads_append (Open p ∷ es) fs = reads_append es fs

reads_more : (es : List Step) (k : ℕ) → k < length es → reads (take (k + 1) es) ≡ reads (take k es) + reads (get_or es k Read ∷ [])
reads_more es k lt = ap reads (take_more es k Read lt) ∙ reads_append (take k es) (get_or es k Read ∷ [])

-- the step before k reads a token
pub record ReadTurn (es : List Step) (ts : List Token) (k left : ℕ) : Type 0 where
  pub some : 1 ≤ left
  pub within : left - 1 < length ts
  pub place : left - 1 ≡ reads (take (k - 1) es)
  pub sizes : sizes_of (drop (k - 1) es) (drop (left - 1) ts) ≡ token_size (get_or ts (left - 1) no_token) ∷ sizes_of (drop k es) (drop left ts)

pub read_turn : (es : List Step) (ts : List Token) (k left : ℕ) → 0 < k → k ≤ length es → reads es ≡ length ts → get_or es (k - 1) Read ≡ Read → left ≡ reads (take k es) → ReadTurn es ts k left
read_turn es ts k left pos le all is at =
    let back : (k - 1) + 1 ≡ k = omega (arith, pos) in
    let lt : k - 1 < length es = omega (arith, pos, le) in
    let next : suc (k - 1) ≡ k = omega (arith, pos) in
    let more : reads (take ((k - 1) + 1) es) ≡ reads (take (k - 1) es) + reads (get_or es (k - 1) Read ∷ []) = reads_more es (k - 1) lt in
    let one_read : reads (get_or es (k - 1) Read ∷ []) ≡ 1 = ap (λ e. reads (e ∷ [])) is in
    let same : reads (take ((k - 1) + 1) es) ≡ reads (take k es) = ap (λ n. reads (take n es)) back in
    let bound : reads (take k es) ≤ reads es = reads_within es k in
    let some : 1 ≤ left = omega (arith, more, one_read, same, at) in
    let within : left - 1 < length ts = omega (arith, bound, all, at, some) in
    let next_left : suc (left - 1) ≡ left = omega (arith, some) in
    let steps : drop (k - 1) es ≡ Read ∷ drop k es = drop-cons es (k - 1) Read lt ∙ (ap (λ e. e ∷ drop (suc (k - 1)) es) is ∙ ap (λ n. Read ∷ drop n es) next) in
    let tokens : drop (left - 1) ts ≡ get_or ts (left - 1) no_token ∷ drop left ts = drop-cons ts (left - 1) no_token within ∙ ap (λ n. get_or ts (left - 1) no_token ∷ drop n ts) next_left in
    record {
      some = some;
      within = within;
      place = omega (arith, more, one_read, same, at);
      sizes = rw (steps, tokens) refl;
    }

-- the step before k is a production
pub record OpenTurn (es : List Step) (ts : List Token) (k left p : ℕ) : Type 0 where
  pub place : left ≡ reads (take (k - 1) es)
  pub sizes : sizes_of (drop (k - 1) es) (drop left ts) ≡ grown (plan.action p) (take (length (args (plan.action p))) (sizes_of (drop k es) (drop left ts))) ∷ drop (length (args (plan.action p))) (sizes_of (drop k es) (drop left ts))

pub open_turn : (es : List Step) (ts : List Token) (k left p : ℕ) → 0 < k → k ≤ length es → get_or es (k - 1) Read ≡ Open p → left ≡ reads (take k es) → OpenTurn es ts k left p
open_turn es ts k left p pos le is at =
    let back : (k - 1) + 1 ≡ k = omega (arith, pos) in
    let lt : k - 1 < length es = omega (arith, pos, le) in
    let next : suc (k - 1) ≡ k = omega (arith, pos) in
    let more : reads (take ((k - 1) + 1) es) ≡ reads (take (k - 1) es) + reads (get_or es (k - 1) Read ∷ []) = reads_more es (k - 1) lt in
    let no_read : reads (get_or es (k - 1) Read ∷ []) ≡ 0 = ap (λ e. reads (e ∷ [])) is in
    let same : reads (take ((k - 1) + 1) es) ≡ reads (take k es) = ap (λ n. reads (take n es)) back in
    let place : left ≡ reads (take (k - 1) es) = omega (arith, more, no_read, same, at) in
    let steps : drop (k - 1) es ≡ Open p ∷ drop k es = drop-cons es (k - 1) Read lt ∙ (ap (λ e. e ∷ drop (suc (k - 1)) es) is ∙ ap (λ n. Open p ∷ drop n es) next) in
    record { place = place; sizes = rw steps refl }
