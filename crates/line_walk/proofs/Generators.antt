-- Generators and returns, one after another.
use Rattle.std.proofs.Common.{◌≡◌, ◌≤◌, ◌⊎◌, inl, inr, ℕ, zero, suc, List, [], ◌∷◌, ◌++◌, length, take, drop, refl, sym, ap, ◌∙◌, append_assoc, arith}
use Rattle.typed_tree.specs.declared.expr.ClauseForm.{ClauseForm}
use Rattle.type_table.specs.declared.form.Form.{Form}
use Rattle.typed_tree.specs.declared.expr.Source.{Source}
use Rattle.lowering.specs.declared.feed.Carried.{Carried}
use Rattle.lowering.specs.declared.feed.Carried.TheVariants.{One}
use Rattle.lowering.specs.Loops.{width, span}
use Rattle.line_types.specs.Traces.{Bound, ones, take_up, fold_lines, returns_traced, generator_values, generators_traced, graph_lines}
use Rattle.line_labels.specs.Needs.{added}
use Rattle.line_walk.proofs.Added.{added_both}
use Rattle.line_walk.proofs.FormParts.{graph_added}

pub took_all : (n : ℕ) (cs : List Carried) → length cs ≤ n → take_up n cs ≡ cs
took_all zero [] le = refl
took_all zero (c ∷ cs) le = absurd (omega (arith, le))
took_all (suc n) [] le = refl
took_all (suc n) (c ∷ cs) le = ap (λ k. c ∷ k) (took_all n cs (omega (arith, le)))

pub no_clause : (b : Bound) (cs : List ClauseForm) (ms : List Carried) (ts : List ℕ) → (cs ≡ []) ⊎ (ts ≡ []) → (returns_traced b cs ms ts).lines ≡ []
no_clause b [] ms ts h = refl
no_clause b (c ∷ cs) ms [] h = refl
no_clause b (c ∷ cs) ms (t ∷ ts) (inl e) = absurd cc
no_clause b (c ∷ cs) ms (t ∷ ts) (inr e) = absurd cc

-- the lines of one more clause
pub next_clause : (b : Bound) (x : ClauseForm) (cs : List ClauseForm) (ms : List Carried) (t : ℕ) (ts : List ℕ) (ks : List Carried)
    → added (added ks (fold_lines b x.folding (take_up (span x.masking) ms))) (returns_traced b cs (drop (span x.masking) ms) ts).lines ≡ added ks (returns_traced b (x ∷ cs) ms (t ∷ ts)).lines
next_clause b x cs ms t ts ks = sym (added_both ks (fold_lines b x.folding (take_up (span x.masking) ms)) (returns_traced b cs (drop (span x.masking) ms) ts).lines)

module _ (forms : List Form) where
  pub next_generator : (s : Source) (ss : List Source) (cs : List Carried) (ks : List Carried)
      → added (added ks (take_up (width s) cs)) (generators_traced forms ss (drop (width s) cs)).lines ≡ added ks (generators_traced forms (s ∷ ss) cs).lines
  next_generator s ss cs ks = sym (added_both ks (take_up (width s) cs) (generators_traced forms ss (drop (width s) cs)).lines)

  pub next_values : (s : Source) (ss : List Source) (cs : List Carried) (vs : List Carried)
      → (vs ++ generator_values forms s (take_up (width s) cs)) ++ (generators_traced forms ss (drop (width s) cs)).values ≡ vs ++ (generators_traced forms (s ∷ ss) cs).values
  next_values s ss cs vs = append_assoc vs (generator_values forms s (take_up (width s) cs)) (generators_traced forms ss (drop (width s) cs)).values

pub took_numbers : (n : ℕ) (xs : List ℕ) → length xs ≤ n → take n xs ≡ xs
took_numbers zero [] le = refl
took_numbers zero (x ∷ xs) le = absurd (omega (arith, le))
took_numbers (suc n) [] le = refl
took_numbers (suc n) (x ∷ xs) le = ap (λ k. x ∷ k) (took_numbers n xs (omega (arith, le)))

-- what the results of clauses carry
pub clause_results : (b : Bound) (cs : List ClauseForm) (ms : List Carried) (ts : List ℕ) → (returns_traced b cs ms ts).values ≡ ones (take (length cs) ts)
clause_results b [] ms ts = refl
clause_results b (c ∷ cs) ms [] = refl
clause_results b (c ∷ cs) ms (t ∷ ts) = ap (λ l. One t ∷ l) (clause_results b cs (drop (span c.masking) ms) ts)

-- the lines of clauses, and then their results
pub part_results : (ks : List Carried) (b : Bound) (cs : List ClauseForm) (ms : List Carried) (ts : List ℕ)
    → added (added ks (returns_traced b cs ms ts).lines) (ones (take (length cs) ts)) ≡ added ks (graph_lines (returns_traced b cs ms ts ∷ []))
part_results ks b cs ms ts = ap (added (added ks (returns_traced b cs ms ts).lines)) (sym (clause_results b cs ms ts)) ∙ graph_added ks (returns_traced b cs ms ts)
