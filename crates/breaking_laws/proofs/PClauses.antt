-- Values of clauses, and masks, that are refused.
use Rattle.std.proofs.Common.{◌≡◌, ℕ, [], ◌∷◌, ◌++◌, Some, sym, ap, subst, rules}
use Rattle.std.specs.Prelude.{Contains}
use Rattle.flow_value.specs.declared.ty.Ty.{Ty}
use Rattle.sisal_tree.specs.declared.unit.Written.{Written}
use Rattle.sisal_tree.specs.declared.expr.Clause.{Clause, out-Clause, roll-Clause}
use Rattle.sisal_tree.specs.declared.expr.ExprKind.TheViews as kinds
use Rattle.sisal_tree.specs.declared.expr.Mask.{Mask}
use Rattle.typed_tree.specs.Scopes as scopes
use Rattle.typed_tree.specs.Typing.{Known, Number}
use Rattle.typed_tree.specs.Breaks.{BreaksClause, in_clause, in_mask, mask}
use Rattle.typing_laws.specs.Judged.{denotes_in}
use Rattle.typing_laws.proofs.Called.{one_of}
use Rattle.breaking_laws.specs.Broken.{misnames_in, BreaksOneAt}
use Rattle.breaking_laws.specs.Parts as parts
use Rattle.breaking_laws.specs.Parts.{BreaksClauses, BreaksClausesAt}
use Rattle.breaking_laws.specs.PartLaws.{ClauseValueLaw, ClauseMaskLaw, MaskLaw, OneClauseLaw}
use Rattle.breaking_laws.proofs.FPassing.{reach_later, reach_here}
use Rattle.breaking_laws.proofs.FTables.{contains_first}
use Rattle.breaking_laws.proofs.PReach.{reaches_so}
use Rattle.breaking_laws.proofs.PTwice.{contains_only}
use Rattle.breaking_laws.proofs.PTurns.{not_truth}

pub rolled_clause : (c : Clause) → roll-Clause (record { line = (out-Clause c).line; kind = (out-Clause c).kind; value = (out-Clause c).value; mask = (out-Clause c).mask }) ≡ c
rolled_clause c = search (rules, kinds.the_lemmas)

module _ (k : Known) (denotes : Written → Ty → Type 0) (misnames : Written → ℕ → ℕ → Type 0) (s : scopes.Scope) (groups from : ℕ) (c : Clause) (rule line : ℕ) where
  -- a clause alone
  clause_alone : BreaksClause k denotes misnames s groups from (roll-Clause (record { line = (out-Clause c).line; kind = (out-Clause c).kind; value = (out-Clause c).value; mask = (out-Clause c).mask })) rule line
      → BreaksClauses k denotes misnames s groups from (c ∷ []) rule line
  clause_alone p = parts.one_of c (contains_first c []) (subst (λ d. BreaksClause k denotes misnames s groups from d rule line) (rolled_clause c) p)

  -- the same with a mask
  masked_alone : (m : Mask) → (out-Clause c).mask ≡ Some m
      → BreaksClause k denotes misnames s groups from (roll-Clause (record { line = (out-Clause c).line; kind = (out-Clause c).kind; value = (out-Clause c).value; mask = Some m })) rule line
      → BreaksClauses k denotes misnames s groups from (c ∷ []) rule line
  masked_alone m e p =
      clause_alone (subst (λ o. BreaksClause k denotes misnames s groups from (roll-Clause (record { line = (out-Clause c).line; kind = (out-Clause c).kind; value = (out-Clause c).value; mask = o })) rule line) (sym e) p)

pub clause_value_refused : ClauseValueLaw
clause_value_refused g f names c rule line p = λ groups from. record {
  table = p.table;
  used = p.used;
  is_table = p.is_table;
  holds = record {
    holds = λ k s whole stands. clause_alone k (denotes_in g k) (misnames_in g k) s groups from c rule line
        (in_clause groups from (out-Clause c).line rule line (out-Clause c).kind (out-Clause c).value (out-Clause c).mask (p.holds.holds k s whole stands));
  };
}

pub clause_mask_refused : ClauseMaskLaw
clause_mask_refused g f0 f1 names c m rule line used e p = λ groups from.
    reaches_so g f0 f1 (BreaksOneAt g names m.test rule line) (BreaksClausesAt g names groups from (c ∷ []) rule line) used p (λ table grows q. record {
      holds = λ k s whole stands. masked_alone k (denotes_in g k) (misnames_in g k) s groups from c rule line m e
          (in_mask groups from (out-Clause c).line rule line (out-Clause c).kind (out-Clause c).value m (q.holds k s whole stands));
    })

pub mask_refused : MaskLaw
mask_refused g f0 f1 names c m ts before ns rule line used table some test p = λ groups from.
    reach_later g f0 f1 (BreaksClausesAt g names groups from (c ∷ []) rule line) used (reach_here g f1 (BreaksClausesAt g names groups from (c ∷ []) rule line) table (record {
      holds = λ k s whole stands.
          let x = test.holds k s whole.agrees stands in
          let o = one_of k (denotes_in g k) s m.test ts x.tys x.typed in
          let other = not_truth k whole.agrees.table ns o.1 (subst (λ t. Number k ns t) o.3 x.number) (λ e. p.ends before (ap (λ l. before ++ l) e)) in
          subst (λ r. BreaksClauses k (denotes_in g k) (misnames_in g k) s groups from (c ∷ []) r line) (sym p.is_rule)
          (subst (λ i. BreaksClauses k (denotes_in g k) (misnames_in g k) s groups from (c ∷ []) 23 i) (sym p.is_line)
          (masked_alone k (denotes_in g k) (misnames_in g k) s groups from c 23 (out-Clause c).line m some
          (mask groups from (out-Clause c).line (out-Clause c).kind (out-Clause c).value m o.4 other)));
    }))

pub one_clause_refused : OneClauseLaw
one_clause_refused g f0 f1 names cs c rule line used there p = λ groups from.
    reaches_so g f0 f1 (BreaksClausesAt g names groups from (c ∷ []) rule line) (BreaksClausesAt g names groups from cs rule line) used (p groups from) (λ table grows q. record {
      holds = λ k s whole stands. among k (denotes_in g k) (misnames_in g k) s groups from (q.holds k s whole stands);
    })
  where
    among : (k : Known) (denotes : Written → Ty → Type 0) (misnames : Written → ℕ → ℕ → Type 0) (s : scopes.Scope) (groups from : ℕ) → BreaksClauses k denotes misnames s groups from (c ∷ []) rule line
        → BreaksClauses k denotes misnames s groups from cs rule line
    among k denotes misnames s groups from (parts.one_of d only b) = parts.one_of d (subst (λ e. Contains cs e) (contains_only c d only) there) b
