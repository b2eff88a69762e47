-- Turns of a loop, and loops with turns, that are refused.
use Rattle.std.proofs.Common.{◌≡◌, ℕ, ◌+◌, ◌≤◌, List, [], ◌∷◌, length, refl, sym, ap, subst, ◌∙◌, arith, rules}
use Rattle.std.proofs.lemmas.Bool.{eqb-true}
use Rattle.flow_value.specs.declared.ty.Ty.{Ty}
use Rattle.flow_value.specs.declared.ty.Ty.TheVariants as ty
use Rattle.type_table.specs.Tables.{IsTable}
use Rattle.sisal_tree.specs.declared.unit.Written.{Written}
use Rattle.sisal_tree.specs.declared.expr.Clause.{Clause}
use Rattle.sisal_tree.specs.declared.expr.Def.{Def}
use Rattle.sisal_tree.specs.declared.expr.ExprKind.TheVariants as tree
use Rattle.sisal_tree.specs.declared.expr.ExprKind.TheViews as kinds
use Rattle.sisal_tree.specs.declared.expr.Loop.TheVariants as loop
use Rattle.sisal_tree.specs.declared.expr.Turn.{Turn, out-Turn, roll-Turn}
use Rattle.typed_tree.specs.declared.expr.TypedExpr.{TypedExpr}
use Rattle.typed_tree.specs.Scopes as scopes
use Rattle.typed_tree.specs.Scopes.{targets}
use Rattle.typed_tree.specs.Typing.{Known, Number, Defines, loop_of, at, names_of}
use Rattle.typed_tree.specs.Breaks as breaks
use Rattle.typed_tree.specs.Breaks.{Breaks, BreaksDefs, in_initial, in_loop_test, loop_test, in_turn_of, in_loop_clauses}
use Rattle.type_rules.proofs.Telling.{boolean_tells}
use Rattle.value_names.specs.declared.value.Value.{Value}
use Rattle.typing_laws.specs.Turns.{AreBelow, IsInTurn, loop_names, in_turn}
use Rattle.typing_laws.specs.Judged.{Stands, AreValues, denotes_in}
use Rattle.typing_laws.specs.Defining.{targets_in}
use Rattle.typing_laws.specs.Looping.{IsStarted, loop_in}
use Rattle.typing_laws.proofs.Unique.{as_many}
use Rattle.typing_laws.proofs.Called.{one_of}
use Rattle.typing_laws.proofs.Turning.{loop_stands, loop_below, turn_stands, names_in_order, defines_height, many_names}
use Rattle.breaking_laws.specs.Broken.{misnames_in, BreaksAt, BreaksOneAt}
use Rattle.breaking_laws.specs.Parts as parts
use Rattle.breaking_laws.specs.Parts.{BreaksTurn, in_defs, renamed, BreaksDefsAt, BreaksTurnOf, BreaksRenewingAt, BreaksTurnAt, BreaksClauses, BreaksClausesAt}
use Rattle.breaking_laws.specs.PartLaws.{RenewingLaw, TurnDefsLaw, TurnTestLaw, TruthLaw, InitialDefsLaw, InitialTurnLaw, InitialClausesLaw}
use Rattle.breaking_laws.proofs.FPassing.{reach_later, reach_here, agrees_at}
use Rattle.breaking_laws.proofs.PReach.{reaches_so}
use Rattle.breaking_laws.proofs.PDefs.{outside}

-- ---- turns

pub renewing_refused : RenewingLaw
renewing_refused g f names inside first started ds rule line begun p = record {
  table = p.table;
  used = p.used;
  is_table = p.is_table;
  holds = record {
    holds = λ begins k s tys whole stands number.
        let loop : List (ℕ × Value) = loop_names first started.targets started.types in
        let types : List (ℕ × scopes.Meaning) = loop_in first started tys in
        let values : AreValues k loop types = loop_stands k started.targets started.types tys first first refl number.each in
        let top : first + length started.types ≤ names.height = (let h = begins.height in omega (arith, h)) in
        let turned : Stands k (in_turn loop (targets_in ds) names) (scopes.in_turn types (names_of (targets_in ds)) s) =
        turn_stands k loop types (targets_in ds) names s values (loop_below names.height started.targets started.types first top) stands in
        let here : Stands k inside (scopes.in_turn types (targets ds) s) =
        subst (λ n. Stands k n (scopes.in_turn types (targets ds) s)) (sym (begun begins.below))
        (subst (λ l. Stands k (in_turn loop (targets_in ds) names) (scopes.in_turn types l s)) (names_in_order ds) turned) in
        let is_turn : IsInTurn first loop inside =
        subst (λ n. IsInTurn first loop n) (sym (begun begins.below)) (record { names = started.targets; types = started.types; outer = names.olds; is_loop = refl; olds = refl; below = begins.below }) in
        p.holds.holds k (scopes.in_turn types (targets ds) s) whole here loop types is_turn values;
  };
}

pub turn_defs_refused : TurnDefsLaw
turn_defs_refused g f0 f1 names first started l turn rule line used p =
    reaches_so g f0 f1 (BreaksRenewingAt g names first started (out-Turn turn).defs rule line) (BreaksTurnAt g names first started l turn rule line) used p (λ table grows q. record {
      holds = λ begins k s tys whole stands number. parts.BreaksTurnOf.in_defs (q.holds begins k s tys whole stands number);
    })

pub turn_test_refused : TurnTestLaw
turn_test_refused g f0 f1 names first started l turn rule line used p =
    reaches_so g f0 f1 (BreaksOneAt g names (out-Turn turn).test rule line) (BreaksTurnAt g names first started l turn rule line) used p (λ table grows q. record {
      holds = λ begins k s tys whole stands number. parts.in_test (q.holds k s whole stands);
    })

pub not_truth : (k : Known) → IsTable k.forms → (ns : List ℕ) (a : Ty) → Number k ns (a ∷ []) → (ns ≡ 0 ∷ [] → ⊥) → a ≡ ty.Bool → ⊥
not_truth k table [] a p other e = absurd p.each
not_truth k table (n ∷ []) a p other e = other (ap (λ m. m ∷ []) (eqb-true n 0 ((boolean_tells k.forms k.spellings table n a p.each.0).back e)))
not_truth k table (n ∷ m ∷ ns) a p other e = absurd p.each.1

pub truth_refused : TruthLaw
truth_refused g f0 f1 names first started l turn ts ns rule line used table test p =
    reach_later g f0 f1 (BreaksTurnAt g names first started l turn rule line) used (reach_here g f1 (BreaksTurnAt g names first started l turn rule line) table (record {
      holds = λ begins k s tys whole stands number.
          let loop : List (ℕ × scopes.Meaning) = loop_in first started tys in
          let x = test.holds k s whole.agrees stands in
          let o = one_of k (denotes_in g k) s (out-Turn turn).test ts x.tys x.typed in
          subst (λ r. BreaksTurnOf k (denotes_in g k) (misnames_in g k) loop s l turn r line) (sym p.is_rule)
          (subst (λ i. BreaksTurnOf k (denotes_in g k) (misnames_in g k) loop s l turn 23 i) (sym p.is_line)
          (parts.test o.4 (not_truth k whole.agrees.table ns o.1 (subst (λ t. Number k ns t) o.3 x.number) p.false_types)));
    }))

-- ---- loops with turns

rolled_turn : (turn : Turn) → roll-Turn (record { is_first = (out-Turn turn).is_first; is_until = (out-Turn turn).is_until; test = (out-Turn turn).test; defs = (out-Turn turn).defs }) ≡ turn
rolled_turn turn = search (rules, kinds.the_lemmas)

pub initial_defs_refused : InitialDefsLaw
initial_defs_refused g f names l ds turn cs rule line p = record {
  table = p.table;
  used = p.used;
  is_table = p.is_table;
  holds = record {
    holds = λ k s whole stands.
        subst (λ t. Breaks k (denotes_in g k) (misnames_in g k) s (at l (tree.For (loop.Initial ds t cs))) rule line) (rolled_turn turn)
        (in_initial ds (out-Turn turn).defs cs (out-Turn turn).is_first (out-Turn turn).is_until (out-Turn turn).test
        (outside k (denotes_in g k) (misnames_in g k) s ds rule line (p.holds.holds k s whole stands)));
  };
}

module _ (k : Known) (denotes : Written → Ty → Type 0) (misnames : Written → ℕ → ℕ → Type 0) (s inside : scopes.Scope) (l : ℕ) (ds : List Def) (us : List (List TypedExpr)) (first : List Ty) (turn : Turn) (cs : List Clause)
    (defines : Defines k denotes s ds us first inside) where
  rolled_breaks : (rule line : ℕ) → BreaksTurnOf k denotes misnames (loop_of s ds first) inside l turn rule line
      → Breaks k denotes misnames s (at l (tree.For (loop.Initial ds (roll-Turn (record { is_first = (out-Turn turn).is_first; is_until = (out-Turn turn).is_until; test = (out-Turn turn).test; defs = (out-Turn turn).defs })) cs))) rule line
  rolled_breaks rule line (parts.in_test p) = in_loop_test ds (out-Turn turn).defs cs (out-Turn turn).is_first (out-Turn turn).is_until (out-Turn turn).test defines p
  rolled_breaks _ _ (parts.test p e) = loop_test ds (out-Turn turn).defs cs (out-Turn turn).is_first (out-Turn turn).is_until (out-Turn turn).test defines p e
  rolled_breaks rule line (parts.BreaksTurnOf.in_defs (in_defs p)) = in_turn_of ds (out-Turn turn).defs cs (out-Turn turn).is_first (out-Turn turn).is_until (out-Turn turn).test defines p
  rolled_breaks _ _ (parts.BreaksTurnOf.in_defs (renamed {turned = turned} before xs es after {us = vs} {earlier = earlier} e q values pair retyped)) =
      subst (λ d. Breaks k denotes misnames s (at l (tree.For (loop.Initial ds (roll-Turn (record { is_first = (out-Turn turn).is_first; is_until = (out-Turn turn).is_until; test = (out-Turn turn).test; defs = d })) cs)))
      23 (breaks.line_of xs)) (sym e)
      (breaks.retyped ds before xs after es cs (out-Turn turn).is_first (out-Turn turn).is_until (out-Turn turn).test defines
      (subst (λ d. Defines k denotes (scopes.in_turn (loop_of s ds first) (targets d) inside) before vs earlier turned) e q) values pair retyped)

  turn_breaks : (rule line : ℕ) → BreaksTurnOf k denotes misnames (loop_of s ds first) inside l turn rule line → Breaks k denotes misnames s (at l (tree.For (loop.Initial ds turn cs))) rule line
  turn_breaks rule line p = subst (λ t. Breaks k denotes misnames s (at l (tree.For (loop.Initial ds t cs))) rule line) (rolled_turn turn) (rolled_breaks rule line p)

pub initial_turn_refused : InitialTurnLaw
initial_turn_refused g f0 f1 names after l ds started turn cs rule line used defined same_targets p =
    reaches_so g f0 f1 (BreaksTurnAt g after names.height started l turn rule line) (BreaksAt g names (at l (tree.For (loop.Initial ds turn cs))) rule line) used p (λ table grows q. record {
      holds = λ k s whole stands.
          let d = defined.holds k s (agrees_at g f1 table k grows whole) stands in
          let same_names : names_of started.targets ≡ targets ds = ap names_of same_targets ∙ names_in_order ds in
          let begins : IsStarted names.height started after = record {
            below = subst (λ l. AreBelow names.height l) (sym defined.above.olds) stands.below;
            height = (let h = defines_height k (denotes_in g k) s ds started.exprs d.made d.inside d.defines in
                let many = as_many k.forms k.spellings started.types d.made d.number.each in
                let a = d.stands.height in let b = stands.height in omega (arith, h, many, a, b));
            count = defined.count ∙ ap length (sym same_names) ∙ many_names started.targets;
          } in
          let same_loop : loop_in names.height started d.made ≡ loop_of s ds d.made =
          ap (λ n. scopes.loop_names n (names_of started.targets) d.made) stands.height ∙ ap (λ l. scopes.loop_names s.height l d.made) same_names in
          turn_breaks k (denotes_in g k) (misnames_in g k) s d.inside l ds started.exprs d.made turn cs d.defines rule line
          (subst (λ m. BreaksTurnOf k (denotes_in g k) (misnames_in g k) m d.inside l turn rule line) same_loop (q.holds begins k d.inside d.made whole d.stands d.number));
    })

pub initial_clauses_refused : InitialClausesLaw
initial_clauses_refused g f0 f1 names after l ds us ns turn cs rule line used defined p =
    reaches_so g f0 f1 (BreaksClausesAt g after 1 l cs rule line) (BreaksAt g names (at l (tree.For (loop.Initial ds turn cs))) rule line) used p (λ table grows q. record {
      holds = λ k s whole stands.
          let d = defined.holds k s (agrees_at g f1 table k grows whole) stands in
          clauses_break k (denotes_in g k) (misnames_in g k) s d.inside d.made d.defines (q.holds k d.inside whole d.stands);
    })
  where
    clauses_break : (k : Known) (denotes : Written → Ty → Type 0) (misnames : Written → ℕ → ℕ → Type 0) (s inside : scopes.Scope) (made : List Ty) → Defines k denotes s ds us made inside
        → BreaksClauses k denotes misnames inside 1 l cs rule line → Breaks k denotes misnames s (at l (tree.For (loop.Initial ds turn cs))) rule line
    clauses_break k denotes misnames s inside made defines (parts.one_of c there b) =
        subst (λ t. Breaks k denotes misnames s (at l (tree.For (loop.Initial ds t cs))) rule line) (rolled_turn turn)
        (in_loop_clauses ds (out-Turn turn).defs cs c (out-Turn turn).is_first (out-Turn turn).is_until (out-Turn turn).test defines there b)
