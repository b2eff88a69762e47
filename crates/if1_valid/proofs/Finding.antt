-- The number of each function of a list is that of one.
use Rattle.std.proofs.Common.{◌≡◌, ℕ, Bool, true, false, List, [], ◌∷◌, Some, inl, inr, is_some, cond, eqb, Contains, refl, sym, ap, ◌∙◌}
use Rattle.std.proofs.lemmas.Bool.{eq-eqb}
use Rattle.if1_graph.specs.declared.graph.Graph.{Graph}
use Rattle.if1_graph.specs.declared.graph.Graph.TheViews.{out-Graph}
use Rattle.if1_order.proofs.Members.{contains_none, contains_cases}
use Rattle.if1_valid.specs.Params.{function_in}

abbrev number : Graph → ℕ
number g = (out-Graph g).number

pub has_function : (gs : List Graph) (g : Graph) → Contains gs g → is_some (function_in gs (number g)) ≡ true
has_function [] g h = contains_none g h
has_function (f ∷ gs) g h = by (eqb (number f) (number g)) refl (has_function gs g)
  where
    by : (b : Bool) → eqb (number f) (number g) ≡ b → (Contains gs g → is_some (function_in gs (number g)) ≡ true) →
        is_some (cond b (Some f) (function_in gs (number g))) ≡ true
    by true e rest = refl
    by false e rest =
        elim (contains_cases f gs g h) [
          | inl same ↦ let e : true ≡ false = sym (eq-eqb (number f) (number g) (ap number same)) ∙ e in cc
          | inr there ↦ rest there
        ]
