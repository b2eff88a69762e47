-- What a compound node gives and fires, by the graphs that it enters.
use Rattle.std.proofs.Common.{◌≡◌, ℕ, zero, suc, ◌+◌, ◌≤◌, true, false, List, ◌∷◌, map, replicate, refl, ap, arith}
use Rattle.flow_value.specs.declared.value.Val.TheVariants as val
use Rattle.flow_value.specs.declared.cause.Cause.{Cause}
use Rattle.graph_meaning.specs.Carried.{Carried, Value}
use Rattle.graph_meaning.specs.Forms.{Form, Next, Stage, Enter, Leave, follow}
use Rattle.graph_meaning.specs.Demand.{Network}
use Rattle.graph_meaning.specs.Plain.{is_deeper, leaves, enters, enters_deeper, of_leaving, of_graph, of_deeper}
use Rattle.loop_columns.specs.Parts.{GraphGives, Goes}
use Rattle.loop_columns.proofs.From.{always, after, both, deeper}

-- the errors of a node that fails are those of so many values
pub errors-are : (n : ℕ) (c : Cause) → replicate n (Value (val.Err c)) ≡ map Value (replicate n (val.Err c))
errors-are zero c = refl
errors-are (suc n) c = ap (λ cs. Value (val.Err c) ∷ cs) (errors-are n c)

module _ (u : Network) where
  pub gives-more : (g : ℕ) (ins rs : List Carried) (j k : ℕ) → j ≤ k → GraphGives u g ins rs j → GraphGives u g ins rs k
  gives-more g ins rs j k le a = record { cost = a.cost; fires = a.fires; bound = omega (arith, a.bound, le); means = a.means }

  pub goes-more : (form : Form) (ks : List Carried) (next : Next) (rs : List Carried) (j k : ℕ) → j ≤ k → Goes u form ks next rs j → Goes u form ks next rs k
  goes-more form ks next rs j k le a = record { cost = a.cost; leads = a.leads; fires = a.fires; bound = omega (arith, a.bound, le) }

  pub goes-leave : (form : Form) (ks rs : List Carried) → Goes u form ks (Leave rs) rs 0
  goes-leave form ks rs = record { cost = 0; leads = always _ (λ n. leaves n form ks rs); fires = always _ (λ n. of_leaving n form ks rs); bound = omega arith }

  pub goes-enter : (form : Form) (ks : List Carried) (g : ℕ) (ins : List Carried) (stage : Stage) (ms rs : List Carried) (j k : ℕ)
      → is_deeper form false ≡ false → GraphGives u g ins ms j → Goes u form ks (follow form ks stage ms) rs k → Goes u form ks (Enter false g ins stage) rs (j + k)
  goes-enter form ks g ins stage ms rs j k d a b = record {
    cost = 0 + (a.cost + b.cost);
    leads = after _ _ (both _ _ a.means b.leads) (λ n h. enters n form ks false g ins stage ms rs d h.0 h.1);
    fires = after _ _ (both _ _ a.fires (both _ _ a.means b.fires)) (λ n h. of_graph n form ks false g ins stage ms a.cost b.cost d h.0 h.1.0 h.1.1);
    bound = omega (arith, a.bound, b.bound);
  }

  -- a turn
  pub goes-turn : (form : Form) (ks : List Carried) (g : ℕ) (ins : List Carried) (stage : Stage) (ms rs : List Carried) (j k : ℕ)
      → is_deeper form true ≡ true → GraphGives u g ins ms j → Goes u form ks (follow form ks stage ms) rs k → Goes u form ks (Enter true g ins stage) rs (1 + (j + k))
  goes-turn form ks g ins stage ms rs j k d a b = record {
    cost = 1 + (a.cost + b.cost);
    leads = deeper _ _ (both _ _ a.means b.leads) (λ n h. enters_deeper n form ks true g ins stage ms rs d h.0 h.1);
    fires = deeper _ _ (both _ _ a.fires (both _ _ a.means b.fires)) (λ n h. of_deeper n form ks true g ins stage ms a.cost b.cost d h.0 h.1.0 h.1.1);
    bound = omega (arith, a.bound, b.bound);
  }
