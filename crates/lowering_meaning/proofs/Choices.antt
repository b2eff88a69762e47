-- A node that chooses: what it gives and fires, by the graphs inside.
use Rattle.std.proofs.Common.{◌≡◌, ℕ, zero, suc, ◌+◌, ◌≤◌, false, List, [], ◌∷◌, map, slice_get, Some, pos, refl, sym, ap, subst, arith, replicate}
use Rattle.flow_value.specs.declared.value.Val.{Val}
use Rattle.flow_value.specs.declared.value.Val.TheVariants as val
use Rattle.flow_value.specs.declared.cause.Cause.{Cause}
use Rattle.graph_meaning.specs.Carried.{Carried, Value}
use Rattle.lowering_meaning.proofs.Told.{Telling}
use Rattle.graph_meaning.specs.Forms.{Form, Select, Next, Stage, Enter, Leave, Chosen, Selecting, first, next_of, follow, enter_chosen}
use Rattle.graph_meaning.specs.Demand.{Network}
use Rattle.graph_meaning.specs.Plain.{is_deeper, Leads, leaves, enters, LaterFires, of_leaving, of_graph}
use Rattle.lowering_meaning.proofs.From.{From, always, after, both}
use Rattle.lowering_meaning.proofs.Inside.{Gives}

-- the errors of a node that fails are those of so many values
pub errors-are : (n : ℕ) (c : Cause) → replicate n (Value (val.Err c)) ≡ map Value (replicate n (val.Err c))
errors-are zero c = refl
errors-are (suc n) c = ap (λ cs. Value (val.Err c) ∷ cs) (errors-are n c)

module _ (u : Network) (number : ℕ → ℕ) (shape : Telling) where
  -- what a node of this form has from here on, and what it fires from here on
  pub record Goes (form : Form) (ks : List Carried) (next : Next) (rs : List Carried) (limit : ℕ) : Type 0 where
    pub cost : ℕ
    pub leads : From (λ m. Leads u m form ks next rs)
    pub fires : From (λ m. LaterFires u m form ks next cost)
    pub bound : cost ≤ limit

  pub goes-leave : (form : Form) (ks rs : List Carried) → Goes form ks (Leave rs) rs 0
  goes-leave form ks rs = record { cost = 0; leads = always _ (λ m. leaves m form ks rs); fires = always _ (λ m. of_leaving m form ks rs); bound = omega arith }

  pub goes-enter : (form : Form) (ks : List Carried) (g : ℕ) (ins : List Carried) (stage : Stage) (ms : List Carried) (rs : List Carried) (j k : ℕ)
      → is_deeper form false ≡ false → Gives u number shape g ins ms j → Goes form ks (follow form ks stage ms) rs k → Goes form ks (Enter false g ins stage) rs (j + k)
  goes-enter form ks g ins stage ms rs j k d a b = record {
    cost = 0 + (a.cost + b.cost);
    leads = after _ _ (both _ _ a.means b.leads) (λ m h. enters m form ks false g ins stage ms rs d h.0 h.1);
    fires = after _ _ (both _ _ a.fires (both _ _ a.means b.fires)) (λ m h. of_graph m form ks false g ins stage ms a.cost b.cost d h.0 h.1.0 h.1.1);
    bound = omega (arith, a.bound, b.bound);
  }

  -- a Select whose selector gives a number leads to that alternative
  pub goes-select : (q a b n : ℕ) (ks : List Carried) (v : Val) (g : ℕ) (i : ℕ) (vs : List Val) (j k : ℕ)
      → v ≡ val.Int (pos i) → slice_get (a ∷ b ∷ []) i ≡ Some g
      → Gives u number shape q ks (Value v ∷ []) j → Gives u number shape g ks (map Value vs) k
      → Goes (Select q (a ∷ b ∷ []) n) ks (next_of (first (Select q (a ∷ b ∷ []) n) ks)) (map Value vs) (j + (k + 0))
  goes-select q a b n ks v g i vs j k e f x y =
      let form = Select q (a ∷ b ∷ []) n in
      goes-enter form ks q ks Selecting (Value v ∷ []) (map Value vs) j (k + 0) refl x
      (subst (λ w. Goes form ks (follow form ks Selecting (Value w ∷ [])) (map Value vs) (k + 0)) (sym e)
      (subst (λ o. Goes form ks (enter_chosen form ks o) (map Value vs) (k + 0)) (sym f)
      (goes-enter form ks g ks Chosen (map Value vs) (map Value vs) k 0 refl y (goes-leave form ks (map Value vs)))))

  pub goes-failed : (q a b n : ℕ) (ks : List Carried) (v : Val) (c : Cause) (j : ℕ)
      → v ≡ val.Err c → Gives u number shape q ks (Value v ∷ []) j
      → Goes (Select q (a ∷ b ∷ []) n) ks (next_of (first (Select q (a ∷ b ∷ []) n) ks)) (map Value (replicate n (val.Err c))) (j + 0)
  goes-failed q a b n ks v c j e x =
      let form = Select q (a ∷ b ∷ []) n in
      goes-enter form ks q ks Selecting (Value v ∷ []) _ j 0 refl x
      (subst (λ w. Goes form ks (follow form ks Selecting (Value w ∷ [])) (map Value (replicate n (val.Err c))) 0) (sym e)
      (subst (λ rs. Goes form ks (Leave (replicate n (Value (val.Err c)))) rs 0) (errors-are n c) (goes-leave form ks (replicate n (Value (val.Err c))))))
