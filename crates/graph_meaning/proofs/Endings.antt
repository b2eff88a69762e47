-- How a legal history ends.
use Rattle.std.proofs.Common.{◌≡◌, ℕ, ◌<◌, ◌≤◌, Bool, true, false, ◌||◌, [], ◌∷◌, Option, Some, ◌⊎◌, inl, inr, refl, sym, ◌∙◌, arith}
use Rattle.graph_meaning.specs.Entered.{Item, Has, firings, all_firings, IsDistinct}
use Rattle.graph_meaning.specs.Histories.{Run, Exists, OwnFirings, Made, OverLimit, NoMemory, EndKind, Results, TurnLimit, OutOfMemory, Claim, Idle, Ended, Finish, History, is_item, count, is_finished, is_made, AllMade, HasEnded, IsOn, ClaimEnds, Legal}
use Rattle.graph_meaning.proofs.ItemSums.{total-same}
use Rattle.graph_meaning.proofs.Counting.{Stage, Waiting, Running, Done, Failed, spent, stage, count-spent, count-below, claim-below, own-below, unique-own, claimed-exists}

or-mono : (a b c : Bool) → (b ≡ true → c ≡ true) → a || b ≡ true → a || c ≡ true
or-mono true b c f m = refl
or-mono false b c f m = f m

pub made-finished : (h : History) (i : Item) → is_made h i ≡ true → is_finished h i ≡ true
made-finished [] i m = m
made-finished (Claim w j ∷ h) i m = made-finished h i m
made-finished (Idle w ∷ h) i m = made-finished h i m
made-finished (Ended w k ∷ h) i m = made-finished h i m
made-finished (Finish w j (Made n) ∷ h) i m = or-mono (is_item i j) (is_made h i) (is_finished h i) (made-finished h i) m
made-finished (Finish w j OverLimit ∷ h) i m = let x = made-finished h i m in grind (arith, x)
made-finished (Finish w j NoMemory ∷ h) i m = let x = made-finished h i m in grind (arith, x)

no-results : (kind : EndKind) → Results ≡ kind → (run : Run) (limit : ℕ) (h : History) → ClaimEnds run limit h kind → ⊥
no-results Results e run limit h c = c
no-results TurnLimit e run limit h c = cc
no-results OutOfMemory e run limit h c = cc

-- once the results are there, nothing changes
pub results-stand : (run : Run) (limit : ℕ) (h : History) → Legal run limit h → HasEnded run limit h Results → (count h ≤ limit) × AllMade run h
results-stand run limit [] g e = (omega arith, e.1)
results-stand run limit (Claim w i ∷ h) g (inl e) = absurd (g.1.0 Results e)
results-stand run limit (Idle w ∷ h) g (inl e) = absurd (g.1.0 Results e)
results-stand run limit (Ended w k ∷ h) g (inl e) = results-stand run limit h g.0 e
results-stand run limit (Finish w i o ∷ h) g (inl e) =
    let all = (results-stand run limit h g.0 e).1 in
    let x = made-finished h i (all i (claimed-exists run limit h g.0 w i g.1.0)) in
    absurd (let y = g.1.1 in grind (arith, x, y))
results-stand run limit (Claim w i ∷ h) g (inr e) = absurd e.1
results-stand run limit (Idle w ∷ h) g (inr e) = absurd e.1
results-stand run limit (Ended w k ∷ h) g (inr e) = absurd (⊎_elim' g.1)
  where
    ⊎_elim' : HasEnded run limit h k ⊎ (IsOn run limit h × ClaimEnds run limit h k) → ⊥
    ⊎_elim' (inl x) = e.0 k x
    ⊎_elim' (inr x) = no-results k e.1 run limit h x.1
results-stand run limit (Finish w i (Made n) ∷ h) g (inr e) = e.1
results-stand run limit (Finish w i OverLimit ∷ h) g (inr e) = absurd e.1
results-stand run limit (Finish w i NoMemory ∷ h) g (inr e) = absurd e.1

module _ (run : Run) (limit N : ℕ) (distinct : IsDistinct (run N)) (items : (i : Item) → Exists run i → (c : ℕ) × Has (run N) i (Some c)) (own : (i : Item) (n : ℕ) → OwnFirings run i n → Has (run N) i (Some n)) where
  claim-over : (kind : EndKind) → TurnLimit ≡ kind → (h : History) → Legal run limit h → ClaimEnds run limit h kind → limit < all_firings (run N)
  claim-over Results e h g c = absurd c
  claim-over TurnLimit e h g c = omega (arith, claim-below run limit N distinct items own h g c.0 c.1, c.2)
  claim-over OutOfMemory e h g c = absurd cc

  -- a history ends with TurnLimit only where the firings pass the limit
  pub limit-passed : (h : History) → Legal run limit h → HasEnded run limit h TurnLimit → limit < all_firings (run N)
  limit-passed [] g e = absurd (let x = e.0 in cc)
  limit-passed (e ∷ h) g (inl x) = limit-passed h g.0 x
  limit-passed (Claim w i ∷ h) g (inr x) = absurd x.1
  limit-passed (Idle w ∷ h) g (inr x) = absurd x.1
  limit-passed (Ended w k ∷ h) g (inr x) = go g.1
    where
      go : HasEnded run limit h k ⊎ (IsOn run limit h × ClaimEnds run limit h k) → limit < all_firings (run N)
      go (inl y) = absurd (x.0 k y)
      go (inr y) = claim-over k x.1 h g.0 y.1
  limit-passed (Finish w i (Made n) ∷ h) g (inr x) = omega (arith, count-below run limit N distinct items own (Finish w i (Made n) ∷ h) g, x.1)
  limit-passed (Finish w i OverLimit ∷ h) g (inr x) =
      let has = items i (claimed-exists run limit h g.0 w i g.1.0) in
      omega (arith, g.1.2.1 has.0 (N, has.1), own-below run limit N distinct items own i has.0 has.1)
  limit-passed (Finish w i NoMemory ∷ h) g (inr x) = absurd x.1

  -- where all items are made, the count is the number of firings
  pub all-counted : (h : History) → Legal run limit h → AllMade run h → count h ≡ all_firings (run N)
  all-counted h g all = count-spent run limit N distinct items own h g ∙ total-same (run N) (λ i w. spent h i) firings each
    where
      done : (i : Item) (c : ℕ) → is_made h i ≡ true → Stage h i c → spent h i ≡ c
      done i c m (Waiting x y z u) = absurd (grind (arith, m))
      done i c m (Running x y z u) = absurd (grind (arith, m))
      done i c m (Done x y z u) = u
      done i c m (Failed x y z u) = absurd (grind (arith, m))

      each : (i : Item) (w : Option ℕ) → Has (run N) i w → spent h i ≡ firings i w
      each i w has =
          let c = items i (N, w, has) in
          let s = done i c.0 (all i (N, w, has)) (stage run limit N distinct items own h g i c.0 c.1) in
          s ∙ sym (unique-own run limit N distinct items own i w c.0 has c.1)
