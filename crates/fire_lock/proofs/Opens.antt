-- The table of a new lock keeps the rule.
use Rattle.std.proofs.Common.{◌≡◌, ℕ, ◌<◌, [], ◌∷◌, sym, refl, ap, ◌∙◌, subst, arith, le_refl, unwrap_or, None}
use Rattle.atomic_table.specs.Table.{opening}
use Rattle.fire_lock.specs.declared.view.Place.{Place}
use Rattle.fire_lock.specs.Rules.{first, Fits, Kept}
use Rattle.fire_lock.proofs.Lists.{only, not_none}
use Rattle.fire_lock.proofs.Owned.{seen_all}

pub opens_it : {M E R : Type 0} (starts : M → Type 0) (plays : M → ℕ → E → R → M → Type 0) (passes : ℕ) (m : M) (p : Place M E R) → p.machine ≡ m → starts m → 0 < passes
    → Kept starts plays passes m (opening (0 ∷ 0 ∷ 0 ∷ 0 ∷ 0 ∷ []) (p ∷ []) (first passes m))
opens_it {M} {E} {R} starts plays passes m p same begun some_passes = record {
  log = [];
  now = m;
  held = 0;
  holder = 0;
  counts = 0 ∷ 0 ∷ 0 ∷ 0 ∷ [];
  words = refl;
  bit = omega arith;
  began = begun;
  led = refl;
  home = λ _. (p, refl, same);
  owner = λ z. absurd (omega arith);
  each = λ j v e. subst (Fits [] m m 0 0 passes j) (only (first passes m) j v e).1 (record {
    seen = seen_all 0 passes [];
    start = λ k e. ap (λ o. unwrap_or o m) (sym e);
    turn = λ k e. not_none None k refl e;
    halves = λ h e. not_none None h refl e;
    until = le_refl passes;
  });
  single = λ i j n v w a b p q. (only (first passes m) i v a).0 ∙ sym (only (first passes m) j w b).0;
  all = refl;
}
