-- A type without reals, by a look at all its parts.
use Rattle.std.proofs.Common.{◌≡◌, ℕ, zero, suc, Bool, true, false, List, Option, Some, None, refl, subst, if◌then◌else◌, not, ◌&&◌, inl, inr}
use Rattle.if1_graph.specs.declared.graph.TypeEntry.{TypeEntry}
use Rattle.if1_graph.specs.Kinds.{kind_at, basic_at}
use Rattle.if1_graph.specs.Types.{entry_at}
use Rattle.if1_graph.specs.Formed.{is_real, is_basic, HasReal, itself, within}

abbrev free_by : (ℕ → Bool) → Option TypeEntry → Bool
free_by free None = true
free_by free (Some e) = if is_basic (kind_at e.code) then not (is_real (basic_at e.first)) else free e.first && free e.second

-- no type within so many levels is real
abbrev pub free : ℕ → List TypeEntry → ℕ → Bool
free zero ts l = false
free (suc n) ts l = free_by (free n ts) (entry_at ts l)

and-left : (a b : Bool) → (a && b) ≡ true → a ≡ true
and-left true b e = refl
and-left false b e = e

and-right : (a b : Bool) → (a && b) ≡ true → b ≡ true
and-right true b e = e
and-right false b e = cc

not-real : (b c : Bool) (d : Bool) → b ≡ true → c ≡ true → (if b then not c else d) ≡ true → ⊥
not-real b c d p q e = cc

is-part : (b c d : Bool) → b ≡ false → (if b then c else d) ≡ true → d ≡ true
is-part true c d p e = cc
is-part false c d p e = e

pub free-of-reals : (ts : List TypeEntry) (n l : ℕ) → free n ts l ≡ true → HasReal ts l → ⊥
free-of-reals ts zero l f h = cc
free-of-reals ts (suc n) l f (itself r) =
    not-real (is_basic (kind_at r.entry.code)) (is_real (basic_at r.entry.first)) _ r.basic_kind r.real_code (subst (λ o. free_by (free n ts) o ≡ true) r.found f)
free-of-reals ts (suc n) l f (within h s) =
    let g = is-part (is_basic (kind_at h.entry.code)) _ (free n ts h.entry.first && free n ts h.entry.second) h.no_basic (subst (λ o. free_by (free n ts) o ≡ true) h.found f) in
    elim h.part [
      | inl e ↦ free-of-reals ts n _ (subst (λ m. free n ts m ≡ true) e (and-left (free n ts h.entry.first) (free n ts h.entry.second) g)) s
      | inr e ↦ free-of-reals ts n _ (subst (λ m. free n ts m ≡ true) e (and-right (free n ts h.entry.first) (free n ts h.entry.second) g)) s
    ]
