-- A number is used, becomes free, or is new.
use Rattle.std.proofs.Common.{◌≡◌, ◌≢◌, ℕ, ◌+◌, ◌<◌, ◌≤◌, List, [], ◌∷◌, ◌++◌, length, get_or, set, Option, None, is_some, Bool, cond, refl, sym, ap, subst, ◌∙◌, arith, length-set, length-append, true, true≢false}
use Rattle.std.proofs.Math.Seq.{get_or-append_seam}
use Rattle.std.proofs.lemmas.List.{get_or_append_left, get_or-set_other}
use Rattle.std.proofs.lemmas.List.Sums.{sum_by-set}
use mathlib.Core.Logic.{dite}
use native.Mathlib.Decide.{dec_le}
use Rattle.agg_pool.specs.Tables.{slot_at, used, IsTable}

module _ {Y : Type 0} where
  abbrev one : Option Y → ℕ
  one o = cond (is_some o) 1 0

  abbrev pub Is : Option Y → Type 0
  Is o = is_some o ≡ true

  is_vacant : (o : Option Y) → Is o → o ≡ None → ⊥
  is_vacant o some none = true≢false (sym some ∙ ap is_some none)

  -- past the end there is nothing
  pub beyond : (slots : List (Option Y)) (n : ℕ) → length slots ≤ n → slot_at slots n ≡ None
  beyond [] n far = refl
  beyond (o ∷ slots) Prim.Native.Nat.zero far = absurd (omega arith)
  beyond (o ∷ slots) (Prim.Native.Nat.suc n) far = beyond slots n (omega arith)

  pub within : (slots : List (Option Y)) (n : ℕ) → Is (slot_at slots n) → n < length slots
  within slots n some = dite (dec_le (length slots) n) (λ far. absurd (is_vacant (slot_at slots n) some (beyond slots n far))) (λ near. omega arith)

  module _ (slots : List (Option Y)) where
    set_used : (k : ℕ) (o : Option Y) → k < length slots → used (set slots k o) + one (slot_at slots k) ≡ used slots + one o
    set_used k o near = sum_by-set one slots k o None near

    abbrev at : List ℕ → ℕ → ℕ
    at free i = get_or free i 0

    -- a vacant number stays so when another is set
    stays : (k : ℕ) (o : Option Y) (m : ℕ) → m ≢ k → (m < length slots) × (slot_at slots m ≡ None) → (m < length (set slots k o)) × (slot_at (set slots k o) m ≡ None)
    stays k o m other was = (subst (λ (n : ℕ). m < n) (sym (length-set slots k o)) was.0, get_or-set_other slots k m o None other ∙ was.1)

    -- an entry changes
    pub swaps : (free : List ℕ) (k : ℕ) (o : Option Y) → Is (slot_at slots k) → Is o → IsTable slots free → IsTable (set slots k o) free
    swaps free k o was is t =
        let near = within slots k was in
        let sums : used (set slots k o) + 1 ≡ used slots + 1 = ap (λ (y : Bool). used (set slots k o) + cond y 1 0) (sym was) ∙ set_used k o near ∙ ap (λ (y : Bool). used slots + cond y 1 0) is in
        let long = length-set slots k o in
        let all = t.all in
        record {
          all = omega arith;
          vacant = λ i lt. let v = t.vacant i lt in stays k o (at free i) (λ e. is_vacant (slot_at slots k) was (ap (slot_at slots) (sym e) ∙ v.1)) v;
          differ = t.differ;
        }

    module _ (free : List ℕ) (k : ℕ) where
      abbrev more : List ℕ
      more = free ++ k ∷ []

      more_long : length more ≡ length free + 1
      more_long = length-append free (k ∷ [])

      last : at more (length free) ≡ k
      last = get_or-append_seam free k [] 0

      early : (i : ℕ) → i < length free → at more i ≡ at free i
      early i lt = get_or_append_left free (k ∷ []) 0 i lt

      -- the last free number is used
      pub puts : (o : Option Y) → Is o → IsTable slots more → IsTable (set slots k o) free × (slot_at slots k ≡ None) × (k < length slots)
      puts o is t =
          let long = more_long in
          let v = t.vacant (length free) (omega arith) in
          let near : k < length slots = subst (λ (j : ℕ). j < length slots) last v.0 in
          let none : slot_at slots k ≡ None = ap (slot_at slots) (sym last) ∙ v.1 in
          let sums : used (set slots k o) + 0 ≡ used slots + 1 = ap (λ (z : Option Y). used (set slots k o) + one z) (sym none) ∙ set_used k o near ∙ ap (λ (y : Bool). used slots + cond y 1 0) is in
          let same = length-set slots k o in
          let all = t.all in (
            record {
              all = omega arith;
              vacant = λ i lt.
                  let w = t.vacant i (omega arith) in
                  let other : at free i ≢ k = λ e. t.differ i (length free) lt (omega arith) (early i lt ∙ e ∙ sym last) in
                  stays k o (at free i) other (subst (λ (j : ℕ). (j < length slots) × (slot_at slots j ≡ None)) (early i lt) w);
              differ = λ i j a b e. t.differ i j a (omega arith) (early i (omega arith) ∙ e ∙ sym (early j b));
            },
            none,
            near,
          )

-- to a reader an empty number at the end is nothing new
pub same_end : {Y : Type 0} (slots : List (Option Y)) (m : ℕ) → slot_at (slots ++ None ∷ []) m ≡ slot_at slots m
same_end [] Prim.Native.Nat.zero = refl
same_end [] (Prim.Native.Nat.suc m) = refl
same_end (o ∷ slots) Prim.Native.Nat.zero = refl
same_end (o ∷ slots) (Prim.Native.Nat.suc m) = same_end slots m
