-- The arm of a `tagcase` that a union takes.
use Rattle.std.proofs.Common.{◌≡◌, ℕ, zero, suc, Bool, true, false, List, [], ◌∷◌, ◌++◌, Option, Some, None, slice_get, refl, ap, sym, subst, ◌∙◌, arith, ◌+◌, ◌<◌}
use Rattle.std.specs.Prelude.{nat_lt, if◌then◌else◌}
use Rattle.std.proofs.lemmas.Bool.{le-ltb, ltb-true, ltb-false}
use Rattle.flow_value.specs.declared.value.Val.{Val}
use Rattle.flow_value.specs.declared.cause.Cause.TheVariants as cause
use Rattle.flow_value.specs.declared.ty.Ty.{Ty}
use Rattle.flow_value.specs.Well.{is_well_tag}
use Rattle.typed_tree.specs.declared.expr.Case.{Case}
use Rattle.typed_tree.specs.Types.{Member}
use Rattle.meaning.specs.Timed.{given}
use Rattle.meaning.specs.Words.{failed}
use Rattle.meaning.specs.Meaning.{Gives, with_content, arm_in, arm_place}
use Rattle.fitting_units.specs.Fitting.{TagsFit}
use Rattle.typed_rows.specs.Rows.{Of}
use Rattle.typed_values.proofs.Texts.{lt-nat}

-- the arm at a place, which sees the content where it is one of the first so many
abbrev pub arm_here : ℕ → ℕ → Option Gives → ℕ → Val → Gives
arm_here named k None place v env = given (failed k cause.Tag)
arm_here named k (Some g) place v env = g (with_content named place v env)

pub as_here : (c : Case) (k : ℕ) (o : Option Gives) (place : ℕ) (v : Val) (env : List Val) → arm_in c k o place v env ≡ arm_here c.named k o place v env
as_here c k None place v env = refl
as_here c k (Some g) place v env = refl

pub first_content : (named : ℕ) (v : Val) (env : List Val) → with_content (suc named) zero v env ≡ env ++ (v ∷ [])
first_content named v env = rw (lt-nat 0 (suc named) (omega arith)) refl

pub no_content : (place : ℕ) (v : Val) (env : List Val) → with_content 0 place v env ≡ env
no_content place v env = rw (le-ltb place 0 (omega arith)) refl

lt_later : (a b : ℕ) → nat_lt (suc a) (suc b) ≡ nat_lt a b
lt_later a b = by (nat_lt a b) refl
  where
    by : (c : Bool) → nat_lt a b ≡ c → nat_lt (suc a) (suc b) ≡ c
    by true e = let l = ltb-true a b e in lt-nat (suc a) (suc b) (omega (arith, l))
    by false e = let l = ltb-false a b e in le-ltb (suc a) (suc b) (omega (arith, l))

pub later_content : (named place : ℕ) (v : Val) (env : List Val) → with_content (suc named) (suc place) v env ≡ with_content named place v env
later_content named place v env = ap (λ b. if b then env ++ v ∷ [] else env) (lt_later place named)

pub later_arm : (named k : ℕ) (o : Option Gives) (place : ℕ) (v : Val) (env : List Val) → arm_here (suc named) k o (suc place) v env ≡ arm_here named k o place v env
later_arm named k None place v env = refl
later_arm named k (Some g) place v env = ap g (later_content named place v env)

pub later_unseen : (k : ℕ) (o : Option Gives) (place : ℕ) (v : Val) (env : List Val) → arm_here 0 k o (suc place) v env ≡ arm_here 0 k o place v env
later_unseen k None place v env = refl
later_unseen k (Some g) place v env = ap g (no_content (suc place) v env ∙ sym (no_content place v env))

-- the arm of a tag is there, and what it may see
pub place_there : (arms : ℕ) (contents : List Ty) (c : Case) (from : ℕ) (ms : List Member) → TagsFit arms contents c from ms → (tag j : ℕ) (v : Val) → j ≡ from + tag → is_well_tag ms tag v ≡ true
    → (arm_place c.choices c.others j < arms) × ((a : Ty) → slice_get contents (arm_place c.choices c.others j) ≡ Some a → Of a v)
place_there arms contents c from [] t tag j v e q = absurd cc
place_there arms contents c from (m ∷ ms) t zero j v e q =
    let same : from ≡ j = omega (arith, e) in
    (subst (λ z. arm_place c.choices c.others z < arms) same t.0, λ a f. subst (λ b. Of b v) (sym (t.1 a (subst (λ z. slice_get contents (arm_place c.choices c.others z) ≡ Some a) (sym same) f))) q)
place_there arms contents c from (m ∷ ms) t (suc tag) j v e q = place_there arms contents c (suc from) ms t.2 tag j v (omega (arith, e)) q
