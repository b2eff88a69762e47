-- A `Block` holds the values in its places, in their order.
use Rattle.std.specs.Prelude.{◌≡◌, ℕ, suc, ◌*◌, ◌^◌, List, [], ◌∷◌, map, length, Option, Some, None}
use Rattle.std.specs.Vec.Ownership.{owns_if, has_block}
use Rattle.std.specs.Vec.Recursive.{lies_placed, lent_at_placed, codes_placed}
use Rattle.std.specs.declared.alloc.Global.{Global}
use Rattle.std.specs.contracts.impls.GlobalAllocator.TheImpl.{ghosts}
use mathlib.Core.Path.{refl, ap, ◌∙◌}
use mathlib.Core.Logic.{◌⊎◌, inl, inr}
use mathlib.Core.Former.{Former, this, const, pair, or, list, via}
use base.Stored.{Gv, gcons}
use base.Fml.{fsep, fex, flt}
use mir.Syntax.{ty_array}
use mir.Raw.{raw}
use prog.Memory.{size}
use denote.RattleType.{RattleType}
use denote.Memory.{lone}
use denote.RawPtr.{Ptr, null_ptr, room_for, in_block, ◌+ₚ◌}
use denote.Sharing.{said, beside}
use denote.Struct.Struct.{Struct}
use denote.Struct.Owning.{shape, to}
use denote.HoleLaws.{Alike}
use denote.HolePlaces.{Recodes}
use denote.Param.Weighed.{Weighed, w_const, w_pair, w_or, w_list, w_via}
use base.Fraction.{full_share}
use Rattle.std.specs.Coded.{coded_option}
use Rattle.segment.specs.Runs.{bytes_of, place_owns, places_own, run_owns}
use Rattle.flow_value.specs.declared.block.Block.{Block}
use Rattle.flow_value.specs.contracts.block.Block as contract
use Rattle.flow_value.specs.Ownership.{here, freed, block_owns, place_lent, places_lent, block_lent}

-- a value or none, as a former has it
module _ {X : Type 0} where
  abbrev pub as_sum : Option X → X ⊎ Unit {0}
  as_sum (Some x) = inl x
  as_sum None = inr tt

  abbrev pub as_option : X ⊎ Unit {0} → Option X
  as_option (inl x) = Some x
  as_option (inr u) = None

  pub option_same : (c : Option X) → as_option (as_sum c) ≡ c
  option_same (Some x) = refl
  option_same None = refl

  pub sum_same : (s : X ⊎ Unit {0}) → as_sum (as_option s) ≡ s
  sum_same (inl x) = refl
  sum_same (inr u) = refl

abbrev pub maybe : Former {0} → Former {0}
maybe g = via (or g (const (Unit {0}))) (λ X. Option (g.Of X)) (λ X. as_sum) (λ X. as_option) (λ X. option_same) (λ X. sum_same)

abbrev pub w_maybe : {g : Former {0}} → Weighed g → Weighed (maybe g)
w_maybe {g} w = w_via (w_or w (w_const (Unit {0}))) (λ X. Option (g.Of X)) (λ X. as_sum) (λ X. as_option) (λ X. option_same) (λ X. sum_same)

-- where the block is and how much it has room for, and what is in it
abbrev pub apart : {X : Type 0} → Block X → (Ptr × ℕ) × List (Option X)
apart b = ((b.at, b.room), b.places)

abbrev pub joined : {X : Type 0} → (Ptr × ℕ) × List (Option X) → Block X
joined v = record { at = v.0.0; room = v.0.1; places = v.1 }

abbrev pub the_former : Former {0} → Former {0}
the_former g = via (pair (const (Ptr × ℕ)) (list (maybe g))) (λ X. Block (g.Of X)) (λ X. apart) (λ X. joined) (λ X b. refl) (λ X v. refl)

abbrev pub the_weighed : {g : Former {0}} → Weighed g → Weighed (the_former g)
the_weighed {g} w = w_via (w_pair (w_const (Ptr × ℕ)) (w_list (w_maybe w))) (λ X. Block (g.Of X)) (λ X. apart) (λ X. joined) (λ X b. refl) (λ X v. refl)

pub the_empty : Block ⊥
the_empty = record { at = null_ptr; room = 0; places = [] }

-- the same places with other values
abbrev pub turned : {X Y : Type 0} → (X → Y) → Option X → Option Y
turned {X} {Y} h = (maybe this).map X Y h

abbrev pub mapped : {X Y : Type 0} → (X → Y) → Block X → Block Y
mapped {X} {Y} h = (the_former this).map X Y h

-- a stored pair is the same if its parts are
with_head : {a b head : Gv} → a ≡ b → gcons head a ≡ gcons head b
with_head {head = head} same = ap (gcons head) same

with_tail : {a b tail : Gv} → a ≡ b → gcons a tail ≡ gcons b tail
with_tail {tail = tail} same = ap (λ g. gcons g tail) same

module _ (R S : RattleType) (h : R.Denot → S.Denot) where
  module _ (alike : Alike R S h) where
    wide : bytes_of S ≡ bytes_of R
    wide = λ i. size (lone (alike.mir_same i))

    place_same : (p : Ptr) (c : Option R.Denot) → place_owns S p (here (turned h c)) ≡ place_owns R p (here c)
    place_same p (Some x) = lies_placed R S h alike full_share p x
    place_same p None = λ i. room_for (raw (lone (alike.mir_same i))) p

    places_same : (p : Ptr) (cs : List (Option R.Denot)) → places_own S p (map here (map (turned h) cs)) ≡ places_own R p (map here cs)
    places_same p [] = refl
    places_same p (c ∷ cs) =
        let rest = ap (λ n. places_own S (p +ₚ n) (map here (map (turned h) cs))) wide ∙ places_same (p +ₚ bytes_of R) cs in
        λ i. fsep (place_same p c i) (rest i)

    counted : (cs : List (Option R.Denot)) → length (map here (map (turned h) cs)) ≡ length (map here cs)
    counted [] = refl
    counted (c ∷ cs) = ap suc (counted cs)

    small_same : (cs : List (Option R.Denot)) → flt (length (map here (map (turned h) cs)) * bytes_of S) (2 ^ 63) ≡ flt (length (map here cs) * bytes_of R) (2 ^ 63)
    small_same cs = λ i. flt (counted cs i * wide i) (2 ^ 63)

    run_same : (p : Ptr) (cs : List (Option R.Denot)) → run_owns S p (map here (map (turned h) cs)) ≡ run_owns R p (map here cs)
    run_same p cs = λ i. fsep (small_same cs i) (in_block p (places_same p cs i))

    freed_same : (p : Ptr) (c : ℕ) → freed S p c ≡ freed R p c
    freed_same p c = λ i. fex Global (λ heap. owns_if (has_block c) (ghosts.dealloc_token heap (raw (ty_array (lone (alike.mir_same i)) c)) p))

    owned_same : (p : Ptr) (c : ℕ) (cs : List (Option R.Denot)) → block_owns S p c (map (turned h) cs) ≡ block_owns R p c cs
    owned_same p c cs = λ i. fsep (run_same p cs i) (fsep (flt c (2 ^ 63)) (freed_same p c i))

    place_seen : (p : Ptr) (c : Option R.Denot) → place_lent S p (turned h c) ≡ place_lent R p c
    place_seen p (Some x) = lent_at_placed R S h alike p x
    place_seen p None = refl

    places_seen : (p : Ptr) (cs : List (Option R.Denot)) → places_lent S p (map (turned h) cs) ≡ places_lent R p cs
    places_seen p [] = refl
    places_seen p (c ∷ cs) =
        let rest = ap (λ n. places_lent S (p +ₚ n) (map (turned h) cs)) wide ∙ places_seen (p +ₚ bytes_of R) cs in
        λ i. beside (place_seen p c i) (rest i)

    seen_same : (p : Ptr) (cs : List (Option R.Denot)) → block_lent S p (map (turned h) cs) ≡ block_lent R p cs
    seen_same p cs = λ i. beside (said (small_same cs i)) (λ κ. in_block p (places_seen p cs i κ))

  pub the_places : Alike R S h → Alike (contract.the_row R) (contract.the_row S) (mapped h)
  the_places alike = record {
    mir_same = refl;
    own_same = λ b i vs. fsep ((Struct (shape (contract.the_type R))).own_val (to (contract.the_type R) b) vs) (owned_same alike b.at b.room b.places i);
    shr_same = λ d i b o. beside ((Struct (shape (contract.the_type R))).shr_at (to (contract.the_type R) d) b o) (seen_same alike d.at d.places i);
  }

  place_code : Recodes R S h → (c : Option R.Denot) → (coded_option S.coded).code (turned h c) ≡ (coded_option R.coded).code c
  place_code same (Some x) = with_head (same x)
  place_code same None = refl

  pub the_codes_placed : Recodes R S h → Recodes (contract.the_row R) (contract.the_row S) (mapped h)
  the_codes_placed same b =
      with_head (with_head (with_tail (codes_placed (coded_option R.coded).code (coded_option S.coded).code (turned h) (place_code same) b.places)))
