-- A room that is cut into segments of one place each, and put together again from the last to the first.
use Rattle.std.proofs.Math.Facts.{yes_leb}
use Rattle.std.proofs.Common.{◌≡◌, ℕ, zero, suc, ◌+◌, ◌-◌, ◌<◌, ◌≤◌, List, [], ◌∷◌, ◌++◌, length, map, replicate, take, drop, Option, Some, refl, sym, ap, subst, ◌∙◌, arith, pos}
use Rattle.std.proofs.lemmas.List.{append_assoc, append-nil, drop_at, drop-drop, take_at, get_or_append_left, get_or_push, length-append, length-replicate, length_push, replicate_more}
use Rattle.std.specs.Prelude.{IsTrue}
use Rattle.std.specs.List.{list_all}
use lib.ListN.{length-map}
use mathlib.Core.Logic.{dite}
use native.Mathlib.Decide.{ℕ_discrete}
use denote.RawPtr.{Ptr}
use Rattle.flow_value.specs.Bounds.{IsWithinLength}
use Rattle.flow_value.specs.declared.value.Val.{Val}
use Rattle.segment.specs.Places.{Place, RoomView, away, unwritten, written, is_written}
use Rattle.segment.specs.Runs.{part, spliced}
use Rattle.agg_pool.specs.Parts.{Cut}
use Rattle.agg_pool.specs.Pools.{BuildsAnd, IfBuilds, IfHolds}
use Rattle.agg_pool.specs.declared.entry.Entry.{Entry}
use Rattle.agg_pool.specs.declared.entry.Entry.TheVariants as entry
use Rattle.test_pool.specs.Shares.{room_at, share, AreShares, number_at, counted}

-- what is said of an entry that is this room
pub if_room : (o : Option Entry) (P : RoomView Val → Type 0) (start : Ptr) (places : List (Place Val)) → o ≡ room_at start places → IfBuilds o P → P (record { start = start; places = places })
if_room o P start places is p = subst (λ (x : Option Entry). IfBuilds x P) is p

pub if_whole : (o : Option Entry) (taken v : Val) (id : ℕ) → o ≡ Some (entry.Whole (record { value = v; out = 0; id = id })) → IfHolds o (λ w. taken ≡ w.value) → taken ≡ v
if_whole o taken v id is p = subst (λ (x : Option Entry). IfHolds x (λ w. taken ≡ w.value)) is p

pub room_and : (o : Option Entry) (P : RoomView Val → Type 0) (start : Ptr) (places : List (Place Val)) → o ≡ room_at start places → P (record { start = start; places = places }) → BuildsAnd o P
room_and o P start places is p = subst (λ (x : Option Entry). BuildsAnd x P) (sym is) p

-- the place behind a list of so many, cut out and put back
module _ {X : Type 0} (xs : List X) (x : X) (rest : List X) (n : ℕ) (long : length xs ≡ n) where
  none : (ys : List X) → take 0 ys ≡ []
  none [] = refl
  none (y ∷ ys) = refl

  all : (ys : List X) → drop 0 ys ≡ ys
  all [] = refl
  all (y ∷ ys) = refl

  pub part_behind : part (xs ++ x ∷ rest) n 1 ≡ x ∷ []
  part_behind = ap (take 1) (drop_at xs (x ∷ rest) n long) ∙ ap (λ ys. x ∷ ys) (none rest)

  after : drop (n + 1) (xs ++ x ∷ rest) ≡ rest
  after = sym (drop-drop 1 n (xs ++ x ∷ rest)) ∙ ap (drop 1) (drop_at xs (x ∷ rest) n long) ∙ all rest

  pub spliced_behind : (y : X) → spliced (xs ++ x ∷ rest) n (y ∷ []) ≡ xs ++ y ∷ rest
  spliced_behind y = (λ i. take_at xs (x ∷ rest) n long i ++ (y ∷ after i))

-- the first i of n new places are away
abbrev pub cut_to : ℕ → ℕ → List (Place Val)
cut_to i n = replicate i away ++ replicate (n - i) unwritten

pub none_cut : (n : ℕ) → replicate n unwritten ≡ cut_to 0 n
none_cut n = let all : n ≡ n - 0 = omega arith in ap (λ m. replicate m unwritten) all

pub all_cut : (n : ℕ) → cut_to n n ≡ replicate n away
all_cut n = let no : n - n ≡ 0 = omega arith in ap (λ m. replicate n away ++ replicate m unwritten) no ∙ append-nil (replicate n away)

module _ (i n : ℕ) (within : i < n) where
  abbrev front : List (Place Val)
  front = replicate i away

  abbrev back : List (Place Val)
  back = replicate (n - (i + 1)) unwritten

  first_left : cut_to i n ≡ front ++ unwritten ∷ back
  first_left = let more : n - i ≡ suc (n - (i + 1)) = omega arith in ap (λ m. front ++ replicate m unwritten) more

  one : i + 1 - i ≡ 1
  one = omega arith

  one_away : replicate {A = Place Val} (i + 1 - i) away ≡ away ∷ []
  one_away = ap (λ m. replicate m away) one

  pub cut_fits : i + 1 ≤ length (cut_to i n)
  cut_fits = let a = length-append front (replicate (n - i) unwritten) in let b : length front ≡ i = length-replicate i away in let c : length (replicate {A = Place Val} (n - i) unwritten) ≡ n - i = length-replicate (n - i) unwritten in omega arith

  pub cut_part : part (cut_to i n) i (i + 1 - i) ≡ unwritten ∷ []
  cut_part = ap (part (cut_to i n) i) one ∙ ap (λ ps. part ps i 1) first_left ∙ part_behind front unwritten back i (length-replicate i away)

  pub cut_more : spliced (cut_to i n) i (replicate (i + 1 - i) away) ≡ cut_to (i + 1) n
  cut_more = ap (spliced (cut_to i n) i) one_away ∙ ap (λ ps. spliced ps i (away ∷ [])) first_left ∙ spliced_behind front unwritten back i (length-replicate i away) away
      ∙ sym (append_assoc front (away ∷ []) back) ∙ ap (λ ps. ps ++ back) (replicate_more i away)

-- the places from k on of n are back, and written
abbrev pub back_from : ℕ → ℕ → List (Place Val)
back_from k n = replicate k away ++ map written (counted (n - k) (k + 1))

pub none_back : (n : ℕ) → replicate n away ≡ back_from n n
unfolding counted
none_back n = let no : 0 ≡ n - n = omega arith in sym (append-nil (replicate n away)) ∙ ap (λ m. replicate n away ++ map written (counted m (n + 1))) no

pub all_back : (n : ℕ) → back_from 0 n ≡ map written (counted n 1)
all_back n = let all : n - 0 ≡ n = omega arith in ap (λ m. map written (counted m 1)) all

module _ (k n : ℕ) (within : k < n) where
  abbrev gone : List (Place Val)
  gone = replicate k away

  abbrev here : List (Place Val)
  here = map written (counted (n - (k + 1)) (k + 1 + 1))

  last_away : back_from (k + 1) n ≡ gone ++ away ∷ here
  last_away = ap (λ ps. ps ++ here) (sym (replicate_more k away)) ∙ append_assoc gone (away ∷ []) here

  pub join_fits : k + 1 ≤ length (back_from (k + 1) n)
  join_fits = let a = length-append (replicate (k + 1) away) here in let b : length (replicate {A = Place Val} (k + 1) away) ≡ k + 1 = length-replicate (k + 1) away in omega arith

  pub back_more : spliced (back_from (k + 1) n) k (number_at k ∷ []) ≡ back_from k n
  unfolding counted
  back_more = let more : suc (n - (k + 1)) ≡ n - k = omega arith in ap (λ ps. spliced ps k (number_at k ∷ [])) last_away ∙ spliced_behind gone away here k (length-replicate k away) (number_at k)
      ∙ ap (λ m. gone ++ map written (counted m (k + 1))) more

-- segments in order, and one more
module _ (number : ℕ) (start : Ptr) (place : ℕ → Place Val) (parts : List Cut) where
  pub none_shared : length parts ≡ 0 → AreShares number start place parts
  none_shared long i d within = absurd (omega arith)

  pub shares_more : (last : Cut) → AreShares number start place parts → last ≡ share number start (length parts) (place (length parts)) → AreShares number start place (parts ++ last ∷ [])
  shares_more last shares is i d within =
      let long = length_push parts last in
      dite (ℕ_discrete i (length parts))
      (λ same. get_or_push parts last d i (sym same) ∙ is ∙ ap (λ j. share number start j (place j)) (sym same))
      (λ other. get_or_append_left parts (last ∷ []) d i (omega arith) ∙ shares i d (omega arith))

  module _ (last : Cut) (shares : AreShares number start place (parts ++ last ∷ [])) where
    pub shares_before : AreShares number start place parts
    shares_before i d within = let long = length_push parts last in sym (get_or_append_left parts (last ∷ []) d i within) ∙ shares i d (omega arith)

    pub last_share : last ≡ share number start (length parts) (place (length parts))
    last_share = let long = length_push parts last in sym (get_or_push parts last last (length parts) refl) ∙ shares (length parts) last (omega arith)

-- what is sealed
counted_long : (n first : ℕ) → length (counted n first) ≡ n
unfolding counted
counted_long zero first = refl
counted_long (suc n) first = ap suc (counted_long n (first + 1))

pub all_written : {X : Type 0} (xs : List X) → IsTrue (list_all is_written (map written xs))
all_written [] = refl
all_written (x ∷ xs) = all_written xs

within_length : (n : ℕ) → n ≤ 4194304 → IsWithinLength (pos 1) n
within_length n few = record { few = few; high = record { le = yes_leb (omega (arith, few)) }; low = record { le = tt } }

pub counted_fits : (n : ℕ) → n ≤ 4194304 → IsWithinLength (pos 1) (length (map written (counted n 1)))
counted_fits n few = subst (IsWithinLength (pos 1)) (sym (length-map (counted n 1) written ∙ counted_long n 1)) (within_length n few)

-- what is written is known by the places
values : {X : Type 0} → List (Place X) → List X
values [] = []
values (away ∷ ps) = values ps
values (unwritten ∷ ps) = values ps
values (written x ∷ ps) = x ∷ values ps

values-written : {X : Type 0} (xs : List X) → values (map written xs) ≡ xs
unfolding values
values-written [] = refl
values-written (x ∷ xs) = ap (λ ys. x ∷ ys) (values-written xs)

pub same_written : {X : Type 0} (xs ys : List X) → map written xs ≡ map written ys → xs ≡ ys
same_written xs ys same = sym (values-written xs) ∙ ap values same ∙ values-written ys
