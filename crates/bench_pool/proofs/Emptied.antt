-- A pool whose one room was cut out whole, and came back.
use Rattle.std.proofs.Common.{◌≡◌, ◌≢◌, ℕ, ◌+◌, ◌-◌, ◌≤◌, List, [], ◌∷◌, ◌++◌, length, replicate, take, drop, Option, Some, None, true, refl, sym, ap, subst, ◌∙◌, arith, pos, IsTrue}
use Rattle.std.specs.List.{list_all}
use Rattle.std.proofs.lemmas.List.{drop_all, append-nil, length-replicate, take_all}
use Rattle.std.proofs.lemmas.List.Elements.{All-replicate}
use Rattle.std.proofs.lemmas.List.Sums.{list_all-from_AllPass}
use Rattle.std.proofs.Math.Facts.{yes_leb}
use mathlib.Core.Logic.{dite}
use native.Mathlib.Decide.{ℕ_discrete}
use denote.RawPtr.{Ptr}
use Rattle.segment.specs.Places.{Place, RoomView, away, unwritten, is_here}
use Rattle.segment.specs.Runs.{part, spliced}
use Rattle.segment.proofs.Lists.{spliced_long}
use Rattle.flow_value.specs.Bounds.{IsWithinLength}
use Rattle.flow_value.specs.declared.value.Val.{Val}
use Rattle.agg_pool.specs.Parts.{Cut}
use Rattle.agg_pool.specs.Pools.{PoolView, entry_at, IfBuilds, BuildsAnd, IsIdleIfAny}
use Rattle.agg_pool.specs.declared.entry.Entry.{Entry}
use Rattle.agg_pool.specs.declared.entry.Entry.TheVariants as entry

abbrev pub room_at : Ptr → List (Place Val) → Option Entry
room_at start places = Some (entry.Parts (record { start = start; places = places }))

if_room : (o : Option Entry) (P : RoomView Val → Type 0) (start : Ptr) (places : List (Place Val)) → o ≡ room_at start places → IfBuilds o P → P (record { start = start; places = places })
if_room o P start places is p = subst (λ (x : Option Entry). IfBuilds x P) is p

pub room_and : (o : Option Entry) (P : RoomView Val → Type 0) (start : Ptr) (places : List (Place Val)) → o ≡ room_at start places → P (record { start = start; places = places }) → BuildsAnd o P
room_and o P start places is p = subst (λ (x : Option Entry). BuildsAnd x P) (sym is) p

pub found : (o : Option Entry) (n : ℕ) → BuildsAnd o (λ room. room.places ≡ replicate n unwritten) → (start : Ptr) × (o ≡ room_at start (replicate n unwritten))
found (Some (entry.Whole w)) n new = absurd new
found (Some (entry.Parts r)) n new = (r.start, ap (room_at r.start) new)
found None n new = absurd new

-- an array that was begun and not cut is idle
pub idle_begun : (pool : PoolView) (k n : ℕ) (start : Ptr) → entry_at pool k ≡ room_at start (replicate n unwritten) → ((m : ℕ) → m ≢ k → entry_at pool m ≡ None) → (m : ℕ) → IsIdleIfAny (entry_at pool m)
idle_begun pool k n start one none m =
    let here : IsTrue (list_all is_here (replicate n (let p : Place Val = unwritten in p))) =
    list_all-from_AllPass is_here (replicate n unwritten) (All-replicate (λ p. is_here p ≡ true) n unwritten refl) in
    dite (ℕ_discrete m k) (λ same. subst IsIdleIfAny (sym (ap (entry_at pool) same ∙ one)) here) (λ other. subst IsIdleIfAny (sym (none m other)) tt)

take_none : {X : Type 0} (xs : List X) → take 0 xs ≡ []
take_none [] = refl
take_none (x ∷ xs) = refl

drop_none : {X : Type 0} (xs : List X) → drop 0 xs ≡ xs
drop_none [] = refl
drop_none (x ∷ xs) = refl

-- all of them, and what comes back in the place of all of them
whole_part : (xs : List (Place Val)) (n : ℕ) → length xs ≡ n → part xs 0 (n - 0) ≡ xs
whole_part xs n long = ap (take (n - 0)) (drop_none xs) ∙ take_all (n - 0) xs (omega arith)

whole_back : (xs ws : List (Place Val)) → length xs ≡ length ws → spliced xs 0 ws ≡ ws
whole_back xs ws long = ap (λ front. front ++ (ws ++ drop (0 + length ws) xs)) (take_none xs) ∙ ap (λ back. ws ++ back) (drop_all (0 + length ws) xs (omega arith)) ∙ append-nil ws

module _ (before : PoolView) (k n : ℕ) (start : Ptr) (new : entry_at before k ≡ room_at start (replicate n unwritten)) where
  abbrev blank : List (Place Val)
  blank = replicate n unwritten

  abbrev gone : List (Place Val)
  gone = spliced blank 0 (replicate (n - 0) away)

  gone_long : length gone ≡ n
  gone_long =
      let a : length blank ≡ n = length-replicate n unwritten in
      let b : length (replicate (n - 0) (let p : Place Val = away in p)) ≡ n - 0 = length-replicate (n - 0) away in
      spliced_long blank 0 (replicate (n - 0) away) (omega arith) ∙ a

  -- what is cut out
  pub cut_is : (cut : Cut) → IfBuilds (entry_at before k) (λ room. cut ≡ record { number = k; part = record { start = room.start; from = 0; places = part room.places 0 (n - 0) } })
      → cut ≡ record { number = k; part = record { start = start; from = 0; places = blank } }
  cut_is cut is =
      if_room (entry_at before k) (λ room. cut ≡ record { number = k; part = record { start = room.start; from = 0; places = part room.places 0 (n - 0) } }) start blank new is
      ∙ ap (λ ps. record { number = k; part = record { start = start; from = 0; places = ps } }) (whole_part blank n (length-replicate n unwritten))

  -- what is left, and fits the part
  module _ (left : PoolView) (rest : IfBuilds (entry_at before k) (λ room. entry_at left k ≡ Some (entry.Parts (record room { places = spliced room.places 0 (replicate (n - 0) away) })))) where
    left_is : entry_at left k ≡ room_at start gone
    left_is = if_room (entry_at before k) (λ room. entry_at left k ≡ Some (entry.Parts (record room { places = spliced room.places 0 (replicate (n - 0) away) }))) start blank new rest

    module _ (segment : Cut) (number : segment.number ≡ k) (of : segment.part.start ≡ start) (from : segment.part.from ≡ 0) (long : length segment.part.places ≡ n) where
      at_left : entry_at left segment.number ≡ room_at start gone
      at_left = ap (entry_at left) number ∙ left_is

      pub may_join : BuildsAnd (entry_at left segment.number) (λ room. Rattle.segment.specs.Places.IsOf room segment.part)
      may_join = let all = gone_long in room_and (entry_at left segment.number) (λ room. Rattle.segment.specs.Places.IsOf room segment.part) start gone at_left (of, omega arith)

      pub joined_is : (joined : PoolView) → IfBuilds (entry_at left segment.number) (λ room. entry_at joined segment.number ≡ Some (entry.Parts (record room { places = spliced room.places segment.part.from segment.part.places })))
          → entry_at joined k ≡ room_at start segment.part.places
      joined_is joined back =
          ap (entry_at joined) (sym number)
          ∙ if_room (entry_at left segment.number) (λ room. entry_at joined segment.number ≡ Some (entry.Parts (record room { places = spliced room.places segment.part.from segment.part.places }))) start gone at_left back
          ∙ ap (λ a. room_at start (spliced gone a segment.part.places)) from ∙ ap (room_at start) (whole_back gone segment.part.places (gone_long ∙ sym long))

-- an array of so many places from 1
pub within_length : (n k : ℕ) → n ≡ k → k ≤ 4194304 → IsWithinLength (pos 1) n
within_length n k is few = record { few = omega (arith, few); high = record { le = yes_leb (omega (arith, few)) }; low = record { le = tt } }
