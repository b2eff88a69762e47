-- A `FrontList` holds a list of the type that reaches itself.
use Rattle.std.specs.Prelude.{◌≡◌, ℕ, true, false, List, [], ◌∷◌, map, Option, Some, None}
use mathlib.Core.Path.{refl, sym, ap, ◌∙◌}
use mathlib.Core.Former.{Former, one_more, this, const, pair, list, via, children}
use base.Stored.{code_map}
use denote.RattleType.{RattleType}
use denote.HoleLaws.{Alike}
use denote.HolePlaces.{Recodes, struct_places, laid}
use denote.Hole.Carrier.{listed, list-listed}
use denote.Hole.Fix.{over}
use denote.Param.Weighed.{Weighed, w_list}
use denote.Model.Placed.{held, view_places}
use denote.Struct.Props.{props}
use Rattle.std.specs.declared.alloc.Global.{Global}
use Rattle.flow_value.specs.Places.{somes}
use Rattle.flow_value.specs.Rows.{is_here}
use Rattle.flow_value.specs.declared.row.Row.{Row}
use Rattle.flow_value.specs.contracts.row.Row as row
use Rattle.flow_value.specs.formers.block.Block as block
use Rattle.flow_value.specs.declared.list.FrontList.TheInside.{Inside}
use Rattle.flow_value.specs.declared.list.FrontList.TheView.{view, invariant}
use Rattle.flow_value.specs.contracts.list.FrontList as whole
use Rattle.flow_value.specs.contracts.list.FrontList.TheInside as inside

-- what a contract sees: the list
abbrev pub the_former : Former {0} → Former {0}
the_former g = list g

abbrev pub the_weighed : {g : Former {0}} → Weighed g → Weighed (the_former g)
the_weighed w = w_list w

pub the_empty : List ⊥
the_empty = []

abbrev pub the_items : (X : Type 0) → List X → List X
the_items X xs = xs

pub the_items_listed : (X : Type 0) (xs : List X) → listed _ (children (the_former this) X xs) ≡ the_items X xs
the_items_listed X xs = list-listed X xs

-- what the struct has: where its items begin and how many they are, the allocator, and its block
abbrev Beside : Type 0
Beside = ((ℕ × ℕ) × ℕ) × Global

abbrev stored : Former {0}
stored = via (pair (const Beside) (block.the_former this)) Inside
    (λ X s. ((((s.row.room, s.row.first), s.row.len), s.row.alloc), s.row.block))
    (λ X v. record { row = record { block = v.1; room = v.0.0.0.0; first = v.0.0.0.1; len = v.0.0.1; alloc = v.0.1 } })
    (λ X s. refl) (λ X v. refl)

abbrev turned_row : {X Y : Type 0} → (X → Y) → Row X → Row Y
turned_row h r = record { block = block.mapped h r.block; room = r.room; first = r.first; len = r.len; alloc = r.alloc }

module _ (X Y : Type 0) (h : X → Y) where
  values_turned : (cs : List (Option X)) → somes (map (block.turned h) cs) ≡ map h (somes cs)
  values_turned [] = refl
  values_turned (Some x ∷ cs) = ap (λ l. h x ∷ l) (values_turned cs)
  values_turned (None ∷ cs) = values_turned cs

  shape_turned : (cs : List (Option X)) → map is_here (map (block.turned h) cs) ≡ map is_here cs
  shape_turned [] = refl
  shape_turned (Some x ∷ cs) = ap (λ l. true ∷ l) (shape_turned cs)
  shape_turned (None ∷ cs) = ap (λ l. false ∷ l) (shape_turned cs)

  forth : (s : Inside X) → invariant X s → invariant Y (stored.map X Y h s)
  forth s w = record { block = w.block; places = shape_turned s.row.block.places ∙ w.places; fits = w.fits }

  back : (s : Inside X) → invariant Y (stored.map X Y h s) → invariant X s
  back s w = record { block = w.block; places = sym (shape_turned s.row.block.places) ∙ w.places; fits = w.fits }

values_held : (X : Type 0) (cs : List (Option X)) → held (list this) X (somes cs) ≡ held (list (block.maybe this)) X cs
values_held X [] = refl
values_held X (Some x ∷ cs) = let rest = values_held X cs in λ i. (one_more (rest i).0, (x, (rest i).1))
values_held X (None ∷ cs) = values_held X cs

is_prop : (X : Type 0) (s : Inside X) → IsProp (invariant X s)
is_prop X s = hlevel props

module _ (R S : RattleType) (h : R.Denot → S.Denot) where
  row_places : Alike R S h → Alike (row.the_row R) (row.the_row S) (turned_row h)
  row_places alike =
      struct_places (row.the_type R) (row.the_type S) (block.mapped h, (λ n. n, (λ n. n, (λ n. n, (λ n. n, tt))))) _ (λ r. refl) refl
      (laid _ _ _ (block.the_places R S h alike), ((refl, (λ n. refl, λ n. refl)), ((refl, (λ n. refl, λ n. refl)), ((refl, (λ n. refl, λ n. refl)), ((refl, (λ n. refl, λ n. refl)), tt)))))

  pub the_places : Alike R S h → Alike (whole.the_row R) (whole.the_row S) ((the_former this).map R.Denot S.Denot h)
  the_places alike =
      view_places stored (list this) view (λ X Y k s. values_turned X Y k s.row.block.places) (λ X s. values_held X s.row.block.places) R.Denot S.Denot h (whole.the_row R).coded (whole.the_row S).coded
      (invariant R.Denot) (invariant S.Denot) (is_prop R.Denot) (is_prop S.Denot) (forth R.Denot S.Denot h) (back R.Denot S.Denot h)
      (over (inside.the_row R)) (over (inside.the_row S))
      (struct_places (inside.the_type R) (inside.the_type S) (turned_row h, tt) _ (λ s. refl) refl (laid _ _ _ (row_places alike), tt))

  pub the_codes_placed : Recodes R S h → Recodes (whole.the_row R) (whole.the_row S) ((the_former this).map R.Denot S.Denot h)
  the_codes_placed same xs = sym (code_map R.coded.code S.coded.code h (λ x. sym (same x)) xs)
