-- What `Catenate` keeps of a list.
use Rattle.std.specs.Prelude.{◌≡◌, ℕ, ◌^◌, ◌<◌, ℤ, Bool, ◌||◌, List, [], ◌∷◌, ◌++◌, Option, Some, None, refl}
use Rattle.std.specs.List.{list_any, flat_map}
use Rattle.std.specs.Coded.{Coded, code_by, coded×, coded_ℤ, coded_bool, coded_list, coded_option}
use Rattle.std.proofs.Common.{sym, ◌∙◌, ap}
use Rattle.std.proofs.lemmas.Grind.{flat_map-append}
use Rattle.std.proofs.lemmas.List.Folds.{list_any-append}
use Rattle.flow_value.specs.declared.value.Val.{Val}
use Rattle.loop_folds.specs.declared.seen.Seen.{Seen}
use Rattle.loop_folds.specs.Elements.{is_no_list}
use Rattle.loop_folds.specs.Seen.{seen_of, seen_joined}
use Rattle.loop_folds.specs.SeenLaws.{seen_of-append}
use Rattle.loop_folds.specs.Folds.{elements_of, lower_bound_of, earlier_of, first_bound, is_stream}
use Rattle.loop_folds.specs.Kept.{kept, take-parts}
use Rattle.loop_folds.specs.Laws.{JoinLaws, laws_by}

pub record CatenateState : Type 0 where
  pub seen : Seen
  pub lo : Option ℤ
  pub streams : Bool
  pub items : List Val

abbrev pub catenate_state : Seen → Option ℤ → Bool → List Val → CatenateState
catenate_state s lo b vs = record { seen = s; lo = lo; streams = b; items = vs }

abbrev pub catenate_code : Coded Seen → Coded Val → Coded CatenateState
catenate_code s c =
    code_by ((Seen × Option ℤ) × (Bool × List Val)) (coded× (coded× s (coded_option coded_ℤ)) (coded× coded_bool (coded_list c)))
    (λ t. ((t.seen, t.lo), (t.streams, t.items)))
    (λ p. catenate_state p.0.0 p.0.1 p.1.0 p.1.1)
    (λ _. refl)

abbrev pub IsCounted : ℕ → Type 0
IsCounted n = n < 2 ^ 64

abbrev pub state_of : List Val → CatenateState
state_of vs = catenate_state (seen_of is_no_list vs) (first_bound vs) (list_any is_stream vs) (kept (flat_map elements_of vs))

abbrev pub joined_state : CatenateState → CatenateState → CatenateState
joined_state s t =
    catenate_state (seen_joined s.seen t.seen) (earlier_of s.lo t.lo) (s.streams || t.streams) (kept (s.items ++ t.items))

earlier_of-assoc : (a b c : Option ℤ) → earlier_of (earlier_of a b) c ≡ earlier_of a (earlier_of b c)
earlier_of-assoc None b c = refl
earlier_of-assoc (Some a) b c = refl

pub first_bound-append : (xs ys : List Val) → first_bound (xs ++ ys) ≡ earlier_of (first_bound xs) (first_bound ys)
first_bound-append [] ys = refl
first_bound-append (x ∷ xs) ys =
    ap (λ b. earlier_of (lower_bound_of x) b) (first_bound-append xs ys)
    ∙ sym (earlier_of-assoc (lower_bound_of x) (first_bound xs) (first_bound ys))

kept-elements : (xs ys : List Val) → kept (flat_map elements_of (xs ++ ys)) ≡ kept (kept (flat_map elements_of xs) ++ kept (flat_map elements_of ys))
kept-elements xs ys = ap kept (flat_map-append elements_of xs ys) ∙ take-parts 4194305 (flat_map elements_of xs) (flat_map elements_of ys)

pub state_of-append : (xs ys : List Val) → state_of (xs ++ ys) ≡ joined_state (state_of xs) (state_of ys)
state_of-append xs ys = λ i.
    catenate_state (seen_of-append is_no_list xs ys i) (first_bound-append xs ys i) (list_any-append is_stream xs ys i) (kept-elements xs ys i)

pub catenate_laws : JoinLaws (λ s xs. s ≡ state_of xs) (state_of []) joined_state
catenate_laws = laws_by state_of joined_state state_of-append
