-- How deep a value nests, and whether its tags are numbers of 32 bits, as every value of a program's has.
use Rattle.std.specs.Prelude.{ℕ, suc, ◌^◌, max, Bool, true, ◌&&◌, nat_lt, List, [], ◌∷◌}
use Rattle.std.specs.List.{list_all}
use Rattle.flow_value.specs.declared.value.Val.{Val}
use Rattle.flow_value.specs.declared.value.Val.TheOpen.{Val-F}
use Rattle.flow_value.specs.declared.value.Val.TheFolds.{fold-Val}

abbrev pub greatest : List ℕ → ℕ
greatest [] = 0
greatest (n ∷ ns) = max n (greatest ns)

-- a scalar or an aggregate without parts counts 1, another aggregate one more than its deepest part
abbrev pub nesting_step : Val-F ℕ → ℕ
nesting_step (Val-F.Arr a) = suc (greatest a.items)
nesting_step (Val-F.Rec ns) = suc (greatest ns)
nesting_step (Val-F.Stream ns) = suc (greatest ns)
nesting_step (Val-F.Uni tag n) = suc n
nesting_step _ = 1

abbrev pub nesting : Val → ℕ
nesting = fold-Val ℕ nesting_step

abbrev pub is_so : Bool → Bool
is_so b = b

abbrev pub tags_step : Val-F Bool → Bool
tags_step (Val-F.Arr a) = list_all is_so a.items
tags_step (Val-F.Rec bs) = list_all is_so bs
tags_step (Val-F.Stream bs) = list_all is_so bs
tags_step (Val-F.Uni tag b) = nat_lt tag (2 ^ 32) && b
tags_step _ = true

abbrev pub has_small_tags : Val → Bool
has_small_tags = fold-Val Bool tags_step
