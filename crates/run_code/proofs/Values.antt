-- Values by their forms.
use Rattle.std.proofs.Common.{◌≡◌, sym, subst, rules}
use Rattle.ordered_meaning.specs.Val.{Val}
use Rattle.ordered_meaning.specs.Val.TheOpen.{Val-F}
use Rattle.ordered_meaning.specs.Val.TheViews as values

rolled : (v : Val) → v ≡ values.roll-Val (values.out-Val v)
rolled v = search (rules, values.the_lemmas)

-- what holds of each value by its outermost form
pub by-form : (P : Val → Type 0) → ((y : Val-F Val) → P (values.roll-Val y)) → (v : Val) → P v
by-form P f v = subst P (sym (rolled v)) (f (values.out-Val v))
