-- The places of the tokens on the stack are those of tokens of the text, which are few.
use Rattle.std.proofs.Common.{◌≡◌, ℕ, zero, suc, ◌+◌, ◌<◌, List, [], ◌∷◌, Option, Some, None, drop, length, arith, subst}
use Rattle.pushdown.specs.declared.Step.{Step}
use Rattle.pushdown.specs.declared.Step.TheVariants.{Read, Open}
use Rattle.pushdown.specs.Meaning.{Vals, bind, unload, perform, run}
use Rattle.sisal_lex.specs.declared.token.Token.{Token}
use Rattle.sisal_grammar.specs.declared.action.Action.{Action}
use Rattle.sisal_grammar.specs.declared.action.Action.TheVariants as action
use Rattle.sisal_grammar.specs.declared.value.Placed.{Placed}
use Rattle.sisal_grammar.specs.declared.value.Value.{Value}
use Rattle.sisal_grammar.specs.declared.value.Value.TheVariants as value
use Rattle.sisal_grammar.specs.Sorts.{Sort, Val, into, out, args, gives}
use Rattle.sisal_grammar.specs.Acts.{act, sisal}
use Rattle.sisal_grammar.specs.Placed.{placed}
use Rattle.sisal_grammar.specs.Plan.{plan}

-- a value whose place, if it is a token, has one behind it
abbrev pub HasRoom : Value → Type 0
HasRoom (value.AToken v) = v.place < 4294967295
HasRoom _ = Unit {0}

abbrev pub HaveRoom : List Value → Type 0
HaveRoom [] = Unit {0}
HaveRoom (x ∷ s) = HasRoom x × HaveRoom s

abbrev TokensHaveRoom : List Placed → Type 0
TokensHaveRoom [] = Unit {0}
TokensHaveRoom (t ∷ ts) = (t.place < 4294967295) × TokensHaveRoom ts

placed_have_room : (ts : List Token) (n : ℕ) → n + length ts < 4294967295 → TokensHaveRoom (placed n ts)
placed_have_room [] n h = tt
placed_have_room (t ∷ ts) n h =
    let here : n < 4294967295 = omega (arith, h) in
    let next : (n + 1) + length ts < 4294967295 = omega (arith, h) in
    (here, placed_have_room ts (n + 1) next)

dropped_have_room : (k : ℕ) (ts : List Placed) → TokensHaveRoom ts → TokensHaveRoom (drop k ts)
dropped_have_room zero ts r = r
dropped_have_room (suc k) [] r = tt
dropped_have_room (suc k) (t ∷ ts) r = dropped_have_room k ts r.1

-- ---- what is left below values that are taken off

abbrev RestHasRoom : (ks : List Sort) → Option (Vals Val ks × List Value) → Type 0
RestHasRoom ks None = Unit {0}
RestHasRoom ks (Some r) = HaveRoom r.1

below_one : (k : Sort) (ks : List Sort) (o : Option (Val k)) (q : Option (Vals Val ks × List Value)) → RestHasRoom ks q → RestHasRoom (k ∷ ks) (bind o (λ v. bind q (λ r. Some ((v, r.0), r.1))))
below_one k ks None q h = tt
below_one k ks (Some v) None h = tt
below_one k ks (Some v) (Some r) h = h

below : (ks : List Sort) (s : List Value) → HaveRoom s → RestHasRoom ks (unload sisal ks s)
below [] s h = h
below (k ∷ ks) [] h = tt
below (k ∷ ks) (x ∷ s) h = below_one k ks (out k x) (unload sisal ks s) (below ks s h.1)

-- ---- what steps leave

abbrev AnswerHasRoom : Option (List Value) → Type 0
AnswerHasRoom None = Unit {0}
AnswerHasRoom (Some s) = HaveRoom s

-- no action gives a token
given : (a : Action) (v : Val (gives a)) → HasRoom (into (gives a) v)
given action.Whole v = tt
given _ v = tt

performed_on : (a : Action) (q : Option (Vals Val (args a) × List Value)) → RestHasRoom (args a) q → AnswerHasRoom (bind q (λ r. Some (into (gives a) (act a r.0) ∷ r.1)))
performed_on a None h = tt
performed_on a (Some r) h = (given a (act a r.0), h)

performed : (a : Action) (s : List Value) → HaveRoom s → AnswerHasRoom (perform sisal a s)
performed a s h = performed_on a (unload sisal (args a) s) (below (args a) s h)

after_read : (t : Placed) (q : Option (List Value)) → t.place < 4294967295 → AnswerHasRoom q → AnswerHasRoom (bind q (λ s. Some (value.AToken t ∷ s)))
after_read t None p h = tt
after_read t (Some s) p h = (p, h)

after_open : (a : Action) (q : Option (List Value)) → AnswerHasRoom q → AnswerHasRoom (bind q (λ s. perform sisal a s))
after_open a None h = tt
after_open a (Some s) h = performed a s h

after_steps : (es : List Step) (ts : List Placed) → TokensHaveRoom ts → AnswerHasRoom (run sisal plan es ts)
after_steps [] [] h = tt
after_steps [] (t ∷ ts) h = tt
after_steps (Read ∷ es) [] h = tt
after_steps (Read ∷ es) (t ∷ ts) h = after_read t (run sisal plan es ts) h.0 (after_steps es ts h.1)
after_steps (Open p ∷ es) ts h = after_open (plan.action p) (run sisal plan es ts) (after_steps es ts h)

-- values of steps that read the last of so many tokens
pub values_have_room : (es : List Step) (ts : List Token) (k : ℕ) (s : List Value) → length ts < 4294967295 → run sisal plan es (drop k (placed 0 ts)) ≡ Some s → HaveRoom s
values_have_room es ts k s few e =
    let within : 0 + length ts < 4294967295 = omega (arith, few) in
    subst AnswerHasRoom e (after_steps es (drop k (placed 0 ts)) (dropped_have_room k (placed 0 ts) (placed_have_room ts 0 within)))
