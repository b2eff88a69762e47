-- What the steps of a derivation leave on the stack.
use Rattle.std.proofs.Common.{◌≡◌, ℕ, ◌<◌, List, [], ◌∷◌, map, refl, sym, ◌∙◌, ap, subst, Some}
use Rattle.pushdown.specs.Grammar.{Derives}
use Rattle.pushdown.specs.declared.Symbol.TheVariants.{Rule}
use Rattle.pushdown.specs.declared.Step.{Step}
use Rattle.pushdown.specs.Meaning.{Vals, load, OnTop, Loaded, run}
use Rattle.pushdown.proofs.Values.{has_values}
use Rattle.sisal_lex.specs.declared.token.Token.{Token}
use Rattle.sisal_grammar.specs.declared.value.Value.{Value}
use Rattle.sisal_grammar.specs.declared.value.Value.TheVariants as value
use Rattle.sisal_grammar.specs.declared.value.Outline.{Outline}
use Rattle.sisal_grammar.specs.Sorts.{Sort, a_token, nothing, an_outline, Val, into}
use Rattle.sisal_grammar.specs.Acts.{sisal}
use Rattle.sisal_grammar.specs.Classes.{class_of}
use Rattle.sisal_grammar.specs.Language.{language}
use Rattle.sisal_grammar.specs.Placed.{placed}
use Rattle.sisal_grammar.specs.Plan.{plan}
use Rattle.sisal_grammar.proofs.Plans.{plan_typed, first_kind}
use Rattle.parse_stack.specs.Stack.{IsSort, Tops}
use Rattle.sisal_build.proofs.Places.{placed_classes}
use Rattle.sisal_build.proofs.Rooms.{HasRoom, HaveRoom}

is_sort : (k : Sort) (v : Val k) → HasRoom (into k v) → IsSort k (into k v)
is_sort a_token v h = h
is_sort _ v h = tt

loaded : (ks : List Sort) (vs : Vals Val ks) (s : List Value) → HaveRoom (load sisal ks vs s) → Tops ks (load sisal ks vs s)
loaded [] vs s h = tt
loaded (k ∷ ks) vs s h = (is_sort k vs.0 h.0, loaded ks vs.1 s h.1)

-- values of these kinds are on top
pub tops : (ks : List Sort) (x : List Value) → OnTop sisal ks x → HaveRoom x → Tops ks x
tops ks x o h = rw o.2 (loaded ks o.0 o.1 (subst HaveRoom o.2 h))

pub same_some : {A : Type 0} {x y : A} → Some x ≡ Some y → x ≡ y
same_some e = cc

-- the derivation of the tokens, by their classes with and without their places
pub derived : (es : List Step) (ts : List Token) → Derives language (Rule 0 ∷ []) (map class_of (map (λ t. t.kind) ts)) es → Derives language (Rule 0 ∷ []) (map (λ t. class_of t.kind) (placed 0 ts)) es
derived es ts d = subst (λ cs. Derives language (Rule 0 ∷ []) cs es) (sym (placed_classes ts 0)) d

-- what a whole derivation leaves: a unit
pub record Final (es : List Step) (ts : List Token) : Type 0 where
  pub outline : Outline
  pub means : run sisal plan es (placed 0 ts) ≡ Some (value.AnOutline outline ∷ [])

final_of : (es : List Step) (ts : List Token) → Loaded sisal (an_outline ∷ []) [] (run sisal plan es (placed 0 ts)) → Final es ts
final_of es ts l = record { outline = l.0.0; means = l.1 }

pub final : (es : List Step) (ts : List Token) → Derives language (Rule 0 ∷ []) (map class_of (map (λ t. t.kind) ts)) es → Final es ts
final es ts d = final_of es ts (subst (λ k. Loaded sisal (k ∷ []) [] (run sisal plan es (placed 0 ts))) first_kind (has_values language sisal plan plan_typed (derived es ts d) (placed 0 ts) refl))
