-- Phrases that are lowered one after another, by their lists.
use Rattle.std.proofs.Common.{◌≡◌, List, [], ◌∷◌, ◌++◌, sym, ap, subst, ◌∙◌, append-nil, append_assoc}
use Rattle.std.specs.Prelude.{Result, IfOk}
use Rattle.lowering.specs.declared.feed.Wire.{Wire}
use Rattle.lowering.specs.Graphs.{Lowering, only, andthen}
use Rattle.lowering.specs.Operations.{Lowers, all_lowered, defs_lowered}
use Rattle.lowered_data.specs.declared.made.Made.{Made}
use Rattle.lowered_data.specs.States.{IsMade}
use Rattle.lowered_data.proofs.Laws.{only_made, andthen_made}

-- ---- what is made is the same

-- another name of a phrase
pub as_made : (f g : Lowering) (a b : Made) (ws : List Wire) → f ≡ g → IsMade g a b ws → IsMade f a b ws
as_made f g a b ws e p = subst (λ (h : Lowering). IsMade h a b ws) (sym e) p

pub with_values : (f : Lowering) (a b : Made) (vs ws : List Wire) → vs ≡ ws → IsMade f a b ws → IsMade f a b vs
with_values f a b vs ws e p = record { after_is = p.after_is; values_are = e ∙ p.values_are }

-- ---- lists

pub no_more : (a : Made) (env : List Wire) → IsMade (all_lowered [] env) a a []
no_more a env = only_made a []

pub one_more : (g : Lowers) (gs : List Lowers) (env : List Wire) (a b c : Made) (vs ws : List Wire)
    → IsMade (g env) a b vs → IsMade (all_lowered gs env) b c ws → IsMade (all_lowered (g ∷ gs) env) a c (vs ++ ws)
one_more g gs env a b c vs ws p q =
    andthen_made (g env) (λ us. andthen (all_lowered gs env) (λ xs. only (us ++ xs))) a b c vs (vs ++ ws) p
    (andthen_made (all_lowered gs env) (λ xs. only (vs ++ xs)) b c c ws (vs ++ ws) q (only_made c (vs ++ ws)))

-- one after another, with the values of both
pub both_made : (f g : Lowering) (a b c : Made) (vs ws : List Wire) → IsMade f a b vs → IsMade g b c ws → IsMade (andthen f (λ us. andthen g (λ xs. only (us ++ xs)))) a c (vs ++ ws)
both_made f g a b c vs ws p q =
    andthen_made f (λ us. andthen g (λ xs. only (us ++ xs))) a b c vs (vs ++ ws) p (andthen_made g (λ xs. only (vs ++ xs)) b c c ws (vs ++ ws) q (only_made c (vs ++ ws)))

pub one_def : (d : List Lowers) (ds : List (List Lowers)) (env : List Wire) (a b c : Made) (vs ws : List Wire)
    → IsMade (all_lowered d env) a b vs → IsMade (defs_lowered ds (env ++ vs)) b c ws → IsMade (defs_lowered (d ∷ ds) env) a c ws
one_def d ds env a b c vs ws p q = andthen_made (all_lowered d env) (λ us. defs_lowered ds (env ++ us)) a b c vs ws p q

-- what a loop over phrases keeps: with the phrases that are left all are made
pub record Going (f : Lowering) (rest : Lowering) (before now : Made) (values : List Wire) : Type 0 where
  pub goes : (after : Made) (ws : List Wire) → IsMade rest now after ws → IsMade f before after (values ++ ws)

pub begun : (f : Lowering) (a : Made) → Going f f a a []
begun f a = record { goes = λ after ws p. p }

pub chain_goes_on : (f g h : Lowering) (a b c : Made) (values vs all : List Wire)
    → Going f (andthen g (λ us. andthen h (λ xs. only (us ++ xs)))) a b values → IsMade g b c vs → all ≡ values ++ vs → Going f h a c all
chain_goes_on f g h a b c values vs all r p e = record {
  goes = λ after ws q.
      with_values f a after (all ++ ws) (values ++ (vs ++ ws)) (ap (λ k. k ++ ws) e ∙ append_assoc values vs ws)
      (r.goes after (vs ++ ws) (both_made g h b c after vs ws p q));
}

pub ended_only : (f : Lowering) (a b : Made) (values : List Wire) → Going f (only []) a b values → IsMade f a b values
ended_only f a b values h = with_values f a b values (values ++ []) (sym (append-nil values)) (h.goes b [] (only_made b []))

pub goes_on : (f : Lowering) (g : Lowers) (gs : List Lowers) (env : List Wire) (a b c : Made) (values vs all : List Wire)
    → Going f (all_lowered (g ∷ gs) env) a b values → IsMade (g env) b c vs → all ≡ values ++ vs → Going f (all_lowered gs env) a c all
goes_on f g gs env a b c values vs all h p e = record {
  goes = λ after ws q.
      with_values f a after (all ++ ws) (values ++ (vs ++ ws)) (ap (λ k. k ++ ws) e ∙ append_assoc values vs ws)
      (h.goes after (vs ++ ws) (one_more g gs env b c after vs ws p q));
}

pub ended : (f : Lowering) (env : List Wire) (a b : Made) (values : List Wire) → Going f (all_lowered [] env) a b values → IsMade f a b values
ended f env a b values h = with_values f a b values (values ++ []) (sym (append-nil values)) (h.goes b [] (no_more b env))

-- the same for definitions, whose values are the names
pub record Defining (f : Lowering) (rest : Lowering) (before now : Made) : Type 0 where
  pub goes : (after : Made) (ws : List Wire) → IsMade rest now after ws → IsMade f before after ws

pub begun_defs : (f : Lowering) (a : Made) → Defining f f a a
begun_defs f a = record { goes = λ after ws p. p }

pub defs_go_on : (f : Lowering) (d : List Lowers) (ds : List (List Lowers)) (env : List Wire) (a b c : Made) (vs : List Wire)
    → Defining f (defs_lowered (d ∷ ds) env) a b → IsMade (all_lowered d env) b c vs → Defining f (defs_lowered ds (env ++ vs)) a c
defs_go_on f d ds env a b c vs h p = record { goes = λ after ws q. h.goes after ws (one_def d ds env b c after vs ws p q) }

pub ended_defs : (f : Lowering) (env : List Wire) (a b : Made) → Defining f (defs_lowered [] env) a b → IsMade f a b env
ended_defs f env a b h = h.goes b env (only_made b env)

-- the same of what a call answers
pub if_as : {E : Type 0} (r : Result (List Wire) E) (f g : Lowering) (a b : Made) → f ≡ g → IfOk r (λ ws. IsMade g a b ws) → IfOk r (λ ws. IsMade f a b ws)
if_as r f g a b e h = subst (λ (k : Lowering). IfOk r (λ ws. IsMade k a b ws)) (sym e) h

-- a phrase that makes no node
pub only_as : (s : Made) (ws vs : List Wire) → vs ≡ ws → IsMade (only ws) s s vs
only_as s ws vs e = with_values (only ws) s s vs ws e (only_made s ws)
