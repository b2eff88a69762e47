-- Words that are read from left to right.
use Rattle.std.proofs.Common.{◌≡◌, ◌<◌, ℕ, zero, suc, ◌+◌, List, [], ◌∷◌, ◌++◌, drop, drop-cons, add-one, length, get_or, refl, sym, ap, subst, ◌∙◌, append_assoc, arith}
use Rattle.std.specs.Prelude.{Result, Ok, Err, IfOk, IfErr, IsErrAnd}
use Rattle.value_text.specs.Forms.{FirstBad}
use Rattle.value_text.specs.Faults.{MisfitAt, PastLimits}
use Rattle.value_text.specs.declared.fault.ValueFault.TheVariants as faults
use Rattle.value_text.specs.Numbered.{Numbered, StandsFor, StandForAll}
use Rattle.std.proofs.lemmas.List.{append-nil}
use Rattle.flow_value.specs.declared.ty.Ty.{Ty}
use Rattle.flow_value.specs.declared.value.Val.{Val}
use Rattle.value_text.specs.Grammar.{reads_value}
use Rattle.value_text.specs.declared.fault.ValueFault.{ValueFault}
use Rattle.mean_call.specs.declared.fault.ArgumentFault.TheVariants as argument
use Rattle.mean_call.specs.declared.fault.Refusal.{Refusal}
use Rattle.mean_call.specs.declared.fault.Refusal.TheVariants as refusal
use Rattle.mean_call.specs.Words.{AreRead, IsFirstFault, IsWordRefusal, AreMisread, AreRefused, refusal_of}

-- what is still to be read decides the whole
pub record Decides (words : List (List ℕ)) (types : List Ty) (i : ℕ) (done : List Val) : Type 0 where
  pub read : (vs : List Val) → AreRead (drop i words) (drop i types) vs → AreRead words types (done ++ vs)
  pub refused : (k : ℕ) (fault : ValueFault) → IsFirstFault (drop i words) (drop i types) (suc k) fault → IsFirstFault words types (i + suc k) fault

cut : {X : Type 0} (xs : List X) (i : ℕ) (x : X) → i < length xs → x ≡ get_or xs i x → drop i xs ≡ x ∷ drop (i + 1) xs
cut xs i x within is = drop-cons xs i x within ∙ ap (λ y. y ∷ drop (suc i) xs) (sym is) ∙ ap (λ k. x ∷ drop k xs) (sym (add-one i))

-- a word is read
pub decides_next : (words : List (List ℕ)) (types : List Ty) (i : ℕ) (done new : List Val) (w : List ℕ) (t : Ty) (v : Val) → i < length words → i < length types → w ≡ get_or words i w → t ≡ get_or types i t → reads_value w t v → new ≡ done ++ v ∷ [] → Decides words types i done → Decides words types (i + 1) new
decides_next words types i done new w t v hw ht iw it p added before =
    let cw = cut words i w hw iw in
    let ct = cut types i t ht it in
    record {
      read = λ vs q.
          let here : AreRead (drop i words) (drop i types) (v ∷ vs) = subst (λ l. AreRead l (drop i types) (v ∷ vs)) (sym cw) (subst (λ l. AreRead (w ∷ drop (i + 1) words) l (v ∷ vs)) (sym ct) (p, q)) in
          subst (AreRead words types) (sym (ap (λ l. l ++ vs) added ∙ append_assoc done (v ∷ []) vs)) (before.read (v ∷ vs) here);
      refused = λ k fault q.
          let here : IsFirstFault (drop i words) (drop i types) (suc (suc k)) fault = subst (λ l. IsFirstFault l (drop i types) (suc (suc k)) fault) (sym cw) (subst (λ l. IsFirstFault (w ∷ drop (i + 1) words) l (suc (suc k)) fault) (sym ct) ((v, p), q)) in
          let place : i + suc (suc k) ≡ (i + 1) + suc k = omega arith in
          subst (λ n. IsFirstFault words types n fault) place (before.refused (suc k) fault here);
    }

-- a word is refused
pub refused_here : (words : List (List ℕ)) (types : List Ty) (i : ℕ) (done : List Val) (w : List ℕ) (t : Ty) (r : Refusal) → i < length words → i < length types → w ≡ get_or words i w → t ≡ get_or types i t → IsWordRefusal w t (i + 1) r → Decides words types i done → AreMisread words types r
refused_here words types i done w t (refusal.Argument (argument.Value k fault)) hw ht iw it p before =
    let cw = cut words i w hw iw in
    let ct = cut types i t ht it in
    let here : IsFirstFault (drop i words) (drop i types) (suc zero) fault = subst (λ l. IsFirstFault l (drop i types) (suc zero) fault) (sym cw) (subst (λ l. IsFirstFault (w ∷ drop (i + 1) words) l (suc zero) fault) (sym ct) p.1) in
    subst (λ n. IsFirstFault words types n fault) (sym p.0) (before.refused zero fault here)
refused_here words types i done w t refusal.NoMemory hw ht iw it p before = tt
refused_here words types i done w t (refusal.Argument argument.Entry) hw ht iw it p before = absurd p
refused_here words types i done w t (refusal.Argument (argument.Count a b)) hw ht iw it p before = absurd p
refused_here words types i done w t (refusal.Unlinked name) hw ht iw it p before = absurd p
refused_here words types i done w t refusal.TurnLimit hw ht iw it p before = absurd p

-- all are read
pub decides_last : (words : List (List ℕ)) (types : List Ty) (i : ℕ) (done : List Val) → drop i words ≡ [] → drop i types ≡ [] → Decides words types i done → AreRead words types done
decides_last words types i done ew et before =
    subst (AreRead words types) (append-nil done) (before.read [] (subst (λ l. AreRead l (drop i types) []) (sym ew) (subst (λ l. AreRead [] l []) (sym et) tt)))

-- as many words as types are refused for one of them
pub misread : (words : List (List ℕ)) (types : List Ty) (r : Refusal) → length words ≡ length types → AreMisread words types r → AreRefused words types r
misread words types (refusal.Argument (argument.Value k fault)) same p = (same, p)
misread words types refusal.NoMemory same p = tt
misread words types (refusal.Argument argument.Entry) same p = absurd p
misread words types (refusal.Argument (argument.Count a b)) same p = absurd p
misread words types (refusal.Unlinked name) same p = absurd p
misread words types refusal.TurnLimit same p = absurd p

-- ---- types by number

-- numbers and the types for which they stand are as many
pub as_many : (ts : Numbered) (ns : List ℕ) (types : List Ty) → StandForAll ts ns types → length ns ≡ length types
as_many ts [] [] h = refl
as_many ts [] (t ∷ types) h = absurd h
as_many ts (n ∷ ns) [] h = absurd h
as_many ts (n ∷ ns) (t ∷ types) h = ap suc (as_many ts ns types h.1)

-- the type at a place, for which the number there stands
pub record IsAt (ts : Numbered) (types : List Ty) (i n : ℕ) : Type 0 where
  pub type : Ty
  pub is : type ≡ get_or types i type
  pub stands : StandsFor ts n type

pub stands_at : (ts : Numbered) (ns : List ℕ) (types : List Ty) (i n : ℕ) → StandForAll ts ns types → i < length ns → n ≡ get_or ns i n → IsAt ts types i n
stands_at ts [] types i n h within is = absurd (omega (arith, within))
stands_at ts (m ∷ ns) [] i n h within is = absurd h
stands_at ts (m ∷ ns) (t ∷ types) zero n h within is = record { type = t; is = refl; stands = subst (λ k. StandsFor ts k t) (sym is) h.0 }
stands_at ts (m ∷ ns) (t ∷ types) (suc i) n h within is =
    let more = stands_at ts ns types i n h.1 (omega (arith, within)) is in
    record { type = more.type; is = more.is; stands = more.stands }

-- an answer that is handed on, and what is so of it
pub given_up : {A : Type 0} (P : Refusal → Type 0) (r : Result A Refusal) (e : Refusal) → IsErrAnd r (λ f. f ≡ e) → P e → IfErr r P
given_up P (Ok x) e is p = tt
given_up P (Err f) e is p = subst P (sym is) p

pub of_refusal : (P : Refusal → Type 0) (r : Result Val Refusal) (e : Refusal) → r ≡ Err e → IfErr r P → P e
of_refusal P (Ok v) e is h = cc
of_refusal P (Err f) e is h = let same : f ≡ e = cc in subst P same h

pub of_value : (P : Val → Type 0) (r : Result Val Refusal) (v : Val) → r ≡ Ok v → IfOk r P → P v
of_value P (Ok w) v is h = let same : w ≡ v = cc in subst P same h
of_value P (Err f) v is h = cc

pub of_refusals : (P : Refusal → Type 0) (r : Result (List Val) Refusal) (e : Refusal) → r ≡ Err e → IfErr r P → P e
of_refusals P (Ok v) e is h = cc
of_refusals P (Err f) e is h = let same : f ≡ e = cc in subst P same h

pub of_values : (P : List Val → Type 0) (r : Result (List Val) Refusal) (v : List Val) → r ≡ Ok v → IfOk r P → P v
of_values P (Ok w) v is h = let same : w ≡ v = cc in subst P same h
of_values P (Err f) v is h = cc

-- why a word is refused
pub word_refused : (word : List ℕ) (t : Ty) (place : ℕ) (fault : ValueFault) → ((k : ℕ) → fault ≡ faults.BadSpelling k → FirstBad word k) → (fault ≡ faults.TooLarge → PastLimits word)
    → ((k : ℕ) → fault ≡ faults.WrongShape k → MisfitAt word t k) → IsWordRefusal word t place (refusal_of place fault)
word_refused word t place (faults.BadSpelling k) spelling large shape = (refl, spelling k refl)
word_refused word t place (faults.WrongShape k) spelling large shape = (refl, shape k refl)
word_refused word t place faults.TooLarge spelling large shape = (refl, large refl)
word_refused word t place faults.NoMemory spelling large shape = tt

pub misread_all : (words : List (List ℕ)) (types : List Ty) (r : Result (List Val) Refusal) → length words ≡ length types → IfErr r (AreMisread words types) → IfErr r (AreRefused words types)
misread_all words types (Ok vs) same p = tt
misread_all words types (Err e) same p = misread words types e same p
