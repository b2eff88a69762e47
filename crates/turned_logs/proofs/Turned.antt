-- Logs that are turned.
use Rattle.std.proofs.Common.{◌≡◌, ℕ, Bool, true, false, ◌||◌, List, [], ◌∷◌, ◌++◌, map, refl, sym, ap, ◌∙◌, subst}
use Rattle.std.specs.List.{list_any}
use Rattle.fire_lock.specs.declared.entry.Entry.{Entry}
use Rattle.fire_lock.specs.History.{Reached}
use Rattle.graph_meaning.specs.Entered.{Item}
use Rattle.graph_meaning.specs.Histories.{Run, Event, History, Legal, claims, finishes, makes, is_claimed, is_finished, is_made}
use Rattle.turned_logs.specs.Turned.{onto, turned, event_of, enters, AreLogsTurned, AreLegalLogs, AreAllTestsSame}

append-none : (xs : List Event) → xs ++ [] ≡ xs
append-none [] = refl
append-none (x ∷ xs) = ap (λ z. x ∷ z) (append-none xs)

append-same : (xs ys zs : List Event) → xs ++ (ys ++ zs) ≡ (xs ++ ys) ++ zs
append-same [] ys zs = refl
append-same (x ∷ xs) ys zs = ap (λ z. x ∷ z) (append-same xs ys zs)

-- entered before a history is entered before nothing, with the history behind
pub onto-turned : (es : List Event) (h : History) → onto es h ≡ turned es ++ h
onto-turned [] h = refl
onto-turned (e ∷ es) h =
    onto-turned es (e ∷ h) ∙ (append-same (turned es) (e ∷ []) h ∙ ap (λ z. z ++ h) (sym (onto-turned es (e ∷ []))))

pub onto-append : (es fs : List Event) (h : History) → onto (es ++ fs) h ≡ onto fs (onto es h)
onto-append [] fs h = refl
onto-append (e ∷ es) fs h = onto-append es fs (e ∷ h)

-- what was entered before a history, turned back
back : (es : List Event) (h : History) → turned (onto es h) ≡ turned h ++ es
back [] h = sym (append-none (turned h))
back (e ∷ es) h = back es (e ∷ h) ∙ (ap (λ z. z ++ es) (onto-turned h (e ∷ [])) ∙ sym (append-same (turned h) (e ∷ []) es))

pub logs-turned : AreLogsTurned
logs-turned =
    record {
      last_first = λ log e. onto-append log (e ∷ []) [];
      joined = λ log later. onto-append log later [] ∙ onto-turned later (turned log);
      twice = λ log. back log [];
    }

-- ---- legal histories

module _ (run : Run) (limit : ℕ) where
  legal-before : (es : List Event) (h : History) → Legal run limit (onto es h) → Legal run limit h
  legal-before [] h g = g
  legal-before (e ∷ es) h g = (legal-before es (e ∷ h) g).0

  led-out : (log : List (Entry Event ℕ)) (h k : History) → Legal run limit h → Reached (enters run limit) h log k → (k ≡ onto (map event_of log) h) × Legal run limit (onto (map event_of log) h)
  led-out [] h k g r = (sym r, g)
  led-out (e ∷ log) h k g r = led-out log (e.event ∷ h) k (g, r.1.0) (subst (λ z. Reached (enters run limit) z log k) r.1.1 r.2)

  led-in : (log : List (Entry Event ℕ)) (h k : History) → k ≡ onto (map event_of log) h → Legal run limit (onto (map event_of log) h) → Reached (enters run limit) h log k
  led-in [] h k e g = sym e
  led-in (x ∷ log) h k e g =
      (x.event ∷ h, ((legal-before (map event_of log) (x.event ∷ h) g).1, refl), led-in log (x.event ∷ h) k e g)

pub legal-logs : AreLegalLogs
legal-logs run limit log h = ((λ r. led-out run limit log [] h tt r), λ x. led-in run limit log [] h x.0 x.1)

-- ---- what was claimed, finished and made

swapped : (a b c : Bool) → a || (b || c) ≡ (b || a) || c
swapped true true c = refl
swapped true false c = refl
swapped false true c = refl
swapped false false c = refl

or-none : (a : Bool) → a || false ≡ a
or-none true = refl
or-none false = refl

claimed-onto : (es : List Event) (h : History) (i : Item) → is_claimed (onto es h) i ≡ list_any (λ e. claims e i) es || is_claimed h i
claimed-onto [] h i = refl
claimed-onto (e ∷ es) h i = claimed-onto es (e ∷ h) i ∙ swapped (list_any (λ e. claims e i) es) (claims e i) (is_claimed h i)

finished-onto : (es : List Event) (h : History) (i : Item) → is_finished (onto es h) i ≡ list_any (λ e. finishes e i) es || is_finished h i
finished-onto [] h i = refl
finished-onto (e ∷ es) h i = finished-onto es (e ∷ h) i ∙ swapped (list_any (λ e. finishes e i) es) (finishes e i) (is_finished h i)

made-onto : (es : List Event) (h : History) (i : Item) → is_made (onto es h) i ≡ list_any (λ e. makes e i) es || is_made h i
made-onto [] h i = refl
made-onto (e ∷ es) h i = made-onto es (e ∷ h) i ∙ swapped (list_any (λ e. makes e i) es) (makes e i) (is_made h i)

pub tests-same : AreAllTestsSame
tests-same log i =
    record {
      claimed = claimed-onto log [] i ∙ or-none (list_any (λ e. claims e i) log);
      finished = finished-onto log [] i ∙ or-none (list_any (λ e. finishes e i) log);
      made = made-onto log [] i ∙ or-none (list_any (λ e. makes e i) log);
    }

-- ---- any machine

-- Where each step of a machine keeps what it stands for, a lock's log leads it to what the turned log says.
module _ {M E R : Type 0} (plays : M → ℕ → E → R → M → Type 0) (tell : Entry E R → Event) (stands : M → History → Type 0)
    (kept : (m n : M) (e : Entry E R) (h : History) → stands m h → plays m e.number e.event e.reply n → stands n (tell e ∷ h)) where
  pub reached-stands : (log : List (Entry E R)) (m n : M) (h : History) → stands m h → Reached plays m log n → stands n (onto (map tell log) h)
  reached-stands [] m n h s r = subst (λ z. stands z h) r s
  reached-stands (e ∷ log) m n h s r = reached-stands log r.0 n (tell e ∷ h) (kept m r.0 e h s r.1) r.2
