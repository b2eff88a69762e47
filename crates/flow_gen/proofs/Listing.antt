-- The parts of the text are the lines of the program.
use Rattle.std.proofs.Common.{◌≡◌, ◌++◌, [], List, decimal, ℕ, ◌*◌, ◌∙◌, ap, refl, append_assoc}
use Rattle.flow_gen.specs.declared.TheConstants.{HEAD, ELEMENTS, RESULTS}
use Rattle.flow_gen.specs.Program.{program}

-- what five additions to an empty text leave
pub added : {t u v w x y : List ℕ} (a b c d e : List ℕ) → t ≡ [] → u ≡ t ++ a → v ≡ u ++ b → w ≡ v ++ c → x ≡ w ++ d → y ≡ x ++ e → y ≡ a ++ (b ++ (c ++ (d ++ e)))
added a b c d e p q r s t u = u ∙ ap (λ z. z ++ e) (t ∙ ap (λ z. z ++ d) (s ∙ ap (λ z. z ++ c) (r ∙ ap (λ z. z ++ b) (q ∙ ap (λ z. z ++ a) p)))) ∙ simp append_assoc

-- a text between two others
between : (front text back rest : List ℕ) → ((front ++ text) ++ back) ++ rest ≡ front ++ (text ++ (back ++ rest))
between front text back rest = simp append_assoc

pub listed : (n : ℕ) → program n ≡ HEAD.now ++ (decimal (1000 * n) ++ (ELEMENTS.now ++ (decimal n ++ RESULTS.now)))
listed n = rw (between [] (decimal (1000 * n)), between [] (decimal n)) refl
