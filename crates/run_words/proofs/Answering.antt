-- What a function that gives what reading gives may answer.
use Rattle.std.proofs.Common.{◌≡◌, ◌≢◌, ℕ, List, Result, Ok, Err, IfOk, IfErr, refl, sym, ◌∙◌, subst, ◌⊎◌, inl, inr}
use Rattle.run_words.specs.Reading.{Gives, reads_words}
use Rattle.run_words.specs.Words.{IsCommand, HasFault}
use Rattle.run_words.specs.declared.fault.WordFault.{WordFault}
use Rattle.run_words.specs.declared.fault.WordFault.TheVariants as fault
use Rattle.run_words.specs.declared.command.Command.{Command}
use Rattle.run_words.proofs.Sound.{AllTold, all_told}
use Rattle.run_words.proofs.Complete.{command_read, word_fault_read}

pub is_command : (words : List (List ℕ)) (r : Result Command WordFault) → Gives r (reads_words words) → IfOk r (λ found. IsCommand words found)
is_command words (Ok found) gives = subst (λ r. AllTold words r) gives (all_told words)
is_command words (Err f) gives = tt

pub has_fault : (words : List (List ℕ)) (r : Result Command WordFault) → Gives r (reads_words words) → IfErr r (λ f. f ≢ fault.NoMemory → HasFault words f)
has_fault words (Ok found) gives = tt
has_fault words (Err fault.NoMemory) gives = λ other. absurd (other refl)
has_fault words (Err fault.Missing) gives = λ other. subst (λ r. AllTold words r) gives (all_told words)
has_fault words (Err (fault.Unknown k)) gives = λ other. subst (λ r. AllTold words r) gives (all_told words)
has_fault words (Err (fault.Repeated k)) gives = λ other. subst (λ r. AllTold words r) gives (all_told words)
has_fault words (Err (fault.NotANumber k)) gives = λ other. subst (λ r. AllTold words r) gives (all_told words)
has_fault words (Err (fault.OutOfRange k)) gives = λ other. subst (λ r. AllTold words r) gives (all_told words)

pub gives_command : (words : List (List ℕ)) (r : Result Command WordFault) → Gives r (reads_words words) → (found : Command) → IsCommand words found → Gives r (Ok found)
gives_command words r gives found is = subst (λ read. Gives r read) (command_read words found is) gives

pub gives_fault : (words : List (List ℕ)) (r : Result Command WordFault) → Gives r (reads_words words) → (f : WordFault) → HasFault words f → Gives r (Err f)
gives_fault words r gives f is = subst (λ read. Gives r read) (word_fault_read words f is) gives

-- Reading gives one answer of any words, so the relations do.
some_by : (words : List (List ℕ)) (r : Result Command WordFault) → AllTold words r → ((found : Command) × IsCommand words found) ⊎ ((f : WordFault) × HasFault words f)
some_by words (Ok found) is = inl (found, is)
some_by words (Err f) is = inr (f, is)

pub some_meaning : (words : List (List ℕ)) → ((found : Command) × IsCommand words found) ⊎ ((f : WordFault) × HasFault words f)
some_meaning words = some_by words (reads_words words) (all_told words)

pub one_command : (words : List (List ℕ)) (a b : Command) → IsCommand words a → IsCommand words b → a ≡ b
one_command words a b is other = let same : ◌≡◌ {A = Result Command WordFault} (Ok a) (Ok b) = sym (command_read words a is) ∙ command_read words b other in cc

pub one_fault : (words : List (List ℕ)) (a b : WordFault) → HasFault words a → HasFault words b → a ≡ b
one_fault words a b is other = let same : ◌≡◌ {A = Result Command WordFault} (Err a) (Err b) = sym (word_fault_read words a is) ∙ word_fault_read words b other in cc

pub not_both : (words : List (List ℕ)) (found : Command) (f : WordFault) → IsCommand words found → HasFault words f → ⊥
not_both words found f is wrong = let same : ◌≡◌ {A = Result Command WordFault} (Ok found) (Err f) = sym (command_read words found is) ∙ word_fault_read words f wrong in cc
