-- What `if1` prints stays as it is.
use Rattle.std.proofs.Common.{◌≡◌, ℕ, List, Result, Ok, Err, sym, ap, subst}
use Rattle.if1_call.specs.Calls.{IsCanonicalOf}
use Rattle.if1_graph.specs.Reads.{ReadsIf1}
use Rattle.if1_write.specs.Laws.{WrittenIsRead}
use Rattle.run_words.specs.Words.{IsCommand}
use Rattle.run_words.specs.declared.command.Command.{Command}
use Rattle.run_words.specs.declared.command.Command.TheVariants as command
use Rattle.sisal_top.specs.Answer.{Gives, Replies}
use Rattle.sisal_top.specs.declared.status.Status.{Status}
use Rattle.answer_laws.specs.Alike.{AreOne, IsLoose, AskLoosely}
use Rattle.answer_laws.specs.Laws.{OneAnswerLaw, IsPrintedAgain}

canonical_again : WrittenIsRead → (bytes printed : List ℕ) → IsCanonicalOf bytes printed → IsCanonicalOf printed printed
canonical_again written bytes printed c = record {
  unit = c.unit;
  read = subst (λ (t : List ℕ). ReadsIf1 t c.unit) (sym c.is) (written c.unit c.ready c.read.give.normal);
  ready = c.ready;
  sound = c.sound;
  is = c.is;
}

same_reply : (r : Result (List ℕ) Status) (printed : List ℕ) → AreOne r (Ok printed) → r ≡ Ok printed
same_reply (Ok other) printed e = ap Ok e
same_reply (Err s) printed e = absurd e

pub printed_again : WrittenIsRead → ((words : List (List ℕ)) (a b : Command) → IsCommand words a → IsCommand words b → a ≡ b) → OneAnswerLaw → IsPrintedAgain
printed_again written one_command one words bytes printed is g fits =
    let asks = subst (λ c. Replies c bytes (Ok printed)) (one_command words g.0 command.If1 g.1 is) g.2 in
    let again : Gives words printed (Ok printed) = (command.If1, is, (fits, canonical_again written bytes printed asks.1)) in
    let no_graphs : ¬ AskLoosely words = λ a. subst IsLoose (one_command words a.0 command.If1 a.1 is) a.2 in
    (again, λ r h t. same_reply r printed (one words printed r (Ok printed) no_graphs h again t tt))
