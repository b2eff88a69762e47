-- What words and a text give is printed, unless memory is wanting or the outside failed.
use Rattle.std.proofs.Common.{◌≡◌, ℕ, List, Option, Ok, Err, refl, subst, inl, inr}
use Rattle.flow_io.specs.Bytes.{AddsOn}
use Rattle.sisal_top.specs.Answer.{Answers, Gives}
use Rattle.sisal_top.specs.declared.status.Status.TheVariants as status
use Rattle.answer_laws.specs.Alike.{AskLoosely}
use Rattle.answer_laws.specs.Laws.{CompleteLaw, OneAnswerLaw}

module _ (one : OneAnswerLaw) where
  done : (words : List (List ℕ)) (bytes printed : List ℕ) (before after : Option (List ℕ)) → ¬ AskLoosely words → Gives words bytes (Ok printed)
      → Answers words bytes status.Done before after → AddsOn before printed after
  done words bytes printed before after n g a =
      let e : a.0 ≡ printed = one words bytes (Ok a.0) (Ok printed) n a.1 g tt tt in
      subst (λ (bs : List ℕ). AddsOn before bs after) e a.2

  pub complete : CompleteLaw
  complete words bytes printed status.Done before after n g a x y = inl (refl, done words bytes printed before after n g a)
  complete words bytes printed (status.Usage f) before after n g a x y = absurd (one words bytes (Ok printed) (Err (status.Usage f)) n g a.0 tt tt)
  complete words bytes printed status.ReadFault before after n g a x y = absurd (x refl)
  complete words bytes printed status.WriteFault before after n g a x y = absurd (y refl)
  complete words bytes printed status.NoMemory before after n g a x y = inr refl
  complete words bytes printed (status.Syntax f) before after n g a x y = absurd (one words bytes (Ok printed) (Err (status.Syntax f)) n g a.0 tt tt)
  complete words bytes printed (status.Typing rule line) before after n g a x y = absurd (one words bytes (Ok printed) (Err (status.Typing rule line)) n g a.0 tt tt)
  complete words bytes printed (status.If1 f) before after n g a x y = absurd (one words bytes (Ok printed) (Err (status.If1 f)) n g a.0 tt tt)
  complete words bytes printed (status.Argument f) before after n g a x y = absurd (one words bytes (Ok printed) (Err (status.Argument f)) n g a.0 tt tt)
  complete words bytes printed status.TurnLimit before after n g a x y = absurd (one words bytes (Ok printed) (Err status.TurnLimit) n g a.0 tt tt)
  complete words bytes printed status.TooLong before after n g a x y = absurd (one words bytes (Ok printed) (Err status.TooLong) n g a.0 tt tt)
  complete words bytes printed status.Later before after n g a x y = absurd (one words bytes (Ok printed) (Err status.Later) n g a.0 tt tt)
  complete words bytes printed (status.Unlinked name) before after n g a x y = absurd (one words bytes (Ok printed) (Err (status.Unlinked name)) n g a.0 tt tt)
