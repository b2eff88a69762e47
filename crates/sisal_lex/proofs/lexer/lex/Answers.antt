use Rattle.std.proofs.Common.{◌≡◌, ◌∙◌, ℕ, ◌+◌, ◌-◌, ◌≤◌, List, [], length, drop, take, get_or, Err, sym, ap, subst, arith, ◌⊎◌, inl, inr}
use Rattle.sisal_lex.specs.Tokens.{lexed, named, tokens_of, head_of, line_after}
use Rattle.sisal_lex.specs.Heads.{bytes_after, tokens_in, used_at}
use Rattle.sisal_lex.specs.declared.fault.LexFault.TheVariants as fault
use Rattle.sisal_lex.proofs.Grown.{rest_is}
use Rattle.sisal_lex.proofs.Turns.{continued, begun, turn, turned, turned-entered, within_text, line_within, names_grow, tokens_of-short, passed_on}
use Rattle.sisal_lex.specs.Sound.{AreSound, AreFolded}
use Rattle.sisal_lex.specs.declared.token.Token.{Token}
use Rattle.sisal_lex.proofs.Kept.{SoundHead, head_sound, sound_more, folded_more, tokens_grow}
use Rattle.sisal_lex.proofs.lexer.lex.Goals as goal

pub loop-at-init : goal.loop-at-init
loop-at-init c =
    let r = lexed c.args.text.now 1 0 in
    let none : length c.new-names.result ≡ 0 = ap length c.new-names.ensures in
    let nothing : length c.new-list.result ≡ 0 = ap length c.new-list.ensures in
    record {
      within = omega arith;
      lines = omega arith;
      few = omega (arith, none);
      tokens = omega (arith, nothing);
      sound = λ k d i. absurd (omega (arith, i, nothing));
      folded = λ k d i. absurd (omega (arith, i, none));
      rest = begun r ∙ ap (λ l. continued l [] r) (sym c.new-list.ensures) ∙ ap (λ n. continued c.new-list.result n r) (sym c.new-names.ensures);
    }

pub returns-in_err-at-clause-fault : goal.returns-in_err-at-clause-fault
returns-in_err-at-clause-fault c =
    let text = c.args.text.now in
    let at = c.loop-at.at in
    let line = c.loop-at.line in
    let h = c.in_ok-head.head in
    let e = c.in_err-at.field-0.0 in
    let r = lexed (drop (at + (1 + bytes_after h)) text) (line_after line (get_or text at 0)) 0 in
    let is : h ≡ head_of line (get_or text at 0) (drop (at + 1) text) = c.in_ok-head.ensures ∙ ap (head_of line (get_or text at 0)) (rest_is (at + 1) text) in
    let all = tokens_of-short text c.if-text-gt-LONGEST.false ∙ c.loop-at.invariant.rest ∙ turn c.loop-at.list c.loop-at.names text line at h c.loop-at-test.true is in
    passed_on (λ e. (e ≡ fault.NoMemory) ⊎ (tokens_of text ≡ Err e)) _ e c.from_residual-in_err-at.ensures.1
    (elim c.in_err-at.ensures.fault [
      | inl none ↦ inl none
      | inr bad ↦ inr (all ∙ ap (λ x. turned c.loop-at.list c.loop-at.names line x r) bad)
    ])

pub overflow_add-at-in-loop-at : goal.overflow_add-at-in-loop-at
overflow_add-at-in-loop-at c =
    let e = c.in_ok-head.ensures in
    let text = c.args.text.now in
    let at = c.loop-at.at in
    let is : c.in_ok-head.head ≡ head_of c.loop-at.line (get_or text at 0) (drop (at + 1) text) = e ∙ ap (head_of c.loop-at.line (get_or text at 0)) (rest_is (at + 1) text) in
    let within = within_text text c.loop-at.line at c.in_ok-head.head c.loop-at-test.true is in
    omega (arith, within, c.in_ok-at.ensures.bytes)

pub overflow_add-at-in-loop-at-2 : goal.overflow_add-at-in-loop-at-2
overflow_add-at-in-loop-at-2 c =
    let e = c.in_ok-head.ensures in
    let text = c.args.text.now in
    let at = c.loop-at.at in
    let is : c.in_ok-head.head ≡ head_of c.loop-at.line (get_or text at 0) (drop (at + 1) text) = e ∙ ap (head_of c.loop-at.line (get_or text at 0)) (rest_is (at + 1) text) in
    let within = within_text text c.loop-at.line at c.in_ok-head.head c.loop-at-test.true is in
    omega (arith, within, c.in_ok-at.ensures.bytes)

pub loop-at-preserved : goal.loop-at-preserved
loop-at-preserved c =
    let text = c.args.text.now in
    let at = c.loop-at.at in
    let line = c.loop-at.line in
    let h = c.in_ok-head.head in
    let list = c.loop-at.list in
    let names = c.loop-at.names in
    let is : h ≡ head_of line (get_or text at 0) (drop (at + 1) text) = c.in_ok-head.ensures ∙ ap (head_of line (get_or text at 0)) (rest_is (at + 1) text) in
    let within = within_text text line at h c.loop-at-test.true is in
    let bytes = c.in_ok-at.ensures.bytes in
    let end = c.line_after-line.ensures in
    let r = lexed (drop (at + (1 + bytes_after h)) text) (line_after line (get_or text at 0)) 0 in
    let sound = subst SoundHead (sym is) (head_sound line (get_or text at 0) (drop (at + 1) text)) in
    record {
      within = omega (arith, within, bytes);
      lines = omega (arith, end, line_within line (get_or text at 0), c.loop-at.invariant.lines);
      few = omega (arith, ap length c.in_ok-at.ensures.names, names_grow names h, c.loop-at.invariant.few);
      tokens = omega (arith, ap length c.in_ok-at.ensures.list, tokens_grow list names line h, c.loop-at.invariant.tokens);
      sound =
          subst (λ (ns : List (List ℕ)). AreSound (length ns) c.enter.new.list) (sym c.in_ok-at.ensures.names)
          (subst (λ (ts : List Token). AreSound (length (used_at names h)) ts) (sym c.in_ok-at.ensures.list) (sound_more list names line h sound c.loop-at.invariant.sound));
      folded = subst (λ (ns : List (List ℕ)). AreFolded ns) (sym c.in_ok-at.ensures.names) (folded_more names h sound c.loop-at.invariant.folded);
      rest =
          c.loop-at.invariant.rest
          ∙ turn list names text line at h c.loop-at-test.true is
          ∙ turned-entered list names line h r c.in_ok-at.ensures.no_fault
          ∙ ap (λ l. continued l (used_at names h) r) (sym c.in_ok-at.ensures.list)
          ∙ ap (λ n. continued c.enter.new.list n r) (sym c.in_ok-at.ensures.names)
          ∙ ap (λ k. continued c.enter.new.list c.enter.new.names (lexed (drop (at + (1 + k)) text) (line_after line (get_or text at 0)) 0)) (sym bytes)
          ∙ ap (λ k. continued c.enter.new.list c.enter.new.names (lexed (drop (at + (1 + c.in_ok-at.field-0)) text) k 0)) (sym end);
    }
