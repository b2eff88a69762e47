use Rattle.std.proofs.Common.{◌≡◌, ◌∙◌, sym, ap, Option, List, ◌∷◌}
use Rattle.value_text.specs.Machine.{innermost, next}
use Rattle.value_text.specs.declared.spelling.Enclosure.{Enclosure}
use Rattle.value_text.proofs.Search.{leads_to, leads_in, leads_out, refused, refused_close}
use Rattle.value_text.proofs.spelling.advance.Goals as goal

pub returns-in-To : goal.returns-in-To
returns-in-To c = leads_to c.args.mode c.args.nest.now c.args.c c.in-To.reached (ap (λ (x : Option Enclosure). next c.args.mode x c.args.c) (sym c.innermost.ensures) ∙ sym c.next.ensures ∙ c.in-To.is)

pub returns-in_ok-enter-in-Open : goal.returns-in_ok-enter-in-Open
returns-in_ok-enter-in-Open c = rw (c.in_ok-enter-in-Open.ensures) (leads_in c.args.mode c.args.nest.now c.args.c c.in-Open.aggregate c.in-Open.reached (ap (λ (x : Option Enclosure). next c.args.mode x c.args.c) (sym c.innermost.ensures) ∙ sym c.next.ensures ∙ c.in-Open.is))

pub returns-in-Close : goal.returns-in-Close
returns-in-Close c = let p : (a : Enclosure) × (c.args.nest.now ≡ a ∷ c.leave.new.self) = c.if-leave.ensures in leads_out c.args.mode c.args.nest.now c.args.c p.0 c.leave.new.self p.1 (ap (λ (x : Option Enclosure). next c.args.mode x c.args.c) (sym c.innermost.ensures) ∙ sym c.next.ensures ∙ c.in-Close.is)

pub returns-in-Close-2 : goal.returns-in-Close-2
returns-in-Close-2 c = refused_close c.args.mode c.args.nest.now c.args.c c.if-leave.ensures (ap (λ (x : Option Enclosure). next c.args.mode x c.args.c) (sym c.innermost.ensures) ∙ sym c.next.ensures ∙ c.in-Close.is)

pub returns-in-Bad : goal.returns-in-Bad
returns-in-Bad c = refused c.args.mode c.args.nest.now c.args.c (ap (λ (x : Option Enclosure). next c.args.mode x c.args.c) (sym c.innermost.ensures) ∙ sym c.next.ensures ∙ c.in-Bad.is)
