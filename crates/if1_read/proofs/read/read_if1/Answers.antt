use Rattle.std.proofs.Common.{◌≡◌, ◌∙◌, ℕ, List, bytes_eq, refl, ap, subst, IfErr, arith}
use Rattle.std.specs.List.{list_any}
use Rattle.std.proofs.lemmas.Result.{IfOk-weaker, IfErr-weaker}
use Rattle.if1_graph.specs.declared.fault.If1Fault.TheVariants as refusal
use Rattle.if1_graph.specs.declared.graph.Unit1.{Unit1}
use Rattle.if1_graph.specs.Reads.{ReadsIf1}
use Rattle.if1_read.specs.declared.judge.Known.{Known}
use Rattle.if1_read.specs.Entries.{entries_of}
use Rattle.if1_read.specs.Faults.{rows_of, IsFaultOf}
use Rattle.if1_read.specs.Known.{IsTableSound}
use Rattle.if1_read.specs.Putting.{AreSortedOut}
use Rattle.if1_read.specs.Sorting.{has_name}
use Rattle.if1_read.specs.Stands.{lines_of}
use Rattle.if1_read.specs.Whole.{IsWhole, IsRefused}
use Rattle.if1_read.proofs.Assembly.{all_read, assembled}
use Rattle.if1_read.proofs.Room.{lines_few, graphs_few}
use Rattle.if1_read.proofs.Refused.{IsAtEnd, refused, given_up}
use Rattle.if1_read.proofs.Refusing.{only_memory}
use Rattle.if1_read.proofs.Ruling.{rulings}
use Rattle.if1_read.proofs.read.read_if1.Goals as goal

pub whole-requires-clause-room : goal.whole-requires-clause-room
whole-requires-clause-room c = λ clean closed read ends.
    let sound : IsTableSound c.in_ok-table.table = c.in_ok-table.ensures.sound in
    let sorted = c.in_ok-entries.ensures.read (c.in_ok-table.ensures.clean (c.in_ok-machine.ensures.clean clean)) in
    let gs = lines_of c.in_ok-entries.field-0.lines.items in
    let k : Known = record { table = c.in_ok-table.table; names = c.in_ok-names.names } in
    let runs = c.in_ok-machine.ensures.runs clean sound (all_read c.args.text.now c.in_ok-lines.lines (entries_of c.in_ok-entries.field-0.entries.items) gs c.in_ok-lines.ensures.rows sorted) in
    omega (
      arith,
      graphs_few k c.in_ok-machine.machine gs read sound runs closed ends,
      lines_few c.in_ok-lines.lines (entries_of c.in_ok-entries.field-0.entries.items) gs sorted,
      c.in_ok-lines.ensures.few,
      c.requires,
    )

pub returns : goal.returns
returns c =
    let k : Known = record { table = c.in_ok-table.table; names = c.in_ok-names.names } in
    let m = c.in_ok-machine.machine in
    let sound : IsTableSound k.table = c.in_ok-table.ensures.sound in
    let names : (t : List ℕ) → list_any (λ n. bytes_eq n t) k.names ≡ has_name t (lines_of c.in_ok-entries.field-0.lines.items) =
    λ t. c.in_ok-names.ensures t ∙ ap (λ ls. has_name t (lines_of ls)) c.as_slice.ensures.value in
    let s = c.in_ok-entries.field-0 in
    let text = c.args.text.now in
    let sorted : AreSortedOut (rows_of text) s = subst (λ rows. AreSortedOut rows s) c.in_ok-lines.ensures.rows c.in_ok-entries.ensures.sorted in
    let ended : IsAtEnd text k s c.in_ok-table.first m = record {
      sorted = sorted;
      table = c.in_ok-table.ensures.found;
      entry = c.in_ok-table.ensures.first;
      rules = rulings k sound c.in_ok-table.ensures.real;
      names = names;
      sheets = c.in_ok-machine.ensures.sheets sound;
      found = c.in_ok-machine.ensures.found sound;
    } in
    let fault : IfErr c.whole.result (λ e. IsFaultOf text e) =
    IfErr-weaker c.whole.result (λ e. IsTableSound k.table → IsRefused k m e) (λ e. IsFaultOf text e) (λ e h. refused text k s c.in_ok-table.first m ended e (h sound)) c.whole.ensures.fault in
    record {
      read =
          IfOk-weaker c.whole.result (λ u. IsTableSound k.table → IsWhole k m u) (λ u. ReadsIf1 c.args.text.now u)
          (λ u h.
          let w : IsWhole k m u = h sound in
          let table_clean = c.in_ok-machine.ensures.clean w.clean in
          let lines_clean = c.in_ok-table.ensures.clean table_clean in
          assembled c.args.text.now c.in_ok-lines.lines (entries_of c.in_ok-entries.field-0.entries.items) (lines_of c.in_ok-entries.field-0.lines.items) k m u
          c.in_ok-lines.ensures.rows (c.in_ok-entries.ensures.read lines_clean) names sound (c.in_ok-table.ensures.table table_clean)
          (c.in_ok-machine.ensures.runs w.clean sound) w)
          c.whole.ensures.read;
      fault = fault;
      only =
          IfErr-weaker c.whole.result (λ e. IsFaultOf text e) (λ e. (u : Unit1) → ReadsIf1 text u → e ≡ refusal.NoMemory) (λ e f u r. only_memory text u r e f) fault;
    }

pub returns-in_err-machine-clause-only : goal.returns-in_err-machine-clause-only
returns-in_err-machine-clause-only c =
    given_up (λ e. (u : Unit1) → ReadsIf1 c.args.text.now u → e ≡ refusal.NoMemory) c.from_residual-in_err-machine.result c.from_residual-in_err-machine.ensures.1 (λ u r. refl)
