-- What a part breaks the whole breaks.
use Rattle.std.proofs.Common.{◌≡◌, ℕ, List, [], length, Some, None, sym, ap, subst, ◌∙◌, rules}
use Rattle.std.specs.Prelude.{Contains}
use Rattle.name_scope.specs.Newest.{newest}
use Rattle.flow_value.specs.declared.ty.Ty.{Ty}
use Rattle.sisal_tree.specs.declared.unit.Written.{Written}
use Rattle.sisal_tree.specs.declared.expr.Def.{Def}
use Rattle.sisal_tree.specs.declared.expr.Elements.{Elements, out-Elements, roll-Elements}
use Rattle.sisal_tree.specs.declared.expr.Expr.{Expr}
use Rattle.sisal_tree.specs.declared.expr.ExprKind.{ExprKind}
use Rattle.sisal_tree.specs.declared.expr.ExprKind.TheVariants as tree
use Rattle.sisal_tree.specs.declared.expr.ExprKind.TheViews as kinds
use Rattle.sisal_tree.specs.declared.expr.FieldValue.{FieldValue}
use Rattle.typed_tree.specs.Scopes.{Scope}
use Rattle.typed_tree.specs.Typing.{Known, Number, at}
use Rattle.typed_tree.specs.Breaks as breaks
use Rattle.typed_tree.specs.Breaks.{IsUnknown, IsNotOne, Breaks, BreaksOne, BreaksIn, BreaksDefs}
use Rattle.unit_types.specs.Rests.{AreKnown}
use Rattle.typing_laws.specs.Judged.{denotes_in}
use Rattle.typing_laws.proofs.Unique.{as_many}
use Rattle.typing_laws.proofs.Later.{used_on}
use Rattle.breaking_laws.specs.Broken.{misnames_in, BreaksAt, BreaksOneAt, BreaksInAt, BreaksFieldAt, MisnamesAt}
use Rattle.breaking_laws.specs.Parts.{BreaksTurn, in_defs, renamed, BreaksDefsAt}
use Rattle.breaking_laws.specs.FormLaws.{UnknownLaw, NoLoopNameLaw, NotOneLaw, OneLaw, ListLaw, FieldLaw, GroupLaw, IsOperand, OperandLaw, AreElementsOf, ElementsLaw, AreFieldsOf, FieldsLaw, NamesType, NoTypeLaw, WrittenLaw, ErrorOfLaw, ArgumentsLaw, DefinitionsLaw, ResultsLaw, TestLaw, ThenLaw, ElseLaw}
use Rattle.breaking_laws.specs.FormLaws as part
use Rattle.breaking_laws.proofs.FPassing.{reach_later, reach_more, reach_here, agrees_at, unknown_name, unknown_old, unknown_type}

-- ---- names

pub unknown_breaks : UnknownLaw
unknown_breaks g f names line x table e =
    reach_here g f (BreaksAt g names (at line (tree.Name x)) 9 line) table
    (record { holds = λ k s whole stands. breaks.unknown (unknown_name k x names.names s.names stands.names e) })

pub old_breaks : NoLoopNameLaw
old_breaks g f names line x table e =
    reach_here g f (BreaksAt g names (at line (tree.Old x)) 10 line) table
    (record { holds = λ k s whole stands. breaks.no_loop_name (subst IsUnknown (sym (unknown_old k x names.olds s.olds stands.olds e)) tt) })

-- ---- one value, and lists

not_single : (k : Known) (ns : List ℕ) (tys : List Ty) → Number k ns tys → (length ns ≡ 1 → ⊥) → IsNotOne tys
not_single k ns tys number never a e = never (as_many k.forms k.spellings ns tys number.each ∙ ap length e)

pub not_one_breaks : NotOneLaw
not_one_breaks g f0 f1 names e t rule line used table typed same p =
    reach_later g f0 f1 (BreaksOneAt g names e rule line) used
    (reach_here g f1 (BreaksOneAt g names e rule line) table (record {
      holds = λ k s whole stands.
          let x = typed.holds k s whole.agrees stands in
          subst (λ r. BreaksOne k (denotes_in g k) (misnames_in g k) s e r line) (sym p.0)
          (subst (λ l. BreaksOne k (denotes_in g k) (misnames_in g k) s e 16 l) (sym same ∙ sym p.1)
          (breaks.not_one x.typed (not_single k t.types x.tys x.number p.2)));
    }))

pub one_breaks : OneLaw
one_breaks g f names e rule line p =
    reach_more g f (BreaksAt g names e rule line) (BreaksOneAt g names e rule line)
    (λ forms q. record { holds = λ k s whole stands. breaks.inside (q.holds k s whole stands) }) p

pub list_breaks : ListLaw
list_breaks g f0 f1 names es e rule line used there p =
    reach_later g f0 f1 (BreaksInAt g names es rule line) used
    (reach_more g f1 (BreaksAt g names e rule line) (BreaksInAt g names es rule line)
    (λ forms q. record { holds = λ k s whole stands. breaks.one_of there (q.holds k s whole stands) }) p)

pub field_breaks : FieldLaw
field_breaks g f0 f1 names vs v rule line used there p =
    reach_later g f0 f1 (BreaksFieldAt g names vs rule line) used
    (reach_more g f1 (BreaksOneAt g names v.value rule line) (BreaksFieldAt g names vs rule line) (λ forms q. record { field = v; contains = there; breaks = q }) p)

pub group_breaks : GroupLaw
group_breaks g f names l e rule line p =
    reach_more g f (BreaksAt g names e rule line) (BreaksAt g names (at l (tree.Group e)) rule line)
    (λ forms q. record { holds = λ k s whole stands. breaks.in_group (q.holds k s whole stands) }) p

-- ---- operands

pub out_elements : (els : Elements) → roll-Elements (record { lower = (out-Elements els).lower; values = (out-Elements els).values }) ≡ els
out_elements els = search (rules, kinds.the_lemmas)

module _ (k : Known) (denotes : Written → Ty → Type 0) (misnames : Written → ℕ → ℕ → Type 0) (s : Scope) (rule line l : ℕ) where
  in_operand : (kind : ExprKind) (e : Expr) → IsOperand kind e → BreaksOne k denotes misnames s e rule line → Breaks k denotes misnames s (at l kind) rule line
  in_operand _ _ (part.convert c e) p = breaks.in_convert c p
  in_operand _ _ (part.is_error e) p = breaks.in_is_error p
  in_operand _ _ (part.is_tag x e) p = breaks.in_is_tag x p
  in_operand _ _ (part.prefix o e) p = breaks.in_prefix o p
  in_operand _ _ (part.field e x) p = breaks.in_record x p
  in_operand _ _ (part.union x tag e) p = breaks.in_content x tag p
  in_operand _ _ (part.left o e f) p = breaks.in_left o f p
  in_operand _ _ (part.right o e f) p = breaks.in_right o e p
  in_operand _ _ (part.selected e i) p = breaks.in_array i p
  in_operand _ _ (part.index e i) p = breaks.in_index e p
  in_operand _ _ (part.updated e i f) p = breaks.in_updated i f p
  in_operand _ _ (part.place e i f) p = breaks.in_place e f p
  in_operand _ _ (part.value e i f) p = breaks.in_value e i p
  in_operand _ _ (part.replaced e vs) p = breaks.in_replaced vs p
  in_operand _ _ (part.lower x els) p =
      subst (λ r. Breaks k denotes misnames s (at l (tree.Array x (Some r))) rule line) (out_elements els)
      (breaks.in_lower x (out-Elements els).lower (out-Elements els).values p)

  in_elements : (kind : ExprKind) (es : List Expr) → AreElementsOf kind es → BreaksIn k denotes misnames s es rule line → Breaks k denotes misnames s (at l kind) rule line
  in_elements _ _ (part.array x els) p =
      subst (λ r. Breaks k denotes misnames s (at l (tree.Array x (Some r))) rule line) (out_elements els)
      (breaks.in_elements x (out-Elements els).lower (out-Elements els).values p)
  in_elements _ _ (part.stream x es) p = breaks.in_stream x p

  in_fields : (kind : ExprKind) (vs : List FieldValue) → AreFieldsOf kind vs → (v : FieldValue) → Contains vs v → BreaksOne k denotes misnames s v.value rule line → Breaks k denotes misnames s (at l kind) rule line
  in_fields _ _ (part.replace e vs) v there p = breaks.in_replacement e vs there p
  in_fields _ _ (part.a_record x vs) v there p = breaks.in_field x vs there p

pub operand_breaks : OperandLaw
operand_breaks g f0 f1 names kind e rule line used is p l =
    reach_later g f0 f1 (BreaksAt g names (at l kind) rule line) used
    (reach_more g f1 (BreaksOneAt g names e rule line) (BreaksAt g names (at l kind) rule line)
    (λ forms q. record { holds = λ k s whole stands. in_operand k (denotes_in g k) (misnames_in g k) s rule line l kind e is (q.holds k s whole stands) }) p)

pub elements_break : ElementsLaw
elements_break g f0 f1 names kind es rule line used is p l =
    reach_later g f0 f1 (BreaksAt g names (at l kind) rule line) used
    (reach_more g f1 (BreaksInAt g names es rule line) (BreaksAt g names (at l kind) rule line)
    (λ forms q. record { holds = λ k s whole stands. in_elements k (denotes_in g k) (misnames_in g k) s rule line l kind es is (q.holds k s whole stands) }) p)

pub fields_break : FieldsLaw
fields_break g f0 f1 names kind vs rule line used is p l =
    reach_later g f0 f1 (BreaksAt g names (at l kind) rule line) used
    (reach_more g f1 (BreaksFieldAt g names vs rule line) (BreaksAt g names (at l kind) rule line)
    (λ forms q. record {
      holds = λ k s whole stands. in_fields k (denotes_in g k) (misnames_in g k) s rule line l kind vs is q.field q.contains (q.breaks.holds k s whole stands);
    }) p)

-- ---- names of types

no_type : (k : Known) (denotes : Written → Ty → Type 0) (misnames : Written → ℕ → ℕ → Type 0) (s : Scope) (l : ℕ) (kind : ExprKind) (x : ℕ) → NamesType kind x → newest x k.types ≡ None
    → Breaks k denotes misnames s (at l kind) 2 l
no_type k denotes misnames s l _ _ (part.array x els) e = breaks.array_name x els e
no_type k denotes misnames s l _ _ (part.stream x es) e = breaks.stream_name x es e
no_type k denotes misnames s l _ _ (part.a_record x vs) e = breaks.record_name x vs e
no_type k denotes misnames s l _ _ (part.union x tag f) e = breaks.union_name x tag f e

pub no_type_breaks : NoTypeLaw
no_type_breaks g f names line kind x table is e =
    reach_here g f (BreaksAt g names (at line kind) 2 line) table (record {
      holds = λ k s whole stands. no_type k (denotes_in g k) (misnames_in g k) s line kind x is (unknown_type k.forms k.spellings x g.named k.types whole.agrees.types e);
    })

pub written_misnamed : WrittenLaw
written_misnamed g f w rule line table tells =
    reach_here g f (MisnamesAt g w rule line) table (record {
      holds = λ k whole. tells k.spellings k.types whole.agrees.spelled (subst (λ fs. AreKnown fs k.spellings g.named k.types) whole.same whole.agrees.types);
    })

pub error_of_breaks : ErrorOfLaw
error_of_breaks g f names l w rule line p =
    reach_more g f (MisnamesAt g w rule line) (BreaksAt g names (at l (tree.ErrorOf w)) rule line)
    (λ forms q. record { holds = λ k s whole stands. breaks.in_error_of (q.holds k whole) }) p

-- ---- calls, `let` and `if`

pub arguments_break : ArgumentsLaw
arguments_break g f names l x es rule line p =
    reach_more g f (BreaksInAt g names es rule line) (BreaksAt g names (at l (tree.Call x es)) rule line)
    (λ forms q. record { holds = λ k s whole stands. breaks.in_arguments x (q.holds k s whole stands) }) p

-- there is no loop whose names a definition could give another type
outside : (k : Known) (denotes : Written → Ty → Type 0) (misnames : Written → ℕ → ℕ → Type 0) (s : Scope) (ds : List Def) (rule line : ℕ) → BreaksTurn k denotes misnames [] s ds rule line
    → BreaksDefs k denotes misnames s ds rule line
outside k denotes misnames s ds _ _ (in_defs p) = p
outside k denotes misnames s ds _ _ (renamed before xs es after is earlier typed pair (level, type, found, other)) = absurd cc

pub definitions_break : DefinitionsLaw
definitions_break g f names l ds es rule line p =
    reach_more g f (BreaksDefsAt g names None ds rule line) (BreaksAt g names (at l (tree.Let ds es)) rule line)
    (λ forms q. record { holds = λ k s whole stands. breaks.in_definitions es (outside k (denotes_in g k) (misnames_in g k) s ds rule line (q.holds k s whole stands)) }) p

pub results_break : ResultsLaw
results_break g f0 f1 names inside l ds es us ns rule line used defined p = record {
  table = p.table;
  used = used_on g f0 f1 p.table used p.used;
  is_table = p.is_table;
  holds = record {
    holds = λ k s whole stands.
        let d = defined.holds k s (agrees_at g f1 p.table k p.used.grows whole) stands in
        breaks.in_results d.defines (p.holds.holds k d.inside whole d.stands);
  };
}

pub test_breaks : TestLaw
test_breaks g f names l c es fs rule line p =
    reach_more g f (BreaksOneAt g names c rule line) (BreaksAt g names (at l (tree.If c es fs)) rule line)
    (λ forms q. record { holds = λ k s whole stands. breaks.in_test es fs (q.holds k s whole stands) }) p

pub then_breaks : ThenLaw
then_breaks g f0 f1 names l c es fs rule line used p =
    reach_later g f0 f1 (BreaksAt g names (at l (tree.If c es fs)) rule line) used
    (reach_more g f1 (BreaksInAt g names es rule line) (BreaksAt g names (at l (tree.If c es fs)) rule line)
    (λ forms q. record { holds = λ k s whole stands. breaks.in_then c fs (q.holds k s whole stands) }) p)

pub else_breaks : ElseLaw
else_breaks g f0 f1 names l c es fs rule line used p =
    reach_later g f0 f1 (BreaksAt g names (at l (tree.If c es fs)) rule line) used
    (reach_more g f1 (BreaksInAt g names fs rule line) (BreaksAt g names (at l (tree.If c es fs)) rule line)
    (λ forms q. record { holds = λ k s whole stands. breaks.in_else c es (q.holds k s whole stands) }) p)
