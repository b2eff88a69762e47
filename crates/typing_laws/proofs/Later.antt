-- What is so with a table of types is so with a larger one.
use Rattle.std.proofs.Common.{◌≡◌, ◌<◌, ◌≤◌, ◌+◌, ℕ, List, [], ◌++◌, length, sym, ap, ◌∙◌, arith}
use Rattle.std.proofs.lemmas.List.{length-append, append_assoc, append-nil}
use Rattle.type_table.specs.declared.form.Form.{Form}
use Rattle.sisal_tree.specs.declared.expr.Expr.{Expr}
use Rattle.sisal_tree.specs.declared.unit.Written.{Written}
use Rattle.typed_tree.specs.declared.expr.TypedExpr.{TypedExpr}
use Rattle.typed_tree.specs.Typing.{Known}
use Rattle.flow_value.specs.declared.ty.Ty.{Ty}
use Rattle.typed_tree.specs.Types.{IsNumber}
use Rattle.type_rules.specs.Applies.{Grows}
use Rattle.unit_types.specs.Rests.{IsLater, AreKnown, AreTokensSpelled, IsUsed}
use Rattle.value_names.specs.Names.{Names}
use Rattle.typing_laws.specs.Given.{Given}
use Rattle.typing_laws.specs.Judged.{Agrees, IsUsedIn, Typed, AllTyped, AllOnes, IsDenoted, denotes_in}

pub grows_on : (a b c : List Form) → Grows a b → Grows b c → Grows a c
grows_on a b c p q = (p.0 ++ q.0, q.1 ∙ ap (λ l. l ++ q.0) p.1 ∙ append_assoc a p.0 q.0)

pub grows_same : (a b : List Form) → b ≡ a → Grows a b
grows_same a b e = ([], e ∙ sym (append-nil a))

-- ---- a table in use

pub used_same : (g : Given) (a : List Form) → IsUsedIn g a a
used_same g a = record { grows = ([], sym (append-nil a)); standing = λ t s. s }

pub used_on : (g : Given) (a b c : List Form) → IsUsedIn g a b → IsUsedIn g b c → IsUsedIn g a c
used_on g a b c p q = record { grows = grows_on a b c p.grows q.grows; standing = λ t s. q.standing t (p.standing t s) }

pub used_text : (g : Given) (a b : List Form) → IsUsed g.tokens a b → IsUsedIn g a b
used_text g a b p = record { grows = (p.grown.more, p.grown.is); standing = λ t s. p.standing g.spellings t s }

-- ---- what is so of a table

pub agrees_before : (g : Given) (old new : List Form) (k : Known) → Grows old new → Agrees g new k → Agrees g old k
agrees_before g old new k grows a = record {
  grows = grows_on old new k.forms grows a.grows;
  table = a.table;
  spellings = a.spellings;
  types = a.types;
  standing = a.standing;
  spelled = a.spelled;
  once = a.once;
  functions = a.functions;
  numbers = a.numbers;
  all = a.all;
}

pub typed_later : (g : Given) (old new : List Form) (names : Names) (e : Expr) (t : TypedExpr) → Grows old new → Typed g old names e t → Typed g new names e t
typed_later g old new names e t grows p = record { holds = λ k s a st. p.holds k s (agrees_before g old new k grows a) st }

pub all_later : (g : Given) (old new : List Form) (names : Names) (es : List Expr) (ts : List TypedExpr) (ns : List ℕ) → Grows old new
    → AllTyped g old names es ts ns → AllTyped g new names es ts ns
all_later g old new names es ts ns grows p = record { holds = λ k s a st. p.holds k s (agrees_before g old new k grows a) st }

pub ones_later : (g : Given) (old new : List Form) (names : Names) (es : List Expr) (ts : List TypedExpr) (ns : List ℕ) → Grows old new
    → AllOnes g old names es ts ns → AllOnes g new names es ts ns
ones_later g old new names es ts ns grows p = record { holds = λ k s a st. p.holds k s (agrees_before g old new k grows a) st }

pub denoted_later : (g : Given) (old new : List Form) (w : Written) (n : ℕ) → Grows old new → IsDenoted g old w n → IsDenoted g new w n
denoted_later g old new w n grows p = record { holds = λ k a. p.holds k (agrees_before g old new k grows a) }

-- the number of a written type, where what its tokens denote is told for each table that goes on from this one
pub written_type : (g : Given) (f : List Form) (w : Written) (n : ℕ) → n < length f
    → ((k : Known) → IsLater f k.forms → AreTokensSpelled k.spellings g.tokens → AreKnown k.forms k.spellings g.named k.types → (a : Ty) → IsNumber k.forms k.spellings n a → denotes_in g k w a)
    → IsDenoted g f w n
written_type g f w n within reads = record {
  holds = λ k a.
      let longer : length f ≤ length k.forms = (let e : length k.forms ≡ length f + length a.grows.0 = ap length a.grows.1 ∙ length-append f a.grows.0 in omega (arith, e)) in
      let t = a.standing.stands n (omega (arith, within, longer)) in
      (t.0, reads k (record { more = a.grows.0; grown = a.grows.1; table = a.table }) a.spelled a.types t.0 t.1, t.1);
}
