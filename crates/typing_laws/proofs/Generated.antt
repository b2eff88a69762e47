-- Generators: what they go over, and groups of them.
use Rattle.std.proofs.Common.{◌≡◌, inl, inr, ℕ, false, List, [], ◌∷◌, ◌++◌, Option, Some, None, slice_get, is_some, refl, sym, ap, subst, ◌∙◌, rules}
use Rattle.std.specs.Prelude.{if◌then◌else◌}
use Rattle.std.proofs.lemmas.Option.{same_Some}
use Rattle.flow_value.specs.declared.ty.Ty.{Ty}
use Rattle.flow_value.specs.declared.ty.Ty.TheVariants as ty
use Rattle.type_table.specs.declared.form.Form.{Form}
use Rattle.type_table.specs.declared.form.Form.TheVariants as form
use Rattle.type_table.specs.Tables.{IsTable}
use Rattle.type_table.proofs.Lists.{left}
use Rattle.sisal_tree.specs.declared.unit.Named.{Named}
use Rattle.sisal_tree.specs.declared.unit.Written.{Written}
use Rattle.sisal_tree.specs.declared.expr.Expr.{Expr}
use Rattle.sisal_tree.specs.declared.expr.ExprKind.TheViews as kinds
use Rattle.sisal_tree.specs.declared.expr.Generator.{Generator, out-Generator, roll-Generator}
use Rattle.typed_tree.specs.declared.expr.Source.{Source}
use Rattle.typed_tree.specs.declared.expr.Source.TheVariants as source
use Rattle.typed_tree.specs.declared.expr.TypedExpr.{TypedExpr}
use Rattle.typed_tree.specs.Scopes as scopes
use Rattle.typed_tree.specs.Scopes.{AreDistinct}
use Rattle.typed_tree.specs.Types.{IsNumber, IsSequence, AreNumbers}
use Rattle.typed_tree.specs.Typing.{Known, Number, Types, Generates, no_generator, range, elements, indexed, names_of}
use Rattle.type_rules.specs.Applies.{Grows}
use Rattle.type_rules.specs.Parts.{part_if, sequence_part, sequence_at}
use Rattle.type_rules.proofs.Standing.{standing_at, one_type}
use Rattle.type_rules.proofs.Grown.{integer_is}
use Rattle.value_names.specs.Names.{Names}
use Rattle.value_names.specs.Scopes.{define_all}
use Rattle.typing_laws.specs.Given.{Given, Parts, Group}
use Rattle.typing_laws.specs.Judged.{denotes_in, AreOnes, no_one, a_one, AllOnes}
use Rattle.typing_laws.specs.Looping.{AllGenerated, GoesOver, over_range, over_elements, index_names, index_types, up_to, KeepsGenerator, GroupTyped, GroupsTyped, no_group, a_group}
use Rattle.typing_laws.proofs.Later.{agrees_before}
use Rattle.typing_laws.proofs.Unique.{number_append, no_numbers}

-- ---- sequences

pub form_later : (old new : List Form) (n : ℕ) (f : Form) → Grows old new → slice_get old n ≡ Some f → slice_get new n ≡ Some f
form_later old new n f grows e = subst (λ l. slice_get l n ≡ Some f) (sym grows.1) (left old grows.0 n f e)

sequence_later : (old new : List Form) (n m : ℕ) → Grows old new → sequence_at old n ≡ Some m → sequence_at new n ≡ Some m
sequence_later old new n m grows e = by (slice_get old n) refl
  where
    by : (o : Option Form) → slice_get old n ≡ o → sequence_at new n ≡ Some m
    by None h = absurd (let no : None ≡ Some m = ap (part_if sequence_part) (sym h) ∙ e in let yes : ⊥ = cc in yes)
    by (Some f) h = ap (part_if sequence_part) (form_later old new n f grows h) ∙ ap (part_if sequence_part) (sym h) ∙ e

record HasElement (k : Known) (n m : ℕ) (t : Ty) : Type 0 where
  element : Ty
  is : IsSequence t element
  number : IsNumber k.forms k.spellings m element

sequence_is : (k : Known) (n m : ℕ) (t : Ty) → IsNumber k.forms k.spellings n t → (o : Option Form) → slice_get k.forms n ≡ o → part_if sequence_part o ≡ Some m → HasElement k n m t
sequence_is k n m t p None h e = absurd cc
sequence_is k n m t p (Some form.Boolean) h e = absurd cc
sequence_is k n m t p (Some form.Character) h e = absurd cc
sequence_is k n m t p (Some form.Integer) h e = absurd cc
sequence_is k n m t p (Some form.Null) h e = absurd cc
sequence_is k n m t p (Some (form.Record ms)) h e = absurd cc
sequence_is k n m t p (Some (form.Union ms)) h e = absurd cc
sequence_is k n m t p (Some (form.Array j)) h e =
    let s = standing_at k.forms k.spellings n (Some (form.Array j)) h t p in
    record { element = s.part; is = inl s.is; number = subst (λ i. IsNumber k.forms k.spellings i s.part) (same_Some j m e) s.stands }
sequence_is k n m t p (Some (form.Stream j)) h e =
    let s = standing_at k.forms k.spellings n (Some (form.Stream j)) h t p in
    record { element = s.part; is = inr s.is; number = subst (λ i. IsNumber k.forms k.spellings i s.part) (same_Some j m e) s.stands }

-- ---- one generator

record IsGenerated (k : Known) (denotes : Written → Ty → Type 0) (s : scopes.Scope) (one : Generator) (from : Source) (ts : List TypedExpr) (names ns : List ℕ) : Type 0 where
  tys : List Ty
  number : Number k ns tys
  typed : Generates k denotes s (one ∷ []) (from ∷ []) ts names tys

module _ (k : Known) (denotes : Written → Ty → Type 0) (s : scopes.Scope) (table : IsTable k.forms) where
  int_of : (t : Ty) → IsNumber k.forms k.spellings 2 t → t ≡ ty.Int
  int_of t p = one_type k.forms k.spellings 2 t ty.Int p (integer_is k.forms k.spellings table)

  range_typed : (n : Named) (e : Expr) (to : Option Expr) (ts : List TypedExpr) (tys : List Ty) → AreOnes k denotes s (e ∷ up_to to) ts tys → AreNumbers k.forms k.spellings (2 ∷ 2 ∷ []) tys
      → IsGenerated k denotes s (roll-Generator (record { name = n; from = e; to = to; at = None })) source.Range ts (n.name ∷ []) (2 ∷ [])
  range_typed n e None _ _ (a_one p no_one) q = absurd q.1
  range_typed n e (Some f) _ _ (a_one {t = t} {a = a} p (a_one {t = u} {a = b} r no_one)) q = record {
    tys = ty.Int ∷ [];
    number = record { each = (integer_is k.forms k.spellings table, tt) };
    typed = range n (subst (λ c. Types k denotes s e t (c ∷ [])) (int_of a q.0) p) (subst (λ c. Types k denotes s f u (c ∷ [])) (int_of b q.1.0) r) no_generator;
  }

  over_typed : (n : Named) (e : Expr) (to : Option Expr) (index : Option ℕ) (ts : List TypedExpr) (tys : List Ty) (j m : ℕ) → AreOnes k denotes s (e ∷ up_to to) ts tys → AreNumbers k.forms k.spellings (j ∷ []) tys
      → sequence_at k.forms j ≡ Some m
      → IsGenerated k denotes s (roll-Generator (record { name = n; from = e; to = to; at = index })) (if is_some index then source.Indexed else source.Elements) ts
      (n.name ∷ names_of (index_names index n.line)) (m ∷ index_types index)
  over_typed n e (Some f) index _ _ j m (a_one p (a_one r no_one)) q at = absurd q.1
  over_typed n e None None _ _ j m (a_one {t = t} {a = a} p no_one) q at =
      let h = sequence_is k j m a q.0 (slice_get k.forms j) refl at in record {
        tys = h.element ∷ [];
        number = record { each = (h.number, tt) };
        typed = elements n p h.is no_generator;
      }
  over_typed n e None (Some i) _ _ j m (a_one {t = t} {a = a} p no_one) q at =
      let h = sequence_is k j m a q.0 (slice_get k.forms j) refl at in record {
        tys = h.element ∷ ty.Int ∷ [];
        number = record { each = (h.number, (integer_is k.forms k.spellings table, tt)) };
        typed = indexed n p h.is no_generator;
      }

  not_some : (o : Option ℕ) → is_some o ≡ false → o ≡ None
  not_some None e = refl
  not_some (Some x) e = absurd cc

  goes_typed : (f : List Form) (n : Named) (e : Expr) (to : Option Expr) (index : Option ℕ) (ts : List TypedExpr) (ns : List ℕ) (tys : List Ty) (from : Source) (m : ℕ) → Grows f k.forms
      → AreOnes k denotes s (e ∷ up_to to) ts tys → Number k ns tys → GoesOver f ns (is_some index) from m
      → IsGenerated k denotes s (roll-Generator (record { name = n; from = e; to = to; at = index })) from ts (n.name ∷ names_of (index_names index n.line)) (m ∷ index_types index)
  goes_typed f n e to index ts ns tys from m grows p q (over_range bounds no_index is type) =
      let none : index ≡ None = not_some index no_index in
      subst (λ i. IsGenerated k denotes s (roll-Generator (record { name = n; from = e; to = to; at = i })) from ts (n.name ∷ names_of (index_names i n.line)) (m ∷ index_types i)) (sym none)
      (subst (λ r. IsGenerated k denotes s (roll-Generator (record { name = n; from = e; to = to; at = None })) r ts (n.name ∷ []) (m ∷ [])) (sym is)
      (subst (λ i. IsGenerated k denotes s (roll-Generator (record { name = n; from = e; to = to; at = None })) source.Range ts (n.name ∷ []) (i ∷ [])) (sym type)
      (range_typed n e to ts tys p (subst (λ l. AreNumbers k.forms k.spellings l tys) bounds q.each))))
  goes_typed f n e to index ts ns tys from m grows p q (over_elements j bounds element) =
      subst (λ r. IsGenerated k denotes s (roll-Generator (record { name = n; from = e; to = to; at = index })) r ts (n.name ∷ names_of (index_names index n.line)) (m ∷ index_types index)) (sym element.is)
      (over_typed n e to index ts tys j m p (subst (λ l. AreNumbers k.forms k.spellings l tys) bounds q.each) (sequence_later f k.forms j m grows element.at))

  generated_append : (gs hs : List Generator) (sources others : List Source) (ts us : List TypedExpr) (xs ys : List ℕ) (tys more : List Ty)
      → Generates k denotes s gs sources ts xs tys → Generates k denotes s hs others us ys more
      → Generates k denotes s (gs ++ hs) (sources ++ others) (ts ++ us) (xs ++ ys) (tys ++ more)
  generated_append _ hs _ others _ us _ ys _ more no_generator q = q
  generated_append _ hs _ others _ us _ ys _ more (range n {names = xs} {tys = tys} {gs = gs} {sources = sources} {bounds = ts} p r rest) q =
      range n p r (generated_append gs hs sources others ts us xs ys tys more rest q)
  generated_append _ hs _ others _ us _ ys _ more (elements n {names = xs} {tys = tys} {gs = gs} {sources = sources} {bounds = ts} p r rest) q =
      elements n p r (generated_append gs hs sources others ts us xs ys tys more rest q)
  generated_append _ hs _ others _ us _ ys _ more (indexed n {names = xs} {tys = tys} {gs = gs} {sources = sources} {bounds = ts} p r rest) q =
      indexed n p r (generated_append gs hs sources others ts us xs ys tys more rest q)

rolled : (d : Generator) → roll-Generator (record { name = (out-Generator d).name; from = (out-Generator d).from; to = (out-Generator d).to; at = (out-Generator d).at }) ≡ d
rolled d = search (rules, kinds.the_lemmas)

names_append : (xs ys : List Named) → names_of (xs ++ ys) ≡ names_of xs ++ names_of ys
names_append [] ys = refl
names_append (x ∷ xs) ys = ap (λ l. x.name ∷ l) (names_append xs ys)

pub none_generated : (g : Given) (f : List Form) (names : Names) (m : Group) → m ≡ record { sources = []; bounds = []; names = []; types = [] } → AllGenerated g f names [] m
none_generated g f names m e = subst (λ m. AllGenerated g f names [] m) (sym e) (record { holds = λ k s agrees stands. record { tys = []; number = no_numbers k; typed = no_generator } })

-- one more generator
pub one_more_generated : (g : Given) (f0 f1 : List Form) (names : Names) (gs : List Generator) (one : Generator) (parts : Parts) (old new : Group) → Grows f0 f1
    → AllGenerated g f0 names gs old → AllOnes g f1 names ((out-Generator one).from ∷ up_to (out-Generator one).to) parts.exprs parts.types
    → KeepsGenerator f1 (out-Generator one).name (out-Generator one).at parts old new → AllGenerated g f1 names (gs ++ (one ∷ [])) new
one_more_generated g f0 f1 names gs one parts old new grows p q keeps = record {
  holds = λ k s agrees stands.
      let before = p.holds k s (agrees_before g f0 f1 k grows agrees) stands in
      let bounds = q.holds k s agrees stands in
      let n : Named = (out-Generator one).name in
      let index : Option ℕ = (out-Generator one).at in
      let made : IsGenerated k (denotes_in g k) s one keeps.from parts.exprs (n.name ∷ names_of (index_names index n.line)) (keeps.type ∷ index_types index) =
      subst (λ d. IsGenerated k (denotes_in g k) s d keeps.from parts.exprs (n.name ∷ names_of (index_names index n.line)) (keeps.type ∷ index_types index)) (rolled one)
      (goes_typed k (denotes_in g k) s agrees.table f1 n (out-Generator one).from (out-Generator one).to index parts.exprs parts.types bounds.tys keeps.from keeps.type agrees.grows bounds.typed bounds.number keeps.over) in
      record {
        tys = before.tys ++ made.tys;
        number = subst (λ l. Number k l (before.tys ++ made.tys)) (sym keeps.types) (number_append k old.types (keeps.type ∷ index_types index) before.tys made.tys before.number made.number);
        typed =
            subst (λ l. Generates k (denotes_in g k) s (gs ++ (one ∷ [])) l new.bounds (names_of new.names) (before.tys ++ made.tys)) (sym keeps.sources)
            (subst (λ l. Generates k (denotes_in g k) s (gs ++ (one ∷ [])) (old.sources ++ (keeps.from ∷ [])) l (names_of new.names) (before.tys ++ made.tys)) (sym keeps.bounds)
            (subst (λ l. Generates k (denotes_in g k) s (gs ++ (one ∷ [])) (old.sources ++ (keeps.from ∷ [])) (old.bounds ++ parts.exprs) l (before.tys ++ made.tys))
            (sym (ap names_of keeps.names ∙ names_append old.names (n ∷ index_names index n.line)))
            (generated_append k (denotes_in g k) s agrees.table gs (one ∷ []) old.sources (keeps.from ∷ []) old.bounds parts.exprs (names_of old.names) (n.name ∷ names_of (index_names index n.line)) before.tys made.tys before.typed made.typed)));
      };
}

-- ---- groups in order

pub group_later : (g : Given) (f0 f1 : List Form) (names : Names) (gs : List Generator) (m : Group) → Grows f0 f1 → GroupTyped g f0 names gs m → GroupTyped g f1 names gs m
group_later g f0 f1 names gs m grows p = record {
  generated = record { holds = λ k s agrees stands. p.generated.holds k s (agrees_before g f0 f1 k grows agrees) stands };
  distinct = p.distinct;
}

pub groups_later : (g : Given) (f0 f1 : List Form) (names after : Names) (gs : List (List Generator)) (ms : List Group) → Grows f0 f1 → GroupsTyped g f0 names gs ms after → GroupsTyped g f1 names gs ms after
groups_later g f0 f1 names _ _ _ grows no_group = no_group
groups_later g f0 f1 names after _ _ grows (a_group {gs = gs} {m = m} {groups = groups} {ms = ms} p r) =
    a_group (group_later g f0 f1 names gs m grows p) (groups_later g f0 f1 (define_all m.names m.types names) after groups ms grows r)

pub one_more_group : (g : Given) (f : List Form) (names between : Names) (gs : List (List Generator)) (ms : List Group) (one : List Generator) (m : Group) → GroupsTyped g f names gs ms between
    → GroupTyped g f between one m → GroupsTyped g f names (gs ++ (one ∷ [])) (ms ++ (m ∷ [])) (define_all m.names m.types between)
one_more_group g f names _ _ _ one m no_group q = a_group q no_group
one_more_group g f names between _ _ one m (a_group {m = first} {groups = groups} {ms = ms} p r) q = a_group p (one_more_group g f (define_all first.names first.types names) between groups ms one m r q)

-- the last of some groups
pub record LastGroup (g : Given) (f : List Form) (names after : Names) (gs : List (List Generator)) (ms : List Group) (m : Group) : Type 0 where
  pub others : List (List Generator)
  pub last : List Generator
  pub between : Names
  pub is : gs ≡ others ++ (last ∷ [])
  pub before : GroupsTyped g f names others ms between
  pub typed : GroupTyped g f between last m
  pub names_after : after ≡ define_all m.names m.types between

pub last_group : (g : Given) (f : List Form) (names after : Names) (gs : List (List Generator)) (ms : List Group) (m : Group) → GroupsTyped g f names gs (ms ++ (m ∷ [])) after → LastGroup g f names after gs ms m
last_group g f names _ _ [] m (a_group {gs = one} p no_group) = record { others = []; last = one; between = names; is = refl; before = no_group; typed = p; names_after = refl }
last_group g f names after _ (first ∷ ms) m (a_group {gs = one} {groups = groups} p r) =
    let l = last_group g f (define_all first.names first.types names) after groups ms m r in record {
      others = one ∷ l.others;
      last = l.last;
      between = l.between;
      is = ap (λ x. one ∷ x) l.is;
      before = a_group p l.before;
      typed = l.typed;
      names_after = l.names_after;
    }
