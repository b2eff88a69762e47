-- How the rest of a phrase goes on from what stands before it.
use Rattle.std.proofs.Common.{◌≡◌, ℕ, List, [], ◌∷◌, ◌++◌, Option, Some, None, refl, sym, ◌∙◌, ap, subst, append_assoc}
use Rattle.sisal_tree.specs.Word.TheVariants as word
use Rattle.sisal_tree.specs.Sign.TheVariants as sign
use Rattle.sisal_tree.specs.declared.unit.Field.{Field}
use Rattle.sisal_tree.specs.declared.expr.Expr.{Expr}
use Rattle.sisal_tree.specs.declared.expr.ExprKind.TheVariants as tree
use Rattle.sisal_tree.specs.declared.expr.BinaryOperator.{BinaryOperator}
use Rattle.sisal_tree.specs.declared.expr.FieldValue.{FieldValue}
use Rattle.sisal_tree.specs.declared.expr.Def.{Def}
use Rattle.sisal_tree.specs.declared.expr.Arm.{Arm}
use Rattle.sisal_grammar.specs.declared.value.Placed.{Placed}
use Rattle.sisal_grammar.specs.declared.value.Selector.{Selector}
use Rattle.sisal_grammar.specs.declared.value.Selector.TheVariants as select
use Rattle.sisal_grammar.specs.declared.value.Subject.{Subject}
use Rattle.sisal_grammar.specs.Acts.{at, span, chained, posted, called, tag_case}
use Rattle.sisal_grammar.specs.Phrases.{Phrase, Meant, many, maybe, ty, field, fields, tagf, exprs, expr, rel, cat, selector, fv, prim, arm, defs, def, name, semi_field, semi_tagf, comma_expr, or_conj, and_inv, or_sum, sum_term, term_neg, semi_fv, semi_def, otherwise}
use Rattle.sisal_grammar.specs.Spells as spells
use Rattle.sisal_grammar.specs.Spells.{Spells, IsWord, IsSign, IsName, listed, compared, nested}
use Rattle.sisal_grammar.proofs.Saying.{Ended, TagsEnd, Compares, as_tail, Elses, HasSubject}

pub append_nil : {A : Type 0} (xs : List A) → xs ++ [] ≡ xs
append_nil [] = refl
append_nil (x ∷ xs) = ap (λ ys. x ∷ ys) (append_nil xs)

-- the same phrase of the same tokens
pub of_tokens : (p : Phrase) (v : Meant p) {ts us : List Placed} → ts ≡ us → Spells p ts v → Spells p us v
of_tokens p v e d = subst (λ l. Spells p l v) e d

pub ended_none : (p : Phrase) → Ended p [] []
ended_none p = record { front = []; back = []; last = None; tokens = refl; all = spells.nothing; closed = spells.absent }

pub ended_last : (p : Phrase) (t : Placed) → IsSign sign.SSemicolon t → Ended p (t ∷ []) []
ended_last p t i = record { front = []; back = t ∷ []; last = Some tt; tokens = refl; all = spells.nothing; closed = spells.present (spells.semicolon_is i) }

pub ended_more : (p : Phrase) (ws ts : List Placed) (a : Meant p) (l : List (Meant p)) → Spells p ws a → Ended p ts l → Ended p (ws ++ ts) (a ∷ l)
ended_more p ws ts a l d e = record {
  front = ws ++ e.front;
  back = e.back;
  last = e.last;
  tokens = ap (λ z. ws ++ z) e.tokens ∙ sym (append_assoc ws e.front e.back);
  all = spells.more d e.all;
  closed = e.closed;
}

-- its tokens before others
pub ended_tokens : (p : Phrase) (ts : List Placed) (l : List (Meant p)) (e : Ended p ts l) (vs : List Placed) → e.front ++ (e.back ++ vs) ≡ ts ++ vs
ended_tokens p ts l e vs = sym (append_assoc e.front e.back vs) ∙ ap (λ z. z ++ vs) (sym e.tokens)

pub fields_said : (ts us : List Placed) (f : Field) (l : List Field) → Spells field ts f → Ended semi_field us l → Spells fields (ts ++ us) (f ∷ l)
fields_said ts us f l d e = subst (λ z. Spells fields (ts ++ z) (f ∷ l)) (sym e.tokens) (spells.fields_are d e.all e.closed)

pub defs_said : (ts us : List Placed) (f : Def) (l : List Def) → Spells def ts f → Ended semi_def us l → Spells defs (ts ++ us) (f ∷ l)
defs_said ts us f l d e = subst (λ z. Spells defs (ts ++ z) (f ∷ l)) (sym e.tokens) (spells.defs_are d e.all e.closed)

pub record_said : (t u v : Placed) (ts us : List Placed) (f : Field) (l : List Field) → IsWord word.WRecord t → IsSign sign.SOpenBracket u → Spells field ts f → Ended semi_field us l → IsSign sign.SCloseBracket v
    → Spells ty (t ∷ u ∷ (ts ++ (us ++ (v ∷ [])))) (span t v)
record_said t u v ts us f l i j d e k = subst (λ z. Spells ty (t ∷ u ∷ z) (span t v)) (append_assoc ts us (v ∷ [])) (spells.record_type i j (fields_said ts us f l d e) k)

pub union_said : (t u v : Placed) (ts us : List Placed) → IsWord word.WUnion t → IsSign sign.SOpenBracket u → Spells tagf ts tt → TagsEnd us → IsSign sign.SCloseBracket v
    → Spells ty (t ∷ u ∷ (ts ++ (us ++ (v ∷ [])))) (span t v)
union_said t u v ts us i j d e k =
    subst (λ z. Spells ty (t ∷ u ∷ (ts ++ z)) (span t v)) (ended_tokens semi_tagf us e.0 e.1 (v ∷ [])) (spells.union_type i j d e.1.all e.1.closed k)

pub replace_said : (t u v : Placed) (ts us : List Placed) (f : FieldValue) (l : List FieldValue) → IsWord word.WReplace t → IsSign sign.SOpenBracket u → Spells fv ts f → Ended semi_fv us l → IsSign sign.SCloseBracket v
    → Spells selector (t ∷ u ∷ (ts ++ (us ++ (v ∷ [])))) (select.Replace (f ∷ l))
replace_said t u v ts us f l i j d e k =
    subst (λ z. Spells selector (t ∷ u ∷ (ts ++ z)) (select.Replace (f ∷ l))) (ended_tokens semi_fv us l e (v ∷ [])) (spells.replace i j d e.all e.closed k)

pub made_record : (t u v : Placed) (ns ts us : List Placed) (n : Option ℕ) (f : FieldValue) (l : List FieldValue)
    → IsWord word.WRecord t → Spells (maybe name) ns n → IsSign sign.SOpenBracket u → Spells fv ts f → Ended semi_fv us l → IsSign sign.SCloseBracket v
    → Spells prim (t ∷ (ns ++ (u ∷ (ts ++ (us ++ (v ∷ [])))))) (at t.line (tree.Record n (f ∷ l)))
made_record t u v ns ts us n f l i m j d e k =
    subst (λ z. Spells prim (t ∷ (ns ++ (u ∷ (ts ++ z)))) (at t.line (tree.Record n (f ∷ l)))) (ended_tokens semi_fv us l e (v ∷ [])) (spells.a_record i m j d e.all e.closed k)

pub one_place : (t u : Placed) (ws : List Placed) (e : Expr) → IsSign sign.SOpenBracket t → Spells expr ws e → IsSign sign.SCloseBracket u
    → Spells selector (t ∷ (ws ++ (u ∷ []))) (select.At (e ∷ []))
one_place t u ws e i d j = subst (λ z. Spells selector (t ∷ (z ++ (u ∷ []))) (select.At (e ∷ []))) (append_nil ws) (spells.at_places i (spells.exprs_are d spells.nothing) j)

pub more_places : (t u v : Placed) (ws us vs : List Placed) (e f : Expr) (l : List Expr)
    → IsSign sign.SOpenBracket t → Spells expr ws e → IsSign sign.SComma u → Spells expr us f → Spells (many comma_expr) vs l → IsSign sign.SCloseBracket v
    → Spells selector (t ∷ (ws ++ (u ∷ (us ++ (vs ++ (v ∷ [])))))) (select.At (e ∷ f ∷ l))
more_places t u v ws us vs e f l i d j g k m =
    subst (λ z. Spells selector (t ∷ z) (select.At (e ∷ f ∷ l))) (append_assoc ws (u ∷ (us ++ vs)) (v ∷ []) ∙ ap (λ z. ws ++ (u ∷ z)) (append_assoc us vs (v ∷ [])))
    (spells.at_places i (spells.exprs_are d (spells.more (spells.comma_expr_is j g) k)) m)

pub tail_is : (a : Expr) (c : Option (BinaryOperator × Expr)) → compared a c ≡ chained a (as_tail c)
tail_is a None = refl
tail_is a (Some c) = refl

pub rel_said : (ts us : List Placed) (a : Expr) (l : List (BinaryOperator × Expr)) → Spells cat ts a → Compares us l → Spells rel (ts ++ us) (chained a l)
rel_said ts us a l d c = subst (λ e. Spells rel (ts ++ us) e) (tail_is a c.found ∙ ap (λ z. chained a z) (sym c.same)) (spells.rel_is d c.spelled)

pub if_said : (t u w x : Placed) (ts us vs : List Placed) (e : Expr) (es fs : List Expr)
    → IsWord word.WIf t → Spells expr ts e → IsWord word.WThen u → Spells exprs us es → Elses vs fs → IsWord word.WEnd w → IsWord word.WIf x
    → Spells prim (t ∷ (ts ++ (u ∷ (us ++ (vs ++ (w ∷ x ∷ [])))))) (at t.line (tree.If e es fs))
if_said t u w x ts us vs e es fs i d j g k m n =
    let tokens : k.front ++ (k.mark ∷ (k.back ++ (w ∷ x ∷ []))) ≡ vs ++ (w ∷ x ∷ []) = sym (append_assoc k.front (k.mark ∷ k.back) (w ∷ x ∷ [])) ∙ ap (λ z. z ++ (w ∷ x ∷ [])) (sym k.tokens) in
    subst (λ z. Spells prim (t ∷ (ts ++ (u ∷ (us ++ z)))) (at t.line (tree.If e es fs))) tokens
    (subst (λ z. Spells prim (t ∷ (ts ++ (u ∷ (us ++ (k.front ++ (k.mark ∷ (k.back ++ (w ∷ x ∷ [])))))))) (at t.line (tree.If e es z))) (sym k.same)
    (spells.if_else i d j g k.all k.is_else k.last m n))

pub else_if_said : (t u : Placed) (ts us vs : List Placed) (e : Expr) (es fs : List Expr)
    → IsWord word.WElseif t → Spells expr ts e → IsWord word.WThen u → Spells exprs us es → Elses vs fs
    → Elses (t ∷ (ts ++ (u ∷ (us ++ vs)))) (at t.line (tree.If e es fs) ∷ [])
else_if_said t u ts us vs e es fs i d j g k =
    let here : List Placed = t ∷ (ts ++ (u ∷ us)) in
    let rest : List Placed = k.mark ∷ k.back in
    record {
      ifs = record { line = t.line; test = e; results = es } ∷ k.ifs;
      results = k.results;
      front = here ++ k.front;
      mark = k.mark;
      back = k.back;
      tokens = ap (λ z. t ∷ (ts ++ (u ∷ (us ++ z)))) k.tokens ∙ (ap (λ z. t ∷ z) (sym (append_assoc ts (u ∷ us) (k.front ++ rest))) ∙ sym (append_assoc here k.front rest));
      same = ap (λ z. at t.line (tree.If e es z) ∷ []) k.same;
      all = spells.more (spells.else_if_is i d j g) k.all;
      is_else = k.is_else;
      last = k.last;
    }

pub else_said : (t : Placed) (ts : List Placed) (es : List Expr) → IsWord word.WElse t → Spells exprs ts es → Elses (t ∷ ts) es
else_said t ts es i d = record { ifs = []; results = es; front = []; mark = t; back = ts; tokens = refl; same = refl; all = spells.nothing; is_else = i; last = d }

pub case_said : (t u v : Placed) (ts vs ws xs : List Placed) (s : Subject) (a : Arm) (l : List Arm) (o : Option (List Expr))
    → IsWord word.WTagcase t → HasSubject ts s → Spells arm vs a → Spells (many arm) ws l → Spells (maybe otherwise) xs o → IsWord word.WEnd u → IsWord word.WTagcase v
    → Spells prim (t ∷ (ts ++ (vs ++ (ws ++ (xs ++ (u ∷ v ∷ [])))))) (at t.line (tree.TagCase (tag_case s (a ∷ l) o)))
case_said t u v ts vs ws xs s a l o i h d k m n p =
    let rest : List Placed = vs ++ (ws ++ (xs ++ (u ∷ v ∷ []))) in
    let tokens : h.front ++ (h.back ++ rest) ≡ ts ++ rest = sym (append_assoc h.front h.back rest) ∙ ap (λ z. z ++ rest) (sym h.tokens) in
    subst (λ z. Spells prim (t ∷ z) (at t.line (tree.TagCase (tag_case s (a ∷ l) o)))) tokens (spells.tagcase i h.bound h.union d k m n p)

-- eight parts, grouped to the right
pub regrouped : (a b c d e f g h : List Placed) → (((((((a ++ b) ++ c) ++ d) ++ e) ++ f) ++ g) ++ h) ≡ a ++ (b ++ (c ++ (d ++ (e ++ (f ++ (g ++ h))))))
regrouped a b c d e f g h =
    append_assoc (((((a ++ b) ++ c) ++ d) ++ e) ++ f) g h ∙ (append_assoc ((((a ++ b) ++ c) ++ d) ++ e) f (g ++ h)
    ∙ (append_assoc (((a ++ b) ++ c) ++ d) e (f ++ (g ++ h)) ∙ (append_assoc ((a ++ b) ++ c) d (e ++ (f ++ (g ++ h)))
    ∙ (append_assoc (a ++ b) c (d ++ (e ++ (f ++ (g ++ h)))) ∙ append_assoc a b (c ++ (d ++ (e ++ (f ++ (g ++ h)))))))))

-- an expression that begins with a name
pub named_said : (t : Placed) (a b c d e f g h : List Placed) (o : Option (List Expr)) (ps : List Selector) (j k l m n q : List (BinaryOperator × Expr))
    → Spells prim (t ∷ a) (called t o) → Spells (many selector) b ps → Spells (many term_neg) c j → Spells (many sum_term) d k → Spells (many or_sum) e l
    → Compares f m → Spells (many and_inv) g n → Spells (many or_conj) h q
    → Spells expr (t ∷ (a ++ (b ++ (c ++ (d ++ (e ++ (f ++ (g ++ h)))))))) (chained (chained (chained (chained (chained (chained (posted (called t o) ps) j) k) l) m) n) q)
named_said t a b c d e f g h o ps j k l m n q i0 i1 i2 i3 i4 i5 i6 i7 =
    of_tokens expr (chained (chained (chained (chained (chained (chained (posted (called t o) ps) j) k) l) m) n) q) (regrouped (t ∷ a) b c d e f g h)
    (spells.expr_is (spells.conj_is (spells.inv_rel (rel_said (((((t ∷ a) ++ b) ++ c) ++ d) ++ e) f (chained (chained (chained (posted (called t o) ps) j) k) l) m
    (spells.cat_is (spells.sum_is (spells.term_is (spells.neg_post (spells.post_is i0 i1)) i2) i3) i4) i5)) i6) i7)

pub loop_tokens : (a b : List Placed) (t : Placed) (c d z : List Placed) → a ++ (b ++ (t ∷ (c ++ (d ++ z)))) ≡ (a ++ (b ++ (t ∷ (c ++ d)))) ++ z
loop_tokens a b t c d z =
    sym (append_assoc a (b ++ (t ∷ (c ++ d))) z ∙ ap (λ y. a ++ y) (append_assoc b (t ∷ (c ++ d)) z ∙ ap (λ y. b ++ (t ∷ y)) (append_assoc c d z)))

pub product_tokens : (a b c : List Placed) (t : Placed) (d e z : List Placed) → a ++ (b ++ (c ++ (t ∷ (d ++ (e ++ z))))) ≡ (a ++ (b ++ (c ++ (t ∷ (d ++ e))))) ++ z
product_tokens a b c t d e z = ap (λ y. a ++ y) (loop_tokens b c t d e z) ∙ sym (append_assoc a (b ++ (c ++ (t ∷ (d ++ e)))) z)
