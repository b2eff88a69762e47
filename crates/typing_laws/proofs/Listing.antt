-- Lists of typed expressions, one after another.
use Rattle.std.proofs.Common.{◌≡◌, ℕ, List, [], ◌∷◌, ◌++◌, length, sym, ap, subst, ◌∙◌}
use Rattle.std.proofs.lemmas.List.{append_assoc, append-nil}
use Rattle.flow_value.specs.declared.ty.Ty.{Ty}
use Rattle.type_table.specs.declared.form.Form.{Form}
use Rattle.sisal_tree.specs.declared.expr.Expr.{Expr}
use Rattle.sisal_tree.specs.declared.unit.Written.{Written}
use Rattle.typed_tree.specs.declared.expr.TypedExpr.{TypedExpr}
use Rattle.typed_tree.specs.Scopes as tree
use Rattle.typed_tree.specs.Typing.{Known, Types, AreTyped, no_more, more}
use Rattle.type_rules.specs.Applies.{Grows}
use Rattle.value_names.specs.Names.{Names}
use Rattle.typing_laws.specs.Given.{Given}
use Rattle.typing_laws.specs.Given.{Parts}
use Rattle.typing_laws.specs.Judged.{denotes_in, Typed, AllTyped, AreOnes, no_one, a_one, AllOnes, Adds}
use Rattle.typing_laws.proofs.Later.{all_later, ones_later}
use Rattle.typing_laws.proofs.Unique.{number_append, no_numbers, single_of}

-- ---- parts

pub adds_to_none : (old new : Parts) (what : List TypedExpr → List ℕ → Type 0) → old.exprs ≡ [] → old.types ≡ [] → Adds old new what → what new.exprs new.types
adds_to_none old new what e n p =
    let exprs : new.exprs ≡ p.exprs = p.is_exprs ∙ ap (λ l. l ++ p.exprs) e in
    let types : new.types ≡ p.types = p.is_types ∙ ap (λ l. l ++ p.types) n in
    subst (λ l. what l new.types) (sym exprs) (subst (λ l. what p.exprs l) (sym types) p.holds)

-- ---- expressions

pub none_typed : (g : Given) (forms : List Form) (names : Names) → AllTyped g forms names [] [] []
none_typed g forms names = record { holds = λ k s a st. record { tys = []; number = no_numbers k; typed = no_more } }

module _ (k : Known) (denotes : Written → Ty → Type 0) (s : tree.Scope) where
  pub typed_append : (es fs : List Expr) (ts us : List TypedExpr) (xs ys : List Ty) → AreTyped k denotes s es ts xs → AreTyped k denotes s fs us ys → AreTyped k denotes s (es ++ fs) (ts ++ us) (xs ++ ys)
  typed_append _ fs _ us _ ys no_more q = q
  typed_append _ fs _ us _ ys (more {e = e} {t = t} {tys = tys} {others = others} {es = es} {ts = ts} p r) q =
      subst (λ l. AreTyped k denotes s (e ∷ (es ++ fs)) (t ∷ (ts ++ us)) l) (sym (append_assoc tys others ys)) (more p (typed_append es fs ts us others ys r q))

  pub ones_append : (es fs : List Expr) (ts us : List TypedExpr) (xs ys : List Ty) → AreOnes k denotes s es ts xs → AreOnes k denotes s fs us ys → AreOnes k denotes s (es ++ fs) (ts ++ us) (xs ++ ys)
  ones_append _ fs _ us _ ys no_one q = q
  ones_append _ fs _ us _ ys (a_one {es = es} {ts = ts} {tys = tys} p r) q = a_one p (ones_append es fs ts us tys ys r q)

pub all_append : (g : Given) (forms : List Form) (names : Names) (es fs : List Expr) (ts us : List TypedExpr) (ns ms : List ℕ)
    → AllTyped g forms names es ts ns → AllTyped g forms names fs us ms → AllTyped g forms names (es ++ fs) (ts ++ us) (ns ++ ms)
all_append g forms names es fs ts us ns ms p q = record {
  holds = λ k s a st. let x = p.holds k s a st in let y = q.holds k s a st in record {
    tys = x.tys ++ y.tys;
    number = number_append k ns ms x.tys y.tys x.number y.number;
    typed = typed_append k (denotes_in g k) s es fs ts us x.tys y.tys x.typed y.typed;
  };
}

pub all_of_one : (g : Given) (forms : List Form) (names : Names) (e : Expr) (t : TypedExpr) → Typed g forms names e t → AllTyped g forms names (e ∷ []) (t ∷ []) t.types
all_of_one g forms names e t p = record {
  holds = λ k s a st. let x = p.holds k s a st in record {
    tys = x.tys;
    number = x.number;
    typed = subst (λ l. AreTyped k (denotes_in g k) s (e ∷ []) (t ∷ []) l) (append-nil x.tys) (more x.typed no_more);
  };
}

-- one more expression
pub adds_more : (g : Given) (before after : List Form) (names : Names) (es : List Expr) (e : Expr) (t : TypedExpr) (first old new : Parts) → Grows before after
    → Adds first old (AllTyped g before names es) → Typed g after names e t → new.exprs ≡ old.exprs ++ (t ∷ []) → new.types ≡ old.types ++ t.types
    → Adds first new (AllTyped g after names (es ++ (e ∷ [])))
adds_more g before after names es e t first old new grows p q exprs types = record {
  exprs = p.exprs ++ (t ∷ []);
  types = p.types ++ t.types;
  is_exprs = exprs ∙ ap (λ l. l ++ (t ∷ [])) p.is_exprs ∙ append_assoc first.exprs p.exprs (t ∷ []);
  is_types = types ∙ ap (λ l. l ++ t.types) p.is_types ∙ append_assoc first.types p.types t.types;
  holds = all_append g after names es (e ∷ []) p.exprs (t ∷ []) p.types t.types (all_later g before after names es p.exprs p.types grows p.holds) (all_of_one g after names e t q);
}

-- ---- expressions of one value each

pub no_ones : (g : Given) (forms : List Form) (names : Names) → AllOnes g forms names [] [] []
no_ones g forms names = record { holds = λ k s a st. record { tys = []; number = no_numbers k; typed = no_one } }

pub all_ones_append : (g : Given) (forms : List Form) (names : Names) (es fs : List Expr) (ts us : List TypedExpr) (ns ms : List ℕ)
    → AllOnes g forms names es ts ns → AllOnes g forms names fs us ms → AllOnes g forms names (es ++ fs) (ts ++ us) (ns ++ ms)
all_ones_append g forms names es fs ts us ns ms p q = record {
  holds = λ k s a st. let x = p.holds k s a st in let y = q.holds k s a st in record {
    tys = x.tys ++ y.tys;
    number = number_append k ns ms x.tys y.tys x.number y.number;
    typed = ones_append k (denotes_in g k) s es fs ts us x.tys y.tys x.typed y.typed;
  };
}

pub a_single : (g : Given) (forms : List Form) (names : Names) (e : Expr) (t : TypedExpr) → Typed g forms names e t → length t.types ≡ 1 → AllOnes g forms names (e ∷ []) (t ∷ []) t.types
a_single g forms names e t p one = record {
  holds = λ k s a st. let x = p.holds k s a st in let z = single_of k t.types x.tys x.number one in record {
    tys = x.tys;
    number = x.number;
    typed = subst (λ l. AreOnes k (denotes_in g k) s (e ∷ []) (t ∷ []) l) (sym z.is_type)
        (a_one (subst (λ l. Types k (denotes_in g k) s e t l) z.is_type x.typed) no_one);
  };
}

-- an expression of one value is added
pub adds_one : (g : Given) (forms : List Form) (names : Names) (e : Expr) (t : TypedExpr) (old new : Parts)
    → Typed g forms names e t → length t.types ≡ 1 → new.exprs ≡ old.exprs ++ (t ∷ []) → new.types ≡ old.types ++ t.types
    → Adds old new (AllOnes g forms names (e ∷ []))
adds_one g forms names e t old new p one exprs types = record {
  exprs = t ∷ [];
  types = t.types;
  is_exprs = exprs;
  is_types = types;
  holds = a_single g forms names e t p one;
}

-- more expressions of one value each behind others
pub adds_ones : (g : Given) (before after : List Form) (names : Names) (es fs : List Expr) (first old new : Parts) → Grows before after
    → Adds first old (AllOnes g before names es) → Adds old new (AllOnes g after names fs) → Adds first new (AllOnes g after names (es ++ fs))
adds_ones g before after names es fs first old new grows p q = record {
  exprs = p.exprs ++ q.exprs;
  types = p.types ++ q.types;
  is_exprs = q.is_exprs ∙ ap (λ l. l ++ q.exprs) p.is_exprs ∙ append_assoc first.exprs p.exprs q.exprs;
  is_types = q.is_types ∙ ap (λ l. l ++ q.types) p.is_types ∙ append_assoc first.types p.types q.types;
  holds = all_ones_append g after names es fs p.exprs q.exprs p.types q.types (ones_later g before after names es p.exprs p.types grows p.holds) q.holds;
}

pub adds_no_ones : (g : Given) (forms : List Form) (names : Names) (p : Parts) → Adds p p (AllOnes g forms names [])
adds_no_ones g forms names p = record { exprs = []; types = []; is_exprs = sym (append-nil p.exprs); is_types = sym (append-nil p.types); holds = no_ones g forms names }

pub adds_no_more : (g : Given) (forms : List Form) (names : Names) (p : Parts) → Adds p p (AllTyped g forms names [])
adds_no_more g forms names p = record { exprs = []; types = []; is_exprs = sym (append-nil p.exprs); is_types = sym (append-nil p.types); holds = none_typed g forms names }
