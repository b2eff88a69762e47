-- Types by their outermost form.
use Rattle.std.proofs.Common.{◌≡◌, List, Option, Some, ap, sym, ◌∙◌, inl, inr, subst, rules}
use Rattle.flow_value.specs.declared.ty.Ty.{Ty}
use Rattle.flow_value.specs.declared.ty.Ty.TheOpen.{Ty-F}
use Rattle.flow_value.specs.declared.ty.Ty.TheViews as views
use Rattle.flow_value.specs.declared.ty.Ty.TheViews.{out-Ty}
use Rattle.flow_value.specs.declared.ty.Ty.TheVariants as ty
use Rattle.if1_graph.specs.Types.{Member, Sort, Plain, Many}
use Rattle.if1_graph.specs.Typing.{HasElements, IsCarried}

pub out_int : out-Ty ty.Int ≡ Ty-F.Int
out_int = search (rules, views.the_lemmas)

pub out_bool : out-Ty ty.Bool ≡ Ty-F.Bool
out_bool = search (rules, views.the_lemmas)

pub out_char : out-Ty ty.Char ≡ Ty-F.Char
out_char = search (rules, views.the_lemmas)

pub out_null : out-Ty ty.Null ≡ Ty-F.Null
out_null = search (rules, views.the_lemmas)

pub out_arr : (t : Ty) → out-Ty (ty.Arr t) ≡ Ty-F.Arr t
out_arr t = search (rules, views.the_lemmas)

pub out_stream : (t : Ty) → out-Ty (ty.Stream t) ≡ Ty-F.Stream t
out_stream t = search (rules, views.the_lemmas)

pub out_rec : (ms : List Member) → out-Ty (ty.Rec ms) ≡ Ty-F.Rec ms
out_rec ms = search (rules, views.the_lemmas)

pub out_uni : (ms : List Member) → out-Ty (ty.Uni ms) ≡ Ty-F.Uni ms
out_uni ms = search (rules, views.the_lemmas)

pub some-same : {A : Type 0} (x y : A) → Some x ≡ Some y → x ≡ y
some-same x y e = cc

plain-same : (a b : Ty) → Plain a ≡ Plain b → a ≡ b
plain-same a b e = cc

many-same : (a b : Ty) → Many a ≡ Many b → a ≡ b
many-same a b e = cc

no-many : (a b : Ty) → Plain a ≡ Many b → ⊥
no-many a b e = cc

arrs : (a b : Ty) → Ty-F.Arr a ≡ Ty-F.Arr b → a ≡ b
arrs a b e = cc

streams : (a b : Ty) → Ty-F.Stream a ≡ Ty-F.Stream b → a ≡ b
streams a b e = cc

abbrev as-rec : List Member → Ty-F Ty
as-rec ms = Ty-F.Rec ms

abbrev as-uni : List Member → Ty-F Ty
as-uni ms = Ty-F.Uni ms

records : (a b : List Member) → as-rec a ≡ as-rec b → a ≡ b
records a b e = cc

unions : (a b : List Member) → as-uni a ≡ as-uni b → a ≡ b
unions a b e = cc

arr-stream : (a b : Ty) → Ty-F.Arr a ≡ Ty-F.Stream b → ⊥
arr-stream a b e = cc

pub arr-same : (a b : Ty) → ty.Arr a ≡ ty.Arr b → a ≡ b
arr-same a b e = arrs a b (sym (out_arr a) ∙ (ap out-Ty e ∙ out_arr b))

pub stream-same : (a b : Ty) → ty.Stream a ≡ ty.Stream b → a ≡ b
stream-same a b e = streams a b (sym (out_stream a) ∙ (ap out-Ty e ∙ out_stream b))

pub rec-same : (a b : List Member) → ty.Rec a ≡ ty.Rec b → a ≡ b
rec-same a b e = records a b (sym (out_rec a) ∙ (ap out-Ty e ∙ out_rec b))

pub uni-same : (a b : List Member) → ty.Uni a ≡ ty.Uni b → a ≡ b
uni-same a b e = unions a b (sym (out_uni a) ∙ (ap out-Ty e ∙ out_uni b))

pub no-stream : (a b : Ty) → ty.Arr a ≡ ty.Stream b → ⊥
no-stream a b e = arr-stream a b (sym (out_arr a) ∙ (ap out-Ty e ∙ out_stream b))

-- ---- elements

pub elements-of-array : (a t : Ty) (s : Sort) → s ≡ Plain (ty.Arr a) → HasElements t s → t ≡ a
elements-of-array a t s e (inl (inl x)) = sym (arr-same a t (plain-same (ty.Arr a) (ty.Arr t) (sym e ∙ x)))
elements-of-array a t s e (inl (inr x)) = absurd (no-stream a t (plain-same (ty.Arr a) (ty.Stream t) (sym e ∙ x)))
elements-of-array a t s e (inr x) = absurd (no-many (ty.Arr a) t (sym e ∙ x))

pub elements-of-stream : (a t : Ty) (s : Sort) → s ≡ Plain (ty.Stream a) → HasElements t s → t ≡ a
elements-of-stream a t s e (inl (inl x)) = absurd (no-stream t a (plain-same (ty.Arr t) (ty.Stream a) (sym x ∙ e)))
elements-of-stream a t s e (inl (inr x)) = sym (stream-same a t (plain-same (ty.Stream a) (ty.Stream t) (sym e ∙ x)))
elements-of-stream a t s e (inr x) = absurd (no-many (ty.Stream a) t (sym e ∙ x))

pub elements-of-many : (a t : Ty) (s : Sort) → s ≡ Many a → HasElements t s → t ≡ a
elements-of-many a t s e (inl (inl x)) = absurd (no-many (ty.Arr t) a (sym x ∙ e))
elements-of-many a t s e (inl (inr x)) = absurd (no-many (ty.Stream t) a (sym x ∙ e))
elements-of-many a t s e (inr x) = sym (many-same a t (sym e ∙ x))

pub plain-is : (a b : Ty) → Plain a ≡ Plain b → a ≡ b
plain-is = plain-same

pub many-is : (a b : Ty) → Many a ≡ Many b → a ≡ b
many-is = many-same

pub never-many : (a b : Ty) → Plain a ≡ Many b → ⊥
never-many = no-many

-- what is carried, where it is known what that is
pub carried-is : (P : Sort → Type 0) (o : Option Sort) (s : Sort) → o ≡ Some s → IsCarried o P → P s
carried-is P o s e h = subst (λ z. IsCarried z P) e h
