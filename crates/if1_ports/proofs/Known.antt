-- What is known of the types of a unit, by outlines, is what the rules of ports ask.
use Rattle.std.proofs.Common.{◌≡◌, ℕ, true, List, length, Option, Some, None, option_map, refl, sym, ap, subst, ◌∙◌, rules}
use Rattle.flow_value.specs.declared.ty.Ty.{Ty}
use Rattle.flow_value.specs.declared.ty.Ty.TheVariants as ty
use Rattle.flow_value.specs.declared.ty.Ty.TheOpen.{Ty-F}
use Rattle.flow_value.specs.declared.ty.Ty.TheViews.{out-Ty, roll-Ty, the_lemmas}
use Rattle.if1_graph.specs.declared.graph.Graph.{Graph}
use Rattle.if1_graph.specs.declared.graph.Graph.TheViews.{out-Graph}
use Rattle.if1_graph.specs.declared.graph.Edge.{Edge}
use Rattle.if1_graph.specs.declared.graph.Unit1.{Unit1}
use Rattle.if1_graph.specs.Tables.{◌>>=◌}
use Rattle.if1_graph.specs.Types.{Sort, Plain, Many, Member, sort_at}
use Rattle.if1_graph.specs.Types as types
use Rattle.if1_graph.specs.Formed.{function_named}
use Rattle.if1_graph.specs.Units.{edge_into, edges_into}
use Rattle.if1_graph.specs.Ports.{arguments_of, results_of, fields_of, tags_of, record_fields, union_tags, is_stream, carried, callee, literal_at}
use Rattle.if1_ports.specs.Outlines.{outline_of, ty_outline, arguments_in, results_in, fields_in, tags_in, is_stream_outline, is_integer_outline}
use Rattle.if1_ports.specs.Names.{type_of, callee_of}
use Rattle.if1_ports.specs.Fed.{Types, Callees, carried_by, named_by, text_by, first_of}
use Rattle.if1_ports.specs.Ends.{fed_at}
use Rattle.if1_ports.proofs.Edges.{first_into}

-- what the labels of a unit stand for, and its functions' types
abbrev pub types_by : Unit1 → Types
types_by u = λ l. outline_of (sort_at u.types l)

abbrev pub callees_by : Unit1 → Callees
callees_by u = callee_of (types_by u) u.graphs

-- ---- counts

no_arguments : (x : Ty-F Ty) → None ≡ arguments_in (ty_outline x)
no_arguments Ty-F.Bool = refl
no_arguments Ty-F.Char = refl
no_arguments Ty-F.Int = refl
no_arguments Ty-F.Null = refl
no_arguments (Ty-F.Arr t) = refl
no_arguments (Ty-F.Stream t) = refl
no_arguments (Ty-F.Rec ms) = refl
no_arguments (Ty-F.Uni ms) = refl

no_results : (x : Ty-F Ty) → None ≡ results_in (ty_outline x)
no_results Ty-F.Bool = refl
no_results Ty-F.Char = refl
no_results Ty-F.Int = refl
no_results Ty-F.Null = refl
no_results (Ty-F.Arr t) = refl
no_results (Ty-F.Stream t) = refl
no_results (Ty-F.Rec ms) = refl
no_results (Ty-F.Uni ms) = refl

pub arguments_known : (s : Option Sort) → option_map length (arguments_of s) ≡ arguments_in (outline_of s)
arguments_known None = refl
arguments_known (Some (Plain t)) = no_arguments (out-Ty t)
arguments_known (Some (Many t)) = refl
arguments_known (Some (types.Function args rs)) = refl

pub results_known : (s : Option Sort) → option_map length (results_of s) ≡ results_in (outline_of s)
results_known None = refl
results_known (Some (Plain t)) = no_results (out-Ty t)
results_known (Some (Many t)) = refl
results_known (Some (types.Function args rs)) = refl

fields_seen : (x : Ty-F Ty) → option_map length (record_fields x) ≡ fields_in (ty_outline x)
fields_seen Ty-F.Bool = refl
fields_seen Ty-F.Char = refl
fields_seen Ty-F.Int = refl
fields_seen Ty-F.Null = refl
fields_seen (Ty-F.Arr t) = refl
fields_seen (Ty-F.Stream t) = refl
fields_seen (Ty-F.Rec ms) = refl
fields_seen (Ty-F.Uni ms) = refl

tags_seen : (x : Ty-F Ty) → option_map length (union_tags x) ≡ tags_in (ty_outline x)
tags_seen Ty-F.Bool = refl
tags_seen Ty-F.Char = refl
tags_seen Ty-F.Int = refl
tags_seen Ty-F.Null = refl
tags_seen (Ty-F.Arr t) = refl
tags_seen (Ty-F.Stream t) = refl
tags_seen (Ty-F.Rec ms) = refl
tags_seen (Ty-F.Uni ms) = refl

pub fields_known : (s : Option Sort) → option_map length (fields_of s) ≡ fields_in (outline_of s)
fields_known None = refl
fields_known (Some (Plain t)) = fields_seen (out-Ty t)
fields_known (Some (Many t)) = refl
fields_known (Some (types.Function args rs)) = refl

pub tags_known : (s : Option Sort) → option_map length (tags_of s) ≡ tags_in (outline_of s)
tags_known None = refl
tags_known (Some (Plain t)) = tags_seen (out-Ty t)
tags_known (Some (Many t)) = refl
tags_known (Some (types.Function args rs)) = refl

-- ---- streams and integers

rolled : (t : Ty) → t ≡ roll-Ty (out-Ty t)
rolled t = search (rules, the_lemmas)

stream_rolled : (x : Ty-F Ty) → is_stream (Some (Plain (roll-Ty x))) ≡ is_stream_outline (outline_of (Some (Plain (roll-Ty x))))
unfolding roll-Ty denote.Hole.Carrier.roll out-Ty denote.Hole.Carrier.out
stream_rolled Ty-F.Bool = refl
stream_rolled Ty-F.Char = refl
stream_rolled Ty-F.Int = refl
stream_rolled Ty-F.Null = refl
stream_rolled (Ty-F.Arr t) = refl
stream_rolled (Ty-F.Stream t) = refl
stream_rolled (Ty-F.Rec ms) = refl
stream_rolled (Ty-F.Uni ms) = refl

pub stream_known : (s : Option Sort) → is_stream s ≡ is_stream_outline (outline_of s)
stream_known None = refl
stream_known (Some (Plain t)) =
    subst (λ t. is_stream (Some (Plain t)) ≡ is_stream_outline (outline_of (Some (Plain t)))) (sym (rolled t)) (stream_rolled (out-Ty t))
stream_known (Some (Many t)) = refl
stream_known (Some (types.Function args rs)) = refl

pub bool_out : out-Ty ty.Bool ≡ Ty-F.Bool
bool_out = search (rules, the_lemmas)

pub char_out : out-Ty ty.Char ≡ Ty-F.Char
char_out = search (rules, the_lemmas)

pub null_out : out-Ty ty.Null ≡ Ty-F.Null
null_out = search (rules, the_lemmas)

pub array_out : (a : Ty) → out-Ty (ty.Arr a) ≡ Ty-F.Arr a
array_out a = search (rules, the_lemmas)

pub stream_out : (a : Ty) → out-Ty (ty.Stream a) ≡ Ty-F.Stream a
stream_out a = search (rules, the_lemmas)

pub record_out : (ms : List Member) → out-Ty (ty.Rec ms) ≡ Ty-F.Rec ms
record_out ms = search (rules, the_lemmas)

pub union_out : (ms : List Member) → out-Ty (ty.Uni ms) ≡ Ty-F.Uni ms
union_out ms = search (rules, the_lemmas)

pub int_out : out-Ty ty.Int ≡ Ty-F.Int
int_out = search (rules, the_lemmas)

int_from : (t : Ty) → out-Ty t ≡ Ty-F.Int → t ≡ ty.Int
int_from t e = search (rules, the_lemmas)

int_seen : (x : Ty-F Ty) → is_integer_outline (ty_outline x) ≡ true → x ≡ Ty-F.Int
int_seen Ty-F.Int e = refl
int_seen _ e = absurd cc

pub integer_sound : (s : Option Sort) → is_integer_outline (outline_of s) ≡ true → s ≡ Some (Plain ty.Int)
integer_sound None e = absurd cc
integer_sound (Some (Plain t)) e = ap (λ t. Some (Plain t)) (int_from t (int_seen (out-Ty t) e))
integer_sound (Some (Many t)) e = absurd cc
integer_sound (Some (types.Function args rs)) e = absurd cc

pub integer_complete : (s : Option Sort) → s ≡ Some (Plain ty.Int) → is_integer_outline (outline_of s) ≡ true
integer_complete s e = ap (λ s. is_integer_outline (outline_of s)) e ∙ ap (λ x. is_integer_outline (ty_outline x)) int_out

-- ---- what leads into a node

carried_known : (u : Unit1) (m : Option Edge) → carried_by (types_by u) m ≡ outline_of (m >>= λ e. sort_at u.types e.ty)
carried_known u None = refl
carried_known u (Some e) = refl

type_known : (u : Unit1) (m : Option Graph) → type_of (types_by u) m ≡ outline_of (m >>= λ f. sort_at u.types (out-Graph f).fun)
type_known u None = refl
type_known u (Some g) = refl

named_known : (u : Unit1) (text : Option (List ℕ)) →
    named_by (callees_by u) text ≡ outline_of (text >>= λ name. function_named u.graphs name >>= λ f. sort_at u.types (out-Graph f).fun)
named_known u None = refl
named_known u (Some text) = type_known u (function_named u.graphs text)

module _ (u : Unit1) (g : Graph) (l : ℕ) where
  pub carries_is : (fed_at (types_by u) (callees_by u) g l).carries ≡ outline_of (carried u g l 1)
  carries_is = ap (carried_by (types_by u)) (sym (first_into g l)) ∙ carried_known u (edge_into g l 1)

  pub callee_is : (fed_at (types_by u) (callees_by u) g l).callee ≡ outline_of (callee u g l)
  callee_is = ap (λ m. named_by (callees_by u) (text_by m)) (sym (first_into g l)) ∙ named_known u (literal_at g l 1)

  pub text_is : text_by (first_of (edges_into g l)) ≡ literal_at g l 1
  text_is = ap text_by (sym (first_into g l))
