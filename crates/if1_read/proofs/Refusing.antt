-- Why a text is refused, by what is found of its lines.
use Rattle.std.proofs.Common.{◌≡◌, ℕ, suc, ◌<◌, Bool, List, [], ◌∷◌, ◌++◌, map, length, Option, Some, None, refl, sym, ap, subst, ◌∙◌, arith}
use Rattle.std.specs.Prelude.{bytes_eq, filter}
use Rattle.std.specs.List.{list_any}
use Rattle.std.proofs.lemmas.List.{length-map}
use Rattle.if1_graph.specs.declared.line.Line.{Line}
use Rattle.if1_graph.specs.declared.fault.If1Fault.{If1Fault}
use Rattle.if1_graph.specs.declared.fault.If1Fault.TheVariants as refusal
use Rattle.if1_graph.specs.declared.graph.TypeEntry.{TypeEntry}
use Rattle.if1_graph.specs.declared.graph.Unit1.{Unit1}
use Rattle.if1_graph.specs.declared.kind.TypeKind.{TypeKind}
use Rattle.if1_graph.specs.declared.kind.TypeKind.TheVariants as kind
use Rattle.if1_graph.specs.declared.kind.Basic.{Basic}
use Rattle.if1_graph.specs.declared.kind.Basic.TheVariants as basic
use Rattle.if1_graph.specs.declared.row.Want.{Want}
use Rattle.if1_graph.specs.declared.row.Want.TheVariants as want
use Rattle.if1_graph.specs.Kinds.{kind_at, basic_at}
use Rattle.if1_graph.specs.Types.{entry_at}
use Rattle.if1_graph.specs.Formed.{IsType, HasReal}
use Rattle.if1_graph.specs.Reads.{ReadsIf1, is_of_graph}
use Rattle.if1_read.specs.declared.fault.Kind.{Kind}
use Rattle.if1_read.specs.declared.fault.Kind.TheVariants.{Bad, Unknown, Real, TooMany}
use Rattle.if1_read.specs.declared.fault.Fault.{Fault}
use Rattle.if1_read.specs.Faults.{Layer, next, layers, layers_from, unit_alone, numbered, functions, types, want_of, literal_fault, unless, NamesFault, rows_of, IsFaultOf}
use Rattle.if1_read.specs.Least.{earlier, least, refusal_at, refusal_of}
use Rattle.if1_read.specs.Pages.{Lit, Rules, Sheet, sheets_next, sheets_after}
use Rattle.if1_read.specs.Rows.{all_faults}
use Rattle.if1_read.specs.Ruled.{TypeSays, ImportSays, IsLitWrong, AreRules}
use Rattle.if1_read.proofs.Walking.{Lined, graph_lines, layers_kept}
use Rattle.if1_read.proofs.Splits.{type_moved, real_moved}
use Rattle.if1_read.proofs.Unfaulty.{accepted}
use Rattle.if1_read.proofs.Keeping.{Mark, layer_of, sheet_of, layers_of, sheets_of, marks_next, layers_next, sheets_keep}
use Rattle.if1_read.proofs.Kept.{first_marks}
use Rattle.if1_read.proofs.Firsts.{first_then, least_append}
use Rattle.if1_read.proofs.Named.{none_named, some_named}

-- ---- rules by the same types and names

same_unless : (b c : Bool) (k : Kind) → b ≡ c → unless b k ≡ unless c k
same_unless b c k e = ap (λ (x : Bool). unless x k) e

fault_names : (names others : List (List ℕ)) → ((t : List ℕ) → list_any (λ n. bytes_eq n t) names ≡ list_any (λ n. bytes_eq n t) others) →
    (w : Option Want) (text : List ℕ) (k : Option TypeKind) (b : Option Basic) → literal_fault names w text k b ≡ literal_fault others w text k b
fault_names names others same (Some want.Function) text (Some kind.Function) b = same_unless _ _ Unknown (same text)
fault_names names others same (Some want.Reduction) text (Some kind.Function) b = refl
fault_names names others same w text (Some kind.Function) b = refl
fault_names names others same (Some want.Reduction) text (Some kind.Basic) (Some basic.Integer) = refl
fault_names names others same w text (Some kind.Basic) (Some b) = refl
fault_names names others same w text _ _ = refl

module _ (ts us : List TypeEntry) (names others : List (List ℕ)) (same : (l : ℕ) → entry_at ts l ≡ entry_at us l)
    (named : (t : List ℕ) → list_any (λ n. bytes_eq n t) names ≡ list_any (λ n. bytes_eq n t) others) where
  back : (l : ℕ) → entry_at us l ≡ entry_at ts l
  back l = sym (same l)

  types_moved : (ty : ℕ) (o : Option Kind) → TypeSays ts ty o → TypeSays us ty o
  types_moved ty None h = (type_moved ts us same ty h.0, λ r. h.1 (real_moved us ts back ty r))
  types_moved ty (Some Unknown) h = λ t. h (type_moved us ts back ty t)
  types_moved ty (Some Real) h = real_moved ts us same ty h
  types_moved ty (Some _) h = absurd h

  imports_moved : (ty : ℕ) (o : Option Kind) → ImportSays ts ty o → ImportSays us ty o
  imports_moved ty None h = type_moved ts us same ty h
  imports_moved ty (Some Unknown) h = λ t. h (type_moved us ts back ty t)
  imports_moved ty (Some _) h = absurd h

lit_moved : (ts us : List TypeEntry) (names others : List (List ℕ)) → ((l : ℕ) → entry_at ts l ≡ entry_at us l) →
    ((t : List ℕ) → list_any (λ n. bytes_eq n t) names ≡ list_any (λ n. bytes_eq n t) others) → (ns : List (ℕ × ℕ)) (l : Lit) (k : Kind) → IsLitWrong ts names ns l k → IsLitWrong us others ns l k
lit_moved ts us names others same named ns l k w = record {
  entry = w.entry;
  found = sym (same l.ty) ∙ w.found;
  free = λ r. w.free (real_moved us ts (λ l. sym (same l)) l.ty r);
  wrong = sym (fault_names names others named (want_of ns l.node l.port) l.text (kind_at w.entry.code) (basic_at w.entry.first)) ∙ w.wrong;
}

pub rules_moved : (ts us : List TypeEntry) (names others : List (List ℕ)) (r : Rules) → ((l : ℕ) → entry_at ts l ≡ entry_at us l) →
    ((t : List ℕ) → list_any (λ n. bytes_eq n t) names ≡ list_any (λ n. bytes_eq n t) others) → AreRules ts names r → AreRules us others r
rules_moved ts us names others r same named a = record {
  on_types = λ ty. types_moved ts us names others same named ty (r.type_wrong ty) (a.on_types ty);
  on_imports = λ ty. imports_moved ts us names others same named ty (r.import_wrong ty) (a.on_imports ty);
  lits = λ ns l k e. lit_moved ts us names others same named ns l k (a.lits ns l k e);
  lits_all = λ ns l k w. a.lits_all ns l k (lit_moved us ts others names (λ l. sym (same l)) (λ t. sym (named t)) ns l k w);
}

-- ---- what is named

pub all_first : (fs gs hs : List Fault) → earlier (earlier (least fs) (least gs)) (least hs) ≡ least (fs ++ (gs ++ hs))
all_first fs gs hs = first_then (least fs) gs hs ∙ sym (least_append fs (gs ++ hs))

abbrev lines_of : List ℕ → List Lined
lines_of text = numbered 1 (rows_of text)

refused : (text : List ℕ) (n : ℕ) (k : Kind) → NamesFault (rows_of text) n k → IsFaultOf text (refusal_at n k)
refused text n Bad h = h
refused text n Unknown h = h
refused text n Real h = h
refused text n TooMany h = h

pub fault_named : (text : List ℕ) (r : Rules) → AreRules (types (lines_of text)) (functions (lines_of text)) r → (f : Fault) → least (all_faults r (rows_of text)) ≡ Some f →
    IsFaultOf text (refusal_of f)
fault_named text r rules f e = refused text f.line f.kind (some_named (rows_of text) r rules f e)

same_depth : (ms : List Mark) (ls : List Lined) → length (sheets_after (sheets_of ms) ls) ≡ length (layers_from (layers_of ms) ls)
same_depth ms [] = length-map ms sheet_of ∙ sym (length-map ms layer_of)
same_depth ms (x ∷ ls) =
    ap (λ (ss : List Sheet). length (sheets_after ss ls)) (sym (sheets_keep x.0 x.1 ms))
    ∙ (same_depth (marks_next x.0 x.1 ms) ls ∙ ap (λ (os : List Layer). length (layers_from os ls)) (layers_next x.0 x.1 ms))

pub unclosed_named : (text : List ℕ) (r : Rules) → AreRules (types (lines_of text)) (functions (lines_of text)) r → least (all_faults r (rows_of text)) ≡ None →
    1 < length (sheets_after ((None, 0) ∷ []) (filter (λ l. is_of_graph l.1) (lines_of text))) → IsFaultOf text refusal.Unclosed
unclosed_named text r rules e deep = record {
  clean = none_named (rows_of text) r rules e;
  unclosed = omega (arith, deep, same_depth first_marks (graph_lines (lines_of text)), ap length (layers_kept unit_alone (lines_of text)));
}

-- ---- a text that gives a unit is refused for want of memory alone

pub only_memory : (text : List ℕ) (u : Unit1) → ReadsIf1 text u → (e : If1Fault) → IsFaultOf text e → e ≡ refusal.NoMemory
only_memory text u h (refusal.BadLine n) f = absurd ((accepted text u h).0 n Bad f.fault)
only_memory text u h (refusal.Unknown n) f = absurd ((accepted text u h).0 n Unknown f.fault)
only_memory text u h (refusal.Real n) f = absurd ((accepted text u h).0 n Real f.fault)
only_memory text u h (refusal.TooMany n) f = absurd ((accepted text u h).0 n TooMany f.fault)
only_memory text u h refusal.Unclosed f = absurd ((accepted text u h).1 f)
only_memory text u h refusal.NoMemory f = refl
only_memory text u h _ f = absurd f
