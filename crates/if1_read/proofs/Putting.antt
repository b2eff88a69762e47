-- One more line is sorted out.
use Rattle.std.proofs.Common.{◌≡◌, ◌≤◌, false, List, [], ◌∷◌, ◌++◌, length, map, Option, Some, arith, refl, sym, ap, ◌∙◌}
use Rattle.std.specs.Prelude.{filter}
use Rattle.std.proofs.lemmas.List.{map-append}
use Rattle.std.proofs.lemmas.List.Elements.{filter-append, All-append, All-cons, All-nil}
use Rattle.if1_graph.specs.declared.line.Line.{Line}
use Rattle.if1_graph.specs.declared.line.Line.TheVariants as line
use Rattle.if1_graph.specs.declared.graph.TypeEntry.{TypeEntry}
use Rattle.if1_graph.specs.Formed.{most}
use Rattle.if1_graph.specs.Reads.{entries_in, is_of_graph}
use Rattle.if1_read.specs.Faults.{is_unlabelled}
use Rattle.if1_read.specs.Putting.{IsPut, AreSorted}

pub entries_more : (ks ls : List Line) → entries_in (ks ++ ls) ≡ entries_in ks ++ entries_in ls
entries_more [] ls = refl
entries_more (line.Blank ∷ ks) ls = entries_more ks ls
entries_more (line.Entry label code first second name ∷ ks) ls =
    ap (λ es. record { label = label; code = code; first = first; second = second; name = name } ∷ es) (entries_more ks ls)
entries_more (line.Node label op before name ∷ ks) ls = entries_more ks ls
entries_more (line.Edge source out node port ty takes name ∷ ks) ls = entries_more ks ls
entries_more (line.Literal node port ty text name ∷ ks) ls = entries_more ks ls
entries_more (line.Function exported fun name ∷ ks) ls = entries_more ks ls
entries_more (line.Subgraph name ∷ ks) ls = entries_more ks ls
entries_more (line.Import ty name ∷ ks) ls = entries_more ks ls
entries_more (line.Open rest ∷ ks) ls = entries_more ks ls
entries_more (line.Close label op count assoc before name ∷ ks) ls = entries_more ks ls

pub sorted_more : (os : List (Option Line)) (o : Option Line) (es fs : List TypeEntry) (gs hs : List Line) → AreSorted os es gs → IsPut o es fs gs hs →
    AreSorted (os ++ o ∷ []) fs hs
sorted_more os o es fs gs hs s p =
    let ls = s.lines in
    let e : fs ≡ entries_in (ls ++ p.line ∷ []) =
    p.entries ∙ ap (λ xs. xs ++ entries_in (p.line ∷ [])) s.sorts.entries ∙ sym (entries_more ls (p.line ∷ [])) in
    let before : length es ≤ most = omega (arith, ap length s.sorts.entries, s.sorts.few) in
    record {
      lines = ls ++ p.line ∷ [];
      are =
          ap (λ xs. xs ++ o ∷ []) s.are
          ∙ ap (λ x. map (λ l. Some l) ls ++ x ∷ []) p.is
          ∙ sym (map-append (λ (l : Line). Some l) ls (p.line ∷ []));
      labelled =
          All-append (λ (l : Line). is_unlabelled l ≡ false) ls (p.line ∷ []) s.labelled
          (All-cons (λ (l : Line). is_unlabelled l ≡ false) p.line [] p.labelled (All-nil (λ (l : Line). is_unlabelled l ≡ false)));
      sorts = record {
        entries = e;
        few = omega (arith, ap length e, p.few before);
        lines = p.lines ∙ ap (λ xs. xs ++ filter is_of_graph (p.line ∷ [])) s.sorts.lines ∙ sym (filter-append is_of_graph ls (p.line ∷ []));
      };
    }
