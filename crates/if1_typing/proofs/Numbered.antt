-- Numbers stand for what the labels, ports and functions of a unit have.
use Rattle.std.proofs.Common.{◌≡◌, ℕ, List, Option, Some, None, slice_get, Decides, refl, sym, ap, subst}
use Rattle.if1_graph.specs.declared.graph.Graph.{Graph}
use Rattle.if1_graph.specs.declared.graph.Graph.TheViews.{out-Graph}
use Rattle.if1_graph.specs.declared.graph.Edge.{Edge}
use Rattle.if1_graph.specs.declared.graph.Unit1.{Unit1}
use Rattle.if1_graph.specs.declared.row.Want.{Want}
use Rattle.if1_graph.specs.Tables.{◌>>=◌}
use Rattle.if1_graph.specs.Ops.{reducer_at}
use Rattle.if1_graph.specs.Types.{Sort, sort_at}
use Rattle.if1_graph.specs.Units.{edges_into, edge_into}
use Rattle.if1_graph.specs.Formed.{function_named}
use Rattle.if1_graph.specs.Ports.{carried, callee, literal_at}
use Rattle.if1_graph.specs.Typing.{known, Fits, result_of}
use Rattle.if1_types.specs.Forms.{IsSort}
use Rattle.if1_ports.proofs.Edges.{port_found}
use Rattle.if1_ports.proofs.Known.{text_is}
use Rattle.if1_fits.specs.Views.{number_of}
use Rattle.if1_fits.specs.Tests.{IsNumbered}
use Rattle.if1_fits.proofs.Law.{decided}
use Rattle.if1_typing.specs.Tables.{Table, Tells, number, type_number}
use Rattle.if1_typing.specs.Fed.{carried_in, carried_out, callee_by, callee_in, named_in, fits_in, result_number}

module _ (u : Unit1) (t : Table) (tells : Tells u.types u.graphs t) where
  pub numbered : (l : ℕ) → IsNumbered t.keys (sort_at u.types l) (number t l)
  numbered l = by (sort_at u.types l) refl
    where
      by : (o : Option Sort) → sort_at u.types l ≡ o → IsNumbered t.keys o (number t l)
      by None e = (tells.sorts.there l).1 e
      by (Some s) e = tells.stand l s e

  -- ---- what ports carry

  edge_numbered : (m : Option Edge) → IsNumbered t.keys (m >>= λ e. sort_at u.types e.ty) (number_of t.labels t.numbers m)
  edge_numbered None = refl
  edge_numbered (Some e) = numbered e.ty

  pub carried_numbered : (g : Graph) (l port : ℕ) → IsNumbered t.keys (carried u g l port) (carried_in t (edges_into g l) port)
  carried_numbered g l port =
      subst (λ m. IsNumbered t.keys (carried u g l port) (number_of t.labels t.numbers m)) (port_found (out-Graph g).edges l port)
      (edge_numbered (edge_into g l port))

  out_numbered : (m : Option Graph) (port : ℕ) → IsNumbered t.keys (m >>= λ g. carried u g 0 port) (carried_out t m port)
  out_numbered None port = refl
  out_numbered (Some g) port = carried_numbered g 0 port

  pub result_numbered : (gs : List Graph) (k port : ℕ) → IsNumbered t.keys (result_of u gs k port) (result_number t gs k port)
  result_numbered gs k port = out_numbered (slice_get gs k) port

  -- ---- what a literal names

  function_numbered : (m : Option Graph) → IsNumbered t.keys (m >>= λ f. sort_at u.types (out-Graph f).fun) (type_number (number t) m)
  function_numbered None = refl
  function_numbered (Some g) = numbered (out-Graph g).fun

  named_numbered : (text : Option (List ℕ)) →
      IsNumbered t.keys (text >>= λ name. function_named u.graphs name >>= λ f. sort_at u.types (out-Graph f).fun) (callee_by t text)
  named_numbered None = refl
  named_numbered (Some text) =
      subst (IsNumbered t.keys (function_named u.graphs text >>= λ f. sort_at u.types (out-Graph f).fun)) (sym (tells.callees text))
      (function_numbered (function_named u.graphs text))

  callee_numbered : (g : Graph) (l : ℕ) → IsNumbered t.keys (callee u g l) (callee_in t (edges_into g l))
  callee_numbered g l =
      subst (λ text. IsNumbered t.keys (callee u g l) (callee_by t text)) (sym (text_is u g l)) (named_numbered (literal_at g l 1))

  reducer_is : (g : Graph) (l : ℕ) → (known u g l).reducer ≡ named_in (edges_into g l)
  reducer_is g l = ap (λ (text : Option (List ℕ)). text >>= reducer_at) (sym (text_is u g l))

  -- ---- wants

  pub want_decided : (g : Graph) (l : ℕ) (w : Want) (n : ℕ) (s : Sort) → IsSort t.keys n s →
      Decides (fits_in t (edges_into g l) w n) (Fits (known u g l) w s)
  want_decided g l w n s h =
      decided t.keys tells.once tells.read (carried_in t (edges_into g l)) (known u g l) (carried_numbered g l) (callee_in t (edges_into g l)) (named_in (edges_into g l))
      (callee_numbered g l) (reducer_is g l) w n s h
