use Rattle.std.proofs.Common.{◌≡◌, ◌≤◌, ◌+◌, List, ℕ, ◌++◌, length, take, arith, length-append}
use Rattle.std.proofs.lemmas.List.{length-take, length-take-le}
use Rattle.flow_io.proofs.Bytes.{takes_more}
use Rattle.flow_io.proofs.reading.read_all.Goals as goal

pub returns-then-n-limit-clause-too_long : goal.returns-then-n-limit-clause-too_long
returns-then-n-limit-clause-too_long g c = λ _.
    let left = g.S.Source.left in
    let text : List ℕ = c.loop-n.text in
    let piece : List ℕ = take c.in-Ok.n c.read.new.buf in
    let size : length piece ≡ c.in-Ok.n = length-take-le c.in-Ok.n c.read.new.buf (grind (arith, c.in-Ok.ensures.count)) in
    let whole : length (text ++ piece) ≡ c.args.limit + 1 = omega (arith, c.in-Ok.ensures.count, length-append text piece, size, length-take c.min-room.result c.loop-n.buffer) in
    (text ++ piece, whole, takes_more (left c.args.from.now) (left c.loop-n.from) (left c.read.new.self) text piece c.loop-n.invariant.taken c.in-Ok.ensures.bytes)

pub returns-in_err-extend-clause-no_memory : goal.returns-in_err-extend-clause-no_memory
returns-in_err-extend-clause-no_memory g c = λ _.
    let left = g.S.Source.left in
    let text : List ℕ = c.loop-n.text in
    let piece : List ℕ = take c.in-Ok.n c.read.new.buf in
    let size : length piece ≡ c.in-Ok.n = length-take-le c.in-Ok.n c.read.new.buf (grind (arith, c.in-Ok.ensures.count)) in
    let whole : length (text ++ piece) ≤ c.args.limit = omega (arith, c.in-Ok.ensures.count, length-append text piece, size, length-take c.min-room.result c.loop-n.buffer) in
    (text ++ piece, whole, takes_more (left c.args.from.now) (left c.loop-n.from) (left c.read.new.self) text piece c.loop-n.invariant.taken c.in-Ok.ensures.bytes)
