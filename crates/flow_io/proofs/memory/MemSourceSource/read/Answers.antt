use Rattle.std.proofs.Common.{◌≡◌, List, ℕ, ◌++◌, ◌+◌, take, drop, refl, sym, ap, ◌∙◌}
use Rattle.flow_io.proofs.Bytes.{parted, take-rest}
use Rattle.flow_io.proofs.memory.MemSourceSource.read.Goals as goal

pub returns-clause-bytes : goal.returns-clause-bytes
returns-clause-bytes c = λ told is.
    let n : ℕ = c.move_front-n.result in
    let bytes : List ℕ = c.args.self.now.bytes in
    let at : ℕ = c.args.self.now.at in
    let told_is : drop at bytes ≡ told = cc is in
    let lent : c.as_slice.result.now ≡ bytes = c.as_slice.ensures in
    let moved : take n c.move_front-n.new.to ≡ take n (drop at bytes) =
    c.move_front-n.ensures.moved ∙ ap (take n) (take-rest at c.as_slice.result.now ∙ ap (drop at) lent) in
    (drop (at + n) bytes, sym told_is ∙ parted at n bytes ∙ ap (λ ys. ys ++ drop (at + n) bytes) (sym moved), refl)
