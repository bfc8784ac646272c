use Rattle.std.proofs.Common.{◌≡◌, ◌∙◌, ap, sym, take, drop, length, arith}
use Rattle.std.proofs.lemmas.Grind.{common_steps}
use Rattle.block_host.proofs.Room.{split_front}
use Rattle.block_host.proofs.source.MemorySourceSource.read.Goals as goal

pub returns-clause-given : goal.returns-clause-given
returns-clause-given c told =
    let n = c.min-count.result in
    let bytes = c.self.inside.bytes.items in
    let front : c.copy_from_slice.new.self ≡ take n (drop c.self.inside.taken bytes) = grind (arith, common_steps) in
    let long : length c.copy_from_slice.new.self ≡ n = grind (arith, common_steps) in
    ap (λ s. s.rest) (sym c.self.view_is) ∙ split_front bytes _ (drop n c.args.room.now) c.self.inside.taken n front long
