use Rattle.std.proofs.Common.{◌≡◌, ◌∙◌, arith}
use Rattle.std.specs.Int.{w64, to_be_bytes}
use Rattle.meta_slots.proofs.block_of.Goals as goal

pub returns : goal.returns
returns c =
    let generation : c.copy_from_slice.new.self ≡ to_be_bytes w64 c.args.generation = c.copy_from_slice.ensures.after ∙ c.to_be_bytes.ensures in
    let revision : c.copy_from_slice-2.new.self ≡ to_be_bytes w64 c.args.revision = c.copy_from_slice-2.ensures.after ∙ c.to_be_bytes-2.ensures in
    record { generation = omega arith; revision = omega arith; is_sealed = rw (generation, revision) at c.seal.ensures }
