use Rattle.std.proofs.Common.{length, List, ℕ, ◌∙◌, ap, refl, subst}
use Rattle.std.specs.Int.{w16, w64, to_be_bytes}
use Rattle.block_host.specs.Sealed.{sealed_front}
use Rattle.block_host.proofs.Front.{PutsPart, zero_block-bytes, written_in_turn, is_whole_by}
use Rattle.block_host.proofs.sealing.seal.Goals as goal

pub returns : goal.returns
unfolding sealed_front
returns c =
    let written = written_in_turn c.args.kind c.args.payload.now (to_be_bytes w16 (length c.args.payload.now)) (to_be_bytes w64 c.args.rev) (to_be_bytes w64 c.args.at) c.checksum_of-checksum.result
    c.zeros.result.bytes c.put.new.bytes c.put-2.new.bytes c.put-3.new.bytes c.put-4.new.bytes c.put-5.new.bytes c.put-6.new.bytes
    c.requires.fits refl refl refl c.checksum_of-checksum.ensures.length (ap (λ b. b.bytes) c.zeros.ensures.value ∙ zero_block-bytes)
    c.put.ensures c.put-2.ensures
    (subst (λ (part : List ℕ). PutsPart c.put-2.new.bytes 4066 part c.put-3.new.bytes) c.to_be_bytes.ensures c.put-3.ensures)
    (subst (λ (part : List ℕ). PutsPart c.put-3.new.bytes 4072 part c.put-4.new.bytes) c.to_be_bytes-2.ensures c.put-4.ensures)
    (subst (λ (part : List ℕ). PutsPart c.put-4.new.bytes 4080 part c.put-5.new.bytes) c.to_be_bytes-3.ensures c.put-5.ensures)
    c.checksum_of-checksum.ensures.value c.put-6.ensures in
    let whole = is_whole_by c.put-6.new.bytes written.1 c.known.ensures in
    record { least = c.requires.least; greatest = c.requires.greatest; fits = c.requires.fits; bytes = written.0; whole = whole }
