use Rattle.std.proofs.Common.{ℕ, List, subst, arith}
use Rattle.block_host.specs.Sealed.{IsSealed}
use Rattle.header_block.specs.Layout.{header_bytes}
use Rattle.file_commit.proofs.SealedBytes.{payload_is, tells, small_link}
use Rattle.file_commit.proofs.header.sealed_header.Goals as goal

pub returns-clause-is_sealed : goal.returns-clause-is_sealed
returns-clause-is_sealed c =
    subst (λ (xs : List ℕ). IsSealed c.args.revision c.args.at 4 xs c.seal.result) (payload_is (header_bytes c.args.header.now) c.payload_of-page.result c.payload_of-page.ensures) c.seal.ensures

pub returns-clause-tells : goal.returns-clause-tells
returns-clause-tells c =
    tells c.args.revision c.args.at c.args.header.now c.seal.result
    (subst (λ (xs : List ℕ). IsSealed c.args.revision c.args.at 4 xs c.seal.result) (payload_is (header_bytes c.args.header.now) c.payload_of-page.result c.payload_of-page.ensures) c.seal.ensures)
    (omega arith) (omega arith) (small_link c.args.header.now.previous c.requires.previous)
