use Rattle.std.proofs.Common.{◌≡◌, take, true, false, refl, sym, ◌∙◌, ap}
use Rattle.std.proofs.lemmas.Bool.Decides.{Decides-eqb}
use Rattle.std.proofs.lemmas.Option.{same_Some}
use Rattle.std.proofs.lemmas.Slice.Eq.{slice_eq-Decides}
use Rattle.forest_model.specs.declared.stored.Header.{Header}
use Rattle.header_block.specs.Layout.{header_bytes}
use Rattle.header_block.proofs.HeaderBack.{header_fits, names_blocks}
use Rattle.header_block.proofs.Written.{page_read}
use Rattle.header_block.proofs.reader.header_of.Goals as goal

pub payload_of-written-requires : goal.payload_of-written-requires
payload_of-written-requires c = names_blocks c.in_ok-header.header (header_fits c.args.at c.in_ok-header.header (sym c.if-not-is_well_formed.ensures))

pub returns-then-eq-clause-cases : goal.returns-then-eq-clause-cases
returns-then-eq-clause-cases c =
    let bytes = take c.from.result c.payload_of-written.result.bytes in
    let written : bytes ≡ header_bytes c.in_ok-header.header = page_read (header_bytes c.in_ok-header.header) c.payload_of-written.result c.from.result c.payload_of-written.ensures c.from.ensures in
    let same = (slice_eq-Decides Decides-eqb bytes c.args.payload.now true c.if-eq.ensures).0 refl in
    (sym same ∙ written, sym c.if-not-is_well_formed.ensures)

pub returns-else-eq-clause-cases : goal.returns-else-eq-clause-cases
returns-else-eq-clause-cases c h is well_formed =
    let bytes = take c.from.result c.payload_of-written.result.bytes in
    let read = same_Some c.in_ok-header.header h (c.in_ok-header.ensures h c.args.at well_formed is) in
    let written : bytes ≡ header_bytes c.in_ok-header.header = page_read (header_bytes c.in_ok-header.header) c.payload_of-written.result c.from.result c.payload_of-written.ensures c.from.ensures in
    let same : bytes ≡ c.args.payload.now = written ∙ ap (λ (g : Header). header_bytes g) read ∙ sym is in
    let tested : false ≡ true = (slice_eq-Decides Decides-eqb bytes c.args.payload.now false c.if-eq.ensures).1 same in
    cc

pub returns-else-eq-clause-only : goal.returns-else-eq-clause-only
returns-else-eq-clause-only c h is well_formed = absurd (returns-else-eq-clause-cases c h is well_formed)
