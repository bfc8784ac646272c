use Rattle.std.proofs.Common.{List, length, Some, sym, ◌∙◌, ap, arith, length-append}
use Rattle.std.specs.List.{flat_map}
use Rattle.std.proofs.lemmas.Option.{none-some, same_Some}
use Rattle.forest_model.specs.Stored.{StoreRow}
use Rattle.forest_model.specs.declared.stored.Header.{Header}
use Rattle.header_block.specs.Layout.{fields, store_bytes}
use Rattle.header_block.proofs.HeaderBack.{header_fits, length-fields}
use Rattle.header_block.proofs.reader.read.Goals as goal

pub returns-then-payload-lt72 : goal.returns-then-payload-lt72
returns-then-payload-lt72 c h at well_formed is =
    absurd (omega (arith, ap length is, length-append (fields h) (flat_map store_bytes h.stores), length-fields h))

pub returns-in_err-stores : goal.returns-in_err-stores
returns-in_err-stores c h at well_formed is =
    let fits = header_fits at h well_formed in
    let front = c.fields-header.ensures h at (flat_map store_bytes h.stores) well_formed is in
    absurd (none-some h.stores (c.in_err-stores.ensures h.next_store h.stores fits.next_store (sym front.1) fits.count fits.rows front.2))

pub returns : goal.returns
returns c h at well_formed is =
    let fits = header_fits at h well_formed in
    let front = c.fields-header.ensures h at (flat_map store_bytes h.stores) well_formed is in
    let stores = same_Some c.in_ok-stores.stores h.stores (c.in_ok-stores.ensures h.next_store h.stores fits.next_store (sym front.1) fits.count fits.rows front.2) in
    ap Some (ap (λ (g : Header). record g { stores = c.in_ok-stores.stores }) front.0 ∙ ap (λ (rows : List StoreRow). record h { stores = rows }) stores)
