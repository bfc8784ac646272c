use Rattle.std.proofs.Common.{◌≡◌, ◌-◌, ◌++◌, ◌∷◌, [], List, ℕ, length, take, drop, replicate, sym, ◌∙◌, ap, subst}
use Rattle.std.proofs.lemmas.Option.{same_Some}
use Rattle.forest_model.specs.Stored.{StoreRow}
use Rattle.node_page.specs.Pages.{IsPage}
use Rattle.header_block.specs.Layout.{long, store_bytes}
use Rattle.header_block.proofs.Places.{some_within}
use Rattle.header_block.proofs.Written.{store_written}
use Rattle.header_block.proofs.writer.Writer.store_at.Goals as goal

pub returns-in-Some-clause-page : goal.returns-in-Some-clause-page
returns-in-Some-clause-page c s front there is =
    let id = c.in-Some.id in
    let name = c.in-Some.name.now in
    let row : StoreRow = record { id = id; name = name; seq = c.in-Some.seq; documents = c.in-Some.documents } in
    let same : row ≡ s = same_Some _ _ (sym c.in-Some.ensures.row ∙ there) in
    let written = c.long-in-Some-2.ensures.page (front ++ long id ++ (length name ∷ []) ++ name ++ take (31 - length name) (drop (length name) (replicate 31 0)) ++ long c.in-Some.seq)
    (c.long-in-Some.ensures.page (front ++ long id ++ (length name ∷ []) ++ name ++ take (31 - length name) (drop (length name) (replicate 31 0)))
    (c.bytes-in-Some-2.ensures.page (front ++ long id ++ (length name ∷ []) ++ name)
    (c.bytes-in-Some.ensures.page (front ++ long id ++ (length name ∷ []))
    (c.bytes.ensures.page (front ++ long id) (c.long.ensures.page front is))))) in
    subst (λ (bytes : List ℕ). IsPage bytes c.long-in-Some-2.new.self.page)
    (store_written front (long id) name (long c.in-Some.seq) (long c.in-Some.documents) (length name) ∙ ap (λ (r : StoreRow). front ++ store_bytes r) same) written

pub returns-in_default-clause-len : goal.returns-in_default-clause-len
returns-in_default-clause-len c = absurd (some_within c.args.stores.now c.args.n c.requires.within c.in_default.ensures.row)
