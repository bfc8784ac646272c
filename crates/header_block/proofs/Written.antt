-- A page that is written front first.
use Rattle.std.proofs.Common.{◌≡◌, ◌<◌, ◌+◌, ◌-◌, ℕ, List, [], ◌∷◌, ◌++◌, length, take, drop, replicate, Some, refl, lit≤, sym, ◌∙◌, ap, arith, append_assoc, length-append}
use Rattle.std.proofs.lemmas.List.{take_at, drop_at, take_more, drop-replicate, flat_map_more}
use Rattle.std.proofs.lemmas.Option.{get_or_from_slice_get}
use Rattle.std.specs.List.{flat_map, slice_get}
use Rattle.std.proofs.lemmas.Slice.{between_to_end}
use Rattle.forest_model.specs.Stored.{StoreRow}
use Rattle.header_block.specs.Layout.{store_bytes}
use Rattle.node_page.specs.declared.page.Page.{Page}
use Rattle.node_page.specs.Pages.{IsPage}
use borrow.Rule.Slice.PartMut.{put_mid}

-- a part that is put behind the front
put_behind : (n : ℕ) (front part : List ℕ) → put_mid (length front) (length part) (front ++ replicate (n - length front) 0) part ≡ (front ++ part) ++ replicate (n - length (front ++ part)) 0
put_behind n front part =
    let zeros : List ℕ = replicate (n - length front) 0 in
    ap (λ (xs : List ℕ). xs ++ (part ++ drop (length part) (drop (length front) (front ++ zeros)))) (take_at front zeros (length front) refl)
    ∙ ap (λ (xs : List ℕ). front ++ (part ++ drop (length part) xs)) (drop_at front zeros (length front) refl)
    ∙ ap (λ (xs : List ℕ). front ++ (part ++ xs)) (drop-replicate (length part) (n - length front) 0)
    ∙ ap (λ (k : ℕ). front ++ (part ++ replicate k 0)) (omega (arith, length-append front part))
    ∙ sym (append_assoc front part (replicate (n - length (front ++ part)) 0))

pub put_page : (n : ℕ) (front part old new : List ℕ) (from : ℕ) → from ≡ length front → old ≡ front ++ replicate (n - length front) 0 → new ≡ part
    → put_mid from (from + length part - from) old new ≡ (front ++ part) ++ replicate (n - length (front ++ part)) 0
put_page n front part old new from from_is old_is new_is =
    ap (λ (k : ℕ). put_mid from k old new) (let e : from + length part - from ≡ length part = omega arith in e)
    ∙ ap (λ (xs : List ℕ). put_mid from (length part) old xs) new_is
    ∙ ap (λ (xs : List ℕ). put_mid from (length part) xs part) old_is
    ∙ ap (λ (k : ℕ). put_mid k (length part) (front ++ replicate (n - length front) 0) part) from_is
    ∙ put_behind n front part

-- the parts of a store in turn
pub store_written : (front id name seq documents : List ℕ) (len : ℕ) → front ++ id ++ (len ∷ []) ++ name ++ take (31 - length name) (drop (length name) (replicate 31 0)) ++ seq ++ documents
    ≡ front ++ (id ++ (len ∷ []) ++ name ++ replicate (31 - length name) 0 ++ seq ++ documents)
store_written front id name seq documents len =
    ap (λ (zeros : List ℕ). front ++ id ++ (len ∷ []) ++ name ++ zeros ++ seq ++ documents) (between_to_end (replicate 31 0) (length name) 31 (lit≤ tt) ∙ drop-replicate (length name) 31 0)
    ∙ simp append_assoc

-- one store more
pub one_more : (front : List ℕ) (stores : List StoreRow) (n : ℕ) (s : StoreRow) → n < length stores → slice_get stores n ≡ Some s
    → (front ++ flat_map store_bytes (take n stores)) ++ store_bytes s ≡ front ++ flat_map store_bytes (take (n + 1) stores)
one_more front stores n s within there =
    flat_map_more store_bytes front (take n stores) s
    ∙ ap (λ (rows : List StoreRow). front ++ flat_map store_bytes rows) (ap (λ (r : StoreRow). take n stores ++ r ∷ []) (sym (get_or_from_slice_get stores n s s there)) ∙ sym (take_more stores n s within))

-- what a page was made of is read off it
pub page_read : (payload : List ℕ) (page : Page) (n : ℕ) → IsPage payload page → n ≡ page.len → take n page.bytes ≡ payload
page_read payload page n is len = ap (λ (bytes : List ℕ). take n bytes) is.bytes ∙ take_at payload (replicate (4064 - length payload) 0) n (sym (len ∙ is.len))
