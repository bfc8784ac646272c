-- No cause holds exactly where what a call asks holds: the calls that write records.
use Rattle.std.proofs.Common.{◌≡◌, ℕ, ◌+◌, ◌<◌, ◌/◌, ◌&&◌, Bool, true, false, cond, List, [], ◌∷◌, length, Some, None, nat_le, nat_lt, ◌⊎◌, inl, inr, ◌↔◌, refl, ap, subst, ◌∙◌, arith}
use Rattle.std.specs.List.{AllByRecursion, list_any, sum_by}
use Rattle.std.specs.Option.{is_none, option_map_or}
use Rattle.std.proofs.lemmas.Bool.{or_from, or_parts, leb-false, lt-leb, true≢false}
use Rattle.std.proofs.lemmas.List.Sums.{sum_by-cons}
use Rattle.forest_model.specs.Limits.{has_wrong_key, has_wrong_body, any_worn}
use Rattle.forest_model.specs.Documents.{doc_at}
use Rattle.forest_model.specs.Stores.{store_of, store_named, seq_of}
use Rattle.forest_model.specs.Blocks.{File}
use Rattle.forest_model.specs.Step.{◌where_holds◌, item_length}
use Rattle.forest_model.specs.declared.call.StoreRef.{StoreRef}
use Rattle.forest_model.specs.declared.call.Item.{Item}
use Rattle.forest_model.specs.declared.call.Item.TheVariants.{Put, Del}
use Rattle.forest_model.specs.declared.call.Call.TheVariants.{Set, Delete, Batch, StoreOpen, StoreRemove}
use Rattle.forest_model.specs.declared.refusal.Refusal.{Refusal}
use Rattle.forest_model.specs.declared.refusal.Refusal.TheVariants.{FileFull, NoStore, StoreCount, Worn}
use Rattle.forest_model.specs.declared.state.State.{State}
use Rattle.model_laws.specs.Answered.{NoCause, IsItemKey, IsItemContent, HasName, HasRoom, MayDraw, all_bytes}
use Rattle.model_laws.proofs.AtTurn.{finds_each}
use Rattle.model_laws.proofs.Conditions.{idle, key_fits, content_fits, draws_one, draws_two, some_is, store_draws, named_is, room_is, name_fits, may_go}
use Rattle.model_laws.proofs.Free.{IsFree}
use Rattle.model_laws.proofs.Steps.{unmet}

-- the bytes of records, spelled out
pub key_bytes : (key : List ℕ) → 24 + length key + 0 + 0 ≡ 24 + length key
key_bytes key = omega arith

pub bytes_of : (items : List Item) → sum_by item_length items ≡ all_bytes items
bytes_of [] = refl
bytes_of (Put key meta body ∷ items) = sum_by-cons item_length (Put key meta body) items ∙ ap (λ n. (24 + length key + length meta + length body) + n) (bytes_of items)
bytes_of (Del key ∷ items) = sum_by-cons item_length (Del key) items ∙ (λ i. key_bytes key i + bytes_of items i)

-- room for so many bytes, spelled in another way
room_for : (s : State) (file : File) (why : Refusal) (bytes spelled : ℕ) → bytes ≡ spelled
    → ((why where_holds nat_lt s.limits.max_blocks (length file + (s.loose + bytes) / 4064 + 2)) ≡ None) ↔ HasRoom s file spelled
room_for s file why bytes spelled e =
    subst (λ b. ((why where_holds nat_lt s.limits.max_blocks (length file + (s.loose + bytes) / 4064 + 2)) ≡ None) ↔ HasRoom s file b) e (room_is _ _ _)

-- each item of a batch
pub keys_fit : (items : List Item) → (list_any has_wrong_key items ≡ false) ↔ AllByRecursion IsItemKey items
keys_fit [] = (λ h. tt, λ h. refl)
keys_fit (item ∷ items) = (
  λ e. let p = or_parts _ _ e in ((one item).0 p.0, (keys_fit items).0 p.1),
  λ a. or_from _ _ ((one item).1 a.0) ((keys_fit items).1 a.1),
)
  where
    one : (i : Item) → (has_wrong_key i ≡ false) ↔ IsItemKey i
    one (Put key meta body) = key_fits key
    one (Del key) = key_fits key

pub contents_fit : (items : List Item) → (list_any has_wrong_body items ≡ false) ↔ AllByRecursion IsItemContent items
contents_fit [] = (λ h. tt, λ h. refl)
contents_fit (item ∷ items) = (
  λ e. let p = or_parts _ _ e in ((one item).0 p.0, (contents_fit items).0 p.1),
  λ a. or_from _ _ ((one item).1 a.0) ((contents_fit items).1 a.1),
)
  where
    one : (i : Item) → (has_wrong_body i ≡ false) ↔ IsItemContent i
    one (Put key meta body) = content_fits meta body
    one (Del key) = (λ e. tt, λ h. refl)

pub free_set : (s : State) (file : File) (at : StoreRef) (key meta body : List ℕ) → IsFree s file (Set at key meta body) ↔ NoCause s file (Set at key meta body)
free_set s file at key meta body =
    let draws = store_draws (store_of s.stores at.store) 1 (s.place + 1) in
    let room = room_for s file _ (24 + length key + length meta + length body) _ refl in (
      λ f.
          let c = f.causes in
          let d = draws.0 (unmet _ _ c.1.1.1.0, unmet _ _ c.1.1.1.1.0) in
          (unmet _ _ c.0, (key_fits key).0 (unmet _ _ c.1.0), (content_fits meta body).0 (unmet _ _ c.1.1.0), d.0, d.1, room.0 f.room),
      λ n.
          let d = draws.1 (n.3, n.4) in
          record {
            causes = (idle _ _ n.0, (idle _ _ ((key_fits key).1 n.1), (idle _ _ ((content_fits meta body).1 n.2), (idle _ _ d.0, (idle _ _ d.1, tt)))));
            room = room.1 n.5;
          },
    )

pub free_delete : (s : State) (file : File) (at : StoreRef) (key : List ℕ) → IsFree s file (Delete at key) ↔ NoCause s file (Delete at key)
free_delete s file at key =
    let draws = store_draws (store_of s.stores at.store) 1 (s.place + 1) in
    let room = room_for s file _ _ _ (key_bytes key) in (
      λ f.
          let c = f.causes in
          let d = draws.0 (unmet _ _ c.1.1.0, unmet _ _ c.1.1.1.0) in
          (unmet _ _ c.0, (key_fits key).0 (unmet _ _ c.1.0), d.0, d.1, (some_is (doc_at s.documents at.store key)).0 (unmet _ _ c.1.1.1.1.0), room.0 f.room),
      λ n.
          let d = draws.1 (n.2, n.3) in
          record {
            causes = (idle _ _ n.0, (idle _ _ ((key_fits key).1 n.1), (idle _ _ d.0, (idle _ _ d.1, (idle _ _ ((some_is (doc_at s.documents at.store key)).1 n.4), tt)))));
            room = room.1 n.5;
          },
    )

pub free_batch : (s : State) (file : File) (at : StoreRef) (items : List Item) → IsFree s file (Batch at items) ↔ NoCause s file (Batch at items)
free_batch s file at items =
    let draws = store_draws (store_of s.stores at.store) (length items) (s.place + 1) in
    let finds = finds_each at.store items (seq_of s.stores at.store) s.documents in
    let room = room_for s file _ _ _ (bytes_of items) in (
      λ f.
          let c = f.causes in
          let d = draws.0 (unmet _ _ c.1.1.1.0, unmet _ _ c.1.1.1.1.0) in
          (unmet _ _ c.0, (keys_fit items).0 (unmet _ _ c.1.0), (contents_fit items).0 (unmet _ _ c.1.1.0), d.0, d.1, finds.0 (unmet _ _ c.1.1.1.1.1.0), room.0 f.room),
      λ n.
          let d = draws.1 (n.3, n.4) in
          record {
            causes = (idle _ _ n.0, (idle _ _ ((keys_fit items).1 n.1), (idle _ _ ((contents_fit items).1 n.2), (idle _ _ d.0, (idle _ _ d.1, (idle _ _ (finds.1 n.5), tt))))));
            room = room.1 n.6;
          },
    )

pub free_remove : (s : State) (file : File) (at : StoreRef) (name : List ℕ) → IsFree s file (StoreRemove at name) ↔ NoCause s file (StoreRemove at name)
free_remove s file at name =
    let room = room_for s file _ 24 24 refl in (
      λ f.
          let c = f.causes in
          let n = (may_go name).0 (unmet _ _ c.1.0) in
          (unmet _ _ c.0, n.0, n.1, (named_is name s.stores).0 (unmet _ _ c.1.1.0), (draws_one (s.place + 1)).0 (unmet _ _ c.1.1.1.0), room.0 f.room),
      λ n. record {
        causes = (idle _ _ n.0, (idle _ _ ((may_go name).1 (n.1, n.2)), (idle _ _ ((named_is name s.stores).1 n.3), (idle _ _ ((draws_one (s.place + 1)).1 n.4), tt))));
        room = room.1 n.5;
      },
    )

-- a name that may be new
opens : (s : State) (file : File) (name : List ℕ) (read_only : Bool) (full : ℕ → Refusal) (b : Bool) → (b ≡ false) ↔ HasName name s.stores
    → (((NoStore where_holds (b && read_only)) ≡ None) × ((Worn where_holds (b && any_worn (s.next_store ∷ (s.place + 1) ∷ []))) ≡ None)
    × ((StoreCount where_holds (b && nat_le 64 (length s.stores))) ≡ None)
    × (option_map_or (λ n. full n where_holds nat_lt s.limits.max_blocks (length file + n + 2)) (cond b (Some ((s.loose + (24 + length name + 0 + 0)) / 4064)) None) None ≡ None))
    ↔ (HasName name s.stores ⊎ ((HasName name s.stores → ⊥) × (read_only ≡ false) × MayDraw s.next_store × MayDraw (s.place + 1) × (length s.stores < 64) × HasRoom s file (24 + length name)))
opens s file name read_only full true named =
    let room = room_for s file (full ((s.loose + (24 + length name + 0 + 0)) / 4064)) _ _ (key_bytes name) in (
      λ c. let d = (draws_two s.next_store (s.place + 1)).0 (unmet _ _ c.1) in inr (λ h. true≢false (named.1 h), unmet _ _ c.0, d.0, d.1, leb-false _ _ (unmet _ _ c.2), room.0 c.3),
      λ h. elim h [
        | inl has ↦ absurd (true≢false (named.1 has))
        | inr n ↦ (idle _ _ n.1, idle _ _ ((draws_two s.next_store (s.place + 1)).1 (n.2, n.3)), idle _ _ (lt-leb _ _ n.4), room.1 n.5)
      ],
    )
opens s file name read_only full false named = (λ c. inl (named.0 refl), λ h. (refl, refl, refl, refl))

pub free_open : (s : State) (file : File) (name : List ℕ) (read_only : Bool) → IsFree s file (StoreOpen name read_only) ↔ NoCause s file (StoreOpen name read_only)
free_open s file name read_only =
    let open_is = opens s file name read_only (λ n. FileFull (length file) n s.limits.max_blocks) (is_none (store_named s.stores name)) (named_is name s.stores) in (
      λ f. let c = f.causes in ((name_fits name).0 (unmet _ _ c.0), open_is.0 (c.1.0, c.1.1.0, c.1.1.1.0, f.room)),
      λ n. let o = open_is.1 n.1 in record { causes = (idle _ _ ((name_fits name).1 n.0), (o.0, (o.1, (o.2, tt)))); room = o.3 },
    )
