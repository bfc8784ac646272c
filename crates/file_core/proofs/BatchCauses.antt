-- The causes of a batch by what is in memory are those of the step.
use Rattle.std.proofs.Common.{◌≡◌, ℕ, ◌+◌, ◌/◌, Bool, true, false, not, List, [], ◌∷◌, ◌++◌, length, Some, None, refl, sym, ap, ◌∙◌}
use Rattle.std.specs.Prelude.{◌&&◌, ◌||◌, is_none, is_some, nat_eq, nat_lt, sum_by, if◌then◌else◌}
use Rattle.std.specs.Cmp.Lexicographic.{pointwise, same_text, other_text}
use Rattle.std.specs.FinMap as finite
use Rattle.std.specs.List.{list_any}
use Rattle.block_host.specs.Disk.{Disk}
use Rattle.block_host.specs.declared.block.Block.{Block}
use Rattle.forest_model.specs.Blocks.{File}
use Rattle.forest_model.specs.Documents.{Map, key_at, doc_of, doc_at, after_items}
use Rattle.forest_model.specs.Limits.{has_wrong_key, has_wrong_body, any_worn}
use Rattle.forest_model.specs.Stores.{seq_of}
use Rattle.forest_model.specs.Step.{◌where_holds◌, first_cause, causes, full, item_length, step_of, answer}
use Rattle.forest_model.specs.declared.call.Call.TheVariants as calls
use Rattle.forest_model.specs.declared.call.Item.{Item}
use Rattle.forest_model.specs.declared.call.Item.TheVariants.{Put, Del}
use Rattle.forest_model.specs.declared.call.Reply.TheVariants.{Refused}
use Rattle.forest_model.specs.declared.call.StoreRef.{StoreRef}
use Rattle.forest_model.specs.declared.documents.DocKey.{DocKey}
use Rattle.forest_model.specs.declared.documents.Doc.{Doc}
use Rattle.forest_model.specs.declared.refusal.Refusal.{Refusal}
use Rattle.forest_model.specs.declared.refusal.Refusal.TheVariants.{ReadOnly, KeyLength, BodyLength, NoStore, Worn, NotFound, FileFull}
use Rattle.forest_model.specs.declared.state.State.{State}
use Rattle.wal_index.specs.Index.{Map as Entries}
use Rattle.file_parts.specs.Held.{Held}
use Rattle.file_core.specs.Stands.{Stands}
use Rattle.file_documents.specs.Setting.{is_live}
use Rattle.file_documents.specs.Batching.{lives_behind, misses, batch_needed, batch_causes}
use Rattle.file_core.proofs.Deleted.{living_is}
use Rattle.file_core.proofs.Inserted.{got_own, got_other}
use Rattle.file_core.proofs.Removed.{removed_own, removed_other}
use Rattle.file_core.proofs.SetCauses.{refused_first, answered_last, gone_is, seq_is}

-- ---- which keys have a document

-- whether a key has a document behind one item
abbrev lives_with : Item → List ℕ → Bool → Bool
lives_with (Put k meta body) key before = pointwise nat_eq k key || before
lives_with (Del k) key before = not (pointwise nat_eq k key) && before

lives_last : (front : List Item) (item : Item) (key : List ℕ) (before : Bool) → lives_behind (front ++ item ∷ []) key before ≡ lives_with item key (lives_behind front key before)
lives_last [] (Put k meta body) key before = refl
lives_last [] (Del k) key before = refl
lives_last (Put k meta body ∷ front) item key before = lives_last front item key (pointwise nat_eq k key || before)
lives_last (Del k ∷ front) item key before = lives_last front item key (not (pointwise nat_eq k key) && before)

lives_put : (m : Map) (store : ℕ) (k key : List ℕ) (d : Doc) → is_some (doc_at (finite.insert m (key_at store k) d) store key) ≡ (pointwise nat_eq k key || is_some (doc_at m store key))
lives_put m store k key d = by (pointwise nat_eq k key) refl where
  by : (b : Bool) → pointwise nat_eq k key ≡ b → is_some (doc_at (finite.insert m (key_at store k) d) store key) ≡ (b || is_some (doc_at m store key))
  by true same =
      ap (λ (q : List ℕ). is_some (doc_at (finite.insert m (key_at store k) d) store q)) (sym (same_text k key (sym same))) ∙ ap is_some (got_own m (key_at store k) d)
  by false other = ap is_some (got_other m (key_at store k) (key_at store key) d (λ own. other_text k key (sym other) (sym (ap (λ (x : DocKey). x.key) own))))

lives_deleted : (m : Map) (store : ℕ) (k key : List ℕ) → is_some (doc_at (finite.remove m (key_at store k)) store key) ≡ (not (pointwise nat_eq k key) && is_some (doc_at m store key))
lives_deleted m store k key = by (pointwise nat_eq k key) refl where
  by : (b : Bool) → pointwise nat_eq k key ≡ b → is_some (doc_at (finite.remove m (key_at store k)) store key) ≡ (not b && is_some (doc_at m store key))
  by true same =
      ap (λ (q : List ℕ). is_some (doc_at (finite.remove m (key_at store k)) store q)) (sym (same_text k key (sym same))) ∙ ap is_some (removed_own m (key_at store k))
  by false other = ap is_some (removed_other m (key_at store k) (key_at store key) (λ own. other_text k key (sym other) (sym (ap (λ (x : DocKey). x.key) own))))

pub misses_is : (entries : Entries) (store : ℕ) (items front : List Item) (seq : ℕ) (m : Map) → ((key : List ℕ) → lives_behind front key (is_live (finite.get entries (key_at store key))) ≡ is_some (doc_at m store key))
    → misses entries store front items ≡ is_none (after_items store items seq m)
misses_is entries store [] front seq m lives = refl
misses_is entries store (Put k meta body ∷ items) front seq m lives =
    misses_is entries store items (front ++ Put k meta body ∷ []) (seq + 1) (finite.insert m (key_at store k) (doc_of (seq + 1) meta body)) (λ key.
    lives_last front (Put k meta body) key (is_live (finite.get entries (key_at store key))) ∙ ap (λ b. pointwise nat_eq k key || b) (lives key)
    ∙ sym (lives_put m store k key (doc_of (seq + 1) meta body)))
misses_is entries store (Del k ∷ items) front seq m lives =
    ap (λ b. not b || misses entries store (front ++ Del k ∷ []) items) (lives k)
    ∙ by (is_some (doc_at m store k)) (misses_is entries store items (front ++ Del k ∷ []) (seq + 1) (finite.remove m (key_at store k)) (λ key.
    lives_last front (Del k) key (is_live (finite.get entries (key_at store key))) ∙ ap (λ b. not (pointwise nat_eq k key) && b) (lives key) ∙ sym (lives_deleted m store k key))) where
      by : (b : Bool) → misses entries store (front ++ Del k ∷ []) items ≡ is_none (after_items store items (seq + 1) (finite.remove m (key_at store k)))
          → (not b || misses entries store (front ++ Del k ∷ []) items) ≡ is_none (if b then after_items store items (seq + 1) (finite.remove m (key_at store k)) else None)
      by true later = later
      by false later = refl

-- ---- why it is refused

module _ (told : Bool) (p : Held) (disk : Disk) (file : List Block) (s : State) (f : File) (at : StoreRef) (items : List Item) (stands : Stands told p disk file s) (is_long : length f ≡ p.blocks) where
  pub misses_too : misses p.wal.entries at.store [] items ≡ is_none (after_items at.store items (seq_of s.stores at.store) s.documents)
  misses_too = misses_is p.wal.entries at.store items [] (seq_of s.stores at.store) s.documents (λ key. living_is told p disk file s f at key stands is_long)

  needed_too : batch_needed p items ≡ (s.loose + sum_by item_length items) / 4064
  needed_too = ap (λ n. (n + sum_by item_length items) / 4064) stands.open_block

  causes_are : batch_causes p at items ≡ causes s (calls.Batch at items) ++ full s f (calls.Batch at items) ∷ []
  causes_are = λ i.
      (ReadOnly where_holds at.read_only) ∷ (KeyLength where_holds list_any has_wrong_key items) ∷ (BodyLength where_holds list_any has_wrong_body items)
      ∷ (NoStore where_holds gone_is told p disk file s f at [] [] [] stands is_long i)
      ∷ (Worn where_holds any_worn ((seq_is told p disk file s f at [] [] [] stands is_long i + length items) ∷ (stands.place i + 1) ∷ []))
      ∷ (NotFound where_holds misses_too i)
      ∷ (FileFull (sym is_long i) (needed_too i) (stands.limits i).max_blocks where_holds nat_lt (stands.limits i).max_blocks (sym is_long i + needed_too i + 2)) ∷ []

  pub batch_refused : (why : Refusal) → first_cause (batch_causes p at items) ≡ Some why → step_of s f (calls.Batch at items) ≡ (Refused why, s)
  batch_refused why e =
      refused_first (causes s (calls.Batch at items)) (full s f (calls.Batch at items)) s (answer s (calls.Batch at items)) why (ap first_cause (sym causes_are) ∙ e)

  pub batch_answered : first_cause (batch_causes p at items) ≡ None → step_of s f (calls.Batch at items) ≡ answer s (calls.Batch at items)
  batch_answered e =
      answered_last (causes s (calls.Batch at items)) (full s f (calls.Batch at items)) s (answer s (calls.Batch at items)) (ap first_cause (sym causes_are) ∙ e)
