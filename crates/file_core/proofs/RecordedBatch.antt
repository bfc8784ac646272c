-- What the records of a batch make, put one behind another.
use Rattle.std.proofs.Common.{◌≡◌, ℕ, ◌+◌, ◌≤◌, ◌<◌, List, [], ◌∷◌, length, Some, refl, sym, ap, subst, ◌∙◌, arith}
use Rattle.std.specs.FinMap as finite
use Rattle.std.proofs.lemmas.Option.{same_Some}
use Rattle.block_host.specs.declared.block.Block.{Block}
use Rattle.forest_model.specs.Documents.{Map, key_at, doc_of, after_items}
use Rattle.forest_model.specs.Stores.{store_of, with_seq}
use Rattle.forest_model.specs.declared.call.Item.{Item}
use Rattle.forest_model.specs.declared.call.Item.TheVariants.{Put, Del}
use Rattle.forest_model.specs.declared.state.Store.{Store}
use Rattle.file_documents.specs.Batching.{Turn, PutsItem, PutsEach}
use Rattle.file_documents.specs.Deleting.{deletion_of}
use Rattle.file_documents.specs.Setting.{put_of}
use Rattle.file_core.proofs.BatchTurns.{when_there, found_at_seq, with_seq_twice}
use Rattle.file_core.proofs.RecordedMore.{PutScans, Told, More, more_then, drawn_more}

abbrev told_at : ℕ → List Store → Map → Told
told_at next stores m = record { next = next; stores = stores; documents = m }

module _ (scans : PutScans) (revision store next : ℕ) (low : store < next) where
  -- the record of one item
  first_more : (item : Item) (items : List Item) (a b : Turn) (file between : List Block) (stores : List Store) (st : Store) (m : Map) (last : ℕ × Map) → store_of stores store ≡ Some st → st.seq ≡ a.seq
      → after_items store (item ∷ items) a.seq m ≡ Some last → PutsItem revision store item a b file between
      → (left : Map) × (after_items store items (a.seq + 1) left ≡ Some last) × More revision a.tail b.tail file between (told_at next stores m) (told_at next (with_seq stores store (a.seq + 1)) left)
  first_more (Put key meta body) items a b file between stores st m last found level goes puts =
      let k = key_at store key in
      let d = doc_of (a.seq + 1) meta body in (
        finite.insert m k d,
        goes,
        drawn_more scans (put_of k d) puts.is_record puts.put next stores m (finite.insert m k d) st refl found (omega (arith, level)) low (λ t same. ap (λ (x : Map). finite.insert x k d) same) refl,
      )
  first_more (Del key) items a b file between stores st m last found level goes puts =
      let k = key_at store key in (
        finite.remove m k,
        (when_there (finite.contains_key m k) (after_items store items (a.seq + 1) (finite.remove m k)) last goes).1,
        drawn_more scans (deletion_of k (a.seq + 1)) puts.is_record puts.put next stores m (finite.remove m k) st refl found (omega (arith, level)) low (λ t same. ap (λ (x : Map). finite.remove x k) same) refl,
      )

  -- those of all items, of which there is one
  each_more : (item : Item) (items : List Item) (a c : Turn) (file after : List Block) (stores : List Store) (st : Store) (m : Map) (last : ℕ × Map) → store_of stores store ≡ Some st → st.seq ≡ a.seq
      → after_items store (item ∷ items) a.seq m ≡ Some last → PutsEach revision store (item ∷ items) a c file after
      → More revision a.tail c.tail file after (told_at next stores m) (told_at next (with_seq stores store last.0) last.1)
  each_more item [] a c file after stores st m last found level goes puts =
      let first = first_more item [] a puts.0 file puts.1 stores st m last found level goes puts.2 in
      let same = same_Some (a.seq + 1, first.0) last first.1 in
      subst (λ (x : ℕ × Map). More revision a.tail c.tail file after (told_at next stores m) (told_at next (with_seq stores store x.0) x.1)) same
      (subst (λ (t : Turn). More revision a.tail t.tail file after (told_at next stores m) (told_at next (with_seq stores store (a.seq + 1)) first.0)) (sym puts.3.0)
      (subst (λ (bs : List Block). More revision a.tail puts.0.tail file bs (told_at next stores m) (told_at next (with_seq stores store (a.seq + 1)) first.0)) (sym puts.3.1) first.2))
  each_more item (other ∷ items) a c file after stores st m last found level goes puts =
      let first = first_more item (other ∷ items) a puts.0 file puts.1 stores st m last found level goes puts.2 in
      let later = each_more other items puts.0 c puts.1 after (with_seq stores store (a.seq + 1)) (record st { seq = a.seq + 1 }) first.0 last (found_at_seq stores store (a.seq + 1) st found) (sym puts.2.seq)
      (ap (λ (n : ℕ). after_items store (other ∷ items) n first.0) puts.2.seq ∙ first.1) puts.3 in
      more_then first.2
      (subst (λ (ss : List Store). More revision puts.0.tail c.tail puts.1 after (told_at next (with_seq stores store (a.seq + 1)) first.0) (told_at next ss last.1)) (with_seq_twice stores store (a.seq + 1) last.0) later)

  pub batch_more : (items : List Item) (a c : Turn) (file after : List Block) (stores : List Store) (st : Store) (m : Map) (last : ℕ × Map) → 1 ≤ length items → store_of stores store ≡ Some st → st.seq ≡ a.seq
      → after_items store items a.seq m ≡ Some last → PutsEach revision store items a c file after
      → More revision a.tail c.tail file after (told_at next stores m) (told_at next (with_seq stores store last.0) last.1)
  batch_more [] a c file after stores st m last some found level goes puts = absurd (omega (arith, some))
  batch_more (item ∷ items) a c file after stores st m last some found level goes puts = each_more item items a c file after stores st m last found level goes puts
