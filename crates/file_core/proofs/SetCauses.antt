-- The causes of a set by what is in memory are those of the step.
use Rattle.std.proofs.Common.{◌≡◌, ℕ, ◌+◌, ◌/◌, Bool, true, false, List, [], ◌∷◌, ◌++◌, length, Option, Some, None, refl, sym, ap, ◌∙◌}
use Rattle.std.specs.Prelude.{is_none, nat_lt}
use Rattle.std.specs.Option.{option_map, option_map_or}
use Rattle.std.proofs.lemmas.Option.{same_Some, none-some}
use Rattle.block_host.specs.Disk.{Disk}
use Rattle.block_host.specs.declared.block.Block.{Block}
use Rattle.forest_model.specs.Blocks.{File}
use Rattle.forest_model.specs.Limits.{is_wrong_key, is_wrong_body, any_worn}
use Rattle.forest_model.specs.Documents.{Map, count_of}
use Rattle.forest_model.specs.Stores.{store_of, seq_of}
use Rattle.forest_model.specs.Step.{Outcome, ◌where_holds◌, first_cause, refused_or, causes, full, record_length, step_of, answer}
use Rattle.forest_model.specs.declared.call.StoreRef.{StoreRef}
use Rattle.forest_model.specs.declared.call.Call.TheVariants as calls
use Rattle.forest_model.specs.declared.call.Reply.TheVariants.{Refused}
use Rattle.forest_model.specs.declared.refusal.Refusal.{Refusal}
use Rattle.forest_model.specs.declared.refusal.Refusal.TheVariants.{ReadOnly, KeyLength, BodyLength, NoStore, Worn, FileFull}
use Rattle.forest_model.specs.declared.state.State.{State}
use Rattle.forest_model.specs.declared.state.Store.{Store}
use Rattle.kvs_names.specs.Table.{row_with_id}
use Rattle.file_parts.specs.Held.{Held}
use Rattle.file_core.specs.Stands.{Stands, row_in}
use Rattle.file_parts.specs.Causes.{seq_in, documents_in, blocks_needed}
use Rattle.file_documents.specs.Setting.{set_causes}
use Rattle.file_core.proofs.StoreRows.{row_found, found_id}

-- ---- causes one after another

pub refused_first : (cs : List (Option Refusal)) (o : Option Refusal) (s : State) (out : Outcome) (why : Refusal) → first_cause (cs ++ o ∷ []) ≡ Some why
    → refused_or (first_cause cs) s (refused_or o s out) ≡ (Refused why, s)
refused_first [] None s out why e = absurd (none-some why e)
refused_first [] (Some other) s out why e = ap (λ (w : Refusal). (Refused w, s)) (same_Some other why e)
refused_first (None ∷ cs) o s out why e = refused_first cs o s out why e
refused_first (Some other ∷ cs) o s out why e = ap (λ (w : Refusal). (Refused w, s)) (same_Some other why e)

pub answered_last : (cs : List (Option Refusal)) (o : Option Refusal) (s : State) (out : Outcome) → first_cause (cs ++ o ∷ []) ≡ None
    → refused_or (first_cause cs) s (refused_or o s out) ≡ out
answered_last [] None s out e = refl
answered_last [] (Some other) s out e = absurd (none-some other (sym e))
answered_last (None ∷ cs) o s out e = answered_last cs o s out e
answered_last (Some other ∷ cs) o s out e = absurd (none-some other (sym e))

abbrev pub NoneHolds : List (Option Refusal) → Type 0
NoneHolds [] = Unit {0}
NoneHolds (cause ∷ causes) = (cause ≡ None) × NoneHolds causes

pub none_holds : (causes : List (Option Refusal)) → first_cause causes ≡ None → NoneHolds causes
none_holds [] e = tt
none_holds (None ∷ causes) e = (refl, none_holds causes e)
none_holds (Some why ∷ causes) e = absurd (none-some why (sym e))

pub unmet : (why : Refusal) (b : Bool) → (why where_holds b) ≡ None → b ≡ false
unmet why true e = absurd (none-some why (sym e))
unmet why false e = refl

-- ---- a set

gone_too : (m : Map) (o : Option Store) → is_none (option_map (row_in m) o) ≡ is_none o
gone_too m None = refl
gone_too m (Some s) = refl

same_seq : (m : Map) (o : Option Store) → option_map_or (λ r. r.seq) (option_map (row_in m) o) 0 ≡ option_map_or (λ s. s.seq) o 0
same_seq m None = refl
same_seq m (Some s) = refl

module _ (told : Bool) (p : Held) (disk : Disk) (file : List Block) (s : State) (f : File) (at : StoreRef) (key meta body : List ℕ) (stands : Stands told p disk file s) (is_long : length f ≡ p.blocks) where
  row_is : row_with_id p.names.rows at.store ≡ option_map (row_in s.documents) (store_of s.stores at.store)
  row_is = ap (λ rows. row_with_id rows at.store) stands.rows ∙ row_found s.documents s.stores at.store

  pub gone_is : is_none (row_with_id p.names.rows at.store) ≡ is_none (store_of s.stores at.store)
  gone_is = ap is_none row_is ∙ gone_too s.documents (store_of s.stores at.store)

  pub seq_is : seq_in p.names.rows at.store ≡ seq_of s.stores at.store
  seq_is = ap (λ o. option_map_or (λ r. r.seq) o 0) row_is ∙ same_seq s.documents (store_of s.stores at.store)

  pub documents_is : (st : Store) → store_of s.stores at.store ≡ Some st → documents_in p.names.rows at.store ≡ count_of s.documents at.store
  documents_is st found =
      ap (λ o. option_map_or (λ r. r.documents) o 0) (row_is ∙ ap (option_map (row_in s.documents)) found) ∙ ap (count_of s.documents) (found_id s.stores at.store st found)

  pub needed_is : blocks_needed p key meta body ≡ (s.loose + record_length key meta body) / 4064
  needed_is = ap (λ n. (n + record_length key meta body) / 4064) stands.open_block

  causes_are : set_causes p at key meta body ≡ causes s (calls.Set at key meta body) ++ full s f (calls.Set at key meta body) ∷ []
  causes_are = λ i.
      (ReadOnly where_holds at.read_only) ∷ (KeyLength where_holds is_wrong_key key) ∷ (BodyLength where_holds is_wrong_body meta body)
      ∷ (NoStore where_holds gone_is i)
      ∷ (Worn where_holds any_worn ((seq_is i + 1) ∷ (stands.place i + 1) ∷ []))
      ∷ (FileFull (sym is_long i) (needed_is i) (stands.limits i).max_blocks where_holds nat_lt (stands.limits i).max_blocks (sym is_long i + needed_is i + 2)) ∷ []

  pub step_refused : (why : Refusal) → first_cause (set_causes p at key meta body) ≡ Some why → step_of s f (calls.Set at key meta body) ≡ (Refused why, s)
  step_refused why e =
      refused_first (causes s (calls.Set at key meta body)) (full s f (calls.Set at key meta body)) s (answer s (calls.Set at key meta body)) why (ap first_cause (sym causes_are) ∙ e)

  pub step_answered : first_cause (set_causes p at key meta body) ≡ None → step_of s f (calls.Set at key meta body) ≡ answer s (calls.Set at key meta body)
  step_answered e =
      answered_last (causes s (calls.Set at key meta body)) (full s f (calls.Set at key meta body)) s (answer s (calls.Set at key meta body)) (ap first_cause (sym causes_are) ∙ e)
