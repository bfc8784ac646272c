-- The causes of the opening of a store by what is in memory are those of the step.
use Rattle.std.proofs.Common.{◌≡◌, ℕ, ◌+◌, ◌/◌, Bool, List, [], ◌∷◌, ◌++◌, length, Option, Some, None, refl, sym, ap, ◌∙◌}
use Rattle.std.specs.Prelude.{is_none, nat_le, nat_lt, not, ◌&&◌, if◌then◌else◌}
use Rattle.std.specs.Option.{option_map, option_map_or}
use Rattle.std.proofs.lemmas.List.{length-map}
use Rattle.block_host.specs.Disk.{Disk}
use Rattle.block_host.specs.declared.block.Block.{Block}
use Rattle.forest_model.specs.Blocks.{File}
use Rattle.forest_model.specs.Documents.{Map}
use Rattle.forest_model.specs.Limits.{is_name, any_worn}
use Rattle.forest_model.specs.Stores.{store_named}
use Rattle.forest_model.specs.Step.{◌where_holds◌, first_cause, causes, full, record_length, step_of, answer}
use Rattle.forest_model.specs.declared.call.Call.TheVariants as calls
use Rattle.forest_model.specs.declared.call.Reply.TheVariants.{Refused}
use Rattle.forest_model.specs.declared.refusal.Refusal.{Refusal}
use Rattle.forest_model.specs.declared.refusal.Refusal.TheVariants.{NameForm, NoStore, Worn, StoreCount, FileFull}
use Rattle.forest_model.specs.declared.state.State.{State}
use Rattle.forest_model.specs.declared.state.Store.{Store}
use Rattle.kvs_names.specs.Table.{row_named}
use Rattle.file_parts.specs.Held.{Held}
use Rattle.file_core.specs.Stands.{Stands, row_in}
use Rattle.file_parts.specs.Causes.{blocks_needed}
use Rattle.file_stores.specs.StoreChanges.{id_named, make_causes, open_causes}
use Rattle.file_core.proofs.SetCauses.{refused_first, answered_last}
use Rattle.file_core.proofs.StoreTables.{named_found}

first_of_first : (o : Option Refusal) → first_cause (o ∷ []) ≡ o
first_of_first None = refl
first_of_first (Some why) = refl

same_id : (m : Map) (o : Option Store) → option_map (λ r. r.id) (option_map (row_in m) o) ≡ option_map (λ s. s.id) o
same_id m None = refl
same_id m (Some s) = refl

-- a store that is there is always opened
abbrev if_absent : Option Store → Option Refusal → (Bool × Bool × Bool) → (ℕ → Option Refusal) → ℕ → List (Option Refusal)
if_absent o name b full needed =
    name ∷ (NoStore where_holds (is_none o && b.0)) ∷ (Worn where_holds (is_none o && b.1)) ∷ (StoreCount where_holds (is_none o && b.2))
    ∷ option_map_or full (if is_none o then Some needed else None) None ∷ []

in_order : (o : Option Store) (name : Option Refusal) (b : Bool × Bool × Bool) (full : ℕ → Option Refusal) (needed : ℕ)
    → first_cause (name ∷ option_map_or (λ id. None) (option_map (λ s. s.id) o) (first_cause ((NoStore where_holds b.0) ∷ (Worn where_holds b.1) ∷ (StoreCount where_holds b.2) ∷ full needed ∷ [])) ∷ [])
    ≡ first_cause (if_absent o name b full needed)
in_order o (Some why) b full needed = refl
in_order None None b full needed = first_of_first _
in_order (Some s) None b full needed = refl

module _ (told : Bool) (p : Held) (disk : Disk) (file : List Block) (s : State) (f : File) (name : List ℕ) (read_only : Bool) (stands : Stands told p disk file s) (is_long : length f ≡ p.blocks) where
  pub id_is : id_named p.names name ≡ option_map (λ st. st.id) (store_named s.stores name)
  id_is = ap (λ rows. option_map (λ r. r.id) (row_named rows name)) stands.rows ∙ ap (option_map (λ r. r.id)) (named_found s.documents s.stores name) ∙ same_id s.documents (store_named s.stores name)

  rows_long : length p.names.rows ≡ length s.stores
  rows_long = ap length stands.rows ∙ length-map s.stores (row_in s.documents)

  needed_is : blocks_needed p name [] [] ≡ (s.loose + record_length name [] []) / 4064
  needed_is = ap (λ n. (n + record_length name [] []) / 4064) stands.open_block

  abbrev full_for : ℕ → Option Refusal
  full_for n = FileFull (length f) n s.limits.max_blocks where_holds nat_lt s.limits.max_blocks (length f + n + 2)

  makes : make_causes p name read_only ≡ (NoStore where_holds read_only) ∷ (Worn where_holds any_worn (s.next_store ∷ (s.place + 1) ∷ []))
      ∷ (StoreCount where_holds nat_le 64 (length s.stores)) ∷ full_for ((s.loose + record_length name [] []) / 4064) ∷ []
  makes = λ i.
      (NoStore where_holds read_only) ∷ (Worn where_holds any_worn (stands.next_store i ∷ (stands.place i + 1) ∷ []))
      ∷ (StoreCount where_holds nat_le 64 (rows_long i))
      ∷ (FileFull (sym is_long i) (needed_is i) (stands.limits i).max_blocks where_holds nat_lt (stands.limits i).max_blocks (sym is_long i + needed_is i + 2)) ∷ []

  same_cause : first_cause (open_causes p name read_only) ≡ first_cause (causes s (calls.StoreOpen name read_only) ++ full s f (calls.StoreOpen name read_only) ∷ [])
  same_cause =
      (λ i. first_cause ((NameForm where_holds not (is_name name)) ∷ option_map_or (λ id. None) (id_is i) (first_cause (makes i)) ∷ []))
      ∙ in_order (store_named s.stores name) (NameForm where_holds not (is_name name)) (read_only, any_worn (s.next_store ∷ (s.place + 1) ∷ []), nat_le 64 (length s.stores)) full_for ((s.loose + record_length name [] []) / 4064)

  pub open_refused : (why : Refusal) → first_cause (open_causes p name read_only) ≡ Some why → step_of s f (calls.StoreOpen name read_only) ≡ (Refused why, s)
  open_refused why e =
      refused_first (causes s (calls.StoreOpen name read_only)) (full s f (calls.StoreOpen name read_only)) s (answer s (calls.StoreOpen name read_only)) why (sym same_cause ∙ e)

  pub open_answered : first_cause (open_causes p name read_only) ≡ None → step_of s f (calls.StoreOpen name read_only) ≡ answer s (calls.StoreOpen name read_only)
  open_answered e =
      answered_last (causes s (calls.StoreOpen name read_only)) (full s f (calls.StoreOpen name read_only)) s (answer s (calls.StoreOpen name read_only)) (sym same_cause ∙ e)
