-- No cause holds exactly where what a call asks holds: the calls that write no records.
use Rattle.std.proofs.Common.{◌≡◌, ℕ, ◌+◌, ◌&&◌, Bool, true, false, cond, not, List, [], ◌∷◌, length, Some, None, nat_lt, ◌⊎◌, inl, inr, ◌↔◌, refl, sym}
use Rattle.std.specs.Option.{option_map_or}
use Rattle.std.proofs.lemmas.Bool.{and_from, and_parts, eqb-true, eq-eqb, true≢false}
use Rattle.forest_model.specs.Documents.{doc_at}
use Rattle.forest_model.specs.Limits.{any_worn}
use Rattle.forest_model.specs.Stores.{store_of}
use Rattle.forest_model.specs.State.{retained, nothing_new}
use Rattle.forest_model.specs.Blocks.{File, blocks_to_copy}
use Rattle.forest_model.specs.Step.{◌where_holds◌, is_at}
use Rattle.forest_model.specs.declared.call.StoreRef.{StoreRef}
use Rattle.forest_model.specs.declared.call.Call.{Call}
use Rattle.forest_model.specs.declared.call.Call.TheVariants.{Set, Delete, Batch, Get, BySeq, Info, Markers, StoreOpen, StoreRemove, Commit, Rollback, SnapLatest, SnapAt, Begin, Delta, Switch, Cancel}
use Rattle.forest_model.specs.declared.refusal.Refusal.{Refusal}
use Rattle.forest_model.specs.declared.refusal.Refusal.TheVariants.{FileFull, Worn}
use Rattle.forest_model.specs.declared.state.State.{State}
use Rattle.model_laws.specs.Answered.{NoCause, IsNothingNew, MayDraw, TakesBlocks}
use Rattle.model_laws.proofs.Conditions.{idle, key_fits, draws_one, draws_two, draws_three, some_is, there_is, numbered_is, some_at_seq, ticket_runs, nothing_copied, none_left, room_is, is_new}
use Rattle.model_laws.proofs.Free.{IsFree}
use Rattle.model_laws.proofs.FreeWrites.{free_set, free_delete, free_batch, free_open, free_remove}
use Rattle.model_laws.proofs.Numbered.{seq_is}
use Rattle.model_laws.proofs.Steps.{unmet}

-- numbers are drawn only where something would change
draws_or : (At : Type 0) (b : Bool) → (b ≡ true → At) × (At → b ≡ true) → (ns : List ℕ) (Draws : Type 0) → (any_worn ns ≡ false) ↔ Draws
    → ((Worn where_holds (not b && any_worn ns)) ≡ None) ↔ (At ⊎ Draws)
draws_or At true at ns Draws d = (λ e. inl (at.0 refl), λ h. refl)
draws_or At false at ns Draws d = (
  λ e. inr (d.0 (unmet _ _ e)),
  λ h. elim h [ inl a ↦ absurd (true≢false (sym (at.1 a))) | inr n ↦ idle _ _ (d.1 n) ],
)

pub is_at_means : (s : State) (number : ℕ) → (is_at s number ≡ true → (number ≡ s.last.number) × IsNothingNew s) × ((number ≡ s.last.number) × IsNothingNew s → is_at s number ≡ true)
is_at_means s number = (
  λ e. let p = and_parts _ (nothing_new s) e in (eqb-true number s.last.number p.0, (is_new s).0 p.1),
  λ h. and_from _ _ (eq-eqb number s.last.number h.0) ((is_new s).1 h.1),
)

-- a rollback draws a place and copies blocks only where something would change
rolls : (s : State) (file : File) (number : ℕ) (full : ℕ → Refusal) (At : Type 0) (b : Bool) → (b ≡ true → At) × (At → b ≡ true)
    → (((Worn where_holds (not b && any_worn ((s.place + 1) ∷ []))) ≡ None)
    × (option_map_or (λ n. full n where_holds nat_lt s.limits.max_blocks (length file + n + 2)) (cond b None (Some (blocks_to_copy file number))) None ≡ None))
    ↔ (At ⊎ (MayDraw (s.place + 1) × TakesBlocks s file (blocks_to_copy file number)))
rolls s file number full At true at = (λ c. inl (at.0 refl), λ h. (refl, refl))
rolls s file number full At false at =
    let room = room_is (full (blocks_to_copy file number)) s.limits.max_blocks (length file + blocks_to_copy file number + 2) in (
      λ c. inr ((draws_one (s.place + 1)).0 (unmet _ _ c.0), room.0 c.1),
      λ h. elim h [ inl a ↦ absurd (true≢false (sym (at.1 a))) | inr n ↦ (idle _ _ ((draws_one (s.place + 1)).1 n.0), room.1 n.1) ],
    )

free_rollback : (s : State) (file : File) (at : StoreRef) (number : ℕ) → IsFree s file (Rollback at number) ↔ NoCause s file (Rollback at number)
free_rollback s file at number =
    let change = rolls s file number (λ n. FileFull (length file) n s.limits.max_blocks) _ (is_at s number) (is_at_means s number) in (
      λ f. let c = f.causes in
          (unmet _ _ c.0, (numbered_is number (retained s)).0 (unmet _ _ c.1.1.0), (nothing_copied s.copying).0 (unmet _ _ c.1.1.1.0), change.0 (c.1.0, f.room)),
      λ n. let r = change.1 n.3 in
          record { causes = (idle _ _ n.0, (r.0, (idle _ _ ((numbered_is number (retained s)).1 n.1), (idle _ _ ((nothing_copied s.copying).1 n.2), tt)))); room = r.1 },
    )

free_commit : (s : State) (file : File) (at : StoreRef) → IsFree s file (Commit at) ↔ NoCause s file (Commit at)
free_commit s file at =
    let change = draws_or (IsNothingNew s) (nothing_new s) (is_new s) (s.next_commit ∷ (s.place + 1) ∷ []) _ (draws_two s.next_commit (s.place + 1)) in (
      λ f. (unmet _ _ f.causes.0, change.0 f.causes.1.0),
      λ n. record { causes = (idle _ _ n.0, (change.1 n.1, tt)); room = refl },
    )

pub free_is : (s : State) (file : File) (call : Call) → IsFree s file call ↔ NoCause s file call
free_is s file (Set at key meta body) = free_set s file at key meta body
free_is s file (Delete at key) = free_delete s file at key
free_is s file (Batch at items) = free_batch s file at items
free_is s file (Get at key) =
    let there = there_is (store_of s.stores at.store) in
    let found = some_is (doc_at s.documents at.store key) in (
      λ f. let c = f.causes in ((key_fits key).0 (unmet _ _ c.0), there.0 (unmet _ _ c.1.0), found.0 (unmet _ _ c.1.1.0)),
      λ n. record { causes = (idle _ _ ((key_fits key).1 n.0), (idle _ _ (there.1 n.1), (idle _ _ (found.1 n.2), tt))); room = refl },
    )
free_is s file (BySeq at seq) =
    let there = there_is (store_of s.stores at.store) in
    let found = seq_is s.documents at.store seq in (
      λ f. let c = f.causes in (there.0 (unmet _ _ c.0), found.0 (unmet _ _ c.1.0)),
      λ n. record { causes = (idle _ _ (there.1 n.0), (idle _ _ (found.1 n.1), tt)); room = refl },
    )
free_is s file (Info at) =
    let there = there_is (store_of s.stores at.store) in (λ f. there.0 (unmet _ _ f.causes.0), λ n. record { causes = (idle _ _ (there.1 n), tt); room = refl })
free_is s file Markers = (λ f. tt, λ n. record { causes = tt; room = refl })
free_is s file (StoreOpen name read_only) = free_open s file name read_only
free_is s file (StoreRemove at name) = free_remove s file at name
free_is s file (Commit at) = free_commit s file at
free_is s file (Rollback at number) = free_rollback s file at number
free_is s file SnapLatest = (λ f. tt, λ n. record { causes = tt; room = refl })
free_is s file (SnapAt at seq) =
    let there = there_is (store_of s.stores at.store) in
    let found = some_at_seq at.store seq (retained s) in (
      λ f. let c = f.causes in (there.0 (unmet _ _ c.0), found.0 (unmet _ _ c.1.0)),
      λ n. record { causes = (idle _ _ (there.1 n.0), (idle _ _ (found.1 n.1), tt)); room = refl },
    )
free_is s file (Begin at) =
    let draws = draws_three s.next_ticket (s.revision + 1) (s.place + 1) in (
      λ f. let c = f.causes in let d = draws.0 (unmet _ _ c.1.0) in (unmet _ _ c.0, d.0, d.1, d.2, (nothing_copied s.copying).0 (unmet _ _ c.1.1.0)),
      λ n. record { causes = (idle _ _ n.0, (idle _ _ (draws.1 (n.1, n.2, n.3)), (idle _ _ ((nothing_copied s.copying).1 n.4), tt))); room = refl },
    )
free_is s file (Delta ticket left) =
    let runs = ticket_runs s.copying ticket in (
      λ f. let c = f.causes in (runs.0 (unmet _ _ c.0), (none_left left).0 (unmet _ _ c.1.0)),
      λ n. record { causes = (idle _ _ (runs.1 n.0), (idle _ _ ((none_left left).1 n.1), tt)); room = refl },
    )
free_is s file (Switch at ticket left) =
    let draws = draws_three (s.revision + 1) (s.generation + 1) (s.place + 1) in
    let runs = ticket_runs s.copying ticket in (
      λ f.
          let c = f.causes in
          let d = draws.0 (unmet _ _ c.1.0) in
          (unmet _ _ c.0, d.0, d.1, d.2, runs.0 (unmet _ _ c.1.1.0), (none_left left).0 (unmet _ _ c.1.1.1.0)),
      λ n. record { causes = (idle _ _ n.0, (idle _ _ (draws.1 (n.1, n.2, n.3)), (idle _ _ (runs.1 n.4), (idle _ _ ((none_left left).1 n.5), tt)))); room = refl },
    )
free_is s file (Cancel at ticket) =
    let runs = ticket_runs s.copying ticket in (
      λ f. let c = f.causes in (unmet _ _ c.0, (draws_one (s.place + 1)).0 (unmet _ _ c.1.0), runs.0 (unmet _ _ c.1.1.0)),
      λ n. record { causes = (idle _ _ n.0, (idle _ _ ((draws_one (s.place + 1)).1 n.1), (idle _ _ (runs.1 n.2), tt))); room = refl },
    )
