-- Each call's refusals come exactly by what it asks, in that order.
use Rattle.std.proofs.Common.{◌≡◌, ℕ, ◌+◌, ◌<◌, ◌&&◌, ◌||◌, Bool, false, not, List, [], ◌∷◌, length, Option, Some, None, nat_eq, nat_le, nat_lt, codes, ◌↔◌, refl, ap, subst}
use Rattle.std.specs.List.{find, list_any}
use Rattle.std.specs.Option.{is_none, is_some, option_map_or}
use Rattle.std.specs.Cmp.Lexicographic.{pointwise}
use Rattle.std.proofs.lemmas.Bool.{leb-false, lt-leb, true≢false}
use Rattle.forest_model.specs.Limits.{is_wrong_key, is_wrong_body, has_wrong_key, has_wrong_body, is_name, any_worn}
use Rattle.forest_model.specs.Documents.{doc_at, doc_numbered, after_items}
use Rattle.forest_model.specs.Stores.{store_of, store_named, seq_of, has_seq, from_number}
use Rattle.forest_model.specs.State.{retained, nothing_new}
use Rattle.forest_model.specs.Blocks.{File, blocks_to_copy}
use Rattle.forest_model.specs.Step.{Outcome, ◌where_holds◌, first_cause, refused_or, answer, is_at, is_other_ticket, ticket_of}
use Rattle.forest_model.specs.declared.call.StoreRef.{StoreRef}
use Rattle.forest_model.specs.declared.call.Item.{Item}
use Rattle.forest_model.specs.declared.call.Call.{Call}
use Rattle.forest_model.specs.declared.call.Call.TheVariants.{Set, Delete, Batch, Get, BySeq, Info, Markers, StoreOpen, StoreRemove, Commit, Rollback, SnapLatest, SnapAt, Begin, Delta, Switch, Cancel}
use Rattle.forest_model.specs.declared.call.Reply.TheVariants.{Refused}
use Rattle.forest_model.specs.declared.refusal.Refusal.{Refusal}
use Rattle.forest_model.specs.declared.refusal.Refusal.TheVariants.{NotFound, NoCommit, ReadOnly, KeyLength, BodyLength, Compacting, NoTicket, NoStore, StoreCount, NameForm, NotCopied, Worn}
use Rattle.forest_model.specs.declared.state.State.{State}
use Rattle.model_laws.specs.Laws.{reply_to}
use Rattle.model_laws.specs.Answered.{IsAnswered, HasName}
use Rattle.model_laws.specs.Reads.{shown_ticket}
use Rattle.model_laws.specs.Refusals.{Asks, IsThere, RefusedBy}
use Rattle.model_laws.proofs.AtTurn.{finds_each}
use Rattle.model_laws.proofs.Conditions.{key_fits, content_fits, draws_one, draws_two, draws_three, some_is, there_is, named_is, numbered_is, some_at_seq, ticket_runs, nothing_copied, none_left, name_fits, may_go, is_new, ticket_shown}
use Rattle.model_laws.proofs.FreeCalls.{is_at_means}
use Rattle.model_laws.proofs.FreeWrites.{key_bytes, bytes_of, keys_fit, contents_fit}
use Rattle.model_laws.proofs.Numbered.{seq_is}
use Rattle.model_laws.proofs.RefusedBy.{Refuses, asks, asks_room, copies_unless, room_unless, never, draws_there, unless, unless_so, itself}
use Rattle.model_laws.proofs.Steps.{by_option, by_test}

-- an option that is there gives an answer
found_answers : {X : Type 0} (f : X → Outcome) (o : Option X) (other : Outcome) → ((x : X) → IsAnswered (f x).0) → is_none o ≡ false → IsAnswered (option_map_or f o other).0
found_answers f None other h e = absurd (true≢false e)
found_answers f (Some x) other h e = h x

-- a ticket as it is told
no_ticket : (s : State) (ticket : ℕ) → NoTicket ticket (ticket_of s) ≡ NoTicket ticket (shown_ticket s.copying)
no_ticket s ticket = ap (NoTicket ticket) (ticket_shown s.copying)

-- the refusal as it is told, and the rest
asks_told : (r told : Refusal) (b : Bool) (causes : List (Option Refusal)) (P : Type 0) (why : Refusal) (s : State) (o : Outcome) (Rest : Type 0) → r ≡ told → (b ≡ false) ↔ P
    → (b ≡ false → Refuses (refused_or (first_cause causes) s o) why ↔ Rest) → Refuses (refused_or (first_cause ((r where_holds b) ∷ causes)) s o) why ↔ Asks P told why Rest
asks_told r told b causes P why s o Rest e is rest =
    subst (λ t. Refuses (refused_or (first_cause ((r where_holds b) ∷ causes)) s o) why ↔ Asks P t why Rest) e (asks r b causes P why s o Rest is rest)

refused_set : (s : State) (file : File) (at : StoreRef) (key meta body : List ℕ) (why : Refusal) → (reply_to s file (Set at key meta body) ≡ Refused why) ↔ RefusedBy s file (Set at key meta body) why
refused_set s file at key meta body why =
    let o = store_of s.stores at.store in
    asks ReadOnly at.read_only _ _ why s _ _ (itself at.read_only) (λ w.
    asks KeyLength (is_wrong_key key) _ _ why s _ _ (key_fits key) (λ k.
    asks BodyLength (is_wrong_body meta body) _ _ why s _ _ (content_fits meta body) (λ b.
    asks NoStore (is_none o) _ _ why s _ _ (there_is o) (λ there.
    asks Worn (any_worn ((seq_of s.stores at.store + 1) ∷ (s.place + 1) ∷ [])) [] _ why s _ _ (draws_there o 1 (s.place + 1) there) (λ d.
    asks_room s file _ _ why (answer s (Set at key meta body)) refl (λ w e. cc))))))

refused_delete : (s : State) (file : File) (at : StoreRef) (key : List ℕ) (why : Refusal) → (reply_to s file (Delete at key) ≡ Refused why) ↔ RefusedBy s file (Delete at key) why
refused_delete s file at key why =
    let o = store_of s.stores at.store in
    let doc = doc_at s.documents at.store key in
    asks ReadOnly at.read_only _ _ why s _ _ (itself at.read_only) (λ w.
    asks KeyLength (is_wrong_key key) _ _ why s _ _ (key_fits key) (λ k.
    asks NoStore (is_none o) _ _ why s _ _ (there_is o) (λ there.
    asks Worn (any_worn ((seq_of s.stores at.store + 1) ∷ (s.place + 1) ∷ [])) _ _ why s _ _ (draws_there o 1 (s.place + 1) there) (λ d.
    asks NotFound (is_none doc) [] _ why s _ _ (some_is doc) (λ f.
    asks_room s file _ _ why (answer s (Delete at key)) (key_bytes key) (λ w e. cc))))))

refused_batch : (s : State) (file : File) (at : StoreRef) (items : List Item) (why : Refusal) → (reply_to s file (Batch at items) ≡ Refused why) ↔ RefusedBy s file (Batch at items) why
refused_batch s file at items why =
    let o = store_of s.stores at.store in
    let seq = seq_of s.stores at.store in
    let after = after_items at.store items seq s.documents in
    asks ReadOnly at.read_only _ _ why s _ _ (itself at.read_only) (λ w.
    asks KeyLength (list_any has_wrong_key items) _ _ why s _ _ (keys_fit items) (λ k.
    asks BodyLength (list_any has_wrong_body items) _ _ why s _ _ (contents_fit items) (λ b.
    asks NoStore (is_none o) _ _ why s _ _ (there_is o) (λ there.
    asks Worn (any_worn ((seq + length items) ∷ (s.place + 1) ∷ [])) _ _ why s _ _ (draws_there o (length items) (s.place + 1) there) (λ d.
    asks NotFound (is_none after) [] _ why s _ _ (finds_each at.store items seq s.documents) (λ f.
    asks_room s file _ _ why (answer s (Batch at items)) (bytes_of items) (found_answers _ after _ (λ x w e. cc) f)))))))

refused_get : (s : State) (file : File) (at : StoreRef) (key : List ℕ) (why : Refusal) → (reply_to s file (Get at key) ≡ Refused why) ↔ RefusedBy s file (Get at key) why
refused_get s file at key why =
    let o = store_of s.stores at.store in
    let doc = doc_at s.documents at.store key in
    asks KeyLength (is_wrong_key key) _ _ why s _ _ (key_fits key) (λ k.
    asks NoStore (is_none o) _ _ why s _ _ (there_is o) (λ there.
    asks NotFound (is_none doc) [] _ why s _ _ (some_is doc) (λ f.
    never (answer s (Get at key)) why (found_answers _ doc _ (λ x w e. cc) f))))

refused_by_seq : (s : State) (file : File) (at : StoreRef) (seq : ℕ) (why : Refusal) → (reply_to s file (BySeq at seq) ≡ Refused why) ↔ RefusedBy s file (BySeq at seq) why
refused_by_seq s file at seq why =
    let o = store_of s.stores at.store in
    let doc = doc_numbered s.documents at.store seq in
    asks NoStore (is_none o) _ _ why s _ _ (there_is o) (λ there.
    asks NotFound (is_none doc) [] _ why s _ _ (seq_is s.documents at.store seq) (λ f.
    never (answer s (BySeq at seq)) why (found_answers _ doc _ (λ x w e. cc) f)))

refused_open : (s : State) (file : File) (name : List ℕ) (read_only : Bool) (why : Refusal) → (reply_to s file (StoreOpen name read_only) ≡ Refused why) ↔ RefusedBy s file (StoreOpen name read_only) why
refused_open s file name read_only why =
    let o = store_named s.stores name in
    let new = is_none o in
    let named = named_is name s.stores in
    let answers : IsAnswered (answer s (StoreOpen name read_only)).0 = by_option (λ x. IsAnswered x.0) _ o _ (λ x e w f. cc) (λ e w f. cc) in
    asks NameForm (not (is_name name)) _ _ why s _ _ (name_fits name) (λ n.
    asks NoStore (new && read_only) _ _ why s _ _ (unless new read_only _ _ named (itself read_only)) (λ r.
    asks Worn (new && any_worn (s.next_store ∷ (s.place + 1) ∷ [])) _ _ why s _ _ (unless new _ _ _ named (draws_two s.next_store (s.place + 1))) (λ d.
    asks StoreCount (new && nat_le 64 (length s.stores)) [] _ why s _ _ (unless new _ _ _ named (few (length s.stores))) (λ c.
    room_unless s file (24 + length name + 0 + 0) (24 + length name) why new (HasName name s.stores) named (answer s (StoreOpen name read_only)) (key_bytes name) answers))))
  where
    few : (n : ℕ) → (nat_le 64 n ≡ false) ↔ (n < 64)
    few n = (λ e. leb-false 64 n e, λ h. lt-leb 64 n h)

refused_remove : (s : State) (file : File) (at : StoreRef) (name : List ℕ) (why : Refusal) → (reply_to s file (StoreRemove at name) ≡ Refused why) ↔ RefusedBy s file (StoreRemove at name) why
refused_remove s file at name why =
    let o = store_named s.stores name in
    asks ReadOnly at.read_only _ _ why s _ _ (itself at.read_only) (λ w.
    asks NameForm (not (is_name name) || pointwise nat_eq name (codes "default")) _ _ why s _ _ (may_go name) (λ n.
    asks NoStore (is_none o) _ _ why s _ _ (named_is name s.stores) (λ f.
    asks Worn (any_worn ((s.place + 1) ∷ [])) [] _ why s _ _ (draws_one (s.place + 1)) (λ d.
    asks_room s file 24 24 why (answer s (StoreRemove at name)) refl (found_answers _ o _ (λ x w e. cc) f)))))

refused_commit : (s : State) (file : File) (at : StoreRef) (why : Refusal) → (reply_to s file (Commit at) ≡ Refused why) ↔ RefusedBy s file (Commit at) why
refused_commit s file at why =
    let answers : IsAnswered (answer s (Commit at)).0 = by_test (λ x. IsAnswered x.0) (nothing_new s) _ _ (λ w e. cc) (λ e w f. cc) in
    asks ReadOnly at.read_only _ _ why s _ _ (itself at.read_only) (λ w.
    asks Worn (not (nothing_new s) && any_worn (s.next_commit ∷ (s.place + 1) ∷ [])) [] _ why s _ _ (unless_so (nothing_new s) _ _ _ (is_new s) (draws_two s.next_commit (s.place + 1))) (λ d.
    never (answer s (Commit at)) why answers))

refused_rollback : (s : State) (file : File) (at : StoreRef) (number : ℕ) (why : Refusal) → (reply_to s file (Rollback at number) ≡ Refused why) ↔ RefusedBy s file (Rollback at number) why
refused_rollback s file at number why =
    let target = from_number number (retained s) in
    let there = is_at_means s number in
    asks ReadOnly at.read_only _ _ why s _ _ (itself at.read_only) (λ w.
    asks Worn (not (is_at s number) && any_worn ((s.place + 1) ∷ [])) _ _ why s _ _ (unless_so (is_at s number) _ _ _ there (draws_one (s.place + 1))) (λ d.
    asks NoCommit (is_none target) _ _ why s _ _ (numbered_is number (retained s)) (λ f.
    asks_told (Compacting (ticket_of s)) (Compacting (shown_ticket s.copying)) (is_some s.copying) [] _ why s _ _ (ap Compacting (ticket_shown s.copying)) (nothing_copied s.copying) (λ c.
    copies_unless s file (blocks_to_copy file number) why (is_at s number) (IsThere s number) there (answer s (Rollback at number))
    (by_test (λ x. IsAnswered x.0) (is_at s number) _ _ (λ w e. cc) (λ e. found_answers _ target _ (λ x w f. cc) f))))))

pub refused_by : (s : State) (file : File) (call : Call) (why : Refusal) → (reply_to s file call ≡ Refused why) ↔ RefusedBy s file call why
refused_by s file (Set at key meta body) why = refused_set s file at key meta body why
refused_by s file (Delete at key) why = refused_delete s file at key why
refused_by s file (Batch at items) why = refused_batch s file at items why
refused_by s file (Get at key) why = refused_get s file at key why
refused_by s file (BySeq at seq) why = refused_by_seq s file at seq why
refused_by s file (Info at) why =
    let o = store_of s.stores at.store in
    asks NoStore (is_none o) [] _ why s _ _ (there_is o) (λ there. never (answer s (Info at)) why (λ w e. cc))
refused_by s file Markers why = never (answer s Markers) why (λ w e. cc)
refused_by s file (StoreOpen name read_only) why = refused_open s file name read_only why
refused_by s file (StoreRemove at name) why = refused_remove s file at name why
refused_by s file (Commit at) why = refused_commit s file at why
refused_by s file (Rollback at number) why = refused_rollback s file at number why
refused_by s file SnapLatest why = never (answer s SnapLatest) why (λ w e. cc)
refused_by s file (SnapAt at seq) why =
    let o = store_of s.stores at.store in
    let commit = find (has_seq at.store seq) (retained s) in
    asks NoStore (is_none o) _ _ why s _ _ (there_is o) (λ there.
    asks NoCommit (is_none commit) [] _ why s _ _ (some_at_seq at.store seq (retained s)) (λ f. never (answer s (SnapAt at seq)) why (λ w e. cc)))
refused_by s file (Begin at) why =
    asks ReadOnly at.read_only _ _ why s _ _ (itself at.read_only) (λ w.
    asks Worn (any_worn (s.next_ticket ∷ (s.revision + 1) ∷ (s.place + 1) ∷ [])) _ _ why s _ _ (draws_three s.next_ticket (s.revision + 1) (s.place + 1)) (λ d.
    asks_told (Compacting (ticket_of s)) (Compacting (shown_ticket s.copying)) (is_some s.copying) [] _ why s _ _ (ap Compacting (ticket_shown s.copying)) (nothing_copied s.copying) (λ c.
    never (answer s (Begin at)) why (λ w e. cc))))
refused_by s file (Delta ticket left) why =
    asks_told (NoTicket ticket (ticket_of s)) (NoTicket ticket (shown_ticket s.copying)) (is_other_ticket s ticket) _ _ why s _ _ (no_ticket s ticket) (ticket_runs s.copying ticket) (λ t.
    asks (NotCopied left) (nat_lt 0 left) [] _ why s _ _ (none_left left) (λ l. never (answer s (Delta ticket left)) why (λ w e. cc)))
refused_by s file (Switch at ticket left) why =
    asks ReadOnly at.read_only _ _ why s _ _ (itself at.read_only) (λ w.
    asks Worn (any_worn ((s.revision + 1) ∷ (s.generation + 1) ∷ (s.place + 1) ∷ [])) _ _ why s _ _ (draws_three (s.revision + 1) (s.generation + 1) (s.place + 1)) (λ d.
    asks_told (NoTicket ticket (ticket_of s)) (NoTicket ticket (shown_ticket s.copying)) (is_other_ticket s ticket) _ _ why s _ _ (no_ticket s ticket) (ticket_runs s.copying ticket) (λ t.
    asks (NotCopied left) (nat_lt 0 left) [] _ why s _ _ (none_left left) (λ l. never (answer s (Switch at ticket left)) why (λ w e. cc)))))
refused_by s file (Cancel at ticket) why =
    asks ReadOnly at.read_only _ _ why s _ _ (itself at.read_only) (λ w.
    asks Worn (any_worn ((s.place + 1) ∷ [])) _ _ why s _ _ (draws_one (s.place + 1)) (λ d.
    asks_told (NoTicket ticket (ticket_of s)) (NoTicket ticket (shown_ticket s.copying)) (is_other_ticket s ticket) [] _ why s _ _ (no_ticket s ticket) (ticket_runs s.copying ticket) (λ t.
    never (answer s (Cancel at ticket)) why (λ w e. cc))))
