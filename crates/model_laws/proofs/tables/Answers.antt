use Rattle.std.proofs.Common.{◌≡◌, ℕ, ◌+◌, Bool, true, false, not, List, ◌++◌, ◌∷◌, [], Option, Some, refl, sym, ap, subst, ◌∙◌}
use Rattle.std.specs.Bool.{◌==◌}
use Rattle.std.specs.Option.{option_map_or}
use Rattle.std.proofs.lemmas.Bool.{eq-eqb, ne_eqb, not_from_true, not_from_false}
use Rattle.forest_model.specs.Documents.{without_store}
use Rattle.forest_model.specs.Stores.{store_named, new_store, without}
use Rattle.forest_model.specs.Step.{Outcome, answer, updated, record_length}
use Rattle.forest_model.specs.declared.call.Call.TheVariants.{StoreOpen, StoreRemove}
use Rattle.forest_model.specs.declared.call.Reply.TheVariants.{Store, Removed, Refused}
use Rattle.forest_model.specs.declared.refusal.Refusal.TheVariants.{NoStore}
use Rattle.forest_model.specs.declared.state.State.{State}
use Rattle.forest_model.specs.declared.state.Store.{Store as StoreRow}
use Rattle.model_laws.specs.Tables.{OpenFinds, OpenMakes, RemoveTakes, IsOpened, IsRemoved}
use Rattle.model_laws.proofs.Conditions.{some_is}
use Rattle.model_laws.proofs.Free.{answered_has}
use Rattle.model_laws.proofs.FreeWrites.{key_bytes}
use Rattle.model_laws.proofs.Keys.{retained_is}
use Rattle.model_laws.proofs.Steps.{unmet}
use Rattle.model_laws.proofs.Stores.{gone-without, others-without}
use Rattle.model_laws.proofs.NamedStores.{named_store, named_by_id, none_named, none_yet}
use Rattle.model_laws.proofs.Writing.{appends_are}
use Rattle.model_laws.proofs.tables.Goals as goal

-- a store that is made, and the answer of opening by what is found
abbrev made : State → List ℕ → Outcome
made s name = (
  Store (record { store = s.next_store; read_only = false }),
  record (updated s (record_length name [] [])) { stores = s.stores ++ new_store s.next_store name ∷ []; next_store = s.next_store + 1 },
)

abbrev opening : State → List ℕ → Bool → Option StoreRow → Outcome
opening s name read_only o = option_map_or (λ st. (Store (record { store = st.id; read_only = read_only }), s)) o (made s name)

open_finds : OpenFinds
open_finds s file name read_only id rules named h =
    let st = named_store s.stores name id rules.now.stores_apart named in
    let is : answer s (StoreOpen name read_only) ≡ opening s name read_only (Some st.store) = ap (opening s name read_only) st.found in
    answered_has (λ o. (o.0 ≡ Store (record { store = id; read_only = read_only })) × (o.1 ≡ s)) s file (StoreOpen name read_only) h
    (λ free. (ap (λ (o : Outcome). o.0) is ∙ ap (λ n. Store (record { store = n; read_only = read_only })) st.same, ap (λ (o : Outcome). o.1) is))

open_makes : OpenMakes
open_makes s file name read_only rules none h =
    let is : answer s (StoreOpen name read_only) ≡ made s name = ap (opening s name read_only) (none_named s.stores name none) in
    let opened : IsOpened s (made s name).1 (made s name).0 name = record {
      answers = refl;
      stores = refl;
      empty = none_yet s rules;
      next = refl;
      appends = appends_are s (made s name).1 _ _ (key_bytes name) refl;
      rest = refl;
    } in
    answered_has (λ o. IsOpened s o.1 o.0 name) s file (StoreOpen name read_only) h (λ free. subst (λ (o : Outcome). IsOpened s o.1 o.0 name) (sym is) opened)

-- the answer of a removal by what is found
abbrev removing : State → Option StoreRow → Outcome
removing s o =
    option_map_or (λ st. (Removed st.id, record (updated s (record_length [] [] [])) { stores = without s.stores st.id; documents = without_store s.documents st.id })) o (Refused NoStore, s)

remove_takes : RemoveTakes
remove_takes s file at name rules h =
    answered_has (λ o. IsRemoved s o.1 o.0 name) s file (StoreRemove at name) h
    (λ free.
    let found = (some_is (store_named s.stores name)).0 (unmet _ _ free.1.1.0) in
    let id = found.0.id in
    let removed : IsRemoved s (removing s (Some found.0)).1 (removing s (Some found.0)).0 name = record {
      id = id;
      answers = refl;
      named = named_by_id s.stores name found.0 rules.now.stores_apart found.1;
      gone = gone-without s.stores id;
      empty = λ k e. retained_is s.documents (λ q. not (q.store == id)) k false (not_from_true _ (eq-eqb k.store id e));
      stores = others-without s.stores id;
      documents = λ k n. retained_is s.documents (λ q. not (q.store == id)) k true (not_from_false _ (ne_eqb k.store id n));
      appends = appends_are s (removing s (Some found.0)).1 24 24 refl refl;
      rest = refl;
    } in
    subst (λ (o : Outcome). IsRemoved s o.1 o.0 name) (sym (ap (removing s) found.1)) removed)

pub returns-clause-found : goal.returns-clause-found
returns-clause-found c = open_finds

pub returns-clause-made : goal.returns-clause-made
returns-clause-made c = open_makes

pub returns-clause-removed : goal.returns-clause-removed
returns-clause-removed c = remove_takes
