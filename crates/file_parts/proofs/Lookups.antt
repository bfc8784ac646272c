-- What is looked up in memory, step by step.
use Rattle.std.proofs.Common.{◌≡◌, ℕ, Bool, true, false, List, [], ◌∷◌, refl, sym, ap, ◌∙◌, subst, inl, inr}
use Rattle.std.specs.Prelude.{Option, Some, None, Result, Ok, Err, is_none, is_some, not, if◌then◌else◌, ◌==◌}
use Rattle.std.specs.Option.{option_map_or}
use Rattle.std.proofs.lemmas.Bool.{eqb-true}
use Rattle.forest_model.specs.Limits.{is_wrong_key}
use Rattle.forest_model.specs.Step.{◌where_holds◌, first_cause}
use Rattle.forest_model.specs.declared.call.StoreRef.{StoreRef}
use Rattle.forest_model.specs.declared.refusal.Refusal.{Refusal}
use Rattle.forest_model.specs.declared.refusal.Refusal.TheVariants.{KeyLength, NoStore, NotFound, Stopped}
use Rattle.forest_model.specs.declared.stored.Entry.{Entry}
use Rattle.wal_index.specs.Index.{entry_at, has_number}
use Rattle.file_parts.specs.Held.{Held}
use Rattle.file_parts.specs.Lookup.{stop_of, unless_refused, numbers_in, why_no_store, why_no_key, living, entry_of_key, IsNumbered, LooksUpNumber}

none_is : {A : Type 0} (o : Option A) (b : Bool) → is_some o ≡ not b → is_none o ≡ b
none_is None true is = refl
none_is None false is = cc
none_is (Some x) true is = cc
none_is (Some x) false is = refl

module _ (p : Held) (at : StoreRef) where
  -- a test for whether the store is there
  pub tested : (numbers : Option (ℕ × ℕ)) (test b : Bool) → numbers ≡ numbers_in p at.store → is_some numbers ≡ not test → test ≡ b → is_none (numbers_in p at.store) ≡ b
  tested numbers test b are is answer = ap is_none (sym are) ∙ none_is numbers test is ∙ answer

  pub stopped_store : (faults : ℕ) → p.stopped ≡ Some faults → why_no_store p at ≡ Some (Stopped faults)
  stopped_store faults is = ap (λ o. first_cause (stop_of o ∷ (NoStore where_holds is_none (numbers_in p at.store)) ∷ [])) is

  pub running_store : (b : Bool) → p.stopped ≡ None → is_none (numbers_in p at.store) ≡ b → why_no_store p at ≡ first_cause ((NoStore where_holds b) ∷ [])
  running_store b runs is =
      ap (λ o. first_cause (stop_of o ∷ (NoStore where_holds is_none (numbers_in p at.store)) ∷ [])) runs ∙ ap (λ t. first_cause ((NoStore where_holds t) ∷ [])) is

  pub stopped_key : (key : List ℕ) (faults : ℕ) → p.stopped ≡ Some faults → why_no_key p at key ≡ Some (Stopped faults)
  stopped_key key faults is =
      ap (λ o. first_cause (stop_of o ∷ (KeyLength where_holds is_wrong_key key) ∷ (NoStore where_holds is_none (numbers_in p at.store)) ∷ [])) is

  pub running_key : (key : List ℕ) (a b : Bool) → p.stopped ≡ None → is_wrong_key key ≡ a → is_none (numbers_in p at.store) ≡ b → why_no_key p at key ≡ first_cause ((KeyLength where_holds a) ∷ (NoStore where_holds b) ∷ [])
  running_key key a b runs long none =
      ap (λ o. first_cause (stop_of o ∷ (KeyLength where_holds is_wrong_key key) ∷ (NoStore where_holds is_none (numbers_in p at.store)) ∷ [])) runs
      ∙ ap (λ t. first_cause ((KeyLength where_holds t) ∷ (NoStore where_holds is_none (numbers_in p at.store)) ∷ [])) long
      ∙ ap (λ t. first_cause ((KeyLength where_holds a) ∷ (NoStore where_holds t) ∷ [])) none

  pub key_refused : (key : List ℕ) (why : Refusal) → why_no_key p at key ≡ Some why → entry_of_key p at key ≡ Err why
  key_refused key why is = ap (λ o. unless_refused o (living (entry_at p.wal.entries at.store key))) is

  key_looked_up : (key : List ℕ) → why_no_key p at key ≡ None → entry_of_key p at key ≡ living (entry_at p.wal.entries at.store key)
  key_looked_up key none = ap (λ o. unless_refused o (living (entry_at p.wal.entries at.store key))) none

  pub key_living : (key : List ℕ) (entry : Option Entry) (result : Result Entry Refusal) → why_no_key p at key ≡ None → entry ≡ entry_at p.wal.entries at.store key → result ≡ living entry → result ≡ entry_of_key p at key
  key_living key entry result none is lives = lives ∙ ap living is ∙ sym (key_looked_up key none)

  pub number_refused : (seq : ℕ) (why : Refusal) → why_no_store p at ≡ Some why → LooksUpNumber p at seq (Err why)
  number_refused seq why is = record { found = tt; refused = inl is }

  pub number_absent : (seq : ℕ) → why_no_store p at ≡ None → ((key : List ℕ) → has_number p.wal.entries at.store seq key ≡ false) → LooksUpNumber p at seq (Err NotFound)
  number_absent seq none absent = record { found = tt; refused = inr (none, refl, inl absent) }

  -- the entry of a key that has a number
  number_of : (seq : ℕ) (key : List ℕ) (o : Option Entry) → entry_at p.wal.entries at.store key ≡ o → option_map_or (λ e. e.seq == seq) o false ≡ true → why_no_store p at ≡ None
      → LooksUpNumber p at seq (living o)
  number_of seq key None is has none = cc
  number_of seq key (Some e) is has none =
      let numbered : IsNumbered p.wal.entries at.store seq key e = record { there = is; number = eqb-true e.seq seq has } in
      elim e.live as (λ b. e.live ≡ b → LooksUpNumber p at seq (if b then Ok e else Err NotFound)) [
        | true ↦ λ lives. record { found = (none, lives, key, numbered); refused = tt }
        | false ↦ λ dead. record { found = tt; refused = inr (none, refl, inr (key, e, numbered, dead)) }
      ] refl

  pub number_living : (seq : ℕ) (key : List ℕ) (entry : Option Entry) (result : Result Entry Refusal) → has_number p.wal.entries at.store seq key ≡ true → why_no_store p at ≡ None
      → entry ≡ entry_at p.wal.entries at.store key → result ≡ living entry → LooksUpNumber p at seq result
  number_living seq key entry result has none is lives =
      subst (LooksUpNumber p at seq) (sym (lives ∙ ap living is)) (number_of seq key (entry_at p.wal.entries at.store key) refl has none)
