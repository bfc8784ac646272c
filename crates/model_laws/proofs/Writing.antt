-- What a store's next numbers and the bytes of its records leave.
use Rattle.std.proofs.Common.{◌≡◌, ℕ, ◌+◌, ◌/◌, ◌%◌, false, List, Some, refl, sym, ap, subst, ◌∙◌, arith}
use Rattle.std.specs.Option.{is_none, option_map}
use Rattle.forest_model.specs.Documents.{Map}
use Rattle.forest_model.specs.Stores.{store_of, seq_of, at_seq, with_seq}
use Rattle.forest_model.specs.State.{OfStore}
use Rattle.forest_model.specs.Step.{written}
use Rattle.forest_model.specs.declared.call.StoreRef.{StoreRef}
use Rattle.forest_model.specs.declared.state.State.{State}
use Rattle.forest_model.specs.declared.state.Store.{Store}
use Rattle.model_laws.specs.Writes.{DrawsSeq, Appends}
use Rattle.model_laws.proofs.Conditions.{some_is}
use Rattle.model_laws.proofs.Stores.{store_of-with_seq, others-with_seq, at_seq_own, found_id, seq_at}

pub comes_to : (stores : List Store) (id seq drawn : ℕ) → is_none (store_of stores id) ≡ false → seq ≡ seq_of stores id + drawn
    → OfStore (store_of stores id) (λ st. (seq ≡ st.seq + drawn) × (store_of (with_seq stores id seq) id ≡ Some (record st { seq = seq })))
comes_to stores id seq drawn there e =
    let found = (some_is (store_of stores id)).0 there in
    let st : Store = found.0 in
    subst (λ o. OfStore o (λ t. (seq ≡ t.seq + drawn) × (store_of (with_seq stores id seq) id ≡ Some (record t { seq = seq })))) (sym found.1) (
      e ∙ ap (λ n. n + drawn) (seq_at stores id st found.1),
      store_of-with_seq stores id seq id ∙ ap (option_map (at_seq id seq)) found.1 ∙ ap Some (at_seq_own id seq st (found_id stores id st found.1)),
    )

abbrev pub written_draws : (s : State) (at : StoreRef) (seq drawn : ℕ) (m : Map) (bytes : ℕ) → is_none (store_of s.stores at.store) ≡ false → seq ≡ seq_of s.stores at.store + drawn
    → DrawsSeq s (written s at seq m bytes).1 (written s at seq m bytes).0 at.store drawn
written_draws s at seq drawn m bytes there e = record {
  seq = seq;
  answers = refl;
  further = comes_to s.stores at.store seq drawn there e;
  others = others-with_seq s.stores at.store seq;
  rest = refl;
}

pub appends_are : (s after : State) (bytes spelled : ℕ) → bytes ≡ spelled → after.loose ≡ (s.loose + bytes) % 4064 → Appends s after spelled
appends_are s after bytes spelled same e = record { full = (s.loose + bytes) / 4064; all = omega (arith, same, e); open_block = omega (arith, e) }
