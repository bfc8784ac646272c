use Rattle.std.proofs.Common.{ℕ, ◌+◌, ◌%◌, length, refl, sym, ap, subst, arith}
use Rattle.std.specs.List.{sum_by}
use Rattle.std.specs.Option.{option_map_or}
use Rattle.forest_model.specs.Documents.{Map, after_items}
use Rattle.forest_model.specs.Stores.{seq_of}
use Rattle.forest_model.specs.Step.{Outcome, item_length, written}
use Rattle.forest_model.specs.declared.call.Call.TheVariants.{Batch}
use Rattle.forest_model.specs.declared.call.Reply.TheVariants.{Refused}
use Rattle.forest_model.specs.declared.refusal.Refusal.TheVariants.{NotFound}
use Rattle.model_laws.specs.Answered.{all_bytes}
use Rattle.model_laws.specs.Writes.{BatchIsItems, IsBatch}
use Rattle.model_laws.proofs.Conditions.{draws_two, some_is}
use Rattle.model_laws.proofs.Free.{answered_free, answered_has}
use Rattle.model_laws.proofs.FreeCalls.{free_is}
use Rattle.model_laws.proofs.FreeWrites.{bytes_of}
use Rattle.model_laws.proofs.OneByOne.{IsReady, left, items_draw, one_by_one}
use Rattle.model_laws.proofs.Steps.{unmet}
use Rattle.model_laws.proofs.Stores.{same-with_seq}
use Rattle.model_laws.proofs.Writing.{written_draws, appends_are}
use Rattle.model_laws.proofs.batches.Goals as goal

batch_is_items : BatchIsItems
batch_is_items s file at items rules h =
    let seq = seq_of s.stores at.store in
    let free = answered_free s file (Batch at items) h in
    let asks = (free_is s file (Batch at items)).0 free in
    let there = unmet _ _ free.causes.1.1.1.0 in
    let found = (some_is (after_items at.store items seq s.documents)).0 (unmet _ _ free.causes.1.1.1.1.1.0) in
    let after : ℕ × Map = found.0 in
    let ready : IsReady s at (length items) (all_bytes items) = record {
      writes = asks.0;
      there = there;
      draws = ((draws_two (seq + length items) (s.place + 1)).0 (unmet _ _ free.causes.1.1.1.1.0)).0;
      place = asks.4;
      room = omega (arith, asks.6);
      settled = same-with_seq s.stores at.store rules.now.stores_apart;
      open_block = rules.open_block;
    } in
    let batch : IsBatch s (written s at after.0 after.1 (sum_by item_length items)).1 (written s at after.0 after.1 (sum_by item_length items)).0 at items = record {
      draws = written_draws s at after.0 (length items) after.1 (sum_by item_length items) there (items_draw at.store items seq s.documents after found.1);
      last = left s at after (all_bytes items);
      one_by_one = one_by_one items s at after asks.1 asks.2 ready found.1;
      same = λ i. record (written s at after.0 after.1 (sum_by item_length items)).1 { loose = (s.loose + bytes_of items i) % 4064 };
      appends = appends_are s (written s at after.0 after.1 (sum_by item_length items)).1 _ _ (bytes_of items) refl;
    } in
    answered_has (λ o. IsBatch s o.1 o.0 at items) s file (Batch at items) h
    (λ causes. subst (λ (o : Outcome). IsBatch s o.1 o.0 at items) (sym (ap (λ o. option_map_or (λ a. written s at a.0 a.1 (sum_by item_length items)) o (Refused NotFound, s)) found.1)) batch)

pub returns : goal.returns
returns c = batch_is_items
