use Rattle.std.proofs.Common.{List, ◌+◌, ◌-◌, Some, inr, ap, sym, ◌∙◌}
use Rattle.std.proofs.lemmas.Result.{err_from_is_err_and}
use Rattle.forest_model.specs.declared.call.Item.{Item}
use Rattle.script_text.specs.Reading.{items_at}
use Rattle.script_text.proofs.Loops.{with_items, items_go_on, items_end, items_are_done, items_are_full, begun_on, batch_read, batch_item}
use Rattle.script_text.proofs.reader.Reader.items.Goals as goal

pub returns-then-is_done-clause-gives : goal.returns-then-is_done-clause-gives
returns-then-is_done-clause-gives c =
    items_are_done c.loop.items.items 1024 c.loop.counter c.loop.self (items_at 1024 c.args.self.now) c.loop-test.true (sym c.is_done.ensures ∙ c.if-is_done.true) c.loop.invariant.read
    ∙ ap (λ (xs : List Item). Some (xs, c.loop.self)) (sym c.from_vec.ensures)

pub returns-in_err-item-clause-gives : goal.returns-in_err-item-clause-gives
returns-in_err-item-clause-gives c =
    let p = err_from_is_err_and c.from_residual.result c.from_residual.ensures.1 in
    rw (p.1, p.2)
    (items_end c.in_err-item.field-0.0 c.loop.items.items 1024 c.loop.counter c.loop.self (items_at 1024 c.args.self.now) c.loop-test.true (sym c.is_done.ensures ∙ c.if-is_done.false) c.in_err-item.ensures.gives c.loop.invariant.read)

pub returns-in_err-item-clause-memory : goal.returns-in_err-item-clause-memory
returns-in_err-item-clause-memory c = λ e.
    let p = err_from_is_err_and c.from_residual.result c.from_residual.ensures.1 in
    batch_item c.args.self.now c.loop.self c.loop.invariant.begun (c.in_err-item.ensures.memory (let is = p.1 in let same = p.2 in cc (e, is, same)))

pub returns-in_err-push-clause-memory : goal.returns-in_err-push-clause-memory
returns-in_err-push-clause-memory c = λ e.
    batch_read c.args.self.now (begun_on c.args.self.now c.loop.self (c.in_ok-item.item, c.item.new.self) c.loop.invariant.begun c.in_ok-item.ensures.gives)

pub loop-preserved : goal.loop-preserved
loop-preserved c = record {
  read =
      ap (λ (xs : List Item). with_items xs (items_at (1024 - (c.loop.counter + 1)) c.item.new.self)) c.in_ok-push.ensures.items
      ∙ items_go_on c.loop.items.items 1024 c.loop.counter c.loop.self c.in_ok-item.item c.item.new.self (items_at 1024 c.args.self.now) c.loop-test.true (sym c.is_done.ensures ∙ c.if-is_done.false) c.in_ok-item.ensures.gives c.loop.invariant.read;
  begun = inr (begun_on c.args.self.now c.loop.self (c.in_ok-item.item, c.item.new.self) c.loop.invariant.begun c.in_ok-item.ensures.gives);
}

pub returns-clause-gives : goal.returns-clause-gives
returns-clause-gives c =
    items_are_full c.loop.items.items 1024 c.loop.counter c.loop.self (items_at 1024 c.args.self.now) c.loop-test.false c.loop.invariant.read
    ∙ ap (λ (xs : List Item). Some (xs, c.loop.self)) (sym c.from_vec-2.ensures)
