use Rattle.std.proofs.Common.{◌≡◌, ◌∷◌, drop, ◌+◌, sym, ap, subst, ◌∙◌, arith, List}
use Rattle.std.proofs.lemmas.List.{drop_all, drop_more}
use Rattle.forest_model.specs.declared.call.Item.{Item}
use Rattle.file_documents.specs.declared.batch_puts.Pending.{Pending}
use Rattle.file_documents.proofs.BatchPut.{PutSoFar, put_next, put_all}
use Rattle.file_documents.proofs.batch_puts.put_items.Goals as goal

pub loop-item-preserved : goal.loop-item-preserved
loop-item-preserved c =
    let items = c.args.items.now in
    let n = c.loop-item.item-index in
    let left : drop n items ≡ c.item-item.result ∷ drop (n + 1) items =
    drop_more items n c.item-item.result c.loop-item-test.true ∙ ap (λ (item : Item). item ∷ drop (n + 1) items) (sym c.item-item.is) in
    let so_far = put_next c.args.revision c.args.at.store c.args.at.seq c.loop-item.last items (drop n items) (drop (n + 1) items) c.item-item.result c.loop-item.pending.items c.in_ok-next.next
    c.args.tail.now c.loop-item.tail c.put_item.new.tail c.args.out.now.items c.loop-item.out.items c.put_item.new.out.items c.loop-item.invariant.so_far left c.in_ok-next.ensures.put in
    record {
      so_far = subst (λ (ps : List Pending). PutSoFar c.args.revision c.args.at.store c.args.at.seq (c.loop-item.last + 1) items (drop (n + 1) items) ps c.args.tail.now c.put_item.new.tail c.args.out.now.items c.put_item.new.out.items)
          (sym c.in_ok-push.ensures.items) so_far;
      last = omega arith;
      low = omega (arith, c.in_ok-next.ensures.grown);
      room = λ _. c.in_ok-next.ensures.room;
      entries = c.put_item.ensures.entries ∙ c.loop-item.invariant.entries;
      gone = c.put_item.ensures.gone ∙ c.loop-item.invariant.gone;
    }

pub returns-clause-put : goal.returns-clause-put
returns-clause-put c = put_all _ _ _ _ _ _ _ _ _ _ _ c.loop-item.invariant.so_far (drop_all c.loop-item.item-index c.args.items.now c.loop-item-test.false)
