use Rattle.std.proofs.Common.{◌<◌, ◌++◌, ℕ, List, [], length, take, sym, arith, subst}
use Rattle.std.specs.List.{flat_map}
use Rattle.std.proofs.lemmas.List.{append-nil, take_all}
use Rattle.node_page.specs.Pages.{IsPage}
use Rattle.forest_model.specs.Stored.{StoreRow}
use Rattle.header_block.specs.Layout.{fields, long, optional, store_bytes}
use Rattle.header_block.proofs.Places.{at_place}
use Rattle.header_block.proofs.Written.{one_more}
use Rattle.header_block.proofs.writer.payload_of.Goals as goal

pub loop-n-init : goal.loop-n-init
loop-n-init c =
    let h = c.args.header.now in
    let two = long h.commit ++ long h.next_commit in
    let three = two ++ optional h.previous in
    let four = three ++ optional h.key in
    let five = four ++ optional h.seq in
    let six = five ++ long h.wal_from in
    let seven = six ++ long h.live in
    let eight = seven ++ long h.next_store in
    let at_five = c.optional-3.ensures.page four (c.optional-2.ensures.page three (c.optional.ensures.page two (c.long-2.ensures.page (long h.commit) (c.long.ensures.page [] c.new-writer.ensures)))) in
    let at_nine = c.long-6.ensures.page eight (c.long-5.ensures.page seven (c.long-4.ensures.page six (c.long-3.ensures.page five at_five))) in
    let all_fields = subst (λ (n : ℕ). IsPage (eight ++ long n) c.long-6.new.self.page) c.len.ensures.value at_nine in
    record { len = omega arith; page = subst (λ (bytes : List ℕ). IsPage bytes c.long-6.new.self.page) (sym (append-nil (fields h))) all_fields }

pub loop-n-preserved : goal.loop-n-preserved
loop-n-preserved c =
    let stores = c.args.header.now.stores in
    let within : c.loop-n.n < length stores = omega arith in
    let here = at_place stores c.loop-n.n within in
    record {
      len = omega arith;
      page = subst (λ (bytes : List ℕ). IsPage bytes c.store_at.new.self.page) (one_more (fields c.args.header.now) stores c.loop-n.n here.0 within here.1)
          (c.store_at.ensures.page here.0 (fields c.args.header.now ++ flat_map store_bytes (take c.loop-n.n stores)) here.1 c.loop-n.invariant.page);
    }

pub returns : goal.returns
returns c =
    let stores = c.args.header.now.stores in
    subst (λ (rows : List StoreRow). IsPage (fields c.args.header.now ++ flat_map store_bytes rows) c.loop-n.writer.page) (take_all c.loop-n.n stores (omega arith)) c.loop-n.invariant.page
