use Rattle.std.proofs.Common.{◌≡◌, ◌/◌, ◌<◌, ℕ, List, Some, Ok, Err, inl, refl, sym, ◌∙◌, arith, ap, subst}
use Rattle.std.proofs.lemmas.Result.{err_from_is_err_and}
use Rattle.block_host.specs.declared.block.Block.{Block}
use Rattle.forest_model.specs.declared.refusal.Refusal.TheVariants as Refusal
use Rattle.doc_stream.specs.Causes.{BreaksRecord}
use Rattle.doc_stream.specs.Memory.{HasHead}
use Rattle.doc_stream.specs.OpenBlock.{OpenBlock}
use Rattle.doc_stream.specs.Scans.{StartsFrom}
use Rattle.doc_stream.specs.Shown.{Asked}
use Rattle.doc_stream.specs.Runs.{Piece}
use Rattle.doc_stream.specs.Steps.{IsNear, Place, StopsRecord, TakesRecord, in_hand}
use Rattle.doc_stream.proofs.AddressReads.{breaks_record, cause_asked, is_at, missing_asked, missing_why, near_address, only_at, refused}
use Rattle.doc_stream.proofs.Loads.{cause_reason, either_err, missing_reason, same_err}
use Rattle.doc_stream.proofs.Unasked.{err_other, missing_memory}
use Rattle.doc_stream.proofs.reading.read.Goals as goal

pub returns-in_err-go_to-clause-exact : goal.returns-in_err-go_to-clause-exact
returns-in_err-go_to-clause-exact g c told r at =
    let p = err_from_is_err_and c.from_residual.result c.from_residual.ensures.1 in
    let file = g.V.View.content c.args.view.now in
    refused g.V.View.tells c.args.rev (BreaksRecord c.args.rev file c.args.tail.now c.args.address) (g.V.View.faults c.args.view.now) (g.V.View.faults c.go_to.new.view) c.in_err-go_to.field-0.0 c.from_residual.result r
    (p.1 ∙ ap Err p.2) told (λ block breaks. breaks.broken file r refl at)
    (missing_reason g.V.View.tells c.args.rev (c.args.address / 4096) (BreaksRecord c.args.rev file c.args.tail.now c.args.address (c.args.address / 4096)) (BreaksRecord c.args.rev file c.args.tail.now c.args.address) (g.V.View.faults c.args.view.now) (g.V.View.faults c.go_to.new.view) c.in_err-go_to.field-0.0
    (λ told h. h) c.in_err-go_to.ensures.missing)

pub returns-in_err-go_to-clause-reason : goal.returns-in_err-go_to-clause-reason
returns-in_err-go_to-clause-reason g c =
    let p = err_from_is_err_and c.from_residual.result c.from_residual.ensures.1 in
    let file = g.V.View.content c.args.view.now in
    rw (p.1, p.2) (missing_reason g.V.View.tells c.args.rev (c.args.address / 4096) (BreaksRecord c.args.rev file c.args.tail.now c.args.address (c.args.address / 4096)) (BreaksRecord c.args.rev file c.args.tail.now c.args.address) (g.V.View.faults c.args.view.now) (g.V.View.faults c.go_to.new.view) c.in_err-go_to.field-0.0
    (λ told h. h) c.in_err-go_to.ensures.missing)

pub returns-in_err-go_to-clause-asked : goal.returns-in_err-go_to-clause-asked
returns-in_err-go_to-clause-asked g c asked_file block is =
    let p = err_from_is_err_and c.from_residual.result c.from_residual.ensures.1 in
    let file = g.V.View.content c.args.view.now in
    let why = same_err c.in_err-go_to.field-0.0 asked_file block (sym (p.1 ∙ ap Err p.2) ∙ is) in
    let at = missing_asked g.V.View.tells c.args.rev (c.args.address / 4096) (BreaksRecord c.args.rev file c.args.tail.now c.args.address (c.args.address / 4096)) (g.V.View.faults c.args.view.now) (g.V.View.faults c.go_to.new.view) c.in_err-go_to.field-0.0 asked_file block why c.in_err-go_to.ensures.missing in
    (at.0, omega (arith, at.1), omega (arith, at.1))

pub returns-in_err-go_to-clause-first : goal.returns-in_err-go_to-clause-first
returns-in_err-go_to-clause-first g c told unsealed =
    let p = err_from_is_err_and c.from_residual.result c.from_residual.ensures.1 in
    let file = g.V.View.content c.args.view.now in
    either_err c.from_residual.result c.in_err-go_to.field-0.0 (Refusal.Damaged c.args.rev (c.args.address / 4096)) (p.1 ∙ ap Err p.2)
    (missing_why g.V.View.tells c.args.rev (c.args.address / 4096) (BreaksRecord c.args.rev file c.args.tail.now c.args.address (c.args.address / 4096)) (g.V.View.faults c.args.view.now) (g.V.View.faults c.go_to.new.view) c.in_err-go_to.field-0.0 c.in_err-go_to.ensures.missing)

-- what breaks a record there breaks the one asked
broken_at : (rev : ℕ) (tail : OpenBlock) (file file' : List Block) (address block : ℕ) (place : Place) → file' ≡ file → StartsFrom (record { revision = rev; tail = Some tail; end = 0 }) file tail address place
    → place.offset < 4064 → IsNear (record { revision = rev; tail = Some tail; end = 0 }) place 1052355 block → StopsRecord (record { revision = rev; tail = Some tail; end = 0 }) file' place block → BreaksRecord rev file tail address block
broken_at rev tail file file' address block place same starts offset near stops =
    let asked : Asked = record { revision = rev; tail = Some tail; end = 0 } in
    breaks_record asked tail refl refl file address place starts block offset near (subst (λ (f : List Block). StopsRecord asked f place block) same stops)

pub returns-in_err-record-clause-exact : goal.returns-in_err-record-clause-exact
returns-in_err-record-clause-exact g c told r at =
    let p = err_from_is_err_and c.from_residual-in_err-record.result c.from_residual-in_err-record.ensures.1 in
    let file = g.V.View.content c.args.view.now in
    let file' = g.V.View.content c.go_to.new.view in
    let tail = c.args.tail.now in
    let asked : Asked = record { revision = c.args.rev; tail = Some tail; end = 0 } in
    let place = c.go_to.new.reader in
    refused g.V.View.tells c.args.rev (BreaksRecord c.args.rev file tail c.args.address) (g.V.View.faults c.go_to.new.view) (g.V.View.faults c.record.new.view) c.in_err-record.field-0.0 c.from_residual-in_err-record.result r
    (p.1 ∙ ap Err p.2) told
    (λ block breaks. breaks.broken file r refl at)
    (cause_reason g.V.View.tells c.args.rev (IsNear asked place 1052355) (StopsRecord asked file' place) (BreaksRecord c.args.rev file tail c.args.address)
    (g.V.View.faults c.go_to.new.view) (g.V.View.faults c.go_to.new.view) (g.V.View.faults c.record.new.view) c.in_err-record.field-0.0 (omega arith)
    (λ told n near stops. broken_at c.args.rev tail file file' c.args.address n place (c.in_ok-go_to.ensures.content told) (c.in_ok-go_to.ensures.starts told) c.in_ok-go_to.ensures.place.1 near stops)
    c.in_err-record.ensures.reason)

pub returns-in_err-record-clause-reason : goal.returns-in_err-record-clause-reason
returns-in_err-record-clause-reason g c =
    let p = err_from_is_err_and c.from_residual-in_err-record.result c.from_residual-in_err-record.ensures.1 in
    let file = g.V.View.content c.args.view.now in
    let file' = g.V.View.content c.go_to.new.view in
    let tail = c.args.tail.now in
    let asked : Asked = record { revision = c.args.rev; tail = Some tail; end = 0 } in
    let place = c.go_to.new.reader in
    let same = c.in_ok-go_to.ensures.untroubled in
    rw (p.1, p.2) (cause_reason g.V.View.tells c.args.rev (IsNear asked place 1052355) (StopsRecord asked file' place) (BreaksRecord c.args.rev file tail c.args.address)
    (g.V.View.faults c.args.view.now) (g.V.View.faults c.go_to.new.view) (g.V.View.faults c.record.new.view) c.in_err-record.field-0.0 (omega arith)
    (λ told n near stops. broken_at c.args.rev tail file file' c.args.address n place (c.in_ok-go_to.ensures.content told) (c.in_ok-go_to.ensures.starts told) c.in_ok-go_to.ensures.place.1 near stops)
    c.in_err-record.ensures.reason)

pub returns-in_err-record-clause-asked : goal.returns-in_err-record-clause-asked
returns-in_err-record-clause-asked g c asked_file block is =
    let p = err_from_is_err_and c.from_residual-in_err-record.result c.from_residual-in_err-record.ensures.1 in
    let file' = g.V.View.content c.go_to.new.view in
    let tail = c.args.tail.now in
    let asked : Asked = record { revision = c.args.rev; tail = Some tail; end = 0 } in
    let place = c.go_to.new.reader in
    let why = same_err c.in_err-record.field-0.0 asked_file block (sym (p.1 ∙ ap Err p.2) ∙ is) in
    let at = cause_asked g.V.View.tells c.args.rev (IsNear asked place 1052355) (StopsRecord asked file' place) (g.V.View.faults c.go_to.new.view) (g.V.View.faults c.record.new.view) c.in_err-record.field-0.0 asked_file block why c.in_err-record.ensures.reason in
    let near = near_address asked c.args.address place block c.in_ok-go_to.ensures.place.0 c.in_ok-go_to.ensures.place.1 at.1 in
    (at.0, near.0, near.1)

pub returns-in_err-record-clause-first : goal.returns-in_err-record-clause-first
returns-in_err-record-clause-first g c told unsealed =
    let shown = c.in_ok-go_to.ensures.shown told in
    absurd (unsealed 1 shown.0 shown.1)

pub returns-clause-first : goal.returns-clause-first
returns-clause-first g c told unsealed =
    let shown = c.in_ok-go_to.ensures.shown told in
    absurd (unsealed 1 shown.0 shown.1)

pub returns-clause-record : goal.returns-clause-record
returns-clause-record g c told =
    let file = g.V.View.content c.args.view.now in
    let tail = c.args.tail.now in
    let asked : Asked = record { revision = c.args.rev; tail = Some tail; end = 0 } in
    let place = c.go_to.new.reader in
    let takes : TakesRecord asked file place c.record.new.self c.in_ok-record.record = subst (λ (f : List Block). TakesRecord asked f place c.record.new.self c.in_ok-record.record) (c.in_ok-go_to.ensures.content told) (c.in_ok-record.ensures.taken told) in
    is_at asked tail refl refl file c.args.address place (c.in_ok-go_to.ensures.starts told) c.record.new.self c.in_ok-record.record takes c.in_ok-record.ensures.is_record

pub returns-clause-exact : goal.returns-clause-exact
returns-clause-exact g c told r at =
    let file = g.V.View.content c.args.view.now in
    let tail = c.args.tail.now in
    let asked : Asked = record { revision = c.args.rev; tail = Some tail; end = 0 } in
    let place = c.go_to.new.reader in
    let takes : TakesRecord asked file place c.record.new.self c.in_ok-record.record = subst (λ (f : List Block). TakesRecord asked f place c.record.new.self c.in_ok-record.record) (c.in_ok-go_to.ensures.content told) (c.in_ok-record.ensures.taken told) in
    let same : r ≡ c.in_ok-record.record = only_at asked tail refl refl file c.args.address place (c.in_ok-go_to.ensures.starts told) c.record.new.self c.in_ok-record.record takes r at in
    inl (ap Ok (sym same))

pub returns-in_err-go_to-clause-here : goal.returns-in_err-go_to-clause-here
returns-in_err-go_to-clause-here g c here =
    let p = err_from_is_err_and c.from_residual.result c.from_residual.ensures.1 in
    let now = c.in_err-go_to.ensures.here here in
    (now.0, err_other c.in_err-go_to.field-0.0 Refusal.DiskFault c.from_residual.result (p.1 ∙ ap Err p.2) now.1)

pub returns-in_err-record-clause-here : goal.returns-in_err-record-clause-here
returns-in_err-record-clause-here g c here =
    let p = err_from_is_err_and c.from_residual-in_err-record.result c.from_residual-in_err-record.ensures.1 in
    let before = c.in_ok-go_to.ensures.here here in
    let now = c.in_err-record.ensures.short before.2 in
    (now.0 ∙ before.0, err_other c.in_err-record.field-0.0 Refusal.DiskFault c.from_residual-in_err-record.result (p.1 ∙ ap Err p.2) now.1)

pub returns-clause-here : goal.returns-clause-here
returns-clause-here g c here =
    let before = c.in_ok-go_to.ensures.here here in
    ((c.in_ok-record.ensures.short before.2).0 ∙ before.0, λ same. cc)

pub returns-in_err-go_to-clause-memory : goal.returns-in_err-go_to-clause-memory
returns-in_err-go_to-clause-memory g c told same =
    let p = err_from_is_err_and c.from_residual.result c.from_residual.ensures.1 in
    let file = g.V.View.content c.args.view.now in
    absurd (missing_memory g.V.View.tells c.args.rev (c.args.address / 4096) (BreaksRecord c.args.rev file c.args.tail.now c.args.address (c.args.address / 4096)) (g.V.View.faults c.args.view.now) (g.V.View.faults c.go_to.new.view) c.in_err-go_to.field-0.0 c.from_residual.result
    (p.1 ∙ ap Err p.2) c.in_err-go_to.ensures.missing same)

pub returns-in_err-record-clause-memory : goal.returns-in_err-record-clause-memory
returns-in_err-record-clause-memory g c told same =
    let p = err_from_is_err_and c.from_residual-in_err-record.result c.from_residual-in_err-record.ensures.1 in
    let file = g.V.View.content c.args.view.now in
    let tail = c.args.tail.now in
    let asked : Asked = record { revision = c.args.rev; tail = Some tail; end = 0 } in
    let place = c.go_to.new.reader in
    let shown = c.in_ok-go_to.ensures.shown told in
    let head = c.in_err-record.ensures.memory told (sym (p.1 ∙ ap Err p.2) ∙ same) in
    record {
      payload = shown.0;
      inside = shown.2;
      shows = shown.1;
      stands = subst (λ (q : Piece). HasHead asked file q) shown.3 (subst (λ (f : List Block). HasHead asked f (in_hand place)) (c.in_ok-go_to.ensures.content told) head);
    }
