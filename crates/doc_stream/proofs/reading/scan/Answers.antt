use Rattle.std.proofs.Common.{◌≡◌, ◌≤◌, ◌<◌, ◌+◌, ◌-◌, ◌*◌, ◌⊎◌, ℕ, [], ◌∷◌, List, length, None, Ok, Err, Result, inl, inr, refl, sym, ◌∙◌, arith, rules, ap, subst}
use Rattle.std.proofs.lemmas.List.{nil_from_length}
use Rattle.std.proofs.lemmas.Result.{err_from_is_err_and}
use Rattle.block_host.specs.declared.block.Block.{Block}
use Rattle.forest_model.specs.declared.refusal.Refusal.{Refusal}
use Rattle.forest_model.specs.declared.stored.Rec.{Rec}
use Rattle.doc_stream.specs.Causes.{BreaksRecords}
use Rattle.doc_stream.specs.Runs.{RecordsOf}
use Rattle.doc_stream.specs.Scans.{BreaksRest, IsAhead, Scans}
use Rattle.doc_stream.specs.Shown.{Asked, Shows}
use Rattle.doc_stream.specs.Memory.{HasHeadBehind}
use Rattle.doc_stream.specs.Steps.{Place, in_hand}
use Rattle.doc_stream.proofs.AddressReads.{cause_asked, refused}
use Rattle.doc_stream.proofs.Loads.{cause_reason, either_err, same_err}
use Rattle.doc_stream.proofs.RangeScans.{ahead, before_end, hand_none, head_from, low_ahead, scans_both, shown_first, breaks_records, all_records, only_records}
use Rattle.doc_stream.proofs.Unasked.{same_other}
use Rattle.doc_stream.proofs.reading.scan.Goals as goal

pub loop-reader-preserved : goal.loop-reader-preserved
loop-reader-preserved g c =
    let asked : Asked = record { revision = c.args.rev; tail = None; end = c.args.to } in
    let file = g.V.View.content c.args.view.now in
    let start = c.new-reader.result in
    let old = c.loop-reader.reader in
    let new = c.step.new.reader in
    let inv = c.loop-reader.invariant in
    let inv_later = inv.later in
    let step_later : old.next ≤ new.next = c.in_ok-step.ensures.later in
    record {
      ready = λ some. (ahead start.next old.next new.next (length old.bytes) inv_later (λ before. (inv.ready before).0) step_later (c.in_ok-step.ensures.advanced some), c.in_ok-step.ensures.ready some);
      later = omega arith;
      shown = elim inv.shown [
        | inl same ↦ inr (λ told. shown_first asked file (g.V.View.content c.loop-reader.view) start old c.new-reader.ensures.bytes (inv.content told) same (c.in_ok-step.ensures.shown told))
        | inr there ↦ inr there
      ];
      scanned = λ told.
          let more = c.in_ok-step.ensures.scanned told in
          subst (λ (l : List (ℕ × Rec)). Scans asked file start new l) (sym more.1)
          (scans_both asked refl file start old new c.loop-reader.records more.0 (inv.scanned told) (subst (λ (f : List Block). Scans asked f old new more.0) (inv.content told) more.2));
      content = λ told. c.in_ok-step.ensures.content told ∙ inv.content told;
      untroubled = c.in_ok-step.ensures.untroubled (λ is. cc) ∙ inv.untroubled;
      idle = λ none.
          let at = inv.idle none in
          let next : old.next ≡ start.next = ap (λ (q : Place). q.next) at.0 in
          let empty : length old.bytes ≡ 0 = ap (λ (q : Place). length q.bytes) at.0 ∙ c.new-reader.ensures.bytes in
          let less : (asked.end - new.next) * 4065 + length new.bytes < (asked.end - old.next) * 4065 + length old.bytes = c.in_ok-step.ensures.less in
          absurd (omega arith);
    }

-- what breaks the rest breaks the records asked
broken : (rev from to : ℕ) (file file' : List Block) (start now : Place) (done : List (ℕ × Rec)) (block : ℕ) → start.next ≡ from → length start.bytes ≡ 0 → file' ≡ file → start.next ≤ now.next → (1 ≤ length now.bytes → start.next < now.next)
    → Scans (record { revision = rev; tail = None; end = to }) file start now done → BreaksRest (record { revision = rev; tail = None; end = to }) file' now block → BreaksRecords rev file from (to - from) block
broken rev from to file file' start now done block next none same later ready scans breaks =
    let asked : Asked = record { revision = rev; tail = None; end = to } in
    subst (λ (n : ℕ). BreaksRecords rev file n (to - n) block) next
    (breaks_records asked refl file start (nil_from_length start.bytes none) now done block later ready scans (subst (λ (f : List Block). BreaksRest asked f now block) same breaks))

pub returns-in_err-step-clause-exact : goal.returns-in_err-step-clause-exact
returns-in_err-step-clause-exact g c told records of =
    let p = err_from_is_err_and c.from_residual.result c.from_residual.ensures.1 in
    let asked : Asked = record { revision = c.args.rev; tail = None; end = c.args.to } in
    let file = g.V.View.content c.args.view.now in
    let file' = g.V.View.content c.loop-reader.view in
    let inv = c.loop-reader.invariant in
    refused g.V.View.tells c.args.rev (BreaksRecords c.args.rev file c.args.from (c.args.to - c.args.from)) (g.V.View.faults c.loop-reader.view) (g.V.View.faults c.step.new.view) c.in_err-step.field-0.0 c.from_residual.result records
    (p.1 ∙ ap Err p.2) told
    (λ block breaks. breaks.broken file records refl of)
    (cause_reason g.V.View.tells c.args.rev (IsAhead asked c.loop-reader.reader) (BreaksRest asked file' c.loop-reader.reader) (BreaksRecords c.args.rev file c.args.from (c.args.to - c.args.from))
    (g.V.View.faults c.loop-reader.view) (g.V.View.faults c.loop-reader.view) (g.V.View.faults c.step.new.view) c.in_err-step.field-0.0 (omega arith)
    (λ told n near breaks. broken c.args.rev c.args.from c.args.to file file' c.new-reader.result c.loop-reader.reader c.loop-reader.records n c.new-reader.ensures.next c.new-reader.ensures.bytes (inv.content told) inv.later (λ some. (inv.ready some).0) (inv.scanned told) breaks)
    c.in_err-step.ensures.reason)

pub returns-in_err-step-clause-reason : goal.returns-in_err-step-clause-reason
returns-in_err-step-clause-reason g c =
    let p = err_from_is_err_and c.from_residual.result c.from_residual.ensures.1 in
    let asked : Asked = record { revision = c.args.rev; tail = None; end = c.args.to } in
    let file = g.V.View.content c.args.view.now in
    let file' = g.V.View.content c.loop-reader.view in
    let inv = c.loop-reader.invariant in
    let same = inv.untroubled in
    rw (p.1, p.2) (cause_reason g.V.View.tells c.args.rev (IsAhead asked c.loop-reader.reader) (BreaksRest asked file' c.loop-reader.reader) (BreaksRecords c.args.rev file c.args.from (c.args.to - c.args.from))
    (g.V.View.faults c.args.view.now) (g.V.View.faults c.loop-reader.view) (g.V.View.faults c.step.new.view) c.in_err-step.field-0.0 (omega arith)
    (λ told n near breaks. broken c.args.rev c.args.from c.args.to file file' c.new-reader.result c.loop-reader.reader c.loop-reader.records n c.new-reader.ensures.next c.new-reader.ensures.bytes (inv.content told) inv.later (λ some. (inv.ready some).0) (inv.scanned told) breaks)
    c.in_err-step.ensures.reason)

pub returns-in_err-step-clause-asked : goal.returns-in_err-step-clause-asked
returns-in_err-step-clause-asked g c asked_file block is =
    let p = err_from_is_err_and c.from_residual.result c.from_residual.ensures.1 in
    let asked : Asked = record { revision = c.args.rev; tail = None; end = c.args.to } in
    let file' = g.V.View.content c.loop-reader.view in
    let inv = c.loop-reader.invariant in
    let start = c.new-reader.result in
    let from : start.next ≡ c.args.from = c.new-reader.ensures.next in
    let why = same_err c.in_err-step.field-0.0 asked_file block (sym (p.1 ∙ ap Err p.2) ∙ is) in
    let at = cause_asked g.V.View.tells c.args.rev (IsAhead asked c.loop-reader.reader) (BreaksRest asked file' c.loop-reader.reader) (g.V.View.faults c.loop-reader.view) (g.V.View.faults c.step.new.view) c.in_err-step.field-0.0 asked_file block why c.in_err-step.ensures.reason in
    let low = low_ahead asked start.next c.loop-reader.reader block inv.later (λ some. (inv.ready some).0) at.1 in
    let least = low.0 in
    (at.0, omega arith, low.1)

pub returns-in_err-step-clause-first : goal.returns-in_err-step-clause-first
returns-in_err-step-clause-first g c told lt unsealed =
    let p = err_from_is_err_and c.from_residual.result c.from_residual.ensures.1 in
    let start = c.new-reader.result in
    let from : start.next ≡ c.args.from = c.new-reader.ensures.next in
    elim c.loop-reader.invariant.shown [
      | inl same ↦
          (let empty : length c.loop-reader.reader.bytes ≡ 0 = ap (λ (q : Place). length q.bytes) same ∙ c.new-reader.ensures.bytes in
          let at : c.loop-reader.reader.next ≡ c.args.from = ap (λ (q : Place). q.next) same ∙ from in
          either_err c.from_residual.result c.in_err-step.field-0.0 (Refusal.Damaged c.args.rev c.args.from) (p.1 ∙ ap Err p.2)
          (subst (λ (n : ℕ). (c.in_err-step.field-0.0 ≡ Refusal.DiskFault) ⊎ (c.in_err-step.field-0.0 ≡ Refusal.Damaged c.args.rev n)) at (c.in_err-step.ensures.memory empty)))
      | inr there ↦ (let shown = there told in absurd (unsealed shown.0 shown.1 (subst (λ (n : ℕ). Shows c.args.rev None (g.V.View.content c.args.view.now) n shown.0 shown.1) from shown.2)))
    ]

pub returns-clause-first : goal.returns-clause-first
returns-clause-first g c told lt unsealed =
    let start = c.new-reader.result in
    let from : start.next ≡ c.args.from = c.new-reader.ensures.next in
    let next : c.next.result ≡ c.loop-reader.reader.next = c.next.ensures in
    let past : c.args.to ≤ c.next.result = c.if-next-to.false in
    elim c.loop-reader.invariant.shown [
      | inl same ↦ (let at : c.loop-reader.reader.next ≡ start.next = ap (λ (q : Place). q.next) same in absurd (omega arith))
      | inr there ↦ (let shown = there told in absurd (unsealed shown.0 shown.1 (subst (λ (n : ℕ). Shows c.args.rev None (g.V.View.content c.args.view.now) n shown.0 shown.1) from shown.2)))
    ]

pub returns-clause-records : goal.returns-clause-records
returns-clause-records g c told =
    let asked : Asked = record { revision = c.args.rev; tail = None; end = c.args.to } in
    let file = g.V.View.content c.args.view.now in
    let start = c.new-reader.result in
    let next : c.next.result ≡ c.loop-reader.reader.next = c.next.ensures in
    let past : c.args.to ≤ c.next.result = c.if-next-to.false in
    subst (λ (n : ℕ). RecordsOf c.args.rev file n (c.args.to - n) c.loop-reader.records) c.new-reader.ensures.next
    (all_records asked refl file start (nil_from_length start.bytes c.new-reader.ensures.bytes) c.loop-reader.reader c.loop-reader.records (c.loop-reader.invariant.scanned told) (c.has_bytes.ensures.none c.if-has_bytes.false) (omega arith))

pub returns-clause-exact : goal.returns-clause-exact
returns-clause-exact g c told records of =
    let asked : Asked = record { revision = c.args.rev; tail = None; end = c.args.to } in
    let file = g.V.View.content c.args.view.now in
    let start = c.new-reader.result in
    let next : c.next.result ≡ c.loop-reader.reader.next = c.next.ensures in
    let past : c.args.to ≤ c.next.result = c.if-next-to.false in
    let same : records ≡ c.loop-reader.records =
    only_records asked refl file start (nil_from_length start.bytes c.new-reader.ensures.bytes) c.loop-reader.reader c.loop-reader.records (c.loop-reader.invariant.scanned told) (c.has_bytes.ensures.none c.if-has_bytes.false) (omega arith) records
    (subst (λ (n : ℕ). RecordsOf c.args.rev file n (c.args.to - n) records) (sym c.new-reader.ensures.next) of) in
    inl (ap Ok (sym same))

pub returns-in_err-step-clause-empty : goal.returns-in_err-step-clause-empty
returns-in_err-step-clause-empty g c none =
    let start = c.new-reader.result in
    let from : start.next ≡ c.args.from = c.new-reader.ensures.next in
    let at = c.loop-reader.invariant.idle (omega arith) in
    let next : c.loop-reader.reader.next ≡ start.next = ap (λ (q : Place). q.next) at.0 in
    let empty : length c.loop-reader.reader.bytes ≡ 0 = ap (λ (q : Place). length q.bytes) at.0 ∙ c.new-reader.ensures.bytes in
    let some : (c.loop-reader.reader.next < c.args.to) ⊎ (1 ≤ length c.loop-reader.reader.bytes) = search rules in
    let before = before_end c.loop-reader.reader.next c.args.to (length c.loop-reader.reader.bytes) some empty in
    absurd (omega arith)

pub returns-clause-empty : goal.returns-clause-empty
returns-clause-empty g c none =
    let start = c.new-reader.result in
    let from : start.next ≡ c.args.from = c.new-reader.ensures.next in
    let at = c.loop-reader.invariant.idle (omega arith) in
    (ap Ok at.1, at.2)

-- no memory is asked where no record is
never_asked : {S : Type 0} (result : Result S Refusal) (bytes : List ℕ) (why : Refusal) (revision next : ℕ) (x : S) → result ≡ Err why → length bytes ≡ 0 → (length bytes ≡ 0 → (why ≡ Refusal.DiskFault) ⊎ (why ≡ Refusal.Damaged revision next))
    → (result ≡ Ok x) ⊎ ((result ≡ Err Refusal.NoMemory) ⊎ (result ≡ Err Refusal.DiskFault)) → (result ≡ Ok x) ⊎ (result ≡ Err Refusal.DiskFault)
never_asked result bytes why revision next x is none others (inl ok) = inl ok
never_asked result bytes why revision next x is none others (inr (inr fault)) = inr fault
never_asked {S} result bytes why revision next x is none others (inr (inl memory)) =
    let both : ◌≡◌ {A = Result S Refusal} (Err why) (Err Refusal.NoMemory) = sym is ∙ memory in
    let one : why ≡ Refusal.NoMemory = cc in
    elim (others none) [
      | inl fault ↦ (let never : Refusal.DiskFault ≡ Refusal.NoMemory = sym fault ∙ one in absurd cc)
      | inr damaged ↦ (let never : Refusal.Damaged revision next ≡ Refusal.NoMemory = sym damaged ∙ one in absurd cc)
    ]

pub returns-in_err-step-clause-no_records : goal.returns-in_err-step-clause-no_records
returns-in_err-step-clause-no_records g c told of =
    let p = err_from_is_err_and c.from_residual.result c.from_residual.ensures.1 in
    let asked : Asked = record { revision = c.args.rev; tail = None; end = c.args.to } in
    let file = g.V.View.content c.args.view.now in
    let start = c.new-reader.result in
    let now = c.loop-reader.reader in
    let none = hand_none asked refl file start (nil_from_length start.bytes c.new-reader.ensures.bytes) now c.loop-reader.records (c.loop-reader.invariant.scanned told)
    (subst (λ (n : ℕ). RecordsOf c.args.rev file n (c.args.to - n) []) (sym c.new-reader.ensures.next) of) in
    never_asked c.from_residual.result now.bytes c.in_err-step.field-0.0 c.args.rev now.next [] (p.1 ∙ ap Err p.2) none c.in_err-step.ensures.memory (returns-in_err-step-clause-exact g c told [] of)

pub returns-clause-no_records : goal.returns-clause-no_records
returns-clause-no_records g c told of =
    elim (returns-clause-exact g c told [] of) [
      | inl ok ↦ inl ok
      | inr other ↦ elim other [
        | inl memory ↦ absurd cc
        | inr fault ↦ inr fault
      ]
    ]

pub returns-in_err-step-clause-memory : goal.returns-in_err-step-clause-memory
returns-in_err-step-clause-memory g c told same =
    let p = err_from_is_err_and c.from_residual.result c.from_residual.ensures.1 in
    let asked : Asked = record { revision = c.args.rev; tail = None; end = c.args.to } in
    let file = g.V.View.content c.args.view.now in
    let file' = g.V.View.content c.loop-reader.view in
    let start = c.new-reader.result in
    let now = c.loop-reader.reader in
    let inv = c.loop-reader.invariant in
    let here = c.in_err-step.ensures.head told (same_other c.in_err-step.field-0.0 Refusal.NoMemory c.from_residual.result (p.1 ∙ ap Err p.2) same) in
    subst (λ (n : ℕ). HasHeadBehind c.args.rev c.args.to file [] n) c.new-reader.ensures.next
    (head_from asked refl file start (nil_from_length start.bytes c.new-reader.ensures.bytes) now c.loop-reader.records (inv.scanned told)
    (subst (λ (f : List Block). HasHeadBehind c.args.rev c.args.to f (in_hand now ∷ []) now.next) (inv.content told) here))
