use Rattle.std.proofs.Common.{◌≡◌, ◌≤◌, ◌<◌, ◌+◌, ◌-◌, ◌/◌, ◌%◌, ℕ, length, Bool, true, false, Option, Some, sym, ◌∙◌, ap, arith, rules, subst}
use Rattle.std.proofs.lemmas.Result.{err_from_is_err_and}
use Rattle.forest_model.specs.declared.refusal.Refusal.TheVariants as Refusal
use Rattle.doc_stream.specs.Causes.{BreaksRecord}
use Rattle.doc_stream.specs.Sources.{asked_of}
use Rattle.doc_stream.specs.OpenBlock.{OpenBlock}
use Rattle.doc_stream.specs.Shown.{Asked, Unsealed}
use Rattle.doc_stream.specs.Steps.{Loads}
use Rattle.doc_stream.specs.Unasked.{IsOpenAt}
use Rattle.doc_stream.proofs.AddressReads.{breaks_unsealed, breaks_other, breaks_short, hand_is, starts_from}
use Rattle.doc_stream.proofs.Loads.{missing_of, missing_damaged}
use Rattle.doc_stream.proofs.Unasked.{short_skipped}
use Rattle.doc_stream.proofs.reading.go_to.Goals as goal

pub returns-in_err-load-clause-missing : goal.returns-in_err-load-clause-missing
returns-in_err-load-clause-missing g c =
    let p = err_from_is_err_and c.from_residual.result c.from_residual.ensures.1 in
    let asked = asked_of c.args.source.now in
    let file = g.V.View.content c.args.view.now in
    let tail = c.args.tail.now in
    let address = c.args.address in
    let next : c.args.reader.now.next ≡ address / 4096 = c.requires.at in
    rw (p.1, p.2) (missing_of g.V.View.tells asked.revision c.args.reader.now.next (address / 4096) (Unsealed asked file c.args.reader.now.next) (BreaksRecord asked.revision file tail address (address / 4096))
    (g.V.View.faults c.args.view.now) (g.V.View.faults c.load.new.view) c.in_err-load.field-0.0 next
    (λ told h. breaks_unsealed asked tail c.requires.open_block c.requires.end file address (subst (λ (k : ℕ). Unsealed asked file k) next h))
    c.in_err-load.ensures.missing)

pub returns-then-not-branch-clause-missing : goal.returns-then-not-branch-clause-missing
returns-then-not-branch-clause-missing g c =
    let asked = asked_of c.args.source.now in
    let file = g.V.View.content c.args.view.now in
    let tail = c.args.tail.now in
    let address = c.args.address in
    let next : c.args.reader.now.next ≡ address / 4096 = c.requires.at in
    let after : c.load.new.self.next ≡ c.args.reader.now.next + 1 = c.in_ok-load.ensures.next in
    let block : c.load.new.self.next - 1 ≡ address / 4096 = omega arith in
    missing_damaged g.V.View.tells asked.revision (address / 4096) (BreaksRecord asked.revision file tail address (address / 4096)) (g.V.View.faults c.args.view.now) (g.V.View.faults c.load.new.view) c.damaged.result
    (c.damaged.ensures ∙ ap (λ (n : ℕ). Refusal.Damaged asked.revision n) block)
    (λ told.
    let loads : Loads asked file (address / 4096) c.load.new.self false = subst (λ (k : ℕ). Loads asked file k c.load.new.self false) next (subst (λ (b : Bool). Loads asked file c.args.reader.now.next c.load.new.self b) c.if-not-branch.true (c.in_ok-load.ensures.loaded told)) in
    let other = loads.1 in
    breaks_other asked tail c.requires.open_block c.requires.end file address other.0 other.1 other.2 other.3)

pub returns-then-left-offset-clause-missing : goal.returns-then-left-offset-clause-missing
returns-then-left-offset-clause-missing g c =
    let asked = asked_of c.args.source.now in
    let file = g.V.View.content c.args.view.now in
    let tail = c.args.tail.now in
    let address = c.args.address in
    let next : c.args.reader.now.next ≡ address / 4096 = c.requires.at in
    let after : c.load.new.self.next ≡ c.args.reader.now.next + 1 = c.in_ok-load.ensures.next in
    let block : c.load.new.self.next - 1 ≡ address / 4096 = omega arith in
    let left : c.left.result ≡ length c.load.new.self.bytes = c.left.ensures in
    let short : c.left.result ≤ address % 4096 = c.if-left-offset.true in
    missing_damaged g.V.View.tells asked.revision (address / 4096) (BreaksRecord asked.revision file tail address (address / 4096)) (g.V.View.faults c.args.view.now) (g.V.View.faults c.load.new.view) c.damaged-then-left-offset.result
    (c.damaged-then-left-offset.ensures ∙ ap (λ (n : ℕ). Refusal.Damaged asked.revision n) block)
    (λ told.
    let loads : Loads asked file (address / 4096) c.load.new.self true = subst (λ (k : ℕ). Loads asked file k c.load.new.self true) next (subst (λ (b : Bool). Loads asked file c.args.reader.now.next c.load.new.self b) c.if-not-branch.false (c.in_ok-load.ensures.loaded told)) in
    breaks_short asked tail c.requires.open_block c.requires.end file address c.load.new.self.bytes (omega arith) loads.1)

pub returns-clause-starts : goal.returns-clause-starts
returns-clause-starts g c told =
    let asked = asked_of c.args.source.now in
    let file = g.V.View.content c.args.view.now in
    let tail = c.args.tail.now in
    let address = c.args.address in
    let next : c.args.reader.now.next ≡ address / 4096 = c.requires.at in
    let after : c.load.new.self.next ≡ c.args.reader.now.next + 1 = c.in_ok-load.ensures.next in
    let kept : c.skip.new.self.next ≡ c.load.new.self.next = c.skip.ensures.next in
    let left : c.left.result ≡ length c.load.new.self.bytes = c.left.ensures in
    let inside : address % 4096 < c.left.result = c.if-left-offset.false in
    let loads : Loads asked file (address / 4096) c.load.new.self true = subst (λ (k : ℕ). Loads asked file k c.load.new.self true) next (subst (λ (b : Bool). Loads asked file c.args.reader.now.next c.load.new.self b) c.if-not-branch.false (c.in_ok-load.ensures.loaded told)) in
    let at_start : c.load.new.self.offset ≡ 0 = loads.0 in
    let moved : c.skip.new.self.offset ≡ c.load.new.self.offset + address % 4096 = c.skip.ensures.offset in
    starts_from asked tail c.requires.open_block c.requires.end file address c.skip.new.self c.load.new.self.bytes (omega arith) (omega arith) c.skip.ensures.bytes (omega arith) loads.1

pub returns-clause-shown : goal.returns-clause-shown
returns-clause-shown g c told =
    let asked = asked_of c.args.source.now in
    let file = g.V.View.content c.args.view.now in
    let next : c.args.reader.now.next ≡ c.args.address / 4096 = c.requires.at in
    let loads : Loads asked file (c.args.address / 4096) c.load.new.self true = subst (λ (k : ℕ). Loads asked file k c.load.new.self true) next (subst (λ (b : Bool). Loads asked file c.args.reader.now.next c.load.new.self b) c.if-not-branch.false (c.in_ok-load.ensures.loaded told)) in
    let asked_next : c.load.new.self.next ≡ c.args.reader.now.next + 1 = c.in_ok-load.ensures.next in
    let kept : c.skip.new.self.next ≡ c.load.new.self.next = c.skip.ensures.next in
    let left : c.left.result ≡ length c.load.new.self.bytes = c.left.ensures in
    let inside : c.args.address % 4096 < c.left.result = c.if-left-offset.false in
    let at_start : c.load.new.self.offset ≡ 0 = loads.0 in
    let moved : c.skip.new.self.offset ≡ c.load.new.self.offset + c.args.address % 4096 = c.skip.ensures.offset in (
      c.load.new.self.bytes,
      loads.1,
      omega arith,
      hand_is asked c.args.tail.now c.requires.open_block c.requires.end file c.args.address c.skip.new.self c.load.new.self.bytes (omega arith) (omega arith) c.skip.ensures.bytes (omega arith) loads.1,
    )

-- the open block comes into hand
opened : (asked : Asked) (tail : OpenBlock) (at block : ℕ) → asked.tail ≡ Some tail → at ≡ block → block ≡ tail.number → IsOpenAt asked.tail at
opened asked tail at block open_is next here = subst (λ (t : Option OpenBlock). IsOpenAt t at) (sym open_is) (next ∙ here)

pub returns-in_err-load-clause-here : goal.returns-in_err-load-clause-here
returns-in_err-load-clause-here g c here =
    let is = c.in_err-load.ensures.here (opened (asked_of c.args.source.now) c.args.tail.now c.args.reader.now.next (c.args.address / 4096) c.requires.open_block c.requires.at here) in
    let never = is.1 in
    absurd cc

pub returns-then-not-branch-clause-here : goal.returns-then-not-branch-clause-here
returns-then-not-branch-clause-here g c here =
    let is = c.in_ok-load.ensures.here (opened (asked_of c.args.source.now) c.args.tail.now c.args.reader.now.next (c.args.address / 4096) c.requires.open_block c.requires.at here) in
    let found = is.1 in
    let not = c.if-not-branch.true in
    absurd cc

pub returns-then-left-offset-clause-here : goal.returns-then-left-offset-clause-here
returns-then-left-offset-clause-here g c here =
    let is = c.in_ok-load.ensures.here (opened (asked_of c.args.source.now) c.args.tail.now c.args.reader.now.next (c.args.address / 4096) c.requires.open_block c.requires.at here) in
    (is.0, search rules, tt)

pub returns-clause-here : goal.returns-clause-here
returns-clause-here g c here =
    let is = c.in_ok-load.ensures.here (opened (asked_of c.args.source.now) c.args.tail.now c.args.reader.now.next (c.args.address / 4096) c.requires.open_block c.requires.at here) in
    let left : c.left.result ≡ length c.load.new.self.bytes = c.left.ensures in
    let inside : c.args.address % 4096 < c.left.result = c.if-left-offset.false in
    (is.0, (λ same. cc), short_skipped c.load.new.self c.skip.new.self (c.args.address % 4096) c.skip.ensures.offset c.skip.ensures.bytes (omega arith) is.2)
