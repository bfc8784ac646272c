use Rattle.std.proofs.Common.{sym, ap, ◌∙◌, arith}
use Rattle.plain_session.proofs.Numbers.{Pairs, filled, last_filled, filled_is, nothing}
use Rattle.plain_session.proofs.lists.by_number.Goals as goal

pub loop-seq-preserved-in_ok-insert : goal.loop-seq-preserved-in_ok-insert
loop-seq-preserved-in_ok-insert c =
    ap (filled c.pop.new.self.items) c.in_ok-insert.ensures.entries
    ∙ sym (last_filled c.pop.new.self.items (c.in-Some.seq, c.in-Some.key) c.loop-seq.ordered.entries)
    ∙ ap (λ (es : Pairs). filled es c.loop-seq.ordered.entries) (sym c.in-Some.ensures.items) ∙ c.loop-seq.invariant

pub loop-seq-preserved : goal.loop-seq-preserved
loop-seq-preserved c =
    ap (filled c.pop.new.self.items) c.in_ok-insert.ensures.entries
    ∙ sym (last_filled c.pop.new.self.items (c.in-Some.seq, c.in-Some.key) c.loop-seq.ordered.entries)
    ∙ ap (λ (es : Pairs). filled es c.loop-seq.ordered.entries) (sym c.in-Some.ensures.items) ∙ c.loop-seq.invariant

pub returns : goal.returns
returns c =
    ap (λ (es : Pairs). filled es c.loop-seq.ordered.entries) (sym (nothing c.loop-seq.pairs.items (omega (arith, c.in_default.ensures.cases.0, c.loop-seq.pairs.ok.0))))
    ∙ c.loop-seq.invariant ∙ filled_is c.args.pairs.items
