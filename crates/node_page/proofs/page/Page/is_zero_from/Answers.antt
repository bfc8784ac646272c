use Rattle.std.proofs.Common.{rules, sym, ◌∙◌}
use Rattle.node_page.proofs.Longs.{zero_more, zero_there, zero_at_end}
use Rattle.node_page.proofs.page.Page.is_zero_from.Goals as goal

pub returns-then-long_at-ne0-clause-cases : goal.returns-then-long_at-ne0-clause-cases
returns-then-long_at-ne0-clause-cases c =
    ((λ is. absurd (search rules)), λ zeros. absurd (c.if-long_at-ne0.true (c.long_at.ensures ∙ zero_there c.args.self.now.bytes c.args.used c.loop-n.n c.loop-n.auto.n c.loop-n-test.true zeros)))

pub loop-n-preserved : goal.loop-n-preserved
loop-n-preserved c zeros =
    c.loop-n.invariant (zero_more c.args.self.now.bytes c.loop-n.n c.known.ensures (search rules) c.loop-n-test.true (sym c.long_at.ensures ∙ c.if-long_at-ne0.false) zeros)

pub returns-clause-cases : goal.returns-clause-cases
returns-clause-cases c = ((λ is. c.loop-n.invariant (zero_at_end c.args.self.now.bytes c.loop-n.n (search rules) c.loop-n-test.false)), λ zeros. search rules)
