use Rattle.std.proofs.Common.{◌+◌, ℕ, Some, ap, arith, refl, ◌∙◌, sym}
use Rattle.std.proofs.lemmas.Bool.{both_ways}
use Rattle.node_page.proofs.StemParts.{stem_read, stem_made}
use Rattle.node_page.proofs.stem.stem_of.Goals as goal
use Rattle.node_page.proofs.stem.stem_of.Goals.{then-count-gt-MOST_SKIPPED-via-then-count-gt-MOST_SKIPPED, then-count-gt-MOST_SKIPPED-via-else-count-gt-MOST_SKIPPED+then-from-count}

pub returns-then-count-gt-MOST_SKIPPED-clause-cases : goal.returns-then-count-gt-MOST_SKIPPED-clause-cases
returns-then-count-gt-MOST_SKIPPED-clause-cases c root chunks is =
    let read = stem_read c.args.page.now root chunks c.long_at-root.result c.long_at-count.result is c.long_at-root.ensures c.long_at-count.ensures in
    elim c.then-count-gt-MOST_SKIPPED.branch [
      | then-count-gt-MOST_SKIPPED-via-then-count-gt-MOST_SKIPPED w ↦ omega (arith, w.if-count-gt-MOST_SKIPPED.true, read.count_read, is.most)
      | then-count-gt-MOST_SKIPPED-via-else-count-gt-MOST_SKIPPED+then-from-count w ↦ w.if-from-count.true (w.from.ensures ∙ read.len)
    ]

pub returns-then-count-gt-MOST_SKIPPED-clause-exact : goal.returns-then-count-gt-MOST_SKIPPED-clause-exact
returns-then-count-gt-MOST_SKIPPED-clause-exact c root chunks is = absurd (returns-then-count-gt-MOST_SKIPPED-clause-cases c root chunks is)

pub returns-then-is_zero_from-clause-cases : goal.returns-then-is_zero_from-clause-cases
returns-then-is_zero_from-clause-cases c =
    stem_made c.args.page.now c.long_at-root.result c.long_at-count.result (2 + c.long_at-count.result)
    c.is_zero_from.ensures.bytes c.is_zero_from.ensures.whole c.long_at-root.ensures c.long_at-count.ensures c.if-count-gt-MOST_SKIPPED.false
    (sym c.from.ensures ∙ c.if-from-count.false) refl (c.is_zero_from.ensures.cases.0 c.if-is_zero_from.true)

pub returns-then-is_zero_from-clause-exact : goal.returns-then-is_zero_from-clause-exact
returns-then-is_zero_from-clause-exact c root chunks is =
    let read = stem_read c.args.page.now root chunks c.long_at-root.result c.long_at-count.result is c.long_at-root.ensures c.long_at-count.ensures in
    ap (λ (k : ℕ). Some (k, c.long_at-count.result)) read.root_read ∙ ap (λ (k : ℕ). Some (root, k)) read.count_read

pub returns-else-is_zero_from-clause-cases : goal.returns-else-is_zero_from-clause-cases
returns-else-is_zero_from-clause-cases c root chunks is =
    let read = stem_read c.args.page.now root chunks c.long_at-root.result c.long_at-count.result is c.long_at-root.ensures c.long_at-count.ensures in
    both_ways c.is_zero_from.result c.if-is_zero_from.false (c.is_zero_from.ensures.cases.1 read.zeros)

pub returns-else-is_zero_from-clause-exact : goal.returns-else-is_zero_from-clause-exact
returns-else-is_zero_from-clause-exact c root chunks is = absurd (returns-else-is_zero_from-clause-cases c root chunks is)
