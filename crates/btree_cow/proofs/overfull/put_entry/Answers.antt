use Rattle.std.proofs.Common.{◌∙◌, sym}
use Rattle.btree_cow.proofs.WithEntries.{put_over, put_between}
use Rattle.btree_cow.proofs.overfull.put_entry.Goals as goal

pub returns-then-is_at : goal.returns-then-is_at
returns-then-is_at c =
    put_over c.args.entries.now.items _ _ _ c.count_below-place.result c.args.chunk c.args.value c.as_slice.ensures.value c.as_slice-2.ensures.value c.as_mut_slice.ensures.value c.count_below-place.ensures
    (sym c.is_at.ensures ∙ c.if-is_at.true)

pub returns-else-is_at : goal.returns-else-is_at
returns-else-is_at c =
    put_between c.args.entries.now.items _ _ _ c.count_below-place.result c.args.chunk c.args.value c.as_slice.ensures.value c.as_slice-2.ensures.value c.insert.ensures.items c.count_below-place.ensures
    (sym c.is_at.ensures ∙ c.if-is_at.false)
