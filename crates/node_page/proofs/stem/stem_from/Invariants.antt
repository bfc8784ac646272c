use Rattle.std.proofs.Common.{◌≡◌, ◌+◌, ◌*◌, ◌++◌, length, take}
use Rattle.std.specs.List.{flat_map}
use Rattle.node_page.specs.Nodes.{long}
use Rattle.node_page.specs.Pages.{IsPage}
use Rattle.node_page.proofs.stem.stem_from.Given as goal

abbrev pub invariant-loop-chunk : goal.invariant-loop-chunk
invariant-loop-chunk l = record {
  len : l.page.len ≡ 16 + 8 * l.chunk-index;
  page : IsPage (long l.root ++ long (length l.skipped) ++ flat_map long (take l.chunk-index l.skipped)) l.page;
}
