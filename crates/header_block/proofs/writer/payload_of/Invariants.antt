use Rattle.std.proofs.Common.{◌≡◌, ◌+◌, ◌*◌, ◌++◌, take}
use Rattle.std.specs.List.{flat_map}
use Rattle.node_page.specs.Pages.{IsPage}
use Rattle.header_block.specs.Layout.{fields, store_bytes}
use Rattle.header_block.proofs.writer.payload_of.Given as goal

abbrev pub invariant-loop-n : goal.invariant-loop-n
invariant-loop-n l = record {
  len : l.writer.page.len ≡ 72 + 56 * l.n;
  page : IsPage (fields l.header ++ flat_map store_bytes (take l.n l.header.stores)) l.writer.page;
}
