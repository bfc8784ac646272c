use Rattle.std.proofs.Common.{◌≡◌, ◌+◌, ◌*◌, ◌++◌, length, take, true}
use Rattle.std.specs.List.{flat_map, list_all}
use Rattle.node_page.specs.Nodes.{entry_bytes, fits, node_head}
use Rattle.node_page.specs.Pages.{IsPage}
use Rattle.node_page.proofs.node.leaf_from.Given as goal

abbrev pub invariant-loop-chunk : goal.invariant-loop-chunk
invariant-loop-chunk l = record {
  len : l.page.len ≡ 16 + 16 * l.chunk-index;
  fit : list_all fits (take l.chunk-index l.entries) ≡ true;
  page : IsPage (node_head l.leaf (length l.entries) ++ flat_map entry_bytes (take l.chunk-index l.entries)) l.page;
}
