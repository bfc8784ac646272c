use Rattle.std.proofs.Common.{◌++◌, ℕ, List, [], length, take, arith, sym, subst}
use Rattle.std.specs.List.{flat_map}
use Rattle.std.proofs.lemmas.List.{append-nil, take_all}
use Rattle.node_page.specs.Nodes.{long}
use Rattle.node_page.specs.Pages.{IsPage}
use Rattle.node_page.proofs.Written.{all_long, one_more}
use Rattle.node_page.proofs.stem.stem_from.Goals as goal

pub loop-chunk-init : goal.loop-chunk-init
loop-chunk-init c = record {
  len = omega (arith, c.add_long-2.ensures.len, c.add_long.ensures.len, c.of-page.ensures.len);
  page = subst (λ (bytes : List ℕ). IsPage bytes c.add_long-2.new.self) (sym (append-nil (long c.args.root ++ long (length c.args.skipped.now))))
      (c.add_long-2.ensures.page (long c.args.root) (c.add_long.ensures.page [] c.of-page.ensures));
}

pub loop-chunk-preserved : goal.loop-chunk-preserved
loop-chunk-preserved c =
    let front = long c.args.root ++ long (length c.args.skipped.now) in
    record {
      len = omega (arith, c.add_long-in-loop-chunk.ensures.len, c.loop-chunk.invariant.len);
      page = subst (λ (bytes : List ℕ). IsPage bytes c.add_long-in-loop-chunk.new.self) (one_more long front c.args.skipped.now c.loop-chunk.chunk-index 0 c.loop-chunk-test.true)
          (c.add_long-in-loop-chunk.ensures.page (front ++ flat_map long (take c.loop-chunk.chunk-index c.args.skipped.now)) c.loop-chunk.invariant.page);
    }

pub returns : goal.returns
returns c = record {
  most = c.requires;
  small = c.add_long.ensures.fits;
  fit = all_long c.args.skipped.now (λ i. omega (arith, c.type_inv.skipped i));
  bytes = subst (λ (chunks : List ℕ). IsPage (long c.args.root ++ long (length c.args.skipped.now) ++ flat_map long chunks) c.loop-chunk.page)
      (take_all c.loop-chunk.chunk-index c.args.skipped.now c.loop-chunk-test.false) c.loop-chunk.invariant.page;
}
