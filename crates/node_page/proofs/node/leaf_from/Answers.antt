use Rattle.std.proofs.Common.{◌≡◌, ◌++◌, true, ℕ, List, length, take, get_or, arith, refl, sym, subst, ap, ◌∙◌, append_assoc}
use Rattle.std.specs.List.{flat_map, list_all}
use Rattle.std.proofs.lemmas.List.{append-nil, take_all}
use Rattle.node_page.specs.Nodes.{Entry, entry_bytes, fits, long, node_head}
use Rattle.node_page.specs.Pages.{IsPage}
use Rattle.node_page.proofs.Written.{one_fits, one_more}
use Rattle.node_page.proofs.node.leaf_from.Goals as goal

pub loop-chunk-init : goal.loop-chunk-init
loop-chunk-init c = record {
  len = c.of-page.ensures.len ∙ ap length c.head_bytes.ensures;
  fit = refl;
  page = subst (λ (bytes : List ℕ). IsPage bytes c.of-page.result) (c.head_bytes.ensures ∙ sym (append-nil (node_head c.args.leaf (length c.args.entries.now)))) c.of-page.ensures;
}

pub loop-chunk-preserved : goal.loop-chunk-preserved
loop-chunk-preserved c =
    let front = node_head c.args.leaf (length c.args.entries.now) in
    let written = front ++ flat_map entry_bytes (take c.loop-chunk.chunk-index c.args.entries.now) in
    let e : Entry = get_or c.args.entries.now c.loop-chunk.chunk-index (0, 0) in
    record {
      len = omega (arith, c.add_long-in-loop-chunk.ensures.len, c.add_long.ensures.len, c.loop-chunk.invariant.len);
      fit = one_fits c.args.entries.now c.loop-chunk.chunk-index (0, 0) c.loop-chunk-test.true c.loop-chunk.invariant.fit c.add_long.ensures.fits c.add_long-in-loop-chunk.ensures.fits;
      page = subst (λ (bytes : List ℕ). IsPage bytes c.add_long-in-loop-chunk.new.self)
          (append_assoc written (long e.0) (long e.1) ∙ one_more entry_bytes front c.args.entries.now c.loop-chunk.chunk-index (0, 0) c.loop-chunk-test.true)
          (c.add_long-in-loop-chunk.ensures.page (written ++ long e.0) (c.add_long.ensures.page written c.loop-chunk.invariant.page));
    }

pub returns : goal.returns
returns c =
    let all = take_all c.loop-chunk.chunk-index c.args.entries.now c.loop-chunk-test.false in
    record {
      some = c.requires.some;
      most = c.requires.most;
      rise = c.requires.rise;
      fit = subst (λ (es : List Entry). list_all fits es ≡ true) all c.loop-chunk.invariant.fit;
      bytes = subst (λ (es : List Entry). IsPage (node_head c.args.leaf (length c.args.entries.now) ++ flat_map entry_bytes es) c.loop-chunk.page) all c.loop-chunk.invariant.page;
    }
