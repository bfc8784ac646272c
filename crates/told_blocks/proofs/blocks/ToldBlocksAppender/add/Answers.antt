use Rattle.std.proofs.Common.{◌≡◌, length, rules}
use Rattle.told_blocks.specs.Told.{Told}
use Rattle.told_blocks.proofs.Added.{adds_to}
use Rattle.told_blocks.proofs.blocks.ToldBlocksAppender.add.Goals as goal

pub returns-in-Ok-clause-added : goal.returns-in-Ok-clause-added
returns-in-Ok-clause-added c = λ told.
    let inside = c.self.inside in
    let u : Told = record { file = inside.file; content = inside.content.items; seen = inside.seen.blocks.items; tail = inside.tail; most = inside.most; faults = inside.faults } in
    let place : c.len-at.result ≡ length c.self.inside.content.items = search rules in
    adds_to c.args.self.now u c.push.new.self.items c.seal-block.result c.args.kind c.len-at.result c.args.page.now c.meanings_stay.ensures.still c.blocks_mean_what_is_sealed.ensures.stored c.requires.kind c.requires.paged c.self.view_is
    place c.seal-block.ensures c.in-Ok.ensures.items
