use Rattle.std.proofs.Common.{◌≡◌, true}
use Rattle.host_files.proofs.Cutting.{block_there}
use Rattle.host_files.proofs.blocks.read_block.Goals as goal

pub returns-else-not-branch : goal.returns-else-not-branch
returns-else-not-branch g c told =
    block_there (g.O.Opened.bytes c.args.opened.now) c.fill.new.room c.args.at c.in-Some.place c.in_ok-fill.field-0 c.in-Some.ensures.0 (let all : c.in_ok-fill.field-0 ≡ true = search in all) (c.in_ok-fill.ensures.given told) (c.in_ok-fill.ensures.whole told)
