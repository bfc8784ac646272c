use Rattle.std.proofs.Common.{◌∙◌, arith, length-append}
use Rattle.node_page.proofs.Written.{put_page}
use Rattle.node_page.proofs.page.Page.add.Goals as goal

pub returns-clause-page : goal.returns-clause-page
returns-clause-page c front is = record {
  fits = omega (arith, is.len, length-append front c.args.part.now);
  len = omega (arith, is.len, length-append front c.args.part.now);
  bytes = put_page 4064 front c.args.part.now c.args.self.now.bytes c.copy_from_slice.new.self c.from-from.result (c.from-from.ensures ∙ is.len) is.bytes c.copy_from_slice.ensures.after;
}
