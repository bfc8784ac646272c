use Rattle.std.proofs.Common.{subst}
use Rattle.script_text.specs.Replies.{CanBeSaid}
use Rattle.script_text.proofs.reply.put_said.Goals as goal

pub put_refused-requires : goal.put_refused-requires
put_refused-requires c = subst CanBeSaid c.in-Refused.is c.requires
