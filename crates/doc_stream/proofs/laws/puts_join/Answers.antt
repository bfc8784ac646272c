use Rattle.doc_stream.proofs.Puts.{put_both, put_nothing}
use Rattle.doc_stream.proofs.laws.puts_join.Goals as goal

pub returns-clause-join : goal.returns-clause-join
returns-clause-join c = put_both

pub returns-clause-none : goal.returns-clause-none
returns-clause-none c = put_nothing
