use Rattle.file_parts.proofs.Growing.{appended_grows}
use Rattle.file_parts.proofs.Keeping.{appended_front}
use Rattle.file_parts.proofs.writes.put_at_end.Goals as goal

pub returns-clause-front : goal.returns-clause-front
returns-clause-front g c = λ told. appended_front _ _ _ _ _ (c.append.ensures.told told)

pub returns-clause-crash : goal.returns-clause-crash
returns-clause-crash g c = λ told. appended_grows _ _ _ _ _ (c.append.ensures.told told)
