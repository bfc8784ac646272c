use Rattle.model_laws.proofs.Free.{answered_free, free_answered}
use Rattle.model_laws.proofs.FreeCalls.{free_is}
use Rattle.model_laws.proofs.RefusedCalls.{refused_by}
use Rattle.model_laws.proofs.answers.Goals as goal

pub returns-clause-answered : goal.returns-clause-answered
returns-clause-answered c = λ s file call. (λ h. (free_is s file call).0 (answered_free s file call h), λ n. free_answered s file call ((free_is s file call).1 n))

pub returns-clause-refused : goal.returns-clause-refused
returns-clause-refused c = refused_by
