use Rattle.std.proofs.Common.{◌≡◌, subst, ap}
use Rattle.std.specs.Prelude.{IfOk}
use Rattle.store_settings.specs.Profile.{where_of, request_of}
use Rattle.store_settings.proofs.words.place_of.Goals as goal

pub returns-in-Ok-clause-place : goal.returns-in-Ok-clause-place
returns-in-Ok-clause-place c = λ request ask.
    let same : request_of c.in-Ok.asked ≡ request = c.in-Ok.ensures.all request ask in
    subst (λ d. IfOk c.where_of.result (λ w. w ≡ where_of d)) (ap (λ q. q.dir) same) c.where_of.ensures.ok

pub returns-in-Err-clause-place : goal.returns-in-Err-clause-place
returns-in-Err-clause-place c = λ request ask. absurd (c.in-Err.ensures.all request ask)
