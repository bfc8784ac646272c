use Rattle.play_run.specs.Playing.{position}
use Rattle.std.proofs.Common.{subst, sym, ◌∙◌, ◌≢◌, ◌≡◌, [], List, ℕ}
use Rattle.play_run.proofs.Ending.{ends_empty, ends_last, ends_stops, nonempty, empty}
use Rattle.play_run.proofs.player.Player.end.Goals as goal

pub returns-then-is_empty-clause-ends : goal.returns-then-is_empty-clause-ends
returns-then-is_empty-clause-ends g c = λ base taken short has.
    ends_empty _ base _ taken c.args.self.now.open_line.items (position c.args.self.now.session.file.parts c.args.self.now.session.lanes) c.args.self.now.count has short
    (subst (λ (xs : List ℕ). xs ≡ []) c.as_slice.ensures.value (empty c.as_slice.result.now (sym c.is_empty.ensures ∙ c.if-is_empty.true)))

pub returns-in-Ok-clause-ends : goal.returns-in-Ok-clause-ends
returns-in-Ok-clause-ends g c = λ base taken short has.
    ends_last _ base _ _ taken c.args.self.now.open_line.items _ _ c.args.self.now.count _ has short
    (subst (λ (xs : List ℕ). xs ≢ []) c.as_slice.ensures.value (nonempty c.as_slice.result.now (sym c.is_empty.ensures ∙ c.if-is_empty.false)))
    (c.in-Ok.ensures.run base)

pub returns-in-Err-clause-ends : goal.returns-in-Err-clause-ends
returns-in-Err-clause-ends g c = λ base taken short has.
    ends_stops _ base _ taken c.args.self.now.open_line.items (position c.args.self.now.session.file.parts c.args.self.now.session.lanes) c.args.self.now.count has
    (subst (λ (xs : List ℕ). xs ≢ []) c.as_slice.ensures.value (nonempty c.as_slice.result.now (sym c.is_empty.ensures ∙ c.if-is_empty.false)))
    _ _ _ c.in-Err.ensures.stops c.in-Err.ensures.same_count
