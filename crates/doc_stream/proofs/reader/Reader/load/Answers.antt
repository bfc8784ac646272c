use Rattle.std.proofs.Common.{◌≡◌, ℕ, List, [], take, refl, ap, subst}
use Rattle.std.proofs.lemmas.Result.{err_from_is_err_and}
use Rattle.doc_stream.specs.Sources.{asked_of}
use Rattle.doc_stream.specs.Shown.{IsNotOpen, Stands, Unsealed}
use Rattle.doc_stream.specs.Steps.{Place}
use Rattle.doc_stream.proofs.Loads.{loads_others, unsealed, missing_of}
use Rattle.doc_stream.proofs.Unasked.{open_not}
use Rattle.doc_stream.proofs.reader.Reader.load.Goals as goal

pub returns-in_err-kind-clause-missing : goal.returns-in_err-kind-clause-missing
returns-in_err-kind-clause-missing g c =
    let p = err_from_is_err_and c.from_residual.result c.from_residual.ensures.1 in
    let asked = asked_of c.args.source.now in
    let file = g.V.View.content c.args.view.now in
    let at = c.args.self.now.next in
    let next : c.self.inside.next ≡ at = ap (λ (p : Place). p.next) c.self.view_is in
    let not : IsNotOpen asked.tail at = subst (λ (k : ℕ). IsNotOpen asked.tail k) next c.in_default.ensures in
    rw (p.1, p.2) (missing_of g.V.View.tells asked.revision c.self.inside.next at ((kind : ℕ) (payload : List ℕ) → Stands asked.revision file c.self.inside.next kind payload → ⊥) (Unsealed asked file at)
    (g.V.View.faults c.args.view.now) (g.V.View.faults c.fetch.new.view) c.in_err-kind.field-0.0 next
    (λ told h. unsealed asked file at not (subst (λ (k : ℕ). (kind : ℕ) (payload : List ℕ) → Stands asked.revision file k kind payload → ⊥) next h))
    c.in_err-kind.ensures.missing)

pub returns-then-kind-ne1-clause-loaded : goal.returns-then-kind-ne1-clause-loaded
returns-then-kind-ne1-clause-loaded g c told =
    let asked = asked_of c.args.source.now in
    let file = g.V.View.content c.args.view.now in
    let at = c.args.self.now.next in
    let next : c.self.inside.next ≡ at = ap (λ (p : Place). p.next) c.self.view_is in
    let not : IsNotOpen asked.tail at = subst (λ (k : ℕ). IsNotOpen asked.tail k) next c.in_default.ensures in
    let bytes = take c.in_ok-kind.used c.fetch.new.block.bytes in
    let stands : Stands asked.revision file at c.in_ok-kind.kind bytes = subst (λ (k : ℕ). Stands asked.revision file k c.in_ok-kind.kind bytes) next (c.in_ok-kind.ensures.stands told) in
    loads_others asked file at c.in_ok-kind.kind bytes (record { next = at; offset = 0; bytes = [] }) not stands c.if-kind-ne1.true refl

pub returns-in_err-kind-clause-here : goal.returns-in_err-kind-clause-here
returns-in_err-kind-clause-here g c here =
    let tail = (asked_of c.args.source.now).tail in
    let next : c.self.inside.next ≡ c.args.self.now.next = ap (λ (p : Place). p.next) c.self.view_is in
    absurd (open_not tail c.args.self.now.next here (subst (λ (k : ℕ). IsNotOpen tail k) next c.in_default.ensures))

pub returns-then-kind-ne1-clause-here : goal.returns-then-kind-ne1-clause-here
returns-then-kind-ne1-clause-here g c here =
    let tail = (asked_of c.args.source.now).tail in
    let next : c.self.inside.next ≡ c.args.self.now.next = ap (λ (p : Place). p.next) c.self.view_is in
    absurd (open_not tail c.args.self.now.next here (subst (λ (k : ℕ). IsNotOpen tail k) next c.in_default.ensures))

pub returns-clause-here : goal.returns-clause-here
returns-clause-here g c here =
    let tail = (asked_of c.args.source.now).tail in
    let next : c.self.inside.next ≡ c.args.self.now.next = ap (λ (p : Place). p.next) c.self.view_is in
    absurd (open_not tail c.args.self.now.next here (subst (λ (k : ℕ). IsNotOpen tail k) next c.in_default.ensures))
