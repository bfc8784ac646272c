use Rattle.std.proofs.Common.{arith, ◌<◌, ◌∙◌, ap, sym}
use Rattle.forest_model.specs.History.{Keeps, KeepsSoundly}
use Rattle.forest_model.specs.declared.held.Deed.TheVariants.{Same}
use Rattle.turnstile.specs.Passes.{first_of, taken_of}
use Rattle.turnstile.proofs.Takings.{of_taken, taken_is}
use Rattle.turnstile.proofs.Keeps.{same_ok}
use Rattle.turnstile.proofs.turnstile.Turnstile.leave_same.Goals as goal

pub fetch_sub-found-requires : goal.fetch_sub-found-requires
fetch_sub-found-requires g c = let h = g.T.Held in let t = c.args.self.now in let p = c.args.pass.now in let q = c.put_in.new.pass in
    let some_word : 0 < t.table.shared.table_id.words = omega (arith, t.sized.0) in
    let taken = of_taken (taken_of p) (λ z. Keeps h.shows h.is_sound h.covers z c.args.value) c.requires.keeps in
    let same = c.put_in.ensures.same in
    let filled = c.put_in.ensures.filled in (
      c.put_in.ensures.own ∙ c.requires.own.0,
      some_word,
      same_ok h.shows h.is_sound h.covers h.weakens (first_of t) t.table.shared.table_id.slots q.seat.id q.seat.me filled.0 taken.0 c.args.value
          (ap (λ v. v.first) same ∙ c.requires.own.1) (ap (λ v. v.taken) same ∙ taken.1) filled.3 filled.1 filled.2 taken.2
          (λ sd. taken_is (taken_of p) taken.0 (λ z. KeepsSoundly h.shows h.is_sound h.covers z c.args.value) taken.1 (c.requires.sound sd)),
    )

pub invariant_of-pass : goal.invariant_of-pass
invariant_of-pass g c = let h = g.T.Held in let p = c.args.pass.now in let q = c.put_in.new.pass in
    let taken = of_taken (taken_of p) (λ z. Keeps h.shows h.is_sound h.covers z c.args.value) c.requires.keeps in
    let filled = c.put_in.ensures.filled in
    let told = c.fetch_sub-found.ensures.2 filled.0 taken.0 c.args.value Same (ap (λ v. v.taken) c.put_in.ensures.same ∙ taken.1) filled.3 filled.1 filled.2 in
    record { counted = q.counted ∙ sym (ap (λ v. v.notes.shares) told.2) }

pub returns-clause-place : goal.returns-clause-place
returns-clause-place g c = let h = g.T.Held in let p = c.args.pass.now in let q = c.put_in.new.pass in
    let taken = of_taken (taken_of p) (λ z. Keeps h.shows h.is_sound h.covers z c.args.value) c.requires.keeps in
    let filled = c.put_in.ensures.filled in
    let told = c.fetch_sub-found.ensures.2 filled.0 taken.0 c.args.value Same (ap (λ v. v.taken) c.put_in.ensures.same ∙ taken.1) filled.3 filled.1 filled.2 in
    omega (arith, told.0, taken.2.place)

pub returns-clause-own : goal.returns-clause-own
returns-clause-own g c = let h = g.T.Held in let p = c.args.pass.now in let q = c.put_in.new.pass in
    let taken = of_taken (taken_of p) (λ z. Keeps h.shows h.is_sound h.covers z c.args.value) c.requires.keeps in
    let filled = c.put_in.ensures.filled in
    let told = c.fetch_sub-found.ensures.2 filled.0 taken.0 c.args.value Same (ap (λ v. v.taken) c.put_in.ensures.same ∙ taken.1) filled.3 filled.1 filled.2 in
    (c.fetch_sub-found.ensures.0 ∙ (c.put_in.ensures.own ∙ c.requires.own.0), ap (λ v. v.first) told.2 ∙ (ap (λ v. v.first) c.put_in.ensures.same ∙ c.requires.own.1))

pub returns-clause-outside : goal.returns-clause-outside
returns-clause-outside g c = let h = g.T.Held in let p = c.args.pass.now in let q = c.put_in.new.pass in
    let taken = of_taken (taken_of p) (λ z. Keeps h.shows h.is_sound h.covers z c.args.value) c.requires.keeps in
    let filled = c.put_in.ensures.filled in
    let told = c.fetch_sub-found.ensures.2 filled.0 taken.0 c.args.value Same (ap (λ v. v.taken) c.put_in.ensures.same ∙ taken.1) filled.3 filled.1 filled.2 in
    (ap (λ v. v.taken) told.2, told.1)
