use Rattle.std.proofs.Common.{◌≡◌, ◌*◌, List, ℕ, OnOk, length, sym, ap, subst, ◌∙◌, arith, inl, inr}
use Rattle.std.proofs.lemmas.Bool.{cases_lt}
use Rattle.host_files.proofs.Cutting.{two_by_cut, two_by_zeros, two_already, length_whole}
use Rattle.host_files.proofs.blocks.make_two.Goals as goal

pub returns-then-whole-eq2 : goal.returns-then-whole-eq2
returns-then-whole-eq2 g c told =
    let old = g.O.Opened.bytes c.args.opened.now in
    let w = g.O.Opened.bytes c.cut_tail.new.opened in
    let cut = c.in_ok-whole.ensures.cut told in
    let count = c.in_ok-whole.ensures.whole told in
    two_already old w cut (ap length cut ∙ length_whole old ∙ ap (λ (n : ℕ). n * 4096) (sym count) ∙ ap (λ (n : ℕ). n * 4096) (let two : c.in_ok-whole.whole ≡ 2 = omega (arith, c.if-whole-eq2.true) in two))

pub returns : goal.returns
returns g c told =
    let old = g.O.Opened.bytes c.args.opened.now in
    let w = g.O.Opened.bytes c.cut_tail.new.opened in
    let cut = c.in_ok-whole.ensures.cut told in
    elim (cases_lt (length w) 8192) [
      | inl short ↦ subst (λ (b : List ℕ). OnOk c.resize_to.result (g.O.Opened.bytes c.resize_to.new.opened ≡ b)) (two_by_zeros old w cut (omega (arith, short))) (c.resize_to.ensures.longer told (omega (arith, short)))
      | inr long ↦ subst (λ (b : List ℕ). OnOk c.resize_to.result (g.O.Opened.bytes c.resize_to.new.opened ≡ b)) (two_by_cut old w cut long) (c.resize_to.ensures.shorter told long)
    ]
