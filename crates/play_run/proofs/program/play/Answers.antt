use Rattle.std.proofs.Common.{ap, sym, ◌∙◌, append-nil}
use Rattle.block_host.specs.Disk.{Image}
use Rattle.play_run.specs.Seen.{Seen, seen}
use Rattle.play_run.proofs.Scripts.{takes_no_bad, takes_no_end, nothing_said, leaves_from, seen_by}
use Rattle.play_run.proofs.program.play.Goals as goal

pub returns-then-not-are_words-clause-bad_line : goal.returns-then-not-are_words-clause-bad_line
returns-then-not-are_words-clause-bad_line g c = λ told taken. absurd (takes_no_bad _ taken)

pub returns-then-not-are_words-clause-bad_end : goal.returns-then-not-are_words-clause-bad_end
returns-then-not-are_words-clause-bad_end g c = λ told taken. absurd (takes_no_end _ taken)

pub returns-in-Ok-false-clause-bad_line : goal.returns-in-Ok-false-clause-bad_line
returns-in-Ok-false-clause-bad_line g c = λ told taken. absurd (takes_no_bad _ taken)

pub returns-in-Ok-false-clause-bad_end : goal.returns-in-Ok-false-clause-bad_end
returns-in-Ok-false-clause-bad_end g c = λ told taken. absurd (takes_no_end _ taken)

pub returns-in-Err-clause-said_host : goal.returns-in-Err-clause-said_host
returns-in-Err-clause-said_host g c = λ status words told tells new. nothing_said _ _ _ _ _ (λ _. seen_by (g.H.Host.disk c.args.host) (g.H.Host.disk c.is_new_store.new.host) (c.in-Err.ensures.files tells) (c.in-Err.ensures.silent tells))

pub returns-in-Ok-true-clause-said_source : goal.returns-in-Ok-true-clause-said_source
returns-in-Ok-true-clause-said_source g c = λ status told.
    let t = c.run_script.ensures.said_source status told in
    (t.0, t.1, leaves_from _ (seen (g.H.Host.disk c.args.host)) (seen (g.H.Host.disk c.is_new_store.new.host)) _ _ (λ tells. seen_by (g.H.Host.disk c.args.host) (g.H.Host.disk c.is_new_store.new.host) (c.in-Ok-true.ensures.files tells) (c.in-Ok-true.ensures.silent tells)) t.2)

pub returns-in-Ok-true-clause-said_damaged : goal.returns-in-Ok-true-clause-said_damaged
returns-in-Ok-true-clause-said_damaged g c = λ status told.
    let t = c.run_script.ensures.said_damaged status told in
    (t.0, t.1, leaves_from _ (seen (g.H.Host.disk c.args.host)) (seen (g.H.Host.disk c.is_new_store.new.host)) _ _ (λ tells. seen_by (g.H.Host.disk c.args.host) (g.H.Host.disk c.is_new_store.new.host) (c.in-Ok-true.ensures.files tells) (c.in-Ok-true.ensures.silent tells)) t.2)

-- none of the text was said
pub returns-in-Err-clause-said_host_store : goal.returns-in-Err-clause-said_host_store
returns-in-Err-clause-said_host_store g c = λ status words tells none.
    let same = seen_by (g.H.Host.disk c.args.host) (g.H.Host.disk c.is_new_store.new.host) (c.in-Err.ensures.files tells) (c.in-Err.ensures.silent tells) in
    record { n = 0; said = ap (λ (s : Seen). s.said) same ∙ sym (append-nil (g.H.Host.disk c.args.host).said); file = ap (λ (s : Seen). s.file) same }

pub returns-in-Ok-true-clause-aside : goal.returns-in-Ok-true-clause-aside
returns-in-Ok-true-clause-aside g c = λ tells other apart. c.run_script.ensures.aside tells other apart ∙ ap (λ (files : Image). files other) (c.in-Ok-true.ensures.files tells)
