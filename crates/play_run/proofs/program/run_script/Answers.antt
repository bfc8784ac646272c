use Rattle.std.proofs.Common.{ap}
use Rattle.block_host.specs.Disk.{Image}
use Rattle.file_parts.specs.Held.{Held}
use Rattle.forest_model.specs.State.{new_state, usual_limits}
use Rattle.play_run.specs.Seen.{seen}
use Rattle.play_run.proofs.Counts.{rose_closed, not_both}
use Rattle.play_run.proofs.Ends.{played_all, played_fault, played_bad, played_part, played_some, played_damaged, met_bad, met_bad_end, completes}
use Rattle.play_run.proofs.Scripts.{script_ends, says_end, closed_seen, somewhere_first, seen_same, nothing_run, nothing_said, others_through}
use Rattle.play_run.proofs.program.run_script.Goals as goal

pub returns-in-Err-clause-said_host : goal.returns-in-Err-clause-said_host
returns-in-Err-clause-said_host g c = λ _ told. nothing_said _ _ _ _ _ (λ tells. seen_same _ _ (c.in-Err.ensures.back tells))

pub returns-in-Err-clause-memory : goal.returns-in-Err-clause-memory
returns-in-Err-clause-memory g c = λ _ told. nothing_run _ _ _ _ (λ tells. seen_same _ _ (c.in-Err.ensures.back tells))

pub run-ended-requires-clause-somewhere : goal.run-ended-requires-clause-somewhere
run-ended-requires-clause-somewhere g c κs within =
    let stood = c.in-Ok.ensures.file c.requires in
    somewhere_first _ c.new-player.result.session.file c.in-Ok.file _ c.new-player.ensures.file
    (c.new-player.ensures.somewhere stood.0 (record { stands = c.in-Ok.ensures.stands c.requires; file = stood.1 }))

pub returns-clause-all : goal.returns-clause-all
returns-clause-all g c = λ status told.
    let stood = c.in-Ok.ensures.file c.requires in
    let ends = script_ends _ (g.H.Host.disk c.args.host) c.in-Ok.file (new_state usual_limits) (stood.0, record { stands = c.in-Ok.ensures.stands c.requires; file = stood.1 })
    (ap (λ (h : Held). h.revision) c.in-Ok.ensures.held) c.in-Ok.ensures.told c.run-ended.result c.new-player.result.session.file _ _ _ _ _ _ _ _ c.new-player.ensures.file c.new-player.ensures.taken (c.run-ended.ensures.ends told) c.close-file.ensures.count in
    let said = says_end c.run-ended.result _ _ _ _ _ _ (λ tells. closed_seen _ c.close-file.result.0 _ c.close-file.ensures.file (c.close.ensures.told tells)) c.finish.ensures.said in
    played_all _ _ _ _ _ _ _ _ c.run-ended.result ends c.finish.ensures.ends said status

pub returns-clause-said_source : goal.returns-clause-said_source
returns-clause-said_source g c = λ status told.
    let stood = c.in-Ok.ensures.file c.requires in
    let ends = script_ends _ (g.H.Host.disk c.args.host) c.in-Ok.file (new_state usual_limits) (stood.0, record { stands = c.in-Ok.ensures.stands c.requires; file = stood.1 })
    (ap (λ (h : Held). h.revision) c.in-Ok.ensures.held) c.in-Ok.ensures.told c.run-ended.result c.new-player.result.session.file _ _ _ _ _ _ _ _ c.new-player.ensures.file c.new-player.ensures.taken (c.run-ended.ensures.ends told) c.close-file.ensures.count in
    let said = says_end c.run-ended.result _ _ _ _ _ _ (λ tells. closed_seen _ c.close-file.result.0 _ c.close-file.ensures.file (c.close.ensures.told tells)) c.finish.ensures.said in
    played_fault _ _ _ _ _ _ _ _ c.run-ended.result ends c.finish.ensures.ends said status

pub returns-clause-bad : goal.returns-clause-bad
returns-clause-bad g c = λ status told.
    let stood = c.in-Ok.ensures.file c.requires in
    let ends = script_ends _ (g.H.Host.disk c.args.host) c.in-Ok.file (new_state usual_limits) (stood.0, record { stands = c.in-Ok.ensures.stands c.requires; file = stood.1 })
    (ap (λ (h : Held). h.revision) c.in-Ok.ensures.held) c.in-Ok.ensures.told c.run-ended.result c.new-player.result.session.file _ _ _ _ _ _ _ _ c.new-player.ensures.file c.new-player.ensures.taken (c.run-ended.ensures.ends told) c.close-file.ensures.count in
    let said = says_end c.run-ended.result _ _ _ _ _ _ (λ tells. closed_seen _ c.close-file.result.0 _ c.close-file.ensures.file (c.close.ensures.told tells)) c.finish.ensures.said in
    played_bad _ _ _ _ _ _ _ _ c.run-ended.result ends c.finish.ensures.ends said status

pub returns-clause-said_host : goal.returns-clause-said_host
returns-clause-said_host g c = λ status told.
    let stood = c.in-Ok.ensures.file c.requires in
    let ends = script_ends _ (g.H.Host.disk c.args.host) c.in-Ok.file (new_state usual_limits) (stood.0, record { stands = c.in-Ok.ensures.stands c.requires; file = stood.1 })
    (ap (λ (h : Held). h.revision) c.in-Ok.ensures.held) c.in-Ok.ensures.told c.run-ended.result c.new-player.result.session.file _ _ _ _ _ _ _ _ c.new-player.ensures.file c.new-player.ensures.taken (c.run-ended.ensures.ends told) c.close-file.ensures.count in
    let said = says_end c.run-ended.result _ _ _ _ _ _ (λ tells. closed_seen _ c.close-file.result.0 _ c.close-file.ensures.file (c.close.ensures.told tells)) c.finish.ensures.said in
    played_part _ _ _ _ _ _ _ _ c.run-ended.result ends c.finish.ensures.ends said status

pub returns-clause-memory : goal.returns-clause-memory
returns-clause-memory g c = λ status told.
    let stood = c.in-Ok.ensures.file c.requires in
    let ends = script_ends _ (g.H.Host.disk c.args.host) c.in-Ok.file (new_state usual_limits) (stood.0, record { stands = c.in-Ok.ensures.stands c.requires; file = stood.1 })
    (ap (λ (h : Held). h.revision) c.in-Ok.ensures.held) c.in-Ok.ensures.told c.run-ended.result c.new-player.result.session.file _ _ _ _ _ _ _ _ c.new-player.ensures.file c.new-player.ensures.taken (c.run-ended.ensures.ends told) c.close-file.ensures.count in
    let said = says_end c.run-ended.result _ _ _ _ _ _ (λ tells. closed_seen _ c.close-file.result.0 _ c.close-file.ensures.file (c.close.ensures.told tells)) c.finish.ensures.said in
    played_some _ _ _ _ _ _ _ _ c.run-ended.result ends c.finish.ensures.ends said status

pub returns-clause-said_damaged : goal.returns-clause-said_damaged
returns-clause-said_damaged g c = λ status told.
    let stood = c.in-Ok.ensures.file c.requires in
    let ends = script_ends _ (g.H.Host.disk c.args.host) c.in-Ok.file (new_state usual_limits) (stood.0, record { stands = c.in-Ok.ensures.stands c.requires; file = stood.1 })
    (ap (λ (h : Held). h.revision) c.in-Ok.ensures.held) c.in-Ok.ensures.told c.run-ended.result c.new-player.result.session.file _ _ _ _ _ _ _ _ c.new-player.ensures.file c.new-player.ensures.taken (c.run-ended.ensures.ends told) c.close-file.ensures.count in
    let said = says_end c.run-ended.result _ _ _ _ _ _ (λ tells. closed_seen _ c.close-file.result.0 _ c.close-file.ensures.file (c.close.ensures.told tells)) c.finish.ensures.said in
    played_damaged _ _ _ _ _ _ _ _ c.run-ended.result ends c.finish.ensures.ends said status

pub returns-clause-bad_line : goal.returns-clause-bad_line
returns-clause-bad_line g c = λ told taken.
    let stood = c.in-Ok.ensures.file c.requires in
    let ends = script_ends _ (g.H.Host.disk c.args.host) c.in-Ok.file (new_state usual_limits) (stood.0, record { stands = c.in-Ok.ensures.stands c.requires; file = stood.1 })
    (ap (λ (h : Held). h.revision) c.in-Ok.ensures.held) c.in-Ok.ensures.told c.run-ended.result c.new-player.result.session.file _ _ _ _ _ _ _ _ c.new-player.ensures.file c.new-player.ensures.taken (c.run-ended.ensures.ends told) c.close-file.ensures.count in
    met_bad _ _ _ (seen (g.H.Host.disk c.args.host)) _ _ _ _ c.run-ended.result ends c.finish.ensures.ends taken

pub returns-clause-bad_end : goal.returns-clause-bad_end
returns-clause-bad_end g c = λ told taken.
    let stood = c.in-Ok.ensures.file c.requires in
    let ends = script_ends _ (g.H.Host.disk c.args.host) c.in-Ok.file (new_state usual_limits) (stood.0, record { stands = c.in-Ok.ensures.stands c.requires; file = stood.1 })
    (ap (λ (h : Held). h.revision) c.in-Ok.ensures.held) c.in-Ok.ensures.told c.run-ended.result c.new-player.result.session.file _ _ _ _ _ _ _ _ c.new-player.ensures.file c.new-player.ensures.taken (c.run-ended.ensures.ends told) c.close-file.ensures.count in
    met_bad_end _ _ _ (seen (g.H.Host.disk c.args.host)) _ _ _ _ c.run-ended.result ends c.finish.ensures.ends taken

pub returns-clause-complete : goal.returns-clause-complete
returns-clause-complete g c = λ told tells good source host.
    let stood = c.in-Ok.ensures.file c.requires in
    let ends = script_ends _ (g.H.Host.disk c.args.host) c.in-Ok.file (new_state usual_limits) (stood.0, record { stands = c.in-Ok.ensures.stands c.requires; file = stood.1 })
    (ap (λ (h : Held). h.revision) c.in-Ok.ensures.held) c.in-Ok.ensures.told c.run-ended.result c.new-player.result.session.file _ _ _ _ _ _ _ _ c.new-player.ensures.file c.new-player.ensures.taken (c.run-ended.ensures.ends told) c.close-file.ensures.count in
    completes _ _ _ (seen (g.H.Host.disk c.args.host)) _ _ _ _ c.run-ended.result ends c.finish.ensures.ends tells good
    (λ is. not_both _ _ source (c.run-ended.ensures.source is))
    (λ four. not_both _ _ host (rose_closed g.H.Host.faults g.H.View.View.faults c.in-Ok.file c.new-player.result.session.file c.run-ended.new.self.session.file c.close-file.result.0 _ _ _ c.run-ended.result
    c.new-player.ensures.file c.in-Ok.ensures.untroubled c.in-Ok.ensures.view_count c.run-ended.ensures.faults c.close-file.ensures.file c.close.ensures.counts c.close.ensures.failed c.close.ensures.untroubled c.finish.ensures.counts (c.finish.ensures.host four)))

pub returns-clause-aside : goal.returns-clause-aside
returns-clause-aside g c = λ tells.
    others_through c.in-Ok.file c.new-player.result.session.file c.run-ended.new.self.session.file c.close-file.result.0 (g.H.Host.disk c.args.host) (g.H.Host.disk c.close.result) (g.H.Host.disk c.finish.result.host)
    c.new-player.ensures.file c.close-file.ensures.file (c.in-Ok.ensures.told tells) (c.run-ended.ensures.aside tells) (c.close.ensures.told tells) (c.finish.ensures.files tells)

pub returns-in-Err-clause-aside : goal.returns-in-Err-clause-aside
returns-in-Err-clause-aside g c = λ tells other apart. ap (λ (files : Image). files other) (c.in-Err.ensures.back tells).files
