use Rattle.std.proofs.Common.{refl, inl, ap, ◌∙◌, length, [], ◌∷◌}
use Rattle.block_host.specs.Disk.{Image}
use Rattle.block_host.proofs.InTurn.{Stands, records_left, after_records, header_left, after_header, after_sync}
use Rattle.block_host.specs.Calls.{Written}
use Rattle.block_host.proofs.Alone.{alone, alone_by_change, alone_by_sync}
use Rattle.block_host.proofs.order.append_in_order.Goals as goal

pub returns-in_err-append-clause-any_moment : goal.returns-in_err-append-clause-any_moment
returns-in_err-append-clause-any_moment g c told =
    let file = c.args.file in
    let d0 = g.H.Host.disk c.args.host.now in
    let lawful = g.met.H.Host.lawful told c.args.host.now in
    after_records file (d0.files file) c.args.records.now c.args.header.now d0 (g.H.Host.disk c.append.new.self) lawful (c.requires told) refl (c.append.ensures.told told).part c.append.ensures.clock

pub returns-in_err-sync-clause-any_moment : goal.returns-in_err-sync-clause-any_moment
returns-in_err-sync-clause-any_moment g c told =
    let file = c.args.file in
    let d0 = g.H.Host.disk c.args.host.now in
    let d1 = g.H.Host.disk c.append.new.self in
    let old = d0.files file in
    let lawful = g.met.H.Host.lawful told c.args.host.now in
    let part = (c.append.ensures.told told).part in
    let run = after_records file old c.args.records.now c.args.header.now d0 d1 lawful (c.requires told) refl part c.append.ensures.clock in
    after_sync file c.sync.result d0 d1 (g.H.Host.disk c.sync.new.self) (Stands file old c.args.records.now c.args.header.now) run (c.sync.ensures.told told) c.sync.ensures.clock
    (λ image said left. inl (records_left file old c.args.records.now c.args.header.now d0 d1 lawful (c.requires told) refl part c.append.ensures.clock image left))

pub returns-in_err-append-2-clause-any_moment : goal.returns-in_err-append-2-clause-any_moment
returns-in_err-append-2-clause-any_moment g c told =
    let file = c.args.file in
    let d0 = g.H.Host.disk c.args.host.now in
    let d1 = g.H.Host.disk c.append.new.self in
    let d2 = g.H.Host.disk c.sync.new.self in
    let old = d0.files file in
    let lawful = g.met.H.Host.lawful told c.args.host.now in
    let part = (c.append.ensures.told told).part in
    let run = after_records file old c.args.records.now c.args.header.now d0 d1 lawful (c.requires told) refl part c.append.ensures.clock in
    let synced = after_sync file c.sync.result d0 d1 d2 (Stands file old c.args.records.now c.args.header.now) run (c.sync.ensures.told told) c.sync.ensures.clock
    (λ image said left. inl (records_left file old c.args.records.now c.args.header.now d0 d1 lawful (c.requires told) refl part c.append.ensures.clock image left)) in
    let is = ap (λ (files : Image). files file) (c.sync.ensures.told told).files ∙ (c.in_ok-append.ensures.told told).done in
    after_header file old c.args.records.now c.args.header.now d0 d2 (g.H.Host.disk c.append-2.new.self) synced (c.in_ok-sync.ensures.told told).done is (c.append-2.ensures.told told).part c.append-2.ensures.clock

pub returns-clause-any_moment : goal.returns-clause-any_moment
returns-clause-any_moment g c told =
    let file = c.args.file in
    let d0 = g.H.Host.disk c.args.host.now in
    let d1 = g.H.Host.disk c.append.new.self in
    let d2 = g.H.Host.disk c.sync.new.self in
    let d3 = g.H.Host.disk c.append-2.new.self in
    let old = d0.files file in
    let P = Stands file old c.args.records.now c.args.header.now in
    let lawful = g.met.H.Host.lawful told c.args.host.now in
    let part = (c.append.ensures.told told).part in
    let run = after_records file old c.args.records.now c.args.header.now d0 d1 lawful (c.requires told) refl part c.append.ensures.clock in
    let synced = after_sync file c.sync.result d0 d1 d2 P run (c.sync.ensures.told told) c.sync.ensures.clock
    (λ image said left. inl (records_left file old c.args.records.now c.args.header.now d0 d1 lawful (c.requires told) refl part c.append.ensures.clock image left)) in
    let is = ap (λ (files : Image). files file) (c.sync.ensures.told told).files ∙ (c.in_ok-append.ensures.told told).done in
    let settled = (c.in_ok-sync.ensures.told told).done in
    let last = (c.append-2.ensures.told told).part in
    let headed = after_header file old c.args.records.now c.args.header.now d0 d2 d3 synced settled is last c.append-2.ensures.clock in
    after_sync file c.sync-2.result d0 d3 (g.H.Host.disk c.sync-2.new.self) P headed (c.sync-2.ensures.told told) c.sync-2.ensures.clock
    (λ image said left. header_left file old c.args.records.now c.args.header.now d0 d2 d3 synced settled is last c.append-2.ensures.clock image left)

pub returns-in_err-append-clause-others : goal.returns-in_err-append-clause-others
returns-in_err-append-clause-others g c told =
    let file = c.args.file in
    let d0 = g.H.Host.disk c.args.host.now in
    let d1 = g.H.Host.disk c.append.new.self in
    let one = alone_by_change file d0 d0 d1 (alone file d0 (g.met.H.Host.lawful told c.args.host.now)) c.append.ensures.clock (Written file (length (d0.files file)) c.args.records.now) (c.append.ensures.told told).part in
    one

pub returns-in_err-sync-clause-others : goal.returns-in_err-sync-clause-others
returns-in_err-sync-clause-others g c told =
    let file = c.args.file in
    let d0 = g.H.Host.disk c.args.host.now in
    let d1 = g.H.Host.disk c.append.new.self in
    let one = alone_by_change file d0 d0 d1 (alone file d0 (g.met.H.Host.lawful told c.args.host.now)) c.append.ensures.clock (Written file (length (d0.files file)) c.args.records.now) (c.append.ensures.told told).part in
    let d2 = g.H.Host.disk c.sync.new.self in
    let two = alone_by_sync file d0 d1 d2 one c.sync.ensures.clock c.sync.result (c.sync.ensures.told told) in
    two

pub returns-in_err-append-2-clause-others : goal.returns-in_err-append-2-clause-others
returns-in_err-append-2-clause-others g c told =
    let file = c.args.file in
    let d0 = g.H.Host.disk c.args.host.now in
    let d1 = g.H.Host.disk c.append.new.self in
    let one = alone_by_change file d0 d0 d1 (alone file d0 (g.met.H.Host.lawful told c.args.host.now)) c.append.ensures.clock (Written file (length (d0.files file)) c.args.records.now) (c.append.ensures.told told).part in
    let d2 = g.H.Host.disk c.sync.new.self in
    let two = alone_by_sync file d0 d1 d2 one c.sync.ensures.clock c.sync.result (c.sync.ensures.told told) in
    let d3 = g.H.Host.disk c.append-2.new.self in
    let three = alone_by_change file d0 d2 d3 two c.append-2.ensures.clock (Written file (length (d2.files file)) (c.args.header.now ∷ [])) (c.append-2.ensures.told told).part in
    three

pub returns-clause-others : goal.returns-clause-others
returns-clause-others g c told =
    let file = c.args.file in
    let d0 = g.H.Host.disk c.args.host.now in
    let d1 = g.H.Host.disk c.append.new.self in
    let one = alone_by_change file d0 d0 d1 (alone file d0 (g.met.H.Host.lawful told c.args.host.now)) c.append.ensures.clock (Written file (length (d0.files file)) c.args.records.now) (c.append.ensures.told told).part in
    let d2 = g.H.Host.disk c.sync.new.self in
    let two = alone_by_sync file d0 d1 d2 one c.sync.ensures.clock c.sync.result (c.sync.ensures.told told) in
    let d3 = g.H.Host.disk c.append-2.new.self in
    let three = alone_by_change file d0 d2 d3 two c.append-2.ensures.clock (Written file (length (d2.files file)) (c.args.header.now ∷ [])) (c.append-2.ensures.told told).part in
    alone_by_sync file d0 d3 (g.H.Host.disk c.sync-2.new.self) three c.sync-2.ensures.clock c.sync-2.result (c.sync-2.ensures.told told)
