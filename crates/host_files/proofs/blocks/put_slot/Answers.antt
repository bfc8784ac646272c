use Rattle.std.proofs.Common.{◌≡◌, ◌*◌, List, ℕ, OnOk, length, ap, subst, ◌∙◌, arith}
use Rattle.host_files.specs.Bytes.{overwritten}
use Rattle.host_files.proofs.Cutting.{length_two}
use Rattle.host_files.proofs.blocks.put_slot.Goals as goal

pub returns : goal.returns
returns g c told =
    let old = g.O.Opened.bytes c.args.opened.now in
    let two = c.in_ok-make_two.ensures told in
    let long : length (g.O.Opened.bytes c.make_two.new.opened) ≡ 8192 = ap length two ∙ length_two old in
    subst (λ (b : List ℕ). OnOk c.write.result (g.O.Opened.bytes c.write.new.self ≡ overwritten (c.args.slot * 4096) c.args.block.now.bytes b)) two (c.write.ensures told (omega (arith, long, c.requires)))
