use Rattle.std.proofs.Common.{◌≡◌, ◌++◌, ◌+◌, ◌-◌, take, drop, length, List, ℕ, sym, ◌∙◌, ap, arith, append_assoc}
use Rattle.std.proofs.lemmas.List.{drop-drop}
use borrow.Rule.Slice.PartMut.{put_mid}
use Rattle.block_host.proofs.Padding.{put_padded}
use Rattle.block_host.proofs.sealing.put.Goals as goal

pub returns : goal.returns
returns c front below is =
    let at = c.args.at in
    let part = c.args.part.now in
    ap (λ (xs : List ℕ). put_mid at (at + length part - at) c.args.bytes.now xs) c.copy_from_slice.ensures.after
    ∙ ap (λ (k : ℕ). put_mid at k c.args.bytes.now part) (let long : at + length part - at ≡ length part = omega arith in long)
    ∙ ap (λ (rest : List ℕ). take at c.args.bytes.now ++ (part ++ rest)) (drop-drop (length part) at c.args.bytes.now)
    ∙ sym (append_assoc (take at c.args.bytes.now) part (drop (at + length part) c.args.bytes.now))
    ∙ ap (λ (b : List ℕ). take at b ++ part ++ drop (at + length part) b) is
    ∙ put_padded 4096 at front part below c.requires
