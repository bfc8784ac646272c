use Rattle.std.proofs.Common.{rules, arith, ◌≡◌, [], ◌∷◌}
use Rattle.std.proofs.lemmas.Grind.{common_steps}
use Rattle.turnstile.proofs.Keeps.{new_by}
use Rattle.turnstile.proofs.turnstile.Turnstile.new.Goals as goal

pub new-requires : goal.new-requires
new-requires g c = let h = g.T.Held in
    let row : c.push.new.self.items ≡ c.berth_of.result ∷ [] = first_of (search rules, grind (arith, common_steps)) in
    new_by h.shows h.is_sound h.covers c.of-about.result.value c.args.value c.push.new.self.items c.berth_of.result c.of-about.ensures row c.requires c.berth_of.ensures.value
