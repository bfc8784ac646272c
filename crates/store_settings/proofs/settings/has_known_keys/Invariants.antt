use Rattle.std.proofs.Common.{◌≡◌}
use Rattle.toml.specs.View.{members_view}
use Rattle.store_settings.specs.Settings.{has_known_keys}
use Rattle.store_settings.proofs.settings.has_known_keys.Given as goal

abbrev pub invariant-loop-key : goal.invariant-loop-key
invariant-loop-key l = has_known_keys (members_view l.fn.table.entries) ≡ has_known_keys (members_view l.key-iterator)
