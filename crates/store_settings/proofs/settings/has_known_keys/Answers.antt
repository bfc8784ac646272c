use Rattle.std.proofs.Common.{◌≡◌, true, false, sym, ap, ◌∙◌, string_bytes}
use Rattle.toml.specs.View.{members_view}
use Rattle.toml.proofs.Views.{Entry}
use Rattle.store_settings.specs.Settings.{has_known_keys, is_key}
use Rattle.store_settings.proofs.Keys.{none_known, key_known, key_unknown}
use Rattle.store_settings.proofs.settings.has_known_keys.Goals as goal

pub returns-then-not-is_key : goal.returns-then-not-is_key
returns-then-not-is_key c =
    let e : Entry = (c.in-Some.key.now, c.in-Some._value.now) in
    let here = c.loop-key.invariant ∙ ap (λ es. has_known_keys (members_view es)) c.in-Some.ensures.steps in
    let key : is_key (string_bytes e.0) ≡ false = ap is_key (sym c.as_str.ensures.value) ∙ (sym c.is_key.ensures ∙ c.if-not-is_key.true) in
    sym (here ∙ key_unknown e _ key)

pub loop-key-preserved : goal.loop-key-preserved
loop-key-preserved c =
    let e : Entry = (c.in-Some.key.now, c.in-Some._value.now) in
    let here = c.loop-key.invariant ∙ ap (λ es. has_known_keys (members_view es)) c.in-Some.ensures.steps in
    let key : is_key (string_bytes e.0) ≡ true = ap is_key (sym c.as_str.ensures.value) ∙ (sym c.is_key.ensures ∙ c.if-not-is_key.false) in
    here ∙ key_known e _ key

pub returns : goal.returns
returns c = none_known ∙ sym (c.loop-key.invariant ∙ ap (λ es. has_known_keys (members_view es)) c.in-None.ensures.steps.0)
