-- What is said at a key.
use Rattle.std.proofs.Common.{◌≡◌, List, Option, Some, None, refl, ap, false}
use Rattle.toml.specs.Data.{Data, boolean, as_bool}
use Rattle.store_settings.specs.Settings.{said_or, truth_in, has_known_keys, is_key}
use Rattle.toml.specs.View.{members_view}
use Rattle.toml.proofs.Views.{Entry}
use Rattle.std.specs.Prelude.{true, [], ◌∷◌}
use Rattle.std.specs.String.{string_bytes}

pub at_none : {A : Type 0} (default : A) (f : Data → Option A) (o : Option Data) → None ≡ o → Some default ≡ said_or default f o
at_none default f o e = ap (said_or default f) e

pub at_some : {A : Type 0} (default : A) (f : Data → Option A) (d : Data) (o : Option Data) → Some d ≡ o → f d ≡ said_or default f o
at_some default f d o e = ap (said_or default f) e

pub truth_is : (d : Data) → as_bool d ≡ truth_in d
truth_is (boolean b) = refl
truth_is _ = refl

-- ---- keys, one after another

pub none_known : true ≡ has_known_keys (members_view [])
unfolding has_known_keys
none_known = refl

pub key_unknown : (e : Entry) (es : List Entry) → is_key (string_bytes e.0) ≡ false → has_known_keys (members_view (e ∷ es)) ≡ false
unfolding has_known_keys
key_unknown e es h = rw h refl

pub key_known : (e : Entry) (es : List Entry) → is_key (string_bytes e.0) ≡ true → has_known_keys (members_view (e ∷ es)) ≡ has_known_keys (members_view es)
unfolding has_known_keys
key_known e es h = rw h refl
