-- The limits of keys, bodies, names and drawn numbers, as tests.
use Rattle.std.specs.Prelude.{ℕ, ◌-◌, ◌^◌, Bool, ◌&&◌, ◌||◌, not, ◌==◌, List, [], length, nat_le}
use Rattle.std.specs.List.{list_all, list_any}
use Rattle.forest_model.specs.declared.call.Item.{Item}
use Rattle.forest_model.specs.declared.call.Item.TheVariants.{Put, Del}

-- the key hasn't 1 to 3,500 bytes
abbrev pub is_wrong_key : List ℕ → Bool
is_wrong_key key = not (nat_le 1 (length key) && nat_le (length key) 3500)

-- the meta has more than 255 bytes, or the body more than 1,048,576
abbrev pub is_wrong_body : List ℕ → List ℕ → Bool
is_wrong_body meta body = not (nat_le (length meta) 255 && nat_le (length body) 1048576)

-- the same for an item of a batch
abbrev pub has_wrong_key : Item → Bool
has_wrong_key (Put key meta body) = is_wrong_key key
has_wrong_key (Del key) = is_wrong_key key

abbrev pub has_wrong_body : Item → Bool
has_wrong_body (Put key meta body) = is_wrong_body meta body
has_wrong_body (Del key) = is_wrong_body [] []

-- a letter, a digit, `_`, `-` or `.`
abbrev pub is_name_byte : ℕ → Bool
is_name_byte b =
    (nat_le 97 b && nat_le b 122) || (nat_le 65 b && nat_le b 90) || (nat_le 48 b && nat_le b 57) || (b == 95) || (b == 45) || (b == 46)

-- 1 to 31 of these bytes
abbrev pub is_name : List ℕ → Bool
is_name name = nat_le 1 (length name) && nat_le (length name) 31 && list_all is_name_byte name

-- a number that may not be drawn any more
abbrev pub is_worn : ℕ → Bool
is_worn n = nat_le (2 ^ 62 - 1) n

-- one of the numbers that a call would draw is worn
abbrev pub any_worn : List ℕ → Bool
any_worn = list_any is_worn
