-- What was put since the last flush: the newest entry of each key, and the stores that are gone.
use Rattle.std.specs.Prelude.{◌≡◌, ℕ, ◌-◌, Bool, true, false, not, ◌&&◌, ◌||◌, ◌==◌, List, [], ◌∷◌, ◌++◌, map, reverse, find, Option, refl, if◌then◌else◌, IsTrue, nat_lt, nat_le}
use Rattle.std.specs.Option.{option_map_or}
use Rattle.std.specs.Coded.{Coded, code_by, coded×, coded_ℕ, coded_bool, coded_list}
use Rattle.std.specs.Ordering.{is_lt, is_gt, is_eq}
use Rattle.std.specs.FinMap as finite
use Rattle.forest_model.specs.Key.{key_cmp, coded_key}
use Rattle.forest_model.specs.declared.documents.DocKey.{DocKey}
use Rattle.forest_model.specs.declared.stored.Entry.{Entry}
use Rattle.forest_model.specs.declared.stored.KeyEntry.{KeyEntry}

-- the newest entries, by store and key
abbrev pub Map : Type 0
Map = finite.FinMap key_cmp Entry

pub record Index : Type 0 where
  pub entries : Map
  -- the stores that are gone, in the order in which they went
  pub gone : List ℕ
  -- for how many puts there is room, and whether there is for one more store that goes
  pub room : ℕ
  pub may_go : Bool

abbrev pub key_at : ℕ → List ℕ → DocKey
key_at store key = record { store = store; key = key }

abbrev pub entry_at : Map → ℕ → List ℕ → Option Entry
entry_at m store key = finite.get m (key_at store key)

-- whether the newest entry of a key has this number
abbrev pub has_number : Map → ℕ → ℕ → List ℕ → Bool
has_number m store seq key = option_map_or (λ e. e.seq == seq) (entry_at m store key) false

-- the index of no entry
abbrev pub nothing : Map
nothing = finite.empty

-- a new entry of a key, for which room is used
abbrev pub with_entry : Index → ℕ → List ℕ → Entry → Index
with_entry x store key entry = record x { entries = finite.insert x.entries (key_at store key) entry; room = x.room - 1 }

-- without the entries of a store, which is gone
abbrev pub without_store : Index → ℕ → Index
without_store x store = record x { entries = finite.retain_keys x.entries (λ k. not (k.store == store)); gone = x.gone ++ store ∷ []; may_go = false }

-- the entries in the order of store and key
abbrev pub key_entry : DocKey × Entry → KeyEntry
key_entry e = record { store = e.0.store; key = e.0.key; entry = e.1 }

abbrev pub in_order : Map → List KeyEntry
in_order m = map key_entry (finite.entries m)

-- whether a search from q upwards, or downwards, comes to k; `with` has it come to q itself
abbrev pub is_past : Bool → Bool → DocKey → DocKey → Bool
is_past with up q k = (with && is_eq (key_cmp q k)) || (if up then is_lt (key_cmp q k) else is_gt (key_cmp q k))

-- the nearest of these entries, in their order, that the search comes to in the store of q
abbrev pub nearest_of : Bool → Bool → List (DocKey × Entry) → DocKey → Option (DocKey × Entry)
nearest_of with up es q = find (λ e. (e.0.store == q.store) && is_past with up q e.0) (if up then es else reverse es)

abbrev pub nearest : Bool → Bool → Map → DocKey → Option (DocKey × Entry)
nearest with up m q = nearest_of with up (finite.entries m) q

-- whether a search from the number q upwards, or downwards, comes to n; `with` has it come to q itself
abbrev pub is_past_number : Bool → Bool → ℕ → ℕ → Bool
is_past_number with up q n = (with && (q == n)) || (if up then nat_lt q n else nat_lt n q)

-- the number of a newest entry of the store, and its key, that a search from seq comes to first
pub record IsNearestNumber (with up : Bool) (m : Map) (store seq n : ℕ) (key : List ℕ) : Type 0 where
  pub has : has_number m store n key ≡ true
  pub past : is_past_number with up seq n ≡ true
  pub nearest : (other : ℕ) (k : List ℕ) → has_number m store other k ≡ true → is_past_number with up seq other ≡ true → IsTrue (if up then nat_le n other else nat_le other n)

-- what a look-up in order tells of an entry
abbrev pub key_and_entry : DocKey × Entry → List ℕ × Entry
key_and_entry e = (e.0.key, e.1)

abbrev pub coded_entry : Coded Entry
coded_entry =
    code_by (ℕ × (ℕ × (Bool × ℕ))) (coded× coded_ℕ (coded× coded_ℕ (coded× coded_bool coded_ℕ)))
    (λ e. (e.seq, (e.address, (e.live, e.len)))) (λ p. record { seq = p.0; address = p.1.0; live = p.1.1.0; len = p.1.1.1 }) (λ _. refl)

abbrev pub coded_index : Coded Index
coded_index =
    code_by (Map × (List ℕ × (ℕ × Bool))) (coded× (finite.code coded_key coded_entry) (coded× (coded_list coded_ℕ) (coded× coded_ℕ coded_bool)))
    (λ x. (x.entries, (x.gone, (x.room, x.may_go)))) (λ p. record { entries = p.0; gone = p.1.0; room = p.1.1.0; may_go = p.1.1.1 }) (λ _. refl)
