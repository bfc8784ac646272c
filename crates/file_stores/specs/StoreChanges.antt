-- Why a store isn't opened or removed, and what is left in memory, by what an open file has there.
use Rattle.std.specs.Prelude.{◌≡◌, ℕ, ◌+◌, ◌^◌, Bool, false, not, ◌||◌, ◌==◌, ◌-◌, min, codes, nat_eq, List, [], ◌∷◌, ◌++◌, length, Option, Some, None, is_none, nat_le, MatchOption, MatchResult, Result, Ok, Err}
use Rattle.std.specs.Cmp.Lexicographic.{pointwise}
use Rattle.std.specs.FinMap as finite
use Rattle.std.specs.Option.{option_map, option_map_or}
use Rattle.forest_model.specs.Limits.{is_name, any_worn}
use Rattle.forest_model.specs.Step.{◌where_holds◌, first_cause}
use Rattle.forest_model.specs.declared.call.StoreRef.{StoreRef}
use Rattle.forest_model.specs.declared.refusal.Refusal.{Refusal}
use Rattle.forest_model.specs.declared.refusal.Refusal.TheVariants.{ReadOnly, NameForm, NoStore, Worn, StoreCount}
use Rattle.forest_model.specs.declared.stored.Rec.{Rec}
use Rattle.kvs_names.specs.Answers.{remove_causes as why_not_removed}
use Rattle.kvs_names.specs.Table.{Table, row_named, with_new, without}
use Rattle.wal_index.specs.Live.{own_live}
use Rattle.file_parts.specs.Held.{Held}
use Rattle.file_parts.specs.Causes.{blocks_needed, full_cause, OnlyMemory}
use Rattle.file_parts.specs.Moment.{Moment}
use Rattle.file_parts.specs.Records.{PutsRecord, NotPut}

-- the record that makes a store
abbrev pub new_of : ℕ → List ℕ → Rec
new_of id name = record { kind = 3; store = id; seq = 0; key = name; meta = []; body = [] }

-- the record that removes one
abbrev pub gone_of : ℕ → Rec
gone_of id = record { kind = 4; store = id; seq = 0; key = []; meta = []; body = [] }

-- ---- a store is opened

-- the id of a name in a table
abbrev pub id_named : Table → List ℕ → Option ℕ
id_named t name = option_map (λ r. r.id) (row_named t.rows name)

-- why a store of an absent name isn't made
abbrev pub make_causes : Held → List ℕ → Bool → List (Option Refusal)
make_causes p name read_only =
    (NoStore where_holds read_only) ∷ (Worn where_holds any_worn (p.names.next ∷ (p.place + 1) ∷ []))
    ∷ (StoreCount where_holds nat_le 64 (length p.names.rows)) ∷ full_cause p (blocks_needed p name [] []) ∷ []

-- why a store isn't opened: one that is there always is
abbrev pub open_causes : Held → List ℕ → Bool → List (Option Refusal)
open_causes p name read_only =
    (NameForm where_holds not (is_name name))
    ∷ option_map_or (λ id. None) (id_named p.names name) (first_cause (make_causes p name read_only)) ∷ []

-- what the making of a store leaves
pub record MakesStore (told : Bool) (name : List ℕ) (old new : Moment) : Type 0 where
  pub puts : PutsRecord told (new_of old.held.names.next name) old new
  pub rest : new.held ≡ record old.held {
    blocks = new.held.tail.number;
    names = with_new old.held.names name;
    tail = new.held.tail;
    loose = length new.held.tail.bytes;
    place = old.held.place + 1;
  }

-- what a store that isn't there gives
abbrev pub MakeGives : Bool → List ℕ → Moment → Moment → Result ℕ Refusal → Type 0
MakeGives told name old new result = MatchResult result (λ id. (id ≡ old.held.names.next) × MakesStore told name old new) (NotPut old new)

-- what the opening gives that has no cause to be refused, of a name with this id
abbrev pub OpenGives : Bool → List ℕ → Bool → Moment → Moment → Option ℕ → Result StoreRef Refusal → Type 0
OpenGives told name read_only old new None result =
    MatchResult result (λ at. (at ≡ record { store = old.held.names.next; read_only = false }) × MakesStore told name old new) (NotPut old new)
OpenGives told name read_only old new (Some id) result = (result ≡ Ok (record { store = id; read_only = read_only })) × OnlyMemory old new

abbrev pub OpenAnswers : Bool → List ℕ → Bool → Moment → Moment → Result StoreRef Refusal → Type 0
OpenAnswers told name read_only old new result = MatchOption (first_cause (open_causes old.held name read_only))
    (OpenGives told name read_only old new (id_named old.held.names name) result)
    (λ why. (result ≡ Err why) × OnlyMemory old new)

-- ---- a store is removed

-- why a store isn't removed, in the order of refusals
abbrev pub remove_causes : Held → StoreRef → List ℕ → List (Option Refusal)
remove_causes p at name =
    (ReadOnly where_holds at.read_only) ∷ (NameForm where_holds (not (is_name name) || pointwise nat_eq name (codes "default")))
    ∷ (NoStore where_holds is_none (id_named p.names name)) ∷ (Worn where_holds any_worn ((p.place + 1) ∷ []))
    ∷ full_cause p (blocks_needed p [] [] []) ∷ []

-- what the removal of a store leaves
pub record RemovesStore (told : Bool) (id : ℕ) (old new : Moment) : Type 0 where
  pub puts : PutsRecord told (gone_of id) old new
  pub entries : new.held.wal.entries ≡ finite.retain_keys old.held.wal.entries (λ k. not (k.store == id))
  pub gone : new.held.wal.gone ≡ old.held.wal.gone ++ id ∷ []
  pub names : first_cause (why_not_removed old.held.names id) ≡ None → new.held.names ≡ without old.held.names id
  pub rest : new.held ≡ record old.held {
    blocks = new.held.tail.number;
    names = new.held.names;
    wal = new.held.wal;
    tail = new.held.tail;
    loose = length new.held.tail.bytes;
    live = old.held.live - min (own_live id old.held.wal.entries) (2 ^ 64 - 1);
    place = old.held.place + 1;
  }

abbrev pub UnmakeGives : Bool → ℕ → Moment → Moment → Result ℕ Refusal → Type 0
UnmakeGives told id old new result = MatchResult result (λ gone. (gone ≡ id) × RemovesStore told id old new) (NotPut old new)

-- what the removal gives that has no cause to be refused
abbrev pub RemoveGives : Bool → List ℕ → Moment → Moment → Result ℕ Refusal → Type 0
RemoveGives told name old new result =
    MatchResult result (λ id. (id_named old.held.names name ≡ Some id) × RemovesStore told id old new) (NotPut old new)

abbrev pub RemoveAnswers : Bool → StoreRef → List ℕ → Moment → Moment → Result ℕ Refusal → Type 0
RemoveAnswers told at name old new result = MatchOption (first_cause (remove_causes old.held at name))
    (RemoveGives told name old new result)
    (λ why. (result ≡ Err why) × OnlyMemory old new)
