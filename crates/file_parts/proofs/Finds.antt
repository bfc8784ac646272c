-- What is found at the address of an entry.
use Rattle.std.proofs.Common.{◌≡◌, ◌⊎◌, ap, inl, inr}
use Rattle.std.specs.Prelude.{Result, Ok, Err}
use Rattle.forest_model.specs.declared.refusal.Refusal.{Refusal}
use Rattle.forest_model.specs.declared.refusal.Refusal.TheVariants.{NoMemory, DiskFault}
use Rattle.forest_model.specs.declared.stored.Entry.{Entry}
use Rattle.forest_model.specs.declared.stored.Rec.{Rec}
use Rattle.file_parts.specs.Lookup.{found_in}

-- the record read is the one that stands at the address
pub same_found : (e : Entry) (a r : Rec) → (◌≡◌ {A = Result Rec Refusal} (Ok a) (Ok r)) ⊎ (◌≡◌ {A = Result Rec Refusal} (Ok a) (Err NoMemory)) ⊎ (◌≡◌ {A = Result Rec Refusal} (Ok a) (Err DiskFault)) → found_in e a ≡ found_in e r
same_found e a r which = elim which [
  | inl same ↦ (let is : a ≡ r = cc in ap (found_in e) is)
  | inr other ↦ elim other [ inl memory ↦ cc | inr fault ↦ cc ]
]
