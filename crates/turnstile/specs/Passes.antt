-- What callers see of a turnstile and of its passes.
use Rattle.std.specs.Prelude.{◌≡◌, ℕ, [], ◌∷◌, Option, Some, None}
use Rattle.forest_model.specs.declared.held.Deed.{Deed}
use Rattle.forest_model.specs.declared.held.Notes.{Notes}
use Rattle.turnstile.specs.declared.berth.Berth.{Berth}
use Rattle.turnstile.specs.declared.pass.Pass.{Pass}
use Rattle.turnstile.specs.declared.turnstile.Turnstile.{Turnstile}

module _ {T : Type 0} where
  -- the value at place 0
  abbrev pub first_of : Turnstile T → T
  first_of t = t.table.shared.key.value

  abbrev pub IsPassOf : Turnstile T → Pass T → Type 0
  IsPassOf t p = (p.seat.table_id ≡ t.table.shared.table_id) × (p.seat.me.0.first ≡ Some (first_of t))

  abbrev pub notes_of : Pass T → Notes
  notes_of p = p.seat.me.0.notes

  abbrev pub shares_of : Pass T → ℕ
  shares_of p = p.seat.me.0.notes.shares

  -- the value that it has taken and not put back
  abbrev pub taken_of : Pass T → Option T
  taken_of p = p.seat.me.0.taken

  abbrev pub OfTaken : Option T → (T → Type 0) → Type 0
  OfTaken None P = ⊥
  OfTaken (Some taken) P = P taken

  -- the slot is out with the pass, and has this value or none
  abbrev pub HasSlot : Pass T → Option T → Type 0
  HasSlot p value = (berth : Berth T) × (berth.value ≡ value) × (p.seat.me.1 ≡ (0, berth) ∷ [])

  -- the slot is out with the pass, and has this value after this deed
  abbrev pub HasFilled : Pass T → T → Deed → Type 0
  HasFilled p value deed = (berth : Berth T) × (berth.value ≡ Some value) × (berth.deed.items ≡ deed ∷ []) × (p.seat.me.1 ≡ (0, berth) ∷ [])

  abbrev pub IsOutside : Pass T → Type 0
  IsOutside p = (taken_of p ≡ None) × (p.seat.me.1 ≡ [])

  -- it has entered, took this value and hasn't put one back
  abbrev pub IsInside : Pass T → T → Type 0
  IsInside p taken = (taken_of p ≡ Some taken) × HasSlot p None
