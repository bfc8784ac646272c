-- A refusal comes exactly by the first thing that is asked and doesn't hold.
use Rattle.std.proofs.Common.{◌≡◌, ℕ, ◌+◌, ◌/◌, ◌&&◌, Bool, true, false, cond, not, List, [], ◌∷◌, length, Option, Some, None, nat_lt, ◌⊎◌, inl, inr, ◌↔◌, refl, sym, ap, subst}
use Rattle.std.specs.Option.{is_none, option_map_or}
use Rattle.std.proofs.lemmas.Bool.{true≢false}
use Rattle.forest_model.specs.Limits.{any_worn}
use Rattle.forest_model.specs.State.{OfStore}
use Rattle.forest_model.specs.Blocks.{File}
use Rattle.forest_model.specs.Step.{Outcome, ◌where_holds◌, first_cause, refused_or}
use Rattle.forest_model.specs.declared.call.Reply.{Reply}
use Rattle.forest_model.specs.declared.call.Reply.TheVariants.{Refused}
use Rattle.forest_model.specs.declared.refusal.Refusal.{Refusal}
use Rattle.forest_model.specs.declared.refusal.Refusal.TheVariants.{FileFull}
use Rattle.forest_model.specs.declared.state.State.{State}
use Rattle.forest_model.specs.declared.state.Store.{Store}
use Rattle.model_laws.specs.Answered.{IsAnswered, MayDraw, TakesBlocks, HasRoom}
use Rattle.model_laws.specs.Refusals.{Asks, AsksRoom}
use Rattle.model_laws.proofs.Conditions.{at_most, store_draws}

-- a reply refuses so
abbrev pub Refuses : Outcome → Refusal → Type 0
Refuses o why = o.0 ≡ Refused why

abbrev refusal_of : Refusal → Reply → Refusal
refusal_of other (Refused why) = why
refusal_of other reply = other

-- one thing is asked
pub asks_one : (r : Refusal) (b : Bool) (P : Type 0) (why : Refusal) (s : State) (o : Outcome) (Rest : Type 0) → (b ≡ false) ↔ P → (b ≡ false → Refuses o why ↔ Rest)
    → Refuses (refused_or (r where_holds b) s o) why ↔ Asks P r why Rest
asks_one r true P why s o Rest is rest = (
  λ e. inl (λ p. true≢false (is.1 p), sym (ap (refusal_of r) e)),
  λ h. elim h [ inl f ↦ ap Refused (sym f.1) | inr p ↦ absurd (true≢false (is.1 p.0)) ],
)
asks_one r false P why s o Rest is rest = (
  λ e. inr (is.0 refl, (rest refl).0 e),
  λ h. elim h [ inl f ↦ absurd (f.0 (is.0 refl)) | inr p ↦ (rest refl).1 p.1 ],
)

-- and then others
pub asks : (r : Refusal) (b : Bool) (causes : List (Option Refusal)) (P : Type 0) (why : Refusal) (s : State) (o : Outcome) (Rest : Type 0) → (b ≡ false) ↔ P
    → (b ≡ false → Refuses (refused_or (first_cause causes) s o) why ↔ Rest) → Refuses (refused_or (first_cause ((r where_holds b) ∷ causes)) s o) why ↔ Asks P r why Rest
asks r true causes P why s o Rest is rest = asks_one r true P why s o Rest is (λ e. absurd (true≢false e))
asks r false causes P why s o Rest is rest = (
  λ e. inr (is.0 refl, (rest refl).0 e),
  λ h. elim h [ inl f ↦ absurd (f.0 (is.0 refl)) | inr p ↦ (rest refl).1 p.1 ],
)

-- an answer refuses nothing
pub never : (o : Outcome) (why : Refusal) → IsAnswered o.0 → Refuses o why ↔ ⊥
never o why h = (λ e. h why (sym e), λ f. absurd f)

-- room for records of so many bytes, spelled in another way
pub asks_room : (s : State) (file : File) (bytes spelled : ℕ) (why : Refusal) (o : Outcome) → bytes ≡ spelled → IsAnswered o.0
    → Refuses (refused_or (FileFull (length file) ((s.loose + bytes) / 4064) s.limits.max_blocks where_holds nat_lt s.limits.max_blocks (length file + (s.loose + bytes) / 4064 + 2)) s o) why
    ↔ AsksRoom s file spelled why
asks_room s file bytes spelled why o e h =
    subst (λ n. Refuses (refused_or (FileFull (length file) ((s.loose + bytes) / 4064) s.limits.max_blocks where_holds nat_lt s.limits.max_blocks (length file + (s.loose + bytes) / 4064 + 2)) s o) why ↔ AsksRoom s file n why) e
    (asks_one (FileFull (length file) ((s.loose + bytes) / 4064) s.limits.max_blocks) _ _ why s o ⊥ (at_most s.limits.max_blocks (length file + (s.loose + bytes) / 4064 + 2)) (λ _. never o why h))

-- the numbers of a store that is there
pub draws_there : (o : Option Store) (n place : ℕ) → is_none o ≡ false
    → (any_worn ((option_map_or (λ st. st.seq) o 0 + n) ∷ place ∷ []) ≡ false) ↔ (OfStore o (λ st. MayDraw (st.seq + n)) × MayDraw place)
draws_there o n place e = (λ w. (store_draws o n place).0 (e, w), λ h. ((store_draws o n place).1 h).1)

-- what is asked only of what isn't there
pub unless : (b c : Bool) (P Q : Type 0) → (b ≡ false) ↔ P → (c ≡ false) ↔ Q → ((b && c) ≡ false) ↔ (P ⊎ Q)
unless true c P Q p q = (λ e. inr (q.0 e), λ h. elim h [ inl a ↦ absurd (true≢false (p.1 a)) | inr a ↦ q.1 a ])
unless false c P Q p q = (λ e. inl (p.0 refl), λ h. refl)

pub itself : (b : Bool) → (b ≡ false) ↔ (b ≡ false)
itself b = (λ e. e, λ e. e)

pub unless_so : (b c : Bool) (P Q : Type 0) → (b ≡ true → P) × (P → b ≡ true) → (c ≡ false) ↔ Q → ((not b && c) ≡ false) ↔ (P ⊎ Q)
unless_so true c P Q p q = (λ e. inl (p.0 refl), λ h. refl)
unless_so false c P Q p q = (λ e. inr (q.0 e), λ h. elim h [ inl a ↦ absurd (true≢false (sym (p.1 a))) | inr a ↦ q.1 a ])

-- room is asked only where something is written
abbrev blocks_refused : State → File → ℕ → Option Refusal
blocks_refused s file n = FileFull (length file) n s.limits.max_blocks where_holds nat_lt s.limits.max_blocks (length file + n + 2)

pub copies_unless : (s : State) (file : File) (blocks : ℕ) (why : Refusal) (b : Bool) (P : Type 0) → (b ≡ true → P) × (P → b ≡ true) → (o : Outcome) → IsAnswered o.0
    → Refuses (refused_or (option_map_or (blocks_refused s file) (cond b None (Some blocks)) None) s o) why
    ↔ Asks (P ⊎ TakesBlocks s file blocks) (FileFull (length file) blocks s.limits.max_blocks) why ⊥
copies_unless s file blocks why true P p o h = (λ e. absurd (h why (sym e)), λ f. elim f [ inl n ↦ absurd (n.0 (inl (p.0 refl))) | inr n ↦ absurd n.1 ])
copies_unless s file blocks why false P p o h =
    asks_one (FileFull (length file) blocks s.limits.max_blocks) (nat_lt s.limits.max_blocks (length file + blocks + 2)) _ why s o ⊥ (
      λ e. inr ((at_most s.limits.max_blocks (length file + blocks + 2)).0 e),
      λ h. elim h [ inl a ↦ absurd (true≢false (sym (p.1 a))) | inr r ↦ (at_most s.limits.max_blocks (length file + blocks + 2)).1 r ],
    )
    (λ _. never o why h)

pub room_unless : (s : State) (file : File) (bytes spelled : ℕ) (why : Refusal) (b : Bool) (P : Type 0) → (b ≡ false) ↔ P → (o : Outcome) → bytes ≡ spelled → IsAnswered o.0
    → Refuses (refused_or (option_map_or (blocks_refused s file) (cond b (Some ((s.loose + bytes) / 4064)) None) None) s o) why
    ↔ Asks (P ⊎ HasRoom s file spelled) (FileFull (length file) ((s.loose + spelled) / 4064) s.limits.max_blocks) why ⊥
room_unless s file bytes spelled why true P p o e h =
    subst (λ n. Refuses (refused_or (blocks_refused s file ((s.loose + bytes) / 4064)) s o) why ↔ Asks (P ⊎ HasRoom s file n) (FileFull (length file) ((s.loose + n) / 4064) s.limits.max_blocks) why ⊥) e
    (asks_one (FileFull (length file) ((s.loose + bytes) / 4064) s.limits.max_blocks) (nat_lt s.limits.max_blocks (length file + (s.loose + bytes) / 4064 + 2)) _ why s o ⊥ (
      λ f. inr ((at_most s.limits.max_blocks (length file + (s.loose + bytes) / 4064 + 2)).0 f),
      λ g. elim g [ inl a ↦ absurd (true≢false (p.1 a)) | inr r ↦ (at_most s.limits.max_blocks (length file + (s.loose + bytes) / 4064 + 2)).1 r ],
    )
    (λ _. never o why h))
room_unless s file bytes spelled why false P p o e h = (λ f. absurd (h why (sym f)), λ g. elim g [ inl n ↦ absurd (n.0 (inl (p.0 refl))) | inr n ↦ absurd n.1 ])
