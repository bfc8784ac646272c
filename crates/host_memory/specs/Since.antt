-- What the states that something has had might have left.
use Rattle.std.specs.Prelude.{◌⊎◌, ◌<◌, ◌≤◌, ℕ, List, [], ◌∷◌, length}
use Rattle.std.proofs.Common.{inl, inr, arith}
use Rattle.block_host.specs.Disk.{Image}

-- one of the states from moment t on shows this image, with these bytes said; the newest state stands first
abbrev pub Since : {S : Type 0} → (S → Image → List ℕ → Type 0) → List S → ℕ → Image → List ℕ → Type 0
Since shows [] t image said = ⊥
Since shows (state ∷ past) t image said = ((t ≤ length past) × shows state image said) ⊎ Since shows past t image said

pub Since-below : {S : Type 0} (shows : S → Image → List ℕ → Type 0) (past : List S) (t : ℕ) (image : Image) (said : List ℕ) → Since shows past t image said → t < length past
Since-below shows [] t image said had = absurd had
Since-below shows (state ∷ past) t image said (inl had) = let le : t ≤ length past = had.0 in omega arith
Since-below shows (state ∷ past) t image said (inr had) = let lt : t < length past = Since-below shows past t image said had in omega arith

pub Since-earlier : {S : Type 0} (shows : S → Image → List ℕ → Type 0) (past : List S) (t u : ℕ) (image : Image) (said : List ℕ) → t ≤ u → Since shows past u image said → Since shows past t image said
Since-earlier shows [] t u image said le had = had
Since-earlier shows (state ∷ past) t u image said le (inl had) = inl ((let here : u ≤ length past = had.0 in omega arith), had.1)
Since-earlier shows (state ∷ past) t u image said le (inr had) = inr (Since-earlier shows past t u image said le had)
