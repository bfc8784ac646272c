-- Why the run of one text stops, by what its parts say.
use Rattle.std.proofs.Common.{◌≡◌, ◌≢◌, ℕ, Bool, List, refl, inl}
use Rattle.std.specs.Prelude.{IsTrue}
use Rattle.play_run.specs.Script.{IsBad, HasSaid}
use Rattle.play_run.specs.Seen.{Seen, BeginsWith}
use Rattle.play_run.specs.Playing.{Position}
use Rattle.play_run.specs.Progress.{IsStop, StopsText}
use Rattle.play_run.specs.declared.player.Ended.{Ended}
use Rattle.play_run.specs.declared.player.Ended.TheVariants.{BadLine, NoMemory, HostFault, SourceFault, AtEnd, Damaged}
use Rattle.play_run.proofs.Runs.{heard_run, broken_run, comes_same}

pub stops_told : (why : Ended) (tells : Bool) (text : List ℕ) (m : Position) (count : ℕ) (before after : Seen) → IsStop tells why → (why ≡ BadLine → IsBad text) → (why ≢ HostFault → IsTrue tells → after ≡ before)
    → (IsTrue tells → after.said ≡ before.said) → (IsTrue tells → BeginsWith before.file after.file) → StopsText why tells text m count before after
stops_told BadLine tells text m count before after stop bad settled silent front = (bad refl, settled (λ e. cc))
stops_told NoMemory tells text m count before after stop bad settled silent front =
    λ base texts plain has. inl (comes_same tells base before after (λ first last. HasSaid first last texts) (heard_run tells base before texts m count has) (settled (λ e. cc)))
stops_told HostFault tells text m count before after stop bad settled silent front = λ base texts plain has. inl (broken_run tells base before texts m count has after silent front)
stops_told AtEnd tells text m count before after stop bad settled silent front = absurd stop
stops_told SourceFault tells text m count before after stop bad settled silent front = absurd stop
stops_told (Damaged file block) tells text m count before after stop bad settled silent front = stop
