-- How the program ends.
use Rattle.std.specs.Prelude.{◌≡◌, ◌≢◌, ◌≤◌, ◌⊎◌, ◌↔◌, ℕ, Bool, false, IsTrue}

-- The status with which the program ends, by that of its run, whether what was said was written, and how often the host was short
-- of memory: 5 exactly where the run ended so and all was written, or where the host or the writing failed and the host was
-- short; 4 exactly where one of them failed and it was not; else it is the run's.
pub record EndsAs (status : ℕ) (written : Bool) (short result : ℕ) : Type 0 where
  pub memory : (result ≡ 5) ↔ (((status ≡ 5) × IsTrue written) ⊎ (((status ≡ 4) ⊎ (written ≡ false)) × (1 ≤ short)))
  pub fault : (result ≡ 4) ↔ (((status ≡ 4) ⊎ (written ≡ false)) × (short ≡ 0))
  pub passed : status ≢ 4 → IsTrue written → result ≡ status
