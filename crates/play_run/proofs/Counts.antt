-- When the counts of faults rise, and when they stand still.
use Rattle.std.proofs.Common.{◌≡◌, ℕ, ◌<◌, ◌≤◌, sym, ap, subst, ◌∙◌, arith, inl, inr}
use Rattle.std.specs.Prelude.{◌⊎◌}
use Rattle.block_host.specs.Disk.{risen}
use Rattle.block_host.specs.declared.fresh.Fresh as Fresh
use Rattle.block_host.specs.declared.host.Host as Host
use Rattle.block_host.specs.declared.view.View as View
use Rattle.file_core.specs.declared.state.FileState.{FileState}
use Rattle.play_run.specs.Progress.{Faults, FaultsAfter}
use Rattle.play_run.specs.declared.player.Ended.{Ended}
use Rattle.play_run.specs.declared.player.Ended.TheVariants.{BadLine, NoMemory, HostFault, SourceFault, AtEnd, Damaged}

-- the same from counts that had stood still
pub faults_from : (why : Ended) (a b a' b' : ℕ) (now : Faults) → a' ≡ a → b' ≡ b → FaultsAfter why (record { host = a'; view = b' }) now → FaultsAfter why (record { host = a; view = b }) now
faults_from why a b a' b' now same_host same_view after =
    subst (λ (n : ℕ). FaultsAfter why (record { host = n; view = b }) now) same_host (subst (λ (n : ℕ). FaultsAfter why (record { host = a'; view = n }) now) same_view after)

pub not_both : (a b : ℕ) → a < b → b ≤ a → ⊥
not_both a b less more = omega (arith, less, more)

-- ---- the counts of a host: a at opening, b with the view's v at the end of the run, c when the file is closed, and d after a last text

up : (a b c d : ℕ) → risen a ≤ b → b ≤ c → c ≤ d → risen a ≤ d
up a b c d rose closed said = omega (arith, rose, closed, said)

up_late : (a b c d : ℕ) → a ≤ b → risen b ≤ c → c ≤ d → risen a ≤ d
up_late a b c d less rose said = omega (arith, less, rose, said)

some_view : (v : ℕ) → risen 0 ≤ v → 1 ≤ v
some_view v rose = omega (arith, rose)

-- the count rose where the run, or what was said at its end, failed
module _ (a a' v' b v c d : ℕ) (same : a' ≡ a) (none : v' ≡ 0) (closed : b ≤ c) (failed : 1 ≤ v → risen b ≤ c) (quiet : v ≡ 0 → c ≡ b) (no_less : c ≤ d) where
  abbrev pub Still : Type 0
  Still = ◌≡◌ {A = Faults} (record { host = b; view = v }) (record { host = a'; view = v' })

  rose_there : (risen a' ≤ b) ⊎ ((a' ≤ b) × (risen v' ≤ v)) → risen a ≤ d
  rose_there (inl rose) = up a b c d (subst (λ (n : ℕ). risen n ≤ b) same rose) closed no_less
  rose_there (inr (less, rose)) = up_late a b c d (subst (λ (n : ℕ). n ≤ b) same less) (failed (some_view v (subst (λ (n : ℕ). risen n ≤ v) none rose))) no_less

  stood : Still → c ≡ a
  stood e = quiet (ap (λ (f : Faults). f.view) e ∙ none) ∙ ap (λ (f : Faults). f.host) e ∙ same

  rose_after : Still → risen c ≤ d → risen a ≤ d
  rose_after e r = subst (λ (n : ℕ). risen n ≤ d) (stood e) r

  abbrev pub FaultsOf : Ended → Type 0
  FaultsOf why = FaultsAfter why (record { host = a'; view = v' }) (record { host = b; view = v })

  late : (why : Ended) → FaultsOf why → risen c ≤ d → risen a ≤ d
  late HostFault f r = rose_there f
  late AtEnd f r = rose_after f r
  late SourceFault f r = rose_after f r
  late BadLine f r = rose_after f r
  late NoMemory f r = rose_after f r
  late (Damaged file block) f r = rose_after f r

  pub rose : (why : Ended) → FaultsOf why → (why ≡ HostFault) ⊎ (risen c ≤ d) → risen a ≤ d
  rose why f (inl is) = rose_there (subst FaultsOf is f)
  rose why f (inr r) = late why f r

-- the same of the files that were opened, run and closed
pub rose_closed : {H V F : Type 0} {h : Host.Ghosts H V F} {v : View.Ghosts V} {f : Fresh.Ghosts F} (faults : H → ℕ) (view : V → ℕ) (first there run closed : FileState H V F h v f) (a c d : ℕ) (why : Ended) → there ≡ first → faults first.parts.host ≡ a → view first.parts.view ≡ 0
    → FaultsAfter why (record { host = faults there.parts.host; view = view there.parts.view }) (record { host = faults run.parts.host; view = view run.parts.view }) → closed ≡ run
    → faults closed.parts.host ≤ c → (1 ≤ view closed.parts.view → risen (faults closed.parts.host) ≤ c) → (view closed.parts.view ≡ 0 → c ≡ faults closed.parts.host) → c ≤ d
    → (why ≡ HostFault) ⊎ (risen c ≤ d) → risen a ≤ d
rose_closed {H} {V} {F} {h} {v} {f} faults view first there run closed a c d why opened same none after close counts failed quiet no_less said =
    rose a (faults there.parts.host) (view there.parts.view) (faults closed.parts.host) (view closed.parts.view) c d (ap (λ (file : FileState H V F h v f). faults file.parts.host) opened ∙ same)
    (ap (λ (file : FileState H V F h v f). view file.parts.view) opened ∙ none) counts failed quiet no_less why
    (subst (λ (file : FileState H V F h v f). FaultsAfter why (record { host = faults there.parts.host; view = view there.parts.view }) (record { host = faults file.parts.host; view = view file.parts.view })) (sym close) after) said
