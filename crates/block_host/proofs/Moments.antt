-- How a run of calls goes on.
use Rattle.std.proofs.Common.{inl, inr, ⊎_elim, subst, sym, ◌≤◌, ℕ, List, arith}
use Rattle.block_host.specs.Disk.{Image, Disk, Lawful, Elapses}
use Rattle.block_host.specs.Moments.{LeavesOnly}

-- before the first call
pub begins : (disk : Disk) (P : Image → List ℕ → Type 0) → Lawful disk → ((image : Image) → disk.may_leave image → P image disk.said) → LeavesOnly disk disk P
begins disk P lawful here = record {
  later = omega arith;
  each = λ image said left. let at_once = lawful.only_now image said left in subst (P image) (sym at_once.1) (here image at_once.0);
  before = λ t image said le left. inl left;
}

-- one call more, while which a crash leaves what has P
pub goes_on : (old mid new : Disk) (P : Image → List ℕ → Type 0) (heard : List ℕ → Type 0) → LeavesOnly old mid P → mid.moment ≤ new.moment → Elapses heard mid new
    → ((image : Image) (said : List ℕ) → new.may_leave image → heard said → P image said) → LeavesOnly old new P
goes_on old mid new P heard so_far clock time here = record {
  later = omega (arith, so_far.later, clock);
  each = λ image said left. ⊎_elim (so_far.each image said) (λ at_once. here image said at_once.0 at_once.1) (time.nothing_else old.moment image said so_far.later left);
  before = λ t image said le left. ⊎_elim (so_far.before t image said le) (λ at_once. inr (here image said at_once.0 at_once.1))
      (time.nothing_else t image said (omega (arith, le, so_far.later)) left);
}

-- a run of calls more, while which a crash leaves what has P
pub goes_on_by : (old mid new : Disk) (P : Image → List ℕ → Type 0) → LeavesOnly old mid P → LeavesOnly mid new P → LeavesOnly old new P
goes_on_by old mid new P first then = record {
  later = omega (arith, first.later, then.later);
  each = λ image said left. ⊎_elim (first.each image said) (λ has. has) (then.before old.moment image said first.later left);
  before = λ t image said le left. ⊎_elim (first.before t image said le) (λ has. inr has) (then.before t image said (omega (arith, le, first.later)) left);
}

-- what has P has Q
pub weakens : (old new : Disk) (P Q : Image → List ℕ → Type 0) → ((image : Image) (said : List ℕ) → P image said → Q image said) → LeavesOnly old new P → LeavesOnly old new Q
weakens old new P Q implies run = record {
  later = run.later;
  each = λ image said left. implies image said (run.each image said left);
  before = λ t image said le left. ⊎_elim (λ had. inl had) (λ has. inr (implies image said has)) (run.before t image said le left);
}
