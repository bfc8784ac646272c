use Rattle.std.proofs.Common.{◌≡◌, ◌+◌, ◌≤◌, List, [], ◌∷◌, ◌++◌, length, take, ℕ, IsTrue, refl, sym, ap, ◌∙◌, rules, le_of_eq, take_all, length-append, length-take-le}
use Rattle.block_host.specs.declared.block.Block.{Block}
use Rattle.block_host.specs.Disk.{risen}
use Rattle.file_pages.specs.Files.{told}
use Rattle.file_pages.proofs.Added.{adds_block, refused_by_host}
use Rattle.file_pages.proofs.Fronts.{KeepsFront, keeps_all, keeps_by_append, keeps_by_cut, keeps_on}
use Rattle.file_pages.proofs.Read.{told_same}
use Rattle.file_pages.proofs.appender.FileAppenderAppender.add.Goals as goal
use Rattle.file_pages.proofs.appender.FileAppenderAppender.add.Goals.{then-self+in-Ok, else-self}

pub returns-in_default-clause-reason : goal.returns-in_default-clause-reason
returns-in_default-clause-reason g c =
    let s = c.args.self.now in
    let d = g.H.Host.disk s.host.now in
    let e = g.H.Host.disk c.cut.new.self in
    let rose : risen (g.H.Host.faults s.host.now) ≤ g.H.Host.faults c.cut.new.self = search rules in
    refused_by_host (s.host.ghost_name, s.view.ghost_name) (s.host.ghost_name, s.view.ghost_name) s.revision
    (told g.H.Host.tells (take s.blocks (d.files s.revision))) (told g.H.Host.tells (take s.blocks (e.files s.revision)))
    (told g.H.View.View.tells (g.H.View.View.content s.view.now)) s.tail.now s.blocks s.most s.max
    (g.H.Host.faults s.host.now) (g.H.Host.faults c.cut.new.self) (g.H.View.View.faults s.view.now) refl
    (told_same g.H.Host.tells (take s.blocks (e.files s.revision)) (take s.blocks (d.files s.revision))
    (λ tells. (keeps_by_cut s.revision s.blocks d e (s.within tells) (c.cut.ensures.told tells).part).front))
    rose

pub returns-in_default-append-clause-reason : goal.returns-in_default-append-clause-reason
returns-in_default-append-clause-reason g c =
    let s = c.args.self.now in
    let d = g.H.Host.disk s.host.now in
    let m = g.H.Host.disk c.if-self.self.1.1.0.now in
    let e = g.H.Host.disk c.append.new.self in
    let name : c.if-self.self.1.1.0.ghost_name ≡ s.host.ghost_name = search rules in
    let rose : risen (g.H.Host.faults s.host.now) ≤ g.H.Host.faults c.append.new.self = search rules in
    let still : IsTrue g.H.Host.tells → KeepsFront s.revision s.blocks (g.H.Host.disk s.host.now) (g.H.Host.disk c.if-self.self.1.1.0.now) =
    elim c.if-self.branch [
      | then-self+in-Ok w ↦ λ tells. rw w.self-is (keeps_by_cut s.revision s.blocks d (g.H.Host.disk w.cut.new.self) (s.within tells) (w.cut.ensures.told tells).part)
      | else-self w ↦ λ tells. rw w.self-is (keeps_all s.revision s.blocks d (s.within tells))
    ] in
    refused_by_host (s.host.ghost_name, s.view.ghost_name) (c.if-self.self.1.1.0.ghost_name, s.view.ghost_name) s.revision
    (told g.H.Host.tells (take s.blocks (d.files s.revision))) (told g.H.Host.tells (take s.blocks (e.files s.revision)))
    (told g.H.View.View.tells (g.H.View.View.content s.view.now)) s.tail.now s.blocks s.most s.max
    (g.H.Host.faults s.host.now) (g.H.Host.faults c.append.new.self) (g.H.View.View.faults s.view.now) (ap (λ (n : ℕ). (n, s.view.ghost_name)) name)
    (told_same g.H.Host.tells (take s.blocks (e.files s.revision)) (take s.blocks (d.files s.revision))
    (λ tells. (keeps_on s.revision s.blocks d m e (still tells)
    (keeps_by_append s.revision s.blocks (c.seal-block.result ∷ []) m e (still tells).within (c.append.ensures.told tells).part)).front))
    rose

pub invariant_of-self-2 : goal.invariant_of-self-2
invariant_of-self-2 g c =
    let s = c.args.self.now in
    let d = g.H.Host.disk s.host.now in
    let mid : IsTrue g.H.Host.tells → (g.H.Host.disk c.if-self.self.1.1.0.now).files s.revision ≡ take s.blocks (d.files s.revision) =
    elim c.if-self.branch [
      | then-self+in-Ok w ↦ λ tells. rw w.self-is ((w.in-Ok.ensures.told tells).done)
      | else-self w ↦ λ tells. rw w.self-is (sym (take_all s.blocks (d.files s.revision) (le_of_eq (s.whole tells w.if-self.false))))
    ] in
    let all : IsTrue g.H.Host.tells → length ((g.H.Host.disk c.append.new.self).files s.revision) ≡ s.blocks + 1 =
    λ tells. ap (λ (b : List Block). length b) ((c.in-Ok-append.ensures.told tells).done) ∙ ap (λ (b : List Block). length (b ++ c.seal-block.result ∷ [])) (mid tells)
    ∙ length-append (take s.blocks (d.files s.revision)) (c.seal-block.result ∷ []) ∙ ap (λ (n : ℕ). n + 1) (length-take-le s.blocks (d.files s.revision) (s.within tells)) in
    record { low = s.low; within = λ tells. le_of_eq (sym (all tells)); whole = λ tells _. all tells }

pub returns-clause-added : goal.returns-clause-added
returns-clause-added g c = λ tells.
    let s = c.args.self.now in
    let d = g.H.Host.disk s.host.now in
    let e = g.H.Host.disk c.append.new.self in
    let name : c.if-self.self.1.1.0.ghost_name ≡ s.host.ghost_name = search rules in
    let mid : (g.H.Host.disk c.if-self.self.1.1.0.now).files s.revision ≡ take s.blocks (d.files s.revision) =
    elim c.if-self.branch [
      | then-self+in-Ok w ↦ rw w.self-is ((w.in-Ok.ensures.told tells).done)
      | else-self w ↦ rw w.self-is (sym (take_all s.blocks (d.files s.revision) (le_of_eq (s.whole tells w.if-self.false))))
    ] in
    adds_block (s.host.ghost_name, s.view.ghost_name) (c.if-self.self.1.1.0.ghost_name, s.view.ghost_name) s.revision g.H.Host.tells (d.files s.revision) (e.files s.revision)
    (told g.H.View.View.tells (g.H.View.View.content s.view.now)) s.tail.now s.blocks s.most s.max c.args.kind c.args.page.now c.seal-block.result
    c.meanings_stay.ensures.still c.blocks_mean_what_is_sealed.ensures.stored c.requires.kind (ap (λ (n : ℕ). (n, s.view.ghost_name)) name) c.requires.paged tells (s.within tells)
    c.seal-block.ensures ((c.in-Ok-append.ensures.told tells).done ∙ ap (λ (b : List Block). b ++ c.seal-block.result ∷ []) mid)
